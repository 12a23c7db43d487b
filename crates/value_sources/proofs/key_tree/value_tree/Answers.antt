use Rattle.std.proofs.Common.{◌≡◌, ℕ, List, IfOk, Option, Some, ap, option_map, subst, sym, ◌∙◌}
use Rattle.expr_tree.specs.Syntax.{Syntax}
use Rattle.expr_tree.specs.Trees.{syntax}
use Rattle.def_entry.specs.Keys.{key}
use Rattle.def_entry.specs.Tables.{entry_at}
use Rattle.def_entry.specs.Views.{entry_view}
use Rattle.deck.specs.Tables.{table_of_deck}
use Rattle.value_sources.specs.Values.{source_syntax_by}
use Rattle.value_sources.proofs.key_tree.value_tree.Goals as goal

pub returns-in-Some : goal.returns-in-Some
returns-in-Some c =
    let t = table_of_deck c.args.deck.now in
    let k = c.args.key.now in
    let there : entry_at t k ≡ Some (entry_view c.in-Some.entry) =
    ap (λ (w : List ℕ). entry_at t (key k.kind w)) (sym c.as_bytes.ensures)
    ∙ (sym c.entry.ensures ∙ ap (option_map entry_view) c.in-Some.is) in
    subst (λ (s : Option Syntax). IfOk c.tree_in.result (λ tree. option_map syntax tree ≡ s))
    (sym (ap (source_syntax_by k.kind k.name) there)) c.tree_in.ensures
