use Rattle.std.proofs.Common.{rules, sym, ap, ◌∙◌, [], option_map, None, Ok}
use Rattle.std.proofs.lemmas.List.{append-nil}
use Rattle.std.specs.List.{slice_split}
use Rattle.expr_tree.specs.Trees.{syntax, syntax_of_trees}
use Rattle.def_entry.specs.Outcomes.{entry_tree}
use Rattle.def_entry.specs.EntryReading.{entry_trees, is_entry_semicolon}
use Rattle.def_entry.specs.LineViews.{seen_entry_text_pair}
use Rattle.def_entry.proofs.CutParts.{entry_parts-some, cut_entry_text_is_shorter, entry_parts-none}
use Rattle.def_entry.proofs.Parts.{joined, entry_fault_of_part, entry_trees-more, entry_trees-fault}
use Rattle.def_entry.proofs.list.part_trees.Goals as goal

pub loop-part-smaller : goal.loop-part-smaller
loop-part-smaller c =
    cut_entry_text_is_shorter 59 c.loop-part.rest.now c.in-Some.part.now c.in-Some.behind.now
    (sym c.cut_at.ensures ∙ ap (option_map seen_entry_text_pair) c.in-Some.is)

pub loop-part-preserved : goal.loop-part-preserved
loop-part-preserved c =
    sym
    (entry_trees-more (syntax_of_trees c.loop-part.trees) (syntax_of_trees c.push.new.self)
    (syntax c.in_ok-tree.tree) c.in-Some.part.now c.trim.result.now
    (slice_split is_entry_semicolon c.in-Some.behind.now) c.trim.ensures (c.in_ok-tree.ensures {u = tt})
    ((c.in_ok-push.ensures {u = tt}).ok))
    ∙ ap (λ parts. joined (syntax_of_trees c.loop-part.trees) (entry_trees parts))
    (sym (entry_parts-some 59 c.loop-part.rest.now c.in-Some.part.now c.in-Some.behind.now
    (sym c.cut_at.ensures ∙ ap (option_map seen_entry_text_pair) c.in-Some.is)))
    ∙ c.loop-part.invariant

pub returns-in_err-tree : goal.returns-in_err-tree
returns-in_err-tree c =
    let fault = entry_fault_of_part c.in_err-tree.field-0.0 (entry_tree None c.trim.result.now)
    (entry_trees (slice_split is_entry_semicolon c.args.text.now))
    (λ said. sym c.loop-part.invariant
    ∙ ap (λ parts. joined (syntax_of_trees c.loop-part.trees) (entry_trees parts))
    (entry_parts-some 59 c.loop-part.rest.now c.in-Some.part.now c.in-Some.behind.now
    (sym c.cut_at.ensures ∙ ap (option_map seen_entry_text_pair) c.in-Some.is))
    ∙ entry_trees-fault (syntax_of_trees c.loop-part.trees) c.in-Some.part.now c.trim.result.now
    (slice_split is_entry_semicolon c.in-Some.behind.now) c.in_err-tree.field-0.0 c.trim.ensures said)
    (c.in_err-tree.ensures {u = tt}) in
    search rules

pub returns-in_err-last : goal.returns-in_err-last
returns-in_err-last c =
    let fault = entry_fault_of_part c.in_err-last.field-0.0 (entry_tree None c.trim-2.result.now)
    (entry_trees (slice_split is_entry_semicolon c.args.text.now))
    (λ said. sym c.loop-part.invariant
    ∙ ap (λ parts. joined (syntax_of_trees c.loop-part.trees) (entry_trees parts))
    (entry_parts-none 59 c.loop-part.rest.now
    (sym c.cut_at.ensures ∙ ap (option_map seen_entry_text_pair) c.in_default.is))
    ∙ entry_trees-fault (syntax_of_trees c.loop-part.trees) c.loop-part.rest.now c.trim-2.result.now []
    c.in_err-last.field-0.0
    c.trim-2.ensures said)
    (c.in_err-last.ensures {u = tt}) in
    search rules

pub returns : goal.returns
returns c =
    sym c.loop-part.invariant
    ∙ ap (λ parts. joined (syntax_of_trees c.loop-part.trees) (entry_trees parts))
    (entry_parts-none 59 c.loop-part.rest.now
    (sym c.cut_at.ensures ∙ ap (option_map seen_entry_text_pair) c.in_default.is))
    ∙ entry_trees-more (syntax_of_trees c.loop-part.trees) (syntax_of_trees c.push-2.new.self)
    (syntax c.in_ok-last.last) c.loop-part.rest.now c.trim-2.result.now
    [] c.trim-2.ensures (c.in_ok-last.ensures {u = tt}) ((c.in_ok-push-2.ensures {u = tt}).ok)
    ∙ ap Ok (append-nil (syntax_of_trees c.push-2.new.self))
