use Rattle.std.proofs.Common.{◌≡◌, ◌++◌, List, sym, ap, subst, ◌∙◌}
use Rattle.def_entry.specs.declared.key.Key.{Key}
use Rattle.def_entry.specs.declared.key.Kind.{Kind}
use Rattle.def_entry.specs.declared.key.Kind.TheVariants as kind
use Rattle.deck_lines.specs.Names.{key_number_names_of_kind}
use Rattle.deck.specs.Changes.{IsDeckTableChange}
use Rattle.deck.specs.Numbers.{deck_keys_where, is_entry_changed_by_edit}
use Rattle.deck.specs.Tables.{table_of_deck_definitions}
use Rattle.deck.proofs.ChangedKeys.{edit_changes_numbered_keys}
use Rattle.deck.proofs.DistinctKeys.{four_lists}
use Rattle.deck.proofs.places.changes.keys_between.Goals as goal

pub returns : goal.returns
returns c = λ ds es placed put was is_last.
    let changed : Kind
    → List Key = λ k. deck_keys_where (is_entry_changed_by_edit c.args.edited.now c.args.before.now c.args.after.now) k
    0
    (key_number_names_of_kind c.args.edited.now.names k) in
    let keys : c.push_changed-4.new.keys ≡ ((changed kind.Unit ++ changed kind.Prefix) ++ changed kind.Func)
    ++ changed kind.List =
    c.in_ok-push_changed-4.ensures.keys
    ∙ ap (λ ks. ks ++ changed kind.List)
    (c.in_ok-push_changed-3.ensures.keys ∙ ap (λ ks. ks ++ changed kind.Func) (c.in_ok-push_changed-2.ensures.keys
    ∙ ap (λ ks. ks ++ changed kind.Prefix)
    (c.in_ok-push_changed.ensures.keys ∙ ap (λ ks. ks ++ changed kind.Unit) c.new-keys.ensures))) in
    subst (IsDeckTableChange (table_of_deck_definitions ds) (table_of_deck_definitions es))
    (sym (keys ∙ four_lists (changed kind.Unit) (changed kind.Prefix) (changed kind.Func) (changed kind.List)))
    (edit_changes_numbered_keys c.same_text_law.ensures c.args.edited.now c.in_ok-push_changed.ensures.numbering_before
    c.in_ok-push_changed.ensures.numbering_after c.args.before.now c.args.after.now ds es placed put was is_last)
