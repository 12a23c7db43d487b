use Rattle.std.proofs.Common.{◌++◌, ◌<◌, length, sym, ap, ◌∙◌, arith}
use Rattle.std.proofs.lemmas.List.{append-nil, drop_all}
use Rattle.deck_lines.specs.Names.{key_number_names_of_kind}
use Rattle.deck.specs.Numbers.{deck_keys_where, is_entry_changed_by_edit}
use Rattle.deck.proofs.KeysByNumber.{deck_keys_where_step}
use Rattle.deck.proofs.places.changes.push_changed.Goals as goal

pub loop-number-preserved : goal.loop-number-preserved
loop-number-preserved c =
    let names = c.args.edited.now.names in
    let within : c.loop-number.number < length (key_number_names_of_kind names c.args.kind) =
    omega (arith, c.loop-number-test.true, c.name_count-number-end.ensures.count) in
    deck_keys_where_step (is_entry_changed_by_edit c.args.edited.now c.args.before.now c.args.after.now) names
    c.args.kind c.loop-number.number
    c.loop-number.keys c.push_if_changed.new.keys _ within
    c.loop-number.invariant c.in_ok-push_if_changed.ensures

pub returns-clause-keys : goal.returns-clause-keys
returns-clause-keys c =
    let names = key_number_names_of_kind c.args.edited.now.names c.args.kind in
    let test = is_entry_changed_by_edit c.args.edited.now c.args.before.now c.args.after.now in
    sym (append-nil c.loop-number.keys)
    ∙ ap (λ ns. c.loop-number.keys ++ deck_keys_where test c.args.kind c.loop-number.number ns)
    (sym (drop_all c.loop-number.number names
    (omega (arith, c.loop-number-test.false, c.name_count-number-end.ensures.count))))
    ∙ c.loop-number.invariant
