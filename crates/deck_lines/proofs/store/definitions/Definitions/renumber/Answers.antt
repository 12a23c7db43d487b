use Rattle.std.proofs.Common.{◌≡◌, ap, arith, length, subst, sym, ◌∙◌}
use Rattle.deck_lines.specs.StoredDefinitions.{IsStoreDefined, key_numbered_definitions}
use Rattle.deck_lines.specs.NumberedKeys.{key_number_names_in}
use Rattle.deck_lines.specs.Renumberings.{key_number_names_after}
use Rattle.deck_lines.proofs.RenumberedKeys.{defined_numbered, length-key_numbered_definitions}
use Rattle.deck_lines.proofs.RenumberedKeys.{renumbered_keys_written_back}
use Rattle.deck_lines.proofs.store.definitions.Definitions.renumber.Goals as goal

pub returns-clause-lines : goal.returns-clause-lines
returns-clause-lines c = λ said are numbered.
    let d = c.args.self.now in
    let r = c.args.numbers in
    let items = c.take_items-items.result in
    let now : c.set_numbers.new.definitions ≡ key_numbered_definitions r.of_lines.items items.items =
    c.set_numbers.ensures ∙ ap (λ ns. key_numbered_definitions ns c.as_mut_slice.result.now) c.as_slice.ensures.value
    ∙ ap (key_numbered_definitions r.of_lines.items) c.as_mut_slice.ensures.value in
    subst (λ ds. IsStoreDefined (key_number_names_after r) ds said)
    (sym (c.from.ensures ∙ renumbered_keys_written_back items.len items.items c.set_numbers.new.definitions
    (ap length now ∙ length-key_numbered_definitions r.of_lines.items items.items) (omega (arith, items.ok.0)) ∙ now
    ∙ ap (key_numbered_definitions r.of_lines.items) c.take_items-items.ensures.items))
    (defined_numbered (key_number_names_in d.keys) (key_number_names_after r) r.of_lines.items d.of_lines.listed said
    are numbered)
