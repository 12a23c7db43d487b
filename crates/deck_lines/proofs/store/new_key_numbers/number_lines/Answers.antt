use Rattle.std.proofs.Common.{◌<◌, arith, ap, length, map, subst, ◌∙◌}
use Rattle.std.proofs.lemmas.List.{take_all}
use Rattle.deck_lines.specs.Loads.{key_numbers_by_definitions}
use Rattle.deck_lines.specs.Names.{no_key_number_names}
use Rattle.deck_lines.specs.NumberedKeys.{key_number_names_in}
use Rattle.deck_lines.specs.Readings.{entry_in_store_line}
use Rattle.deck_lines.specs.Renumberings.{AreKeyNumbersOfLines}
use Rattle.deck_lines.proofs.RenumberedKeys.{names_more, numbers_more, unique_more}
use Rattle.deck_lines.proofs.store.new_key_numbers.number_lines.Goals as goal

pub loop-place-preserved : goal.loop-place-preserved
loop-place-preserved c =
    let lines = c.args.store.now.lines in
    let i = c.loop-place.place in
    let was = key_number_names_in c.loop-place.keys in
    let now = key_number_names_in c.number_line.new.keys in
    let inside : i < length lines = omega (arith, c.loop-place-test.true, c.len-place-end.ensures.count) in
    record {
      names = names_more was now lines i inside c.in_ok-number.ensures.names c.loop-place.invariant.names;
      each =
          numbers_more was now lines i inside c.in_ok-number.ensures.names c.loop-place.of_lines.items _
          c.in_ok-number.number c.in_ok-push.ensures.items c.in_ok-number.ensures.number c.loop-place.invariant.each;
      unique = unique_more was now lines i inside c.in_ok-number.ensures.names c.loop-place.invariant.unique;
    }

pub returns-clause-names : goal.returns-clause-names
returns-clause-names c =
    c.loop-place.invariant.names
    ∙ ap (key_numbers_by_definitions no_key_number_names)
    (take_all c.loop-place.place c.args.store.now.lines
    (omega (arith, c.loop-place-test.false, c.len-place-end.ensures.count)))

pub returns-clause-each : goal.returns-clause-each
returns-clause-each c =
    subst (λ ls. AreKeyNumbersOfLines (key_number_names_in c.loop-place.keys) c.loop-place.of_lines.items
    (map entry_in_store_line ls))
    (take_all c.loop-place.place c.args.store.now.lines
    (omega (arith, c.loop-place-test.false, c.len-place-end.ensures.count)))
    c.loop-place.invariant.each
