use Rattle.std.proofs.Common.{◌≡◌, ◌++◌, ◌<◌, [], Bool, false, length, get_or, take, sym, ap, subst, ◌∙◌, arith}
use Rattle.std.proofs.lemmas.List.{take_more}
use Rattle.std.proofs.lemmas.Option.{slice_get-get_or}
use Rattle.std.specs.Option.{option_and_then}
use Rattle.deck_lines.specs.Marks.{plain_store_line}
use Rattle.deck_lines.specs.Readings.{entry_in_store_line}
use Rattle.deck_lines.specs.Stores.{store_definition_at}
use Rattle.deck_lines.specs.declared.line.DeckLine.{DeckLine}
use Rattle.deck.specs.LastPlaces.{AreLastDefinitionPlaces}
use Rattle.deck.specs.Tables.{DeckDefinitions, active_definitions_among, definition_of_active_line}
use Rattle.deck.proofs.LastPlaceSteps.{active_definitions_among_step}
use Rattle.deck.proofs.places.last_places.LastPlaces.note_lines.Goals as goal

pub loop-place-preserved : goal.loop-place-preserved
loop-place-preserved c =
    let lines = c.args.edited.now.new_lines in
    let i = c.loop-place.place in
    let x : DeckLine = get_or lines i (plain_store_line 0 []) in
    let f : Bool = get_or c.args.flags.now i false in
    let inside : i < length c.args.flags.now = omega (arith, c.loop-place-test.true) in
    let within : i < length lines = omega (arith, c.loop-place-test.true, c.requires.flags) in
    let before : DeckDefinitions = active_definitions_among (take i c.args.flags.now) (take i lines) in
    let there : store_definition_at lines i ≡ entry_in_store_line x =
    ap (option_and_then entry_in_store_line) (slice_get-get_or lines i (plain_store_line 0 []) within) in (
      c.note_line.ensures.room,
      subst (λ (ds : DeckDefinitions). AreLastDefinitionPlaces c.args.edited.now.names ds c.note_line.new.last)
          (ap (λ o. definition_of_active_line i f o ++ before) there
          ∙ sym (active_definitions_among_step c.args.flags.now lines i f x c.requires.flags within
          (take_more c.args.flags.now i false inside)
          (take_more lines i (plain_store_line 0 []) within)))
          (c.note_line.ensures.last before c.loop-place.invariant.1),
    )
