use Rattle.std.proofs.Common.{◌≡◌, ◌++◌, ◌+◌, ◌<◌, ◌≤◌, [], Bool, List, ℕ, Some, false, length, get_or, take, sym, ap}
use Rattle.std.proofs.Common.{subst, ◌∙◌, arith}
use Rattle.std.proofs.lemmas.List.{take_all, take_more}
use Rattle.std.proofs.lemmas.Option.{slice_get-get_or}
use Rattle.std.specs.Option.{option_and_then}
use Rattle.deck_lines.specs.Marks.{plain_store_line}
use Rattle.deck_lines.specs.Readings.{entry_in_store_line}
use Rattle.deck_lines.specs.Stores.{store_definition_at}
use Rattle.deck_lines.specs.declared.line.DeckLine.{DeckLine}
use Rattle.deck.specs.CoveredLines.{MayCoverDefinitions}
use Rattle.deck.specs.LastPlaces.{AreLastDefinitionPlaces}
use Rattle.deck.specs.Tables.{DeckDefinitions, active_definitions_among, definition_of_active_line}
use Rattle.deck.proofs.KnownCover.{may_cover_definitions_step}
use Rattle.deck.proofs.LastPlaceSteps.{active_definitions_among_step}
use Rattle.deck.proofs.places.covered_pass.covered_lines_among.Goals as goal

pub loop-place-preserved : goal.loop-place-preserved
loop-place-preserved c =
    let lines = c.args.edited.now.new_lines in
    let flags = c.args.flags.now in
    let i = c.loop-place.place in
    let x : DeckLine = get_or lines i (plain_store_line 0 []) in
    let f : Bool = get_or flags i false in
    let inside : i < length flags = omega (arith, c.loop-place-test.true) in
    let within : i < length lines = omega (arith, c.loop-place-test.true, c.requires) in
    let before : DeckDefinitions = active_definitions_among (take i flags) (take i lines) in
    let there : store_definition_at lines i ≡ entry_in_store_line x =
    ap (option_and_then entry_in_store_line) (slice_get-get_or lines i (plain_store_line 0 []) within) in
    let after : active_definitions_among (take (i + 1) flags) (take (i + 1) lines) ≡ definition_of_active_line i f
    (entry_in_store_line x) ++ before =
    active_definitions_among_step flags lines i f x c.requires within (take_more flags i false inside)
    (take_more lines i (plain_store_line 0 []) within) in
    record {
      room = c.note_line.ensures.room;
      last = subst (λ (ds : DeckDefinitions). AreLastDefinitionPlaces c.args.edited.now.names ds c.note_line.new.last)
          (ap (λ o. definition_of_active_line i f o ++ before) there ∙ sym after)
          (c.note_line.ensures.last before c.loop-place.invariant.last);
      covers = subst (λ (ds : DeckDefinitions). MayCoverDefinitions (i + 1) ds (Some c.push.new.self)) (sym after)
          (may_cover_definitions_step i before c.loop-place.covered c.push.new.self f (entry_in_store_line x)
          c.covered_place-over.result
          c.loop-place.invariant.covers c.in_ok-push.ensures
          (λ k e active is. c.covered_place-over.ensures before k e c.loop-place.invariant.last active (there ∙ is)));
    }

pub returns : goal.returns
returns c =
    let lines = c.args.edited.now.new_lines in
    let flags = c.args.flags.now in
    let i = c.loop-place.place in
    let all : length flags ≤ i = omega (arith, c.loop-place-test.false) in
    let end : i ≡ length lines = omega (arith, all, c.requires, c.loop-place.auto.place-end) in
    subst (λ n. MayCoverDefinitions n (active_definitions_among flags lines) (Some c.loop-place.covered)) end
    (subst (λ fs. MayCoverDefinitions i (active_definitions_among fs lines) (Some c.loop-place.covered))
    (take_all i flags all)
    (subst (λ ls. MayCoverDefinitions i (active_definitions_among (take i flags) ls) (Some c.loop-place.covered))
    (take_all i lines (omega (arith, all, c.requires))) c.loop-place.invariant.covers))
