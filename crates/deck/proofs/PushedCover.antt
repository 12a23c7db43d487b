-- The covered lines when a line is appended or the last one is removed.
use Rattle.std.proofs.Common.{◌≡◌, ◌++◌, ◌∷◌, ◌+◌, [], ℕ, List, length, length-append, sym, subst, Option, Some}
use Rattle.def_entry.specs.Entries.{Entry}
use Rattle.def_entry.specs.declared.key.Key.{Key}
use Rattle.deck_lines.specs.ClosedBlocks.{AreBlocksClosed}
use Rattle.deck_lines.specs.Readings.{entry_in_store_line}
use Rattle.deck_lines.specs.Stores.{LineStoreView, store_with_line}
use Rattle.deck_lines.specs.declared.line.DeckLine.{DeckLine}
use Rattle.deck.specs.CoveredLines.{MayCoverDefinitions}
use Rattle.deck.specs.Tables.{DeckDefinitions, active_definitions, definition_place_of}
use Rattle.deck.specs.declared.settings.Settings.{Settings}
use Rattle.deck.proofs.PushedLine.{placed_push}

-- known covered places, after one more line that defines a key
pub may_cover_definitions_pushed : (settings : Settings) (store new : LineStoreView) (x : DeckLine) (k : Key)
    (e : Entry)
    (covered rest : Option (List (Option ℕ))) (over : Option ℕ) → AreBlocksClosed store.lines
    → entry_in_store_line x ≡ Some (k, e) → new ≡ store_with_line store x
    → ((count : ℕ) (ds : DeckDefinitions) (j : Key) (f : Entry) → MayCoverDefinitions count ds covered
    → over ≡ definition_place_of ds j
    → MayCoverDefinitions (count + 1) ((j, (count, f)) ∷ ds) rest)
    → MayCoverDefinitions (length store.lines) (active_definitions settings store.lines) covered
    → over ≡ definition_place_of (active_definitions settings store.lines) k
    → MayCoverDefinitions (length new.lines) (active_definitions settings new.lines) rest
may_cover_definitions_pushed settings store new x k e covered rest over closed defines new_is push are is =
    let lines : List DeckLine = store.lines in
    let ds : DeckDefinitions = active_definitions settings lines in
    subst (λ (s : LineStoreView). MayCoverDefinitions (length s.lines) (active_definitions settings s.lines) rest)
    (sym new_is)
    (subst (λ es. MayCoverDefinitions (length (lines ++ x ∷ [])) es rest)
    (sym (placed_push settings lines closed x (k, e) defines))
    (subst (λ n. MayCoverDefinitions n ((k, (length lines, e)) ∷ ds) rest) (sym (length-append lines (x ∷ [])))
    (push (length lines) ds k e are is)))
