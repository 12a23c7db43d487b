use Rattle.std.proofs.Common.{◌++◌, ◌∷◌, ◌∙◌, [], ap, codes, if◌then◌else◌}
use Rattle.std.specs.List.{flat_map}
use Rattle.deck.specs.Tables.{table_of_deck}
use Rattle.name_lookup.specs.Candidates.{singular_candidates}
use Rattle.name_lookup.specs.Plurals.{has_plural_ending, stem_without_end}
use Rattle.value_sources.specs.Readings.{readings_keys, readings_present}
use Rattle.value_sources.proofs.PresentReadings.{all_of}
use Rattle.value_sources.proofs.readings.word_readings.Goals as goal

pub returns : goal.returns
returns c =
    let t = table_of_deck c.args.deck.now in
    let w = c.args.word.now in
    let s = if has_plural_ending 2 (codes "s") w then stem_without_end 1 w ∷ [] else [] in
    let es = if has_plural_ending 3 (codes "es") w then stem_without_end 2 w ∷ [] else [] in
    let ies = if has_plural_ending 4 (codes "ies") w then (stem_without_end 3 w ++ codes "y") ∷ [] else [] in
    all_of t s es ies w (readings_keys c.put_without.new.readings.items)
    (readings_keys c.put_without-2.new.readings.items) (readings_keys c.put_with_y.new.readings.items)
    (readings_keys c.put_with_prefixes.new.readings.items)
    (c.in_ok-put_without.ensures
    ∙ ap (λ xs. readings_keys xs ++ readings_present t (flat_map singular_candidates s)) c.new-readings.ensures.items)
    c.in_ok-put_without-2.ensures c.in_ok-put_with_y.ensures c.in_ok-put_with_prefixes.ensures
