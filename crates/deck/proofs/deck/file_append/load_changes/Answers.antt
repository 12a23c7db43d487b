use Rattle.std.proofs.Common.{subst}
use Rattle.std.proofs.lemmas.Result.{err_from_is_err_and}
use Rattle.deck_lines.specs.LineLoads.{excerpt_in}
use Rattle.deck_lines.specs.Transcripts.{files_model}
use Rattle.deck.specs.Changes.{IsDeckTableChange}
use Rattle.deck.specs.FileLoads.{deck_excerpt_of_lines, deck_load_of_name}
use Rattle.deck.specs.declared.places.place_changes.PlaceChanges.{PlaceChanges}
use Rattle.deck.specs.declared.settings.Settings.{Settings}
use Rattle.deck.proofs.LoadConsequences.{load_without_memory}
use Rattle.deck.specs.Tables.{active_definitions, table_of_deck_definitions}
use Rattle.deck.proofs.MoreNumbers.{definitions_in_place_extended, last_definition_places_grown}
use Rattle.deck.proofs.PlacedDefinitions.{active_definitions_in_place}
use Rattle.deck.proofs.deck.file_append.load_changes.Goals as goal

pub returns-clause-changed : goal.returns-clause-changed
returns-clause-changed g c =
    let was = active_definitions c.args.settings.now c.args.draft.now.store.lines in
    subst (λ (s : Settings). IsDeckTableChange (table_of_deck_definitions was)
    (table_of_deck_definitions (active_definitions s c.load_file.new.draft.store.lines))
    c.in_ok-find_place_changes.field-0.keys) c.of-settings.ensures
    (c.in_ok-find_place_changes.ensures.keys was
    (definitions_in_place_extended c.args.draft.now.store c.load_file.new.draft.store _
    (active_definitions_in_place c.args.settings.now c.args.draft.now.store.lines) c.load_file.ensures.extends)
    (last_definition_places_grown c.args.draft.now.store c.load_file.new.draft.store c.args.settings.now c.args.last.now
    c.requires.numbering c.requires.indexed.places c.load_file.ensures.extends))

pub returns-in_err-find_place_changes-clause-loads : goal.returns-in_err-find_place_changes-clause-loads
returns-in_err-find_place_changes-clause-loads g c =
    let p = err_from_is_err_and c.from_residual-in_err-find_place_changes.result
    c.from_residual-in_err-find_place_changes.ensures.1 in
    rw (p.1, p.2) (load_without_memory (files_model g.F.Files.files g.F.Files.faults g.F.Files.is_fetch)
    c.failed_fetches_end_loads.ensures.failed c.args.files.now c.load_file.new.files c.args.name.now
    (excerpt_in c.args.draft.now) (excerpt_in c.load_file.new.draft)
    (deck_load_of_name c.args.name.now (deck_excerpt_of_lines c.args.draft.now.store.lines))
    (λ (_ : PlaceChanges). excerpt_in c.load_file.new.draft) c.in_ok-load_file.ensures.loads)
