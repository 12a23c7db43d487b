use Rattle.std.proofs.Common.{ap, ◌∙◌, sym, refl, Some, None, option_map}
use Rattle.std.proofs.lemmas.Option.{slice_get_past, slice_get_read}
use Rattle.deck_lines.specs.StoredDefinitions.{keyed_store_definition}
use Rattle.deck_lines.proofs.DefinitionsByNumber.{defined_at, undefined_at}
use Rattle.deck_lines.proofs.store.definitions.definition_in.Goals as goal

pub returns-in-Some-Some : goal.returns-in-Some-Some
returns-in-Some-Some c = λ names lines are.
    defined_at names c.args.definitions.now lines c.args.place are (Some c.in-Some-Some.definition)
    (slice_get_read c.args.definitions.now _ c.args.place c.in-Some-Some.field-0.now refl
    c.in-Some-Some.ensures.lookup.3.0 c.in-Some-Some.ensures.lookup.1
    ∙ ap Some c.in-Some-Some.field-0-is)

pub returns-in-Some-None : goal.returns-in-Some-None
returns-in-Some-None c = λ names lines are.
    defined_at names c.args.definitions.now lines c.args.place are None
    (slice_get_read c.args.definitions.now _ c.args.place c.in-Some-None.field-0.now refl
    c.in-Some-None.ensures.lookup.3.0 c.in-Some-None.ensures.lookup.1
    ∙ ap Some c.in-Some-None.field-0-is)

pub returns-in-None : goal.returns-in-None
returns-in-None c = λ names lines are.
    sym (ap (option_map keyed_store_definition) (undefined_at names c.args.definitions.now lines c.args.place are
    (slice_get_past c.args.definitions.now c.args.place c.in-None.ensures.lookup.3)))
