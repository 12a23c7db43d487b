use Rattle.std.proofs.Common.{refl}
use Rattle.std.proofs.lemmas.Option.{slice_get_read}
use Rattle.def_entry.specs.Views.{entry_view}
use Rattle.live_table.proofs.settlement.what_of.Goals as goal

pub returns-in_default : goal.returns-in_default
returns-in_default c = (entry_view c.entry.result, c.entry.ensures, refl)

pub returns-in-Some-get : goal.returns-in-Some-get
returns-in-Some-get c =
    c.requires.found c.in-Some.place c.args.n c.in-Some-get.what.now c.in-Some.ensures
    (slice_get_read c.args.found.now _ c.in-Some.place c.in-Some-get.what.now refl c.in-Some-get.ensures.lookup.3.0
    c.in-Some-get.ensures.lookup.1)

pub returns-in-None : goal.returns-in-None
returns-in-None c = (entry_view c.entry-in-None.result, c.entry-in-None.ensures, refl)
