use Rattle.def_entry.specs.SameKeys.{is_entry_key_among}
use Rattle.name_lookup.proofs.Finding.{lookup_finds_first_candidate, lookup_finds_result_of_plan}
use Rattle.name_lookup.proofs.key_order.find_targets.Goals as goal

pub returns-clause-chosen : goal.returns-clause-chosen
returns-clause-chosen g c =
    lookup_finds_first_candidate (is_entry_key_among (g.P.Present.keys c.args.table.now)) c.args.kind c.args.word.now
    (g.L.Looking.looked c.args.looking.now) (g.L.Looking.looked c.try_word.new.looking) c.try_word.result
    c.try_word.ensures.taken

pub returns-clause-found : goal.returns-clause-found
returns-clause-found g c =
    lookup_finds_result_of_plan (is_entry_key_among (g.P.Present.keys c.args.table.now)) c.args.kind c.args.word.now
    (g.L.Looking.looked c.args.looking.now) (g.L.Looking.looked c.try_word.new.looking) c.try_word.result
    c.try_word.ensures.taken
