use Rattle.def_lines.proofs.FirstLine.{first_physical_line_parted_some, first_physical_line_parted_none}
use Rattle.def_lines.proofs.physical.next_line.Goals as goal

pub returns-in-Some-clause-lines : goal.returns-in-Some-clause-lines
returns-in-Some-clause-lines c =
    first_physical_line_parted_some c.args.bytes.now _ _ c.place_of.result _ _ c.requires c.place_of.ensures.is
    c.split_at.ensures.front c.split_at.ensures.back c.in-Some.ensures.cases.0

pub returns-in-None-clause-lines : goal.returns-in-None-clause-lines
returns-in-None-clause-lines c =
    first_physical_line_parted_none c.args.bytes.now _ _ c.place_of.result c.requires c.place_of.ensures.is
    c.split_at.ensures.front c.split_at.ensures.back c.in-None.ensures.cases
