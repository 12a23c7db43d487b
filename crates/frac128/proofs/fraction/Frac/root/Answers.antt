use Rattle.frac128.proofs.ComputedRoots.{root_answer_is_fraction_root}
use Rattle.frac128.proofs.fraction.Frac.root.Goals as goal

pub returns-clause-computed : goal.returns-clause-computed
returns-clause-computed c =
    root_answer_is_fraction_root c.args.self.now c.args.q c.root_by_parts.result c.den.ensures.kept.lowest_terms
    c.requires
    c.root_by_parts.ensures
