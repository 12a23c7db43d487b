use Rattle.std.proofs.Common.{rules, List, ℕ, subst}
use Rattle.std.specs.Result.{IfOk}
use Rattle.std.proofs.lemmas.Result.{IfOk-weaker}
use Rattle.name_walk.specs.Findings.{AreWalkedFromQuery}
use Rattle.name_walk.proofs.UnknownNames.{covered_between, covered_clear, walk_faults_cover_themselves}
use Rattle.name_walk.proofs.search.search_from.Goals as goal

pub returns-in_err-cover_marks-clause-can_clear : goal.returns-in_err-cover_marks-clause-can_clear
returns-in_err-cover_marks-clause-can_clear c =
    covered_clear c.args.traces.now c.cover_marks.new.traces c.args.faults.now.items c.args.faults.now.items
    c.in_err-cover_marks.ensures.covered (walk_faults_cover_themselves c.args.faults.now.items)
    c.requires.consistent.can_clear

pub returns-in_err-cover_marks-clause-consistent : goal.returns-in_err-cover_marks-clause-consistent
returns-in_err-cover_marks-clause-consistent c = search rules

pub returns-in_err-cover_marks-clause-right : goal.returns-in_err-cover_marks-clause-right
returns-in_err-cover_marks-clause-right c = search rules

pub returns-in_err-cover_marks-clause-names : goal.returns-in_err-cover_marks-clause-names
returns-in_err-cover_marks-clause-names c = search rules

pub returns-in_err-cover_marks-clause-found : goal.returns-in_err-cover_marks-clause-found
returns-in_err-cover_marks-clause-found c = search rules

pub returns-in_err-cover_faults-clause-can_clear :
    goal.returns-in_err-cover_faults-clause-can_clear
returns-in_err-cover_faults-clause-can_clear c =
    covered_clear c.args.traces.now c.cover_marks.new.traces c.args.faults.now.items c.cover_faults.new.faults.items
    c.in_ok-cover_marks.ensures.covered c.in_err-cover_faults.ensures.covered c.requires.consistent.can_clear

pub returns-in_err-cover_faults-clause-consistent : goal.returns-in_err-cover_faults-clause-consistent
returns-in_err-cover_faults-clause-consistent c = search rules

pub returns-in_err-cover_faults-clause-right : goal.returns-in_err-cover_faults-clause-right
returns-in_err-cover_faults-clause-right c = search rules

pub returns-in_err-cover_faults-clause-names : goal.returns-in_err-cover_faults-clause-names
returns-in_err-cover_faults-clause-names c = search rules

pub returns-in_err-cover_faults-clause-found : goal.returns-in_err-cover_faults-clause-found
returns-in_err-cover_faults-clause-found c = search rules

pub search_query-requires-clause-net : goal.search_query-requires-clause-net
search_query-requires-clause-net c = c.requires.net

pub search_query-requires-clause-query : goal.search_query-requires-clause-query
search_query-requires-clause-query c = c.requires.query

pub search_query-requires-clause-between : goal.search_query-requires-clause-between
search_query-requires-clause-between c =
    covered_between c.args.traces.now c.cover_marks.new.traces c.args.faults.now.items c.cover_faults.new.faults.items
    c.in_ok-cover_marks.ensures.covered c.in_ok-cover_faults.ensures.covered _ _ c.requires.consistent c.requires.right
    c.in_ok-cover_marks.ensures.marks c.in_ok-cover_faults.ensures.faults

pub returns-clause-can_clear : goal.returns-clause-can_clear
returns-clause-can_clear c = c.search_query.ensures.can_clear

pub returns-clause-consistent : goal.returns-clause-consistent
returns-clause-consistent c = IfOk-weaker c.search_query.result _ _ (λ _ b. b.consistent) c.search_query.ensures.between

pub returns-clause-right : goal.returns-clause-right
returns-clause-right c = IfOk-weaker c.search_query.result _ _ (λ _ b. b.findings_right) c.search_query.ensures.between

pub returns-clause-names : goal.returns-clause-names
returns-clause-names c =
    subst (λ (es : List ℕ). IfOk c.search_query.result (λ _. AreWalkedFromQuery c.args.net.now.steps.now
    c.args.net.now.settled.now c.args.query.now es c.search_query.new.traces.entered_names))
    c.in_ok-cover_marks.ensures.covered.names c.search_query.ensures.names

pub returns-clause-found : goal.returns-clause-found
returns-clause-found c = c.search_query.ensures.found
