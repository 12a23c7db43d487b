use Rattle.std.proofs.Common.{ℕ, List, subst, sym, Contains}
use Rattle.name_walk.specs.Findings.{AreRightWalkFindings, AreWalkedFromQuery, WalkFindings}
use Rattle.name_walk.proofs.StableFindings.{idle_walk_trace_is_consistent, no_walk_findings_are_right}
use Rattle.name_walk.proofs.findings.Findings.find.Goals as goal
use Rattle.general_lemmas.proofs.Members.{no_member}

pub search_from-requires-clause-net : goal.search_from-requires-clause-net
search_from-requires-clause-net c = c.requires.net

pub search_from-requires-clause-query : goal.search_from-requires-clause-query
search_from-requires-clause-query c = c.requires.query

pub search_from-requires-clause-consistent : goal.search_from-requires-clause-consistent
search_from-requires-clause-consistent c = c.self.invariant

pub search_from-requires-clause-right : goal.search_from-requires-clause-right
search_from-requires-clause-right c =
    (subst (λ (f : WalkFindings). AreRightWalkFindings c.args.net.now.steps.now c.args.net.now.settled.now f)
    (sym c.self.view_is)
    c.requires.right).findings_right

pub invariant_of-self : goal.invariant_of-self
invariant_of-self c = c.in-Ok.ensures.consistent

pub clear-requires : goal.clear-requires
clear-requires c = c.in-Err.ensures.can_clear

pub invariant_of-self-in-Err : goal.invariant_of-self-in-Err
invariant_of-self-in-Err c =
    idle_walk_trace_is_consistent c.clear.new.traces c.clear.new.faults.items c.clear.ensures.marks
    c.clear.ensures.order
    c.clear.ensures.faults

pub returns-in-Ok-clause-right : goal.returns-in-Ok-clause-right
returns-in-Ok-clause-right c = record {
  findings_right = c.in-Ok.ensures.right;
  sound_named = c.in-Ok.ensures.consistent.order_entered;
  faulty_named = c.in-Ok.ensures.consistent.can_clear.faulty_entered;
}

pub returns-in-Ok-clause-names : goal.returns-in-Ok-clause-names
returns-in-Ok-clause-names c =
    subst (λ (f : WalkFindings). AreWalkedFromQuery c.args.net.now.steps.now c.args.net.now.settled.now c.args.query.now
    f.names
    c.search_from.new.traces.entered_names) c.self.view_is c.in-Ok.ensures.names

pub returns-in-Ok-clause-found : goal.returns-in-Ok-clause-found
returns-in-Ok-clause-found c = c.in-Ok.ensures.found

pub returns-in-Ok-clause-err : goal.returns-in-Ok-clause-err
returns-in-Ok-clause-err c = tt

pub returns-in-Err-clause-right : goal.returns-in-Err-clause-right
returns-in-Err-clause-right c =
    no_walk_findings_are_right _ _ _ (record {
      no_sound_names = c.clear.ensures.order;
      no_faults = c.clear.ensures.faults;
      names = c.clear.ensures.marks.none_entered;
    })

pub returns-in-Err-clause-names : goal.returns-in-Err-clause-names
returns-in-Err-clause-names c n i =
    absurd (no_member n (subst (λ (ns : List ℕ). Contains ns n) c.clear.ensures.marks.none_entered i))

pub returns-in-Err-clause-found : goal.returns-in-Err-clause-found
returns-in-Err-clause-found c = tt

pub returns-in-Err-clause-err : goal.returns-in-Err-clause-err
returns-in-Err-clause-err c = record {
  no_sound_names = c.clear.ensures.order;
  no_faults = c.clear.ensures.faults;
  names = c.clear.ensures.marks.none_entered;
}
