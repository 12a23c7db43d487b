use Rattle.std.proofs.Common.{◌+◌, ◌<◌, ◌≤◌, ℕ, List, length, arith, get_or, set, None, subst, sym, ◌∙◌, Contains}
use Rattle.std.proofs.lemmas.Option.{slice_get-get_or}
use Rattle.name_walk.proofs.ClearedFaults.{IsClearing, clearing_next, walk_clearing_leaves_no_fault}
use Rattle.name_walk.proofs.search.clear.Goals as goal
use Rattle.general_lemmas.proofs.Members.{member_at}

pub index_mut-requires : goal.index_mut-requires
index_mut-requires c =
    let i = c.loop-name.name-index in
    let es : List ℕ = c.entered_names-name-items.result.now in
    let within : get_or es i 0 < length c.args.faults.now.items =
    c.requires.names_within (get_or es i 0)
    (subst (λ (ns : List ℕ). Contains ns (get_or es i 0)) c.entered_names-name-items.ensures
    (member_at es i (get_or es i 0) (slice_get-get_or es i 0 c.loop-name-test.true))) in
    subst (λ (k : ℕ). get_or es i 0 < k) (sym (c.loop-name.faults.ok.0 ∙ c.loop-name.invariant.size)) within

pub loop-name-preserved : goal.loop-name-preserved
loop-name-preserved c =
    let test : c.loop-name.name-index < length c.entered_names-name-items.result.now = c.loop-name-test.true in
    subst (λ (es : List ℕ). IsClearing c.args.traces.now.entered_names c.args.faults.now.items
    (set c.loop-name.faults.items (get_or es c.loop-name.name-index 0) None) (c.loop-name.name-index + 1))
    (sym c.entered_names-name-items.ensures)
    (clearing_next c.args.traces.now.entered_names c.args.faults.now.items c.loop-name.faults.items
    c.loop-name.name-index
    c.loop-name.invariant
    (subst (λ (es : List ℕ). c.loop-name.name-index < length es) c.entered_names-name-items.ensures test))

pub returns-clause-faults : goal.returns-clause-faults
returns-clause-faults c =
    let test = c.loop-name-test.false in
    walk_clearing_leaves_no_fault c.args.traces.now.entered_names c.args.faults.now.items c.loop-name.faults.items
    c.loop-name.name-index
    c.loop-name.invariant
    (subst (λ (es : List ℕ). length es ≤ c.loop-name.name-index) c.entered_names-name-items.ensures
    (omega (arith, test)))
