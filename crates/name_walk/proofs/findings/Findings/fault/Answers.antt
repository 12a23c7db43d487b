use Rattle.std.proofs.Common.{◌≡◌, Bool, List, [], ◌∷◌, Some, None, refl, sym, subst}
use Rattle.std.proofs.lemmas.Result.{IfOk-weaker}
use Rattle.name_walk.specs.declared.step.Step.{Step}
use Rattle.name_walk.specs.Faults.{DeadEnd, steps_fault_after_path}
use Rattle.name_walk.specs.Findings.{AreRightWalkFindings, IsFaultyWalkStep, WalkFindings}
use Rattle.name_walk.specs.Steps.{Graph}
use Rattle.name_walk.specs.Trails.{AreWalkFindings, AreWalkTrails, Faults}
use Rattle.name_walk.specs.Walks.{walk_fault_view}
use Rattle.name_walk.proofs.findings.Findings.fault.Goals as goal

-- if the view of the findings is right, then so are the fields of the struct
inside_are : (g : Graph) (s : List Bool) (inside seen : WalkFindings) (fs : Faults) → inside ≡ seen → fs ≡ inside.faults
    → AreRightWalkFindings g s seen → AreWalkFindings g s inside.sound_names fs
inside_are g s inside seen fs view same right =
    subst (λ (hs : Faults). AreWalkFindings g s inside.sound_names hs) (sym same)
    ((subst (λ (f : WalkFindings). AreRightWalkFindings g s f) (sym view) right).findings_right)

inside_faulty : (inside seen : WalkFindings) (fs : Faults) (x y : Step) → inside ≡ seen → fs ≡ inside.faults → x ≡ y
    → IsFaultyWalkStep seen.faults x → IsFaultyWalkStep fs y
inside_faulty inside seen fs x y view same is h =
    subst (λ (hs : Faults). IsFaultyWalkStep hs y) (sym same)
    (subst (λ (z : Step). IsFaultyWalkStep inside.faults z) is
    (subst (λ (f : WalkFindings). IsFaultyWalkStep f.faults x) (sym view) h))

pub name_fault-requires-clause-trails : goal.name_fault-requires-clause-trails
name_fault-requires-clause-trails c =
    subst (λ (fs : Faults). AreWalkTrails fs) (sym c.deref.ensures.value) c.self.invariant.trails

pub name_fault-requires-clause-faulty : goal.name_fault-requires-clause-faulty
name_fault-requires-clause-faulty c =
    inside_faulty _ c.args.self.now c.deref.result.now _ _ c.self.view_is c.deref.ensures.value c.in-To.is
    c.requires.known

pub returns-in-Nowhere : goal.returns-in-Nowhere
returns-in-Nowhere c g s net right =
    subst (λ (x : Step). steps_fault_after_path g [] (x ∷ []) ≡ Some (DeadEnd c.in-Nowhere.word None))
    (sym c.in-Nowhere.is) refl

pub returns-in-To : goal.returns-in-To
returns-in-To c =
    IfOk-weaker c.name_fault.result _ _
    (λ f h g s net right. subst (λ (x : Step). steps_fault_after_path g [] (x ∷ []) ≡ Some (walk_fault_view f))
    (sym c.in-To.is)
    (h g s c.self.inside.traces.order net
    (inside_are g s _ c.args.self.now c.deref.result.now c.self.view_is c.deref.ensures.value right)))
    c.name_fault.ensures
