use Rattle.std.proofs.Common.{◌≡◌, ◌∙◌, All, IsTrue, ap, subst, sym}
use Rattle.std.proofs.lemmas.Result.{err_from_is_err_and}
use Rattle.smallvec.specs.SmallVec.{SmallVec}
use Rattle.frac128.specs.Fraction.{Fraction}
use Rattle.quantity.specs.Exponents.{IsUnitPower}
use Rattle.quantity.specs.Merges.{IsPowersFault, UnitPowers, are_exponents, scaled_powers}
use Rattle.quantity.specs.Stores.{stored_powers}
use Rattle.quantity.specs.declared.fault.ExponentFault.{ExponentFault}
use Rattle.quantity.proofs.Copies.{plain_step_keeps_powers}
use Rattle.quantity.proofs.Names.{Name}
use Rattle.quantity.proofs.store.Store.scale_powers.Goals as goal
use Rattle.quantity.proofs.store.Store.scale_powers.Goals.{in-Few, in-Many+in_ok-items-in-Many}

-- the powers of a list
abbrev power_items : SmallVec (Name × Fraction) → UnitPowers
power_items list = list.items

-- scaling equal powers gives the same fault
same_fault : (by : Fraction) (fault : ExponentFault) (es ds : UnitPowers) → es ≡ ds
    → IsPowersFault fault (scaled_powers by es)
    → IsPowersFault fault (scaled_powers by ds)
same_fault by fault es ds same h = subst (λ ps. IsPowersFault fault (scaled_powers by ps)) same h

-- scaling equal powers gives the same result
same_answer : (by : Fraction) (out es ds : UnitPowers) → es ≡ ds
    → (out ≡ scaled_powers by es) × IsTrue (are_exponents (scaled_powers by es))
    → (out ≡ scaled_powers by ds) × IsTrue (are_exponents (scaled_powers by ds))
same_answer by out es ds same h =
    subst (λ ps. (out ≡ scaled_powers by ps) × IsTrue (are_exponents (scaled_powers by ps))) same h

pub scale-requires : goal.scale-requires
scale-requires c =
    let same : c.match-self.items.items ≡ stored_powers c.args.self =
    elim c.match-self.branch [
      | in-Few w ↦ ap power_items w.items-is ∙ sym (ap stored_powers w.in-Few.is)
      | in-Many+in_ok-items-in-Many w ↦
          ap power_items w.items-is ∙ w.in_ok-items-in-Many.ensures ∙ plain_step_keeps_powers _
          ∙ sym (ap stored_powers w.in-Many.is)
    ] in
    subst (All IsUnitPower) (sym same) c.requires

pub returns-in_err-scale : goal.returns-in_err-scale
returns-in_err-scale c =
    let error = err_from_is_err_and c.from_residual-in_err-scale.result c.from_residual-in_err-scale.ensures.1 in
    let same : c.match-self.items.items ≡ stored_powers c.args.self =
    elim c.match-self.branch [
      | in-Few w ↦ ap power_items w.items-is ∙ sym (ap stored_powers w.in-Few.is)
      | in-Many+in_ok-items-in-Many w ↦
          ap power_items w.items-is ∙ w.in_ok-items-in-Many.ensures ∙ plain_step_keeps_powers _
          ∙ sym (ap stored_powers w.in-Many.is)
    ] in
    rw (error.1, error.2) (same_fault c.args.degree.now _ _ _ same c.in_err-scale.ensures)

pub returns : goal.returns
returns c =
    let same : c.match-self.items.items ≡ stored_powers c.args.self =
    elim c.match-self.branch [
      | in-Few w ↦ ap power_items w.items-is ∙ sym (ap stored_powers w.in-Few.is)
      | in-Many+in_ok-items-in-Many w ↦
          ap power_items w.items-is ∙ w.in_ok-items-in-Many.ensures ∙ plain_step_keeps_powers _
          ∙ sym (ap stored_powers w.in-Many.is)
    ] in
    same_answer c.args.degree.now _ _ _ same c.in_ok-scale.ensures
