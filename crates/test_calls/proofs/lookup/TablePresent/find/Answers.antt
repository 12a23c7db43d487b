use Rattle.std.proofs.Common.{◌≡◌, ◌+◌, suc, Bool, true, false, List, [], ◌∷◌, length, nat_lt, cond, arith}
use Rattle.std.proofs.Common.{Some, None, is_some, refl, sym, ◌∙◌, ap}
use Rattle.std.specs.List.{list_any, position, position_or_len}
use Rattle.std.proofs.lemmas.Bool.{lt-ltb, ltb_from_iff, ltb-true}
use Rattle.def_entry.specs.Keys.{key}
use Rattle.def_entry.specs.SameKeys.{is_same_entry_key}
use Rattle.test_calls.proofs.lookup.TablePresent.find.Goals as goal

module _ {A : Type 0} (p : A → Bool) where
  -- the first place that passes is inside the list exactly if an element passes
  within : (xs : List A) → nat_lt (position_or_len p xs) (length xs) ≡ list_any p xs
  within [] = refl
  within (x ∷ xs) = by (within xs) (p x) refl
    where
      by : nat_lt (position_or_len p xs) (length xs) ≡ list_any p xs → (b : Bool) → p x ≡ b
          → nat_lt (position_or_len p (x ∷ xs)) (length (x ∷ xs)) ≡ list_any p (x ∷ xs)
      by rest true e = rw e (lt-ltb 0 (suc (length xs)) (omega arith))
      by rest false e =
          rw e (sym (ltb_from_iff {m = 1 + position_or_len p xs} {n = suc (length xs)} (
            (λ h. omega (arith, ltb-true (position_or_len p xs) (length xs) (rest ∙ h))),
            (λ h. sym rest ∙ lt-ltb (position_or_len p xs) (length xs) (omega (arith, h))),
          )))

  -- a place is found exactly if an element passes
  found : (xs : List A) → is_some (position p xs) ≡ list_any p xs
  found xs = by (nat_lt (position_or_len p xs) (length xs)) ∙ within xs
    where
      by : (b : Bool) → is_some (cond b (Some (position_or_len p xs)) None) ≡ b
      by true = refl
      by false = refl

pub returns-clause-present : goal.returns-clause-present
returns-clause-present c =
    ap is_some c.place_of.ensures
    ∙ (found (is_same_entry_key (key c.args.kind c.args.name.now)) c.as_slice.result.now
    ∙ ap (list_any (is_same_entry_key (key c.args.kind c.args.name.now))) c.as_slice.ensures)

pub returns-clause-place : goal.returns-clause-place
returns-clause-place c =
    c.place_of.ensures ∙ ap (position (is_same_entry_key (key c.args.kind c.args.name.now))) c.as_slice.ensures
