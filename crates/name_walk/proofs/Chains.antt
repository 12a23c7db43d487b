-- The chain of a cycle, as it is built.
use Rattle.std.proofs.Common.{◌≡◌, ℕ, Bool, true, false, cond, ◌||◌, List, [], ◌∷◌, ◌++◌, refl, sym, ◌∙◌, ap, subst}
use Rattle.std.proofs.Common.{inl, inr, nat_eq, append_assoc}
use Rattle.std.proofs.lemmas.Bool.{eqb-true, eq-eqb, or_cases, or_parts}
use Rattle.name_walk.specs.declared.traces.Frame.{Frame}
use Rattle.name_walk.specs.Faults.{is_on_path, path_from_name}
use Rattle.name_walk.specs.Traces.{path_of_frames}

-- if one of two tests holds, the first value is chosen
either_test_chooses_first : {A : Type 0} (b e : Bool) (x y : A) → (b || e) ≡ true → cond b x (cond e x y) ≡ x
either_test_chooses_first true e x y h = refl
either_test_chooses_first false true x y h = refl
either_test_chooses_first false false x y h = cc

-- if neither of two tests holds, the second value is chosen
neither_test_chooses_second : {A : Type 0} (b e : Bool) (x y : A) → (b || e) ≡ false → cond b x (cond e x y) ≡ y
neither_test_chooses_second true e x y h = cc
neither_test_chooses_second false true x y h = cc
neither_test_chooses_second false false x y h = refl

module _ (again last : ℕ) where
  -- the names taken so far and the names from the remaining frames are together the wanted names; until the name
  -- `again` is met, it is still ahead
  pub record IsChaining (all : List ℕ) (names : List ℕ) (is_below : Bool) (rest : List Frame) : Type 0 where
    pub whole : names ++ cond is_below (path_of_frames rest last)
        (path_from_name again (path_of_frames rest last)) ≡ all
    pub ahead : (is_below || is_on_path (path_of_frames rest last) again) ≡ true

  pub chaining_keep : (all names more : List ℕ) (b : Bool) (f : Frame) (rest : List Frame)
      → IsChaining all names b (f ∷ rest)
      → (b || nat_eq f.name again) ≡ true → more ≡ names ++ f.name ∷ []
      → IsChaining all more (b || nat_eq f.name again) rest
  chaining_keep all names more b f rest h met e = subst (λ (x : Bool). IsChaining all more x rest) (sym met) (record {
    whole = ap (λ xs. xs ++ path_of_frames rest last) e
        ∙ (append_assoc names (f.name ∷ []) (path_of_frames rest last)
        ∙ (ap (λ xs. names ++ xs)
        (sym (either_test_chooses_first b (nat_eq f.name again) (f.name ∷ path_of_frames rest last)
        (path_from_name again (path_of_frames rest last)) met))
        ∙ h.whole));
    ahead = refl;
  })

  pub chaining_pass : (all names more : List ℕ) (b : Bool) (f : Frame) (rest : List Frame)
      → IsChaining all names b (f ∷ rest)
      → (b || nat_eq f.name again) ≡ false → more ≡ names → IsChaining all more (b || nat_eq f.name again) rest
  chaining_pass all names more b f rest h unmet e =
      subst (λ (x : Bool). IsChaining all more x rest) (sym unmet) (record {
        whole = ap (λ xs. xs ++ path_from_name again (path_of_frames rest last)) e
            ∙ (ap (λ xs. names ++ xs)
            (sym (neither_test_chooses_second b (nat_eq f.name again) (f.name ∷ path_of_frames rest last)
            (path_from_name again (path_of_frames rest last)) unmet))
            ∙ h.whole);
        ahead = still_ahead;
      })
    where
      other : nat_eq again f.name ≡ true → ⊥
      other q =
          let met : nat_eq f.name again ≡ true = eq-eqb f.name again (sym (eqb-true again f.name q)) in
          let not : nat_eq f.name again ≡ false = (or_parts b (nat_eq f.name again) unmet).1 in
          cc

      still_ahead : is_on_path (path_of_frames rest last) again ≡ true
      still_ahead = elim (or_cases b (is_on_path (path_of_frames (f ∷ rest) last) again) h.ahead) [
        | inl q ↦ absurd (let n : b ≡ false = (or_parts b (nat_eq f.name again) unmet).0 in cc)
        | inr q ↦ elim (or_cases (nat_eq again f.name) (is_on_path (path_of_frames rest last) again) q)
            [ inl o ↦ absurd (other o) | inr o ↦ o ]
      ]

  pub chaining_end : (all names : List ℕ) (b : Bool) → IsChaining all names b [] → names ++ last ∷ [] ≡ all
  chaining_end all names b h =
      ap (λ xs. names ++ xs) (sym (either_test_chooses_first b (nat_eq last again) (last ∷ []) [] met)) ∙ h.whole
    where
      at_last : (c : Bool) → (b || c) ≡ true → (c ≡ true → nat_eq last again ≡ true) → (b || nat_eq last again) ≡ true
      at_last c q f = elim (or_cases b c q) [ inl t ↦ ap (λ x. x || nat_eq last again) t | inr t ↦ or_second b (f t) ]
        where
          or_second : (x : Bool) → nat_eq last again ≡ true → (x || nat_eq last again) ≡ true
          or_second true e = refl
          or_second false e = e

      met : (b || nat_eq last again) ≡ true
      met = at_last (nat_eq again last || false) h.ahead same
        where
          same : (nat_eq again last || false) ≡ true → nat_eq last again ≡ true
          same q = elim (or_cases (nat_eq again last) false q) [
            | inl t ↦ eq-eqb last again (sym (eqb-true again last t))
            | inr t ↦ cc
          ]
