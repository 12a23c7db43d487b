-- Marks, and the names that have one.
use Rattle.std.proofs.Common.{◌≡◌, ◌⊎◌, ◌↔◌, ℕ, ◌<◌, List, [], ◌∷◌, ◌++◌, length, set, Some, sym, ◌∙◌}
use Rattle.std.proofs.Common.{ap, subst, inl, inr, length-set, Contains}
use Rattle.std.specs.List.{slice_get}
use Rattle.std.proofs.lemmas.Bool.{cases_eq}
use Rattle.std.proofs.lemmas.Option.{slice_get_within}
use Rattle.std.proofs.lemmas.List.Elements.{Contains-append_left, Contains-push, Contains-push_cases}
use Rattle.name_walk.specs.declared.mark.Mark.{Mark}
use Rattle.name_walk.specs.declared.mark.Mark.TheVariants.{Open}
use Rattle.name_walk.specs.Traces.{AreWalkNamesEntered}
use Rattle.general_lemmas.proofs.Places.{get_set_same, get_set_other}

-- the names with one mark are those of a list
abbrev pub AreMarked : Mark → List Mark → List ℕ → Type 0
AreMarked v ms xs = (n : ℕ) → (slice_get ms n ≡ Some v) ↔ Contains xs n

-- a name with another mark is not in the list of the names with this mark
pub walk_marks_exclude_each_other : (v w : Mark) (ms : List Mark) (xs : List ℕ) → AreMarked v ms xs
    → (Some w ≡ Some v → ⊥)
    → (n : ℕ) → slice_get ms n ≡ Some w → Contains xs n → ⊥
walk_marks_exclude_each_other v w ms xs marked ne n e i = ne (sym e ∙ (marked n).1 i)

module _ (ms : List Mark) (n : ℕ) (there : n < length ms) where
  now_at : (w : Mark) (k : ℕ) → k ≡ n → slice_get (set ms n w) k ≡ Some w
  now_at w k e = ap (slice_get (set ms n w)) e ∙ get_set_same ms n w there

  -- marking a name appends it to the list of marked names
  pub marked_push : (v : Mark) (xs : List ℕ) → AreMarked v ms xs → AreMarked v (set ms n v) (xs ++ n ∷ [])
  marked_push v xs marked k =
      elim (cases_eq k n) [
        | inl e ↦ (λ h. subst (λ (x : ℕ). Contains (xs ++ n ∷ []) x) (sym e) (Contains-push xs n), λ i. now_at v k e)
        | inr ne ↦ (
          λ h. Contains-append_left xs (n ∷ []) k ((marked k).0 (sym (get_set_other ms n k v ne) ∙ h)),
          λ i. get_set_other ms n k v ne
              ∙ (elim (Contains-push_cases xs n k i) [ inl j ↦ (marked k).1 j | inr e ↦ absurd (ne (sym e)) ]),
        )
      ]

  -- giving another mark to a name without the mark does not change the list of marked names
  pub marked_same : (v w : Mark) (xs : List ℕ) → AreMarked v ms xs → (Some w ≡ Some v → ⊥) → (Contains xs n → ⊥)
      → AreMarked v (set ms n w) xs
  marked_same v w xs marked differ apart k =
      elim (cases_eq k n) [
        | inl e ↦ (
          λ h. absurd (differ (sym (now_at w k e) ∙ h)),
          λ i.
              absurd (apart (subst (λ (x : ℕ). Contains xs x) e i)),
        )
        | inr ne ↦ (
          λ h. (marked k).0 (sym (get_set_other ms n k w ne) ∙ h),
          λ i. get_set_other ms n k w ne
              ∙ (marked k).1 i,
        )
      ]

  -- giving another mark to the last marked name removes it from the list of marked names
  pub marked_pop : (v w : Mark) (xs : List ℕ) → AreMarked v ms (xs ++ n ∷ []) → (Some w ≡ Some v → ⊥)
      → (Contains xs n → ⊥)
      → AreMarked v (set ms n w) xs
  marked_pop v w xs marked differ apart k =
      elim (cases_eq k n) [
        | inl e ↦ (
          λ h. absurd (differ (sym (now_at w k e) ∙ h)),
          λ i.
              absurd (apart (subst (λ (x : ℕ). Contains xs x) e i)),
        )
        | inr ne ↦ (
          λ h. elim (Contains-push_cases xs n k ((marked k).0 (sym (get_set_other ms n k w ne) ∙ h)))
              [ inl j ↦ j | inr e ↦ absurd (ne (sym e)) ],
          λ i. get_set_other ms n k w ne ∙ (marked k).1 (Contains-append_left xs (n ∷ []) k i),
        )
      ]

  -- ---- entered names
  pub entered_again : (v : Mark) (names : List ℕ) → Contains names n → AreWalkNamesEntered ms names
      → AreWalkNamesEntered (set ms n v) names
  entered_again v names i h = record {
    names_within = λ k j. subst (λ (x : ℕ). k < x) (sym (length-set ms n v)) (h.names_within k j);
    open_or_listed = λ k l. elim (cases_eq k n) [
      | inl e ↦ inr (subst (λ (x : ℕ). Contains names x) (sym e) i)
      | inr ne ↦ subst (λ o. (o ≡ Some Open) ⊎ Contains names k) (sym (get_set_other ms n k v ne))
          (h.open_or_listed k (subst (λ (x : ℕ). k < x) (length-set ms n v) l))
    ];
  }

  pub entered_push : (v : Mark) (names : List ℕ) → AreWalkNamesEntered ms names → AreWalkNamesEntered (set ms n v)
      (names ++ n ∷ [])
  entered_push v names h = entered_again v (names ++ n ∷ []) (Contains-push names n) (record {
    names_within = λ k i. elim (Contains-push_cases names n k i)
        [ inl j ↦ h.names_within k j | inr e ↦ subst (λ (x : ℕ). x < length ms) e there ];
    open_or_listed = λ k l.
        elim (h.open_or_listed k l) [ inl e ↦ inl e | inr i ↦ inr (Contains-append_left names (n ∷ []) k i) ];
  })

  -- reopening the last entered name removes it from the entered names
  pub entered_pop : (names : List ℕ) → AreWalkNamesEntered ms (names ++ n ∷ [])
      → AreWalkNamesEntered (set ms n Open) names
  entered_pop names h = record {
    names_within = λ k i. subst (λ (x : ℕ). k < x) (sym (length-set ms n Open))
        (h.names_within k (Contains-append_left names (n ∷ []) k i));
    open_or_listed = λ k l. elim (cases_eq k n) [
      | inl e ↦ inl (now_at Open k e)
      | inr ne ↦ elim (h.open_or_listed k (subst (λ (x : ℕ). k < x) (length-set ms n Open) l)) [
        | inl o ↦ inl (get_set_other ms n k Open ne ∙ o)
        | inr i ↦ elim (Contains-push_cases names n k i) [ inl j ↦ inr j | inr e ↦ absurd (ne (sym e)) ]
      ]
    ];
  }

-- a name with a mark other than open is an entered name
pub marked_name_was_entered_by_walk : (v : Mark) → (Some v ≡ Some Open → ⊥) → (ms : List Mark) (names : List ℕ) (n : ℕ)
    → AreWalkNamesEntered ms names
    → slice_get ms n ≡ Some v → Contains names n
marked_name_was_entered_by_walk v differ ms names n h e =
    elim (h.open_or_listed n (slice_get_within ms n v e)) [ inl o ↦ absurd (differ (sym e ∙ o)) | inr i ↦ i ]
