-- The frames of a path: each is at the step to the next, and the steps before that step are done.
use Rattle.std.proofs.Common.{◌≡◌, ◌⊎◌, ℕ, Bool, List, [], ◌∷◌, ◌++◌, take, Some, refl, sym, ◌∙◌, ap, subst, inl, inr}
use Rattle.std.proofs.Common.{Contains, None, Option}
use Rattle.std.specs.List.{AllByRecursion, slice_get, last_or}
use Rattle.name_walk.specs.declared.step.Step.{Step}
use Rattle.name_walk.specs.declared.step.Step.TheVariants.{To}
use Rattle.name_walk.specs.declared.traces.Frame.{Frame}
use Rattle.name_walk.specs.ClosedNames.{IsSettledOrWalked, WalkStepLeadsInto}
use Rattle.name_walk.specs.Traces.{path_of_frames}
use Rattle.name_walk.specs.Steps.{Graph, GraphReaches, at_once, further, graph_steps}
use Rattle.name_walk.proofs.ClosedPaths.{walk_step_leads_into_weaker}
use Rattle.name_walk.proofs.Lists.{all_map}
use Rattle.name_walk.proofs.DoneNames.{settled_or_walked_stays}
use Rattle.general_lemmas.proofs.Members.{no_member, member_first, member_later, member_cases, member_at}

-- the outermost name of a path
abbrev pub head : List Frame → ℕ → ℕ
head [] name = name
head (f ∷ fs) name = f.name

-- a name, and the number of its steps that are done
abbrev pub frame : ℕ → ℕ → Frame
frame name place = record { name = name; place = place }

-- one more frame makes the path one name longer
pub frame_makes_path_longer : (fs : List Frame) (f : Frame) (m : ℕ) → path_of_frames (fs ++ f ∷ []) m ≡ path_of_frames
    fs f.name ++ m ∷ []
frame_makes_path_longer [] f m = refl
frame_makes_path_longer (h ∷ fs) f m = ap (λ xs. h.name ∷ xs) (frame_makes_path_longer fs f m)

-- one more frame does not change the first name of the path
pub frame_keeps_path_head : (fs : List Frame) (f : Frame) (m : ℕ) → head (fs ++ f ∷ []) m ≡ head fs f.name
frame_keeps_path_head [] f m = refl
frame_keeps_path_head (h ∷ fs) f m = refl

-- the last name of a path is the current name
pub path_ends_with_current_name : (p : List ℕ) (fs : List Frame) (name : ℕ)
    → last_or None (p ++ path_of_frames fs name) ≡ Some name
path_ends_with_current_name p fs name = after_path None p
  where
    of_frames : (o : Option ℕ) (hs : List Frame) → last_or o (path_of_frames hs name) ≡ Some name
    of_frames o [] = refl
    of_frames o (h ∷ hs) = of_frames (Some h.name) hs

    after_path : (o : Option ℕ) (q : List ℕ) → last_or o (q ++ path_of_frames fs name) ≡ Some name
    after_path o [] = of_frames o fs
    after_path o (k ∷ q) = after_path (Some k) q

-- the first name is on the path
pub path_head_is_on_path : (fs : List Frame) (name : ℕ) → Contains (path_of_frames fs name) (head fs name)
path_head_is_on_path [] name = member_first name name [] refl
path_head_is_on_path (f ∷ fs) name = member_first f.name f.name (path_of_frames fs name) refl

-- the current name is on the path
pub current_name_is_on_path : (fs : List Frame) (name : ℕ) → Contains (path_of_frames fs name) name
current_name_is_on_path [] name = member_first name name [] refl
current_name_is_on_path (f ∷ fs) name = member_later name f.name (path_of_frames fs name)
    (current_name_is_on_path fs name)

-- each step leads to a name that is done
abbrev pub AreDone : List Bool → List ℕ → List Step → Type 0
AreDone s order xs = AllByRecursion (WalkStepLeadsInto (IsSettledOrWalked s order)) xs

-- steps that are done stay done after one more name is closed
pub walked_steps_stay_walked : (s : List Bool) (order : List ℕ) (n : ℕ) (xs : List Step) → AreDone s order xs
    → AreDone s (order ++ n ∷ []) xs
walked_steps_stay_walked s order n xs h =
    all_map (WalkStepLeadsInto (IsSettledOrWalked s order)) (WalkStepLeadsInto (IsSettledOrWalked s (order ++ n ∷ [])))
    (walk_step_leads_into_weaker (IsSettledOrWalked s order) (IsSettledOrWalked s (order ++ n ∷ []))
    (settled_or_walked_stays s order n)) xs h

module _ (g : Graph) (s : List Bool) where
  abbrev pub AreLinked : List ℕ → List Frame → ℕ → Type 0
  AreLinked order [] name = Unit {0}
  AreLinked order (f ∷ fs) name =
      (slice_get (graph_steps g f.name) f.place ≡ Some (To (head fs name)))
      × AreDone s order (take f.place (graph_steps g f.name)) × AreLinked order fs name

  pub linked_push : (order : List ℕ) (fs : List Frame) (f : Frame) (m : ℕ) → AreLinked order fs f.name
      → slice_get (graph_steps g f.name) f.place ≡ Some (To m) → AreDone s order (take f.place (graph_steps g f.name))
      → AreLinked order (fs ++ f ∷ []) m
  linked_push order [] f m l e h = (e, h, tt)
  linked_push order (h ∷ fs) f m l e d =
      (l.0 ∙ ap (λ k. Some (To k)) (sym (frame_keeps_path_head fs f m)), l.1, linked_push order fs f m l.2 e d)

  pub linked_pop : (order : List ℕ) (fs : List Frame) (f : Frame) (name : ℕ) → AreLinked order (fs ++ f ∷ []) name
      → AreLinked order fs f.name × (slice_get (graph_steps g f.name) f.place ≡ Some (To name))
      × AreDone s order (take f.place (graph_steps g f.name))
  linked_pop order [] f name l = (tt, l.0, l.1)
  linked_pop order (h ∷ fs) f name l =
      let r = linked_pop order fs f name l.2
      in ((l.0 ∙ ap (λ k. Some (To k)) (frame_keeps_path_head fs f name), l.1, r.0), r.1, r.2)

  pub linked_more : (order : List ℕ) (n : ℕ) (fs : List Frame) (name : ℕ) → AreLinked order fs name
      → AreLinked (order ++ n ∷ []) fs name
  linked_more order n [] name l = tt
  linked_more order n (f ∷ fs) name l = (l.0, walked_steps_stay_walked s order n _ l.1, linked_more order n fs name l.2)

  -- each name of the path leads to the last one
  pub linked_reach : (order : List ℕ) (fs : List Frame) (name : ℕ) → AreLinked order fs name
      → (q : ℕ) → Contains (path_of_frames fs name) q → (q ≡ name) ⊎ GraphReaches g q name
  linked_reach order [] name l q i =
      elim (member_cases q name [] i) [ inl e ↦ inl e | inr j ↦ absurd (no_member q j) ]
  linked_reach order (f ∷ fs) name l q i = elim (member_cases q f.name (path_of_frames fs name) i) [
    | inl e ↦ inr (subst (λ (x : ℕ). GraphReaches g x name) (sym e)
        (elim (linked_reach order fs name l.2 (head fs name) (path_head_is_on_path fs name)) [
          | inl d ↦ subst (λ (x : ℕ). GraphReaches g f.name x) d (at_once (member_at _ _ _ l.0))
          | inr r ↦ further (member_at _ _ _ l.0) r
        ]))
    | inr j ↦ linked_reach order fs name l.2 q j
  ]
