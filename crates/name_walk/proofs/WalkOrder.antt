-- The names that a walk has closed.
use Rattle.std.proofs.Common.{◌≡◌, ℕ, ◌<◌, Bool, List, [], ◌∷◌, ◌++◌, length, set, Some, ◌∙◌, subst, inl, inr}
use Rattle.std.proofs.Common.{length-set, Contains}
use Rattle.std.specs.List.{slice_get}
use Rattle.std.proofs.lemmas.Bool.{false_from_ne_true}
use Rattle.std.proofs.lemmas.Cmp.{nat_eq_equiv}
use Rattle.std.proofs.lemmas.Map.Keys.{IsDistinct-push}
use Rattle.std.proofs.lemmas.Option.{slice_get_within}
use Rattle.std.proofs.lemmas.List.Elements.{Contains-push_cases}
use Rattle.name_walk.specs.declared.mark.Mark.{Mark}
use Rattle.name_walk.specs.declared.mark.Mark.TheVariants.{Closed, OnPath, Open}
use Rattle.name_walk.specs.ClosedNames.{IsClosedInGraph, IsSettledInGraph, IsSettledOrWalked}
use Rattle.name_walk.specs.Faults.{is_on_path}
use Rattle.name_walk.specs.Steps.{Graph, GraphLeadsTo}
use Rattle.name_walk.specs.Traces.{AreWalkMarksOpen}
use Rattle.name_walk.specs.Visits.{AreInWalkOrder}
use Rattle.name_walk.proofs.Marks.{entered_again, entered_push, marked_name_was_entered_by_walk, marked_push}
use Rattle.name_walk.proofs.Marks.{marked_same, walk_marks_exclude_each_other}
use Rattle.name_walk.proofs.DoneNames.{ordered_push}
use Rattle.name_walk.proofs.Members.{on_path_member}
use Rattle.general_lemmas.proofs.Properties.{nothing_twice}
use Rattle.general_lemmas.proofs.Members.{no_member}

-- a property of the names of a list and of one more name holds for all of them
pub either_new : {P : ℕ → Type 0} (xs : List ℕ) (x : ℕ) → ((n : ℕ) → Contains xs n → P n) → P x → (n : ℕ)
    → Contains (xs ++ x ∷ []) n → P n
either_new {P} xs x f p n i = elim (Contains-push_cases xs x n i) [ inl j ↦ f n j | inr e ↦ subst P e p ]

module _ (g : Graph) (s : List Bool) where
  -- at the start no name is closed
  pub ordering_start : (ms : List Mark) → length ms ≡ length g → AreWalkMarksOpen ms → AreInWalkOrder g s ms [] []
  ordering_start ms size are_open = record {
    mark_per_name = size;
    marked_in_order = λ n. (
      λ h. let o : slice_get ms n ≡ Some Open = are_open n (slice_get_within ms n Closed h) in absurd (cc),
      λ i. absurd (no_member n i),
    );
    names_closed = λ n i. absurd (no_member n i);
    names_not_settled = λ n i. absurd (no_member n i);
    names_differ = nothing_twice;
    targets_before = tt;
    names_entered = record { names_within = λ n i. absurd (no_member n i); open_or_listed = λ n l. inl (are_open n l) };
  }

  -- an open name is put on the path
  pub ordering_enter : (ms : List Mark) (es os : List ℕ) (n : ℕ) → AreInWalkOrder g s ms es os
      → slice_get ms n ≡ Some Open
      → AreInWalkOrder g s (set ms n OnPath) (es ++ n ∷ []) os
  ordering_enter ms es os n h is_open =
      let there : n < length ms = slice_get_within ms n Open is_open in
      record {
        mark_per_name = length-set ms n OnPath ∙ h.mark_per_name;
        marked_in_order = marked_same ms n there Closed OnPath os h.marked_in_order (λ e. cc)
            (walk_marks_exclude_each_other Closed Open ms os h.marked_in_order (λ e. cc) n is_open);
        names_closed = h.names_closed;
        names_not_settled = h.names_not_settled;
        names_differ = h.names_differ;
        targets_before = h.targets_before;
        names_entered = entered_push ms n there OnPath es h.names_entered;
      }

  -- a name on the path is closed
  pub ordering_close : (ms : List Mark) (es os : List ℕ) (n : ℕ) → AreInWalkOrder g s ms es os
      → slice_get ms n ≡ Some OnPath
      → IsClosedInGraph g n → (IsSettledInGraph s n → ⊥) → ((m : ℕ) → GraphLeadsTo g n m → IsSettledOrWalked s os m)
      → AreInWalkOrder g s (set ms n Closed) es (os ++ n ∷ [])
  ordering_close ms es os n h on_path closed fresh done =
      let there : n < length ms = slice_get_within ms n OnPath on_path in
      record {
        mark_per_name = length-set ms n Closed ∙ h.mark_per_name;
        marked_in_order = marked_push ms n there Closed os h.marked_in_order;
        names_closed = either_new {P = λ m. IsClosedInGraph g m} os n h.names_closed closed;
        names_not_settled = either_new {P = λ m. IsSettledInGraph s m → ⊥} os n h.names_not_settled fresh;
        names_differ = IsDistinct-push nat_eq_equiv os n h.names_differ
            (false_from_ne_true (is_on_path os n)
            (λ e. walk_marks_exclude_each_other Closed OnPath ms os h.marked_in_order (λ q. cc) n on_path
            (on_path_member os n e)));
        targets_before = ordered_push g s [] os n h.targets_before done;
        names_entered = entered_again ms n there Closed es
            (marked_name_was_entered_by_walk OnPath (λ q. cc) ms es n h.names_entered on_path)
            h.names_entered;
      }
