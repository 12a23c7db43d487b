-- The outcomes that are left after some names are forgotten.
use mathlib.Core.Path.{refl, ◌∙◌}
use Rattle.std.specs.Prelude.{◌≡◌, ℕ, Bool, List, Option, Some, map, length, count_by, slice_get}
use Rattle.std.specs.Option.{is_some}
use Rattle.tree_eval.specs.declared.outcome.Outcome.{Outcome}

-- all numbers remain, the count is that of the settled names, each settled name has an outcome, and no outcome is new
pub record AreSettledNumbersLeft (settled still : List Bool) (count rest : ℕ) (old new : List (Option Outcome)) : Type 0
  where
    pub same_length : length still ≡ length settled
    pub outcome_count : length new ≡ length old
    pub count_right : count ≡ count_by (λ b. b) settled → rest ≡ count_by (λ b. b) still
    pub marks_right : settled ≡ map is_some old → still ≡ map is_some new
    pub outcomes : (n : ℕ) (o : Outcome) → slice_get new n ≡ Some (Some o) → slice_get old n ≡ Some (Some o)

abbrev pub settled_numbers_left_at_first : (settled : List Bool) (count : ℕ) (outcomes : List (Option Outcome))
    → AreSettledNumbersLeft settled settled count count outcomes outcomes
settled_numbers_left_at_first settled count outcomes =
    record {
      same_length = refl;
      outcome_count = refl;
      count_right = λ e. e;
      marks_right = λ e. e;
      outcomes = λ n o e.
          e;
    }

abbrev pub settled_numbers_left_in_turn : (settled then still : List Bool) (count some rest : ℕ)
    (old mid new : List (Option Outcome))
    → AreSettledNumbersLeft settled then count some old mid → AreSettledNumbersLeft then still some rest mid new
    → AreSettledNumbersLeft settled still count rest old new
settled_numbers_left_in_turn settled then still count some rest old mid new a b = record {
  same_length = b.same_length ∙ a.same_length;
  outcome_count = b.outcome_count ∙ a.outcome_count;
  count_right = λ e. b.count_right (a.count_right e);
  marks_right = λ e. b.marks_right (a.marks_right e);
  outcomes = λ n o e. a.outcomes n o (b.outcomes n o e);
}
