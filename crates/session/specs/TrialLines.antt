-- The generated definitions and lines of a trial.
use Rattle.std.specs.Prelude.{◌≡◌, ◌++◌, ◌+◌, ◌*◌, ◌/◌, ◌%◌, [], ℕ, zero, suc, List, codes}
use Rattle.std.specs.Fmt.{decimal}

-- the name of the unit with a number
abbrev pub trial_unit_name : ℕ → List ℕ
trial_unit_name i = codes "u_" ++ decimal i

-- the line that defines unit `i` as `factor` times unit `j`
abbrev pub trial_multiple_line : (i factor j : ℕ) → List ℕ
trial_multiple_line i factor j = ((trial_unit_name i ++ codes " ") ++ (decimal factor ++ codes " "))
    ++ (trial_unit_name j ++ codes "\n")

-- the definitions up to that of unit `n`: each unit is one, two or three times the unit with half its number
abbrev pub trial_definitions : ℕ → List ℕ
trial_definitions zero = codes "u_0 !\n"
trial_definitions (suc n) = trial_definitions n ++ trial_multiple_line (suc n) (1 + suc n % 3) (suc n / 2)

-- the k-th round of a trial of n rounds: an edit, and a conversion of some unit to `u_0`
abbrev pub trial_round : (n k : ℕ) → ℕ
trial_round n k = 1 + 7 * k % n

abbrev pub trial_query : (n k : ℕ) → ℕ
trial_query n k = 1 + 11 * k % n

abbrev pub trial_round_text : (n k : ℕ) → List ℕ
trial_round_text n k =
    (codes ":define " ++ trial_multiple_line (trial_round n k) (2 + k % 3) (trial_round n k / 2))
    ++ (trial_unit_name (trial_query n k) ++ codes "\nu_0\n")

-- the first k rounds of a trial of n rounds
abbrev pub trial_rounds_text : (n k : ℕ) → List ℕ
trial_rounds_text n zero = []
trial_rounds_text n (suc k) = trial_rounds_text n k ++ trial_round_text n (suc k)

-- law: the definitions of a trial of three rounds, and its second round
pub record TrialExamples : Type 0 where
  pub three_units : trial_definitions 3 ≡ codes "u_0 !\nu_1 2 u_0\nu_2 3 u_1\nu_3 1 u_1\n"
  pub second_round : trial_round_text 3 2 ≡ codes ":define u_3 4 u_1\nu_2\nu_0\n"
