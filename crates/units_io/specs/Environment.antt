-- Variables from the entries of an environment.
use Rattle.std.specs.Prelude.{◌≡◌, ◌++◌, ◌∷◌, ◌+◌, ◌==◌, [], ℕ, List, Option, Some, None, is_some, take, drop, position}
use Rattle.std.specs.Prelude.{codes, if◌then◌else◌}
use Rattle.std.specs.Str.{is_utf8}
use Rattle.units_io.specs.NamedValues.{NamedTexts, named_text}

-- the variables with one more at the end, unless its name has a value already
abbrev pub process_variables_with_new : NamedTexts → List ℕ → List ℕ → NamedTexts
process_variables_with_new vars name value = if is_some (named_text vars name) then vars else vars ++ (name, value) ∷ []

-- the place of the first `=`
abbrev pub process_entry_mark_place : List ℕ → Option ℕ
process_entry_mark_place = position (λ b. b == 61)

-- the variables with that of an entry whose name ends at this place
abbrev pub process_variables_with_name_to : NamedTexts → List ℕ → Option ℕ → NamedTexts
process_variables_with_name_to vars entry None = vars
process_variables_with_name_to vars entry (Some place) = process_variables_with_new vars (take place entry)
    (drop (place + 1) entry)

-- the variables with that of an entry `NAME=VALUE` in UTF-8; of several with one name the first counts, and any other
-- entry adds none
abbrev pub process_variables_with_entry : NamedTexts → List ℕ → NamedTexts
process_variables_with_entry vars entry = if is_utf8 entry then process_variables_with_name_to vars entry
    (process_entry_mark_place entry) else vars

-- the variables with those of several entries, in order
abbrev pub process_variables_with_entries : NamedTexts → List (List ℕ) → NamedTexts
process_variables_with_entries vars [] = vars
process_variables_with_entries vars (entry ∷ entries) = process_variables_with_entries
    (process_variables_with_entry vars entry) entries

-- law: the variables of some entries
pub record ProcessVariablesLaw : Type 0 where
  pub no_entries : process_variables_with_entries [] [] ≡ []
  pub no_mark : process_variables_with_entries [] (codes "no mark" ∷ [] ∷ []) ≡ []
  pub first_counts : process_variables_with_entries [] (codes "A=1" ∷ codes "A=2" ∷ []) ≡ (codes "A", codes "1") ∷ []
  pub first_mark : process_variables_with_entries [] (codes "B=x=y" ∷ []) ≡ (codes "B", codes "x=y") ∷ []
  pub not_utf8 : process_variables_with_entries [] ((codes "C=" ++ 255 ∷ []) ∷ []) ≡ []
  pub no_name : process_variables_with_entries [] (codes "=D" ∷ []) ≡ ([], codes "D") ∷ []
  pub empty_value : process_variables_with_entries [] (codes "E=" ∷ []) ≡ (codes "E", []) ∷ []
  pub entries_in_order : process_variables_with_entries [] (codes "A=1" ∷ codes "E=" ∷ codes "A=3" ∷ codes "=D" ∷ [])
      ≡ (codes "A", codes "1") ∷ (codes "E", []) ∷ ([], codes "D") ∷ []
