-- Lists of variables in two parts.
use Rattle.std.proofs.Common.{◌≡◌, ◌++◌, ◌∷◌, [], List, ℕ, Bool, true, false, cond, refl, Some, None}
use Rattle.std.specs.Str.{bytes_eq}
use Rattle.units_io.specs.NamedValues.{HasNoTextOfName, NamedTexts, named_text}

-- a value in the first part is the value in both parts together
pub setting_value_in_first_part : (ps qs : NamedTexts) (name value : List ℕ) → named_text ps name ≡ Some value
    → named_text (ps ++ qs) name ≡ Some value
setting_value_in_first_part [] qs name value e = cc
setting_value_in_first_part (p ∷ ps) qs name value e =
    by (bytes_eq name p.0) (λ h. setting_value_in_first_part ps qs name value h) e
  where
    by : (b : Bool) → (named_text ps name ≡ Some value → named_text (ps ++ qs) name ≡ Some value)
        → cond b (Some p.1) (named_text ps name) ≡ Some value → cond b (Some p.1) (named_text (ps ++ qs) name) ≡ Some
        value
    by true ih h = h
    by false ih h = ih h

-- a name that the first part lacks has its value in the second part
pub setting_value_in_second_part : (ps qs : NamedTexts) (name : List ℕ) → named_text ps name ≡ None
    → named_text (ps ++ qs) name ≡ named_text qs name
setting_value_in_second_part [] qs name e = refl
setting_value_in_second_part (p ∷ ps) qs name e =
    by (bytes_eq name p.0) (λ h. setting_value_in_second_part ps qs name h) e
  where
    by : (b : Bool) → (named_text ps name ≡ None → named_text (ps ++ qs) name ≡ named_text qs name)
        → cond b (Some p.1) (named_text ps name) ≡ None → cond b (Some p.1) (named_text (ps ++ qs) name) ≡ named_text
        qs name
    by true ih h = cc
    by false ih h = ih h

-- if both parts lack a name, so do both together
pub no_setting_in_both_parts : (ps qs : NamedTexts) (name : List ℕ) → HasNoTextOfName ps name → HasNoTextOfName qs name
    → HasNoTextOfName (ps ++ qs) name
no_setting_in_both_parts [] qs name h g = g
no_setting_in_both_parts (p ∷ ps) qs name h g = (h.0, no_setting_in_both_parts ps qs name h.1 g)

-- if both parts together lack a name, so does the second part
pub no_setting_in_second_part : (ps qs : NamedTexts) (name : List ℕ) → HasNoTextOfName (ps ++ qs) name
    → HasNoTextOfName qs name
no_setting_in_second_part [] qs name h = h
no_setting_in_second_part (p ∷ ps) qs name h = no_setting_in_second_part ps qs name h.1
