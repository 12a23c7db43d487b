-- Options whose value is computed from others.
use Rattle.std.proofs.Common.{◌≡◌, Bool, true, false, cond, Option, Some, None, is_none, refl}
use Rattle.std.specs.Option.{option_and_then, option_map, option_or}

-- an option without a value is `None`
pub none_is : {A : Type 0} (o : Option A) → is_none o ≡ true → o ≡ None
none_is None e = refl
none_is (Some x) e = cc

-- the first of two options with values is that of the first alone if the second has none
pub or_none : {A : Type 0} (o : Option A) → option_or o None ≡ o
or_none None = refl
or_none (Some x) = refl

-- if neither of two options has a value, the first has none
pub none_first : {A : Type 0} (a b : Option A) → option_or a b ≡ None → a ≡ None
none_first None b e = refl
none_first (Some x) b e = cc

-- if neither of two options has a value, the second has none
pub none_second : {A : Type 0} (a b : Option A) → option_or a b ≡ None → b ≡ None
none_second None b e = e
none_second (Some x) b e = cc

-- a choice is `None` only if the test is false and the alternative is `None`
pub not_chosen : {A : Type 0} (b : Bool) (x : A) (o : Option A) → cond b (Some x) o ≡ None → (b ≡ false) × (o ≡ None)
not_chosen true x o e = cc
not_chosen false x o e = (refl, e)

-- if the image of an option is present, it is the image of a value
pub mapped_some : {A B : Type 0} (f : A → B) (given : Option A) (y : B) → option_map f given ≡ Some y
    → (x : A) × (given ≡ Some x) × (f x ≡ y)
mapped_some f None y e = cc
mapped_some f (Some x) y e = let same : f x ≡ y = cc in (x, refl, same)

-- if two steps have a result, so have both steps
pub and_then_pair : {A B : Type 0} (f : A → Option B) (o : Option A) (y : B) → option_and_then f o ≡ Some y
    → (x : A) × (o ≡ Some x) × (f x ≡ Some y)
and_then_pair f None y e = cc
and_then_pair f (Some x) y e = (x, refl, e)
