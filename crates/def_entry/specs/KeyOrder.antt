-- The order of keys, and their encoding.
use Rattle.std.specs.Prelude.{◌≡◌, ℕ, List, [], ◌∷◌, refl, slice_index_or}
use Rattle.std.specs.Cmp.{IsTotalOrder}
use Rattle.std.specs.Cmp.Lexicographic.{slice_cmp}
use Rattle.std.specs.Coded.{Coded, code_by, coded×, coded_list, coded_ℕ}
use Rattle.std.specs.declared.cmp.Ordering.{Ordering}
use Rattle.std.specs.declared.cmp.Ordering.TheVariants.{Equal}
use Rattle.std.specs.Ordering.{nat_cmp, on, then_cmp}
use Rattle.def_entry.specs.declared.key.Key.{Key}
use Rattle.def_entry.specs.declared.key.Kind.{Kind}
use Rattle.def_entry.specs.declared.key.Kind.TheVariants as kind

-- the position of a kind in the order of kinds
abbrev pub key_order_number : Kind → ℕ
key_order_number kind.Unit = 0
key_order_number kind.Prefix = 1
key_order_number kind.Func = 2
key_order_number kind.List = 3

abbrev pub kind_at_key_order : ℕ → Kind
kind_at_key_order n = slice_index_or (kind.Unit ∷ kind.Prefix ∷ kind.Func ∷ []) n kind.List

-- the order of keys by the bytes of their names, and then by kind
abbrev pub key_cmp : Key → Key → Ordering
key_cmp = then_cmp (on (λ k. k.name) (slice_cmp nat_cmp)) (on (λ k. key_order_number k.kind) nat_cmp)

abbrev pub kind_at_its_key_order : (k : Kind) → kind_at_key_order (key_order_number k) ≡ k
kind_at_its_key_order kind.Unit = refl
kind_at_its_key_order kind.Prefix = refl
kind_at_its_key_order kind.Func = refl
kind_at_its_key_order kind.List = refl

-- the encoding of a key as the number of its kind and its name
abbrev pub key_order_code : Coded Key
key_order_code =
    code_by _ (coded× coded_ℕ (coded_list coded_ℕ)) (λ k. (key_order_number k.kind, k.name))
    (λ p. record { kind = kind_at_key_order p.0; name = p.1 })
    (λ k i. record { kind = kind_at_its_key_order k.kind i; name = k.name })

-- law: the order of keys is total, and only equal keys tie
pub record KeyOrderLaw : Type 0 where
  pub total_order : IsTotalOrder key_cmp
  pub equal_keys : (k l : Key) → key_cmp k l ≡ Equal → k ≡ l
