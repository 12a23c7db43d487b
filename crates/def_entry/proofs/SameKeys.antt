-- Keys for which the test for the same key is true are equal.
use Rattle.std.proofs.Common.{◌≡◌, true, refl, sym, ap, ◌∙◌, subst}
use Rattle.std.specs.declared.cmp.Ordering.{Ordering}
use Rattle.std.specs.declared.cmp.Ordering.TheVariants.{Less, Equal, Greater}
use Rattle.std.specs.Cmp.{nat_cmp_total, on_total, then_total}
use Rattle.std.specs.Cmp.Lexicographic.{nat_list_cmp_total, slice_cmp}
use Rattle.std.specs.FinMap as map_of
use Rattle.std.specs.Ordering.{nat_cmp, ordering_then}
use Rattle.std.specs.Str.{bytes_eq}
use Rattle.std.proofs.lemmas.Bool.{and_from, and_parts}
use Rattle.std.proofs.lemmas.Slice.Eq.{bytes_eq-Decides}
use Rattle.def_entry.specs.declared.key.Key.{Key}
use Rattle.def_entry.specs.declared.key.Kind.{Kind}
use Rattle.def_entry.specs.declared.key.Kind.TheVariants as kind
use Rattle.def_entry.specs.KeyOrder.{KeyOrderLaw, key_cmp, key_order_number, kind_at_its_key_order, kind_at_key_order}
use Rattle.def_entry.specs.SameKeys.{SameEntryKeysLaw, is_same_entry_key, is_same_key_kind}

-- kinds for which the test is true are equal
same_key_kinds_are_equal : (a b : Kind) → is_same_key_kind a b ≡ true → a ≡ b
same_key_kinds_are_equal kind.Unit kind.Unit e = refl
same_key_kinds_are_equal kind.Unit kind.Prefix e = cc
same_key_kinds_are_equal kind.Unit kind.Func e = cc
same_key_kinds_are_equal kind.Unit kind.List e = cc
same_key_kinds_are_equal kind.Prefix kind.Unit e = cc
same_key_kinds_are_equal kind.Prefix kind.Prefix e = refl
same_key_kinds_are_equal kind.Prefix kind.Func e = cc
same_key_kinds_are_equal kind.Prefix kind.List e = cc
same_key_kinds_are_equal kind.Func kind.Unit e = cc
same_key_kinds_are_equal kind.Func kind.Prefix e = cc
same_key_kinds_are_equal kind.Func kind.Func e = refl
same_key_kinds_are_equal kind.Func kind.List e = cc
same_key_kinds_are_equal kind.List kind.Unit e = cc
same_key_kinds_are_equal kind.List kind.Prefix e = cc
same_key_kinds_are_equal kind.List kind.Func e = cc
same_key_kinds_are_equal kind.List kind.List e = refl

-- a kind is the same as itself
key_kind_is_same_as_itself : (a : Kind) → is_same_key_kind a a ≡ true
key_kind_is_same_as_itself kind.Unit = refl
key_kind_is_same_as_itself kind.Prefix = refl
key_kind_is_same_as_itself kind.Func = refl
key_kind_is_same_as_itself kind.List = refl

-- keys for which the test is true are equal
same_entry_keys_are_equal : (a b : Key) → is_same_entry_key a b ≡ true → a ≡ b
same_entry_keys_are_equal a b e =
    let parts : (is_same_key_kind a.kind b.kind ≡ true) × (bytes_eq a.name b.name ≡ true) = and_parts _ _ e in
    let k : a.kind ≡ b.kind = same_key_kinds_are_equal a.kind b.kind parts.0 in
    let n : a.name ≡ b.name = (bytes_eq-Decides a.name b.name).0 parts.1 in
    λ i. record { kind = k i; name = n i }

-- a key is the same as itself
entry_key_is_same_as_itself : (a : Key) → is_same_entry_key a a ≡ true
entry_key_is_same_as_itself a = and_from _ _ (key_kind_is_same_as_itself a.kind)
    ((bytes_eq-Decides a.name a.name).1 refl)

-- the law of the same keys
pub same_entry_keys : SameEntryKeysLaw
same_entry_keys a b = (
  same_entry_keys_are_equal a b,
  λ e. subst (λ (x : Key). is_same_entry_key a x ≡ true) e
      (entry_key_is_same_as_itself a),
)

-- if two orders in sequence tie, the first one ties
first_key_order_ties : (r s : Ordering) → ordering_then r s ≡ Equal → r ≡ Equal
first_key_order_ties Less s e = cc
first_key_order_ties Equal s e = refl
first_key_order_ties Greater s e = cc

-- if two orders in sequence tie, the second one ties
second_key_order_ties : (r s : Ordering) → ordering_then r s ≡ Equal → s ≡ Equal
second_key_order_ties Less s e = cc
second_key_order_ties Equal s e = e
second_key_order_ties Greater s e = cc

-- only equal keys tie
key_order_ties_equal_keys : (k l : Key) → key_cmp k l ≡ Equal → k ≡ l
key_order_ties_equal_keys k l e =
    let names = slice_cmp nat_cmp k.name l.name in
    let kinds = nat_cmp (key_order_number k.kind) (key_order_number l.kind) in
    let n : k.name ≡ l.name =
    map_of.slice_cmp-IsAntisymmetric map_of.nat_cmp-IsAntisymmetric k.name l.name (first_key_order_ties names kinds e)
    in
    let i : key_order_number k.kind ≡ key_order_number l.kind =
    map_of.nat_cmp-IsAntisymmetric (key_order_number k.kind) (key_order_number l.kind)
    (second_key_order_ties names kinds e) in
    let j : k.kind ≡ l.kind = sym (kind_at_its_key_order k.kind)
    ∙ (ap kind_at_key_order i ∙ kind_at_its_key_order l.kind) in
    λ t. record { kind = j t; name = n t }

-- the law of the order of keys
pub key_order : KeyOrderLaw
key_order = record {
  total_order = then_total (on_total (λ (k : Key). k.name) nat_list_cmp_total)
      (on_total (λ (k : Key). key_order_number k.kind) nat_cmp_total);
  equal_keys = key_order_ties_equal_keys;
}
