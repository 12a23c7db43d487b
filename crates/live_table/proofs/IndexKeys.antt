-- Keys in the form of bytes, by number.
use Rattle.smallvec.specs.SmallVec.{SmallVec}
use Rattle.std.proofs.Common.{◌≡◌, ◌≤◌, ◌||◌, ◌&&◌, ℕ, suc, Bool, true, false, not, cond, eqb, List, [], ◌∷◌, ◌++◌}
use Rattle.std.proofs.Common.{length, Option, Some, None, is_some, option_map, refl, sym, ◌∙◌, ap, subst, arith, get_or}
use Rattle.std.specs.Prelude.{MatchBool, MatchOption}
use Rattle.std.specs.List.{All, list_any, position, slice_get}
use Rattle.std.specs.Str.{bytes_eq}
use Rattle.std.specs.Cmp.Lexicographic.{bytes_decides}
use Rattle.std.proofs.lemmas.Bool.{false_from_ne_true}
use Rattle.std.proofs.lemmas.List.{map-append}
use Rattle.std.proofs.lemmas.List.Quantifiers.{position-Some}
use Rattle.std.proofs.lemmas.Option.{slice_get-get_or, slice_get-map}
use Rattle.std.proofs.lemmas.List.Elements.{All-tail}
use Rattle.indexmap.specs.IndexSet.{insert_key}
use Rattle.def_entry.specs.declared.key.Key.{Key}
use Rattle.def_entry.specs.declared.key.Kind.{Kind}
use Rattle.def_entry.specs.declared.key.Kind.TheVariants as kind
use Rattle.def_entry.specs.KeyOrder.{key_order_number, kind_at_its_key_order}
use Rattle.def_entry.specs.SameKeys.{is_entry_key_among, is_same_entry_key, is_same_key_kind}
use Rattle.def_entry.proofs.SameKeys.{same_entry_keys}
use Rattle.live_table.specs.KeyIndex.{IsNodeKeyAdded, IsStoredNodeKey, decoded_node_key, decoded_node_keys}
use Rattle.live_table.specs.KeyIndex.{node_key_bytes}

-- ---- properties of all items
all_head : {A : Type 0} (P : A → Type 0) (x : A) (xs : List A) → All P (x ∷ xs) → P x
all_head P x xs h = h 0 x (omega arith)

-- ---- a key in the form of bytes
-- kinds have the same number exactly if they are equal
node_kind_numbers_tell_kinds : (a b : Kind) → eqb (key_order_number a) (key_order_number b) ≡ is_same_key_kind a b
node_kind_numbers_tell_kinds kind.Unit kind.Unit = refl
node_kind_numbers_tell_kinds kind.Unit kind.Prefix = refl
node_kind_numbers_tell_kinds kind.Unit kind.Func = refl
node_kind_numbers_tell_kinds kind.Unit kind.List = refl
node_kind_numbers_tell_kinds kind.Prefix kind.Unit = refl
node_kind_numbers_tell_kinds kind.Prefix kind.Prefix = refl
node_kind_numbers_tell_kinds kind.Prefix kind.Func = refl
node_kind_numbers_tell_kinds kind.Prefix kind.List = refl
node_kind_numbers_tell_kinds kind.Func kind.Unit = refl
node_kind_numbers_tell_kinds kind.Func kind.Prefix = refl
node_kind_numbers_tell_kinds kind.Func kind.Func = refl
node_kind_numbers_tell_kinds kind.Func kind.List = refl
node_kind_numbers_tell_kinds kind.List kind.Unit = refl
node_kind_numbers_tell_kinds kind.List kind.Prefix = refl
node_kind_numbers_tell_kinds kind.List kind.Func = refl
node_kind_numbers_tell_kinds kind.List kind.List = refl

-- the bytes of a key encode the key
node_key_bytes_encode_key : (k : Key) → decoded_node_key (node_key_bytes k) ≡ k
node_key_bytes_encode_key k = λ i. record { kind = kind_at_its_key_order k.kind i; name = k.name }

-- the bytes of a key equal other bytes exactly if those encode the key
node_key_bytes_are_unique : (k : Key) (s : List ℕ) → node_key_bytes (decoded_node_key s) ≡ s
    → bytes_eq (node_key_bytes k) s ≡ is_same_entry_key k
    (decoded_node_key s)
node_key_bytes_are_unique k s e =
    ap (bytes_eq (node_key_bytes k)) (sym e)
    ∙ ap (λ (b : Bool). b && bytes_eq k.name (decoded_node_key s).name)
    (node_kind_numbers_tell_kinds k.kind (decoded_node_key s).kind)

-- bytes that are found equal to those of a key encode the key
equal_node_bytes_encode_key : (k : Key) (w s : List ℕ) → w ≡ node_key_bytes k → bytes_eq w s ≡ true
    → decoded_node_key s ≡ k
equal_node_bytes_encode_key k w s e t = ap decoded_node_key (sym ((bytes_decides w s).0 t) ∙ e)
    ∙ node_key_bytes_encode_key k

-- ---- the keys of an index
module _ (room : ℕ) where
  -- a key is among the keys exactly if its bytes are among theirs
  among_stored : (ss : List (SmallVec ℕ)) (k : Key) → All (IsStoredNodeKey room) ss
      → list_any (λ s. bytes_eq (node_key_bytes k) s.items) ss ≡ is_entry_key_among (decoded_node_keys ss) k
  among_stored [] k h = refl
  among_stored (s ∷ ss) k h =
      let here : bytes_eq (node_key_bytes k) s.items ≡ is_same_entry_key k (decoded_node_key s.items) =
      node_key_bytes_are_unique k s.items
      (all_head (IsStoredNodeKey room) s ss h).0 in
      let there : list_any (λ s. bytes_eq (node_key_bytes k) s.items) ss ≡ is_entry_key_among (decoded_node_keys ss) k =
      among_stored ss k
      (All-tail (IsStoredNodeKey room) s ss h) in
      λ i. here i || there i

  -- a key is among the keys exactly if equal bytes are among theirs
  pub among_found : (ss : List (SmallVec ℕ)) (k : Key) (w : List ℕ) → All (IsStoredNodeKey room) ss
      → w ≡ node_key_bytes k
      → list_any (λ s. bytes_eq w s.items) ss ≡ is_entry_key_among (decoded_node_keys ss) k
  among_found ss k w h e = ap (λ (b : List ℕ). list_any (λ s. bytes_eq b s.items) ss) e ∙ among_stored ss k h

  -- none of the keys is longer than the room
  pub too_long : (ss : List (SmallVec ℕ)) (k : Key) → All (IsStoredNodeKey room) ss → room ≤ length k.name
      → is_entry_key_among (decoded_node_keys ss) k ≡ false
  too_long [] k h le = refl
  too_long (s ∷ ss) k h le = λ i. other i || too_long ss k (All-tail (IsStoredNodeKey room) s ss h) le i
    where
      other : is_same_entry_key k (decoded_node_key s.items) ≡ false
      other = false_from_ne_true (is_same_entry_key k (decoded_node_key s.items))
          (λ t.
          let p = all_head (IsStoredNodeKey room) s ss h in
          let same : length k.name ≡ length (decoded_node_key s.items).name = ap (λ (q : Key). length q.name)
          ((same_entry_keys k (decoded_node_key s.items)).0 t) in
          let size : suc (length (decoded_node_key s.items).name) ≡ length s.items = ap length p.0 in
          let fits : length s.items ≤ room = p.1 in
          absurd (omega arith))

  -- the result of a lookup
  pub number_in : (ss : List (SmallVec ℕ)) (k : Key) (w : List ℕ) (r : Option ℕ) → All (IsStoredNodeKey room) ss
      → w ≡ node_key_bytes k
      → r ≡ position (λ s. bytes_eq w s.items) ss → is_some r ≡ list_any (λ s. bytes_eq w s.items) ss
      → MatchOption r (is_entry_key_among (decoded_node_keys ss) k ≡ false)
      (λ n. slice_get (decoded_node_keys ss) n ≡ Some k)
  number_in ss k w None h e at found = sym (among_found ss k w h e) ∙ sym found
  number_in ss k w (Some n) h e at found =
      let none : SmallVec ℕ = record { items = []; capacity = 0 } in
      let p = position-Some (λ (s : SmallVec ℕ). bytes_eq w s.items) ss n none (sym at) in
      slice_get-map (λ (s : SmallVec ℕ). decoded_node_key s.items) ss n
      ∙ (ap (option_map (λ (s : SmallVec ℕ). decoded_node_key s.items)) (slice_get-get_or ss n none p.0)
      ∙ ap Some (equal_node_bytes_encode_key k w (get_or ss n none).items e p.1))

-- ---- one more key
module _ (room : ℕ) (ss more : List (SmallVec ℕ)) (k : Key) (v : SmallVec ℕ) (h : All (IsStoredNodeKey room) ss)
    (is : v.items ≡ node_key_bytes k) (put : more ≡ insert_key (λ a b. bytes_eq a.items b.items) ss v) where
  -- these are the keys, with the additional one if it is new
  abbrev AreThose : Bool → Type 0
  AreThose b = MatchBool b
      ((is_entry_key_among (decoded_node_keys ss) k ≡ false)
      × (decoded_node_keys more ≡ decoded_node_keys ss ++ k ∷ []))
      (decoded_node_keys more ≡ decoded_node_keys ss)

  -- a key has a number, the next one if it had none
  pub key_gets_number : (n : ℕ) (is_new : Bool) → is_new ≡ not (list_any (λ s. bytes_eq v.items s.items) ss)
      → ((s : SmallVec ℕ) × (slice_get more n ≡ Some s) × (bytes_eq v.items s.items ≡ true))
      → IsNodeKeyAdded k (decoded_node_keys ss) (decoded_node_keys more) n is_new
  key_gets_number n is_new flag at = record {
    number = slice_get-map (λ (s : SmallVec ℕ). decoded_node_key s.items) more n
        ∙ (ap (option_map (λ (s : SmallVec ℕ). decoded_node_key s.items)) at.1
        ∙ ap Some (equal_node_bytes_encode_key k v.items at.0.items is at.2));
    keys = by (list_any (λ s. bytes_eq v.items s.items) ss) refl flag put;
  }
    where
      by : (b : Bool) → list_any (λ s. bytes_eq v.items s.items) ss ≡ b → is_new ≡ not b
          → more ≡ cond b ss (ss ++ v ∷ []) → AreThose is_new
      by true f q e = subst AreThose (sym q) (ap decoded_node_keys e)
      by false f q e = subst AreThose (sym q) (
        sym (among_found room ss k v.items h is) ∙ f,
        ap decoded_node_keys e ∙ (map-append (λ (s : SmallVec ℕ). decoded_node_key s.items) ss (v ∷ [])
            ∙ (λ i. decoded_node_keys ss ++ (ap decoded_node_key is ∙ node_key_bytes_encode_key k) i ∷ [])),
      )
