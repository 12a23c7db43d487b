-- The keys that a lookup tries in turn.
use Rattle.std.proofs.Common.{◌≡◌, ◌≤◌, ◌+◌, ◌-◌, ◌++◌, ◌∷◌, [], ℕ, suc, List, Some, length, take, drop, refl, ◌∙◌, ap}
use Rattle.std.proofs.Common.{arith, length-append}
use Rattle.std.specs.List.{slice_get}
use Rattle.std.proofs.lemmas.List.{drop-append-le, length-drop, map-append, take-append-le, take_all}
use Rattle.std.proofs.Math.Seq.{drop-append_seam}
use Rattle.def_entry.specs.Keys.{key}
use Rattle.def_entry.specs.declared.key.Kind.{Kind}
use Rattle.live_table.specs.declared.tried_keys.TriedKey.{TriedKey}
use Rattle.live_table.specs.TriedKeys.{AreNodeKeyRangesWithin, node_key_of_range, node_keys_of_ranges}

-- the name of a key does not change when bytes are appended
node_key_range_stays : (names more : List ℕ) (k : TriedKey) → k.start ≤ k.end → k.end ≤ length names
    → node_key_of_range (names ++ more) k ≡ node_key_of_range names k
node_key_range_stays names more k h w =
    let s : k.start ≤ length names = omega (arith, h, w) in
    let n : length (drop k.start names) ≡ length names - k.start = length-drop k.start names in
    let m : k.end - k.start ≤ length (drop k.start names) = omega (arith, h, w, n) in
    ap (λ (xs : List ℕ). key k.kind (take (k.end - k.start) xs)) (drop-append-le k.start names more s)
    ∙ ap (key k.kind) (take-append-le (k.end - k.start) (drop k.start names) more m)

node_key_ranges_stay : (names more : List ℕ) (ks : List TriedKey)
    → ((i : ℕ) (k : TriedKey) → slice_get ks i ≡ Some k → k.start ≤ k.end)
    → ((i : ℕ) (k : TriedKey) → slice_get ks i ≡ Some k → k.end ≤ length names)
    → node_keys_of_ranges (names ++ more) ks ≡ node_keys_of_ranges names ks
node_key_ranges_stay names more [] s e = refl
node_key_ranges_stay names more (k ∷ ks) s e =
    let a : node_key_of_range (names ++ more) k ≡ node_key_of_range names k = node_key_range_stays names more k
    (s 0 k refl) (e 0 k refl) in
    let b : node_keys_of_ranges (names ++ more) ks ≡ node_keys_of_ranges names ks =
    node_key_ranges_stay names more ks (λ i x q. s (suc i) x q) (λ i x q. e (suc i) x q) in
    λ i. a i ∷ b i

-- the bytes after the previous names are the name of the last key
last_node_key_range : (names more : List ℕ) (k : TriedKey) → k.start ≡ length names → k.end ≡ length (names ++ more)
    → node_key_of_range (names ++ more) k ≡ key k.kind more
last_node_key_range names more k s e =
    let n : length (names ++ more) ≡ length names + length more = length-append names more in
    let m : length more ≤ k.end - k.start = omega (arith, s, e, n) in
    ap (λ (x : ℕ). key k.kind (take (k.end - k.start) (drop x (names ++ more)))) s
    ∙ (ap (λ (xs : List ℕ). key k.kind (take (k.end - k.start) xs)) (drop-append_seam names more)
    ∙ ap (key k.kind) (take_all (k.end - k.start) more m))

-- one more key is appended
pub tried_node_key_is_appended : (names more all : List ℕ) (ks now : List TriedKey) (kind : Kind) (start end : ℕ)
    → AreNodeKeyRangesWithin names ks
    → all ≡ names ++ more → now ≡ ks ++ record { kind = kind; start = start; end = end } ∷ []
    → start ≡ length names → end ≡ length all
    → node_keys_of_ranges all now ≡ node_keys_of_ranges names ks ++ key kind more ∷ []
tried_node_key_is_appended names more all ks now kind start end w a n s e =
    let k : TriedKey = record { kind = kind; start = start; end = end } in
    (λ i. node_keys_of_ranges (a i) (n i))
    ∙ (map-append (node_key_of_range (names ++ more)) ks (k ∷ [])
    ∙ (λ i. node_key_ranges_stay names more ks w.starts_within w.ends_within i ++ last_node_key_range names more k s
    (e ∙ ap length a) i ∷
    []))
