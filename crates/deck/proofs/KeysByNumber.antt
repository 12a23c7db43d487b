-- Collecting keys, one number after another.
use Rattle.std.proofs.Common.{◌≡◌, ◌++◌, ◌∷◌, ◌+◌, ◌<◌, [], ℕ, zero, suc, List, Bool, length, drop, append_assoc, refl}
use Rattle.std.proofs.Common.{sym, ap, ◌∙◌, arith, Some, option_map, slice_get}
use Rattle.def_entry.specs.declared.key.Key.{Key}
use Rattle.def_entry.specs.declared.key.Kind.{Kind}
use Rattle.def_entry.specs.Keys.{key}
use Rattle.deck_lines.specs.Names.{KeyNumberNames, key_number_names_of_kind, key_numbered}
use Rattle.deck_lines.specs.declared.key_number.KeyNumber.{KeyNumber}
use Rattle.deck.specs.Numbers.{deck_key_if, deck_keys_where}

-- from an index on, the names begin with the name there
pub deck_names_from_index : (ns : List (List ℕ)) (i : ℕ) → i < length ns
    → (name : List ℕ) × (slice_get ns i ≡ Some name)
    × (drop i ns ≡ name ∷ drop (i + 1) ns)
deck_names_from_index [] i h = absurd (omega arith)
deck_names_from_index (n ∷ ns) zero h = (n, refl, refl)
deck_names_from_index (n ∷ ns) (suc i) h =
    let next : suc (i + 1) ≡ suc i + 1 = omega arith in
    let p = deck_names_from_index ns i (omega arith) in
    (p.0, p.1, p.2 ∙ ap (λ j. p.0 ∷ drop j (n ∷ ns)) next)

-- the keys that pass a test, extended by the key with the next number
pub deck_keys_where_step : (test : KeyNumber → Bool) (names : KeyNumberNames) (kind : Kind) (i : ℕ)
    (keys now whole : List Key)
    → i < length (key_number_names_of_kind names kind) →
    keys ++ deck_keys_where test kind i (drop i (key_number_names_of_kind names kind)) ≡ whole →
    now ≡ keys ++ deck_key_if (test (record { kind = kind; number = i }))
    (key_numbered names (record { kind = kind; number = i }))
    →
    now ++ deck_keys_where test kind (i + 1) (drop (i + 1) (key_number_names_of_kind names kind)) ≡ whole
deck_keys_where_step test names kind i keys now whole h e f =
    let p = deck_names_from_index (key_number_names_of_kind names kind) i h in
    let here = deck_key_if (test (record { kind = kind; number = i })) (Some (key kind p.0)) in
    let rest = deck_keys_where test kind (i + 1) (drop (i + 1) (key_number_names_of_kind names kind)) in
    ap (λ ks. ks ++ rest)
    (f ∙ ap (λ o. keys ++ deck_key_if (test (record { kind = kind; number = i })) (option_map (key kind) o)) p.1)
    ∙ append_assoc keys here rest
    ∙ sym (ap (λ ns. keys ++ deck_keys_where test kind i ns) p.2) ∙ e
