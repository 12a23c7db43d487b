-- Keys with valid names, and the information in their texts.
use Rattle.std.proofs.Common.{◌≡◌, ◌≢◌, ◌==◌, ◌&&◌, ◌<◌, ◌+◌, ◌-◌, ℕ, Bool, true, false, List, ◌++◌, length, take, drop}
use Rattle.std.proofs.Common.{get_or, Option, Some, None, if◌then◌else◌, codes, refl, sym, ap, subst, ◌∙◌, arith}
use Rattle.std.proofs.Common.{length-append, true≢false, Bor, MatchOption}
use Rattle.std.specs.Prelude.{nat_lt, slice_index}
use Rattle.std.specs.List.{list_all}
use Rattle.std.specs.Str.{bytes_eq}
use Rattle.std.proofs.lemmas.Bool.{and_from, and_parts, eq-eqb, eqb-true, ltb-true, ne_eqb, true_from_ne_false}
use Rattle.std.proofs.lemmas.List.{get_or-append_right}
use Rattle.std.proofs.lemmas.List.Folds.{list_all_at}
use Rattle.std.proofs.lemmas.Slice.Eq.{bytes_eq-Decides, strip_suffix_is}
use Rattle.std.proofs.Math.Seq.{take-append_seam}
use Rattle.expr_tree.specs.Names.{is_name, is_spelled, is_word_byte, last_byte, may_begin}
use Rattle.def_entry.specs.declared.key.Key.{Key}
use Rattle.def_entry.specs.declared.key.Kind.{Kind}
use Rattle.def_entry.specs.declared.key.Kind.TheVariants as kind
use Rattle.def_entry.specs.Keys.{IsNamedEntryKey, IsNoKeySpelling, KeyOfSpellingLaw, OneKeySpellingLaw}
use Rattle.def_entry.specs.Keys.{is_spelling_of_key, key, key_in_spelling, key_of_spelling, key_text}
use Rattle.def_entry.specs.Keys.{key_spelling, kind_in_spelling, name_in_spelling}

-- a byte that passes a test differs from a byte that fails it
spelling_bytes_differ_by_test : (p : ℕ → Bool) (n b : ℕ) → p n ≡ false → p b ≡ true → (b == n) ≡ false
spelling_bytes_differ_by_test p n b fails passes = ne_eqb b n (λ e. true≢false (sym passes ∙ (ap p e ∙ fails)))

-- if four tests hold, the first one does
first_spelling_test_holds : (a b c d : Bool) → (a && b && c && d) ≡ true → a ≡ true
first_spelling_test_holds true b c d h = refl
first_spelling_test_holds false b c d h = cc

-- if five tests hold, the first, the third and the fifth do
odd_spelling_tests_hold : (a b c d e : Bool) → (a && b && c && d && e) ≡ true → (a ≡ true) × (c ≡ true) × (e ≡ true)
odd_spelling_tests_hold true true true true true h = (refl, refl, refl)
odd_spelling_tests_hold true true true true false h = absurd (true≢false (sym h))
odd_spelling_tests_hold true true true false e h = absurd (true≢false (sym h))
odd_spelling_tests_hold true true false d e h = absurd (true≢false (sym h))
odd_spelling_tests_hold true false c d e h = absurd (true≢false (sym h))
odd_spelling_tests_hold false b c d e h = absurd (true≢false (sym h))

-- a valid name is not empty, does not start with `!`, and consists of word bytes
spelled_name_parts : (w : List ℕ) → is_name w ≡ true → (0 < length w) × ((slice_index w 0 == 33) ≡ false)
    × (list_all is_word_byte w ≡ true)
spelled_name_parts w h =
    let parts : (nat_lt 0 (length w) ≡ true) × (may_begin (slice_index w 0) ≡ true) × (list_all is_word_byte w ≡ true) =
    odd_spelling_tests_hold _ _ _ _ _ (first_spelling_test_holds (is_spelled w) _ _ _ h) in
    (ltb-true 0 (length w) parts.0, spelling_bytes_differ_by_test may_begin 33 (slice_index w 0) refl parts.1, parts.2)

-- the last byte of a valid name is a word byte
spelled_name_last_byte : (w : List ℕ) → is_name w ≡ true → is_word_byte (last_byte w) ≡ true
spelled_name_last_byte w h =
    let parts : (0 < length w) × ((slice_index w 0 == 33) ≡ false) × (list_all is_word_byte w ≡ true) =
    spelled_name_parts w h in
    true_from_ne_false _ (λ e.
    true≢false (sym parts.2 ∙ list_all_at is_word_byte w (length w - 1) 0 (omega (arith, parts.0)) e))

-- the last byte of two texts is that of the second, if it is not empty
pub spelling_last_byte_after : (w bs : List ℕ) → 0 < length bs → last_byte (w ++ bs) ≡ last_byte bs
spelling_last_byte_after w bs h =
    get_or-append_right w bs (length w) (length (w ++ bs) - 1) 0 refl (omega (arith, length-append w bs))
    ∙ ap (λ n. get_or bs n 0) (omega (arith, length-append w bs))

-- the kind that the last and the first byte indicate
abbrev kind_by_bytes : ℕ → ℕ → Kind
kind_by_bytes last first = if last == 41 then kind.Func
    else (if last == 45 then kind.Prefix else (if first == 33 then kind.List else kind.Unit))

-- if neither test holds, the choice is the last kind
spelling_kind_if_neither : (a b : Bool) (k : Kind) → a ≡ false → b ≡ false
    → (if a then kind.Func else (if b then kind.Prefix else k))
    ≡ k
spelling_kind_if_neither false false k e f = refl
spelling_kind_if_neither true b k e f = absurd (true≢false e)
spelling_kind_if_neither false true k e f = absurd (true≢false f)

-- a key that ends in a word byte is a list or a unit
spelling_kind_without_mark : (last first : ℕ) → is_word_byte last ≡ true
    → kind_by_bytes last first ≡ (if first == 33 then kind.List else kind.Unit)
spelling_kind_without_mark last first h =
    spelling_kind_if_neither (last == 41) (last == 45) _ (spelling_bytes_differ_by_test is_word_byte 41 last refl h)
    (spelling_bytes_differ_by_test is_word_byte 45 last refl h)

-- the text of a key with a valid name indicates its kind
spelling_shows_kind : (k : Kind) (w : List ℕ) → is_name w ≡ true → kind_in_spelling (key_spelling k w) ≡ k
spelling_shows_kind kind.Unit w h =
    spelling_kind_without_mark (last_byte w) (slice_index w 0) (spelled_name_last_byte w h)
    ∙ ap (λ b. if b then kind.List else kind.Unit) (spelled_name_parts w h).1
spelling_shows_kind kind.Prefix w h =
    ap (λ b. kind_by_bytes b (slice_index (w ++ codes "-") 0)) (spelling_last_byte_after w (codes "-") (omega arith))
spelling_shows_kind kind.Func w h =
    ap (λ b. kind_by_bytes b (slice_index (w ++ codes "()") 0)) (spelling_last_byte_after w (codes "()") (omega arith))
spelling_shows_kind kind.List w h =
    ap (λ b. kind_by_bytes b 33) (spelling_last_byte_after (codes "!unitlist ") w (spelled_name_parts w h).0)
    ∙ spelling_kind_without_mark (last_byte w) 33 (spelled_name_last_byte w h)

-- the text of a key of this kind contains its name
pub spelling_contains_name : (k : Kind) (w : List ℕ) → name_in_spelling k (key_spelling k w) ≡ w
spelling_contains_name kind.Unit w = refl
spelling_contains_name kind.Prefix w =
    ap (λ n. take n (w ++ codes "-")) (omega (arith, length-append w (codes "-"))) ∙ take-append_seam w (codes "-")
spelling_contains_name kind.Func w =
    ap (λ n. take n (w ++ codes "()")) (omega (arith, length-append w (codes "()"))) ∙ take-append_seam w (codes "()")
spelling_contains_name kind.List w = refl

-- the key that the text of a key indicates is that key
spelling_shows_key : (k : Key) → IsNamedEntryKey k → key_in_spelling (key_text k) ≡ k
spelling_shows_key k h =
    ap (λ c. key c (name_in_spelling c (key_text k))) (spelling_shows_kind k.kind k.name h)
    ∙ ap (key k.kind) (spelling_contains_name k.kind k.name)

-- the text of a key with a valid name is read as that key
key_spelling_is_read_as_key : (k : Key) → IsNamedEntryKey k → key_of_spelling (key_text k) ≡ Some k
unfolding key_of_spelling
key_spelling_is_read_as_key k h =
    ap (λ x. if is_spelling_of_key (key_text k) x then Some x else None) (spelling_shows_key k h)
    ∙ ap (λ b. if b then Some k else None) (and_from _ _ h ((bytes_eq-Decides (key_text k) (key_text k)).1 refl))

-- bytes that are the text of a key with a valid name are read as that key
pub spelling_read_as_key-some : (bytes : List ℕ) (k : Key) → IsNamedEntryKey k → key_text k ≡ bytes
    → key_of_spelling bytes ≡ Some k
spelling_read_as_key-some bytes k h e = subst (λ t. key_of_spelling t ≡ Some k) e (key_spelling_is_read_as_key k h)

-- a key that is chosen has a valid name, and its text is these bytes
chosen_key_has_spelling : (b : Bool) (x k : Key) (bytes : List ℕ) → is_spelling_of_key bytes x ≡ b
    → (if b then Some x else None) ≡ Some k
    → IsNamedEntryKey k × (key_text k ≡ bytes)
chosen_key_has_spelling true x k bytes e f =
    let parts : (is_name x.name ≡ true) × (bytes_eq (key_text x) bytes ≡ true) = and_parts _ _ e in
    let same : x ≡ k = cc in
    subst (λ y. IsNamedEntryKey y × (key_text y ≡ bytes)) same
    (parts.0, (bytes_eq-Decides (key_text x) bytes).0 parts.1)
chosen_key_has_spelling false x k bytes e f = cc

-- a key that is read has a valid name, and its text is these bytes
read_key_has_spelling : (bytes : List ℕ) (k : Key) → key_of_spelling bytes ≡ Some k
    → IsNamedEntryKey k × (key_text k ≡ bytes)
unfolding key_of_spelling
read_key_has_spelling bytes k h = chosen_key_has_spelling (is_spelling_of_key bytes (key_in_spelling bytes))
    (key_in_spelling bytes) k bytes refl h

-- if the test fails, no key is chosen
no_key_of_failed_spelling : (b : Bool) (x : Key) → (b ≡ true → ⊥) → (if b then Some x else None) ≡ None
no_key_of_failed_spelling true x f = absurd (f refl)
no_key_of_failed_spelling false x f = refl

-- if the bytes are not the text of a valid name, no key is read
pub spelling_read_as_key-none : (bytes : List ℕ)
    → ((w : List ℕ) → is_name w ≡ true → key_spelling (kind_in_spelling bytes) w ≡ bytes → ⊥)
    → key_of_spelling bytes ≡ None
unfolding key_of_spelling
spelling_read_as_key-none bytes f =
    no_key_of_failed_spelling (is_spelling_of_key bytes (key_in_spelling bytes)) (key_in_spelling bytes)
    (λ e. let parts : (is_name (key_in_spelling bytes).name ≡ true)
    × (bytes_eq (key_text (key_in_spelling bytes)) bytes ≡ true) =
    and_parts _ _ e in
    f (key_in_spelling bytes).name parts.0 ((bytes_eq-Decides (key_text (key_in_spelling bytes)) bytes).0 parts.1))

-- if no key is read, the bytes are the text of no key
pub no_key_has_spelling : (bytes : List ℕ) → key_of_spelling bytes ≡ None → IsNoKeySpelling bytes
no_key_has_spelling bytes none k h e = let some : key_of_spelling bytes ≡ Some k =
    spelling_read_as_key-some bytes k h e in cc

-- the law of keys by their texts
pub key_of_spelling_law : KeyOfSpellingLaw
key_of_spelling_law bytes k = (read_key_has_spelling bytes k, λ h. spelling_read_as_key-some bytes k h.0 h.1)

-- the law of one key for each text
pub one_key_spelling_law : OneKeySpellingLaw
one_key_spelling_law k l h i e =
    let first : key_of_spelling (key_text l) ≡ Some k = spelling_read_as_key-some (key_text l) k h e in
    let second : key_of_spelling (key_text l) ≡ Some l = key_spelling_is_read_as_key l i in
    cc

-- the result of dropping a suffix
abbrev pub IsDropped : List ℕ → List ℕ → Option (Bor (List ℕ)) → Type 0
IsDropped bytes suffix r =
    MatchOption r (bytes_eq (drop (length bytes - length suffix) bytes) suffix ≡ false)
    (λ x. (bytes_eq (drop (length bytes - length suffix) bytes) suffix ≡ true)
    × (x.now ≡ take (length bytes - length suffix) bytes) × (length x.now + length suffix ≡ length bytes))

-- if a suffix is dropped, appending it again gives the bytes
spelling_before_suffix : (bytes suffix : List ℕ) (r : Option (Bor (List ℕ))) → IsDropped bytes suffix r
    → MatchOption r ((w : List ℕ) → w ++ suffix ≢ bytes) (λ x. x.now ++ suffix ≡ bytes)
spelling_before_suffix bytes suffix None m =
    λ w e. strip_suffix_is (λ a b. (eqb-true a b, eq-eqb a b)) bytes suffix None m w (sym e)
spelling_before_suffix bytes suffix (Some x) m =
    sym (strip_suffix_is (λ a b. (eqb-true a b, eq-eqb a b)) bytes suffix (Some x) m)

-- the name of a prefix is its text without the `-`
pub name_of_prefix_spelling : (k : Kind) (bytes suffix : List ℕ) (r : Option (Bor (List ℕ))) → k ≡ kind.Prefix
    → suffix ≡ codes "-"
    → IsDropped bytes suffix r
    → MatchOption r ((w : List ℕ) → key_spelling k w ≢ bytes) (λ x. key_spelling k x.now ≡ bytes)
name_of_prefix_spelling k bytes suffix r e f m = rw (e, ← f) (spelling_before_suffix bytes suffix r m)

-- the name of a function is its text without the `()`
pub name_of_function_spelling : (k : Kind) (bytes suffix : List ℕ) (r : Option (Bor (List ℕ))) → k ≡ kind.Func
    → suffix ≡ codes "()"
    → IsDropped bytes suffix r
    → MatchOption r ((w : List ℕ) → key_spelling k w ≢ bytes) (λ x. key_spelling k x.now ≡ bytes)
name_of_function_spelling k bytes suffix r e f m = rw (e, ← f) (spelling_before_suffix bytes suffix r m)

-- keys of the same kind with the same text have the same name
pub same_spelling_has_same_name : (k : Kind) (w v : List ℕ) → key_spelling k w ≡ key_spelling k v → w ≡ v
same_spelling_has_same_name k w v e = sym (spelling_contains_name k w)
    ∙ (ap (name_in_spelling k) e ∙ spelling_contains_name k v)
