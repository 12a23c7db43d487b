-- Texts that are cut at a byte, put together again.
use Rattle.std.proofs.Common.{◌≡◌, ◌<◌, ◌-◌, ◌&&◌, ◌≤◌, ◌+◌, ◌==◌, ℕ, suc, List, [], ◌∷◌, ◌++◌, Bool, true, false, not}
use Rattle.std.proofs.Common.{cond, length, take, drop, get_or, Option, Some, None, option_map, unwrap_or, refl, sym}
use Rattle.std.proofs.Common.{ap, ◌∙◌, arith, one-add, add-one, length-append, true≢false}
use Rattle.std.specs.List.{list_all, position, position_or_len}
use Rattle.std.specs.Prelude.{nat_lt, slice_index}
use Rattle.std.proofs.lemmas.Bool.{and_parts, eqb-true, ltb-false}
use Rattle.std.proofs.lemmas.Bool.Decides.{Decides-ltb, Decides-eqb}
use Rattle.std.proofs.lemmas.List.{get_or-append_right, take-append-drop}
use Rattle.std.proofs.lemmas.List.Sums.{passes_at_first, prefix_len-le-length}
use Rattle.std.proofs.Math.Seq.{drop-append-add, drop-cons, take-append_seam, take-length}
use Rattle.def_entry.specs.Cuts.{cut_at, entry_text_lacks}
use Rattle.general_lemmas.proofs.Parts.{front-clear}

-- the first byte that passes a test comes after those that do not
pub entry_cut-place-at : (p : ℕ → Bool) (front : List ℕ) (b : ℕ) (behind : List ℕ)
    → list_all (λ c. not (p c)) front ≡ true
    → p b ≡ true
    → position_or_len p (front ++ (b ∷ behind)) ≡ length front
entry_cut-place-at p [] b behind clear passes = ap (λ t. cond (not t) (1 + position_or_len p behind) 0) passes
entry_cut-place-at p (c ∷ front) b behind clear passes =
    go (and_parts (not (p c)) (list_all (λ c. not (p c)) front) clear) (entry_cut-place-at p front b behind)
  where
    go : (not (p c) ≡ true) × (list_all (λ c. not (p c)) front ≡ true)
        → (list_all (λ c. not (p c)) front ≡ true → p b ≡ true
        → position_or_len p (front ++ (b ∷ behind)) ≡ length front)
        → position_or_len p ((c ∷ front) ++ (b ∷ behind)) ≡ length (c ∷ front)
    go parts rest =
        ap (λ t. cond t (1 + position_or_len p (front ++ (b ∷ behind))) 0) parts.0
        ∙ one-add (position_or_len p (front ++ (b ∷ behind)))
        ∙ ap suc (rest parts.1 passes)

-- the first index that passes comes after a prefix without such a byte
pub entry_cut-position-at : (p : ℕ → Bool) (front : List ℕ) (b : ℕ) (behind : List ℕ)
    → list_all (λ c. not (p c)) front ≡ true
    → p b ≡ true
    → position p (front ++ (b ∷ behind)) ≡ Some (length front)
entry_cut-position-at p front b behind clear passes =
    let within : length front < length (front ++ (b ∷ behind)) = omega (arith, length-append front (b ∷ behind)) in
    ap (λ n. cond (nat_lt n (length (front ++ (b ∷ behind)))) (Some n) None)
    (entry_cut-place-at p front b behind clear passes)
    ∙ ap (λ t. cond t (Some (length front)) None)
    ((Decides-ltb (length front) (length (front ++ (b ∷ behind)))).1 within)

-- the byte at that index
pub entry_cut-index-at : (front : List ℕ) (b : ℕ) (behind : List ℕ) → slice_index (front ++ (b ∷ behind))
    (length front) ≡ b
entry_cut-index-at front b behind =
    let none : length front ≤ length front = omega arith in
    let least : length front - length front ≡ 0 = omega arith in
    get_or-append_right front (b ∷ behind) (length front) (length front) 0 refl none
    ∙ ap (λ n. get_or (b ∷ behind) n 0) least

-- a text with the mark after a text without it is cut at the mark
pub entry_cut-at : (mark : ℕ) (front behind : List ℕ) → entry_text_lacks mark front ≡ true
    → cut_at mark (front ++ (mark ∷ behind)) ≡ Some (front, behind)
entry_cut-at mark front behind clear =
    let text : List ℕ = front ++ (mark ∷ behind) in
    ap (option_map {U = List ℕ × List ℕ} (λ n. (take n text, drop (n + 1) text)))
    (entry_cut-position-at (λ b. b == mark) front mark behind clear ((Decides-eqb mark mark).1 refl))
    ∙ (λ i. Some (take-append_seam front (mark ∷ behind) i, drop-append-add front (mark ∷ behind) 1 i))

-- a text is the texts around the first byte that passes
pub record Around (p : ℕ → Bool) (text : List ℕ) (n : ℕ) : Type 0 where
  pub within : n < length text
  pub whole : text ≡ take n text ++ (slice_index text n ∷ drop (n + 1) text)
  pub passes : p (slice_index text n) ≡ true
  pub clear : list_all (λ c. not (p c)) (take n text) ≡ true

-- an index that is found has a prefix without such a byte
pub entry_cut-around : (p : ℕ → Bool) (text : List ℕ) (n : ℕ) → position p text ≡ Some n → Around p text n
entry_cut-around p text n found = go (nat_lt (position_or_len p text) (length text)) refl found
  where
    here : (m : ℕ) → m < length text → position_or_len p text ≡ m → Around p text m
    here m less same = record {
      within = less;
      whole =
          sym (take-append-drop m text)
          ∙ ap (λ t. take m text ++ t)
          (drop-cons text m 0 less ∙ ap (λ k. slice_index text m ∷ drop k text) (sym (add-one m)));
      passes = ap (λ k. p (slice_index text k)) (sym same) ∙ passes_at_first p text 0 (omega (arith, same, less));
      clear = ap (λ k. list_all (λ c. not (p c)) (take k text)) (sym same) ∙ front-clear (λ c. not (p c)) text;
    }

    go : (t : Bool) → nat_lt (position_or_len p text) (length text) ≡ t
        → cond t (Some (position_or_len p text)) None ≡ Some n
        → Around p text n
    go true e found =
        let same : position_or_len p text ≡ n = cc in
        let less : position_or_len p text < length text = (Decides-ltb (position_or_len p text) (length text)).0 e in
        here n (omega (arith, same, less)) same
    go false e found = cc

-- a text that is cut has the mark after a text without it
pub entry_cut-is : (mark : ℕ) (text front behind : List ℕ) → cut_at mark text ≡ Some (front, behind)
    → (text ≡ front ++ (mark ∷ behind)) × (entry_text_lacks mark front ≡ true)
entry_cut-is mark text front behind cut = go (position (λ b. b == mark) text) refl cut
  where
    go : (found : Option ℕ) → position (λ b. b == mark) text ≡ found
        → option_map {U = List ℕ × List ℕ} (λ n. (take n text, drop (n + 1) text)) found ≡ Some (front, behind)
        → (text ≡ front ++ (mark ∷ behind)) × (entry_text_lacks mark front ≡ true)
    go None e cut = cc
    go (Some n) e cut =
        let at : Around (λ b. b == mark) text n = entry_cut-around (λ b. b == mark) text n e in
        let first : take n text ≡ front = ap (λ o. (unwrap_or {T = List ℕ × List ℕ} o ([], [])).0) cut in
        let second : drop (n + 1) text ≡ behind = ap (λ o. (unwrap_or {T = List ℕ × List ℕ} o ([], [])).1) cut in
        let byte : slice_index text n ≡ mark = eqb-true (slice_index text n) mark at.passes in
        (at.whole ∙ (λ i. first i ++ (byte i ∷ second i)), ap (entry_text_lacks mark) (sym first) ∙ at.clear)

-- if no index is found, no byte passes
entry_cut-clear : (p : ℕ → Bool) (text : List ℕ) → position p text ≡ None → list_all (λ c. not (p c)) text ≡ true
entry_cut-clear p text none = go (nat_lt (position_or_len p text) (length text)) refl none
  where
    go : (t : Bool) → nat_lt (position_or_len p text) (length text) ≡ t
        → cond t (Some (position_or_len p text)) None ≡ None
        → list_all (λ c. not (p c)) text ≡ true
    go true e none = cc
    go false e none =
        let more : length text ≤ position_or_len p text = ltb-false (position_or_len p text) (length text) e in
        let all : position_or_len p text ≡ length text =
        omega (arith, more, prefix_len-le-length (λ c. not (p c)) text) in
        ap (λ t. list_all (λ c. not (p c)) t) (sym (ap (λ k. take k text) all ∙ take-length text))
        ∙ front-clear (λ c. not (p c)) text

-- a text that is not cut does not contain the mark
pub entry_cut-none : (mark : ℕ) (text : List ℕ) → cut_at mark text ≡ None → entry_text_lacks mark text ≡ true
entry_cut-none mark text none = go (position (λ b. b == mark) text) refl none
  where
    go : (found : Option ℕ) → position (λ b. b == mark) text ≡ found
        → option_map {U = List ℕ × List ℕ} (λ n. (take n text, drop (n + 1) text)) found ≡ None
        → entry_text_lacks mark text ≡ true
    go None e none = entry_cut-clear (λ b. b == mark) text e
    go (Some n) e none = cc

-- a text with the mark in it does not lack the mark
entry_mark-not-lacked : (m : ℕ) (front behind : List ℕ) → entry_text_lacks m (front ++ (m ∷ behind)) ≡ true → ⊥
entry_mark-not-lacked m [] behind clear = let here : (m == m) ≡ true =
    (Decides-eqb m m).1 refl in true≢false (sym clear ∙ ap (λ t. not t && entry_text_lacks m behind) here)
entry_mark-not-lacked m (b ∷ front) behind clear =
    entry_mark-not-lacked m front behind (and_parts (not (b == m)) (entry_text_lacks m (front ++ (m ∷ behind))) clear).1

-- a text that does not contain the mark is not cut
pub entry_cut-lacks : (mark : ℕ) (text : List ℕ) → entry_text_lacks mark text ≡ true → cut_at mark text ≡ None
entry_cut-lacks mark text clear = go (cut_at mark text) refl
  where
    go : (found : Option (List ℕ × List ℕ)) → cut_at mark text ≡ found → cut_at mark text ≡ None
    go None e = e
    go (Some parts) e =
        let is : (text ≡ parts.0 ++ (mark ∷ parts.1)) × (entry_text_lacks mark parts.0 ≡ true) =
        entry_cut-is mark text parts.0 parts.1 e in
        absurd (entry_mark-not-lacked mark parts.0 parts.1 (ap (entry_text_lacks mark) (sym is.0) ∙ clear))
