-- Texts that are split at some bytes, as the parts between those bytes.
use Rattle.std.proofs.Common.{◌≡◌, ◌<◌, ◌≤◌, ◌+◌, ◌==◌, ℕ, List, [], ◌∷◌, Bool, true, false, cond, length, take, drop}
use Rattle.std.proofs.Common.{Option, Some, None, option_map, unwrap_or, refl, ap, ◌∙◌, arith, length-drop}
use Rattle.std.specs.List.{position_or_len, slice_split}
use Rattle.std.specs.Prelude.{nat_lt}
use Rattle.std.proofs.lemmas.Bool.Decides.{Decides-ltb}
use Rattle.std.proofs.lemmas.Bool.{ltb-false}
use Rattle.std.proofs.lemmas.List.Sums.{fails_before_first}
use Rattle.std.proofs.lemmas.List.Splits.{slice_split_first, slice_split_none}
use Rattle.def_entry.specs.Cuts.{cut_at}

-- the index of the first such byte
abbrev pub place : ℕ → List ℕ → ℕ
place mark text = position_or_len (λ b. b == mark) text

-- the texts around an index, if there is one
abbrev pub around : Bool → ℕ → List ℕ → Option (List ℕ × List ℕ)
around there n text = option_map (λ k. (take k text, drop (k + 1) text)) (cond there (Some n) None)

-- the parts of a text with such a byte: the first part, and the parts of the text after the byte
pub entry_parts-some : (mark : ℕ) (text front behind : List ℕ) → cut_at mark text ≡ Some (front, behind)
    → slice_split (λ b. b == mark) text ≡ front ∷ slice_split (λ b. b == mark) behind
entry_parts-some mark text front behind cut = go (nat_lt (place mark text) (length text)) refl cut
  where
    go : (t : Bool) → nat_lt (place mark text) (length text) ≡ t
        → around t (place mark text) text ≡ Some (front, behind)
        → slice_split (λ b. b == mark) text ≡ front ∷ slice_split (λ b. b == mark) behind
    go true e cut =
        let first : take (place mark text) text ≡ front =
        ap (λ o. (unwrap_or {T = List ℕ × List ℕ} o (front, behind)).0) cut in
        let second : drop (place mark text + 1) text ≡ behind =
        ap (λ o. (unwrap_or {T = List ℕ × List ℕ} o (front, behind)).1) cut in
        slice_split_first (λ b. b == mark) text 0 ((Decides-ltb (place mark text) (length text)).0 e)
        ∙ (λ i. first i ∷ slice_split (λ b. b == mark) (second i))
    go false e cut = cc

-- the text after the byte is shorter
pub cut_entry_text_is_shorter : (mark : ℕ) (text front behind : List ℕ) → cut_at mark text ≡ Some (front, behind)
    → length behind < length text
cut_entry_text_is_shorter mark text front behind cut = go (nat_lt (place mark text) (length text)) refl cut
  where
    go : (t : Bool) → nat_lt (place mark text) (length text) ≡ t
        → around t (place mark text) text ≡ Some (front, behind) → length behind < length text
    go true e cut =
        let second : drop (place mark text + 1) text ≡ behind =
        ap (λ o. (unwrap_or {T = List ℕ × List ℕ} o (front, behind)).1) cut in
        let less : place mark text < length text = (Decides-ltb (place mark text) (length text)).0 e in
        omega (arith, ap length second, length-drop (place mark text + 1) text)
    go false e cut = cc

-- a text without such a byte is its only part
pub entry_parts-none : (mark : ℕ) (text : List ℕ) → cut_at mark text ≡ None
    → slice_split (λ b. b == mark) text ≡ text ∷ []
entry_parts-none mark text cut = go (nat_lt (place mark text) (length text)) refl cut
  where
    go : (t : Bool) → nat_lt (place mark text) (length text) ≡ t → around t (place mark text) text ≡ None
        → slice_split (λ b. b == mark) text ≡ text ∷ []
    go true e cut = cc
    go false e cut =
        let more : length text ≤ place mark text = ltb-false (place mark text) (length text) e in
        slice_split_none (λ b. b == mark) text (λ k d less. fails_before_first (λ b. b == mark) text k d (omega arith))
