-- Names, and texts with blanks at their ends, contain no line feed, carriage return or `#`.
use Rattle.std.proofs.Common.{◌≡◌, ◌&&◌, ◌||◌, ◌∷◌, [], ℕ, List, Bool, true, false, not, cond, codes, length, reverse}
use Rattle.std.proofs.Common.{refl, sym, ap, ◌∙◌}
use Rattle.std.specs.List.{list_all}
use Rattle.std.specs.Prelude.{nat_lt, nat_le, slice_index}
use Rattle.std.proofs.lemmas.Bool.{and_from, and_parts, true≢false}
use Rattle.std.proofs.lemmas.List.{reverse-reverse}
use Rattle.units_io.specs.Blanks.{is_blank_text_byte}
use Rattle.def_lines.specs.Blanks.{after_blanks, before_blanks, trimmed_of_blanks}
use Rattle.def_lines.specs.Words.{is_empty}
use Rattle.expr_tree.specs.Names.{ends_in_count, is_expression_control_byte, is_expression_word_among, is_name}
use Rattle.expr_tree.specs.Names.{is_one_of, is_refused, is_spelled, expression_keywords, is_word_byte, last_byte}
use Rattle.expr_tree.specs.Names.{longest_expression_name, may_begin, may_end_name}
use Rattle.deck_save.specs.SavedLines.{is_saved_line_byte}
use Rattle.deck_save.proofs.PlainBytes.{saved_byte_stays_by_test, saved_bytes_all_pass, saved_bytes_all_reversed}
use Rattle.deck_save.proofs.PlainBytes.{saved_bytes_stay_by_test}

-- blanks

pub saved_blanks_stay : (blanks : List ℕ) → list_all is_blank_text_byte blanks ≡ true
    → list_all is_saved_line_byte blanks ≡ true
saved_blanks_stay = saved_bytes_stay_by_test is_blank_text_byte refl refl refl

saved_text_after_blanks_stays : (text : List ℕ) → list_all is_saved_line_byte (after_blanks text) ≡ true
    → list_all is_saved_line_byte text ≡ true
saved_text_after_blanks_stays [] clear = refl
saved_text_after_blanks_stays (b ∷ text) clear = go (saved_text_after_blanks_stays text) (is_blank_text_byte b) refl
    clear
  where
    go : (list_all is_saved_line_byte (after_blanks text) ≡ true → list_all is_saved_line_byte text ≡ true) → (t : Bool)
        → is_blank_text_byte b ≡ t
        → list_all is_saved_line_byte (cond t (after_blanks text) (b ∷ text)) ≡ true
        → list_all is_saved_line_byte (b ∷ text) ≡ true
    go rest true e clear = and_from (is_saved_line_byte b) (list_all is_saved_line_byte text)
        (saved_byte_stays_by_test is_blank_text_byte refl refl refl b e)
        (rest clear)
    go rest false e clear = clear

saved_text_reversed_stays : (text : List ℕ) → list_all is_saved_line_byte (reverse text) ≡ true
    → list_all is_saved_line_byte text ≡ true
saved_text_reversed_stays text clear = ap (list_all is_saved_line_byte) (sym (reverse-reverse text))
    ∙ saved_bytes_all_reversed is_saved_line_byte (reverse text) clear

-- a text stays if it stays without the blanks at its ends
pub saved_untrimmed_text_stays : (text : List ℕ) → list_all is_saved_line_byte (trimmed_of_blanks text) ≡ true
    → list_all is_saved_line_byte text ≡ true
saved_untrimmed_text_stays text clear =
    saved_text_reversed_stays text (saved_text_after_blanks_stays (reverse text)
    (saved_text_reversed_stays (after_blanks (reverse text))
    (saved_text_after_blanks_stays (before_blanks text) clear)))

pub saved_trimmed_text_stays : (text bare : List ℕ) → trimmed_of_blanks text ≡ bare
    → list_all is_saved_line_byte bare ≡ true
    → list_all is_saved_line_byte text ≡ true
saved_trimmed_text_stays text bare same clear = saved_untrimmed_text_stays text
    (ap (list_all is_saved_line_byte) same ∙ clear)

-- names

saved_name_is_spelled : (w : List ℕ) → is_name w ≡ true → is_spelled w ≡ true
saved_name_is_spelled w name =
    let a : ((is_spelled w && not (ends_in_count w) && not (is_expression_word_among expression_keywords w)) ≡ true)
    × (not (is_refused w) ≡ true) = and_parts _ _ name in
    let b : ((is_spelled w && not (ends_in_count w)) ≡ true)
    × (not (is_expression_word_among expression_keywords w) ≡ true) =
    and_parts _ _ a.0 in
    (and_parts (is_spelled w) (not (ends_in_count w)) b.0).0

saved_name_is_word_bytes : (w : List ℕ) → is_name w ≡ true → list_all is_word_byte w ≡ true
saved_name_is_word_bytes w name =
    (and_parts (nat_lt 0 (length w) && nat_le (length w) longest_expression_name && may_begin (slice_index w 0) &&
    may_end_name
    (last_byte w)) (list_all is_word_byte w) (saved_name_is_spelled w name)).1

pub saved_name_stays : (w : List ℕ) → is_name w ≡ true → list_all is_saved_line_byte w ≡ true
saved_name_stays w name = saved_bytes_stay_by_test is_word_byte refl refl refl w (saved_name_is_word_bytes w name)

-- a byte of a word is not a blank
saved_word_byte_is_not_blank : (b : ℕ) → is_word_byte b ≡ true → not (is_blank_text_byte b) ≡ true
saved_word_byte_is_not_blank b word = go (is_blank_text_byte b) refl
  where
    go : (t : Bool) → is_blank_text_byte b ≡ t → not t ≡ true
    go true e = absurd (true≢false
        (sym word ∙ ap (λ t. not (t || is_expression_control_byte b || is_one_of (codes "+-*/|^;~#()[]") b)) e))
    go false e = refl

pub saved_name_has_no_blank : (w : List ℕ) → is_name w ≡ true → list_all (λ b. not (is_blank_text_byte b)) w ≡ true
saved_name_has_no_blank w name = saved_bytes_all_pass is_word_byte (λ b. not (is_blank_text_byte b))
    saved_word_byte_is_not_blank w (saved_name_is_word_bytes w name)

pub saved_name_is_some : (w : List ℕ) → is_name w ≡ true → is_empty w ≡ false
saved_name_is_some [] name = absurd (true≢false (sym name))
saved_name_is_some (b ∷ w) name = refl
