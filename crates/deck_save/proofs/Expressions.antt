-- Expressions that parse contain no line feed, carriage return or `#`.
use Rattle.std.proofs.Common.{◌≡◌, ◌==◌, ◌<◌, ◌+◌, ◌-◌, ◌&&◌, ◌||◌, ◌++◌, ◌∷◌, [], ℕ, zero, suc, List, Bool, true}
use Rattle.std.proofs.Common.{false, cond, length, drop, take, refl, sym, ap, subst, ◌∙◌, arith, Option, Some, None, Ok}
use Rattle.std.specs.List.{list_all, prefix_len}
use Rattle.std.specs.Prelude.{slice_index}
use Rattle.std.proofs.lemmas.Bool.{and_from, and_parts, eqb-false, eqb-true, true≢false}
use Rattle.std.proofs.lemmas.List.Folds.{length-prefix_len}
use Rattle.std.proofs.Math.Seq.{take-add}
use Rattle.units_io.specs.Blanks.{is_blank_text_byte}
use Rattle.frac128.specs.Decimals.{numeral_reading}
use Rattle.frac128.specs.Numerals.{is_numeral_digit, longest_numeral_len}
use Rattle.expr_tree.specs.declared.fault.ParseFault.{ParseFault}
use Rattle.expr_tree.specs.declared.fault.ParseFault.TheVariants.{Syntax as SyntaxFault, NumeralTooLong}
use Rattle.expr_tree.specs.Faults.{fault_from_lexemes, first_parse_fault, lexeme_fault, or_later_parse_fault}
use Rattle.expr_tree.specs.Faults.{takes_numeral_token}
use Rattle.expr_tree.specs.Lexemes.{Lexeme, Blank, Whole, TooLong, Malformed, Piece, PlacedLexeme, first_lexeme_piece}
use Rattle.expr_tree.specs.Lexemes.{is_numeral_lexeme, byte_lexeme, has_paren, lexeme_begins_with_point, lexemes}
use Rattle.expr_tree.specs.Lexemes.{lexemes_from, mark_piece, numeral_lexeme, front_word_lexeme, lexeme_piece}
use Rattle.expr_tree.specs.Lexemes.{numeral_piece, other_word, token_in, tokens}
use Rattle.expr_tree.specs.Names.{front_token_word, is_name, is_refused, is_word_byte}
use Rattle.expr_tree.specs.ParseResult.{parse_fault_or_tree, parse_of}
use Rattle.expr_tree.specs.TokenReading.{tree_of_token_list}
use Rattle.expr_tree.specs.Syntax.{Syntax}
use Rattle.expr_tree.specs.Tokens.{Token, Head, Word, Caret}
use Rattle.deck_save.specs.SavedLines.{is_saved_line_byte}
use Rattle.deck_save.proofs.PlainBytes.{saved_byte_stays_by_test, saved_bytes_all_both, saved_bytes_stay_by_test}
use Rattle.deck_save.proofs.Numerals.{saved_longest_numeral_stays}
use Rattle.general_lemmas.proofs.Parts.{front-clear}

-- a lexeme that may occur in an expression
abbrev is_sound : Lexeme → Bool
is_sound Malformed = false
is_sound TooLong = false
is_sound _ = true

-- the lexeme has this many bytes of the front of the text, at least one, and all of them stay
record IsCovered (text : List ℕ) (len : ℕ) : Type 0 where
  pub some : 0 < len
  pub clear : list_all is_saved_line_byte (take len text) ≡ true

-- one byte that stays is covered
one_saved_byte_is_covered : (b : ℕ) (bytes : List ℕ) → is_saved_line_byte b ≡ true → IsCovered (b ∷ bytes) 1
one_saved_byte_is_covered b bytes clear = record { some = omega arith; clear = and_from _ _ clear refl }

-- words

-- the number of word bytes at the front of a text
abbrev word_len : List ℕ → ℕ
word_len text = prefix_len is_word_byte text

saved_word_stays : (text : List ℕ) → list_all is_saved_line_byte (take (word_len text) text) ≡ true
saved_word_stays text = saved_bytes_stay_by_test is_word_byte refl refl refl (take (word_len text) text)
    (front-clear is_word_byte text)

-- a word and the `(` after it stay
saved_opened_word_stays : (text : List ℕ) (n : ℕ) → list_all is_saved_line_byte (take n text) ≡ true
    → has_paren (drop n text) ≡ true
    → list_all is_saved_line_byte (take (n + 1) text) ≡ true
saved_opened_word_stays text n clear opened = ap (list_all is_saved_line_byte) (take-add n 1 text)
    ∙ saved_bytes_all_both is_saved_line_byte (take n text) (take 1 (drop n text)) clear (go (drop n text) opened)
  where
    go : (rest : List ℕ) → has_paren rest ≡ true → list_all is_saved_line_byte (take 1 rest) ≡ true
    go [] opened = refl
    go (b ∷ rest) opened = and_from (is_saved_line_byte b) true (ap is_saved_line_byte (eqb-true b 40 opened)) refl

saved_word_covers : (b : ℕ) (bytes : List ℕ) → is_word_byte b ≡ true
    → IsCovered (b ∷ bytes) (front_word_lexeme (b ∷ bytes)).len
saved_word_covers b bytes word =
    go (is_name (front_token_word (b ∷ bytes)) || is_refused (front_token_word (b ∷ bytes)))
    (has_paren (drop (word_len (b ∷ bytes)) (b ∷ bytes))) refl
  where
    len_is : length (front_token_word (b ∷ bytes)) ≡ word_len (b ∷ bytes)
    len_is = length-prefix_len is_word_byte (b ∷ bytes)

    some : 0 < word_len (b ∷ bytes)
    some =
        let next : word_len (b ∷ bytes) ≡ 1 + word_len bytes = ap (λ t. cond t (1 + word_len bytes) 0) word in
        omega arith

    alone : IsCovered (b ∷ bytes) (length (front_token_word (b ∷ bytes)))
    alone = subst (IsCovered (b ∷ bytes)) (sym len_is) (record { some = some; clear = saved_word_stays (b ∷ bytes) })

    go : (s t : Bool) → has_paren (drop (word_len (b ∷ bytes)) (b ∷ bytes)) ≡ t
        → IsCovered (b ∷ bytes)
        (cond s (cond t (lexeme_piece (Whole (Head (front_token_word (b ∷ bytes))))
        (length (front_token_word (b ∷ bytes)) + 1))
        (lexeme_piece (Whole (Word (front_token_word (b ∷ bytes)))) (length (front_token_word (b ∷ bytes)))))
        (lexeme_piece (other_word (front_token_word (b ∷ bytes))) (length (front_token_word (b ∷ bytes))))).len
    go true true opened = subst (λ n. IsCovered (b ∷ bytes) (n + 1)) (sym len_is)
        (record {
          some = omega arith;
          clear = saved_opened_word_stays (b ∷ bytes) (word_len (b ∷ bytes)) (saved_word_stays (b ∷ bytes))
              opened;
        })
    go true false opened = alone
    go false t opened = alone

-- numerals

saved_numeral_covers : (text : List ℕ) → is_sound (numeral_piece text).lexeme ≡ true
    → IsCovered text (numeral_piece text).len
saved_numeral_covers text sound = go (longest_numeral_len text == 0) refl sound
  where
    go : (t : Bool) → (longest_numeral_len text == 0) ≡ t
        → is_sound (cond t (lexeme_piece Malformed 1)
        (lexeme_piece (numeral_lexeme (numeral_reading (take (longest_numeral_len text) text)))
        (longest_numeral_len text))).lexeme ≡ true
        → IsCovered text (cond t (lexeme_piece Malformed 1)
        (lexeme_piece (numeral_lexeme (numeral_reading (take (longest_numeral_len text) text)))
        (longest_numeral_len text))).len
    go true e sound = cc
    go false e sound =
        let none : longest_numeral_len text ≡ 0 → ⊥ = eqb-false (longest_numeral_len text) 0 e in
        let some : 0 < longest_numeral_len text = omega arith in
        record { some = some; clear = saved_longest_numeral_stays text some }

-- marks

saved_mark_covers : (b : ℕ) (bytes : List ℕ) → is_sound (mark_piece (b ∷ bytes)).lexeme ≡ true
    → IsCovered (b ∷ bytes) (mark_piece (b ∷ bytes)).len
saved_mark_covers b bytes sound = go (b == 42 && slice_index (b ∷ bytes) 1 == 42) refl sound
  where
    second : (text : List ℕ) → (slice_index (b ∷ text) 1 == 42) ≡ true
        → list_all is_saved_line_byte (take 1 text) ≡ true
    second [] e = refl
    second (c ∷ text) e = and_from (is_saved_line_byte c) true (ap is_saved_line_byte (eqb-true c 42 e)) refl

    go : (t : Bool) → (b == 42 && slice_index (b ∷ bytes) 1 == 42) ≡ t
        → is_sound (cond t (lexeme_piece (Whole Caret) 2) (lexeme_piece (byte_lexeme b) 1)).lexeme ≡ true
        → IsCovered (b ∷ bytes) (cond t (lexeme_piece (Whole Caret) 2) (lexeme_piece (byte_lexeme b) 1)).len
    go true e sound =
        let stars : ((b == 42) ≡ true) × ((slice_index (b ∷ bytes) 1 == 42) ≡ true) =
        and_parts (b == 42) (slice_index (b ∷ bytes) 1 == 42) e in
        record {
          some = omega arith;
          clear = and_from (is_saved_line_byte b) (list_all is_saved_line_byte (take 1 bytes))
              (ap is_saved_line_byte (eqb-true b 42 stars.0)) (second bytes stars.1);
        }
    go false e sound = one_saved_byte_is_covered b bytes
        (saved_byte_stays_by_test (λ c. is_sound (byte_lexeme c)) refl refl refl b sound)

-- any lexeme that may occur covers its bytes
saved_lexeme_covers : (after_numeral : Bool) (b : ℕ) (bytes : List ℕ)
    → is_sound (first_lexeme_piece after_numeral (b ∷ bytes)).lexeme ≡ true
    → IsCovered (b ∷ bytes) (first_lexeme_piece after_numeral (b ∷ bytes)).len
saved_lexeme_covers after_numeral b bytes sound =
    go (is_blank_text_byte b) refl (after_numeral && lexeme_begins_with_point (b ∷ bytes))
    (is_numeral_digit b || lexeme_begins_with_point (b ∷ bytes))
    (is_word_byte b) refl sound
  where
    go : (s : Bool) → is_blank_text_byte b ≡ s → (t u v : Bool) → is_word_byte b ≡ v
        → is_sound (cond s (lexeme_piece Blank 1)
        (cond t (lexeme_piece Malformed 1)
        (cond u (numeral_piece (b ∷ bytes)) (cond v (front_word_lexeme (b ∷ bytes)) (mark_piece (b ∷ bytes)))))).lexeme
        ≡ true
        → IsCovered (b ∷ bytes)
        (cond s (lexeme_piece Blank 1)
        (cond t (lexeme_piece Malformed 1)
        (cond u (numeral_piece (b ∷ bytes)) (cond v (front_word_lexeme (b ∷ bytes)) (mark_piece (b ∷ bytes)))))).len
    go true e t u v f sound = one_saved_byte_is_covered b bytes
        (saved_byte_stays_by_test is_blank_text_byte refl refl refl b e)
    go false e true u v f sound = absurd (true≢false (sym sound))
    go false e false true v f sound = saved_numeral_covers (b ∷ bytes) sound
    go false e false false true f sound = saved_word_covers b bytes f
    go false e false false false f sound = saved_mark_covers b bytes sound

-- if all lexemes of a text may occur, the text stays
saved_lexemes_cover : (covered : ℕ) (after_numeral : Bool) (place : ℕ) (text : List ℕ)
    → list_all (λ x. is_sound x.lexeme) (lexemes_from covered after_numeral place text) ≡ true
    → list_all is_saved_line_byte (take covered text) ≡ true → list_all is_saved_line_byte text ≡ true
unfolding lexemes_from
saved_lexemes_cover covered after_numeral place [] sound clear = refl
saved_lexemes_cover (suc covered) after_numeral place (b ∷ bytes) sound clear =
    let parts : (is_saved_line_byte b ≡ true) × (list_all is_saved_line_byte (take covered bytes) ≡ true) =
    and_parts (is_saved_line_byte b) (list_all is_saved_line_byte (take covered bytes)) clear in
    and_from (is_saved_line_byte b) (list_all is_saved_line_byte bytes) parts.0
    (saved_lexemes_cover covered after_numeral (suc place) bytes sound parts.1)
saved_lexemes_cover zero after_numeral place (b ∷ bytes) sound clear =
    let first : Piece = first_lexeme_piece after_numeral (b ∷ bytes) in
    let parts : (is_sound first.lexeme ≡ true)
    × (list_all (λ x. is_sound x.lexeme)
    (lexemes_from (first.len - 1) (is_numeral_lexeme first.lexeme) (suc place) bytes)
    ≡ true) =
    and_parts (is_sound first.lexeme)
    (list_all (λ x. is_sound x.lexeme)
    (lexemes_from (first.len - 1) (is_numeral_lexeme first.lexeme) (suc place) bytes))
    sound in
    let covers : IsCovered (b ∷ bytes) first.len = saved_lexeme_covers after_numeral b bytes parts.0 in
    let next : first.len ≡ suc (first.len - 1) = omega (arith, covers.some) in
    let both : (is_saved_line_byte b ≡ true) × (list_all is_saved_line_byte (take (first.len - 1) bytes) ≡ true) =
    and_parts (is_saved_line_byte b) (list_all is_saved_line_byte (take (first.len - 1) bytes))
    (ap (λ n. list_all is_saved_line_byte (take n (b ∷ bytes))) (sym next) ∙ covers.clear) in
    and_from (is_saved_line_byte b) (list_all is_saved_line_byte bytes) both.0
    (saved_lexemes_cover (first.len - 1) (is_numeral_lexeme first.lexeme) (suc place) bytes parts.1 both.1)

-- in a text without a fault each lexeme may occur

neither_saved_fault : (a b : Option ParseFault) → or_later_parse_fault a b ≡ None → (a ≡ None) × (b ≡ None)
neither_saved_fault (Some x) b e = cc
neither_saved_fault None b e = (refl, e)

saved_lexeme_is_sound : (last : _) (opened depth place : ℕ) (x : Lexeme) → lexeme_fault last opened depth place x ≡ None
    → is_sound x ≡ true
saved_lexeme_is_sound last opened depth place Blank e = refl
saved_lexeme_is_sound last opened depth place (Whole t) e = refl
saved_lexeme_is_sound last opened depth place TooLong e = go (takes_numeral_token last) e
  where
    go : (t : Bool) → cond t (Some NumeralTooLong) (Some (SyntaxFault place)) ≡ None → is_sound TooLong ≡ true
    go true e = cc
    go false e = cc
saved_lexeme_is_sound last opened depth place Malformed e = cc

saved_lexemes_are_sound : (before : List Token) (len : ℕ) (xs : List PlacedLexeme)
    → fault_from_lexemes before len xs ≡ None
    → list_all (λ x. is_sound x.lexeme) xs ≡ true
unfolding fault_from_lexemes
saved_lexemes_are_sound before len [] e = refl
saved_lexemes_are_sound before len (x ∷ xs) e =
    let parts = neither_saved_fault _ _ e in
    and_from (is_sound x.lexeme) (list_all (λ y. is_sound y.lexeme) xs)
    (saved_lexeme_is_sound _ _ _ x.place x.lexeme parts.0)
    (saved_lexemes_are_sound (before ++ token_in x.lexeme) len xs parts.1)

saved_expression_is_faultless : (binder : Option (List ℕ)) (text : List ℕ) (e : Syntax) → parse_of binder text ≡ Ok e
    → first_parse_fault text ≡ None
unfolding parse_of
saved_expression_is_faultless binder text e is = go (first_parse_fault text) refl is
  where
    go : (found : Option ParseFault) → first_parse_fault text ≡ found → parse_fault_or_tree (length text) found
        (tree_of_token_list binder (tokens text)) ≡ Ok e → first_parse_fault text ≡ None
    go None f is = f
    go (Some x) f is = cc

pub saved_expressions_stay : (binder : Option (List ℕ)) (text : List ℕ) (e : Syntax) → parse_of binder text ≡ Ok e
    → list_all is_saved_line_byte text ≡ true
saved_expressions_stay binder text e is =
    saved_lexemes_cover 0 false 0 text
    (saved_lexemes_are_sound [] (length text) (lexemes text) (saved_expression_is_faultless binder text e is)) refl
