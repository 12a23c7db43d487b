-- Records of any length are written like those of one length.
use Rattle.std.proofs.Common.{◌≡◌, ◌∙◌, ◌++◌, ◌==◌, ℕ, Bool, true, false, List, [], ◌∷◌, Option, Some, None, refl, sym}
use Rattle.std.proofs.Common.{ap, length, cond}
use Rattle.std.specs.Io.KnownBytes.{Appends}
use Rattle.csv.specs.Writing.{default_writer, escaped, field_text, fields_text, is_blank, needs_quotes, row_text}
use Rattle.csv.specs.Writing.{with_flexible}
use Rattle.csv.specs.declared.writer.QuoteStyle.TheVariants as style
use Rattle.csv.specs.declared.writer.WriterBuilder.{WriterBuilder}
use Rattle.std.specs.Prelude.{OnOk, Result, Ok, Err, is_err}

abbrev any_length : WriterBuilder
any_length = with_flexible default_writer true

record_escape_at_any_length : (field : List ℕ) → escaped any_length field ≡ escaped default_writer field
unfolding escaped
record_escape_at_any_length [] = refl
record_escape_at_any_length (b ∷ rest) =
    ap (λ (t : List ℕ). cond (b == 34) (34 ∷ b ∷ t) (b ∷ t)) (record_escape_at_any_length rest)

record_field_at_any_length : (field : List ℕ) → field_text any_length field ≡ field_text default_writer field
record_field_at_any_length field =
    ap (λ (t : List ℕ). cond (needs_quotes default_writer field) (34 ∷ (t ++ (34 ∷ []))) field)
    (record_escape_at_any_length field)

record_fields_at_any_length : (fields : List (List ℕ)) → fields_text any_length fields ≡ fields_text default_writer
    fields
unfolding fields_text
record_fields_at_any_length [] = refl
record_fields_at_any_length (field ∷ rest) = λ i.
    44 ∷ (record_field_at_any_length field i ++ record_fields_at_any_length rest i)

blank_record_at_any_length : (fields : List (List ℕ)) → is_blank any_length fields ≡ is_blank default_writer fields
unfolding is_blank
blank_record_at_any_length [] = refl
blank_record_at_any_length (field ∷ []) = ap (λ (t : List ℕ). length t == 0) (record_field_at_any_length field)
blank_record_at_any_length (field ∷ next ∷ rest) = refl

pub row_text_at_any_length : (fields : List (List ℕ)) → row_text any_length fields ≡ row_text default_writer fields
row_text_at_any_length [] = ap (λ (b : Bool). cond b (34 ∷ 34 ∷ []) [] ++ (10 ∷ [])) (blank_record_at_any_length [])
row_text_at_any_length (field ∷ rest) =
    λ i. (record_field_at_any_length field i ++ record_fields_at_any_length rest i)
    ++ (cond (blank_record_at_any_length (field ∷ rest) i) (34 ∷ 34 ∷ []) [] ++ (10 ∷ []))

-- a known text, with more appended
pub record_text_is_appended : (before after : Option (List ℕ)) (text more : List ℕ) → before ≡ Some text
    → Appends before after more
    → after ≡ Some (text ++ more)
record_text_is_appended None after text more is grows = cc
record_text_is_appended (Some held) None text more is grows = absurd grows
record_text_is_appended (Some held) (Some new) text more is grows = cc

-- a writer of records of any length does not treat numbers differently
pub record_writer_ignores_numbers : (setup : WriterBuilder) → setup ≡ any_length → setup.style ≡ style.NonNumeric → ⊥
record_writer_ignores_numbers setup is by_number =
    let p : style.Necessary ≡ style.NonNumeric = sym (ap (λ (w : WriterBuilder). w.style) is) ∙ by_number in cc

pub ok_record_result_holds : {A E P : Type 0} (r : Result A E) → is_err r ≡ false → OnOk r P → P
ok_record_result_holds (Ok x) is p = p
ok_record_result_holds (Err x) is p = cc
