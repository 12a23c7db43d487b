-- The grammar of the definition in a line. Expressions are not analysed: a form contains their texts.
use Rattle.std.specs.Prelude.{◌≡◌, ◌≢◌, ◌⊎◌, ◌++◌, ℕ, List, [], ◌∷◌, true, false, codes, nat_eq, map, Option, Some}
use Rattle.std.specs.Prelude.{None}
use Rattle.std.specs.List.{ends_with, join_with_byte, list_all}
use Rattle.def_lines.specs.Blanks.{trimmed_of_blanks}
use Rattle.def_entry.specs.declared.key.Kind.{Kind}
use Rattle.def_entry.specs.declared.key.Kind.TheVariants as kind
use Rattle.def_entry.specs.Cuts.{entry_text_lacks}
use Rattle.def_entry.specs.Forms.{Form}
use Rattle.def_entry.specs.Marks.{entry_close_bracket, entry_close_paren, entry_open_bracket, entry_open_paren}
use Rattle.def_entry.specs.Marks.{entry_semicolon}
use Rattle.def_entry.specs.OptionGrammar.{AreOptions}

pub data WrittenEntryForm : Type 0 where
  -- "!"
  PrimitiveForm : WrittenEntryForm
  -- "!dimensionless"
  DimensionlessForm : WrittenEntryForm
  -- an expression
  BodyForm : List ℕ → WrittenEntryForm
  -- "(" parameter ")" options bodies
  FunctionForm : List ℕ → Form → WrittenEntryForm
  -- "(" ")" target [ "()" ]
  AliasForm : List ℕ → WrittenEntryForm
  -- "[" unit "]" points
  TableForm : List ℕ → List ℕ → WrittenEntryForm
  -- part { ";" part }
  ListForm : List (List ℕ) → WrittenEntryForm

-- a bracket, the text in it up to the first byte that closes it, and the text after that
pub record IsBracketedEntryText (open_byte close_byte : ℕ) (text inside behind : List ℕ) : Type 0 where
  pub text_in_brackets : text ≡ open_byte ∷ (inside ++ (close_byte ∷ behind))
  pub clear : entry_text_lacks close_byte inside ≡ true

-- a text without the blanks at its ends, which must not be empty
abbrev pub IsTrimmedEntryText : List ℕ → List ℕ → Type 0
IsTrimmedEntryText text bare = (trimmed_of_blanks text ≡ bare) × (bare ≢ [])

-- forward, or forward ";" inverse
abbrev pub AreBodies : List ℕ → List ℕ → Option (List ℕ) → Type 0
AreBodies text forward None = IsTrimmedEntryText text forward × (entry_text_lacks entry_semicolon text ≡ true)
AreBodies text forward (Some inverse) =
    (front : List ℕ) × (behind : List ℕ) × (text ≡ front ++ (entry_semicolon ∷ behind))
    × (entry_text_lacks entry_semicolon front ≡ true)
    × IsTrimmedEntryText front forward × IsTrimmedEntryText behind inverse

-- "(" parameter ")" options bodies
pub record IsFunctionEntryForm (text parameter : List ℕ) (form : Form) : Type 0 where
  pub bracket_text : List ℕ
  pub text_after : List ℕ
  pub bodies : List ℕ
  pub has_brackets : IsBracketedEntryText entry_open_paren entry_close_paren text bracket_text text_after
  pub parameter_is : IsTrimmedEntryText bracket_text parameter
  pub options_are : AreOptions text_after bodies form.options
  pub bodies_are : AreBodies bodies form.forward form.inverse

-- a target, with or without a final "()"
abbrev pub IsAliasTarget : List ℕ → List ℕ → Type 0
IsAliasTarget text target =
    (text ≡ target ++ codes "()") ⊎ ((text ≡ target) × (ends_with nat_eq text (codes "()") ≡ false))

-- "(" ")" target [ "()" ]
pub record IsAlias (text target : List ℕ) : Type 0 where
  pub bracket_text : List ℕ
  pub text_after : List ℕ
  pub has_brackets : IsBracketedEntryText entry_open_paren entry_close_paren text bracket_text text_after
  pub blank_brackets : trimmed_of_blanks bracket_text ≡ []
  pub target_is : IsAliasTarget (trimmed_of_blanks text_after) target
  pub target_not_empty : target ≢ []

-- "[" unit "]" points
pub record IsTableEntry (text unit points : List ℕ) : Type 0 where
  pub bracket_text : List ℕ
  pub has_brackets : IsBracketedEntryText entry_open_bracket entry_close_bracket text bracket_text points
  pub unit_is : IsTrimmedEntryText bracket_text unit

-- part { ";" part }
pub record AreListEntryParts (text : List ℕ) (parts : List (List ℕ)) : Type 0 where
  pub pieces : List (List ℕ)
  pub join_of_pieces : text ≡ join_with_byte entry_semicolon pieces
  pub clear : list_all (entry_text_lacks entry_semicolon) pieces ≡ true
  pub parts_are : parts ≡ map trimmed_of_blanks pieces
  pub text_not_empty : text ≢ []

-- the text of a key of this kind has this written form
abbrev pub IsEntrySpelledAs : Kind → List ℕ → WrittenEntryForm → Type 0
IsEntrySpelledAs kind.Unit text PrimitiveForm = text ≡ codes "!"
IsEntrySpelledAs kind.Unit text DimensionlessForm = text ≡ codes "!dimensionless"
IsEntrySpelledAs kind.Unit text (BodyForm body) =
    (text ≡ body) × (text ≢ []) × (text ≢ codes "!") × (text ≢ codes "!dimensionless")
IsEntrySpelledAs kind.Prefix text (BodyForm body) = (text ≡ body) × (text ≢ [])
IsEntrySpelledAs kind.Func text (FunctionForm parameter form) = IsFunctionEntryForm text parameter form
IsEntrySpelledAs kind.Func text (AliasForm target) = IsAlias text target
IsEntrySpelledAs kind.Func text (TableForm unit points) = IsTableEntry text unit points
IsEntrySpelledAs kind.List text (ListForm parts) = AreListEntryParts text parts
IsEntrySpelledAs _ _ _ = ⊥
