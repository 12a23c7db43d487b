-- Blocks, and the lines that open and close them.
use Rattle.std.specs.Prelude.{ℕ, List, codes, Bool, true, false}
use Rattle.def_lines.specs.Kinds.{LineKindWithArguments, Locale, EndLocale, Var, VarNot, EndVar, Utf8, EndUtf8}
use Rattle.deck_lines.specs.declared.line.Ending.{Ending}
use Rattle.deck_lines.specs.declared.line.Ending.TheVariants.{ByLocale, ByVar, ByUtf8}
use Rattle.deck_lines.specs.declared.line.Role.{Role}
use Rattle.deck_lines.specs.declared.line.Role.TheVariants.{Opens, Closes, Inside}

-- the text of the end line of a block
abbrev pub block_end_text : Ending → List ℕ
block_end_text ByLocale = codes "!endlocale"
block_end_text ByVar = codes "!endvar"
block_end_text ByUtf8 = codes "!endutf8"

abbrev pub same_block_ending : Ending → Ending → Bool
same_block_ending ByLocale ByLocale = true
same_block_ending ByVar ByVar = true
same_block_ending ByUtf8 ByUtf8 = true
same_block_ending _ _ = false

-- whether a line of this kind opens a block, closes one, or does neither
abbrev pub block_role_of_kind : LineKindWithArguments → Role
block_role_of_kind (Locale locale) = Opens ByLocale
block_role_of_kind (Var name values) = Opens ByVar
block_role_of_kind (VarNot name values) = Opens ByVar
block_role_of_kind Utf8 = Opens ByUtf8
block_role_of_kind EndLocale = Closes ByLocale
block_role_of_kind EndVar = Closes ByVar
block_role_of_kind EndUtf8 = Closes ByUtf8
block_role_of_kind _ = Inside
