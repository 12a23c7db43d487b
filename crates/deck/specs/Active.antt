-- The active lines, computed in one pass from the first line to the last. Enclosing.antt defines which lines are active
-- by the blocks that enclose them, and its law states that both definitions agree.
use Rattle.std.specs.Prelude.{◌&&◌, ℕ, List, [], ◌∷◌, ◌++◌, Bool, true, false, not, if◌then◌else◌, is_some, Option}
use Rattle.std.specs.Prelude.{Some, None}
use Rattle.std.specs.List.{list_all}
use Rattle.std.specs.Str.{bytes_eq}
use Rattle.units_io.specs.NamedValues.{NamedTexts, named_text}
use Rattle.def_lines.specs.Kinds.{LineKindWithArguments, kind_of_line, Locale, EndLocale, Set, Var, VarNot, EndVar}
use Rattle.def_lines.specs.Kinds.{Utf8, EndUtf8}
use Rattle.def_lines.specs.Words.{is_listed}
use Rattle.deck_lines.specs.declared.line.DeckLine.{DeckLine}
use Rattle.deck.specs.declared.settings.Settings.{Settings}

-- the state before a line of a deck: whether each enclosing block holds, innermost first, and the variables that are
-- set
pub record DeckSurroundings : Type 0 where
  pub conditions : List Bool
  pub vars : NamedTexts

-- a variable has a value, and it is one of these
abbrev pub is_setting_value_listed : List ℕ → Option (List ℕ) → Bool
is_setting_value_listed values None = false
is_setting_value_listed values (Some value) = is_listed values value

-- all enclosing blocks hold
abbrev pub all_enclosing_blocks_hold : DeckSurroundings → Bool
all_enclosing_blocks_hold around = list_all (λ holds. holds) around.conditions

-- the state in one more block
abbrev pub deck_surroundings_in_block : Bool → DeckSurroundings → DeckSurroundings
deck_surroundings_in_block holds around = record around { conditions = holds ∷ around.conditions }

abbrev pub outer_enclosing_flags : List Bool → List Bool
outer_enclosing_flags [] = []
outer_enclosing_flags (b ∷ holds) = holds

-- the state outside of the innermost block
abbrev pub deck_surroundings_out_of_block : DeckSurroundings → DeckSurroundings
deck_surroundings_out_of_block around = record around { conditions = outer_enclosing_flags around.conditions }

-- the state after an active line sets a variable, unless it is set already
abbrev pub deck_surroundings_with_variable : List ℕ → List ℕ → DeckSurroundings → DeckSurroundings
deck_surroundings_with_variable name value around =
    if all_enclosing_blocks_hold around && not (is_some (named_text around.vars name))
    then record around { vars = around.vars ++ (name, value) ∷ [] }
    else around

-- the state after a line of this kind
abbrev pub deck_surroundings_after_kind : List ℕ → DeckSurroundings → LineKindWithArguments → DeckSurroundings
deck_surroundings_after_kind locale around (Locale l) = deck_surroundings_in_block (bytes_eq l locale) around
deck_surroundings_after_kind locale around (Var name values) = deck_surroundings_in_block
    (is_setting_value_listed values (named_text around.vars name)) around
deck_surroundings_after_kind locale around (VarNot name values) =
    deck_surroundings_in_block (not (is_setting_value_listed values (named_text around.vars name))) around
deck_surroundings_after_kind locale around Utf8 = deck_surroundings_in_block true around
deck_surroundings_after_kind locale around EndLocale = deck_surroundings_out_of_block around
deck_surroundings_after_kind locale around EndVar = deck_surroundings_out_of_block around
deck_surroundings_after_kind locale around EndUtf8 = deck_surroundings_out_of_block around
deck_surroundings_after_kind locale around (Set name value) = deck_surroundings_with_variable name value around
deck_surroundings_after_kind locale around _ = around

-- the state after a line; a line with the mark opens, closes and sets nothing
unfoldable pub deck_surroundings_after_line : List ℕ → DeckSurroundings → DeckLine → DeckSurroundings
deck_surroundings_after_line locale around line = if line.mark then around else deck_surroundings_after_kind locale
    around (kind_of_line line.text)

-- a line in this state is active
abbrev pub is_active_line : DeckSurroundings → DeckLine → Bool
is_active_line around line = not line.mark && all_enclosing_blocks_hold around

-- for each line, whether it is active
abbrev pub active_line_flags : List ℕ → DeckSurroundings → List DeckLine → List Bool
active_line_flags locale around [] = []
active_line_flags locale around (line ∷ lines) =
    is_active_line around line ∷ active_line_flags locale (deck_surroundings_after_line locale around line) lines

-- the state at the start of a deck
abbrev pub deck_surroundings_at_start : Settings → DeckSurroundings
deck_surroundings_at_start settings = record { conditions = []; vars = settings.vars }

-- for each line of a deck, whether it is active under the settings
abbrev pub active_lines : Settings → List DeckLine → List Bool
active_lines settings lines = active_line_flags settings.locale (deck_surroundings_at_start settings) lines

-- the state after some lines
abbrev pub deck_surroundings_after_lines : List ℕ → DeckSurroundings → List DeckLine → DeckSurroundings
deck_surroundings_after_lines locale around [] = around
deck_surroundings_after_lines locale around (line ∷ lines) = deck_surroundings_after_lines locale
    (deck_surroundings_after_line locale around line) lines
