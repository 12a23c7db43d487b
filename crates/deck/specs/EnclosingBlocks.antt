-- The active lines, defined by the blocks that enclose them.
use Rattle.std.specs.Prelude.{◌≡◌, ◌↔◌, ◌&&◌, ℕ, zero, suc, List, [], ◌∷◌, ◌++◌, Bool, true, false, not, if◌then◌else◌}
use Rattle.std.specs.Prelude.{Option, Some, None, length, slice_get, reverse}
use Rattle.std.specs.List.{list_all}
use Rattle.std.specs.Str.{bytes_eq}
use Rattle.units_io.specs.NamedValues.{NamedTexts, named_text}
use Rattle.def_lines.specs.Kinds.{LineKindWithArguments, kind_of_line, Locale, EndLocale, Set, Var, VarNot, EndVar}
use Rattle.def_lines.specs.Kinds.{Utf8, EndUtf8}
use Rattle.deck_lines.specs.declared.line.DeckLine.{DeckLine}
use Rattle.deck.specs.Active.{active_lines, is_setting_value_listed}
use Rattle.deck.specs.declared.settings.Settings.{Settings}

-- whether the block that a line of this kind begins holds, or `None` if it begins no block: `!locale` holds in that
-- locale, `!var` if the variable has one of the values, `!varnot` if it has none of them, `!utf8` always
abbrev pub enclosing_block_begun : (locale : List ℕ) (vars : NamedTexts) → LineKindWithArguments → Option Bool
enclosing_block_begun locale vars (Locale l) = Some (bytes_eq l locale)
enclosing_block_begun locale vars (Var name values) = Some (is_setting_value_listed values (named_text vars name))
enclosing_block_begun locale vars (VarNot name values) =
    Some (not (is_setting_value_listed values (named_text vars name)))
enclosing_block_begun locale vars Utf8 = Some true
enclosing_block_begun locale vars _ = None

-- a line of this kind begins a block
abbrev pub begins_enclosing_block : LineKindWithArguments → Bool
begins_enclosing_block (Locale l) = true
begins_enclosing_block (Var name values) = true
begins_enclosing_block (VarNot name values) = true
begins_enclosing_block Utf8 = true
begins_enclosing_block _ = false

-- a line of this kind ends a block
abbrev pub ends_enclosing_block : LineKindWithArguments → Bool
ends_enclosing_block EndLocale = true
ends_enclosing_block EndVar = true
ends_enclosing_block EndUtf8 = true
ends_enclosing_block _ = false

-- the variable that a line of this kind sets, with its value
abbrev pub setting_pair_of_kind : LineKindWithArguments → NamedTexts
setting_pair_of_kind (Set name value) = (name, value) ∷ []
setting_pair_of_kind _ = []

-- a line in these blocks, each of which holds or not, is active: it has no mark and all of the blocks hold
abbrev pub is_active_in_enclosing_blocks : (blocks : List Bool) → DeckLine → Bool
is_active_in_enclosing_blocks blocks line = not line.mark && list_all (λ holds. holds) blocks

-- The blocks that enclose a line are found by going back from it over the lines before it. The end of a block closes
-- the nearest beginning before it, so each end skips one beginning. A beginning that no end skips encloses the line.

-- the blocks that enclose a line by one line before it, which begins a block or ends one or neither; `earlier` gives
-- those of the lines before that one, for each number of beginnings still to skip
abbrev pub enclosing_blocks_with_line : (begun : Option Bool) (ends : Bool) (earlier : ℕ → List Bool) (skip : ℕ)
    → List Bool
enclosing_blocks_with_line (Some holds) ends earlier zero = holds ∷ earlier zero
enclosing_blocks_with_line (Some holds) ends earlier (suc skip) = earlier skip
enclosing_blocks_with_line None true earlier skip = earlier (suc skip)
enclosing_blocks_with_line None false earlier skip = earlier skip

module _ (settings : Settings) where
  abbrev mutual
    -- the blocks that enclose a line after these lines, of which the last comes first, each given by whether it holds,
    -- if `skip` beginnings are skipped
    pub enclosing_blocks : List DeckLine → (skip : ℕ) → List Bool
    enclosing_blocks [] skip = []
    enclosing_blocks (line ∷ earlier) skip =
        if line.mark then enclosing_blocks earlier skip
        else enclosing_blocks_with_line
        (enclosing_block_begun settings.locale (vars_after earlier) (kind_of_line line.text))
        (ends_enclosing_block (kind_of_line line.text)) (enclosing_blocks earlier) skip

    -- the variables after these lines: those of the settings, and then those that active lines set; the first value of
    -- a variable counts
    pub vars_after : List DeckLine → NamedTexts
    vars_after [] = settings.vars
    vars_after (line ∷ earlier) =
        if is_active_in_enclosing_blocks (enclosing_blocks earlier 0) line then vars_after earlier
        ++ setting_pair_of_kind (kind_of_line line.text)
        else vars_after earlier

  -- a line after these lines, of which the last comes first, is active
  abbrev pub is_active_after : List DeckLine → DeckLine → Bool
  is_active_after earlier line = is_active_in_enclosing_blocks (enclosing_blocks earlier 0) line

-- the number of beginnings to skip before a line that begins or ends a block, or does neither
abbrev pub enclosing_skips_before : (begins ends : Bool) (skip : ℕ) → ℕ
enclosing_skips_before true ends zero = zero
enclosing_skips_before true ends (suc skip) = skip
enclosing_skips_before false true skip = suc skip
enclosing_skips_before false false skip = skip

-- the number of beginnings to skip before all of these lines, of which the last comes first
abbrev pub enclosing_skips_before_all : List DeckLine → (skip : ℕ) → ℕ
enclosing_skips_before_all [] skip = skip
enclosing_skips_before_all (line ∷ earlier) skip =
    enclosing_skips_before_all earlier (if line.mark then skip
    else enclosing_skips_before (begins_enclosing_block (kind_of_line line.text))
    (ends_enclosing_block (kind_of_line line.text)) skip)

-- one of the lines before a line encloses it: it has no mark and begins a block, which holds or not, and each block end
-- between the two closes a block that begins between them
pub record Encloses (settings : Settings) (before : List DeckLine) (holds : Bool) : Type 0 where
  pub inner : List DeckLine
  pub line : DeckLine
  pub outer : List DeckLine
  pub split_at_line : before ≡ inner ++ line ∷ outer
  pub lacks_mark : line.mark ≡ false
  pub begins : enclosing_block_begun settings.locale (vars_after settings outer) (kind_of_line line.text) ≡ Some holds
  pub inner_blocks_closed : enclosing_skips_before_all inner 0 ≡ 0

-- law: a line of a deck is active exactly if it has no mark and each block that encloses it holds
pub record EnclosingLaw : Type 0 where
  pub active : (settings : Settings) (before : List DeckLine) (line : DeckLine) (after : List DeckLine)
      → slice_get (active_lines settings (before ++ line ∷ after)) (length before)
      ≡ Some (is_active_after settings (reverse before) line)
  pub enclosing_block : (settings : Settings) (before : List DeckLine) (line : DeckLine)
      → (is_active_after settings before line ≡ true)
      ↔ ((line.mark ≡ false) × ((holds : Bool) → Encloses settings before holds → holds ≡ true))
