-- Definitions for the contracts of private functions: the first part of a logical line that continues, and the
-- directives by their arguments.
use Rattle.std.specs.Prelude.{ℕ, List, [], ◌∷◌, Bool, true, false, not}
use Rattle.def_lines.specs.declared.directive.Directive.{Directive}
use Rattle.def_lines.specs.declared.directive.Directive.TheVariants as directive
use Rattle.units_io.specs.Blanks.{is_blank_text_byte}

-- a text does not start with a blank
abbrev pub begins_without_blank : List ℕ → Bool
begins_without_blank [] = true
begins_without_blank (b ∷ bytes) = not (is_blank_text_byte b)

-- the directive takes a word and at least one more after it
abbrev pub directive_takes_rest : Directive → Bool
directive_takes_rest directive.Set = true
directive_takes_rest directive.Var = true
directive_takes_rest directive.VarNot = true
directive_takes_rest _ = false
