-- The bodies of a function, which follow its parameter, as they are computed. FormGrammar defines how they are
-- written.
use Rattle.std.specs.Prelude.{ℕ, List, [], ◌∷◌, Option, Some, None}
use Rattle.def_lines.specs.Blanks.{trimmed_of_blanks}
use Rattle.def_entry.specs.Cuts.{cut_at}
use Rattle.def_entry.specs.Marks.{entry_semicolon}
use Rattle.def_entry.specs.Options.{Options, options_at}
use Rattle.def_entry.specs.Steps.{◌>>=◌}

-- the options of a function and the texts of its bodies
pub record Form : Type 0 where
  pub options : Options
  pub forward : List ℕ
  pub inverse : Option (List ℕ)

-- a text, or `None` if it is empty
abbrev pub some_text : List ℕ → Option (List ℕ)
some_text [] = None
some_text (b ∷ text) = Some (b ∷ text)

-- the bodies, separated at the first `;`; neither may be empty
abbrev pub form_of_bodies : Options → Option (List ℕ × List ℕ) → List ℕ → Option Form
form_of_bodies options None text = do
  forward ← some_text (trimmed_of_blanks text)
  Some (record { options = options; forward = forward; inverse = None })
form_of_bodies options (Some parts) text = do
  forward ← some_text (trimmed_of_blanks parts.0)
  inverse ← some_text (trimmed_of_blanks parts.1)
  Some (record { options = options; forward = forward; inverse = Some inverse })

-- the options, and the bodies after them
unfoldable pub form_of : List ℕ → Option Form
form_of text = do
  found ← options_at text
  form_of_bodies found.0 (cut_at entry_semicolon found.1) found.1
