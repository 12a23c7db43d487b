-- The layouts of the lines of a reply.
use Rattle.std.specs.Prelude.{◌++◌, ℕ, List, codes}
use Rattle.reply.specs.declared.form.Layout.{Layout}
use Rattle.reply.specs.declared.form.Layout.TheVariants.{Plain, Compact, Verbose}

-- a tab, except in the compact layout
abbrev pub layout_tab : Layout → List ℕ
layout_tab Compact = codes ""
layout_tab _ = codes "\t"

-- a line with its line feed
abbrev pub layout_line : Layout → List ℕ → List ℕ
layout_line layout text = (layout_tab layout ++ text) ++ codes "\n"

-- FROM and an equals sign in the verbose layout
abbrev pub layout_equation_front : Layout → (from : List ℕ) → List ℕ
layout_equation_front Verbose from = from ++ codes " = "
layout_equation_front _ from = codes ""

-- how often TO goes into FROM
abbrev pub layout_forward_text : Layout → (from to number : List ℕ) → List ℕ
layout_forward_text Plain from to number = codes "* " ++ number
layout_forward_text Compact from to number = number
layout_forward_text Verbose from to number = ((from ++ codes " = ") ++ number) ++ codes " " ++ to

-- how often FROM goes into TO
abbrev pub layout_backward_text : Layout → (from to number : List ℕ) → List ℕ
layout_backward_text Plain from to number = codes "/ " ++ number
layout_backward_text Compact from to number = number
layout_backward_text Verbose from to number = ((from ++ codes " = (1 / ") ++ number) ++ codes ") " ++ to

-- the argument of a function, in the verbose layout inside a call
abbrev pub layout_call_text : Layout → (name argument : List ℕ) → List ℕ
layout_call_text Verbose name argument = ((name ++ codes "(") ++ argument) ++ codes ")"
layout_call_text _ name argument = argument
