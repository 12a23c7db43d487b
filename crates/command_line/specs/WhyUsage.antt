-- The message for words that are not a request to units-why.
use Rattle.std.specs.Prelude.{ℕ, List, codes}

-- the line that shows both forms of a request
abbrev pub why_usage_text : List ℕ
why_usage_text = codes "units-why: usage: units-why [options] EXPRESSION [UNIT], or units-why --lint [options]\n"
