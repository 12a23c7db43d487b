-- The reply to words that units does not accept.
use Rattle.std.specs.Prelude.{ℕ, List, codes}

-- the usage line, with its line feed
abbrev pub usage_text : List ℕ
usage_text = codes "units: usage: units [options] [FROM [TO]]\n"
