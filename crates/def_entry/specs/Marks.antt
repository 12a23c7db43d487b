-- Names for the bytes that separate the parts of a definition line.
use Rattle.std.specs.Prelude.{ℕ}

-- `!`
abbrev pub entry_exclamation : ℕ
entry_exclamation = 33

-- `(`
abbrev pub entry_open_paren : ℕ
entry_open_paren = 40

-- `)`
abbrev pub entry_close_paren : ℕ
entry_close_paren = 41

-- `+`
abbrev pub entry_plus : ℕ
entry_plus = 43

-- `,`
abbrev pub entry_comma : ℕ
entry_comma = 44

-- `-`
abbrev pub entry_minus : ℕ
entry_minus = 45

-- `;`
abbrev pub entry_semicolon : ℕ
entry_semicolon = 59

-- `[`
abbrev pub entry_open_bracket : ℕ
entry_open_bracket = 91

-- `]`
abbrev pub entry_close_bracket : ℕ
entry_close_bracket = 93

-- `|`
abbrev pub entry_bar : ℕ
entry_bar = 124
