-- The options that C passes in.
use Rattle.std.specs.Prelude.{◌==◌, ℕ, Bool, not, true, Option, Some, None, nat_lt, if◌then◌else◌}
use Rattle.reply.specs.declared.options.Options.{Options}
use Rattle.units_c.specs.declared.options.UnitsOptions.{UnitsOptions}

-- whether a byte from C sets a flag
abbrev pub is_c_flag_set : ℕ → Bool
is_c_flag_set byte = not (byte == 0)

-- the number of significant digits, where 0 means 8
abbrev pub c_significant_digits : ℕ → ℕ
c_significant_digits digits = if digits == 0 then 8 else digits

-- the options of replies, or `None` if there are more than 36 digits
abbrev pub c_reply_options : UnitsOptions → Option Options
c_reply_options o = if nat_lt 36 o.digits then None else Some (record {
  digits = c_significant_digits o.digits;
  exact = is_c_flag_set o.exact;
  strict = is_c_flag_set o.strict;
  one_line = is_c_flag_set o.one_line;
  compact = is_c_flag_set o.compact;
  quiet = true;
  round = is_c_flag_set o.round;
  verbose = is_c_flag_set o.verbose;
})
