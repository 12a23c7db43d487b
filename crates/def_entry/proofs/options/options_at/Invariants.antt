use Rattle.std.proofs.Common.{◌≡◌, ◌-◌, suc}
use Rattle.def_entry.specs.Options.{most_options, options_at, options_from}
use Rattle.def_entry.specs.LineViews.{seen_options}
use Rattle.def_entry.proofs.options.options_at.Given as goal

abbrev pub invariant-loop : goal.invariant-loop
invariant-loop l = options_from (suc most_options - l.counter) (seen_options l.options) l.rest ≡ options_at l.fn.text
