-- The form of a reply, as the options select it.
use Rattle.std.specs.Prelude.{◌≤◌, if◌then◌else◌}
use Rattle.digits_print.specs.declared.style.Style.{Style}
use Rattle.digits_print.specs.declared.style.Style.TheVariants.{Digits, Exact}
use Rattle.reply.specs.declared.form.Form.{Form}
use Rattle.reply.specs.declared.form.Layout.{Layout}
use Rattle.reply.specs.declared.form.Layout.TheVariants.{Plain, Compact, Verbose}
use Rattle.reply.specs.declared.options.Options.{Options}

-- the digits are from 1 to 36
pub record AreReplyOptionsPrintable (options : Options) : Type 0 where
  pub digits_least : 1 ≤ options.digits
  pub digits_most : options.digits ≤ 36

-- the style of numbers: with `exact` the digits have no effect
abbrev pub reply_style : Options → Style
reply_style options = if options.exact then Exact else Digits options.digits

-- the layout of lines: `compact` overrides `verbose`
abbrev pub layout_of_options : Options → Layout
layout_of_options options = if options.compact then Compact else (if options.verbose then Verbose else Plain)

abbrev pub reply_form : Options → Form
reply_form options = record {
  layout = layout_of_options options;
  style = reply_style options;
  one_line =
      options.one_line;
}
