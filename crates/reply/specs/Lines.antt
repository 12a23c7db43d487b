-- The lines of replies.
use Rattle.std.specs.Prelude.{◌++◌, ℕ, List, [], ◌∷◌, codes, Option, Some, None, if◌then◌else◌}
use Rattle.frac128.specs.Fraction.{Fraction}
use Rattle.digits_print.specs.Styles.{printed_number_text}
use Rattle.digits_print.specs.declared.style.Style.{Style}
use Rattle.quantity.specs.Amount.{Amount}
use Rattle.quantity.specs.Text.{quantity_text}
use Rattle.reply.specs.declared.form.Form.{Form}
use Rattle.reply.specs.declared.form.Layout.{Layout}
use Rattle.reply.specs.declared.form.Layout.TheVariants.{Plain, Compact}
use Rattle.reply.specs.declared.ratio.Ratio.{Ratio}
use Rattle.reply.specs.declared.conversion.Conversion.{Conversion}
use Rattle.reply.specs.declared.conversion.Conversion.TheVariants.{Linear, Reciprocal, Inverse, NonConforming, Split}
use Rattle.reply.specs.Layouts.{layout_backward_text, layout_call_text, layout_equation_front, layout_forward_text}
use Rattle.reply.specs.Layouts.{layout_line}
use Rattle.reply.specs.Targets.{conversion_target_parts}

-- a number, or `inf` if there is none
abbrev pub reply_number_text : Style → Option Fraction → List ℕ
reply_number_text style (Some x) = printed_number_text style x
reply_number_text style None = codes "inf"

-- the second line of a linear conversion, unless `one_line` omits it
abbrev pub conversion_backward_line : Form → (from to : List ℕ) → Option Fraction → List ℕ
conversion_backward_line form from to back =
    if form.one_line then []
    else layout_line form.layout (layout_backward_text form.layout from to (reply_number_text form.style back))

-- a linear conversion
abbrev pub linear_conversion_text : Form → (from to : List ℕ) → Ratio → List ℕ
linear_conversion_text form from to ratio =
    layout_line form.layout (layout_forward_text form.layout from to (printed_number_text form.style ratio.forward))
    ++ conversion_backward_line form from to ratio.back

-- 1 over FROM, as the verbose layout writes it
abbrev pub reciprocal_conversion_from : List ℕ → List ℕ
reciprocal_conversion_from from = (codes "1 / (" ++ from) ++ codes ")"

-- a reciprocal conversion
abbrev pub reciprocal_conversion_text : Form → (from to : List ℕ) → Ratio → List ℕ
reciprocal_conversion_text form from to ratio =
    layout_line form.layout (codes "reciprocal conversion") ++ linear_conversion_text form
    (reciprocal_conversion_from from) to ratio

-- the argument of a function
abbrev pub inverse_conversion_text : Form → (from name : List ℕ) → Amount → List ℕ
inverse_conversion_text form from name y =
    layout_line form.layout
    (layout_equation_front form.layout from ++ layout_call_text form.layout name (quantity_text form.style y))

-- the count of a part, in the compact layout without the text of the part
abbrev pub conversion_count_text : Form → (part : List ℕ) → Fraction → List ℕ
conversion_count_text form part count = with_part form.layout
  where
    with_part : Layout → List ℕ
    with_part Compact = printed_number_text form.style count
    with_part _ = (printed_number_text form.style count ++ codes " ") ++ part

-- the separator of two counts
abbrev pub layout_count_separator : Layout → List ℕ
layout_count_separator Compact = codes ";"
layout_count_separator _ = codes " + "

-- the counts of the parts after the first
abbrev pub conversion_further_counts_text : Form → (parts : List (List ℕ)) → List Fraction → List ℕ
conversion_further_counts_text form (part ∷ parts) (count ∷ counts) =
    (layout_count_separator form.layout ++ conversion_count_text form part count) ++ conversion_further_counts_text form
    parts counts
conversion_further_counts_text form _ _ = []

-- the counts of all parts
abbrev pub conversion_counts_text : Form → (parts : List (List ℕ)) → List Fraction → List ℕ
conversion_counts_text form (part ∷ parts) (count ∷ counts) =
    conversion_count_text form part count ++ conversion_further_counts_text form parts counts
conversion_counts_text form _ _ = []

-- the counts of the parts of a list
abbrev pub split_conversion_text : Form → (from list : List ℕ) → List Fraction → List ℕ
split_conversion_text form from list counts =
    layout_line form.layout
    (layout_equation_front form.layout from ++ conversion_counts_text form (conversion_target_parts list) counts)

-- two quantities that do not conform
abbrev pub nonconforming_conversion_text : Form → Amount → Amount → List ℕ
nonconforming_conversion_text form x y =
    (codes "conformability error\n" ++ layout_line form.layout (quantity_text form.style x))
    ++ layout_line form.layout (quantity_text form.style y)

-- a conversion
abbrev pub conversion_text : Form → (from to : List ℕ) → Conversion → List ℕ
conversion_text form from to (Linear ratio) = linear_conversion_text form from to ratio
conversion_text form from to (Reciprocal ratio) = reciprocal_conversion_text form from to ratio
conversion_text form from to (Inverse y) = inverse_conversion_text form from to y
conversion_text form from to (Split list counts) = split_conversion_text form from list counts
conversion_text form from to (NonConforming x y) = nonconforming_conversion_text form x y

-- the text of the expression that defines a unit and an equals sign, if there is such an expression
abbrev pub definition_reply_front : Option (List ℕ) → List ℕ
definition_reply_front None = []
definition_reply_front (Some text) = text ++ codes " = "

-- a definition
abbrev pub definition_reply_text : Form → (body : Option (List ℕ)) → Amount → List ℕ
definition_reply_text form body x = by form.layout
  where
    by : Layout → List ℕ
    by Compact = layout_line Compact (quantity_text form.style x)
    by _ = layout_line Plain ((codes "Definition: " ++ definition_reply_front body) ++ quantity_text form.style x)
