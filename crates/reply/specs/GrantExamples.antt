-- Replies to a few texts over a small table, found by hand.
use Rattle.std.specs.Prelude.{◌≡◌, ℕ, ℤ, pos, negsuc, true, List, [], ◌∷◌, codes}
use Rattle.frac128.specs.Fraction.{whole_fraction}
use Rattle.expr_tree.specs.declared.operator.Scale.TheVariants.{Divide, Multiply}
use Rattle.expr_tree.specs.Syntax.{Factor, Juxtaposed, Member, NoFactor, NoMember, Number, Product, Syntax, Word}
use Rattle.def_entry.specs.declared.key.Key.{Key}
use Rattle.def_entry.specs.declared.key.Kind.TheVariants as kind
use Rattle.def_entry.specs.Entries.{Body, Entry, Primitive, Table as PointTable}
use Rattle.def_entry.specs.Keys.{key}
use Rattle.def_entry.specs.Tables.{EntryTable}
use Rattle.reply.specs.declared.reply.Reply.{Reply}
use Rattle.reply.specs.declared.options.Options.{Options}
use Rattle.reply.specs.Examples.{default_reply_options, granted_reply, refused_reply}
use Rattle.reply.specs.Replies.{conversion_reply}

-- a numeral with these digits, scaled by a power of ten
abbrev pub reply_example_numeral : ℕ → ℤ → Syntax
reply_example_numeral digits scale = Number (record { coefficient = digits; scale = scale })

-- a number times a named unit
abbrev pub reply_example_multiple : Syntax → (name : List ℕ) → Syntax
reply_example_multiple number name = Juxtaposed (Member number (Member (Word name) NoMember))

abbrev pub reply_example_primitive : (name : List ℕ) → Key × Entry
reply_example_primitive name = (key kind.Unit name, record { text = codes "!"; what = Primitive })

abbrev pub reply_example_expression_entry : (text : List ℕ) → Syntax → Entry
reply_example_expression_entry text tree = record { text = text; what = Body tree }

-- the definitions `m !`, `s !`, `k- 1000`, `yard 0.9144 m`, `Hz 1/s` and `gauge[m] 1 2, 3 6`
abbrev pub reply_example_measures : EntryTable
reply_example_measures =
    reply_example_primitive (codes "m")
    ∷ reply_example_primitive (codes "s")
    ∷ (key kind.Prefix (codes "k"), reply_example_expression_entry (codes "1000") (reply_example_numeral 1 (pos 3)))
    ∷ (
      key kind.Unit (codes "yard"),
      reply_example_expression_entry (codes "0.9144 m")
          (reply_example_multiple (reply_example_numeral 9144 (negsuc 3)) (codes "m")),
    )
    ∷ (
      key kind.Unit (codes "Hz"),
      reply_example_expression_entry (codes "1/s")
          (Product (Factor Multiply (reply_example_numeral 1 (pos 0)) (Factor Divide (Word (codes "s")) NoFactor))),
    )
    ∷ (
      key kind.Func (codes "gauge"),
      record {
        text = codes "[m] 1 2, 3 6";
        what = PointTable (record {
          unit = Word (codes "m");
          points = (whole_fraction (pos 1), whole_fraction (pos 2)) ∷ (whole_fraction (pos 3), whole_fraction (pos 6)) ∷
              [];
        });
      },
    )
    ∷ []

abbrev pub example_reply : Options → (from to : List ℕ) → Reply
example_reply options from to = conversion_reply reply_example_measures options from to

abbrev pub strict_reply_options : Options
strict_reply_options = record default_reply_options { strict = true }

-- law: a prefix and a plural; a reciprocal conversion, which `strict` refuses; units that do not conform; a list; a
-- function; division by 0; and a quotient that does not fit
pub record ConversionExamplesLaw : Type 0 where
  pub linear : example_reply default_reply_options (codes "2 km") (codes " yards ")
      ≡ granted_reply (codes "\t* 2187.2266\n\t/ 0.0004572\n")
  pub reciprocal : example_reply default_reply_options (codes "2 Hz") (codes "s")
      ≡ granted_reply (codes "\treciprocal conversion\n\t* 0.5\n\t/ 2\n")
  pub strict : example_reply strict_reply_options (codes "2 Hz") (codes "s")
      ≡ refused_reply (codes "conformability error\n\t2 / s\n\t1 s\n")
  pub unlike : example_reply default_reply_options (codes "m") (codes "s")
      ≡ refused_reply (codes "conformability error\n\t1 m\n\t1 s\n")
  pub split_into_list : example_reply default_reply_options (codes "2 km") (codes "yards;m")
      ≡ granted_reply (codes "\t2187 yards + 0.2072 m\n")
  pub inverse : example_reply default_reply_options (codes "4 m") (codes "gauge") ≡ granted_reply (codes "\t2\n")
  pub zero : example_reply default_reply_options (codes "m") (codes "0 m") ≡ refused_reply (codes "division by zero\n")
  pub too_large : example_reply default_reply_options (codes "1e30 m") (codes "1e-30 m") ≡ refused_reply
      (codes "overflow\n")
