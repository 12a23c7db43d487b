-- The left-hand side of a linear conversion in the verbose layout.
use Rattle.std.specs.Prelude.{ℕ, List}
use Rattle.reply.specs.declared.lines.Subject.{Subject}
use Rattle.reply.specs.declared.lines.Subject.TheVariants.{Asked, OneOver}
use Rattle.reply.specs.Lines.{reciprocal_conversion_from}

abbrev pub reply_subject_text : Subject → List ℕ
reply_subject_text (Asked from) = from.now
reply_subject_text (OneOver from) = reciprocal_conversion_from from.now
