use Rattle.std.proofs.Common.{◌+◌, ◌∙◌, List, ap, arith, drop, length}
use Rattle.def_lines.specs.declared.line.Line.{Line}
use Rattle.def_lines.specs.Lines.{logical_lines_after, nonblank_lines}
use Rattle.def_lines.proofs.EmptyLines.{line_feeds_are_skipped_lines}
use Rattle.def_lines.proofs.cursor.Cursor.skip_line_feeds.Goals as goal

pub returns-clause-shown : goal.returns-clause-shown
returns-clause-shown c =
    ap (λ t. nonblank_lines (logical_lines_after (c.self.inside.number + c.line_feed_count-count.result) t))
    c.split_at.ensures.back
    ∙ ap (λ n. nonblank_lines (logical_lines_after (c.self.inside.number + n) (drop n c.self.inside.rest.now)))
    c.line_feed_count-count.ensures.is
    ∙ (line_feeds_are_skipped_lines c.self.inside.rest.now c.self.inside.number).same
    ∙ ap nonblank_lines c.self.view_is

pub returns-clause-fewer : goal.returns-clause-fewer
returns-clause-fewer c =
    omega (
      arith,
      ap (λ t. length (logical_lines_after (c.self.inside.number + c.line_feed_count-count.result) t))
          c.split_at.ensures.back
          ∙ ap (λ n. length (logical_lines_after (c.self.inside.number + n) (drop n c.self.inside.rest.now)))
          c.line_feed_count-count.ensures.is,
      (line_feeds_are_skipped_lines c.self.inside.rest.now c.self.inside.number).fewer,
      ap (λ (lines : List Line). length lines) c.self.view_is,
    )
