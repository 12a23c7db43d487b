use Rattle.std.proofs.Common.{◌≡◌, ◌++◌, ◌-◌, ◌∙◌, ap, sym, subst, Ok, Err, OnOk, reverse}
use Rattle.units_io.specs.FetchResults.{IsFileFetched}
use Rattle.units_io.specs.declared.files.FetchFault.TheVariants.{Absent, TooLong}
use Rattle.def_lines.specs.Lines.{nonblank_lines}
use Rattle.deck_lines.specs.Includes.{included_by, included_name}
use Rattle.deck_lines.specs.Readings.{store_line_reading_of}
use Rattle.value_sources.specs.FileLines.{file_lines_above, file_lines_below, line_file_names}
use Rattle.value_sources.proofs.LineFilePassing.{file_passed, line_files_of_passed_include, line_of_file_taken}
use Rattle.value_sources.proofs.LineFilePassing.{line_passed, missing_below, no_file_lines_below_depth}
use Rattle.value_sources.proofs.LineFilePassing.{fact_of_known_line_files, no_line_of_file_taken, read_below}
use Rattle.value_sources.proofs.line_files.pass.Pass.+pass.Goals as goal

pub read_file-loop-blocks-preserved-in_ok-read_line : goal.read_file-loop-blocks-preserved-in_ok-read_line
read_file-loop-blocks-preserved-in_ok-read_line g t c = record {
  kept = c.in_ok-read_line.ensures.kept ∙ c.loop-blocks.invariant.kept;
  found = λ m h.
      line_passed (included_by m c.args.depth c.args.name.now)
      (λ word. file_lines_below m c.args.depth (included_name c.args.name.now word)) c.args.name.now
      (reverse c.loop-blocks.blocks.items) (nonblank_lines c.loop-blocks.lines) (nonblank_lines c.take_shown.new.self)
      c.in-Some.line
      (line_of_file_taken _ _ _ _ c.in_ok-line.ensures.ok c.in-Some.is)
      c.loop-blocks.self.found _ c.read_line.new.self.found (c.loop-blocks.invariant.found m h)
      (c.in_ok-read_line.ensures.found m (c.loop-blocks.invariant.kept ∙ h))
      (reverse c.read_line.new.blocks.items) c.in_ok-read_line.ensures.blocks;
}

-- the same if the line was borrowed
pub read_file-loop-blocks-preserved : goal.read_file-loop-blocks-preserved
read_file-loop-blocks-preserved g t c = record {
  kept = c.in_ok-read_line.ensures.kept ∙ c.loop-blocks.invariant.kept;
  found = λ m h.
      line_passed (included_by m c.args.depth c.args.name.now)
      (λ word. file_lines_below m c.args.depth (included_name c.args.name.now word)) c.args.name.now
      (reverse c.loop-blocks.blocks.items) (nonblank_lines c.loop-blocks.lines) (nonblank_lines c.take_shown.new.self)
      c.in-Some.line
      (line_of_file_taken _ _ _ _ c.in_ok-line.ensures.ok c.in-Some.is)
      c.loop-blocks.self.found _ c.read_line.new.self.found (c.loop-blocks.invariant.found m h)
      (c.in_ok-read_line.ensures.found m (c.loop-blocks.invariant.kept ∙ h))
      (reverse c.read_line.new.blocks.items) c.in_ok-read_line.ensures.blocks;
}

pub read_file-returns-clause-found : goal.read_file-returns-clause-found
read_file-returns-clause-found g t c = λ m h.
    file_passed (included_by m c.args.depth c.args.name.now)
    (λ word. file_lines_below m c.args.depth (included_name c.args.name.now word)) c.args.name.now
    (reverse c.loop-blocks.blocks.items) (nonblank_lines c.loop-blocks.lines) c.loop-blocks.self.found _
    c.read_missing_ends.new.self.found c.read_missing_ends.result
    (no_line_of_file_taken _ _ _ c.in_ok-line.ensures.ok c.in_default.is) (c.loop-blocks.invariant.found m h)
    c.read_missing_ends.ensures

pub read_include-returns-then-depth-eq0-clause-found : goal.read_include-returns-then-depth-eq0-clause-found
read_include-returns-then-depth-eq0-clause-found g t c = λ m h.
    no_file_lines_below_depth m c.args.depth c.args.name.now c.if-depth-eq0.true c.args.self.now.found

pub read_include-returns-in-Ok-clause-found : goal.read_include-returns-in-Ok-clause-found
read_include-returns-in-Ok-clause-found g t c = λ m h.
    subst (λ lines. OnOk c.read_file.result
    (c.read_file.new.self.found ≡ c.args.self.now.found ++ line_file_names lines))
    (sym (read_below m c.args.depth c.args.name.now c.if-depth-eq0.false c.in-Ok.text
    (fact_of_known_line_files _ (λ n. IsFileFetched n c.args.name.now (Ok c.in-Ok.text)) m h c.in-Ok.ensures.if_known)))
    (subst (λ bytes. OnOk c.read_file.result (c.read_file.new.self.found
    ≡ c.args.self.now.found ++ line_file_names (file_lines_above m (c.args.depth - 1) c.args.name.now bytes)))
    c.as_bytes.ensures (c.read_file.ensures.found m (c.fetch.ensures.kept ∙ h)))

pub read_include-returns-in-Err-Absent-clause-found : goal.read_include-returns-in-Err-Absent-clause-found
read_include-returns-in-Err-Absent-clause-found g t c = λ m h.
    missing_below m c.args.depth c.args.name.now c.if-depth-eq0.false Absent
    (fact_of_known_line_files _ (λ n. IsFileFetched n c.args.name.now (Err Absent)) m h
    (rw c.in-Err-Absent.field-0-is at c.in-Err-Absent.ensures.if_known))
    c.args.self.now.found

pub read_include-returns-in-Err-TooLong-clause-found : goal.read_include-returns-in-Err-TooLong-clause-found
read_include-returns-in-Err-TooLong-clause-found g t c = λ m h.
    missing_below m c.args.depth c.args.name.now c.if-depth-eq0.false TooLong
    (fact_of_known_line_files _ (λ n. IsFileFetched n c.args.name.now (Err TooLong)) m h
    (rw c.in-Err-TooLong.field-0-is at c.in-Err-TooLong.ensures.if_known))
    c.args.self.now.found

pub read_line-returns-in_ok-name-in-Includes-clause-found : goal.read_line-returns-in_ok-name-in-Includes-clause-found
read_line-returns-in_ok-name-in-Includes-clause-found g t c = λ m h.
    line_files_of_passed_include c.read_include.result m c.args.file.depth c.args.file.name.now c.as_bytes.result.now
    c.in-Includes.word.now
    c.args.line.now (reverse c.args.blocks.now.items) c.args.self.now.found c.push.new.self.found
    c.read_include.new.self.found
    (ap store_line_reading_of (sym c.text-2.ensures) ∙ c.in-Includes.ensures) c.in_ok-push.ensures
    (c.as_bytes.ensures ∙ c.in_ok-name-in-Includes.ensures) (c.read_include.ensures.found m h)
