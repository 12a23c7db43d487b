use Rattle.std.proofs.Common.{◌≡◌, ◌*◌, ◌+◌, ◌++◌, Some, length, reverse}
use Rattle.units_io.specs.FileMap.{FileMap}
use Rattle.def_lines.specs.Lines.{nonblank_lines}
use Rattle.deck_lines.specs.Includes.{included_by, included_name}
use Rattle.value_sources.specs.FileLines.{file_lines_above, file_lines_below, line_file_names, rest_lines}
use Rattle.value_sources.proofs.line_files.pass.Pass.+pass.Given as goal

abbrev pub decreases-read_file : goal.decreases-read_file
decreases-read_file g l = 3 * l.depth + 2

abbrev pub decreases-read_line : goal.decreases-read_line
decreases-read_line g l = 3 * l.file.depth + 1

abbrev pub decreases-read_include : goal.decreases-read_include
decreases-read_include g l = 3 * l.depth

abbrev pub invariant-read_file-loop-blocks : goal.invariant-read_file-loop-blocks
invariant-read_file-loop-blocks g l = record {
  kept : g.F.Files.files l.files ≡ g.F.Files.files l.initial.files;
  found : (m : FileMap) → g.F.Files.files l.initial.files ≡ Some m →
      l.self.found ++ line_file_names (rest_lines (included_by m l.depth l.name)
      (λ word. file_lines_below m l.depth (included_name l.name word)) l.name (reverse l.blocks.items)
      (nonblank_lines l.lines))
      ≡ l.initial.self.found ++ line_file_names (file_lines_above m l.depth l.name l.bytes);
}

abbrev pub decreases-read_file-loop-blocks : goal.decreases-read_file-loop-blocks
decreases-read_file-loop-blocks g l = length (nonblank_lines l.lines)
