use Rattle.value_sources.proofs.SameFileLines.{file_lines_are_same}
use Rattle.value_sources.proofs.LinesInFiles.{each_in_file}
use Rattle.value_sources.proofs.line_files.laws.file_lines_law.Goals as goal

pub returns : goal.returns
returns c = record {
  lines = λ files name bytes. file_lines_are_same files name bytes;
  files = λ files name bytes e. each_in_file files name bytes e;
}
