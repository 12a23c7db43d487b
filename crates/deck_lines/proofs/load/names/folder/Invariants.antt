use Rattle.std.proofs.Common.{◌≡◌, length}
use Rattle.deck_lines.specs.Includes.{include_folder_of}
use Rattle.deck_lines.proofs.load.names.folder.Given as goal

abbrev pub invariant-loop-b : goal.invariant-loop-b
invariant-loop-b l = include_folder_of l.rest ≡ include_folder_of l.name

abbrev pub decreases-loop-b : goal.decreases-loop-b
decreases-loop-b l = length l.rest
