use Rattle.std.proofs.Common.{◌≡◌, ◌*◌, ◌+◌, [], Ok, length, reverse}
use Rattle.def_lines.specs.Lines.{nonblank_lines}
use Rattle.deck_lines.specs.Includes.{included_name}
use Rattle.deck_lines.specs.LineLoads.{excerpt_in, load_above, load_below, load_of_rest}
use Rattle.deck_lines.specs.Loads.{LeadsBetweenBlocks, block_endings}
use Rattle.deck_lines.specs.Transcripts.{IsPartTranscript, LoadContinuesAs}
use Rattle.deck_lines.proofs.load.file.+load.Given as goal

abbrev pub decreases-load_file : goal.decreases-load_file
decreases-load_file g l = 3 * l.depth + 2

abbrev pub decreases-load_line : goal.decreases-load_line
decreases-load_line g l = 3 * l.depth + 1

abbrev pub decreases-load_include : goal.decreases-load_include
decreases-load_include g l = 3 * l.depth

abbrev pub invariant-load_file-loop-blocks : goal.invariant-load_file-loop-blocks
invariant-load_file-loop-blocks g l = record {
  kept : g.F.Files.files l.files ≡ g.F.Files.files l.initial.files;
  stores : g.F.Files.store_faults l.files ≡ g.F.Files.store_faults l.initial.files;
  counted : g.F.Files.faults l.files ≡ g.F.Files.faults l.initial.files;
  leads : LeadsBetweenBlocks [] (block_endings (reverse l.blocks.items)) l.initial.draft.store l.draft.store (Ok tt);
  continues : LoadContinuesAs
      (IsPartTranscript (g.F.Files.files l.initial.files) g.F.Files.is_fetch l.initial.files l.files)
      (load_above l.depth l.name l.bytes (excerpt_in l.initial.draft))
      (load_of_rest (λ word. load_below l.depth l.name (included_name l.name word)) l.name (reverse l.blocks.items)
      (nonblank_lines l.lines) (excerpt_in l.draft));
}

abbrev pub decreases-load_file-loop-blocks : goal.decreases-load_file-loop-blocks
decreases-load_file-loop-blocks g l = length (nonblank_lines l.lines)
