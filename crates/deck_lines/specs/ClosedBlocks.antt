-- Lines whose blocks are closed.
use Rattle.std.specs.Prelude.{◌≡◌, ℕ, List, [], ◌∷◌, if◌then◌else◌, Option, Some, None}
use Rattle.std.specs.Option.{option_and_then}
use Rattle.units_io.specs.FileMap.{FileMap}
use Rattle.def_lines.specs.Kinds.{kind_of_line}
use Rattle.deck_lines.specs.Blocks.{block_role_of_kind, same_block_ending}
use Rattle.deck_lines.specs.Includes.{excerpt_of_deck_file}
use Rattle.deck_lines.specs.declared.line.DeckLine.{DeckLine}
use Rattle.deck_lines.specs.declared.line.Ending.{Ending}
use Rattle.deck_lines.specs.declared.line.Role.{Role}
use Rattle.deck_lines.specs.declared.line.Role.TheVariants.{Opens, Closes, Inside}

-- the open blocks without the innermost one, which comes first, or `None` if it has another ending or no block is open
abbrev pub blocks_without : Ending → List Ending → Option (List Ending)
blocks_without ending [] = None
blocks_without ending (block ∷ blocks) = if same_block_ending ending block then Some blocks else None

-- the open blocks after a line of this role
abbrev pub blocks_past_role : List Ending → Role → Option (List Ending)
blocks_past_role blocks (Opens ending) = Some (ending ∷ blocks)
blocks_past_role blocks (Closes ending) = blocks_without ending blocks
blocks_past_role blocks Inside = Some blocks

-- the open blocks after a line; a line with the mark opens and closes no block
unfoldable pub blocks_past : List Ending → DeckLine → Option (List Ending)
blocks_past blocks line = if line.mark then Some blocks else blocks_past_role blocks
    (block_role_of_kind (kind_of_line line.text))

-- the open blocks after some lines, or `None` if an end line does not close the innermost block
abbrev pub blocks_after : List Ending → List DeckLine → Option (List Ending)
blocks_after blocks [] = Some blocks
blocks_after blocks (line ∷ lines) = option_and_then (λ now. blocks_after now lines) (blocks_past blocks line)

-- every block is closed by its own end line, and every end line without the mark closes the innermost open block
abbrev pub AreBlocksClosed : List DeckLine → Type 0
AreBlocksClosed lines = blocks_after [] lines ≡ Some []

-- law: the deck of a file is closed
abbrev pub ClosedBlocksLaw : Type 0
ClosedBlocksLaw = (files : FileMap) (name bytes : List ℕ)
    → AreBlocksClosed (excerpt_of_deck_file files name bytes).lines
