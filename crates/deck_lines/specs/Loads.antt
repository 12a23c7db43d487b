-- Drafts, to which a load appends lines and notices.
use Rattle.std.specs.Prelude.{◌≡◌, ◌++◌, List, [], ◌∷◌, true, false, map, Some, Result, Ok, Err, OnOk, ⊤}
use Rattle.deck_lines.specs.ClosedBlocks.{blocks_after}
use Rattle.deck_lines.specs.Excerpts.{Excerpt}
use Rattle.deck_lines.specs.Limits.{pass_store_limit}
use Rattle.deck_lines.specs.Names.{KeyNumberNames}
use Rattle.deck_lines.specs.Readings.{entry_in_store_line}
use Rattle.deck_lines.specs.Stores.{LineStoreView, key_numbers_by_definition}
use Rattle.deck_lines.specs.declared.draft.Draft.{Draft}
use Rattle.deck_lines.specs.declared.draft.LoadFault.{LoadFault}
use Rattle.deck_lines.specs.declared.draft.LoadFault.TheVariants.{DeckFull, ReadFailed, OutOfMemory}
use Rattle.deck_lines.specs.declared.line.Block.{Block}
use Rattle.deck_lines.specs.declared.line.DeckLine.{DeckLine}
use Rattle.deck_lines.specs.declared.line.Ending.{Ending}

-- names extended by numbers for the keys that lines define
abbrev pub key_numbers_by_definitions : KeyNumberNames → List DeckLine → KeyNumberNames
key_numbers_by_definitions names [] = names
key_numbers_by_definitions names (line ∷ lines) = key_numbers_by_definitions
    (key_numbers_by_definition names (entry_in_store_line line)) lines

-- a store with more lines appended
abbrev pub store_with_lines : LineStoreView → List DeckLine → LineStoreView
store_with_lines store lines =
    record { lines = store.lines ++ lines; names = key_numbers_by_definitions store.names lines }

-- a draft with more lines and notices appended
abbrev pub draft_with_excerpt : Draft → Excerpt → Draft
draft_with_excerpt draft excerpt =
    record { store = store_with_lines draft.store excerpt.lines; notices = draft.notices ++ excerpt.notices }

-- an excerpt was appended, and the lines are within the limits; or its lines have no room, or memory ran out
abbrev pub IsExcerptPut : Draft → Excerpt → Result (Unit {0}) LoadFault → Draft → Type 0
IsExcerptPut before excerpt (Ok _) after =
    (after ≡ draft_with_excerpt before excerpt) × (pass_store_limit after.store.lines ≡ false)
IsExcerptPut before excerpt (Err DeckFull) after = pass_store_limit (before.store.lines ++ excerpt.lines) ≡ true
IsExcerptPut before excerpt (Err ReadFailed) after = ⊥
IsExcerptPut before excerpt (Err OutOfMemory) after = ⊤

-- the endings of open blocks
abbrev pub block_endings : List Block → List Ending
block_endings blocks = map (λ block. block.ending) blocks

-- lines were appended to a store
pub record ExtendsStore (before after : LineStoreView) : Type 0 where
  pub lines : List DeckLine
  pub lines_put : after ≡ store_with_lines before lines

-- lines were appended to a store; if nothing failed, they lead from some open blocks to others
pub record LeadsBetweenBlocks (from to : List Ending) (before after : LineStoreView)
    (result : Result (Unit {0}) LoadFault) : Type 0 where
  pub lines : List DeckLine
  pub lines_put : after ≡ store_with_lines before lines
  pub blocks_lead : OnOk result (blocks_after from lines ≡ Some to)
