-- A handle and its parts own the same resources as a box of the same type.
use mir.Syntax.{impl, tnil, dnil}
use mathlib.Core.List.{[]}
use denote.Signature.{Slot, plain}
use Rattle.std_alloc.proofs.BoxSteps.Form.{Bx}
use Rattle.std_heap.specs.contracts.Global as Heap
use Rattle.std_heap.specs.contracts.GlobalAllocator.TheImpl.{ghosts, dict}
use Rattle.std_heap.proofs.Global.TheLaws as heap
use Rattle.edited_table.specs.contracts.edited_table.EditedTable as EditedTable
use Rattle.edited_table.proofs.edited_table.EditedTable.TheLaws as edited_table
use Rattle.edited_table.specs.contracts.parts.Parts as Parts
use Rattle.edited_table.specs.contracts.handle.Handle as Handle

abbrev pub E : Bx
E = record {
  row = EditedTable.the_row;
  laws = edited_table.the_row_laws;
  al = record
      { row = Heap.the_row; laws = heap.the_row_laws; g = ghosts; d = dict; drops = impl [] tnil dnil };
}

abbrev pub FromParts : Slot 0
FromParts = plain (λ _. Parts.the_row EditedTable.the_row Heap.the_row ghosts)

abbrev pub FromHandle : Slot 0
FromHandle = plain (λ _. Handle.the_row)
