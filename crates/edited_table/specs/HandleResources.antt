-- The resources of a handle: the block of a box that contains an edited table, or nothing.
use Rattle.std.specs.Prelude.{Option, None, Some}
use Rattle.std.specs.Coded.{Coded, coded_option}
use base.Fml.{Fml, ftrue}
use denote.RawPtr.{Ptr}
use Rattle.std.specs.Box.Ownership.{box_owns}
use Rattle.std.specs.Global.{Global}
use Rattle.std_heap.specs.contracts.GlobalAllocator.TheImpl.{ghosts}
use Rattle.edited_table.specs.TableValue.{EditedTableView, edited_table_code}
use Rattle.edited_table.specs.contracts.edited_table.EditedTable.{the_row}

abbrev pub handle_owns : Global → Ptr → Option EditedTableView → Fml
handle_owns alloc at (Some table) = box_owns (ghosts.dealloc_token alloc) the_row at table
handle_owns alloc at None = ftrue

abbrev pub coded_handle_table : Coded (Option EditedTableView)
coded_handle_table = coded_option edited_table_code
