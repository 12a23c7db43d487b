use Rattle.expr_tree.proofs.ParseFaults.{parse_fault_not_of_memory}
use Rattle.expr_tree.proofs.laws.parse_memory_law.Goals as goal

pub returns : goal.returns
returns c = parse_fault_not_of_memory
