use Rattle.value_sources.proofs.OneList.{rows_unique}
use Rattle.value_sources.proofs.Once.{each_once}
use Rattle.value_sources.proofs.Reached.{visited_are_reached}
use Rattle.value_sources.proofs.laws.rows_law.Goals as goal

pub returns : goal.returns
returns c = record {
  one_list = λ table words rows others r s. rows_unique table r s;
  rows_exact = λ table words rows r. visited_are_reached table words rows r;
  each_key_once = λ table words rows r. each_once table words rows r;
}
