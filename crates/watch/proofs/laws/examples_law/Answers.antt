use Rattle.std.proofs.Common.{refl}
use Rattle.std.specs.Fmt.{digits}
use Rattle.watch.proofs.laws.examples_law.Goals as goal

pub returns : goal.returns
unfolding digits
returns c = record {
  no_changes = refl;
  no_news = refl;
  first_changed = refl;
  second_changed = refl;
  both_changed =
      refl;
}
