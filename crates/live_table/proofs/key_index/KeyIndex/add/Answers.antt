use Rattle.std.proofs.Common.{◌≡◌, List, ap, subst, ◌∙◌}
use Rattle.std.specs.Prelude.{IfOk, OnErr}
use Rattle.std.specs.List.{slice_get}
use Rattle.def_entry.specs.Keys.{key}
use Rattle.def_entry.specs.declared.key.Key.{Key}
use Rattle.live_table.specs.KeyIndex.{IsNodeKeyAdded}
use Rattle.live_table.proofs.key_index.KeyIndex.add.Goals as goal

pub returns-in-Some-clause-ok : goal.returns-in-Some-clause-ok
returns-in-Some-clause-ok c = record {
  number =
      ap (λ (keys : List Key). slice_get keys c.in-Some.number) c.number_of_long.ensures.kept
      ∙ c.in-Some.ensures.number;
  keys = c.number_of_long.ensures.kept;
}

pub returns-clause-ok : goal.returns-clause-ok
returns-clause-ok c =
    subst (λ (keys : List Key). IfOk c.insert.result (λ added. IsNodeKeyAdded (key c.args.kind c.args.name.now) keys
    c.insert.new.self added.number added.is_new)) c.number_of_long.ensures.kept c.insert.ensures.ok

pub returns-clause-err : goal.returns-clause-err
returns-clause-err c =
    subst (λ (keys : List Key). OnErr c.insert.result (c.insert.new.self ≡ keys)) c.number_of_long.ensures.kept
    c.insert.ensures.err
