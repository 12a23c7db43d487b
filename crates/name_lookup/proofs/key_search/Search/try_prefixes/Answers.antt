use Rattle.std.proofs.Common.{sym, ◌∙◌, refl, arith}
use Rattle.def_entry.specs.SameKeys.{is_entry_key_among}
use Rattle.name_lookup.proofs.Prefixing.{ended, went_on}
use Rattle.name_lookup.proofs.key_search.Search.try_prefixes.Goals as goal

pub returns-then-are_some-clause-taken : goal.returns-then-are_some-clause-taken
returns-then-are_some-clause-taken g c =
    ended (is_entry_key_among (g.P.Present.keys c.args.self.now.table.now)) c.args.word.now c.split_at.result.0.now
    c.split_at.result.1.now c.loop-len.len (g.L.Looking.looked c.args.looking.now)
    (g.L.Looking.looked c.loop-len.looking)
    (g.L.Looking.looked c.try_prefix.new.looking) c.in_ok-targets.targets c.loop-len-test.true
    c.loop-len.invariant.tried
    c.split_at.ensures.front c.split_at.ensures.back (sym c.are_some.ensures ∙ c.if-are_some.true)
    c.in_ok-targets.ensures.taken

pub loop-len-preserved : goal.loop-len-preserved
loop-len-preserved g c = record {
  within = let w = c.loop-len.invariant.within in omega arith;
  tried = went_on (is_entry_key_among (g.P.Present.keys c.args.self.now.table.now)) c.args.word.now
      c.split_at.result.0.now
      c.split_at.result.1.now c.loop-len.len _ (g.L.Looking.looked c.args.looking.now)
      (g.L.Looking.looked c.loop-len.looking) (g.L.Looking.looked c.try_prefix.new.looking) c.in_ok-targets.targets
      c.loop-len-test.true refl c.loop-len.invariant.tried c.split_at.ensures.front c.split_at.ensures.back
      (sym c.are_some.ensures ∙ c.if-are_some.false) c.in_ok-targets.ensures.taken;
  ready = c.in_ok-targets.ensures.ready;
  kept = λ start k. c.in_ok-targets.ensures.kept start (c.loop-len.invariant.kept start k);
}
