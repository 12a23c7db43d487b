use Rattle.def_entry.specs.Keys.{key}
use Rattle.def_entry.specs.SameKeys.{is_entry_key_among}
use Rattle.name_lookup.specs.Order.{try_key, try_parts}
use Rattle.name_lookup.proofs.Taking.{ended_lookup_step_ends_plan, last_lookup_step_may_fail}
use Rattle.name_lookup.proofs.Taking.{unended_lookup_step_goes_on}
use Rattle.std.proofs.Common.{sym, ◌∙◌}
use Rattle.name_lookup.proofs.key_search.Search.try_kinds.Goals as goal

pub returns-then-are_some-clause-taken : goal.returns-then-are_some-clause-taken
returns-then-are_some-clause-taken g c =
    let has = is_entry_key_among (g.P.Present.keys c.args.self.now.table.now) in
    let first = try_key (key c.args.first c.args.word.now) in
    let second = try_key (key c.args.second c.args.word.now) in
    ended_lookup_step_ends_plan has first (λ next. second (try_parts c.args.word.now next))
    (g.L.Looking.looked c.args.looking.now)
    (g.L.Looking.looked c.try_key.new.looking) c.in_ok-targets.targets (sym c.are_some.ensures ∙ c.if-are_some.true)
    c.in_ok-targets.ensures.taken

pub returns-then-are_some-2-clause-taken : goal.returns-then-are_some-2-clause-taken
returns-then-are_some-2-clause-taken g c =
    let has = is_entry_key_among (g.P.Present.keys c.args.self.now.table.now) in
    let first = try_key (key c.args.first c.args.word.now) in
    let second = try_key (key c.args.second c.args.word.now) in
    unended_lookup_step_goes_on has first (λ next. second (try_parts c.args.word.now next))
    (g.L.Looking.looked c.args.looking.now)
    (g.L.Looking.looked c.try_key.new.looking) (g.L.Looking.looked c.try_key-2.new.looking) c.in_ok-targets.targets
    c.in_ok-targets-2.targets (sym c.are_some.ensures ∙ c.if-are_some.false) c.in_ok-targets.ensures.taken
    (ended_lookup_step_ends_plan has second (try_parts c.args.word.now) (g.L.Looking.looked c.try_key.new.looking)
    (g.L.Looking.looked c.try_key-2.new.looking) c.in_ok-targets-2.targets
    (sym c.are_some-2.ensures ∙ c.if-are_some-2.true)
    c.in_ok-targets-2.ensures.taken)

pub returns-clause-taken : goal.returns-clause-taken
returns-clause-taken g c =
    let has = is_entry_key_among (g.P.Present.keys c.args.self.now.table.now) in
    let first = try_key (key c.args.first c.args.word.now) in
    let second = try_key (key c.args.second c.args.word.now) in
    let none = sym c.are_some.ensures ∙ c.if-are_some.false in
    let none_yet = sym c.are_some-2.ensures ∙ c.if-are_some-2.false in
    last_lookup_step_may_fail has (λ next. first (second next)) (try_parts c.args.word.now)
    (g.L.Looking.looked c.args.looking.now)
    (g.L.Looking.looked c.try_key-2.new.looking) (g.L.Looking.looked c.try_parts.new.looking) c.in_ok-targets-2.targets
    c.try_parts.result none_yet
    (unended_lookup_step_goes_on has first second (g.L.Looking.looked c.args.looking.now)
    (g.L.Looking.looked c.try_key.new.looking)
    (g.L.Looking.looked c.try_key-2.new.looking) c.in_ok-targets.targets c.in_ok-targets-2.targets none
    c.in_ok-targets.ensures.taken c.in_ok-targets-2.ensures.taken)
    c.try_parts.ensures.taken
