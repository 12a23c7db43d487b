use Rattle.std.proofs.Common.{ap, sym, ◌∙◌}
use Rattle.std.proofs.lemmas.List.{nil_from_length}
use Rattle.deck.specs.Tables.{table_of_deck}
use Rattle.value_sources.specs.Rows.{first_mentions}
use Rattle.value_sources.specs.StoredMentions.{placed_mention_list}
use Rattle.value_sources.proofs.Walking.{source_rows_underway_end}
use Rattle.value_sources.proofs.WalkSteps.{walk_skipped, walk_visited}
use Rattle.value_sources.proofs.walk.Walk.next.Goals as goal

pub returns-in_default : goal.returns-in_default
returns-in_default c words rows h =
    let d = c.args.deck.now in
    let pending = c.args.self.now.pending in
    source_rows_underway_end d (first_mentions (table_of_deck d) words) rows (placed_mention_list d pending.items)
    (ap (placed_mention_list d) (nil_from_length pending.items (sym pending.ok.0 ∙ c.in_default.ensures.cases.0)))
    h.underway

pub returns-in_default-unvisited_place : goal.returns-in_default-unvisited_place
returns-in_default-unvisited_place c words rows h =
    let walk = walk_skipped c.args.deck.now words rows c.args.self.now.marks.items c.args.self.now.pending.items
    c.pop.new.self.items c.in-Some.mention c.in-Some.ensures.items h.marked h.underway c.deref.result.now
    c.unvisited_place.result c.deref.ensures.value c.unvisited_place.ensures c.in_default-unvisited_place.is in
    record { marked = walk.0; underway = walk.1 }

pub returns : goal.returns
returns c words rows h =
    let walk = walk_visited c.args.deck.now words rows c.args.self.now.marks.items c.args.self.now.pending.items
    c.pop.new.self.items c.in-Some.mention c.in-Some.ensures.items h.marked h.underway c.targets_are_present.ensures
    c.deref.result.now c.unvisited_place.result c.in-Some-unvisited_place.place c.deref.ensures.value
    c.unvisited_place.ensures
    c.in-Some-unvisited_place.is c.set_mark.new.marks.items c.set_mark.ensures c.put_found.new.found.items
    c.push_reversed.new.pending.items c.in_ok-put_found.ensures c.in_ok-push_reversed.ensures in
    record { marked = walk.0; underway = walk.1 }
