use Rattle.std.proofs.Common.{ap, List, Option, subst, sym}
use Rattle.expr_tree.specs.Trees.{syntax}
use Rattle.expr_tree.specs.Words.{words_in}
use Rattle.value_sources.specs.declared.row.Row.{Row as StoredRow}
use Rattle.value_sources.specs.Rows.{SourceRow}
use Rattle.value_sources.specs.StoredMentions.{source_rows_in}
use Rattle.value_sources.specs.Walks.{IsNextSourceRow, IsSourceWalk}
use Rattle.value_sources.proofs.Stored.{source_row_pushed}
use Rattle.value_sources.proofs.walk.rows.Goals as goal

pub loop-rows-init : goal.loop-rows-init
loop-rows-init c =
    subst (λ (rs : List SourceRow). IsSourceWalk c.args.deck.now (words_in (syntax c.args.tree.now)) rs
    c.in_ok-walk.walk)
    (sym (ap (source_rows_in c.args.deck.now) c.new-rows.ensures.items)) c.in_ok-walk.ensures

pub loop-rows-preserved : goal.loop-rows-preserved
loop-rows-preserved c =
    let d = c.args.deck.now in
    let words = words_in (syntax c.args.tree.now) in
    let rows = source_rows_in d c.loop-rows.rows.items in
    subst (λ (rs : List SourceRow). IsSourceWalk d words rs c.next.new.self)
    (sym (source_row_pushed d c.loop-rows.rows.items c.push.new.self.items c.in-Some.row c.in_ok-push.ensures.items))
    (subst (λ (o : Option StoredRow). IsNextSourceRow d words rows c.next.new.self o) c.in-Some.is
    (c.in_ok-row.ensures words rows c.loop-rows.invariant))

pub returns : goal.returns
returns c =
    let d = c.args.deck.now in
    let words = words_in (syntax c.args.tree.now) in
    let rows = source_rows_in d c.loop-rows.rows.items in
    subst (λ (o : Option StoredRow). IsNextSourceRow d words rows c.next.new.self o) c.in_default.is
    (c.in_ok-row.ensures words rows c.loop-rows.invariant)
