use Rattle.std.proofs.Common.{◌≡◌, ◌+◌, ◌++◌, List, arith, get_or, subst, take, ℕ}
use Rattle.std.proofs.lemmas.Option.{slice_get-get_or}
use Rattle.deck.specs.Decks.{DeckContents}
use Rattle.live_table.specs.TableView.{AreLiveEventsCutOff, IsAfterLiveEvents}
use Rattle.reply.specs.Options.{reply_style}
use Rattle.survey.proofs.CheckBlocks.{block_cut, block_lines, block_queries}
use Rattle.survey.proofs.Places.{line_at, queries_at}
use Rattle.survey.proofs.ItemReports.{underway-cut, underway-next, underway-start}
use Rattle.survey.proofs.check_blocks.put_check_block.Goals as goal

pub loop-done-init : goal.loop-done-init
loop-done-init g c = record {
  within = omega arith;
  at = underway-start (line_at c.args.table.now.deck (reply_style c.args.check.now.options.now))
      (queries_at c.args.table.now.deck)
      c.args.check.now.places.now c.args.lines.now.items c.args.table.now c.args.steps.now c.requires.right;
}

pub loop-done-preserved : goal.loop-done-preserved
loop-done-preserved g c =
    let place = get_or c.args.check.now.places.now c.loop-done.done 0 in
    let at = c.loop-done.invariant.at in
    record {
      within = omega arith;
      at = underway-next (line_at c.args.table.now.deck (reply_style c.args.check.now.options.now))
          (queries_at c.args.table.now.deck)
          c.args.check.now.places.now c.loop-done.done c.args.lines.now.items c.loop-done.lines.items c.args.table.now
          c.loop-done.table c.args.steps.now c.loop-done.steps at place
          (slice_get-get_or c.args.check.now.places.now c.loop-done.done 0 (omega (arith, c.loop-done-test.true)))
          c.put_check_at.new.table c.put_check_at.new.steps c.put_check_at.new.lines.items
          (subst (λ (d : DeckContents). c.put_check_at.new.lines.items
          ≡ c.loop-done.lines.items ++ line_at d (reply_style c.args.check.now.options.now) place)
          at.deck c.in_ok-put_check_at.ensures.line)
          c.put_check_at.ensures.deck
          (subst (λ (d : DeckContents). IsAfterLiveEvents (queries_at d place)
          c.loop-done.table c.put_check_at.new.table c.loop-done.steps c.put_check_at.new.steps)
          at.deck c.in_ok-put_check_at.ensures.queries);
    }

pub returns-in_err-put_check_at-clause-cut_off : goal.returns-in_err-put_check_at-clause-cut_off
returns-in_err-put_check_at-clause-cut_off g c =
    let place = get_or c.args.check.now.places.now c.loop-done.done 0 in
    let deck = c.args.table.now.deck in
    let at = c.loop-done.invariant.at in
    block_cut deck c.args.check.now.places.now c.from_residual.result c.args.table.now c.put_check_at.new.table
    c.args.steps.now
    c.put_check_at.new.steps
    (underway-cut (line_at deck (reply_style c.args.check.now.options.now)) (queries_at deck)
    c.args.check.now.places.now
    c.loop-done.done
    c.args.lines.now.items c.loop-done.lines.items c.args.table.now c.loop-done.table c.args.steps.now
    c.loop-done.steps at place
    (slice_get-get_or c.args.check.now.places.now c.loop-done.done 0 (omega (arith, c.loop-done-test.true)))
    c.put_check_at.new.table c.put_check_at.new.steps
    (subst (λ (d : DeckContents). AreLiveEventsCutOff (queries_at d place) c.loop-done.table c.put_check_at.new.table
    c.loop-done.steps c.put_check_at.new.steps)
    at.deck c.in_err-put_check_at.ensures.queries))

pub returns-clause-lines : goal.returns-clause-lines
returns-clause-lines g c =
    block_lines c.args.table.now.deck (take c.loop-done.done c.args.check.now.places.now)
    (reply_style c.args.check.now.options.now)
    c.args.lines.now.items c.loop-done.lines.items c.loop-done.invariant.at.text

pub returns-clause-queries : goal.returns-clause-queries
returns-clause-queries g c =
    block_queries c.args.table.now.deck (take c.loop-done.done c.args.check.now.places.now) c.args.table.now
    c.loop-done.table
    c.args.steps.now c.loop-done.steps c.loop-done.invariant.at.follows

pub returns-then-len-ge-BLOCK-clause-lines : goal.returns-then-len-ge-BLOCK-clause-lines
returns-then-len-ge-BLOCK-clause-lines g c =
    let deck = c.args.table.now.deck in
    let style = reply_style c.args.check.now.options.now in
    let place = get_or c.args.check.now.places.now c.loop-done.done 0 in
    let at = c.loop-done.invariant.at in
    let next =
    underway-next (line_at deck style) (queries_at deck) c.args.check.now.places.now c.loop-done.done
    c.args.lines.now.items
    c.loop-done.lines.items c.args.table.now c.loop-done.table c.args.steps.now c.loop-done.steps at place
    (slice_get-get_or c.args.check.now.places.now c.loop-done.done 0 (omega (arith, c.loop-done-test.true)))
    c.put_check_at.new.table c.put_check_at.new.steps c.put_check_at.new.lines.items
    (subst (λ (d : DeckContents). c.put_check_at.new.lines.items ≡ c.loop-done.lines.items ++ line_at d style place)
    at.deck
    c.in_ok-put_check_at.ensures.line)
    c.put_check_at.ensures.deck
    (subst (λ (d : DeckContents). IsAfterLiveEvents (queries_at d place) c.loop-done.table c.put_check_at.new.table
    c.loop-done.steps
    c.put_check_at.new.steps)
    at.deck c.in_ok-put_check_at.ensures.queries) in
    block_lines deck (take (c.loop-done.done + 1) c.args.check.now.places.now) style c.args.lines.now.items
    c.put_check_at.new.lines.items next.text

pub returns-then-len-ge-BLOCK-clause-queries : goal.returns-then-len-ge-BLOCK-clause-queries
returns-then-len-ge-BLOCK-clause-queries g c =
    let deck = c.args.table.now.deck in
    let style = reply_style c.args.check.now.options.now in
    let place = get_or c.args.check.now.places.now c.loop-done.done 0 in
    let at = c.loop-done.invariant.at in
    let next =
    underway-next (line_at deck style) (queries_at deck) c.args.check.now.places.now c.loop-done.done
    c.args.lines.now.items
    c.loop-done.lines.items c.args.table.now c.loop-done.table c.args.steps.now c.loop-done.steps at place
    (slice_get-get_or c.args.check.now.places.now c.loop-done.done 0 (omega (arith, c.loop-done-test.true)))
    c.put_check_at.new.table c.put_check_at.new.steps c.put_check_at.new.lines.items
    (subst (λ (d : DeckContents). c.put_check_at.new.lines.items ≡ c.loop-done.lines.items ++ line_at d style place)
    at.deck
    c.in_ok-put_check_at.ensures.line)
    c.put_check_at.ensures.deck
    (subst (λ (d : DeckContents). IsAfterLiveEvents (queries_at d place) c.loop-done.table c.put_check_at.new.table
    c.loop-done.steps
    c.put_check_at.new.steps)
    at.deck c.in_ok-put_check_at.ensures.queries) in
    block_queries deck (take (c.loop-done.done + 1) c.args.check.now.places.now) c.args.table.now
    c.put_check_at.new.table
    c.args.steps.now c.put_check_at.new.steps next.follows
