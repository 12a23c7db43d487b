use Rattle.expr_tree.specs.Trees.{syntax}
use Rattle.expr_tree.specs.Words.{words_in}
use Rattle.value_sources.specs.declared.site.Site.TheVariants.{Expression}
use Rattle.value_sources.specs.PlacedMentions.{placed_mentions}
use Rattle.value_sources.specs.Uses.{source_uses_at}
use Rattle.value_sources.proofs.Stored.{first_mentions_pushed}
use Rattle.value_sources.proofs.walk.first_mentions.Goals as goal

pub returns : goal.returns
returns c =
    let d = c.args.lookup.now.deck.now in
    first_mentions_pushed d c.new-mentions.result.items c.put_tree.new.mentions.items c.new-pending.result.items
    c.push_reversed.new.pending.items
    (placed_mentions d 0 (source_uses_at Expression (words_in (syntax c.args.tree.now))))
    c.new-mentions.ensures.items c.new-pending.ensures.items c.in_ok-put_tree.ensures c.in_ok-push_reversed.ensures
