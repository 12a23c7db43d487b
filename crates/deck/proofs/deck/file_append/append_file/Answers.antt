use Rattle.std.proofs.Common.{◌∙◌, subst}
use Rattle.deck_lines.specs.Loads.{ExtendsStore}
use Rattle.deck_lines.specs.Stores.{LineStoreView}
use Rattle.deck.proofs.MoreNumbers.{deck_indexed_after_refusal, old_deck_lines_are_front}
use Rattle.deck.proofs.deck.file_append.append_file.Goals as goal

pub returns-in-Err-clause-stays : goal.returns-in-Err-clause-stays
returns-in-Err-clause-stays g c =
    let behind : ExtendsStore c.args.store.now c.load_changes-changes.new.draft.store =
    subst (λ (s : LineStoreView). ExtendsStore s c.load_changes-changes.new.draft.store) c.draft_of-draft.ensures.store
    c.load_changes-changes.ensures.extends in
    deck_indexed_after_refusal c.args.store.now c.load_changes-changes.new.draft.store c.truncate.new.self
    c.args.settings.now
    c.args.last.now c.len-len.ensures.numbering c.requires behind
    (c.truncate.ensures.lines
    ∙ old_deck_lines_are_front c.args.store.now c.load_changes-changes.new.draft.store c.len-len.result
    c.len-len.ensures.count
    behind) c.truncate.ensures.names
