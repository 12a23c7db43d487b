use Rattle.std.proofs.Common.{◌≡◌, ◌++◌, ℕ, Contains, List, Some, ap, subst, sym, ◌∙◌}
use Rattle.std.proofs.lemmas.Result.{on_ok_weaker}
use Rattle.def_entry.specs.declared.key.Key.{Key}
use Rattle.def_entry.specs.Keys.{key}
use Rattle.deck.specs.Tables.{is_entry_present, last_definition_place, table_of_deck}
use Rattle.table_names.specs.Leads.{table_word_targets}
use Rattle.value_sources.specs.Leads.{first_kind_of_mentioned_word, source_destination_keys}
use Rattle.value_sources.specs.PlacedMentions.{PlacedMention, placed_mentions_to}
use Rattle.value_sources.specs.StoredMentions.{placed_mention_list}
use Rattle.value_sources.specs.Uses.{source_use_at}
use Rattle.value_sources.proofs.Leads.{mentioned_name_in_force}
use Rattle.value_sources.proofs.Stored.{named_mention_is_placed}
use Rattle.value_sources.proofs.lookup.Lookup.put_word.Goals as goal

pub returns-in-Some : goal.returns-in-Some
returns-in-Some c =
    let d = c.args.self.now.deck.now in
    let u = c.args.word.now in
    let k = c.first_kind.result in
    let found : last_definition_place d.settings d.lines (key k c.text.result.now) ≡ Some c.in-Some.place =
    sym c.place_of.ensures ∙ c.in-Some.is in
    let placed : last_definition_place d.settings d.lines (key k u.text) ≡ Some c.in-Some.place =
    ap (λ (w : List ℕ). last_definition_place d.settings d.lines (key k w)) (sym c.text.ensures) ∙ found in
    let led = mentioned_name_in_force d u c.lookup_law.ensures k c.text.result.now c.in-Some.place
    (c.first_kind.ensures ∙ ap first_kind_of_mentioned_word c.kind.ensures) c.text.ensures found in
    on_ok_weaker c.put_mention.result
    (λ e. e d ∙ ap (λ (ps : List PlacedMention). placed_mention_list d c.args.mentions.now.items ++ ps)
    (named_mention_is_placed d c.args.location u c.named_mention.result k c.in-Some.place
    (table_word_targets (table_of_deck d) u)
    c.named_mention.ensures placed led))
    c.put_mention.ensures

pub returns : goal.returns
returns c =
    let d = c.args.self.now.deck.now in
    let u = c.args.word.now in
    let led : table_word_targets (table_of_deck d) u ≡ source_destination_keys c.in_ok-destination.destination =
    c.in_ok-destination.ensures in
    on_ok_weaker c.put_destination.result
    (λ f. f (λ n i. (c.targets_are_present.ensures (is_entry_present (table_of_deck d)) u.kind u.text n
    (subst (λ (ks : List Key). Contains ks n) (sym led) i)).1)
    ∙ ap (λ (ks : List Key). placed_mention_list d c.args.mentions.now.items ++ placed_mentions_to d
    c.args.location.depth
    (source_use_at c.args.location.site u) ks)
    (sym led))
    c.put_destination.ensures
