use Rattle.std.proofs.Common.{◌≡◌, ◌++◌, ◌∷◌, [], Contains, refl, subst, sym, true}
use Rattle.std.proofs.lemmas.Result.{on_ok_weaker}
use Rattle.def_entry.specs.declared.key.Key.{Key}
use Rattle.deck.specs.Tables.{is_entry_present, table_of_deck}
use Rattle.value_sources.specs.declared.word_keys.Destination.{Destination}
use Rattle.value_sources.specs.Leads.{source_destination_keys}
use Rattle.value_sources.specs.PlacedMentions.{placed_mentions_to}
use Rattle.value_sources.specs.StoredMentions.{placed_mention_list}
use Rattle.value_sources.specs.Uses.{source_use_at}
use Rattle.value_sources.proofs.Stored.{both_mentions_pushed}
use Rattle.value_sources.proofs.lookup.Lookup.put_destination.Goals as goal
use Rattle.general_lemmas.proofs.Members.{member_first, member_later}

pub returns-in_ok-mention-in-Two : goal.returns-in_ok-mention-in-Two
returns-in_ok-mention-in-Two c =
    let d = c.args.self.now.deck.now in
    let l = c.args.location in
    let u = c.args.word.now in
    let n = c.in-Two.prefix in
    let k = c.in-Two.unit in
    let before = placed_mention_list d c.args.mentions.now.items in
    let now = placed_mention_list d c.put_mention-in-Two-2.new.mentions.items in
    on_ok_weaker c.put_mention-in-Two-2.result
    (λ e. subst
    (λ (w : Destination). ((x : Key) → Contains (source_destination_keys w) x
    → is_entry_present (table_of_deck d) x ≡ true)
    → now ≡ before ++ placed_mentions_to d l.depth (source_use_at l.site u) (source_destination_keys w))
    (sym c.in-Two.is)
    (λ has. both_mentions_pushed d l u n k c.in_ok-first-in-Two.first c.in_ok-mention-in-Two.field-0
    c.last_place-place.result
    c.last_place-place-in-Two.result before (placed_mention_list d c.put_mention-in-Two.new.mentions.items) now
    c.in_ok-first-in-Two.ensures c.in_ok-mention-in-Two.ensures c.last_place-place.ensures
    c.last_place-place-in-Two.ensures (has n (member_first n n (k ∷ []) refl))
    (has k (member_later k n (k ∷ []) (member_first k k [] refl))) (c.in_ok-put_mention-in-Two.ensures d) (e d)))
    c.put_mention-in-Two-2.ensures
