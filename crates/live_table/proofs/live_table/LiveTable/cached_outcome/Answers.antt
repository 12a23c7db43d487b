use Rattle.std.proofs.Common.{◌≡◌, false, List, None, Some, ℕ, Option, subst}
use Rattle.std.specs.Prelude.{MatchOption, slice_get}
use Rattle.std.specs.FinMap as map_of
use Rattle.std.specs.Option.{option_copied}
use Rattle.def_entry.specs.Keys.{key}
use Rattle.def_entry.specs.SameKeys.{is_entry_key_among}
use Rattle.deck.specs.Tables.{table_of_deck}
use Rattle.table_names.specs.Meanings.{outcome}
use Rattle.live_table.specs.TableView.{LiveView}
use Rattle.live_table.specs.TableContents.{node_lists}
use Rattle.live_table.proofs.CachedKeys.{cached_outcome_is_right, missing, stored_for_key}
use Rattle.live_table.proofs.live_table.LiveTable.cached_outcome.Goals as goal

pub returns-in-Some-clause-cached : goal.returns-in-Some-clause-cached
returns-in-Some-clause-cached c =
    let k = c.args.key.now in
    let keys = c.self.inside.nodes.keys in
    let named : slice_get keys c.in-Some.n ≡ Some (key k.kind c.as_bytes.result.now) =
    subst (λ (o : Option ℕ). MatchOption o (is_entry_key_among keys (key k.kind c.as_bytes.result.now) ≡ false)
    (λ n. slice_get keys n ≡ Some (key k.kind c.as_bytes.result.now))) c.in-Some.is c.in_ok-n.ensures in
    let at : slice_get keys c.in-Some.n ≡ Some k =
    subst (λ (name : List ℕ). slice_get keys c.in-Some.n ≡ Some (key k.kind name)) c.as_bytes.ensures named in
    subst (λ (s : LiveView). option_copied c.outcome_at.result ≡ map_of.get s.kept_outcomes k) c.self.view_is
    (stored_for_key (table_of_deck c.self.inside.deck) (node_lists c.self.inside.nodes)
    c.self.invariant.0.is_sound.numbers k
    c.in-Some.n
    (option_copied c.outcome_at.result) at c.outcome_at.ensures)

pub returns-in-Some-clause-right : goal.returns-in-Some-clause-right
returns-in-Some-clause-right c o e =
    let k = c.args.key.now in
    let keys = c.self.inside.nodes.keys in
    let named : slice_get keys c.in-Some.n ≡ Some (key k.kind c.as_bytes.result.now) =
    subst (λ (o : Option ℕ). MatchOption o (is_entry_key_among keys (key k.kind c.as_bytes.result.now) ≡ false)
    (λ n. slice_get keys n ≡ Some (key k.kind c.as_bytes.result.now))) c.in-Some.is c.in_ok-n.ensures in
    let at : slice_get keys c.in-Some.n ≡ Some k =
    subst (λ (name : List ℕ). slice_get keys c.in-Some.n ≡ Some (key k.kind name)) c.as_bytes.ensures named in
    subst (λ (s : LiveView). o ≡ outcome (table_of_deck s.deck) k) c.self.view_is
    (cached_outcome_is_right c.self.inside.deck (node_lists c.self.inside.nodes) c.self.inside.reductions
    c.self.invariant.0.is_sound.is_right k (option_copied c.outcome_at.result)
    (stored_for_key (table_of_deck c.self.inside.deck) (node_lists c.self.inside.nodes)
    c.self.invariant.0.is_sound.numbers k
    c.in-Some.n
    (option_copied c.outcome_at.result) at c.outcome_at.ensures) o e)

pub returns-in-None-clause-cached : goal.returns-in-None-clause-cached
returns-in-None-clause-cached c =
    let k = c.args.key.now in
    let keys = c.self.inside.nodes.keys in
    let named : is_entry_key_among keys (key k.kind c.as_bytes.result.now) ≡ false =
    subst (λ (o : Option ℕ). MatchOption o (is_entry_key_among keys (key k.kind c.as_bytes.result.now) ≡ false)
    (λ n. slice_get keys n ≡ Some (key k.kind c.as_bytes.result.now))) c.in-None.is c.in_ok-n.ensures in
    let absent : is_entry_key_among keys k ≡ false =
    subst (λ (name : List ℕ). is_entry_key_among keys (key k.kind name) ≡ false) c.as_bytes.ensures named in
    subst (λ (s : LiveView). None ≡ map_of.get s.kept_outcomes k) c.self.view_is
    (missing (table_of_deck c.self.inside.deck) (node_lists c.self.inside.nodes) c.self.invariant.0.is_sound.numbers k
    absent)
