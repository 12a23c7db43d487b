-- The numbers of names and of settled names.
use Rattle.std.proofs.Common.{◌≡◌, ◌+◌, ◌≤◌, ℕ, suc, Bool, true, false, cond, List, [], ◌∷◌, map, filter, length}
use Rattle.std.proofs.Common.{Option, Some, None, is_some, refl, sym, ◌∙◌, ap, arith}
use Rattle.std.specs.FinMap as map_of
use Rattle.std.specs.Prelude.{count_by}
use Rattle.std.proofs.lemmas.Bool.{cond-false}
use Rattle.std.proofs.lemmas.List.{length-map}
use Rattle.std.proofs.lemmas.List.Sums.{count_by-le-length, length-filter}
use Rattle.def_entry.specs.declared.key.Key.{Key}
use Rattle.def_entry.specs.declared.key.Kind.{Kind}
use Rattle.def_entry.specs.declared.key.Kind.TheVariants as kind
use Rattle.def_entry.specs.Entries.{Entry}
use Rattle.def_entry.specs.KeyOrder.{key_cmp}
use Rattle.def_entry.specs.SameKeys.{is_same_key_kind}
use Rattle.def_entry.specs.Tables.{EntryTable}
use Rattle.def_entry.proofs.SameKeys.{key_order}
use Rattle.deck.specs.Decks.{DeckContents}
use Rattle.deck.specs.KeyLists.{deck_key_count, deck_keys_of_kind, deck_table_keys}
use Rattle.deck.specs.Tables.{DeckTableLaw, table_of_deck}
use Rattle.tree_eval.specs.declared.outcome.Outcome.{Outcome}
use Rattle.live_table.specs.Calls.{all_settleable_names, is_settleable_kind, settleable_names}
use Rattle.live_table.specs.Sound.{AreSoundNodes}
use Rattle.live_table.specs.TableContents.{NodeLists, cached_outcomes_of}
use Rattle.live_table.proofs.OutcomesByKey.{AreApart, first_node_key_is_apart, key_without_node_is_not_cached}
use Rattle.live_table.proofs.OutcomesByKey.{node_keys_apart_without_first}

-- ---- names by their kinds
settleable_name_counts_by_kind : (c : Kind) (k : Key) (us ps fs ns : List Key)
    → (length us + length ps) + length fs ≡ length ns
    → (length (cond (is_same_key_kind kind.Unit c) (k ∷ us) us) + length
    (cond (is_same_key_kind kind.Prefix c) (k ∷ ps) ps))
    + length (cond (is_same_key_kind kind.Func c) (k ∷ fs) fs) ≡ length (cond (is_settleable_kind c) (k ∷ ns) ns)
settleable_name_counts_by_kind kind.Unit k us ps fs ns e = omega (arith, e)
settleable_name_counts_by_kind kind.Prefix k us ps fs ns e = omega (arith, e)
settleable_name_counts_by_kind kind.Func k us ps fs ns e = omega (arith, e)
settleable_name_counts_by_kind kind.List k us ps fs ns e = e

-- names are counted by their kinds
settleable_names_count_by_kinds : (ks : List Key)
    → (length (deck_keys_of_kind kind.Unit ks) + length (deck_keys_of_kind kind.Prefix ks)) + length
    (deck_keys_of_kind kind.Func ks)
    ≡ length (settleable_names ks)
settleable_names_count_by_kinds [] = refl
settleable_names_count_by_kinds (k ∷ ks) =
    settleable_name_counts_by_kind k.kind k (deck_keys_of_kind kind.Unit ks) (deck_keys_of_kind kind.Prefix ks)
    (deck_keys_of_kind kind.Func ks) (settleable_names ks)
    (settleable_names_count_by_kinds ks)

-- the number of names of a table
abbrev name_count : EntryTable → ℕ
name_count t = (deck_key_count t kind.Unit + deck_key_count t kind.Prefix) + deck_key_count t kind.Func

-- these are the counts of the names of each kind
pub record AreCounts (t : EntryTable) (u p f : ℕ) : Type 0 where
  pub units : u ≡ deck_key_count t kind.Unit
  pub prefixes : p ≡ deck_key_count t kind.Prefix
  pub functions : f ≡ deck_key_count t kind.Func

-- the sum of the counts is the length of the list of names
all_settleable_names_are_counted : (t : EntryTable) → name_count t ≡ length (all_settleable_names t)
all_settleable_names_are_counted t = settleable_names_count_by_kinds (deck_table_keys t)

-- ---- there are no more names than lines
-- the finite map of a table
abbrev map_of_table : EntryTable → map_of.FinMap key_cmp Entry
map_of_table t = map_of.from_entries t

shorter : (b : Bool) (m n l : ℕ) → l ≡ cond b m (m + 1) → m ≤ n → l ≤ suc n
shorter true m n l e h = omega (arith, e, h)
shorter false m n l e h = omega (arith, e, h)

-- the map of a table has at most as many entries as the table
live_table_map_is_no_longer : (t : EntryTable) → map_of.len (map_of_table t) ≤ length t
live_table_map_is_no_longer [] =
    let none : map_of.len (map_of_table []) ≡ 0 = map_of.len-empty key_cmp Entry in
    omega (arith, none)
live_table_map_is_no_longer (e ∷ t) =
    let m = map_of_table t in
    shorter (map_of.contains_key m e.0) (map_of.len m) (length t) (map_of.len (map_of_table (e ∷ t)))
    (map_of.len-insert key_order.total_order m e.0 e.1) (live_table_map_is_no_longer t)

-- a table has at most as many keys as entries
live_table_keys_are_no_more : (t : EntryTable) → length (deck_table_keys t) ≤ length t
live_table_keys_are_no_more t =
    let m = map_of_table t in
    let a : length (deck_table_keys t) ≡ length (map_of.entries m) = length-map (map_of.entries m) _ in
    let b : map_of.len m ≡ length (map_of.entries m) = map_of.len-entries m in
    let c : map_of.len m ≤ length t = live_table_map_is_no_longer t in
    omega (arith, a, b, c)

-- a deck has no more names than lines
live_names_are_no_more_than_lines : DeckTableLaw → (d : DeckContents) → name_count (table_of_deck d) ≤ length d.lines
live_names_are_no_more_than_lines law d =
    let ks : List Key = deck_table_keys (table_of_deck d) in
    let a : name_count (table_of_deck d) ≡ length (settleable_names ks) = settleable_names_count_by_kinds ks in
    let b : length (settleable_names ks) ≡ count_by (λ (k : Key). is_settleable_kind k.kind) ks = length-filter _ ks in
    let c : count_by (λ (k : Key). is_settleable_kind k.kind) ks ≤ length ks = count_by-le-length _ ks in
    let e : length ks ≤ length (table_of_deck d) = live_table_keys_are_no_more (table_of_deck d) in
    let f : length (table_of_deck d) ≤ length d.lines = law.table_length d in
    omega (arith, a, b, c, e, f)

module _ (d : DeckContents) (units prefixes functions : ℕ) (are : AreCounts (table_of_deck d) units prefixes functions)
  where
    is : (units + prefixes) + functions ≡ name_count (table_of_deck d)
    is = λ i. (are.units i + are.prefixes i) + are.functions i

    pub names_counted : (units + prefixes) + functions ≡ length (all_settleable_names (table_of_deck d))
    names_counted = is ∙ all_settleable_names_are_counted (table_of_deck d)

    pub names_within : DeckTableLaw → length d.lines ≤ 100000 → (units + prefixes) + functions ≤ 100000
    names_within law b =
        let a : name_count (table_of_deck d) ≤ length d.lines = live_names_are_no_more_than_lines law d in
        let c : (units + prefixes) + functions ≡ name_count (table_of_deck d) = is in
        omega (arith, a, b, c)

-- ---- as many outcomes are stored as marks are set
cached_outcomes_match_set_marks : (ks : List Key) (os : List (Option Outcome)) → AreApart ks → length os ≡ length ks
    → length (filter (λ b. b) (map is_some os)) ≡ map_of.len (cached_outcomes_of ks os)
cached_outcomes_match_set_marks [] [] a h = sym (map_of.len-empty _ _)
cached_outcomes_match_set_marks [] (o ∷ os) a h = absurd (omega (arith, h))
cached_outcomes_match_set_marks (k ∷ ks) [] a h = absurd (omega (arith, h))
cached_outcomes_match_set_marks (k ∷ ks) (None ∷ os) a h = cached_outcomes_match_set_marks ks os
    (node_keys_apart_without_first k ks a) (omega (arith, h))
cached_outcomes_match_set_marks (k ∷ ks) (Some o ∷ os) a h =
    let rest : length (filter (λ b. b) (map is_some os)) ≡ map_of.len (cached_outcomes_of ks os) =
    cached_outcomes_match_set_marks ks os (node_keys_apart_without_first k ks a) (omega (arith, h)) in
    let more : map_of.len (map_of.insert (cached_outcomes_of ks os) k o) ≡ map_of.len (cached_outcomes_of ks os) + 1 =
    map_of.len-insert key_order.total_order (cached_outcomes_of ks os) k o
    ∙ cond-false (is_some (map_of.get (cached_outcomes_of ks os) k)) (map_of.len (cached_outcomes_of ks os))
    (map_of.len (cached_outcomes_of ks os) + 1)
    (ap is_some (key_without_node_is_not_cached ks os k (λ n l. first_node_key_is_apart k ks a n l))) in
    omega (arith, rest, more)

-- as many numbers are settled as outcomes are stored
pub settled_count_is_cached_count : (t : EntryTable) (l : NodeLists) → AreSoundNodes t l
    → count_by (λ b. b) l.settled_flags ≡ map_of.len (cached_outcomes_of l.keys l.outcomes)
settled_count_is_cached_count t l nodes =
    sym (length-filter (λ b. b) l.settled_flags)
    ∙ (ap (λ (bs : List Bool). length (filter (λ b. b) bs)) nodes.marks_right
    ∙ cached_outcomes_match_set_marks l.keys l.outcomes nodes.numbers_apart nodes.outcome_count)
