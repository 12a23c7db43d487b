-- Numbers for the keys that the lookup of a word tried.
use Rattle.std.proofs.Common.{◌≡◌, ◌⊎◌, ◌↔◌, ◌-◌, ◌+◌, ◌<◌, ◌≤◌, ◌++◌, ◌∷◌, [], ℕ, zero, suc, cond, false, List, length}
use Rattle.std.proofs.Common.{map, take, drop, Contains, refl, sym, ◌∙◌, ap, subst, inl, inr, arith}
use Rattle.std.proofs.lemmas.List.{drop_all, map-append, take-append-drop, nil_from_length}
use Rattle.std.proofs.lemmas.List.Elements.{Contains-append_left, Contains-append_right, Contains-push}
use Rattle.std.proofs.lemmas.List.Elements.{Contains-push_cases, Contains-append_cases}
use Rattle.expr_tree.specs.declared.word_list.WordKind.{WordKind}
use Rattle.expr_tree.specs.declared.word_list.WordUse.{WordUse}
use Rattle.expr_tree.specs.Names.{is_refused}
use Rattle.def_entry.specs.declared.key.Key.{Key}
use Rattle.def_entry.specs.SameKeys.{is_entry_key_among}
use Rattle.def_entry.specs.Tables.{EntryTable, keys_of_entries}
use Rattle.name_lookup.specs.declared.targets.Targets.{Targets}
use Rattle.name_lookup.specs.Order.{lookup_plan}
use Rattle.name_lookup.specs.Plans.{LookupResult, run_lookup_plan}
use Rattle.name_lookup.specs.Targets.{AreLookupTargetsFound, last_lookup_keys, lookup_target_count}
use Rattle.name_walk.specs.Faults.{is_on_path}
use Rattle.table_names.specs.Leads.{TableNameLookupLaw, table_word_looked_keys, table_word_lookup, table_word_targets}
use Rattle.table_names.proofs.NewKeys.{key_of_numbered_name_is_member, numbered_name_of_key_member}
use Rattle.live_table.specs.declared.word_targets.Destination.{Destination}
use Rattle.live_table.specs.declared.word_targets.Destination.TheVariants.{Refused, Nowhere, One, Two}
use Rattle.live_table.specs.declared.dead_end.DeadEnd.{DeadEnd}
use Rattle.live_table.specs.Exploration.{AreNodesAdded, AreNodesGrown, IsExplorationAgenda, IsExplorationGrowth}
use Rattle.live_table.specs.WordTargets.{AreNodeNumbersGathered, AreNodeTargets, IsNodeDestination, LeadsToNodeKeys}
use Rattle.live_table.specs.Sound.{AreSoundNodes}
use Rattle.live_table.specs.TableContents.{NodeLists, node_key_at}
use Rattle.live_table.proofs.GatheredNumbers.{gathered_node_number_is_added}
use Rattle.live_table.proofs.AddedNames.{empty_list_is_agenda, exploration_growth_is_no_shorter, node_key_is_read}
use Rattle.live_table.proofs.AddedNames.{node_key_stays_in_growth, two_node_additions_are_one}
use Rattle.live_table.proofs.KeyNumbers.{pushed_number_adds_node_key, pushed_number_is_within_node_keys}
use Rattle.general_lemmas.proofs.Places.{take_at}
use Rattle.general_lemmas.proofs.Members.{no_member, member_first, member_later, member_cases}

-- ---- keys that are not targets

-- gathered keys stay gathered when keys are added
gathered_nodes_stay_in_growth : (ks ls others : List Key) (old new : List ℕ) → IsExplorationGrowth ks ls
    → AreNodeNumbersGathered ks others old new
    → AreNodeNumbersGathered ls others old new
gathered_nodes_stay_in_growth ks ls others old new more g = record {
  own_numbers = g.own_numbers;
  numbers_are = g.numbers_are ∙ same g.own_numbers g.own_in_table;
  own_in_table = λ m i. let h : m < length ks = g.own_in_table m i in
      let b = exploration_growth_is_no_shorter ks ls more in omega arith;
  looks_merged = g.looks_merged;
}
  where
    same : (ns : List ℕ) → ((m : ℕ) → Contains ns m → m < length ks) → map (node_key_at ks) ns ≡ map (node_key_at ls) ns
    same [] within = refl
    same (n ∷ ns) within =
        let rest : map (node_key_at ks) ns ≡ map (node_key_at ls) ns = same ns (λ m i. within m (member_later m n ns i))
        in
        λ i. sym (node_key_stays_in_growth ks ls n more (within n (member_first n n ns refl))) i ∷ rest i

-- the next key has a number, and is gathered
pub next_node_key_is_gathered : (ks ls tried : List Key) (old now next : List ℕ) (place n : ℕ)
    → IsExplorationGrowth ks ls
    → place < length tried → AreNodeNumbersGathered ks (take place tried) old now
    → (n < length ls) × (node_key_at tried place ≡ node_key_at ls n)
    → next ≡ cond (is_on_path now n) now (now ++ n ∷ []) → AreNodeNumbersGathered ls (take (place + 1) tried) old next
next_node_key_is_gathered ks ls tried old now next place n more h g p e = record {
  own_numbers = g.own_numbers ++ n ∷ [];
  numbers_are =
      take_at tried place (node_key_at tried place) (node_key_is_read tried place h)
      ∙ ((λ i. g.numbers_are i ++ node_key_at tried place ∷ [])
      ∙ sym (pushed_number_adds_node_key ks ls g.own_numbers n (node_key_at tried place) more g.own_in_table p.1));
  own_in_table = pushed_number_is_within_node_keys ks ls g.own_numbers n more g.own_in_table p.0;
  looks_merged = λ m. (to m, from m);
}
  where
    to : (m : ℕ) → Contains next m → Contains old m ⊎ Contains (g.own_numbers ++ n ∷ []) m
    to m i = elim ((gathered_node_number_is_added now next n e m).0 i) [
      | inl a ↦ elim ((g.looks_merged m).0 a)
          [ inl b ↦ inl b | inr b ↦ inr (Contains-append_left g.own_numbers (n ∷ []) m b) ]
      | inr is ↦ inr (subst (λ (x : ℕ). Contains (g.own_numbers ++ n ∷ []) x) (sym is) (Contains-push g.own_numbers n))
    ]

    from : (m : ℕ) → Contains old m ⊎ Contains (g.own_numbers ++ n ∷ []) m → Contains next m
    from m (inl a) = (gathered_node_number_is_added now next n e m).1 (inl ((g.looks_merged m).1 (inl a)))
    from m (inr a) = elim (Contains-push_cases g.own_numbers n m a) [
      | inl b ↦ (gathered_node_number_is_added now next n e m).1 (inl ((g.looks_merged m).1 (inr b)))
      | inr is ↦ (gathered_node_number_is_added now next n e m).1 (inr (sym is))
    ]

-- ---- numbers for keys in turn
-- only names are added
abbrev pub AddsNames : EntryTable → NodeLists → NodeLists → Type 0
AddsNames t l m = (before list : List ℕ) (ends : List DeadEnd) → IsExplorationAgenda t l before list
    → AreNodesAdded t l m before list list ends ends

-- two additions of names are one
pub node_name_additions_in_turn : (t : EntryTable) (l m k : NodeLists) → AddsNames t l m → AddsNames t m k
    → AddsNames t l k
node_name_additions_in_turn t l m k a b before list ends right =
    let first = a before list ends right in
    two_node_additions_are_one t l m k before list list list ends ends ends first
    (b before list ends first.growth.list_right)

-- an addition of names is a growth without listed numbers
added_names_are_node_growth : (t : EntryTable) (l m : NodeLists) → AddsNames t l m → AreNodesGrown t l m [] [] [] [] []
added_names_are_node_growth t l m a =
    (a [] [] [] (empty_list_is_agenda t l [] [] (λ n i. absurd (no_member n i)) refl)).growth

-- after an addition the nodes are right
pub added_nodes_are_sound : (t : EntryTable) (l m : NodeLists) → AddsNames t l m → AreSoundNodes t m
added_nodes_are_sound t l m a = (added_names_are_node_growth t l m a).nodes

-- after an addition each key has the same number
pub added_names_keep_node_keys : (t : EntryTable) (l m : NodeLists) → AddsNames t l m
    → IsExplorationGrowth l.keys m.keys
added_names_keep_node_keys t l m a = (added_names_are_node_growth t l m a).keys_more

-- the first keys that were tried have numbers and are gathered
pub record AreFirstGathered (t : EntryTable) (l m : NodeLists) (tried : List Key) (old new : List ℕ) (place : ℕ) : Type
    0
  where
    pub added : AddsNames t l m
    pub gathered : AreNodeNumbersGathered m.keys (take place tried) old new

-- the next key is gathered
pub first_node_keys_gather_next : (t : EntryTable) (l m k : NodeLists) (tried : List Key) (old now mid next : List ℕ)
    (place n : ℕ)
    → AreFirstGathered t l m tried old now place → AddsNames t m k → place < length tried
    → (n < length k.keys) × (node_key_at tried place ≡ node_key_at k.keys n) → mid ≡ now
    → next ≡ cond (is_on_path mid n) mid (mid ++ n ∷ []) → AreFirstGathered t l k tried old next (place + 1)
first_node_keys_gather_next t l m k tried old now mid next place n f a h p same e = record {
  added = node_name_additions_in_turn t l m k f.added a;
  gathered =
      next_node_key_is_gathered m.keys k.keys tried old mid next place n (added_names_keep_node_keys t m k a) h
      (subst (AreNodeNumbersGathered m.keys (take place tried) old) (sym same) f.gathered) p e;
}

-- ---- targets
node_keys_from_place : (ks : List Key) (i : ℕ) → i < length ks → drop i ks ≡ node_key_at ks i ∷ drop (suc i) ks
node_keys_from_place [] i h = absurd (omega arith)
node_keys_from_place (k ∷ ks) zero h = refl
node_keys_from_place (k ∷ ks) (suc i) h = node_keys_from_place ks i (omega arith)

last_node_key_alone : (ks : List Key) (i : ℕ) → suc i ≡ length ks → drop i ks ≡ node_key_at ks i ∷ []
last_node_key_alone ks i e =
    node_keys_from_place ks i (omega (arith, e)) ∙ ap (λ (xs : List Key). node_key_at ks i ∷ xs)
    (drop_all (suc i) ks (omega (arith, e)))

last_two_node_keys : (ks : List Key) (i j : ℕ) → suc i ≡ j → suc j ≡ length ks
    → drop i ks ≡ node_key_at ks i ∷ node_key_at ks j ∷ []
last_two_node_keys ks i j d e =
    node_keys_from_place ks i (omega (arith, d, e))
    ∙ ap (λ (xs : List Key). node_key_at ks i ∷ xs) (ap (λ (x : ℕ). drop x ks) d ∙ last_node_key_alone ks j e)

-- the last two keys have numbers
pub lead_to_last_two_node_keys : (ks ls tried : List Key) (i j n m : ℕ) → 2 ≤ length tried → i ≡ length tried - 2
    → j ≡ length tried - 1 → IsExplorationGrowth ks ls
    → (n < length ks) × (node_key_at tried i ≡ node_key_at ks n)
    → (m < length ls) × (node_key_at tried j ≡ node_key_at ls m)
    → LeadsToNodeKeys ls (last_lookup_keys 2 tried) (Two n m)
lead_to_last_two_node_keys ks ls tried i j n m h e f more p q =
    let first : node_key_at tried i ≡ node_key_at ls n = p.1 ∙ sym (node_key_stays_in_growth ks ls n more p.0) in
    let below : n < length ls = let a = p.0 in let b = exploration_growth_is_no_shorter ks ls more in omega arith in (
      ap (λ (x : ℕ). drop x tried) (sym e)
          ∙ (last_two_node_keys tried i j (omega (arith, h, e, f)) (omega (arith, h, e, f))
          ∙ (λ r. first r ∷ q.1 r ∷ [])),
      inside below,
    )
  where
    inside : n < length ls → (k : ℕ) → Contains (n ∷ m ∷ []) k → k < length ls
    inside below k i = elim (member_cases k n (m ∷ []) i) [
      | inl s ↦ subst (λ (x : ℕ). x < length ls) (sym s) below
      | inr j ↦ elim (member_cases k m [] j)
          [ inl s ↦ subst (λ (x : ℕ). x < length ls) (sym s) q.0 | inr z ↦ absurd (no_member k z) ]
    ]

-- ---- the targets that a search among the keys of a table found, if none was tried before
pub node_targets_found_by_search : (t : EntryTable) (u : WordUse) (law : TableNameLookupLaw) (w : Targets)
    (before tried : List Key) (kind : WordKind)
    (text : List ℕ)
    → before ≡ [] → kind ≡ u.kind → text ≡ u.text
    → AreLookupTargetsFound w before tried
    (run_lookup_plan (is_entry_key_among (keys_of_entries t)) (lookup_plan kind text))
    → AreLookupTargetsFound w [] tried (table_word_lookup t u)
node_targets_found_by_search t u law w before tried kind text b k x f =
    let same : run_lookup_plan (is_entry_key_among (keys_of_entries t)) (lookup_plan kind text) ≡ table_word_lookup t u
    =
    (λ i. run_lookup_plan (is_entry_key_among (keys_of_entries t)) (lookup_plan (k i) (x i))) ∙ law t u in
    subst (λ (p : List Key × LookupResult). AreLookupTargetsFound w p.0 tried p.1) (λ i. (b i, same i)) f

module _ (t : EntryTable) (u : WordUse) (w : Targets) (tried : List Key)
    (found : AreLookupTargetsFound w [] tried (table_word_lookup t u))
  where
    targets_are : table_word_targets t u ≡ last_lookup_keys (lookup_target_count w) tried
    targets_are = found.targets ∙ ap (last_lookup_keys (lookup_target_count w)) (sym found.looks_appended)

    -- a word without targets leads nowhere
    pub none_found : lookup_target_count w ≡ 0 → table_word_targets t u ≡ []
    none_found e = nil_from_length (table_word_targets t u) (found.many ∙ e)

    -- ---- the targets and the other keys
    module _ (ks ls : List Key) (more : IsExplorationGrowth ks ls) (old mid new : List ℕ) (ns : List ℕ)
        (led : last_lookup_keys (lookup_target_count w) tried ≡ map (node_key_at ls) ns)
        (inside : (m : ℕ) → Contains ns m → m < length ls)
        (g : AreNodeNumbersGathered ks (take (length tried - lookup_target_count w) tried) old mid) (same : new ≡ mid)
      where
        now : AreNodeNumbersGathered ls (take (length tried - lookup_target_count w) tried) old mid
        now = gathered_nodes_stay_in_growth ks ls (take (length tried - lookup_target_count w) tried) old mid more g

        all : map (node_key_at ls) (now.own_numbers ++ ns) ≡ table_word_looked_keys t u
        all =
            map-append (node_key_at ls) now.own_numbers ns
            ∙ ((λ i. sym now.numbers_are i ++ sym led i)
            ∙ (take-append-drop (length tried - lookup_target_count w) tried ∙ found.looks_appended))

        to : (k : Key) → Contains (table_word_looked_keys t u) k → (m : ℕ)
            × (Contains ns m ⊎ Contains now.own_numbers m)
            × (k ≡ node_key_at ls m)
        to k i =
            let r = numbered_name_of_key_member (node_key_at ls) (now.own_numbers ++ ns) k
            (subst (λ (xs : List Key). Contains xs k) (sym all) i)
            in
            (r.0, elim (Contains-append_cases now.own_numbers ns r.0 r.2) [ inl a ↦ inr a | inr b ↦ inl b ], r.1)

        number_of : (m : ℕ) → Contains ns m ⊎ Contains now.own_numbers m → Contains (now.own_numbers ++ ns) m
        number_of m (inl i) = Contains-append_right now.own_numbers ns m i
        number_of m (inr i) = Contains-append_left now.own_numbers ns m i

        from : (k : Key) → ((m : ℕ) × (Contains ns m ⊎ Contains now.own_numbers m) × (k ≡ node_key_at ls m))
            → Contains (table_word_looked_keys t u) k
        from k (m, i, e) =
            subst (λ (xs : List Key). Contains xs k) all
            (subst (λ (q : Key). Contains (map (node_key_at ls) (now.own_numbers ++ ns)) q) (sym e)
            (key_of_numbered_name_is_member (node_key_at ls) (now.own_numbers ++ ns) m (number_of m i)))

        are_targets : AreNodeTargets t ls u ns old new
        are_targets = record {
          targets = targets_are ∙ led;
          targets_in_table = inside;
          own_numbers = now.own_numbers;
          looks_merged = subst (λ (xs : List ℕ).
              (m : ℕ) → Contains xs m ↔ (Contains old m ⊎ Contains now.own_numbers m))
              (sym same) now.looks_merged;
          own_in_table = now.own_in_table;
          word_looks = λ k. (to k, from k);
        }

    -- the destination of a word of an entry
    pub is_destination : (ks ls : List Key) (more : IsExplorationGrowth ks ls) (old mid new : List ℕ)
        (destination : Destination)
        → is_refused u.text ≡ false
        → LeadsToNodeKeys ls (last_lookup_keys (lookup_target_count w) tried) destination
        → AreNodeNumbersGathered ks (take (length tried - lookup_target_count w) tried) old mid → new ≡ mid
        → IsNodeDestination t ls u old new destination
    is_destination ks ls more old mid new Refused fine led g same = absurd led
    is_destination ks ls more old mid new Nowhere fine led g same = (fine, targets_are ∙ led.0)
    is_destination ks ls more old mid new (One n) fine led g same =
        (fine, are_targets ks ls more old mid new (n ∷ []) led.0 led.1 g same)
    is_destination ks ls more old mid new (Two n m) fine led g same =
        (fine, are_targets ks ls more old mid new (n ∷ m ∷ []) led.0 led.1 g same)
