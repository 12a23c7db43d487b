-- The keys that a word leads to, by the keys that were tried.
use Rattle.std.proofs.Common.{◌≡◌, ◌-◌, ◌<◌, ◌≤◌, ◌∷◌, [], ℕ, zero, suc, List, length, drop, refl, sym, ◌∙◌}
use Rattle.std.proofs.Common.{Bool, Some, true, ap, subst, arith}
use Rattle.std.specs.Prelude.{if◌then◌else◌}
use Rattle.std.proofs.lemmas.List.{drop_all, length-drop, nil_from_length}
use Rattle.expr_tree.specs.declared.word_list.WordKind.{WordKind}
use Rattle.expr_tree.specs.declared.word_list.WordKind.TheVariants as word_kind
use Rattle.expr_tree.specs.declared.word_list.WordUse.{WordUse}
use Rattle.def_entry.specs.declared.key.Key.{Key}
use Rattle.def_entry.specs.declared.key.Kind.{Kind}
use Rattle.def_entry.specs.declared.key.Kind.TheVariants as key_kind
use Rattle.def_entry.specs.Keys.{key}
use Rattle.def_entry.specs.SameKeys.{is_entry_key_among}
use Rattle.def_entry.specs.Tables.{EntryTable, keys_of_entries}
use Rattle.deck.specs.Decks.{DeckContents}
use Rattle.deck.specs.Tables.{last_definition_place, table_of_deck}
use Rattle.name_lookup.specs.declared.targets.Targets.{Targets}
use Rattle.name_lookup.specs.declared.targets.Targets.TheVariants as which
use Rattle.name_lookup.specs.Order.{lookup_plan, try_key, try_parts}
use Rattle.name_lookup.specs.Plans.{Gives, LookupPlan, LookupResult, run_lookup_plan}
use Rattle.name_lookup.specs.Targets.{AreLookupTargetsFound, last_lookup_keys, lookup_target_count}
use Rattle.table_names.specs.Leads.{TableNameLookupLaw, table_word_lookup, table_word_targets}
use Rattle.live_table.specs.TableContents.{node_key_at}
use Rattle.value_sources.specs.Leads.{first_kind_of_mentioned_word}
use Rattle.value_sources.proofs.Placing.{placed_source_is_among}

-- ---- the last keys of a list
source_keys_from_place : (ks : List Key) (i : ℕ) → i < length ks → drop i ks ≡ node_key_at ks i ∷ drop
    (suc i) ks
source_keys_from_place [] i h = absurd (omega arith)
source_keys_from_place (k ∷ ks) zero h = refl
source_keys_from_place (k ∷ ks) (suc i) h = source_keys_from_place ks i (omega arith)

last_source_key : (ks : List Key) (i : ℕ) → suc i ≡ length ks → drop i ks ≡ node_key_at ks i ∷ []
last_source_key ks i e =
    source_keys_from_place ks i (omega (arith, e)) ∙ ap (λ (xs : List Key). node_key_at ks i ∷ xs)
    (drop_all (suc i) ks (omega (arith, e)))

-- ---- the targets that a search among the keys of a table found, if none was tried before
pub source_targets_found : (t : EntryTable) (u : WordUse) (law : TableNameLookupLaw) (w : Targets)
    (before tried : List Key) (kind : WordKind)
    (text : List ℕ)
    → before ≡ [] → kind ≡ u.kind → text ≡ u.text
    → AreLookupTargetsFound w before tried
    (run_lookup_plan (is_entry_key_among (keys_of_entries t)) (lookup_plan kind text))
    → AreLookupTargetsFound w [] tried (table_word_lookup t u)
source_targets_found t u law w before tried kind text b k x f =
    let same : run_lookup_plan (is_entry_key_among (keys_of_entries t)) (lookup_plan kind text) ≡ table_word_lookup t u
    =
    (λ i. run_lookup_plan (is_entry_key_among (keys_of_entries t)) (lookup_plan (k i) (x i))) ∙ law t u in
    subst (λ (p : List Key × LookupResult). AreLookupTargetsFound w p.0 tried p.1) (λ i. (b i, same i)) f

module _ (t : EntryTable) (u : WordUse) (w : Targets) (tried : List Key)
    (found : AreLookupTargetsFound w [] tried (table_word_lookup t u))
  where
    targets_are : table_word_targets t u ≡ last_lookup_keys (lookup_target_count w) tried
    targets_are = found.targets ∙ ap (last_lookup_keys (lookup_target_count w)) (sym found.looks_appended)

    pub enough : lookup_target_count w ≤ length tried
    enough =
        let a : length (table_word_targets t u) ≡ lookup_target_count w = found.many in
        let b : length (table_word_targets t u) ≡ length (last_lookup_keys (lookup_target_count w) tried) =
        ap length targets_are in
        let c : length (last_lookup_keys (lookup_target_count w) tried) ≡ length tried -
        (length tried - lookup_target_count w) =
        length-drop (length tried - lookup_target_count w) tried in
        omega (arith, a, b, c)

module _ (t : EntryTable) (u : WordUse) (tried : List Key) where
  pub none_found : AreLookupTargetsFound which.Nowhere [] tried (table_word_lookup t u) → table_word_targets t u ≡ []
  none_found found = nil_from_length (table_word_targets t u) found.many

  pub one_found : AreLookupTargetsFound which.Last [] tried (table_word_lookup t u) → (i : ℕ) → i ≡ length tried - 1
      → table_word_targets t u ≡ node_key_at tried i ∷ []
  one_found found i e =
      let h : 1 ≤ length tried = enough t u which.Last tried found in
      targets_are t u which.Last tried found
      ∙ (ap (λ (x : ℕ). drop x tried) (sym e) ∙ last_source_key tried i (omega (arith, h, e)))

-- ---- the first key that is tried
-- a key that is present is the target of a plan that tries it first
first_source_key_is_target : (has : Key → Bool) (k : Key) (next : LookupPlan) → has k ≡ true
    → (run_lookup_plan has (try_key k next)).targets ≡ k ∷ []
first_source_key_is_target has k next h =
    ap (λ (b : Bool). (if b then run_lookup_plan has (Gives (k ∷ [])) else run_lookup_plan has next).targets) h

-- a word leads to the first key that its lookup tries, if that key is present
mentioned_name_leads_to_key : (t : EntryTable) (u : WordUse) → TableNameLookupLaw
    → is_entry_key_among (keys_of_entries t) (key (first_kind_of_mentioned_word u.kind) u.text) ≡ true
    → table_word_targets t u ≡ key (first_kind_of_mentioned_word u.kind) u.text ∷ []
mentioned_name_leads_to_key t u law h = ap (λ (f : LookupResult). f.targets) (sym (law t u)) ∙ by u.kind h
  where
    by : (k : WordKind) → is_entry_key_among (keys_of_entries t) (key (first_kind_of_mentioned_word k) u.text) ≡ true
        → (run_lookup_plan (is_entry_key_among (keys_of_entries t)) (lookup_plan k u.text)).targets ≡ key
        (first_kind_of_mentioned_word k) u.text ∷ []
    by word_kind.Plain e =
        first_source_key_is_target (is_entry_key_among (keys_of_entries t)) (key key_kind.Unit u.text)
        (try_key (key key_kind.Func u.text) (try_parts u.text (Gives []))) e
    by word_kind.Call e =
        first_source_key_is_target (is_entry_key_among (keys_of_entries t)) (key key_kind.Func u.text)
        (try_key (key key_kind.Unit u.text) (try_parts u.text (Gives []))) e
    by word_kind.Inverse e = first_source_key_is_target (is_entry_key_among (keys_of_entries t))
        (key key_kind.Func u.text) (Gives []) e

-- the same in a deck in which that key has a line in force
pub mentioned_name_in_force : (d : DeckContents) (u : WordUse) → TableNameLookupLaw
    → (k : Kind) (text : List ℕ) (place : ℕ)
    → k ≡ first_kind_of_mentioned_word u.kind → text ≡ u.text → last_definition_place d.settings d.lines
    (key k text) ≡ Some place
    → table_word_targets (table_of_deck d) u ≡ key k u.text ∷ []
mentioned_name_in_force d u law k text place is_first is_word found =
    let same : is_entry_key_among (keys_of_entries (table_of_deck d)) (key k text)
    ≡ is_entry_key_among (keys_of_entries (table_of_deck d)) (key (first_kind_of_mentioned_word u.kind) u.text) =
    λ i. is_entry_key_among (keys_of_entries (table_of_deck d)) (key (is_first i) (is_word i)) in
    mentioned_name_leads_to_key (table_of_deck d) u law (sym same ∙ placed_source_is_among d (key k text) place found)
    ∙ ap (λ (z : Kind). key z u.text ∷ []) (sym is_first)
