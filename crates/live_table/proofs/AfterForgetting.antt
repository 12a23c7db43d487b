-- After the names that an edit affects are forgotten, the nodes and edges are sound, and the other names are stored.
use Rattle.std.proofs.Common.{◌≡◌, ◌↔◌, ◌<◌, ℕ, zero, suc, Bool, true, false, not, cond, List, [], ◌∷◌, length, map}
use Rattle.std.proofs.Common.{Contains, Option, Some, None, is_some, get_or, refl, sym, ◌∙◌, ap, subst, inl, inr, arith}
use Rattle.std.specs.List.{slice_get}
use Rattle.std.proofs.lemmas.Bool.{cases_Bool, true≢false}
use Rattle.std.proofs.lemmas.List.{length-map}
use Rattle.std.proofs.lemmas.Option.{same_Some}
use Rattle.expr_tree.specs.declared.word_list.WordUse.{WordUse}
use Rattle.def_entry.specs.declared.key.Key.{Key}
use Rattle.def_entry.specs.Entries.{Entry}
use Rattle.def_entry.specs.SameKeys.{is_entry_key_among}
use Rattle.def_entry.specs.Tables.{EntryTable, entry_at, is_entry_present}
use Rattle.deck.specs.Changes.{IsEditChange, KeysChangedByEditLaw}
use Rattle.deck.specs.Decks.{DeckContents}
use Rattle.deck.specs.Tables.{table_of_deck}
use Rattle.name_lookup.specs.Plans.{LookupResult}
use Rattle.edge_links.specs.AffectedNames.{AreAffectedByEdges}
use Rattle.edge_links.specs.NameGraphs.{NameEdgeGraph}
use Rattle.edge_links.proofs.NameEdgeCuts.{users_affected}
use Rattle.table_names.specs.EdgeLaws.{AreNumberedNameEdges}
use Rattle.table_names.specs.NumberedNames.{AreWords, ForOne, ForRefused, ForTwo, ForUnknown, IsWord}
use Rattle.table_names.proofs.AffectedNumbers.{affected_numbered_names_law}
use Rattle.table_names.proofs.EdgeChanges.{edges_cut, looks_same, same_words}
use Rattle.table_names.proofs.ReachedNumbers.{lead_of_step}
use Rattle.name_walk.specs.declared.step.Step.{Step}
use Rattle.name_walk.specs.ClosedNames.{IsSettledInGraph}
use Rattle.name_walk.specs.Steps.{GraphLeadsTo, graph_steps}
use Rattle.tree_eval.specs.declared.outcome.Outcome.{Outcome}
use Rattle.table_names.specs.declared.fault.NameFault.{NameFault}
use Rattle.table_names.specs.declared.fault.NameFault.TheVariants.{Unknown}
use Rattle.table_names.specs.AffectedKeys.{IsAffectedTableName, is_affected_table_name}
use Rattle.table_names.specs.ClosedKeys.{IsClosedKey}
use Rattle.table_names.specs.Edits.{IsClosedAsBefore}
use Rattle.table_names.specs.Leads.{at_once, table_word_lookup}
use Rattle.table_names.specs.Words.{table_words_of_key}
use Rattle.table_names.proofs.AffectedKeys.{affected_table_name_law}
use Rattle.table_names.proofs.UnchangedKeys.{unaffected_table_name_law}
use Rattle.table_names.proofs.KeyLists.{member_table_key_is_among, table_key_among_is_member}
use Rattle.live_table.specs.Callees.{HasNodeRank}
use Rattle.live_table.specs.Calls.{IsAcceptedLiveEdit}
use Rattle.live_table.specs.TableEdges.{HasSettledEdges, IsLinkedLiveTable, is_flagged_settled}
use Rattle.live_table.specs.Forgotten.{AreForgotten}
use Rattle.live_table.specs.Right as right_of
use Rattle.live_table.specs.TableView.{IsRightLiveView, LiveView, live_state_with_steps}
use Rattle.live_table.specs.Sound.{AreSoundNodes, HasCachedLooks, IsFaithfulNode}
use Rattle.live_table.specs.TableContents.{NodeLists, cached_outcomes_of, live_view_of_nodes, node_key_at}
use Rattle.live_table.proofs.Edits.{edit_follows, left_in}
use Rattle.live_table.proofs.OutcomesByKey.{key_settled, settled_mark_tells_outcome}
use Rattle.live_table.proofs.OutcomesRemoved.{AreTaken, cached_outcomes_after_forgetting}
use Rattle.general_lemmas.proofs.Members.{member_first, member_later}

-- ---- lists
same_lists : {A : Type 0} (xs ys : List A) → length xs ≡ length ys
    → ((n : ℕ) → n < length xs → slice_get xs n ≡ slice_get ys n) → xs ≡ ys
same_lists [] [] e h = refl
same_lists [] (y ∷ ys) e h = absurd (omega (arith, e))
same_lists (x ∷ xs) [] e h = absurd (omega (arith, e))
same_lists (x ∷ xs) (y ∷ ys) e h =
    let first : x ≡ y = same_Some x y (h 0 (omega arith)) in
    let rest : xs ≡ ys = same_lists xs ys (omega (arith, e)) (λ n l. h (suc n) (omega (arith, l))) in
    λ i. first i ∷ rest i

-- an item of a mapped list is the image of the item at its place
map_at : {A B : Type 0} (f : A → B) (xs : List A) (n : ℕ) (d : A) → n < length xs
    → slice_get (map f xs) n ≡ Some (f (get_or xs n d))
map_at f [] n d l = absurd (omega (arith, l))
map_at f (x ∷ xs) zero d l = refl
map_at f (x ∷ xs) (suc n) d l = map_at f xs n d (omega (arith, l))

-- a flagged number is settled
pub flagged_node_is_settled : (bs : List Bool) (n : ℕ) → is_flagged_settled bs n ≡ true → IsSettledInGraph bs n
flagged_node_is_settled [] n e = cc
flagged_node_is_settled (b ∷ bs) zero e = ap Some e
flagged_node_is_settled (b ∷ bs) (suc n) e = flagged_node_is_settled bs n e

-- a settled number is flagged
pub settled_node_is_flagged : (bs : List Bool) (n : ℕ) → IsSettledInGraph bs n → is_flagged_settled bs n ≡ true
settled_node_is_flagged [] n e = cc
settled_node_is_flagged (b ∷ bs) zero e = same_Some b true e
settled_node_is_flagged (b ∷ bs) (suc n) e = settled_node_is_flagged bs n e

-- ---- the steps of words whose lookup does not change
module _ (before after : EntryTable) (key : ℕ → Key) (dead_end : ℕ → Option Key → NameFault) where
  same_word : (u : WordUse) (x y : Step) → table_word_lookup before u ≡ table_word_lookup after u
      → IsWord before key dead_end u x y
      → IsWord after key dead_end u x y
  same_word u x y e (ForRefused t is f) = ForRefused t is f
  same_word u x y e (ForUnknown t fine none f) = ForUnknown t fine (sym (ap (λ (r : LookupResult). r.targets) e) ∙ none)
      f
  same_word u x y e (ForOne n fine f) = ForOne n fine (sym (ap (λ (r : LookupResult). r.targets) e) ∙ f)
  same_word u x y e (ForTwo n m fine f) = ForTwo n m fine (sym (ap (λ (r : LookupResult). r.targets) e) ∙ f)

  same_steps : (us : List WordUse) (xs : List Step)
      → ((u : WordUse) → Contains us u → table_word_lookup before u ≡ table_word_lookup after u)
      → AreWords before key dead_end us xs → AreWords after key dead_end us xs
  same_steps [] [] h w = w
  same_steps [] (x ∷ xs) h w = absurd w
  same_steps (u ∷ us) [] h w = absurd w
  same_steps (u ∷ us) (x ∷ []) h w = absurd w
  same_steps (u ∷ us) (x ∷ y ∷ xs) h w =
      (same_word u x y (h u (member_first u u us refl)) w.0, same_steps us xs (λ v i. h v (member_later v u us i)) w.1)

module _ (before after : DeckContents) (l m : NodeLists) (g h : NameEdgeGraph) (r : ℕ) (keys : List Key)
    (live : IsLinkedLiveTable before l g r) (change : IsEditChange before after keys)
    (f : AreForgotten (table_of_deck after) keys l m g h)
  where
    abbrev nodes : AreSoundNodes (table_of_deck before) l
    nodes = live.is_sound.numbers

    abbrev the_key : ℕ → Key
    the_key = node_key_at l.keys

    abbrev Affected : ℕ → Type 0
    Affected = AreAffectedByEdges g f.numbers

    abbrev was : ℕ → Bool
    was = is_flagged_settled l.settled_flags

    abbrev now : ℕ → Bool
    now = is_flagged_settled m.settled_flags

    -- ---- by number and by name
    key_was : (n : ℕ) → was n ≡ true → right_of.IsKeySettled (live_state_with_steps (live_view_of_nodes before l r) 0)
        (the_key n)
    key_was n e = key_settled before l r nodes n (flagged_node_is_settled l.settled_flags n e)

    closed : (n : ℕ) → was n ≡ true → IsClosedKey (table_of_deck before) (the_key n)
    closed n e = live.is_sound.is_right.settled_closed (the_key n) (key_was n e)

    affected_is : (n : ℕ) → was n ≡ true → AreAffectedByEdges g f.numbers n ↔ IsAffectedTableName (table_of_deck before)
        keys (node_key_at l.keys n)
    affected_is = affected_numbered_names_law (table_of_deck before) the_key g.names was g live.edges.edges_right keys
        f.numbers f.of

    marks : (n : ℕ) → (is_flagged_settled m.settled_flags n ≡ true) ↔
        ((is_flagged_settled l.settled_flags n ≡ true) × (AreAffectedByEdges g f.numbers n → ⊥))
    marks n = (
      λ e. let free : AreAffectedByEdges g f.numbers n → ⊥ = λ a.
          true≢false (sym e ∙ f.marks_cleared.affected_cleared n a) in
          (sym (f.marks_cleared.others_unchanged n free) ∙ e, free),
      λ p. f.marks_cleared.others_unchanged n p.1 ∙ p.0,
    )

    as_before : (n : ℕ) → is_flagged_settled m.settled_flags n ≡ true → IsClosedAsBefore (table_of_deck before)
        (table_of_deck after)
        (node_key_at l.keys n)
    as_before n e =
        let p = (marks n).0 e in
        unaffected_table_name_law (table_of_deck before) (table_of_deck after) keys change.lists_changed_keys
        (the_key n) (closed n p.0)
        (λ a. p.1 ((affected_is n p.0).1 a))

    -- ---- outcomes
    abbrev stays : Key → Bool
    stays k = not (is_affected_table_name (table_of_deck before) keys k)

    flag_of : (n : ℕ) (o : Outcome) → slice_get l.outcomes n ≡ Some (Some o)
        → is_flagged_settled l.settled_flags n ≡ true
    flag_of n o e =
        settled_node_is_flagged l.settled_flags n (ap (λ (bs : List Bool). slice_get bs n) nodes.marks_right
        ∙ settled_mark_tells_outcome l.outcomes n (Some o) e)

    flag_now : (n : ℕ) (o : Option Outcome) → slice_get m.outcomes n ≡ Some o → slice_get m.settled_flags n ≡ Some
        (is_some o)
    flag_now n o e = ap (λ (bs : List Bool). slice_get bs n) (f.numbers_left.marks_right nodes.marks_right)
        ∙ settled_mark_tells_outcome m.outcomes n o e

    not_now : (n : ℕ) (o : Outcome) → slice_get m.outcomes n ≡ Some (Some o)
        → is_flagged_settled m.settled_flags n ≡ true
    not_now n o e = settled_node_is_flagged m.settled_flags n (flag_now n (Some o) e)

    none_now : (n : ℕ) → slice_get m.outcomes n ≡ Some None → is_flagged_settled m.settled_flags n ≡ true → ⊥
    none_now n e s = let z : Some false ≡ Some true = sym (flag_now n None e)
        ∙ flagged_node_is_settled m.settled_flags n s in cc

    left_some : (n : ℕ) (o : Outcome) (y : Option Outcome) → slice_get l.outcomes n ≡ Some (Some o)
        → slice_get m.outcomes n ≡ Some y
        → (b : Bool) → is_affected_table_name (table_of_deck before) keys (node_key_at l.keys n) ≡ b
        → y ≡ cond (not b) (Some o) None
    left_some n o None e d true a = refl
    left_some n o (Some p) e d true a =
        let i = (affected_table_name_law.affected_exactly (table_of_deck before) keys (the_key n)
        (closed n (flag_of n o e))).0 a in
        absurd (((marks n).0 (not_now n p d)).1 ((affected_is n (flag_of n o e)).1 i))
    left_some n o None e d false a =
        absurd (none_now n d ((marks n).1 (
          flag_of n o e,
          λ i. true≢false (sym ((affected_table_name_law.affected_exactly (table_of_deck before) keys (the_key n)
              (closed n (flag_of n o e))).1
              ((affected_is n (flag_of n o e)).0 i)) ∙ a),
        )))
    left_some n o (Some p) e d false a = same_Some (Some p) (Some o) (sym (f.numbers_left.outcomes n p d) ∙ e)

    left_none : (n : ℕ) (y : Option Outcome) → slice_get l.outcomes n ≡ Some None → slice_get m.outcomes n ≡ Some y
        → (b : Bool)
        → y ≡ cond b None None
    left_none n None e d true = refl
    left_none n None e d false = refl
    left_none n (Some p) e d b = let z : Some (Some p) ≡ Some None = sym (f.numbers_left.outcomes n p d) ∙ e in cc

    taken : AreTaken stays l.keys l.outcomes m.outcomes
    taken n None y s e d = left_none n y e d (stays (the_key n))
    taken n (Some o) y s e d = left_some n o y e d (is_affected_table_name (table_of_deck before) keys (the_key n)) refl

    shown_left : live_view_of_nodes after m r ≡ left_in (live_view_of_nodes before l r) after keys
    shown_left = λ i. record {
      deck = after;
      kept_outcomes = (ap (λ (ks : List Key). cached_outcomes_of ks m.outcomes) f.rest_same.keys
          ∙ cached_outcomes_after_forgetting stays l.keys l.outcomes m.outcomes nodes.numbers_apart nodes.outcome_count
          (f.numbers_left.outcome_count ∙ nodes.outcome_count) taken) i;
      reductions = r;
    }

    module _ (law : KeysChangedByEditLaw) where
      pub is_edit : IsAcceptedLiveEdit (live_view_of_nodes before l r) (live_view_of_nodes after m r)
      is_edit = subst (λ (s : LiveView). IsAcceptedLiveEdit (live_view_of_nodes before l r) s) (sym shown_left)
          (edit_follows law (live_view_of_nodes before l r) after keys change.lists_changed_keys live.is_sound.is_right)

      right_now : IsRightLiveView (live_view_of_nodes after m r)
      right_now = (is_edit 0).is_right

    -- ---- nodes
    abbrev later : NodeLists
    later = record l {
      entry_flags = m.entry_flags;
      settled_flags = m.settled_flags;
      count = m.count;
      outcomes =
          m.outcomes;
    }

    later_is : later ≡ m
    later_is = λ i. record {
      keys = sym f.rest_same.keys i;
      entry_flags = m.entry_flags;
      callees = sym f.rest_same.callees i;
      outcomes = m.outcomes;
      graph = sym f.rest_same.graph i;
      looks = sym f.rest_same.looks i;
      settled_flags = m.settled_flags;
      count = m.count;
    }

    flag_at : (n : ℕ) → n < length l.keys → slice_get m.entry_flags n ≡ Some
        (is_entry_present (table_of_deck after) (node_key_at l.keys n))
    flag_at n s = elim (cases_Bool (is_entry_key_among keys (the_key n))) [
      | inl e ↦ f.flags_anew.changed_flags n s (table_key_among_is_member keys (the_key n) e)
      | inr e ↦
          let off : Contains keys (the_key n) → ⊥ = λ c.
          true≢false (sym (member_table_key_is_among keys (the_key n) c) ∙ e) in
          let same : entry_at (table_of_deck before) (the_key n) ≡ entry_at (table_of_deck after) (the_key n) =
          (change.lists_changed_keys (the_key n)).0 (λ c. true≢false (sym c ∙ e)) in
          f.flags_anew.other_flags n s off
          ∙ (ap (λ (bs : List Bool). slice_get bs n) nodes.flags_right
          ∙ (map_at (is_entry_present (table_of_deck before)) l.keys n _ s
          ∙ ap (λ (o : Option Entry). Some (is_some o)) same))
    ]

    flagged_now : m.entry_flags ≡ map (is_entry_present (table_of_deck after)) l.keys
    flagged_now =
        let size : length m.entry_flags ≡ length l.keys =
        f.flags_anew.flag_count
        ∙ (ap length nodes.flags_right ∙ length-map l.keys (is_entry_present (table_of_deck before))) in
        same_lists m.entry_flags (map (is_entry_present (table_of_deck after)) l.keys)
        (size ∙ sym (length-map l.keys (is_entry_present (table_of_deck after))))
        (λ n s. let t : n < length l.keys = omega (arith, s, size) in
        flag_at n t ∙ sym (map_at (is_entry_present (table_of_deck after)) l.keys n _ t))

    was_settled : (n : ℕ) → IsSettledInGraph m.settled_flags n → is_flagged_settled l.settled_flags n ≡ true
    was_settled n e = ((marks n).0 (settled_node_is_flagged m.settled_flags n e)).0

    is_before : (n : ℕ) → IsSettledInGraph m.settled_flags n → IsClosedAsBefore (table_of_deck before)
        (table_of_deck after) (node_key_at l.keys n)
    is_before n e = as_before n (settled_node_is_flagged m.settled_flags n e)

    -- a name that a settled name leads to is affected only if the settled name is
    below_free : (n q : ℕ) → IsSettledInGraph m.settled_flags n → GraphLeadsTo l.graph n q
        → IsSettledInGraph l.settled_flags q
        → AreAffectedByEdges g f.numbers q → ⊥
    below_free n q e way s a =
        let p = (marks n).0 (settled_node_is_flagged m.settled_flags n e) in
        p.1 ((affected_is n p.0).1 (affected_table_name_law.users (table_of_deck before) keys (the_key n) (the_key q)
        (at_once (lead_of_step (table_of_deck before) the_key (λ t holder. Unknown [] holder)
        (table_words_of_key (table_of_deck before) (the_key n)) (graph_steps l.graph n)
        (nodes.faithful n (flagged_node_is_settled l.settled_flags n p.0) (λ t holder. Unknown [] holder)) q way))
        ((affected_is q (settled_node_is_flagged l.settled_flags q s)).0 a)))

    still_settled : (n q : ℕ) → IsSettledInGraph m.settled_flags n → GraphLeadsTo l.graph n q
        → IsSettledInGraph m.settled_flags q
    still_settled n q e way =
        let s = (nodes.net.settled_right n (flagged_node_is_settled l.settled_flags n (was_settled n e))).1 q way in
        flagged_node_is_settled m.settled_flags q
        ((marks q).1 (settled_node_is_flagged l.settled_flags q s, below_free n q e way s))

    faithful_now : (n : ℕ) → IsSettledInGraph m.settled_flags n → IsFaithfulNode (table_of_deck after) later n
    faithful_now n e dead_end =
        subst (λ (us : List WordUse). AreWords (table_of_deck after) the_key dead_end us (graph_steps l.graph n))
        (same_words (table_of_deck before) (table_of_deck after) (the_key n) (is_before n e))
        (same_steps (table_of_deck before) (table_of_deck after) the_key dead_end
        (table_words_of_key (table_of_deck before) (the_key n))
        (graph_steps l.graph n)
        (is_before n e).lookups
        (nodes.faithful n (flagged_node_is_settled l.settled_flags n (was_settled n e)) dead_end))

    looked_now : (n : ℕ) → IsSettledInGraph m.settled_flags n → HasCachedLooks (table_of_deck after) later n
    looked_now n e =
        let o = nodes.settled_looks n (flagged_node_is_settled l.settled_flags n (was_settled n e)) in
        record {
          looks = record {
            seen_in_table = o.looks.seen_in_table;
            words_look = λ k.
                let same = looks_same (table_of_deck before) (table_of_deck after) (the_key n) (is_before n e) k in
                (λ w. (o.looks.words_look k).0 (same.1 w), λ w. same.0 ((o.looks.words_look k).1 w));
          };
          numbers_distinct = o.numbers_distinct;
        }

    nodes_later : AreSoundNodes (table_of_deck after) later
    nodes_later = record {
      step_count = nodes.step_count;
      outcome_count = f.numbers_left.outcome_count ∙ nodes.outcome_count;
      callee_count = nodes.callee_count;
      look_count = nodes.look_count;
      flags_right = flagged_now;
      marks_right = f.numbers_left.marks_right nodes.marks_right;
      count_right = f.numbers_left.count_right nodes.count_right;
      numbers_apart = nodes.numbers_apart;
      net = record {
        steps_in_range = nodes.net.steps_in_range;
        mark_per_name = f.numbers_left.same_length ∙ nodes.net.mark_per_name;
        settled_right = λ n e. (
          (nodes.net.settled_right n (flagged_node_is_settled l.settled_flags n (was_settled n e))).0,
          λ q way.
              still_settled n q e way,
        );
      };
      settled_have_entries = λ n e. sym (ap is_some (is_before n e).entry)
          ∙ nodes.settled_have_entries n (flagged_node_is_settled l.settled_flags n (was_settled n e));
      faithful = faithful_now;
      part_starts = λ n e x c at callee.
          nodes.part_starts n (flagged_node_is_settled l.settled_flags n (was_settled n e)) x c
          ((is_before n e).entry ∙ at) callee;
      ranks = λ n e c callee. subst (λ meaning. HasNodeRank meaning c) (is_before n e).same_meaning
          (nodes.ranks n (flagged_node_is_settled l.settled_flags n (was_settled n e)) c callee);
      settled_looks = looked_now;
    }

    edges_later : HasSettledEdges after later h
    edges_later = record {
      names = let a = live.edges.names in let e = f.edges.names in omega (arith, a, e);
      edges_right = subst (λ size. AreNumberedNameEdges (table_of_deck after) the_key size now h) (sym f.edges.names)
          (edges_cut (table_of_deck before) (table_of_deck after) the_key g.names was now g h Affected
          live.edges.edges_right f.edges
          marks
          (users_affected g f.numbers) as_before);
    }

    pub live_after : KeysChangedByEditLaw → IsLinkedLiveTable after m h r
    live_after law = record {
      is_sound = record {
        numbers = subst (AreSoundNodes (table_of_deck after)) later_is nodes_later;
        is_right = right_now law;
        few_reductions = live.is_sound.few_reductions;
      };
      edges = subst (λ (x : NodeLists). HasSettledEdges after x h) later_is edges_later;
    }
