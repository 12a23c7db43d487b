-- The facts that the nodes report about words and functions are right.
use Rattle.std.proofs.Common.{◌≡◌, ◌+◌, ◌*◌, ◌<◌, ◌||◌, ℕ, Bool, true, false, cond, Bor}
use Rattle.std.proofs.Common.{List, [], ◌∷◌, length, Contains, Option, Some, None, is_some}
use Rattle.std.proofs.Common.{nat_eq, get_or, refl, sym, ap, subst, ◌∙◌, inl, inr, arith}
use Rattle.std.specs.List.{slice_get}
use Rattle.std.proofs.lemmas.Option.{get_or_from_slice_get, same_Some, slice_get_within}
use Rattle.std.proofs.lemmas.Bool.{and_parts, and_from, eq-eqb, eqb-true, or_cases, or_right, true≢false}
use Rattle.expr_tree.specs.declared.word_list.WordUse.{WordUse}
use Rattle.def_entry.specs.declared.key.Key.{Key}
use Rattle.def_entry.specs.declared.key.Kind.{Kind}
use Rattle.def_entry.specs.declared.key.Kind.TheVariants as kind
use Rattle.def_entry.specs.Entries as what
use Rattle.def_entry.specs.Entries.{Entry, What}
use Rattle.def_entry.specs.Tables.{entry_at, is_entry_present}
use Rattle.deck.specs.Decks.{DeckContents}
use Rattle.deck.specs.Tables.{table_of_deck}
use Rattle.name_walk.specs.declared.step.Step.{Step}
use Rattle.name_walk.specs.declared.step.Step.TheVariants.{To}
use Rattle.name_walk.specs.ClosedNames.{IsSettledInGraph}
use Rattle.name_walk.specs.Steps.{graph_steps}
use Rattle.tree_eval.specs.declared.holder.Holder.{Holder}
use Rattle.tree_eval.specs.declared.holder.Holder.TheVariants.{Of, Query}
use Rattle.tree_eval.specs.declared.holder.Part.{Part}
use Rattle.tree_eval.specs.declared.outcome.Outcome.{Outcome}
use Rattle.tree_eval.specs.Entries.{evaluated_meaning}
use Rattle.tree_eval.specs.Environment.{HasEvalAliasTarget, HoldsEvalWords, IsEvalFunction}
use Rattle.tree_eval.specs.Expansions.{Callee, eval_callable_name}
use Rattle.tree_eval.specs.Expansion.{inverted_eval_word}
use Rattle.table_names.specs.declared.fault.NameFault.{NameFault}
use Rattle.table_names.specs.declared.fault.NameFault.TheVariants.{Unknown}
use Rattle.table_names.specs.ClosedKeys.{AreClosedWords, IsClosedKey, TableWordLeadsInto}
use Rattle.table_names.specs.Kinds.{table_name_may_mean}
use Rattle.table_names.specs.Meanings.{entry_meaning, key_meaning, outcome, word_meaning}
use Rattle.table_names.specs.Words.{table_words_of_entry, table_words_of_key, table_words_of_what}
use Rattle.table_names.proofs.ClosedLaws.{closed_word_law}
use Rattle.table_names.proofs.MeaningKinds.{meaning_kind_law}
use Rattle.table_names.proofs.Meanings.{closed_meaning_law}
use Rattle.table_names.specs.NumberedNames.{IsWord}
use Rattle.table_names.specs.NumberedNames as word
use Rattle.live_table.specs.declared.callee.Callee.{Callee as KeptCallee}
use Rattle.live_table.specs.declared.surroundings.Asked.{Asked}
use Rattle.live_table.specs.declared.surroundings.Asked.TheVariants as subject
use Rattle.live_table.specs.Callees.{cached_part_start}
use Rattle.live_table.specs.Scenes.{NodeScene, has_node_callee, is_settled_or_queried, node_callee_at}
use Rattle.live_table.specs.Scenes.{node_holder_words, is_node_callee, is_queried_node, is_settled, node_number_meaning}
use Rattle.live_table.specs.Scenes.{node_word_meaning, node_words_in_part}
use Rattle.live_table.specs.TableView.{IsRightLiveView}
use Rattle.live_table.specs.Sound.{AreSoundNodes}
use Rattle.live_table.specs.TableContents.{NodeLists, live_view_of_nodes, node_key_at}
use Rattle.live_table.specs.EvalInvariants.{AreRightNodesWithSubject, AreSettledWords, FitsNodes, HasSettledTargets}
use Rattle.live_table.specs.EvalInvariants.{node_subject_name as asked_name, node_scene, node_subject_words}
use Rattle.live_table.proofs.DeckTables.{live_deck_entries_fit_kinds}
use Rattle.live_table.proofs.OutcomesByKey.{key_settled, right_outcome, settled_within}
use Rattle.live_table.proofs.Parts.{IsStepped, node_word_has_two_steps, part_words_are_in_node_entry}
use Rattle.live_table.proofs.Places.{element}
use Rattle.live_table.proofs.ReportedWords.{IsLedBy, function_node_has_callee, function_node_is_callee}
use Rattle.live_table.proofs.ReportedWords.{node_callee_has_name_of_key, node_callee_is_its_meaning}
use Rattle.live_table.proofs.ReportedWords.{set_mark_is_settled}
use Rattle.live_table.proofs.ReportedWords.{settled_number_has_set_mark, to_first}
use Rattle.general_lemmas.proofs.Members.{member_first, member_at}

-- a settled number is at hand
pub settled_has_settled_targets : (deck : DeckContents) (l : NodeLists) → AreSoundNodes (table_of_deck deck) l
    → IsRightLiveView (live_view_of_nodes deck l 0)
    → (n : ℕ) → IsSettledInGraph l.settled_flags n → HasSettledTargets (table_of_deck deck) l n
settled_has_settled_targets deck l nodes right n e = record {
  in_table = settled_within deck l 0 nodes n e;
  key_has_entry = right.settled_have_entries (node_key_at l.keys n) (key_settled deck l 0 nodes n e);
  key_closed = right.settled_closed (node_key_at l.keys n) (key_settled deck l 0 nodes n e);
  targets_settled = (nodes.net.settled_right n e).1;
  faithful = nodes.faithful n e;
  part_starts = nodes.part_starts n e;
}

module _ (deck : DeckContents) (l : NodeLists) (asked : Asked) (is : AreRightNodesWithSubject deck l asked) where
  abbrev s : NodeScene
  s = node_scene deck l asked

  abbrev key : ℕ → Key
  key n = node_key_at l.keys n

  settled_at_hand : (n : ℕ) → IsSettledInGraph l.settled_flags n → HasSettledTargets (table_of_deck deck) l n
  settled_at_hand n e = settled_has_settled_targets deck l is.numbers is.is_right n e

  name_at_hand : (a : Asked) (n : ℕ) → FitsNodes (table_of_deck deck) l a → is_queried_node (asked_name a) n ≡ true
      → HasSettledTargets (table_of_deck deck) l n
  name_at_hand (subject.Expression us xs) n h e = cc
  name_at_hand (subject.Name m) n h e = subst (HasSettledTargets (table_of_deck deck) l) (eqb-true m n e) h

  pub at_hand : (n : ℕ) → is_settled_or_queried s n ≡ true → HasSettledTargets (table_of_deck deck) l n
  at_hand n e = elim (or_cases (is_settled s n) (is_queried_node s.name n) e) [
    | inl q ↦ settled_at_hand n (set_mark_is_settled l.settled_flags n q)
    | inr q ↦ name_at_hand asked n is.subject q
  ]

  -- ---- each of the settled words leads to settled names
  module _ (us : List WordUse) (xs : List Step) (words : AreSettledWords (table_of_deck deck) l us xs) (k : ℕ)
      (u : WordUse)
      (at : slice_get us k ≡ Some u) where
    led_word : TableWordLeadsInto (table_of_deck deck) (IsClosedKey (table_of_deck deck)) u
    led_word = (closed_word_law.words (table_of_deck deck) us).0 words.words_closed u (member_at us k u at)

    pub led_by : IsLedBy s u xs k
    led_by = by st.word st.at_first st.at_second
      where
        st : IsStepped (table_of_deck deck) key words.dead_end u xs k
        st = node_word_has_two_steps (table_of_deck deck) key words.dead_end us xs words.words k u at

        by : {x y : Step} → IsWord (table_of_deck deck) key words.dead_end u x y → slice_get xs (2 * k) ≡ Some x
            → slice_get xs (2 * k + 1) ≡ Some y → IsLedBy s u xs k
        by (word.ForRefused t refused same) e f = absurd (true≢false (sym refused ∙ led_word.not_refused))
        by (word.ForUnknown t accepted none same) e f = absurd (led_word.has_targets none)
        by (word.ForOne n accepted t) e f = record {
          n = n;
          m = n;
          at_first = e;
          at_second = f;
          led = record {
            word_leads = led_word;
            single_target = inl (t, refl);
            user_settled = words.targets_settled n (member_at xs (2 * k) (To n) e);
            target_settled = words.targets_settled n (member_at xs (2 * k) (To n) e);
          };
        }
        by (word.ForTwo n m accepted t) e f = record {
          n = n;
          m = m;
          at_first = e;
          at_second = f;
          led = record {
            word_leads = led_word;
            single_target = inr t;
            user_settled = words.targets_settled n (member_at xs (2 * k) (To n) e);
            target_settled = words.targets_settled m (member_at xs (2 * k + 1) (To m) f);
          };
        }

  -- the words of a name at hand are settled
  pub key_settled_words : (n : ℕ) → HasSettledTargets (table_of_deck deck) l n
      → AreSettledWords (table_of_deck deck) l (table_words_of_key (table_of_deck deck) (key n)) (graph_steps l.graph n)
  key_settled_words n h = record {
    dead_end = no_dead_end;
    words = h.faithful no_dead_end;
    words_closed = (closed_word_law.key (table_of_deck deck) (key n)).0 h.key_closed;
    targets_settled = h.targets_settled;
  }
    where
      no_dead_end : ℕ → Option Key → NameFault
      no_dead_end t holder = Unknown [] holder

  pub part_led : (n : ℕ) → HasSettledTargets (table_of_deck deck) l n → (p : Part) (c : KeptCallee)
      → slice_get l.callees n ≡ Some c
      → (k : ℕ) (u : WordUse) → slice_get (node_words_in_part (entry_at (table_of_deck deck) (key n)) p) k ≡ Some u
      → IsLedBy s u (graph_steps l.graph n) (cached_part_start c.starts p + k)
  part_led n h p c at k u e = led_by (table_words_of_key (table_of_deck deck) (key n)) (graph_steps l.graph n)
      (key_settled_words n h)
      (cached_part_start c.starts p + k) u (by (entry_at (table_of_deck deck) (key n)) refl e)
    where
      by : (o : Option Entry) → entry_at (table_of_deck deck) (key n) ≡ o
          → slice_get (node_words_in_part o p) k ≡ Some u
          → slice_get (table_words_of_entry (entry_at (table_of_deck deck) (key n)))
          (cached_part_start c.starts p + k) ≡ Some u
      by None q e = cc
      by (Some x) q e =
          ap (λ (o : Option Entry). slice_get (table_words_of_entry o) (cached_part_start c.starts p + k)) q
          ∙ ap (λ (b : ℕ). slice_get (table_words_of_what x.what) (b + k)) (h.part_starts x c q at p)
          ∙ part_words_are_in_node_entry x.what p k u e

  -- ---- the entry of a name at hand
  pub settled_right : (n : ℕ) → IsSettledInGraph l.settled_flags n → slice_get l.outcomes n ≡ Some (Some
      (outcome (table_of_deck deck) (key n)))
  settled_right n e = right_outcome deck l 0 is.numbers is.is_right n e

  -- the stored outcome is that of its key
  pub outcome_is_reported : (v : NodeScene) → node_scene deck l asked ≡ v → (n : ℕ) → IsSettledInGraph v.settled_flags n
      → (found : Option Outcome) → found ≡ get_or l.outcomes n found
      → (o : Outcome) → found ≡ Some o → o ≡ outcome (table_of_deck v.deck) (node_key_at v.keys n)
  outcome_is_reported v seen n e found at o there =
      let h : slice_get l.outcomes n ≡ Some (Some (outcome (table_of_deck deck) (key n))) =
      settled_right n (subst (λ (x : NodeScene). IsSettledInGraph x.settled_flags n) (sym seen) e) in
      let g : get_or l.outcomes n found ≡ Some (outcome (table_of_deck deck) (key n)) =
      get_or_from_slice_get l.outcomes n (Some (outcome (table_of_deck deck) (key n))) found h in
      subst (λ (x : NodeScene). o ≡ outcome (table_of_deck x.deck) (node_key_at x.keys n)) seen
      (same_Some o (outcome (table_of_deck deck) (key n)) (sym there ∙ (at ∙ g)))

  module _ (n : ℕ) (hand : is_settled_or_queried s n ≡ true) (x : Entry)
      (entry : entry_at (table_of_deck deck) (key n) ≡ Some x) where
    pub holds_words : HoldsEvalWords (node_holder_words s) n x.what
    holds_words p =
        ap (λ (b : Bool). cond b (node_words_in_part (entry_at (table_of_deck deck) (key n)) p) []) hand
        ∙ ap (λ (o : Option Entry). node_words_in_part o p) entry

    pub meaning_is : key_meaning (table_of_deck deck) (key n) ≡ evaluated_meaning (word_meaning (table_of_deck deck))
        (key n).name x.what
    meaning_is =
        closed_meaning_law (table_of_deck deck) (key n) (at_hand n hand).key_closed
        ∙ ap (entry_meaning (word_meaning (table_of_deck deck)) (key n).name) entry

    pub has_target : HasEvalAliasTarget (node_word_meaning s) x.what
    has_target = by x.what refl
      where
        by : (w : What) → x.what ≡ w → HasEvalAliasTarget (node_word_meaning s) w
        by what.Primitive q = tt
        by what.Dimensionless q = tt
        by (what.Body y) q = tt
        by (what.Function d) q = tt
        by (what.Table d) q = tt
        by (what.ListOf parts) q = tt
        by (what.Alias target) q =
            let are : table_words_of_key (table_of_deck deck) (key n) ≡ inverted_eval_word target ∷ [] =
            ap table_words_of_entry entry ∙ ap table_words_of_what q in
            let in_it : Contains (table_words_of_key (table_of_deck deck) (key n)) (inverted_eval_word target) =
            subst (λ (ws : List WordUse). Contains ws (inverted_eval_word target)) (sym are)
            (member_first (inverted_eval_word target) (inverted_eval_word target) [] refl) in
            let closed : AreClosedWords (table_of_deck deck) (table_words_of_key (table_of_deck deck) (key n)) =
            (closed_word_law.key (table_of_deck deck) (key n)).0 (at_hand n hand).key_closed in
            function_node_has_callee (word_meaning (table_of_deck deck) (inverted_eval_word target))
            (meaning_kind_law.inverses (table_of_deck deck) (live_deck_entries_fit_kinds deck) target
            ((closed_word_law.words (table_of_deck deck) _).0 closed (inverted_eval_word target) in_it))

  -- ---- the reported function
  module _ (n : ℕ) (has : has_node_callee s n ≡ true) where
    pub callee_settled : IsSettledInGraph l.settled_flags n
    callee_settled = set_mark_is_settled l.settled_flags n
        (and_parts (is_settled s n) (is_node_callee (node_number_meaning s n)) has).0

    pub callee_is : node_number_meaning s n ≡ Callee (node_callee_at s n)
    callee_is = node_callee_is_its_meaning (node_number_meaning s n)
        (and_parts (is_settled s n) (is_node_callee (node_number_meaning s n)) has).1

    pub callee_hand : is_settled_or_queried s n ≡ true
    callee_hand = ap (λ (b : Bool). b || is_queried_node s.name n)
        (settled_number_has_set_mark l.settled_flags n callee_settled)

    pub callee_within : n < length l.keys
    callee_within = (at_hand n callee_hand).in_table

    pub callee_present : is_entry_present (table_of_deck deck) (key n) ≡ true
    callee_present = (at_hand n callee_hand).key_has_entry

    pub callee_named : eval_callable_name (node_callee_at s n) ≡ (key n).name
    callee_named = by (entry_at (table_of_deck deck) (key n)) refl callee_present
      where
        by : (o : Option Entry) → entry_at (table_of_deck deck) (key n) ≡ o → is_some o ≡ true
            → eval_callable_name (node_callee_at s n) ≡ (key n).name
        by None q h = cc
        by (Some x) q h = node_callee_has_name_of_key (word_meaning (table_of_deck deck)) (key n).name x.what
            (node_callee_at s n)
            (sym (meaning_is n callee_hand x q) ∙ callee_is)

    pub is_function : (x : Entry) → entry_at (table_of_deck deck) (key n) ≡ Some x
        → IsEvalFunction (node_holder_words s) (node_word_meaning s) n (node_callee_at s n) x.what
    is_function x entry = record {
      words_held = holds_words n callee_hand x entry;
      is_meant = ap (λ (name : List ℕ). evaluated_meaning (word_meaning (table_of_deck deck)) name x.what) callee_named
          ∙ (sym (meaning_is n callee_hand x entry) ∙ callee_is);
    }

  pub has_function : (n : ℕ) → IsSettledInGraph l.settled_flags n → (key n).kind ≡ kind.Func
      → has_node_callee s n ≡ true
  has_function n e k =
      let h : HasSettledTargets (table_of_deck deck) l n = settled_at_hand n e in
      let may : table_name_may_mean (key n).kind (key_meaning (table_of_deck deck) (key n)) ≡ true =
      meaning_kind_law.keys (table_of_deck deck) (live_deck_entries_fit_kinds deck) (key n) h.key_has_entry h.key_closed
      in
      and_from (is_settled s n) (is_node_callee (node_number_meaning s n))
      (settled_number_has_set_mark l.settled_flags n e)
      (function_node_is_callee (node_number_meaning s n)
      (subst (λ (x : Kind). table_name_may_mean x (key_meaning (table_of_deck deck) (key n)) ≡ true) k
      may))

  -- ---- each word of a holder leads to settled names, by its steps
  module _ (v : NodeScene) (seen : node_scene deck l asked ≡ v) (holder : Holder) (k : ℕ)
      (within : k < length (node_holder_words v holder)) where
    module _ (us : Bor (List WordUse)) (xs : Bor (List Step)) (query : asked ≡ subject.Expression us xs)
        (h : holder ≡ Query) where
      query_words : node_holder_words v holder ≡ us.now
      query_words = ap (node_holder_words v) h
          ∙ (ap (λ (s : NodeScene). s.words) (sym seen) ∙ ap node_subject_words query)

      pub query_led : (u : WordUse) → slice_get (node_holder_words v holder) k ≡ Some u → IsLedBy v u xs.now k
      query_led u at =
          let words : AreSettledWords (table_of_deck deck) l us.now xs.now =
          subst (FitsNodes (table_of_deck deck) l) query is.subject
          in
          subst (λ (s : NodeScene). IsLedBy s u xs.now k) seen (led_by us.now xs.now words k u
          (ap (λ (ws : List WordUse). slice_get ws k) (sym query_words) ∙ at))

    module _ (n : ℕ) (p : Part) (h : holder ≡ Of n p) where
      part_words_are : node_holder_words v holder ≡ node_holder_words s (Of n p)
      part_words_are = ap (node_holder_words v) h ∙ ap (λ (x : NodeScene). node_holder_words x (Of n p)) (sym seen)

      -- a number with words is at hand
      hand_is : is_settled_or_queried s n ≡ true
      hand_is = by (is_settled_or_queried s n) refl
        where
          by : (b : Bool) → is_settled_or_queried s n ≡ b → is_settled_or_queried s n ≡ true
          by true q = q
          by false q =
              let none : node_holder_words v holder ≡ [] =
              part_words_are ∙ ap (λ (b : Bool). cond b (node_words_in_part (entry_at (table_of_deck deck) (key n)) p)
              []) q in
              let few : length (node_holder_words v holder) ≡ 0 = ap length none in
              absurd (omega (arith, within, few))

      pub part_hand : HasSettledTargets (table_of_deck deck) l n
      part_hand = at_hand n hand_is

      pub hand_within : n < length l.keys
      hand_within = part_hand.in_table

      pub steps_within : n < length l.graph
      steps_within = let a : n < length l.keys = hand_within in let b : length l.graph ≡ length l.keys =
          is.numbers.step_count in omega arith

      pub callees_within : n < length l.callees
      callees_within = let a : n < length l.keys = hand_within in let b : length l.callees ≡ length l.keys =
          is.numbers.callee_count in omega arith

      pub of_led : (start : ℕ)
          → ((c : KeptCallee) → slice_get l.callees n ≡ Some c → start ≡ cached_part_start c.starts p)
          → (xs : List Step) → xs ≡ graph_steps l.graph n
          → (u : WordUse) → slice_get (node_holder_words v holder) k ≡ Some u → IsLedBy v u xs (start + k)
      of_led start starts xs are u at =
          let c : (c : KeptCallee) × (slice_get l.callees n ≡ Some c) = element l.callees n callees_within in
          let here : slice_get (node_words_in_part (entry_at (table_of_deck deck) (key n)) p) k ≡ Some u =
          ap (λ (ws : List WordUse). slice_get ws k)
          (sym (part_words_are ∙ ap
          (λ (b : Bool). cond b (node_words_in_part (entry_at (table_of_deck deck) (key n)) p) [])
          hand_is)) ∙ at in
          subst (λ (x : NodeScene). IsLedBy x u xs (start + k)) seen
          (subst (λ (ys : List Step). IsLedBy s u ys (start + k)) (sym are)
          (subst (λ (b : ℕ). IsLedBy s u (graph_steps l.graph n) (b + k)) (sym (starts c.0 c.1))
          (part_led n part_hand p c.0 c.1 k u here)))

-- the place of a word that leads to names is small
pub node_led_word_has_small_place : (s : NodeScene) (us : List WordUse) (k : ℕ) (xs : List Step) (j : ℕ) → k < length us
    → ((u : WordUse) → slice_get us k ≡ Some u → IsLedBy s u xs j) → 2 * j < length xs
node_led_word_has_small_place s us k xs j within each = let e = to_first s us k xs j within each in
    slice_get_within xs (2 * j) (To e.0) e.1

-- the queried name is at hand
pub subject_is_settled_or_queried : (deck : DeckContents) (l : NodeLists) (n : ℕ)
    → is_settled_or_queried (node_scene deck l (subject.Name n)) n ≡ true
subject_is_settled_or_queried deck l n = or_right (is_settled (node_scene deck l (subject.Name n)) n) (nat_eq n n)
    (eq-eqb n n refl)
