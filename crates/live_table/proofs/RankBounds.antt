-- The rank of a function is one more than the greatest rank of the names to which its words lead.
use Rattle.std.proofs.Common.{◌≡◌, ◌⊎◌, ◌+◌, ◌<◌, ◌≤◌, ℕ, suc, max, true, List, [], ◌∷◌, length, Option, Some, None}
use Rattle.std.proofs.Common.{is_some, refl, sym, ap, ◌∙◌, inl, inr, arith}
use Rattle.std.proofs.lemmas.List.Elements.{Contains-append_right}
use Rattle.std.specs.List.{slice_get}
use Rattle.std.proofs.lemmas.Option.{same_Some}
use Rattle.expr_tree.specs.declared.word_list.WordUse.{WordUse}
use Rattle.def_entry.specs.declared.key.Key.{Key}
use Rattle.def_entry.specs.Entries as what
use Rattle.def_entry.specs.Entries.{Entry, What}
use Rattle.def_entry.specs.Tables.{entry_at}
use Rattle.deck.specs.Decks.{DeckContents}
use Rattle.deck.specs.Tables.{DeckTableLaw, table_of_deck}
use Rattle.name_walk.specs.declared.step.Step.{Step}
use Rattle.name_walk.specs.declared.step.Step.TheVariants.{To}
use Rattle.name_walk.specs.ClosedNames.{IsSettledInGraph}
use Rattle.name_walk.specs.Steps.{graph_steps}
use Rattle.tree_eval.specs.declared.outcome.Outcome.TheVariants as outcomes
use Rattle.tree_eval.specs.Entries.{evaluated_alias, evaluated_meaning, greatest_rank, rank_of_meaning}
use Rattle.tree_eval.specs.Expansions.{Callee, EvalMeaning, One, Prefixed, Two}
use Rattle.tree_eval.specs.Expansion.{inverted_eval_word}
use Rattle.tree_eval.specs.Outcomes.{outcome_of_eval_meaning}
use Rattle.tree_eval.specs.Value.{value}
use Rattle.table_names.specs.Kinds.{ForOne, ForTwo, StandsForTargets}
use Rattle.table_names.specs.Leads.{table_word_targets}
use Rattle.table_names.specs.Meanings.{key_meaning, outcome, word_meaning}
use Rattle.table_names.specs.Words.{table_words_of_entry, table_words_of_key, table_words_of_what}
use Rattle.table_names.proofs.ClosedLaws.{closed_word_law}
use Rattle.table_names.proofs.Ranks.{numbered_name_rank_law}
use Rattle.live_table.specs.declared.callee.Callee.{Callee as KeptCallee}
use Rattle.live_table.specs.declared.surroundings.Asked.{Asked}
use Rattle.live_table.specs.declared.surroundings.Asked.TheVariants.{Name}
use Rattle.live_table.specs.Due.{IsDueToBeSettled}
use Rattle.live_table.specs.Ranks.{greatest_node_step_rank, node_rank, node_step_rank}
use Rattle.live_table.specs.Scenes.{IsWordLedToSettled, NodeScene, is_node_callee, is_settled_or_queried}
use Rattle.live_table.specs.Sound.{IsSoundLiveTable}
use Rattle.live_table.specs.TableContents.{NodeLists, node_key_at}
use Rattle.live_table.specs.EvalInvariants.{AreRightNodesWithSubject, AreSettledWords, node_scene}
use Rattle.live_table.proofs.OutcomesByKey.{settled_within}
use Rattle.live_table.proofs.Places.{element}
use Rattle.live_table.proofs.SettleOne.{surrounded}
use Rattle.live_table.proofs.NodeReports.{at_hand, key_settled_words, led_by, meaning_is, subject_is_settled_or_queried}
use Rattle.live_table.proofs.ReportedWords.{IsLedBy, cached_value_is_not_callable, first_same, not_both, second_same}
use Rattle.live_table.proofs.ReportedWords.{stands}
use Rattle.general_lemmas.proofs.Members.{member_later}

-- ---- by the entry
alias_node_rank_is_one_more : (name : List ℕ) (m : EvalMeaning) → is_node_callee (evaluated_alias name m) ≡ true
    → rank_of_meaning (evaluated_alias name m) ≡ suc (max (rank_of_meaning m) 0)
alias_node_rank_is_one_more name (One x) e = cc
alias_node_rank_is_one_more name (Two x y) e = cc
alias_node_rank_is_one_more name (Callee f) e = omega arith

-- the rank of a function is one above those of its words
node_rank_is_above_its_words : (means : WordUse → EvalMeaning) (name : List ℕ) (w : What)
    → is_node_callee (evaluated_meaning means name w) ≡ true
    → rank_of_meaning (evaluated_meaning means name w) ≡ suc (greatest_rank means (table_words_of_what w))
node_rank_is_above_its_words means name what.Primitive e = cc
node_rank_is_above_its_words means name what.Dimensionless e = cc
node_rank_is_above_its_words means name (what.Body x) e = cc
node_rank_is_above_its_words means name (what.ListOf parts) e = cc
node_rank_is_above_its_words means name (what.Function d) e = refl
node_rank_is_above_its_words means name (what.Table d) e = refl
node_rank_is_above_its_words means name (what.Alias target) e = alias_node_rank_is_one_more name
    (means (inverted_eval_word target)) e

-- a meaning whose outcome is `Callable` is a function
pub callable_outcome_is_node_callee : (m : EvalMeaning) → outcome_of_eval_meaning m ≡ outcomes.Callable
    → is_node_callee m ≡ true
callable_outcome_is_node_callee (One x) h = absurd (cached_value_is_not_callable (value x None) h)
callable_outcome_is_node_callee (Two x y) h = absurd (cached_value_is_not_callable (value (Prefixed x y) None) h)
callable_outcome_is_node_callee (Callee f) h = refl

-- equal ranks are equal to their maximum
equal_node_ranks_are_maximum : (w x y k : ℕ) → w ≡ k → x ≡ k → y ≡ k → w ≡ max x y
equal_node_ranks_are_maximum w x y k e f g = omega (arith, e, f, g)

module _ (deck : DeckContents) (l : NodeLists) (asked : Asked) (is : AreRightNodesWithSubject deck l asked) where
  abbrev s : NodeScene
  s = node_scene deck l asked

  abbrev key : ℕ → Key
  key n = node_key_at l.keys n

  abbrev key_rank : Key → ℕ
  key_rank k = rank_of_meaning (key_meaning (table_of_deck deck) k)

  kept_rank : (n : ℕ) → IsSettledInGraph l.settled_flags n → node_step_rank l.callees (To n) ≡ key_rank (key n)
  kept_rank n e =
      let a : n < length l.keys = settled_within deck l 0 is.numbers n e in
      let b : length l.callees ≡ length l.keys = is.numbers.callee_count in
      let c : (c : KeptCallee) × (slice_get l.callees n ≡ Some c) = element l.callees n (omega (arith, a, b)) in
      ap node_rank c.1 ∙ is.numbers.ranks n e c.0 c.1

  -- ---- by a word
  abbrev HasRanks : WordUse → ℕ → ℕ → Type 0
  HasRanks u n m =
      rank_of_meaning (word_meaning (table_of_deck deck) u) ≡ max (node_step_rank l.callees (To n))
      (node_step_rank l.callees (To m))

  word_rank : (u : WordUse) (n m : ℕ) → IsWordLedToSettled s u n m → HasRanks u n m
  word_rank u n m led = by (stands s u n m led) led.single_target
    where
      a : node_step_rank l.callees (To n) ≡ key_rank (key n)
      a = kept_rank n led.user_settled

      b : node_step_rank l.callees (To m) ≡ key_rank (key m)
      b = kept_rank m led.target_settled

      by : StandsForTargets (table_of_deck deck) u
          → ((table_word_targets (table_of_deck deck) u ≡ key n ∷ []) × (n ≡ m)) ⊎ (table_word_targets
          (table_of_deck deck) u ≡ key n ∷ key m ∷ []) → HasRanks u n m
      by (ForOne k q means) (inl t) =
          let w : rank_of_meaning (word_meaning (table_of_deck deck) u) ≡ key_rank (key n) =
          ap rank_of_meaning means ∙ ap key_rank (sym (first_same (key n) k [] [] (sym t.0 ∙ q))) in
          let c : key_rank (key m) ≡ key_rank (key n) = ap (λ x. key_rank (key x)) (sym t.1) in
          equal_node_ranks_are_maximum _ _ _ _ w a (b ∙ c)
      by (ForOne k q means) (inr t) = absurd (not_both k (key n) (key m) (sym q ∙ t))
      by (ForTwo k j x y q prefix unit kx jy means) (inl t) = absurd (not_both (key n) k j (sym t.0 ∙ q))
      by (ForTwo k j x y q prefix unit kx jy means) (inr t) =
          let w : rank_of_meaning (word_meaning (table_of_deck deck) u) ≡ 0 = ap rank_of_meaning means in
          let c : key_rank (key n) ≡ 0 =
          ap key_rank (first_same (key n) k (key m ∷ []) (j ∷ []) (sym t ∙ q)) ∙ ap rank_of_meaning kx in
          let d : key_rank (key m) ≡ 0 =
          ap key_rank (second_same (key n) (key m) k j [] [] (sym t ∙ q)) ∙ ap rank_of_meaning jy in
          equal_node_ranks_are_maximum _ _ _ 0 w (a ∙ c) (b ∙ d)

  words_rank : (us : List WordUse) (xs : List Step) → AreSettledWords (table_of_deck deck) l us xs
      → greatest_rank (word_meaning (table_of_deck deck)) us ≡ greatest_node_step_rank l.callees xs
  words_rank [] [] h = refl
  words_rank [] (x ∷ xs) h = absurd h.words
  words_rank (v ∷ us) [] h = absurd h.words
  words_rank (v ∷ us) (x ∷ []) h = absurd h.words
  words_rank (v ∷ us) (x ∷ y ∷ xs) h =
      let first : IsLedBy s v (x ∷ y ∷ xs) 0 = led_by deck l asked is (v ∷ us) (x ∷ y ∷ xs) h 0 v refl in
      let e : node_step_rank l.callees (To first.n) ≡ node_step_rank l.callees x =
      ap (node_step_rank l.callees) (sym (same_Some x (To first.n) first.at_first)) in
      let f : node_step_rank l.callees (To first.m) ≡ node_step_rank l.callees y =
      ap (node_step_rank l.callees) (sym (same_Some y (To first.m) first.at_second)) in
      let w : rank_of_meaning (word_meaning (table_of_deck deck) v) ≡ max (node_step_rank l.callees (To first.n))
      (node_step_rank l.callees (To first.m)) = word_rank v first.n first.m first.led in
      let r : greatest_rank (word_meaning (table_of_deck deck)) us ≡ greatest_node_step_rank l.callees xs =
      words_rank us xs rest in
      joined _ _ _ _ _ _ _ w e f r
    where
      joined : (v n m x y g r : ℕ) → v ≡ max n m → n ≡ x → m ≡ y → g ≡ r → max v g ≡ max x (max y r)
      joined v n m x y g r w e f h = omega (arith, w, e, f, h)

      rest : AreSettledWords (table_of_deck deck) l us xs
      rest = record {
        dead_end = h.dead_end;
        words = h.words.1;
        words_closed = (closed_word_law.words (table_of_deck deck) us).1
            (λ u i. (closed_word_law.words (table_of_deck deck) (v ∷ us)).0 h.words_closed u
            (member_later u v us i));
        targets_settled = λ m i. h.targets_settled m (Contains-append_right (x ∷ y ∷ []) xs (To m) i);
      }

  -- ---- the rank of a name at hand that is a function
  module _ (n : ℕ) (hand : is_settled_or_queried s n ≡ true) (x : Entry)
      (entry : entry_at (table_of_deck deck) (key n) ≡ Some x) where
    pub function_rank : is_node_callee (key_meaning (table_of_deck deck) (key n)) ≡ true
        → key_rank (key n) ≡ suc (greatest_node_step_rank l.callees (graph_steps l.graph n))
    function_rank e =
        let is_said : key_meaning (table_of_deck deck) (key n) ≡ evaluated_meaning (word_meaning (table_of_deck deck))
        (key n).name x.what =
        meaning_is deck l asked is n hand x entry in
        ap rank_of_meaning is_said
        ∙ (node_rank_is_above_its_words (word_meaning (table_of_deck deck)) (key n).name x.what
        (sym (ap is_node_callee is_said) ∙ e)
        ∙ ap suc (ap (λ (o : Option Entry). greatest_rank (word_meaning (table_of_deck deck)) (table_words_of_entry o))
        (sym entry)
        ∙ words_rank (table_words_of_key (table_of_deck deck) (key n)) (graph_steps l.graph n)
        (key_settled_words deck l asked is n (at_hand deck l asked is n hand))))

-- ---- the rank of a name that is due, and its bound
module _ (deck : DeckContents) (l : NodeLists) (r n : ℕ) (sound : IsSoundLiveTable deck l r)
    (due : IsDueToBeSettled (table_of_deck deck) l n)
    (callable : outcome (table_of_deck deck) (node_key_at l.keys n) ≡ outcomes.Callable) (g : ℕ)
    (greatest : g ≡ greatest_node_step_rank l.callees (graph_steps l.graph n)) where
  due_rank : rank_of_meaning (key_meaning (table_of_deck deck) (node_key_at l.keys n)) ≡ suc
      (greatest_node_step_rank l.callees (graph_steps l.graph n))
  due_rank = by (entry_at (table_of_deck deck) (node_key_at l.keys n)) refl due.key_has_entry
    where
      by : (o : Option Entry) → entry_at (table_of_deck deck) (node_key_at l.keys n) ≡ o → is_some o ≡ true
          → rank_of_meaning (key_meaning (table_of_deck deck) (node_key_at l.keys n)) ≡ suc
          (greatest_node_step_rank l.callees (graph_steps l.graph n))
      by None q h = cc
      by (Some x) q h =
          function_rank deck l (Name n) (surrounded deck l r n sound due) n (subject_is_settled_or_queried deck l n) x q
          (callable_outcome_is_node_callee (key_meaning (table_of_deck deck) (node_key_at l.keys n)) callable)

  pub rank_is : g + 1 ≡ rank_of_meaning (key_meaning (table_of_deck deck) (node_key_at l.keys n))
  rank_is = omega (arith, due_rank, greatest)

  pub rank_few : DeckTableLaw → length deck.lines ≤ 100000 → g + 1 ≤ 100000
  rank_few law a =
      let b : length (table_of_deck deck) ≤ length deck.lines = law.table_length deck in
      let c : rank_of_meaning (key_meaning (table_of_deck deck) (node_key_at l.keys n)) ≤ length (table_of_deck deck) =
      numbered_name_rank_law (table_of_deck deck) (node_key_at l.keys n) in
      omega (arith, a, b, c, rank_is)
