-- The steps of the words of a query, word after word.
use Rattle.std.proofs.Common.{◌≡◌, ◌+◌, ◌++◌, ◌∷◌, [], ℕ, zero, suc, List, take, drop, Some}
use Rattle.std.proofs.Common.{None, sym, ◌∙◌, ap, subst, Contains}
use Rattle.std.specs.List.{slice_get}
use Rattle.std.proofs.lemmas.Bool.{true≢false}
use Rattle.expr_tree.specs.declared.word_list.WordUse.{WordUse}
use Rattle.def_entry.specs.Tables.{EntryTable}
use Rattle.name_walk.specs.declared.step.Step.{Step}
use Rattle.live_table.specs.declared.dead_end.DeadEnd.{DeadEnd}
use Rattle.live_table.specs.declared.word_targets.Destination.{Destination}
use Rattle.live_table.specs.declared.word_targets.Destination.TheVariants.{Refused, Nowhere, One, Two}
use Rattle.live_table.specs.declared.word_steps.WordSteps.{WordSteps}
use Rattle.live_table.specs.Exploration.{AreExplorationSteps, AreNodesAdded, IsExplorationAgenda, IsKnownToExploration}
use Rattle.live_table.specs.WordTargets.{IsLiveQueryDestination, destination_node_numbers}
use Rattle.live_table.specs.WordTargets.{is_refused_node_destination, node_steps_of_destination}
use Rattle.live_table.specs.QueryWords.{AreExplorationStepsCutAt, IsExplorationDeadEnd}
use Rattle.live_table.specs.Sound.{AreSoundNodes}
use Rattle.live_table.specs.TableContents.{NodeLists}
use Rattle.live_table.proofs.AddedNames.{nodes_are_growth_of_themselves, two_node_additions_are_one, written_more}
use Rattle.live_table.proofs.DestinationSteps.{steps_written}
use Rattle.live_table.proofs.WrittenSteps.{exploration_steps_after_others}
use Rattle.general_lemmas.proofs.Places.{take_at}

-- ---- the state of the loop over words
pub record IsStepping (t : EntryTable) (old now : NodeLists) (before here list : List ℕ) (us : List WordUse)
    (xs : List Step)
    (i : ℕ) : Type 0 where
  pub added : (ends : List DeadEnd) → AreNodesAdded t old now before here list ends ends
  pub written : AreExplorationSteps t now before list [] (take i us) xs

-- a turn of the loop: one more word was looked up, and its targets were put on the agenda
pub record IsTurn (t : EntryTable) (old now m : NodeLists) (before here list there : List ℕ) (us : List WordUse)
    (xs : List Step) (i : ℕ) (u : WordUse) : Type 0 where
  pub word : slice_get us i ≡ Some u
  pub start : IsStepping t old now before here list us xs i
  pub led : (ends : List DeadEnd) → AreNodesAdded t now m before list list ends ends
  pub put : (ends : List DeadEnd) → AreNodesAdded t m m before list there ends ends

module _ (t : EntryTable) (old now m : NodeLists) (before here list there : List ℕ) (us : List WordUse) (xs : List Step)
    (i : ℕ) (u : WordUse) (turn : IsTurn t old now m before here list there us xs i u) where
  then : (ends : List DeadEnd) → AreNodesAdded t now m before list there ends ends
  then ends = two_node_additions_are_one t now m m before list list there ends ends ends (turn.led ends) (turn.put ends)

  -- names are added to those before the loop
  pub stepped_added : (ends : List DeadEnd) → AreNodesAdded t old m before here there ends ends
  stepped_added ends = two_node_additions_are_one t old now m before here list there ends ends ends
      (turn.start.added ends) (then ends)

  front : AreExplorationSteps t m before there [] (take i us) xs
  front =
      written_more t now m before list there [] [] (turn.start.added []).growth.nodes
      (turn.start.added []).growth.list_right (then []).growth (take i us) xs turn.start.written

  module _ (destination : Destination) (is : IsLiveQueryDestination t m.keys u destination) where
    -- the steps of the word are appended
    pub stepping_next : ((n : ℕ) → Contains (destination_node_numbers destination) n
        → IsKnownToExploration m before there n)
        → (w : WordSteps)
        → Some w ≡ node_steps_of_destination destination → (zs : List Step) → zs ≡ xs ++ w.first ∷ w.second ∷ []
        → IsStepping t old m before here there us zs (i + 1)
    stepping_next known w e zs all = record {
      added = stepped_added;
      written = subst (λ (p : List WordUse × List Step). AreExplorationSteps t m before there [] p.0 p.1)
          (λ j. (sym (take_at us i u turn.word) j, sym all j))
          (exploration_steps_after_others t m before there [] (take i us) (u ∷ []) xs (w.first ∷ w.second ∷ []) front
          (steps_written t m before there [] u destination w is known e));
    }

    -- or the word leads nowhere
    pub stepping_cut : None ≡ node_steps_of_destination destination → (end : DeadEnd)
        → end ≡ record { text = u.text; is_refused = is_refused_node_destination destination }
        → AreExplorationStepsCutAt t m before there us xs end
    stepping_cut none end e = record {
      words_before = take i us;
      word = u;
      words_after = drop (suc i) us;
      words = parts us i turn.word;
      front_steps = front;
      dead_end_word = dead destination is none e;
    }
      where
        parts : (vs : List WordUse) (j : ℕ) → slice_get vs j ≡ Some u → vs ≡ take j vs ++ u ∷ drop (suc j) vs
        parts [] j q = cc
        parts (v ∷ vs) zero q = let f : v ≡ u = cc in ap (λ (x : WordUse). x ∷ vs) f
        parts (v ∷ vs) (suc j) q = ap (λ (ws : List WordUse). v ∷ ws) (parts vs j q)

        dead : (x : Destination) → IsLiveQueryDestination t m.keys u x → None ≡ node_steps_of_destination x
            → end ≡ record { text = u.text; is_refused = is_refused_node_destination x } → IsExplorationDeadEnd t u end
        dead Refused h n q = record {
          text = ap (λ (d : DeadEnd). d.text) q;
          refused_word = ap (λ (d : DeadEnd). d.is_refused) q ∙ sym h;
          no_targets = λ f. absurd (true≢false (sym h ∙ f));
        }
        dead Nowhere h n q = record {
          text = ap (λ (d : DeadEnd). d.text) q;
          refused_word = ap (λ (d : DeadEnd). d.is_refused) q ∙ sym h.0;
          no_targets = λ f. h.1;
        }
        dead (One p) h n q = cc
        dead (Two p r) h n q = cc

-- ---- steps that all lead somewhere mean the same whatever the dead ends
pub leading_exploration_steps_stay : (t : EntryTable) (l : NodeLists) (before list : List ℕ) (ends : List DeadEnd)
    (us : List WordUse)
    (xs : List Step)
    → AreSoundNodes t l → IsExplorationAgenda t l before list → AreExplorationSteps t l before list [] us xs
    → AreExplorationSteps t l before list ends us xs
leading_exploration_steps_stay t l before list ends us xs nodes right w =
    written_more t l l before list list [] ends nodes right
    (nodes_are_growth_of_themselves t l before list [] ends nodes right (λ i x e. cc)) us xs w
