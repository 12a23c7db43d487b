-- The result of a query of words.
use Rattle.std.proofs.Common.{◌≡◌, ◌<◌, ℕ, List, [], ◌∷◌, map, length, Option, Some, None, option_map, refl, sym, ◌∙◌}
use Rattle.std.proofs.Common.{ap, subst, inl, arith, Contains}
use Rattle.std.specs.Prelude.{Result, Ok, Err}
use Rattle.expr_tree.specs.declared.word_list.WordUse.{WordUse}
use Rattle.def_entry.specs.declared.key.Key.{Key}
use Rattle.name_walk.specs.declared.step.Step.{Step}
use Rattle.name_walk.specs.declared.step.Step.TheVariants.{To}
use Rattle.name_walk.specs.NewlyClosed.{AreNewlyClosedByWalk}
use Rattle.table_names.specs.declared.fault.NameFault.{NameFault}
use Rattle.table_names.specs.Faults.{name_fault}
use Rattle.table_names.specs.Leads.{TableWordsReach}
use Rattle.table_names.specs.Reach.{reach}
use Rattle.table_names.proofs.ReachedKeys.{table_name_reach_law}
use Rattle.deck.specs.Tables.{table_of_deck}
use Rattle.table_names.specs.NumberedNames.{AreWords, LeadToKnownNumbers, fault_by_name}
use Rattle.table_names.specs.SettlingLaws.{AreNewNumberedKeys}
use Rattle.live_table.specs.declared.dead_end.DeadEnd.{DeadEnd}
use Rattle.live_table.specs.declared.fault.QueryFault.{QueryFault}
use Rattle.live_table.specs.declared.fault.QueryFault.TheVariants.{Name}
use Rattle.live_table.specs.QueryEffects.{IsLiveQueryAnswered, IsLiveQueryEffect, live_query_fault}
use Rattle.live_table.specs.ExploredNames.{AreExplored, explored_fault_at}
use Rattle.live_table.specs.Exploration.{AreExplorationSteps}
use Rattle.live_table.specs.QueryWords.{AreExplorationStepsCutAt, explored_fault_before}
use Rattle.live_table.specs.TableView.{IsAfterLiveEvents, IsRightLiveView, LiveView}
use Rattle.live_table.specs.Sound.{IsSoundLiveTable}
use Rattle.live_table.specs.States.{AsksWords}
use Rattle.live_table.specs.TableContents.{NodeLists, live_view_of_nodes, node_key_at}
use Rattle.live_table.specs.EvalInvariants.{AreSettledWords}
use Rattle.live_table.proofs.AllExplored.{found_if_known_to_exploration}
use Rattle.live_table.proofs.AddedNames.{written_more}
use Rattle.live_table.proofs.GrownLive.{live_query_of_words}
use Rattle.live_table.proofs.Queries.{asked_fault, asked_none, fault_follows, is_kept, reached_settled}
use Rattle.live_table.proofs.Queries.{settled_marks_are_cached_names}
use Rattle.live_table.proofs.QuerySteps.{leading_exploration_steps_stay}
use Rattle.live_table.proofs.QueryWords.{words_after_explored_dead_end}
use Rattle.live_table.proofs.Stages.{AreAllStages, AreStages, IsSettledAfter, Stages, explored_there, known_there}
use Rattle.live_table.proofs.Stages.{same_start, sound_there}

-- ---- words were written, and then the names that they lead to were explored
module _ (s : Stages) (are : AreStages s) (us : List WordUse) (xs : List Step)
    (written : AreExplorationSteps (table_of_deck s.deck) s.led s.before s.list [] us xs) where
  -- the steps of the words are still written
  still_written : AreExplorationSteps (table_of_deck s.deck) s.explored s.before s.there s.more us xs
  still_written =
      written_more (table_of_deck s.deck) s.led s.explored s.before s.list s.there s.ends s.more are.first.nodes
      are.first.list_right are.second us xs
      (leading_exploration_steps_stay (table_of_deck s.deck) s.led s.before s.list s.ends us xs are.first.nodes
      are.first.list_right written)

  -- the steps lead to known names
  pub all_known : LeadToKnownNumbers (known_there s) xs
  all_known n i = found_if_known_to_exploration s.explored s.before s.there n (still_written.targets n i)

-- ---- all names below the words were explored
module _ (s : Stages) (are : AreAllStages s) (us : List WordUse) (xs : List Step)
    (written : AreExplorationSteps (table_of_deck s.deck) s.led s.before s.list [] us xs) where
  abbrev fault : Option NameFault
  fault = name_fault (table_of_deck s.deck) us

  sound : IsSoundLiveTable s.deck s.explored s.reductions
  sound = sound_there s are.stages

  explored : AreExplored (table_of_deck s.deck) s.explored s.more (known_there s)
  explored = explored_there s are

  words : AreWords (table_of_deck s.deck) (node_key_at s.explored.keys) (explored_fault_at s.more) us xs
  words = (still_written s are.stages us xs written).words

  targets : LeadToKnownNumbers (known_there s) xs
  targets = all_known s are.stages us xs written

  by_name : live_query_fault (table_of_deck s.deck) s.explored s.more xs ≡ fault
  by_name =
      are.faults.words (table_of_deck s.deck) (node_key_at s.explored.keys) (explored_fault_at s.more) s.explored.graph
      (known_there s)
      explored.numbers_are sound.numbers.net.steps_in_range us xs words targets

  new : fault ≡ None → (order : List ℕ) → AreNewlyClosedByWalk s.explored.graph s.explored.settled_flags xs order
      → AreNewNumberedKeys (is_kept (live_view_of_nodes s.deck s.explored s.reductions).kept_outcomes)
      (TableWordsReach (table_of_deck s.deck) us)
      (map (node_key_at s.explored.keys) order)
  new none order c =
      are.settles.words (table_of_deck s.deck) (node_key_at s.explored.keys) (explored_fault_at s.more) s.explored.graph
      (known_there s)
      s.explored.settled_flags (is_kept (live_view_of_nodes s.deck s.explored s.reductions).kept_outcomes)
      explored.numbers_are
      (settled_marks_are_cached_names s.deck s.explored s.reductions s.more (known_there s) sound.numbers explored) us
      xs order words targets
      none c

  -- the result is lack of memory, or the fault of the words
  pub explored_fault : {A : Type 0} (Given : A → Type 0) (now : LiveView) (old later : ℕ) → IsRightLiveView now
      → (f : QueryFault)
      → IsLiveQueryAnswered (table_of_deck s.deck) s.explored s.more xs (Err f)
      (live_view_of_nodes s.deck s.explored s.reductions) now old
      later
      → (result : Result A QueryFault) → result ≡ Err f
      → IsLiveQueryEffect (AsksWords us) (name_fault (table_of_deck s.deck) us) Given result
      (live_view_of_nodes s.deck s.start s.reductions) now
      old
      later
  explored_fault {A} Given now old later right f a result e =
      subst (λ (p : LiveView × Result A QueryFault). IsLiveQueryEffect (AsksWords us) fault Given p.1 p.0 now old later)
      (λ i. (same_start s are.stages i, sym e i))
      (asked_fault (AsksWords us) fault (reach (table_of_deck s.deck) us) (TableWordsReach (table_of_deck s.deck) us)
      s.deck s.explored
      s.reductions s.more xs sound (live_query_of_words (table_of_deck s.deck) us) by_name
      (table_name_reach_law.reached_words (table_of_deck s.deck) us)
      new
      Given now old later right f a)

  -- or the names that the words reach are settled
  pub explored_settled : (now : NodeLists) (count old later : ℕ) → IsSettledAfter s xs now count old later
      → (v : List Step) → v ≡ xs
      → IsLiveQueryEffect (AsksWords us) (name_fault (table_of_deck s.deck) us)
      (λ (x : List Step). AreSettledWords (table_of_deck s.deck)
      now us x) (Ok v) (live_view_of_nodes s.deck s.start s.reductions) (live_view_of_nodes s.deck now count) old later
  explored_settled now count old later after v is =
      subst (λ (b : LiveView). IsLiveQueryEffect (AsksWords us) fault
      (λ (x : List Step). AreSettledWords (table_of_deck s.deck) now us
      x) (Ok v) b (live_view_of_nodes s.deck now count) old later) (same_start s are.stages)
      (asked_none (AsksWords us) fault (reach (table_of_deck s.deck) us) (TableWordsReach (table_of_deck s.deck) us)
      s.deck s.explored
      s.reductions s.more xs sound (live_query_of_words (table_of_deck s.deck) us) by_name
      (table_name_reach_law.reached_words (table_of_deck s.deck) us)
      new
      (λ (x : List Step). AreSettledWords (table_of_deck s.deck) now us x) (live_view_of_nodes s.deck now count) old
      later
      after.sound.is_right v after.order after.closing after.all
      (subst (λ (ys : List Step). AreSettledWords (table_of_deck s.deck) now us ys) (sym is) settled_words))
    where
      within : (m : ℕ) → Contains xs (To m) → m < length s.explored.keys
      within m i =
          let a : m < length s.explored.graph = explored.numbers_are.known_in_range m (targets m i) in
          let b : length s.explored.graph ≡ length s.explored.keys = sound.numbers.step_count in omega arith

      settled_words : AreSettledWords (table_of_deck s.deck) now us xs
      settled_words = record {
        dead_end = explored_fault_at s.more;
        words = subst (λ (ks : List Key). AreWords (table_of_deck s.deck) (node_key_at ks) (explored_fault_at s.more) us
            xs) (sym after.keys)
            words;
        words_closed = sym by_name
            ∙ ap (option_map (fault_by_name (table_of_deck s.deck) (node_key_at s.explored.keys)
            (explored_fault_at s.more)))
            after.closing.query_has_no_fault;
        targets_settled = λ m i. reached_settled s.deck s.explored now s.reductions count old later xs after.order sound
            after.sound.numbers after.keys after.closing.closes after.all m (within m i) (m, i, inl refl);
      }

-- ---- the words before one that leads nowhere, together with that word, have a fault
pub explored_cut : {A : Type 0} (Given : A → Type 0) (s : Stages) → AreAllStages s → (us : List WordUse)
    (xs : List Step) (end : DeadEnd) (old : ℕ)
    → AreExplorationStepsCutAt (table_of_deck s.deck) s.led s.before s.list us xs end
    → (f : NameFault) → explored_fault_before (live_query_fault (table_of_deck s.deck) s.explored s.more xs) end ≡ Some
    f
    → IsLiveQueryEffect (AsksWords us) (name_fault (table_of_deck s.deck) us) Given (Err (Name f))
    (live_view_of_nodes s.deck s.start s.reductions)
    (live_view_of_nodes s.deck s.explored s.reductions) old old
explored_cut Given s are us xs end old cut f e = (
  some,
  subst (λ (now : LiveView). IsAfterLiveEvents (AsksWords us ∷ []) (live_view_of_nodes s.deck s.start s.reductions) now
      old old)
      (sym (same_start s are.stages))
      (fault_follows (AsksWords us) (name_fault (table_of_deck s.deck) us) (reach (table_of_deck s.deck) us)
      (live_view_of_nodes s.deck s.start s.reductions) old are.stages.sound.is_right
      (live_query_of_words (table_of_deck s.deck) us) f some),
)
  where
    some : name_fault (table_of_deck s.deck) us ≡ Some f
    some =
        ap (name_fault (table_of_deck s.deck)) cut.words
        ∙ (sym (words_after_explored_dead_end (table_of_deck s.deck) cut.words_before cut.words_after cut.word end
        cut.dead_end_word)
        ∙ (ap (λ (o : Option NameFault). explored_fault_before o end)
        (sym (by_name s are cut.words_before xs cut.front_steps))
        ∙ e))
