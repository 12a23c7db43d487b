-- A live table with no settled name.
use Rattle.std.proofs.Common.{◌≡◌, false, true, None, is_some, refl, sym, ◌∙◌, ap, subst, arith}
use Rattle.std.specs.FinMap as map_of
use Rattle.name_walk.specs.declared.step.Step.TheVariants.{To}
use Rattle.def_entry.specs.declared.key.Key.{Key}
use Rattle.def_entry.specs.KeyOrder.{key_cmp}
use Rattle.deck.specs.Decks.{DeckContents}
use Rattle.live_table.specs.Right.{IsKeySettled}
use Rattle.live_table.specs.TableView.{live_state_with_steps}
use Rattle.live_table.specs.Sound.{IsSoundLiveTable}
use Rattle.live_table.specs.TableContents.{NodeLists, live_view_of_nodes, no_nodes}
use Rattle.general_lemmas.proofs.Members.{no_member}

module _ (deck : DeckContents) where
  none_settled : (n : Key) → IsKeySettled (live_state_with_steps (live_view_of_nodes deck no_nodes 0) 0) n → ⊥
  none_settled n e =
      let none : map_of.get (live_view_of_nodes deck no_nodes 0).kept_outcomes n ≡ None = map_of.get-empty key_cmp n in
      let z : false ≡ true = sym (ap is_some none) ∙ e in cc

  no_names_sound : IsSoundLiveTable deck no_nodes 0
  no_names_sound = record {
    numbers = record {
      step_count = refl;
      outcome_count = refl;
      callee_count = refl;
      look_count = refl;
      flags_right = refl;
      count_right = refl;
      marks_right = refl;
      numbers_apart = λ n m h k e. absurd (omega arith);
      net = record {
        steps_in_range = λ n m i. absurd (no_member (To m) i);
        mark_per_name = refl;
        settled_right = λ n e. cc;
      };
      settled_have_entries = λ n e. cc;
      faithful = λ n e. cc;
      part_starts = λ n e. cc;
      ranks = λ n e. cc;
      settled_looks = λ n e. cc;
    };
    is_right = record {
      settled_have_entries = λ n e. absurd (none_settled n e);
      settled_closed = λ n e. absurd (none_settled n e);
      reached_settled = λ n m e way. absurd (none_settled n e);
      outcomes_right = λ n o e. absurd (none_settled n (ap is_some e));
    };
    few_reductions = omega arith;
  }

  pub start_sound : (l : NodeLists) → l ≡ no_nodes → IsSoundLiveTable deck l 0
  start_sound l e = subst (λ (x : NodeLists). IsSoundLiveTable deck x 0) (sym e) no_names_sound
