use Rattle.std.proofs.Common.{Result, Ok, Err, IfOk, ap, subst, sym, ◌∙◌, List, ℕ}
use Rattle.def_entry.specs.Entries.{What}
use Rattle.def_entry.specs.Views.{entry_definition_view}
use Rattle.deck.specs.Tables.{table_of_deck}
use Rattle.tree_eval.specs.Entries.{evaluated_meaning}
use Rattle.tree_eval.specs.Environment.{HasEvalAliasTarget, HoldsEvalWords}
use Rattle.tree_eval.specs.Outcomes.{outcome_of_eval_meaning}
use Rattle.table_names.specs.Meanings.{word_meaning}
use Rattle.live_table.specs.declared.surroundings.Asked.TheVariants.{Name}
use Rattle.live_table.specs.Scenes.{node_holder_words, node_word_meaning}
use Rattle.live_table.specs.TableContents.{node_key_at, node_lists}
use Rattle.live_table.specs.EvalInvariants.{node_scene}
use Rattle.live_table.proofs.SettleOne.{surrounded}
use Rattle.live_table.proofs.NodeReports.{has_target, holds_words, meaning_is, subject_is_settled_or_queried}
use Rattle.live_table.proofs.settlement.outcome_of.Goals as goal

if_ok : {A E : Type 0} (P Q : A → Type 0) (r : Result A E) → ((x : A) → P x → Q x) → IfOk r P → IfOk r Q
if_ok P Q (Ok x) f h = f x h
if_ok P Q (Err e) f h = h

pub invariant_of-surroundings : goal.invariant_of-surroundings
invariant_of-surroundings g c =
    surrounded c.args.deck.now (node_lists c.args.nodes.now) c.requires.sound.0 c.args.n c.requires.sound.1
    c.requires.due

pub reduce-requires-clause-words : goal.reduce-requires-clause-words
reduce-requires-clause-words g c =
    subst (HoldsEvalWords (node_holder_words (node_scene c.args.deck.now (node_lists c.args.nodes.now) (Name c.args.n)))
    c.args.n)
    c.requires.what.2
    (holds_words c.args.deck.now (node_lists c.args.nodes.now) (Name c.args.n)
    (surrounded c.args.deck.now (node_lists c.args.nodes.now) c.requires.sound.0 c.args.n c.requires.sound.1
    c.requires.due) c.args.n (subject_is_settled_or_queried c.args.deck.now (node_lists c.args.nodes.now) c.args.n)
    c.requires.what.0 c.requires.what.1)

pub reduce-requires-clause-target : goal.reduce-requires-clause-target
reduce-requires-clause-target g c =
    subst (HasEvalAliasTarget
    (node_word_meaning (node_scene c.args.deck.now (node_lists c.args.nodes.now) (Name c.args.n))))
    c.requires.what.2
    (has_target c.args.deck.now (node_lists c.args.nodes.now) (Name c.args.n)
    (surrounded c.args.deck.now (node_lists c.args.nodes.now) c.requires.sound.0 c.args.n c.requires.sound.1
    c.requires.due) c.args.n (subject_is_settled_or_queried c.args.deck.now (node_lists c.args.nodes.now) c.args.n)
    c.requires.what.0 c.requires.what.1)

pub returns-clause-outcome : goal.returns-clause-outcome
returns-clause-outcome g c =
    if_ok _ _ c.reduce.result (λ o e. e
    ∙ (ap (λ (name : List ℕ).
    outcome_of_eval_meaning (evaluated_meaning (word_meaning (table_of_deck c.args.deck.now)) name
    (entry_definition_view c.args.what.now))) c.name.ensures
    ∙ ap outcome_of_eval_meaning (ap (λ (w : What). evaluated_meaning (word_meaning (table_of_deck c.args.deck.now))
    (node_key_at c.args.nodes.now.keys c.args.n).name w) (sym c.requires.what.2)
    ∙ sym (meaning_is c.args.deck.now (node_lists c.args.nodes.now) (Name c.args.n)
    (surrounded c.args.deck.now (node_lists c.args.nodes.now) c.requires.sound.0 c.args.n c.requires.sound.1
    c.requires.due) c.args.n (subject_is_settled_or_queried c.args.deck.now (node_lists c.args.nodes.now) c.args.n)
    c.requires.what.0 c.requires.what.1)))) c.reduce.ensures.outcome
