use Rattle.std.proofs.Common.{◌∷◌, [], List, take, Some, sym, ◌∙◌, ap, subst, arith}
use Rattle.std.proofs.lemmas.List.{take_all}
use Rattle.std.proofs.lemmas.Option.{slice_get-get_or}
use Rattle.def_entry.specs.declared.key.Key.{Key}
use Rattle.deck.specs.Tables.{table_of_deck}
use Rattle.live_table.specs.Forgotten.{AreForgotten}
use Rattle.live_table.specs.TableContents.{node_lists}
use Rattle.live_table.proofs.Forgets.{can_forget, forgotten_on, none_forgotten}
use Rattle.live_table.proofs.invalidation.forget.Goals as goal
use Rattle.general_lemmas.proofs.Places.{take_at}
use Rattle.general_lemmas.proofs.Members.{no_member}

pub loop-key-init : goal.loop-key-init
loop-key-init c =
    none_forgotten (table_of_deck c.args.deck.now) (node_lists c.args.nodes.now) c.args.edges.now []
    (λ n s i. no_member _ i)
    c.requires.names

pub forget_key-requires : goal.forget_key-requires
forget_key-requires c =
    can_forget (table_of_deck c.args.deck.now) (take c.loop-key.key-index c.args.keys.now) (node_lists c.args.nodes.now)
    (node_lists c.loop-key.nodes)
    c.args.edges.now c.loop-key.edges c.loop-key.invariant c.requires

pub loop-key-preserved : goal.loop-key-preserved
loop-key-preserved c =
    let next = take_at c.args.keys.now c.loop-key.key-index c.key-item.result
    (slice_get-get_or c.args.keys.now c.loop-key.key-index c.key-item.result (omega arith)
    ∙ ap Some (sym c.key-item.is)) in
    subst (λ (ks : List Key). AreForgotten (table_of_deck c.args.deck.now) ks (node_lists c.args.nodes.now)
    (node_lists c.forget_key.new.nodes)
    c.args.edges.now c.forget_key.new.edges) (sym next)
    (forgotten_on (table_of_deck c.args.deck.now) (take c.loop-key.key-index c.args.keys.now) (c.key-item.result ∷ [])
    (node_lists c.args.nodes.now)
    (node_lists c.loop-key.nodes) (node_lists c.forget_key.new.nodes) c.args.edges.now c.loop-key.edges
    c.forget_key.new.edges
    c.loop-key.invariant c.forget_key.ensures)

pub returns-clause-forgotten : goal.returns-clause-forgotten
returns-clause-forgotten c =
    subst (λ (ks : List Key). AreForgotten (table_of_deck c.args.deck.now) ks (node_lists c.args.nodes.now)
    (node_lists c.loop-key.nodes)
    c.args.edges.now c.loop-key.edges) (take_all c.loop-key.key-index c.args.keys.now c.loop-key-test.false)
    c.loop-key.invariant
