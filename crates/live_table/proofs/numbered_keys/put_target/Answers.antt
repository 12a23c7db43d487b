use Rattle.std.proofs.Common.{◌≡◌, Some, ℕ, List, length, sym, ◌∙◌, ap, subst, inl, inr, arith}
use Rattle.std.proofs.lemmas.Option.{slice_get-get_or}
use Rattle.live_table.specs.Exploration.{AreNodesAdded}
use Rattle.live_table.specs.TableContents.{node_lists}
use Rattle.live_table.proofs.AddedNames.{no_nodes_are_added}
use Rattle.live_table.proofs.DestinationTargets.{agenda_put_keeps_numbers}
use Rattle.live_table.proofs.AgendaPuts.{agenda_put_is_node_addition, each_node_has_settled_flag}
use Rattle.live_table.proofs.AgendaPuts.{node_without_mark_is_unsettled, put_number_is_on_agenda}
use Rattle.live_table.proofs.AgendaPuts.{unfound_number_is_not_on_agenda}
use Rattle.live_table.proofs.numbered_keys.put_target.Goals as goal
use Rattle.live_table.proofs.numbered_keys.put_target.Goals.{then-index-via-else-index+then-has}
use Rattle.live_table.proofs.numbered_keys.put_target.Goals.{then-index-via-then-index}
use Rattle.name_walk.proofs.Members.{on_path_member}

pub index-requires : goal.index-requires
index-requires c =
    let s : length c.args.nodes.now.settled.items ≡ length c.args.nodes.now.keys =
    each_node_has_settled_flag c.requires.nodes.0 (node_lists c.args.nodes.now) c.requires.nodes.1 in
    let h = c.requires.within in
    omega arith

pub returns-then-index-clause-added : goal.returns-then-index-clause-added
returns-then-index-clause-added c t ends nodes right present =
    no_nodes_are_added t (node_lists c.args.nodes.now) c.args.explored.now c.args.worklist.now ends ends nodes right
    (λ i x e. e)

pub returns-then-index-clause-known : goal.returns-then-index-clause-known
returns-then-index-clause-known c = elim c.then-index.branch [
  | then-index-via-then-index w ↦
      let s : length c.args.nodes.now.settled.items ≡ length c.args.nodes.now.keys =
      each_node_has_settled_flag c.requires.nodes.0 (node_lists c.args.nodes.now) c.requires.nodes.1 in
      let h = c.requires.within in
      inl (slice_get-get_or c.args.nodes.now.settled.items c.args.n c.index.result.now (omega arith)
      ∙ ap Some (sym c.index.ensures ∙ w.if-index.true))
  | then-index-via-else-index+then-has w ↦
      inr (inl (on_path_member c.args.explored.now c.args.n (sym w.has.ensures ∙ w.if-has.true)))
]

pub returns-in_err-put-clause-added : goal.returns-in_err-put-clause-added
returns-in_err-put-clause-added c t ends nodes right present =
    subst (λ (list : List ℕ). AreNodesAdded t (node_lists c.args.nodes.now) (node_lists c.args.nodes.now)
    c.args.explored.now
    c.args.worklist.now list ends ends)
    (sym c.in_err-put.ensures.err)
    (no_nodes_are_added t (node_lists c.args.nodes.now) c.args.explored.now c.args.worklist.now ends ends nodes right
    (λ i x e. e))

pub returns-clause-added : goal.returns-clause-added
returns-clause-added c t ends nodes right present =
    agenda_put_is_node_addition t (node_lists c.args.nodes.now) (node_lists c.args.nodes.now) c.args.explored.now
    c.args.worklist.now
    c.put.new.self ends c.args.n
    (no_nodes_are_added t (node_lists c.args.nodes.now) c.args.explored.now c.args.worklist.now ends ends nodes right
    (λ i x e. e))
    c.requires.within present
    (node_without_mark_is_unsettled t (node_lists c.args.nodes.now) nodes c.args.n c.index.result.now c.requires.within
    c.index.ensures
    c.if-index.false)
    (unfound_number_is_not_on_agenda c.args.explored.now c.args.n (sym c.has.ensures ∙ c.if-has.false))
    c.in_ok-put.ensures.ok

pub returns-clause-known : goal.returns-clause-known
returns-clause-known c =
    inr (inr (put_number_is_on_agenda c.args.worklist.now c.put.new.self c.args.n c.in_ok-put.ensures.ok))

pub returns-clause-more : goal.returns-clause-more
returns-clause-more c = agenda_put_keeps_numbers c.args.worklist.now c.put.new.self c.args.n c.in_ok-put.ensures.ok
