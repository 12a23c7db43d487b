use Rattle.std.proofs.Common.{◌≡◌, [], false, sym, ◌∙◌, ap}
use Rattle.std.proofs.lemmas.Result.{IfOk-weaker}
use Rattle.expr_tree.specs.Names.{is_refused}
use Rattle.deck.specs.Tables.{table_of_deck}
use Rattle.name_lookup.specs.Targets.{AreLookupTargetsFound}
use Rattle.table_names.specs.Leads.{table_word_lookup}
use Rattle.live_table.specs.TableContents.{node_lists}
use Rattle.live_table.proofs.TriedNumbers.{added_names_keep_node_keys, added_nodes_are_sound, is_destination}
use Rattle.live_table.proofs.TriedNumbers.{node_name_additions_in_turn, node_targets_found_by_search, none_found}
use Rattle.live_table.proofs.word_targets.destination_of.Goals as goal

pub number_targets-requires-clause-nodes : goal.number_targets-requires-clause-nodes
number_targets-requires-clause-nodes c =
    added_nodes_are_sound (table_of_deck c.args.deck.now) (node_lists c.args.nodes.now)
    (node_lists c.gather_others.new.nodes)
    c.gather_others.ensures.added

pub returns-clause-added : goal.returns-clause-added
returns-clause-added c =
    node_name_additions_in_turn (table_of_deck c.args.deck.now) (node_lists c.args.nodes.now)
    (node_lists c.gather_others.new.nodes)
    (node_lists c.number_targets.new.nodes) c.gather_others.ensures.added c.number_targets.ensures.added

pub returns-clause-destination : goal.returns-clause-destination
returns-clause-destination c =
    let t = table_of_deck c.args.deck.now in
    let u = c.args.u.now in
    let which = c.in_ok-targets.targets in
    let tried = c.find_targets.new.looking in
    let first = c.gather_others.new.nodes in
    let then = c.number_targets.new.nodes in
    let found : AreLookupTargetsFound which [] tried (table_word_lookup t u) =
    node_targets_found_by_search t u c.lookup_law.ensures which c.clear.new.self tried c.kind.result c.text-2.result.now
    c.clear.ensures c.kind.ensures c.text-2.ensures c.in_ok-targets.ensures.found in
    let fine : is_refused u.text ≡ false =
    sym (c.is_refused.ensures ∙ ap is_refused c.text.ensures) ∙ c.if-is_refused.false in
    IfOk-weaker c.number_targets.result _ _
    (λ destination led. is_destination t u which tried found first.keys then.keys
    (added_names_keep_node_keys t (node_lists first) (node_lists then) c.number_targets.ensures.added)
    c.args.nodes.now.gathered
    first.gathered
    then.gathered destination fine led c.in_ok-gather_others.ensures.gathered c.number_targets.ensures.gathered)
    c.number_targets.ensures.destination

pub returns-then-count-eq0-clause-destination : goal.returns-then-count-eq0-clause-destination
returns-then-count-eq0-clause-destination c =
    let t = table_of_deck c.args.deck.now in
    let u = c.args.u.now in
    let which = c.in_ok-targets.targets in
    let tried = c.find_targets.new.looking in
    let found : AreLookupTargetsFound which [] tried (table_word_lookup t u) =
    node_targets_found_by_search t u c.lookup_law.ensures which c.clear.new.self tried c.kind.result c.text-2.result.now
    c.clear.ensures c.kind.ensures c.text-2.ensures c.in_ok-targets.ensures.found in
    let fine : is_refused u.text ≡ false =
    sym (c.is_refused.ensures ∙ ap is_refused c.text.ensures) ∙ c.if-is_refused.false in
    (fine, none_found t u which tried found (sym c.count.ensures ∙ c.if-count-eq0.true))
