use Rattle.std.proofs.Common.{◌≡◌, ◌∷◌, [], ℕ, List, Some, is_some, sym, ◌∙◌, ap, subst, arith}
use Rattle.std.proofs.lemmas.Map.Made.{is_some-lookup}
use Rattle.std.proofs.lemmas.Option.{slice_get_within}
use Rattle.def_entry.specs.Keys.{key as key_named}
use Rattle.def_entry.specs.SameKeys.{is_entry_key_among, is_same_entry_key}
use Rattle.def_entry.specs.Tables.{is_entry_present, keys_of_entries}
use Rattle.def_entry.specs.declared.key.Key.{Key}
use Rattle.deck.specs.Tables.{table_of_deck}
use Rattle.edge_links.specs.Reach.{AreMarksCleared}
use Rattle.edge_links.specs.AffectedNames.{IsAffectedByEdges}
use Rattle.live_table.specs.TableEdges.{is_flagged_settled}
use Rattle.live_table.specs.Forgotten.{AreForgotten}
use Rattle.live_table.specs.OutcomesLeft.{AreSettledNumbersLeft}
use Rattle.live_table.specs.TableContents.{NodeLists, node_lists}
use Rattle.live_table.proofs.Forgets.{absent_forgotten, flag_forgotten, one_forgotten}
use Rattle.live_table.proofs.invalidation.forget_key.Goals as goal
use Rattle.live_table.proofs.invalidation.forget_key.Goals.{After-note}

pub returns-in_default : goal.returns-in_default
returns-in_default c =
    subst (λ (keys : List Key). AreForgotten (table_of_deck c.args.deck.now) (c.args.key.now ∷ [])
    (node_lists c.args.nodes.now)
    (record (node_lists c.args.nodes.now) { keys = keys }) c.args.edges.now c.args.edges.now)
    (sym c.in_default.ensures.kept)
    (absent_forgotten (table_of_deck c.args.deck.now) c.args.key.now (node_lists c.args.nodes.now) c.args.edges.now
    c.requires.names
    (ap (λ (w : List ℕ). is_entry_key_among c.args.nodes.now.keys (key_named c.args.key.now.kind w))
    (sym c.as_bytes.ensures)
    ∙ c.in_default.ensures.number))

pub note-requires : goal.note-requires
note-requires c =
    let h = slice_get_within c.args.nodes.now.keys c.in-Some.n _ c.in-Some.ensures.number in
    let e = c.requires.flag_per_key in
    omega (arith, h, e)

-- the key is found in the deck exactly if it has an entry
flag : (c : After-note) → is_some c.find.result ≡ is_entry_present (table_of_deck c.args.deck.now) c.args.key.now
flag c =
    c.find.ensures.present
    ∙ (ap (λ (w : List ℕ). is_entry_key_among (keys_of_entries (table_of_deck c.args.deck.now))
    (key_named c.args.key.now.kind w))
    c.as_bytes-2.ensures
    ∙ sym (is_some-lookup (is_same_entry_key c.args.key.now) (table_of_deck c.args.deck.now)))

pub returns-then-n-names : goal.returns-then-n-names
returns-then-n-names c =
    let noted = c.note.ensures.rest in
    let rest = c.forget_number.ensures.rest in
    one_forgotten (table_of_deck c.args.deck.now) c.args.key.now (node_lists c.args.nodes.now) c.in-Some.n
    (c.in-Some.ensures.number ∙ ap (λ (w : List ℕ). Some (key_named c.args.key.now.kind w)) c.as_bytes.ensures)
    c.requires.numbers_apart c.requires.flag_per_key (is_some c.find.result)
    (flag (goal.at.returns-then-n-names c).After-note)
    (node_lists c.forget_number.new.nodes) (ap (λ (x : NodeLists). x.entry_flags) rest ∙ c.note.ensures.present)
    (record {
      keys = ap (λ (x : NodeLists). x.keys) rest ∙ (ap (λ (x : NodeLists). x.keys) noted ∙ c.in-Some.ensures.kept);
      callees = ap (λ (x : NodeLists). x.callees) rest ∙ ap (λ (x : NodeLists). x.callees) noted;
      graph = ap (λ (x : NodeLists). x.graph) rest ∙ ap (λ (x : NodeLists). x.graph) noted;
      looks = ap (λ (x : NodeLists). x.looks) rest ∙ ap (λ (x : NodeLists). x.looks) noted;
    })
    c.args.edges.now c.forget_number.new.edges
    (let a = c.if-n-names.true in let e = c.names.ensures in omega (arith, a, e)) c.requires.names
    c.forget_number.ensures.edges
    (subst (λ (x : NodeLists). AreMarksCleared (IsAffectedByEdges c.args.edges.now c.in-Some.n)
    (is_flagged_settled x.settled_flags)
    (is_flagged_settled c.forget_number.new.nodes.settled.items)) noted c.forget_number.ensures.marks)
    (subst (λ (x : NodeLists). AreSettledNumbersLeft x.settled_flags c.forget_number.new.nodes.settled.items x.count
    c.forget_number.new.nodes.settled_count x.outcomes c.forget_number.new.nodes.outcomes.items) noted
    c.forget_number.ensures.left)

pub returns-else-n-names : goal.returns-else-n-names
returns-else-n-names c =
    let noted = c.note.ensures.rest in
    flag_forgotten (table_of_deck c.args.deck.now) c.args.key.now (node_lists c.args.nodes.now) c.in-Some.n
    (c.in-Some.ensures.number ∙ ap (λ (w : List ℕ). Some (key_named c.args.key.now.kind w)) c.as_bytes.ensures)
    c.requires.numbers_apart c.requires.flag_per_key (is_some c.find.result)
    (flag (goal.at.returns-else-n-names c).After-note)
    (node_lists c.note.new.self) c.note.ensures.present
    (record {
      keys = ap (λ (x : NodeLists). x.keys) noted ∙ c.in-Some.ensures.kept;
      callees = ap (λ (x : NodeLists). x.callees) noted;
      graph = ap (λ (x : NodeLists). x.graph) noted;
      looks = ap (λ (x : NodeLists). x.looks) noted;
    })
    c.args.edges.now (ap (λ (x : NodeLists). x.settled_flags) noted) (ap (λ (x : NodeLists). x.count) noted)
    (ap (λ (x : NodeLists). x.outcomes) noted)
    (λ a. let b = c.if-n-names.false in let e = c.names.ensures in omega (arith, a, b, e)) c.requires.names
