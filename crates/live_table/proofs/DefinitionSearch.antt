-- The definitions of names are found while the names are processed.
use Rattle.std.proofs.Common.{◌≡◌, ◌+◌, ◌<◌, ℕ, List, [], ◌∷◌, ◌++◌, length, Some, ap, refl, sym, ◌∙◌, subst, inl}
use Rattle.std.proofs.Common.{inr, arith, length-append}
use Rattle.std.specs.Borrow.{Bor}
use Rattle.std.specs.List.{slice_get}
use Rattle.std.proofs.lemmas.Option.{same_Some, slice_get_within}
use Rattle.expr_tree.specs.declared.word_list.WordUse.{WordUse}
use Rattle.def_entry.specs.declared.entry.What.{What as MadeWhat}
use Rattle.def_entry.specs.declared.key.Key.{Key}
use Rattle.def_entry.specs.Entries.{Entry, What}
use Rattle.def_entry.specs.Tables.{EntryTable}
use Rattle.def_entry.specs.Views.{entry_definition_view}
use Rattle.table_names.specs.Words.{table_words_of_entry, table_words_of_what}
use Rattle.live_table.specs.declared.callee.PartStarts.{PartStarts}
use Rattle.live_table.specs.declared.dead_end.DeadEnd.{DeadEnd}
use Rattle.live_table.specs.Callees.{AreNodeEntryWords, AreNodeKeyWords, node_part_start}
use Rattle.live_table.specs.Exploration.{AreNodesGrown, IsExplorationAgenda, IsExplorationGrowth}
use Rattle.live_table.specs.FoundDefinitions.{AreNodeDefinitionsFound, HasLiveEntry}
use Rattle.live_table.specs.TableContents.{NodeLists, node_key_at}
use Rattle.live_table.proofs.AddedNames.{node_key_stays_in_growth}
use Rattle.live_table.proofs.Places.{element}
use Rattle.general_lemmas.proofs.Places.{get_pushed}
use Rattle.general_lemmas.proofs.Members.{member_at}

-- the words of the definition of a key are those of the key
pub live_entry_words_are_key_words : (t : EntryTable) (k : Key) (what : What) (us : List WordUse) (begins : PartStarts)
    → HasLiveEntry t k what
    → AreNodeEntryWords what us begins → AreNodeKeyWords t k us begins
live_entry_words_are_key_words t k what us begins says m = record {
  words = m.words ∙ sym (ap table_words_of_entry says.1 ∙ ap table_words_of_what says.2);
  part_starts = λ e at p. m.part_starts p
      ∙ ap (λ (w : What). node_part_start w p) (sym says.2 ∙ ap (λ (x : Entry). x.what)
      (same_Some says.0 e (sym says.1 ∙ at)));
}

-- ---- the state of processing the names
pub record IsFinding (t : EntryTable) (keys : List Key) (list : List ℕ) (found : List (Bor MadeWhat)) (place : ℕ) : Type
    0
  where
    pub are : AreNodeDefinitionsFound t keys list found
    pub count : length found ≡ place

-- at the start no definition is found
pub no_node_definition_at_start : (t : EntryTable) (keys : List Key) (list : List ℕ) → IsFinding t keys list [] 0
no_node_definition_at_start t keys list = record { are = λ i n what at got. cc; count = refl }

-- a number at a place of a longer list was there before
agenda_growth_keeps_place : (list there : List ℕ) (i n : ℕ) → IsExplorationGrowth list there → i < length list
    → slice_get there i ≡ Some n
    → slice_get list i ≡ Some n
agenda_growth_keeps_place list there i n more h at =
    let s = element list i h in
    s.1 ∙ ap Some (same_Some s.0 n (sym (more i s.0 s.1) ∙ at))

module _ (t : EntryTable) (l m : NodeLists) (before list there : List ℕ) (ends more : List DeadEnd)
    (found : List (Bor MadeWhat)) (place n : ℕ) (what : Bor MadeWhat) (listed : IsExplorationAgenda t l before list)
    (is : slice_get list place ≡ Some n)
    (says : HasLiveEntry t (node_key_at l.keys n) (entry_definition_view what.now))
    (s : IsFinding t l.keys list found place)
    (grown : AreNodesGrown t l m before list there ends more) where
  -- the definitions found before do not change
  said_still : (i k : ℕ) (w : Bor MadeWhat) → slice_get list i ≡ Some k → slice_get (found ++ what ∷ []) i ≡ Some w
      → HasLiveEntry t (node_key_at l.keys k) (entry_definition_view w.now)
  said_still i k w at got = elim (get_pushed found what i w got) [
    | inl old ↦ s.are i k w at old
    | inr last ↦
        let here : slice_get list i ≡ Some n = (let e : i ≡ place = last.0 ∙ s.count in ap (slice_get list) e ∙ is) in
        subst (λ (p : ℕ × Bor MadeWhat). HasLiveEntry t (node_key_at l.keys p.0) (entry_definition_view p.1.now))
        (λ j. (same_Some n k (sym here ∙ at) j, last.1 j)) says
  ]

  enough : (i : ℕ) (w : Bor MadeWhat) → slice_get (found ++ what ∷ []) i ≡ Some w → i < length list
  enough i w got =
      let a : i < length (found ++ what ∷ []) = slice_get_within (found ++ what ∷ []) i w got in
      let b : length (found ++ what ∷ []) ≡ length found + 1 = length-append found (what ∷ []) in
      let c : length found ≡ place = s.count in
      let d : place < length list = slice_get_within list place n is in
      omega (arith, a, b, c, d)

  pub finding_next : IsFinding t m.keys there (found ++ what ∷ []) (place + 1)
  finding_next = record {
    are = λ i k w at got.
        let here : slice_get list i ≡ Some k = agenda_growth_keeps_place list there i k grown.list_more (enough i w got)
        at in
        subst (λ (q : Key). HasLiveEntry t q (entry_definition_view w.now))
        (sym (node_key_stays_in_growth l.keys m.keys k grown.keys_more
        (listed.listed_in_table k (member_at list i k here))))
        (said_still i k w here got);
    count = length-append found (what ∷ []) ∙ ap (λ (x : ℕ). x + 1) s.count;
  }
