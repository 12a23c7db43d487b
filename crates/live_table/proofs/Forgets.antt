-- Forgetting keys in turn.
use Rattle.std.proofs.Common.{◌≡◌, ◌⊎◌, ◌<◌, ◌≤◌, ℕ, Bool, true, false, List, [], ◌∷◌, ◌++◌, length, set, Contains}
use Rattle.std.proofs.Common.{Option, Some, refl, sym, ◌∙◌, ap, subst, inl, inr, arith}
use Rattle.std.specs.List.{slice_get}
use Rattle.std.proofs.lemmas.Bool.{cases_Bool, true≢false}
use Rattle.std.proofs.lemmas.List.{length-set}
use Rattle.std.proofs.lemmas.Option.{slice_get-get_or, same_Some, slice_get_within}
use Rattle.std.proofs.lemmas.List.Elements.{Contains-append_cases, Contains-append_left, Contains-append_right}
use Rattle.def_entry.specs.declared.key.Key.{Key}
use Rattle.def_entry.specs.SameKeys.{is_entry_key_among}
use Rattle.def_entry.specs.Tables.{EntryTable, is_entry_present}
use Rattle.edge_links.specs.Reach.{AreMarksCleared}
use Rattle.edge_links.specs.AffectedNames.{AreAffectedByEdges, AreEdgesCut, ForgetsNameEdges, IsAffectedByEdges}
use Rattle.edge_links.specs.NameGraphs.{NameEdgeGraph}
use Rattle.edge_links.proofs.NameEdgeCuts.{affected_by_both, affected_by_one, cleared_on, cut_on, in_alone}
use Rattle.table_names.specs.EdgeLaws.{AreNumbersOfNames}
use Rattle.table_names.proofs.KeyLists.{member_table_key_is_among, table_key_among_is_member}
use Rattle.tree_eval.specs.declared.outcome.Outcome.{Outcome}
use Rattle.live_table.specs.TableEdges.{is_flagged_settled}
use Rattle.live_table.specs.Forgotten.{AreForgotten, AreNodePartsUnchanged, AreNodesFlaggedAnew, CanForget}
use Rattle.live_table.specs.OutcomesLeft.{AreSettledNumbersLeft, settled_numbers_left_at_first}
use Rattle.live_table.specs.OutcomesLeft.{settled_numbers_left_in_turn}
use Rattle.live_table.specs.TableContents.{NodeLists, node_key_at}
use Rattle.general_lemmas.proofs.Places.{get_set_same, get_set_other}
use Rattle.general_lemmas.proofs.Members.{no_member, member_first, member_cases, member_at}

-- an empty change affects no name
empty_change_forgets_no_name : (g : NameEdgeGraph) (n : ℕ) → AreAffectedByEdges g [] n → ⊥
empty_change_forgets_no_name g n a = no_member a.0 a.1

-- ---- no key
module _ (t : EntryTable) (l : NodeLists) (g : NameEdgeGraph) where
  nothing_cut : AreEdgesCut (AreAffectedByEdges g []) g.uses g.uses
  nothing_cut = record {
    affected_cleared = λ x y a. absurd (empty_change_forgets_no_name g x a);
    others_unchanged =
        λ x y free. refl;
  }

  nothing_looked : AreEdgesCut (AreAffectedByEdges g []) g.looks g.looks
  nothing_looked = record {
    affected_cleared = λ x y a. absurd (empty_change_forgets_no_name g x a);
    others_unchanged =
        λ x y free. refl;
  }

  same_rest : AreNodePartsUnchanged l l
  same_rest = record { keys = refl; callees = refl; graph = refl; looks = refl }

  -- nothing changes if none of the keys has a number
  pub none_forgotten : (keys : List Key) → ((n : ℕ) → n < length l.keys → Contains keys (node_key_at l.keys n) → ⊥)
      → g.names ≤ length l.keys → AreForgotten t keys l l g g
  none_forgotten keys none few = record {
    numbers = [];
    of = record { of_keys = λ m i. absurd (no_member m i); every = λ m s i. absurd (none m (omega (arith, s, few)) i) };
    edges = record { names = refl; uses = nothing_cut; looks = nothing_looked };
    marks_cleared = record {
      affected_cleared = λ x a. absurd (empty_change_forgets_no_name g x a);
      others_unchanged =
          λ x free. refl;
    };
    numbers_left = settled_numbers_left_at_first l.settled_flags l.count l.outcomes;
    flags_anew = record {
      flag_count = refl;
      changed_flags = λ n s i. absurd (none n s i);
      other_flags = λ n s free.
          refl;
    };
    rest_same = same_rest;
  }

-- ---- some keys, and then others
module _ (t : EntryTable) (keys others : List Key) (l mid new : NodeLists) (g gmid h : NameEdgeGraph)
    (a : AreForgotten t keys l mid g gmid) (b : AreForgotten t others mid new gmid h) where
  key_same : (n : ℕ) → node_key_at mid.keys n ≡ node_key_at l.keys n
  key_same n = ap (λ (ks : List Key). node_key_at ks n) a.rest_same.keys

  size_same : (n : ℕ) → n < length l.keys → n < length mid.keys
  size_same n s = let e : length mid.keys ≡ length l.keys = ap length a.rest_same.keys in omega (arith, s, e)

  of_both : AreNumbersOfNames (node_key_at l.keys) g.names (keys ++ others) (a.numbers ++ b.numbers)
  of_both = record {
    of_keys = λ m i. elim (Contains-append_cases a.numbers b.numbers m i) [
      | inl j ↦ Contains-append_left keys others (node_key_at l.keys m) (a.of.of_keys m j)
      | inr j ↦ Contains-append_right keys others (node_key_at l.keys m)
          (subst (λ (k : Key). Contains others k) (key_same m) (b.of.of_keys m j))
    ];
    every = λ m s i. elim (Contains-append_cases keys others (node_key_at l.keys m) i) [
      | inl j ↦ Contains-append_left a.numbers b.numbers m (a.of.every m s j)
      | inr j ↦ Contains-append_right a.numbers b.numbers m
          (b.of.every m (let e = a.edges.names in omega (arith, s, e))
          (subst (λ (k : Key). Contains others k) (sym (key_same m)) j))
    ];
  }

  flags_at : (n : ℕ) → n < length l.keys → Contains (keys ++ others) (node_key_at l.keys n)
      → (is_entry_key_among others (node_key_at l.keys n) ≡ true) ⊎
      (is_entry_key_among others (node_key_at l.keys n) ≡ false)
      → slice_get new.entry_flags n ≡ Some (is_entry_present t (node_key_at l.keys n))
  flags_at n s i (inl e) =
      b.flags_anew.changed_flags n (size_same n s)
      (subst (λ (k : Key). Contains others k) (sym (key_same n))
      (table_key_among_is_member others (node_key_at l.keys n) e))
      ∙ ap (λ (k : Key). Some (is_entry_present t k)) (key_same n)
  flags_at n s i (inr e) =
      let off : Contains others (node_key_at l.keys n) → ⊥ = λ c.
      true≢false (sym (member_table_key_is_among others (node_key_at l.keys n) c) ∙ e) in
      b.flags_anew.other_flags n (size_same n s) (λ c. off (subst (λ (k : Key). Contains others k) (key_same n) c))
      ∙ a.flags_anew.changed_flags n s
      (elim (Contains-append_cases keys others (node_key_at l.keys n) i) [ inl j ↦ j | inr j ↦ absurd (off j) ])

  flags_both : AreNodesFlaggedAnew t (keys ++ others) l new
  flags_both = record {
    flag_count = b.flags_anew.flag_count ∙ a.flags_anew.flag_count;
    changed_flags = λ n s i. flags_at n s i (cases_Bool (is_entry_key_among others (node_key_at l.keys n)));
    other_flags = λ n s free.
        b.flags_anew.other_flags n (size_same n s)
        (λ c. free (Contains-append_right keys others (node_key_at l.keys n)
        (subst (λ (k : Key). Contains others k) (key_same n) c)))
        ∙ a.flags_anew.other_flags n s (λ c. free (Contains-append_left keys others (node_key_at l.keys n) c));
  }

  pub forgotten_on : AreForgotten t (keys ++ others) l new g h
  forgotten_on = record {
    numbers = a.numbers ++ b.numbers;
    of = of_both;
    edges = record {
      names = b.edges.names ∙ a.edges.names;
      uses = cut_on _ _ _ (affected_by_both a.numbers b.numbers g gmid a.edges) g.uses gmid.uses h.uses a.edges.uses
          b.edges.uses;
      looks = cut_on _ _ _ (affected_by_both a.numbers b.numbers g gmid a.edges) g.looks gmid.looks h.looks
          a.edges.looks
          b.edges.looks;
    };
    marks_cleared = cleared_on _ _ _ (affected_by_both a.numbers b.numbers g gmid a.edges)
        (is_flagged_settled l.settled_flags)
        (is_flagged_settled mid.settled_flags)
        (is_flagged_settled new.settled_flags) a.marks_cleared b.marks_cleared;
    numbers_left = settled_numbers_left_in_turn l.settled_flags mid.settled_flags new.settled_flags l.count mid.count
        new.count l.outcomes
        mid.outcomes new.outcomes
        a.numbers_left b.numbers_left;
    flags_anew = flags_both;
    rest_same = record {
      keys = b.rest_same.keys ∙ a.rest_same.keys;
      callees = b.rest_same.callees ∙ a.rest_same.callees;
      graph = b.rest_same.graph ∙ a.rest_same.graph;
      looks = b.rest_same.looks ∙ a.rest_same.looks;
    };
  }

-- ---- one key that has a number
module _ (t : EntryTable) (k : Key) (l : NodeLists) (n : ℕ) (found : slice_get l.keys n ≡ Some k)
    (apart : (i j : ℕ) → i < length l.keys → j < length l.keys → node_key_at l.keys i ≡ node_key_at l.keys j → i ≡ j)
    (sizes : length l.entry_flags ≡ length l.keys) (b : Bool) (flag : b ≡ is_entry_present t k) where
  there : n < length l.keys
  there = slice_get_within l.keys n k found

  its_key : node_key_at l.keys n ≡ k
  its_key = same_Some (node_key_at l.keys n) k (sym (slice_get-get_or l.keys n _ there) ∙ found)

  only : (i : ℕ) → i < length l.keys → Contains (k ∷ []) (node_key_at l.keys i) → i ≡ n
  only i s c = elim (member_cases (node_key_at l.keys i) k [] c) [
    | inl e ↦ apart i n s there (e ∙ sym its_key)
    | inr j ↦ absurd (no_member (node_key_at l.keys i) j)
  ]

  own : Contains (k ∷ []) (node_key_at l.keys n)
  own = member_first (node_key_at l.keys n) k [] its_key

  module _ (m : NodeLists) (put : m.entry_flags ≡ set l.entry_flags n b) where
    pub flags_one : AreNodesFlaggedAnew t (k ∷ []) l m
    flags_one = record {
      flag_count = ap length put ∙ length-set l.entry_flags n b;
      changed_flags = λ i s c.
          let e : i ≡ n = only i s c in
          ap (λ (bs : List Bool). slice_get bs i) put
          ∙ (ap (slice_get (set l.entry_flags n b)) e
          ∙ (get_set_same l.entry_flags n b (let z = there in omega (arith, z, sizes))
          ∙ ap Some (flag ∙ ap (is_entry_present t) (sym its_key ∙ ap (node_key_at l.keys) (sym e)))));
      other_flags = λ i s free.
          ap (λ (bs : List Bool). slice_get bs i) put
          ∙ get_set_other l.entry_flags n i b
          (λ e. free (subst (λ x. Contains (k ∷ []) (node_key_at l.keys x)) (sym e) own));
    }

    module _ (rest : AreNodePartsUnchanged l m) (g h : NameEdgeGraph) where
      -- the number has edges
      pub one_forgotten : n < g.names → g.names ≤ length l.keys → ForgetsNameEdges (IsAffectedByEdges g n) g h
          → AreMarksCleared (IsAffectedByEdges g n) (is_flagged_settled l.settled_flags)
          (is_flagged_settled m.settled_flags)
          → AreSettledNumbersLeft l.settled_flags m.settled_flags l.count m.count l.outcomes m.outcomes
          → AreForgotten t (k ∷ []) l m g h
      one_forgotten within few edges marks left = record {
        numbers = n ∷ [];
        of = record {
          of_keys = λ i c. subst (λ x. Contains (k ∷ []) (node_key_at l.keys x)) (sym (single i c)) own;
          every = λ i s c. member_first i n [] (only i (omega (arith, s, few)) c);
        };
        edges = record {
          names = edges.names;
          uses = record {
            affected_cleared = λ x y a. edges.uses.affected_cleared x y (affected_by_one g n x a);
            others_unchanged = λ x y free.
                edges.uses.others_unchanged x y (λ a. free (in_alone g n x a));
          };
          looks = record {
            affected_cleared = λ x y a. edges.looks.affected_cleared x y (affected_by_one g n x a);
            others_unchanged = λ x y free.
                edges.looks.others_unchanged x y (λ a. free (in_alone g n x a));
          };
        };
        marks_cleared = record {
          affected_cleared = λ x a. marks.affected_cleared x (affected_by_one g n x a);
          others_unchanged = λ x free.
              marks.others_unchanged x (λ a. free (in_alone g n x a));
        };
        numbers_left = left;
        flags_anew = flags_one;
        rest_same = rest;
      }
        where
          single : (i : ℕ) → Contains (n ∷ []) i → i ≡ n
          single i c = elim (member_cases i n [] c) [ inl e ↦ e | inr j ↦ absurd (no_member i j) ]

    -- the number has no edges
    module _ (rest : AreNodePartsUnchanged l m) (g : NameEdgeGraph) (settled : m.settled_flags ≡ l.settled_flags)
        (count : m.count ≡ l.count)
        (outcomes : m.outcomes ≡ l.outcomes) where
      pub flag_forgotten : (n < g.names → ⊥) → g.names ≤ length l.keys → AreForgotten t (k ∷ []) l m g g
      flag_forgotten beyond few = record {
        numbers = [];
        of = record {
          of_keys = λ i c. absurd (no_member i c);
          every = λ i s c. absurd (beyond (subst (λ x. x < g.names) (only i (omega (arith, s, few)) c) s));
        };
        edges = record { names = refl; uses = nothing_cut t l g; looks = nothing_looked t l g };
        marks_cleared = record {
          affected_cleared = λ x a. absurd (empty_change_forgets_no_name g x a);
          others_unchanged = λ x free. ap (λ (bs : List Bool). is_flagged_settled bs x) settled;
        };
        numbers_left = subst (λ (p : List Bool × (ℕ × List (Option Outcome))).
            AreSettledNumbersLeft l.settled_flags p.0 l.count p.1.0
            l.outcomes
            p.1.1)
            (λ i. (sym settled i, (sym count i, sym outcomes i)))
            (settled_numbers_left_at_first l.settled_flags l.count l.outcomes);
        flags_anew = flags_one;
        rest_same = rest;
      }

-- ---- a key that has no number
pub absent_forgotten : (t : EntryTable) (k : Key) (l : NodeLists) (g : NameEdgeGraph) → g.names ≤ length l.keys
    → is_entry_key_among l.keys k ≡ false
    → AreForgotten t (k ∷ []) l l g g
absent_forgotten t k l g few absent = none_forgotten t l g (k ∷ []) none few
  where
    none : (n : ℕ) → n < length l.keys → Contains (k ∷ []) (node_key_at l.keys n) → ⊥
    none n s c = elim (member_cases (node_key_at l.keys n) k [] c) [
      | inl e ↦ true≢false (sym
          (member_table_key_is_among l.keys k (member_at l.keys n k (slice_get-get_or l.keys n _ s ∙ ap Some e)))
          ∙ absent)
      | inr j ↦ no_member (node_key_at l.keys n) j
    ]

-- ---- keys in turn

-- a table that has forgotten keys meets the precondition of forgetting again
pub can_forget : (t : EntryTable) (keys : List Key) (l m : NodeLists) (g h : NameEdgeGraph)
    → AreForgotten t keys l m g h
    → CanForget l g → CanForget m h
can_forget t keys l m g h f can = record {
  numbers_apart = λ i j s u e. can.numbers_apart i j (size i s) (size j u) (sym (same i) ∙ (e ∙ same j));
  flag_per_key = f.flags_anew.flag_count ∙ (can.flag_per_key ∙ sym (ap length f.rest_same.keys));
  names =
      let a = can.names in
      let b = f.edges.names in
      let d : length m.keys ≡ length l.keys = ap length f.rest_same.keys in omega (arith, a, b, d);
}
  where
    same : (i : ℕ) → node_key_at m.keys i ≡ node_key_at l.keys i
    same i = ap (λ (ks : List Key). node_key_at ks i) f.rest_same.keys

    size : (i : ℕ) → i < length m.keys → i < length l.keys
    size i s = let d : length m.keys ≡ length l.keys = ap length f.rest_same.keys in omega (arith, s, d)
