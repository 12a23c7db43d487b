-- The edges of settled names when names are added, when one more is settled, and when some are forgotten.
use Rattle.std.proofs.Common.{◌≡◌, ◌⊎◌, ◌↔◌, ◌<◌, ◌≤◌, ℕ, Bool, true, List, Contains, refl, sym, ◌∙◌, ap, subst, inl}
use Rattle.std.proofs.Common.{inr, arith}
use Rattle.expr_tree.specs.declared.word_list.WordUse.{WordUse}
use Rattle.def_entry.specs.declared.key.Key.{Key}
use Rattle.def_entry.specs.Tables.{EntryTable}
use Rattle.name_lookup.specs.Plans.{LookupResult}
use Rattle.edge_links.specs.Reach.{HasLinkEdge}
use Rattle.edge_links.specs.AffectedNames.{ForgetsNameEdges}
use Rattle.edge_links.specs.NameGraphs.{NameEdgeGraph}
use Rattle.edge_links.proofs.NameEdgeCuts.{stays_there, was_free, was_there}
use Rattle.table_names.specs.Edits.{IsClosedAsBefore}
use Rattle.table_names.specs.Leads.{TableNameLooksAt, TableWordsLeadTo}
use Rattle.table_names.specs.Words.{table_words_of_entry, table_words_of_key}
use Rattle.table_names.specs.EdgeLaws.{AreNumberedNameEdges}

-- ---- names are added
module _ (table : EntryTable) (key later : ℕ → Key) (size more : ℕ) (settled now : ℕ → Bool) (g : NameEdgeGraph)
    (are : AreNumberedNameEdges table key size settled g) (grown : size ≤ more)
    (same : (n : ℕ) → n < size → later n ≡ key n)
    (marks : (n : ℕ) → (now n ≡ true) ↔ (settled n ≡ true)) where
  to_later : (n m : ℕ) → HasLinkEdge g.uses n m ⊎ HasLinkEdge g.looks n m → later m ≡ key m
  to_later n m (inl h) = same m (are.settled_in_range m (are.used_settled n m h).1)
  to_later n m (inr h) = same m (are.beside n m h).1

  own : (n : ℕ) → now n ≡ true → later n ≡ key n
  own n e = same n (are.settled_in_range n ((marks n).0 e))

  pub edges_grown : AreNumberedNameEdges table later more now g
  edges_grown = record {
    settled_in_range = λ n e. let l = are.settled_in_range n ((marks n).0 e) in omega (arith, l, grown);
    used_settled = λ n m h. ((marks n).1 (are.used_settled n m h).0, (marks m).1 (are.used_settled n m h).1);
    beside = λ n m h. ((marks n).1 (are.beside n m h).0, let l = (are.beside n m h).1 in omega (arith, l, grown));
    use_edges = λ n e k. (
      λ w.
          let u = (are.use_edges n ((marks n).0 e) k).0
          (subst (λ (x : Key). TableWordsLeadTo table (table_words_of_key table x) k) (own n e) w) in
          (u.0, u.1, u.2 ∙ sym (to_later n u.0 (inl u.1))),
      λ u. subst (λ (x : Key). TableWordsLeadTo table (table_words_of_key table x) k) (sym (own n e))
          ((are.use_edges n ((marks n).0 e) k).1 (u.0, u.1, u.2 ∙ to_later n u.0 (inl u.1))),
    );
    look_edges = λ n e k. (
      λ w.
          let u = (are.look_edges n ((marks n).0 e) k).0 (subst (λ (x : Key). TableNameLooksAt table x k) (own n e) w)
          in
          (u.0, u.1, u.2 ∙ sym (to_later n u.0 u.1)),
      λ u. subst (λ (x : Key). TableNameLooksAt table x k) (sym (own n e))
          ((are.look_edges n ((marks n).0 e) k).1 (u.0, u.1, u.2 ∙ to_later n u.0 u.1)),
    );
  }

-- ---- one more name is settled, with edges to these names and keys
module _ (table : EntryTable) (key : ℕ → Key) (size : ℕ) (settled now : ℕ → Bool) (g h : NameEdgeGraph) (n : ℕ)
    (used looked : List ℕ)
    (are : AreNumberedNameEdges table key size settled g) (there : n < size) (fresh : settled n ≡ true → ⊥)
    (marks : (m : ℕ) → (now m ≡ true) ↔ ((m ≡ n) ⊎ (settled m ≡ true)))
    (uses : (x y : ℕ) → HasLinkEdge h.uses x y ↔ (((x ≡ n) × Contains used y) ⊎ HasLinkEdge g.uses x y))
    (looks : (x y : ℕ) → HasLinkEdge h.looks x y ↔ (((x ≡ n) × Contains looked y) ⊎ HasLinkEdge g.looks x y))
    (used_settled : (m : ℕ) → Contains used m → settled m ≡ true)
    (looked_there : (m : ℕ) → Contains looked m → m < size)
    (its_used : (k : Key) → TableWordsLeadTo table (table_words_of_key table (key n)) k ↔
    ((m : ℕ) × Contains used m × (k ≡ key m)))
    (its_looked : (k : Key) → TableNameLooksAt table (key n) k ↔
    ((m : ℕ) × (Contains used m ⊎ Contains looked m) × (k ≡ key m)))
  where
    now_in : (m : ℕ) → now m ≡ true → m < size
    now_in m e = elim ((marks m).0 e) [
      | inl q ↦ subst (λ x. x < size) (sym q) there
      | inr s ↦ are.settled_in_range m s
    ]

    new_use : (x y : ℕ) → ((x ≡ n) × Contains used y) ⊎ HasLinkEdge g.uses x y → (now x ≡ true) × (now y ≡ true)
    new_use x y (inl (e, i)) = ((marks x).1 (inl e), (marks y).1 (inr (used_settled y i)))
    new_use x y (inr h) = ((marks x).1 (inr (are.used_settled x y h).0), (marks y).1 (inr (are.used_settled x y h).1))

    new_look : (x y : ℕ) → ((x ≡ n) × Contains looked y) ⊎ HasLinkEdge g.looks x y → (now x ≡ true) × (y < size)
    new_look x y (inl (e, i)) = ((marks x).1 (inl e), looked_there y i)
    new_look x y (inr h) = ((marks x).1 (inr (are.beside x y h).0), (are.beside x y h).1)

    -- each name that the new name uses is one of those added
    use_of_new : (y : ℕ) → HasLinkEdge h.uses n y → Contains used y
    use_of_new y e = elim ((uses n y).0 e) [ inl i ↦ i.1 | inr o ↦ absurd (fresh (are.used_settled n y o).0) ]

    look_of_new : (y : ℕ) → HasLinkEdge h.looks n y → Contains looked y
    look_of_new y e = elim ((looks n y).0 e) [ inl i ↦ i.1 | inr o ↦ absurd (fresh (are.beside n y o).0) ]

    use_of_old : (x y : ℕ) → settled x ≡ true → HasLinkEdge h.uses x y → HasLinkEdge g.uses x y
    use_of_old x y s e = elim ((uses x y).0 e) [
      | inl i ↦ absurd (fresh (subst (λ z. settled z ≡ true) i.0 s))
      | inr o ↦ o
    ]

    look_of_old : (x y : ℕ) → settled x ≡ true → HasLinkEdge h.looks x y → HasLinkEdge g.looks x y
    look_of_old x y s e = elim ((looks x y).0 e) [
      | inl i ↦ absurd (fresh (subst (λ z. settled z ≡ true) i.0 s))
      | inr o ↦ o
    ]

    abbrev Used : ℕ → Type 0
    Used x = (k : Key) → TableWordsLeadTo table (table_words_of_key table (key x)) k ↔
        ((m : ℕ) × HasLinkEdge h.uses x m × (k ≡ key m))

    used_by : (x : ℕ) → (x ≡ n) ⊎ (settled x ≡ true) → Used x
    used_by x (inl e) = subst Used (sym e) (λ k. (
      λ w. let u = (its_used k).0 w in (u.0, (uses n u.0).1 (inl (refl, u.1)), u.2),
      λ u. (its_used k).1 (u.0, use_of_new u.0 u.1, u.2),
    ))
    used_by x (inr s) = λ k. (
      λ w. let u = (are.use_edges x s k).0 w in (u.0, (uses x u.0).1 (inr u.1), u.2),
      λ u. (are.use_edges x s k).1 (u.0, use_of_old x u.0 s u.1, u.2),
    )

    abbrev Looked : ℕ → Type 0
    Looked x = (k : Key) → TableNameLooksAt table (key x) k ↔
        ((m : ℕ) × (HasLinkEdge h.uses x m ⊎ HasLinkEdge h.looks x m) × (k ≡ key m))

    looked_by : (x : ℕ) → (x ≡ n) ⊎ (settled x ≡ true) → Looked x
    looked_by x (inl e) = subst Looked (sym e) (λ k. (
      λ w.
          let u = (its_looked k).0 w in (
            u.0,
            elim u.1 [ inl i ↦ inl ((uses n u.0).1 (inl (refl, i))) | inr i ↦ inr ((looks n u.0).1 (inl (refl, i))) ],
            u.2,
          ),
      λ u. (its_looked k).1 (u.0, elim u.1 [ inl i ↦ inl (use_of_new u.0 i) | inr i ↦ inr (look_of_new u.0 i) ], u.2),
    ))
    looked_by x (inr s) = λ k. (
      λ w.
          let u = (are.look_edges x s k).0 w in
          (u.0, elim u.1 [ inl i ↦ inl ((uses x u.0).1 (inr i)) | inr i ↦ inr ((looks x u.0).1 (inr i)) ], u.2),
      λ u. (are.look_edges x s k).1
          (u.0, elim u.1 [ inl i ↦ inl (use_of_old x u.0 s i) | inr i ↦ inr (look_of_old x u.0 s i) ], u.2),
    )

    pub edges_linked : AreNumberedNameEdges table key size now h
    edges_linked = record {
      settled_in_range = now_in;
      used_settled = λ x y e. new_use x y ((uses x y).0 e);
      beside = λ x y e. new_look x y ((looks x y).0 e);
      use_edges = λ x e. used_by x ((marks x).0 e);
      look_edges = λ x e. looked_by x ((marks x).0 e);
    }

-- ---- a key that is as before: its words lead to the same keys, and look at the same keys
module _ (before after : EntryTable) (k : Key) (is : IsClosedAsBefore before after k) where
  pub same_words : table_words_of_key before k ≡ table_words_of_key after k
  same_words = ap table_words_of_entry is.entry

  pub leads_same : (m : Key) → TableWordsLeadTo before (table_words_of_key before k) m ↔ TableWordsLeadTo after
      (table_words_of_key after k) m
  leads_same m = (
    λ (u, i, t). (
      u,
      subst (λ (us : List WordUse). Contains us u) same_words i,
      subst
          (λ (f : LookupResult). Contains f.targets m) (is.lookups u i) t,
    ),
    λ (u, i, t).
        let j = subst (λ (us : List WordUse). Contains us u) (sym same_words) i in
        (u, j, subst (λ (f : LookupResult). Contains f.targets m) (sym (is.lookups u j)) t),
  )

  pub looks_same : (m : Key) → TableNameLooksAt before k m ↔ TableNameLooksAt after k m
  looks_same m = (
    λ (u, i, t). (
      u,
      subst (λ (us : List WordUse). Contains us u) same_words i,
      subst
          (λ (f : LookupResult). Contains f.keys_looked_at m) (is.lookups u i) t,
    ),
    λ (u, i, t).
        let j = subst (λ (us : List WordUse). Contains us u) (sym same_words) i in
        (u, j, subst (λ (f : LookupResult). Contains f.keys_looked_at m) (sym (is.lookups u j)) t),
  )

-- ---- affected names are forgotten, and the other names are as before
module _ (before after : EntryTable) (key : ℕ → Key) (size : ℕ) (settled now : ℕ → Bool) (g h : NameEdgeGraph)
    (Affected : ℕ → Type 0)
    (are : AreNumberedNameEdges before key size settled g) (cut : ForgetsNameEdges Affected g h)
    (marks : (n : ℕ) → (now n ≡ true) ↔ ((settled n ≡ true) × (Affected n → ⊥)))
    (up : (n m : ℕ) → HasLinkEdge g.uses n m → Affected m → Affected n)
    (is : (n : ℕ) → now n ≡ true → IsClosedAsBefore before after (key n)) where
  use_was : (n m : ℕ) → HasLinkEdge h.uses n m → HasLinkEdge g.uses n m × (Affected n → ⊥)
  use_was n m e = (was_there Affected g.uses h.uses cut.uses n m e, was_free Affected g.uses h.uses cut.uses n m e)

  look_was : (n m : ℕ) → HasLinkEdge h.looks n m → HasLinkEdge g.looks n m × (Affected n → ⊥)
  look_was n m e = (
    was_there Affected g.looks h.looks cut.looks n m e,
    was_free Affected g.looks h.looks cut.looks n m
        e,
  )

  use_is : (n m : ℕ) → now n ≡ true → HasLinkEdge g.uses n m → HasLinkEdge h.uses n m
  use_is n m e = stays_there Affected g.uses h.uses cut.uses n m ((marks n).0 e).1

  look_is : (n m : ℕ) → now n ≡ true → HasLinkEdge g.looks n m → HasLinkEdge h.looks n m
  look_is n m e = stays_there Affected g.looks h.looks cut.looks n m ((marks n).0 e).1

  pub edges_cut : AreNumberedNameEdges after key size now h
  edges_cut = record {
    settled_in_range = λ n e. are.settled_in_range n ((marks n).0 e).0;
    used_settled = λ n m e.
        let w = use_was n m e in
        let b = are.used_settled n m w.0 in ((marks n).1 (b.0, w.1), (marks m).1 (b.1, λ a. w.1 (up n m w.0 a)));
    beside = λ n m e. let w = look_was n m e in let b = are.beside n m w.0 in ((marks n).1 (b.0, w.1), b.1);
    use_edges = λ n e k.
        let s = ((marks n).0 e).0 in
        let same = leads_same before after (key n) (is n e) k in (
          λ w. let u = (are.use_edges n s k).0 (same.1 w) in (u.0, use_is n u.0 e u.1, u.2),
          λ u. same.0 ((are.use_edges n s k).1 (u.0, (use_was n u.0 u.1).0, u.2)),
        );
    look_edges = λ n e k.
        let s = ((marks n).0 e).0 in
        let same = looks_same before after (key n) (is n e) k in (
          λ w.
              let u = (are.look_edges n s k).0 (same.1 w) in
              (u.0, elim u.1 [ inl i ↦ inl (use_is n u.0 e i) | inr i ↦ inr (look_is n u.0 e i) ], u.2),
          λ u. same.0 ((are.look_edges n s k).1
              (u.0, elim u.1 [ inl i ↦ inl (use_was n u.0 i).0 | inr i ↦ inr (look_was n u.0 i).0 ], u.2)),
        );
  }
