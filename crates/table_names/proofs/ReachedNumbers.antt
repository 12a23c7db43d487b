-- The keys that are reached by number and by name.
use Rattle.std.proofs.Common.{◌≡◌, ◌⊎◌, ℕ, Bool, true, false, List, [], ◌∷◌, Contains, Option}
use Rattle.std.proofs.Common.{refl, sym, ◌∙◌, ap, subst, inl, inr}
use Rattle.expr_tree.specs.declared.word_list.WordUse.{WordUse}
use Rattle.expr_tree.specs.Names.{is_refused}
use Rattle.def_entry.specs.declared.key.Key.{Key}
use Rattle.def_entry.specs.Tables.{EntryTable}
use Rattle.name_walk.specs.declared.step.Step.{Step}
use Rattle.name_walk.specs.declared.step.Step.TheVariants.{To}
use Rattle.name_walk.specs.NewlyClosed.{IsReachedInGraph}
use Rattle.name_walk.specs.Steps as walk
use Rattle.name_walk.specs.Steps.{Graph, GraphLeadsTo, graph_steps}
use Rattle.table_names.specs.declared.fault.NameFault.{NameFault}
use Rattle.table_names.specs.ClosedKeys.{AreClosedWords, IsClosedKey, TableWordLeadsInto}
use Rattle.table_names.specs.ClosedLaws.{ClosedWordLaw}
use Rattle.table_names.specs.Leads.{TableNameReaches, TableWordsLeadTo, TableWordsReach, at_once, further}
use Rattle.table_names.specs.Leads.{table_word_targets}
use Rattle.table_names.specs.Words.{table_words_of_key}
use Rattle.table_names.specs.NumberedNames.{AreNumbered, AreWords, LeadToKnownNumbers}
use Rattle.table_names.specs.NumberedNames.{ForOne, ForRefused, ForTwo, ForUnknown, IsWord}
use Rattle.general_lemmas.proofs.Members.{no_member, member_first, member_later, member_cases}

module _ (table : EntryTable) (key : ℕ → Key) (dead_end : ℕ → Option Key → NameFault) where
  -- ---- one word, and its two steps
  abbrev LeadsAlong : Step → Step → ℕ → Type 0
  LeadsAlong x y n = (To n ≡ x) ⊎ (To n ≡ y)

  target_of_step :
      (u : WordUse) {x y : Step} → IsWord table key dead_end u x y → (n : ℕ) → LeadsAlong x y n
      → Contains (table_word_targets table u) (key n)
  target_of_step u (ForRefused t refused e) n l = absurd (elim l [ inl q ↦ cc | inr q ↦ cc ])
  target_of_step u (ForUnknown t fine none e) n l = absurd (elim l [ inl q ↦ cc | inr q ↦ cc ])
  target_of_step u (ForOne m fine e) n l =
      let q : n ≡ m = elim l [ inl q ↦ cc | inr q ↦ cc ] in
      subst (λ ks. Contains ks (key n)) (sym e) (member_first (key n) (key m) [] (ap key q))
  target_of_step u (ForTwo m k fine e) n l =
      subst (λ ks. Contains ks (key n)) (sym e) (elim l [
        | inl q ↦ let r : n ≡ m = cc in member_first (key n) (key m) (key k ∷ []) (ap key r)
        | inr q ↦
            let r : n ≡ k = cc in
            member_later (key n) (key m) (key k ∷ []) (member_first (key n) (key k) [] (ap key r))
      ])

  step_to_target :
      (u : WordUse) {x y : Step} → IsWord table key dead_end u x y → is_refused u.text ≡ false
      → (k : Key) → Contains (table_word_targets table u) k → (n : ℕ) × (k ≡ key n) × LeadsAlong x y n
  step_to_target u (ForRefused t refused e) fine k i = absurd (let q : true ≡ false = sym refused ∙ fine in cc)
  step_to_target u (ForUnknown t _ none e) fine k i = absurd (no_member k (subst (λ ks. Contains ks k) none i))
  step_to_target u (ForOne n _ e) fine k i =
      elim (member_cases k (key n) [] (subst (λ ks. Contains ks k) e i)) [
        | inl q ↦ (n, q, inl refl)
        | inr j ↦ absurd (no_member k j)
      ]
  step_to_target u (ForTwo n m _ e) fine k i =
      elim (member_cases k (key n) (key m ∷ []) (subst (λ ks. Contains ks k) e i)) [
        | inl q ↦ (n, q, inl refl)
        | inr j ↦ elim (member_cases k (key m) [] j) [ inl q ↦ (m, q, inr refl) | inr h ↦ absurd (no_member k h) ]
      ]

  -- ---- words, and their steps
  pub lead_of_step :
      (us : List WordUse) (xs : List Step) → AreWords table key dead_end us xs → (n : ℕ) → Contains xs (To n)
      → TableWordsLeadTo table us (key n)
  lead_of_step [] [] w n i = absurd (no_member (To n) i)
  lead_of_step [] (x ∷ xs) w n i = absurd w
  lead_of_step (u ∷ us) [] w n i = absurd w
  lead_of_step (u ∷ us) (x ∷ []) w n i = absurd w
  lead_of_step (u ∷ us) (x ∷ y ∷ xs) w n i = elim (member_cases (To n) x (y ∷ xs) i) [
    | inl e ↦ (u, member_first u u us refl, target_of_step u w.0 n (inl e))
    | inr j ↦ elim (member_cases (To n) y xs j) [
      | inl e ↦ (u, member_first u u us refl, target_of_step u w.0 n (inr e))
      | inr k ↦ let l : TableWordsLeadTo table us (key n) = lead_of_step us xs w.1 n k in
          (l.0, member_later l.0 u us l.1, l.2)
    ]
  ]

  pub step_of_lead :
      (us : List WordUse) (xs : List Step) → AreWords table key dead_end us xs
      → (u : WordUse) → Contains us u → is_refused u.text ≡ false → (k : Key) → Contains (table_word_targets table u) k
      → (n : ℕ) × (k ≡ key n) × Contains xs (To n)
  step_of_lead [] xs w u i fine k t = absurd (no_member u i)
  step_of_lead (v ∷ us) [] w u i fine k t = absurd w
  step_of_lead (v ∷ us) (x ∷ []) w u i fine k t = absurd w
  step_of_lead (v ∷ us) (x ∷ y ∷ xs) w u i fine k t = elim (member_cases u v us i) [
    | inl e ↦
        let word : IsWord table key dead_end u x y =
        subst (λ (z : WordUse). IsWord table key dead_end z x y) (sym e) w.0 in
        let r : (n : ℕ) × (k ≡ key n) × LeadsAlong x y n = step_to_target u word fine k t in (
          r.0,
          r.1,
          elim r.2 [
            | inl q ↦ member_first (To r.0) x (y ∷ xs) q
            | inr q ↦ member_later (To r.0) x (y ∷ xs) (member_first (To r.0) y xs q)
          ],
        )
    | inr j ↦
        let r : (n : ℕ) × (k ≡ key n) × Contains xs (To n) = step_of_lead us xs w.1 u j fine k t in
        (r.0, r.1, member_later (To r.0) x (y ∷ xs) (member_later (To r.0) y xs r.2))
  ]

  module _ (g : Graph) (known : ℕ → Bool) (numbered : AreNumbered table key dead_end g known) where
    -- ---- known numbers
    known_below : {n m : ℕ} → walk.GraphReaches g n m → known n ≡ true → known m ≡ true
    known_below {n} {m} (walk.at_once l) k = numbered.below_known n m k l
    known_below {n} {m} (walk.further {x = x} l r) k = known_below r (numbered.below_known n x k l)

    pub known_reached : (xs : List Step) → LeadToKnownNumbers known xs → (n : ℕ) → IsReachedInGraph g xs n
        → known n ≡ true
    known_reached xs ks n r = elim r.2 [
      | inl e ↦ subst (λ (m : ℕ). known m ≡ true) (sym e) (ks r.0 r.1)
      | inr q ↦ known_below q (ks r.0 r.1)
    ]

    -- ---- from numbers to names
    key_lead : (n m : ℕ) → known n ≡ true → GraphLeadsTo g n m
        → TableWordsLeadTo table (table_words_of_key table (key n)) (key m)
    key_lead n m k l = lead_of_step (table_words_of_key table (key n)) (graph_steps g n) (numbered.known_steps n k) m l

    way_of_keys : {n m : ℕ} → walk.GraphReaches g n m → known n ≡ true → TableNameReaches table (key n) (key m)
    way_of_keys {n} {m} (walk.at_once l) k = at_once (key_lead n m k l)
    way_of_keys {n} {m} (walk.further {x = x} l r) k =
        further (key_lead n x k l) (way_of_keys r (numbered.below_known n x k l))

    pub key_way : (n m : ℕ) → known n ≡ true → walk.GraphReaches g n m → TableNameReaches table (key n) (key m)
    key_way n m k r = way_of_keys r k

    pub key_reached :
        (us : List WordUse) (xs : List Step) → AreWords table key dead_end us xs → LeadToKnownNumbers known xs
        → (n : ℕ) → IsReachedInGraph g xs n → TableWordsReach table us (key n)
    key_reached us xs w ks n r =
        let l : TableWordsLeadTo table us (key r.0) = lead_of_step us xs w r.0 r.1 in
        elim r.2 [
          | inl e ↦ at_once (subst (λ (m : ℕ). TableWordsLeadTo table us (key m)) (sym e) l)
          | inr q ↦ further l (way_of_keys q (ks r.0 r.1))
        ]

    -- ---- from names to numbers
    onward : (xs : List Step) (n m : ℕ) → Contains xs (To n) → IsReachedInGraph g (graph_steps g n) m
        → IsReachedInGraph g xs m
    onward xs n m i r = (
      n,
      i,
      inr (elim r.2 [
        | inl e ↦ walk.at_once (subst (λ (x : ℕ). GraphLeadsTo g n x) (sym e) r.1)
        | inr q ↦ walk.further r.1 q
      ]),
    )

    module _ (closed_law : ClosedWordLaw) where
      closed_lead :
          (us : List WordUse) (xs : List Step) → AreWords table key dead_end us xs → AreClosedWords table us
          → (k : Key) → TableWordsLeadTo table us k → (n : ℕ) × (k ≡ key n) × Contains xs (To n)
      closed_lead us xs w closed k l =
          let u : TableWordLeadsInto table (IsClosedKey table) l.0 = (closed_law.words table us).0 closed l.0 l.1 in
          step_of_lead us xs w l.0 l.1 u.not_refused k l.2

      closed_target :
          (us : List WordUse) → AreClosedWords table us → (k : Key) → TableWordsLeadTo table us k
          → AreClosedWords table (table_words_of_key table k)
      closed_target us closed k l =
          let u : TableWordLeadsInto table (IsClosedKey table) l.0 = (closed_law.words table us).0 closed l.0 l.1 in
          (closed_law.key table k).0 (u.into k l.2)

      reached :
          {us : List WordUse} {m : Key} → TableWordsReach table us m → (xs : List Step)
          → AreWords table key dead_end us xs
          → LeadToKnownNumbers known xs → AreClosedWords table us → (n : ℕ) × (m ≡ key n) × IsReachedInGraph g xs n
      reached {us} {m} (at_once l) xs w ks closed =
          let s : (n : ℕ) × (m ≡ key n) × Contains xs (To n) = closed_lead us xs w closed m l in
          (s.0, s.1, (s.0, s.2, inl refl))
      reached {us} {m} (further {n = k} l r) xs w ks closed =
          let s : (n : ℕ) × (k ≡ key n) × Contains xs (To n) = closed_lead us xs w closed k l in
          let known_there : known s.0 ≡ true = ks s.0 s.2 in
          let words : AreWords table key dead_end (table_words_of_key table k) (graph_steps g s.0) =
          subst (λ (q : Key). AreWords table key dead_end (table_words_of_key table q) (graph_steps g s.0)) (sym s.1)
          (numbered.known_steps s.0 known_there) in
          let t : (n : ℕ) × (m ≡ key n) × IsReachedInGraph g (graph_steps g s.0) n =
          reached r (graph_steps g s.0) words (λ q i. numbered.below_known s.0 q known_there i)
          (closed_target us closed k l)
          in
          (t.0, t.1, onward xs s.0 t.0 s.2 t.2)

      pub number_reached :
          (us : List WordUse) (xs : List Step) → AreWords table key dead_end us xs → LeadToKnownNumbers known xs
          → AreClosedWords table us → (m : Key) → TableWordsReach table us m
          → (n : ℕ) × (m ≡ key n) × IsReachedInGraph g xs n
      number_reached us xs w ks closed m r = reached r xs w ks closed

      pub number_below :
          (n : ℕ) → known n ≡ true → IsClosedKey table (key n) → (m : Key) → TableNameReaches table (key n) m
          → (r : ℕ) × (m ≡ key r) × IsReachedInGraph g (To n ∷ []) r
      number_below n k closed m r =
          let words : AreClosedWords table (table_words_of_key table (key n)) =
          (closed_law.key table (key n)).0 closed in
          let t : (q : ℕ) × (m ≡ key q) × IsReachedInGraph g (graph_steps g n) q =
          reached r (graph_steps g n) (numbered.known_steps n k) (λ q i. numbered.below_known n q k i) words in
          (t.0, t.1, onward (To n ∷ []) n t.0 (member_first (To n) (To n) [] refl) t.2)
