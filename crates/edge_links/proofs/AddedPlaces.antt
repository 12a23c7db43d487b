-- The view of the places while places are added.
use Rattle.std.proofs.Common.{◌≡◌, ℕ, suc, ◌+◌, ◌-◌, ◌<◌, false, List, [], ◌∷◌, ◌++◌, length, set, get_or, refl, sym}
use Rattle.std.proofs.Common.{◌∙◌, ap, subst, arith, inl, inr, get_or-set_same, get_or-set_other, length-set}
use Rattle.std.proofs.lemmas.Bool.{cases_eq}
use Rattle.std.proofs.lemmas.List.{get_or_append_left, length-append, get_or_push, nil_from_length}
use Rattle.std.proofs.Math.Seq.{get_or-append_seam}
use Rattle.edge_links.specs.Changes.{AreLinksBegun, link_owners_with_both}
use Rattle.edge_links.specs.Edges.{LinkEdge, LinkGraph}
use Rattle.edge_links.specs.Owners.{LinkOwners, AreLinkEdges, IsLinkHead, link_owned_count, link_owners_with_head}
use Rattle.edge_links.specs.PlaceView.{link_edge_at, link_edges_below, link_graph_of, AreLinks}
use Rattle.edge_links.specs.Times.{times}
use Rattle.edge_links.proofs.OwnedCounts.{link_place_zero_owns_itself, moved_link_raises_owned_count}
use Rattle.edge_links.proofs.FirstEdges.{user, key_of, head_is_no_link_edge, free_place_is_no_link_edge}
use Rattle.edge_links.proofs.FirstEdges.{same_link_edges_below, same_owners_give_same_link_edge}
use Rattle.edge_links.proofs.OwnerChanges.{grown_links_keep_spare}
use Rattle.edge_links.proofs.WaitingPlaces.{new_link_place_is_not_waiting}

-- graphs with equal parts are equal
equal_parts_make_equal_link_graph : (n m : ℕ) (es ds : List LinkEdge) (s r : ℕ) → n ≡ m → es ≡ ds → s ≡ r
    → ◌≡◌ {A = LinkGraph} (record { nodes = n; edges = es; spare = s }) (record { nodes = m; edges = ds; spare = r })
equal_parts_make_equal_link_graph n m es ds s r e f g = λ i. record { nodes = e i; edges = f i; spare = g i }

-- place 0 is added
module _ (s t : LinkOwners) (nodes : List ℕ) (links : AreLinks s nodes) (begun : AreLinksBegun s t) where
  pub begun_links : AreLinks t nodes
  begun_links = elim begun [
    | inl h ↦ subst (λ (x : LinkOwners). AreLinks x nodes) (sym h) links
    | inr h ↦
        let one : length t.users ≡ 1 = let a = ap (λ (x : LinkOwners). length x.users) h.1
        ∙ length-append s.users (0 ∷ []) in let b = h.0 in
        omega arith in
        record {
          size = let a = ap (λ (x : LinkOwners). length x.names) h.1 ∙ length-append s.names (0 ∷ []) in let b =
              links.size in let d = h.0 in omega arith;
          places = λ i l. absurd (let a = (links.places i l).0.0 in let b = h.0 in omega arith);
          head_of_name = λ x w. absurd (let a = w.0 in w.2 (omega arith));
          idle = λ x. ap (λ (o : LinkOwners). get_or o.waits x false) h.1
              ∙ (new_link_place_is_not_waiting s.waits x ∙ links.idle x);
        }
  ]

  pub begun_shown : link_graph_of t nodes ≡ link_graph_of s nodes
  begun_shown = elim begun [
    | inl h ↦ ap (λ (x : LinkOwners). link_graph_of x nodes) h
    | inr h ↦
        let none : s.users ≡ [] = nil_from_length s.users h.0 in
        let first : t.users ≡ 0 ∷ [] = ap (λ (x : LinkOwners). x.users) h.1 ∙ ap (λ xs. xs ++ 0 ∷ []) none in
        equal_parts_make_equal_link_graph _ _ _ _ _ _ refl
        (ap (λ m. link_edges_below t m) (ap length first)
        ∙ (ap (λ es. es ++ []) (free_place_is_no_link_edge t 0 (ap (λ xs. get_or xs 0 0) first)) ∙ ap
        (λ m. link_edges_below s m) (sym h.0)))
        (ap (λ xs. times 0 xs - 1) first ∙ sym (ap (λ xs. times 0 xs - 1) none))
  ]

-- one more head is added
module _ (s t : LinkOwners) (nodes : List ℕ) (n v : ℕ) (e : AreLinkEdges s.users s.keys) (links : AreLinks s nodes)
    (some : 0 < length s.users)
    (is : n ≡ length s.users) (more_is : t ≡ link_owners_with_head s n v) where
  us : t.users ≡ s.users ++ n ∷ []
  us = ap (λ (x : LinkOwners). x.users) more_is

  ks : t.keys ≡ s.keys ++ n ∷ []
  ks = ap (λ (x : LinkOwners). x.keys) more_is

  ns : t.names ≡ s.names ++ v ∷ []
  ns = ap (λ (x : LinkOwners). x.names) more_is

  waits : (x : ℕ) → get_or t.waits x false ≡ get_or s.waits x false
  waits x = ap (λ (o : LinkOwners). get_or o.waits x false) more_is ∙ new_link_place_is_not_waiting s.waits x

  pub grown_size : length t.users ≡ n + 1
  grown_size = let a = ap length us ∙ length-append s.users (n ∷ []) in omega arith

  names_size : length t.names ≡ n + 1
  names_size = let a = ap length ns ∙ length-append s.names (v ∷ []) in let b = links.size in omega arith

  u_old : (p : ℕ) → p < n → user t p ≡ user s p
  u_old p l = ap (λ xs. get_or xs p 0) us ∙ get_or_append_left s.users (n ∷ []) 0 p (omega arith)

  k_old : (p : ℕ) → p < n → key_of t p ≡ key_of s p
  k_old p l = ap (λ xs. get_or xs p 0) ks ∙ get_or_append_left s.keys (n ∷ []) 0 p (let a = e.keys_size in omega arith)

  name_old : (p : ℕ) → p < n → get_or t.names p 0 ≡ get_or s.names p 0
  name_old p l = ap (λ xs. get_or xs p 0) ns
      ∙ get_or_append_left s.names (v ∷ []) 0 p (let a = links.size in omega arith)

  pub grown_head : user t n ≡ n
  grown_head = ap (λ xs. get_or xs n 0) us ∙ get_or_push s.users n 0 n (sym is)

  old_at : (p : ℕ) → p < n → link_edge_at t p ≡ link_edge_at s p
  old_at p l =
      same_owners_give_same_link_edge s t p (u_old p l) (k_old p l)
      (name_old (user s p) (let a = e.owners_within p (omega arith) in omega arith))
      (name_old (key_of s p) (let a = e.key_within p (omega arith) in omega arith))

  pub grown_edges_shown : link_edges_below t (length t.users) ≡ link_edges_below s (length s.users)
  grown_edges_shown =
      ap (λ m. link_edges_below t m) (grown_size ∙ plus n)
      ∙ (ap (λ es. es ++ link_edges_below t n) (head_is_no_link_edge t n grown_head)
      ∙ (same_link_edges_below s t n old_at ∙ ap (λ m. link_edges_below s m) is))
    where
      plus : (k : ℕ) → k + 1 ≡ suc k
      plus k = omega arith

  name_new : get_or t.names n 0 ≡ v
  name_new = ap (λ xs. get_or xs n 0) ns
      ∙ (ap (λ k. get_or (s.names ++ v ∷ []) k 0) (is ∙ sym links.size) ∙ get_or-append_seam s.names v [] 0)

  -- the new head owns only itself
  pub grown_alone : (p : ℕ) → p < length t.users → (user t p ≡ n → p ≡ n) × (key_of t p ≡ n → p ≡ n)
  grown_alone p l = elim (cases_eq p n) [
    | inl q ↦ (λ _. q, λ _. q)
    | inr ne ↦
        let low : p < n = let a = grown_size in omega arith in (
          λ h. absurd (let a = u_old p low in let b = e.owners_within p (omega arith) in omega arith),
          λ h. absurd
              (let a = k_old p low in let b = e.key_within p (omega arith) in omega arith),
        )
  ]

  pub grown_zero : n ≡ 0 → ⊥
  grown_zero z = omega arith

  head_old : (x : ℕ) → x < n → IsLinkHead t x → IsLinkHead s x
  head_old x l h = (omega arith, sym (u_old x l) ∙ h.1, h.2)

  old_head : (x : ℕ) → IsLinkHead s x → IsLinkHead t x
  old_head x h = (let a = grown_size in let b = h.0 in omega arith, u_old x (let b = h.0 in omega arith) ∙ h.1, h.2)

  -- the new head is a new node
  module _ (nodes2 : List ℕ) (named : v ≡ length nodes) (more : nodes2 ≡ nodes ++ n ∷ []) where
    node_old : (i : ℕ) → i < length nodes → get_or nodes2 i 0 ≡ get_or nodes i 0
    node_old i l = ap (λ xs. get_or xs i 0) more ∙ get_or_append_left nodes (n ∷ []) 0 i l

    node_new : get_or nodes2 v 0 ≡ n
    node_new = ap (λ xs. get_or xs v 0) more
        ∙ (ap (λ k. get_or (nodes ++ n ∷ []) k 0) named ∙ get_or-append_seam nodes n [] 0)

    nodes_size : length nodes2 ≡ length nodes + 1
    nodes_size = ap length more ∙ length-append nodes (n ∷ [])

    pub node_links : AreLinks t nodes2
    node_links = record {
      size = names_size ∙ sym grown_size;
      places = λ i l. elim (cases_eq i v) [
        | inl q ↦ subst (λ k. IsLinkHead t (get_or nodes2 k 0) × (get_or t.names (get_or nodes2 k 0) 0 ≡ k)) (sym q)
            (subst (λ x. IsLinkHead t x × (get_or t.names x 0 ≡ v)) (sym node_new)
            ((let a = grown_size in omega arith, grown_head, grown_zero), name_new))
        | inr ne ↦
            let low : i < length nodes = let a = nodes_size in omega arith in
            let o = links.places i low in
            subst (λ x. IsLinkHead t x × (get_or t.names x 0 ≡ i)) (sym (node_old i low))
            (old_head (get_or nodes i 0) o.0, name_old (get_or nodes i 0) (let a = o.0.0 in omega arith) ∙ o.1)
      ];
      head_of_name = λ x h. elim (cases_eq x n) [
        | inl q ↦ subst (λ y. (get_or t.names y 0 < length nodes2) × (get_or nodes2 (get_or t.names y 0) 0 ≡ y)) (sym q)
            (let a = name_new in let b = nodes_size in omega arith, ap (λ k. get_or nodes2 k 0) name_new ∙ node_new)
        | inr ne ↦
            let low : x < n = let a = h.0 in let b = grown_size in omega arith in
            let o = links.head_of_name x (head_old x low h) in
            let same : get_or t.names x 0 ≡ get_or s.names x 0 = name_old x low in (
              let a = o.0 in let b = nodes_size in omega arith,
              ap (λ k. get_or nodes2 k 0) same
                  ∙ (node_old (get_or s.names x 0) o.0 ∙ o.1),
            )
      ];
      idle = λ x. waits x ∙ links.idle x;
    }

    pub node_shown : link_graph_of t nodes2
        ≡ record {
          nodes = length nodes + 1;
          edges = link_edges_below s (length s.users);
          spare =
              link_owned_count 0 s.users - 1;
        }
    node_shown = equal_parts_make_equal_link_graph _ _ _ _ _ _ nodes_size grown_edges_shown
        (ap (λ xs. times 0 xs - 1) us ∙ sym (grown_links_keep_spare s.users n (times 0 s.users - 1) is refl))

  -- the new head becomes a free place
  module _ (w : LinkOwners) (freed : w ≡ link_owners_with_both t n 0 0) where
    wu : w.users ≡ set t.users n 0
    wu = ap (λ (x : LinkOwners). x.users) freed

    wk : w.keys ≡ set t.keys n 0
    wk = ap (λ (x : LinkOwners). x.keys) freed

    wn : w.names ≡ t.names
    wn = ap (λ (x : LinkOwners). x.names) freed

    free_size : length w.users ≡ n + 1
    free_size = ap length wu ∙ (length-set t.users n 0 ∙ grown_size)

    uf_old : (p : ℕ) → p < n → user w p ≡ user s p
    uf_old p l = ap (λ xs. get_or xs p 0) wu ∙ (get_or-set_other t.users n p 0 0 (λ q. omega arith) ∙ u_old p l)

    kf_old : (p : ℕ) → p < n → key_of w p ≡ key_of s p
    kf_old p l = ap (λ xs. get_or xs p 0) wk ∙ (get_or-set_other t.keys n p 0 0 (λ q. omega arith) ∙ k_old p l)

    wname_old : (p : ℕ) → p < n → get_or w.names p 0 ≡ get_or s.names p 0
    wname_old p l = ap (λ xs. get_or xs p 0) wn ∙ name_old p l

    uf_new : user w n ≡ 0
    uf_new = ap (λ xs. get_or xs n 0) wu ∙ get_or-set_same t.users n 0 0 (let a = grown_size in omega arith)

    pub free_links : AreLinks w nodes
    free_links = record {
      size = ap length wn ∙ (names_size ∙ sym free_size);
      places = λ i l.
          let o = links.places i l in
          let low : get_or nodes i 0 < n = let a = o.0.0 in omega arith in (
            (let a = free_size in omega arith, uf_old (get_or nodes i 0) low ∙ o.0.1, o.0.2),
            wname_old (get_or nodes i 0) low ∙ o.1,
          );
      head_of_name = λ x h. elim (cases_eq x n) [
        | inl q ↦ absurd (h.2 (sym h.1 ∙ (ap (user w) q ∙ uf_new)))
        | inr ne ↦
            let low : x < n = let a = h.0 in let b = free_size in omega arith in
            let o = links.head_of_name x (omega arith, sym (uf_old x low) ∙ h.1, h.2) in
            let same : get_or w.names x 0 ≡ get_or s.names x 0 = wname_old x low in
            (let a = o.0 in omega arith, ap (λ k. get_or nodes k 0) same ∙ o.1)
      ];
      idle = λ x. ap (λ (o : LinkOwners). get_or o.waits x false) freed ∙ (waits x ∙ links.idle x);
    }

    free_at : (p : ℕ) → p < n → link_edge_at w p ≡ link_edge_at s p
    free_at p l =
        same_owners_give_same_link_edge s w p (uf_old p l) (kf_old p l)
        (wname_old (user s p) (let a = e.owners_within p (omega arith) in omega arith))
        (wname_old (key_of s p) (let a = e.key_within p (omega arith) in omega arith))

    pub free_shown : link_graph_of w nodes
        ≡ record {
          nodes = length nodes;
          edges = link_edges_below s (length s.users);
          spare =
              (link_owned_count 0 s.users - 1) + 1;
        }
    free_shown = equal_parts_make_equal_link_graph _ _ _ _ _ _ refl
        (ap (λ m. link_edges_below w m) (free_size ∙ plus n)
        ∙ (ap (λ es. es ++ link_edges_below w n) (free_place_is_no_link_edge w n uf_new)
        ∙ (same_link_edges_below s w n free_at ∙ ap (λ m. link_edges_below s m) is)))
        (ap (λ xs. times 0 xs - 1) wu ∙ spare_more)
      where
        plus : (k : ℕ) → k + 1 ≡ suc k
        plus k = omega arith

        spare_more : times 0 (set t.users n 0) - 1 ≡ (times 0 s.users - 1) + 1
        spare_more =
            let a = moved_link_raises_owned_count 0 t.users n (let z = grown_size in omega arith)
            (λ z. grown_zero (sym grown_head ∙ z)) in
            let b : times 0 t.users - 1 ≡ times 0 s.users - 1 =
            ap (λ xs. times 0 xs - 1) us ∙ sym (grown_links_keep_spare s.users n (times 0 s.users - 1) is refl) in
            let d = link_place_zero_owns_itself s.users some e.zero_owner in
            let f = link_place_zero_owns_itself t.users (let z = grown_size in omega arith)
            (u_old 0 (omega arith) ∙ e.zero_owner)
            in omega arith
