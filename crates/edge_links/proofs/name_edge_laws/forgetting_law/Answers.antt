use Rattle.std.proofs.Common.{ℕ, [], refl, arith, ◌∙◌}
use Rattle.edge_links.specs.AffectedNames.{AreAffectedByEdges}
use Rattle.edge_links.specs.NameGraphs.{NameEdgeGraph}
use Rattle.edge_links.proofs.NameEdgeCuts.{affected_by_both, affected_by_one, cleared_on, cut_on, in_alone}
use Rattle.edge_links.proofs.name_edge_laws.forgetting_law.Goals as goal

no_key : (g : NameEdgeGraph) (n : ℕ) → AreAffectedByEdges g [] n → ⊥
no_key g n (k, (i, l, e), a) = omega (arith, l)

pub returns : goal.returns
returns c = record {
  no_key_given = λ g. record {
    names = refl;
    uses = record { affected_cleared = λ x y i. absurd (no_key g x i); others_unchanged = λ x y free. refl };
    looks = record { affected_cleared = λ x y i. absurd (no_key g x i); others_unchanged = λ x y free. refl };
  };
  none_cleared = λ g marks. record {
    affected_cleared = λ x i. absurd (no_key g x i);
    others_unchanged = λ x free.
        refl;
  };
  one_key = λ g key n. (affected_by_one g key n, in_alone g key n);
  more_keys = λ keys key old mid new a b. record {
    names = b.names ∙ a.names;
    uses = cut_on _ _ _ (affected_by_both keys key old mid a) old.uses mid.uses new.uses a.uses b.uses;
    looks = cut_on _ _ _ (affected_by_both keys key old mid a) old.looks mid.looks new.looks a.looks b.looks;
  };
  more_cleared = λ keys key old mid marks then now a b d. cleared_on _ _ _ (affected_by_both keys key old mid a) marks
      then now b d;
}
