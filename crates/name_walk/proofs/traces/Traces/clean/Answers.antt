use Rattle.std.proofs.Common.{◌≡◌, ◌<◌, ◌∷◌, [], ◌++◌, ℕ, List, subst, sym, ◌∙◌, length-set}
use Rattle.std.proofs.lemmas.List.Elements.{Contains-push}
use Rattle.name_walk.specs.declared.mark.Mark.{Mark}
use Rattle.name_walk.specs.declared.mark.Mark.TheVariants.{Open}
use Rattle.name_walk.specs.Traces.{AreWalkNamesEntered}
use Rattle.name_walk.proofs.Marks.{entered_pop}
use Rattle.name_walk.proofs.traces.Traces.clean.Goals as goal

-- the removed name was the last entered name
last_entered : {marks : List Mark} {names : List ℕ} (rest : List ℕ) (n : ℕ) → AreWalkNamesEntered marks names
    → names ≡ rest ++ n ∷ []
    → AreWalkNamesEntered marks (rest ++ n ∷ [])
last_entered {marks} rest n h e = subst (λ (xs : List ℕ). AreWalkNamesEntered marks xs) e h

pub index_mut-requires : goal.index_mut-requires
index_mut-requires c =
    subst (λ (k : ℕ). c.in-Some.name < k) (sym c.loop-name.self-inside.marks.ok.0)
    ((last_entered c.pop.new.self.items c.in-Some.name c.loop-name.invariant.entered
    c.in-Some.ensures.items).names_within
    c.in-Some.name
    (Contains-push c.pop.new.self.items c.in-Some.name))

pub loop-name-preserved : goal.loop-name-preserved
loop-name-preserved c =
    let h = last_entered c.pop.new.self.items c.in-Some.name c.loop-name.invariant.entered c.in-Some.ensures.items in
    record {
      entered = entered_pop c.loop-name.self-inside.marks.items c.in-Some.name
          (h.names_within c.in-Some.name (Contains-push c.pop.new.self.items c.in-Some.name)) c.pop.new.self.items h;
      size = length-set c.loop-name.self-inside.marks.items c.in-Some.name Open ∙ c.loop-name.invariant.size;
      order = c.loop-name.invariant.order;
    }
