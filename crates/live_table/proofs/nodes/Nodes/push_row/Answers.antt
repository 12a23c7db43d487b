use Rattle.std.proofs.Common.{◌≡◌, ◌++◌, ◌∷◌, [], List, Result, Ok, Bool, cond, is_ok, ap, ◌∙◌}
use Rattle.live_table.proofs.nodes.Nodes.push_row.Goals as goal

-- a push that succeeded appended the item
appended : {A E : Type 0} (old new : List A) (x : A) (r : Result (Unit {0}) E) (u : Unit {0})
    → new ≡ cond (is_ok r) (old ++ x ∷ []) old → r ≡ Ok u → new ≡ old ++ x ∷ []
appended old new x r u put ok = put ∙ ap (λ (b : Bool). cond b (old ++ x ∷ []) old) (ap is_ok ok)

pub returns-clause-row : goal.returns-clause-row
returns-clause-row c k keys last =
    let old = c.args.self.now in
    record {
      callee = c.no_callee.result;
      steps = c.new.result;
      looks = c.new-2.result;
      no_steps = c.new.ensures;
      no_looks = c.new-2.ensures.items;
      name_added = λ i. record {
        keys = last i;
        entry_flags = (appended old.present.items _ _ _ _ c.push.ensures.items c.unwrap.ensures
            ∙ ap (λ (b : Bool). old.present.items ++ b ∷ []) c.is_some.ensures) i;
        callees = appended old.callees.items _ _ _ _ c.push-2.ensures.items c.unwrap-2.ensures i;
        outcomes = appended old.outcomes.items _ _ _ _ c.push-3.ensures.items c.unwrap-3.ensures i;
        graph = appended old.steps.items _ _ _ _ c.push-4.ensures.items c.unwrap-4.ensures i;
        looks = appended old.looks.items _ _ _ _ c.push-5.ensures.items c.unwrap-5.ensures i;
        settled_flags = appended old.settled.items _ _ _ _ c.push-6.ensures.items c.unwrap-6.ensures i;
        count = old.settled_count;
      };
    }
