use Rattle.std.proofs.Common.{ℕ, List, Option, subst}
use Rattle.session.specs.Parts.{IsSessionAnswerGiven}
use Rattle.session.specs.Sessions.{session_and_files, session_in}
use Rattle.session.specs.Steps.{session_conformable_answer}
use Rattle.session.proofs.workspace.Workspace.answer_conformable.Goals as goal

pub returns-in_default-clause-answer : goal.returns-in_default-clause-answer
returns-in_default-clause-answer g c = λ m.
    subst (λ (p : Option (List ℕ)). IsSessionAnswerGiven
    (session_conformable_answer p (session_and_files (session_in c.args.self.now) m))
    c.take_from.result (session_in c.take_from.new.self) c.args.steps.now c.take_from.new.steps)
    (c.in_default.ensures {u = tt}).value (c.take_from.ensures.answer m)
