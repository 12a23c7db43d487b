use Rattle.session.proofs.AnsweredLines.{session_answer_examples}
use Rattle.session.proofs.laws.answer_examples.Goals as goal

pub returns : goal.returns
returns c = session_answer_examples c.grant_examples_law.ensures
