use Rattle.tree_eval.specs.declared.holder.Holder.TheVariants.{Of}
use Rattle.tree_eval.specs.declared.holder.Part.TheVariants.{Forward}
use Rattle.tree_eval.proofs.Reports.{eval_function_reported, eval_meaning_by_report}
use Rattle.tree_eval.proofs.Targets.{eval_words_have_first_word, reported_callable_has_number}
use Rattle.tree_eval.proofs.function.target_of.Goals as goal

pub unreachable-requires : goal.unreachable-requires
unreachable-requires g c =
    let s = eval_words_have_first_word (g.E.Env.words c.args.env.now (Of c.args.id Forward)) c.requires.some in
    let f = c.requires.word s.0 s.1 in
    reported_callable_has_number (g.E.Env.has c.args.env.now) (g.E.Env.callee c.args.env.now)
    (g.E.Env.means c.args.env.now s.0) c.meaning.result f.0
    (eval_meaning_by_report _ _ _ _ (c.meaning.ensures.reports s.0 s.1)) f.1 c.in_default.not-Function

pub returns-clause-has : goal.returns-clause-has
returns-clause-has g c =
    let s = eval_words_have_first_word (g.E.Env.words c.args.env.now (Of c.args.id Forward)) c.requires.some in
    eval_function_reported (g.E.Env.has c.args.env.now) (g.E.Env.callee c.args.env.now)
    (g.E.Env.means c.args.env.now s.0) c.in-Function.target (c.in-Function.ensures.reports s.0 s.1)
