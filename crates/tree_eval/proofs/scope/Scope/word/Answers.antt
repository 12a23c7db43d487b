use Rattle.tree_eval.proofs.Alone.{eval_word_at_place}
use Rattle.tree_eval.proofs.Calls.{reported_eval_meaning_is_usable}
use Rattle.tree_eval.proofs.scope.Scope.word.Goals as goal

pub put_word-requires : goal.put_word-requires
put_word-requires g c =
    let s = eval_word_at_place _ _ c.requires in
    reported_eval_meaning_is_usable _ _ _ _ (c.in_ok-meaning.ensures.reports s.0 s.1)
