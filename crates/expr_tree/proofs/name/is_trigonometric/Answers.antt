use Rattle.std.proofs.Common.{[], ◌∷◌, codes, refl}
use Rattle.expr_tree.proofs.ShortWords.{short_bytes_are_not_among}
use Rattle.expr_tree.proofs.name.is_trigonometric.Goals as goal

pub returns-in_default : goal.returns-in_default
returns-in_default c =
    short_bytes_are_not_among 2 (codes "sin" ∷ codes "cos" ∷ codes "tan" ∷ codes "sinh" ∷ codes "cosh" ∷ codes "tanh" ∷ [])
    c.args.bytes.now refl c.in_default.len_below
