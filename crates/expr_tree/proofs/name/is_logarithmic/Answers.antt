use Rattle.std.proofs.Common.{[], ◌∷◌, codes, refl}
use Rattle.expr_tree.proofs.ShortWords.{short_bytes_are_not_among}
use Rattle.expr_tree.proofs.name.is_logarithmic.Goals as goal

pub returns-in_default : goal.returns-in_default
returns-in_default c =
    short_bytes_are_not_among 1 (codes "ln" ∷ codes "log" ∷ codes "log2" ∷ codes "exp" ∷ [])
    c.args.bytes.now refl c.in_default.len_below
