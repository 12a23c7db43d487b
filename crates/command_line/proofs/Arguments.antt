-- Arguments that are added one after another.
use Rattle.std.proofs.Common.{◌≡◌, ◌<◌, ◌+◌, ◌∷◌, ℕ, List, length, drop, drop-cons, get_or, map, add-one, subst, sym}
use Rattle.clap.specs.Words.{App, Rule, with_rule}
use Rattle.command_line.specs.Rules.{command_app_with_rules}

-- after one argument is added, the remaining ones give the same command as they did with it
pub command_argument_added : {A : Type 0} (rule : A → Rule) (app next all : App) (arguments : List A) (i : ℕ) (d : A)
    → i < length arguments → next ≡ with_rule app (rule (get_or arguments i d))
    → command_app_with_rules app (map rule (drop i arguments)) ≡ all
    → command_app_with_rules next (map rule (drop (i + 1) arguments)) ≡ all
command_argument_added rule app next all arguments i d within added before =
    let there : drop i arguments ≡ get_or arguments i d ∷ drop (i + 1) arguments = rw (add-one, drop-cons arguments i d) in
    subst (λ (a : App). command_app_with_rules a (map rule (drop (i + 1) arguments)) ≡ all) (sym added)
    (subst (λ rest. command_app_with_rules app (map rule rest) ≡ all) there before)
