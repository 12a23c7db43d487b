use Rattle.std.proofs.Common.{◌<◌, ◌++◌, [], ◌∷◌, ◌∙◌, ap, length, refl, subst, sym}
use Rattle.value_sources.specs.LineFileNames.{AreLineFilesBelow, line_file_names_at}
use Rattle.value_sources.proofs.LineFileNaming.{last_below, last_named, line_files_below_next, still_below}
use Rattle.value_sources.proofs.line_files.LineFiles.push.Goals as goal

pub invariant_of-self-then-has_name : goal.invariant_of-self-then-has_name
invariant_of-self-then-has_name c =
    subst (λ xs. AreLineFilesBelow (length c.self.inside.names) xs) (sym c.in_ok-push.ensures.items)
    (line_files_below_next (length c.self.inside.names) c.args.near c.self.inside.numbers.items c.self.invariant
    (subst (λ names. c.args.near < length names) c.as_slice.ensures (c.if-has_name.ensures.within refl)))

pub invariant_of-self-in_err-push-3 : goal.invariant_of-self-in_err-push-3
invariant_of-self-in_err-push-3 c =
    subst (λ xs. AreLineFilesBelow (length c.push-2.new.self) xs) (sym c.in_err-push-3.ensures.items)
    (still_below c.self.inside.names c.push-2.new.self c.in_ok-text.text c.in_ok-push-2.ensures.ok
    c.self.inside.numbers.items c.self.invariant)

pub invariant_of-self-2 : goal.invariant_of-self-2
invariant_of-self-2 c =
    subst (λ xs. AreLineFilesBelow (length c.push-2.new.self) xs) (sym c.in_ok-push-3.ensures.items)
    (line_files_below_next (length c.push-2.new.self) c.len-number.result c.self.inside.numbers.items
    (still_below c.self.inside.names c.push-2.new.self c.in_ok-text.text c.in_ok-push-2.ensures.ok
    c.self.inside.numbers.items c.self.invariant)
    (last_below c.self.inside.names c.push-2.new.self c.in_ok-text.text c.in_ok-push-2.ensures.ok
    c.len-number.result c.len-number.ensures))

pub returns : goal.returns
returns c =
    ap (λ xs. line_file_names_at c.push-2.new.self xs) c.in_ok-push-3.ensures.items
    ∙ last_named c.self.inside.names c.push-2.new.self c.in_ok-text.text c.in_ok-push-2.ensures.ok
    c.len-number.result c.len-number.ensures c.self.inside.numbers.items c.self.invariant
    ∙ ap (λ ns. ns ++ c.in_ok-text.text ∷ []) c.self.view_is
    ∙ ap (λ name. c.args.self.now ++ name ∷ []) c.in_ok-text.ensures
