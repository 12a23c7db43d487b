use Rattle.std.proofs.Common.{◌≡◌, ◌∷◌, true, false, Some, None, is_some, Option, [], ◌++◌, refl, sym}
use Rattle.std.proofs.Common.{ap, subst, ◌∙◌, arith, add-one}
use Rattle.std.specs.Option.{option_copied}
use Rattle.expr_tree.specs.Front.{SumTreeAt, tokens_from}
use Rattle.expr_tree.specs.Grammar.{word_syntax}
use Rattle.expr_tree.specs.Rules.{WantsOperand, tokens_fit}
use Rattle.expr_tree.specs.TokenViews.{power_token_numeral}
use Rattle.expr_tree.specs.Syntax as tree
use Rattle.expr_tree.specs.Tokens.{Tilde}
use Rattle.expr_tree.specs.Trees.{syntax}
use Rattle.expr_tree.specs.declared.operator.Scale.TheVariants.{Multiply}
use Rattle.expr_tree.specs.declared.operator.Sign.TheVariants as signs
use Rattle.expr_tree.proofs.Fits.{unsigned_tokens_begin_operand}
use Rattle.expr_tree.proofs.Fronts.{word_token_is_atom, word_power_token_is_atom, bar_tokens_are_atom}
use Rattle.expr_tree.proofs.Fronts.{numeral_token_is_atom, call_tokens_are_atom, inverse_tokens_are_atom}
use Rattle.expr_tree.proofs.Fronts.{root_tokens_are_atom, group_tokens_are_atom, bare_atom_tokens_are_power}
use Rattle.expr_tree.proofs.Fronts.{raised_atom_tokens_are_power, power_read_is_exponent}
use Rattle.expr_tree.proofs.Fronts.{signed_tokens_are_exponent, signed_tokens_are_juxtaposition}
use Rattle.expr_tree.proofs.Fronts.{sign_token_wants_operand, caret_token_wants_operand, sum_before_close_is_in_parens}
use Rattle.expr_tree.proofs.Stands.{read_token_at_place, operand_has_token, root_tokens_at_place, bar_tokens_at_place}
use Rattle.expr_tree.proofs.Stands.{wanted_head_has_token, close_paren_at_place, sign_token_at_place}
use Rattle.expr_tree.proofs.Stands.{scale_token_at_place, caret_token_at_place, head_token_wants_operand}
use Rattle.expr_tree.proofs.Stands.{open_token_wants_operand, wanted_head_token_wants_operand}
use Rattle.expr_tree.proofs.Steps.{one_parsed_member, first_parsed_member, next_parsed_member, all_parsed_members}
use Rattle.expr_tree.proofs.Steps.{one_parsed_factor, first_parsed_factor, next_parsed_factor, all_parsed_factors}
use Rattle.expr_tree.proofs.Steps.{parsed_factor_wants_operand, one_parsed_term, first_parsed_term, next_parsed_term}
use Rattle.expr_tree.proofs.Steps.{all_parsed_terms, parsed_term_wants_operand}
use Rattle.expr_tree.proofs.Views.{syntax_of_number, syntax_of_juxtaposed, syntax_of_product, syntax_of_sum}
use Rattle.expr_tree.proofs.descent.+rules.Goals as goal

no_some : {A : Type 0} (o : Option A) → is_some o ≡ false → o ≡ None
no_some None h = refl
no_some (Some x) h = cc

not_none : {A : Type 0} (o : Option A) → is_some o ≡ true → o ≡ None → ⊥
not_none None h e = cc
not_none (Some x) h e = cc

pub atom_at-bounds-tokens-at : goal.atom_at-bounds-tokens-at
atom_at-bounds-tokens-at t c = omega (arith, operand_has_token c.args.tokens.now c.args.at c.requires.begun)

pub atom_at-closed_sum_at-requires-in-Root : goal.atom_at-closed_sum_at-requires-in-Root
atom_at-closed_sum_at-requires-in-Root t c =
    let r = root_tokens_at_place c.args.tokens.now c.args.at c.args.opened c.in-Root.kind _
    (operand_has_token c.args.tokens.now c.args.at c.requires.begun) c.in-Root.is c.requires.fit in
    (omega (arith, r.within), (omega (arith, c.requires.deep), r.fit))

pub atom_at-returns-in_ok-bar_tree-in-Some : goal.atom_at-returns-in_ok-bar_tree-in-Some
atom_at-returns-in_ok-bar_tree-in-Some t c =
    let l = operand_has_token c.args.tokens.now c.args.at c.requires.begun in
    let r = bar_tokens_at_place c.args.tokens.now c.args.at c.in-Numeral.n c.in-Some.denominator l
    (read_token_at_place c.args.tokens.now c.args.at _ _ l c.in-Numeral.is) c.in-Some.ensures in (
      bar_tokens_are_atom (option_copied c.args.binder) c.args.opened c.in-Numeral.n c.in-Some.denominator _ _ _ r.is
          c.requires.fit c.in_ok-bar_tree-in-Some.ensures,
      omega arith,
      r.within,
    )

pub atom_at-returns-in-None : goal.atom_at-returns-in-None
atom_at-returns-in-None t c =
    let l = operand_has_token c.args.tokens.now c.args.at c.requires.begun in (
      numeral_token_is_atom (option_copied c.args.binder) c.args.opened c.in-Numeral.n _ _ _
          (read_token_at_place c.args.tokens.now c.args.at _ _ l c.in-Numeral.is) (sym c.in-None.ensures) c.requires.fit
          (syntax_of_number c.in-Numeral.n),
      omega arith,
      omega (arith, l),
    )

pub atom_at-returns-in_ok-word_tree-in-Word : goal.atom_at-returns-in_ok-word_tree-in-Word
atom_at-returns-in_ok-word_tree-in-Word t c =
    let l = operand_has_token c.args.tokens.now c.args.at c.requires.begun in (
      word_token_is_atom (option_copied c.args.binder) c.args.opened c.in-Word.word.now _ _ _
          (read_token_at_place c.args.tokens.now c.args.at _ _ l c.in-Word.is) c.requires.fit
          c.in_ok-word_tree-in-Word.ensures,
      omega arith,
      omega (arith, l),
    )

pub atom_at-returns-in_ok-tree-in-WordWithPower : goal.atom_at-returns-in_ok-tree-in-WordWithPower
atom_at-returns-in_ok-tree-in-WordWithPower t c =
    let l = operand_has_token c.args.tokens.now c.args.at c.requires.begun in (
      word_power_token_is_atom (option_copied c.args.binder) c.args.opened c.in-WordWithPower.word.now
          (power_token_numeral c.in-WordWithPower.digit) _ _ _ _
          (read_token_at_place c.args.tokens.now c.args.at _ _ l c.in-WordWithPower.is) c.requires.fit
          refl
          (c.in_ok-tree-in-WordWithPower.ensures
          ∙ ap (λ n. tree.Power (word_syntax (option_copied c.args.binder) c.in-WordWithPower.word.now) (tree.Number n))
          c.numeral.ensures),
      omega arith,
      omega (arith, l),
    )

pub atom_at-returns-in_ok-call_tree-in-Head : goal.atom_at-returns-in_ok-call_tree-in-Head
atom_at-returns-in_ok-call_tree-in-Head t c = (
  call_tokens_are_atom (option_copied c.args.binder) c.args.opened c.in-Head.word.now _ _ _ _ _
      (read_token_at_place c.args.tokens.now c.args.at _ _
      (operand_has_token c.args.tokens.now c.args.at c.requires.begun)
      c.in-Head.is)
      c.in_ok-operand-in-Head.ensures.0 c.in_ok-call_tree-in-Head.ensures,
  omega (arith, c.in_ok-operand-in-Head.ensures.1),
  c.in_ok-operand-in-Head.ensures.2,
)

pub atom_at-returns-in_ok-root_tree-in-Root : goal.atom_at-returns-in_ok-root_tree-in-Root
atom_at-returns-in_ok-root_tree-in-Root t c =
    let r = root_tokens_at_place c.args.tokens.now c.args.at c.args.opened c.in-Root.kind _
    (operand_has_token c.args.tokens.now c.args.at c.requires.begun) c.in-Root.is c.requires.fit in (
      root_tokens_are_atom (option_copied c.args.binder) c.args.opened c.in-Root.kind _ _ _ _ _ r.is
          c.in_ok-radicand-in-Root.ensures.0 c.in_ok-root_tree-in-Root.ensures,
      omega (arith, c.in_ok-radicand-in-Root.ensures.1),
      c.in_ok-radicand-in-Root.ensures.2,
    )

pub atom_at-returns-in_ok-group_tree-in-Open : goal.atom_at-returns-in_ok-group_tree-in-Open
atom_at-returns-in_ok-group_tree-in-Open t c = (
  group_tokens_are_atom (option_copied c.args.binder) c.args.opened _ _ _ _ _
      (read_token_at_place c.args.tokens.now c.args.at _ _
      (operand_has_token c.args.tokens.now c.args.at c.requires.begun)
      c.in-Open.is)
      c.in_ok-sum-in-Open.ensures.0 c.in_ok-group_tree-in-Open.ensures,
  omega (arith, c.in_ok-sum-in-Open.ensures.1),
  c.in_ok-sum-in-Open.ensures.2,
)

pub closed_sum_at-returns : goal.closed_sum_at-returns
closed_sum_at-returns t c =
    let p = subst (λ i. SumTreeAt (option_copied c.args.binder) i (tokens_from c.args.tokens.now c.args.at)
    (syntax c.in_ok-sum.sum) (tokens_from c.args.tokens.now c.in_ok-sum.next))
    (add-one c.args.opened) c.in_ok-sum.ensures.0 in
    let q = close_paren_at_place c.args.tokens.now c.in_ok-sum.next c.args.opened p.stop p.fit in (
      sum_before_close_is_in_parens (option_copied c.args.binder) c.args.opened _ _ _ _ p q.0.is q.1,
      omega (arith, c.in_ok-sum.ensures.1),
      omega (arith, q.0.within),
    )

pub exponent_at-overflow_add-at : goal.exponent_at-overflow_add-at
exponent_at-overflow_add-at t c =
    let p = sign_token_at_place c.args.tokens.now c.args.at c.in-Some.sign (sym c.in-Some.ensures) in
    omega (arith, p.within)

pub exponent_at-exponent_at-requires : goal.exponent_at-exponent_at-requires
exponent_at-exponent_at-requires t c =
    let p = sign_token_at_place c.args.tokens.now c.args.at c.in-Some.sign (sym c.in-Some.ensures) in (
      omega (arith, p.within),
      (omega (arith, c.requires.deep), sign_token_wants_operand c.args.opened c.in-Some.sign _ _ p.is c.requires.fit),
    )

pub exponent_at-returns-in_ok-signed_tree-in-Some : goal.exponent_at-returns-in_ok-signed_tree-in-Some
exponent_at-returns-in_ok-signed_tree-in-Some t c =
    let p = sign_token_at_place c.args.tokens.now c.args.at c.in-Some.sign (sym c.in-Some.ensures) in (
      signed_tokens_are_exponent (option_copied c.args.binder) c.args.opened c.in-Some.sign _ _ _ _ _ p.is
          c.in_ok-operand-in-Some.ensures.0 c.in_ok-signed_tree-in-Some.ensures,
      omega (arith, c.in_ok-operand-in-Some.ensures.1),
      c.in_ok-operand-in-Some.ensures.2,
    )

pub exponent_at-returns-in-None : goal.exponent_at-returns-in-None
exponent_at-returns-in-None t c =
    power_read_is_exponent (option_copied c.args.binder) c.args.opened c.args.tokens.now c.args.at c.power_at.result
    c.power_at.ensures

pub inverse_at-bounds-tokens-at : goal.inverse_at-bounds-tokens-at
inverse_at-bounds-tokens-at t c =
    omega (arith, wanted_head_has_token c.args.tokens.now c.args.at c.args.opened c.requires.fit)

pub inverse_at-returns : goal.inverse_at-returns
inverse_at-returns t c = (
  inverse_tokens_are_atom (option_copied c.args.binder) c.args.opened c.in-Head.word.now _ _ _ _ _
      (ap (λ y. Tilde ∷ y)
      (read_token_at_place c.args.tokens.now c.args.at _ _
      (wanted_head_has_token c.args.tokens.now c.args.at c.args.opened c.requires.fit)
      c.in-Head.is)) c.in_ok-operand-in-Head.ensures.0 c.in_ok-inverse_tree-in-Head.ensures,
  omega (arith, c.in_ok-operand-in-Head.ensures.1),
  c.in_ok-operand-in-Head.ensures.2,
)

pub juxtaposition_at-overflow_add-at : goal.juxtaposition_at-overflow_add-at
juxtaposition_at-overflow_add-at t c =
    let p = sign_token_at_place c.args.tokens.now c.args.at c.in-Some.sign (sym c.in-Some.ensures) in
    omega (arith, p.within)

pub juxtaposition_at-juxtaposition_at-requires : goal.juxtaposition_at-juxtaposition_at-requires
juxtaposition_at-juxtaposition_at-requires t c =
    let p = sign_token_at_place c.args.tokens.now c.args.at c.in-Some.sign (sym c.in-Some.ensures) in (
      omega (arith, p.within),
      (omega (arith, c.requires.deep), sign_token_wants_operand c.args.opened c.in-Some.sign _ _ p.is c.requires.fit),
    )

pub juxtaposition_at-returns-in_ok-signed_tree-in-Some : goal.juxtaposition_at-returns-in_ok-signed_tree-in-Some
juxtaposition_at-returns-in_ok-signed_tree-in-Some t c =
    let p = sign_token_at_place c.args.tokens.now c.args.at c.in-Some.sign (sym c.in-Some.ensures) in (
      signed_tokens_are_juxtaposition (option_copied c.args.binder) c.args.opened c.in-Some.sign _ _ _ _ _ p.is
          c.in_ok-operand-in-Some.ensures.0 c.in_ok-signed_tree-in-Some.ensures,
      omega (arith, c.in_ok-operand-in-Some.ensures.1),
      c.in_ok-operand-in-Some.ensures.2,
    )

pub power_at-returns-then-not-has_caret : goal.power_at-returns-then-not-has_caret
power_at-returns-then-not-has_caret t c = (
  bare_atom_tokens_are_power (option_copied c.args.binder) c.args.opened _ _ _ c.in_ok-base.ensures.0
      (sym c.if-not-has_caret.ensures),
  c.in_ok-base.ensures.1,
  c.in_ok-base.ensures.2,
)

pub power_at-exponent_at-requires : goal.power_at-exponent_at-requires
power_at-exponent_at-requires t c =
    let p = caret_token_at_place c.args.tokens.now c.in_ok-base.next (sym c.if-not-has_caret.ensures) in (
      omega (arith, p.within, c.in_ok-base.ensures.1),
      (
        omega (arith, c.requires.deep, c.in_ok-base.ensures.1),
        caret_token_wants_operand c.args.opened _ _ p.is c.in_ok-base.ensures.0.fit,
      ),
    )

pub power_at-returns : goal.power_at-returns
power_at-returns t c =
    let p = caret_token_at_place c.args.tokens.now c.in_ok-base.next (sym c.if-not-has_caret.ensures) in (
      raised_atom_tokens_are_power (option_copied c.args.binder) c.args.opened _ _ _ _ _ _ _ c.in_ok-base.ensures.0 p.is
          c.in_ok-exponent.ensures.0 c.in_ok-power_tree.ensures,
      omega (arith, c.in_ok-base.ensures.1, c.in_ok-exponent.ensures.1),
      c.in_ok-exponent.ensures.2,
    )

pub powers_at-returns-then-not-has_operand : goal.powers_at-returns-then-not-has_operand
powers_at-returns-then-not-has_operand t c = (
  one_parsed_member (option_copied c.args.binder) c.args.opened _ _ _ c.in_ok-first.ensures.0
      (sym c.if-not-has_operand.ensures),
  c.in_ok-first.ensures.1,
  c.in_ok-first.ensures.2,
)

pub powers_at-loop-alloc-init : goal.powers_at-loop-alloc-init
powers_at-loop-alloc-init t c =
    record {
      read = first_parsed_member (option_copied c.args.binder) c.args.opened _ _ _ _ c.in_ok-first.ensures.0
          (sym c.if-not-has_operand.ensures)
          (c.in_ok-push.ensures.ok ∙ ap (λ v. v ++ syntax c.in_ok-first.first ∷ []) c.new-members.ensures);
      moved = c.in_ok-first.ensures.1;
      within = c.in_ok-first.ensures.2;
    }

pub powers_at-loop-alloc-preserved : goal.powers_at-loop-alloc-preserved
powers_at-loop-alloc-preserved t c =
    record {
      read = next_parsed_member (option_copied c.args.binder) c.args.opened _ _ _ _ _ _ c.loop-alloc.invariant.read
          c.in_ok-member.ensures.0 c.in_ok-push-2.ensures.ok;
      moved = omega (arith, c.loop-alloc.invariant.moved, c.in_ok-member.ensures.1);
      within = c.in_ok-member.ensures.2;
    }

pub powers_at-returns : goal.powers_at-returns
powers_at-returns t c = (
  all_parsed_members (option_copied c.args.binder) c.args.opened _ _ _ _ c.loop-alloc.invariant.read
      (sym c.loop-alloc-test.ensures) (syntax_of_juxtaposed c.loop-alloc.members),
  c.loop-alloc.invariant.moved,
  c.loop-alloc.invariant.within,
)

pub product_at-returns-then-is_none : goal.product_at-returns-then-is_none
product_at-returns-then-is_none t c =
    let none = sym c.scale_at.ensures ∙ no_some c.scale_at.result c.if-is_none.ensures in (
      one_parsed_factor (option_copied c.args.binder) c.args.opened _ _ _ c.in_ok-first.ensures.0 none,
      c.in_ok-first.ensures.1,
      c.in_ok-first.ensures.2,
    )

pub sum_at-returns-then-is_none : goal.sum_at-returns-then-is_none
sum_at-returns-then-is_none t c =
    let none = sym c.sign_at.ensures ∙ no_some c.sign_at.result c.if-is_none.ensures in (
      one_parsed_term (option_copied c.args.binder) c.args.opened _ _ _ c.in_ok-first.ensures.0 none,
      c.in_ok-first.ensures.1,
      c.in_ok-first.ensures.2,
    )

pub sum_at-loop-sign-init : goal.sum_at-loop-sign-init
sum_at-loop-sign-init t c =
    record {
      read = first_parsed_term (option_copied c.args.binder) c.args.opened _ _ _ _ c.in_ok-first.ensures.0
          (λ none. not_none c.sign_at.result c.if-is_none.ensures (c.sign_at.ensures ∙ none))
          (c.in_ok-push.ensures.ok ∙ ap (λ v. v ++ (signs.Plus, syntax c.in_ok-first.first) ∷ []) c.new-terms.ensures);
      moved = c.in_ok-first.ensures.1;
      within = c.in_ok-first.ensures.2;
    }

pub sum_at-product_at-requires-in-Some : goal.sum_at-product_at-requires-in-Some
sum_at-product_at-requires-in-Some t c =
    let p = sign_token_at_place c.args.tokens.now c.loop-sign.next c.in-Some.sign (sym c.in-Some.ensures) in (
      omega (arith, p.within, c.loop-sign.invariant.moved),
      (
        omega (arith, c.requires.deep, c.loop-sign.invariant.moved),
        parsed_term_wants_operand c.args.opened c.in-Some.sign _ _ p.is c.loop-sign.invariant.read.fit,
      ),
    )

pub sum_at-loop-sign-preserved : goal.sum_at-loop-sign-preserved
sum_at-loop-sign-preserved t c =
    let p = sign_token_at_place c.args.tokens.now c.loop-sign.next c.in-Some.sign (sym c.in-Some.ensures) in
    record {
      read = next_parsed_term (option_copied c.args.binder) c.args.opened _ _ _ _ c.in-Some.sign _ _ _
          c.loop-sign.invariant.read p.is c.in_ok-member.ensures.0 c.in_ok-push-2.ensures.ok;
      moved = omega (arith, c.loop-sign.invariant.moved, c.in_ok-member.ensures.1);
      within = c.in_ok-member.ensures.2;
    }

pub sum_at-returns : goal.sum_at-returns
sum_at-returns t c = (
  all_parsed_terms (option_copied c.args.binder) c.args.opened _ _ _ _ c.loop-sign.invariant.read
      (sym c.in_default.ensures)
      (syntax_of_sum c.loop-sign.terms),
  c.loop-sign.invariant.moved,
  c.loop-sign.invariant.within,
)

pub product_at-loop-scale-init : goal.product_at-loop-scale-init
product_at-loop-scale-init t c =
    record {
      read = first_parsed_factor (option_copied c.args.binder) c.args.opened _ _ _ _ c.in_ok-first.ensures.0
          (λ none. not_none c.scale_at.result c.if-is_none.ensures (c.scale_at.ensures ∙ none))
          (c.in_ok-push.ensures.ok ∙ ap (λ v. v ++ (Multiply, syntax c.in_ok-first.first) ∷ []) c.new-factors.ensures);
      moved = c.in_ok-first.ensures.1;
      within = c.in_ok-first.ensures.2;
    }

pub product_at-juxtaposition_at-requires-in-Some : goal.product_at-juxtaposition_at-requires-in-Some
product_at-juxtaposition_at-requires-in-Some t c =
    let p = scale_token_at_place c.args.tokens.now c.loop-scale.next c.in-Some.scale (sym c.in-Some.ensures) in (
      omega (arith, p.within, c.loop-scale.invariant.moved),
      (
        omega (arith, c.requires.deep, c.loop-scale.invariant.moved),
        parsed_factor_wants_operand c.args.opened c.in-Some.scale _ _ p.is c.loop-scale.invariant.read.fit,
      ),
    )

pub product_at-loop-scale-preserved : goal.product_at-loop-scale-preserved
product_at-loop-scale-preserved t c =
    let p = scale_token_at_place c.args.tokens.now c.loop-scale.next c.in-Some.scale (sym c.in-Some.ensures) in
    record {
      read = next_parsed_factor (option_copied c.args.binder) c.args.opened _ _ _ _ c.in-Some.scale _ _ _
          c.loop-scale.invariant.read p.is c.in_ok-member.ensures.0 c.in_ok-push-2.ensures.ok;
      moved = omega (arith, c.loop-scale.invariant.moved, c.in_ok-member.ensures.1);
      within = c.in_ok-member.ensures.2;
    }

pub product_at-returns : goal.product_at-returns
product_at-returns t c = (
  all_parsed_factors (option_copied c.args.binder) c.args.opened _ _ _ _ c.loop-scale.invariant.read
      (sym c.in_default.ensures) (syntax_of_product c.loop-scale.factors),
  c.loop-scale.invariant.moved,
  c.loop-scale.invariant.within,
)

pub juxtaposition_at-powers_at-requires : goal.juxtaposition_at-powers_at-requires
juxtaposition_at-powers_at-requires t c =
    let none = sym c.sign_at.ensures ∙ c.in-None.is in (
      omega arith,
      (c.requires.deep, (c.requires.fit, unsigned_tokens_begin_operand c.args.opened _ c.requires.fit none)),
    )

pub exponent_at-power_at-requires : goal.exponent_at-power_at-requires
exponent_at-power_at-requires t c =
    let none = sym c.sign_at.ensures ∙ c.in-None.is in (
      omega arith,
      (c.requires.deep, (c.requires.fit, unsigned_tokens_begin_operand c.args.opened _ c.requires.fit none)),
    )

pub atom_at-closed_sum_at-requires : goal.atom_at-closed_sum_at-requires
atom_at-closed_sum_at-requires t c =
    let l = operand_has_token c.args.tokens.now c.args.at c.requires.begun in (
      omega (arith, l),
      (
        omega (arith, c.requires.deep),
        head_token_wants_operand c.args.tokens.now c.args.at c.args.opened c.in-Head.word.now _ _ refl l c.in-Head.is
            c.requires.fit,
      ),
    )

pub atom_at-closed_sum_at-requires-in-Open : goal.atom_at-closed_sum_at-requires-in-Open
atom_at-closed_sum_at-requires-in-Open t c =
    let l = operand_has_token c.args.tokens.now c.args.at c.requires.begun in (
      omega (arith, l),
      (
        omega (arith, c.requires.deep),
        open_token_wants_operand c.args.tokens.now c.args.at c.args.opened _ l c.in-Open.is c.requires.fit,
      ),
    )

pub atom_at-inverse_at-requires : goal.atom_at-inverse_at-requires
atom_at-inverse_at-requires t c =
    let l = operand_has_token c.args.tokens.now c.args.at c.requires.begun in (
      omega (arith, l),
      (
        omega (arith, c.requires.deep),
        subst (λ y. tokens_fit WantsOperand c.args.opened y ≡ true)
            (read_token_at_place c.args.tokens.now c.args.at _ _ l c.in-Tilde.is) c.requires.fit,
      ),
    )

pub inverse_at-closed_sum_at-requires : goal.inverse_at-closed_sum_at-requires
inverse_at-closed_sum_at-requires t c =
    let l = wanted_head_has_token c.args.tokens.now c.args.at c.args.opened c.requires.fit in (
      omega (arith, l),
      (
        omega (arith, c.requires.deep),
        wanted_head_token_wants_operand c.args.tokens.now c.args.at c.args.opened c.in-Head.word.now _ _ refl l
            c.in-Head.is c.requires.fit,
      ),
    )
