use Rattle.std.proofs.Common.{◌||◌, length, arith, sym, ap, ◌∙◌}
use Rattle.std.specs.Str.{bytes_eq}
use Rattle.def_lines.specs.Words.{after_word_and_blanks, is_listed}
use Rattle.def_lines.specs.Parts.{begins_without_blank}
use Rattle.def_lines.proofs.TrimmedTexts.{begins_without_blank-after_blanks}
use Rattle.def_lines.proofs.WordLists.{begins_without_blank-after_word, is_listed-after_blanks, is_listed-first}
use Rattle.def_lines.proofs.WordLists.{is_listed-none, text_after_word_and_blanks_shorter}
use Rattle.def_lines.proofs.words.listed.Goals as goal

pub loop-value-init : goal.loop-value-init
loop-value-init c = record {
  begun = ap begins_without_blank c.trim_front-rest.ensures ∙ begins_without_blank-after_blanks c.args.values.now;
  same = ap (λ t. is_listed t c.args.value.now) c.trim_front-rest.ensures
      ∙ is_listed-after_blanks c.args.values.now c.args.value.now;
}

pub returns-then-eq : goal.returns-then-eq
returns-then-eq c =
    ap (λ t. t || is_listed (after_word_and_blanks c.loop-value.rest.now) c.args.value.now)
    (sym c.if-eq.true ∙ c.eq.ensures ∙ ap (λ w. bytes_eq w c.args.value.now) c.cut_word.ensures.word)
    ∙ sym (is_listed-first c.loop-value.rest.now c.args.value.now c.loop-value.invariant.begun
    (sym c.is_empty.ensures ∙ c.loop-value-test.true))
    ∙ c.loop-value.invariant.same

pub loop-value-smaller : goal.loop-value-smaller
loop-value-smaller c =
    let less = text_after_word_and_blanks_shorter c.loop-value.rest.now c.loop-value.invariant.begun
    (sym c.is_empty.ensures ∙ c.loop-value-test.true) in
    omega (arith, ap length c.cut_word.ensures.behind)

pub loop-value-preserved : goal.loop-value-preserved
loop-value-preserved c = record {
  begun = ap begins_without_blank c.cut_word.ensures.behind ∙ begins_without_blank-after_word c.loop-value.rest.now;
  same =
      ap (λ t. is_listed t c.args.value.now) c.cut_word.ensures.behind
      ∙ ap (λ t. t || is_listed (after_word_and_blanks c.loop-value.rest.now) c.args.value.now)
      (sym c.if-eq.false ∙ c.eq.ensures ∙ ap (λ w. bytes_eq w c.args.value.now) c.cut_word.ensures.word)
      ∙ sym (is_listed-first c.loop-value.rest.now c.args.value.now c.loop-value.invariant.begun
      (sym c.is_empty.ensures ∙ c.loop-value-test.true))
      ∙ c.loop-value.invariant.same;
}

pub returns : goal.returns
returns c =
    sym (sym c.loop-value.invariant.same
    ∙ is_listed-none c.loop-value.rest.now c.args.value.now (sym c.is_empty.ensures ∙ c.loop-value-test.false))
