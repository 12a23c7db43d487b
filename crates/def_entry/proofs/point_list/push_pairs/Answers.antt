use Rattle.std.proofs.Common.{rules, sym, ap, inr, ◌∙◌, ◌≡◌, ◌≤◌, ◌==◌, ◌∷◌, [], length, Err, false, arith}
use Rattle.std.proofs.Common.{length-append}
use Rattle.def_lines.specs.Parts.{begins_without_blank}
use Rattle.def_lines.specs.Words.{words_between_blanks}
use Rattle.def_lines.proofs.WordLists.{begins_without_blank-after_word, words_between_blanks-after_blanks}
use Rattle.def_lines.proofs.TrimmedTexts.{begins_without_blank-after_blanks}
use Rattle.def_entry.specs.declared.fault.EntryFault.TheVariants.{BadTable}
use Rattle.def_entry.specs.Outcomes.{or_entry_fault}
use Rattle.def_entry.specs.PointLists.{most_point_pairs, point_pairs_of_words, within_point_pair_limit}
use Rattle.def_entry.proofs.PointWords.{few_point_pairs-at, onto, point_pairs-many, point_pairs-more}
use Rattle.def_entry.proofs.PointWords.{point_pairs-no_first, point_pairs-no_second}
use Rattle.def_entry.proofs.PointWords.{point_pair-shorter-rest, point_pairs-nil}
use Rattle.def_entry.proofs.point_list.push_pairs.Goals as goal

pub loop-rest-init : goal.loop-rest-init
loop-rest-init c = record {
  begun = ap begins_without_blank c.trim_front-rest.ensures ∙ begins_without_blank-after_blanks c.args.text.now;
  same = ap (λ ws. onto c.args.points.now.items (point_pairs_of_words ws))
      (ap words_between_blanks c.trim_front-rest.ensures ∙ words_between_blanks-after_blanks c.args.text.now);
  few = c.requires;
}

pub returns-then-len-ge-MOST_POINTS : goal.returns-then-len-ge-MOST_POINTS
returns-then-len-ge-MOST_POINTS c =
    let some : (length c.loop-rest.rest.now == 0) ≡ false = sym c.is_empty.ensures ∙ c.loop-rest-test.true in
    let full : most_point_pairs ≤ length c.loop-rest.points.items =
    omega (arith, c.if-len-ge-MOST_POINTS.true, c.len.ensures) in
    inr
    (ap (λ found. or_entry_fault BadTable (within_point_pair_limit found)) (sym c.loop-rest.invariant.same)
    ∙ ap (or_entry_fault BadTable)
    (point_pairs-many c.loop-rest.points.items c.loop-rest.rest.now c.loop-rest.invariant.begun some full))

pub returns-in_err-x : goal.returns-in_err-x
returns-in_err-x c =
    let some : (length c.loop-rest.rest.now == 0) ≡ false = sym c.is_empty.ensures ∙ c.loop-rest-test.true in
    let none : or_entry_fault BadTable
    (within_point_pair_limit
    (onto c.args.points.now.items (point_pairs_of_words (words_between_blanks c.args.text.now))))
    ≡ Err BadTable =
    ap (λ found. or_entry_fault BadTable (within_point_pair_limit found))
    (sym c.loop-rest.invariant.same
    ∙ point_pairs-no_first c.loop-rest.points.items c.loop-rest.rest.now c.cut_word.result.0.now
    c.loop-rest.invariant.begun
    some c.cut_word.ensures.word
    (sym c.number.ensures ∙ (c.in_err-x.ensures {u = tt}).ok_part)) in
    search rules

pub returns-in_err-y : goal.returns-in_err-y
returns-in_err-y c =
    let some : (length c.loop-rest.rest.now == 0) ≡ false = sym c.is_empty.ensures ∙ c.loop-rest-test.true in
    let none : or_entry_fault BadTable
    (within_point_pair_limit
    (onto c.args.points.now.items (point_pairs_of_words (words_between_blanks c.args.text.now))))
    ≡ Err BadTable =
    ap (λ found. or_entry_fault BadTable (within_point_pair_limit found))
    (sym c.loop-rest.invariant.same
    ∙ point_pairs-no_second c.loop-rest.points.items c.loop-rest.rest.now c.cut_word.result.1.now
    c.cut_word-in-loop-rest.result.0.now c.loop-rest.invariant.begun some
    c.cut_word.ensures.behind c.cut_word-in-loop-rest.ensures.word
    (sym c.number-in-loop-rest.ensures ∙ (c.in_err-y.ensures {u = tt}).ok_part)) in
    search rules

pub loop-rest-smaller : goal.loop-rest-smaller
loop-rest-smaller c =
    let some : (length c.loop-rest.rest.now == 0) ≡ false = sym c.is_empty.ensures ∙ c.loop-rest-test.true in
    point_pair-shorter-rest c.loop-rest.rest.now c.cut_word.result.1.now c.cut_word-in-loop-rest.result.1.now
    c.loop-rest.invariant.begun some c.cut_word.ensures.behind c.cut_word-in-loop-rest.ensures.behind

pub loop-rest-preserved : goal.loop-rest-preserved
loop-rest-preserved c =
    let some : (length c.loop-rest.rest.now == 0) ≡ false = sym c.is_empty.ensures ∙ c.loop-rest-test.true in
    record {
      begun = ap begins_without_blank c.cut_word-in-loop-rest.ensures.behind
          ∙ begins_without_blank-after_word c.cut_word.result.1.now;
      same =
          point_pairs-more c.loop-rest.points.items c.push.new.self.items c.loop-rest.rest.now c.cut_word.result.0.now
          c.cut_word.result.1.now
          c.cut_word-in-loop-rest.result.0.now c.cut_word-in-loop-rest.result.1.now c.in_ok-x.x c.in_ok-y.y
          c.loop-rest.invariant.begun some
          c.cut_word.ensures.word c.cut_word.ensures.behind
          (sym c.number.ensures ∙ (c.in_ok-x.ensures {u = tt}).ok_part)
          c.cut_word-in-loop-rest.ensures.word c.cut_word-in-loop-rest.ensures.behind
          (sym c.number-in-loop-rest.ensures ∙ (c.in_ok-y.ensures {u = tt}).ok_part)
          ((c.in_ok-push.ensures {u = tt}).items)
          ∙ c.loop-rest.invariant.same;
      few =
          omega (
            arith,
            c.if-len-ge-MOST_POINTS.false,
            c.len.ensures,
            ap length ((c.in_ok-push.ensures {u = tt}).items),
            length-append c.loop-rest.points.items ((c.in_ok-x.x, c.in_ok-y.y) ∷ []),
          );
    }

pub returns : goal.returns
returns c =
    ap (λ found. or_entry_fault BadTable (within_point_pair_limit found))
    (sym c.loop-rest.invariant.same
    ∙ point_pairs-nil c.loop-rest.points.items c.loop-rest.rest.now (sym c.is_empty.ensures ∙ c.loop-rest-test.false))
    ∙ ap (or_entry_fault BadTable) (few_point_pairs-at c.loop-rest.points.items c.loop-rest.invariant.few)
