use Rattle.std.proofs.Common.{rules, sym, ap, ◌∙◌, length, option_map, arith}
use Rattle.def_lines.specs.Words.{words_between_blanks}
use Rattle.def_entry.specs.declared.fault.EntryFault.TheVariants.{BadTable}
use Rattle.def_entry.specs.Outcomes.{or_entry_fault}
use Rattle.def_entry.specs.PointLists.{point_pairs_of_words, points_of, some_point_pairs, within_point_pair_limit}
use Rattle.def_entry.specs.LineViews.{seen_entry_text_pair}
use Rattle.def_entry.proofs.CutParts.{cut_entry_text_is_shorter}
use Rattle.def_entry.proofs.Parts.{entry_fault_of_part}
use Rattle.def_entry.proofs.PointRuns.{point_pairs-fault, point_pairs-init, point_pairs-last-run, point_pairs-more-runs}
use Rattle.def_entry.proofs.PointWords.{Few, few_point_pairs-is, onto}
use Rattle.def_entry.proofs.point_list.points_of.Goals as goal

pub loop-part-init : goal.loop-part-init
loop-part-init c =
    record {
      same =
          point_pairs-init c.new-points.result.items c.args.text.now c.trim_front.result.now
          c.behind_no_error-rest.result.now c.new-points.ensures.items c.trim_front.ensures
          c.behind_no_error-rest.ensures;
      few = omega (arith, ap length c.new-points.ensures.items);
    }

pub loop-part-smaller : goal.loop-part-smaller
loop-part-smaller c =
    cut_entry_text_is_shorter 44 c.loop-part.rest.now c.in-Some.part.now c.in-Some.behind.now
    (sym c.cut_at.ensures ∙ ap (option_map seen_entry_text_pair) c.in-Some.is)

pub loop-part-preserved : goal.loop-part-preserved
loop-part-preserved c =
    let more : Few (onto c.loop-part.points.items (some_point_pairs (words_between_blanks c.in-Some.part.now)))
    c.push_some_pairs.new.points.items =
    few_point_pairs-is (onto c.loop-part.points.items (some_point_pairs (words_between_blanks c.in-Some.part.now)))
    c.push_some_pairs.new.points.items
    (c.in_ok-push_some_pairs.ensures {u = tt}) in
    record {
      same =
          point_pairs-more-runs c.loop-part.points.items c.push_some_pairs.new.points.items c.loop-part.rest.now
          c.in-Some.part.now c.in-Some.behind.now
          (sym c.cut_at.ensures ∙ ap (option_map seen_entry_text_pair) c.in-Some.is) more.is
          ∙ c.loop-part.invariant.same;
      few = more.within;
    }

pub returns-in_err-push_some_pairs : goal.returns-in_err-push_some_pairs
returns-in_err-push_some_pairs c =
    let fault = entry_fault_of_part c.in_err-push_some_pairs.field-0.0
    (or_entry_fault BadTable
    (within_point_pair_limit
    (onto c.loop-part.points.items (some_point_pairs (words_between_blanks c.in-Some.part.now)))))
    (or_entry_fault BadTable (within_point_pair_limit (points_of c.args.text.now)))
    (λ said. ap (λ found. or_entry_fault BadTable (within_point_pair_limit found)) (sym c.loop-part.invariant.same)
    ∙ point_pairs-fault c.loop-part.points.items c.loop-part.rest.now c.in-Some.part.now c.in-Some.behind.now
    c.in_err-push_some_pairs.field-0.0
    (sym c.cut_at.ensures ∙ ap (option_map seen_entry_text_pair) c.in-Some.is) said)
    (c.in_err-push_some_pairs.ensures {u = tt}) in
    search rules

pub returns-in_err-push_pairs : goal.returns-in_err-push_pairs
returns-in_err-push_pairs c =
    let fault = entry_fault_of_part c.in_err-push_pairs.field-0.0
    (or_entry_fault BadTable (within_point_pair_limit
    (onto c.loop-part.points.items (point_pairs_of_words (words_between_blanks c.loop-part.rest.now)))))
    (or_entry_fault BadTable (within_point_pair_limit (points_of c.args.text.now)))
    (λ said. ap (λ found. or_entry_fault BadTable (within_point_pair_limit found)) (sym c.loop-part.invariant.same)
    ∙ point_pairs-last-run c.loop-part.points.items c.loop-part.rest.now
    (sym c.cut_at.ensures ∙ ap (option_map seen_entry_text_pair) c.in_default.is) ∙ said)
    (c.in_err-push_pairs.ensures {u = tt}) in
    search rules

pub returns : goal.returns
returns c =
    ap (λ found. or_entry_fault BadTable (within_point_pair_limit found)) (sym c.loop-part.invariant.same)
    ∙ point_pairs-last-run c.loop-part.points.items c.loop-part.rest.now
    (sym c.cut_at.ensures ∙ ap (option_map seen_entry_text_pair) c.in_default.is)
    ∙ c.in_ok-push_pairs.ensures {u = tt}
