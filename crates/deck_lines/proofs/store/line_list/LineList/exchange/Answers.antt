use Rattle.std.proofs.Common.{◌≡◌, length, take, drop, ap, ◌∙◌, arith}
use Rattle.deck_lines.specs.Limits.{stored_text_len}
use Rattle.deck_lines.proofs.MarkLimits.{store_marks_len}
use Rattle.deck_lines.proofs.MarkReplacement.{put_lines_fit_store_limit, exchanged_are_marked, gone_are_marked}
use Rattle.deck_lines.proofs.MarkReplacement.{rest_is_marked}
use Rattle.deck_lines.proofs.MarkReplacement.{gone_text_is_small}
use Rattle.deck_lines.proofs.store.line_list.LineList.exchange.Goals as goal

pub marked_texts_len-len-requires : goal.marked_texts_len-len-requires
marked_texts_len-len-requires c =
    omega (
      arith,
      ap stored_text_len c.as_slice.ensures,
      put_lines_fit_store_limit c.args.self.now c.args.put c.args.at c.args.cut c.requires.within,
    )

pub exchange_in_list-requires-clause-places : goal.exchange_in_list-requires-clause-places
exchange_in_list-requires-clause-places c =
    omega (
      arith,
      c.requires.places,
      ap length c.self.view_is,
      store_marks_len c.self.inside.lines c.self.inside.marks.listed c.self.invariant.mark_count,
    )

pub overflow_add-self : goal.overflow_add-self
overflow_add-self c =
    omega (
      arith,
      c.self.invariant.small,
      c.marked_texts_len-len.ensures,
      ap stored_text_len c.as_slice.ensures,
      put_lines_fit_store_limit c.args.self.now c.args.put c.args.at c.args.cut c.requires.within,
    )

pub marked_texts_len-requires : goal.marked_texts_len-requires
marked_texts_len-requires c =
    let s = c.self.inside in
    let gone : c.as_slice-2.result.now ≡ take c.args.cut (drop c.args.at c.args.self.now) =
    gone_are_marked s.lines s.marks.listed s.bytes c.self.invariant c.args.self.now c.args.put c.args.at c.args.cut
    c.self.view_is c.requires.places c.requires.within _ (c.as_slice-2.ensures ∙ c.in_ok-gone.ensures.gone) in
    omega (
      arith,
      ap stored_text_len gone,
      c.self.invariant.small,
      gone_text_is_small s.lines s.marks.listed s.bytes c.self.invariant c.args.self.now c.args.put c.args.at c.args.cut
          c.self.view_is c.requires.places c.requires.within,
    )

pub overflow_sub-self : goal.overflow_sub-self
overflow_sub-self c =
    let s = c.self.inside in
    let gone : c.as_slice-2.result.now ≡ take c.args.cut (drop c.args.at c.args.self.now) =
    gone_are_marked s.lines s.marks.listed s.bytes c.self.invariant c.args.self.now c.args.put c.args.at c.args.cut
    c.self.view_is c.requires.places c.requires.within _ (c.as_slice-2.ensures ∙ c.in_ok-gone.ensures.gone) in
    omega (
      arith,
      c.marked_texts_len.ensures,
      ap stored_text_len gone,
      gone_text_is_small s.lines s.marks.listed s.bytes c.self.invariant c.args.self.now c.args.put c.args.at c.args.cut
          c.self.view_is c.requires.places c.requires.within,
    )

pub invariant_of-self-2 : goal.invariant_of-self-2
invariant_of-self-2 c =
    let s = c.self.inside in
    rest_is_marked s.lines s.marks.listed s.bytes c.self.invariant c.args.self.now c.args.put c.args.at c.args.cut
    c.self.view_is c.requires.places c.requires.within _ _ c.marked_texts_len-len.result c.marked_texts_len.result
    c.as_slice-2.result.now c.in_ok-gone.ensures.ok.0 c.in_ok-gone.ensures.ok.1
    (c.marked_texts_len-len.ensures ∙ ap stored_text_len c.as_slice.ensures)
    (c.as_slice-2.ensures ∙ c.in_ok-gone.ensures.gone) c.marked_texts_len.ensures

pub returns-clause-ok : goal.returns-clause-ok
returns-clause-ok c =
    let s = c.self.inside in
    exchanged_are_marked s.lines s.marks.listed s.bytes c.self.invariant c.args.self.now c.args.put c.args.at c.args.cut
    c.self.view_is c.requires.places c.requires.within c.exchange_in_list.new.lines
    c.exchange_in_list.new.marks.listed c.in_ok-gone.ensures.ok.0 c.in_ok-gone.ensures.ok.1

pub returns-clause-gone : goal.returns-clause-gone
returns-clause-gone c =
    let s = c.self.inside in
    gone_are_marked s.lines s.marks.listed s.bytes c.self.invariant c.args.self.now c.args.put c.args.at c.args.cut
    c.self.view_is c.requires.places c.requires.within _ c.in_ok-gone.ensures.gone
