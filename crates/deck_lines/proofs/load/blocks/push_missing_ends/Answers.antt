use Rattle.std.proofs.Common.{◌≡◌, ◌++◌, ◌∷◌, [], ℕ, List, ap, sym, ◌∙◌, reverse, map}
use Rattle.std.proofs.lemmas.Result.{err_from_is_err_and}
use Rattle.std.proofs.lemmas.List.{reverse-append}
use Rattle.deck_lines.specs.Blocks.{block_end_text}
use Rattle.deck_lines.specs.Excerpts.{Excerpt, missing_block_end}
use Rattle.deck_lines.specs.Loads.{draft_with_excerpt}
use Rattle.deck_lines.specs.Marks.{plain_store_line}
use Rattle.deck_lines.specs.Readings.{entry_in_store_line}
use Rattle.deck_lines.specs.declared.draft.Draft.{Draft}
use Rattle.deck_lines.specs.declared.line.Block.{Block}
use Rattle.deck_lines.specs.declared.line.DeckLine.{DeckLine}
use Rattle.deck_lines.proofs.ClosedFile.{block_end_line_defines_nothing}
use Rattle.deck_lines.proofs.DraftAppends.{excerpt_fails_with_part, extends_store_trans, draft_with_excerpt-in_turn}
use Rattle.deck_lines.proofs.DraftAppends.{draft_append_extends_store}
use Rattle.deck_lines.proofs.load.blocks.push_missing_ends.Goals as goal

-- the missing end line of the innermost block comes first
ends_of : (all blocks : List Block) (block : Block) → all ≡ blocks ++ block ∷ []
    → map missing_block_end (reverse all) ≡ missing_block_end block ∷ map missing_block_end (reverse blocks)
ends_of all blocks block e = ap (λ bs. map missing_block_end (reverse bs)) e
    ∙ ap (map missing_block_end) (reverse-append blocks (block ∷ []))

abbrev lone : List DeckLine → Excerpt
lone lines = record { lines = lines; notices = [] }

pub push_line-requires : goal.push_line-requires
push_line-requires c =
    sym (ap (λ (t : List ℕ). entry_in_store_line (plain_store_line c.in-Some.block.number t))
    (c.in_ok-text.ensures ∙ c.end_line_text.ensures) ∙ block_end_line_defines_nothing c.in-Some.block.number
    c.in-Some.block.ending)

pub loop-block-preserved : goal.loop-block-preserved
loop-block-preserved c =
    let all = ends_of c.loop-block.blocks.items c.pop.new.self.items c.in-Some.block c.in-Some.ensures.items in
    let text : c.in_ok-text.text ≡ block_end_text c.in-Some.block.ending = c.in_ok-text.ensures
    ∙ c.end_line_text.ensures in
    record {
      put =
          ap (λ (d : Draft). draft_with_excerpt d (lone (map missing_block_end (reverse c.pop.new.self.items))))
          c.in_ok-push_line.ensures.put.0
          ∙ draft_with_excerpt-in_turn c.loop-block.draft
          (lone (plain_store_line c.in-Some.block.number c.in_ok-text.text ∷ []))
          (lone (map missing_block_end (reverse c.pop.new.self.items)))
          ∙ ap (λ (t : List ℕ). draft_with_excerpt c.loop-block.draft
          (lone (plain_store_line c.in-Some.block.number t ∷ map missing_block_end (reverse c.pop.new.self.items))))
          text
          ∙ ap (λ ls. draft_with_excerpt c.loop-block.draft (lone ls)) (sym all)
          ∙ c.loop-block.invariant.put;
      extends = extends_store_trans _ _ _ c.loop-block.invariant.extends
          (draft_append_extends_store c.loop-block.draft c.push_line.new.self _ c.in_ok-push_line.ensures.put.0);
      within = c.in_ok-push_line.ensures.put.1;
    }

pub returns-in_err-push_line-clause-put : goal.returns-in_err-push_line-clause-put
returns-in_err-push_line-clause-put c =
    let p = err_from_is_err_and c.from_residual-in_err-push_line.result c.from_residual-in_err-push_line.ensures.1 in
    let all = ends_of c.loop-block.blocks.items c.pop.new.self.items c.in-Some.block c.in-Some.ensures.items in
    let text : c.in_ok-text.text ≡ block_end_text c.in-Some.block.ending = c.in_ok-text.ensures
    ∙ c.end_line_text.ensures in
    rw (p.1, p.2) (excerpt_fails_with_part c.loop-block.draft c.push_line.new.self c.args.draft.now c.push_line.new.self
    (lone (plain_store_line c.in-Some.block.number c.in_ok-text.text ∷ []))
    (lone (map missing_block_end (reverse c.args.blocks.items))) (map missing_block_end (reverse c.pop.new.self.items))
    _ c.in_err-push_line.ensures.put
    (ap (λ (t : List ℕ). c.loop-block.draft.store.lines ++ plain_store_line c.in-Some.block.number t
    ∷ map missing_block_end (reverse c.pop.new.self.items)) text
    ∙ ap (λ ls. c.loop-block.draft.store.lines ++ ls) (sym all)
    ∙ ap (λ (d : Draft). d.store.lines) c.loop-block.invariant.put))
