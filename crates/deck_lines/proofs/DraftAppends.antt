-- Drafts, to which one excerpt after another is appended.
use Rattle.std.proofs.Common.{◌≡◌, ◌++◌, ◌∷◌, [], ℕ, List, true, refl, sym, ap, ◌∙◌, arith, length, append_assoc}
use Rattle.std.proofs.Common.{length-append, Result, Ok, Err, Some, OnOk, OnErr}
use Rattle.std.proofs.lemmas.Bool.Decides.{nat_tests}
use Rattle.std.proofs.lemmas.List.Sums.{sum_by-append}
use Rattle.deck_lines.specs.ClosedBlocks.{blocks_after, AreBlocksClosed}
use Rattle.deck_lines.specs.Excerpts.{Excerpt, excerpts_in_turn}
use Rattle.deck_lines.specs.Limits.{pass_store_limit}
use Rattle.deck_lines.specs.Loads.{ExtendsStore, IsExcerptPut, LeadsBetweenBlocks, draft_with_excerpt}
use Rattle.deck_lines.specs.Loads.{key_numbers_by_definitions, store_with_lines}
use Rattle.deck_lines.specs.Names.{KeyNumberNames}
use Rattle.deck_lines.specs.Readings.{entry_in_store_line}
use Rattle.deck_lines.specs.Stores.{LineStoreView, key_numbers_by_definition}
use Rattle.deck_lines.specs.declared.draft.Draft.{Draft}
use Rattle.deck_lines.specs.declared.draft.LoadFault.{LoadFault}
use Rattle.deck_lines.specs.declared.draft.LoadFault.TheVariants.{DeckFull, ReadFailed, OutOfMemory}
use Rattle.deck_lines.specs.declared.line.DeckLine.{DeckLine}
use Rattle.deck_lines.specs.declared.line.Ending.{Ending}
use Rattle.deck_lines.proofs.ClosedFile.{blocks_after-append, blocks_after_with_more_open}

-- appending the empty list does not change a list
append_nil : {A : Type 0} (xs : List A) → xs ++ [] ≡ xs
append_nil [] = refl
append_nil (x ∷ xs) = ap (λ t. x ∷ t) (append_nil xs)

-- the names after two lists of lines are those after the second list, starting with the names after the first
pub key_numbers_by_definitions-append : (xs ys : List DeckLine) (names : KeyNumberNames)
    → key_numbers_by_definitions names (xs ++ ys) ≡ key_numbers_by_definitions (key_numbers_by_definitions names xs) ys
key_numbers_by_definitions-append [] ys names = refl
key_numbers_by_definitions-append (x ∷ xs) ys names = key_numbers_by_definitions-append xs ys
    (key_numbers_by_definition names (entry_in_store_line x))

-- appending two lists of lines in turn is appending both together
pub store_with_lines-append : (store : LineStoreView) (xs ys : List DeckLine)
    → store_with_lines (store_with_lines store xs) ys ≡ store_with_lines store (xs ++ ys)
store_with_lines-append store xs ys =
    let made : List DeckLine → KeyNumberNames → LineStoreView = λ lines names.
    record { lines = lines; names = names } in
    ap (λ lines. made lines (key_numbers_by_definitions (key_numbers_by_definitions store.names xs) ys))
    (append_assoc store.lines xs ys)
    ∙ ap (made (store.lines ++ (xs ++ ys))) (sym (key_numbers_by_definitions-append xs ys store.names))

-- appending no lines does not change a store
pub store_with_lines-nil : (store : LineStoreView) → store_with_lines store [] ≡ store
store_with_lines-nil store = ap (λ lines. record { lines = lines; names = store.names }) (append_nil store.lines)

-- appending two excerpts in turn is appending both together
pub draft_with_excerpt-in_turn : (draft : Draft) (a b : Excerpt)
    → draft_with_excerpt (draft_with_excerpt draft a) b ≡ draft_with_excerpt draft (excerpts_in_turn a b)
draft_with_excerpt-in_turn draft a b =
    let made : LineStoreView → List (List ℕ) → Draft = λ store notices. record { store = store; notices = notices } in
    ap (λ store. made store ((draft.notices ++ a.notices) ++ b.notices))
    (store_with_lines-append draft.store a.lines b.lines)
    ∙ ap (made (store_with_lines draft.store (a.lines ++ b.lines))) (append_assoc draft.notices a.notices b.notices)

-- lines that pass a limit still pass it after more lines are appended
pub store_limit_passed_with_more : (xs ys : List DeckLine) → pass_store_limit xs ≡ true
    → pass_store_limit (xs ++ ys) ≡ true
unfolding pass_store_limit
store_limit_passed_with_more xs ys h =
    grind (arith, nat_tests, length-append {A = DeckLine} xs ys, sum_by-append (λ line. length line.text) xs ys)

-- if the first part of an excerpt is not put, the excerpt is not
pub excerpt_fails_with_part : (mid now before after : Draft) (part whole : Excerpt) (more : List DeckLine)
    (fault : LoadFault)
    → IsExcerptPut mid part (Err fault) now
    → mid.store.lines ++ (part.lines ++ more) ≡ before.store.lines ++ whole.lines
    → IsExcerptPut before whole (Err fault) after
excerpt_fails_with_part mid now before after part whole more DeckFull h e =
    sym (ap pass_store_limit (append_assoc mid.store.lines part.lines more ∙ e))
    ∙ store_limit_passed_with_more (mid.store.lines ++ part.lines) more h
excerpt_fails_with_part mid now before after part whole more ReadFailed h e = absurd h
excerpt_fails_with_part mid now before after part whole more OutOfMemory h e = tt

-- an unchanged store extends the store
pub same_store_extends : (before after : LineStoreView) → after ≡ before → ExtendsStore before after
same_store_extends before after e = record { lines = []; lines_put = e ∙ sym (store_with_lines-nil before) }

-- extension of stores is transitive
pub extends_store_trans : (before mid after : LineStoreView) → ExtendsStore before mid → ExtendsStore mid after
    → ExtendsStore before after
extends_store_trans before mid after first second = record {
  lines = first.lines ++ second.lines;
  lines_put = second.lines_put ∙ ap (λ (s : LineStoreView). store_with_lines s second.lines) first.lines_put
      ∙ store_with_lines-append before first.lines second.lines;
}

-- a load leads from the blocks before its excerpt to those after it if it extends the store
pub load_leads_to_blocks : (from to : List Ending) (before after : Draft) (excerpt : Excerpt)
    (r : Result (Unit {0}) LoadFault)
    → blocks_after from excerpt.lines ≡ Some to →
    IsExcerptPut before excerpt r after → ExtendsStore before.store after.store
    → LeadsBetweenBlocks from to before.store after.store r
load_leads_to_blocks from to before after excerpt (Ok u) b put e =
    record { lines = excerpt.lines; lines_put = ap (λ (d : Draft). d.store) put.0; blocks_lead = b }
load_leads_to_blocks from to before after excerpt (Err fault) b put e =
    record { lines = e.lines; lines_put = e.lines_put; blocks_lead = tt }

-- a load leads from the blocks before its excerpt to those after it if a failure leaves the store unchanged
pub excerpt_leads_to_blocks : (from to : List Ending) (before after : Draft) (excerpt : Excerpt)
    (r : Result (Unit {0}) LoadFault)
    → blocks_after from excerpt.lines ≡ Some to →
    IsExcerptPut before excerpt r after → OnErr r (after.store ≡ before.store)
    → LeadsBetweenBlocks from to before.store after.store r
excerpt_leads_to_blocks from to before after excerpt (Ok u) b put e =
    record { lines = excerpt.lines; lines_put = ap (λ (d : Draft). d.store) put.0; blocks_lead = b }
excerpt_leads_to_blocks from to before after excerpt (Err fault) b put e =
    let stayed = same_store_extends before.store after.store e in
    record { lines = stayed.lines; lines_put = stayed.lines_put; blocks_lead = tt }

-- lines that lead to some blocks, followed by lines that lead on from there, lead to the last blocks
pub leads_to_blocks_trans : (from mid to : List Ending) (before between after : LineStoreView) (u : Unit {0})
    (r : Result (Unit {0}) LoadFault) → LeadsBetweenBlocks from mid before between (Ok u)
    → LeadsBetweenBlocks mid to between after r
    → LeadsBetweenBlocks from to before after r
leads_to_blocks_trans from mid to before between after u (Ok v) first second = record {
  lines = first.lines ++ second.lines;
  lines_put = second.lines_put ∙ ap (λ (s : LineStoreView). store_with_lines s second.lines) first.lines_put
      ∙ store_with_lines-append before first.lines second.lines;
  blocks_lead = blocks_after-append first.lines second.lines from mid first.blocks_lead ∙ second.blocks_lead;
}
leads_to_blocks_trans from mid to before between after u (Err fault) first second = record {
  lines = first.lines ++ second.lines;
  lines_put = second.lines_put ∙ ap (λ (s : LineStoreView). store_with_lines s second.lines) first.lines_put
      ∙ store_with_lines-append before first.lines second.lines;
  blocks_lead = tt;
}

-- closed lines lead from any open blocks to the same blocks
pub closed_lines_lead_to_same_blocks : (blocks : List Ending) (before after : LineStoreView)
    (r : Result (Unit {0}) LoadFault)
    → LeadsBetweenBlocks [] [] before after r → LeadsBetweenBlocks blocks blocks before after r
closed_lines_lead_to_same_blocks blocks before after (Ok u) h =
    record {
      lines = h.lines;
      lines_put = h.lines_put;
      blocks_lead = blocks_after_with_more_open h.lines [] [] blocks
          h.blocks_lead;
    }
closed_lines_lead_to_same_blocks blocks before after (Err fault) h =
    record { lines = h.lines; lines_put = h.lines_put; blocks_lead = tt }

-- closed lines are still closed after closed lines are appended
pub blocks_closed_after_append : (before after : LineStoreView) (r : Result (Unit {0}) LoadFault)
    → LeadsBetweenBlocks [] [] before after r
    → OnOk r (AreBlocksClosed before.lines → AreBlocksClosed after.lines)
blocks_closed_after_append before after (Ok u) h = λ closed.
    ap (λ (s : LineStoreView). blocks_after [] s.lines) h.lines_put
    ∙ blocks_after-append before.lines h.lines [] [] closed
    ∙ h.blocks_lead
blocks_closed_after_append before after (Err fault) h = tt

-- appending an excerpt extends the store
pub draft_append_extends_store : (before after : Draft) (excerpt : Excerpt) → after ≡ draft_with_excerpt before excerpt
    → ExtendsStore before.store after.store
draft_append_extends_store before after excerpt e =
    record { lines = excerpt.lines; lines_put = ap (λ (d : Draft). d.store) e }
