-- The open blocks before and after each part of a load.
use Rattle.std.proofs.Common.{◌≡◌, ◌∷◌, [], ℕ, List, refl, sym, ap}
use Rattle.std.proofs.Common.{subst, ◌∙◌, Result, Ok, Err, Option, Some, None, OnErr}
use Rattle.std.specs.Map.Iter.{TakesFirst}
use Rattle.std.specs.Option.{option_and_then}
use Rattle.def_lines.specs.declared.line.Line.{Line}
use Rattle.def_lines.specs.Kinds.{LineKindWithArguments, kind_of_line}
use Rattle.def_lines.specs.Kinds as line
use Rattle.deck_lines.specs.Blocks.{block_role_of_kind}
use Rattle.deck_lines.specs.ClosedBlocks.{blocks_past_role}
use Rattle.deck_lines.specs.Excerpts.{NotRead, blocks_behind_line, excerpt_of_file_end}
use Rattle.deck_lines.specs.Excerpts.{line_excerpt, line_with_notice, line_without_notice}
use Rattle.deck_lines.specs.Loads.{ExtendsStore, IsExcerptPut, LeadsBetweenBlocks, block_endings}
use Rattle.deck_lines.specs.Readings.{StoreLineReading, Includes, store_line_reading_by_kind, store_line_reading_of}
use Rattle.deck_lines.specs.declared.draft.Draft.{Draft}
use Rattle.deck_lines.specs.declared.draft.LoadFault.{LoadFault}
use Rattle.deck_lines.specs.declared.line.Block.{Block}
use Rattle.deck_lines.specs.declared.line.Ending.{Ending}
use Rattle.deck_lines.specs.declared.line.Role.TheVariants.{Inside}
use Rattle.deck_lines.specs.Stores.{LineStoreView}
use Rattle.deck_lines.proofs.ClosedFile.{each_line_leaves_blocks, marked_line_keeps_open_blocks}
use Rattle.deck_lines.proofs.ClosedFile.{missing_block_ends_close_all, plain_line_has_block_role}
use Rattle.deck_lines.proofs.DraftAppends.{closed_lines_lead_to_same_blocks, excerpt_leads_to_blocks}
use Rattle.deck_lines.proofs.DraftAppends.{leads_to_blocks_trans, load_leads_to_blocks}

-- a line that includes a file neither opens nor closes a block
include_kind_has_no_block_role : (text word : List ℕ) (kind : LineKindWithArguments)
    → store_line_reading_by_kind text kind ≡ Includes word → block_role_of_kind kind ≡ Inside
include_kind_has_no_block_role text word (line.Locale l) e = cc
include_kind_has_no_block_role text word (line.Var v vs) e = cc
include_kind_has_no_block_role text word (line.VarNot v vs) e = cc
include_kind_has_no_block_role text word line.Utf8 e = cc
include_kind_has_no_block_role text word line.EndLocale e = cc
include_kind_has_no_block_role text word line.EndVar e = cc
include_kind_has_no_block_role text word line.EndUtf8 e = cc
include_kind_has_no_block_role text word _ e = refl

-- a line whose meaning is an include opens and closes no block
pub include_line_has_no_block_role : (text word : List ℕ) → Includes word ≡ store_line_reading_of text
    → block_role_of_kind (kind_of_line text) ≡ Inside
unfolding store_line_reading_of
include_line_has_no_block_role text word e = include_kind_has_no_block_role text word (kind_of_line text) (sym e)

-- the load of a line leads from the open blocks before it to those after it
pub line_load_leads_to_blocks : (file : List ℕ) (blocks : List Block) (x : Line) (reading : StoreLineReading)
    (before after : Draft)
    (r : Result (Unit {0}) LoadFault) → reading ≡ store_line_reading_of x.text →
    IsExcerptPut before (line_excerpt (λ word. NotRead []) file blocks x reading) r after
    → OnErr r (after.store ≡ before.store) →
    LeadsBetweenBlocks (block_endings blocks)
    (block_endings (blocks_behind_line blocks x (store_line_reading_of x.text))) before.store after.store r
unfolding store_line_reading_of
line_load_leads_to_blocks file blocks x reading before after r e put err =
    excerpt_leads_to_blocks (block_endings blocks)
    (block_endings (blocks_behind_line blocks x (store_line_reading_of x.text))) before after
    (line_excerpt (λ word. NotRead []) file blocks x (store_line_reading_of x.text)) r
    (each_line_leaves_blocks (λ word. NotRead []) (λ word. tt) file blocks x (kind_of_line x.text) refl)
    (subst (λ t. IsExcerptPut before (line_excerpt (λ word. NotRead []) file blocks x t) r after) e put) err

-- if the lines of an include line are closed, they lead from the open blocks before the line to those after it
pub include_leads_to_blocks : (blocks : List Block) (x : Line) (word : List ℕ) (before after : LineStoreView)
    (r : Result (Unit {0}) LoadFault) → Includes word ≡ store_line_reading_of x.text →
    LeadsBetweenBlocks [] [] before after r
    → LeadsBetweenBlocks (block_endings blocks)
    (block_endings (blocks_behind_line blocks x (store_line_reading_of x.text))) before after r
include_leads_to_blocks blocks x word before after r e h =
    subst (λ t. LeadsBetweenBlocks (block_endings blocks) (block_endings (blocks_behind_line blocks x t)) before after
    r) e
    (closed_lines_lead_to_same_blocks (block_endings blocks) before after r h)

-- an include line followed by closed lines is closed
pub plain_include_leads_to_blocks : (x : Line) (before mid : Draft) (after : LineStoreView)
    (r : Result (Unit {0}) LoadFault)
    → block_role_of_kind (kind_of_line x.text) ≡ Inside → IsExcerptPut before (line_without_notice x) (Ok tt) mid →
    LeadsBetweenBlocks [] [] mid.store after r → LeadsBetweenBlocks [] [] before.store after r
plain_include_leads_to_blocks x before mid after r role put h =
    leads_to_blocks_trans [] [] [] before.store mid.store after tt r
    (excerpt_leads_to_blocks [] [] before mid (line_without_notice x) (Ok tt)
    (plain_line_has_block_role [] x (kind_of_line x.text) refl
    ∙ ap (λ r. option_and_then (λ now. Some now) (blocks_past_role [] r)) role)
    put tt) h

-- the load of an include line with a notice appends closed lines
pub refused_include_leads_to_blocks : (file : List ℕ) (x : Line) (text : List ℕ) (before after : Draft)
    (r : Result (Unit {0}) LoadFault)
    → IsExcerptPut before (line_with_notice file x text) r after → OnErr r (after.store ≡ before.store) →
    LeadsBetweenBlocks [] [] before.store after.store r
refused_include_leads_to_blocks file x text before after r put err =
    excerpt_leads_to_blocks [] [] before after (line_with_notice file x text) r (marked_line_keeps_open_blocks [] x) put
    err

-- the end of a file closes its blocks
pub file_end_leads_to_blocks : (name : List ℕ) (blocks : List Block) (from : LineStoreView) (before after : Draft)
    (r : Result (Unit {0}) LoadFault) → LeadsBetweenBlocks [] (block_endings blocks) from before.store (Ok tt) →
    IsExcerptPut before (excerpt_of_file_end name blocks) r after → ExtendsStore before.store after.store
    → LeadsBetweenBlocks [] [] from after.store r
file_end_leads_to_blocks name blocks from before after r so_far put e =
    leads_to_blocks_trans [] (block_endings blocks) [] from before.store after.store tt r so_far
    (load_leads_to_blocks (block_endings blocks) [] before after (excerpt_of_file_end name blocks) r
    (missing_block_ends_close_all blocks) put e)

-- a load that failed leads to any open blocks
pub failed_load_leads_to_blocks : (a b to : List Ending) (before after : LineStoreView) (fault : LoadFault)
    → LeadsBetweenBlocks a b before after (Err fault)
    → LeadsBetweenBlocks a to before after (Err fault)
failed_load_leads_to_blocks a b to before after fault h =
    record { lines = h.lines; lines_put = h.lines_put; blocks_lead = tt }

-- the line that was taken is the first of the remaining lines, and the rest follow it
pub load_takes_first_line : (lines rest : List Line) (o : Option Line) (l x : Line) → TakesFirst (λ y. y) lines o rest
    → o ≡ Some l
    → x ≡ l → lines ≡ x ∷ rest
load_takes_first_line lines rest o l x h e same = (rw e at h) ∙ ap (λ y. y ∷ rest) (sym same)

-- if no line was taken, no line is left
pub load_takes_no_line : (lines rest : List Line) (o : Option Line) → TakesFirst (λ y. y) lines o rest → o ≡ None
    → lines ≡ []
load_takes_no_line lines rest o h e = (rw e at h).0
