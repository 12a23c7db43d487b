-- The deck of a file is closed.
use Rattle.std.proofs.Common.{◌≡◌, ◌++◌, ◌∷◌, [], ℕ, zero, suc, List, Bool, true, false, cond, map, refl, ap, ◌∙◌}
use Rattle.std.proofs.Common.{Some, None, codes, Result, Ok, Err}
use Rattle.std.proofs.lemmas.Option.{same_Some}
use Rattle.std.specs.Bool.{⊤}
use Rattle.std.specs.Option.{option_and_then}
use Rattle.units_io.specs.FileMap.{FileMap, file_of_name}
use Rattle.units_io.specs.FetchResults.{file_fetch_answer}
use Rattle.units_io.specs.declared.files.FetchFault.{FetchFault}
use Rattle.units_io.specs.declared.files.FetchFault.TheVariants.{Absent, TooLong, Failed, OutOfMemory}
use Rattle.def_lines.specs.declared.line.Line.{Line}
use Rattle.def_lines.specs.Lines.{logical_lines, nonblank_lines}
use Rattle.def_lines.specs.Kinds.{LineKindWithArguments, kind_of_line}
use Rattle.def_lines.specs.Kinds as line
use Rattle.def_entry.specs.declared.key.Key.{Key}
use Rattle.def_entry.specs.declared.fault.EntryFault.{EntryFault}
use Rattle.def_entry.specs.Entries.{Entry}
use Rattle.def_entry.specs.EntryReading.{entry_of}
use Rattle.deck_lines.specs.Blocks.{block_end_text, block_role_of_kind, same_block_ending}
use Rattle.deck_lines.specs.ClosedBlocks.{blocks_without, blocks_past_role, blocks_past, blocks_after, AreBlocksClosed}
use Rattle.deck_lines.specs.ClosedBlocks.{ClosedBlocksLaw}
use Rattle.deck_lines.specs.Marks.{marked_store_line, plain_store_line}
use Rattle.deck_lines.specs.Includes.{excerpt_of_deck_file, include_of_answer, included_below, included_by}
use Rattle.deck_lines.specs.Includes.{included_name}
use Rattle.deck_lines.specs.Loads.{block_endings}
use Rattle.deck_lines.specs.Readings.{entry_in_store_line, Stands, StoreLineReading, store_line_reading_by_kind}
use Rattle.deck_lines.specs.Readings.{store_line_reading_of, store_line_reading_of_entry}
use Rattle.deck_lines.specs.Excerpts.{line_without_notice, line_with_notice, Included, Read, NotRead, line_excerpt}
use Rattle.deck_lines.specs.Excerpts.{blocks_behind_line, rest_excerpt, missing_block_end, include_excerpt}
use Rattle.deck_lines.specs.declared.line.Block.{Block}
use Rattle.deck_lines.specs.declared.line.DeckLine.{DeckLine}
use Rattle.deck_lines.specs.declared.line.Ending.{Ending}
use Rattle.deck_lines.specs.declared.line.Ending.TheVariants.{ByLocale, ByVar, ByUtf8}
use Rattle.deck_lines.specs.declared.line.Role.{Role}
use Rattle.deck_lines.specs.declared.line.Role.TheVariants.{Opens, Closes, Inside}
use Rattle.general_lemmas.proofs.Options.{and_then_pair}

-- an end line closes the same block if more blocks are open around it
block_closed_with_more_open : (e : Ending) (bs cs ds : List Ending) → blocks_without e bs ≡ Some cs
    → blocks_without e (bs ++ ds) ≡ Some (cs ++ ds)
block_closed_with_more_open e [] cs ds h = cc
block_closed_with_more_open e (b ∷ bs) cs ds h = by (same_block_ending e b) h
  where
    by : (t : Bool) → cond t (Some bs) None ≡ Some cs → cond t (Some (bs ++ ds)) None ≡ Some (cs ++ ds)
    by true g = ap (λ x. Some (x ++ ds)) (same_Some bs cs g)
    by false g = cc

-- a line of this role has the same effect if more blocks are open around it
blocks_past_role_with_more_open : (bs cs ds : List Ending) (role : Role) → blocks_past_role bs role ≡ Some cs
    → blocks_past_role (bs ++ ds) role ≡ Some (cs ++ ds)
blocks_past_role_with_more_open bs cs ds (Opens e) h = ap (λ x. Some (x ++ ds)) (same_Some (e ∷ bs) cs h)
blocks_past_role_with_more_open bs cs ds (Closes e) h = block_closed_with_more_open e bs cs ds h
blocks_past_role_with_more_open bs cs ds Inside h = ap (λ y. Some (y ++ ds)) (same_Some bs cs h)

-- a line has the same effect if more blocks are open around it
blocks_past_with_more_open : (bs cs ds : List Ending) (line : DeckLine) → blocks_past bs line ≡ Some cs
    → blocks_past (bs ++ ds) line ≡ Some (cs ++ ds)
unfolding blocks_past
blocks_past_with_more_open bs cs ds line h = by line.mark h
  where
    by : (m : Bool) → cond m (Some bs) (blocks_past_role bs (block_role_of_kind (kind_of_line line.text))) ≡ Some cs
        → cond m (Some (bs ++ ds)) (blocks_past_role (bs ++ ds) (block_role_of_kind (kind_of_line line.text))) ≡ Some
        (cs ++ ds)
    by true g = ap (λ y. Some (y ++ ds)) (same_Some bs cs g)
    by false g = blocks_past_role_with_more_open bs cs ds (block_role_of_kind (kind_of_line line.text)) g

-- lines have the same effect if more blocks are open around them
pub blocks_after_with_more_open : (xs : List DeckLine) (bs cs ds : List Ending) → blocks_after bs xs ≡ Some cs
    → blocks_after (bs ++ ds) xs ≡ Some (cs ++ ds)
blocks_after_with_more_open [] bs cs ds h = ap (λ y. Some (y ++ ds)) (same_Some bs cs h)
blocks_after_with_more_open (x ∷ xs) bs cs ds h =
    let p = and_then_pair (λ now. blocks_after now xs) (blocks_past bs x) cs h in
    ap (option_and_then (λ now. blocks_after now xs)) (blocks_past_with_more_open bs p.0 ds x p.1)
    ∙ blocks_after_with_more_open xs p.0 cs ds p.2

-- the blocks after two lists of lines are those after the second list, starting with the blocks after the first
pub blocks_after-append : (xs ys : List DeckLine) (bs cs : List Ending) → blocks_after bs xs ≡ Some cs
    → blocks_after bs (xs ++ ys) ≡ blocks_after cs ys
blocks_after-append [] ys bs cs e = ap (λ b. blocks_after b ys) (same_Some bs cs e)
blocks_after-append (x ∷ xs) ys bs cs e =
    let p = and_then_pair (λ now. blocks_after now xs) (blocks_past bs x) cs e in
    ap (option_and_then (λ now. blocks_after now (xs ++ ys))) p.1 ∙ blocks_after-append xs ys p.0 cs p.2

-- a line with the mark leaves the open blocks unchanged
pub marked_line_keeps_open_blocks : (bs : List Ending) (x : Line)
    → blocks_after bs (marked_store_line x.number x.text ∷ []) ≡ Some bs
unfolding blocks_past
marked_line_keeps_open_blocks bs x = refl

-- a line without a mark has the effect of its role
pub plain_line_has_block_role : (bs : List Ending) (x : Line) (kind : LineKindWithArguments)
    → kind_of_line x.text ≡ kind
    → blocks_after bs (plain_store_line x.number x.text ∷ [])
    ≡ option_and_then (λ now. Some now) (blocks_past_role bs (block_role_of_kind kind))
unfolding blocks_past
plain_line_has_block_role bs x kind e =
    ap (λ k. option_and_then (λ now. Some now) (blocks_past_role bs (block_role_of_kind k))) e

-- an include whose lines close every block that they open, and no other
abbrev pub IsClosedInclude : Included → Type 0
IsClosedInclude (Read w) = AreBlocksClosed w.lines
IsClosedInclude (NotRead text) = ⊤

-- the lines of a closed include leave the open blocks unchanged
include_closed : (bs : List Ending) (file n : List ℕ) (x : Line) (inc : Included) → kind_of_line x.text ≡ line.Include n
    → IsClosedInclude inc → blocks_after bs (include_excerpt file x inc).lines ≡ Some bs
include_closed bs file n x (Read w) e h =
    blocks_after-append (plain_store_line x.number x.text ∷ []) w.lines bs bs
    (plain_line_has_block_role bs x (line.Include n) e)
    ∙ blocks_after_with_more_open w.lines [] [] bs h
include_closed bs file n x (NotRead text) e h = marked_line_keeps_open_blocks bs x

-- the lines of the excerpt of a line lead to the blocks that are open after the line
abbrev pub Leaves : (List ℕ → Included) → List ℕ → List Block → Line → StoreLineReading → Type 0
Leaves inc file blocks x reading = blocks_after (block_endings blocks) (line_excerpt inc file blocks x reading).lines
    ≡ Some (block_endings (blocks_behind_line blocks x reading))

-- an end line leads to the blocks that are open after it
end_line_leaves_blocks : (inc : List ℕ → Included) (file : List ℕ) (blocks : List Block) (x : Line) (ending : Ending)
    (kind : LineKindWithArguments)
    → kind_of_line x.text ≡ kind → block_role_of_kind kind ≡ Closes ending
    → Leaves inc file blocks x (Stands (Closes ending))
end_line_leaves_blocks inc file [] x ending kind e k = marked_line_keeps_open_blocks [] x
end_line_leaves_blocks inc file (b ∷ blocks) x ending kind e k = by (same_block_ending ending b.ending) refl
  where
    by : (t : Bool) → same_block_ending ending b.ending ≡ t
        → blocks_after (b.ending ∷ block_endings blocks)
        (cond t (line_without_notice x) (line_with_notice file x (codes "stray end"))).lines
        ≡ Some (block_endings (cond t blocks (b ∷ blocks)))
    by true h = plain_line_has_block_role (b.ending ∷ block_endings blocks) x kind e
        ∙ ap (λ r. option_and_then (λ now. Some now) (blocks_past_role (b.ending ∷ block_endings blocks) r)) k
        ∙ ap (λ t. option_and_then (λ now. Some now) (cond t (Some (block_endings blocks)) None)) h
    by false h = marked_line_keeps_open_blocks (b.ending ∷ block_endings blocks) x

-- a line of each role leads to the blocks that are open after it
role_line_leaves_blocks : (inc : List ℕ → Included) (file : List ℕ) (blocks : List Block) (x : Line)
    (kind : LineKindWithArguments) (role : Role)
    → kind_of_line x.text ≡ kind → block_role_of_kind kind ≡ role → Leaves inc file blocks x (Stands role)
role_line_leaves_blocks inc file blocks x kind (Opens ending) e k = plain_line_has_block_role (block_endings blocks) x
    kind e
    ∙ ap (λ r. option_and_then (λ now. Some now) (blocks_past_role (block_endings blocks) r)) k
role_line_leaves_blocks inc file blocks x kind (Closes ending) e k = end_line_leaves_blocks inc file blocks x ending
    kind e k
role_line_leaves_blocks inc file blocks x kind Inside e k = plain_line_has_block_role (block_endings blocks) x kind e
    ∙ ap (λ r. option_and_then (λ now. Some now) (blocks_past_role (block_endings blocks) r)) k

-- a line that defines a key leads to the blocks that are open after it
entry_line_leaves_blocks : (inc : List ℕ → Included) (file : List ℕ) (blocks : List Block) (x : Line)
    (kind : LineKindWithArguments)
    (entry : Result (Key × Entry) EntryFault) → kind_of_line x.text ≡ kind → block_role_of_kind kind ≡ Inside
    → Leaves inc file blocks x (store_line_reading_of_entry entry)
entry_line_leaves_blocks inc file blocks x kind (Ok entry) e k = plain_line_has_block_role (block_endings blocks) x kind
    e
    ∙ ap (λ r. option_and_then (λ now. Some now) (blocks_past_role (block_endings blocks) r)) k
entry_line_leaves_blocks inc file blocks x kind (Err fault) e k = marked_line_keeps_open_blocks (block_endings blocks) x

-- each line leads to the blocks that are open after it, if includes are closed
pub each_line_leaves_blocks : (inc : List ℕ → Included) → ((n : List ℕ) → IsClosedInclude (inc n))
    → (file : List ℕ) (blocks : List Block) (x : Line) (kind : LineKindWithArguments) → kind_of_line x.text ≡ kind
    → Leaves inc file blocks x (store_line_reading_by_kind x.text kind)
each_line_leaves_blocks inc all file blocks x line.Definition e =
    entry_line_leaves_blocks inc file blocks x line.Definition (entry_of x.text) e refl
each_line_leaves_blocks inc all file blocks x line.UnitList e =
    entry_line_leaves_blocks inc file blocks x line.UnitList (entry_of x.text) e refl
each_line_leaves_blocks inc all file blocks x (line.Include n) e = include_closed (block_endings blocks) file n x
    (inc n) e (all n)
each_line_leaves_blocks inc all file blocks x line.UnknownDirective e = marked_line_keeps_open_blocks
    (block_endings blocks) x
each_line_leaves_blocks inc all file blocks x line.BadDirective e = marked_line_keeps_open_blocks (block_endings blocks)
    x
each_line_leaves_blocks inc all file blocks x (line.Locale l) e =
    role_line_leaves_blocks inc file blocks x (line.Locale l) (Opens ByLocale) e refl
each_line_leaves_blocks inc all file blocks x (line.Var v vs) e = role_line_leaves_blocks inc file blocks x
    (line.Var v vs) (Opens ByVar) e refl
each_line_leaves_blocks inc all file blocks x (line.VarNot v vs) e =
    role_line_leaves_blocks inc file blocks x (line.VarNot v vs) (Opens ByVar) e refl
each_line_leaves_blocks inc all file blocks x line.Utf8 e = role_line_leaves_blocks inc file blocks x line.Utf8
    (Opens ByUtf8) e refl
each_line_leaves_blocks inc all file blocks x line.EndLocale e =
    role_line_leaves_blocks inc file blocks x line.EndLocale (Closes ByLocale) e refl
each_line_leaves_blocks inc all file blocks x line.EndVar e = role_line_leaves_blocks inc file blocks x line.EndVar
    (Closes ByVar) e refl
each_line_leaves_blocks inc all file blocks x line.EndUtf8 e = role_line_leaves_blocks inc file blocks x line.EndUtf8
    (Closes ByUtf8) e refl
each_line_leaves_blocks inc all file blocks x line.Blank e = role_line_leaves_blocks inc file blocks x line.Blank Inside
    e refl
each_line_leaves_blocks inc all file blocks x (line.Set v vs) e = role_line_leaves_blocks inc file blocks x
    (line.Set v vs) Inside e refl
each_line_leaves_blocks inc all file blocks x (line.Message t) e = role_line_leaves_blocks inc file blocks x
    (line.Message t) Inside e refl
each_line_leaves_blocks inc all file blocks x line.Prompt e = role_line_leaves_blocks inc file blocks x line.Prompt
    Inside e refl

-- the text of an end line closes its block
block_end_text_closes : (e : Ending) (bs : List Ending)
    → blocks_past_role (e ∷ bs) (block_role_of_kind (kind_of_line (block_end_text e))) ≡ Some bs
unfolding kind_of_line
block_end_text_closes ByLocale bs = refl
block_end_text_closes ByVar bs = refl
block_end_text_closes ByUtf8 bs = refl

-- the missing end lines close all open blocks
pub missing_block_ends_close_all : (blocks : List Block) → blocks_after (block_endings blocks)
    (map missing_block_end blocks) ≡ Some []
unfolding blocks_past
missing_block_ends_close_all [] = refl
missing_block_ends_close_all (b ∷ blocks) =
    ap (option_and_then (λ now. blocks_after now (map missing_block_end blocks)))
    (block_end_text_closes b.ending (block_endings blocks))
    ∙ missing_block_ends_close_all blocks

-- the rest of a file closes all open blocks
rest_excerpt_closes_blocks : (inc : List ℕ → Included) → ((file : List ℕ) → IsClosedInclude (inc file))
    → (name : List ℕ) (lines : List Line) (blocks : List Block)
    → blocks_after (block_endings blocks) (rest_excerpt inc name blocks lines).lines ≡ Some []
unfolding rest_excerpt store_line_reading_of
rest_excerpt_closes_blocks inc all name [] blocks = missing_block_ends_close_all blocks
rest_excerpt_closes_blocks inc all name (x ∷ lines) blocks =
    blocks_after-append (line_excerpt inc name blocks x (store_line_reading_by_kind x.text (kind_of_line x.text))).lines
    _ (block_endings blocks) _
    (each_line_leaves_blocks inc all name blocks x (kind_of_line x.text) refl)
    ∙ rest_excerpt_closes_blocks inc all name lines
    (blocks_behind_line blocks x (store_line_reading_by_kind x.text (kind_of_line x.text)))

-- the result of a fetch is a closed include
include_of_answer_is_closed : (inc : List ℕ → Included) → ((file : List ℕ) → IsClosedInclude (inc file))
    → (name : List ℕ) (r : Result (List ℕ) FetchFault) → IsClosedInclude (include_of_answer inc name r)
include_of_answer_is_closed inc all name (Ok bytes) = rest_excerpt_closes_blocks inc all name
    (nonblank_lines (logical_lines bytes)) []
include_of_answer_is_closed inc all name (Err Absent) = tt
include_of_answer_is_closed inc all name (Err TooLong) = tt
include_of_answer_is_closed inc all name (Err Failed) = tt
include_of_answer_is_closed inc all name (Err OutOfMemory) = tt

-- the includes at each depth are closed
included_below_is_closed : (files : FileMap) (n : ℕ) (file : List ℕ) → IsClosedInclude (included_below files n file)
unfolding included_below
included_below_is_closed files zero file = tt
included_below_is_closed files (suc n) file =
    include_of_answer_is_closed (included_by files n file)
    (λ word. included_below_is_closed files n (included_name file word)) file
    (file_fetch_answer (file_of_name files file))

-- the deck of a file is closed
pub deck_excerpt_has_blocks_closed : ClosedBlocksLaw
unfolding excerpt_of_deck_file
deck_excerpt_has_blocks_closed files name bytes =
    rest_excerpt_closes_blocks (included_by files 16 name)
    (λ word. included_below_is_closed files 16 (included_name name word)) name
    (nonblank_lines (logical_lines bytes)) []

-- an end line defines nothing
pub block_end_line_defines_nothing : (number : ℕ) (e : Ending)
    → entry_in_store_line (plain_store_line number (block_end_text e)) ≡ None
unfolding entry_in_store_line store_line_reading_of kind_of_line
block_end_line_defines_nothing number ByLocale = refl
block_end_line_defines_nothing number ByVar = refl
block_end_line_defines_nothing number ByUtf8 = refl
