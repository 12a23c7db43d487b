-- Each line is in its file.
use Rattle.std.proofs.Common.{◌≡◌, ℕ, zero, suc, Bool, true, false, cond, nat_le, length, List, [], ◌∷◌, Contains, map}
use Rattle.std.proofs.Common.{Option, Some, None, Result, Ok, Err, refl, ap, inl, inr}
use Rattle.std.specs.List.{AllByRecursion}
use Rattle.units_io.specs.FileMap.{FileMap, file_of_name, longest_file}
use Rattle.units_io.specs.FetchResults.{file_fetch_answer}
use Rattle.units_io.specs.declared.files.FetchFault.{FetchFault}
use Rattle.units_io.specs.declared.files.FetchFault.TheVariants.{TooLong}
use Rattle.def_lines.specs.declared.line.Line.{Line}
use Rattle.def_lines.specs.Lines.{logical_lines, nonblank_lines}
use Rattle.deck_lines.specs.Excerpts.{Included, NotRead, Read, blocks_behind_line, blocks_behind_role}
use Rattle.deck_lines.specs.Excerpts.{closes_innermost_block, missing_block_end, outer_blocks, role_excerpt}
use Rattle.deck_lines.specs.Includes.{included_by, included_name, most_include_depth}
use Rattle.deck_lines.specs.Readings.{Defines, Faulty, Includes, Stands, StoreLineReading, store_line_reading_of}
use Rattle.deck_lines.specs.declared.line.Block.{Block}
use Rattle.deck_lines.specs.declared.line.DeckLine.{DeckLine}
use Rattle.deck_lines.specs.declared.line.Role.{Role}
use Rattle.deck_lines.specs.declared.line.Role.TheVariants.{Closes, Inside, Opens}
use Rattle.value_sources.specs.FileLines.{FileLine, file_lines, file_lines_below, file_lines_of_include, line_in_file}
use Rattle.value_sources.specs.FileLines.{line_lines, file_lines_of_answer, rest_lines}
use Rattle.value_sources.specs.FileLineLaws.{IsLineOfFile, IsLineInItsFile}
use Rattle.general_lemmas.proofs.Members.{member_first, member_later}
use Rattle.general_lemmas.proofs.Properties.{all_append}

-- a block has the number of one of these lines
abbrev IsOpenedIn : List Line → Block → Type 0
IsOpenedIn all block = (source : Line) × Contains all source × (block.number ≡ source.number)

module _ (P : FileLine → Type 0) (file : List ℕ) (all : List Line)
    (own : (line : DeckLine) → IsLineOfFile all line → P (line_in_file file line))
    (included : List ℕ → Included) (below : List ℕ → List FileLine)
    (deeper : (word : List ℕ) → AllByRecursion P (below word)) where
  -- a property of the lines of a file holds for a line with any mark
  plain : (line : Line) → Contains all line → (mark : Bool)
      → P (line_in_file file (record { number = line.number; text = line.text; mark = mark }))
  plain line i mark = own (record { number = line.number; text = line.text; mark = mark })
      (record { source = line; source_is_there = i; number = refl; text = inl refl })

  each_include : (line : Line) → Contains all line → (i : Included) (xs : List FileLine) → AllByRecursion P xs
      → AllByRecursion P (file_lines_of_include file line i xs)
  each_include line i (Read excerpt) xs h = (plain line i false, h)
  each_include line i (NotRead text) xs h = (plain line i true, tt)

  each_role : (blocks : List Block) (line : Line) → Contains all line → (role : Role)
      → AllByRecursion P (map (line_in_file file) (role_excerpt file blocks line role).lines)
  each_role blocks line i (Opens ending) = (plain line i false, tt)
  each_role blocks line i Inside = (plain line i false, tt)
  each_role blocks line i (Closes ending) = by (closes_innermost_block ending blocks) refl
    where
      by : (b : Bool) → closes_innermost_block ending blocks ≡ b
          → AllByRecursion P (map (line_in_file file) (role_excerpt file blocks line (Closes ending)).lines)
      by true e = rw e (plain line i false, tt)
      by false e = rw e (plain line i true, tt)

  each_line : (blocks : List Block) (line : Line) → Contains all line → (r : StoreLineReading)
      → AllByRecursion P (line_lines included below file blocks line r)
  each_line blocks line i (Includes name) = each_include line i (included name) (below name) (deeper name)
  each_line blocks line i (Stands role) = each_role blocks line i role
  each_line blocks line i (Defines entry) = (plain line i false, tt)
  each_line blocks line i (Faulty text) = (plain line i true, tt)

  -- the outer blocks of blocks opened by lines of the file are opened by lines of the file
  outer : (blocks : List Block) → AllByRecursion (IsOpenedIn all) blocks
      → AllByRecursion (IsOpenedIn all) (outer_blocks blocks)
  outer [] h = tt
  outer (block ∷ blocks) h = h.1

  behind_role : (blocks : List Block) → AllByRecursion (IsOpenedIn all) blocks → (line : Line) → Contains all line
      → (role : Role) → AllByRecursion (IsOpenedIn all) (blocks_behind_role blocks line.number role)
  behind_role blocks h line i (Opens ending) = ((line, i, refl), h)
  behind_role blocks h line i Inside = h
  behind_role blocks h line i (Closes ending) = by (closes_innermost_block ending blocks) refl
    where
      by : (b : Bool) → closes_innermost_block ending blocks ≡ b
          → AllByRecursion (IsOpenedIn all) (blocks_behind_role blocks line.number (Closes ending))
      by true e = rw e (outer blocks h)
      by false e = rw e h

  behind : (blocks : List Block) → AllByRecursion (IsOpenedIn all) blocks → (line : Line) → Contains all line
      → (r : StoreLineReading) → AllByRecursion (IsOpenedIn all) (blocks_behind_line blocks line r)
  behind blocks h line i (Includes name) = h
  behind blocks h line i (Stands role) = behind_role blocks h line i role
  behind blocks h line i (Defines entry) = h
  behind blocks h line i (Faulty text) = h

  each_end : (blocks : List Block) → AllByRecursion (IsOpenedIn all) blocks
      → AllByRecursion P (map (line_in_file file) (map missing_block_end blocks))
  each_end [] h = tt
  each_end (block ∷ blocks) h = (
    own (missing_block_end block) (record {
      source = h.0.0;
      source_is_there = h.0.1;
      number = h.0.2;
      text = inr (block.ending, refl);
    }),
    each_end blocks h.1,
  )

  pub each_rest : (blocks : List Block) → AllByRecursion (IsOpenedIn all) blocks → (lines : List Line)
      → ((line : Line) → Contains lines line → Contains all line)
      → AllByRecursion P (rest_lines included below file blocks lines)
  unfolding rest_lines
  each_rest blocks h [] inside = each_end blocks h
  each_rest blocks h (line ∷ lines) inside =
      let r = store_line_reading_of line.text in
      let here = inside line (member_first line line lines refl) in
      all_append P (line_lines included below file blocks line r)
      (rest_lines included below file (blocks_behind_line blocks line r) lines)
      (each_line blocks line here r)
      (each_rest (blocks_behind_line blocks line r) (behind blocks h line here r) lines
      (λ x i. inside x (member_later x line lines i)))

abbrev ok_of : Result (List ℕ) FetchFault → List ℕ
ok_of (Ok x) = x
ok_of (Err fault) = []

-- the bytes that are read from a file are its contents
line_file_is_read : (o : Option (List ℕ)) (bytes : List ℕ) → file_fetch_answer o ≡ Ok bytes → o ≡ Some bytes
line_file_is_read None bytes e = cc
line_file_is_read (Some held) bytes e = by (nat_le (length held) longest_file) e
  where
    by : (b : Bool) → cond b (Ok held) (Err TooLong) ≡ Ok bytes → Some held ≡ Some bytes
    by true e = ap (λ r. Some (ok_of r)) e
    by false e = cc

module _ (files : FileMap) where
  -- the lines of one file and of the files below it are in their files
  each_file : (included : List ℕ → Included) (below : List ℕ → List FileLine)
      → ((word : List ℕ) → AllByRecursion (IsLineInItsFile files) (below word)) → (name bytes : List ℕ)
      → file_of_name files name ≡ Some bytes
      → AllByRecursion (IsLineInItsFile files)
      (rest_lines included below name [] (nonblank_lines (logical_lines bytes)))
  each_file included below deeper name bytes e =
      each_rest (IsLineInItsFile files) name (nonblank_lines (logical_lines bytes)) (λ line h. (bytes, e, h)) included
      below
      deeper
      [] tt (nonblank_lines (logical_lines bytes)) (λ line i. i)

  each_below : (depth : ℕ) (name : List ℕ) → AllByRecursion (IsLineInItsFile files) (file_lines_below files depth name)
  unfolding file_lines_below
  each_below zero name = tt
  each_below (suc depth) name =
      by (λ word. each_below depth (included_name name word)) (file_fetch_answer (file_of_name files name)) refl
    where
      by : ((word : List ℕ) → AllByRecursion (IsLineInItsFile files)
          (file_lines_below files depth (included_name name word)))
          → (answer : Result (List ℕ) FetchFault) → file_fetch_answer (file_of_name files name) ≡ answer
          → AllByRecursion (IsLineInItsFile files) (file_lines_of_answer (included_by files depth name)
          (λ word. file_lines_below files depth (included_name name word)) name answer)
      by deeper (Ok bytes) e =
          each_file (included_by files depth name) (λ word. file_lines_below files depth (included_name name word))
          deeper
          name
          bytes (line_file_is_read (file_of_name files name) bytes e)
      by deeper (Err fault) e = tt

  pub each_in_file : (name bytes : List ℕ) → file_of_name files name ≡ Some bytes
      → AllByRecursion (IsLineInItsFile files) (file_lines files name bytes)
  each_in_file name bytes e =
      each_file (included_by files most_include_depth name)
      (λ word. file_lines_below files most_include_depth (included_name name word))
      (λ word. each_below most_include_depth (included_name name word)) name bytes e
