-- The files of lines, line by line.
use Rattle.std.proofs.Common.{◌≡◌, ◌++◌, ℕ, zero, suc, List, [], ◌∷◌, map, refl, sym, ap, ◌∙◌, Option, Some, None}
use Rattle.std.proofs.Common.{Result, Ok, Err, OnOk, IfSome, ◌-◌, subst, arith}
use Rattle.std.specs.Map.Iter.{TakesFirst}
use Rattle.std.proofs.lemmas.List.{append-nil, append_assoc, map-append}
use Rattle.units_io.specs.FileMap.{FileMap, file_of_name}
use Rattle.units_io.specs.FetchResults.{file_fetch_answer}
use Rattle.units_io.specs.declared.files.FetchFault.{FetchFault}
use Rattle.units_io.specs.declared.files.FetchFault.TheVariants.{Absent, TooLong, Failed, OutOfMemory}
use Rattle.def_lines.specs.declared.line.Line.{Line}
use Rattle.deck_lines.specs.Excerpts.{Included, blocks_behind_line, missing_block_end}
use Rattle.deck_lines.specs.Includes.{include_of_answer, included_below, included_by, included_name}
use Rattle.deck_lines.specs.Readings.{Includes, store_line_reading_of}
use Rattle.deck_lines.specs.declared.line.Block.{Block}
use Rattle.value_sources.specs.FileLines.{FileLine, file_lines_of_include, line_file_names, line_in_file, line_lines}
use Rattle.value_sources.specs.FileLines.{file_lines_above, file_lines_below, file_lines_of_answer, file_lines_of_line}
use Rattle.value_sources.specs.FileLines.{rest_lines}

-- the file of each missing end line is the file of its block
line_files_of_missing_ends : (file : List ℕ) (blocks : List Block)
    → line_file_names (map (line_in_file file) (map missing_block_end blocks)) ≡ map (λ block. file) blocks
line_files_of_missing_ends file [] = refl
line_files_of_missing_ends file (block ∷ blocks) = ap (λ (names : List (List ℕ)). file ∷ names)
    (line_files_of_missing_ends file blocks)

module _ (included : List ℕ → Included) (below : List ℕ → List FileLine) (file : List ℕ) (blocks : List Block) where
  -- passing the next line of a file adds the files of its lines
  pub line_passed : (ys zs : List Line) (x : Line) → ys ≡ x ∷ zs → (mid whole now : List (List ℕ)) →
      mid ++ line_file_names (rest_lines included below file blocks ys) ≡ whole →
      now ≡ mid ++ line_file_names (line_lines included below file blocks x (store_line_reading_of x.text)) →
      (blocks_now : List Block) → blocks_now ≡ blocks_behind_line blocks x (store_line_reading_of x.text)
      → now ++ line_file_names (rest_lines included below file blocks_now zs) ≡ whole
  unfolding rest_lines
  line_passed ys zs x h mid whole now so_far named blocks_now behind =
      let here = line_lines included below file blocks x (store_line_reading_of x.text) in
      let rest = rest_lines included below file (blocks_behind_line blocks x (store_line_reading_of x.text)) zs in
      ap (λ bs. now ++ line_file_names (rest_lines included below file bs zs)) behind
      ∙ ap (λ ns. ns ++ line_file_names rest) named
      ∙ append_assoc mid (line_file_names here) (line_file_names rest)
      ∙ ap (λ ns. mid ++ ns) (sym (map-append (λ (line : FileLine). line.file) here rest))
      ∙ ap (λ ls. mid ++ line_file_names (rest_lines included below file blocks ls)) (sym h)
      ∙ so_far

  -- passing the end of a file adds the file of each missing end line
  pub file_passed : {E : Type 0} (ys : List Line) (mid whole after : List (List ℕ)) (r : Result (Unit {0}) E) →
      ys ≡ [] → mid ++ line_file_names (rest_lines included below file blocks ys) ≡ whole →
      OnOk r (after ≡ mid ++ map (λ block. file) blocks) → OnOk r (after ≡ whole)
  unfolding rest_lines
  file_passed ys mid whole after (Ok u) h so_far named =
      named
      ∙ ap (λ ns. mid ++ ns) (sym (line_files_of_missing_ends file blocks))
      ∙ ap (λ ls. mid ++ line_file_names (rest_lines included below file blocks ls)) (sym h)
      ∙ so_far
  file_passed ys mid whole after (Err e) h so_far named = named

-- the files of an include line are its own file, and then those of the lines of the included file
pub line_files_of_include : (files : FileMap) (depth : ℕ) (name file : List ℕ) (line : Line)
    → line_file_names (file_lines_of_include file line (included_below files depth name)
    (file_lines_below files depth name))
    ≡ file ∷ line_file_names (file_lines_below files depth name)
unfolding included_below file_lines_below
line_files_of_include files zero name file line = refl
line_files_of_include files (suc depth) name file line = by (file_fetch_answer (file_of_name files name))
  where
    by : (answer : Result (List ℕ) FetchFault)
        → line_file_names (file_lines_of_include file line
        (include_of_answer (included_by files depth name) name answer)
        (file_lines_of_answer (included_by files depth name)
        (λ word. file_lines_below files depth (included_name name word)) name
        answer)) ≡ file ∷ line_file_names (file_lines_of_answer (included_by files depth name)
        (λ word. file_lines_below files depth (included_name name word)) name answer)
    by (Ok bytes) = refl
    by (Err Absent) = refl
    by (Err TooLong) = refl
    by (Err Failed) = refl
    by (Err OutOfMemory) = refl

-- passing an include line and its file adds the files of all their lines
pub line_files_of_passed_include : {E : Type 0} (r : Result (Unit {0}) E) (files : FileMap) (depth : ℕ)
    (file name word : List ℕ)
    (line : Line) (blocks : List Block) (before mid after : List (List ℕ)) →
    store_line_reading_of line.text ≡ Includes word → mid ≡ before ++ file ∷ [] → name ≡ included_name file word →
    OnOk r (after ≡ mid ++ line_file_names (file_lines_below files depth name))
    → OnOk r (after ≡ before ++ line_file_names (file_lines_of_line files depth file blocks line))
line_files_of_passed_include (Ok u) files depth file name word line blocks before mid after reading middle named
    same_lines =
    same_lines
    ∙ ap (λ ns. ns ++ line_file_names (file_lines_below files depth name)) middle
    ∙ append_assoc before (file ∷ []) (line_file_names (file_lines_below files depth name))
    ∙ ap (λ ns. before ++ ns) (sym (line_files_of_include files depth name file line))
    ∙ ap (λ n. before ++ line_file_names
    (file_lines_of_include file line (included_below files depth n) (file_lines_below files depth n))) named
    ∙ ap (λ r. before ++ line_file_names (line_lines (included_by files depth file)
    (λ w. file_lines_below files depth (included_name file w)) file blocks line r)) (sym reading)
line_files_of_passed_include (Err e) files depth file name word line blocks before mid after reading middle named
    same_lines =
    same_lines

-- at the maximum depth an include adds no lines
pub no_file_lines_below_depth : (files : FileMap) (depth : ℕ) (name : List ℕ) → depth ≡ 0 → (before : List (List ℕ))
    → before ≡ before ++ line_file_names (file_lines_below files depth name)
unfolding file_lines_below
no_file_lines_below_depth files depth name e before =
    sym (ap (λ d. before ++ line_file_names (file_lines_below files d name)) e ∙ append-nil before)

file_lines_below_by_answer : (files : FileMap) (depth : ℕ) (name : List ℕ) (answer : Result (List ℕ) FetchFault)
    → file_fetch_answer (file_of_name files name) ≡ answer
    → file_lines_below files (suc depth) name ≡ file_lines_of_answer (included_by files depth name)
    (λ word. file_lines_below files depth (included_name name word)) name answer
unfolding file_lines_below
file_lines_below_by_answer files depth name answer a =
    ap (file_lines_of_answer (included_by files depth name)
    (λ word. file_lines_below files depth (included_name name word)) name)
    a

module _ (files : FileMap) (depth : ℕ) (name : List ℕ) (nonzero : depth ≡ 0 → ⊥) where
  deeper : suc (depth - 1) ≡ depth
  deeper = omega (arith, nonzero)

  -- the lines below an include whose file was read are those of the file
  pub read_below : (bytes : List ℕ) → file_fetch_answer (file_of_name files name) ≡ Ok bytes
      → file_lines_below files depth name ≡ file_lines_above files (depth - 1) name bytes
  read_below bytes a = subst (λ n. file_lines_below files n name ≡ file_lines_above files (depth - 1) name bytes) deeper
      (file_lines_below_by_answer files (depth - 1) name (Ok bytes) a)

  -- an include whose file was not read adds no lines
  pub missing_below : (fault : FetchFault) → file_fetch_answer (file_of_name files name) ≡ Err fault
      → (before : List (List ℕ)) → before ≡ before ++ line_file_names (file_lines_below files depth name)
  missing_below fault a before =
      sym (ap (λ ls. before ++ line_file_names ls)
      (subst (λ n. file_lines_below files n name ≡ []) deeper
      (file_lines_below_by_answer files (depth - 1) name (Err fault) a))
      ∙ append-nil before)

-- the facts known about files hold for files that are known
pub fact_of_known_line_files : (o : Option FileMap) (P : FileMap → Type 0) (m : FileMap) → o ≡ Some m → IfSome o P → P m
fact_of_known_line_files o P m e h = rw e at h

-- the line that is taken is the first line
pub line_of_file_taken : (lines rest : List Line) (o : Option Line) (line : Line) → TakesFirst (λ y. y) lines o rest
    → o ≡ Some line → lines ≡ line ∷ rest
line_of_file_taken lines rest o line h e = rw e at h

-- if no line is taken, no line is left
pub no_line_of_file_taken : (lines rest : List Line) (o : Option Line) → TakesFirst (λ y. y) lines o rest → o ≡ None
    → lines ≡ []
no_line_of_file_taken lines rest o h e = (rw e at h).0
