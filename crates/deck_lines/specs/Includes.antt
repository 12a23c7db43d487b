-- The deck of a file and of the files that it includes.
use Rattle.std.specs.Prelude.{◌==◌, ◌++◌, ℕ, zero, suc, List, [], ◌∷◌, if◌then◌else◌, codes, reverse, Result, Ok, Err}
use Rattle.units_io.specs.FileMap.{FileMap, file_of_name, no_files_in_map}
use Rattle.units_io.specs.FetchResults.{file_fetch_answer}
use Rattle.units_io.specs.declared.files.FetchFault.{FetchFault}
use Rattle.units_io.specs.declared.files.FetchFault.TheVariants.{Absent, TooLong, Failed, OutOfMemory}
use Rattle.def_lines.specs.Lines.{line_begins_with}
use Rattle.deck_lines.specs.Excerpts.{Excerpt, Included, Read, NotRead, file_excerpt}

-- the part of a name from its first `/` on
abbrev pub include_name_from_slash : List ℕ → List ℕ
include_name_from_slash [] = []
include_name_from_slash (b ∷ name) = if b == 47 then b ∷ name else include_name_from_slash name

-- the name up to and including its last `/`
abbrev pub include_folder_of : List ℕ → List ℕ
include_folder_of name = reverse (include_name_from_slash (reverse name))

-- the full name under which the file `name` is looked up if the file `includer` includes it
abbrev pub included_name : List ℕ → List ℕ → List ℕ
included_name includer name = if line_begins_with 47 name then name else include_folder_of includer ++ name

-- the result of an include of a file that is not read
abbrev pub include_not_read : List ℕ → FetchFault → Included
include_not_read name Absent = NotRead (codes "no file: " ++ name)
include_not_read name TooLong = NotRead (codes "file too long: " ++ name)
include_not_read name Failed = NotRead []
include_not_read name OutOfMemory = NotRead []

-- the result of an include of this file, given the answer of its fetch and the results of its own includes
abbrev pub include_of_answer : (List ℕ → Included) → List ℕ → Result (List ℕ) FetchFault → Included
include_of_answer included name (Ok bytes) = Read (file_excerpt included name bytes)
include_of_answer included name (Err fault) = include_not_read name fault

-- the result of an include of the file with this name, if files may be nested this deep, counting this file
unfoldable pub included_below : FileMap → ℕ → List ℕ → Included
included_below files zero name = NotRead (codes "include too deep: " ++ name)
included_below files (suc depth) name =
    include_of_answer (λ word. included_below files depth (included_name name word)) name
    (file_fetch_answer (file_of_name files name))

-- the result of an include in the file `includer`, by the word of the include
abbrev pub included_by : FileMap → ℕ → List ℕ → List ℕ → Included
included_by files depth includer word = included_below files depth (included_name includer word)

-- the deck of a file with this name and these bytes, if files may be nested this deep below it
abbrev pub excerpt_of_deck_above : FileMap → ℕ → List ℕ → List ℕ → Excerpt
excerpt_of_deck_above files depth name bytes = file_excerpt (included_by files depth name) name bytes

-- the maximum depth of included files below the first file
abbrev pub most_include_depth : ℕ
most_include_depth = 16

-- the deck of a file with this name and these bytes
unfoldable pub excerpt_of_deck_file : FileMap → List ℕ → List ℕ → Excerpt
excerpt_of_deck_file files name bytes = excerpt_of_deck_above files most_include_depth name bytes

-- the deck of a file with this name and these bytes if all other files are absent
abbrev pub excerpt_of_lone_deck_file : List ℕ → List ℕ → Excerpt
excerpt_of_lone_deck_file name bytes = excerpt_of_deck_file no_files_in_map name bytes
