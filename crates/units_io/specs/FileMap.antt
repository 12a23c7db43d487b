-- Files addressed by name.
use Rattle.std.specs.Prelude.{ℕ, List}
use Rattle.std.specs.Ordering.{nat_cmp}
use Rattle.std.specs.Cmp.Lexicographic.{slice_cmp}
use Rattle.std.specs.FinMap as map
use Rattle.std.specs.Coded.{Coded, coded_list, coded_ℕ}
use Rattle.std.specs.declared.option.Option.{Option}

-- the bytes of each file, by its name
abbrev pub FileMap : Type 0
FileMap = map.FinMap (slice_cmp nat_cmp) (List ℕ)

-- the maximum length of a file that is read
abbrev pub longest_file : ℕ
longest_file = 16777216

-- the bytes of the file of this name
abbrev pub file_of_name : FileMap → List ℕ → Option (List ℕ)
file_of_name files name = map.get files name

-- the files of a list; of several files with one name, the first one counts
abbrev pub files_of_named_texts : List (List ℕ × List ℕ) → FileMap
files_of_named_texts entries = map.from_entries entries

-- the files with this file added, or replacing the one with its name
abbrev pub with_file : FileMap → List ℕ → List ℕ → FileMap
with_file files name bytes = map.insert files name bytes

-- the map without files
abbrev pub no_files_in_map : FileMap
no_files_in_map = map.empty

-- the encoding of a map of files as its entries
abbrev pub file_map_code : Coded FileMap
file_map_code = map.code (coded_list coded_ℕ) (coded_list coded_ℕ)
