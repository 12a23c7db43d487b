-- The singulars of a word that looks like an English plural.
use Rattle.std.specs.Prelude.{ℕ, ◌-◌, ◌&&◌, Bool, nat_lt, if◌then◌else◌, List, [], ◌∷◌, ◌++◌, length, take, drop, codes}
use Rattle.std.specs.Str.{bytes_eq}

-- the word without its last k bytes
abbrev pub stem_without_end : ℕ → List ℕ → List ℕ
stem_without_end k word = take (length word - k) word

-- the word has more than `more` bytes and ends in `ending`
abbrev pub has_plural_ending : ℕ → List ℕ → List ℕ → Bool
has_plural_ending more ending word =
    nat_lt more (length word) && bytes_eq (drop (length word - length ending) word) ending

-- the singulars of a word: a word of at least three bytes may lose an `s`, one of at least four bytes an `es`, and in
-- one of at least five bytes an `ies` may become a `y`; a word with several of these endings has several singulars, in
-- this order
abbrev pub singulars : List ℕ → List (List ℕ)
singulars word =
    (if has_plural_ending 2 (codes "s") word then stem_without_end 1 word ∷ [] else [])
    ++ (if has_plural_ending 3 (codes "es") word then stem_without_end 2 word ∷ [] else [])
    ++ (if has_plural_ending 4 (codes "ies") word then (stem_without_end 3 word ++ codes "y") ∷ [] else [])
