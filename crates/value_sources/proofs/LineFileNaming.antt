-- Names by their places.
use Rattle.std.proofs.Common.{◌≡◌, ◌<◌, ◌++◌, ℕ, List, [], ◌∷◌, length, get_or, refl, ap, sym, subst, ◌∙◌, arith}
use Rattle.std.proofs.lemmas.List.{get_or_append_left, map-append}
use Rattle.std.proofs.Math.Seq.{get_or-append_seam}
use Rattle.value_sources.specs.LineFileNames.{AreLineFilesBelow, line_file_name_at, line_file_names_at}

-- the names at places do not change if a name is appended
pub line_file_names_widened : (names : List (List ℕ)) (name : List ℕ) (places : List ℕ)
    → AreLineFilesBelow (length names) places
    → line_file_names_at (names ++ name ∷ []) places ≡ line_file_names_at names places
line_file_names_widened names name [] h = refl
line_file_names_widened names name (place ∷ places) h =
    (λ i. get_or_append_left names (name ∷ []) [] place h.0 i ∷ line_file_names_widened names name places h.1 i)

pub line_files_below_more : (n m : ℕ) (places : List ℕ) → n < m → AreLineFilesBelow n places
    → AreLineFilesBelow m places
line_files_below_more n m [] l h = tt
line_files_below_more n m (place ∷ places) l h =
    (let k = h.0 in omega (arith, k, l), line_files_below_more n m places l h.1)

-- places below a bound stay below it if another such place is appended
pub line_files_below_next : (n place : ℕ) (places : List ℕ) → AreLineFilesBelow n places → place < n
    → AreLineFilesBelow n (places ++ place ∷ [])
line_files_below_next n place [] h l = (l, tt)
line_files_below_next n place (p ∷ places) h l = (h.0, line_files_below_next n place places h.1 l)

pub line_file_named_next : (names : List (List ℕ)) (places : List ℕ) (place : ℕ) (name : List ℕ)
    → line_file_name_at names place ≡ name
    → line_file_names_at names (places ++ place ∷ []) ≡ line_file_names_at names places ++ name ∷ []
line_file_named_next names places place name e =
    map-append (line_file_name_at names) places (place ∷ []) ∙ ap (λ n. line_file_names_at names places ++ n ∷ []) e

line_file_names_one_longer : (names : List (List ℕ)) (name : List ℕ) → length names < length (names ++ name ∷ [])
line_file_names_one_longer [] name = omega arith
line_file_names_one_longer (n ∷ names) name = let l = line_file_names_one_longer names name in omega (arith, l)

module _ (names longer : List (List ℕ)) (name : List ℕ) (e : longer ≡ names ++ name ∷ []) where
  -- places below the number of names are below the number of names after one is appended
  pub still_below : (places : List ℕ) → AreLineFilesBelow (length names) places
      → AreLineFilesBelow (length longer) places
  still_below places h =
      subst (λ ns. AreLineFilesBelow (length ns) places) (sym e)
      (line_files_below_more (length names) (length (names ++ name ∷ [])) places (line_file_names_one_longer names name)
      h)

  -- the place of the new name is below the new number of names
  pub last_below : (n : ℕ) → n ≡ length names → n < length longer
  last_below n h = subst (λ k. k < length longer) (sym h) (subst (λ ns. length names < length ns) (sym e)
      (line_file_names_one_longer names name))

  pub last_named : (n : ℕ) → n ≡ length names → (places : List ℕ) → AreLineFilesBelow (length names) places
      → line_file_names_at longer (places ++ n ∷ []) ≡ line_file_names_at names places ++ name ∷ []
  last_named n h places below =
      ap (λ ns. line_file_names_at ns (places ++ n ∷ [])) e
      ∙ line_file_named_next (names ++ name ∷ []) places n name
      (ap (λ k. get_or (names ++ name ∷ []) k []) h ∙ get_or-append_seam names name [] [])
      ∙ ap (λ ns. ns ++ name ∷ []) (line_file_names_widened names name places below)
