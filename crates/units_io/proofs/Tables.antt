-- Files that are stored as pairs of a name and its bytes.
use Rattle.std.proofs.Common.{◌≡◌, ◌∙◌, refl, sym, ap₂, ℕ, cond, List, [], ◌∷◌, Some}
use Rattle.std.specs.Ordering.{nat_cmp}
use Rattle.std.specs.Cmp.Lexicographic.{slice_cmp, texts_ties, nat_list_cmp_total}
use Rattle.std.specs.FinMap.{find, same_map, get-from_entries, get-insert, slice_cmp-IsAntisymmetric}
use Rattle.std.specs.FinMap.{nat_cmp-IsAntisymmetric}
use Rattle.units_io.specs.FileMap.{file_of_name, with_file, files_of_named_texts}
use Rattle.units_io.specs.NamedValues.{NamedTexts, named_text, SetsNamedText}

-- a search by the byte order of names finds the value of the first pair with the name
find-named_text : (pairs : NamedTexts) (name : List ℕ) → find (slice_cmp nat_cmp) name pairs ≡ named_text pairs name
find-named_text [] name = refl
find-named_text (pair ∷ pairs) name =
    ap₂ (λ b o. cond b (Some pair.1) o) (sym (texts_ties name pair.0)) (find-named_text pairs name)

-- the file with a name is the value of the name
pub file_of_name-files_of_named_texts : (pairs : NamedTexts) (name : List ℕ)
    → file_of_name (files_of_named_texts pairs) name ≡ named_text pairs name
file_of_name-files_of_named_texts pairs name = get-from_entries nat_list_cmp_total _ name ∙ find-named_text pairs name

-- setting the bytes of a name among the pairs adds the file to the files
pub files_of_named_texts-Sets : (old new : NamedTexts) (name bytes : List ℕ) → SetsNamedText old new name bytes
    → files_of_named_texts new ≡ with_file (files_of_named_texts old) name bytes
files_of_named_texts-Sets old new name bytes sets =
    same_map nat_list_cmp_total (slice_cmp-IsAntisymmetric nat_cmp-IsAntisymmetric) _ _ (λ other.
    file_of_name-files_of_named_texts new other ∙ sets other
    ∙ sym (get-insert nat_list_cmp_total (files_of_named_texts old) name bytes other
    ∙ ap₂ (λ b o. cond b (Some bytes) o) (sym (texts_ties other name)) (file_of_name-files_of_named_texts old other)))
