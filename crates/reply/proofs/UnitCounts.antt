-- The numbers of parts, trees and values of a list.
use Rattle.std.proofs.Common.{◌≡◌, ◌∙◌, ◌<◌, ℕ, suc, List, [], ◌∷◌, length, refl, sym, ap, arith}
use Rattle.std.proofs.lemmas.List.{length-map}
use Rattle.std.proofs.lemmas.List.Splits.{length-slice_split}
use Rattle.std.specs.List.{slice_split}
use Rattle.std.specs.Prelude.{Result, Ok, Err}
use Rattle.units_io.specs.Outcomes.{◌>>=◌}
use Rattle.expr_tree.specs.Syntax.{Syntax}
use Rattle.quantity.specs.Amount.{Amount}
use Rattle.def_entry.specs.EntryReading.{is_entry_semicolon}
use Rattle.def_entry.specs.Tables.{EntryTable}
use Rattle.def_lines.specs.Blanks.{trimmed_of_blanks}
use Rattle.reply.specs.declared.fault.ReplyFault.{ReplyFault}
use Rattle.reply.specs.Inquiries.{inquiry_after, inquiry_without_queries, tree_value, values_of_trees}
use Rattle.reply.specs.Targets.{conversion_target_parts}
use Rattle.reply.specs.Trees.{inquiry_tree, inquiry_trees}

-- there are as many trees as texts
pub inquiry-trees-count : (texts : List (List ℕ)) (trees : List Syntax) → inquiry_trees texts ≡ Ok trees
    → length trees ≡ length texts
inquiry-trees-count [] trees e = let s : [] ≡ trees = cc in ap length (sym s)
inquiry-trees-count (text ∷ texts) trees e = go (inquiry-trees-count texts) (inquiry_tree text) (inquiry_trees texts)
    refl e
  where
    go : ((xs : List Syntax) → inquiry_trees texts ≡ Ok xs → length xs ≡ length texts)
        → (p : Result Syntax ReplyFault) (q : Result (List Syntax) ReplyFault) → inquiry_trees texts ≡ q
        → (p >>= (λ tree. q >>= (λ trees. Ok (tree ∷ trees)))) ≡ Ok trees → length trees ≡ length (text ∷ texts)
    go few (Ok x) (Ok xs) is e =
        let s : x ∷ xs ≡ trees = cc in
        let n : length xs ≡ length texts = few xs is in
        ap length (sym s) ∙ ap suc n
    go few (Ok x) (Err fault) is e = cc
    go few (Err fault) q is e = cc

-- there are as many values as trees
pub inquiry-values_of_trees-count : (t : EntryTable) (trees : List Syntax) (xs : List Amount)
    → (values_of_trees t trees).answer ≡ Ok xs
    → length xs ≡ length trees
inquiry-values_of_trees-count t [] xs e = let s : [] ≡ xs = cc in ap length (sym s)
inquiry-values_of_trees-count t (tree ∷ trees) xs e = go (inquiry-values_of_trees-count t trees)
    (tree_value t tree).answer
    (values_of_trees t trees).answer refl e
  where
    go : ((ys : List Amount) → (values_of_trees t trees).answer ≡ Ok ys → length ys ≡ length trees)
        → (p : Result Amount ReplyFault) (q : Result (List Amount) ReplyFault) → (values_of_trees t trees).answer ≡ q
        → (inquiry_after (tree_value t tree).events p
        (λ x. inquiry_after (values_of_trees t trees).events q (λ ys. inquiry_without_queries (Ok (x ∷ ys))))).answer
        ≡ Ok xs
        → length xs ≡ length (tree ∷ trees)
    go few (Ok x) (Ok ys) is e =
        let s : x ∷ ys ≡ xs = cc in
        let n : length ys ≡ length trees = few ys is in
        ap length (sym s) ∙ ap suc n
    go few (Ok x) (Err fault) is e = cc
    go few (Err fault) q is e = cc

-- a list has at least one part
conversion-list-has-a-part : (list : List ℕ) → 0 < length (conversion_target_parts list)
conversion-list-has-a-part list =
    omega (
      arith,
      length-map (slice_split is_entry_semicolon list) trimmed_of_blanks,
      length-slice_split
          is_entry_semicolon list,
    )

-- a list has at least one unit
pub conversion-list-has-a-unit : (t : EntryTable) (list : List ℕ) (trees : List Syntax) (units : List Amount)
    → inquiry_trees (conversion_target_parts list) ≡ Ok trees → (values_of_trees t trees).answer ≡ Ok units
    → 0 < length units
conversion-list-has-a-unit t list trees units e f =
    omega (
      arith,
      conversion-list-has-a-part list,
      inquiry-trees-count (conversion_target_parts list) trees
          e,
      inquiry-values_of_trees-count t trees units f,
    )
