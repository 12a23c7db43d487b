-- The words of an entry with and without the trees that they are in.
use Rattle.std.proofs.Common.{◌≡◌, ◌++◌, ◌∷◌, [], List, Option, Some, None, refl, ap, ◌∙◌}
use Rattle.std.proofs.lemmas.List.{map-append}
use Rattle.expr_tree.specs.declared.word_list.WordUse.{WordUse}
use Rattle.expr_tree.specs.Words.{words_in}
use Rattle.def_entry.specs.Entries as what
use Rattle.def_entry.specs.Entries.{Entry, FunctionDef, What}
use Rattle.def_entry.specs.Tables.{entry_at}
use Rattle.tree_eval.specs.Entries.{eval_tree_words_if, function_eval_words}
use Rattle.table_names.specs.Words.{table_words_of_entry, table_words_of_what}
use Rattle.value_sources.specs.declared.site.Site.{Site}
use Rattle.value_sources.specs.declared.site.Site.TheVariants as site
use Rattle.value_sources.specs.Uses.{SourceUse, SourceUsesLaw, entry_source_uses, function_source_uses}
use Rattle.value_sources.specs.Uses.{source_use_words, source_uses_at, what_source_uses}

pub source_use_words_at : (s : Site) (words : List WordUse) → source_use_words (source_uses_at s words) ≡ words
source_use_words_at s [] = refl
source_use_words_at s (w ∷ words) = ap (λ (ws : List WordUse). w ∷ ws) (source_use_words_at s words)

source_use_words_append : (a b : List SourceUse) (x y : List WordUse) → source_use_words a ≡ x → source_use_words b ≡ y
    → source_use_words (a ++ b) ≡ x ++ y
source_use_words_append a b x y p q = map-append (λ (u : SourceUse). u.word) a b ∙ (λ i. p i ++ q i)

function_source_words : (d : FunctionDef) → source_use_words (function_source_uses d) ≡ function_eval_words d
function_source_words d =
    let a : List WordUse = eval_tree_words_if d.in_unit in
    let b : List WordUse = eval_tree_words_if d.out_unit in
    let c : List WordUse = words_in d.forward in
    let e : List WordUse = eval_tree_words_if d.inverse in
    let two : List SourceUse = source_uses_at site.InUnit a ++ source_uses_at site.OutUnit b in
    source_use_words_append (two ++ source_uses_at site.Forward c) (source_uses_at site.Inverse e) (a ++ b ++ c) e
    (source_use_words_append two (source_uses_at site.Forward c) (a ++ b) c
    (source_use_words_append (source_uses_at site.InUnit a) (source_uses_at site.OutUnit b) a b
    (source_use_words_at site.InUnit a) (source_use_words_at site.OutUnit b))
    (source_use_words_at site.Forward c)) (source_use_words_at site.Inverse e)

what_source_words : (w : What) → source_use_words (what_source_uses w) ≡ table_words_of_what w
what_source_words what.Primitive = refl
what_source_words what.Dimensionless = refl
what_source_words (what.Body e) = source_use_words_at site.Body (words_in e)
what_source_words (what.Function d) = function_source_words d
what_source_words (what.Alias target) = refl
what_source_words (what.Table d) = source_use_words_at site.TableUnit (words_in d.unit)
what_source_words (what.ListOf parts) = refl

entry_source_words : (e : Option Entry) → source_use_words (entry_source_uses e) ≡ table_words_of_entry e
entry_source_words None = refl
entry_source_words (Some e) = what_source_words e.what

pub source_uses_law : SourceUsesLaw
source_uses_law table n = entry_source_words (entry_at table n)
