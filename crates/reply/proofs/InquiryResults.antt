-- The results of inquiries, by those of their steps.
use Rattle.std.proofs.Common.{◌≡◌, ◌∙◌, refl, sym, ap, ap₂, subst, ℕ, List, [], ◌∷◌, Option, Some, None, Result, Ok}
use Rattle.std.proofs.Common.{Err}
use Rattle.units_io.specs.Outcomes as outcome
use Rattle.expr_tree.specs.declared.fault.ParseFault.{ParseFault}
use Rattle.expr_tree.specs.ParseResult.{parse_of}
use Rattle.expr_tree.specs.Syntax.{Syntax}
use Rattle.expr_tree.specs.Words.{words_in}
use Rattle.quantity.specs.Amount.{Amount}
use Rattle.def_entry.specs.Tables.{EntryTable}
use Rattle.tree_eval.specs.Steps.{ValueOrFault}
use Rattle.tree_eval.specs.Value.{value}
use Rattle.table_names.specs.declared.fault.NameFault.{NameFault}
use Rattle.table_names.specs.Faults.{name_fault}
use Rattle.table_names.specs.Meanings.{expansion}
use Rattle.live_table.specs.Answers.{live_answer_of_value}
use Rattle.reply.specs.declared.fault.ReplyFault.{ReplyFault}
use Rattle.reply.specs.Inquiries.{◌>>=◌, Inquiry, inquiry_after, inquiry_answer, inquiry_without_queries, value_of_text}
use Rattle.reply.specs.Inquiries.{tree_value, values_of_trees}
use Rattle.reply.specs.TextValues.{AreInquiredValuesOf, IsInquiredValueOf}
use Rattle.reply.specs.Trees.{inquiry_parse_result, inquiry_tree, inquiry_trees}
use Rattle.general_lemmas.proofs.Results.{same_Ok, err-ok}

-- ---- one step after another
abbrev pub bound : {A B E : Type 0} → Result A E → (A → Result B E) → Result B E
bound first step = outcome.◌>>=◌ first step

module _ {A B E : Type 0} (first : Result A E) (step : A → Result B E) (y : B) where
  pub split-steps : bound first step ≡ Ok y → (x : A) × (first ≡ Ok x) × (step x ≡ Ok y)
  split-steps h = go first refl h
    where
      go : (r : Result A E) → first ≡ r → bound r step ≡ Ok y → (x : A) × (first ≡ Ok x) × (step x ≡ Ok y)
      go (Ok x) e h = (x, e, h)
      go (Err fault) e h = absurd (err-ok fault y h)

-- the result of two inquiries, by that of the first
abbrev pub answer_after : {A B : Type 0} → Inquiry A → (A → Inquiry B) → Result A ReplyFault → Result B ReplyFault
answer_after first next answer = (inquiry_after first.events answer next).answer

module _ {A B : Type 0} (first : Inquiry A) (next : A → Inquiry B) (y : B) where
  pub split-answers : (first >>= next).answer ≡ Ok y → (x : A) × (first.answer ≡ Ok x) × ((next x).answer ≡ Ok y)
  split-answers h = go first.answer refl h
    where
      go : (r : Result A ReplyFault) → first.answer ≡ r → answer_after first next r ≡ Ok y
          → (x : A) × (first.answer ≡ Ok x) × ((next x).answer ≡ Ok y)
      go (Ok x) e h = (x, e, h)
      go (Err fault) e h = absurd (err-ok fault y h)

  pub join-answers : (x : A) → first.answer ≡ Ok x → (next x).answer ≡ Ok y → (first >>= next).answer ≡ Ok y
  join-answers x e h = ap (answer_after first next) e ∙ h

-- ---- the value of a text
module _ (table : EntryTable) (text : List ℕ) (x : Amount) where
  abbrev answer_for : Result Syntax ParseFault → Result Amount ReplyFault
  answer_for tree = (inquiry_after [] (inquiry_parse_result tree) (tree_value table)).answer

  by-tree : (tree : Syntax) → parse_of None text ≡ Ok tree
      → (fault : Option NameFault) → name_fault table (words_in tree) ≡ fault
      → (result : ValueOrFault) → value (expansion table tree) None ≡ result
      → inquiry_answer (live_answer_of_value fault result) ≡ Ok x → IsInquiredValueOf table text x
  by-tree tree parses None names (Ok q) evaluates h = record {
    tree = tree;
    parses = parses;
    names = names;
    evaluates = evaluates ∙ ap Ok (same_Ok q x h);
  }
  by-tree tree parses None names (Err fault) evaluates h = absurd (err-ok _ x h)
  by-tree tree parses (Some fault) names result evaluates h = absurd (err-ok _ x h)

  pub value-of : (value_of_text table text).answer ≡ Ok x → IsInquiredValueOf table text x
  value-of h = go (parse_of None text) refl h
    where
      go : (p : Result Syntax ParseFault) → parse_of None text ≡ p → answer_for p ≡ Ok x
          → IsInquiredValueOf table text x
      go (Ok tree) parses h =
          by-tree tree parses (name_fault table (words_in tree)) refl (value (expansion table tree) None) refl h
      go (Err fault) parses h = absurd (err-ok _ x h)

  pub of-tree : (v : IsInquiredValueOf table text x) → (tree_value table v.tree).answer ≡ Ok x
  of-tree v = ap₂ (λ fault result. inquiry_answer (live_answer_of_value fault result)) v.names v.evaluates

  pub of-value : IsInquiredValueOf table text x → (value_of_text table text).answer ≡ Ok x
  of-value v = ap answer_for v.parses ∙ of-tree v

-- a text has one value
pub inquired-value-is-unique : (table : EntryTable) (text : List ℕ) (x y : Amount) → IsInquiredValueOf table text x
    → IsInquiredValueOf table text y
    → x ≡ y
inquired-value-is-unique table text x y v w = same_Ok x y (sym (of-value table text x v) ∙ of-value table text y w)

-- ---- the values of texts
module _ (table : EntryTable) where
  abbrev onto : Amount → List Amount → Inquiry (List Amount)
  onto x xs = inquiry_without_queries (Ok (x ∷ xs))

  pub values-of : (texts : List (List ℕ)) (trees : List Syntax) (units : List Amount) → inquiry_trees texts ≡ Ok trees
      → (values_of_trees table trees).answer ≡ Ok units → AreInquiredValuesOf table texts units
  values-of [] trees units e h =
      let none : [] ≡ trees = same_Ok [] trees e in
      let nothing : [] ≡ units =
      same_Ok [] units (ap (λ ts. (values_of_trees table ts).answer) none ∙ h) in
      subst (AreInquiredValuesOf table []) nothing tt
  values-of (text ∷ texts) trees units e h =
      let read = split-steps (inquiry_tree text) (λ tree. bound (inquiry_trees texts) (λ ts. Ok (tree ∷ ts))) trees e in
      let rest = split-steps (inquiry_trees texts) (λ ts. Ok (read.0 ∷ ts)) trees read.2 in
      let is : read.0 ∷ rest.0 ≡ trees = same_Ok (read.0 ∷ rest.0) trees rest.2 in
      let first = split-answers (tree_value table read.0) (λ x. values_of_trees table rest.0 >>= onto x) units
      (ap (λ ts. (values_of_trees table ts).answer) is ∙ h) in
      let further = split-answers (values_of_trees table rest.0) (onto first.0) units first.2 in
      subst (AreInquiredValuesOf table (text ∷ texts)) {x = first.0 ∷ further.0}
      (same_Ok (first.0 ∷ further.0) units further.2) (
        value-of table text first.0
            (join-answers (inquiry_without_queries (inquiry_tree text)) (tree_value table) first.0 read.0 read.1
            first.1),
        values-of texts rest.0 further.0 rest.1 further.1,
      )

  pub of-values : (texts : List (List ℕ)) (units : List Amount) → AreInquiredValuesOf table texts units
      → (trees : List Syntax) × (inquiry_trees texts ≡ Ok trees) × ((values_of_trees table trees).answer ≡ Ok units)
  of-values [] [] h = ([], refl, refl)
  of-values [] (x ∷ units) h = absurd h
  of-values (text ∷ texts) [] h = absurd h
  of-values (text ∷ texts) (x ∷ units) h =
      let rest = of-values texts units h.1 in (
        h.0.tree ∷ rest.0,
        ap₂ (λ p q. bound (inquiry_parse_result p) (λ tree. bound q (λ ts. Ok (tree ∷ ts)))) h.0.parses rest.1,
        join-answers (tree_value table h.0.tree) (λ x. values_of_trees table rest.0 >>= onto x) (x ∷ units) x
            (of-tree table text x h.0)
            (join-answers (values_of_trees table rest.0) (onto x) (x ∷ units) units rest.2 refl),
      )
