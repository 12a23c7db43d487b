-- The result of parsing a text, and the tree that its tokens give.
use Rattle.std.proofs.Common.{◌≡◌, ◌↔◌, ℕ, List, length, Option, Some, None, Ok, Err, refl, sym, ◌∙◌, ap}
use Rattle.expr_tree.specs.declared.fault.ParseFault.{ParseFault}
use Rattle.expr_tree.specs.Faults.{first_parse_fault}
use Rattle.expr_tree.specs.Grammar.{TokensGiveTree}
use Rattle.expr_tree.specs.Lexemes.{tokens}
use Rattle.expr_tree.specs.ParseResult.{parse_fault_or_tree, parse_of, ParsedLaw}
use Rattle.expr_tree.specs.TokenReading.{tree_of_token_list}
use Rattle.expr_tree.specs.Syntax.{Syntax}
use Rattle.expr_tree.proofs.Derivations.{fitting_tokens_give_tree}
use Rattle.expr_tree.proofs.Faultless.{faultless_text_tokens_fit}
use Rattle.expr_tree.proofs.DerivationSearch.{tree_of_token_list_law}

-- the result is a tree exactly if there is no fault and the tree is read
parsed_tree_of_parts : (len : ℕ) (o : Option ParseFault) (t : Option Syntax) (e : Syntax)
    → (parse_fault_or_tree len o t ≡ Ok e) ↔ ((o ≡ None) × (t ≡ Some e))
parsed_tree_of_parts len (Some x) t e = (λ h. cc, λ h. let no : Some x ≡ None = h.0 in cc)
parsed_tree_of_parts len None (Some f) e = (
  λ h. let same : f ≡ e = cc in (refl, ap Some same),
  λ h. let same : Some f ≡ Some e = h.1 in let f_is : f ≡ e =
      cc in ap Ok f_is,
)
parsed_tree_of_parts len None None e = (λ h. cc, λ h. let no : None ≡ Some e = h.1 in cc)

-- the result is a fault exactly if there is that fault
parse_fault_of_parts : (len : ℕ) (o : Option ParseFault) (t : Option Syntax) (x : ParseFault)
    → (o ≡ None → t ≡ None → ⊥)
    → (parse_fault_or_tree len o t ≡ Err x) ↔ (o ≡ Some x)
parse_fault_of_parts len (Some y) t x some =
    (λ h. let same : y ≡ x = cc in ap Some same, λ h. let same : y ≡ x = cc in ap Err same)
parse_fault_of_parts len None (Some f) x some = (λ h. cc, λ h. cc)
parse_fault_of_parts len None None x some = (λ h. absurd (some refl refl), λ h. cc)

-- a text without a fault has a tree
faultless_text_has_tree : (binder : Option (List ℕ)) (text : List ℕ) → first_parse_fault text ≡ None
    → tree_of_token_list binder (tokens text) ≡ None
    → ⊥
faultless_text_has_tree binder text h none =
    let x : (e : Syntax) × TokensGiveTree binder (tokens text) e = fitting_tokens_give_tree binder (tokens text)
    (faultless_text_tokens_fit text h) in
    let some : tree_of_token_list binder (tokens text) ≡ Some x.0 =
    (tree_of_token_list_law binder (tokens text) x.0).1 x.1 in
    let no : None ≡ Some x.0 = sym none ∙ some in cc

-- a text is parsed to a tree exactly if it has no fault and its tokens give the tree
parsed_tree : (binder : Option (List ℕ)) (text : List ℕ) (e : Syntax)
    → (parse_of binder text ≡ Ok e) ↔ ((first_parse_fault text ≡ None) × TokensGiveTree binder (tokens text) e)
unfolding parse_of
parsed_tree binder text e =
    let p : (parse_of binder text ≡ Ok e) ↔
    ((first_parse_fault text ≡ None) × (tree_of_token_list binder (tokens text) ≡ Some e)) =
    parsed_tree_of_parts (length text) (first_parse_fault text) (tree_of_token_list binder (tokens text)) e in (
      λ h. ((p.0 h).0, (tree_of_token_list_law binder (tokens text) e).0 (p.0 h).1),
      λ h. p.1 (h.0, (tree_of_token_list_law binder (tokens text) e).1 h.1),
    )

-- a text is parsed to a fault exactly if that is its first one
parsed_fault : (binder : Option (List ℕ)) (text : List ℕ) (x : ParseFault)
    → (parse_of binder text ≡ Err x) ↔ (first_parse_fault text ≡ Some x)
unfolding parse_of
parsed_fault binder text x =
    parse_fault_of_parts (length text) (first_parse_fault text) (tree_of_token_list binder (tokens text)) x
    (faultless_text_has_tree binder text)

-- the law of parsed texts
pub parsed_law : ParsedLaw
parsed_law binder text = (parsed_tree binder text, parsed_fault binder text)

-- a text without a fault is parsed to the tree of its tokens
pub faultless_text_parsed_to_tree : (binder : Option (List ℕ)) (text : List ℕ) (e : Syntax)
    → first_parse_fault text ≡ None
    → tree_of_token_list binder (tokens text) ≡ Some e → parse_of binder text ≡ Ok e
faultless_text_parsed_to_tree binder text e h t =
    (parsed_tree binder text e).1 (h, (tree_of_token_list_law binder (tokens text) e).0 t)

-- a text with a fault is parsed to its first fault
pub text_parsed_to_first_fault : (binder : Option (List ℕ)) (text : List ℕ) (x : ParseFault)
    → first_parse_fault text ≡ Some x
    → parse_of binder text ≡ Err x
text_parsed_to_first_fault binder text x h = (parsed_fault binder text x).1 h
