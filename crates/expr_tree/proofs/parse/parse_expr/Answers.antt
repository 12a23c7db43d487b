use Rattle.std.proofs.Common.{◌≡◌, ◌⊎◌, inl, inr, MatchResult, IsErrAnd, Result, Ok, Err, Option, Some, List, ℕ, ap}
use Rattle.std.proofs.Common.{sym, ◌∙◌, map}
use Rattle.std.specs.Option.{option_copied}
use Rattle.expr_tree.specs.declared.fault.ParseFault.{ParseFault}
use Rattle.expr_tree.specs.declared.fault.ParseFault.TheVariants.{OutOfMemory}
use Rattle.expr_tree.specs.declared.tree.Tree.{Tree}
use Rattle.expr_tree.specs.Faults.{first_parse_fault}
use Rattle.expr_tree.specs.Lexemes.{tokens}
use Rattle.expr_tree.specs.ParseResult.{parse_of}
use Rattle.expr_tree.specs.TokenReading.{tree_of_token_list}
use Rattle.expr_tree.specs.TokenViews.{token_view}
use Rattle.expr_tree.specs.Trees.{syntax}
use Rattle.expr_tree.proofs.DerivationSearch.{tree_of_token_list_law}
use Rattle.expr_tree.proofs.ParsedTexts.{faultless_text_parsed_to_tree, text_parsed_to_first_fault}
use Rattle.expr_tree.proofs.parse.parse_expr.Goals as goal

-- the fault that the scan returns is the fault of the parser
handed_on : (IsTree : Tree → Type 0) (text : List ℕ) (x : ParseFault) (r : Result Tree ParseFault)
    → IsErrAnd r (λ y. y ≡ x) → (x ≡ OutOfMemory) ⊎ (first_parse_fault text ≡ Some x)
    → MatchResult r IsTree (λ fault. (fault ≡ OutOfMemory) ⊎ (first_parse_fault text ≡ Some fault))
handed_on IsTree text x (Ok tree) same f = absurd same
handed_on IsTree text x (Err y) same (inl none) = inl (same ∙ none)
handed_on IsTree text x (Err y) same (inr first) = inr (first ∙ ap Some (sym same))

-- the first fault of the text is the computed one
computed : (binder : Option (List ℕ)) (text : List ℕ) (r : Result Tree ParseFault)
    → MatchResult r (λ tree. parse_of binder text ≡ Ok (syntax tree))
    (λ fault. (fault ≡ OutOfMemory) ⊎ (first_parse_fault text ≡ Some fault))
    → MatchResult r (λ tree. parse_of binder text ≡ Ok (syntax tree))
    (λ fault. (fault ≡ OutOfMemory) ⊎ (parse_of binder text ≡ Err fault))
computed binder text (Ok tree) is = is
computed binder text (Err x) (inl none) = inl none
computed binder text (Err x) (inr first) = inr (text_parsed_to_first_fault binder text x first)

pub returns-in_err-tokens : goal.returns-in_err-tokens
returns-in_err-tokens c = record {
  exact = handed_on _ c.args.text.now c.in_err-tokens.field-0.0 c.from_residual.result c.from_residual.ensures.1
      c.in_err-tokens.ensures.fault;
  computed = computed (option_copied c.args.binder) c.args.text.now c.from_residual.result
      (handed_on _ c.args.text.now c.in_err-tokens.field-0.0 c.from_residual.result c.from_residual.ensures.1
      c.in_err-tokens.ensures.fault);
}

pub returns : goal.returns
returns c =
    let made : tree_of_token_list (option_copied c.args.binder) (tokens c.args.text.now)
    ≡ Some (syntax c.in_ok-tree_of_tokens.field-0) =
    (ap (tree_of_token_list (option_copied c.args.binder))
    (sym (ap (map token_view) c.deref.ensures.value ∙ c.in_ok-tokens.ensures.tokens)) ∙ c.in_ok-tree_of_tokens.ensures)
    in
    record {
      exact = (
        c.in_ok-tokens.ensures.faultless,
        (tree_of_token_list_law (option_copied c.args.binder) (tokens c.args.text.now) _).0 made,
      );
      computed = faultless_text_parsed_to_tree (option_copied c.args.binder) c.args.text.now _
          c.in_ok-tokens.ensures.faultless made;
    }
