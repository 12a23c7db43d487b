-- Sums, products and juxtapositions, which are read one part after another.
use Rattle.std.proofs.Common.{◌≡◌, ℕ, true, false, not, List, [], ◌∷◌, ◌++◌, Option, None, is_none, refl, sym}
use Rattle.std.proofs.Common.{◌∙◌, ap, subst}
use Rattle.expr_tree.specs.declared.operator.Scale.{Scale}
use Rattle.expr_tree.specs.declared.operator.Scale.TheVariants.{Multiply, Divide}
use Rattle.expr_tree.specs.declared.operator.Sign.{Sign}
use Rattle.expr_tree.specs.declared.operator.Sign.TheVariants as signs
use Rattle.expr_tree.specs.Front.{JuxtapositionTreeAt, PowerTreeAt, ProductTreeAt, SumTreeAt, first_token_scale}
use Rattle.expr_tree.specs.Front.{tokens_begin_operand, first_token_sign, tokens_stop, token_follows_juxtaposition}
use Rattle.expr_tree.specs.Front.{token_follows_power, token_follows_product, token_follows_sum}
use Rattle.expr_tree.specs.Grammar.{SumOf, SumRest, NoTerm, NextTerm, sign_token, sum_rest, sum_syntax, Product}
use Rattle.expr_tree.specs.Grammar.{ProductOf, ProductRest, NoFactor, NextFactor, scale_token, product, product_rest}
use Rattle.expr_tree.specs.Grammar.{product_tree, product_syntax, Juxtaposition, JuxtapositionOf, JuxtapositionRest}
use Rattle.expr_tree.specs.Grammar.{NoPower, NextPower, juxtaposition_syntax, juxtaposition, juxtaposition_rest}
use Rattle.expr_tree.specs.Grammar.{juxtaposition_tree, Power, power, power_tree, terms as terms_of_rest}
use Rattle.expr_tree.specs.Grammar.{members as members_of_rest, rest_factors as factors_of_rest}
use Rattle.expr_tree.specs.Rules.{WantsOperand, EndsOperand, tokens_fit}
use Rattle.expr_tree.specs.Syntax.{Syntax, Members, Factors, Terms}
use Rattle.expr_tree.specs.Syntax as tree
use Rattle.expr_tree.specs.Tokens.{Token, Plus, Minus, Star, Slash, Close}
use Rattle.expr_tree.specs.Trees.{factors_syntax, members_syntax, terms_syntax}
use Rattle.expr_tree.proofs.PartLists.{AreRead, PartRule, all_read, begun, gone_on}
use Rattle.general_lemmas.proofs.Options.{none_is}

-- sums

-- the rule by which terms make a sum
abbrev sums : Option (List ℕ) → PartRule Product SumRest (Sign × Syntax) Terms
sums b = record {
  part = product;
  says = product_tree b;
  follow = token_follows_product;
  rest = sum_rest;
  list = terms_of_rest b;
  cons = λ t ts. tree.Term t.0 t.1 ts;
  head = λ e. (signs.Plus, e);
  ends = λ y. is_none (first_token_sign y);
}

-- the terms that are read so far
abbrev pub TermsRead : Option (List ℕ) → ℕ → List Token → List Token → List (Sign × Syntax) → Type 0
TermsRead b = AreRead (sums b)

-- if a product ends and no sign follows, the sum ends
no_more_parsed_terms : (y : List Token) → tokens_stop token_follows_product y ≡ true → first_token_sign y ≡ None
    → tokens_stop token_follows_sum y ≡ true
no_more_parsed_terms [] s n = refl
no_more_parsed_terms (Close ∷ y) s n = refl
no_more_parsed_terms (Plus ∷ y) s n = cc
no_more_parsed_terms (Minus ∷ y) s n = cc
no_more_parsed_terms (t ∷ y) s n = cc

-- a product that no sign follows is a sum
pub one_parsed_term : (b : Option (List ℕ)) (k : ℕ) (x y : List Token) (e : Syntax) → ProductTreeAt b k x e y
    → first_token_sign y ≡ None
    → SumTreeAt b k x e y
one_parsed_term b k x y e p n =
    record {
      front_part = SumOf p.front_part NoTerm;
      tokens_split = p.tokens_split;
      tree_of_part =
          p.tree_of_part;
      stop = no_more_parsed_terms y p.stop n;
      fit = p.fit;
    }

-- a product that a sign follows is the first term
pub first_parsed_term : (b : Option (List ℕ)) (k : ℕ) (x y : List Token) (e : Syntax) (read : List (Sign × Syntax))
    → ProductTreeAt b k x e y
    → (first_token_sign y ≡ None → ⊥) → read ≡ (signs.Plus, e) ∷ [] → TermsRead b k x y read
first_parsed_term b k x y e read p n are = begun (sums b) k x y e read p (λ h. n (none_is (first_token_sign y) h)) are

-- a product after a sign is the next term
pub next_parsed_term : (b : Option (List ℕ)) (k : ℕ) (x y y' z : List Token) (s : Sign) (e : Syntax)
    (read read' : List (Sign × Syntax)) → TermsRead b k x y read
    → y ≡ sign_token s ∷ y' → ProductTreeAt b k y' e z → read' ≡ read ++ (s, e) ∷ [] → TermsRead b k x z read'
next_parsed_term b k x y y' z s e read read' r is p are =
    gone_on (sums b) k x y y' z e (s, e) read read' r p (NextTerm s p.front_part)
    (λ q others h. is ∙ ap (λ v. sign_token s ∷ v) h)
    (λ q. ap (λ v. tree.Term s v (terms_of_rest b q)) p.tree_of_part) are

-- if no sign follows, the terms make a sum
pub all_parsed_terms : (b : Option (List ℕ)) (k : ℕ) (x y : List Token) (e : Syntax) (read : List (Sign × Syntax))
    → TermsRead b k x y read
    → first_token_sign y ≡ None → e ≡ tree.Sum (terms_syntax read) → SumTreeAt b k x e y
all_parsed_terms b k x y e read r n says =
    let all = all_read (sums b) terms_syntax tree.Sum sum_syntax k x y e read r (ap is_none n) NoTerm refl refl
    (λ t ts. refl)
    (λ e t ts. refl) says in
    record {
      front_part = SumOf r.first all.0;
      tokens_split = all.1;
      tree_of_part = all.2;
      stop =
          no_more_parsed_terms y r.stop n;
      fit = r.fit;
    }

-- an operand is wanted after the sign of a term
pub parsed_term_wants_operand : (k : ℕ) (s : Sign) (x y : List Token) → x ≡ sign_token s ∷ y
    → tokens_fit EndsOperand k x ≡ true
    → tokens_fit WantsOperand k y ≡ true
parsed_term_wants_operand k s x y is h = go s (subst (λ z. tokens_fit EndsOperand k z ≡ true) is h)
  where
    go : (s : Sign) → tokens_fit EndsOperand k (sign_token s ∷ y) ≡ true → tokens_fit WantsOperand k y ≡ true
    go signs.Plus f = f
    go signs.Minus f = f

-- products

-- the rule by which factors make a product
abbrev products : Option (List ℕ) → PartRule Juxtaposition ProductRest (Scale × Syntax) Factors
products b = record {
  part = juxtaposition;
  says = juxtaposition_tree b;
  follow = token_follows_juxtaposition;
  rest = product_rest;
  list = factors_of_rest b;
  cons = λ f fs. tree.Factor f.0 f.1 fs;
  head = λ e. (Multiply, e);
  ends = λ y. is_none (first_token_scale y);
}

-- the factors that are read so far
abbrev pub FactorsRead : Option (List ℕ) → ℕ → List Token → List Token → List (Scale × Syntax) → Type 0
FactorsRead b = AreRead (products b)

-- if a juxtaposition ends and no `*` or `/` follows, the product ends
no_more_parsed_factors : (y : List Token) → tokens_stop token_follows_juxtaposition y ≡ true
    → first_token_scale y ≡ None → tokens_stop token_follows_product y ≡ true
no_more_parsed_factors [] s n = refl
no_more_parsed_factors (Close ∷ y) s n = refl
no_more_parsed_factors (Plus ∷ y) s n = refl
no_more_parsed_factors (Minus ∷ y) s n = refl
no_more_parsed_factors (Star ∷ y) s n = cc
no_more_parsed_factors (Slash ∷ y) s n = cc
no_more_parsed_factors (t ∷ y) s n = cc

-- a juxtaposition that no `*` or `/` follows is a product
pub one_parsed_factor : (b : Option (List ℕ)) (k : ℕ) (x y : List Token) (e : Syntax) → JuxtapositionTreeAt b k x e y
    → first_token_scale y ≡ None → ProductTreeAt b k x e y
one_parsed_factor b k x y e p n =
    record {
      front_part = ProductOf p.front_part NoFactor;
      tokens_split = p.tokens_split;
      tree_of_part =
          p.tree_of_part;
      stop = no_more_parsed_factors y p.stop n;
      fit = p.fit;
    }

-- a juxtaposition that a `*` or `/` follows is the first factor
pub first_parsed_factor : (b : Option (List ℕ)) (k : ℕ) (x y : List Token) (e : Syntax) (read : List (Scale × Syntax))
    → JuxtapositionTreeAt b k x e y
    → (first_token_scale y ≡ None → ⊥) → read ≡ (Multiply, e) ∷ [] → FactorsRead b k x y read
first_parsed_factor b k x y e read p n are = begun (products b) k x y e read p
    (λ h. n (none_is (first_token_scale y) h)) are

-- a juxtaposition after a `*` or `/` is the next factor
pub next_parsed_factor : (b : Option (List ℕ)) (k : ℕ) (x y y' z : List Token) (s : Scale) (e : Syntax)
    (read read' : List (Scale × Syntax)) → FactorsRead b k x y read
    → y ≡ scale_token s ∷ y' → JuxtapositionTreeAt b k y' e z → read' ≡ read ++ (s, e) ∷ [] → FactorsRead b k x z read'
next_parsed_factor b k x y y' z s e read read' r is p are =
    gone_on (products b) k x y y' z e (s, e) read read' r p (NextFactor s p.front_part)
    (λ q others h. is ∙ ap (λ v. scale_token s ∷ v) h)
    (λ q. ap (λ v. tree.Factor s v (factors_of_rest b q)) p.tree_of_part) are

-- if no `*` or `/` follows, the factors make a product
pub all_parsed_factors : (b : Option (List ℕ)) (k : ℕ) (x y : List Token) (e : Syntax) (read : List (Scale × Syntax))
    → FactorsRead b k x y read
    → first_token_scale y ≡ None → e ≡ tree.Product (factors_syntax read) → ProductTreeAt b k x e y
all_parsed_factors b k x y e read r n says =
    let all = all_read (products b) factors_syntax tree.Product product_syntax k x y e read r (ap is_none n) NoFactor
    refl refl
    (λ f fs. refl) (λ e f fs. refl) says in
    record {
      front_part = ProductOf r.first all.0;
      tokens_split = all.1;
      tree_of_part = all.2;
      stop =
          no_more_parsed_factors y r.stop n;
      fit = r.fit;
    }

-- an operand is wanted after the `*` or `/` of a factor
pub parsed_factor_wants_operand : (k : ℕ) (s : Scale) (x y : List Token) → x ≡ scale_token s ∷ y
    → tokens_fit EndsOperand k x ≡ true
    → tokens_fit WantsOperand k y ≡ true
parsed_factor_wants_operand k s x y is h = go s (subst (λ z. tokens_fit EndsOperand k z ≡ true) is h)
  where
    go : (s : Scale) → tokens_fit EndsOperand k (scale_token s ∷ y) ≡ true → tokens_fit WantsOperand k y ≡ true
    go Multiply f = f
    go Divide f = f

-- juxtapositions

-- the rule by which powers make a juxtaposition
abbrev juxtapositions : Option (List ℕ) → PartRule Power JuxtapositionRest Syntax Members
juxtapositions b = record {
  part = power;
  says = power_tree b;
  follow = token_follows_power;
  rest = juxtaposition_rest;
  list = members_of_rest b;
  cons = tree.Member;
  head = λ e. e;
  ends = λ y. not (tokens_begin_operand y);
}

-- the powers that are read so far
abbrev pub MembersRead : Option (List ℕ) → ℕ → List Token → List Token → List Syntax → Type 0
MembersRead b = AreRead (juxtapositions b)

-- if a power ends and no operand begins, the juxtaposition ends
no_more_parsed_members : (y : List Token) → tokens_stop token_follows_power y ≡ true → tokens_begin_operand y ≡ false
    → tokens_stop token_follows_juxtaposition y ≡ true
no_more_parsed_members [] s n = refl
no_more_parsed_members (Plus ∷ y) s n = refl
no_more_parsed_members (Minus ∷ y) s n = refl
no_more_parsed_members (Star ∷ y) s n = refl
no_more_parsed_members (Slash ∷ y) s n = refl
no_more_parsed_members (Close ∷ y) s n = refl
no_more_parsed_members (t ∷ y) s n = cc

-- a power that no operand follows is a juxtaposition
pub one_parsed_member : (b : Option (List ℕ)) (k : ℕ) (x y : List Token) (e : Syntax) → PowerTreeAt b k x e y
    → tokens_begin_operand y ≡ false
    → JuxtapositionTreeAt b k x e y
one_parsed_member b k x y e p n =
    record {
      front_part = JuxtapositionOf p.front_part NoPower;
      tokens_split = p.tokens_split;
      tree_of_part =
          p.tree_of_part;
      stop = no_more_parsed_members y p.stop n;
      fit = p.fit;
    }

-- a power that an operand follows is the first member
pub first_parsed_member : (b : Option (List ℕ)) (k : ℕ) (x y : List Token) (e : Syntax) (read : List Syntax)
    → PowerTreeAt b k x e y
    → tokens_begin_operand y ≡ true → read ≡ e ∷ [] → MembersRead b k x y read
first_parsed_member b k x y e read p n are =
    begun (juxtapositions b) k x y e read p (λ h. let no : false ≡ true = sym (ap not n) ∙ h in cc) are

-- a power after another is the next member
pub next_parsed_member : (b : Option (List ℕ)) (k : ℕ) (x y z : List Token) (e : Syntax) (read read' : List Syntax)
    → MembersRead b k x y read
    → PowerTreeAt b k y e z → read' ≡ read ++ e ∷ [] → MembersRead b k x z read'
next_parsed_member b k x y z e read read' r p are =
    gone_on (juxtapositions b) k x y y z e e read read' r p (NextPower p.front_part) (λ q others h. h)
    (λ q. ap (λ v. tree.Member v (members_of_rest b q)) p.tree_of_part) are

-- if no operand begins, the members make a juxtaposition
pub all_parsed_members : (b : Option (List ℕ)) (k : ℕ) (x y : List Token) (e : Syntax) (read : List Syntax)
    → MembersRead b k x y read
    → tokens_begin_operand y ≡ false → e ≡ tree.Juxtaposed (members_syntax read) → JuxtapositionTreeAt b k x e y
all_parsed_members b k x y e read r n says =
    let all = all_read (juxtapositions b) members_syntax tree.Juxtaposed juxtaposition_syntax k x y e read r
    (ap not n) NoPower
    refl refl
    (λ e es. refl) (λ e f es. refl) says in
    record {
      front_part = JuxtapositionOf r.first all.0;
      tokens_split = all.1;
      tree_of_part = all.2;
      stop =
          no_more_parsed_members y r.stop n;
      fit = r.fit;
    }
