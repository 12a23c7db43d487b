-- Rules of the grammar that read one part after another: the parts that were read come before those that follow.
use Rattle.std.proofs.Common.{◌≡◌, ℕ, Bool, true, false, List, [], ◌∷◌, ◌++◌, refl, sym, ◌∙◌, ap}
use Rattle.expr_tree.specs.Front.{IsTreeAtFront, tokens_stop}
use Rattle.expr_tree.specs.Rules.{EndsOperand, tokens_fit}
use Rattle.expr_tree.specs.Syntax.{Syntax}
use Rattle.expr_tree.specs.Tokens.{Token}

-- `part` and `rest` give the tokens of a part and of the parts after it, `says` the tree of a part, and `list` the
-- members of the parts after it; `head` makes a member of the first tree, and `ends` tests whether the list ends
pub record PartRule (P R A L : Type 0) : Type 0 where
  pub part : P → List Token → List Token
  pub says : P → Syntax
  pub follow : Token → Bool
  pub rest : R → List Token → List Token
  pub list : R → L
  pub cons : A → L → L
  pub head : Syntax → A
  pub ends : List Token → Bool

-- the list is not empty
abbrev some : {A : Type 0} → List A → Bool
some [] = false
some (a ∷ cs) = true

-- a list with one more member is not empty
grammar_parts_not_empty : {A : Type 0} (cs : List A) (a : A) → some (cs ++ a ∷ []) ≡ true
grammar_parts_not_empty [] a = refl
grammar_parts_not_empty (c ∷ cs) a = refl

-- members put in front of others
abbrev before : {A L : Type 0} → (A → L → L) → List A → L → L
before cons [] others = others
before cons (a ∷ cs) others = cons a (before cons cs others)

-- one more member comes directly before the others
grammar_part_before_others : {A L : Type 0} (cons : A → L → L) (cs : List A) (a : A) (others : L)
    → before cons (cs ++ a ∷ []) others ≡ before cons cs (cons a others)
grammar_part_before_others cons [] a others = refl
grammar_part_before_others cons (c ∷ cs) a others = ap (cons c) (grammar_part_before_others cons cs a others)

-- the parts read so far, together with any parts that follow, are parts from the front on
pub record AreRead {P R A L : Type 0} (rule : PartRule P R A L) (k : ℕ) (x y : List Token)
    (read : List A) : Type 0 where
  pub first : P
  pub more : List A
  pub are : read ≡ rule.head (rule.says first) ∷ more
  pub two : rule.ends y ≡ true → some more ≡ true
  pub stop : tokens_stop rule.follow y ≡ true
  pub fit : tokens_fit EndsOperand k y ≡ true
  pub so_far : (q : R) (others : List Token) → y ≡ rule.rest q others
      → (p : R) × (x ≡ rule.part first (rule.rest p others)) × (before rule.cons more (rule.list q) ≡ rule.list p)

module _ {P R A L : Type 0} (rule : PartRule P R A L) (k : ℕ) where
  pub begun : (x y : List Token) (e : Syntax) (read : List A) → IsTreeAtFront rule.part rule.says rule.follow k x e y
      → (rule.ends y ≡ true → ⊥) → read ≡ rule.head e ∷ [] → AreRead rule k x y read
  begun x y e read p n are = record {
    first = p.front_part;
    more = [];
    are = are ∙ ap (λ v. rule.head v ∷ []) p.tree_of_part;
    two = λ h. absurd (n h);
    stop = p.stop;
    fit = p.fit;
    so_far = λ q others h. (q, p.tokens_split ∙ ap (rule.part p.front_part) h, refl);
  }

  -- reading one more member, given the parts that begin with it
  pub gone_on : (x y y' z : List Token) (e : Syntax) (a : A) (read read' : List A) → AreRead rule k x y read
      → (p : IsTreeAtFront rule.part rule.says rule.follow k y' e z)
      → (step : R → R)
      → ((q : R) (others : List Token) → y' ≡ rule.part p.front_part (rule.rest q others)
      → y ≡ rule.rest (step q) others)
      → ((q : R) → rule.cons a (rule.list q) ≡ rule.list (step q))
      → read' ≡ read ++ a ∷ [] → AreRead rule k x z read'
  gone_on x y y' z e a read read' r p step spelled listed are = record {
    first = r.first;
    more = r.more ++ a ∷ [];
    are = are ∙ ap (λ v. v ++ a ∷ []) r.are;
    two = λ h. grammar_parts_not_empty r.more a;
    stop = p.stop;
    fit = p.fit;
    so_far = λ q others h.
        let d : (d : R) × (x ≡ rule.part r.first (rule.rest d others))
        × (before rule.cons r.more (rule.list (step q)) ≡ rule.list d)
        = r.so_far (step q) others (spelled q others (p.tokens_split ∙ ap (rule.part p.front_part) h)) in (
          d.0,
          d.1,
          grammar_part_before_others rule.cons r.more a (rule.list q) ∙ ap (before rule.cons r.more) (listed q)
              ∙ d.2,
        );
  }

-- the list of the members, of which two or more make one tree
module _ {P R A L : Type 0} (rule : PartRule P R A L) (listed : List A → L) (whole : L → Syntax)
    (joined : Syntax → L → Syntax) where
  before_none : ((a : A) (cs : List A) → listed (a ∷ cs) ≡ rule.cons a (listed cs)) → (cs : List A)
      → before rule.cons cs (listed []) ≡ listed cs
  before_none each [] = refl
  before_none each (a ∷ cs) = ap (rule.cons a) (before_none each cs) ∙ sym (each a cs)

  said_joined : ((a : A) (cs : List A) → listed (a ∷ cs) ≡ rule.cons a (listed cs))
      → ((e : Syntax) (a : A) (l : L) → whole (rule.cons (rule.head e) (rule.cons a l)) ≡ joined e (rule.cons a l))
      → (e : Syntax) (more : List A) → some more ≡ true
      → whole (listed (rule.head e ∷ more)) ≡ joined e (before rule.cons more (listed []))
  said_joined each join e [] h = cc
  said_joined each join e (a ∷ more) h =
      ap whole (each (rule.head e) (a ∷ more) ∙ ap (rule.cons (rule.head e)) (each a more))
      ∙ (join e a (listed more) ∙ ap (λ v. joined e (rule.cons a v)) (sym (before_none each more)))

  pub all_read : (k : ℕ) (x y : List Token) (e : Syntax) (read : List A) (r : AreRead rule k x y read)
      → rule.ends y ≡ true
      → (none : R) → y ≡ rule.rest none y → rule.list none ≡ listed []
      → ((a : A) (cs : List A) → listed (a ∷ cs) ≡ rule.cons a (listed cs))
      → ((e : Syntax) (a : A) (l : L) → whole (rule.cons (rule.head e) (rule.cons a l)) ≡ joined e (rule.cons a l))
      → e ≡ whole (listed read) → (p : R) × (x ≡ rule.part r.first (rule.rest p y))
      × (e ≡ joined (rule.says r.first) (rule.list p))
  all_read k x y e read r n none spelled empty each join says =
      let d : (p : R) × (x ≡ rule.part r.first (rule.rest p y))
      × (before rule.cons r.more (rule.list none) ≡ rule.list p) = r.so_far none y spelled in
      let listed_all : before rule.cons r.more (listed []) ≡ rule.list d.0 = ap (before rule.cons r.more) (sym empty)
      ∙ d.2 in (
        d.0,
        d.1,
        says ∙ (ap (λ v. whole (listed v)) r.are
            ∙ (said_joined each join (rule.says r.first) r.more (r.two n)
            ∙ ap (joined (rule.says r.first)) listed_all)),
      )
