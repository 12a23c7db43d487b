-- The grammar: a type for each of its rules, the tokens of each derivation, and its tree.
use Rattle.std.specs.Prelude.{◌≡◌, ℕ, Bool, false, if◌then◌else◌, List, [], ◌∷◌, Option, Some, None}
use Rattle.std.specs.Str.{bytes_eq}
use Rattle.frac128.specs.Decimals.{NumeralDecimal}
use Rattle.expr_tree.specs.declared.operator.RootKind.{RootKind}
use Rattle.expr_tree.specs.declared.operator.Scale.{Scale}
use Rattle.expr_tree.specs.declared.operator.Scale.TheVariants.{Multiply, Divide}
use Rattle.expr_tree.specs.declared.operator.Sign.{Sign}
use Rattle.expr_tree.specs.declared.operator.Sign.TheVariants as signs
use Rattle.expr_tree.specs.Syntax.{Syntax, Members, Factors, Terms}
use Rattle.expr_tree.specs.Syntax as tree
use Rattle.expr_tree.specs.Tokens.{Token, Numeral, Word, WordWithPower, Head, Root}
use Rattle.expr_tree.specs.Tokens.{Plus, Minus, Star, Slash, Bar, Caret, Tilde, Open, Close}

mutual
  -- product { ("+" | "-") product }
  pub data Sum : Type 0 where
    SumOf : Product → SumRest → Sum

  pub data SumRest : Type 0 where
    NoTerm : SumRest
    NextTerm : Sign → Product → SumRest → SumRest

  -- juxtaposition { ("*" | "/") juxtaposition }
  pub data Product : Type 0 where
    ProductOf : Juxtaposition → ProductRest → Product

  pub data ProductRest : Type 0 where
    NoFactor : ProductRest
    NextFactor : Scale → Juxtaposition → ProductRest → ProductRest

  -- ("-" | "+") juxtaposition | power { power }
  pub data Juxtaposition : Type 0 where
    Signed : Sign → Juxtaposition → Juxtaposition
    JuxtapositionOf : Power → JuxtapositionRest → Juxtaposition

  pub data JuxtapositionRest : Type 0 where
    NoPower : JuxtapositionRest
    NextPower : Power → JuxtapositionRest → JuxtapositionRest

  -- atom [ "^" exponent ]
  pub data Power : Type 0 where
    Bare : Atom → Power
    Raised : Atom → Exponent → Power

  -- ("-" | "+") exponent | power
  pub data Exponent : Type 0 where
    SignedExponent : Sign → Exponent → Exponent
    ExponentOf : Power → Exponent

  pub data Atom : Type 0 where
    -- numeral
    NumeralAtom : NumeralDecimal → Atom
    -- numeral "|" numeral
    BarAtom : NumeralDecimal → NumeralDecimal → Atom
    -- word
    WordAtom : List ℕ → Atom
    -- word with power
    PowerAtom : List ℕ → NumeralDecimal → Atom
    -- head sum ")"
    CallAtom : List ℕ → Sum → Atom
    -- "~" head sum ")"
    InverseAtom : List ℕ → Sum → Atom
    -- ("sqrt" | "cuberoot") "(" sum ")"
    RootAtom : RootKind → Sum → Atom
    -- "(" sum ")"
    GroupAtom : Sum → Atom

abbrev pub sign_token : Sign → Token
sign_token signs.Plus = Plus
sign_token signs.Minus = Minus

abbrev pub scale_token : Scale → Token
scale_token Multiply = Star
scale_token Divide = Slash

-- the tokens of a derivation, followed by other tokens
abbrev mutual
  pub sum : Sum → List Token → List Token
  sum (SumOf p ps) others = product p (sum_rest ps others)

  pub sum_rest : SumRest → List Token → List Token
  sum_rest NoTerm others = others
  sum_rest (NextTerm s p ps) others = sign_token s ∷ product p (sum_rest ps others)

  pub product : Product → List Token → List Token
  product (ProductOf j js) others = juxtaposition j (product_rest js others)

  pub product_rest : ProductRest → List Token → List Token
  product_rest NoFactor others = others
  product_rest (NextFactor s j js) others = scale_token s ∷ juxtaposition j (product_rest js others)

  pub juxtaposition : Juxtaposition → List Token → List Token
  juxtaposition (Signed s j) others = sign_token s ∷ juxtaposition j others
  juxtaposition (JuxtapositionOf p ps) others = power p (juxtaposition_rest ps others)

  pub juxtaposition_rest : JuxtapositionRest → List Token → List Token
  juxtaposition_rest NoPower others = others
  juxtaposition_rest (NextPower p ps) others = power p (juxtaposition_rest ps others)

  pub power : Power → List Token → List Token
  power (Bare a) others = atom a others
  power (Raised a e) others = atom a (Caret ∷ exponent_tokens e others)

  pub exponent_tokens : Exponent → List Token → List Token
  exponent_tokens (SignedExponent s e) others = sign_token s ∷ exponent_tokens e others
  exponent_tokens (ExponentOf p) others = power p others

  pub atom : Atom → List Token → List Token
  atom (NumeralAtom n) others = Numeral n ∷ others
  atom (BarAtom n d) others = Numeral n ∷ Bar ∷ Numeral d ∷ others
  atom (WordAtom w) others = Word w ∷ others
  atom (PowerAtom w n) others = WordWithPower w n ∷ others
  atom (CallAtom w d) others = Head w ∷ sum d (Close ∷ others)
  atom (InverseAtom w d) others = Tilde ∷ Head w ∷ sum d (Close ∷ others)
  atom (RootAtom kind d) others = Root kind ∷ Open ∷ sum d (Close ∷ others)
  atom (GroupAtom d) others = Open ∷ sum d (Close ∷ others)

-- the word is the binder
abbrev pub is_binder : Option (List ℕ) → List ℕ → Bool
is_binder None w = false
is_binder (Some binder) w = bytes_eq binder w

-- a word, which is the argument if it is the binder
abbrev pub word_syntax : Option (List ℕ) → List ℕ → Syntax
word_syntax binder w = if is_binder binder w then tree.Argument else tree.Word w

-- the argument times an operand
abbrev pub argument_times_syntax : Syntax → Syntax
argument_times_syntax e = tree.Group (tree.Juxtaposed (tree.Member tree.Argument (tree.Member e tree.NoMember)))

-- a word before an operand in parentheses: a product if the word is the binder, and else a call
abbrev pub call_syntax : Option (List ℕ) → List ℕ → Syntax → Syntax
call_syntax binder w e = if is_binder binder w then argument_times_syntax e else tree.Call w e

abbrev pub signed_syntax : Sign → Syntax → Syntax
signed_syntax signs.Plus e = e
signed_syntax signs.Minus e = tree.Negate e

-- a list of one member is that member itself

abbrev pub sum_syntax : Syntax → Terms → Syntax
sum_syntax e tree.NoTerm = e
sum_syntax e ts = tree.Sum (tree.Term signs.Plus e ts)

abbrev pub product_syntax : Syntax → Factors → Syntax
product_syntax e tree.NoFactor = e
product_syntax e fs = tree.Product (tree.Factor Multiply e fs)

abbrev pub juxtaposition_syntax : Syntax → Members → Syntax
juxtaposition_syntax e tree.NoMember = e
juxtaposition_syntax e es = tree.Juxtaposed (tree.Member e es)

-- the tree of a derivation, with or without a binder
abbrev mutual
  pub sum_tree : Option (List ℕ) → Sum → Syntax
  sum_tree binder (SumOf p ps) = sum_syntax (product_tree binder p) (terms binder ps)

  pub terms : Option (List ℕ) → SumRest → Terms
  terms binder NoTerm = tree.NoTerm
  terms binder (NextTerm s p ps) = tree.Term s (product_tree binder p) (terms binder ps)

  pub product_tree : Option (List ℕ) → Product → Syntax
  product_tree binder (ProductOf j js) = product_syntax (juxtaposition_tree binder j) (rest_factors binder js)

  pub rest_factors : Option (List ℕ) → ProductRest → Factors
  rest_factors binder NoFactor = tree.NoFactor
  rest_factors binder (NextFactor s j js) = tree.Factor s (juxtaposition_tree binder j) (rest_factors binder js)

  pub juxtaposition_tree : Option (List ℕ) → Juxtaposition → Syntax
  juxtaposition_tree binder (Signed s j) = signed_syntax s (juxtaposition_tree binder j)
  juxtaposition_tree binder (JuxtapositionOf p ps) = juxtaposition_syntax (power_tree binder p) (members binder ps)

  pub members : Option (List ℕ) → JuxtapositionRest → Members
  members binder NoPower = tree.NoMember
  members binder (NextPower p ps) = tree.Member (power_tree binder p) (members binder ps)

  pub power_tree : Option (List ℕ) → Power → Syntax
  power_tree binder (Bare a) = atom_tree binder a
  power_tree binder (Raised a e) = tree.Power (atom_tree binder a) (exponent_tree binder e)

  pub exponent_tree : Option (List ℕ) → Exponent → Syntax
  exponent_tree binder (SignedExponent s e) = signed_syntax s (exponent_tree binder e)
  exponent_tree binder (ExponentOf p) = power_tree binder p

  pub atom_tree : Option (List ℕ) → Atom → Syntax
  atom_tree binder (NumeralAtom n) = tree.Number n
  atom_tree binder (BarAtom n d) = tree.Bar n d
  atom_tree binder (WordAtom w) = word_syntax binder w
  atom_tree binder (PowerAtom w n) = tree.Power (word_syntax binder w) (tree.Number n)
  atom_tree binder (CallAtom w d) = call_syntax binder w (sum_tree binder d)
  atom_tree binder (InverseAtom w d) = tree.Inverse w (sum_tree binder d)
  atom_tree binder (RootAtom kind d) = tree.Root kind (sum_tree binder d)
  atom_tree binder (GroupAtom d) = tree.Group (sum_tree binder d)

-- the tokens give the tree
abbrev pub TokensGiveTree : Option (List ℕ) → List Token → Syntax → Type 0
TokensGiveTree binder ts e = (d : Sum) × (ts ≡ sum d []) × (e ≡ sum_tree binder d)

-- law: tokens give at most one tree
abbrev pub OneTreeLaw : Type 0
OneTreeLaw = (binder : Option (List ℕ)) (ts : List Token) (x y : Syntax)
    → TokensGiveTree binder ts x → TokensGiveTree binder ts y → x ≡ y
