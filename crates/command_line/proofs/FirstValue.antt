-- After a successful parse: the properties that the parser of an argument gives to its first value.
use Rattle.std.proofs.Common.{◌≡◌, ◌∙◌, ◌⊎◌, inl, inr, refl, sym, ap, subst, ℕ, ◌<◌, Bool, true, false, cond, suc, zero}
use Rattle.std.proofs.Common.{arith, List, [], ◌∷◌, length, map, slice_index_or, Option, Some, None, option_map, Bor}
use Rattle.std.specs.Prelude.{slice_get, ◌==◌, option_and_then}
use Rattle.std.specs.List.{All}
use Rattle.std.specs.Str.{bytes_eq}
use Rattle.std.proofs.lemmas.Bool.{not-true, and_parts}
use Rattle.std.proofs.lemmas.Bool.Decides.{Decides-eqb}
use Rattle.std.proofs.lemmas.List.{nil_from_length}
use Rattle.std.proofs.lemmas.Slice.Eq.{bytes_eq-Decides}
use Rattle.clap.specs.Facts.{Entry, EntryPasses, PassesArg, ValuesPass, IsParsed, args_of, groups_of, parser_of_value}
use Rattle.clap.specs.Matches.{matched_of, first_value}
use Rattle.clap.specs.Simple.{App, app_of}
use Rattle.clap.specs.Walk.{Rule, Text, first_of, rows_of, rule_of}
use Rattle.clap.specs.Values.{Accepts}
use Rattle.clap.specs.declared.builder.arg.Arg.{Arg}
use Rattle.clap.specs.declared.builder.command.Command.{Command}
use Rattle.clap.specs.declared.builder.command.Command.TheViews.{out-Command}
use Rattle.clap.specs.declared.builder.value_parser.ValueParser.{ValueParser}
use Rattle.clap.specs.declared.parser.matches.Found.{Found}
use Rattle.clap.specs.declared.parser.matches.MatchedArg.{MatchedArg}
use Rattle.clap.proofs.CallerLemmas.{entry_by_id}
use Rattle.clap.proofs.WalkLemmas.{first_value-rows}

-- ---- the entry of an argument

-- the first value of a match
option_text_of_match : MatchedArg → Option Text
option_text_of_match x = option_map (λ s. s.now) (slice_get x.vals.items 0)

-- a property of all values is a property of the first
first_option_value_of_all : (P : Bor Text → Type 0) (values : List (Bor Text)) (text : Text) → All P values
    → option_map (λ s. s.now) (slice_get values 0) ≡ Some text
    → (value : Bor Text) × (value.now ≡ text) × P value
first_option_value_of_all P [] text all is = cc
first_option_value_of_all P (value ∷ values) text all is = (value, cc, all 0 value (omega arith))

-- if there is a first value, there is a match
option_matched_some : (o : Option MatchedArg) (text : Text) → option_and_then option_text_of_match o ≡ Some text
    → (x : MatchedArg) × (o ≡ Some x) × (option_text_of_match x ≡ Some text)
option_matched_some None text e = cc
option_matched_some (Some x) text e = (x, refl, e)

-- a first value is the text of an argument that matched
first_option_value-some : (f : Found) (id text : Text) → first_value f id ≡ Some text
    → (x : MatchedArg) × (matched_of f id ≡ Some x) × (option_text_of_match x ≡ Some text)
unfolding option_text_of_match
first_option_value-some f id text is = option_matched_some (matched_of f id) text is

-- a property of each value of an entry and its id is a property of the first value
first_option_value_at_entry : (P : Text → Text → Type 0) (id text : Text) (x : MatchedArg) (e : Entry)
    → e.1 ≡ x → e.0.now ≡ id → option_text_of_match x ≡ Some text
    → All (λ v. P e.0.now v.now) e.1.vals.items → P id text
unfolding option_text_of_match
first_option_value_at_entry P id text x e same key first all =
    let got = first_option_value_of_all (λ v. P e.0.now v.now) e.1.vals.items text all
    (ap (λ (y : MatchedArg). option_map (λ s. s.now) (slice_get y.vals.items 0)) same ∙ first) in
    subst (λ (w : Text). P w text) key (subst (P e.0.now) got.1 got.2)

-- in a command without groups, the values of a named entry are accepted by its argument
option_values_pass : (c : Command) (e : Entry) → groups_of c ≡ [] → (e.0.now ≡ [] → ⊥) → EntryPasses c e
    → All (λ v. PassesArg c e.0.now v.now) e.1.vals.items
option_values_pass c e no_groups named pass = elim pass.0 [
  | inl group ↦ absurd (elim (pass.3 group) [
    | inl empty ↦ named empty
    | inr some ↦
        let below : 0 < 0 = rw no_groups at some in
        absurd (omega arith)
  ])
  | inr values ↦ values
]

-- in a command without groups, the first value of a named argument is accepted by the argument
first_option_value_passes : (c : Command) (f : Found) (id text : Text) → ValuesPass c f → groups_of c ≡ []
    → (id ≡ [] → ⊥) → first_value f id ≡ Some text → PassesArg c id text
first_option_value_passes c f id text values no_groups named is =
    let x = first_option_value-some f id text is in
    let e = entry_by_id (EntryPasses c) f.entries.items id x.0 values x.1 in
    let key : e.0.0.now ≡ id = (bytes_eq-Decides e.0.0.now id).0 e.2 in
    first_option_value_at_entry (PassesArg c) id text x.0 e.0 e.1 key x.2
    (option_values_pass c e.0 no_groups (λ empty. named (sym key ∙ empty)) e.3)

-- ---- the rule of an argument

-- the rule has this id, and its parser accepts the text
abbrev AtRule : Text → Text → Rule → Type 0
AtRule id text r =
    (bytes_eq r.id id ≡ true) × Accepts r.ignore_case (parser_of_value r.parser) text

-- some rule of the list has this id, and its parser accepts the text
abbrev AtSomeRule : Text → Text → List Rule → Type 0
AtSomeRule id text [] = ⊥
AtSomeRule id text (r ∷ rules) = AtRule id text r ⊎ AtSomeRule id text rules

-- if the rule of an argument accepts the text, some rule of the list does
at_some_option_rule : (id text : Text) (args : List Arg) (k : ℕ) (a : Arg) → k < length args
    → slice_index_or args k a ≡ a → AtRule id text (rule_of a) → AtSomeRule id text (map rule_of args)
at_some_option_rule id text [] k a lt is at = absurd (omega arith)
at_some_option_rule id text (x ∷ args) zero a lt is at =
    inl (subst (λ (y : Arg). AtRule id text (rule_of y)) (sym is) at)
at_some_option_rule id text (x ∷ args) (suc k) a lt is at =
    inr (at_some_option_rule id text args k a (omega arith) is at)

-- each rule with this id has this parser
abbrev pub HasParser : Text → ValueParser → List Rule → Type 0
HasParser id parser [] = Unit {0}
HasParser id parser (r ∷ rules) =
    (cond (bytes_eq r.id id) ((r.ignore_case ≡ false) × (parser_of_value r.parser ≡ parser)) (Unit {0}))
    × HasParser id parser rules

-- the parser of a rule is the only one of its id, and accepts the text that the rule accepts
option_parser_accepts_here : (text : Text) (p q : ValueParser) (is_id ignore : Bool)
    → cond is_id ((ignore ≡ false) × (q ≡ p)) (Unit {0}) → is_id ≡ true
    → Accepts ignore q text → Accepts false p text
option_parser_accepts_here text p q true ignore same is accepted =
    subst (λ (w : ValueParser). Accepts false w text) same.1
    (subst (λ (i : Bool). Accepts i q text) same.0 accepted)
option_parser_accepts_here text p q false ignore same is accepted = cc

-- the only parser of an id accepts the texts that some rule of that id accepts
option_parser_accepts : (id text : Text) (p : ValueParser) (rules : List Rule) → HasParser id p rules
    → AtSomeRule id text rules → Accepts false p text
option_parser_accepts id text p [] all some = absurd some
option_parser_accepts id text p (r ∷ rules) all some = elim some [
  | inl here ↦
      option_parser_accepts_here text p (parser_of_value r.parser) (bytes_eq r.id id) r.ignore_case all.0 here.0 here.1
  | inr later ↦ option_parser_accepts id text p rules all.1 later
]

-- ---- entries and rules combined

-- after a parse by a plain command, the parser of an argument accepts its first value
pub first_option_value_accepted : (c : Command) (f : Found) (has_subcommand : Bool) (a : App) (id text : Text)
    (p : ValueParser) → app_of c ≡ a → a.top.is_plain ≡ true → HasParser id p a.top.rules
    → (id ≡ [] → ⊥) → ((out-Command c).has_globals ≡ false → IsParsed c f has_subcommand)
    → first_of id (rows_of f) ≡ Some text → Accepts false p text
first_option_value_accepted c f has_subcommand a id text p is plain one_parser named parsed first =
    let fields : (app_of c).top.is_plain ≡ true = ap (λ (b : App). b.top.is_plain) is ∙ plain in
    let none : (length (groups_of c) == 0) ≡ true = (and_parts _ _ fields).0 in
    let no_groups : groups_of c ≡ [] =
    nil_from_length (groups_of c) ((Decides-eqb (length (groups_of c)) 0).0 none) in
    let no_globals : (out-Command c).has_globals ≡ false =
    not-true _ (and_parts _ _ (and_parts _ _ (and_parts _ _ fields).1).1).0 in
    let any = first_option_value_passes c f id text (parsed no_globals).values no_groups named
    (first_value-rows f id ∙ first) in
    option_parser_accepts id text p a.top.rules one_parser
    (subst (AtSomeRule id text) (ap (λ (b : App). b.top.rules) is)
    (at_some_option_rule id text (args_of c) any.0 any.1 any.2 any.3 any.4))
