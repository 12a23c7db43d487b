-- The meaning of a word, as reported by the numbers to which it leads, is right.
use Rattle.std.proofs.Common.{◌≡◌, ◌⊎◌, ◌+◌, ◌*◌, ◌<◌, ℕ, Bool, true, false, Bor, List, [], ◌∷◌, length, Contains}
use Rattle.std.proofs.Common.{Option, Some, None, Ok, Err, refl, sym, ap, subst, ◌∙◌, inl, inr, arith}
use Rattle.std.specs.List.{slice_get}
use Rattle.std.specs.Option.{unwrap_or}
use Rattle.std.proofs.lemmas.Bool.{and_from}
use Rattle.expr_tree.specs.declared.word_list.WordUse.{WordUse}
use Rattle.def_entry.specs.declared.key.Key.{Key}
use Rattle.def_entry.specs.declared.key.Kind.TheVariants as kind
use Rattle.def_entry.specs.Entries as what
use Rattle.def_entry.specs.Entries.{What}
use Rattle.deck.specs.Tables.{table_of_deck}
use Rattle.name_walk.specs.declared.step.Step.{Step}
use Rattle.name_walk.specs.declared.step.Step.TheVariants.{To}
use Rattle.name_walk.specs.ClosedNames.{IsSettledInGraph}
use Rattle.tree_eval.specs.declared.meaning.Meaning.TheVariants as reports
use Rattle.tree_eval.specs.declared.outcome.Outcome.{Outcome}
use Rattle.tree_eval.specs.declared.outcome.Outcome.TheVariants as outcomes
use Rattle.tree_eval.specs.Entries.{evaluated_alias, evaluated_meaning}
use Rattle.tree_eval.specs.Environment.{IsReportedEvalMeaning}
use Rattle.tree_eval.specs.Expansions.{Callable, Callee, EvalMeaning, One, Two, eval_callable_name}
use Rattle.tree_eval.specs.Expansion.{inverted_eval_word}
use Rattle.tree_eval.specs.Outcomes.{outcome_of_eval_meaning, outcome_of_value}
use Rattle.tree_eval.specs.Steps.{ValueOrFault}
use Rattle.tree_eval.specs.Value.{value}
use Rattle.table_names.specs.Kinds.{ForOne, ForTwo, StandsForTargets, table_name_may_mean}
use Rattle.table_names.specs.Leads.{table_word_targets}
use Rattle.table_names.specs.Meanings.{key_meaning, outcome, word_meaning}
use Rattle.table_names.proofs.Lookups.{target_present}
use Rattle.table_names.proofs.MeaningKinds.{meaning_kind_law}
use Rattle.live_table.specs.Scenes.{IsWordLedToSettled, NodeScene, has_node_callee, node_callee_at, node_callee_in}
use Rattle.live_table.specs.Scenes.{is_node_callee, is_settled, node_number_meaning, node_word_meaning}
use Rattle.live_table.specs.TableContents.{node_key_at}
use Rattle.live_table.proofs.DeckTables.{live_deck_entries_fit_kinds}
use Rattle.live_table.proofs.Places.{element}
use Rattle.general_lemmas.proofs.Members.{member_first}

-- ---- marks
pub set_mark_is_settled : (settled : List Bool) (n : ℕ) → unwrap_or (slice_get settled n) false ≡ true
    → IsSettledInGraph settled n
set_mark_is_settled settled n h = by (slice_get settled n) refl
  where
    by : (o : Option Bool) → slice_get settled n ≡ o → slice_get settled n ≡ Some true
    by None q = let z : false ≡ true = sym (ap (λ o. unwrap_or o false) q) ∙ h in cc
    by (Some b) q = q ∙ ap Some (sym (ap (λ o. unwrap_or o false) q) ∙ h)

-- the mark of a settled number is set
pub settled_number_has_set_mark : (settled : List Bool) (n : ℕ) → IsSettledInGraph settled n
    → unwrap_or (slice_get settled n) false ≡ true
settled_number_has_set_mark settled n h = ap (λ o. unwrap_or o false) h

-- ---- the meanings that a key may have
-- an outcome of an expression is never that of a function
pub cached_value_is_not_callable : (w : ValueOrFault) → outcome_of_value w ≡ outcomes.Callable → ⊥
cached_value_is_not_callable (Ok q) e = cc
cached_value_is_not_callable (Err fault) e = cc

-- equal lists have one first member
pub first_same : {A : Type 0} (x y : A) (xs ys : List A) → x ∷ xs ≡ y ∷ ys → x ≡ y
first_same x y xs ys e = cc

-- equal lists have the same second member
pub second_same : {A : Type 0} (x y z w : A) (xs ys : List A) → x ∷ y ∷ xs ≡ z ∷ w ∷ ys → y ≡ w
second_same x y z w xs ys e = cc

-- a list of one member is not a list of two
pub not_both : {A : Type 0} (x y z : A) → x ∷ [] ≡ y ∷ z ∷ [] → ⊥
not_both {A} x y z e = let n : 1 ≡ 2 = ap (λ (ws : List A). length ws) e in omega (arith, n)

-- the name and the rank of a function are those of its key
alias_node_callee_name : (name : List ℕ) (m : EvalMeaning) (g : Callable) → evaluated_alias name m ≡ Callee g
    → eval_callable_name g ≡ name
alias_node_callee_name name (One x) g e = cc
alias_node_callee_name name (Two x y) g e = cc
alias_node_callee_name name (Callee f) g e = sym (ap (λ m. eval_callable_name (node_callee_in m)) e)

-- the function of an entry has the name of its key
pub node_callee_has_name_of_key : (means : WordUse → EvalMeaning) (name : List ℕ) (w : What) (g : Callable)
    → evaluated_meaning means name w ≡ Callee g → eval_callable_name g ≡ name
node_callee_has_name_of_key means name what.Primitive g e = cc
node_callee_has_name_of_key means name what.Dimensionless g e = cc
node_callee_has_name_of_key means name (what.Body x) g e = cc
node_callee_has_name_of_key means name (what.ListOf parts) g e = cc
node_callee_has_name_of_key means name (what.Function d) g e = sym (ap (λ m. eval_callable_name (node_callee_in m)) e)
node_callee_has_name_of_key means name (what.Table d) g e = sym (ap (λ m. eval_callable_name (node_callee_in m)) e)
node_callee_has_name_of_key means name (what.Alias target) g e = alias_node_callee_name name
    (means (inverted_eval_word target)) g e

-- a meaning that is a function is the function that it has
pub node_callee_is_its_meaning : (m : EvalMeaning) → is_node_callee m ≡ true → m ≡ Callee (node_callee_in m)
node_callee_is_its_meaning (One x) e = cc
node_callee_is_its_meaning (Two x y) e = cc
node_callee_is_its_meaning (Callee f) e = refl

-- a meaning that a function key may have is a function
pub function_node_has_callee : (m : EvalMeaning) → table_name_may_mean kind.Func m ≡ true
    → (f : Callable) × (m ≡ Callee f)
function_node_has_callee (One x) e = cc
function_node_has_callee (Two x y) e = cc
function_node_has_callee (Callee f) e = (f, refl)

-- a meaning that a function key may have is found to be a function
pub function_node_is_callee : (m : EvalMeaning) → table_name_may_mean kind.Func m ≡ true → is_node_callee m ≡ true
function_node_is_callee (One x) e = cc
function_node_is_callee (Two x y) e = cc
function_node_is_callee (Callee f) e = refl

-- the steps of a word lead to settled names
pub record IsLedBy (s : NodeScene) (u : WordUse) (xs : List Step) (k : ℕ) : Type 0 where
  pub n : ℕ
  pub m : ℕ
  pub at_first : slice_get xs (2 * k) ≡ Some (To n)
  pub at_second : slice_get xs (2 * k + 1) ≡ Some (To m)
  pub led : IsWordLedToSettled s u n m

-- equal steps lead to one number
equal_found_steps_lead_to_one_node : (n m : ℕ) → Some (To n) ≡ Some (To m) → n ≡ m
equal_found_steps_lead_to_one_node n m e = cc

-- a word with these steps is led by them
pub node_steps_lead_word : (s : NodeScene) (u : WordUse) (xs : List Step) (k : ℕ) → IsLedBy s u xs k → (n m : ℕ)
    → slice_get xs (2 * k) ≡ Some (To n)
    → slice_get xs (2 * k + 1) ≡ Some (To m) → IsWordLedToSettled s u n m
node_steps_lead_word s u xs k h n m e f =
    subst (λ (x : ℕ). IsWordLedToSettled s u x m) (equal_found_steps_lead_to_one_node h.n n (sym h.at_first ∙ e))
    (subst (λ (y : ℕ). IsWordLedToSettled s u h.n y) (equal_found_steps_lead_to_one_node h.m m (sym h.at_second ∙ f))
    h.led)

-- the steps of the word at a place
module _ (s : NodeScene) (us : List WordUse) (k : ℕ) (xs : List Step) (j : ℕ) (within : k < length us)
    (each : (u : WordUse) → slice_get us k ≡ Some u → IsLedBy s u xs j) where
  abbrev some_word : (u : WordUse) × (slice_get us k ≡ Some u)
  some_word = element us k within

  pub to_first : (n : ℕ) × (slice_get xs (2 * j) ≡ Some (To n))
  to_first = let h = each some_word.0 some_word.1 in (h.n, h.at_first)

  pub to_second : (n : ℕ) × (slice_get xs (2 * j + 1) ≡ Some (To n))
  to_second = let h = each some_word.0 some_word.1 in (h.m, h.at_second)

  module _ (n m : ℕ) (e : slice_get xs (2 * j) ≡ Some (To n)) (f : slice_get xs (2 * j + 1) ≡ Some (To m)) where
    pub are_led : (u : WordUse) → slice_get us k ≡ Some u → IsWordLedToSettled s u n m
    are_led u at = node_steps_lead_word s u xs j (each u at) n m e f

    pub first_settled : IsSettledInGraph s.settled_flags n
    first_settled = (are_led some_word.0 some_word.1).user_settled

    pub second_settled : IsSettledInGraph s.settled_flags m
    second_settled = (are_led some_word.0 some_word.1).target_settled

-- ---- the reported meaning of a word, by the numbers to which it leads
module _ (v : NodeScene) (u : WordUse) (n m : ℕ) (led : IsWordLedToSettled v u n m) where
  abbrev first_key : Key
  first_key = node_key_at v.keys n

  abbrev second_key : Key
  second_key = node_key_at v.keys m

  pub stands : StandsForTargets (table_of_deck v.deck) u
  stands = meaning_kind_law.words (table_of_deck v.deck) (live_deck_entries_fit_kinds v.deck) u led.word_leads

  pub two_are_reported : (n ≡ m → ⊥) → (a b : Bor Outcome) → a.now ≡ outcome (table_of_deck v.deck) first_key
      → b.now ≡ outcome (table_of_deck v.deck) second_key
      → IsReportedEvalMeaning (has_node_callee v) (node_callee_at v) (node_word_meaning v u) (reports.Two a b)
  two_are_reported apart a b e f = elim led.single_target [ inl h ↦ absurd (apart h.1) | inr t ↦ by t stands ]
    where
      by : table_word_targets (table_of_deck v.deck) u ≡ first_key ∷ second_key ∷ []
          → StandsForTargets (table_of_deck v.deck) u
          → IsReportedEvalMeaning (has_node_callee v) (node_callee_at v) (node_word_meaning v u) (reports.Two a b)
      by t (ForOne k q means) = absurd (not_both k first_key second_key (sym q ∙ t))
      by t (ForTwo k j x y q prefix unit kx jy means) = (
        x,
        y,
        means,
        e ∙ (ap (outcome (table_of_deck v.deck)) (first_same first_key k (second_key ∷ []) (j ∷ []) (sym t ∙ q))
            ∙ ap outcome_of_eval_meaning kx),
        f ∙ (ap (outcome (table_of_deck v.deck)) (second_same first_key second_key k j [] [] (sym t ∙ q))
            ∙ ap outcome_of_eval_meaning jy),
      )

  -- a prefix and a unit have different numbers
  word_is : n ≡ m → word_meaning (table_of_deck v.deck) u ≡ key_meaning (table_of_deck v.deck) first_key
  word_is same = by stands led.single_target
    where
      by : StandsForTargets (table_of_deck v.deck) u
          → ((table_word_targets (table_of_deck v.deck) u ≡ first_key ∷ []) × (n ≡ m)) ⊎ (table_word_targets
          (table_of_deck v.deck) u ≡ first_key ∷ second_key ∷ [])
          → word_meaning (table_of_deck v.deck) u ≡ key_meaning (table_of_deck v.deck) first_key
      by (ForOne k q means) (inl t) =
          means ∙ ap (key_meaning (table_of_deck v.deck)) (sym (first_same first_key k [] [] (sym t.0 ∙ q)))
      by (ForOne k q means) (inr t) = absurd (not_both k first_key second_key (sym q ∙ t))
      by (ForTwo k j x y q prefix unit kx jy means) (inl t) = absurd (not_both first_key k j (sym t.0 ∙ q))
      by (ForTwo k j x y q prefix unit kx jy means) (inr t) =
          let a : first_key ≡ k = first_same first_key k (second_key ∷ []) (j ∷ []) (sym t ∙ q) in
          let b : second_key ≡ j = second_same first_key second_key k j [] [] (sym t ∙ q) in
          let c : k ≡ j = sym a ∙ (ap (node_key_at v.keys) same ∙ b) in
          let d : kind.Prefix ≡ kind.Unit = sym prefix ∙ (ap (λ (x : Key). x.kind) c ∙ unit) in cc

  first_in : Contains (table_word_targets (table_of_deck v.deck) u) first_key
  first_in = elim led.single_target [
    | inl t ↦ subst (λ (ks : List Key). Contains ks first_key) (sym t.0) (member_first first_key first_key [] refl)
    | inr t ↦ subst (λ (ks : List Key). Contains ks first_key) (sym t)
        (member_first first_key first_key (second_key ∷ []) refl)
  ]

  target_means : table_name_may_mean first_key.kind (key_meaning (table_of_deck v.deck) first_key) ≡ true
  target_means =
      meaning_kind_law.keys (table_of_deck v.deck) (live_deck_entries_fit_kinds v.deck) first_key
      (target_present (table_of_deck v.deck) u first_key first_in)
      (led.word_leads.into first_key first_in)

  module _ (same : n ≡ m) (a : Bor Outcome) (e : a.now ≡ outcome (table_of_deck v.deck) first_key) where
    pub function_is_reported : a.now ≡ outcomes.Callable → IsReportedEvalMeaning (has_node_callee v) (node_callee_at v)
        (node_word_meaning v u)
        (reports.Function n)
    function_is_reported c = by (key_meaning (table_of_deck v.deck) first_key) refl
      where
        by : (x : EvalMeaning) → key_meaning (table_of_deck v.deck) first_key ≡ x
            → IsReportedEvalMeaning (has_node_callee v) (node_callee_at v) (node_word_meaning v u) (reports.Function n)
        by (One x) q = absurd
            (cached_value_is_not_callable (value x None) (sym (ap outcome_of_eval_meaning q) ∙ (sym e ∙ c)))
        by (Two x y) q = let z : false ≡ true = sym (ap (table_name_may_mean first_key.kind) q) ∙ target_means in cc
        by (Callee f) q = (
          and_from (is_settled v n) (is_node_callee (node_number_meaning v n))
              (settled_number_has_set_mark v.settled_flags n led.user_settled)
              (ap is_node_callee q),
          word_is same ∙ node_callee_is_its_meaning (node_number_meaning v n) (ap is_node_callee q),
        )

    pub one_is_reported : (a.now ≡ outcomes.Callable → ⊥) → IsReportedEvalMeaning (has_node_callee v) (node_callee_at v)
        (node_word_meaning v u)
        (reports.One a)
    one_is_reported c = by (key_meaning (table_of_deck v.deck) first_key) refl
      where
        by : (x : EvalMeaning) → key_meaning (table_of_deck v.deck) first_key ≡ x
            → IsReportedEvalMeaning (has_node_callee v) (node_callee_at v) (node_word_meaning v u) (reports.One a)
        by (One x) q = (x, word_is same ∙ q, e ∙ ap outcome_of_eval_meaning q)
        by (Two x y) q = let z : false ≡ true = sym (ap (table_name_may_mean first_key.kind) q) ∙ target_means in cc
        by (Callee f) q = absurd (c (e ∙ ap outcome_of_eval_meaning q))
