-- The options of a function, read one by one.
use Rattle.std.proofs.Common.{◌≡◌, ◌<◌, ◌≤◌, ◌+◌, ◌-◌, ℕ, suc, zero, List, Bool, true, false, cond, Option, Some}
use Rattle.std.proofs.Common.{None, refl, sym, ap, ◌∙◌, arith}
use Rattle.std.proofs.lemmas.Bool.{and_parts}
use Rattle.def_lines.specs.Blanks.{after_blanks}
use Rattle.def_entry.specs.declared.options.Choice.{Choice}
use Rattle.def_entry.specs.declared.options.Choice.TheVariants.{Units, Domain, Range, NoError}
use Rattle.def_entry.specs.Options.{Options, begins_with_no_error, begins_with_option, choice_at, options_from}
use Rattle.def_entry.specs.Options.{text_after_choice, with_next_option, with_option_choice}
use Rattle.def_entry.specs.Steps.{◌>>=◌}

-- the option with which a text starts, in terms of the tests of all options
option_choice_by_tests : (text : List ℕ) (choice : Choice) (u d r n : Bool) → begins_with_option Units text ≡ u
    → begins_with_option Domain text ≡ d → begins_with_option Range text ≡ r → begins_with_no_error text ≡ n
    → cond u (Some Units) (cond d (Some Domain) (cond r (Some Range) (cond n (Some NoError) None))) ≡ Some choice
    → begins_with_option choice text ≡ true
option_choice_by_tests text choice true d r n eu ed er en e = let i : choice ≡ Units = cc in
    ap (λ x. begins_with_option x text) i ∙ eu
option_choice_by_tests text choice false true r n eu ed er en e = let i : choice ≡ Domain = cc in
    ap (λ x. begins_with_option x text) i ∙ ed
option_choice_by_tests text choice false false true n eu ed er en e = let i : choice ≡ Range = cc in
    ap (λ x. begins_with_option x text) i
    ∙ er
option_choice_by_tests text choice false false false true eu ed er en e =
    let i : choice ≡ NoError = cc in
    ap (λ x. begins_with_option x text) i ∙ (and_parts (begins_with_option NoError text) _ en).0
option_choice_by_tests text choice false false false false eu ed er en e = cc

-- the option with which a text starts has its word at the front of the text
pub begins_with_option-choice_at : (text : List ℕ) (found : Option Choice) (choice : Choice) → found ≡ choice_at text
    → found ≡ Some choice → begins_with_option choice text ≡ true
begins_with_option-choice_at text found choice is some =
    option_choice_by_tests text choice (begins_with_option Units text) (begins_with_option Domain text)
    (begins_with_option Range text)
    (begins_with_no_error text) refl refl refl refl (sym is ∙ some)

-- one step of reading options
next_option : (n : ℕ) (o : Options) (text rest : List ℕ) (found : Option Choice) → 0 < n → rest ≡ after_blanks text
    → found ≡ choice_at rest
    → options_from n o text ≡ with_next_option (options_from (n - 1)) found o rest
unfolding options_from
next_option zero o text rest found some front is = absurd (omega arith)
next_option (suc n) o text rest found some front is =
    let less : n ≡ suc n - 1 = omega arith in
    ap (λ t. with_next_option (options_from n) (choice_at t) o t) (sym front)
    ∙ ap (λ x. with_next_option (options_from n) x o rest) (sym is)
    ∙ ap (λ k. with_next_option (options_from k) found o rest) less

-- if the text does not start with an option, reading ends
pub next_option-none : (most k : ℕ) (o : Options) (text rest : List ℕ) (found : Option Choice)
    (whole : Option (Options × List ℕ)) → k ≤ most
    → options_from (suc most - k) o text ≡ whole → rest ≡ after_blanks text → found ≡ choice_at rest → found ≡ None
    → Some (o, rest) ≡ whole
next_option-none most k o text rest found whole less is front at none =
    let some : 0 < suc most - k = omega arith in
    sym (sym is ∙ next_option (suc most - k) o text rest found some front at
    ∙ ap (λ x. with_next_option (options_from (suc most - k - 1)) x o rest) none)

-- if the text starts with an option, reading continues after it
pub next_option-some : (most k : ℕ) (o : Options) (text rest value : List ℕ) (found : Option Choice) (choice : Choice)
    (made whole : Option (Options × List ℕ)) → k ≤ most
    → options_from (suc most - k) o text ≡ whole → rest ≡ after_blanks text → found ≡ choice_at rest
    → found ≡ Some choice → value ≡ text_after_choice choice rest → made ≡ with_option_choice choice o value
    → (made >>= (λ f. options_from (suc most - (k + 1)) f.0 f.1)) ≡ whole
next_option-some most k o text rest value found choice made whole less is front at some from by =
    let more : 0 < suc most - k = omega arith in
    let count : suc most - k - 1 ≡ suc most - (k + 1) = omega arith in
    sym
    (sym is
    ∙ next_option (suc most - k) o text rest found more front at
    ∙ ap (λ x. with_next_option (options_from (suc most - k - 1)) x o rest) some
    ∙ ap (λ v. with_option_choice choice o v >>= (λ f. options_from (suc most - k - 1) f.0 f.1)) (sym from)
    ∙ ap (λ m. m >>= (λ f. options_from (suc most - k - 1) f.0 f.1)) (sym by)
    ∙ ap (λ m. made >>= (λ f. options_from m f.0 f.1)) count)

-- if the maximum number of options is exceeded, the result is `None`
pub next_option-end : (most k : ℕ) (o : Options) (text : List ℕ) (whole : Option (Options × List ℕ)) → most < k
    → options_from (suc most - k) o text ≡ whole → None ≡ whole
unfolding options_from
next_option-end most k o text whole more is =
    let e : 0 ≡ suc most - k = omega arith in ap (λ m. options_from m o text) e ∙ is
