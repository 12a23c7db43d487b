-- The counts of parts in turn.
use Rattle.std.proofs.Common.{◌≡◌, ◌∙◌, ◌++◌, ◌+◌, ◌≤◌, ◌<◌, ℕ, List, [], ◌∷◌, drop, length, refl, sym, ap}
use Rattle.std.proofs.Common.{append_assoc, get_or}
use Rattle.std.proofs.lemmas.List.{append-nil, drop_all, drop_more}
use Rattle.frac128.specs.Fraction.{Fraction}
use Rattle.reply.specs.declared.form.Form.{Form}
use Rattle.reply.specs.Lines.{conversion_count_text, conversion_further_counts_text, layout_count_separator}

module _ (form : Form) where
  -- without counts there is no text
  pub further-none : (parts : List (List ℕ)) → conversion_further_counts_text form parts [] ≡ []
  further-none [] = refl
  further-none (part ∷ parts) = refl

  module _ (text : List ℕ) (parts : List (List ℕ)) (counts : List Fraction) (i : ℕ) where
    -- the text with one more count
    pub further-more : (part : List ℕ) (rest : List (List ℕ)) (count : Fraction) → parts ≡ part ∷ rest
        → i < length counts → count ≡ get_or counts i count
        → ((text ++ layout_count_separator form.layout) ++ conversion_count_text form part count)
        ++ conversion_further_counts_text form rest
        (drop (i + 1) counts)
        ≡ text ++ conversion_further_counts_text form parts (drop i counts)
    further-more part rest count e within is =
        append_assoc (text ++ layout_count_separator form.layout) (conversion_count_text form part count) behind
        ∙ (append_assoc text (layout_count_separator form.layout) (conversion_count_text form part count ++ behind)
        ∙ (ap (λ (w : List ℕ). text ++ w)
        (sym (append_assoc (layout_count_separator form.layout) (conversion_count_text form part count) behind))
        ∙ (λ j. text ++ conversion_further_counts_text form (sym e j) (sym next j))))
      where
        behind : List ℕ
        behind = conversion_further_counts_text form rest (drop (i + 1) counts)

        next : drop i counts ≡ count ∷ drop (i + 1) counts
        next =
            drop_more counts i count within
            ∙ ap (λ (c : Fraction). c ∷ drop (i + 1) counts) (sym is)

    -- there are no more counts
    pub further-done : length counts ≤ i → text ≡ text ++ conversion_further_counts_text form parts (drop i counts)
    further-done h =
        sym (append-nil text)
        ∙ ap (λ (w : List ℕ). text ++ w)
        (sym (ap (conversion_further_counts_text form parts) (drop_all i counts h) ∙ further-none parts))
