-- The report on changes, one by one.
use Rattle.std.proofs.Common.{◌≡◌, ◌≢◌, ◌↔◌, ◌∙◌, ◌+◌, ◌++◌, ℕ, Bool, true, false, not, List, [], ◌∷◌, length, All}
use Rattle.std.proofs.Common.{filter, flat_map, if◌then◌else◌, refl, sym, ap, arith, append_assoc}
use Rattle.std.specs.Str.{bytes_eq}
use Rattle.std.proofs.lemmas.List.Elements.{All-cons, All-head, All-nil, All-tail}
use Rattle.std.proofs.lemmas.Slice.Eq.{bytes_eq-Decides}
use Rattle.watch.specs.Changes.{WatchReportLaw, WatchedChange, is_news, watch_notice, watch_report_from}
use Rattle.watch.specs.Changes.{watch_report_of_change, watched_changes_placed_from}

-- the report on changes is that on the first change, followed by that on the rest
pub watch_report_of_first_and_rest : (place : ℕ) (c : WatchedChange) (changes : List WatchedChange)
    → watch_report_from place (c ∷ changes) ≡ watch_report_of_change place c ++ watch_report_from (place + 1) changes
watch_report_of_first_and_rest place c changes =
    go (is_news c) (filter (λ p. is_news p.1) (watched_changes_placed_from (place + 1) changes))
  where
    go : (b : Bool) (rest : List (ℕ × WatchedChange))
        → flat_map (λ p. watch_notice p.0 p.1.new_reply) (if b then (place, c) ∷ rest else rest)
        ≡ (if b then watch_notice place c.new_reply else []) ++ flat_map (λ p. watch_notice p.0 p.1.new_reply) rest
    go true rest = refl
    go false rest = refl

watch_report_of_each_change : (place at next : ℕ) (front : List WatchedChange) (c : WatchedChange)
    (back : List WatchedChange) → at ≡ place + length front
    → next ≡ at + 1
    → watch_report_from place (front ++ c ∷ back) ≡ (watch_report_from place front ++ watch_report_of_change at c)
    ++ watch_report_from next back
watch_report_of_each_change place at next [] c back e f =
    let here : place ≡ at = omega arith in
    let later : place + 1 ≡ next = omega arith in
    watch_report_of_first_and_rest place c back
    ∙ (λ i. watch_report_of_change (here i) c ++ watch_report_from (later i) back)
watch_report_of_each_change place at next (d ∷ front) c back e f =
    let here : at ≡ (place + 1) + length front = omega arith in
    watch_report_of_first_and_rest place d (front ++ c ∷ back)
    ∙ (ap (λ xs. watch_report_of_change place d ++ xs)
    (watch_report_of_each_change (place + 1) at next front c back here f)
    ∙ (sym (append_assoc (watch_report_of_change place d)
    (watch_report_from (place + 1) front ++ watch_report_of_change at c)
    (watch_report_from next back))
    ∙ (ap (λ xs. xs ++ watch_report_from next back)
    (sym (append_assoc (watch_report_of_change place d) (watch_report_from (place + 1) front)
    (watch_report_of_change at c)))
    ∙ ap (λ xs. (xs ++ watch_report_of_change at c) ++ watch_report_from next back)
    (sym (watch_report_of_first_and_rest place d front)))))

abbrev IsStill : WatchedChange → Type 0
IsStill c = c.old_reply ≡ c.new_reply

news_is_a_changed_reply : (c : WatchedChange) → is_news c ≡ true ↔ (c.old_reply ≢ c.new_reply)
news_is_a_changed_reply c = go (bytes_eq c.old_reply c.new_reply) (bytes_eq-Decides c.old_reply c.new_reply)
  where
    go : (b : Bool) → (b ≡ true → c.old_reply ≡ c.new_reply) × (c.old_reply ≡ c.new_reply → b ≡ true)
        → not b ≡ true ↔ (c.old_reply ≢ c.new_reply)
    go true d = ((λ e. cc), λ h. absurd (h (d.0 refl)))
    go false d = ((λ e same. let q : false ≡ true = d.1 same in cc), λ h. refl)

both_watch_reports_empty : (xs ys : List ℕ) → xs ++ ys ≡ [] → (xs ≡ []) × (ys ≡ [])
both_watch_reports_empty [] ys e = (refl, e)
both_watch_reports_empty (x ∷ xs) ys e = cc

empty_watch_report_has_no_news : (place : ℕ) (c : WatchedChange) → watch_report_of_change place c ≡ [] → IsStill c
empty_watch_report_has_no_news place c e = go (bytes_eq c.old_reply c.new_reply)
    (bytes_eq-Decides c.old_reply c.new_reply).0 e
  where
    go : (b : Bool) → (b ≡ true → IsStill c) → (if not b then watch_notice place c.new_reply else []) ≡ [] → IsStill c
    go true h e = h refl
    go false h e = cc

change_without_news_has_no_report : (place : ℕ) (c : WatchedChange) → IsStill c → watch_report_of_change place c ≡ []
change_without_news_has_no_report place c e =
    ap (λ b. if not b then watch_notice place c.new_reply else []) ((bytes_eq-Decides c.old_reply c.new_reply).1 e)

empty_watch_report_is_without_news : (place : ℕ) (changes : List WatchedChange) → watch_report_from place changes ≡ []
    → All IsStill changes
empty_watch_report_is_without_news place [] e = All-nil IsStill
empty_watch_report_is_without_news place (c ∷ changes) e =
    let p = both_watch_reports_empty (watch_report_of_change place c) (watch_report_from (place + 1) changes)
    (sym (watch_report_of_first_and_rest place c changes) ∙ e)
    in
    All-cons IsStill c changes (empty_watch_report_has_no_news place c p.0)
    (empty_watch_report_is_without_news (place + 1) changes p.1)

watch_report_without_news_is_empty : (place : ℕ) (changes : List WatchedChange) → All IsStill changes
    → watch_report_from place changes ≡ []
watch_report_without_news_is_empty place [] h = refl
watch_report_without_news_is_empty place (c ∷ changes) h =
    watch_report_of_first_and_rest place c changes
    ∙ (ap (λ xs. xs ++ watch_report_from (place + 1) changes)
    (change_without_news_has_no_report place c (All-head IsStill c changes h))
    ∙ watch_report_without_news_is_empty (place + 1) changes (All-tail IsStill c changes h))

pub watch_report_law : WatchReportLaw
watch_report_law = record {
  news = news_is_a_changed_reply;
  report_of_change = λ front c back.
      watch_report_of_each_change 1 (length front + 1) (length front + 2) front c back (omega arith) (omega arith);
  empty_report = λ changes.
      (empty_watch_report_is_without_news 1 changes, watch_report_without_news_is_empty 1 changes);
}
