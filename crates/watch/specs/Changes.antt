-- The report on watched replies that may have changed.
use Rattle.std.specs.Prelude.{◌≡◌, ◌≢◌, ◌↔◌, ◌+◌, ◌++◌, ℕ, Bool, true, not, List, [], ◌∷◌, All, filter, flat_map}
use Rattle.std.specs.Prelude.{codes, if◌then◌else◌, length}
use Rattle.std.specs.Fmt.{decimal}
use Rattle.std.specs.Str.{bytes_eq}

-- the bytes of a reply before and after an edit
pub record WatchedChange : Type 0 where
  pub old_reply : List ℕ
  pub new_reply : List ℕ

-- whether the two replies differ
abbrev pub is_news : WatchedChange → Bool
is_news c = not (bytes_eq c.old_reply c.new_reply)

-- the line of the watch with a number, counted from 1, and its reply
abbrev pub watch_notice : (place : ℕ) → (reply : List ℕ) → List ℕ
watch_notice place reply = ((codes "watch " ++ decimal place) ++ codes "\n") ++ reply

-- changes numbered from `place` on
abbrev pub watched_changes_placed_from : (place : ℕ) → List WatchedChange → List (ℕ × WatchedChange)
watched_changes_placed_from place [] = []
watched_changes_placed_from place (c ∷ changes) = (place, c) ∷ watched_changes_placed_from (place + 1) changes

-- the report on changes numbered from `place` on: for those that are news, in order, the line of the watch and the
-- reply after the edit
abbrev pub watch_report_from : (place : ℕ) → List WatchedChange → List ℕ
watch_report_from place changes = flat_map (λ p. watch_notice p.0 p.1.new_reply)
    (filter (λ p. is_news p.1) (watched_changes_placed_from place changes))

-- the report on all watches
abbrev pub watch_report : List WatchedChange → List ℕ
watch_report changes = watch_report_from 1 changes

-- the report on a single change
abbrev pub watch_report_of_change : (place : ℕ) → WatchedChange → List ℕ
watch_report_of_change place c = if is_news c then watch_notice place c.new_reply else []

-- law: a reply is news exactly if its bytes differ; each is reported under its own number, between the reports on those
-- before it and those after it; the report is empty exactly if no reply is news
pub record WatchReportLaw : Type 0 where
  pub news : (c : WatchedChange) → is_news c ≡ true ↔ (c.old_reply ≢ c.new_reply)
  pub report_of_change : (front : List WatchedChange) (c : WatchedChange) (back : List WatchedChange)
      → watch_report (front ++ c ∷ back)
      ≡ (watch_report front ++ watch_report_of_change (length front + 1) c) ++ watch_report_from (length front + 2) back
  pub empty_report : (changes : List WatchedChange) → (watch_report changes ≡ []) ↔ All (λ c. c.old_reply ≡ c.new_reply)
      changes
