-- The reports on a few changes, worked out by hand.
use Rattle.std.specs.Prelude.{◌≡◌, ℕ, List, [], ◌∷◌, codes}
use Rattle.watch.specs.Changes.{WatchedChange, watch_report}

abbrev pub watched_change : (before behind : List ℕ) → WatchedChange
watched_change before behind = record { old_reply = before; new_reply = behind }

-- a reply that stays the same, and two that change
abbrev pub unchanged_watch_reply : WatchedChange
unchanged_watch_reply = watched_change (codes "\t* 5\n\t/ 0.2\n") (codes "\t* 5\n\t/ 0.2\n")

abbrev pub raised_watch_reply : WatchedChange
raised_watch_reply = watched_change (codes "\t* 6\n\t/ 0.16666667\n") (codes "\t* 21\n\t/ 0.047619048\n")

abbrev pub lost_watch_reply : WatchedChange
lost_watch_reply = watched_change (codes "\t* 1\n\t/ 1\n") (codes "unknown unit: m\n")

-- law: replies that stay the same are not reported; each reply that changes follows its line
pub record WatchExamplesLaw : Type 0 where
  pub no_changes : watch_report [] ≡ []
  pub no_news : watch_report (unchanged_watch_reply ∷ (unchanged_watch_reply ∷ [])) ≡ []
  pub first_changed : watch_report (raised_watch_reply ∷ (unchanged_watch_reply ∷ []))
      ≡ codes "watch 1\n\t* 21\n\t/ 0.047619048\n"
  pub second_changed : watch_report (unchanged_watch_reply ∷ (lost_watch_reply ∷ []))
      ≡ codes "watch 2\nunknown unit: m\n"
  pub both_changed : watch_report (raised_watch_reply ∷ (unchanged_watch_reply ∷ (lost_watch_reply ∷ [])))
      ≡ codes "watch 1\n\t* 21\n\t/ 0.047619048\nwatch 3\nunknown unit: m\n"
