-- Passing through a list of watches.
use Rattle.std.proofs.Common.{◌≡◌, ◌∙◌, ◌+◌, ◌++◌, ◌<◌, ℕ, suc, List, ◌∷◌, length, map, drop, get_or, set}
use Rattle.std.proofs.Common.{sym, ap, append_assoc, arith}
use Rattle.std.proofs.Math.Seq.{drop-cons}
use Rattle.def_entry.specs.Tables.{EntryTable}
use Rattle.reply.specs.declared.options.Options.{Options}
use Rattle.watch.specs.Changes.{WatchedChange, watch_report_from, watch_report_of_change}
use Rattle.watch.specs.WatchViews.{change_of, with_current_reply}
use Rattle.watch.specs.declared.watch.Watch.{Watch}
use Rattle.watch.proofs.RenewedFirst.{renewed_at, renewed_first, renewed_next, renewed_same}
use Rattle.watch.proofs.ReportSteps.{watch_report_of_first_and_rest}

-- the first watches are renewed, and these bytes are the report on them
pub record IsUnderway (table : EntryTable) (options : Options) (watches now : List Watch) (i : ℕ)
    (bytes : List ℕ) : Type 0
  where
    pub renewed : now ≡ renewed_first (with_current_reply table options) i watches
    pub report : watch_report_from 1 (map (change_of table options) watches)
        ≡ bytes ++ watch_report_from (i + 1) (map (change_of table options) (drop i watches))

module _ (table : EntryTable) (options : Options) (watches : List Watch) where
  -- a watch with its reply in this table, and the change of its reply
  abbrev anew : Watch → Watch
  anew w = with_current_reply table options w

  abbrev change : Watch → WatchedChange
  change w = change_of table options w

  module _ (i : ℕ) (now : List Watch) (bytes : List ℕ) (u : IsUnderway table options watches now i bytes)
      (d w : Watch) (within : i < length watches) (at : w ≡ get_or now i d) where
    -- the next watch is as it was
    pub underway-was : w ≡ get_or watches i d
    underway-was = at ∙ (ap (λ ws. get_or ws i d) u.renewed ∙ renewed_at anew i watches d within)

    next : drop i watches ≡ w ∷ drop (i + 1) watches
    next =
        let e : suc i ≡ i + 1 = omega arith in
        drop-cons watches i d within ∙ (λ j. sym underway-was j ∷ drop (e j) watches)

    -- the next watch stays as it is
    pub underway-same : (later : Watch) → later ≡ w → set now i later ≡ renewed_first anew i watches
    underway-same later e =
        (λ j. set (u.renewed j) i ((e ∙ underway-was) j)) ∙ renewed_same anew i watches d within

    -- the next watch is renewed
    pub underway-renewed : (later : Watch) → later ≡ anew w → set now i later ≡ renewed_first anew (i + 1) watches
    underway-renewed later e =
        (λ j. set (u.renewed j) i ((e ∙ ap anew underway-was) j)) ∙ renewed_next anew i watches d within

    -- the next watch is renewed, and the report on it is appended
    pub underway-next : (later : Watch) (further : List ℕ) → later ≡ anew w
        → further ≡ bytes ++ watch_report_of_change (i + 1) (change w)
        → IsUnderway table options watches (set now i later) (i + 1) further
    underway-next later further e put = record {
      renewed = underway-renewed later e;
      report =
          u.report
          ∙ (ap (λ ws. bytes ++ watch_report_from (i + 1) (map change ws)) next
          ∙ (ap (λ bs. bytes ++ bs) (watch_report_of_first_and_rest (i + 1) (change w) rest)
          ∙ (sym (append_assoc bytes (watch_report_of_change (i + 1) (change w)) (watch_report_from ((i + 1) + 1) rest))
          ∙ ap (λ bs. bs ++ watch_report_from ((i + 1) + 1) rest) (sym put))));
    }
      where
        rest : List WatchedChange
        rest = map change (drop (i + 1) watches)
