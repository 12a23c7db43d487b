-- Rows in blocks.
use Rattle.std.proofs.Common.{◌≡◌, ◌∙◌, ◌++◌, ◌||◌, ◌-◌, ◌+◌, ◌<◌, ◌≤◌, ℕ, zero, suc, Bool, true, false, List, [], ◌∷◌}
use Rattle.std.proofs.Common.{Some, None, refl, sym, ap, subst, length, append_assoc, arith}
use Rattle.std.proofs.lemmas.List.{append-nil, length_push}
use Rattle.std.specs.Prelude.{IfOk, OnOk, Result, Ok, Err, Vec}
use Rattle.std.specs.declared.alloc.AllocError.{AllocError}
use Rattle.std.specs.declared.alloc.Global.{Global}
use Rattle.std.specs.declared.option.Option.{Option}
use Rattle.std.proofs.Math.Bool.{or_assoc}
use Rattle.csv.specs.declared.writer.Writer.{Writer}
use Rattle.deck.specs.Tables.{table_of_deck}
use Rattle.def_entry.specs.Tables.{EntryTable}
use Rattle.live_table.specs.TableView.{AreLiveEventsCutOff, IsAfterLiveEvents, IsRightLiveView, LiveView}
use Rattle.live_table.specs.States.{LiveEvent}
use Rattle.live_table.proofs.QuerySequence.{live_event_runs_in_turn, live_events_cut_off_in_midst}
use Rattle.live_table.proofs.QuerySequence.{no_live_events_keep_view}
use Rattle.reply.specs.declared.options.Options.{Options}
use Rattle.column_convert.specs.Blocks.{RowBlocksLaw, block_of_rows, column_input_after, first_records, is_error_row}
use Rattle.column_convert.specs.Blocks.{text_of_rows}
use Rattle.column_convert.specs.Inputs.{ColumnInput, rest_of_column_input}
use Rattle.column_convert.specs.Records.{RecordFields}
use Rattle.column_convert.specs.Rows.{next_queries, next_row, queries, row, row_before_rows, row_queries, rows}
use Rattle.column_convert.specs.RecordWriter.{IsNextRowWritten, IsRowWritten}
use Rattle.column_convert.specs.declared.block.Block.{Block}
use Rattle.column_convert.specs.declared.column_row.ColumnRow.{ColumnRow}

module _ (t : EntryTable) (options : Options) (from to : List ℕ) where
  abbrev IsFirst : ℕ → ColumnInput → Type 0
  IsFirst n i =
      (rows t options from to (first_records (suc n) i)
      ≡ row_before_rows (next_row t options from to i)
      (rows t options from to (first_records n (rest_of_column_input i))))
      × (queries t options from to (first_records (suc n) i)
      ≡ next_queries t options from to i ++ queries t options from to (first_records n (rest_of_column_input i)))

  -- the next rows are the next row and the rows after it
  pub one_first : (n : ℕ) (i : ColumnInput) → IsFirst n i
  one_first n i = go i.records i.place i.has_header
    where
      none : (n place : ℕ) (headed : Bool) → IsFirst n (record { records = []; place = place; has_header = headed })
      none zero place headed = (refl, refl)
      none (suc n) place headed = (refl, refl)

      go : (left : List RecordFields) (place : ℕ) (headed : Bool)
          → IsFirst n (record { records = left; place = place; has_header = headed })
      go [] place headed = none n place headed
      go (fields ∷ left) place headed = (refl, refl)

  abbrev IsOver : ℕ → ColumnInput → Type 0
  IsOver n i =
      (rows t options from to (first_records n i) ≡ []) × (queries t options from to (first_records n i) ≡ [])
      × (next_queries t options from to i ≡ []) × (column_input_after n i ≡ rest_of_column_input i)

  -- no row is left
  pub over : (n : ℕ) (i : ColumnInput) → next_row t options from to i ≡ None → IsOver n i
  unfolding column_input_after
  over n i is = go n i.records i.place i.has_header is
    where
      at : List RecordFields → ℕ → Bool → ColumnInput
      at left place headed = record { records = left; place = place; has_header = headed }

      go : (n : ℕ) (left : List RecordFields) (place : ℕ) (headed : Bool)
          → next_row t options from to (at left place headed) ≡ None → IsOver n (at left place headed)
      go n (fields ∷ left) place headed is = cc
      go zero [] place headed is = (refl, refl, refl, refl)
      go (suc n) [] place headed is =
          let more = go n [] place headed is in (refl, refl, refl, more.3)

abbrev IsCut : EntryTable → Options → (from to : List ℕ) → ℕ → ColumnInput → Type 0
IsCut t options from to n i =
    (rows t options from to i
    ≡ rows t options from to (first_records n i) ++ rows t options from to (column_input_after n i))
    × (queries t options from to i
    ≡ queries t options from to (first_records n i) ++ queries t options from to (column_input_after n i))

-- law: the rows are those of the next n records and the rows after them, and so are the queries
pub row_blocks_law : RowBlocksLaw
unfolding column_input_after
row_blocks_law t options from to n i = go n i.records i.place i.has_header
  where
    at : List RecordFields → ℕ → Bool → ColumnInput
    at left place headed = record { records = left; place = place; has_header = headed }

    go : (n : ℕ) (left : List RecordFields) (place : ℕ) (headed : Bool)
        → IsCut t options from to n (at left place headed)
    go zero left place headed = (refl, refl)
    go (suc n) [] place headed =
        let none = over t options from to (suc n) (at [] place headed) refl in
        (sym (ap (rows t options from to) none.3), sym (ap (queries t options from to) none.3))
    go (suc n) (fields ∷ left) place headed =
        let later = go n left place false in (
          ap (λ rs. row t options from to place headed fields ∷ rs) later.0,
          ap (λ es. row_queries t options from to place headed fields ++ es) later.1
              ∙ sym (append_assoc (row_queries t options from to place headed fields)
              (queries t options from to (first_records n (at left place false)))
              (queries t options from to (column_input_after n (at left place false)))),
        )

-- ---- bytes and errors of rows, one after another
pub text_of_rows_with_last : (done : List ColumnRow) (row : ColumnRow)
    → text_of_rows (done ++ row ∷ []) ≡ text_of_rows done ++ row.text
text_of_rows_with_last [] row = append-nil row.text
text_of_rows_with_last (d ∷ done) row = ap (λ x. d.text ++ x) (text_of_rows_with_last done row)
    ∙ sym (append_assoc d.text (text_of_rows done) row.text)

error_row_or_last : (a b : Bool) → (a || b) ≡ (a || (b || false))
error_row_or_last true b = refl
error_row_or_last false true = refl
error_row_or_last false false = refl

pub error_row_with_last : (done : List ColumnRow) (row : ColumnRow)
    → is_error_row (done ++ row ∷ []) ≡ (is_error_row done || row.refused)
error_row_with_last [] row = sym (error_row_or_last false row.refused)
error_row_with_last (d ∷ done) row =
    ap (λ x. d.refused || x) (error_row_with_last done row)
    ∙ sym (or_assoc d.refused (is_error_row done) row.refused)

-- ---- the effect of one more row
module _ (before after : Writer (Vec ℕ Global)) where
  pub row_there : (r : Bool) (o : Option ColumnRow) → IsNextRowWritten before after (Some r) o
      → (row : ColumnRow) × (o ≡ Some row) × IsRowWritten before after r row
  row_there r None w = absurd w
  row_there r (Some row) w = (row, refl, w)

  pub none_there : (o : Option ColumnRow) → IsNextRowWritten before after None o → (o ≡ None) × (after ≡ before)
  none_there None w = (refl, w)
  none_there (Some row) w = absurd w

module _ (options : Options) (from to : List ℕ) (whole : ColumnInput) (most : ℕ) (before : LiveView) (old : ℕ) where
  -- some rows are written, and their queries were made
  pub record IsUnderway (left : ColumnInput) (count : ℕ) (refused : Bool) (text : Option (List ℕ)) (now : LiveView)
      (new : ℕ)
      : Type 0 where
    pub done : List ColumnRow
    pub events : List LiveEvent
    pub gives : rows (table_of_deck before.deck) options from to (first_records most whole)
        ≡ done ++ rows (table_of_deck before.deck) options from to (first_records (most - count) left)
    pub asks : queries (table_of_deck before.deck) options from to (first_records most whole)
        ≡ events ++ queries (table_of_deck before.deck) options from to (first_records (most - count) left)
    pub ends : column_input_after most whole ≡ column_input_after (most - count) left
    pub text_is : text ≡ Some (text_of_rows done)
    pub refused_is : refused ≡ is_error_row done
    pub count_is : count ≡ length done
    pub fits : count ≤ most
    pub deck : now.deck ≡ before.deck
    pub follows : IsAfterLiveEvents events before now old new

  all : most ≡ most - 0
  all = omega arith

  pub underway_start : (text : Option (List ℕ)) → text ≡ Some [] → IsRightLiveView before
      → IsUnderway whole 0 false text before old
  underway_start text is right = record {
    done = [];
    events = [];
    gives = ap (λ n. rows (table_of_deck before.deck) options from to (first_records n whole)) all;
    asks = ap (λ n. queries (table_of_deck before.deck) options from to (first_records n whole)) all;
    ends = ap (λ n. column_input_after n whole) all;
    text_is = is;
    refused_is = refl;
    count_is = refl;
    fits = omega arith;
    deck = refl;
    follows = no_live_events_keep_view before old right;
  }

  module _ (left : ColumnInput) (count : ℕ) (refused : Bool) (text : Option (List ℕ)) (now : LiveView) (new : ℕ)
      (u : IsUnderway left count refused text now new) where
    -- as many rows are written as are wanted
    pub rows_when_full : most ≤ count
        → (rows (table_of_deck before.deck) options from to (first_records most whole) ≡ u.done)
        × (queries (table_of_deck before.deck) options from to (first_records most whole) ≡ u.events)
        × (column_input_after most whole ≡ left)
    unfolding column_input_after
    rows_when_full enough =
        let none : most - count ≡ 0 = omega (arith, u.fits) in (
          u.gives ∙ ap (λ n. u.done ++ rows (table_of_deck before.deck) options from to (first_records n left)) none
              ∙ append-nil u.done,
          u.asks ∙ ap (λ n. u.events ++ queries (table_of_deck before.deck) options from to (first_records n left)) none
              ∙ append-nil u.events,
          u.ends ∙ ap (λ n. column_input_after n left) none,
        )

    -- no row is left
    module _ (is : next_row (table_of_deck now.deck) options from to left ≡ None) where
      none_left : IsOver (table_of_deck before.deck) options from to (most - count) left
      none_left =
          over (table_of_deck before.deck) options from to (most - count) left
          (ap (λ d. next_row (table_of_deck d) options from to left) (sym u.deck) ∙ is)

      pub rows_at_end : (rows (table_of_deck before.deck) options from to (first_records most whole) ≡ u.done)
          × (column_input_after most whole ≡ rest_of_column_input left)
      rows_at_end = (
        u.gives ∙ ap (λ (rs : List ColumnRow). u.done ++ rs) none_left.0 ∙ append-nil u.done,
        u.ends ∙ none_left.3,
      )

      pub follows_ended : (later : LiveView) (last : ℕ)
          → IsAfterLiveEvents (next_queries (table_of_deck now.deck) options from to left) now later new last
          → IsAfterLiveEvents (queries (table_of_deck before.deck) options from to (first_records most whole)) before
          later old last
      follows_ended later last made =
          subst (λ (es : List LiveEvent). IsAfterLiveEvents es before later old last)
          (ap (λ (es : List LiveEvent). u.events ++ es) (none_left.2 ∙ sym none_left.1) ∙ sym u.asks)
          (live_event_runs_in_turn u.events (next_queries (table_of_deck before.deck) options from to left) before now
          later old new last
          u.follows
          (subst (λ d. IsAfterLiveEvents (next_queries (table_of_deck d) options from to left) now later new last)
          u.deck made))

    module _ (more : count < most) (later : LiveView) (last : ℕ) (same : later.deck ≡ now.deck) where
      one_less : most - count ≡ suc (most - (count + 1))
      one_less = omega arith

      asks_next : queries (table_of_deck before.deck) options from to (first_records most whole)
          ≡ u.events ++ (next_queries (table_of_deck before.deck) options from to left
          ++ queries (table_of_deck before.deck) options from to
          (first_records (most - (count + 1)) (rest_of_column_input left)))
      asks_next =
          u.asks
          ∙ ap (λ n. u.events ++ queries (table_of_deck before.deck) options from to (first_records n left)) one_less
          ∙ ap (λ (es : List LiveEvent). u.events ++ es)
          (one_first (table_of_deck before.deck) options from to (most - (count + 1)) left).1

      -- memory ran out within the next row
      pub failed : AreLiveEventsCutOff (next_queries (table_of_deck now.deck) options from to left) now later new last
          → AreLiveEventsCutOff (queries (table_of_deck before.deck) options from to (first_records most whole)) before
          later old last
      failed cut =
          subst (λ (es : List LiveEvent). AreLiveEventsCutOff es before later old last) (sym asks_next)
          (live_events_cut_off_in_midst u.events (next_queries (table_of_deck before.deck) options from to left)
          (queries (table_of_deck before.deck) options from to
          (first_records (most - (count + 1)) (rest_of_column_input left))) before
          now later old
          new
          last u.deck u.follows
          (subst (λ d. AreLiveEventsCutOff (next_queries (table_of_deck d) options from to left) now later new last)
          u.deck cut))

      module _ (made : IsAfterLiveEvents (next_queries (table_of_deck now.deck) options from to left) now later new
          last) where
        made_first : IsAfterLiveEvents (next_queries (table_of_deck before.deck) options from to left) now later new
            last
        made_first =
            subst (λ d. IsAfterLiveEvents (next_queries (table_of_deck d) options from to left) now later new last)
            u.deck made

        -- one more row is written
        pub underway_next : (row : ColumnRow) → next_row (table_of_deck now.deck) options from to left ≡ Some row
            → (r : Bool) → r ≡ (refused || row.refused) → (longer : Option (List ℕ))
            → longer ≡ Some (text_of_rows u.done ++ row.text)
            → IsUnderway (rest_of_column_input left) (count + 1) r longer later last
        unfolding column_input_after
        underway_next row is r either longer grows = record {
          done = u.done ++ row ∷ [];
          events = u.events ++ next_queries (table_of_deck before.deck) options from to left;
          gives =
              u.gives
              ∙ ap (λ n. u.done ++ rows (table_of_deck before.deck) options from to (first_records n left)) one_less
              ∙ ap (λ (rs : List ColumnRow). u.done ++ rs)
              ((one_first (table_of_deck before.deck) options from to (most - (count + 1)) left).0
              ∙ ap (λ o. row_before_rows o
              (rows (table_of_deck before.deck) options from to
              (first_records (most - (count + 1)) (rest_of_column_input left))))
              (ap (λ d. next_row (table_of_deck d) options from to left) (sym u.deck) ∙ is))
              ∙ sym (append_assoc u.done (row ∷ [])
              (rows (table_of_deck before.deck) options from to
              (first_records (most - (count + 1)) (rest_of_column_input left))));
          asks =
              asks_next
              ∙ sym (append_assoc u.events (next_queries (table_of_deck before.deck) options from to left)
              (queries (table_of_deck before.deck) options from to
              (first_records (most - (count + 1)) (rest_of_column_input left))));
          ends = u.ends ∙ ap (λ n. column_input_after n left) one_less;
          text_is = grows ∙ ap Some (sym (text_of_rows_with_last u.done row));
          refused_is = either ∙ ap (λ b. b || row.refused) u.refused_is ∙ sym (error_row_with_last u.done row);
          count_is = ap (λ n. n + 1) u.count_is ∙ sym (length_push u.done row);
          fits = omega arith;
          deck = same ∙ u.deck;
          follows = live_event_runs_in_turn u.events (next_queries (table_of_deck before.deck) options from to left)
              before now later old
              new
              last u.follows made_first;
        }

-- ---- the results
pub row_block_result_holds : {A E P : Type 0} (r : Result A E) → P → OnOk r P
row_block_result_holds (Ok x) p = p
row_block_result_holds (Err x) p = tt

pub result_is_block_of_rows : (r : Result Block AllocError) (text : Option (List ℕ)) (count : ℕ) (any : Bool)
    (done : List ColumnRow)
    → IfOk r (λ block. (text ≡ Some block.text) × (block.rows ≡ count) × (block.refused ≡ any))
    → text ≡ Some (text_of_rows done) → count ≡ length done → any ≡ is_error_row done
    → IfOk r (λ block. block ≡ block_of_rows done)
result_is_block_of_rows (Err e) text count any done said text_is count_is any_is = tt
result_is_block_of_rows (Ok block) text count any done said text_is count_is any_is = λ i. record {
  text = same_text (sym said.0 ∙ text_is) i;
  rows = (said.1 ∙ count_is) i;
  refused = (said.2 ∙ any_is) i;
}
  where
    same_text : {x y : List ℕ} → Some x ≡ Some y → x ≡ y
    same_text e = cc
