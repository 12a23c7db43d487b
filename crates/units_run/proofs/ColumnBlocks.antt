-- Rows of a column in blocks.
use Rattle.std.proofs.Common.{◌≡◌, ◌<◌, ◌-◌, ◌++◌, ◌∷◌, ◌||◌, ◌∙◌, [], ℕ, zero, suc, Bool, false, List}
use Rattle.std.proofs.Common.{refl, sym, ap, length, take, subst, append_assoc, arith}
use Rattle.std.specs.declared.option.Option.{Option}
use Rattle.std.proofs.lemmas.List.{append-nil}
use Rattle.std.proofs.Math.Bool.{or_assoc}
use Rattle.deck.specs.Tables.{table_of_deck}
use Rattle.def_entry.specs.Tables.{EntryTable}
use Rattle.live_table.specs.TableView.{IsAfterLiveEvents, IsRightLiveView, LiveView}
use Rattle.live_table.specs.States.{LiveEvent}
use Rattle.live_table.proofs.QuerySequence.{live_event_runs_in_turn, no_live_events_keep_view}
use Rattle.reply.specs.declared.options.Options.{Options}
use Rattle.units_io.specs.Bytes.{sink_bytes_append, SinkGrowsByPrefix}
use Rattle.column_convert.specs.Blocks.{RowBlocksLaw, block_of_rows, column_input_after, first_records, is_error_row}
use Rattle.column_convert.specs.Blocks.{text_of_rows}
use Rattle.column_convert.specs.declared.block.Block.{Block}
use Rattle.column_convert.specs.Inputs.{ColumnInput, rest_of_column_input}
use Rattle.column_convert.specs.Records.{RecordFields}
use Rattle.column_convert.specs.declared.column_row.ColumnRow.{ColumnRow}
use Rattle.column_convert.specs.Rows.{queries, rows}
use Rattle.units_run.proofs.WrittenBytes.{column_run_front_of_all, column_run_front_of_both, column_run_front_of_more}
use Rattle.units_run.proofs.WrittenBytes.{column_run_sink_grows_by_none, column_run_sink_grows_twice}

-- ---- bytes and errors of rows, one after another
column_run_text_of_both : (xs ys : List ColumnRow) → text_of_rows (xs ++ ys) ≡ text_of_rows xs ++ text_of_rows ys
column_run_text_of_both [] ys = refl
column_run_text_of_both (x ∷ xs) ys =
    ap (λ t. x.text ++ t) (column_run_text_of_both xs ys)
    ∙ sym (append_assoc x.text (text_of_rows xs) (text_of_rows ys))

column_run_refused_in_both : (xs ys : List ColumnRow) → is_error_row (xs ++ ys) ≡ (is_error_row xs || is_error_row ys)
column_run_refused_in_both [] ys = refl
column_run_refused_in_both (x ∷ xs) ys =
    ap (λ b. x.refused || b) (column_run_refused_in_both xs ys)
    ∙ sym (or_assoc x.refused (is_error_row xs) (is_error_row ys))

-- ---- the number of rows left
column_run_row_count : (t : EntryTable) (options : Options) (from to : List ℕ) (i : ColumnInput)
    → length (rows t options from to i) ≡ length i.records
column_run_row_count t options from to i = go i.records i.place i.has_header
  where
    go : (left : List RecordFields) (place : ℕ) (headed : Bool)
        → length (rows t options from to (record { records = left; place = place; has_header = headed })) ≡ length left
    go [] place headed = refl
    go (fields ∷ left) place headed = ap suc (go left place false)

column_run_records_left : (n : ℕ) (i : ColumnInput) → length (column_input_after n i).records ≡ length i.records - n
unfolding column_input_after
column_run_records_left n i = go n i.records i.place i.has_header
  where
    at : List RecordFields → ℕ → Bool → ColumnInput
    at left place headed = record { records = left; place = place; has_header = headed }

    go : (n : ℕ) (left : List RecordFields) (place : ℕ) (headed : Bool)
        → length (column_input_after n (at left place headed)).records ≡ length left - n
    go zero left place headed = omega arith
    go (suc n) [] place headed = omega (arith, go n [] place headed)
    go (suc n) (fields ∷ left) place headed = omega (arith, go n left place false)

-- after a block with rows, fewer are left
pub column_run_records_get_fewer : (t : EntryTable) (options : Options) (from to : List ℕ) (n : ℕ) (i : ColumnInput)
    (count : ℕ)
    → count ≡ length (rows t options from to (first_records (suc n) i)) → (count ≡ 0 → ⊥)
    → length (column_input_after (suc n) i).records < length i.records
column_run_records_get_fewer t options from to n i count is some =
    go i.records (is ∙ column_run_row_count t options from to (first_records (suc n) i))
    (column_run_records_left (suc n) i)
  where
    go : (left : List RecordFields) → count ≡ length (take (suc n) left)
        → length (column_input_after (suc n) i).records ≡ length left - suc n
        → length (column_input_after (suc n) i).records < length left
    go [] none less = absurd (some none)
    go (fields ∷ left) more less = omega (arith, less)

-- a statement on FROM and TO holds of equal texts
pub column_run_of_equal_texts : (P : (from to : List ℕ) → Type 0) {from from_too to to_too : List ℕ} → from ≡ from_too
    → to ≡ to_too
    → P from to → P from_too to_too
column_run_of_equal_texts P {from} {from_too} {to} {to_too} same_from same_to p =
    subst (λ t. P from_too t) same_to (subst (λ t. P t to) same_from p)

module _ (options : Options) (from to : List ℕ) (whole : ColumnInput) (start : Option (List ℕ)) (before : LiveView)
    (old : ℕ) where
  abbrev rows_at : ColumnInput → List ColumnRow
  rows_at i = rows (table_of_deck before.deck) options from to i

  abbrev queries_at : ColumnInput → List LiveEvent
  queries_at i = queries (table_of_deck before.deck) options from to i

  -- the rows before those left are written, and their queries were made
  pub record IsColumnRunUnderway (left : ColumnInput) (refused : Bool) (out : Option (List ℕ)) (now : LiveView)
      (new : ℕ)
      : Type 0 where
    pub done : List ColumnRow
    pub events : List LiveEvent
    pub gives : rows_at whole ≡ done ++ rows_at left
    pub asks : queries_at whole ≡ events ++ queries_at left
    pub refused_is : refused ≡ is_error_row done
    pub out_is : out ≡ sink_bytes_append start (text_of_rows done)
    pub deck : now.deck ≡ before.deck
    pub follows : IsAfterLiveEvents events before now old new

  pub column_run_underway_start : IsRightLiveView before → IsColumnRunUnderway whole false start before old
  column_run_underway_start right = record {
    done = [];
    events = [];
    gives = refl;
    asks = refl;
    refused_is = refl;
    out_is = column_run_sink_grows_by_none start;
    deck = refl;
    follows = no_live_events_keep_view before old right;
  }

  module _ (left : ColumnInput) (refused : Bool) (out : Option (List ℕ)) (now : LiveView) (new : ℕ)
      (u : IsColumnRunUnderway left refused out now new) where
    text_now : text_of_rows (rows_at whole) ≡ text_of_rows u.done ++ text_of_rows (rows_at left)
    text_now = ap text_of_rows u.gives ∙ column_run_text_of_both u.done (rows_at left)

    -- the bytes written are a front of all
    pub column_run_front_now : SinkGrowsByPrefix start out (text_of_rows (rows_at whole))
    column_run_front_now =
        column_run_front_of_more start out (text_of_rows u.done) (text_of_rows (rows_at left))
        (text_of_rows (rows_at whole)) text_now
        (column_run_front_of_all start out (text_of_rows u.done) u.out_is)

    module _ (law : RowBlocksLaw) (n : ℕ) (later : LiveView) (last : ℕ) (same : later.deck ≡ now.deck)
        (made : IsAfterLiveEvents (queries (table_of_deck now.deck) options from to (first_records n left)) now later
        new last)
        (block : Block) (is : block ≡ block_of_rows
        (rows (table_of_deck now.deck) options from to (first_records n left))) where
      made_first : IsAfterLiveEvents (queries_at (first_records n left)) now later new last
      made_first = subst (λ d. IsAfterLiveEvents (queries (table_of_deck d) options from to (first_records n left)) now
          later new
          last)
          u.deck
          made

      block_is : block ≡ block_of_rows (rows_at (first_records n left))
      block_is = is ∙ ap (λ d. block_of_rows (rows (table_of_deck d) options from to (first_records n left))) u.deck

      column_text_next : text_of_rows (rows_at whole)
          ≡ (text_of_rows u.done ++ block.text) ++ text_of_rows (rows_at (column_input_after n left))
      column_text_next =
          text_now
          ∙ ap (λ (rs : List ColumnRow). text_of_rows u.done ++ text_of_rows rs)
          (law (table_of_deck before.deck) options from to n left).0
          ∙ ap (λ t. text_of_rows u.done ++ t)
          (column_run_text_of_both (rows_at (first_records n left)) (rows_at (column_input_after n left)))
          ∙ ap (λ (b : Block). text_of_rows u.done ++ (b.text ++ text_of_rows (rows_at (column_input_after n left))))
          (sym block_is)
          ∙ sym (append_assoc (text_of_rows u.done) block.text (text_of_rows (rows_at (column_input_after n left))))

      -- if a front of the next block is written, too, the bytes written are still a front of all
      pub column_run_front_next : (after : Option (List ℕ)) → SinkGrowsByPrefix out after block.text
          → SinkGrowsByPrefix start after (text_of_rows (rows_at whole))
      column_run_front_next after f =
          column_run_front_of_more start after (text_of_rows u.done ++ block.text)
          (text_of_rows (rows_at (column_input_after n left)))
          (text_of_rows (rows_at whole)) column_text_next
          (column_run_front_of_both start out after (text_of_rows u.done) block.text u.out_is f)

      -- one more block is written
      pub column_run_underway_next : (r : Bool) (after : Option (List ℕ)) → r ≡ (refused || block.refused)
          → after ≡ sink_bytes_append out block.text
          → IsColumnRunUnderway (column_input_after n left) r after later last
      column_run_underway_next r after either all = record {
        done = u.done ++ rows_at (first_records n left);
        events = u.events ++ queries_at (first_records n left);
        gives =
            u.gives
            ∙ ap (λ (rs : List ColumnRow). u.done ++ rs) (law (table_of_deck before.deck) options from to n left).0
            ∙ sym (append_assoc u.done (rows_at (first_records n left)) (rows_at (column_input_after n left)));
        asks =
            u.asks
            ∙ ap (λ (es : List LiveEvent). u.events ++ es) (law (table_of_deck before.deck) options from to n left).1
            ∙ sym (append_assoc u.events (queries_at (first_records n left)) (queries_at (column_input_after n left)));
        refused_is =
            either
            ∙ ap (λ b. b || block.refused) u.refused_is
            ∙ ap (λ (b : Block). is_error_row u.done || b.refused) block_is
            ∙ sym (column_run_refused_in_both u.done (rows_at (first_records n left)));
        out_is =
            all
            ∙ ap (λ (b : Block). sink_bytes_append out b.text) block_is
            ∙ ap (λ o. sink_bytes_append o (text_of_rows (rows_at (first_records n left)))) u.out_is
            ∙ column_run_sink_grows_twice start (text_of_rows u.done) (text_of_rows (rows_at (first_records n left)))
            ∙ ap (sink_bytes_append start) (sym (column_run_text_of_both u.done (rows_at (first_records n left))));
        deck = same ∙ u.deck;
        follows = live_event_runs_in_turn u.events (queries_at (first_records n left)) before now later old new last
            u.follows
            made_first;
      }

    -- no row is left
    module _ (n : ℕ) (later : LiveView) (last : ℕ)
        (made : IsAfterLiveEvents (queries (table_of_deck now.deck) options from to (first_records (suc n) left)) now
        later new
        last)
        (block : Block) (is : block ≡ block_of_rows
        (rows (table_of_deck now.deck) options from to (first_records (suc n) left)))
        (none : block.rows ≡ 0) where
      over : (rows_at left ≡ []) × (queries_at left ≡ []) × (queries_at (first_records (suc n) left) ≡ [])
      over =
          go left.records left.place left.has_header
          (sym (column_run_row_count (table_of_deck now.deck) options from to (first_records (suc n) left))
          ∙ sym (ap (λ (b : Block). b.rows) is) ∙ none)
        where
          at : List RecordFields → ℕ → Bool → ColumnInput
          at ls place headed = record { records = ls; place = place; has_header = headed }

          go : (ls : List RecordFields) (place : ℕ) (headed : Bool) → length (take (suc n) ls) ≡ 0
              → (rows_at (at ls place headed) ≡ []) × (queries_at (at ls place headed) ≡ [])
              × (queries_at (first_records (suc n) (at ls place headed)) ≡ [])
          go [] place headed e = (refl, refl, refl)
          go (fields ∷ ls) place headed e = absurd (omega (arith, e))

      rows_over : rows_at whole ≡ u.done
      rows_over = u.gives ∙ ap (λ (rs : List ColumnRow). u.done ++ rs) over.0 ∙ append-nil u.done

      pub column_run_whole_over : out ≡ sink_bytes_append start (text_of_rows (rows_at whole))
      column_run_whole_over =
          u.out_is ∙ ap (λ (rs : List ColumnRow). sink_bytes_append start (text_of_rows rs)) (sym rows_over)

      pub column_run_refused_over : refused ≡ is_error_row (rows_at whole)
      column_run_refused_over = u.refused_is ∙ ap is_error_row (sym rows_over)

      pub column_run_follows_over : IsAfterLiveEvents (queries_at whole) before later old last
      column_run_follows_over =
          subst (λ (es : List LiveEvent). IsAfterLiveEvents es before later old last)
          (ap (λ (es : List LiveEvent). u.events ++ es) (over.2 ∙ sym over.1) ∙ sym u.asks)
          (live_event_runs_in_turn u.events (queries_at (first_records (suc n) left)) before now later old new last
          u.follows
          (subst (λ d. IsAfterLiveEvents (queries (table_of_deck d) options from to (first_records (suc n) left)) now
          later new
          last) u.deck
          made))
