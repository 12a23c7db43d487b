-- Writing a check report block by block.
use Rattle.std.proofs.Common.{◌≡◌, ◌∙◌, ◌++◌, ◌||◌, ℕ, List, [], ◌∷◌, Bool, true, false, Some, None, refl, sym, ap}
use Rattle.std.proofs.Common.{◌-◌, ◌==◌, append_assoc, arith, drop, if◌then◌else◌, length, not, subst, take}
use Rattle.std.specs.declared.option.Option.{Option}
use Rattle.std.specs.List.{cons_option}
use Rattle.std.proofs.lemmas.Grind.{flat_map-append}
use Rattle.std.proofs.lemmas.Bool.Decides.{nat_tests}
use Rattle.std.proofs.lemmas.List.{append-nil, take-append-drop, take_rest}
use Rattle.std.proofs.lemmas.Bool.{true≢false}
use Rattle.def_entry.specs.declared.key.Key.{Key}
use Rattle.def_lines.specs.Words.{is_empty}
use Rattle.deck.specs.Decks.{DeckContents}
use Rattle.deck.specs.PlacedKeys.{deck_key_at_place, deck_keys_at_places}
use Rattle.deck.specs.Tables.{table_of_deck}
use Rattle.live_table.specs.TableView.{IsAfterLiveEvents, IsRightLiveView, LiveView}
use Rattle.live_table.specs.States.{LiveEvent}
use Rattle.live_table.proofs.QuerySequence.{live_event_runs_in_turn, no_live_events_keep_view}
use Rattle.survey.specs.Checks.{check_among, check_line, key_finding, queries_among}
use Rattle.reply.specs.Options.{reply_style}
use Rattle.reply.specs.declared.options.Options.{Options}
use Rattle.units_io.specs.Bytes.{sink_bytes_append, SinkGrowsByPrefix}
use Rattle.units_run.specs.Checks.{IsRunReportWritten}
use Rattle.units_run.specs.declared.status.Status.TheVariants.{Done, Refused}
use Rattle.units_run.proofs.WrittenBytes.{column_run_front_of_all, column_run_front_of_both, column_run_front_of_more}
use Rattle.units_run.proofs.WrittenBytes.{column_run_sink_grows_by_none, column_run_sink_grows_twice}

-- the keys at two lists of places, one after the other
run_report_keys_of_both : (deck : DeckContents) (xs ys : List ℕ)
    → deck_keys_at_places deck.lines (xs ++ ys) ≡ deck_keys_at_places deck.lines xs ++ deck_keys_at_places deck.lines ys
run_report_keys_of_both deck [] ys = refl
run_report_keys_of_both deck (x ∷ xs) ys = go (deck_key_at_place deck.lines x) (run_report_keys_of_both deck xs ys)
  where
    go : (o : Option Key) → deck_keys_at_places deck.lines (xs ++ ys) ≡ deck_keys_at_places deck.lines xs
        ++ deck_keys_at_places deck.lines ys
        → cons_option o (deck_keys_at_places deck.lines (xs ++ ys))
        ≡ cons_option o (deck_keys_at_places deck.lines xs) ++ deck_keys_at_places deck.lines ys
    go None e = e
    go (Some k) e = ap (λ (ks : List Key). k ∷ ks) e

-- two lists of bytes together are not empty if either is not
run_report_bytes_of_both : (xs ys : List ℕ) → not (is_empty (xs ++ ys)) ≡ (not (is_empty xs) || not (is_empty ys))
run_report_bytes_of_both [] ys = refl
run_report_bytes_of_both (x ∷ xs) ys = refl

-- a list of places whose length is 0 is empty
pub run_report_without_places : (places : List ℕ) (none : Bool) → none ≡ (length places == 0) → none ≡ true
    → places ≡ []
run_report_without_places [] none is e = refl
run_report_without_places (x ∷ places) none is e = absurd (grind (arith, nat_tests, is, e))

-- the ending of a report, depending on whether it has any bytes
pub run_report_ending : (bytes : List ℕ) (any : Bool) (before after : Option (List ℕ)) → any ≡ not (is_empty bytes)
    → after ≡ sink_bytes_append before bytes → IsRunReportWritten bytes (if any then Refused else Done) before after
run_report_ending [] true before after is all = absurd (true≢false is)
run_report_ending [] false before after is all = (refl, all)
run_report_ending (b ∷ bytes) true before after is all = (refl, all)
run_report_ending (b ∷ bytes) false before after is all = absurd (true≢false (sym is))

module _ (deck : DeckContents) (options : Options) where
  -- the lines of the keys at some places, and the queries that are made for them
  abbrev pub lines_of : List ℕ → List ℕ
  lines_of places = check_among (table_of_deck deck) (reply_style options) (deck_keys_at_places deck.lines places)

  abbrev pub queries_of : List ℕ → List LiveEvent
  queries_of places = queries_among (table_of_deck deck) (deck_keys_at_places deck.lines places)

  lines_both : (xs ys : List ℕ) → lines_of (xs ++ ys) ≡ lines_of xs ++ lines_of ys
  lines_both xs ys =
      ap (check_among (table_of_deck deck) (reply_style options)) (run_report_keys_of_both deck xs ys)
      ∙ flat_map-append (check_line (table_of_deck deck) (reply_style options)) (deck_keys_at_places deck.lines xs)
      (deck_keys_at_places deck.lines ys)

  queries_both : (xs ys : List ℕ) → queries_of (xs ++ ys) ≡ queries_of xs ++ queries_of ys
  queries_both xs ys =
      ap (queries_among (table_of_deck deck)) (run_report_keys_of_both deck xs ys)
      ∙ flat_map-append (λ (k : Key). (key_finding (table_of_deck deck) k).events) (deck_keys_at_places deck.lines xs)
      (deck_keys_at_places deck.lines ys)

-- the lines of the first places are made, and all of them but the last are written
pub record IsUnderway (options : Options) (places head : List ℕ) (start : Option (List ℕ)) (before : LiveView) (old : ℕ)
    (rest lines : List ℕ) (any : Bool) (out : Option (List ℕ)) (now : LiveView) (new : ℕ) : Type 0 where
  pub front : List ℕ
  pub written : List ℕ
  pub parts : places ≡ front ++ rest
  pub out_is : out ≡ sink_bytes_append start written
  pub text : written ++ lines ≡ head ++ lines_of before.deck options front
  pub any_is : any ≡ not (is_empty written)
  pub deck : now.deck ≡ before.deck
  pub follows : IsAfterLiveEvents (queries_of before.deck options front) before now old new

module _ (options : Options) (places head : List ℕ) (start : Option (List ℕ)) (before : LiveView) (old : ℕ) where
  pub underway_start : IsRightLiveView before
      → IsUnderway options places head start before old places head false start before old
  underway_start right = record {
    front = [];
    written = [];
    parts = refl;
    out_is = column_run_sink_grows_by_none start;
    text = sym (append-nil head);
    any_is = refl;
    deck = refl;
    follows = no_live_events_keep_view before old right;
  }

  module _ (rest lines : List ℕ) (any : Bool) (out : Option (List ℕ)) (now : LiveView) (new : ℕ)
      (u : IsUnderway options places head start before old rest lines any out now new) where
    -- all bytes of the report, of which the bytes made so far are a front
    all_text : head ++ lines_of before.deck options places
        ≡ u.written ++ (lines ++ lines_of before.deck options rest)
    all_text =
        ap (λ (ps : List ℕ). head ++ lines_of before.deck options ps) u.parts
        ∙ ap (λ (ls : List ℕ). head ++ ls) (lines_both before.deck options u.front rest)
        ∙ sym (append_assoc head (lines_of before.deck options u.front) (lines_of before.deck options rest))
        ∙ ap (λ (ls : List ℕ). ls ++ lines_of before.deck options rest) (sym u.text)
        ∙ append_assoc u.written lines (lines_of before.deck options rest)

    -- the bytes written so far are a front of all
    pub front_now : SinkGrowsByPrefix start out (head ++ lines_of before.deck options places)
    front_now =
        column_run_front_of_more start out u.written (lines ++ lines_of before.deck options rest) _ all_text
        (column_run_front_of_all start out u.written u.out_is)

    module _ (n : ℕ) (further : List ℕ) (later : LiveView) (last : ℕ)
        (is : further ≡ lines ++ lines_of now.deck options (take n rest)) (same : later.deck ≡ now.deck)
        (made : IsAfterLiveEvents (queries_of now.deck options (take n rest)) now later new last) where
      further_is : further ≡ lines ++ lines_of before.deck options (take n rest)
      further_is = is ∙ ap (λ (d : DeckContents). lines ++ lines_of d options (take n rest)) u.deck

      abbrev front_further : List ℕ
      front_further = u.front ++ take n rest

      parts_next : places ≡ front_further ++ drop n rest
      parts_next =
          u.parts
          ∙ ap (λ (ps : List ℕ). u.front ++ ps) (sym (take-append-drop n rest))
          ∙ sym (append_assoc u.front (take n rest) (drop n rest))

      text_next : u.written ++ further ≡ head ++ lines_of before.deck options front_further
      text_next =
          ap (λ (ls : List ℕ). u.written ++ ls) further_is
          ∙ sym (append_assoc u.written lines (lines_of before.deck options (take n rest)))
          ∙ ap (λ (ls : List ℕ). ls ++ lines_of before.deck options (take n rest)) u.text
          ∙ append_assoc head (lines_of before.deck options u.front) (lines_of before.deck options (take n rest))
          ∙ ap (λ (ls : List ℕ). head ++ ls) (sym (lines_both before.deck options u.front (take n rest)))

      -- if a front of the next lines is written, too, the bytes written are still a front of all
      pub front_next : (after : Option (List ℕ)) → SinkGrowsByPrefix out after further
          → SinkGrowsByPrefix start after (head ++ lines_of before.deck options places)
      front_next after f =
          column_run_front_of_more start after (u.written ++ further) (lines_of before.deck options (drop n rest)) _
          (ap (λ (ps : List ℕ). head ++ lines_of before.deck options ps) parts_next
          ∙ ap (λ (ls : List ℕ). head ++ ls) (lines_both before.deck options front_further (drop n rest))
          ∙ sym (append_assoc head (lines_of before.deck options front_further)
          (lines_of before.deck options (drop n rest)))
          ∙ ap (λ (ls : List ℕ). ls ++ lines_of before.deck options (drop n rest)) (sym text_next))
          (column_run_front_of_both start out after u.written further u.out_is f)

      -- the next lines are written
      pub underway_next : (left cleared : List ℕ) (after : Option (List ℕ)) (some : Bool)
          → left ≡ take (length rest - n) (drop n rest) → cleared ≡ [] → after ≡ sink_bytes_append out further
          → some ≡ (any || not (is_empty further))
          → IsUnderway options places head start before old left cleared some after later last
      underway_next left cleared after some behind none all either = record {
        front = front_further;
        written = u.written ++ further;
        parts = parts_next ∙ ap (λ (ps : List ℕ). front_further ++ ps) (sym (behind ∙ take_rest rest n));
        out_is =
            all
            ∙ ap (λ (o : Option (List ℕ)). sink_bytes_append o further) u.out_is
            ∙ column_run_sink_grows_twice start u.written further;
        text =
            ap (λ (ls : List ℕ). (u.written ++ further) ++ ls) none
            ∙ append-nil (u.written ++ further)
            ∙ text_next;
        any_is =
            either
            ∙ ap (λ (b : Bool). b || not (is_empty further)) u.any_is
            ∙ sym (run_report_bytes_of_both u.written further);
        deck = same ∙ u.deck;
        follows =
            subst (λ (es : List LiveEvent). IsAfterLiveEvents es before later old last)
            (sym (queries_both before.deck options u.front (take n rest)))
            (live_event_runs_in_turn (queries_of before.deck options u.front)
            (queries_of before.deck options (take n rest)) before
            now
            later old new last u.follows
            (subst (λ (d : DeckContents). IsAfterLiveEvents (queries_of d options (take n rest)) now later new last)
            u.deck
            made));
      }

  -- no place is left, and everything is written
  module _ (rest lines : List ℕ) (any : Bool) (out : Option (List ℕ)) (now : LiveView) (new : ℕ)
      (u : IsUnderway options places head start before old rest lines any out now new) (none : rest ≡ [])
      (cleared : lines ≡ []) where
    places_over : u.front ≡ places
    places_over = sym (u.parts ∙ ap (λ (ps : List ℕ). u.front ++ ps) none ∙ append-nil u.front)

    text_over : u.written ≡ head ++ lines_of before.deck options places
    text_over =
        sym (append-nil u.written)
        ∙ ap (λ (ls : List ℕ). u.written ++ ls) (sym cleared)
        ∙ u.text
        ∙ ap (λ (ps : List ℕ). head ++ lines_of before.deck options ps) places_over

    pub written_over : IsRunReportWritten (head ++ lines_of before.deck options places) (if any then Refused else Done)
        start out
    written_over =
        run_report_ending (head ++ lines_of before.deck options places) any start out
        (u.any_is ∙ ap (λ (ls : List ℕ). not (is_empty ls)) text_over)
        (u.out_is ∙ ap (sink_bytes_append start) text_over)

    pub follows_over : IsAfterLiveEvents (queries_of before.deck options places) before now old new
    follows_over =
        subst (λ (ps : List ℕ). IsAfterLiveEvents (queries_of before.deck options ps) before now old new) places_over
        u.follows
