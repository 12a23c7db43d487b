-- A deck that is loaded from the saved text of another has its definitions.
use Rattle.std.proofs.Common.{◌≡◌, ◌≤◌, ◌∷◌, [], ℕ, List, false, cond, length, reverse, refl, sym, ap, ◌∙◌}
use Rattle.std.proofs.Common.{arith, Some, Result, Ok, Err}
use Rattle.std.proofs.lemmas.Slice.Eq.{bytes_eq-Decides}
use Rattle.std.specs.Prelude.{nat_lt}
use Rattle.std.proofs.lemmas.Bool.{le-leb, ltb-false, or_parts}
use Rattle.std.proofs.lemmas.List.{length-map}
use Rattle.units_io.specs.FileMap.{FileMap, file_of_name, longest_file, no_files_in_map}
use Rattle.units_io.specs.FetchResults.{file_fetch_answer}
use Rattle.units_io.specs.declared.files.FetchFault.TheVariants.{TooLong}
use Rattle.def_lines.specs.Blanks.{trimmed_of_blanks}
use Rattle.def_lines.specs.Lines.{logical_lines, nonblank_lines}
use Rattle.def_entry.specs.declared.key.Key.{Key}
use Rattle.def_entry.specs.Entries.{Entry}
use Rattle.def_entry.specs.EntryGrammar.{EntryLaw}
use Rattle.deck_lines.specs.Excerpts.{Excerpt}
use Rattle.deck_lines.specs.Includes.{excerpt_of_deck_file, excerpt_of_lone_deck_file, included_name}
use Rattle.deck_lines.specs.Includes.{most_include_depth}
use Rattle.def_lines.specs.declared.line.Line.{Line}
use Rattle.deck_lines.specs.LineLoads.{LoadPart, load_below, load_of_bytes, load_of_file, load_of_rest}
use Rattle.deck_lines.specs.Transcripts.{Asks, TranscriptFetch, Yields}
use Rattle.deck_lines.specs.Limits.{most_store_bytes, most_store_lines, pass_store_limit, stored_text_len}
use Rattle.deck.specs.Active.{active_lines}
use Rattle.deck.specs.Decks.{DeckContents}
use Rattle.deck.specs.Edits.{deck_with_excerpt, deck_within_limit}
use Rattle.deck.specs.FileLoads.{deck_after_loading, deck_after_text_loading, deck_excerpt_of_lines, deck_fault_of_load}
use Rattle.deck.specs.FileLoads.{deck_load_of_name, empty_deck, deck_append_by_answer, load_with_deck_fault}
use Rattle.deck.specs.Messages.{active_definition_texts}
use Rattle.deck.specs.declared.fault.DeckFault.{DeckFault}
use Rattle.deck.specs.declared.fault.DeckFault.TheVariants.{DeckFull}
use Rattle.deck.specs.declared.settings.Settings.{Settings}
use Rattle.deck_save.specs.Laws.{CanBeSaved, IsSavedDeckGivenBack, SaveGivesBack}
use Rattle.deck_save.specs.SavedText.{saved_text, saved_texts}
use Rattle.deck_save.specs.SavedLines.{saved_lines}
use Rattle.deck_save.proofs.InForce.{entries, loaded_entries, loaded_texts, saved_table_entries, saved_texts_count}
use Rattle.deck_save.proofs.InForce.{saved_texts_give_entries}
use Rattle.deck_save.proofs.LoadedLines.{plain_excerpt, plain_lines, saved_plain_lines_within_limit}
use Rattle.deck_save.proofs.LoadedLines.{saved_texts_are_loaded}
use Rattle.deck_save.proofs.PlainLoads.{saved_plain_lines_load}
use Rattle.deck_save.proofs.ReadLines.{saved_lines_are_read_back}
use Rattle.deck_save.proofs.SavedTexts.{AreGiving, saved_texts_are_plain}

saved_text_is_saved_lines : (d : DeckContents) → saved_text d ≡ saved_lines (saved_texts d)
unfolding saved_text
saved_text_is_saved_lines d = refl

-- the definitions of the active lines of a deck
abbrev defined : DeckContents → List (Key × Entry)
defined d = entries (active_lines d.settings d.lines) d.lines

module _ (law : EntryLaw) (d : DeckContents) where
  give : AreGiving (saved_texts d) (defined d)
  give = saved_texts_give_entries law (active_lines d.settings d.lines) d.lines

  -- the deck that is loaded from the saved text, with any settings
  abbrev given : Settings → DeckContents
  given settings = record { lines = plain_lines 1 (saved_texts d); settings = settings; notices = [] }

  back : (settings : Settings) → SaveGivesBack d (given settings)
  back settings = record {
    without_notices = refl;
    texts = loaded_texts settings 1 (saved_texts d) (defined d) give;
    same_table =
        saved_table_entries settings (plain_lines 1 (saved_texts d))
        ∙ ap reverse (loaded_entries settings 1 (saved_texts d) (defined d) give)
        ∙ sym (saved_table_entries d.settings d.lines);
  }

  deck_is : (files : FileMap) (name : List ℕ) → excerpt_of_deck_file files name (saved_text d) ≡ plain_excerpt 1
      (saved_texts d)
  deck_is files name = ap (excerpt_of_deck_file files name) (saved_text_is_saved_lines d)
      ∙ saved_texts_are_loaded files name (saved_texts d)
      (defined d) give

  module _ (can : CanBeSaved d) where
    few : length d.lines ≤ most_store_lines
    unfolding pass_store_limit
    few = ltb-false most_store_lines (length d.lines)
        (or_parts (nat_lt most_store_lines (length d.lines)) (nat_lt most_store_bytes (stored_text_len d.lines))
        can.lines_within_limit).0

    room : pass_store_limit (plain_lines 1 (saved_texts d)) ≡ false
    room = saved_plain_lines_within_limit 1 (saved_texts d)
        (omega (
          arith,
          few,
          saved_texts_count (active_lines d.settings d.lines) d.lines,
          length-map (active_definition_texts d)
              trimmed_of_blanks,
        ))
        (omega (arith, can.text_within_limit, ap length (saved_text_is_saved_lines d)))

    -- the excerpt is appended to the empty deck
    put : (settings : Settings) (excerpt : Excerpt) → excerpt ≡ plain_excerpt 1 (saved_texts d)
        → deck_within_limit (deck_with_excerpt excerpt (empty_deck settings)) ≡ Ok (given settings)
    put settings excerpt is =
        ap (λ (e : Excerpt). deck_within_limit (deck_with_excerpt e (empty_deck settings))) is
        ∙ ap (λ t. cond t (Err DeckFull) (Ok (given settings))) room

    is_back : (settings : Settings) (outcome : Result DeckContents DeckFault) → outcome ≡ Ok (given settings)
        → IsSavedDeckGivenBack d settings outcome
    is_back settings outcome is =
        record { load_result = given settings; loads_ok = is; same_settings = refl; gives_back = back settings }

    fetched : (files : FileMap) (name : List ℕ) → file_of_name files name ≡ Some (saved_text d)
        → file_fetch_answer (file_of_name files name) ≡ Ok (saved_text d)
    fetched files name is = ap file_fetch_answer is ∙ ap (λ t. cond t (Ok (saved_text d)) (Err TooLong))
        (le-leb (length (saved_text d)) longest_file can.text_within_limit)

    pub from_file : (files : FileMap) (name : List ℕ) (settings : Settings)
        → file_of_name files name ≡ Some (saved_text d)
        → IsSavedDeckGivenBack d settings (deck_after_loading files name settings)
    from_file files name settings is =
        is_back settings (deck_after_loading files name settings)
        (ap (λ a. deck_append_by_answer files name a (empty_deck settings)) (fetched files name is)
        ∙ put settings (excerpt_of_deck_file files name (saved_text d)) (deck_is files name))

    pub from_text : (name : List ℕ) (settings : Settings)
        → IsSavedDeckGivenBack d settings (deck_after_text_loading (saved_text d) name settings)
    from_text name settings = is_back settings (deck_after_text_loading (saved_text d) name settings)
        (put settings (excerpt_of_lone_deck_file name (saved_text d)) (deck_is no_files_in_map name))

    -- the load of the saved text, whatever the contents of the files are
    text_loads : (includes : List ℕ → Line → LoadPart) (name : List ℕ) (fetches : List TranscriptFetch)
        → load_of_bytes includes name (saved_text d) (deck_excerpt_of_lines []) fetches
        ≡ Yields (plain_excerpt 1 (saved_texts d)) fetches
    text_loads includes name fetches =
        ap (λ ls. load_of_rest includes name [] ls (deck_excerpt_of_lines []) fetches)
        (ap (λ t. nonblank_lines (logical_lines t)) (saved_text_is_saved_lines d)
        ∙ saved_lines_are_read_back (saved_texts d)
        (saved_texts_are_plain (saved_texts d) (defined d) give))
        ∙ saved_plain_lines_load includes name 1 (saved_texts d) (defined d) (deck_excerpt_of_lines []) fetches give
        room

    -- a load whose first fetch returns the saved text continues with this text
    named : (name : List ℕ) (rest : List TranscriptFetch)
        → deck_load_of_name name (deck_excerpt_of_lines []) (record { name = name; answer = Ok (saved_text d) } ∷ rest)
        ≡ load_with_deck_fault deck_fault_of_load (load_of_file name (saved_text d) (deck_excerpt_of_lines []) rest)
    named name rest =
        ap (λ same. cond same
        (load_with_deck_fault deck_fault_of_load (load_of_file name (saved_text d) (deck_excerpt_of_lines []) rest))
        (Asks name (record { name = name; answer = Ok (saved_text d) } ∷ rest))) ((bytes_eq-Decides name name).1 refl)

    pub from_answer : (name : List ℕ) (rest : List TranscriptFetch)
        → (read : Excerpt)
        × (deck_load_of_name name (deck_excerpt_of_lines []) (record { name = name; answer = Ok (saved_text d) } ∷ rest)
        ≡ Yields read rest)
        × ((settings : Settings)
        → SaveGivesBack d (record { lines = read.lines; settings = settings; notices = read.notices }))
    from_answer name rest = (
      plain_excerpt 1 (saved_texts d),
      named name rest
          ∙ ap (load_with_deck_fault deck_fault_of_load)
          (text_loads (λ word. load_below most_include_depth name (included_name name word)) name rest),
      back,
    )
