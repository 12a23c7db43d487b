-- The queries for FROM and TO before a number is converted.
use Rattle.std.proofs.Common.{◌≡◌, ◌≤◌, ◌-◌, ◌^◌, ◌∙◌, ℕ, List, [], ◌∷◌, sym, subst}
use Rattle.std.specs.Prelude.{IfOk, IfSome, IsErrAnd, Option, Some, None, Result, Ok, Err, true, is_some}
use Rattle.std.specs.declared.alloc.AllocError.{AllocError}
use Rattle.def_lines.specs.Blanks.{trimmed_of_blanks}
use Rattle.deck.specs.Decks.{DeckContents}
use Rattle.deck.specs.Tables.{table_of_deck}
use Rattle.expr_tree.specs.Syntax.{Syntax}
use Rattle.expr_tree.specs.Words.{words_in}
use Rattle.quantity.specs.Amount.{Amount}
use Rattle.live_table.specs.Answers.{live_table_answer}
use Rattle.live_table.specs.Calls.{AreLiveQueries}
use Rattle.live_table.specs.TableView.{AreLiveEventsCutOff, IsAfterLiveEvents, IsRightLiveView, LiveView}
use Rattle.live_table.specs.States.{AsksWords, LiveEvent}
use Rattle.live_table.proofs.QuerySequence.{live_event_runs_in_turn, live_events_cut_off_in_midst}
use Rattle.live_table.proofs.NameQueries.{live_events_cut_at_start}
use Rattle.live_table.proofs.Runs.{live_event_run_law}
use Rattle.reply.specs.declared.options.Options.{Options}
use Rattle.column_convert.specs.declared.cell.Cell.{Cell}
use Rattle.column_convert.specs.declared.memory.Memory.{Memory}
use Rattle.column_convert.specs.declared.signed_number.Signed.{Signed}
use Rattle.column_convert.specs.Cells.{cell_of_reply, number_queries, number_reply}
use Rattle.column_convert.specs.CachedValues.{AreCellQueriesBegun, AreCellQueriesOfNumberBegun, AreColumnTextsPlain}
use Rattle.column_convert.specs.CachedValues.{AreColumnValuesKnown, IsCellRecallRight, IsCellNumber, IsRememberedCell}
use Rattle.column_convert.specs.CellValues.{AreColumnTextsValued, value_of_cell_product}
use Rattle.column_convert.proofs.Again.{cell_queries_again_take_no_step}
use Rattle.column_convert.proofs.BegunQueries.{begun_follows, begun_made, begun_stopped, cell_queries_begun_by_none}
use Rattle.column_convert.proofs.BegunQueries.{cell_queries_begun_by_texts}
use Rattle.column_convert.proofs.FrontQueries.{answered_column_text_has_value, both_first, from_first}
use Rattle.column_convert.proofs.PlainTrees.{plain_column_texts_are_no_calls}

-- a property of an optional value holds for the value that is there
pub some_recalled_cell_value_holds : {A : Type 0} (P : A → Type 0) (o : Option A) (x : A) → o ≡ Some x → IfSome o P
    → P x
some_recalled_cell_value_holds P o x is h = subst (λ o. IfSome o P) is h

pub recalled_cell_value_is_there : {A : Type 0} (P : A → Type 0) (o : Option A) → is_some o ≡ true → IfSome o P
    → (x : A) × P x
recalled_cell_value_is_there P (Some x) is h = (x, h)
recalled_cell_value_is_there P None is h = cc

-- no query is made
pub no_cell_query_is_begun : {A : Type 0} (r : Result A AllocError) (from to : List ℕ) (n : Signed) (a : LiveView)
    (o : ℕ)
    → IsRightLiveView a → AreCellQueriesOfNumberBegun n from to r a a o o
no_cell_query_is_begun (Ok x) from to n a o right = λ options number s. cell_queries_begun_by_none _ a o right
no_cell_query_is_begun (Err e) from to n a o right = λ options number s. live_events_cut_at_start _ a o right

-- memory ran out, whatever result was wanted
pub cell_queries_begun_without_memory : {A : Type 0} (Q : AllocError → Type 0) (r : Result A AllocError)
    (from to : List ℕ) (n : Signed)
    (a b : LiveView) (o m : ℕ) → IsErrAnd r Q
    → ((options : Options) (number : List ℕ) → IsCellNumber number n
    → AreLiveEventsCutOff (number_queries (table_of_deck a.deck) options from to number) a b o m)
    → AreCellQueriesOfNumberBegun n from to r a b o m
cell_queries_begun_without_memory Q (Ok x) from to n a b o m failed h = absurd failed
cell_queries_begun_without_memory Q (Err e) from to n a b o m failed h = h

module _ (from to : List ℕ) (n : Signed) (f g : Syntax) (a : LiveView)
    (plain : AreColumnTextsPlain (table_of_deck a.deck) from to f g)
    (b : LiveView) (o m : ℕ) (deck : b.deck ≡ a.deck) where
  -- memory ran out while FROM was queried
  pub from_cut : {A : Type 0} (Q : AllocError → Type 0) (r : Result A AllocError) → IsErrAnd r Q
      → AreLiveEventsCutOff (AsksWords (words_in f) ∷ []) a b o m → AreCellQueriesOfNumberBegun n from to r a b o m
  from_cut Q (Ok x) failed cut = absurd failed
  from_cut Q (Err e) failed cut = λ options number s.
      let rest = from_first (table_of_deck a.deck) options from to number n f g plain s in
      subst (λ (es : List LiveEvent). AreLiveEventsCutOff es a b o m) (sym rest.1)
      (live_event_run_law.cut_before (AsksWords (words_in f) ∷ []) rest.0 a b o m cut)

  module _ (few : b.reductions ≤ 2 ^ 64 - 1) (asked : IsAfterLiveEvents (AsksWords (words_in f) ∷ []) a b o m) where
    -- FROM was queried, and nothing else
    pub from_begun : (options : Options) (number : List ℕ) → IsCellNumber number n
        → AreCellQueriesBegun (number_queries (table_of_deck a.deck) options from to number) a b o m
    from_begun options number s =
        let rest = from_first (table_of_deck a.deck) options from to number n f g plain s in
        subst (λ (es : List LiveEvent). AreCellQueriesBegun es a b o m) (sym rest.1)
        (cell_queries_begun_by_texts (words_in f ∷ []) rest.0 a b o m deck few asked)

    pub from_stopped : {A : Type 0} (Q : AllocError → Type 0) (r : Result A AllocError) → IsErrAnd r Q
        → AreCellQueriesOfNumberBegun n from to r a b o m
    from_stopped Q (Ok x) failed = absurd failed
    from_stopped Q (Err e) failed = λ options number s. begun_stopped _ a b o m (from_begun options number s)

    module _ (x p : Amount) (is : live_table_answer (table_of_deck a.deck) f ≡ Ok x)
        (product : value_of_cell_product n.negative n.numeral (Ok x) ≡ Ok p) (c : LiveView) (k : ℕ)
        (same : c.deck ≡ b.deck) where
      -- memory ran out while TO was queried
      pub to_cut : {A : Type 0} (Q : AllocError → Type 0) (r : Result A AllocError) → IsErrAnd r Q
          → AreLiveEventsCutOff (AsksWords (words_in g) ∷ []) b c m k → AreCellQueriesOfNumberBegun n from to r a c o k
      to_cut Q (Ok y) failed cut = absurd failed
      to_cut Q (Err e) failed cut = λ options number s.
          let rest = both_first (table_of_deck a.deck) options from to number n f g plain s x p is product in
          subst (λ (es : List LiveEvent). AreLiveEventsCutOff es a c o k) (sym rest.1)
          (live_events_cut_off_in_midst (AsksWords (words_in f) ∷ []) (AsksWords (words_in g) ∷ []) rest.0 a b c o m k
          deck asked cut)

      module _ (few_too : c.reductions ≤ 2 ^ 64 - 1)
          (asked_too : IsAfterLiveEvents (AsksWords (words_in g) ∷ []) b c m k)
        where
          both_asked : IsAfterLiveEvents (AsksWords (words_in f) ∷ AsksWords (words_in g) ∷ []) a c o k
          both_asked =
              live_event_runs_in_turn (AsksWords (words_in f) ∷ []) (AsksWords (words_in g) ∷ []) a b c o m k asked
              asked_too

          -- both were queried
          pub both_begun : (options : Options) (number : List ℕ) → IsCellNumber number n
              → AreCellQueriesBegun (number_queries (table_of_deck a.deck) options from to number) a c o k
          both_begun options number s =
              let rest = both_first (table_of_deck a.deck) options from to number n f g plain s x p is product in
              subst (λ (es : List LiveEvent). AreCellQueriesBegun es a c o k) (sym rest.1)
              (cell_queries_begun_by_texts (words_in f ∷ words_in g ∷ []) rest.0 a c o k (same ∙ deck) few_too
              both_asked)

          -- both were queried, and their values are known
          pub both_known : (y : Amount) → live_table_answer (table_of_deck b.deck) g ≡ Ok y
              → AreColumnValuesKnown c from to (record { from_value = x; to_value = y })
          both_known y to_is = record {
            f = f;
            g = g;
            factor = plain.factor;
            operand_values = subst (λ (d : DeckContents). AreColumnTextsValued (table_of_deck d) from to f g x y)
                (sym (same ∙ deck)) valued;
            repeated_events = λ steps. cell_queries_again_take_no_step (words_in f ∷ words_in g ∷ []) a c o k steps
                few_too both_asked;
          }
            where
              valued : AreColumnTextsValued (table_of_deck a.deck) from to f g x y
              valued =
                  let calls = plain_column_texts_are_no_calls (table_of_deck a.deck) from (trimmed_of_blanks to)
                  plain.are_so in
                  let from_is = answered_column_text_has_value (table_of_deck a.deck) f x is in
                  record {
                    from_is_no_function = calls.plain;
                    from_named = from_is.0;
                    from_has_value = from_is.1;
                    to_plain = calls.to_plain;
                    to_single = calls.to_single;
                    to_uncut = calls.to_uncut;
                    to_tree = plain.to_tree;
                    to_value = subst (λ (d : DeckContents). live_table_answer (table_of_deck d) g ≡ Ok y) deck to_is;
                  }

-- ---- the cell of a number
module _ (options : Options) (from to number : List ℕ) (n : Signed) (s : IsCellNumber number n) (a b : LiveView)
    (o m : ℕ)
    (deck : b.deck ≡ a.deck) where
  -- memory ran out during the first queries
  pub cell_cut : {A : Type 0} (Q : AllocError → Type 0) (r : Result A AllocError) → IsErrAnd r Q
      → ((options : Options) (number : List ℕ) → IsCellNumber number n
      → AreLiveEventsCutOff (number_queries (table_of_deck a.deck) options from to number) a b o m)
      → AreLiveQueries (number_queries (table_of_deck a.deck) options from to number) r a b o m
  cell_cut Q (Ok x) failed h = absurd failed
  cell_cut Q (Err e) failed h = h options number s

  module _ (begun : (options : Options) (number : List ℕ) → IsCellNumber number n
      → AreCellQueriesBegun (number_queries (table_of_deck a.deck) options from to number) a b o m) where
    -- memory ran out during further queries
    pub cell_stopped : {A : Type 0} (Q : AllocError → Type 0) (r : Result A AllocError) → IsErrAnd r Q
        → AreLiveQueries (number_queries (table_of_deck a.deck) options from to number) r a b o m
    cell_stopped Q (Ok x) failed = absurd failed
    cell_stopped Q (Err e) failed = begun_stopped _ a b o m (begun options number s)

    -- the cell from the remembered values
    module _ (memory : Memory) (cell : Cell) (h : IsRememberedCell options memory from to number n cell)
        (known : IsCellRecallRight b from to memory) where
      pub queries_known : IsAfterLiveEvents (number_queries (table_of_deck a.deck) options from to number) a b o m
      queries_known =
          begun_follows _ a b o m (begun options number s) b m
          (subst (λ (d : DeckContents). IsAfterLiveEvents (number_queries (table_of_deck d) options from to number) b b
          m m) deck
          ((h b known s).1 m))

    -- the cell from a conversion
    pub queries_made : {A : Type 0} (r : Result A AllocError) (c : LiveView) (k : ℕ)
        → AreLiveQueries (number_queries (table_of_deck b.deck) options from to number) r b c m k
        → AreLiveQueries (number_queries (table_of_deck a.deck) options from to number) r a c o k
    queries_made r c k h =
        begun_made _ a b o m (begun options number s) r c k
        (subst (λ (d : DeckContents). AreLiveQueries (number_queries (table_of_deck d) options from to number) r b c m
        k) deck h)

  pub cell_made : (r : Result Cell AllocError)
      → IfOk r (λ cell. cell ≡ cell_of_reply (number_reply (table_of_deck b.deck) options from to number))
      → IfOk r (λ cell. cell ≡ cell_of_reply (number_reply (table_of_deck a.deck) options from to number))
  cell_made r h =
      subst (λ (d : DeckContents).
      IfOk r (λ cell. cell ≡ cell_of_reply (number_reply (table_of_deck d) options from to number))) deck h
