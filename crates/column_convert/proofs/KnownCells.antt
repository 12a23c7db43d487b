-- The cells of numbers, from known values.
use Rattle.std.proofs.Common.{◌≡◌, ◌∙◌, ℕ, List, [], ◌∷◌, sym, ap, subst}
use Rattle.std.specs.Prelude.{IfOk, IfSome, Option, Some, None, Result, Ok, Err}
use Rattle.std.specs.declared.alloc.AllocError.{AllocError}
use Rattle.def_lines.specs.Blanks.{trimmed_of_blanks}
use Rattle.expr_tree.specs.Words.{words_in}
use Rattle.quantity.specs.Amount.{Amount}
use Rattle.deck.specs.Tables.{table_of_deck}
use Rattle.live_table.specs.TableView.{IsAfterLiveEvents, LiveView}
use Rattle.live_table.specs.States.{AsksWords, LiveEvent}
use Rattle.reply.specs.declared.options.Options.{Options}
use Rattle.reply.specs.declared.reply.Reply.{Reply}
use Rattle.reply.specs.Replies.{comparison_reply}
use Rattle.column_convert.specs.declared.cell.Cell.{Cell}
use Rattle.column_convert.specs.declared.cached_values.Known.{Known}
use Rattle.column_convert.specs.declared.memory.Memory.{Memory}
use Rattle.column_convert.specs.declared.signed_number.Signed.{Signed}
use Rattle.column_convert.specs.Cells.{cell_of_reply, cell_options, cell_text_after_minus, number_queries, number_reply}
use Rattle.column_convert.specs.CachedValues.{AreColumnValuesKnown, IsCellOf, IsCellRecallEmpty, IsCellRecallRight}
use Rattle.column_convert.specs.CachedValues.{IsKnownCell, IsRememberedCell, IsCellNumber}
use Rattle.column_convert.specs.Products.{cell_product_text}
use Rattle.column_convert.specs.CellValues.{value_of_cell_product}
use Rattle.column_convert.proofs.Replies.{cell_product_is_trimmed}
use Rattle.column_convert.proofs.ValueReplies.{cell_reply_law}

module _ (options : Options) (known : Known) (n : Signed) (p : Amount)
    (product : value_of_cell_product n.negative n.numeral (Ok known.from_value) ≡ Ok p) (shown : LiveView)
    (from to number : List ℕ) (k : AreColumnValuesKnown shown from to known) (s : IsCellNumber number n) where
  known_reply : (number_reply (table_of_deck shown.deck) options from to number
      ≡ comparison_reply (cell_options options) (cell_product_text number from) (trimmed_of_blanks to) p known.to_value)
      × (number_queries (table_of_deck shown.deck) options from to number
      ≡ AsksWords (words_in k.f) ∷ AsksWords (words_in k.g) ∷ [])
  known_reply =
      let law = cell_reply_law (table_of_deck shown.deck) options n.negative (cell_text_after_minus number) n.numeral
      from to k.f k.g
      known.from_value known.to_value p s.numeral_is (k.factor n.negative) k.operand_values product in (
        ap (number_reply (table_of_deck shown.deck) options from to) s.spelt ∙ law.0
            ∙ ap (λ (t : List ℕ). comparison_reply (cell_options options) (trimmed_of_blanks (cell_product_text t from))
            (trimmed_of_blanks to) p
            known.to_value) (sym s.spelt)
            ∙ ap (λ (t : List ℕ). comparison_reply (cell_options options) t (trimmed_of_blanks to) p known.to_value)
            (cell_product_is_trimmed number from),
        ap (number_queries (table_of_deck shown.deck) options from to) s.spelt ∙ law.1,
      )

  pub known_cell : (o : Options) (asked name : List ℕ) (reply : Reply) (cell : Cell) → o ≡ cell_options options
      → asked ≡ cell_product_text number from → name ≡ trimmed_of_blanks to
      → reply ≡ comparison_reply o asked name p known.to_value → cell ≡ cell_of_reply reply
      → IsCellOf options shown from to number cell
  known_cell o asked name reply cell is text to_is said made = (
    made
        ∙ ap cell_of_reply (said
        ∙ ap (λ (o : Options). comparison_reply o asked name p known.to_value) is
        ∙ ap (λ (t : List ℕ). comparison_reply (cell_options options) t name p known.to_value) text
        ∙ ap (λ (t : List ℕ). comparison_reply (cell_options options) (cell_product_text number from) t p
        known.to_value)
        to_is
        ∙ sym known_reply.0),
    λ steps. subst (λ (es : List LiveEvent). IsAfterLiveEvents es shown shown steps steps) (sym known_reply.1)
        (k.repeated_events steps),
  )

-- if no values are remembered, those remembered are right
pub empty_cell_recall_is_right : (shown : LiveView) (from to : List ℕ) (memory : Memory) → IsCellRecallEmpty memory
    → IsCellRecallRight shown from to memory
empty_cell_recall_is_right shown from to memory empty =
    subst (λ (o : Option Known). IfSome o (AreColumnValuesKnown shown from to)) (sym empty) tt

-- the known values are the remembered ones
module _ (options : Options) (memory : Memory) (from to number : List ℕ) (n : Signed) (known : Known)
    (is : memory.known ≡ Some known) where
  remembered_cell : (cell : Cell) → IsKnownCell options known from to number n cell
      → IsRememberedCell options memory from to number n cell
  remembered_cell cell h = λ shown m s.
      h shown (subst (λ (o : Option Known). IfSome o (AreColumnValuesKnown shown from to)) is m) s

  pub all_remembered : (r : Result (Option Cell) AllocError)
      → IfOk r (λ cell. IfSome cell (λ cell. IsKnownCell options known from to number n cell))
      → IfOk r (λ cell. IfSome cell (λ cell. IsRememberedCell options memory from to number n cell))
  all_remembered (Err e) h = tt
  all_remembered (Ok None) h = tt
  all_remembered (Ok (Some cell)) h = remembered_cell cell h
