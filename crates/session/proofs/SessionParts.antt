-- The parts of a session after an answer that keeps the deck.
use Rattle.std.proofs.Common.{◌≡◌, ℕ, List, sym, subst}
use Rattle.std.specs.Prelude.{Result}
use Rattle.std.specs.declared.option.Option.{Option}
use Rattle.deck.specs.Decks.{DeckContents}
use Rattle.edit_history.specs.Histories.{UndoStacks}
use Rattle.edit_history.specs.Timelines.{history_timeline}
use Rattle.edit_history.specs.Versions.{history_version}
use Rattle.live_table.specs.TableView.{LiveView}
use Rattle.reply.specs.declared.options.Options.{Options}
use Rattle.session.specs.Answers.{SessionAnswer}
use Rattle.session.specs.Parts.{IsSessionAnswerGiven}
use Rattle.session.specs.Sessions.{session_of, session_of_versions}
use Rattle.session.specs.Versions.{session_table_with_versions, session_versions}
use Rattle.session.specs.declared.answer.LineReply.{LineReply}
use Rattle.watch.specs.WatchViews.{WatchSubject}

-- an answer whose session has the versions of an equal deck
pub session_answer_at_equal_deck : {E : Type 0} (answer : SessionAnswer) (result : Result LineReply E)
    (options : Options) (new : LiveView)
    (deck : DeckContents) (history : UndoStacks) (pending : Option (List ℕ)) (watched : List WatchSubject) (n k : ℕ)
    → new.deck ≡ deck
    → IsSessionAnswerGiven answer result
    (session_of options new pending (session_versions (history_timeline history (history_version deck))) watched) n k
    → IsSessionAnswerGiven answer result
    (session_of_versions options (session_table_with_versions new history) pending watched) n k
session_answer_at_equal_deck answer result options new deck history pending watched n k same given =
    subst (λ (d : DeckContents). IsSessionAnswerGiven answer result
    (session_of options new pending (session_versions (history_timeline history (history_version d))) watched) n k)
    (sym same) given
