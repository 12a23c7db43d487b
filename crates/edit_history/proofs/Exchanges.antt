-- Exchanges of lines as steps.
use Rattle.std.proofs.Common.{ℕ, List}
use Rattle.deck_lines.specs.declared.line.DeckLine.{DeckLine}
use Rattle.edit_history.specs.declared.line_exchange.LineExchange.{LineExchange}
use Rattle.edit_history.specs.declared.step.Step.{Step}
use Rattle.edit_history.specs.declared.step.Step.TheVariants.{Exchange}

-- the exchange with these parts
abbrev pub lines_exchanged : ℕ → ℕ → List DeckLine → LineExchange
lines_exchanged at cut put = record { at = at; cut = cut; put = put }

-- the step of the exchange with these parts
abbrev pub exchange_step : ℕ → ℕ → List DeckLine → Step
exchange_step at cut put = Exchange (lines_exchanged at cut put)
