use Rattle.std.proofs.Common.{refl}
use Rattle.command_line.specs.AcceptedWords.{are_command_words_accepted}
use Rattle.session.specs.HeardLines.{heard_lines}
use Rattle.session.specs.Input.{input_lines}
use Rattle.units_run.proofs.RunEndings.{words_end}
use Rattle.units_run.proofs.laws.ending_law.Goals as goal

pub returns : goal.returns
returns c = λ call.
    words_end call.files call.input (heard_lines (input_lines call.input)) (are_command_words_accepted call.words)
    call.words call.vars call.files
    refl
