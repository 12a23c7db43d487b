use Rattle.std.proofs.Common.{◌∷◌, [], cond, ap, refl}
use Rattle.def_lines.specs.Lines.{line_content}
use Rattle.session.specs.Commands.{session_command_in_text}
use Rattle.session.specs.HeardLines.{heard_lines, readable_session_line}
use Rattle.session.proofs.LineJoins.{input-lines-have-no-feed, input_cut_keeps_bytes, unfinished-input-line-has-no-feed}
use Rattle.session.proofs.LineJoins.{whole-input-lines-of-bytes}
use Rattle.session.proofs.HeardLines.{lines-are-heard-until-the-end}
use Rattle.session.proofs.laws.line_laws.Goals as goal

pub returns : goal.returns
unfolding readable_session_line line_content session_command_in_text
returns c = record {
  whole_and_rest = input_cut_keeps_bytes [];
  lines_clear = λ bytes. input-lines-have-no-feed [] bytes refl;
  rest_clear = λ bytes. unfinished-input-line-has-no-feed [] bytes refl;
  only = whole-input-lines-of-bytes;
  goes_on = lines-are-heard-until-the-end;
  hears_no_more = λ line lines e. ap (λ d. line ∷ cond d [] (heard_lines lines)) e;
  rest_is_line = refl;
  no_empty_rest = refl;
  quit_with_comment = refl;
  quit_in_text = refl;
}
