use Rattle.std.proofs.Common.{refl}
use Rattle.def_lines.specs.Lines.{line_content}
use Rattle.session.specs.Commands.{colon_command, session_command_in_text}
use Rattle.session.proofs.laws.command_examples.Goals as goal

pub returns : goal.returns
unfolding line_content session_command_in_text colon_command
returns c = record {
  blank_line = refl;
  quit = refl;
  exit = refl;
  conformable = refl;
  search = refl;
  expression = refl;
  search_alone = refl;
  define = refl;
  drop = refl;
  drop_alone = refl;
  set = refl;
  locale = refl;
  colon_undo = refl;
  colon_redo = refl;
  load = refl;
  save = refl;
  stats = refl;
  watch = refl;
  unwatch = refl;
  no_definition = refl;
  no_value = refl;
  no_locale = refl;
  undo_some = refl;
  redo_some = refl;
  no_file = refl;
  no_target = refl;
  stats_of = refl;
  no_to = refl;
  blank_from = refl;
  list_as_to = refl;
  unwatch_one = refl;
  unknown_command = refl;
  prefix = refl;
}
