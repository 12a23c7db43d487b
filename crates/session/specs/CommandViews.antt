-- Commands as contracts see them: the bytes of their texts.
use Rattle.session.specs.declared.command.Command.{Command as Declared}
use Rattle.session.specs.declared.command.Command.TheVariants as line
use Rattle.session.specs.declared.command.DeckEdit.{DeckEdit as DeclaredEdit}
use Rattle.session.specs.declared.command.DeckEdit.TheVariants as edit
use Rattle.session.specs.Commands.{Command, DeckEdit}
use Rattle.session.specs.Commands as command

abbrev pub session_edit_view : DeclaredEdit → DeckEdit
session_edit_view (edit.Define text) = command.Define text.now
session_edit_view (edit.DropLast text) = command.DropLast text.now
session_edit_view (edit.Set name value) = command.Set name.now value.now
session_edit_view (edit.Locale locale) = command.Locale locale.now
session_edit_view edit.Undo = command.Undo
session_edit_view edit.Redo = command.Redo

abbrev pub session_command_view : Declared → Command
session_command_view line.Blank = command.Blank
session_command_view line.Quit = command.Quit
session_command_view line.Conformable = command.Conformable
session_command_view (line.Search text) = command.Search text.now
session_command_view (line.Edit edit) = command.Edit (session_edit_view edit)
session_command_view (line.Load name) = command.Load name.now
session_command_view (line.Save name) = command.Save name.now
session_command_view (line.Watch from to) = command.Watch from.now to.now
session_command_view line.Unwatch = command.Unwatch
session_command_view line.Stats = command.Stats
session_command_view (line.Unknown word) = command.Unknown word.now
session_command_view (line.Bad word) = command.Bad word.now
session_command_view (line.Expression text) = command.Expression text.now
