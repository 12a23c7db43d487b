-- The view of the kind of a line in contracts.
use Rattle.def_lines.specs.declared.kind.LineKind.{LineKind}
use Rattle.def_lines.specs.declared.kind.LineKind.TheVariants as line
use Rattle.def_lines.specs.Kinds.{LineKindWithArguments}
use Rattle.def_lines.specs.Kinds as kind

abbrev pub seen_line_kind : LineKind → LineKindWithArguments
seen_line_kind line.Blank = kind.Blank
seen_line_kind line.Definition = kind.Definition
seen_line_kind (line.Include name) = kind.Include name.now
seen_line_kind (line.Locale locale) = kind.Locale locale.now
seen_line_kind line.EndLocale = kind.EndLocale
seen_line_kind (line.Set name value) = kind.Set name.now value.now
seen_line_kind (line.Var name values) = kind.Var name.now values.now
seen_line_kind (line.VarNot name values) = kind.VarNot name.now values.now
seen_line_kind line.EndVar = kind.EndVar
seen_line_kind line.Utf8 = kind.Utf8
seen_line_kind line.EndUtf8 = kind.EndUtf8
seen_line_kind (line.Message text) = kind.Message text.now
seen_line_kind line.Prompt = kind.Prompt
seen_line_kind line.UnitList = kind.UnitList
seen_line_kind line.UnknownDirective = kind.UnknownDirective
seen_line_kind line.BadDirective = kind.BadDirective
