use Rattle.std.proofs.Common.{◌≡◌, map, take, true}
use Rattle.std.specs.List.{list_all}
use Rattle.std.specs.Str.{is_utf8}
use Rattle.command_line.proofs.parse.texts_of.Given as goal

abbrev pub invariant-loop-word : goal.invariant-loop-word
invariant-loop-word l = record {
  utf8 : list_all is_utf8 (take l.word-index l.words) ≡ true;
  texts : map (λ text. text.now) l.texts.items ≡ take l.word-index l.words;
}
