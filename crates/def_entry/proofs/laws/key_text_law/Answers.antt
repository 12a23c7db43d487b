use Rattle.def_entry.proofs.KeyTexts as texts
use Rattle.def_entry.proofs.laws.key_text_law.Goals as goal

pub returns : goal.returns
returns c = texts.key_of_spelling_law
