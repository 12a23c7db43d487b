use Rattle.def_entry.proofs.KeyTexts as texts
use Rattle.def_entry.proofs.laws.one_key_law.Goals as goal

pub returns : goal.returns
returns c = texts.one_key_spelling_law
