use Rattle.def_entry.proofs.Texts.{same_entry_text}
use Rattle.def_entry.proofs.laws.same_text_law.Goals as goal

pub returns : goal.returns
returns c = same_entry_text
