use Rattle.def_entry.proofs.Texts.{entry_text_is_after_name}
use Rattle.def_entry.proofs.laws.entry_text_law.Goals as goal

pub returns : goal.returns
returns c = entry_text_is_after_name
