use Rattle.deck_save.proofs.GivenBack.{from_answer, from_file, from_text}
use Rattle.deck_save.proofs.laws.saved_decks_are_given_back.Goals as goal

pub returns : goal.returns
returns c =
    let law = c.entry_law.ensures in
    record {
      file = λ d files name settings can is. from_file law d can files name settings is;
      text = λ d name settings can. from_text law d can name settings;
      answer = λ d name rest can. from_answer law d can name rest;
    }
