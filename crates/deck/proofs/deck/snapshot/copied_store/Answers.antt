use Rattle.deck.proofs.deck.snapshot.copied_store.Goals as goal

pub loop-place-preserved : goal.loop-place-preserved
loop-place-preserved c = c.in_ok-push_copy.ensures
