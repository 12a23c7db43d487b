-- The queries for a sequence of items.
use Rattle.std.proofs.Common.{◌≡◌, ◌∙◌, ◌+◌, ◌++◌, ◌<◌, ℕ, suc, List, [], ◌∷◌, take, drop, length, get_or}
use Rattle.std.proofs.Common.{sym, ap, subst, arith}
use Rattle.std.proofs.lemmas.Grind.{flat_map-append}
use Rattle.std.proofs.lemmas.List.{flat_map_more, take-append-drop, take_more}
use Rattle.std.proofs.Math.Seq.{drop-cons}
use Rattle.std.specs.List.{flat_map}
use Rattle.live_table.specs.TableView.{AreLiveEventsCutOff, IsAfterLiveEvents, LiveView}
use Rattle.live_table.specs.States.{LiveEvent}
use Rattle.live_table.proofs.QuerySequence.{live_event_runs_in_turn, live_events_cut_off_in_midst}

-- the queries of the first items were made
pub record AreAsked {A : Type 0} (asks : A → List LiveEvent) (items : List A) (i : ℕ) (before now : LiveView)
    (old new : ℕ)
    : Type 0 where
  pub deck : now.deck ≡ before.deck
  pub follows : IsAfterLiveEvents (flat_map asks (take i items)) before now old new

module _ {A : Type 0} (asks : A → List LiveEvent) (items : List A) where
  module _ (i : ℕ) (before now : LiveView) (old new : ℕ) (u : AreAsked asks items i before now old new)
      (d w : A) (within : i < length items) (at : w ≡ get_or items i d) (later : LiveView) (last : ℕ) where
    -- the queries of one more item were made
    pub asked-next : later.deck ≡ now.deck → IsAfterLiveEvents (asks w) now later new last
        → AreAsked asks items (i + 1) before later old last
    asked-next same f = record {
      deck = same ∙ u.deck;
      follows = subst (λ (es : List LiveEvent). IsAfterLiveEvents es before later old last)
          (flat_map_more asks [] (take i items) w ∙ ap (flat_map asks) (sym more))
          (live_event_runs_in_turn (flat_map asks (take i items)) (asks w) before now later old new last u.follows f);
    }
      where
        more : take (i + 1) items ≡ take i items ++ w ∷ []
        more = take_more items i d within ∙ ap (λ x. take i items ++ x ∷ []) (sym at)

    -- memory runs out at the next item
    pub asked-cut : AreLiveEventsCutOff (asks w) now later new last
        → AreLiveEventsCutOff (flat_map asks items) before later old last
    asked-cut f =
        subst (λ (es : List LiveEvent). AreLiveEventsCutOff es before later old last) (sym whole)
        (live_events_cut_off_in_midst (flat_map asks (take i items)) (asks w) (flat_map asks (drop (i + 1) items))
        before now later old new
        last u.deck u.follows f)
      where
        rest : drop i items ≡ w ∷ drop (i + 1) items
        rest =
            let e : suc i ≡ i + 1 = omega arith in
            drop-cons items i d within ∙ (λ j. sym at j ∷ drop (e j) items)

        whole : flat_map asks items
            ≡ flat_map asks (take i items) ++ (asks w ++ flat_map asks (drop (i + 1) items))
        whole =
            ap (flat_map asks) (sym (take-append-drop i items) ∙ ap (λ xs. take i items ++ xs) rest)
            ∙ flat_map-append asks (take i items) (w ∷ drop (i + 1) items)
