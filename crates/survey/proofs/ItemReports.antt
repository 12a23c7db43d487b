-- Reports on a sequence of items, such as keys or places.
use Rattle.std.proofs.Common.{◌≡◌, ◌∙◌, ◌+◌, ◌++◌, ◌≤◌, ℕ, List, [], ◌∷◌, take, drop, length, Some, refl, sym, ap}
use Rattle.std.proofs.Common.{subst}
use Rattle.std.proofs.lemmas.Grind.{flat_map-append}
use Rattle.std.proofs.lemmas.List.{append-nil, drop_all, flat_map_more, take-append-drop}
use Rattle.std.specs.List.{flat_map, slice_get}
use Rattle.live_table.specs.TableView.{AreLiveEventsCutOff, IsAfterLiveEvents, IsRightLiveView, LiveView}
use Rattle.live_table.specs.States.{LiveEvent}
use Rattle.live_table.proofs.QuerySequence.{live_event_runs_in_turn, live_events_cut_off_in_midst}
use Rattle.live_table.proofs.QuerySequence.{no_live_events_keep_view}
use Rattle.general_lemmas.proofs.Places.{drop_at, take_at}

-- the lines of the first items were appended to some bytes, and their queries were made
pub record IsUnderway {A : Type 0} (line : A → List ℕ) (asks : A → List LiveEvent) (items : List A) (i : ℕ)
    (start bytes : List ℕ) (before now : LiveView) (old new : ℕ) : Type 0 where
  pub text : bytes ≡ start ++ flat_map line (take i items)
  pub deck : now.deck ≡ before.deck
  pub follows : IsAfterLiveEvents (flat_map asks (take i items)) before now old new

module _ {A : Type 0} (line : A → List ℕ) (asks : A → List LiveEvent) (items : List A) where
  pub underway-start : (start : List ℕ) (s : LiveView) (n : ℕ) → IsRightLiveView s
      → IsUnderway line asks items 0 start start s s n n
  underway-start start s n right = record {
    text = sym (append-nil start);
    deck = refl;
    follows = no_live_events_keep_view s n right;
  }

  module _ (i : ℕ) (start bytes : List ℕ) (before now : LiveView) (old new : ℕ)
      (u : IsUnderway line asks items i start bytes before now old new) where
    -- the items up to the end are all items
    all : length items ≤ i → take i items ≡ items
    all h =
        sym (append-nil (take i items))
        ∙ (ap (λ ks. take i items ++ ks) (sym (drop_all i items h)) ∙ take-append-drop i items)

    pub underway-text : length items ≤ i → bytes ≡ start ++ flat_map line items
    underway-text h = u.text ∙ ap (λ (ks : List A). start ++ flat_map line ks) (all h)

    pub underway-follows : length items ≤ i → IsAfterLiveEvents (flat_map asks items) before now old new
    underway-follows h = subst (λ (ks : List A). IsAfterLiveEvents (flat_map asks ks) before now old new)
        (all h) u.follows

    module _ (k : A) (at : slice_get items i ≡ Some k) (later : LiveView) (last : ℕ) where
      -- one more item is done
      pub underway-next : (further : List ℕ) → further ≡ bytes ++ line k → later.deck ≡ now.deck
          → IsAfterLiveEvents (asks k) now later new last
          → IsUnderway line asks items (i + 1) start further before later old last
      underway-next further is same f = record {
        text =
            is
            ∙ (ap (λ (b : List ℕ). b ++ line k) u.text
            ∙ (flat_map_more line start (take i items) k
            ∙ ap (λ (ks : List A). start ++ flat_map line ks) (sym (take_at items i k at))));
        deck = same ∙ u.deck;
        follows = subst (λ (es : List LiveEvent). IsAfterLiveEvents es before later old last)
            (flat_map_more asks [] (take i items) k ∙ ap (flat_map asks) (sym (take_at items i k at)))
            (live_event_runs_in_turn (flat_map asks (take i items)) (asks k) before now later old new last u.follows f);
      }

      -- memory runs out at the next item
      pub underway-cut : AreLiveEventsCutOff (asks k) now later new last
          → AreLiveEventsCutOff (flat_map asks items) before later old last
      underway-cut f =
          subst (λ (es : List LiveEvent). AreLiveEventsCutOff es before later old last) (sym whole)
          (live_events_cut_off_in_midst (flat_map asks (take i items)) (asks k) (flat_map asks (drop (i + 1) items))
          before now later old
          new
          last u.deck u.follows f)
        where
          whole : flat_map asks items
              ≡ flat_map asks (take i items) ++ (asks k ++ flat_map asks (drop (i + 1) items))
          whole =
              ap (flat_map asks) (sym (take-append-drop i items) ∙ ap (λ ks. take i items ++ ks) (drop_at items i k at))
              ∙ flat_map-append asks (take i items) (k ∷ drop (i + 1) items)
