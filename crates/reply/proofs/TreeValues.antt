-- The values of trees that are queried in turn.
use Rattle.std.proofs.Common.{◌≡◌, ◌∙◌, sym, ap, subst, refl, ℕ, List, [], ◌∷◌, ◌++◌, append_assoc}
use Rattle.std.proofs.lemmas.List.{append-nil}
use Rattle.std.specs.Prelude.{Result, Ok, Err}
use Rattle.expr_tree.specs.Syntax.{Syntax}
use Rattle.expr_tree.specs.Words.{words_in}
use Rattle.quantity.specs.Amount.{Amount}
use Rattle.def_entry.specs.Tables.{EntryTable}
use Rattle.live_table.specs.TableView.{AreLiveEventsCutOff, IsAfterLiveEvents, IsRightLiveView, LiveView}
use Rattle.live_table.specs.States.{AsksWords, LiveEvent}
use Rattle.live_table.proofs.QuerySequence.{live_event_runs_in_turn, live_events_cut_off_in_midst}
use Rattle.live_table.proofs.QuerySequence.{no_live_events_keep_view}
use Rattle.live_table.proofs.Runs.{live_event_run_law}
use Rattle.reply.specs.declared.failure.Failure.{Failure}
use Rattle.reply.specs.declared.failure.Failure.TheVariants.{Fault, OutOfMemory}
use Rattle.reply.specs.declared.fault.ReplyFault.{ReplyFault}
use Rattle.reply.specs.Calls.{IsInquiryAnswered, inquiry_identity}
use Rattle.reply.specs.Inquiries.{Inquiry, inquiry_after, inquiry_without_queries, tree_value, values_of_trees}
use Rattle.reply.proofs.Fronts.{inquiry_front-none, with_front}

-- an inquiry after these queries, with these values before its result
abbrev pub behind : List LiveEvent → List Amount → Inquiry (List Amount) → Inquiry (List Amount)
behind es xs m = record { events = es ++ m.events; answer = with_front xs m.answer }

-- some trees have these values, and the rest are still to be queried
pub record IsUnderway (t : EntryTable) (trees rest : List Syntax) (values : List Amount) (a b : LiveView)
    (n m : ℕ) : Type 0
  where
    pub events : List LiveEvent
    pub whole : values_of_trees t trees ≡ behind events values (values_of_trees t rest)
    pub deck : b.deck ≡ a.deck
    pub follows : IsAfterLiveEvents events a b n m

-- at the start nothing has been queried, and all trees are left
pub inquiry-underway-at-start : (t : EntryTable) (trees : List Syntax) (a : LiveView) (n : ℕ) → IsRightLiveView a
    → IsUnderway t trees trees [] a a n n
inquiry-underway-at-start t trees a n right = record {
  events = [];
  whole = λ i. record {
    events = (values_of_trees t trees).events;
    answer =
        sym (inquiry_front-none (values_of_trees t trees).answer) i;
  };
  deck = refl;
  follows = no_live_events_keep_view a n right;
}

-- an inquiry with a value before those of its result
abbrev onto : Inquiry (List Amount) → Amount → Inquiry (List Amount)
onto m x = inquiry_after m.events m.answer (λ ys. inquiry_without_queries (Ok (x ∷ ys)))

module _ (es : List LiveEvent) (xs : List Amount) (e : LiveEvent) (x : Amount) (gs : List LiveEvent) where
  more : (r : Result (List Amount) ReplyFault)
      → behind es xs (inquiry_after (e ∷ []) (Ok x) (onto (record { events = gs; answer = r })))
      ≡ behind (es ++ e ∷ []) (xs ++ x ∷ []) (record { events = gs; answer = r })
  more (Ok ys) = λ i. record {
    events = (ap (λ (hs : List LiveEvent). es ++ (e ∷ hs)) (append-nil gs) ∙ sym (append_assoc es (e ∷ []) gs)) i;
    answer = Ok (sym (append_assoc xs (x ∷ []) ys) i);
  }
  more (Err fault) = λ i. record { events = sym (append_assoc es (e ∷ []) gs) i; answer = Err fault }

module _ (t : EntryTable) (trees rest : List Syntax) (tree : Syntax) (values : List Amount) (a b : LiveView) (n m : ℕ)
    (u : IsUnderway t trees (tree ∷ rest) values a b n m) (c : LiveView) (k : ℕ) (same_deck : c.deck ≡ b.deck) where
  abbrev event : LiveEvent
  event = AsksWords (words_in tree)

  -- the whole inquiry, by the result for the next tree
  abbrev whole_by : Result Amount ReplyFault → Inquiry (List Amount)
  whole_by said = behind u.events values (inquiry_after (event ∷ []) said (onto (values_of_trees t rest)))

  -- the next tree has a value
  pub underway-next : (x : Amount) → IsInquiryAnswered inquiry_identity (tree_value t tree) (Ok x) b c m k
      → IsUnderway t trees rest (values ++ x ∷ []) a c n k
  underway-next x h = record {
    events = u.events ++ event ∷ [];
    whole =
        u.whole
        ∙ (ap whole_by h.0 ∙ more u.events values event x (values_of_trees t rest).events
        (values_of_trees t rest).answer);
    deck = same_deck ∙ u.deck;
    follows = live_event_runs_in_turn u.events (event ∷ []) a b c n m k u.follows h.1;
  }

  -- the next tree has no value
  pub underway-failed : {A : Type 0} (seen : A → List Amount) (failure : Failure)
      → IsInquiryAnswered inquiry_identity (tree_value t tree) (Err failure) b c m k
      → IsInquiryAnswered seen (values_of_trees t trees) (Err failure) a c
      n
      k
  underway-failed seen failure h =
      subst (λ (w : Inquiry (List Amount)). IsInquiryAnswered seen w (Err failure) a c n k) (sym u.whole) (go failure h)
    where
      cut : (said : Result Amount ReplyFault) → AreLiveEventsCutOff (event ∷ []) b c m k
          → AreLiveEventsCutOff (whole_by said).events a c n k
      cut (Ok x) q =
          live_events_cut_off_in_midst u.events (event ∷ []) (onto (values_of_trees t rest) x).events a b c n m k u.deck
          u.follows q
      cut (Err fault) q = live_event_run_law.cut_behind u.events (event ∷ []) a b c n m k u.deck u.follows q

      go : (failure : Failure) → IsInquiryAnswered inquiry_identity (tree_value t tree) (Err failure) b c m k
          → IsInquiryAnswered seen (whole_by (tree_value t tree).answer) (Err failure) a c n k
      go (Fault fault) h =
          subst (λ (s : Result Amount ReplyFault). IsInquiryAnswered seen (whole_by s) (Err (Fault fault)) a c n k)
          (sym h.0)
          (refl, live_event_runs_in_turn u.events (event ∷ []) a b c n m k u.follows h.1)
      go OutOfMemory h = cut (tree_value t tree).answer h

module _ {A : Type 0} (seen : A → List Amount) (t : EntryTable) (trees : List Syntax) (a b : LiveView) (n m : ℕ) where
  -- memory runs out between two trees
  pub underway-stopped : (rest : List Syntax) (values : List Amount) → IsUnderway t trees rest values a b n m
      → IsInquiryAnswered seen (values_of_trees t trees) (Err OutOfMemory) a b n m
  underway-stopped rest values u =
      subst (λ (w : Inquiry (List Amount)). AreLiveEventsCutOff w.events a b n m) (sym u.whole)
      (live_event_run_law.cut_between u.events (values_of_trees t rest).events a b n m u.deck u.follows)
