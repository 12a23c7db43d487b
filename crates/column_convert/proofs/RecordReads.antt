-- The effect of a read on the records left.
use Rattle.std.proofs.Common.{◌≡◌, ◌∙◌, refl, sym, ap, inl, inr, ◌⊎◌, ℕ, zero, suc, ◌+◌, ◌<◌, ◌≤◌, arith, Bool}
use Rattle.std.proofs.Common.{true, false, List, [], ◌∷◌, length, Option, Some, None, cond}
use Rattle.std.proofs.lemmas.Option.{same_Some}
use Rattle.csv.specs.Machine.{Read, ends_at_end, is_end, next_record, step}
use Rattle.csv.specs.Reading.{NextIs, ReadRecord, ReadsNext, default_config, pending_of, reader_state, records_from}
use Rattle.csv.specs.Reading.{records_next, source_of}
use Rattle.csv.specs.declared.parser.Config.{Config}
use Rattle.csv.specs.declared.parser.State.{State}
use Rattle.csv.specs.declared.parser.State.TheVariants as st
use Rattle.csv.specs.declared.reader.Reader.{Reader}
use Rattle.column_convert.specs.Records.{records_in, records_left}

-- reading a record takes a byte, unless the text is at its end
Shrinks : List ℕ → Read → Type 0
Shrinks xs p = (length p.2 < length xs) ⊎ ((p.1 ≡ st.StartRecord) × (p.2 ≡ []))

record_end_shrinks : (b : Bool) (fields : List (List ℕ)) (p : Read)
    → cond b (Some (fields, st.StartRecord, [])) None ≡ Some p
    → Shrinks [] p
unfolding Shrinks
record_end_shrinks true fields p is =
    inr (ap (λ (q : Read). q.1) (sym (same_Some _ p is)), ap (λ (q : Read). q.2) (sym (same_Some _ p is)))
record_end_shrinks false fields p is = cc

record_read_shrinks_more : (c : ℕ) (rest : List ℕ) (p : Read) → Shrinks rest p → Shrinks (c ∷ rest) p
unfolding Shrinks
record_read_shrinks_more c rest p h = elim h [ inl less ↦ inl (omega arith) | inr end ↦ inr end ]

record_step_shrinks : (b : Bool) (c : ℕ) (rest : List ℕ) (now : Read) (later : Option Read) (p : Read) → now.2 ≡ rest
    → (later ≡ Some p → Shrinks rest p) → cond b (Some now) later ≡ Some p → Shrinks (c ∷ rest) p
unfolding Shrinks
record_step_shrinks true c rest now later p same next is =
    let left : p.2 ≡ rest = ap (λ (q : Read). q.2) (sym (same_Some now p is)) ∙ same in
    inl (rw left (omega arith))
record_step_shrinks false c rest now later p same next is = record_read_shrinks_more c rest p (next is)

record_read_shrinks : (cfg : Config) (s : State) (fields : List (List ℕ)) (field xs : List ℕ) (p : Read)
    → next_record cfg s fields field xs ≡ Some p → Shrinks xs p
unfolding next_record
record_read_shrinks cfg s fields field [] p is = record_end_shrinks (ends_at_end s) _ p is
record_read_shrinks cfg s fields field (c ∷ rest) p is = record_step_shrinks (is_end (step cfg s c).1) c rest _ _ p refl
    (λ next. record_read_shrinks cfg (step cfg s c).0 _ _ rest p next) is

no_records_at_text_end : (cfg : Config) (n : ℕ) → records_from cfg n st.StartRecord [] ≡ []
unfolding next_record records_from
no_records_at_text_end cfg zero = refl
no_records_at_text_end cfg (suc n) = refl

enough_record_turns_for_next : (cfg : Config) (n m : ℕ) (s : State) (xs : List ℕ)
    → ((p : Read) → length p.2 < n → length p.2 < m → records_from cfg n p.1 p.2 ≡ records_from cfg m p.1 p.2)
    → (o : Option Read) → next_record cfg s [] [] xs ≡ o → length xs ≤ n → length xs ≤ m
    → records_next (records_from cfg n) o ≡ records_next (records_from cfg m) o
unfolding Shrinks
enough_record_turns_for_next cfg n m s xs more None is a b = refl
enough_record_turns_for_next cfg n m s xs more (Some p) is a b =
    ap (λ rows. p.0 ∷ rows) (elim (record_read_shrinks cfg s [] [] xs p is) [
      | inl less ↦ more p (omega arith) (omega arith)
      | inr end ↦ rw (end.0, end.1) (no_records_at_text_end cfg n ∙ sym (no_records_at_text_end cfg m))
    ])

-- one turn more than the text has bytes is enough
enough_record_turns : (cfg : Config) (n m : ℕ) (s : State) (xs : List ℕ) → length xs < n → length xs < m
    → records_from cfg n s xs ≡ records_from cfg m s xs
unfolding records_from
enough_record_turns cfg zero m s xs a b = absurd (omega arith)
enough_record_turns cfg (suc n) zero s xs a b = absurd (omega arith)
enough_record_turns cfg (suc n) (suc m) s xs a b =
    enough_record_turns_for_next cfg n m s xs (λ p. enough_record_turns cfg n m p.1 p.2) (next_record cfg s [] [] xs)
    refl (omega arith) (omega arith)

-- a turn, and the turns after it
first_record_turn : (cfg : Config) (n : ℕ) (s : State) (xs : List ℕ) → records_from cfg (n + 1) s xs ≡ records_next
    (records_from cfg n) (next_record cfg s [] [] xs)
unfolding records_from
first_record_turn cfg n s xs = let e : n + 1 ≡ suc n = omega arith in ap (λ k. records_from cfg k s xs) e

records_after_first_turn : (xs : List ℕ) (p : Read) → Shrinks xs p
    → records_from default_config (length xs) p.1 p.2 ≡ records_in p.1
    p.2
unfolding Shrinks
records_after_first_turn xs p h = elim h [
  | inl less ↦ enough_record_turns default_config (length xs) (length p.2 + 1) p.1 p.2 less (omega arith)
  | inr end ↦ rw (end.0, end.1) (no_records_at_text_end default_config (length xs)
      ∙ sym (no_records_at_text_end default_config 1))
]

pub records-in-with-next-record : (s : State) (xs : List ℕ) (p : Read) → next_record default_config s [] [] xs ≡ Some p
    → records_in s xs ≡ p.0 ∷ records_in p.1 p.2
records-in-with-next-record s xs p is =
    first_record_turn default_config (length xs) s xs ∙ ap (records_next (records_from default_config (length xs))) is
    ∙ ap (λ rows. p.0 ∷ rows) (records_after_first_turn xs p (record_read_shrinks default_config s [] [] xs p is))

pub records-in-at-end : (s : State) (xs : List ℕ) → next_record default_config s [] [] xs ≡ None → records_in s xs ≡ []
records-in-at-end s xs is = first_record_turn default_config (length xs) s xs
    ∙ ap (records_next (records_from default_config (length xs))) is

-- the records if a read found one
records_with_next_found : (s s2 : State) (xs ys : List ℕ) (fields : List (List ℕ)) (o : Option Read)
    → next_record default_config s [] [] xs ≡ o → NextIs o true fields s2 ys
    → records_in s xs ≡ fields ∷ records_in s2 ys
records_with_next_found s s2 xs ys fields None is h = cc
records_with_next_found s s2 xs ys fields (Some p) is h =
    records-in-with-next-record s xs p is ∙ sym (rw (h.1, h.2, h.3) refl)

records_with_known_next : (s s2 : State) (xs : List ℕ) (after : Option (List ℕ)) (fields : List (List ℕ))
    → ReadsNext default_config s (Some xs) after true fields s2
    → (ys : List ℕ) × (after ≡ Some ys) × (records_in s xs ≡ fields ∷ records_in s2 ys)
records_with_known_next s s2 xs None fields h = absurd h
records_with_known_next s s2 xs (Some ys) fields h = (ys, refl, records_with_next_found s s2 xs ys fields _ refl h)

module _ {R : Type 0} (rem : R → Option (List ℕ)) where
  left-known : (r : Reader R) (s : State) (xs : List ℕ) → reader_state r ≡ s → source_of rem r ≡ Some xs
      → records_left rem r ≡ records_in s xs
  left-known r s xs state source = rw (source, state) refl

  -- the records left after a read that found one
  pub left-more : (old new : Reader R) (fields : List (List ℕ)) (xs : List ℕ) → old.config ≡ default_config
      → source_of rem old ≡ Some xs
      → ReadRecord rem old new true fields
      → ((ys : List ℕ) × (source_of rem new ≡ Some ys)) × (records_left rem old ≡ fields ∷ records_left rem new)
  left-more old new fields xs config source read =
      let got = records_with_known_next old.state new.state xs (pending_of (rem new.rdr) new) fields
      (rw (config, source) at read.0) in
      let after : source_of rem new ≡ Some got.0 = rw read.1 got.1 in (
        (got.0, after),
        left-known old old.state xs refl source ∙ got.2
            ∙ ap (λ rows. fields ∷ rows) (sym (left-known new new.state got.0 refl after)),
      )

  -- no record is left if a read found none
  pub left-end : (old : Reader R) (xs : List ℕ) → source_of rem old ≡ Some xs
      → next_record default_config old.state [] [] xs ≡ None → records_left rem old ≡ []
  left-end old xs source is = left-known old old.state xs refl source ∙ records-in-at-end old.state xs is
