-- The meaning of an entry follows from its key and its text.
use Rattle.std.proofs.Common.{◌≡◌, ℕ, List, Result, Ok, Err, refl, sym, ap, ◌∙◌}
use Rattle.units_io.specs.Outcomes.{◌>>=◌}
use Rattle.def_entry.specs.declared.fault.EntryFault.{EntryFault}
use Rattle.def_entry.specs.declared.key.Key.{Key}
use Rattle.def_entry.specs.Entries.{Entry, What}
use Rattle.def_entry.specs.Headings.{Heading, heading_of_line}
use Rattle.def_entry.specs.Keys.{key}
use Rattle.def_entry.specs.EntryReading.{EntryTextLaw, SameEntryTextLaw, entry_by_heading, what_of}

-- the value of a result, or another value
abbrev value_or : {A : Type 0} → A → Result A EntryFault → A
value_or x (Ok y) = y
value_or x (Err fault) = x

-- the heading of a key and a text
abbrev heading_by : Key → List ℕ → Heading
heading_by k text = record { kind = k.kind; name = k.name; text = text }

-- the key and the entry of a heading with this meaning
abbrev entry_with : Heading → What → Result (Key × Entry) EntryFault
entry_with h what = Ok (key h.kind h.name, record { text = h.text; what = what })

-- the definition that a line gives to its key is the one that its text gives
entry_text_gives_definition : (h : Heading) (k : Key) (e : Entry) → entry_by_heading h ≡ Ok (k, e)
    → what_of (heading_by k e.text) ≡ Ok e.what
entry_text_gives_definition h k e is = go (what_of h) refl is
  where
    go : (w : Result What EntryFault) → what_of h ≡ w → (w >>= entry_with h) ≡ Ok (k, e)
        → what_of (heading_by k e.text) ≡ Ok e.what
    go (Ok what) said is =
        let made : Key × Entry = (key h.kind h.name, record { text = h.text; what = what }) in
        let same : made ≡ (k, e) = ap (value_or made) is in
        ap (λ (p : Key × Entry). what_of (heading_by p.0 p.1.text)) (sym same) ∙ said
        ∙ ap (λ (p : Key × Entry). Ok p.1.what) same
    go (Err fault) said is = cc

-- the law of the text of an entry
pub entry_text_is_after_name : EntryTextLaw
entry_text_is_after_name line k e is = go (what_of (heading_of_line line)) is
  where
    go : (w : Result What EntryFault) → (w >>= entry_with (heading_of_line line)) ≡ Ok (k, e)
        → e.text ≡ (heading_of_line line).text
    go (Ok what) said = ap (λ (r : Result (Key × Entry) EntryFault). (value_or (k, e) r).1.text) (sym said)
    go (Err fault) said = cc

-- the law of equal texts
pub same_entry_text : SameEntryTextLaw
same_entry_text k line other e f first second = (
  (λ same. ap (λ (x : Entry). x.text) same),
  (λ same.
      let what : e.what ≡ f.what =
      ap (value_or e.what)
      (sym (entry_text_gives_definition (heading_of_line line) k e first) ∙ ap (λ t. what_of (heading_by k t)) same
      ∙ entry_text_gives_definition (heading_of_line other) k f second) in
      (λ i. record { text = same i; what = what i })),
)
