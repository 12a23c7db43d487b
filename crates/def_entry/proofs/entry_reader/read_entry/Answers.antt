use Rattle.std.proofs.Common.{◌≡◌, ◌⊎◌, inl, inr, subst, true, List, ℕ, Result, Ok, Err, MatchResult}
use Rattle.def_lines.specs.Kinds.{kind_of_line}
use Rattle.def_entry.specs.declared.entry.What.{What as MadeWhat}
use Rattle.def_entry.specs.declared.fault.EntryFault.{EntryFault}
use Rattle.def_entry.specs.declared.fault.EntryFault.TheVariants.{OutOfMemory}
use Rattle.def_entry.specs.declared.key.Key.{Key}
use Rattle.def_entry.specs.EntryGrammar.{HasEntryFault, IsEntry}
use Rattle.def_entry.specs.Headings.{Heading}
use Rattle.def_entry.specs.Outcomes.{GivesEntry}
use Rattle.def_entry.specs.EntryReading.{entry_by_heading, entry_of, has_entry}
use Rattle.def_entry.specs.LineViews.{seen_entry}
use Rattle.def_entry.specs.Views.{entry_definition_view, entry_with_definition}
use Rattle.def_entry.proofs.WrittenEntries.{entries_are_as_written}
use Rattle.def_entry.proofs.entry_reader.read_entry.Goals as goal

-- the computed entry is the one that is written
as_written : (line : List ℕ) (r : Result (Key × MadeWhat) EntryFault) → has_entry (kind_of_line line) ≡ true
    → GivesEntry (seen_entry line) r (entry_of line)
    → MatchResult r (λ made. IsEntry line made.0 (entry_with_definition line made.1))
    (λ fault. (fault ≡ OutOfMemory) ⊎ HasEntryFault line fault)
as_written line (Ok made) entry given =
    ((entries_are_as_written line entry).0 made.0 (entry_with_definition line made.1)).0 given
as_written line (Err fault) entry (inl memory) = inl memory
as_written line (Err fault) entry (inr said) = inr (((entries_are_as_written line entry).1 fault).0 said)

pub returns : goal.returns
returns c =
    let given : GivesEntry (seen_entry c.args.line.now) c.entry_behind.result (entry_of c.args.line.now) =
    subst (λ (h : Heading). GivesEntry (λ made. (made.0, record { text = h.text; what = entry_definition_view made.1 }))
    c.entry_behind.result (entry_by_heading h)) c.heading_in.ensures c.entry_behind.ensures in
    record { exact = as_written c.args.line.now c.entry_behind.result c.requires given; computed = given }
