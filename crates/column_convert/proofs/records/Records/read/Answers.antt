use Rattle.std.proofs.Common.{◌∙◌, sym, refl, inl, List, Some, Option, ℕ, Vec, Global}
use Rattle.std.specs.declared.io.impls.Cursor.{Cursor}
use Rattle.std.specs.Io.Cursor.{cursor_remaining}
use Rattle.csv.specs.Records.{fields_of}
use Rattle.csv.proofs.ReadFacts.{rows-end}
use Rattle.column_convert.proofs.RecordReads.{left-more, left-end}
use Rattle.column_convert.proofs.records.Records.read.Goals as goal

-- the bytes that the underlying reader has left
abbrev bytes_of : Cursor (Vec ℕ Global) → Option (List ℕ)
bytes_of = cursor_remaining {T = Vec ℕ Global} (λ v. Some v.items)

pub invariant_of-self-then-found : goal.invariant_of-self-then-found
invariant_of-self-then-found c closed =
    let plain = c.self.invariant closed in
    let read = rw c.if-found.true at (c.in-Ok.ensures.reads plain.trim plain.ready) in
    let more = left-more bytes_of c.self.inside.reader c.read_byte_record.new.self
    (fields_of c.read_byte_record.new.row) plain.has_source.0 plain.config plain.has_source.1 read in
    record {
      config = read.2 ∙ plain.config;
      trim = read.3 ∙ plain.trim;
      flexible = c.in-Ok.ensures.flexible ∙ plain.flexible;
      ready = inl (c.in-Ok.ensures.ready plain.trim);
      has_source = more.0;
    }

pub returns-then-found : goal.returns-then-found
returns-then-found c =
    let plain = c.self.invariant c.if-self.false in
    let read = rw c.if-found.true at (c.in-Ok.ensures.reads plain.trim plain.ready) in
    let more = left-more bytes_of c.self.inside.reader c.read_byte_record.new.self
    (fields_of c.read_byte_record.new.row) plain.has_source.0 plain.config plain.has_source.1 read in
    sym c.self.view_is ∙ rw c.if-self.false more.1

pub returns : goal.returns
returns c =
    let plain = c.self.invariant c.if-self.false in
    let read = rw c.if-found.false at (c.in-Ok.ensures.reads plain.trim plain.ready) in
    let end = left-end bytes_of c.self.inside.reader plain.has_source.0 plain.has_source.1
    (rows-end bytes_of c.self.inside.reader c.read_byte_record.new.self _ _ plain.has_source.0 plain.config
    plain.has_source.1
    read) in
    (sym c.self.view_is ∙ rw c.if-self.false end, refl)
