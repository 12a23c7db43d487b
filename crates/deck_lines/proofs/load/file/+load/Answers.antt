use Rattle.std.proofs.Common.{◌≡◌, ◌∷◌, ◌-◌, [], ap, length, not, sym, subst, ◌∙◌, Ok, Err, Some, refl, reverse, rules}
use Rattle.std.proofs.lemmas.Result.{err_from_is_err_and}
use Rattle.def_lines.specs.Lines.{nonblank_lines}
use Rattle.deck_lines.specs.Includes.{included_name}
use Rattle.deck_lines.specs.LineLoads.{excerpt_in, load_above, load_below, load_of_line, load_of_rest}
use Rattle.deck_lines.specs.Loads.{LeadsBetweenBlocks, block_endings}
use Rattle.deck_lines.specs.Marks.{plain_store_line}
use Rattle.deck_lines.specs.Readings.{Defines, Faulty, Includes, Stands, store_line_reading_of}
use Rattle.deck_lines.specs.Transcripts.{IsPartLoad, IsPartTranscript}
use Rattle.deck_lines.specs.Views.{seen_store_line_reading}
use Rattle.deck_lines.specs.declared.draft.LoadFault.TheVariants.{OutOfMemory}
use Rattle.deck_lines.proofs.DraftAppends.{leads_to_blocks_trans, store_with_lines-nil}
use Rattle.deck_lines.proofs.LoadParts.{failed_load_leads_to_blocks, file_end_leads_to_blocks, include_leads_to_blocks}
use Rattle.deck_lines.proofs.LoadParts.{include_line_has_no_block_role}
use Rattle.deck_lines.proofs.LoadParts.{line_load_leads_to_blocks, load_takes_first_line, load_takes_no_line}
use Rattle.deck_lines.proofs.LoadParts.{plain_include_leads_to_blocks, refused_include_leads_to_blocks}
use Rattle.deck_lines.proofs.LoadTranscripts.{absent_loads, alone_loads, deep_loads, failed_ends}
use Rattle.deck_lines.proofs.LoadTranscripts.{load_continues_at_once, file_ends, full_ends, line_ends, line_fails}
use Rattle.deck_lines.proofs.LoadTranscripts.{line_leads_on, long_loads, read_loads}
use Rattle.deck_lines.proofs.load.file.+load.Goals as goal

pub load_file-loop-blocks-init : goal.load_file-loop-blocks-init
load_file-loop-blocks-init g t c = record {
  kept = refl;
  stores = refl;
  counted = refl;
  leads = record {
    lines = [];
    lines_put = sym (store_with_lines-nil c.args.draft.now.store);
    blocks_lead = ap (λ blocks. Some (block_endings (reverse blocks))) (sym c.new-blocks.ensures.items);
  };
  continues =
      load_continues_at_once
      (IsPartTranscript (g.F.Files.files c.args.files.now) g.F.Files.is_fetch c.args.files.now c.args.files.now)
      (load_above c.args.depth c.args.name.now c.args.bytes.now (excerpt_in c.args.draft.now))
      (load_of_rest (λ word. load_below c.args.depth c.args.name.now (included_name c.args.name.now word))
      c.args.name.now (reverse c.new-blocks.result.items) (nonblank_lines c.new-lines.result)
      (excerpt_in c.args.draft.now))
      (tt, refl)
      (λ fetches.
      ap (λ lines. load_of_rest (λ word. load_below c.args.depth c.args.name.now (included_name c.args.name.now word))
      c.args.name.now [] (nonblank_lines lines) (excerpt_in c.args.draft.now) fetches) (sym c.new-lines.ensures)
      ∙ ap (λ blocks. load_of_rest
      (λ word. load_below c.args.depth c.args.name.now (included_name c.args.name.now word))
      c.args.name.now (reverse blocks) (nonblank_lines c.new-lines.result) (excerpt_in c.args.draft.now) fetches)
      (sym c.new-blocks.ensures.items));
}

pub load_file-loop-blocks-preserved : goal.load_file-loop-blocks-preserved
load_file-loop-blocks-preserved g t c =
    let taken : nonblank_lines c.loop-blocks.lines ≡ c.in_ok-line-2.line ∷ nonblank_lines c.take_shown.new.self =
    load_takes_first_line _ _ _ _ _ c.in_ok-line.ensures.ok c.in-Some.is c.in_ok-line-2.ensures in
    let here : LeadsBetweenBlocks (block_endings (reverse c.loop-blocks.blocks.items))
    (block_endings (reverse c.load_line.new.blocks.items))
    c.loop-blocks.draft.store c.load_line.new.draft.store (Ok tt) =
    subst (λ bs. LeadsBetweenBlocks (block_endings (reverse c.loop-blocks.blocks.items)) (block_endings bs)
    c.loop-blocks.draft.store
    c.load_line.new.draft.store (Ok tt)) (sym c.in_ok-load_line.ensures.blocks) c.in_ok-load_line.ensures.leads in
    record {
      kept = c.in_ok-load_line.ensures.kept ∙ c.loop-blocks.invariant.kept;
      stores = c.in_ok-load_line.ensures.stores ∙ c.loop-blocks.invariant.stores;
      counted = c.in_ok-load_line.ensures.counted ∙ c.loop-blocks.invariant.counted;
      leads = leads_to_blocks_trans [] (block_endings (reverse c.loop-blocks.blocks.items))
          (block_endings (reverse c.load_line.new.blocks.items)) c.args.draft.now.store c.loop-blocks.draft.store
          c.load_line.new.draft.store tt (Ok tt) c.loop-blocks.invariant.leads here;
      continues =
          line_leads_on (g.F.Files.files c.args.files.now) g.F.Files.is_fetch
          c.args.files.now c.loop-blocks.files
          (λ word. load_below c.args.depth c.args.name.now (included_name c.args.name.now word)) c.args.name.now
          (reverse c.loop-blocks.blocks.items)
          (load_above c.args.depth c.args.name.now c.args.bytes.now (excerpt_in c.args.draft.now)) c.loop-blocks.draft
          (nonblank_lines c.loop-blocks.lines) c.loop-blocks.invariant.continues
          (nonblank_lines c.take_shown.new.self) c.in_ok-line-2.line taken c.load_line.new.files c.load_line.new.draft
          (reverse c.load_line.new.blocks.items)
          c.in_ok-load_line.ensures.blocks
          (subst (λ files. IsPartLoad {T = Unit {0}} OutOfMemory
          (IsPartTranscript files g.F.Files.is_fetch c.loop-blocks.files c.load_line.new.files)
          (load_of_line (λ word. load_below c.args.depth c.args.name.now (included_name c.args.name.now word))
          c.args.name.now (reverse c.loop-blocks.blocks.items) c.in_ok-line-2.line
          (store_line_reading_of c.in_ok-line-2.line.text) (excerpt_in c.loop-blocks.draft))
          (λ _. excerpt_in c.load_line.new.draft) (Ok tt)) c.loop-blocks.invariant.kept
          c.in_ok-load_line.ensures.loads);
    }

pub load_file-returns-in_err-load_line-clause-leads : goal.load_file-returns-in_err-load_line-clause-leads
load_file-returns-in_err-load_line-clause-leads g t c =
    let p = err_from_is_err_and c.from_residual-in_err-load_line.result c.from_residual-in_err-load_line.ensures.1 in
    rw (p.1, p.2) (leads_to_blocks_trans [] (block_endings (reverse c.loop-blocks.blocks.items)) []
    c.args.draft.now.store
    c.loop-blocks.draft.store c.load_line.new.draft.store tt (Err c.in_err-load_line.field-0.0)
    c.loop-blocks.invariant.leads
    (failed_load_leads_to_blocks (block_endings (reverse c.loop-blocks.blocks.items)) _ [] _ _ _
    c.in_err-load_line.ensures.leads))

pub load_file-returns-clause-leads : goal.load_file-returns-clause-leads
load_file-returns-clause-leads g t c =
    file_end_leads_to_blocks c.args.name.now (reverse c.loop-blocks.blocks.items) c.args.draft.now.store
    c.loop-blocks.draft
    c.push_file_end.new.draft c.push_file_end.result c.loop-blocks.invariant.leads c.push_file_end.ensures.put
    c.push_file_end.ensures.extends

pub load_include-returns-then-depth-eq0-clause-leads : goal.load_include-returns-then-depth-eq0-clause-leads
load_include-returns-then-depth-eq0-clause-leads g t c =
    refused_include_leads_to_blocks c.args.name.now c.args.line _ c.args.draft.now c.put_unread.new.draft
    c.put_unread.result
    c.put_unread.ensures.put c.put_unread.ensures.err

pub load_include-returns-in_ok-push_line-in-Ok-clause-leads
    : goal.load_include-returns-in_ok-push_line-in-Ok-clause-leads
load_include-returns-in_ok-push_line-in-Ok-clause-leads g t c =
    plain_include_leads_to_blocks c.args.line c.args.draft.now c.push_line.new.self c.load_file.new.draft.store
    c.load_file.result
    c.requires.role c.in_ok-push_line-in-Ok.ensures.put c.load_file.ensures.leads

pub load_include-returns-in-Err-Absent-clause-leads : goal.load_include-returns-in-Err-Absent-clause-leads
load_include-returns-in-Err-Absent-clause-leads g t c =
    refused_include_leads_to_blocks c.args.name.now c.args.line _ c.args.draft.now c.put_unread-in-Err-Absent.new.draft
    c.put_unread-in-Err-Absent.result c.put_unread-in-Err-Absent.ensures.put
    c.put_unread-in-Err-Absent.ensures.err

pub load_include-returns-in-Err-TooLong-clause-leads : goal.load_include-returns-in-Err-TooLong-clause-leads
load_include-returns-in-Err-TooLong-clause-leads g t c =
    refused_include_leads_to_blocks c.args.name.now c.args.line _ c.args.draft.now c.put_unread-in-Err-TooLong.new.draft
    c.put_unread-in-Err-TooLong.result c.put_unread-in-Err-TooLong.ensures.put
    c.put_unread-in-Err-TooLong.ensures.err

pub load_line-load_include-requires : goal.load_line-load_include-requires
load_line-load_include-requires g t c = λ κs h. (
  search rules,
  (
    (λ a mem. search rules),
    (
      include_line_has_no_block_role c.args.line.text c.in-Includes.word.now
          (ap (seen_store_line_reading c.as_bytes.result.now) (sym c.in-Includes.is) ∙ c.in_ok-role.ensures.means
          ∙ ap store_line_reading_of c.as_bytes.ensures),
      search
          rules,
    ),
  ),
)

pub load_line-returns-in-Stands-clause-leads : goal.load_line-returns-in-Stands-clause-leads
load_line-returns-in-Stands-clause-leads g t c =
    line_load_leads_to_blocks c.args.name.now (reverse c.args.blocks.now.items) c.args.line (Stands c.in-Stands.role)
    c.args.draft.now
    c.push_role_line.new.draft c.push_role_line.result
    (ap (seen_store_line_reading c.as_bytes.result.now) (sym c.in-Stands.is) ∙ c.in_ok-role.ensures.means
    ∙ ap store_line_reading_of c.as_bytes.ensures)
    c.push_role_line.ensures.put c.push_role_line.ensures.err

pub load_line-returns-in-Defines-clause-leads : goal.load_line-returns-in-Defines-clause-leads
load_line-returns-in-Defines-clause-leads g t c =
    line_load_leads_to_blocks c.args.name.now (reverse c.args.blocks.now.items) c.args.line (Defines _) c.args.draft.now
    c.push_line.new.self c.push_line.result
    (ap (seen_store_line_reading c.as_bytes.result.now) (sym c.in-Defines.is) ∙ c.in_ok-role.ensures.means
    ∙ ap store_line_reading_of c.as_bytes.ensures)
    c.push_line.ensures.put c.push_line.ensures.err

pub load_line-returns-in_ok-file-in-Includes-clause-leads : goal.load_line-returns-in_ok-file-in-Includes-clause-leads
load_line-returns-in_ok-file-in-Includes-clause-leads g t c =
    include_leads_to_blocks (reverse c.args.blocks.now.items) c.args.line c.in-Includes.word.now c.args.draft.now.store
    c.load_include.new.draft.store c.load_include.result
    (ap (seen_store_line_reading c.as_bytes.result.now) (sym c.in-Includes.is) ∙ c.in_ok-role.ensures.means
    ∙ ap store_line_reading_of c.as_bytes.ensures)
    c.load_include.ensures.leads

pub load_line-returns-in-Faulty-clause-leads : goal.load_line-returns-in-Faulty-clause-leads
load_line-returns-in-Faulty-clause-leads g t c =
    line_load_leads_to_blocks c.args.name.now (reverse c.args.blocks.now.items) c.args.line
    (Faulty c.as_bytes-in-Faulty.result.now)
    c.args.draft.now c.refuse_line.new.self c.refuse_line.result
    (ap Faulty c.as_bytes-in-Faulty.ensures ∙ ap (seen_store_line_reading c.as_bytes.result.now) (sym c.in-Faulty.is)
    ∙ c.in_ok-role.ensures.means
    ∙ ap store_line_reading_of c.as_bytes.ensures) c.refuse_line.ensures.put c.refuse_line.ensures.err

pub load_file-returns-in_err-load_line-clause-loads : goal.load_file-returns-in_err-load_line-clause-loads
load_file-returns-in_err-load_line-clause-loads g t c =
    let p = err_from_is_err_and c.from_residual-in_err-load_line.result c.from_residual-in_err-load_line.ensures.1 in
    let taken : nonblank_lines c.loop-blocks.lines ≡ c.in_ok-line-2.line ∷ nonblank_lines c.take_shown.new.self =
    load_takes_first_line _ _ _ _ _ c.in_ok-line.ensures.ok c.in-Some.is c.in_ok-line-2.ensures in
    rw (p.1, p.2) (line_ends (g.F.Files.files c.args.files.now) g.F.Files.is_fetch c.args.files.now
    c.loop-blocks.files
    (λ word. load_below c.args.depth c.args.name.now (included_name c.args.name.now word)) c.args.name.now
    (reverse c.loop-blocks.blocks.items)
    (load_above c.args.depth c.args.name.now c.args.bytes.now (excerpt_in c.args.draft.now)) c.loop-blocks.draft
    (nonblank_lines c.loop-blocks.lines) c.loop-blocks.invariant.continues
    (nonblank_lines c.take_shown.new.self) c.in_ok-line-2.line taken c.load_line.new.files c.load_line.new.draft
    c.load_line.new.draft c.in_err-load_line.field-0.0
    (subst (λ files. IsPartLoad {T = Unit {0}} OutOfMemory
    (IsPartTranscript files g.F.Files.is_fetch c.loop-blocks.files c.load_line.new.files)
    (load_of_line (λ word. load_below c.args.depth c.args.name.now (included_name c.args.name.now word))
    c.args.name.now (reverse c.loop-blocks.blocks.items) c.in_ok-line-2.line
    (store_line_reading_of c.in_ok-line-2.line.text) (excerpt_in c.loop-blocks.draft))
    (λ _. excerpt_in c.load_line.new.draft) (Err c.in_err-load_line.field-0.0)) c.loop-blocks.invariant.kept
    c.in_err-load_line.ensures.loads))

pub load_file-returns-clause-loads : goal.load_file-returns-clause-loads
load_file-returns-clause-loads g t c =
    file_ends (g.F.Files.files c.args.files.now) g.F.Files.is_fetch c.args.files.now c.loop-blocks.files
    (λ word. load_below c.args.depth c.args.name.now (included_name c.args.name.now word)) c.args.name.now
    (reverse c.loop-blocks.blocks.items)
    (load_above c.args.depth c.args.name.now c.args.bytes.now (excerpt_in c.args.draft.now)) c.loop-blocks.draft
    (nonblank_lines c.loop-blocks.lines) c.loop-blocks.invariant.continues c.push_file_end.new.draft
    c.push_file_end.result (load_takes_no_line _ _ _ c.in_ok-line.ensures.ok c.in_default.is)
    c.push_file_end.ensures.put

pub load_include-returns-then-depth-eq0-clause-loads : goal.load_include-returns-then-depth-eq0-clause-loads
load_include-returns-then-depth-eq0-clause-loads g t c =
    rw (← c.as_bytes-file.ensures)
    (deep_loads (g.F.Files.files c.args.files.now) g.F.Files.is_fetch c.args.files.now c.args.depth c.args.name.now
    c.as_bytes-file.result.now
    c.args.line c.args.draft.now c.put_unread.new.draft c.put_unread.result
    c.if-depth-eq0.true c.put_unread.ensures.put)

pub load_include-returns-then-not-has_room-clause-loads : goal.load_include-returns-then-not-has_room-clause-loads
load_include-returns-then-not-has_room-clause-loads g t c =
    full_ends (g.F.Files.files c.args.files.now) g.F.Files.is_fetch c.args.files.now c.args.depth c.args.name.now
    c.args.file c.args.line
    c.if-depth-eq0.false c.args.draft.now c.args.draft.now
    (c.has_room.ensures (plain_store_line c.args.line.number c.args.line.text) (sym (ap length c.as_bytes.ensures))
    ∙ ap not c.if-not-has_room.true)

pub load_include-returns-in_err-push_line-in-Ok-clause-loads
    : goal.load_include-returns-in_err-push_line-in-Ok-clause-loads
load_include-returns-in_err-push_line-in-Ok-clause-loads g t c =
    let p = err_from_is_err_and c.from_residual.result c.from_residual.ensures.1 in
    rw (p.1, p.2, ← c.as_bytes-file.ensures)
    (line_fails (g.F.Files.files c.args.files.now) g.F.Files.is_fetch c.args.files.now c.args.depth c.args.name.now
    c.as_bytes-file.result.now c.args.line
    c.if-depth-eq0.false c.args.draft.now c.fetch.new.self c.push_line.new.self
    (c.has_room.ensures (plain_store_line c.args.line.number c.args.line.text) (sym (ap length c.as_bytes.ensures))
    ∙ ap not c.if-not-has_room.false)
    c.push_line.new.self c.in-Ok.text c.in_err-push_line-in-Ok.field-0.0 c.in-Ok.ensures.if_known
    c.in-Ok.ensures.fetched
    c.in_err-push_line-in-Ok.ensures.put)

pub load_include-returns-in_ok-push_line-in-Ok-clause-loads
    : goal.load_include-returns-in_ok-push_line-in-Ok-clause-loads
load_include-returns-in_ok-push_line-in-Ok-clause-loads g t c =
    rw (← c.as_bytes-file.ensures)
    (read_loads (g.F.Files.files c.args.files.now) g.F.Files.is_fetch c.args.files.now c.args.depth c.args.name.now
    c.as_bytes-file.result.now
    c.args.line c.if-depth-eq0.false c.args.draft.now c.fetch.new.self c.load_file.new.draft
    (c.has_room.ensures (plain_store_line c.args.line.number c.args.line.text) (sym (ap length c.as_bytes.ensures))
    ∙ ap not c.if-not-has_room.false)
    c.load_file.new.files c.push_line.new.self c.in-Ok.text c.load_file.result c.in-Ok.ensures.if_known
    c.in-Ok.ensures.fetched c.in_ok-push_line-in-Ok.ensures.put
    (subst (λ files. IsPartLoad OutOfMemory
    (IsPartTranscript files g.F.Files.is_fetch c.fetch.new.self c.load_file.new.files)
    (load_above (c.args.depth - 1) c.as_bytes-file.result.now c.in-Ok.text (excerpt_in c.push_line.new.self))
    (λ _. excerpt_in c.load_file.new.draft) c.load_file.result) c.fetch.ensures.kept
    (subst (λ bytes. IsPartLoad OutOfMemory
    (IsPartTranscript (g.F.Files.files c.fetch.new.self) g.F.Files.is_fetch c.fetch.new.self c.load_file.new.files)
    (load_above (c.args.depth - 1) c.as_bytes-file.result.now bytes (excerpt_in c.push_line.new.self))
    (λ _. excerpt_in c.load_file.new.draft) c.load_file.result) c.as_bytes-in-Ok.ensures c.load_file.ensures.loads)))

pub load_include-returns-in-Err-Absent-clause-loads : goal.load_include-returns-in-Err-Absent-clause-loads
load_include-returns-in-Err-Absent-clause-loads g t c =
    rw (← c.as_bytes-file.ensures)
    (absent_loads (g.F.Files.files c.args.files.now) g.F.Files.is_fetch c.args.files.now c.args.depth c.args.name.now
    c.as_bytes-file.result.now
    c.args.line c.if-depth-eq0.false c.args.draft.now c.fetch.new.self c.put_unread-in-Err-Absent.new.draft
    (c.has_room.ensures (plain_store_line c.args.line.number c.args.line.text) (sym (ap length c.as_bytes.ensures))
    ∙ ap not c.if-not-has_room.false)
    c.put_unread-in-Err-Absent.result (rw c.in-Err-Absent.field-0-is at c.in-Err-Absent.ensures.if_known)
    (rw c.in-Err-Absent.field-0-is at c.in-Err-Absent.ensures.fetched)
    c.put_unread-in-Err-Absent.ensures.put)

pub load_include-returns-in-Err-TooLong-clause-loads : goal.load_include-returns-in-Err-TooLong-clause-loads
load_include-returns-in-Err-TooLong-clause-loads g t c =
    rw (← c.as_bytes-file.ensures)
    (long_loads (g.F.Files.files c.args.files.now) g.F.Files.is_fetch c.args.files.now c.args.depth c.args.name.now
    c.as_bytes-file.result.now
    c.args.line c.if-depth-eq0.false c.args.draft.now c.fetch.new.self c.put_unread-in-Err-TooLong.new.draft
    (c.has_room.ensures (plain_store_line c.args.line.number c.args.line.text) (sym (ap length c.as_bytes.ensures))
    ∙ ap not c.if-not-has_room.false)
    c.put_unread-in-Err-TooLong.result (rw c.in-Err-TooLong.field-0-is at c.in-Err-TooLong.ensures.if_known)
    (rw c.in-Err-TooLong.field-0-is at c.in-Err-TooLong.ensures.fetched)
    c.put_unread-in-Err-TooLong.ensures.put)

pub load_include-returns-in-Err-Failed-clause-loads : goal.load_include-returns-in-Err-Failed-clause-loads
load_include-returns-in-Err-Failed-clause-loads g t c =
    rw (← c.as_bytes-file.ensures)
    (failed_ends (g.F.Files.files c.args.files.now) g.F.Files.is_fetch c.args.files.now c.args.depth c.args.name.now
    c.as_bytes-file.result.now c.args.line c.if-depth-eq0.false c.args.draft.now c.fetch.new.self c.args.draft.now
    (c.has_room.ensures (plain_store_line c.args.line.number c.args.line.text) (sym (ap length c.as_bytes.ensures))
    ∙ ap not c.if-not-has_room.false)
    (rw c.in-Err-Failed.field-0-is at c.in-Err-Failed.ensures.if_known)
    (rw c.in-Err-Failed.field-0-is at c.in-Err-Failed.ensures.fetched))

pub load_line-returns-in-Stands-clause-loads : goal.load_line-returns-in-Stands-clause-loads
load_line-returns-in-Stands-clause-loads g t c =
    alone_loads
    (IsPartTranscript (g.F.Files.files c.args.files.now) g.F.Files.is_fetch c.args.files.now c.args.files.now)
    (λ word. load_below c.args.depth c.args.name.now (included_name c.args.name.now word)) c.args.name.now
    (reverse c.args.blocks.now.items) c.args.line (Stands c.in-Stands.role) c.args.draft.now
    c.push_role_line.new.draft c.push_role_line.result (tt, refl) tt
    (ap (seen_store_line_reading c.as_bytes.result.now) (sym c.in-Stands.is) ∙ c.in_ok-role.ensures.means
    ∙ ap store_line_reading_of c.as_bytes.ensures) c.push_role_line.ensures.put

pub load_line-returns-in-Defines-clause-loads : goal.load_line-returns-in-Defines-clause-loads
load_line-returns-in-Defines-clause-loads g t c =
    alone_loads
    (IsPartTranscript (g.F.Files.files c.args.files.now) g.F.Files.is_fetch c.args.files.now c.args.files.now)
    (λ word. load_below c.args.depth c.args.name.now (included_name c.args.name.now word)) c.args.name.now
    (reverse c.args.blocks.now.items) c.args.line (Defines _) c.args.draft.now c.push_line.new.self
    c.push_line.result (tt, refl) tt
    (ap (seen_store_line_reading c.as_bytes.result.now) (sym c.in-Defines.is) ∙ c.in_ok-role.ensures.means
    ∙ ap store_line_reading_of c.as_bytes.ensures) c.push_line.ensures.put

pub load_line-returns-in_ok-file-in-Includes-clause-loads : goal.load_line-returns-in_ok-file-in-Includes-clause-loads
load_line-returns-in_ok-file-in-Includes-clause-loads g t c =
    let means : Includes c.in-Includes.word.now ≡ store_line_reading_of c.args.line.text =
    ap (seen_store_line_reading c.as_bytes.result.now) (sym c.in-Includes.is)
    ∙ c.in_ok-role.ensures.means ∙ ap store_line_reading_of c.as_bytes.ensures in
    subst (λ reading. IsPartLoad OutOfMemory
    (IsPartTranscript (g.F.Files.files c.args.files.now) g.F.Files.is_fetch c.args.files.now c.load_include.new.files)
    (load_of_line (λ word. load_below c.args.depth c.args.name.now (included_name c.args.name.now word))
    c.args.name.now (reverse c.args.blocks.now.items) c.args.line reading (excerpt_in c.args.draft.now))
    (λ _. excerpt_in c.load_include.new.draft) c.load_include.result) means
    (subst (λ file. IsPartLoad OutOfMemory
    (IsPartTranscript (g.F.Files.files c.args.files.now) g.F.Files.is_fetch c.args.files.now c.load_include.new.files)
    (load_below c.args.depth c.args.name.now file c.args.line (excerpt_in c.args.draft.now))
    (λ _. excerpt_in c.load_include.new.draft) c.load_include.result) c.in_ok-file-in-Includes.ensures
    c.load_include.ensures.loads)

pub load_line-returns-in-Faulty-clause-loads : goal.load_line-returns-in-Faulty-clause-loads
load_line-returns-in-Faulty-clause-loads g t c =
    alone_loads
    (IsPartTranscript (g.F.Files.files c.args.files.now) g.F.Files.is_fetch c.args.files.now c.args.files.now)
    (λ word. load_below c.args.depth c.args.name.now (included_name c.args.name.now word)) c.args.name.now
    (reverse c.args.blocks.now.items) c.args.line (Faulty c.as_bytes-in-Faulty.result.now) c.args.draft.now
    c.refuse_line.new.self c.refuse_line.result (tt, refl) tt
    (ap Faulty c.as_bytes-in-Faulty.ensures ∙ ap (seen_store_line_reading c.as_bytes.result.now) (sym c.in-Faulty.is)
    ∙ c.in_ok-role.ensures.means ∙ ap store_line_reading_of c.as_bytes.ensures) c.refuse_line.ensures.put
