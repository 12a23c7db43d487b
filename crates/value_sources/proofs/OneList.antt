-- Mentions have one list of rows.
use Rattle.std.proofs.Common.{◌≡◌, ◌++◌, ◌+◌, true≢false, List, [], ◌∷◌, refl, sym, ap, ◌∙◌, subst}
use Rattle.std.proofs.lemmas.Option.{same_Some}
use Rattle.def_entry.specs.declared.key.Key.{Key}
use Rattle.def_entry.specs.Tables.{EntryTable}
use Rattle.value_sources.specs.Uses.{key_source_uses}
use Rattle.value_sources.specs.Mentions.{Mention, mentions}
use Rattle.value_sources.specs.Rows.{AreSourceRows, Finished, Visited, Skipped, SourceRow, is_key_visit_skipped}
use Rattle.value_sources.specs.Rows.{visited_source_row, skipped_source_row}

module _ (table : EntryTable) where
  pub rows_unique : {before : List Key} {pending : List Mention} {rows others : List SourceRow}
      → AreSourceRows table before pending rows
      → AreSourceRows table before pending others → rows ≡ others
  rows_unique Finished Finished = refl
  rows_unique (Skipped {m = m} p rest) (Skipped q more) = ap (λ (rows : List SourceRow). skipped_source_row m ∷ rows)
      (rows_unique rest more)
  rows_unique (Skipped {before = before} p rest) (Visited e new more) =
      absurd (true≢false (sym p ∙ ap (is_key_visit_skipped before) e ∙ new))
  rows_unique (Visited {before = before} e new rest) (Skipped q more) =
      absurd (true≢false (sym q ∙ ap (is_key_visit_skipped before) e ∙ new))
  rows_unique (Visited {before = before} {m = m} {n = k} {pending = pending} {rows = rows} e new rest)
      (Visited {n = j} {rows = others} g fresh more) =
      ap (λ (rows : List SourceRow). visited_source_row m ∷ rows)
      (rows_unique rest (subst (λ (x : Key). AreSourceRows table (before ++ x ∷ [])
      (mentions table (m.depth + 1) (key_source_uses table x) ++ pending) others) (same_Some j k (sym g ∙ e)) more))
