-- The blocks found by going back from a line are those of the lines that enclose it.
use Rattle.std.proofs.Common.{◌≡◌, ℕ, zero, suc, List, [], ◌∷◌, ◌++◌, Bool, true, false, not, cond, Option, Some, None}
use Rattle.std.proofs.Common.{is_some, refl, sym, ap, subst}
use Rattle.std.specs.List.{list_all}
use Rattle.std.proofs.lemmas.Bool.{and_from, not-true, not_from_false, and_parts}
use Rattle.units_io.specs.NamedValues.{NamedTexts}
use Rattle.def_lines.specs.Kinds as line
use Rattle.def_lines.specs.Kinds.{LineKindWithArguments, kind_of_line}
use Rattle.deck_lines.specs.declared.line.DeckLine.{DeckLine}
use Rattle.deck.specs.declared.settings.Settings.{Settings}
use Rattle.deck.specs.EnclosingBlocks.{EnclosingLaw, Encloses, enclosing_block_begun, enclosing_blocks}
use Rattle.deck.specs.EnclosingBlocks.{ends_enclosing_block, is_active_after, enclosing_blocks_with_line}
use Rattle.deck.specs.EnclosingBlocks.{begins_enclosing_block, enclosing_skips_before, enclosing_skips_before_all}
use Rattle.deck.specs.EnclosingBlocks.{vars_after}
use Rattle.deck.proofs.EnclosingBlocks.{active_line_by_lines_before}

-- ---- conjunctions

abbrev AllHold : List Bool → Type 0
AllHold blocks = list_all (λ holds. holds) blocks ≡ true

-- ---- one line back
module _ (blocks : ℕ → List Bool) where
  -- if all blocks found with this line hold, so do those found before it
  hold_before : (mark : Bool) (o : Option Bool) (ends : Bool) (k : ℕ)
      → AllHold (cond mark (blocks k) (enclosing_blocks_with_line o ends blocks k))
      → AllHold (blocks (cond mark k (enclosing_skips_before (is_some o) ends k)))
  hold_before true o ends k h = h
  hold_before false (Some b) ends zero h = (and_parts b (list_all (λ holds. holds) (blocks 0)) h).1
  hold_before false (Some b) ends (suc k) h = h
  hold_before false None true k h = h
  hold_before false None false k h = h

  -- if all blocks found before this line hold, and its own block holds or is skipped, so do those found with it
  hold_with : (mark : Bool) (o : Option Bool) (ends : Bool) (k : ℕ)
      → AllHold (blocks (cond mark k (enclosing_skips_before (is_some o) ends k)))
      → (mark ≡ false → (b : Bool) → o ≡ Some b → k ≡ 0 → b ≡ true)
      → AllHold (cond mark (blocks k) (enclosing_blocks_with_line o ends blocks k))
  hold_with true o ends k h own = h
  hold_with false (Some b) ends zero h own =
      and_from b (list_all (λ holds. holds) (blocks 0)) (own refl b refl refl) h
  hold_with false (Some b) ends (suc k) h own = h
  hold_with false None true k h own = h
  hold_with false None false k h own = h

  -- if all blocks found with this line hold, so does the block that it begins
  own_holds : (o : Option Bool) (ends b mark : Bool) → mark ≡ false → o ≡ Some b
      → AllHold (cond mark (blocks 0) (enclosing_blocks_with_line o ends blocks 0)) → b ≡ true
  own_holds (Some c) ends b false u e h =
      let q : c ≡ b = some_same c b e in
      subst (λ (x : Bool). x ≡ true) q (and_parts c (list_all (λ holds. holds) (blocks 0)) h).0
    where
      some_same : (x y : Bool) → Some x ≡ Some y → x ≡ y
      some_same x y f = cc
  own_holds (Some c) ends b true u e h = cc
  own_holds None ends b mark u e h = cc

-- whether a kind begins a block does not depend on the locale and the variables
enclosing_block_begins_by_kind : (locale : List ℕ) (vars : NamedTexts) (k : LineKindWithArguments)
    → is_some (enclosing_block_begun locale vars k) ≡ begins_enclosing_block k
enclosing_block_begins_by_kind locale vars (line.Locale l) = refl
enclosing_block_begins_by_kind locale vars (line.Var name values) = refl
enclosing_block_begins_by_kind locale vars (line.VarNot name values) = refl
enclosing_block_begins_by_kind locale vars line.Utf8 = refl
enclosing_block_begins_by_kind locale vars line.EndLocale = refl
enclosing_block_begins_by_kind locale vars line.EndVar = refl
enclosing_block_begins_by_kind locale vars line.EndUtf8 = refl
enclosing_block_begins_by_kind locale vars (line.Set name value) = refl
enclosing_block_begins_by_kind locale vars line.Blank = refl
enclosing_block_begins_by_kind locale vars line.Definition = refl
enclosing_block_begins_by_kind locale vars (line.Include name) = refl
enclosing_block_begins_by_kind locale vars (line.Message text) = refl
enclosing_block_begins_by_kind locale vars line.Prompt = refl
enclosing_block_begins_by_kind locale vars line.UnitList = refl
enclosing_block_begins_by_kind locale vars line.UnknownDirective = refl
enclosing_block_begins_by_kind locale vars line.BadDirective = refl

module _ (settings : Settings) where
  -- the number of beginnings to skip before a line
  abbrev next : DeckLine → ℕ → ℕ
  next x k = cond x.mark k
      (enclosing_skips_before (begins_enclosing_block (kind_of_line x.text))
      (ends_enclosing_block (kind_of_line x.text)) k)

  abbrev block : List DeckLine → DeckLine → Option Bool
  block outer x = enclosing_block_begun settings.locale (vars_after settings outer) (kind_of_line x.text)

  same_next : (outer : List DeckLine) (x : DeckLine) (k : ℕ)
      → cond x.mark k (enclosing_skips_before (is_some (block outer x)) (ends_enclosing_block (kind_of_line x.text)) k)
      ≡ next x k
  same_next outer x k =
      ap (λ (b : Bool). cond x.mark k (enclosing_skips_before b (ends_enclosing_block (kind_of_line x.text)) k))
      (enclosing_block_begins_by_kind settings.locale (vars_after settings outer) (kind_of_line x.text))

  encloser_holds : (inner : List DeckLine) (x : DeckLine) (outer : List DeckLine) (holds : Bool) (k : ℕ)
      → x.mark ≡ false → block outer x ≡ Some holds → enclosing_skips_before_all inner k ≡ 0
      → AllHold (enclosing_blocks settings (inner ++ x ∷ outer) k) → holds ≡ true
  encloser_holds [] x outer holds zero u b z h =
      own_holds (enclosing_blocks settings outer) (block outer x) (ends_enclosing_block (kind_of_line x.text)) holds
      x.mark u b h
  encloser_holds [] x outer holds (suc k) u b z h = cc
  encloser_holds (y ∷ inner) x outer holds k u b z h =
      encloser_holds inner x outer holds (next y k) u b z
      (subst (λ (j : ℕ). AllHold (enclosing_blocks settings (inner ++ x ∷ outer) j))
      (same_next (inner ++ x ∷ outer) y k)
      (hold_before (enclosing_blocks settings (inner ++ x ∷ outer)) y.mark (block (inner ++ x ∷ outer) y)
      (ends_enclosing_block (kind_of_line y.text)) k h))

  all_hold : (earlier : List DeckLine) (k : ℕ)
      → ((inner : List DeckLine) (x : DeckLine) (outer : List DeckLine) (holds : Bool) → earlier ≡ inner ++ x ∷ outer
      → x.mark ≡ false → block outer x ≡ Some holds → enclosing_skips_before_all inner k ≡ 0 → holds ≡ true)
      → AllHold (enclosing_blocks settings earlier k)
  all_hold [] k h = refl
  all_hold (y ∷ earlier) k h =
      hold_with (enclosing_blocks settings earlier) y.mark (block earlier y)
      (ends_enclosing_block (kind_of_line y.text)) k
      (subst (λ (j : ℕ). AllHold (enclosing_blocks settings earlier j)) (sym (same_next earlier y k))
      (all_hold earlier (next y k) (λ inner x outer holds e u b z.
      h (y ∷ inner) x outer holds (ap (λ (ls : List DeckLine). y ∷ ls) e) u b z)))
      (λ u b e z. h [] y earlier b refl u e z)

  enclosed : (earlier : List DeckLine) (x : DeckLine) → is_active_after settings earlier x ≡ true
      → (x.mark ≡ false) × ((holds : Bool) → Encloses settings earlier holds → holds ≡ true)
  enclosed earlier x e = (
    not-true x.mark (and_parts (not x.mark) (list_all (λ holds. holds) (enclosing_blocks settings earlier 0)) e).0,
    λ holds q. encloser_holds q.inner q.line q.outer holds 0 q.lacks_mark q.begins q.inner_blocks_closed
        (subst (λ (ls : List DeckLine). AllHold (enclosing_blocks settings ls 0)) q.split_at_line
        (and_parts (not x.mark) (list_all (λ holds. holds) (enclosing_blocks settings earlier 0)) e).1),
  )

  is_enclosed : (earlier : List DeckLine) (x : DeckLine)
      → (x.mark ≡ false) × ((holds : Bool) → Encloses settings earlier holds → holds ≡ true)
      → is_active_after settings earlier x ≡ true
  is_enclosed earlier x h =
      and_from (not x.mark) (list_all (λ holds. holds) (enclosing_blocks settings earlier 0))
      (not_from_false x.mark h.0)
      (all_hold earlier 0 (λ inner y outer holds e u b z.
      h.1 holds (record {
        inner = inner;
        line = y;
        outer = outer;
        split_at_line = e;
        lacks_mark = u;
        begins =
            b;
        inner_blocks_closed = z;
      })))

-- the law of enclosing blocks
pub enclosing_law : EnclosingLaw
enclosing_law = record {
  active = active_line_by_lines_before;
  enclosing_block = λ settings earlier x. (enclosed settings earlier x, is_enclosed settings earlier x);
}
