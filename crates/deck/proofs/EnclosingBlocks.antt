-- The pass over the lines computes the blocks that enclose the next line and the variables before it.
use Rattle.std.proofs.Common.{◌≡◌, ◌&&◌, ℕ, zero, suc, List, [], ◌∷◌, ◌++◌, Bool, true, false, not, cond, Option, Some}
use Rattle.std.proofs.Common.{None, drop, is_some, length, reverse, refl, sym, ◌∙◌, ap, subst, append_assoc, append-nil}
use Rattle.std.specs.List.{list_all, slice_get}
use Rattle.std.specs.Option.{option_or}
use Rattle.std.specs.Str.{bytes_eq}
use Rattle.std.proofs.lemmas.List.{reverse-append}
use Rattle.std.proofs.lemmas.Slice.Eq.{bytes_eq-Decides}
use Rattle.units_io.specs.NamedValues.{NamedTexts, named_text}
use Rattle.def_lines.specs.Kinds as line
use Rattle.def_lines.specs.Kinds.{LineKindWithArguments, kind_of_line}
use Rattle.deck_lines.specs.declared.line.DeckLine.{DeckLine}
use Rattle.deck.specs.Active.{DeckSurroundings, active_line_flags, active_lines, all_enclosing_blocks_hold}
use Rattle.deck.specs.Active.{deck_surroundings_after_kind, deck_surroundings_after_line, is_active_line}
use Rattle.deck.specs.Active.{deck_surroundings_at_start, deck_surroundings_with_variable, is_setting_value_listed}
use Rattle.deck.specs.Active.{outer_enclosing_flags}
use Rattle.deck.specs.declared.settings.Settings.{Settings}
use Rattle.deck.specs.EnclosingBlocks.{enclosing_block_begun, enclosing_blocks, ends_enclosing_block, is_active_after}
use Rattle.deck.specs.EnclosingBlocks.{is_active_in_enclosing_blocks}
use Rattle.deck.specs.EnclosingBlocks.{enclosing_blocks_with_line, setting_pair_of_kind, vars_after}

-- ---- values of variables
or_cond : {A : Type 0} (b : Bool) (x : A) (o p : Option A)
    → option_or (cond b (Some x) o) p ≡ cond b (Some x) (option_or o p)
or_cond true x o p = refl
or_cond false x o p = refl

setting_value_append : (xs ys : NamedTexts) (name : List ℕ) → named_text (xs ++ ys) name ≡ option_or
    (named_text xs name)
    (named_text ys name)
setting_value_append [] ys name = refl
setting_value_append (x ∷ xs) ys name =
    ap (λ o. cond (bytes_eq name x.0) (Some x.1) o) (setting_value_append xs ys name)
    ∙ sym (or_cond (bytes_eq name x.0) x.1 (named_text xs name) (named_text ys name))

-- a pair appended after another value of the same variable changes no value
repeated_setting_changes_nothing : (xs : NamedTexts) (name value other : List ℕ) → is_some (named_text xs name) ≡ true
    → named_text (xs ++ (name, value) ∷ []) other ≡ named_text xs other
repeated_setting_changes_nothing xs name value other some =
    setting_value_append xs ((name, value) ∷ []) other ∙ by (bytes_eq other name) refl (named_text xs other) refl
  where
    by : (b : Bool) → bytes_eq other name ≡ b → (o : Option (List ℕ)) → named_text xs other ≡ o
        → option_or o (cond b (Some value) None) ≡ o
    by b e (Some x) q = refl
    by false e None q = refl
    by true e None q =
        let is : other ≡ name = (bytes_eq-Decides other name).0 e in
        let z : is_some (named_text xs other) ≡ true =
        subst (λ (n : List ℕ). is_some (named_text xs n) ≡ true) (sym is) some in
        let w : false ≡ true = ap is_some (sym q) ∙ z in cc

-- ---- blocks
drop_outer_enclosing_flags : (holds : List Bool) (k : ℕ) → drop (suc k) holds ≡ drop k (outer_enclosing_flags holds)
drop_outer_enclosing_flags [] zero = refl
drop_outer_enclosing_flags [] (suc k) = refl
drop_outer_enclosing_flags (b ∷ holds) k = refl

-- the state has these enclosing blocks, innermost first, and these values of the variables
record Fits (kept : DeckSurroundings) (blocks : ℕ → List Bool) (vars : NamedTexts) : Type 0 where
  holds : (k : ℕ) → blocks k ≡ drop k kept.conditions
  values : (name : List ℕ) → named_text vars name ≡ named_text kept.vars name

module _ (locale : List ℕ) (kept : DeckSurroundings) (blocks : ℕ → List Bool) (vars : NamedTexts)
    (h : Fits kept blocks vars)
  where
    -- a line that begins a block
    opened : (b c ends : Bool) → b ≡ c → (k : ℕ) → enclosing_blocks_with_line (Some b) ends blocks k ≡ drop k
        (c ∷ kept.conditions)
    opened b c ends e zero = λ i. e i ∷ h.holds zero i
    opened b c ends e (suc k) = h.holds k

    -- a line that sets nothing
    as_before : (b : Bool) (name : List ℕ) → named_text (cond b (vars ++ []) vars) name ≡ named_text kept.vars name
    as_before true name = ap (λ (x : NamedTexts). named_text x name) (append-nil vars) ∙ h.values name
    as_before false name = h.values name

    abbrev Behind : LineKindWithArguments → Type 0
    Behind k = Fits (deck_surroundings_after_kind locale kept k)
        (enclosing_blocks_with_line (enclosing_block_begun locale vars k) (ends_enclosing_block k) blocks)
        (cond (list_all (λ holds. holds) (blocks 0)) (vars ++ setting_pair_of_kind k) vars)

    -- a line that sets a variable
    set_holds : (b : Bool) (more : DeckSurroundings) → more.conditions ≡ kept.conditions
        → (cond b more kept).conditions ≡ kept.conditions
    set_holds true more e = e
    set_holds false more e = refl

    put : (name value other : List ℕ) (b s : Bool) → is_some (named_text kept.vars name) ≡ s
        → named_text (cond b (vars ++ (name, value) ∷ []) vars) other
        ≡ named_text (cond (b && not s) (record kept { vars = kept.vars ++ (name, value) ∷ [] }) kept).vars other
    put name value other false s e = h.values other
    put name value other true false e =
        setting_value_append vars ((name, value) ∷ []) other
        ∙ (ap (λ (o : Option (List ℕ)). option_or o (named_text ((name, value) ∷ []) other)) (h.values other)
        ∙ sym (setting_value_append kept.vars ((name, value) ∷ []) other))
    put name value other true true e =
        setting_value_append vars ((name, value) ∷ []) other
        ∙ (ap (λ (o : Option (List ℕ)). option_or o (named_text ((name, value) ∷ []) other)) (h.values other)
        ∙ (sym (setting_value_append kept.vars ((name, value) ∷ []) other)
        ∙ repeated_setting_changes_nothing kept.vars name value other e))

    set_values : (name value other : List ℕ)
        → named_text (cond (list_all (λ holds. holds) (blocks 0)) (vars ++ (name, value) ∷ []) vars) other
        ≡ named_text (deck_surroundings_with_variable name value kept).vars other
    set_values name value other =
        ap (λ (hs : List Bool). named_text (cond (list_all (λ holds. holds) hs) (vars ++ (name, value) ∷ []) vars)
        other)
        (h.holds 0)
        ∙ put name value other (all_enclosing_blocks_hold kept) (is_some (named_text kept.vars name)) refl

    -- the state after a line without a mark fits
    behind : (k : LineKindWithArguments) → Behind k
    behind (line.Locale l) = record {
      holds = opened (bytes_eq l locale) (bytes_eq l locale) false refl;
      values = as_before (list_all (λ holds. holds) (blocks 0));
    }
    behind (line.Var name these) = record {
      holds = opened (is_setting_value_listed these (named_text vars name))
          (is_setting_value_listed these (named_text kept.vars name)) false
          (ap (is_setting_value_listed these) (h.values name));
      values = as_before (list_all (λ holds. holds) (blocks 0));
    }
    behind (line.VarNot name these) = record {
      holds = opened (not (is_setting_value_listed these (named_text vars name)))
          (not (is_setting_value_listed these (named_text kept.vars name))) false
          (ap (λ o. not (is_setting_value_listed these o)) (h.values name));
      values = as_before (list_all (λ holds. holds) (blocks 0));
    }
    behind line.Utf8 = record {
      holds = opened true true false refl;
      values = as_before (list_all (λ holds. holds) (blocks 0));
    }
    behind line.EndLocale = record {
      holds = λ k. h.holds (suc k) ∙ drop_outer_enclosing_flags kept.conditions k;
      values = as_before (list_all (λ holds. holds) (blocks 0));
    }
    behind line.EndVar = record {
      holds = λ k. h.holds (suc k) ∙ drop_outer_enclosing_flags kept.conditions k;
      values = as_before (list_all (λ holds. holds) (blocks 0));
    }
    behind line.EndUtf8 = record {
      holds = λ k. h.holds (suc k) ∙ drop_outer_enclosing_flags kept.conditions k;
      values = as_before (list_all (λ holds. holds) (blocks 0));
    }
    behind (line.Set name value) = record {
      holds = λ k. h.holds k
          ∙ ap (drop k) (sym (set_holds (all_enclosing_blocks_hold kept && not (is_some (named_text kept.vars name)))
          (record kept { vars = kept.vars ++ (name, value) ∷ [] }) refl));
      values = set_values name value;
    }
    behind line.Blank = record { holds = h.holds; values = as_before (list_all (λ holds. holds) (blocks 0)) }
    behind line.Definition = record { holds = h.holds; values = as_before (list_all (λ holds. holds) (blocks 0)) }
    behind (line.Include name) = record { holds = h.holds; values = as_before (list_all (λ holds. holds) (blocks 0)) }
    behind (line.Message text) = record { holds = h.holds; values = as_before (list_all (λ holds. holds) (blocks 0)) }
    behind line.Prompt = record { holds = h.holds; values = as_before (list_all (λ holds. holds) (blocks 0)) }
    behind line.UnitList = record { holds = h.holds; values = as_before (list_all (λ holds. holds) (blocks 0)) }
    behind line.UnknownDirective = record { holds = h.holds; values = as_before (list_all (λ holds. holds) (blocks 0)) }
    behind line.BadDirective = record { holds = h.holds; values = as_before (list_all (λ holds. holds) (blocks 0)) }

    -- the state after a line, with a mark or without, fits
    behind_marked : (mark : Bool) (k : LineKindWithArguments)
        → Fits (cond mark kept (deck_surroundings_after_kind locale kept k))
        (λ passed. cond mark (blocks passed)
        (enclosing_blocks_with_line (enclosing_block_begun locale vars k) (ends_enclosing_block k) blocks passed))
        (cond (not mark && list_all (λ holds. holds) (blocks 0)) (vars ++ setting_pair_of_kind k) vars)
    behind_marked true k = record { holds = h.holds; values = h.values }
    behind_marked false k = record { holds = (behind k).holds; values = (behind k).values }

-- ---- lines
module _ (settings : Settings) where
  -- the state after lines, of which the last comes first
  abbrev kept_behind : List DeckLine → DeckSurroundings
  kept_behind [] = deck_surroundings_at_start settings
  kept_behind (x ∷ earlier) = deck_surroundings_after_line settings.locale (kept_behind earlier) x

  nothing_around : (k : ℕ) → enclosing_blocks settings [] k ≡ drop k (deck_surroundings_at_start settings).conditions
  nothing_around zero = refl
  nothing_around (suc k) = refl

  fits : (earlier : List DeckLine) → Fits (kept_behind earlier) (enclosing_blocks settings earlier)
      (vars_after settings earlier)
  unfolding deck_surroundings_after_line
  fits [] = record { holds = nothing_around; values = λ name. refl }
  fits (x ∷ earlier) =
      let r = behind_marked settings.locale (kept_behind earlier) (enclosing_blocks settings earlier)
      (vars_after settings earlier) (fits earlier) x.mark (kind_of_line x.text) in
      record { holds = r.holds; values = r.values }

  same : (earlier : List DeckLine) (x : DeckLine) → is_active_line (kept_behind earlier) x ≡ is_active_after settings
      earlier
      x
  same earlier x = ap (λ (hs : List Bool). is_active_in_enclosing_blocks hs x) (sym ((fits earlier).holds 0))

  at : (earlier before : List DeckLine) (x : DeckLine) (later : List DeckLine)
      → slice_get (active_line_flags settings.locale (kept_behind earlier) (before ++ x ∷ later)) (length before)
      ≡ Some (is_active_after settings (reverse before ++ earlier) x)
  at earlier [] x later = ap Some (same earlier x)
  at earlier (b ∷ before) x later =
      at (b ∷ earlier) before x later
      ∙ ap (λ (ls : List DeckLine). Some (is_active_after settings ls x))
      (sym (ap (λ (ls : List DeckLine). ls ++ earlier) (reverse-append (b ∷ []) before)
      ∙ append_assoc (reverse before) (b ∷ []) earlier))

-- a line of a deck is active exactly if it is active after the lines before it
pub active_line_by_lines_before : (settings : Settings) (before : List DeckLine) (x : DeckLine) (later : List DeckLine)
    → slice_get (active_lines settings (before ++ x ∷ later)) (length before)
    ≡ Some (is_active_after settings (reverse before) x)
active_line_by_lines_before settings before x later =
    at settings [] before x later
    ∙ ap (λ (ls : List DeckLine). Some (is_active_after settings ls x)) (append-nil (reverse before))
