use Rattle.std.proofs.Common.{◌∙◌, ◌∷◌, [], List, ap, map, option_map, sym, ℕ}
use Rattle.def_entry.specs.LineViews.{seen_entry_text_pair}
use Rattle.def_entry.proofs.CutParts.{cut_entry_text_is_shorter, entry_parts-none, entry_parts-some}
use Rattle.def_lines.specs.Blanks.{trimmed_of_blanks}
use Rattle.reply.specs.Targets.{conversion_target_parts}
use Rattle.reply.proofs.parts.cut_part.Goals as goal

pub returns-in-Some-clause-parts : goal.returns-in-Some-clause-parts
returns-in-Some-clause-parts c =
    ap (map trimmed_of_blanks) (entry_parts-some 59 c.args.text.now c.in-Some.part.now c.in-Some.behind.now
    (sym c.cut_at.ensures ∙ ap (option_map seen_entry_text_pair) c.in-Some.is))
    ∙ ap (λ (part : List ℕ). part ∷ conversion_target_parts c.in-Some.behind.now) (sym c.trim.ensures)

pub returns-in-Some-clause-shorter : goal.returns-in-Some-clause-shorter
returns-in-Some-clause-shorter c =
    cut_entry_text_is_shorter 59 c.args.text.now c.in-Some.part.now c.in-Some.behind.now
    (sym c.cut_at.ensures ∙ ap (option_map seen_entry_text_pair) c.in-Some.is)

pub returns-in-None-clause-parts : goal.returns-in-None-clause-parts
returns-in-None-clause-parts c =
    ap (map trimmed_of_blanks)
    (entry_parts-none 59 c.args.text.now (sym c.cut_at.ensures ∙ ap (option_map seen_entry_text_pair) c.in-None.is))
    ∙ ap (λ (part : List ℕ). part ∷ []) (sym c.trim-in-None.ensures)
