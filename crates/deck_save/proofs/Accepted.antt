-- Lines that define a key contain no line feed, carriage return or `#`.
use Rattle.std.proofs.Common.{◌≡◌, ◌&&◌, ◌++◌, ◌∷◌, ℕ, List, true, not, codes, Ok, refl, ap, subst, ◌∙◌}
use Rattle.std.specs.List.{list_all}
use Rattle.std.proofs.lemmas.Bool.{and_parts}
use Rattle.units_io.specs.Blanks.{is_blank_text_byte}
use Rattle.def_lines.specs.Kinds.{kind_of_line}
use Rattle.def_lines.specs.Parts.{begins_without_blank}
use Rattle.expr_tree.specs.Names.{is_name}
use Rattle.def_entry.specs.declared.key.Key.{Key}
use Rattle.def_entry.specs.Entries.{Entry}
use Rattle.def_entry.specs.EntryGrammar.{EntryLaw, IsEntry}
use Rattle.def_entry.specs.HeadingGrammar.{HeadingLead, NoLead, PlusLead, WrittenHeading, UnitHeading, PrefixHeading}
use Rattle.def_entry.specs.HeadingGrammar.{FuncHeading, ListHeading, heading_bytes, heading_of, is_heading}
use Rattle.def_entry.specs.HeadingGrammar.{is_heading_head, is_heading_lead, is_list_heading_name, with_heading_lead}
use Rattle.def_entry.specs.Headings.{Heading, begins_with_entry_bracket, ends_in_minus, stands_apart}
use Rattle.def_entry.specs.EntryReading.{entry_of, has_entry}
use Rattle.deck_save.specs.SavedLines.{is_saved_line_byte}
use Rattle.deck_save.proofs.PlainBytes.{saved_bytes_all_both}
use Rattle.deck_save.proofs.Forms.{saved_forms_stay}
use Rattle.deck_save.proofs.Names.{saved_blanks_stay, saved_name_stays, saved_untrimmed_text_stays}

saved_lead_stays : (l : HeadingLead) (rest : List ℕ) → is_heading_lead l rest ≡ true
    → list_all is_saved_line_byte rest ≡ true
    → list_all is_saved_line_byte (with_heading_lead l rest) ≡ true
saved_lead_stays NoLead rest is clear = clear
saved_lead_stays (PlusLead blanks) rest is clear = saved_bytes_all_both is_saved_line_byte blanks rest
    (saved_blanks_stay blanks (and_parts (list_all is_blank_text_byte blanks) (begins_without_blank rest) is).0) clear

-- a heading contains none of these bytes if the text after its name does not
saved_heading_stays : (w : WrittenHeading) → is_heading w ≡ true → is_name (heading_of w).name ≡ true
    → list_all is_saved_line_byte (heading_of w).text ≡ true
    → list_all is_saved_line_byte (heading_bytes w) ≡ true
saved_heading_stays (UnitHeading l name behind) whole named clear =
    let a : ((is_heading_lead l (name ++ behind) && is_heading_head name && stands_apart behind) ≡ true)
    × (not (ends_in_minus name) ≡ true) = and_parts _ _ whole in
    let b : ((is_heading_lead l (name ++ behind) && is_heading_head name) ≡ true) × (stands_apart behind ≡ true) =
    and_parts _ _ a.0 in
    saved_lead_stays l (name ++ behind) (and_parts (is_heading_lead l (name ++ behind)) (is_heading_head name) b.0).0
    (saved_bytes_all_both is_saved_line_byte name behind (saved_name_stays name named)
    (saved_untrimmed_text_stays behind clear))
saved_heading_stays (PrefixHeading l name behind) whole named clear =
    let a : ((is_heading_lead l (name ++ (45 ∷ behind)) && is_heading_head name) ≡ true) × (stands_apart behind ≡ true)
    =
    and_parts _ _ whole in
    saved_lead_stays l (name ++ (45 ∷ behind))
    (and_parts (is_heading_lead l (name ++ (45 ∷ behind))) (is_heading_head name) a.0).0
    (saved_bytes_all_both is_saved_line_byte name (45 ∷ behind) (saved_name_stays name named)
    (saved_untrimmed_text_stays behind clear))
saved_heading_stays (FuncHeading l name behind) whole named clear =
    let a : ((is_heading_lead l (name ++ behind) && is_heading_head name) ≡ true)
    × (begins_with_entry_bracket behind ≡ true) = and_parts _ _ whole in
    saved_lead_stays l (name ++ behind) (and_parts (is_heading_lead l (name ++ behind)) (is_heading_head name) a.0).0
    (saved_bytes_all_both is_saved_line_byte name behind (saved_name_stays name named)
    (saved_untrimmed_text_stays behind clear))
saved_heading_stays (ListHeading before between name behind) whole named clear =
    let a : ((list_all is_blank_text_byte before && list_all is_blank_text_byte between && stands_apart
    (between ++ (name ++ behind)) &&
    begins_without_blank (name ++ behind) && is_list_heading_name name) ≡ true) × (stands_apart behind ≡ true) =
    and_parts _ _ whole in
    let b : ((list_all is_blank_text_byte before && list_all is_blank_text_byte between && stands_apart
    (between ++ (name ++ behind)) &&
    begins_without_blank (name ++ behind)) ≡ true) × (is_list_heading_name name ≡ true) = and_parts _ _ a.0 in
    let c : ((list_all is_blank_text_byte before && list_all is_blank_text_byte between && stands_apart
    (between ++ (name ++ behind)))
    ≡ true) × (begins_without_blank (name ++ behind) ≡ true) = and_parts _ _ b.0 in
    let d : ((list_all is_blank_text_byte before && list_all is_blank_text_byte between) ≡ true)
    × (stands_apart (between ++ (name ++ behind)) ≡ true) = and_parts _ _ c.0 in
    let e : (list_all is_blank_text_byte before ≡ true) × (list_all is_blank_text_byte between ≡ true) =
    and_parts _ _ d.0 in
    saved_bytes_all_both is_saved_line_byte before (codes "unitlist" ++ (between ++ (name ++ behind)))
    (saved_blanks_stay before e.0)
    (saved_bytes_all_both is_saved_line_byte (codes "unitlist") (between ++ (name ++ behind)) refl
    (saved_bytes_all_both is_saved_line_byte between (name ++ behind) (saved_blanks_stay between e.1)
    (saved_bytes_all_both is_saved_line_byte name behind (saved_name_stays name named)
    (saved_untrimmed_text_stays behind clear))))

pub saved_entry_stays : (line : List ℕ) (k : Key) (e : Entry) → IsEntry line k e
    → list_all is_saved_line_byte line ≡ true
saved_entry_stays line k e is =
    let same : is.heading ≡ heading_of is.line_has_heading.written_heading = is.line_has_heading.reads_as_heading in
    let clear : list_all is_saved_line_byte is.heading.text ≡ true = saved_forms_stay is.heading.kind is.heading.name
    is.heading.text
    is.form e.what is.spelled_form is.form_defines is.names.further_names in
    ap (list_all is_saved_line_byte) is.line_has_heading.spelled_line
    ∙ saved_heading_stays is.line_has_heading.written_heading is.line_has_heading.well_formed
    (subst (λ (h : Heading). is_name h.name ≡ true) same is.names.own_name)
    (subst (λ (h : Heading). list_all is_saved_line_byte h.text ≡ true) same clear)

-- a line that defines a key contains no line feed, no carriage return and no `#`
pub savable_lines_hold_no_comment : EntryLaw → (line : List ℕ) (k : Key) (e : Entry)
    → has_entry (kind_of_line line) ≡ true
    → entry_of line ≡ Ok (k, e)
    → list_all is_saved_line_byte line ≡ true
savable_lines_hold_no_comment law line k e has is = saved_entry_stays line k e (((law line has).0 k e).0 is)
