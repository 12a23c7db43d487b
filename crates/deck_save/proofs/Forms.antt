-- The texts after the names of keys contain no line feed, carriage return or `#`.
use Rattle.std.proofs.Common.{◌≡◌, inl, inr, ◌++◌, ◌∷◌, [], ℕ, List, true, codes, map, subst, Option, Some, None}
use Rattle.std.proofs.Common.{refl, ap, ◌∙◌}
use Rattle.std.specs.List.{join_with_byte, list_all}
use Rattle.std.proofs.lemmas.Bool.{and_from}
use Rattle.def_lines.specs.Blanks.{trimmed_of_blanks}
use Rattle.expr_tree.specs.Names.{is_name}
use Rattle.expr_tree.specs.Syntax.{Syntax}
use Rattle.def_entry.specs.declared.key.Kind.{Kind}
use Rattle.def_entry.specs.declared.key.Kind.TheVariants as kind
use Rattle.def_entry.specs.Entries.{What, Body, Function, FunctionDef, Alias, Table, TableDef, ListOf}
use Rattle.def_entry.specs.EntryGrammar.{AreEntryTreesOf, HasFurtherEntryName, HasInnerEntryName, IsEntryDefinitionOf}
use Rattle.def_entry.specs.EntryGrammar.{IsEntryTreeOf, IsFunctionEntryOf, Parameter, Target}
use Rattle.def_entry.specs.FormGrammar.{AreBodies, AreListEntryParts, IsAlias, IsAliasTarget, IsBracketedEntryText}
use Rattle.def_entry.specs.FormGrammar.{IsFunctionEntryForm, IsTableEntry, IsEntrySpelledAs, WrittenEntryForm}
use Rattle.def_entry.specs.FormGrammar.{PrimitiveForm, DimensionlessForm, BodyForm, FunctionForm, AliasForm, TableForm}
use Rattle.def_entry.specs.FormGrammar.{ListForm}
use Rattle.def_entry.specs.Forms.{Form}
use Rattle.deck_save.specs.SavedLines.{is_saved_line_byte}
use Rattle.deck_save.proofs.PlainBytes.{saved_bytes_all_both}
use Rattle.deck_save.proofs.Expressions.{saved_expressions_stay}
use Rattle.deck_save.proofs.Names.{saved_name_stays, saved_trimmed_text_stays, saved_untrimmed_text_stays}
use Rattle.deck_save.proofs.Options.{saved_option_units_stay, saved_options_stay}
use Rattle.deck_save.proofs.Points.{saved_points_stay}

-- a text in brackets stays if what is inside them and what follows them stay
saved_bracket_stays : (open_byte close_byte : ℕ) (text inside behind : List ℕ)
    → IsBracketedEntryText open_byte close_byte text inside behind
    → is_saved_line_byte open_byte ≡ true → is_saved_line_byte close_byte ≡ true
    → list_all is_saved_line_byte inside ≡ true
    → list_all is_saved_line_byte behind ≡ true
    → list_all is_saved_line_byte text ≡ true
saved_bracket_stays open_byte close_byte text inside behind is opens closes first second =
    ap (list_all is_saved_line_byte) is.text_in_brackets
    ∙ and_from (is_saved_line_byte open_byte) (list_all is_saved_line_byte (inside ++ (close_byte ∷ behind))) opens
    (saved_bytes_all_both is_saved_line_byte inside (close_byte ∷ behind) first
    (and_from (is_saved_line_byte close_byte) (list_all is_saved_line_byte behind) closes second))

-- functions

saved_bodies_stay : (name text forward : List ℕ) (inverse : Option (List ℕ)) (tree : Option Syntax)
    → AreBodies text forward inverse
    → list_all is_saved_line_byte forward ≡ true → IsEntryTreeOf (Some name) inverse tree
    → list_all is_saved_line_byte text ≡ true
saved_bodies_stay name text forward None tree are clear says = saved_trimmed_text_stays text forward are.0.0 clear
saved_bodies_stay name text forward (Some inverse) tree are clear says =
    let front : List ℕ = are.0 in
    let behind : List ℕ = are.1 in
    ap (list_all is_saved_line_byte) are.2
    ∙ saved_bytes_all_both is_saved_line_byte front (59 ∷ behind) (saved_trimmed_text_stays front forward are.4.0 clear)
    (saved_trimmed_text_stays behind inverse are.5.0 (saved_expressions_stay (Some name) inverse says.0 says.1))

saved_function_stays : (name text parameter : List ℕ) (form : Form) (f : FunctionDef)
    → IsFunctionEntryForm text parameter form
    → IsFunctionEntryOf name parameter form f
    → is_name parameter ≡ true → list_all is_saved_line_byte text ≡ true
saved_function_stays name text parameter form f is says named =
    let bodies : list_all is_saved_line_byte is.bodies ≡ true =
    saved_bodies_stay name is.bodies form.forward form.inverse f.inverse is.bodies_are
    (saved_expressions_stay (Some parameter) form.forward f.forward says.forward) says.inverse in
    saved_bracket_stays 40 41 text is.bracket_text is.text_after is.has_brackets refl refl
    (saved_trimmed_text_stays is.bracket_text parameter is.parameter_is.0 (saved_name_stays parameter named))
    (saved_options_stay is.text_after is.bodies form.options is.options_are
    (saved_option_units_stay form.options.units f.in_unit f.out_unit says.in_unit says.out_unit) bodies)

saved_target_stays : (text target : List ℕ) → IsAliasTarget text target → list_all is_saved_line_byte target ≡ true
    → list_all is_saved_line_byte text ≡ true
saved_target_stays text target (inl is) clear = ap (list_all is_saved_line_byte) is
    ∙ saved_bytes_all_both is_saved_line_byte target (codes "()") clear refl
saved_target_stays text target (inr is) clear = ap (list_all is_saved_line_byte) is.0 ∙ clear

saved_alias_stays : (text target : List ℕ) → IsAlias text target → is_name target ≡ true
    → list_all is_saved_line_byte text ≡ true
saved_alias_stays text target is named =
    saved_bracket_stays 40 41 text is.bracket_text is.text_after is.has_brackets refl refl
    (saved_trimmed_text_stays is.bracket_text [] is.blank_brackets refl)
    (saved_untrimmed_text_stays is.text_after
    (saved_target_stays (trimmed_of_blanks is.text_after) target is.target_is (saved_name_stays target named)))

saved_table_stays : (text unit points : List ℕ) (t : TableDef) → IsTableEntry text unit points
    → IsEntryDefinitionOf [] (TableForm unit points)
    (Table t) → list_all is_saved_line_byte text ≡ true
saved_table_stays text unit points t is says =
    saved_bracket_stays 91 93 text is.bracket_text points is.has_brackets refl refl
    (saved_trimmed_text_stays is.bracket_text unit is.unit_is.0 (saved_expressions_stay None unit t.unit says.0))
    (saved_points_stay points t.points says.1.0)

-- lists

saved_part_stays : (pieces : List (List ℕ)) (es : List Syntax) → AreEntryTreesOf (map trimmed_of_blanks pieces) es
    → list_all is_saved_line_byte (join_with_byte 59 pieces) ≡ true
saved_part_stays [] es are = refl
saved_part_stays (piece ∷ []) [] are = absurd are
saved_part_stays (piece ∷ []) (e ∷ es) are = saved_untrimmed_text_stays piece
    (saved_expressions_stay None (trimmed_of_blanks piece) e are.0)
saved_part_stays (piece ∷ next ∷ pieces) [] are = absurd are
saved_part_stays (piece ∷ next ∷ pieces) (e ∷ es) are =
    saved_bytes_all_both is_saved_line_byte piece (59 ∷ join_with_byte 59 (next ∷ pieces))
    (saved_untrimmed_text_stays piece (saved_expressions_stay None (trimmed_of_blanks piece) e are.0))
    (saved_part_stays (next ∷ pieces) es are.1)

saved_list_stays : (text : List ℕ) (parts : List (List ℕ)) (es : List Syntax) → AreListEntryParts text parts
    → AreEntryTreesOf parts es
    → list_all is_saved_line_byte text ≡ true
saved_list_stays text parts es are trees =
    ap (list_all is_saved_line_byte) are.join_of_pieces
    ∙ saved_part_stays are.pieces es (subst (λ ps. AreEntryTreesOf ps es) are.parts_are trees)

-- forms of any kind

saved_body_stays : (name text body : List ℕ) (what : What) → text ≡ body → IsEntryDefinitionOf name (BodyForm body) what
    → list_all is_saved_line_byte text ≡ true
saved_body_stays name text body (Body e) same says = ap (list_all is_saved_line_byte) same
    ∙ saved_expressions_stay None body e says
saved_body_stays name text body _ same says = absurd says

saved_func_stays : (name text : List ℕ) (form : WrittenEntryForm) (what : What) → IsEntrySpelledAs kind.Func text form
    → IsEntryDefinitionOf name form what
    → ((w : List ℕ) → HasInnerEntryName text w → is_name w ≡ true) → list_all is_saved_line_byte text ≡ true
saved_func_stays name text (FunctionForm parameter form) (Function f) is says named =
    saved_function_stays name text parameter form f is says
    (named parameter (Parameter is.bracket_text is.text_after is.has_brackets is.parameter_is))
saved_func_stays name text (AliasForm target) (Alias other) is says named = saved_alias_stays text target is
    (named target (Target is))
saved_func_stays name text (TableForm unit points) (Table t) is says named =
    saved_table_stays text unit points t is says
saved_func_stays name text (FunctionForm parameter form) _ is says named = absurd says
saved_func_stays name text (AliasForm target) _ is says named = absurd says
saved_func_stays name text (TableForm unit points) _ is says named = absurd says
saved_func_stays name text _ what is says named = absurd is

pub saved_forms_stay : (of : Kind) (name text : List ℕ) (form : WrittenEntryForm) (what : What)
    → IsEntrySpelledAs of text form
    → IsEntryDefinitionOf name form what
    → ((w : List ℕ) → HasFurtherEntryName of text w → is_name w ≡ true) → list_all is_saved_line_byte text ≡ true
saved_forms_stay kind.Unit name text PrimitiveForm what is says named = ap (list_all is_saved_line_byte) is
saved_forms_stay kind.Unit name text DimensionlessForm what is says named = ap (list_all is_saved_line_byte) is
saved_forms_stay kind.Unit name text (BodyForm body) what is says named = saved_body_stays name text body what is.0 says
saved_forms_stay kind.Prefix name text (BodyForm body) what is says named = saved_body_stays name text body what is.0
    says
saved_forms_stay kind.Func name text form what is says named = saved_func_stays name text form what is says named
saved_forms_stay kind.List name text (ListForm parts) (ListOf es) is says named = saved_list_stays text parts es is says
saved_forms_stay kind.List name text (ListForm parts) _ is says named = absurd says
saved_forms_stay _ name text _ what is says named = absurd is
