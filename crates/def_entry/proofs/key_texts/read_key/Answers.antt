use Rattle.std.proofs.Common.{◌≡◌, None, inr, refl, sym, ap, ◌∙◌, true≢false}
use Rattle.expr_tree.specs.Names.{is_name}
use Rattle.def_entry.specs.Keys.{key_of_spelling, key_spelling, kind_in_spelling}
use Rattle.def_entry.proofs.KeyTexts.{no_key_has_spelling, same_spelling_has_same_name, spelling_read_as_key-none}
use Rattle.def_entry.proofs.KeyTexts.{spelling_read_as_key-some}
use Rattle.def_entry.proofs.key_texts.read_key.Goals as goal

pub returns-in_default : goal.returns-in_default
returns-in_default c =
    let none : key_of_spelling c.args.bytes.now ≡ None =
    spelling_read_as_key-none c.args.bytes.now
    (λ w h e. c.in_default.ensures w (ap (λ k. key_spelling k w) c.shown_kind-kind.ensures ∙ e)) in
    record { exact = inr (refl, no_key_has_spelling c.args.bytes.now none); computed = inr (refl, none) }

pub returns-then-not-is_name : goal.returns-then-not-is_name
returns-then-not-is_name c =
    let none : key_of_spelling c.args.bytes.now ≡ None =
    spelling_read_as_key-none c.args.bytes.now
    (λ w h e. true≢false
    (sym h
    ∙ (ap is_name (same_spelling_has_same_name (kind_in_spelling c.args.bytes.now) w c.in-Some.shown.now
    (e ∙ (sym c.in-Some.ensures ∙ ap (λ k. key_spelling k c.in-Some.shown.now) c.shown_kind-kind.ensures)))
    ∙ (sym c.is_name.ensures ∙ c.if-not-is_name.true)))) in
    record { exact = inr (refl, no_key_has_spelling c.args.bytes.now none); computed = inr (refl, none) }

pub returns : goal.returns
returns c =
    let named = ap is_name c.in_ok-name.ensures ∙ (sym c.is_name.ensures ∙ c.if-not-is_name.false) in
    let text = ap (key_spelling c.shown_kind-kind.result) c.in_ok-name.ensures ∙ c.in-Some.ensures in
    record {
      exact = (named, text);
      computed = spelling_read_as_key-some c.args.bytes.now
          (record { kind = c.shown_kind-kind.result; name = c.in_ok-name.name })
          named text;
    }
