use Rattle.std.proofs.Common.{◌≡◌, ◌∙◌, ◌∷◌, ◌++◌, ◌+◌, ◌<◌, ◌&&◌, [], arith, ap, ap₂, sym, suc, take, true, false}
use Rattle.std.proofs.Common.{length, map}
use Rattle.std.specs.Str.{is_utf8}
use Rattle.std.proofs.lemmas.Bool.{false_from_ne_true}
use Rattle.std.proofs.lemmas.List.{map-append}
use Rattle.std.proofs.lemmas.List.Folds.{list_all_at, list_all_more}
use Rattle.std.proofs.lemmas.Str.{IsUtf8-from_is_utf8, is_utf8-from_IsUtf8}
use Rattle.std.proofs.Math.Seq.{take-suc}
use Rattle.command_line.proofs.parse.texts_of.Goals as goal

pub returns-in-Err-clause-usage : goal.returns-in-Err-clause-usage
returns-in-Err-clause-usage c usage =
    let words = c.args.words.now in
    let bytes = c.as_bytes.result.now in
    let no_text : is_utf8 bytes ≡ false =
    false_from_ne_true (is_utf8 bytes) (λ text. c.in-Err.ensures.cases.0 (IsUtf8-from_is_utf8 bytes text)) in
    let same = sym c.word-item.is ∙ sym c.as_bytes.ensures in
    list_all_at is_utf8 words c.loop-word.word-index c.word-item.result (omega arith)
    (ap is_utf8 same ∙ no_text)

pub loop-word-preserved : goal.loop-word-preserved
loop-word-preserved c =
    let i = c.loop-word.word-index in
    let words = c.args.words.now in
    let word = c.word-item.result in
    let lt : i < length words = omega arith in
    let text = c.in-Ok.ensures.cases in
    let utf8 : is_utf8 word ≡ true =
    ap is_utf8 (sym c.as_bytes.ensures) ∙ is_utf8-from_IsUtf8 c.as_bytes.result.now text.1 in
    let up : i + 1 ≡ suc i = omega arith in
    let next : take (i + 1) words ≡ take i words ++ word ∷ [] = ap (λ n. take n words) up
    ∙ take-suc words i word lt
    ∙ ap (λ x. take i words ++ x ∷ []) (sym c.word-item.is) in
    let same : c.in-Ok.text.now ≡ word = text.0 ∙ c.as_bytes.ensures in record {
      utf8 = list_all_more is_utf8 words i word lt
          ∙ ap₂ (λ a b. a && b) c.loop-word.invariant.utf8 (ap is_utf8 (sym c.word-item.is) ∙ utf8);
      texts = ap (map (λ text. text.now)) c.in_ok-push-in-Ok.ensures.items
          ∙ map-append (λ text. text.now) c.loop-word.texts.items (c.in-Ok.text ∷ [])
          ∙ ap₂ (λ xs x. xs ++ x ∷ []) c.loop-word.invariant.texts same
          ∙ sym next;
    }
