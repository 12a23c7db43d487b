use Rattle.std.proofs.Common.{◌≡◌, ◌∙◌, ◌+◌, ◌<◌, ◌++◌, ◌∷◌, [], ap, sym, subst, rules, arith, List, ℕ, Some, None}
use Rattle.std.proofs.Common.{length, take, slice_get}
use Rattle.std.proofs.lemmas.List.{length-append}
use Rattle.std.proofs.lemmas.Option.{slice_get_within}
use Rattle.general_lemmas.proofs.Places.{take_at}
use Rattle.units_io.specs.NamedValues.{NamedTexts, HasNoTextOfName}
use Rattle.units_io.proofs.Names.{HasNoName-before_place, named_texts_before_end}
use Rattle.units_io.proofs.vars.Vars.copy.Goals as goal

pub push_copy-requires : goal.push_copy-requires
push_copy-requires c =
    let at : slice_get c.args.self.now (length c.loop-name.copy) ≡ Some (c.in-Some.name.now, c.in-Some.value.now) =
    search rules in
    subst (λ (pairs : NamedTexts). HasNoTextOfName pairs c.in-Some.name.now) (sym c.loop-name.invariant.front)
    (HasNoName-before_place c.args.self.now _ (c.in-Some.name.now, c.in-Some.value.now) c.len.ensures.distinct at)

pub loop-name-smaller : goal.loop-name-smaller
loop-name-smaller c =
    let pair : List ℕ × List ℕ = (c.in-Some.name.now, c.in-Some.value.now) in
    let at : slice_get c.args.self.now (length c.loop-name.copy) ≡ Some pair = search rules in
    let within : length c.loop-name.copy < length c.args.self.now = slice_get_within c.args.self.now _ pair at in
    let copied : c.push_copy.new.self ≡ c.loop-name.copy ++ pair ∷ [] = search rules in
    let longer : length c.push_copy.new.self ≡ length c.loop-name.copy + 1 =
    ap (λ (pairs : NamedTexts). length pairs) copied ∙ length-append c.loop-name.copy (pair ∷ []) in
    omega arith

pub loop-name-preserved : goal.loop-name-preserved
loop-name-preserved c =
    let pair : List ℕ × List ℕ = (c.in-Some.name.now, c.in-Some.value.now) in
    let at : slice_get c.args.self.now (length c.loop-name.copy) ≡ Some pair = search rules in
    let copied : c.push_copy.new.self ≡ c.loop-name.copy ++ pair ∷ [] = search rules in
    let longer : length c.push_copy.new.self ≡ length c.loop-name.copy + 1 =
    ap (λ (pairs : NamedTexts). length pairs) copied ∙ length-append c.loop-name.copy (pair ∷ []) in record {
      front = copied ∙ ap (λ (pairs : NamedTexts). pairs ++ pair ∷ []) c.loop-name.invariant.front
          ∙ sym (take_at c.args.self.now (length c.loop-name.copy) pair at)
          ∙ ap (λ n. take n c.args.self.now) (sym longer);
    }

pub returns : goal.returns
returns c =
    let end : slice_get c.args.self.now (length c.loop-name.copy) ≡ None = search rules in
    c.loop-name.invariant.front ∙ named_texts_before_end c.args.self.now _ end
