use Rattle.std.proofs.Common.{◌≡◌, Bool, ap, false, sym, true, ◌∙◌}
use Rattle.std.specs.Prelude.{if◌then◌else◌}
use Rattle.std.specs.Str.{bytes_eq}
use Rattle.value_sources.specs.declared.resolution.Resolution.TheVariants.{Name, Plural}
use Rattle.value_sources.specs.Mentions.{mention_by}
use Rattle.value_sources.specs.PlacedMentions.{mention_with_place}
use Rattle.value_sources.specs.StoredMentions.{placed_mention_in}
use Rattle.value_sources.specs.Uses.{source_use_at}
use Rattle.value_sources.proofs.Stored.{mention_key_in_force, named_in, written_in}
use Rattle.value_sources.proofs.Walking.{if_ok}
use Rattle.value_sources.proofs.lookup.Lookup.sole_mention.Goals as goal

pub returns-then-eq : goal.returns-then-eq
returns-then-eq c has =
    let d = c.args.self.now.deck.now in
    let u = c.args.word.now in
    let n = c.args.key.now in
    let place = c.last_place-place.result in
    let same : bytes_eq u.text n.name ≡ true =
    (λ i. bytes_eq (sym c.text.ensures i) (sym c.as_bytes.ensures i)) ∙ (sym c.eq.ensures ∙ c.if-eq.true) in
    ap (placed_mention_in d) c.named_mention.ensures
    ∙ named_in d c.args.location u n place (mention_key_in_force d n place c.last_place-place.ensures has)
    c.last_place-place.ensures same

pub returns : goal.returns
returns c =
    let d = c.args.self.now.deck.now in
    let l = c.args.location in
    let u = c.args.word.now in
    let n = c.args.key.now in
    let place = c.last_place-place.result in
    let differs : bytes_eq u.text n.name ≡ false =
    (λ i. bytes_eq (sym c.text.ensures i) (sym c.as_bytes.ensures i)) ∙ (sym c.eq.ensures ∙ c.if-eq.false) in
    if_ok c.mention.result
    (λ m e has. ap (placed_mention_in d) e
    ∙ (written_in d l u n place (mention_key_in_force d n place c.last_place-place.ensures has)
    c.last_place-place.ensures
    Plural
    ∙ ap (λ (b : Bool). mention_with_place d
    (mention_by (if b then Name else Plural) l.depth (source_use_at l.site u) n))
    (sym differs)))
    c.mention.ensures
