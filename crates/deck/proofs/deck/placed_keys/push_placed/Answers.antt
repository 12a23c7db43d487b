use Rattle.std.proofs.Common.{◌++◌, ◌<◌, Bool, length, map, sym, ap, ◌∙◌, arith}
use Rattle.std.proofs.lemmas.List.{append-nil, drop_all}
use Rattle.deck_lines.specs.Names.{key_number_names_of_kind}
use Rattle.deck_lines.specs.declared.key_number.KeyNumber.{KeyNumber}
use Rattle.deck.specs.SubstringKeys.{is_deck_number_holding_text}
use Rattle.deck.specs.Numbers.{deck_keys_where}
use Rattle.deck.specs.PlacedKeys.{placed_deck_key}
use Rattle.deck.proofs.KeysByNumber.{deck_keys_where_step}
use Rattle.deck.proofs.deck.placed_keys.push_placed.Goals as goal

pub loop-number-preserved : goal.loop-number-preserved
loop-number-preserved c =
    let names = c.args.store.now.names in
    let within : c.loop-number.number < length (key_number_names_of_kind names c.args.kind) =
    omega (arith, c.loop-number-test.true, c.name_count-number-end.ensures.count) in (
      c.in_ok-push_if_placed.ensures.in_place,
      deck_keys_where_step (is_deck_number_holding_text names c.args.last.now c.args.finder.now) names c.args.kind
          c.loop-number.number
          (map placed_deck_key c.loop-number.keys.items) (map placed_deck_key c.push_if_placed.new.keys.items) _ within
          c.loop-number.invariant.1 c.in_ok-push_if_placed.ensures.keys,
    )

pub returns-clause-keys : goal.returns-clause-keys
returns-clause-keys c =
    let names = key_number_names_of_kind c.args.store.now.names c.args.kind in
    let test : KeyNumber → Bool = is_deck_number_holding_text c.args.store.now.names c.args.last.now c.args.finder.now
    in
    sym (append-nil (map placed_deck_key c.loop-number.keys.items))
    ∙ ap (λ ns. map placed_deck_key c.loop-number.keys.items ++ deck_keys_where test c.args.kind c.loop-number.number
    ns)
    (sym (drop_all c.loop-number.number names
    (omega (arith, c.loop-number-test.false, c.name_count-number-end.ensures.count))))
    ∙ c.loop-number.invariant.1
