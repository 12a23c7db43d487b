use Rattle.std.proofs.Common.{◌≤◌, ◌+◌, length, ◌∙◌, ap, arith}
use Rattle.std.specs.FinMap as map_of
use Rattle.deck.specs.Tables.{table_of_deck}
use Rattle.live_table.specs.Calls.{all_settleable_names}
use Rattle.live_table.specs.TableView.{LiveView}
use Rattle.live_table.specs.TableContents.{node_lists}
use Rattle.live_table.proofs.NameCounts.{names_counted, names_within, settled_count_is_cached_count}
use Rattle.live_table.proofs.live_table.LiveTable.counts.Goals as goal

pub overflow_add-result : goal.overflow_add-result
overflow_add-result c =
    let few : (c.key_count-units.result + c.key_count-prefixes.result) + c.key_count-functions.result ≤ 100000 =
    names_within c.self.inside.deck c.key_count-units.result c.key_count-prefixes.result c.key_count-functions.result
    (record {
      units = c.key_count-units.ensures;
      prefixes = c.key_count-prefixes.ensures;
      functions =
          c.key_count-functions.ensures;
    })
    c.tables_are_of_lines.ensures c.lines_few.ensures in
    omega (arith, few)

pub overflow_add-result-2 : goal.overflow_add-result-2
overflow_add-result-2 c =
    let few : (c.key_count-units.result + c.key_count-prefixes.result) + c.key_count-functions.result ≤ 100000 =
    names_within c.self.inside.deck c.key_count-units.result c.key_count-prefixes.result c.key_count-functions.result
    (record {
      units = c.key_count-units.ensures;
      prefixes = c.key_count-prefixes.ensures;
      functions =
          c.key_count-functions.ensures;
    })
    c.tables_are_of_lines.ensures c.lines_few.ensures in
    omega (arith, few)

pub returns-clause-settled : goal.returns-clause-settled
returns-clause-settled c =
    c.self.invariant.0.is_sound.numbers.count_right
    ∙ (settled_count_is_cached_count (table_of_deck c.self.inside.deck) (node_lists c.self.inside.nodes)
    c.self.invariant.0.is_sound.numbers
    ∙ ap (λ (s : LiveView). map_of.len s.kept_outcomes) c.self.view_is)

pub returns-clause-names : goal.returns-clause-names
returns-clause-names c =
    names_counted c.self.inside.deck c.key_count-units.result c.key_count-prefixes.result c.key_count-functions.result
    (record {
      units = c.key_count-units.ensures;
      prefixes = c.key_count-prefixes.ensures;
      functions =
          c.key_count-functions.ensures;
    })
    ∙ ap (λ (s : LiveView). length (all_settleable_names (table_of_deck s.deck))) c.self.view_is
