use Rattle.deck_lines.specs.NumberedKeys.{key_number_names_in}
use Rattle.deck_lines.proofs.DefinitionsByNumber.{store_defined_more}
use Rattle.deck_lines.proofs.store.reads.read_definitions.Goals as goal

pub loop-line-preserved : goal.loop-line-preserved
loop-line-preserved c = record {
  extended = λ n k e. c.in_ok-definition.ensures.extended n k (c.loop-line.invariant.extended n k e);
  unique = λ h. c.in_ok-definition.ensures.unique (c.loop-line.invariant.unique h);
  defined =
      store_defined_more (key_number_names_in c.loop-line.keys) (key_number_names_in c.definition_of.new.keys)
      c.in_ok-definition.ensures.extended
      c.loop-line.definitions.items _ c.in_ok-definition.definition
      c.args.lines.now c.loop-line.line-index c.line-item.result c.loop-line-test.true c.line-item.is
      c.in_ok-push.ensures.items c.in_ok-definition.ensures.ok c.loop-line.invariant.defined;
}

pub returns-in_err-definition-clause-unique : goal.returns-in_err-definition-clause-unique
returns-in_err-definition-clause-unique c = λ h. c.definition_of.ensures.unique (c.loop-line.invariant.unique h)

pub returns-in_err-push-clause-unique : goal.returns-in_err-push-clause-unique
returns-in_err-push-clause-unique c = λ h. c.in_ok-definition.ensures.unique (c.loop-line.invariant.unique h)
