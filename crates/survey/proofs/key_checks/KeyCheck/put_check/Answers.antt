use Rattle.deck.specs.Tables.{table_of_deck}
use Rattle.reply.specs.Options.{reply_style}
use Rattle.survey.specs.Checks.{key_finding}
use Rattle.survey.proofs.Findings.{are-made, finding-line-of-answer}
use Rattle.survey.proofs.key_checks.KeyCheck.put_check.Goals as goal

pub returns-clause-line : goal.returns-clause-line
returns-clause-line g c =
    finding-line-of-answer (reply_style c.args.self.now.options.now) c.args.key.now
    (key_finding (table_of_deck c.args.table.now.deck) c.args.key.now)
    c.args.table.now c.check_key-found.new.table c.args.steps.now c.check_key-found.new.steps c.args.lines.now.items
    c.put_finding.new.text.items c.check_key-found.result c.check_key-found.ensures.inquired c.put_finding.result
    c.put_finding.ensures.line c.put_finding.ensures.memory

pub returns-clause-queries : goal.returns-clause-queries
returns-clause-queries g c =
    are-made (key_finding (table_of_deck c.args.table.now.deck) c.args.key.now) c.args.table.now
    c.check_key-found.new.table
    c.args.steps.now c.check_key-found.new.steps c.check_key-found.result c.check_key-found.ensures.deck
    c.check_key-found.ensures.inquired c.put_finding.result c.put_finding.ensures.memory
