use Rattle.std.proofs.Common.{◌≡◌, IfOk, Option, subst}
use Rattle.std.specs.Prelude.{IfSome}
use Rattle.edited_table.specs.Answers.{c_conversion_answer}
use Rattle.edited_table.specs.TableValue.{EditedTableView, c_query_table}
use Rattle.edited_table.specs.declared.answer.Answer.{Answer}
use Rattle.reply.specs.declared.options.Options.{Options}
use Rattle.units_c.specs.Tables.{IsCTableAnswered}
use Rattle.units_c.proofs.Exported.{open_answered}
use Rattle.units_c.proofs.conversions.units_convert.Goals as goal

pub returns-clause-answer : goal.returns-clause-answer
returns-clause-answer c =
    subst (λ (o : Option Options). IfSome o (λ (options : Options). IsCTableAnswered c.args.table.now.handle.held
    (λ (e : EditedTableView). c_conversion_answer (c_query_table e) options c.args.from.now c.args.to.now)
    c.args.out.now c.deliver.result c.deliver.new.written c.deliver.new.out)) c.in-Some.ensures.is
    (open_answered c.args.table.now.handle.held c.in-Some-take.content.value
    (λ (e : EditedTableView). c_conversion_answer (c_query_table e) c.in-Some.options c.args.from.now c.args.to.now)
    c.answer_conversion-answered.result c.args.out.now c.deliver.result c.deliver.new.written c.deliver.new.out
    c.in-Some-take.ensures.taken c.deliver.ensures.memory c.deliver.ensures.handed
    (subst (λ (e : EditedTableView). IfOk c.answer_conversion-answered.result (λ (answer : Answer). answer
    ≡ c_conversion_answer (c_query_table e) c.in-Some.options c.args.from.now c.args.to.now)) c.deref_mut.ensures.value
    c.answer_conversion-answered.ensures.answer))
