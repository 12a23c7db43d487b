use Rattle.std.proofs.Common.{sym, ap, ◌∙◌, ◌+◌, ◌-◌, suc, option_map}
use Rattle.def_entry.specs.Options.{most_options, options_at, options_from}
use Rattle.def_entry.specs.LineViews.{seen_options, seen_options_and_rest}
use Rattle.def_entry.specs.Steps.{◌>>=◌}
use Rattle.def_entry.proofs.Choices.{begins_with_option-choice_at, next_option-none, next_option-some, next_option-end}
use Rattle.def_entry.proofs.options.options_at.Goals as goal

pub returns-in-None : goal.returns-in-None
returns-in-None c =
    next_option-none most_options c.loop.counter (seen_options c.loop.options) c.loop.rest.now
    c.trim_front-rest.result.now
    c.choice_at.result (options_at c.args.text.now) c.loop-test.true
    c.loop.invariant c.trim_front-rest.ensures c.choice_at.ensures c.in-None.is

pub behind-requires : goal.behind-requires
behind-requires c =
    begins_with_option-choice_at c.trim_front-rest.result.now c.choice_at.result c.in-Some.choice c.choice_at.ensures
    c.in-Some.is

pub returns-in_err-rest-in-Some : goal.returns-in_err-rest-in-Some
returns-in_err-rest-in-Some c =
    let whole = next_option-some most_options c.loop.counter
    (seen_options c.loop.options) c.loop.rest.now c.trim_front-rest.result.now c.behind.result.now
    c.choice_at.result c.in-Some.choice
    (option_map (λ b. (seen_options c.add.new.self, b.now)) c.add.result) (options_at c.args.text.now) c.loop-test.true
    c.loop.invariant c.trim_front-rest.ensures c.choice_at.ensures c.in-Some.is c.behind.ensures c.add.ensures in
    let e = c.in_err-rest-in-Some.was {u = tt} in
    ap (option_map seen_options_and_rest) c.from_residual.ensures
    ∙ ap (λ r. option_map (λ b. (seen_options c.add.new.self, b.now)) r
    >>= (λ f. options_from (suc most_options - (c.loop.counter + 1)) f.0 f.1)) (sym e) ∙ whole

pub loop-preserved : goal.loop-preserved
loop-preserved c =
    let whole = next_option-some most_options c.loop.counter
    (seen_options c.loop.options) c.loop.rest.now c.trim_front-rest.result.now c.behind.result.now
    c.choice_at.result c.in-Some.choice
    (option_map (λ b. (seen_options c.add.new.self, b.now)) c.add.result) (options_at c.args.text.now) c.loop-test.true
    c.loop.invariant c.trim_front-rest.ensures c.choice_at.ensures c.in-Some.is c.behind.ensures c.add.ensures in
    let e = c.in_ok-rest-in-Some.was {u = tt} in
    ap (λ r. option_map (λ b. (seen_options c.add.new.self, b.now)) r
    >>= (λ f. options_from (suc most_options - (c.loop.counter + 1)) f.0 f.1)) (sym e) ∙ whole

pub returns : goal.returns
returns c = next_option-end most_options c.loop.counter (seen_options c.loop.options) c.loop.rest.now
    (options_at c.args.text.now) c.loop-test.false c.loop.invariant
