-- Plans over a deck.
use Rattle.std.proofs.Common.{◌≡◌, ◌+◌, ◌++◌, ◌&&◌, ◌||◌, ℕ, List, [], Bool, true, false, not, is_some, Some, unwrap_or}
use Rattle.std.proofs.Common.{Option, Result, IfOk, refl, sym, ap, subst, ◌∙◌, if◌then◌else◌}
use Rattle.units_io.specs.FileMap.{FileMap}
use Rattle.def_entry.specs.Tables.{EntryTable}
use Rattle.command_line.specs.declared.fields.CommandLine.{CommandLine}
use Rattle.deck.specs.Decks.{DeckContents}
use Rattle.deck.specs.Tables.{table_of_deck}
use Rattle.live_table.specs.TableView.{IsAfterLiveEvents, LiveView}
use Rattle.live_table.specs.States.{LiveEvent}
use Rattle.reply.specs.declared.options.Options.{Options}
use Rattle.reply.specs.declared.reply.Reply.{Reply}
use Rattle.reply.specs.Options.{reply_style}
use Rattle.session.specs.Lines.{session_lines_of_texts}
use Rattle.session.specs.Queries.{LeavesSessionTableLaw, fresh_session_table, names_settled_in_session}
use Rattle.session.specs.declared.session_output.OutputBuffers.{OutputBuffers}
use Rattle.survey.specs.ConversionReplies.{SurveyedReply}
use Rattle.survey.specs.Checks.{check_report, check_queries}
use Rattle.units_run.specs.CommandReply.{run_reply_for}
use Rattle.units_run.specs.Checks.{planned_check_report}
use Rattle.units_run.specs.Options.{run_options}
use Rattle.units_run.specs.ProgramPlans.{IsPlan, IsPossiblePlan}
use Rattle.units_run.specs.Work.{from_plan, plan_of_check, plan_of_reply, plan_of_work, planned_check_lines}
use Rattle.def_lines.specs.Lines.{line_content}
use Rattle.units_run.specs.declared.check_plan.CheckPlan.{CheckPlan}
use Rattle.units_run.specs.declared.plan.Plan.{Plan}
use Rattle.units_run.specs.declared.plan.Plan.TheVariants.{Whole, Check}
use Rattle.units_run.specs.declared.status.Status.{Status}
use Rattle.units_run.specs.declared.status.Status.TheVariants.{Done, Refused}

-- equal options and texts have the same reply and queries
pub run_reply_for_equal_texts : (t : EntryTable) (a b : Options) (from from_too to to_too : List ℕ) → a ≡ b
    → from ≡ from_too → to ≡ to_too
    → run_reply_for t a from to ≡ run_reply_for t b from_too to_too
run_reply_for_equal_texts t a b from from_too to to_too o f g =
    ap (λ (x : Options). run_reply_for t x from to) o
    ∙ (ap (λ (x : List ℕ). run_reply_for t b x to) f ∙ ap (λ (x : List ℕ). run_reply_for t b from_too x) g)

-- the plan of a command line is of the kind that its words lead to
pub plan_kind_of_words : {E : Type 0} (result : Result Plan E) (from : Option (List ℕ)) (check : Bool)
    (column : Option ℕ)
    (session converts : Bool) → not (is_some from || check) ≡ session → (is_some from && is_some column) ≡ converts
    → IfOk result (IsPossiblePlan true false session converts)
    → IfOk result (IsPossiblePlan true false (not (is_some from || check)) (is_some from && is_some column))
plan_kind_of_words result from check column session converts is has kind =
    subst (λ (s : Bool). IfOk result (IsPossiblePlan true false s (is_some from && is_some column))) (sym is)
    (subst (λ (b : Bool). IfOk result (IsPossiblePlan true false session b)) (sym has) kind)

-- the plan for a FROM that is given, from its column
pub plan_of_given_from : (line : CommandLine) (deck : DeckContents) (m : FileMap) (from word : List ℕ)
    (column : Option ℕ)
    → line.from ≡ Some word → from ≡ word → line.column ≡ column
    → from_plan column line (line_content from) (line_content (unwrap_or line.to [])) deck ≡ plan_of_work line.from line
    deck
    m
plan_of_given_from line deck m from word column stands same is =
    ap (λ (c : Option ℕ). from_plan c line (line_content from) (line_content (unwrap_or line.to [])) deck) (sym is)
    ∙ ap (λ (f : List ℕ). plan_of_work (Some f) line deck m) same
    ∙ ap (λ (f : Option (List ℕ)). plan_of_work f line deck m) (sym stands)

module _ (law : LeavesSessionTableLaw) (deck : DeckContents) (before after : LiveView) (old new : ℕ)
    (is : before ≡ fresh_session_table deck)
    (m : FileMap) where
  -- the steps of queries of a table in which no name is settled
  queries-counted : (es : List LiveEvent) → IsAfterLiveEvents es before after old new
      → new ≡ old + names_settled_in_session es (fresh_session_table deck)
  queries-counted es follows =
      (law es (fresh_session_table deck) after old new
      (subst (λ (s : LiveView). IsAfterLiveEvents es s after old new) is follows)).steps

  -- the plan of a reply
  pub reply-planned : (asked : SurveyedReply) (reply : Reply) (buffers : OutputBuffers) (status : Status)
      → (reply ≡ asked.reply) × IsAfterLiveEvents asked.queries before after old new → buffers.out.items ≡ reply.text
      → buffers.err.items ≡ session_lines_of_texts deck.notices → status ≡ (if reply.refused then Refused else Done)
      → IsPlan (plan_of_reply deck asked) m (Whole buffers status) old new
  reply-planned asked reply buffers status answer out err ends = record {
    out = out ∙ ap (λ (r : Reply). r.text) answer.0;
    err = err;
    status_is = ends ∙ ap (λ (r : Reply). if r.refused then Refused else Done) answer.0;
    steps = queries-counted asked.queries answer.1;
  }

-- the plan of a check
pub check_is_planned : (line : CommandLine) (plan : CheckPlan) (m : FileMap) (n : ℕ)
    → plan.table ≡ fresh_session_table plan.table.deck
    → plan.notices.items ≡ session_lines_of_texts plan.table.deck.notices
    → plan.options ≡ run_options line → IsPlan (plan_of_check line plan.table.deck) m (Check plan) n n
check_is_planned line plan m n is noticed options =
    let deck = plan.table.deck in
    let report : planned_check_lines line deck ≡ planned_check_report plan =
    ap (λ (ls : List ℕ). ls ++ check_report (table_of_deck deck) (reply_style (run_options line))) (sym noticed)
    ∙ ap (λ (o : Options). plan.notices.items ++ check_report (table_of_deck deck) (reply_style o)) (sym options) in
    record {
      out = report;
      err = refl;
      status_is = refl;
      asks = ap (names_settled_in_session (check_queries (table_of_deck deck))) (sym is);
      steps = refl;
    }
