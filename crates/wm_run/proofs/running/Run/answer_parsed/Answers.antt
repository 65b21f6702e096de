use Rattle.std.proofs.Common.{◌≡◌, ◌∙◌, List, ℕ, inl, inr, refl, subst, sym, take}
use Rattle.wm_base.proofs.Lists.{on_err}
use Rattle.wm_traits.specs.Told.{Grows}
use Rattle.wm_run.specs.Answer.{fault_answer, is_fault}
use Rattle.wm_run.specs.Grown.{entries_between, seen_since, session_of}
use Rattle.wm_run.specs.Session.{AnswersParsed}
use Rattle.wm_run.specs.Stopped.{IsCutShort}
use Rattle.wm_run.specs.declared.parsed.Parsed.{Parsed}
use Rattle.wm_run.specs.declared.parsed.Parsed.TheVariants.{Fault}
use Rattle.wm_run.proofs.Downs.{up_uncalled}
use Rattle.wm_run.proofs.Servings.{serves_none}
use Rattle.wm_run.proofs.StoppedRuns.{Unanswered-none, no_call_none}
use Rattle.wm_run.proofs.running.Run.answer_parsed.Goals as goal

pub returns-in_err-put-in-Fault-clause-serves : goal.returns-in_err-put-in-Fault-clause-serves
returns-in_err-put-in-Fault-clause-serves g c = serves_none c.args.self.now _ c.requires.ready

pub returns-in_err-put-in-Fault-clause-stopped : goal.returns-in_err-put-in-Fault-clause-stopped
returns-in_err-put-in-Fault-clause-stopped g c =
    let o = g.O.Sink in
    let fault = c.in-Fault.fault in
    let history = session_of c.args.self.now in
    let some = c.in_err-put-in-Fault.ensures.some in
    let bytes : c.as_bytes.result.now ≡ fault_answer fault = c.as_bytes.ensures.value ∙ c.in_ok-line-in-Fault.ensures in
    let cut : IsCutShort (AnswersParsed c.args.user.now (Fault fault) history) (entries_between history history) (o.written c.args.out.now) (o.written c.put.new.out) =
    inr (record {
      due = fault_answer fault;
      faulty = is_fault fault;
      answers = record { none = no_call_none history; says = refl; fault = refl };
      count = some.0;
      written = subst (λ (b : List ℕ). Grows (o.written c.args.out.now) (o.written c.put.new.out) (take some.0 b)) bytes some.1;
    }) in
    on_err c.from_residual-in_err-put-in-Fault.result
    (subst (λ (r : Parsed). IsCutShort (AnswersParsed c.args.user.now r history) (entries_between history history) (o.written c.args.out.now) (o.written c.put.new.out)) (sym c.in-Fault.is) cut)

pub returns-in_err-line-in-Fault-clause-serves : goal.returns-in_err-line-in-Fault-clause-serves
returns-in_err-line-in-Fault-clause-serves g c = serves_none c.args.self.now _ c.requires.ready

pub returns-in_err-line-in-Fault-clause-stopped : goal.returns-in_err-line-in-Fault-clause-stopped
returns-in_err-line-in-Fault-clause-stopped g c = on_err _ (inl (Unanswered-none (session_of c.args.self.now) (g.O.Sink.written c.args.out.now)))

pub returns-in_ok-put-in-Fault-clause-serves : goal.returns-in_ok-put-in-Fault-clause-serves
returns-in_ok-put-in-Fault-clause-serves g c = serves_none c.args.self.now _ c.requires.ready

pub returns-in_err-refused-in-Read-clause-serves : goal.returns-in_err-refused-in-Read-clause-serves
returns-in_err-refused-in-Read-clause-serves g c = c.list.ensures.serves _

pub returns-in_ok-refused-in-Read-clause-serves : goal.returns-in_ok-refused-in-Read-clause-serves
returns-in_ok-refused-in-Read-clause-serves g c = c.list.ensures.serves _

pub returns-in_ok-refused-in-Read-clause-down : goal.returns-in_ok-refused-in-Read-clause-down
returns-in_ok-refused-in-Read-clause-down g c = c.uncalled-in-Read.ensures.up ∙ sym (up_uncalled (seen_since c.args.self.now c.list.new.self) c.list.ensures.uncalled)
