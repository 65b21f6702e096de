use Rattle.std.proofs.Common.{◌≡◌, ℕ, ◌&&◌, ◌||◌, ◌==◌, nat_eq, Bool, List, sym, ap, ◌∙◌}
use Rattle.wm_desc.specs.Sorted.{has_key}
use Rattle.wm_law.specs.Counts.{is_waiting}
use Rattle.wm_law.specs.declared.job.Job.{Job}
use Rattle.wm_law.specs.declared.state.State.{State}
use Rattle.wm_ordered.specs.Ordered.{key_of}
use Rattle.wm_tables.specs.Restart.{is_used, is_taken}
use Rattle.wm_restart.proofs.Tests.{list_any-pushed}
use Rattle.wm_restart.proofs.Waits.{waits_as}
use Rattle.wm_restart.proofs.reading.Reading.put.Goals as goal

abbrev has : ℕ → List (ℕ × Unit {0}) → Bool
has n items = has_key key_of nat_eq n items

pub mark-requires-clause-new : goal.mark-requires-clause-new
mark-requires-clause-new c = λ _.
    ap (has c.get-number.result) c.in_ok-reserve.ensures.items
    ∙ (c.self.invariant.numbers c.get-number.result
    ∙ (ap (λ (s : State). is_used c.get-number.result s.jobs) c.self.view_is
    ∙ (ap (λ (n : ℕ). is_used n c.args.self.now.jobs) c.get-number.ensures.value ∙ c.requires.number)))

pub mark-requires-2-clause-new : goal.mark-requires-2-clause-new
mark-requires-2-clause-new c = λ w.
    ap (has c.args.job.place) c.in_ok-reserve-2.ensures.items
    ∙ (c.self.invariant.places c.args.job.place
    ∙ (ap (λ (s : State). is_taken c.args.job.place s.jobs) c.self.view_is ∙ c.requires.place (c.waits-waiting.ensures.0 w)))

pub invariant_of-self-2 : goal.invariant_of-self-2
invariant_of-self-2 c =
    let old = c.self.inside.jobs.items in
    let job : Job = c.in_ok-job_of.field-0 in
    record {
      numbers = λ n. (
          let number : c.get-number.result ≡ job.job.number = c.get-number.ensures.value ∙ ap (λ (j : Job). j.job.number) (sym c.in_ok-job_of.ensures) in
          c.mark.ensures n
          ∙ (ap (λ b. (nat_eq c.get-number.result n) || b) (ap (has n) c.in_ok-reserve.ensures.items ∙ c.self.invariant.numbers n)
          ∙ (ap (λ (m : ℕ). (m == n) || is_used n old) number
          ∙ (sym (list_any-pushed (λ (k : Job). k.job.number == n) old job) ∙ ap (is_used n) (sym c.in_ok-push.ensures.items)))));
      places = λ n. (
          let place : c.args.job.place ≡ job.place = ap (λ (j : Job). j.place) (sym c.in_ok-job_of.ensures) in
          let waits : c.waits-waiting.result ≡ is_waiting job.phase = waits_as c.args.job.phase c.waits-waiting.result c.waits-waiting.ensures ∙ ap (λ (j : Job). is_waiting j.phase) (sym c.in_ok-job_of.ensures) in
          c.mark-2.ensures n
          ∙ (ap (λ b. (c.waits-waiting.result && nat_eq c.args.job.place n) || b) (ap (has n) c.in_ok-reserve-2.ensures.items ∙ c.self.invariant.places n)
          ∙ (ap (λ (m : ℕ). (c.waits-waiting.result && (m == n)) || is_taken n old) place
          ∙ (ap (λ b. (b && (job.place == n)) || is_taken n old) waits
          ∙ (sym (list_any-pushed (λ (k : Job). is_waiting k.phase && (k.place == n)) old job) ∙ ap (is_taken n) (sym c.in_ok-push.ensures.items))))));
    }
