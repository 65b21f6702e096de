-- Where the power isn't on any more, a PWRDWNSYS was accepted.
use Rattle.std.proofs.Common.{◌≡◌, ◌⊎◌, ◌∙◌, ℕ, ℤ, true, false, List, [], ◌∷◌, Option, Some, None, refl, sym, ap, inl, inr}
use Rattle.std.specs.Prelude.{codes}
use Rattle.wm_base.proofs.Iterate.{iterate-keeps}
use Rattle.wm_traits.specs.declared.row.Row.{Row}
use Rattle.wm_law.specs.History.{IsLegal, after, stepped}
use Rattle.wm_law.specs.Launch.{with_routed}
use Rattle.wm_law.specs.Laws.{IsIn}
use Rattle.wm_law.specs.Machine.{apply, change, step, with_clock}
use Rattle.wm_law.specs.Opening.{empty}
use Rattle.wm_law.specs.Power.{is_on}
use Rattle.wm_law.specs.Settling.{come_due, leave, ready, settle, waiting}
use Rattle.wm_law.specs.Stepped.{Stepped}
use Rattle.wm_law.specs.declared.call.Call.{Call}
use Rattle.wm_law.specs.declared.call.Call.TheVariants.{Change}
use Rattle.wm_law.specs.declared.call.Entry.{Entry}
use Rattle.wm_law.specs.declared.call.Reply.TheVariants.{Made, PowerDown}
use Rattle.wm_law.specs.declared.choice.Candidate.{Candidate}
use Rattle.wm_law.specs.declared.job.Job.{Job}
use Rattle.wm_law.specs.declared.state.State.{State}
use Rattle.wm_law.proofs.Moves.{HoldsAfterCalls, IsPutDown, autos_made, call_comes, prestart_keeps, started_keeps}
use Rattle.wm_law.proofs.Opened.{opening_is}
use Rattle.wm_law.proofs.Supplies.{IsSupplied, supplied_keeps}
use Rattle.wm_rows.specs.declared.stored.Counter.{Counter}
use Rattle.wm_rows.specs.declared.stored.Counter.TheVariants as counter
use Rattle.wm_tables.specs.Restart.{IsRead, IsRestart, Takes, with_counter}
use Rattle.wm_tables.proofs.Made.{row_holds}
use Rattle.wm_serve.specs.Over.{PutsDown}

-- One call

-- the power is as it was, unless the call is a PWRDWNSYS that is accepted
abbrev KeepsPower : State → Call → Stepped → Type 0
KeepsPower s call t = (t.state.power ≡ s.power) ⊎ IsPutDown call t.reply

-- prestart jobs leave the power
supplied_power : (s : State) → IsSupplied (λ t. t.power ≡ s.power)
supplied_power s = record { makes = λ q d e t can p. p; assigns = λ t q pgm job evokes can p. p }

calls_keep : (s : State) (call : Call) → HoldsAfterCalls (KeepsPower s call) s call
calls_keep s call = record {
  refuses = λ x. inl refl;
  nothing = λ n. inl refl;
  notes = inl refl;
  hands = λ m j o i e f. inl refl;
  reports = λ serial j phase stopped i e r n fit. inl refl;
  starts = λ q k. inl (started_keeps (λ t. t.power ≡ s.power) s q k (supplied_power s) (autos_made (λ t. t.power ≡ s.power) s q k (λ t e d m p. p) refl));
  enters = λ user c d due has fit. inl refl;
  alters = λ reply change place p a fit. inl refl;
  holds = λ reply held p a told fit. inl refl;
  ends = λ reply change started stopped evokes power p e told kept. kept;
  uses = λ reply change p u. inl refl;
  waits = λ place evokes is. inl refl;
  prestarts = λ q d e can. inl (prestart_keeps (λ t. t.power ≡ s.power) s q d e can (supplied_power s) refl);
  kills = λ m j i k. inl refl;
  makes = λ o c told fit. inl refl;
}

applied_power : (s : State) (caller : ℕ) (call : Call) → KeepsPower s call (apply s caller call)
applied_power s caller call = call_comes (KeepsPower s call) s caller call (calls_keep s call)

-- What settles

launched_power : (s : State) (c : Candidate) (o : Option Job) → (with_routed s c o).power ≡ s.power
launched_power s c None = refl
launched_power s c (Some j) = refl

settled_power : (s : State) → (settle s).power ≡ s.power
settled_power s =
    let t = ready s in
    iterate-keeps (λ u. u.power ≡ s.power) (record { by_step = λ u c e h. launched_power u c _ ∙ h }) (waiting t) t (supplied_keeps (λ u. u.power ≡ s.power) (supplied_power s) (leave (come_due s)) refl)

stepped_power : (s : State) (caller : ℕ) (call : Call) (moment : ℕ) → KeepsPower s call (step s caller call moment)
unfolding step
stepped_power s caller call moment =
    elim (applied_power (with_clock s moment) caller call) as (λ _. KeepsPower s call (step s caller call moment)) [
      | inl same ↦ inl (settled_power (apply (with_clock s moment) caller call).state ∙ same)
      | inr put ↦ inr put
    ]

-- A history

-- where the power was on before it, and isn't on behind it, a PWRDWNSYS is accepted in it
pub power_was_put_down : (s : State) (log : List Entry) → IsLegal s log → is_on s.power ≡ true → is_on (after s log).power ≡ false → (e : Entry) × IsIn e log × PutsDown e
power_was_put_down s [] legal on off = absurd (cc)
power_was_put_down s (e ∷ es) legal on off =
    elim (stepped_power s e.caller e.call e.moment) as (λ _. (d : Entry) × IsIn d (e ∷ es) × PutsDown d) [
      | inl same ↦ (let rest = power_was_put_down (stepped s e).state es legal.1 (ap is_on same ∙ on) off in (rest.0, inr rest.1, rest.2))
      | inr put ↦ (e, inl refl, record { user = put.user; command = put.c; call = put.call_is; reply = legal.0.reply ∙ put.reply_is })
    ]

-- What a machine opens with

counted_power : (s : State) (c : Counter) (n : ℕ) → (with_counter s c n).power ≡ s.power
counted_power s counter.Number n = refl
counted_power s counter.Place n = refl
counted_power s counter.Schema n = refl
counted_power s counter.Serial n = refl

taken_power : (s t : State) (row : Row) → Takes s row t → t.power ≡ s.power
taken_power s t row (inl m) =
    ap (λ (u : State). u.power) m.makes ∙ (elim (applied_power s 0 (Change (codes "QSYS") m.command)) as (λ _. (change s (codes "QSYS") m.command).state.power ≡ s.power) [
      | inl same ↦ same
      | inr put ↦ (let none : Made ≡ PowerDown = sym m.accepted ∙ put.reply_is in absurd (cc))
    ])
taken_power s t row (inr (inl h)) = let held = row_holds s h.queue h.accepted in ap (λ (u : State). u.power) (h.makes ∙ held.is_with)
taken_power s t row (inr (inr (inl e))) = ap (λ (u : State). u.power) e.makes
taken_power s t row (inr (inr (inr c))) = ap (λ (u : State). u.power) c.makes ∙ counted_power s c.counter c.count

read_power : (rows : List Row) (s t : State) → IsRead s rows t → t.power ≡ s.power
read_power [] s t read = ap (λ (u : State). u.power) read
read_power (row ∷ rows) s t read = read_power rows read.0 t read.2 ∙ taken_power s read.0 row read.1

-- its power is on
pub restart_is_on : (offset : ℤ) (rows : List Row) (s : State) → IsRestart offset rows s → is_on s.power ≡ true
restart_is_on offset [] s is = ap (λ (u : State). is_on u.power) (is ∙ opening_is offset)
restart_is_on offset (row ∷ rows) s good = ap is_on (read_power (row ∷ rows) (empty offset) s good.0.read)
