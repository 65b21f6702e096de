-- A legal history orders no serial to start twice, and none to be killed twice.
use Rattle.std.proofs.Common.{◌≡◌, ℕ, ◌≤◌, ◌==◌, ◌&&◌, Bool, true, false, cond, map, List, Option, Some, None, refl, sym, ap, subst, ◌∙◌, arith, []}
use Rattle.std.specs.Option.{option_and_then}
use Rattle.std.proofs.lemmas.Bool.{eq-eqb, and_parts}
use Rattle.wm_base.specs.declared.job.Asked.{Asked}
use Rattle.wm_base.specs.declared.job.Asked.TheVariants.{Start, Kill}
use Rattle.wm_base.specs.declared.job.StartOrder.{StartOrder}
use Rattle.wm_base.specs.declared.job.Class.{Class}
use Rattle.wm_base.specs.declared.job.How.{How}
use Rattle.wm_base.specs.declared.job.How.TheVariants.{NotYet, FromQueue, Auto, Pre}
use Rattle.wm_base.specs.declared.qname.QName.{QName}
use Rattle.wm_law.specs.declared.call.Call.{Call}
use Rattle.wm_law.specs.declared.call.Reply.{Reply}
use Rattle.wm_law.specs.declared.call.Reply.TheVariants.{Order}
use Rattle.wm_law.specs.declared.job.Job.{Job}
use Rattle.wm_law.specs.declared.job.Phase.{Phase}
use Rattle.wm_law.specs.declared.job.Phase.TheVariants.{Waiting, Starting, Handed, Running, Ended}
use Rattle.wm_law.specs.declared.job.Wish.{Wish}
use Rattle.wm_law.specs.declared.job.Wish.TheVariants as wish
use Rattle.wm_desc.specs.declared.description.Program.{Program}
use Rattle.wm_desc.specs.declared.entry.RouteEntry.{RouteEntry}
use Rattle.wm_law.specs.declared.state.State.{State}
use Rattle.wm_law.specs.Counts.{is_active, is_starting}
use Rattle.wm_law.specs.Jobs.{active_at, with_active}
use Rattle.wm_law.specs.Kept.{IsLater, phase_rank, wish_rank, start_told, kill_told, SerialsStartOnce, SerialsAreKilledOnce}
use Rattle.wm_law.specs.Launch.{order_of, order_by, order_through, order_called, order_with, route_entry, called_program, called_args, order_pre, pre_entry}
use Rattle.wm_law.specs.Laws.{IsIn}
use Rattle.wm_law.specs.Stepped.{Stepped}
use Rattle.wm_law.specs.Reports.{in_phase, is_run_by, is_to_kill, with_kill, with_phase}
use Rattle.wm_law.specs.Wishes.{handed_wish, is_unhanded}
use Rattle.wm_desc.specs.Table.{object_named}
use Rattle.wm_law.proofs.Alterations.{IsPlain}
use Rattle.wm_law.proofs.Changed.{in_changed}
use Rattle.wm_law.proofs.Members.{in_mapped}
use Rattle.wm_law.proofs.Moves.{HoldsAfterCalls, starting_rank}
use Rattle.wm_law.proofs.Once.{Orders, orders_once, told}
use Rattle.wm_desc.specs.declared.entry.PreEntry.{PreEntry}

with_serial : (pre : Bool) (j : Job) (args : List (List ℕ)) (p : Option Program) (c : Option Class) (o : StartOrder) → order_with pre j args p c ≡ Some o → o.serial ≡ j.serial
with_serial pre j args None c o e = absurd (cc)
with_serial pre j args (Some p) None o e = absurd (cc)
with_serial pre j args (Some p) (Some c) o e = cc

pre_serial : (s : State) (j : Job) (n : Option PreEntry) (o : StartOrder) → order_pre s j n ≡ Some o → o.serial ≡ j.serial
pre_serial s j None o e = absurd (cc)
pre_serial s j (Some n) o e = with_serial true j [] (object_named n.pgm s.objects.programs) (object_named n.cls s.objects.classes) o e

called_serial : (s : State) (j : Job) (n : RouteEntry) (q : Option QName) (o : StartOrder) → order_called s j n q ≡ Some o → o.serial ≡ j.serial
called_serial s j n None o e = absurd (cc)
called_serial s j n (Some q) o e = with_serial false j (called_args n j.rqsdta) (object_named q s.objects.programs) (object_named n.cls s.objects.classes) o e

through_serial : (s : State) (j : Job) (n : Option RouteEntry) (o : StartOrder) → order_through s j n ≡ Some o → o.serial ≡ j.serial
through_serial s j None o e = absurd (cc)
through_serial s j (Some n) o e = called_serial s j n (called_program n j.rqsdta) o e

-- an order to start has its job's serial
pub by_serial : (s : State) (j : Job) (h : How) (o : StartOrder) → order_by s j h ≡ Some o → o.serial ≡ j.serial
by_serial s j NotYet o e = absurd (cc)
by_serial s j (FromQueue sbs jobq pty seq) o e = through_serial s j (route_entry s sbs seq) o e
by_serial s j (Auto sbs seq) o e = through_serial s j (route_entry s sbs seq) o e
by_serial s j (Pre sbs pgm) o e = pre_serial s j (pre_entry s sbs pgm) o e

-- what a reply orders to start was handed
abbrev Hands : State → Stepped → Type 0
Hands s t = Orders (λ j. phase_rank j.phase) 1 start_told s t

handed_one : (s : State) (m : ℕ) (i : Job) (o : StartOrder) → IsIn i s.jobs → is_starting i.phase ≡ true → order_of s i ≡ Some o → Hands s (record { reply = Order (Start o); state = with_phase s i.serial (Handed m) })
handed_one s m i o k h f x e =
    let told_serial : o.serial ≡ x = cc in
    let same = sym (by_serial s i i.how o f) ∙ told_serial in
    record { job = i; before = k; serial = same; ranked = starting_rank i.phase h; later = record i { phase = Handed m }; now = in_changed (in_phase (Handed m)) i s.jobs k; same = same; past = omega arith }

none_told : (tell : Asked → Option ℕ) (reply : Reply) → IsPlain reply → (x : ℕ) → told tell reply ≡ Some x → ⊥
none_told tell reply p x e =
    let none : told tell reply ≡ None = ap (λ (o : Option Asked). option_and_then tell o) p.orders_none in
    absurd (cc)

hands_over : (s : State) (call : Call) → HoldsAfterCalls (Hands s) s call
hands_over s call = record {
  refuses = λ y x e. absurd (cc);
  nothing = λ n x e. absurd (cc);
  notes = λ x e. absurd (cc);
  hands = handed_one s;
  reports = λ serial j phase stopped i k r n fit x e. absurd (cc);
  starts = λ q k x e. absurd (cc);
  enters = λ user c d due has fit x e. absurd (cc);
  alters = λ reply change place p a fit x e. absurd (none_told start_told reply p x e);
  holds = λ reply held p a told fit x e. absurd (none_told start_told reply p x e);
  ends = λ reply change started stopped evokes power p a told kept x e. absurd (none_told start_told reply p x e);
  uses = λ reply change p u x e. absurd (none_told start_told reply p x e);
  waits = λ place evokes is x e. absurd (cc);
  prestarts = λ q d y can x e. absurd (cc);
  kills = λ m j i k x e. absurd (cc);
  makes = λ o c told fit x e. absurd (cc);
}

pub serials_start_once : SerialsStartOnce
serials_start_once s h n l = orders_once (λ (j : Job). phase_rank j.phase) 1 start_told (λ j k on. on.phase) hands_over s h n l

-- what a reply orders to kill was handed
abbrev Kills : State → Stepped → Type 0
Kills s t = Orders (λ j. wish_rank j.wish) 2 kill_told s t

unhanded_rank : (w : Wish) → is_unhanded w ≡ true → (wish_rank w ≡ 2) × (wish_rank (handed_wish w) ≡ 3)
unhanded_rank wish.NoWish e = absurd (cc)
unhanded_rank (wish.Later until why) e = absurd (cc)
unhanded_rank (wish.Now why true) e = absurd (cc)
unhanded_rank (wish.Now why false) e = (refl, refl)

run_active : (m : ℕ) (p : Phase) → is_run_by m p ≡ true → is_active p ≡ true
run_active m Waiting e = absurd (cc)
run_active m Starting e = absurd (cc)
run_active m (Handed n) e = absurd (cc)
run_active m (Running n) e = refl
run_active m (Ended c) e = absurd (cc)

active_here : (change : Job → Job) (i : Job) → is_active i.phase ≡ true → active_at i.serial change i ≡ change i
active_here change i a =
    let here : (is_active i.phase && i.serial == i.serial) ≡ true = ap (λ (b : Bool). b && i.serial == i.serial) a ∙ eq-eqb i.serial i.serial refl in
    ap (λ (b : Bool). cond b (change i) i) here

killed_one : (s : State) (m : ℕ) (i : Job) → IsIn i s.jobs → is_to_kill m i ≡ true → Kills s (record { reply = Order (Kill i.serial); state = with_active s i.serial with_kill })
killed_one s m i k h x e =
    let both = and_parts (is_run_by m i.phase) (is_unhanded i.wish) h in
    let ranks = unhanded_rank i.wish both.1 in
    let before = ranks.0 in
    let after = ranks.1 in
    let same : i.serial ≡ x = cc in
    let there = in_mapped (active_at i.serial with_kill) s.jobs i k in
    record {
      job = i;
      before = k;
      serial = same;
      ranked = before;
      later = with_kill i;
      now = subst (λ (j : Job). IsIn j (map (active_at i.serial with_kill) s.jobs)) (active_here with_kill i (run_active m i.phase both.0)) there;
      same = same;
      past = omega arith;
    }

no_kill : (s : State) (i : Job) (o : StartOrder) (x : ℕ) → told kill_told (Order (Start o)) ≡ Some x → ⊥
no_kill s i o x e = absurd (cc)

kills_over : (s : State) (call : Call) → HoldsAfterCalls (Kills s) s call
kills_over s call = record {
  refuses = λ y x e. absurd (cc);
  nothing = λ n x e. absurd (cc);
  notes = λ x e. absurd (cc);
  hands = λ m j o i k f x e. absurd (no_kill s j o x e);
  reports = λ serial j phase stopped i k r n fit x e. absurd (cc);
  starts = λ q k x e. absurd (cc);
  enters = λ user c d due has fit x e. absurd (cc);
  alters = λ reply change place p a fit x e. absurd (none_told kill_told reply p x e);
  holds = λ reply held p a told fit x e. absurd (none_told kill_told reply p x e);
  ends = λ reply change started stopped evokes power p a told kept x e. absurd (none_told kill_told reply p x e);
  uses = λ reply change p u x e. absurd (none_told kill_told reply p x e);
  waits = λ place evokes is x e. absurd (cc);
  prestarts = λ q d y can x e. absurd (cc);
  kills = λ m j i k. killed_one s m j i k;
  makes = λ o c told fit x e. absurd (cc);
}

wish_climbs : (j k : Job) → IsLater j k → wish_rank j.wish ≤ wish_rank k.wish
wish_climbs j k on = let w = on.wish in w.rank

pub serials_are_killed_once : SerialsAreKilledOnce
serials_are_killed_once s h n l = orders_once (λ (j : Job). wish_rank j.wish) 2 kill_told wish_climbs kills_over s h n l
