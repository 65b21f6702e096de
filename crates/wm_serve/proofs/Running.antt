-- Seats between moments: nothing, and one thing after another.
use Rattle.std.proofs.Common.{◌≡◌, ◌⊎◌, ◌∙◌, ℕ, ◌≤◌, List, [], ◌∷◌, length, length-append, Some, sym, subst, ap, inl, inr, arith}
use Rattle.std.specs.List.{AllZip}
use Rattle.std.proofs.lemmas.Option.{same_Some}
use Rattle.wm_traits.specs.Cause.{raised}
use Rattle.wm_law.specs.declared.call.Entry.{Entry}
use Rattle.wm_floor.specs.Floor.{Floored, IsSame, Seen}
use Rattle.wm_floor.specs.Lists.{Extends, since}
use Rattle.wm_floor.specs.declared.monitor_fault.MonitorFault.{MonitorFault}
use Rattle.wm_floor.specs.MonitorCauses.{IsCaused}
use Rattle.wm_floor.proofs.MonitorCauses.{IsCaused-since}
use Rattle.wm_serve.specs.Connections.{DeskServes, MakesCommands}
use Rattle.wm_floor.specs.Attends.{MonitorAttends}
use Rattle.wm_serve.specs.Seats.{IsLater, MonitorRuns, Runs, Sits, Tellers, WorkerRuns}
use Rattle.wm_serve.specs.declared.seat.MonitorSeat.{MonitorSeat}
use Rattle.wm_serve.specs.declared.seat.Seat.{Seat}
use Rattle.wm_serve.specs.declared.seat.Seat.TheVariants.{Worker, Closer, Monitor}
use Rattle.wm_serve.specs.declared.seat.WorkerSeat.{WorkerSeat}
use Rattle.wm_floor.proofs.Attending.{attends_none, attends_then}
use Rattle.wm_serve.proofs.Commands.{commands_none, commands_then}
use Rattle.wm_serve.proofs.Looking.{looked_none, same_none, same_then}
use Rattle.wm_serve.proofs.Connected.{DeskServes-none, DeskServes-then}

longer_by : {A : Type 0} (old new : List A) → Extends old new → length old ≤ length new
longer_by old new h = omega (arith, ap (λ (l : List _). length l) h, length-append old (since old new))

-- a cause stands later too
IsCaused-till : (e : MonitorFault) (a b c m n o : ℕ) (seen more : List Entry) → IsCaused a b m n seen e → b ≤ c → n ≤ o → length seen ≤ length more → IsCaused a c m o more e
IsCaused-till e a b c m n o seen more h fewer less longer = record {
  wait = λ is. (let r = h.wait is in omega arith);
  keeper = λ is. (let r = h.keeper is in omega arith);
  full = λ k is. (let f = h.full k is in (f.0, omega (arith, f.1)));
}

-- a count that rose in either part rose in both
rose_then : {P Q : Type 0} (a b c : ℕ) → (P ⊎ (raised b ≤ c)) → (P → Q ⊎ (raised a ≤ b)) → IsLater a b → IsLater b c → Q ⊎ (raised a ≤ c)
rose_then a b c (inr r) k low high = inr (omega arith)
rose_then {P} {Q} a b c (inl p) k low high = go (k p)
  where
    go : Q ⊎ (raised a ≤ b) → Q ⊎ (raised a ≤ c)
    go (inl q) = inl q
    go (inr r) = inr (omega arith)

module _ {K D P C : Type 0} (t : Tellers D P) (f : Floored K) where
  worker_then : (a b c : WorkerSeat K D C) → WorkerRuns t f a b → WorkerRuns t f b c → WorkerRuns t f a c
  worker_then a b c h k =
      let mid : k.from ≡ h.to = same_Some k.from h.to (sym k.had ∙ h.has) in
      record {
        from = h.from;
        to = k.to;
        had = h.had;
        has = k.has;
        same = same_then h.from h.to k.to h.same (subst (λ (p : Seen K). IsSame p k.to) mid k.same);
        served = DeskServes-then f.opening (t.had a.desk) (t.had b.desk) (t.had c.desk) h.from h.to k.to h.served (subst (λ (p : Seen K). DeskServes f.opening (t.had b.desk) (t.had c.desk) p k.to) mid k.served);
        commands = commands_then h.from h.to k.to h.commands (subst (λ (p : Seen K). MakesCommands p k.to) mid k.commands);
        dries = let x = h.dries in let y = k.dries in omega arith;
        dry = λ is. rose_then (t.dries a.desk) (t.dries b.desk) (t.dries c.desk) (k.dry is) h.dry h.dries k.dries;
        looks = let x = h.looks in let y = k.looks in omega arith;
        failed = λ is. rose_then (t.looks a.desk) (t.looks b.desk) (t.looks c.desk) (k.failed is) h.failed h.looks k.looks;
      }

  monitor_then : (a b c : MonitorSeat K P C) → MonitorRuns t f a b → MonitorRuns t f b c → MonitorRuns t f a c
  monitor_then a b c h k = record { from = h.from; to = k.to; had = h.had; has = k.has; part = attends_then f h.from h.to k.to _ _ _ h.part second; cause = cause; told = k.told }
    where
      mid : k.from ≡ h.to
      mid = same_Some k.from h.to (sym k.had ∙ h.has)

      second : MonitorAttends t.asked t.told t.misses t.faults f h.to b.monitor b.spawner k.to c.monitor c.spawner
      second = subst (λ (p : Seen K). MonitorAttends t.asked t.told t.misses t.faults f p b.monitor b.spawner k.to c.monitor c.spawner) mid k.part

      Caused : MonitorFault → Type 0
      Caused fault = (a.fault ≡ Some fault) ⊎ IsCaused (t.faults a.spawner) (t.faults c.spawner) h.from.mark k.to.mark k.to.seen fault

      first : (fault : MonitorFault) → (a.fault ≡ Some fault) ⊎ IsCaused (t.faults a.spawner) (t.faults b.spawner) h.from.mark h.to.mark h.to.seen fault → Caused fault
      first fault (inl was) = inl was
      first fault (inr cause) = inr (IsCaused-till fault _ _ _ _ _ _ h.to.seen k.to.seen cause second.part.faults second.part.pass.mark (longer_by h.to.seen k.to.seen second.part.pass.seen))

      by : (fault : MonitorFault) → (b.fault ≡ Some fault) ⊎ IsCaused (t.faults b.spawner) (t.faults c.spawner) k.from.mark k.to.mark k.to.seen fault → Caused fault
      by fault (inl was) = first fault (h.cause fault was)
      by fault (inr cause) = inr (IsCaused-since fault (t.faults a.spawner) (t.faults b.spawner) (t.faults c.spawner) h.from.mark k.from.mark k.to.mark k.to.seen cause h.part.part.faults (let m = h.part.part.pass.mark in omega (arith, ap (λ (p : Seen K). p.mark) mid)))

      cause : (fault : MonitorFault) → c.fault ≡ Some fault → Caused fault
      cause fault is = by fault (k.cause fault is)

  pub runs_then : (a b c : Seat K D P C) → Runs t f a b → Runs t f b c → Runs t f a c
  runs_then (Worker a) (Worker b) (Worker c) h k = worker_then a b c h k
  runs_then (Closer a) (Closer b) (Closer c) h k = tt
  runs_then (Monitor a) (Monitor b) (Monitor c) h k = monitor_then a b c h k
  runs_then (Worker a) (Worker b) (Closer c) h k = absurd k
  runs_then (Worker a) (Worker b) (Monitor c) h k = absurd k
  runs_then (Worker a) (Closer b) c h k = absurd h
  runs_then (Worker a) (Monitor b) c h k = absurd h
  runs_then (Closer a) (Closer b) (Worker c) h k = absurd k
  runs_then (Closer a) (Closer b) (Monitor c) h k = absurd k
  runs_then (Closer a) (Worker b) c h k = absurd h
  runs_then (Closer a) (Monitor b) c h k = absurd h
  runs_then (Monitor a) (Monitor b) (Worker c) h k = absurd k
  runs_then (Monitor a) (Monitor b) (Closer c) h k = absurd k
  runs_then (Monitor a) (Worker b) c h k = absurd h
  runs_then (Monitor a) (Closer b) c h k = absurd h

  -- nothing was done
  pub runs_none : (s : Seat K D P C) → Sits t f s → Runs t f s s
  runs_none (Worker w) h = record {
    from = h.pass;
    to = h.pass;
    had = h.its;
    has = h.its;
    same = same_none h.pass;
    served = DeskServes-none f.opening (t.had w.desk) h.pass h.pass (looked_none h.pass);
    commands = commands_none h.pass;
    dries = omega arith;
    dry = λ is. inl is;
    looks = omega arith;
    failed = λ is. inl is;
  }
  runs_none (Closer c) h = tt
  runs_none (Monitor m) h = record { from = h.0.pass; to = h.0.pass; had = h.0.its; has = h.0.its; part = attends_none f h.0.pass _ h.0.own; cause = λ fault is. inl is; told = h.1 }

  pub all_then : (xs ys zs : List (Seat K D P C)) → AllZip (Runs t f) xs ys → AllZip (Runs t f) ys zs → AllZip (Runs t f) xs zs
  all_then [] [] [] h k = tt
  all_then [] [] (z ∷ zs) h k = absurd k
  all_then [] (y ∷ ys) zs h k = absurd h
  all_then (x ∷ xs) [] zs h k = absurd h
  all_then (x ∷ xs) (y ∷ ys) [] h k = absurd k
  all_then (x ∷ xs) (y ∷ ys) (z ∷ zs) h k = (runs_then x y z h.0 k.0, all_then xs ys zs h.1 k.1)
