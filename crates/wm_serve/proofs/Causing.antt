-- Why a thread was ended: what rose, or how long the history is.
use Rattle.std.proofs.Common.{◌≡◌, ◌⊎◌, ℕ, ◌≤◌, List, [], ◌∷◌, All, fold, length, map, Option, Some, None, refl, inl, inr, arith}
use Rattle.std.specs.List.{AllZip}
use Rattle.std.proofs.lemmas.List.Elements.{All-head, All-tail}
use Rattle.std.proofs.lemmas.Option.{same_Some}
use Rattle.wm_traits.specs.Cause.{raised}
use Rattle.wm_law.specs.declared.call.Entry.{Entry}
use Rattle.wm_floor.specs.Floor.{Floored, Seen}
use Rattle.wm_floor.specs.declared.monitor_fault.MonitorFault.{MonitorFault}
use Rattle.wm_floor.specs.declared.monitor_fault.MonitorFault.TheVariants as monitor_fault
use Rattle.wm_floor.specs.MonitorCauses.{IsCaused}
use Rattle.wm_serve.specs.Ending.{IsSeatHalt}
use Rattle.wm_serve.specs.Halts.{halt_of_monitor, lesser, monitor_halt, seat_halt, worker_halt}
use Rattle.wm_serve.specs.Seating.{entered, given, left, seated, with_pass}
use Rattle.wm_serve.specs.Seats.{IsFresh, Runs, Tellers}
use Rattle.wm_serve.specs.Server.{AnyZip, DeskRose, SpawnerRose}
use Rattle.wm_serve.specs.declared.halt.Halt.{Halt}
use Rattle.wm_serve.specs.declared.halt.Halt.TheVariants.{WriteFault, KeeperFault, NoMemory, LogFull, WaitFault, ListenFault}
use Rattle.wm_serve.specs.declared.seat.Seat.{Seat}
use Rattle.wm_serve.specs.declared.seat.Seat.TheVariants.{Worker, Closer, Monitor}
use Rattle.wm_serve.specs.declared.worker.Stopped.{Stopped}
use Rattle.wm_serve.specs.declared.worker.Stopped.TheVariants as stopped
use Rattle.wm_serve.proofs.Leaving.{own_mark, own_seen}

-- The least of the seats' faults is one of them

pub lesser_either : (a b : Option Halt) (h : Halt) → lesser a b ≡ Some h → (a ≡ Some h) ⊎ (b ≡ Some h)
lesser_either None b h is = inr is
lesser_either (Some x) None h is = inl is
lesser_either (Some x) (Some y) h is = grind (arith)

module _ {K D P C : Type 0} where
  pub halt_among : (least : Option Halt) (xs : List (Seat K D P C)) (h : Halt) → fold (λ l s. lesser l (seat_halt s)) least xs ≡ Some h → (least ≡ Some h) ⊎ IsSeatHalt xs h
  halt_among least [] h is = inl is
  halt_among least (x ∷ xs) h is = by (halt_among (lesser least (seat_halt x)) xs h is)
    where
      one : (least ≡ Some h) ⊎ (seat_halt x ≡ Some h) → (least ≡ Some h) ⊎ IsSeatHalt (x ∷ xs) h
      one (inl k) = inl k
      one (inr k) = inr (inl k)

      by : (lesser least (seat_halt x) ≡ Some h) ⊎ IsSeatHalt xs h → (least ≡ Some h) ⊎ IsSeatHalt (x ∷ xs) h
      by (inl k) = one (lesser_either least (seat_halt x) h k)
      by (inr k) = inr (inr k)

module _ {K D P C : Type 0} where
  pub halt_of_one : (xs : List (Seat K D P C)) (h : Halt) → fold (λ l s. lesser l (seat_halt s)) None xs ≡ Some h → IsSeatHalt xs h
  halt_of_one xs h is = by (halt_among None xs h is)
    where
      nothing : Option Halt
      nothing = None

      by : (nothing ≡ Some h) ⊎ IsSeatHalt xs h → IsSeatHalt xs h
      by (inl k) = absurd (cc)
      by (inr k) = k

-- The cause of a thread's fault, as it is told behind the end

-- what a fault comes to: a desk's or a spawner's count rose, pass 0's mark did, or the history is this long
pub record Comes (Desks Spawners : Type 0) (mark seen : ℕ) (h : Halt) : Type 0 where
  pub listen : h ≡ ListenFault → Desks
  pub wait : h ≡ WaitFault → Spawners
  pub keeper : h ≡ KeeperFault → 1 ≤ mark
  pub full : h ≡ LogFull → 4000000 ≤ seen
  pub unwritten : h ≡ WriteFault → ⊥

comes_of_monitor : {Desks Spawners : Type 0} (faults faults_now mark mark_now final long : ℕ) (seen : List Entry) (fault : MonitorFault) (h : Halt) → halt_of_monitor fault ≡ h → IsCaused faults faults_now mark mark_now seen fault → (raised faults ≤ faults_now → Spawners) → mark_now ≤ final → length seen ≤ long → Comes Desks Spawners final long h
comes_of_monitor f f' m m' final long seen monitor_fault.WaitFault h is c rose low short = record { listen = λ e. absurd (cc); wait = λ e. rose (c.wait refl); keeper = λ e. absurd (cc); full = λ e. absurd (cc); unwritten = λ e. absurd (cc) }
comes_of_monitor f f' m m' final long seen monitor_fault.KeeperFault h is c rose low short = record { listen = λ e. absurd (cc); wait = λ e. absurd (cc); keeper = λ e. (let k = c.keeper refl in omega arith); full = λ e. absurd (cc); unwritten = λ e. absurd (cc) }
comes_of_monitor f f' m m' final long seen (monitor_fault.LogFull n) h is c rose low short = record { listen = λ e. absurd (cc); wait = λ e. absurd (cc); keeper = λ e. absurd (cc); full = λ e. (let k = (c.full n refl).1 in omega arith); unwritten = λ e. absurd (cc) }
comes_of_monitor f f' m m' final long seen monitor_fault.NoMemory h is c rose low short = record { listen = λ e. absurd (cc); wait = λ e. absurd (cc); keeper = λ e. absurd (cc); full = λ e. absurd (cc); unwritten = λ e. absurd (cc) }

comes_of_worker : {Desks Spawners : Type 0} (mark seen : ℕ) (h : Halt) → ListenFault ≡ h → Desks → Comes Desks Spawners mark seen h
comes_of_worker mark seen h is rose = record { listen = λ e. rose; wait = λ e. absurd (cc); keeper = λ e. absurd (cc); full = λ e. absurd (cc); unwritten = λ e. absurd (cc) }

comes_of_memory : {Desks Spawners : Type 0} (mark seen : ℕ) (h : Halt) → NoMemory ≡ h → Comes Desks Spawners mark seen h
comes_of_memory mark seen h is = record { listen = λ e. absurd (cc); wait = λ e. absurd (cc); keeper = λ e. absurd (cc); full = λ e. absurd (cc); unwritten = λ e. absurd (cc) }

-- one more seat before the others
comes_more : {A B X Y : Type 0} (mark mark' seen seen' : ℕ) (h : Halt) → Comes A B mark seen h → (A → X) → (B → Y) → mark ≤ mark' → seen ≤ seen' → Comes X Y mark' seen' h
comes_more m m' s s' h c f g low short = record { listen = λ e. f (c.listen e); wait = λ e. g (c.wait e); keeper = λ e. (let k = c.keeper e in omega arith); full = λ e. (let k = c.full e in omega arith); unwritten = c.unwritten }

module _ {K D P C : Type 0} (t : Tellers D P) (f : Floored K) where
  abbrev pub Come : List (Seat K D P C) → List (Seat K D P C) → Seen K → Halt → Type 0
  Come xs ys p h = Comes (AnyZip (DeskRose t) xs (map (with_pass None) ys)) (AnyZip (SpawnerRose t) xs (map (with_pass None) ys)) (fold left p ys).mark (length (fold left p ys).seen) h

  one_comes : (x y : Seat K D P C) (xs ys : List (Seat K D P C)) (p q : Seen K) (h : Halt) → IsFresh t x → Runs t f (given p x) y → seat_halt y ≡ Some h → Come (x ∷ xs) (y ∷ ys) q h
  one_comes (Worker w) (Worker v) xs ys p q h fresh run is = by v.stopped refl is
    where
      by : (s : Option Stopped) → v.stopped ≡ s → worker_halt s ≡ Some h → Come (Worker w ∷ xs) (Worker v ∷ ys) q h
      by None e k = absurd (cc)
      by (Some stopped.Dry) e k = absurd (cc)
      by (Some stopped.Closed) e k = absurd (cc)
      by (Some stopped.NoMemory) e k = comes_of_memory _ _ h (same_Some NoMemory h k)
      by (Some stopped.Failed) e k = comes_of_worker _ _ h (same_Some ListenFault h k) (inl (rose (run.failed e)))
        where
          rose : (w.stopped ≡ Some stopped.Failed) ⊎ (raised (t.looks w.desk) ≤ t.looks v.desk) → raised (t.looks w.desk) ≤ t.looks v.desk
          rose (inl was) = absurd (cc (fresh.1.0))
          rose (inr r) = r
  one_comes (Worker w) (Closer c) xs ys p q h fresh run is = absurd run
  one_comes (Worker w) (Monitor m) xs ys p q h fresh run is = absurd run
  one_comes (Closer c) (Worker v) xs ys p q h fresh run is = absurd run
  one_comes (Closer c) (Closer d) xs ys p q h fresh run is = absurd (cc)
  one_comes (Closer c) (Monitor m) xs ys p q h fresh run is = absurd run
  one_comes (Monitor m) (Worker v) xs ys p q h fresh run is = absurd run
  one_comes (Monitor m) (Closer c) xs ys p q h fresh run is = absurd run
  one_comes (Monitor m) (Monitor n) xs ys p q h fresh run is = by n.fault refl is
    where
      by : (s : Option MonitorFault) → n.fault ≡ s → monitor_halt s ≡ Some h → Come (Monitor m ∷ xs) (Monitor n ∷ ys) q h
      by None e k = absurd (cc)
      by (Some fault) e k = caused (run.cause fault e)
        where
          caused : (m.fault ≡ Some fault) ⊎ IsCaused (t.faults m.spawner) (t.faults n.spawner) run.from.mark run.to.mark run.to.seen fault → Come (Monitor m ∷ xs) (Monitor n ∷ ys) q h
          caused (inl was) = absurd (cc (fresh.1.0))
          caused (inr c) = comes_of_monitor _ _ _ _ _ _ run.to.seen fault h (same_Some (halt_of_monitor fault) h k) c (λ r. inl r) (own_mark q (Monitor n) ys run.to run.has) (own_seen q (Monitor n) ys run.to run.has)

  pub seats_come : (xs ys : List (Seat K D P C)) (p q : Seen K) (h : Halt) → All (IsFresh t) xs → AllZip (Runs t f) (seated p xs) ys → IsSeatHalt ys h → Come xs ys q h
  seats_come [] [] p q h fresh run is = absurd is
  seats_come [] (y ∷ ys) p q h fresh run is = absurd run
  seats_come (x ∷ xs) [] p q h fresh run is = absurd run
  seats_come (x ∷ xs) (y ∷ ys) p q h fresh run (inl is) = one_comes x y xs ys p q h (All-head (IsFresh t) x xs fresh) run.0 is
  seats_come (x ∷ xs) (y ∷ ys) p q h fresh run (inr is) = comes_more _ _ _ _ h (seats_come xs ys (entered p x) (left q y) h (All-tail (IsFresh t) x xs fresh) run.1 is) inr inr (omega arith) (omega arith)
