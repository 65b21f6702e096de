-- Why a server over its floor ended early.
use Rattle.std.proofs.Common.{◌≡◌, ◌⊎◌, ◌∙◌, ℕ, ◌≤◌, Bool, true, false, if◌then◌else◌, nat_lt, ◌<◌, List, length, Result, Ok, Err, IfErr, ap, refl, sym, subst, inl, inr, arith}
use Rattle.wm_law.specs.History.{is_monitor_call}
use Rattle.wm_law.specs.declared.call.Call.{Call}
use Rattle.wm_law.specs.declared.call.Call.TheVariants.{Change, Hand, Started, StartFailed, Finished, UseDone, Tick}
use Rattle.wm_floor.specs.Limit.{limit_of}
use Rattle.wm_floor.specs.declared.call_fault.CallFault.{CallFault}
use Rattle.wm_floor.specs.declared.call_fault.CallFault.TheVariants as call_fault
use Rattle.wm_floor.specs.Causes.{HasMarkCause}
use Rattle.wm_floor.specs.Floor.{IsCalled, Seen}
use Rattle.wm_floor.specs.declared.answer.Answered.{Answered}
use Rattle.wm_floor.specs.declared.opened.Opened.{Opened}
use Rattle.wm_serve.specs.Ending.{IsCallHalt, IsRoundsHalt, IsSeatHalt, IsServeHalt}
use Rattle.wm_serve.specs.Halts.{halt_of_call, least, status_of}
use Rattle.wm_serve.specs.declared.halt.Halt.{Halt}
use Rattle.wm_serve.specs.declared.seat.Seat.{Seat}

least_by : (t : Bool) (a b : Halt) → ((if t then b else a) ≡ a) ⊎ ((if t then b else a) ≡ b)
least_by true a b = inr refl
least_by false a b = inl refl

limit_by : (call : Call) (limit : ℕ) → is_monitor_call call ≡ false → limit_of call limit ≡ limit
limit_by (Change user c) limit is = refl
limit_by Hand limit is = absurd (cc)
limit_by (Started n) limit is = absurd (cc)
limit_by (StartFailed n why) limit is = absurd (cc)
limit_by (Finished n end) limit is = absurd (cc)
limit_by (UseDone n) limit is = absurd (cc)
limit_by Tick limit is = absurd (cc)

either_way : (a b : ℕ) → (a < b) ⊎ (b ≤ a)
either_way a b = grind (arith)

module _ {K : Type 0} where
  -- a cause of a later part
  pub call_since : (limit : ℕ) (first mid last : Seen K) (h : Halt) → first.mark ≤ mid.mark → IsCallHalt limit mid last h → IsCallHalt limit first last h
  call_since limit first mid last h later k = record { keeper = λ is. (let r = k.keeper is in omega arith); full = k.full; only = k.only }

  full_by : (o : Opened K) (call : Call) (now n : ℕ) (old new : Seen K) → is_monitor_call call ≡ false → IsCalled o call now old new (Err (call_fault.LogFull n)) → o.limit ≤ length new.seen
  full_by o call now n old new command h =
      let same : limit_of call o.limit ≡ o.limit = limit_by call o.limit command in
      let seen : length new.seen ≡ length h.found = ap length h.err.seen in
      elim (either_way (length h.found) (limit_of call o.limit)) as (λ _. o.limit ≤ length new.seen) [
        | inl short ↦ absurd (h.not_full short n refl)
        | inr long ↦ omega (arith, same, seen, long)
      ]

  -- why a command of pass 0 isn't made
  halt_by : (o : Opened K) (call : Call) (now : ℕ) (old new : Seen K) (e : CallFault) → is_monitor_call call ≡ false → IsCalled o call now old new (Err e) → HasMarkCause {T = Answered} old.mark new.mark (Err e) → IsCallHalt o.limit old new (halt_of_call e)
  halt_by o call now old new call_fault.KeeperFault command h cause = record { keeper = λ is. cause.failed refl; full = λ is. absurd (cc); only = inl refl }
  halt_by o call now old new (call_fault.LogFull n) command h cause = record { keeper = λ is. absurd (cc); full = λ is. full_by o call now n old new command h; only = inr (inl refl) }
  halt_by o call now old new call_fault.NoMemory command h cause = record { keeper = λ is. absurd (cc); full = λ is. absurd (cc); only = inr (inr refl) }

  pub call_halt : (o : Opened K) (call : Call) (now : ℕ) (old new : Seen K) (r : Result Answered CallFault) (e : CallFault) (h : Halt) → h ≡ halt_of_call e → is_monitor_call call ≡ false → r ≡ Err e → IsCalled o call now old new r → HasMarkCause old.mark new.mark r → IsCallHalt o.limit old new h
  call_halt o call now old new r e h is command err called cause =
      let by = halt_by o call now old new e command (subst (λ (x : Result Answered CallFault). IsCalled o call now old new x) err called) (subst (λ (x : Result Answered CallFault). HasMarkCause old.mark new.mark x) err cause) in
      subst (IsCallHalt o.limit old new) (sym is) by

  -- of a fault and of that of the call behind it
  pub stop_cause : (limit : ℕ) (first mid last : Seen K) (halt other h : Halt) → h ≡ least halt other → first.mark ≤ mid.mark → IsCallHalt limit mid last other → (h ≡ halt) ⊎ IsCallHalt limit first last h
  stop_cause limit first mid last halt other h is later call = by (least_by (nat_lt (status_of other) (status_of halt)) halt other)
    where
      by : (least halt other ≡ halt) ⊎ (least halt other ≡ other) → (h ≡ halt) ⊎ IsCallHalt limit first last h
      by (inl same) = inl (is ∙ same)
      by (inr same) = inr (subst (IsCallHalt limit first last) (sym (is ∙ same)) (call_since limit first mid last other later call))

module _ {K D P C : Type 0} (limit writes writes_now : ℕ) (first mid last : Seen K) where
  -- the rounds, or the call behind them
  pub of_rounds : (xs ys : List (Seat K D P C)) (halt h : Halt) → IsRoundsHalt writes writes_now xs halt → ((e : Halt) → IsSeatHalt xs e → IsSeatHalt ys e) → first.mark ≤ mid.mark → (h ≡ halt) ⊎ IsCallHalt limit mid last h → IsServeHalt limit writes writes_now first last ys h
  of_rounds xs ys halt h rounds stands later (inl same) = subst (IsServeHalt limit writes writes_now first last ys) (sym same) (by rounds)
    where
      by : IsRoundsHalt writes writes_now xs halt → IsServeHalt limit writes writes_now first last ys halt
      by (inl write) = inl write
      by (inr seat) = inr (inr (stands halt seat))
  of_rounds xs ys halt h rounds stands later (inr call) = inr (inl (call_since limit first mid last h later call))

  -- a call of pass 0, or a monitor's turn behind it
  pub of_finish : (ys : List (Seat K D P C)) (h : Halt) → first.mark ≤ mid.mark → IsCallHalt limit mid last h ⊎ IsSeatHalt ys h → IsServeHalt limit writes writes_now first last ys h
  of_finish ys h later (inl call) = inr (inl (call_since limit first mid last h later call))
  of_finish ys h later (inr seat) = inr (inr seat)

  -- what came behind the first call
  pub of_later : (ys : List (Seat K D P C)) (h : Halt) → first.mark ≤ mid.mark → IsServeHalt limit writes writes_now mid last ys h → IsServeHalt limit writes writes_now first last ys h
  of_later ys h later (inl write) = inl write
  of_later ys h later (inr (inl call)) = inr (inl (call_since limit first mid last h later call))
  of_later ys h later (inr (inr seat)) = inr (inr seat)

-- a cause that follows from another
pub if_err : {T E : Type 0} (r : Result T E) (P Q : E → Type 0) → IfErr r P → ((e : E) → P e → Q e) → IfErr r Q
if_err (Ok x) P Q h k = tt
if_err (Err e) P Q h k = k e h
