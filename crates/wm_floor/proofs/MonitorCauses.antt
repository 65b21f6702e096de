-- Laws of why a call of a monitor ends early.
use Rattle.std.proofs.Common.{◌≡◌, ℕ, ◌≤◌, List, Result, Err, IfErr, sym, subst, arith}
use Rattle.wm_law.specs.declared.call.Entry.{Entry}
use Rattle.wm_traits.specs.Cause.{raised}
use Rattle.wm_floor.specs.declared.monitor_fault.MonitorFault.{MonitorFault}
use Rattle.wm_floor.specs.declared.monitor_fault.MonitorFault.TheVariants.{WaitFault, NoMemory}
use Rattle.wm_floor.specs.MonitorCauses.{IsCaused}

-- a fault of the spawner
pub IsCaused-wait : (e : MonitorFault) (a b m n : ℕ) (seen : List Entry) → e ≡ WaitFault → raised a ≤ b → IsCaused a b m n seen e
IsCaused-wait e a b m n seen is risen = record { wait = λ same. risen; keeper = λ same. absurd (cc); full = λ k same. absurd (cc) }

-- want of memory
pub IsCaused-memory : (e : MonitorFault) (a b m n : ℕ) (seen : List Entry) → e ≡ NoMemory → IsCaused a b m n seen e
IsCaused-memory e a b m n seen is = record { wait = λ same. absurd (cc); keeper = λ same. absurd (cc); full = λ k same. absurd (cc) }

-- a fault of the last part
pub IsCaused-since : (e : MonitorFault) (a b c m n o : ℕ) (seen : List Entry) → IsCaused b c n o seen e → a ≤ b → m ≤ n → IsCaused a c m o seen e
IsCaused-since e a b c m n o seen h fewer less = record {
  wait = λ is. (let r = h.wait is in omega arith);
  keeper = λ is. (let r = h.keeper is in omega arith);
  full = h.full;
}

-- a fault of the last part, as it is told again
pub caused : {T : Type 0} (result : Result T MonitorFault) (e d : MonitorFault) (a b c m n o : ℕ) (seen : List Entry) → result ≡ Err d → d ≡ e → IsCaused b c n o seen e → a ≤ b → m ≤ n → IfErr result (IsCaused a c m o seen)
caused {T} result e d a b c m n o seen is same h fewer less =
    let again = subst (λ (x : MonitorFault). IsCaused a c m o seen x) (sym same) (IsCaused-since e a b c m n o seen h fewer less) in
    subst (λ (r : Result T MonitorFault). IfErr r (IsCaused a c m o seen)) (sym is) again

-- a fault of the spawner, as it is told again
pub caused_wait : {T : Type 0} (result : Result T MonitorFault) (d : MonitorFault) (a b m n : ℕ) (seen : List Entry) → result ≡ Err d → d ≡ WaitFault → raised a ≤ b → IfErr result (IsCaused a b m n seen)
caused_wait {T} result d a b m n seen is same risen = subst (λ (r : Result T MonitorFault). IfErr r (IsCaused a b m n seen)) (sym is) (IsCaused-wait d a b m n seen same risen)
