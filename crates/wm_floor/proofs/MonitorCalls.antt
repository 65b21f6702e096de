-- What one call of a monitor's pass comes to.
use Rattle.std.proofs.Common.{◌≡◌, ℕ, ◌<◌, ◌≤◌, true, List, [], ◌∷◌, ◌++◌, length, Result, Ok, Err, IfOk, OnErr, sym, ap, subst, ◌∙◌, refl, append_assoc, arith}
use Rattle.std.specs.Prelude.{IfErr}
use Rattle.wm_law.specs.declared.call.Call.{Call}
use Rattle.wm_law.specs.declared.call.Entry.{Entry}
use Rattle.wm_law.specs.History.{is_monitor_call}
use Rattle.wm_floor.specs.History.{reached}
use Rattle.wm_floor.specs.Limit.{limit_of}
use Rattle.wm_floor.specs.declared.call_fault.CallFault.{CallFault}
use Rattle.wm_floor.specs.declared.call_fault.CallFault.TheVariants as call_fault
use Rattle.wm_turn.specs.Passed.{StartsWith}
use Rattle.wm_floor.specs.declared.monitor_fault.MonitorFault.{MonitorFault}
use Rattle.wm_floor.specs.declared.answer.Answered.{Answered}
use Rattle.wm_floor.specs.Causes.{HasMarkCause}
use Rattle.wm_floor.specs.Floor.{Floored, IsCalled, IsEntered, IsPassOf, IsRefused, IsSame, Seen, entry_of}
use Rattle.wm_floor.specs.Ledger.{behind}
use Rattle.wm_floor.specs.Advance.{GoesOn}
use Rattle.wm_floor.specs.MonitorCauses.{IsCaused, fault_of}
use Rattle.wm_floor.specs.Idle.{IsCalledFor}
use Rattle.wm_floor.specs.Made.{IsMade}
use Rattle.wm_floor.proofs.MonitorPasses.{GoesOn-made, GoesOn-quiet}

-- the result of a call of the floor, as a monitor tells it
pub record IsToldAs {T : Type 0} (was : Result T CallFault) (result : Result T MonitorFault) : Type 0 where
  pub ok : IfOk was (λ answered. result ≡ Ok answered)
  pub err : IfErr was (λ fault. result ≡ Err (fault_of fault))

module _ {K : Type 0} (f : Floored K) (p q : Seen K) (call : Call) (now : ℕ) where
  -- a call of a monitor's pass that was called for
  pub record IsAsked : Type 0 where
    pub before : IsPassOf f p
    pub own : IsPassOf f q
    pub same : IsSame p q
    pub monitors : is_monitor_call call ≡ true
    pub called_for : IsCalledFor p.number (reached (behind f.opening p.seen)) now call
    pub mark : p.mark ≤ q.mark

  -- it is entered
  entered_part : (found : List Entry) (a : Answered) → IsAsked → StartsWith found p.seen → IsEntered f.opening found call now p q a → GoesOn f p q
  entered_part found a h begins e =
      let entry = entry_of f.opening found p.number call now in
      let seen = e.seen ∙ (ap (λ (xs : List Entry). xs ++ entry ∷ []) begins.1 ∙ append_assoc p.seen begins.0 (entry ∷ [])) in
      GoesOn-made f p q begins.0 entry h.before h.own h.same seen e.mine refl h.monitors h.called_for h.mark

  -- its entry
  entered_made : (found : List Entry) (a : Answered) → IsEntered f.opening found call now p q a → IsMade call now p q a
  entered_made found a e =
      record { entry = entry_of f.opening found p.number call now; caller = refl; call_is = refl; moment = refl; mine = e.mine; reply = e.reply }

  -- it isn't
  refused_part : (found : List Entry) → IsAsked → StartsWith found p.seen → IsRefused found p q → GoesOn f p q
  refused_part found h begins e = GoesOn-quiet f p q begins.0 h.before h.own h.same (e.seen ∙ begins.1) e.mine h.mark

  pub call_part : (was : Result Answered CallFault) → IsAsked → IsCalled f.opening call now p q was → GoesOn f p q
  call_part (Ok a) h k = entered_part k.found a h k.begins k.ok
  call_part (Err e) h k = refused_part k.found h k.begins k.err

  pub call_ok : (was : Result Answered CallFault) (result : Result Answered MonitorFault) → IsToldAs was result → IsCalled f.opening call now p q was → IfOk result (IsMade call now p q)
  call_ok (Ok a) result told k = subst (λ (r : Result Answered MonitorFault). IfOk r (IsMade call now p q)) (sym told.ok) (entered_made k.found a k.ok)
  call_ok (Err e) result told k = subst (λ (r : Result Answered MonitorFault). IfOk r (IsMade call now p q)) (sym told.err) tt

  pub call_err : (was : Result Answered CallFault) (result : Result Answered MonitorFault) → IsToldAs was result → IsCalled f.opening call now p q was → OnErr result (q.mine ≡ p.mine)
  call_err (Ok a) result told k = subst (λ (r : Result Answered MonitorFault). OnErr r (q.mine ≡ p.mine)) (sym told.ok) tt
  call_err (Err e) result told k = subst (λ (r : Result Answered MonitorFault). OnErr r (q.mine ≡ p.mine)) (sym told.err) k.err.mine

  -- a full log has 4,000,000 entries
  full_cause : (n : ℕ) → limit_of call f.opening.limit ≡ 4000000 → IsCalled f.opening call now p q (Err (call_fault.LogFull n)) → (n ≡ 4000000) × (4000000 ≤ length q.seen)
  full_cause n limit k =
      let seen : q.seen ≡ k.found = k.err.seen in
      let many : limit_of call f.opening.limit ≤ length k.found = not_lt (λ few. k.not_full few n refl) in
      let is = k.full many in
      let same : n ≡ limit_of call f.opening.limit = cc in
      let count = ap length seen in
      (same ∙ limit, omega arith)
    where
      not_lt : {a b : ℕ} → (b < a → ⊥) → a ≤ b
      not_lt h = omega (arith, h)

  fault_cause : (e : CallFault) (faults : ℕ) → limit_of call f.opening.limit ≡ 4000000 → HasMarkCause {T = Answered} p.mark q.mark (Err e) → IsCalled f.opening call now p q (Err e) → IsCaused faults faults p.mark q.mark q.seen (fault_of e)
  fault_cause call_fault.KeeperFault faults limit mark k = record { wait = λ is. absurd (cc); keeper = λ is. mark.failed refl; full = λ n is. absurd (cc) }
  fault_cause (call_fault.LogFull n) faults limit mark k = record {
    wait = λ is. absurd (cc);
    keeper = λ is. absurd (cc);
    full = λ m is. (let h = full_cause n limit k in let same : m ≡ n = cc in (same ∙ h.0, h.1));
  }
  fault_cause call_fault.NoMemory faults limit mark k = record { wait = λ is. absurd (cc); keeper = λ is. absurd (cc); full = λ n is. absurd (cc) }

  pub call_cause : (was : Result Answered CallFault) (result : Result Answered MonitorFault) (faults : ℕ) → IsToldAs was result → limit_of call f.opening.limit ≡ 4000000 → HasMarkCause p.mark q.mark was → IsCalled f.opening call now p q was → IfErr result (IsCaused faults faults p.mark q.mark q.seen)
  call_cause (Ok a) result faults told limit mark k = subst (λ (r : Result Answered MonitorFault). IfErr r (IsCaused faults faults p.mark q.mark q.seen)) (sym told.ok) tt
  call_cause (Err e) result faults told limit mark k = subst (λ (r : Result Answered MonitorFault). IfErr r (IsCaused faults faults p.mark q.mark q.seen)) (sym told.err) (fault_cause e faults limit mark k)
