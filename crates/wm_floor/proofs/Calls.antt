-- What a call does to a pass.
use Rattle.std.proofs.Common.{◌≡◌, ◌<◌, ◌≤◌, ◌++◌, ℕ, [], ◌∷◌, length, Result, Ok, Err, IfOk, OnOk, OnErr, sym, ap, subst, ◌∙◌}
use Rattle.wm_law.specs.declared.call.Call.{Call}
use Rattle.wm_floor.specs.History.{History, entry_at, with_call}
use Rattle.wm_floor.specs.Limit.{limit_of}
use Rattle.wm_floor.specs.declared.call_fault.CallFault.{CallFault}
use Rattle.wm_floor.specs.declared.call_fault.CallFault.TheVariants.{LogFull}
use Rattle.wm_floor.specs.declared.answer.Answered.{Answered}
use Rattle.wm_floor.specs.declared.opened.Opened.{Opened}
use Rattle.wm_floor.specs.Floor.{Floored, IsCalled, IsEntered, IsRefused, Seen, entry_of}
use Rattle.wm_floor.specs.Ledger.{Ledgered, history_of}
use Rattle.wm_floor.proofs.Passes.{IsTurned, mine_after, mine_same, seen_after}

module _ {K : Type 0} where
  -- a call of a ledger
  pub record IsLedgerCall (l m : Ledgered K) (caller : ℕ) (call : Call) (now : ℕ) (result : Result Answered CallFault) : Type 0 where
    pub kept : m.opening ≡ l.opening
    pub ok : OnOk result (history_of m ≡ with_call (history_of l) caller call now)
    pub place : IfOk result (λ a. a.place ≡ length m.log)
    pub reply : IfOk result (λ a. a.reply ≡ (entry_at (history_of l) caller call now).reply)
    pub err : OnErr result (m.log ≡ l.log)
    pub full : limit_of call l.opening.limit ≤ length l.log → result ≡ Err (LogFull (limit_of call l.opening.limit))
    pub not_full : length l.log < limit_of call l.opening.limit → (n : ℕ) → result ≡ Err (LogFull n) → ⊥

  module _ (f : Floored K) (old new : Seen K) (l m : Ledgered K) (call : Call) (now : ℕ) (t : IsTurned f old new l.log m.log l.misses m.misses) (opens : l.opening ≡ f.opening) where
    logged : history_of m ≡ with_call (history_of l) old.number call now → m.log ≡ l.log ++ entry_of f.opening l.log old.number call now ∷ []
    logged is = ap (λ (h : History). h.log) is ∙ ap (λ (o : Opened K). l.log ++ entry_of o l.log old.number call now ∷ []) opens

    entered : (a : Answered) → IsLedgerCall l m old.number call now (Ok a) → IsEntered f.opening l.log call now old new a
    entered a k =
        let seen = seen_after f old new l.log m.log l.misses m.misses t in record {
          seen = seen ∙ logged k.ok;
          mine = mine_after f old new l.log m.log l.misses m.misses t (entry_of f.opening l.log old.number call now ∷ []) (logged k.ok);
          place = k.place ∙ sym (ap length seen);
          reply = subst (λ (o : Opened K). a.reply ≡ (entry_of o l.log old.number call now).reply) opens k.reply;
        }

    refused : (e : CallFault) → IsLedgerCall l m old.number call now (Err e) → IsRefused l.log old new
    refused e k = record {
      seen = seen_after f old new l.log m.log l.misses m.misses t ∙ k.err;
      mine = mine_same f old new l.log m.log l.misses m.misses t k.err;
    }

    ok_of : (result : Result Answered CallFault) → IsLedgerCall l m old.number call now result → IfOk result (IsEntered f.opening l.log call now old new)
    ok_of (Ok a) k = entered a k
    ok_of (Err e) k = tt

    err_of : (result : Result Answered CallFault) → IsLedgerCall l m old.number call now result → OnErr result (IsRefused l.log old new)
    err_of (Ok a) k = tt
    err_of (Err e) k = refused e k

    pub called : (result : Result Answered CallFault) → IsLedgerCall l m old.number call now result → IsCalled f.opening call now old new result
    called result k = record {
      found = l.log;
      begins = t.front;
      ok = ok_of result k;
      err = err_of result k;
      full = subst (λ (o : Opened K). limit_of call o.limit ≤ length l.log → result ≡ Err (LogFull (limit_of call o.limit))) opens k.full;
      not_full = subst (λ (o : Opened K). length l.log < limit_of call o.limit → (n : ℕ) → result ≡ Err (LogFull n) → ⊥) opens k.not_full;
    }
