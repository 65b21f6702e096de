-- Laws of a turn that makes no entry: no order is left.
use Rattle.std.proofs.Common.{◌≡◌, ◌⊎◌, ℕ, ◌≤◌, List, length, take, sym, ap, subst, ◌∙◌, inl, inr, arith}
use Rattle.std.proofs.lemmas.List.{nil_from_length}
use Rattle.wm_law.specs.declared.call.Entry.{Entry}
use Rattle.wm_law.specs.declared.pending.Pending.{Pending}
use Rattle.wm_law.specs.Pending.{orders_left}
use Rattle.wm_floor.specs.History.{reached}
use Rattle.wm_floor.specs.Floor.{Floored, HasLooked, Seen}
use Rattle.wm_floor.specs.Ledger.{behind}
use Rattle.wm_floor.specs.Idle.{monitor_pass}
use Rattle.wm_floor.specs.Monitor.{hands_of}
use Rattle.wm_floor.specs.Advance.{added}
use Rattle.wm_floor.specs.Turned.{WaitedAt}
use Rattle.wm_floor.specs.Lists.{since}
use Rattle.wm_run.specs.Serving.{IsRunning, LeftNoOrder}
use Rattle.wm_run.specs.declared.running.Run.{Run}

module _ {K : Type 0} where
  -- a turn that made no entry left no order
  no_orders : (p q : Seen K) (w : Pending) → length (added p q) ≡ 0 → (w.orders ≡ 0) ⊎ (hands_of (added p q) ≡ 256) → w.orders ≡ 0
  no_orders p q w none (inl left) = left
  no_orders p q w none (inr many) =
      let nothing = ap hands_of (nil_from_length (added p q) none) in
      absurd (omega (arith, many, nothing))

  -- behind what it had seen before
  pub left_no_order : (r : Run K) (f : Floored K) (p : Seen K) (least at : ℕ) (w : Pending) → r.floor ≡ f → p.number ≡ monitor_pass → least ≤ length p.seen → length (added p r.watch) ≡ 0 → WaitedAt f p r.watch at w → (w.orders ≡ 0) ⊎ (hands_of (added p r.watch) ≡ 256) → LeftNoOrder r least
  left_no_order r f p least at w same one shown none waited handed =
      let told : w.orders ≡ orders_left (reached (behind f.opening (take at r.watch.seen))) p.number = ap (λ (x : Pending). x.orders) waited.pending in
      let no = no_orders p r.watch w none handed in
      let num : orders_left (reached (behind f.opening (take at r.watch.seen))) monitor_pass ≡ 0 = ap (orders_left (reached (behind f.opening (take at r.watch.seen)))) (sym one) ∙ (sym told ∙ no) in
      record {
        at = at;
        behind_least = let k = waited.seen.least in omega (arith, shown, k);
        most = waited.seen.most;
        none = subst (λ (g : Floored K). orders_left (reached (behind g.opening (take at r.watch.seen))) monitor_pass ≡ 0) (sym same) num;
      }

  -- behind a call of the session that the monitor has seen
  pub called_no_order : (r m t : Run K) (at : ℕ) (w : Pending) → IsRunning m → HasLooked r.watch m.watch → length m.session.seen ≤ length m.watch.seen → t.floor ≡ m.floor → t.session ≡ m.session → length (added r.watch t.watch) ≡ 0 → WaitedAt m.floor m.watch t.watch at w → (w.orders ≡ 0) ⊎ (hands_of (added m.watch t.watch) ≡ 256) → LeftNoOrder t (length t.session.seen)
  called_no_order r m t at w ready looked shown floor session none waited handed =
      let empty : length (added m.watch t.watch) ≡ 0 = ap (λ (l : List Entry). length (since l t.watch.mine)) looked.mine ∙ none in
      let least : length t.session.seen ≤ length m.watch.seen = subst (λ (p : Seen K). length p.seen ≤ length m.watch.seen) (sym session) shown in
      left_no_order t m.floor m.watch (length t.session.seen) at w floor ready.one least empty waited handed
