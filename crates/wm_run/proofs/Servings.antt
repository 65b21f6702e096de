-- Laws of what a run does: nothing, one thing after another, and its parts.
use Rattle.std.proofs.Common.{◌≡◌, ℕ, ◌≤◌, List, [], ◌∷◌, ◌++◌, Option, sym, ap, subst, ◌∙◌, refl, arith, append-nil, append_assoc}
use Rattle.wm_law.specs.declared.call.Call.{Call}
use Rattle.wm_law.specs.declared.call.Entry.{Entry}
use Rattle.wm_law.specs.declared.call.Reply.{Reply}
use Rattle.wm_floor.specs.Floor.{Floored, HasLooked, IsPassOf, IsSame, Seen, entry_of}
use Rattle.wm_floor.specs.declared.opened.Opened.{Opened}
use Rattle.wm_floor.proofs.Lists.{Extends-then}
use Rattle.wm_floor.specs.Attends.{Attends}
use Rattle.wm_floor.specs.Scene.{Spawning, scene}
use Rattle.wm_floor.specs.declared.monitor.Monitor.{Monitor}
use Rattle.wm_floor.proofs.Attending.{attends_looked, attends_none, attends_then}
use Rattle.wm_floor.proofs.MonitorPasses.{Extends-by}
use Rattle.wm_run.specs.Calls.{Called}
use Rattle.wm_run.specs.Grown.{session_of}
use Rattle.wm_run.specs.Serving.{IsRunning, PassGoesOn, Serves}
use Rattle.wm_run.specs.declared.running.Run.{Run}
use Rattle.wm_run.proofs.Growing.{Continues, goes_on}

module _ {K : Type 0} where
  -- a pass goes on

  same_none : (p : Seen K) → IsSame p p
  same_none p = record { number = refl; made = refl; joined = refl }

  same_then : (p q r : Seen K) → IsSame p q → IsSame q r → IsSame p r
  same_then p q r h k = record { number = k.number ∙ h.number; made = k.made ∙ h.made; joined = k.joined ∙ h.joined }

  pub pass_none : (p : Seen K) → PassGoesOn p p
  pass_none p = record { same = same_none p; seen = Extends-by p.seen p.seen [] (sym (append-nil p.seen)); mine = Extends-by p.mine p.mine [] (sym (append-nil p.mine)); mark = omega arith }

  pub pass_then : (p q r : Seen K) → PassGoesOn p q → PassGoesOn q r → PassGoesOn p r
  pass_then p q r h k = record {
    same = same_then p q r h.same k.same;
    seen = Extends-then p.seen q.seen r.seen h.seen k.seen;
    mine = Extends-then p.mine q.mine r.mine h.mine k.mine;
    mark = let x = h.mark in let y = k.mark in omega arith;
  }

  pub pass_looked : (p q : Seen K) → IsSame p q → HasLooked p q → PassGoesOn p q
  pass_looked p q same looked = record {
    same = same;
    seen = Extends-by p.seen q.seen looked.seen.0 looked.seen.1;
    mine = Extends-by p.mine q.mine [] (looked.mine ∙ sym (append-nil p.mine));
    mark = looked.mark;
  }

  -- what was found begins with what was seen, and the entry stands behind it
  pub seen_called : {o : Opened K} {c : Call} {coming : Option ℕ} {reply : Reply} (p q : Seen K) (h : Called o c coming p q reply) → q.seen ≡ p.seen ++ (h.begins.0 ++ entry_of o h.found p.number c h.now ∷ [])
  seen_called {o} {c} p q h =
      let e = entry_of o h.found p.number c h.now in
      h.seen ∙ (ap (λ (es : List Entry). es ++ e ∷ []) h.begins.1 ∙ append_assoc p.seen h.begins.0 (e ∷ []))

  pub pass_called : {o : Opened K} {c : Call} {coming : Option ℕ} {reply : Reply} (p q : Seen K) → IsSame p q → p.mark ≤ q.mark → Called o c coming p q reply → PassGoesOn p q
  pass_called {o} {c} p q same mark h = record {
    same = same;
    seen = Extends-by p.seen q.seen _ (seen_called p q h);
    mine = Extends-by p.mine q.mine (entry_of o h.found p.number c h.now ∷ []) h.mine;
    mark = mark;
  }

-- What a run does

module _ {K : Type 0} where
  pub continues : {s t : Spawning} (old new : Run K) → Serves old new s t → Continues (session_of old) (session_of new)
  continues old new h = goes_on old new h.floor h.session.seen

  pub serves_none : (r : Run K) (s : Spawning) → IsRunning r → Serves r r s s
  serves_none r s ready = record { floor = refl; session = pass_none r.session; part = attends_none r.floor r.watch (scene r.monitor s) ready.watch }

  pub serves_then : {s t u : Spawning} (a b c : Run K) → Serves a b s t → Serves b c t u → Serves a c s u
  serves_then {s} {t} {u} a b c h k = record {
    floor = k.floor ∙ h.floor;
    session = pass_then a.session b.session c.session h.session k.session;
    part = attends_then a.floor a.watch b.watch c.watch (scene a.monitor s) (scene b.monitor t) (scene c.monitor u) h.part (subst (λ (f : Floored K). Attends f b.watch c.watch (scene b.monitor t) (scene c.monitor u)) h.floor k.part);
  }

  -- the monitor's part, beside a session that does nothing
  pub serves_monitor : {s t : Spawning} (old new : Run K) → new.floor ≡ old.floor → new.session ≡ old.session → Attends old.floor old.watch new.watch (scene old.monitor s) (scene new.monitor t) → Serves old new s t
  serves_monitor old new floor session part = record {
    floor = floor;
    session = subst (λ (p : Seen K). PassGoesOn old.session p) (sym session) (pass_none old.session);
    part = part;
  }

  -- the session's part, beside a monitor that has at most looked
  pub serves_session : (old new : Run K) (s : Spawning) → IsRunning old → IsRunning new → new.floor ≡ old.floor → PassGoesOn old.session new.session → HasLooked old.watch new.watch → IsSame old.watch new.watch → new.monitor ≡ old.monitor → Serves old new s s
  serves_session old new s before now floor session looked same monitor = record {
    floor = floor;
    session = session;
    part = subst (λ (m : Monitor). Attends old.floor old.watch new.watch (scene old.monitor s) (scene m s)) (sym monitor)
        (attends_looked old.floor old.watch new.watch (scene old.monitor s) before.watch (subst (λ (f : Floored K). IsPassOf f new.watch) floor now.watch) same looked);
  }

  -- the same beside a monitor that has done nothing
  pub serves_alone : (old new : Run K) (s : Spawning) → IsRunning old → new.floor ≡ old.floor → PassGoesOn old.session new.session → new.watch ≡ old.watch → new.monitor ≡ old.monitor → Serves old new s s
  serves_alone old new s before floor session watch monitor = record {
    floor = floor;
    session = session;
    part = subst (λ (m : Monitor). Attends old.floor old.watch new.watch (scene old.monitor s) (scene m s)) (sym monitor)
        (subst (λ (p : Seen K). Attends old.floor old.watch p (scene old.monitor s) (scene old.monitor s)) (sym watch) (attends_none old.floor old.watch (scene old.monitor s) before.watch));
  }
