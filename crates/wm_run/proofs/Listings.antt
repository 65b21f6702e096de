-- Laws of a listing: the session has looked, and shows what it has seen.
use Rattle.std.proofs.Common.{◌≡◌, ℕ, Bool, List, sym, ap, subst, ◌∙◌}
use Rattle.wm_law.specs.declared.command.Ask.{Ask}
use Rattle.wm_floor.specs.Floor.{Floored, HasLooked, IsPassOf, IsSame}
use Rattle.wm_floor.proofs.MonitorPasses.{Extends-by}
use Rattle.wm_run.specs.Grown.{grown, seen_since, session_of}
use Rattle.wm_run.specs.Reads.{is_read_refused, read_text}
use Rattle.wm_run.specs.Serving.{IsRunning}
use Rattle.wm_run.specs.Session.{IsUncalled, Reads}
use Rattle.wm_run.specs.declared.running.Run.{Run}
use Rattle.wm_run.proofs.Commands.{uncalled_since}
use Rattle.wm_run.proofs.Growing.{goes_on, grown-between}

module _ {K : Type 0} (r t : Run K) (before : IsRunning r) (now : IsRunning t) (floor : t.floor ≡ r.floor) (same : IsSame r.session t.session) (looked : HasLooked r.session t.session) where
  -- a look makes no call
  pub uncalled_looked : IsUncalled (seen_since r t)
  uncalled_looked = uncalled_since r.floor r.session t.session before.session (subst (λ (f : Floored K). IsPassOf f t.session) floor now.session) before.zero same looked

  -- what it shows is of the history that it has seen then
  pub reads : (ask : Ask) (bytes : List ℕ) (refused : Bool) → bytes ≡ read_text ask (session_of t) → refused ≡ is_read_refused ask (session_of t) → Reads ask (session_of r) (seen_since r t) bytes refused
  reads ask bytes refused text wrong =
      let on = goes_on r t floor (Extends-by r.session.seen t.session.seen looked.seen.0 looked.seen.1) in
      let is : grown (session_of r) (seen_since r t) ≡ session_of t = grown-between (session_of r) (session_of t) on in
      record { none = uncalled_looked; says = text ∙ ap (read_text ask) (sym is); fault = wrong ∙ ap (is_read_refused ask) (sym is) }
