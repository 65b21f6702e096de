-- Laws of what a run has: its passes stay those of its floor.
use Rattle.std.proofs.Common.{◌≡◌, ℕ, ◌≤◌, List, length, sym, ap, subst, ◌∙◌, arith}
use Rattle.std.proofs.lemmas.List.{length-append}
use Rattle.wm_law.specs.declared.call.Entry.{Entry}
use Rattle.wm_turn.specs.Passed.{StartsWith, own}
use Rattle.wm_turn.proofs.Histories.{starts_again, starts_itself}
use Rattle.wm_floor.specs.Floor.{Floored, HasLooked, IsPassOf, IsSame, Seen}
use Rattle.wm_floor.specs.Ledger.{caller_of}
use Rattle.wm_floor.specs.Lists.{since, Extends}
use Rattle.wm_floor.proofs.Lists.{since-then}
use Rattle.wm_run.specs.Calls.{MakesCall, session_pass}
use Rattle.wm_run.specs.Grown.{seen_since}
use Rattle.wm_run.specs.Serving.{HasWatched, IsRunning}
use Rattle.wm_run.specs.Session.{IsUncalled}
use Rattle.wm_run.specs.declared.running.Run.{Run}
use Rattle.wm_law.specs.declared.call.Call.{Call}
use Rattle.wm_law.specs.declared.call.Reply.{Reply}
use Rattle.wm_run.proofs.StoppedRuns.{no_call_none}
use Rattle.wm_run.proofs.Takings.{uncalled_both}

pub longer_of : (xs ys : List Entry) → StartsWith ys xs → length xs ≤ length ys
longer_of xs ys s = omega (arith, ap length s.1, length-append xs s.0)

pub grown_longer : (xs ys : List Entry) → Extends xs ys → length xs ≤ length ys
grown_longer xs ys grown = longer_of xs ys (since xs ys, grown)

module _ {K : Type 0} where
  -- the monitor has seen the session's call
  pub watched_called : (r : Run K) (place : ℕ) → IsPassOf r.floor r.session → r.session.number ≡ session_pass → place ≡ length r.session.seen → place ≤ length r.watch.seen → HasWatched r
  watched_called r place session zero is shown = record {
    front = r.session.seen;
    begins = starts_itself r.session.seen;
    all = sym (session.mine ∙ ap (λ (n : ℕ). own caller_of n r.session.seen) zero);
    within = omega (arith, is, shown);
  }

  -- both have gone on, and the session made no call
  pub watched_later : (r t : Run K) → HasWatched r → StartsWith t.session.seen r.session.seen → t.session.mine ≡ r.session.mine → StartsWith t.watch.seen r.watch.seen → HasWatched t
  watched_later r t w session mine watch = record {
    front = w.front;
    begins = starts_again t.session.seen r.session.seen w.front session w.begins;
    all = w.all ∙ sym mine;
    within = let k = longer_of r.watch.seen t.watch.seen watch in let l = w.within in omega arith;
  }

  -- the session has looked on
  pub running_looked : (r t : Run K) → IsRunning r → t.floor ≡ r.floor → IsPassOf r.floor t.session → IsSame r.session t.session → HasLooked r.session t.session → t.watch ≡ r.watch → IsRunning t
  running_looked r t ready floor now same looked watch = record {
    session = subst (λ (f : Floored K). IsPassOf f t.session) (sym floor) now;
    watch = subst (λ (p : Seen K). IsPassOf t.floor p) (sym watch) (subst (λ (f : Floored K). IsPassOf f r.watch) (sym floor) ready.watch);
    zero = same.number ∙ ready.zero;
    one = ap (λ (p : Seen K). p.number) watch ∙ ready.one;
    watched = watched_later r t ready.watched looked.seen looked.mine (subst (λ (p : Seen K). StartsWith p.seen r.watch.seen) (sym watch) (starts_itself r.watch.seen));
  }

  -- the monitor has gone on
  pub running_watched : (r t : Run K) → IsRunning r → t.floor ≡ r.floor → t.session ≡ r.session → IsPassOf r.floor t.watch → IsSame r.watch t.watch → StartsWith t.watch.seen r.watch.seen → IsRunning t
  running_watched r t ready floor session now same watch = record {
    session = subst (λ (p : Seen K). IsPassOf t.floor p) (sym session) (subst (λ (f : Floored K). IsPassOf f r.session) (sym floor) ready.session);
    watch = subst (λ (f : Floored K). IsPassOf f t.watch) (sym floor) now;
    zero = ap (λ (p : Seen K). p.number) session ∙ ready.zero;
    one = same.number ∙ ready.one;
    watched = watched_later r t ready.watched (subst (λ (p : Seen K). StartsWith p.seen r.session.seen) (sym session) (starts_itself r.session.seen)) (ap (λ (p : Seen K). p.mine) session) watch;
  }

  -- the session has called, and the monitor has seen it
  pub running_called : (r m t : Run K) (place : ℕ) → IsRunning r → m.floor ≡ r.floor → IsPassOf r.floor m.session → IsSame r.session m.session → m.watch ≡ r.watch → t.floor ≡ m.floor → t.session ≡ m.session → IsPassOf m.floor t.watch → IsSame m.watch t.watch → place ≡ length m.session.seen → place ≤ length t.watch.seen → IsRunning t
  running_called r m t place ready entered mine same watch floor session watched unchanged is shown =
      let own = subst (λ (p : Seen K). IsPassOf t.floor p) (sym session) (subst (λ (f : Floored K). IsPassOf f m.session) (sym (floor ∙ entered)) mine) in
      let zero = ap (λ (p : Seen K). p.number) session ∙ (same.number ∙ ready.zero) in
      record {
        session = own;
        watch = subst (λ (f : Floored K). IsPassOf f t.watch) (sym floor) watched;
        zero = zero;
        one = unchanged.number ∙ (ap (λ (p : Seen K). p.number) watch ∙ ready.one);
        watched = watched_called t place own zero (is ∙ ap (λ (p : Seen K). length p.seen) (sym session)) shown;
      }

  -- a pass that stayed has looked
  pub looked_still : (p q : Seen K) → q ≡ p → HasLooked p q
  looked_still p q same = record {
    seen = subst (λ (x : Seen K). StartsWith x.seen p.seen) (sym same) (starts_itself p.seen);
    mine = ap (λ (x : Seen K). x.mine) same;
    mark = omega (arith, ap (λ (x : Seen K). x.mark) same);
  }

  -- what the session has seen since, where it has looked no further
  pub seen_still : (a b d : Run K) → d.session ≡ b.session → seen_since a d ≡ seen_since a b
  seen_still a b d same = ap (λ (p : Seen K). since a.session.seen p.seen) same

  pub made_still : {c : Call} {reply : Reply} (a b d : Run K) → d.session ≡ b.session → MakesCall c reply (seen_since a b) → MakesCall c reply (seen_since a d)
  made_still {c} {reply} a b d same h = subst (λ (es : List Entry). MakesCall c reply es) (sym (seen_still a b d same)) h

  -- it has made no call
  pub uncalled_same : (a b : Run K) → b.session ≡ a.session → IsUncalled (seen_since a b)
  uncalled_same a b same = subst (λ (p : Seen K). IsUncalled (since a.session.seen p.seen)) (sym same) (no_call_none (record { opened = a.floor.opening.state; log = a.session.seen }))

  pub uncalled_seen : (a b c : Run K) → Extends a.session.seen b.session.seen → Extends b.session.seen c.session.seen → IsUncalled (seen_since a b) → IsUncalled (seen_since b c) → IsUncalled (seen_since a c)
  uncalled_seen a b c ab bc none more =
      subst IsUncalled (sym (since-then a.session.seen b.session.seen c.session.seen ab bc)) (uncalled_both (seen_since a b) (seen_since b c) none more)
