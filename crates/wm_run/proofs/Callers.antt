-- Whose entries the history of a run has, and what they come to.
use Rattle.std.proofs.Common.{◌≡◌, ◌⊎◌, ℕ, ◌+◌, ◌<◌, ◌≤◌, ◌==◌, ◌&&◌, ◌||◌, Bool, true, false, List, [], ◌∷◌, ◌++◌, length, map, Option, Some, None, option_to_list, filter_map, sym, ap, subst, ◌∙◌, refl, eq-eqb, inl, inr, arith}
use Rattle.std.specs.List.{list_all, count_by}
use Rattle.std.proofs.lemmas.Bool.{and_parts}
use Rattle.wm_base.specs.declared.job.Asked.{Asked}
use Rattle.wm_law.specs.declared.call.Call.{Call}
use Rattle.wm_law.specs.declared.call.Entry.{Entry}
use Rattle.wm_law.specs.History.{after, is_monitor_call, ordered, orders, reported_in, reports}
use Rattle.wm_traits.specs.Told.{Grows}
use Rattle.wm_traits.specs.declared.spawner.Told.{Told}
use Rattle.wm_turn.specs.Passed.{own}
use Rattle.wm_floor.specs.Ledger.{behind, caller_of}
use Rattle.wm_floor.specs.History.{reached}
use Rattle.wm_floor.specs.Asking.{AsksFor}
use Rattle.wm_floor.specs.Idle.{monitor_pass, NoneIsIdle}
use Rattle.wm_floor.specs.Lists.{since}
use Rattle.wm_floor.specs.Monitor.{RisesBy, as_reports, call_of, is_own, is_spawner_fault, reported}
use Rattle.wm_floor.specs.Scene.{kill_left, IsClear, Spawning}
use Rattle.wm_floor.specs.declared.report.Report.{Report}
use Rattle.wm_floor.specs.Advance.{added, is_monitors}
use Rattle.wm_floor.proofs.Idles.{NoneIsIdle-append, NoneIsIdle-others}
use Rattle.wm_run.specs.Calls.{session_pass}
use Rattle.wm_run.specs.Run.{IsServed}
use Rattle.wm_run.specs.Serving.{IsFresh, IsRunning, IsWhole, Serves, is_of_run}
use Rattle.wm_run.specs.declared.running.Run.{Run}
use Rattle.wm_run.proofs.Wholes.{caller_is, own_part, own_rest, watch_own}

-- The orders and the reports of a caller are those of its own entries

picked : {A : Type 0} (n : ℕ) (f : Entry → Option A) (es : List Entry) → ((e : Entry) → (e.caller == n) ≡ false → f e ≡ None) → filter_map f (own caller_of n es) ≡ filter_map f es
picked n f [] none = refl
picked {A} n f (e ∷ es) none = by (e.caller == n) refl (picked n f es none)
  where
    more : (o : Option A) → f e ≡ o → filter_map f (own caller_of n es) ≡ filter_map f es → filter_map f (e ∷ own caller_of n es) ≡ filter_map f (e ∷ es)
    more None is rest = rw (is, rest) refl
    more (Some a) is rest = rw (is, rest) refl

    by : (t : Bool) → (e.caller == n) ≡ t → filter_map f (own caller_of n es) ≡ filter_map f es → filter_map f (own caller_of n (e ∷ es)) ≡ filter_map f (e ∷ es)
    by true is rest = rw is (more (f e) refl rest)
    by false is rest = let no = none e is in rw (is, no, rest) refl

pub orders_own : (n : ℕ) (es : List Entry) → orders (own caller_of n es) n ≡ orders es n
orders_own n es = picked n (ordered n) es (λ e is. rw is refl)

pub reports_own : (n : ℕ) (es : List Entry) → reports (own caller_of n es) n ≡ reports es n
reports_own n es = picked n (reported_in n) es (λ e is. rw is refl)

-- All entries are the session's, or the monitor's calls

monitors_own : (n : ℕ) (e : Entry) (es : List Entry) → e.caller ≡ n → list_all is_monitors (own caller_of n (e ∷ es)) ≡ true → is_monitors e ≡ true
monitors_own n e es is all =
    let test : (e.caller == n) ≡ true = eq-eqb e.caller n is in
    let front : own caller_of n (e ∷ es) ≡ e ∷ own caller_of n es = rw test refl in
    (and_parts (is_monitors e) (list_all is_monitors (own caller_of n es)) (sym (ap (list_all is_monitors) front) ∙ all)).0

monitors_rest : (n : ℕ) (e : Entry) (es : List Entry) → list_all is_monitors (own caller_of n (e ∷ es)) ≡ true → list_all is_monitors (own caller_of n es) ≡ true
monitors_rest n e es all = by (e.caller == n) refl
  where
    by : (t : Bool) → (e.caller == n) ≡ t → list_all is_monitors (own caller_of n es) ≡ true
    by true is =
        let front : own caller_of n (e ∷ es) ≡ e ∷ own caller_of n es = rw is refl in
        (and_parts (is_monitors e) (list_all is_monitors (own caller_of n es)) (sym (ap (list_all is_monitors) front) ∙ all)).1
    by false is = let front : own caller_of n (e ∷ es) ≡ own caller_of n es = rw is refl in sym (ap (list_all is_monitors) front) ∙ all

of_session : (e : Entry) → e.caller ≡ session_pass → is_of_run e ≡ true
of_session e is = ap (λ (t : Bool). t || is_own e) (eq-eqb e.caller session_pass is)

or_true : (a : Bool) → (a || true) ≡ true
or_true true = refl
or_true false = refl

of_monitor : (e : Entry) → e.caller ≡ monitor_pass → is_monitors e ≡ true → is_of_run e ≡ true
of_monitor e is call =
    let own_is : is_own e ≡ true = ap (λ (t : Bool). t && is_monitor_call e.call) (eq-eqb e.caller monitor_pass is) ∙ call in
    ap (λ (t : Bool). (e.caller == session_pass) || t) own_is ∙ or_true (e.caller == session_pass)

nobody : (e : Entry) (es : List Entry) → own caller_of e.caller (e ∷ es) ≡ [] → ⊥
nobody e es none =
    let test : (e.caller == e.caller) ≡ true = eq-eqb e.caller e.caller refl in
    let front : own caller_of e.caller (e ∷ es) ≡ e ∷ own caller_of e.caller es = rw test refl in
    absurd (cc)

pub of_run : (log : List Entry) → list_all is_monitors (own caller_of monitor_pass log) ≡ true → ((n : ℕ) → monitor_pass < n → own caller_of n log ≡ []) → list_all is_of_run log ≡ true
of_run [] all others = refl
of_run (e ∷ es) all others =
    let rest = of_run es (monitors_rest monitor_pass e es all) (λ n more. (own_part n (e ∷ []) es (others n more)).1) in
    ap (λ (t : Bool). t && list_all is_of_run es) (by (caller_is e.caller)) ∙ rest
  where
    by : (e.caller ≡ session_pass) ⊎ ((e.caller ≡ monitor_pass) ⊎ (monitor_pass < e.caller)) → is_of_run e ≡ true
    by (inl is) = of_session e is
    by (inr (inl is)) = of_monitor e is (monitors_own monitor_pass e es is all)
    by (inr (inr more)) = absurd (nobody e es (others e.caller more))

few_kept : (kept : Option Report) → length (option_to_list kept) ≤ 1
few_kept None = omega arith
few_kept (Some report) = omega arith

module _ {K : Type 0} (a b : Run K) (log : List Entry) (s t : Spawning) (fresh : IsFresh a) (ready : IsRunning a) (ended : IsRunning b) (h : Serves a b s t) (w : IsWhole b log) where
  -- what the monitor has made
  added_is : added a.watch b.watch ≡ own caller_of monitor_pass log
  added_is = ap (λ (l : List Entry). since l b.watch.mine) fresh.unmonitored ∙ w.monitors

  pub callers : list_all is_of_run log ≡ true
  callers = of_run log (ap (list_all is_monitors) (sym added_is) ∙ h.part.part.pass.calls) w.history.others

  -- what the spawner was asked, and what it told
  pub served : (told told' : Option (List Told)) → s.told ≡ as_reports told → t.told ≡ as_reports told' → IsClear a.monitor → IsServed log (option_to_list b.monitor.kept) s.asked t.asked told told' s.misses t.misses
  served told told' was is clear =
      let part = h.part.part in
      let its = option_to_list b.monitor.kept in
      let ordered_is : orders (added a.watch b.watch) a.watch.number ≡ orders log monitor_pass = ap (λ (n : ℕ). orders (added a.watch b.watch) n) ready.one ∙ (ap (λ (es : List Entry). orders es monitor_pass) added_is ∙ orders_own monitor_pass log) in
      let reported_is : reports (added a.watch b.watch) a.watch.number ≡ reports log monitor_pass = ap (λ (n : ℕ). reports (added a.watch b.watch) n) ready.one ∙ (ap (λ (es : List Entry). reports es monitor_pass) added_is ∙ reports_own monitor_pass log) in
      let more : part.reported.more ≡ reported log its = sym (sym (ap (λ (rs : List Call). rs ++ map call_of its) reported_is) ∙ (part.reported.whole ∙ ap (λ (k : Option Report). map call_of (option_to_list k) ++ part.reported.more) clear.no_report)) in
      let asks = subst (λ (f : Option ℕ). AsksFor (kill_left f) s.asked t.asked (orders (added a.watch b.watch) a.watch.number)) clear.no_kill part.asked.asked in
      let tells = subst (λ (l : List Call). Grows s.told t.told l) more part.reported.told in
      record {
        asked = subst (λ (l : List Asked). AsksFor [] s.asked t.asked l) ordered_is asks;
        told = subst (λ (o : Option (List Call)). Grows o (as_reports told') (reported log its)) was (subst (λ (o : Option (List Call)). Grows s.told o (reported log its)) is tells);
        misses = subst (λ (l : List Call). RisesBy s.misses (count_by is_spawner_fault l) t.misses) more part.reported.misses;
        few = few_kept b.monitor.kept;
      }

  -- no entry of the monitor is idle
  pub no_idle : NoneIsIdle monitor_pass [] a.floor.opening.state log
  no_idle =
      let o = a.floor.opening in
      let n = a.watch.number in
      let seen = b.watch.seen in
      let rest = w.history.watch.0 in
      let from : NoneIsIdle n [] o.state seen = subst (λ (l : List Entry). NoneIsIdle n [] (reached (behind o l)) (since l seen)) fresh.unwatched h.part.part.pass.no_idle in
      let mine : NoneIsIdle monitor_pass [] o.state seen = subst (λ (k : ℕ). NoneIsIdle k [] o.state seen) ready.one from in
      let all : own caller_of monitor_pass (seen ++ rest) ≡ own caller_of monitor_pass seen = ap (own caller_of monitor_pass) (sym w.history.watch.1) ∙ (sym w.monitors ∙ watch_own b ended) in
      let none = own_rest monitor_pass seen rest all in
      let whole = NoneIsIdle-append monitor_pass [] o.state seen rest mine (NoneIsIdle-others monitor_pass [] (after o.state seen) rest none) in
      subst (λ (l : List Entry). NoneIsIdle monitor_pass [] o.state l) (sym w.history.watch.1) whole
