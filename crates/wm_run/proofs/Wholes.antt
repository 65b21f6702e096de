-- Laws of the history of a run, which both its passes have seen from the front.
use Rattle.std.proofs.Common.{◌≡◌, ◌⊎◌, ℕ, ◌+◌, ◌<◌, ◌≤◌, List, [], ◌∷◌, ◌++◌, length, Option, sym, ap, subst, ◌∙◌, refl, append_assoc, inl, inr, arith}
use Rattle.std.proofs.lemmas.List.{append-nil, append_cancel_right, length-append}
use Rattle.wm_law.specs.declared.call.Call.{Call}
use Rattle.wm_law.specs.declared.call.Entry.{Entry}
use Rattle.wm_law.specs.declared.call.Reply.{Reply}
use Rattle.wm_law.specs.Pending.{busy}
use Rattle.wm_turn.specs.Passed.{StartsWith, own}
use Rattle.wm_turn.proofs.Histories.{fronts, nothing, own_here, own_more, starts_again}
use Rattle.wm_floor.specs.History.{reached}
use Rattle.wm_floor.specs.Floor.{Floored, HasLooked, Seen, entry_of}
use Rattle.wm_floor.specs.Ledger.{behind, caller_of}
use Rattle.wm_floor.specs.Idle.{monitor_pass}
use Rattle.wm_floor.specs.Lists.{since, Extends}
use Rattle.wm_floor.proofs.Lists.{since-then}
use Rattle.wm_floor.proofs.MonitorPasses.{Extends-by, since-by}
use Rattle.wm_run.specs.Calls.{Called, session_pass}
use Rattle.wm_run.specs.Grown.{session_of}
use Rattle.wm_run.specs.Serving.{IsFresh, IsHistory, IsRunning, IsWhole}
use Rattle.wm_run.specs.Session.{EndsInput, IsUncalled, end_call}
use Rattle.wm_run.specs.declared.running.Run.{Run}
use Rattle.wm_run.proofs.Takings.{uncalled_both}

-- the entries of a number behind those that are all of its
pub own_rest : (n : ℕ) (front rest : List Entry) → own caller_of n (front ++ rest) ≡ own caller_of n front → own caller_of n rest ≡ []
own_rest n front rest is =
    let both = ap length (own_more caller_of n front rest) ∙ length-append (own caller_of n front) (own caller_of n rest) in
    let same = ap length is in
    nothing (own caller_of n rest) (omega arith)

-- where none of a list is of a number, none of a part is
pub own_part : (n : ℕ) (front rest : List Entry) → own caller_of n (front ++ rest) ≡ [] → (own caller_of n front ≡ []) × (own caller_of n rest ≡ [])
own_part n front rest none =
    let both = ap length (own_more caller_of n front rest) ∙ length-append (own caller_of n front) (own caller_of n rest) in
    let zero = ap length none in
    (nothing (own caller_of n front) (omega arith), nothing (own caller_of n rest) (omega arith))

-- entries of no caller
no_caller : (es : List Entry) → ((n : ℕ) → own caller_of n es ≡ []) → es ≡ []
no_caller [] none = refl
no_caller (e ∷ es) none =
    let first : own caller_of e.caller (e ∷ []) ≡ [] = (own_part e.caller (e ∷ []) es (none e.caller)).0 in
    absurd (let one = sym (own_here caller_of e.caller e refl) ∙ first in cc)

-- the session, the monitor, or another
pub caller_is : (n : ℕ) → (n ≡ session_pass) ⊎ ((n ≡ monitor_pass) ⊎ (monitor_pass < n))
caller_is n = grind (arith)

-- none of these callers
no_callers : (es : List Entry) → own caller_of session_pass es ≡ [] → own caller_of monitor_pass es ≡ [] → ((n : ℕ) → monitor_pass < n → own caller_of n es ≡ []) → es ≡ []
no_callers es session monitor others = no_caller es (λ n. by n (caller_is n))
  where
    by : (n : ℕ) → (n ≡ session_pass) ⊎ ((n ≡ monitor_pass) ⊎ (monitor_pass < n)) → own caller_of n es ≡ []
    by n (inl is) = subst (λ (k : ℕ). own caller_of k es ≡ []) (sym is) session
    by n (inr (inl is)) = subst (λ (k : ℕ). own caller_of k es ≡ []) (sym is) monitor
    by n (inr (inr more)) = others n more

front_length : (log front : List Entry) → StartsWith log front → length front ≤ length log
front_length log front s = omega (arith, ap length s.1, length-append front s.0)

module _ {K : Type 0} where
  session_own : (r : Run K) → IsRunning r → r.session.mine ≡ own caller_of session_pass r.session.seen
  session_own r ready = ready.session.mine ∙ ap (λ (n : ℕ). own caller_of n r.session.seen) ready.zero

  pub watch_own : (r : Run K) → IsRunning r → r.watch.mine ≡ own caller_of monitor_pass r.watch.seen
  watch_own r ready = ready.watch.mine ∙ ap (λ (n : ℕ). own caller_of n r.watch.seen) ready.one

  -- behind what the session has seen, it made no call
  pub uncalled_rest : (r : Run K) (log : List Entry) → IsRunning r → IsHistory r log → IsUncalled (since r.session.seen log)
  uncalled_rest r log ready h =
      let rest = h.session.0 in
      let all : own caller_of session_pass (r.session.seen ++ rest) ≡ own caller_of session_pass r.session.seen = ap (own caller_of session_pass) (sym h.session.1) ∙ (sym h.calls ∙ session_own r ready) in
      ap (own caller_of session_pass) (since-by r.session.seen log rest h.session.1) ∙ own_rest session_pass r.session.seen rest all

  -- a part without a call, and the rest
  pub uncalled_then : (r t : Run K) (log : List Entry) → Extends r.session.seen t.session.seen → IsRunning t → IsHistory t log → IsUncalled (since r.session.seen t.session.seen) → IsUncalled (since r.session.seen log)
  uncalled_then r t log grown ready h none =
      let both = since-then r.session.seen t.session.seen log grown (Extends-by t.session.seen log h.session.0 h.session.1) in
      ap (own caller_of session_pass) both ∙ uncalled_both (since r.session.seen t.session.seen) (since t.session.seen log) none (uncalled_rest t log ready h)

  -- a history of what the monitor has done more is one of before
  pub history_before : (r t : Run K) (log : List Entry) → t.session ≡ r.session → Extends r.watch.seen t.watch.seen → IsHistory t log → IsHistory r log
  history_before r t log session watch h = record {
    session = subst (λ (p : Seen K). StartsWith log p.seen) session h.session;
    watch = starts_again log t.watch.seen r.watch.seen h.watch (since r.watch.seen t.watch.seen, watch);
    calls = ap (λ (p : Seen K). p.mine) (sym session) ∙ h.calls;
    others = h.others;
  }

  -- where neither has made a call, the whole history has none
  pub unbegun : (r : Run K) (log : List Entry) → IsRunning r → IsWhole r log → r.session.mine ≡ [] → r.watch.mine ≡ [] → log ≡ []
  unbegun r log ready w session watch = no_callers log (sym w.history.calls ∙ session) (sym w.monitors ∙ watch) w.history.others

  -- so it has none behind a fresh run
  pub unbegun_since : (a b : Run K) (log : List Entry) → IsFresh a → Extends a.session.seen b.session.seen → IsRunning b → IsWhole b log → b.watch.mine ≡ a.watch.mine → IsUncalled (since a.session.seen b.session.seen) → since a.session.seen log ≡ []
  unbegun_since a b log fresh grown ready w watch none =
      let all : b.session.seen ≡ since a.session.seen b.session.seen = grown ∙ ap (λ (l : List Entry). l ++ since a.session.seen b.session.seen) fresh.unseen in
      let called : b.session.mine ≡ [] = session_own b ready ∙ (ap (own caller_of session_pass) all ∙ none) in
      let nothing_is = unbegun b log ready w called (watch ∙ fresh.unmonitored) in
      ap (since a.session.seen) nothing_is ∙ ap (λ (l : List Entry). since l []) fresh.unseen

  -- The last call

  module _ {c : Call} {coming : Option ℕ} {reply : Reply} (r s t : Run K) (q : Seen K) (log : List Entry) (floor : s.floor ≡ r.floor) (session : s.session ≡ r.session) (ready : IsRunning s) (ended : IsRunning t) (looked : HasLooked s.session q) (same : q.number ≡ session_pass) (caught : length s.watch.seen ≤ length q.seen) (h : Called s.floor.opening c coming q t.session reply) (watched : HasLooked s.watch t.watch) (shown : length t.session.seen ≤ length t.watch.seen) (w : IsHistory t log) where
    abbrev e : Entry
    e = entry_of s.floor.opening h.found q.number c h.now

    log_found : StartsWith log h.found
    log_found = starts_again log t.session.seen h.found w.session (e ∷ [], h.seen)

    log_saw : StartsWith log s.watch.seen
    log_saw = starts_again log t.watch.seen s.watch.seen w.watch watched.seen

    found_length : length q.seen ≤ length h.found
    found_length = front_length h.found q.seen h.begins

    -- what was found begins with what the monitor saw last
    found_saw : StartsWith h.found s.watch.seen
    found_saw = fronts log s.watch.seen h.found log_saw log_found (let k = found_length in omega (arith, caught, k))

    -- and the monitor has then seen it
    saw_found : StartsWith t.watch.seen h.found
    saw_found =
        let one : length t.session.seen ≡ length h.found + 1 = ap length h.seen ∙ length-append h.found (e ∷ []) in
        fronts log h.found t.watch.seen log_found w.watch (omega (arith, one, shown))

    -- no call of the monitor stands between
    no_monitor : own caller_of monitor_pass found_saw.0 ≡ []
    no_monitor =
        let gap = found_saw.0 in
        let rest = saw_found.0 in
        let whole : t.watch.seen ≡ s.watch.seen ++ (gap ++ rest) = saw_found.1 ∙ (ap (λ (l : List Entry). l ++ rest) found_saw.1 ∙ append_assoc s.watch.seen gap rest) in
        let all : own caller_of monitor_pass (s.watch.seen ++ (gap ++ rest)) ≡ own caller_of monitor_pass s.watch.seen = ap (own caller_of monitor_pass) (sym whole) ∙ (sym (watch_own t ended) ∙ (watched.mine ∙ watch_own s ready)) in
        (own_part monitor_pass gap rest (own_rest monitor_pass s.watch.seen (gap ++ rest) all)).0

    -- the session's calls are among those that it had made before
    found_own : own caller_of session_pass h.found ≡ s.session.mine
    found_own =
        let one : own caller_of session_pass (e ∷ []) ≡ e ∷ [] = own_here caller_of session_pass e same in
        let all : own caller_of session_pass h.found ++ e ∷ [] ≡ q.mine ++ e ∷ [] = ap (λ (l : List Entry). own caller_of session_pass h.found ++ l) (sym one) ∙ (sym (own_more caller_of session_pass h.found (e ∷ [])) ∙ (ap (own caller_of session_pass) (sym h.seen) ∙ (sym (session_own t ended) ∙ h.mine))) in
        append_cancel_right (own caller_of session_pass h.found) q.mine (e ∷ []) all ∙ looked.mine

    no_session : own caller_of session_pass found_saw.0 ≡ []
    no_session =
        let gap = found_saw.0 in
        let front = ready.watched.front in
        let begins : StartsWith s.watch.seen front = fronts log front s.watch.seen (starts_again log s.session.seen front log_session ready.watched.begins) log_saw ready.watched.within in
        let whole : h.found ≡ front ++ (begins.0 ++ gap) = found_saw.1 ∙ (ap (λ (l : List Entry). l ++ gap) begins.1 ∙ append_assoc front begins.0 gap) in
        let all : own caller_of session_pass (front ++ (begins.0 ++ gap)) ≡ own caller_of session_pass front = ap (own caller_of session_pass) (sym whole) ∙ (found_own ∙ sym ready.watched.all) in
        (own_part session_pass begins.0 gap (own_rest session_pass front (begins.0 ++ gap) all)).1
      where
        log_session : StartsWith log s.session.seen
        log_session = starts_again log h.found s.session.seen log_found (starts_again h.found q.seen s.session.seen h.begins looked.seen)

    no_other : (n : ℕ) → monitor_pass < n → own caller_of n found_saw.0 ≡ []
    no_other n more =
        let gap = found_saw.0 in
        let whole : log ≡ s.watch.seen ++ (gap ++ log_found.0) = log_found.1 ∙ (ap (λ (l : List Entry). l ++ log_found.0) found_saw.1 ∙ append_assoc s.watch.seen gap log_found.0) in
        let none : own caller_of n (s.watch.seen ++ (gap ++ log_found.0)) ≡ [] = ap (own caller_of n) (sym whole) ∙ w.others n more in
        (own_part n gap log_found.0 (own_part n s.watch.seen (gap ++ log_found.0) none).1).0

    -- so the call was entered just behind what the monitor saw last
    found_is : h.found ≡ s.watch.seen
    found_is = found_saw.1 ∙ (ap (λ (l : List Entry). s.watch.seen ++ l) (no_callers found_saw.0 no_session no_monitor no_other) ∙ append-nil s.watch.seen)

    pub ends_input : c ≡ end_call → busy (reached (behind s.floor.opening s.watch.seen)) ≡ 0 → EndsInput (session_of r) (since r.session.seen log)
    ends_input is quiet =
        let o = s.floor.opening in
        let first : StartsWith h.found s.session.seen = starts_again h.found q.seen s.session.seen h.begins looked.seen in
        let start : StartsWith h.found r.session.seen = subst (λ (p : Seen K). StartsWith h.found p.seen) session first in
        let before = start.0 in
        let rest = w.session.0 in
        let whole : log ≡ r.session.seen ++ (before ++ e ∷ rest) = w.session.1 ∙ (ap (λ (l : List Entry). l ++ rest) h.seen ∙ (append_assoc h.found (e ∷ []) rest ∙ (ap (λ (l : List Entry). l ++ e ∷ rest) start.1 ∙ append_assoc r.session.seen before (e ∷ rest)))) in
        let own_before : own caller_of session_pass (r.session.seen ++ before) ≡ own caller_of session_pass r.session.seen = ap (own caller_of session_pass) (sym start.1) ∙ (found_own ∙ (session_own s ready ∙ ap (λ (p : Seen K). own caller_of session_pass p.seen) session)) in
        let opened = ap (λ (f : Floored K). f.opening.state) (sym floor) in
        record {
          before = before;
          entry = e;
          behind = rest;
          parts = since-by r.session.seen log (before ++ e ∷ rest) whole;
          waited = own_rest session_pass r.session.seen before own_before;
          quiet = subst (λ (l : List Entry). busy (reached (record { opened = r.floor.opening.state; log = l })) ≡ 0) (sym found_is ∙ start.1)
              (subst (λ (x : _). busy (reached (record { opened = x; log = s.watch.seen })) ≡ 0) (sym opened) quiet);
          caller = same;
          call = is;
          last = ap (own caller_of session_pass) (sym (since-by t.session.seen log rest w.session.1)) ∙ uncalled_rest t log ended w;
        }
