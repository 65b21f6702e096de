-- Laws of the parts of a monitor's call, as the code has them.
use Rattle.std.proofs.Common.{◌≡◌, ℕ, ◌+◌, ◌≤◌, ◌==◌, true, false, take, eq-eqb, List, [], ◌∷◌, ◌++◌, length, map, Option, Some, None, IfSome, option_to_list, sym, ap, subst, ◌∙◌, refl, append-nil, arith, inl, inr}
use Rattle.std.specs.List.{count_by, list_all}
use Rattle.std.proofs.Math.Seq.{take-append_seam}
use Rattle.std.proofs.lemmas.List.{length-append}
use Rattle.std.proofs.lemmas.List.Elements.{filter_map-append}
use Rattle.wm_base.specs.declared.job.Asked.{Asked}
use Rattle.wm_base.specs.declared.job.Asked.TheVariants.{Kill}
use Rattle.wm_law.specs.declared.call.Call.{Call}
use Rattle.wm_law.specs.declared.call.Call.TheVariants as call
use Rattle.wm_law.specs.declared.call.Entry.{Entry}
use Rattle.wm_law.specs.declared.call.Reply.{Reply}
use Rattle.wm_law.specs.History.{is_hand, is_report, order_in, ordered, orders}
use Rattle.wm_traits.specs.Told.{Grows}
use Rattle.wm_traits.proofs.Telling.{Grows-none, Grows-then}
use Rattle.wm_floor.specs.Asking.{AsksFirst, AsksFor}
use Rattle.wm_floor.specs.Lists.{IsAmong}
use Rattle.wm_floor.specs.Monitor.{RisesBy, call_of, hands_of, is_spawner_fault}
use Rattle.wm_floor.specs.Scene.{kill_left, IsAskedOrKept, IsClear, Scene, Spawning, scene}
use Rattle.wm_floor.specs.declared.report.Report.{Report}
use Rattle.wm_floor.specs.declared.report.Report.TheVariants.{Started, StartFailed, Finished, UseDone}
use Rattle.wm_floor.proofs.MonitorCounts.{hands-append, hands_first}
use Rattle.wm_floor.proofs.Lists.{IsAmong-nil, since-then}
use Rattle.wm_floor.specs.declared.answer.Answered.{Answered}
use Rattle.wm_floor.specs.Floor.{Floored, IsPassOf, Seen}
use Rattle.wm_floor.specs.declared.monitor.Monitor.{Monitor}
use Rattle.wm_floor.specs.Advance.{Advances, AdvancesFor, GoesOn, HasAsked, HasReported, IsWithin, added}
use Rattle.wm_floor.specs.Made.{AreAt, IsMade}
use Rattle.wm_floor.proofs.Advances.{Advances-by, Advances-of, Advances-still, Advances-then, AdvancesFor-by, AdvancesFor-more, AdvancesFor-still, AdvancesFor-then, HasAsked-again, HasAsked-none, HasAsked-nothing, HasAsked-order, HasReported-none, HasReported-nothing, HasReported-sent, HasReported-told, orders_none, orders_one, orders_without, reports_none, reports_one}
use Rattle.wm_floor.proofs.MonitorPasses.{since-by}

-- a report is no Hand
report_call : (r : Report) → is_report (call_of r) ≡ true
report_call (Started serial) = refl
report_call (StartFailed serial why) = refl
report_call (Finished serial end) = refl
report_call (UseDone serial) = refl

no_hand : (r : Report) → is_hand (call_of r) ≡ false
no_hand (Started serial) = refl
no_hand (StartFailed serial why) = refl
no_hand (Finished serial end) = refl
no_hand (UseDone serial) = refl

-- a call that isn't a Hand is one other
one_other : (e : Entry) → is_hand e.call ≡ false → IsWithin 0 1 (e ∷ [])
one_other e is = let none : hands_of (e ∷ []) ≡ 0 = rw is refl in record { hands_most = omega arith; others_most = omega arith }

-- a kill that is kept is the one that was asked, and one that is done isn't kept
pub kill_kept : (n : Monitor) (serial : ℕ) → n.failed_kill ≡ Some serial → IsAmong (kill_left n.failed_kill) (Kill serial ∷ [])
kill_kept n serial is = subst (λ (f : Option ℕ). IsAmong (kill_left f) (Kill serial ∷ [])) (sym is) (λ x h. h)

pub kill_done : (n : Monitor) (x : Asked) → n.failed_kill ≡ None → IsAmong (kill_left n.failed_kill) (x ∷ [])
kill_done n x is = subst (λ (f : Option ℕ). IsAmong (kill_left f) (x ∷ [])) (sym is) (IsAmong-nil (x ∷ []))

-- a kill that was ordered is asked, and is kept where it failed
pub killed_asked : (m n : Monitor) (x : Asked) (s t : Spawning) → IsClear m → IsAmong (kill_left n.failed_kill) (x ∷ []) → Grows s.asked t.asked (x ∷ []) → HasAsked (x ∷ []) (scene m s) (scene n t)
killed_asked m n x s t clear failed grows = HasAsked-order x (scene m s) (scene n t) (ap kill_left clear.no_kill) failed grows

pub killed_reported : (m n : Monitor) (s t : Spawning) → n.kept ≡ m.kept → Grows s.told t.told [] → t.misses ≡ s.misses → HasReported [] (scene m s) (scene n t)
killed_reported m n s t kept grows misses = HasReported-nothing (scene m s) (scene n t) (ap option_to_list kept) grows misses

-- an answer of the spawner is kept
pub kept_reported : (m n : Monitor) (o : Option Report) (s t : Spawning) → m.kept ≡ None → n.kept ≡ o → Grows s.told t.told (map call_of (option_to_list o)) → RisesBy s.misses (count_by is_spawner_fault (map call_of (option_to_list o))) t.misses → HasReported [] (scene m s) (scene n t)
kept_reported m n o s t none is grows rises =
    let list : option_to_list n.kept ≡ option_to_list o = ap option_to_list is in
    let grows_by = subst (λ (ks : List Report). Grows s.told t.told (map call_of ks)) (sym list) grows in
    let rises_by = subst (λ (ks : List Report). RisesBy s.misses (count_by is_spawner_fault (map call_of ks)) t.misses) (sym list) rises in
    HasReported-told (scene m s) (scene n t) (ap option_to_list none) grows_by rises_by

-- a look asks nothing
pub looked_asked : (m n : Monitor) (s t : Spawning) → n.failed_kill ≡ m.failed_kill → Grows s.asked t.asked [] → HasAsked [] (scene m s) (scene n t)
looked_asked m n s t failed grows = HasAsked-nothing (scene m s) (scene n t) (ap kill_left failed) grows

-- the kill that failed is asked again
pub again_asked : (m n : Monitor) (serial : ℕ) (s t : Spawning) → m.failed_kill ≡ Some serial → IsAmong (kill_left n.failed_kill) (Kill serial ∷ []) → Grows s.asked t.asked (Kill serial ∷ []) → HasAsked [] (scene m s) (scene n t)
again_asked m n serial s t had failed grows = HasAsked-again serial (scene m s) (scene n t) (ap kill_left had) failed grows

module _ {K : Type 0} (f : Floored K) where
  -- the kept report is sent
  pub sent_part : (p q : Seen K) (m n : Monitor) (r : Report) (c : Call) (now : ℕ) (a : Answered) (s : Spawning) → GoesOn f p q → IsMade c now p q a → c ≡ call_of r → m.kept ≡ Some r → n.kept ≡ None → n.failed_kill ≡ m.failed_kill → Advances f 0 1 p q (scene m s) (scene n s)
  sent_part p q m n r c now a s goes made is had none failed =
      let e = made.entry in
      let call_is : e.call ≡ call_of r = made.call_is ∙ is in
      let hand : is_hand e.call ≡ false = ap is_hand call_is ∙ no_hand r in
      let report : is_report e.call ≡ true = ap is_report call_is ∙ report_call r in
      let reports_is = reports_one e p.number made.caller report ∙ ap (λ (x : Call). x ∷ []) call_is in
      Advances-by f 0 1 p q (scene m s) (scene n s) (e ∷ []) [] (call_of r ∷ []) goes made.mine (one_other e hand) (orders_none e p.number hand) reports_is
      (looked_asked m n s s failed (Grows-none s.asked)) (HasReported-sent r (scene m s) (scene n s) (ap option_to_list had) (ap option_to_list none) refl) (omega arith)

  -- a start was ordered and asked, and what the spawner told of it is sent
  pub started_part : (p q : Seen K) (m k n : Monitor) (x : Asked) (told_is : Option Report) (v w : Spawning) → IsPassOf f p → IsClear m → k.kept ≡ told_is → k.failed_kill ≡ m.failed_kill → Grows v.asked w.asked (x ∷ []) → Grows v.told w.told (map call_of (option_to_list told_is)) → RisesBy v.misses (count_by is_spawner_fault (map call_of (option_to_list told_is))) w.misses → v.faults ≤ w.faults → Advances f 0 1 p q (scene k w) (scene n w) → AdvancesFor f 0 1 (x ∷ []) p q (scene m v) (scene n w)
  started_part p q m k n x told_is v w own clear kept failed asked told misses faults sent =
      let first = AdvancesFor-still f 0 0 (x ∷ []) p (scene m v) (scene k w) own (killed_asked m k x v w clear (kill_done k x (failed ∙ clear.no_kill)) asked) (kept_reported m k told_is v w clear.no_report kept told misses) faults in
      AdvancesFor-more f 0 0 1 (x ∷ []) p p q (scene m v) (scene k w) (scene n w) first sent

  -- the spawner told nothing
  pub unreported_part : (h o : ℕ) (p : Seen K) (m : Monitor) (v w : Spawning) → IsPassOf f p → m.kept ≡ None → Grows v.asked w.asked [] → Grows v.told w.told [] → RisesBy v.misses 0 w.misses → v.faults ≤ w.faults → Advances f h o p p (scene m v) (scene m w)
  unreported_part h o p m v w own none asked told misses faults =
      Advances-still f h o p (scene m v) (scene m w) own (looked_asked m m v w refl asked) (kept_reported m m None v w none none told misses) faults

  -- the same of a look that found nothing
  pub quiet_part : (h o : ℕ) (p : Seen K) (m : Monitor) (v w : Spawning) (found : Option Report) → found ≡ None → IsPassOf f p → m.kept ≡ None → Grows v.asked w.asked [] → Grows v.told w.told (map call_of (option_to_list found)) → RisesBy v.misses (count_by is_spawner_fault (map call_of (option_to_list found))) w.misses → v.faults ≤ w.faults → Advances f h o p p (scene m v) (scene m w)
  quiet_part h o p m v w found none own kept asked told misses faults =
      Advances-still f h o p (scene m v) (scene m w) own (looked_asked m m v w refl asked) (kept_reported m m found v w kept (kept ∙ sym none) told misses) faults

  -- what the spawner told is kept, and then it is sent
  pub reported_part : (p q : Seen K) (m k n : Monitor) (told_is : Option Report) (v w : Spawning) → IsPassOf f p → m.kept ≡ None → k.kept ≡ told_is → k.failed_kill ≡ m.failed_kill → Grows v.asked w.asked [] → Grows v.told w.told (map call_of (option_to_list told_is)) → RisesBy v.misses (count_by is_spawner_fault (map call_of (option_to_list told_is))) w.misses → v.faults ≤ w.faults → Advances f 0 1 p q (scene k w) (scene n w) → Advances f 0 1 p q (scene m v) (scene n w)
  reported_part p q m k n told_is v w own none kept failed asked told misses faults sent =
      let first = Advances-still f 0 0 p (scene m v) (scene k w) own (looked_asked m k v w failed asked) (kept_reported m k told_is v w none kept told misses) faults in
      Advances-then f 0 0 0 1 p p q (scene m v) (scene k w) (scene n w) first sent

  -- the kept report is sent, and then the kill that failed is tried again
  pub tried_part : (p q : Seen K) (m k n : Monitor) (v w : Spawning) → Advances f 0 1 p q (scene m v) (scene k v) → HasAsked [] (scene k v) (scene n w) → HasReported [] (scene k v) (scene n w) → v.faults ≤ w.faults → Advances f 0 1 p q (scene m v) (scene n w)
  tried_part p q m k n v w sent asked reported faults =
      let again = Advances-still f 0 0 q (scene k v) (scene n w) sent.pass.own asked reported faults in
      Advances-then f 0 1 0 0 p q q (scene m v) (scene k v) (scene n w) sent again

  -- a Tick is made
  pub ticked_part : (p q : Seen K) (now : ℕ) (a : Answered) (around : Scene) → GoesOn f p q → IsMade call.Tick now p q a → Advances f 0 1 p q around around
  ticked_part p q now a around goes made =
      let e = made.entry in
      let hand : is_hand e.call ≡ false = ap is_hand made.call_is in
      let report : is_report e.call ≡ false = ap is_report made.call_is in
      Advances-by f 0 1 p q around around (e ∷ []) [] [] goes made.mine (one_other e hand) (orders_none e p.number hand) (reports_none e p.number report) (HasAsked-none around) (HasReported-none around around refl refl) (omega arith)

  -- how many entries two parts made
  pub added-then : (p q r : Seen K) → GoesOn f p q → GoesOn f q r → added p r ≡ added p q ++ added q r
  added-then p q r h k = since-then p.mine q.mine r.mine h.mine k.mine

  pub count_then : (p q r : Seen K) (m n : ℕ) → GoesOn f p q → GoesOn f q r → m ≡ length (added p q) → n ≡ length (added q r) → m + n ≡ length (added p r)
  count_then p q r m n h k x y =
      let both = ap length (added-then p q r h k) ∙ length-append (added p q) (added q r) in
      omega arith

  -- where there was a report, an entry was made
  pub some_then : (p q r : Seen K) (kept : Option Report) → GoesOn f p q → GoesOn f q r → IfSome kept (λ _. 1 ≤ length (added p q)) → IfSome kept (λ _. 1 ≤ length (added p r))
  some_then p q r None h k some = tt
  some_then p q r (Some report) h k some =
      let both = ap length (added-then p q r h k) ∙ length-append (added p q) (added q r) in
      omega arith

  pub hands_then : (p q r : Seen K) → GoesOn f p q → GoesOn f q r → hands_of (added p r) ≡ hands_of (added p q) + hands_of (added q r)
  hands_then p q r h k = ap hands_of (added-then p q r h k) ∙ hands-append (added p q) (added q r)

  -- a pass that has made nothing has made no Hand
  pub hands_none : (p q : Seen K) → q.mine ≡ p.mine → hands_of (added p q) ≡ 0
  hands_none p q same = ap hands_of (since-by p.mine q.mine [] (same ∙ sym (append-nil p.mine)))

  pub made_one : {c : Call} {now : ℕ} {a : Answered} (p q : Seen K) → IsMade c now p q a → 1 ≡ length (added p q)
  made_one p q made = sym (ap length (since-by p.mine q.mine (made.entry ∷ []) made.mine))

  pub made_none : (p q : Seen K) → q.mine ≡ p.mine → 0 ≡ length (added p q)
  made_none p q same = sym (ap length (since-by p.mine q.mine [] (same ∙ none)))
    where
      none : p.mine ≡ p.mine ++ []
      none = sym (append-nil p.mine)

  -- an entry has the moment that the clock gave
  pub made_at : {c : Call} {now : ℕ} {a : Answered} (p q : Seen K) (coming : Option ℕ) → IsMade c now p q a → IfSome coming (λ told. now ≡ told) → AreAt coming (added p q)
  made_at p q None made told = tt
  made_at p q (Some moment) made told =
      let es : added p q ≡ made.entry ∷ [] = since-by p.mine q.mine (made.entry ∷ []) made.mine in
      let test : made.entry.moment == moment ≡ true = eq-eqb made.entry.moment moment (made.moment ∙ told) in
      ap (list_all (λ (e : Entry). e.moment == moment)) es ∙ rw test refl

  pub none_at : (p q : Seen K) (coming : Option ℕ) → q.mine ≡ p.mine → AreAt coming (added p q)
  none_at p q None same = tt
  none_at p q (Some moment) same = ap (list_all (λ (e : Entry). e.moment == moment)) (since-by p.mine q.mine [] (same ∙ sym (append-nil p.mine)))

  -- the same of the first entry, where more follow
  pub first_at : {c : Call} {now : ℕ} {a : Answered} (p q r : Seen K) (coming : Option ℕ) → GoesOn f p q → IsMade c now p q a → GoesOn f q r → IfSome coming (λ told. now ≡ told) → AreAt coming (take 1 (added p r))
  first_at p q r coming goes made then told =
      let front : added p q ≡ made.entry ∷ [] = since-by p.mine q.mine (made.entry ∷ []) made.mine in
      let es : added p r ≡ (made.entry ∷ []) ++ added q r = added-then p q r goes then ∙ ap (λ (xs : List Entry). xs ++ added q r) front in
      let one : take 1 (added p r) ≡ added p q = ap (take 1) es ∙ (take-append_seam (made.entry ∷ []) (added q r) ∙ sym front) in
      subst (λ (xs : List Entry). AreAt coming xs) (sym one) (made_at p q coming made told)

  pub none_first_at : (p q : Seen K) (coming : Option ℕ) → q.mine ≡ p.mine → AreAt coming (take 1 (added p q))
  none_first_at p q coming same =
      let none : added p q ≡ [] = since-by p.mine q.mine [] (same ∙ sym (append-nil p.mine)) in
      let one : take 1 (added p q) ≡ added p q = ap (take 1) none ∙ sym none in
      subst (λ (xs : List Entry). AreAt coming xs) (sym one) (none_at p q coming same)

  -- a Hand, and then what it ordered is done
  pub handed_part : (p q r : Seen K) (now : ℕ) (a : Answered) (b c : Scene) → GoesOn f p q → IsMade call.Hand now p q a → AdvancesFor f 0 1 (option_to_list (order_in a.reply)) q r b c → Advances f 1 0 p r b c
  handed_part p q r now a b c goes made then =
      let e = made.entry in
      let os = option_to_list (order_in a.reply) in
      let hand : is_hand e.call ≡ true = ap is_hand made.call_is in
      let report : is_report e.call ≡ false = ap is_report made.call_is in
      let one : hands_of (e ∷ []) ≡ 1 = rw hand refl in
      let first = AdvancesFor-by f 1 0 p q b b (e ∷ []) [] [] goes made.mine (record { hands_most = omega arith; others_most = omega arith }) (reports_none e p.number report) (HasAsked-none b) (HasReported-none b b refl refl) (omega arith) in
      let whole = AdvancesFor-then f 1 0 0 1 [] os p q r b b c first then in
      let all = added-then p q r goes then.pass in
      let front : added p q ≡ e ∷ [] = since-by p.mine q.mine (e ∷ []) made.mine in
      let es : added p r ≡ (e ∷ []) ++ added q r = all ∙ ap (λ (xs : List Entry). xs ++ added q r) front in
      let none = orders_without (added q r) p.number then.within.hands_most in
      let both : orders ((e ∷ []) ++ added q r) p.number ≡ orders (e ∷ []) p.number ++ orders (added q r) p.number = filter_map-append (ordered p.number) (e ∷ []) (added q r) in
      let its : orders (e ∷ []) p.number ≡ os = orders_one e p.number made.caller hand ∙ ap (λ (x : Reply). option_to_list (order_in x)) (sym made.reply) in
      let ordered_is : orders (added p r) p.number ≡ os = ap (λ (xs : List Entry). orders xs p.number) es ∙ (both ∙ (ap (λ (xs : List Asked). orders (e ∷ []) p.number ++ xs) none ∙ (append-nil (orders (e ∷ []) p.number) ∙ its))) in
      let hands = ap hands_of es ∙ hands-append (e ∷ []) (added q r) in
      let count = ap length es ∙ length-append (e ∷ []) (added q r) in
      let x = then.within.hands_most in
      let y = then.within.others_most in
      Advances-of f 1 0 os p r b c ordered_is (record {
        pass = whole.pass;
        within = record { hands_most = omega arith; others_most = omega arith };
        asked = whole.asked;
        reported = whole.reported;
        faults = whole.faults;
      })

  -- there was a Hand
  pub handed_one : (p q r : Seen K) (now : ℕ) (a : Answered) → GoesOn f p q → IsMade call.Hand now p q a → GoesOn f q r → 1 ≤ hands_of (added p r)
  handed_one p q r now a goes made then =
      let e = made.entry in
      let all = added-then p q r goes then in
      let front : added p q ≡ e ∷ [] = since-by p.mine q.mine (e ∷ []) made.mine in
      let es : added p r ≡ e ∷ added q r = all ∙ ap (λ (xs : List Entry). xs ++ added q r) front in
      subst (λ (xs : List Entry). 1 ≤ hands_of xs) (sym es) (hands_first e (added q r) made.call_is)

-- what was asked first, and then more
pub AsksFirst-more : (x : Asked) (mid : List Asked) (a b c : Option (List Asked)) (orders : List Asked) → AsksFirst x a b → AsksFor mid b c orders → AsksFirst x a c
AsksFirst-more x mid a b c orders h k = (h.0 ++ k.asks, Grows-then a b c (x ∷ h.0) k.asks h.1 k.told)

-- the kill that failed was asked first, and then more
pub AsksFirst-since : (failed : Option ℕ) (mid : List Asked) (a b c : Option (List Asked)) (orders : List Asked) → IfSome failed (λ serial. AsksFirst (Kill serial) a b) → AsksFor mid b c orders → IfSome failed (λ serial. AsksFirst (Kill serial) a c)
AsksFirst-since None mid a b c orders h k = tt
AsksFirst-since (Some serial) mid a b c orders h k = AsksFirst-more (Kill serial) mid a b c orders h k

-- a kill that failed is kept, or was asked
pub kill_is_kept : (failed kept : Option ℕ) (a b : Option (List Asked)) → kept ≡ failed → IsAskedOrKept failed a b kept
kill_is_kept None kept a b same = tt
kill_is_kept (Some serial) kept a b same = inr same

pub kill_is_asked : (failed kept : Option ℕ) (a b : Option (List Asked)) → IfSome failed (λ serial. AsksFirst (Kill serial) a b) → IsAskedOrKept failed a b kept
kill_is_asked None kept a b asked = tt
kill_is_asked (Some serial) kept a b asked = inl asked
