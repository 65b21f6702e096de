-- Laws of what a monitor does: nothing, one thing after another, and its parts.
use Rattle.std.proofs.Common.{◌≡◌, ℕ, ◌+◌, ◌≤◌, ◌==◌, Bool, true, false, List, [], ◌∷◌, ◌++◌, map, Option, Some, None, option_to_list, sym, ap, subst, ◌∙◌, refl, eq-eqb, append_assoc, append-nil, arith}
use Rattle.std.specs.List.{count_by}
use Rattle.std.specs.Prelude.{Contains}
use Rattle.std.proofs.lemmas.List.{length-append}
use Rattle.std.proofs.lemmas.List.Elements.{filter_map-append}
use Rattle.wm_base.specs.declared.job.Asked.{Asked}
use Rattle.wm_base.specs.declared.job.Asked.TheVariants.{Kill}
use Rattle.wm_law.specs.declared.call.Call.{Call}
use Rattle.wm_law.specs.declared.call.Entry.{Entry}
use Rattle.wm_law.specs.History.{is_hand, is_report, order_in, ordered, orders, reported_in, reports}
use Rattle.wm_traits.specs.Told.{Grows}
use Rattle.wm_traits.proofs.Telling.{Grows-none, Grows-then}
use Rattle.wm_floor.specs.Asking.{AsksFor}
use Rattle.wm_floor.specs.Lists.{IsAmong}
use Rattle.wm_floor.specs.Monitor.{RisesBy, call_of, hands_of, is_spawner_fault}
use Rattle.wm_floor.specs.declared.report.Report.{Report}
use Rattle.wm_floor.proofs.Askings.{AsksFor-again, AsksFor-nothing, AsksFor-order, AsksFor-then}
use Rattle.wm_floor.proofs.MonitorCounts.{RisesBy-then, count-append, hands-append}
use Rattle.wm_floor.proofs.Lists.{IsAmong-front, IsAmong-more, since-then}
use Rattle.wm_floor.specs.Floor.{Floored, IsPassOf, Seen}
use Rattle.wm_floor.specs.Advance.{Advances, AdvancesFor, GoesOn, HasAsked, HasReported, IsWithin, added}
use Rattle.wm_floor.specs.Scene.{Scene, Spawning}
use Rattle.wm_floor.proofs.MonitorPasses.{GoesOn-none, GoesOn-then, since-by}

-- within more
pub IsWithin-most : (h o i k : ℕ) (es : List Entry) → IsWithin h o es → h ≤ i → o ≤ k → IsWithin i k es
IsWithin-most h o i k es w a b = let x = w.hands_most in let y = w.others_most in record { hands_most = omega arith; others_most = omega arith }

pub IsWithin-none : (h o : ℕ) → IsWithin h o []
IsWithin-none h o = record { hands_most = omega arith; others_most = omega arith }

pub IsWithin-append : (h o i k : ℕ) (es fs : List Entry) → IsWithin h o es → IsWithin i k fs → IsWithin (h + i) (o + k) (es ++ fs)
IsWithin-append h o i k es fs v w =
    let hands = hands-append es fs in
    let count = length-append es fs in
    let a = v.hands_most in
    let b = v.others_most in
    let x = w.hands_most in
    let y = w.others_most in
    record { hands_most = omega arith; others_most = omega arith }

-- asks, and then more of them
pub HasAsked-then : (os ps : List Asked) (a b c : Scene) → HasAsked os a b → HasAsked ps b c → HasAsked (os ++ ps) a c
HasAsked-then os ps a b c h k = record {
  asked = AsksFor-then a.failed b.failed a.spawning.asked b.spawning.asked c.spawning.asked os ps h.asked h.failed k.asked;
  failed = λ x within. subst (λ (xs : List Asked). Contains xs x) (append_assoc a.failed os ps) (IsAmong-more b.failed (a.failed ++ os) ps h.failed x (k.failed x within));
}

-- nothing is asked
pub HasAsked-nothing : (a b : Scene) → b.failed ≡ a.failed → Grows a.spawning.asked b.spawning.asked [] → HasAsked [] a b
HasAsked-nothing a b failed grows = record {
  asked = AsksFor-nothing a.failed a.spawning.asked b.spawning.asked grows;
  failed = subst (λ (xs : List Asked). IsAmong xs (a.failed ++ [])) (sym failed) (IsAmong-front a.failed []);
}

pub HasAsked-none : (a : Scene) → HasAsked [] a a
HasAsked-none a = HasAsked-nothing a a refl (Grows-none a.spawning.asked)

-- an order is asked
pub HasAsked-order : (x : Asked) (a b : Scene) → a.failed ≡ [] → IsAmong b.failed (x ∷ []) → Grows a.spawning.asked b.spawning.asked (x ∷ []) → HasAsked (x ∷ []) a b
HasAsked-order x a b clear failed grows = record {
  asked = AsksFor-order a.failed x a.spawning.asked b.spawning.asked grows;
  failed = subst (λ (xs : List Asked). IsAmong b.failed (xs ++ x ∷ [])) (sym clear) failed;
}

-- a kill is tried again
pub HasAsked-again : (serial : ℕ) (a b : Scene) → a.failed ≡ Kill serial ∷ [] → IsAmong b.failed (Kill serial ∷ []) → Grows a.spawning.asked b.spawning.asked (Kill serial ∷ []) → HasAsked [] a b
HasAsked-again serial a b had failed grows = record {
  asked = subst (λ (xs : List Asked). AsksFor xs a.spawning.asked b.spawning.asked []) (sym had) (AsksFor-again serial a.spawning.asked b.spawning.asked grows);
  failed = subst (λ (xs : List Asked). IsAmong b.failed xs) (sym (append-nil a.failed ∙ had)) failed;
}

-- reports, and then more of them
pub HasReported-then : (rs ts : List Call) (a b c : Scene) → HasReported rs a b → HasReported ts b c → HasReported (rs ++ ts) a c
HasReported-then rs ts a b c h k = record {
  more = h.more ++ k.more;
  whole = append_assoc rs ts (map call_of c.kept) ∙ (ap (λ (xs : List Call). rs ++ xs) k.whole ∙ (sym (append_assoc rs (map call_of b.kept) k.more) ∙ (ap (λ (xs : List Call). xs ++ k.more) h.whole ∙ append_assoc (map call_of a.kept) h.more k.more)));
  told = Grows-then a.spawning.told b.spawning.told c.spawning.told h.more k.more h.told k.told;
  misses = RisesBy-then a.spawning.misses b.spawning.misses c.spawning.misses _ _ _ (count-append h.more k.more) h.misses k.misses;
}

-- nothing is told
pub HasReported-nothing : (a b : Scene) → b.kept ≡ a.kept → Grows a.spawning.told b.spawning.told [] → b.spawning.misses ≡ a.spawning.misses → HasReported [] a b
HasReported-nothing a b kept grows misses = record {
  more = [];
  whole = ap (map call_of) kept ∙ sym (append-nil (map call_of a.kept));
  told = grows;
  misses = omega arith;
}

pub HasReported-none : (a b : Scene) → b.kept ≡ a.kept → b.spawning ≡ a.spawning → HasReported [] a b
HasReported-none a b kept same =
    HasReported-nothing a b kept (subst (λ (t : Option (List Call)). Grows a.spawning.told t []) (sym (ap (λ (s : Spawning). s.told) same)) (Grows-none a.spawning.told)) (ap (λ (s : Spawning). s.misses) same)

-- what is told is kept
pub HasReported-told : (a b : Scene) → a.kept ≡ [] → Grows a.spawning.told b.spawning.told (map call_of b.kept) → RisesBy a.spawning.misses (count_by is_spawner_fault (map call_of b.kept)) b.spawning.misses → HasReported [] a b
HasReported-told a b none grows rises = record {
  more = map call_of b.kept;
  whole = ap (λ (ks : List Report). map call_of ks ++ map call_of b.kept) (sym none);
  told = grows;
  misses = rises;
}

-- the kept report is sent
pub HasReported-sent : (r : Report) (a b : Scene) → a.kept ≡ r ∷ [] → b.kept ≡ [] → b.spawning ≡ a.spawning → HasReported (call_of r ∷ []) a b
HasReported-sent r a b had none same = record {
  more = [];
  whole = ap (λ (ks : List Report). (call_of r ∷ []) ++ map call_of ks) none ∙ sym (ap (λ (ks : List Report). map call_of ks ++ []) had);
  told = subst (λ (t : Option (List Call)). Grows a.spawning.told t []) (sym (ap (λ (s : Spawning). s.told) same)) (Grows-none a.spawning.told);
  misses = let m = ap (λ (s : Spawning). s.misses) same in omega arith;
}

-- what one entry orders and reports
pub orders_one : (e : Entry) (m : ℕ) → e.caller ≡ m → is_hand e.call ≡ true → orders (e ∷ []) m ≡ option_to_list (order_in e.reply)
orders_one e m own hand =
    let test : e.caller == m ≡ true = eq-eqb e.caller m own in
    let one : ordered m e ≡ order_in e.reply = rw (test, hand) refl in
    by (ordered m e) (order_in e.reply) refl one
  where
    by : (o p : Option Asked) → ordered m e ≡ o → o ≡ p → orders (e ∷ []) m ≡ option_to_list p
    by None None is same = rw is refl
    by None (Some a) is same = absurd (cc)
    by (Some a) None is same = absurd (cc)
    by (Some a) (Some b) is same = let whole : ordered m e ≡ Some b = is ∙ same in rw whole refl

pub orders_none : (e : Entry) (m : ℕ) → is_hand e.call ≡ false → orders (e ∷ []) m ≡ []
orders_none e m no_hand = by (e.caller == m) refl
  where
    by : (b : Bool) → e.caller == m ≡ b → orders (e ∷ []) m ≡ []
    by true is = rw (is, no_hand) refl
    by false is = rw is refl

-- entries without a Hand order nothing
pub orders_without : (es : List Entry) (m : ℕ) → hands_of es ≤ 0 → orders es m ≡ []
orders_without [] m none = refl
orders_without (e ∷ es) m none = by (is_hand e.call) refl (orders_without es m)
  where
    by : (b : Bool) → is_hand e.call ≡ b → (hands_of es ≤ 0 → orders es m ≡ []) → orders (e ∷ es) m ≡ []
    by true is rest =
        let one : hands_of (e ∷ []) ≡ 1 = rw is refl in
        let both : hands_of (e ∷ es) ≡ hands_of (e ∷ []) + hands_of es = hands-append (e ∷ []) es in
        absurd (omega arith)
    by false is rest =
        let both : hands_of (e ∷ es) ≡ hands_of (e ∷ []) + hands_of es = hands-append (e ∷ []) es in
        let whole : orders (e ∷ es) m ≡ orders (e ∷ []) m ++ orders es m = filter_map-append (ordered m) (e ∷ []) es in
        whole ∙ (ap (λ (xs : List Asked). xs ++ orders es m) (orders_none e m is) ∙ rest (omega arith))

pub reports_one : (e : Entry) (m : ℕ) → e.caller ≡ m → is_report e.call ≡ true → reports (e ∷ []) m ≡ e.call ∷ []
reports_one e m own report = let test : e.caller == m ≡ true = eq-eqb e.caller m own in rw (test, report) refl

pub reports_none : (e : Entry) (m : ℕ) → is_report e.call ≡ false → reports (e ∷ []) m ≡ []
reports_none e m no_report = by (e.caller == m) refl
  where
    by : (b : Bool) → e.caller == m ≡ b → reports (e ∷ []) m ≡ []
    by true is = rw (is, no_report) refl
    by false is = rw is refl

module _ {K : Type 0} (f : Floored K) where
  -- what is done, by the entries that are made
  pub AdvancesFor-by : (h o : ℕ) (p q : Seen K) (a b : Scene) (es : List Entry) (os : List Asked) (rs : List Call) → GoesOn f p q → q.mine ≡ p.mine ++ es → IsWithin h o es → reports es p.number ≡ rs → HasAsked os a b → HasReported rs a b → a.spawning.faults ≤ b.spawning.faults → AdvancesFor f h o os p q a b
  AdvancesFor-by h o p q a b es os rs pass mine within r_is asked reported faults =
      let made : added p q ≡ es = since-by p.mine q.mine es mine in
      record {
        pass = pass;
        within = subst (λ (xs : List Entry). IsWithin h o xs) (sym made) within;
        asked = asked;
        reported = subst (λ (xs : List Call). HasReported xs a b) (sym (ap (λ (xs : List Entry). reports xs p.number) made ∙ r_is)) reported;
        faults = faults;
      }

  -- what was ordered is what the new Hands order
  pub Advances-of : (h o : ℕ) (os : List Asked) (p q : Seen K) (a b : Scene) → orders (added p q) p.number ≡ os → AdvancesFor f h o os p q a b → Advances f h o p q a b
  Advances-of h o os p q a b is part = subst (λ (xs : List Asked). AdvancesFor f h o xs p q a b) (sym is) part

  pub Advances-by : (h o : ℕ) (p q : Seen K) (a b : Scene) (es : List Entry) (os : List Asked) (rs : List Call) → GoesOn f p q → q.mine ≡ p.mine ++ es → IsWithin h o es → orders es p.number ≡ os → reports es p.number ≡ rs → HasAsked os a b → HasReported rs a b → a.spawning.faults ≤ b.spawning.faults → Advances f h o p q a b
  Advances-by h o p q a b es os rs pass mine within o_is r_is asked reported faults =
      let made : added p q ≡ es = since-by p.mine q.mine es mine in
      Advances-of h o os p q a b (ap (λ (xs : List Entry). orders xs p.number) made ∙ o_is) (AdvancesFor-by h o p q a b es os rs pass mine within r_is asked reported faults)

  -- no entry is made
  pub Advances-quiet : (h o : ℕ) (p q : Seen K) (a b : Scene) → GoesOn f p q → q.mine ≡ p.mine → HasAsked [] a b → HasReported [] a b → a.spawning.faults ≤ b.spawning.faults → Advances f h o p q a b
  Advances-quiet h o p q a b pass mine asked reported faults =
      Advances-by h o p q a b [] [] [] pass (mine ∙ sym (append-nil p.mine)) (IsWithin-none h o) refl refl asked reported faults

  -- the pass isn't called
  pub AdvancesFor-still : (h o : ℕ) (os : List Asked) (p : Seen K) (a b : Scene) → IsPassOf f p → HasAsked os a b → HasReported [] a b → a.spawning.faults ≤ b.spawning.faults → AdvancesFor f h o os p p a b
  AdvancesFor-still h o os p a b own asked reported faults =
      AdvancesFor-by h o p p a b [] os [] (GoesOn-none f p own) (sym (append-nil p.mine)) (IsWithin-none h o) refl asked reported faults

  pub Advances-still : (h o : ℕ) (p : Seen K) (a b : Scene) → IsPassOf f p → HasAsked [] a b → HasReported [] a b → a.spawning.faults ≤ b.spawning.faults → Advances f h o p p a b
  Advances-still h o p a b own asked reported faults = Advances-quiet h o p p a b (GoesOn-none f p own) refl asked reported faults

  -- the monitor and the spawner are as they were
  pub Advances-looked : (h o : ℕ) (p q : Seen K) (a : Scene) → GoesOn f p q → q.mine ≡ p.mine → Advances f h o p q a a
  Advances-looked h o p q a pass mine = Advances-quiet h o p q a a pass mine (HasAsked-none a) (HasReported-none a a refl refl) (omega arith)

  pub Advances-none : (h o : ℕ) (p : Seen K) (a : Scene) → IsPassOf f p → Advances f h o p p a a
  Advances-none h o p a own = Advances-looked h o p p a (GoesOn-none f p own) refl

  pub Advances-most : (h o i k : ℕ) (p q : Seen K) (a b : Scene) → Advances f h o p q a b → h ≤ i → o ≤ k → Advances f i k p q a b
  Advances-most h o i k p q a b part x y = record {
    pass = part.pass;
    within = IsWithin-most h o i k (added p q) part.within x y;
    asked = part.asked;
    reported = part.reported;
    faults = part.faults;
  }

  -- one thing, and then another
  pub AdvancesFor-then : (h o i k : ℕ) (os ps : List Asked) (p q r : Seen K) (a b c : Scene) → AdvancesFor f h o os p q a b → AdvancesFor f i k ps q r b c → AdvancesFor f (h + i) (o + k) (os ++ ps) p r a c
  AdvancesFor-then h o i k os ps p q r a b c one two =
      let es = added p q in
      let fs = added q r in
      let m = p.number in
      let made : added p r ≡ es ++ fs = since-then p.mine q.mine r.mine one.pass.mine two.pass.mine in
      let r_is : reports (es ++ fs) m ≡ reports es m ++ reports fs m = filter_map-append (reported_in m) es fs in
      let reported_two = subst (λ (n : ℕ). HasReported (reports fs n) b c) one.pass.same.number two.reported in
      record {
        pass = GoesOn-then f p q r one.pass two.pass;
        within = subst (λ (xs : List Entry). IsWithin (h + i) (o + k) xs) (sym made) (IsWithin-append h o i k es fs one.within two.within);
        asked = HasAsked-then os ps a b c one.asked two.asked;
        reported = subst (λ (xs : List Call). HasReported xs a c) (sym (ap (λ (xs : List Entry). reports xs m) made ∙ r_is)) (HasReported-then (reports es m) (reports fs m) a b c one.reported reported_two);
        faults = let x = one.faults in let y = two.faults in omega arith;
      }

  pub Advances-then : (h o i k : ℕ) (p q r : Seen K) (a b c : Scene) → Advances f h o p q a b → Advances f i k q r b c → Advances f (h + i) (o + k) p r a c
  Advances-then h o i k p q r a b c one two =
      let es = added p q in
      let fs = added q r in
      let made : added p r ≡ es ++ fs = since-then p.mine q.mine r.mine one.pass.mine two.pass.mine in
      let whole : orders (es ++ fs) p.number ≡ orders es p.number ++ orders fs p.number = filter_map-append (ordered p.number) es fs in
      let later : orders es p.number ++ orders fs p.number ≡ orders es p.number ++ orders fs q.number = ap (λ (n : ℕ). orders es p.number ++ orders fs n) (sym one.pass.same.number) in
      Advances-of (h + i) (o + k) (orders es p.number ++ orders fs q.number) p r a c (ap (λ (xs : List Entry). orders xs p.number) made ∙ (whole ∙ later)) (AdvancesFor-then h o i k (orders es p.number) (orders fs q.number) p q r a b c one two)

  -- what was ordered is done, and then something without a Hand
  pub AdvancesFor-more : (h o k : ℕ) (os : List Asked) (p q r : Seen K) (a b c : Scene) → AdvancesFor f h o os p q a b → Advances f 0 k q r b c → AdvancesFor f h (o + k) os p r a c
  AdvancesFor-more h o k os p q r a b c one two =
      let none = orders_without (added q r) q.number two.within.hands_most in
      let same : h + 0 ≡ h = omega arith in
      let whole = subst (λ (n : ℕ). AdvancesFor f n (o + k) (os ++ orders (added q r) q.number) p r a c) same (AdvancesFor-then h o 0 k os (orders (added q r) q.number) p q r a b c one two) in
      subst (λ (xs : List Asked). AdvancesFor f h (o + k) xs p r a c) (ap (λ (xs : List Asked). os ++ xs) none ∙ append-nil os) whole
