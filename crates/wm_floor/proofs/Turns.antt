-- Laws of what a call of a monitor answers.
use Rattle.std.proofs.Common.{◌≡◌, ◌⊎◌, ℕ, true, false, ◌<◌, ◌≤◌, List, length, take, drop, Option, Some, None, IfSome, sym, ap, subst, ◌∙◌, refl, inl, inr, arith}
use Rattle.std.specs.Cmp.{nat_cmp_is}
use Rattle.std.specs.Ordering.{is_le, nat_cmp}
use Rattle.std.specs.declared.cmp.Ordering.TheVariants.{Less, Equal}
use Rattle.std.proofs.Math.Nat.{eq-or-lt_of_le}
use Rattle.std.proofs.Math.Seq.{take-append_seam}
use Rattle.std.proofs.lemmas.Bool.{cases_lt, false≢true}
use Rattle.std.proofs.lemmas.List.{length-append, take-append-le, take_all}
use Rattle.wm_traits.specs.Told.{IsEmpty}
use Rattle.wm_law.specs.declared.call.Entry.{Entry}
use Rattle.wm_law.specs.declared.pending.Pending.{Pending}
use Rattle.wm_law.specs.Pending.{next_moment, pending}
use Rattle.wm_turn.specs.Passed.{own}
use Rattle.wm_floor.specs.History.{reached}
use Rattle.wm_floor.specs.Lists.{since}
use Rattle.wm_floor.specs.Monitor.{hands_of}
use Rattle.wm_floor.specs.declared.report.Report.{Report}
use Rattle.wm_floor.specs.Floor.{Floored, Seen}
use Rattle.wm_floor.specs.Ledger.{behind, caller_of}
use Rattle.wm_floor.specs.Advance.{GoesOn, added}
use Rattle.wm_floor.specs.Turned.{HadNothing, IsSeenSince, WaitedAt, WasNotDue}
use Rattle.wm_floor.proofs.Parts.{count_then, hands_none, hands_then}
use Rattle.wm_floor.proofs.MonitorPasses.{GoesOn-none, GoesOn-then, own_since}

-- nothing is due by a moment
abbrev IsLater : Option ℕ → Option ℕ → Type 0
IsLater next coming = IfSome next (λ due. IfSome coming (λ now. now < due))

pub later_none : (next coming : Option ℕ) → next ≡ None → IsLater next coming
later_none next coming none = subst (λ (o : Option ℕ). IsLater o coming) (sym none) tt

pub later_some : (next coming : Option ℕ) (due now : ℕ) → next ≡ Some due → now < due → IfSome coming (λ told. now ≡ told) → IsLater next coming
later_some next coming due now is before told = subst (λ (o : Option ℕ). IsLater o coming) (sym is) (by coming told)
  where
    by : (o : Option ℕ) → IfSome o (λ told. now ≡ told) → IfSome o (λ told. told < due)
    by None h = tt
    by (Some moment) h = omega arith

-- a moment that isn't at least another is before it
told_le : (a b : ℕ) → a ≤ b → is_le (nat_cmp a b) ≡ true
told_le a b h = by (eq-or-lt_of_le h)
  where
    by : (a ≡ b) ⊎ (a < b) → is_le (nat_cmp a b) ≡ true
    by (inl same) = sym (ap is_le (nat_cmp_is a b Equal same))
    by (inr less) = sym (ap is_le (nat_cmp_is a b Less less))

pub not_yet : (told due now : ℕ) → told ≡ due → false ≡ is_le (nat_cmp told now) → now < due
not_yet told due now same late = by (cases_lt now told)
  where
    by : (now < told) ⊎ (told ≤ now) → now < due
    by (inl less) = omega arith
    by (inr most) = absurd (false≢true (late ∙ told_le told now most))

-- no report was kept, since none was sent
none_kept : (kept : Option Report) (n : ℕ) → IfSome kept (λ _. 1 ≤ n) → n ≡ 0 → kept ≡ None
none_kept None n some none = refl
none_kept (Some report) n some none = absurd (omega arith)

module _ {K : Type 0} (f : Floored K) where
  seen_between : (p q r : Seen K) (at : ℕ) → GoesOn f p q → GoesOn f q r → at ≡ length q.seen → IsSeenSince p r at
  seen_between p q r at h k is =
      let a = ap length h.seen ∙ length-append p.seen (since p.seen q.seen) in
      let b = ap length k.seen ∙ length-append q.seen (since q.seen r.seen) in
      record { least = omega arith; most = omega arith }

  -- this waited when the monitor looked, and since then it made no Hand
  pub waited_before : (p q r : Seen K) (at : ℕ) (w : Pending) → GoesOn f p q → GoesOn f q r → hands_of (added q r) ≤ 0 → at ≡ length q.seen → w ≡ pending (reached (behind f.opening q.seen)) p.number → WaitedAt f p r at w
  waited_before p q r at w h k no_hand is waits =
      let front : take at r.seen ≡ q.seen = ap (λ (n : ℕ). take n r.seen) is ∙ (ap (take (length q.seen)) k.seen ∙ take-append_seam q.seen (since q.seen r.seen)) in
      let rest : drop at r.seen ≡ since q.seen r.seen = ap (λ (n : ℕ). drop n r.seen) is in
      let own_rest : own caller_of q.number (since q.seen r.seen) ≡ added q r = own_since f q r (since q.seen r.seen) (added q r) h.own k.own k.same k.seen k.mine in
      let all : own caller_of p.number (drop at r.seen) ≡ added q r = ap (λ (n : ℕ). own caller_of n (drop at r.seen)) (sym h.same.number) ∙ (ap (own caller_of q.number) rest ∙ own_rest) in
      let none = ap hands_of all in
      record {
        seen = seen_between p q r at h k is;
        pending = waits ∙ ap (λ (xs : List Entry). pending (reached (behind f.opening xs)) p.number) (sym front);
        no_hand = omega arith;
      }

  -- this waits
  pub waited_now : (p q : Seen K) (at : ℕ) (w : Pending) → GoesOn f p q → at ≡ length q.seen → w ≡ pending (reached (behind f.opening q.seen)) p.number → WaitedAt f p q at w
  waited_now p q at w h is waits =
      let none = hands_none f q q refl in
      waited_before p q q at w h (GoesOn-none f q h.own) (omega arith) is waits

  -- nothing is due
  pub not_due_now : (p q : Seen K) (at : ℕ) (w : Pending) (monitor : ℕ) (coming : Option ℕ) → GoesOn f p q → at ≡ length q.seen → w ≡ pending (reached (behind f.opening q.seen)) monitor → IsLater w.next coming → WasNotDue f p q coming
  not_due_now p q at w monitor coming h is waits later =
      let whole : take at q.seen ≡ q.seen = take_all at q.seen (omega arith) in
      let next : w.next ≡ next_moment (reached (behind f.opening (take at q.seen))) = ap (λ (x : Pending). x.next) waits ∙ ap (λ (xs : List Entry). next_moment (reached (behind f.opening xs))) (sym whole) in
      record {
        at = at;
        seen = seen_between p q q at h (GoesOn-none f q h.own) is;
        due = subst (λ (o : Option ℕ). IsLater o coming) next later;
      }

  -- nothing was due while more was done
  pub not_due_within : (p q r s : Seen K) (coming : Option ℕ) → GoesOn f p q → GoesOn f r s → WasNotDue f q r coming → WasNotDue f p s coming
  not_due_within p q r s coming h k w =
      let a = ap length h.seen ∙ length-append p.seen (since p.seen q.seen) in
      let b = ap length k.seen ∙ length-append r.seen (since r.seen s.seen) in
      let least = w.seen.least in
      let most = w.seen.most in
      let front : take w.at s.seen ≡ take w.at r.seen = ap (take w.at) k.seen ∙ take-append-le w.at r.seen (since r.seen s.seen) w.seen.most in
      record {
        at = w.at;
        seen = record { least = omega arith; most = omega arith };
        due = subst (λ (xs : List Entry). IsLater (next_moment (reached (behind f.opening xs))) coming) (sym front) w.due;
      }

  -- of the parts of a turn, one alone has Hands
  pub handed_all : (p r u t : Seen K) (orders : ℕ) → GoesOn f p r → GoesOn f r u → GoesOn f u t → hands_of (added p r) ≤ 0 → hands_of (added u t) ≤ 0 → (orders ≡ 0) ⊎ (hands_of (added r u) ≡ 256) → (orders ≡ 0) ⊎ (hands_of (added p t) ≡ 256)
  handed_all p r u t orders h k l before behind (inl none) = inl none
  handed_all p r u t orders h k l before behind (inr many) =
      let a = hands_then f p r u h k in
      let b = hands_then f p u t (GoesOn-then f p r u h k) l in
      inr (omega arith)

  -- a wait had a report, and made its call, or there was none
  pub report_or_more : {Empty : Type 0} (p q r s : Seen K) (o : Option Report) → GoesOn f p q → GoesOn f q r → GoesOn f r s → (o ≡ None → Empty) → IfSome o (λ _. 1 ≤ length (added q r)) → Empty ⊎ (1 ≤ length (added p s))
  report_or_more p q r s None h k l empty some = inl (empty refl)
  report_or_more p q r s (Some report) h k l empty some =
      let a = count_then f p q r (length (added p q)) (length (added q r)) h k refl refl in
      let b = count_then f p r s (length (added p r)) (length (added r s)) (GoesOn-then f p q r h k) l refl refl in
      inr (omega arith)

  -- a monitor whose turn made no entry
  pub had_nothing : (p q r t : Seen K) (kept : Option Report) (coming coming_then : Option ℕ) (reporting reporting_then : Option (List ℕ)) → GoesOn f p q → GoesOn f r t → IfSome kept (λ _. 1 ≤ length (added p q)) → length (added p q) ≡ 0 → (kept ≡ None → coming_then ≡ coming) → WasNotDue f q r coming_then → reporting_then ≡ reporting → IsEmpty reporting_then → HadNothing f p t kept coming reporting
  had_nothing p q r t kept coming coming_then reporting reporting_then h k some none unread not_due same empty =
      let no_report = none_kept kept (length (added p q)) some none in
      record {
        no_report = no_report;
        not_due = subst (λ (o : Option ℕ). WasNotDue f p t o) (unread no_report) (not_due_within p q r t coming_then h k not_due);
        no_child = subst (λ (o : Option (List ℕ)). IsEmpty o) same empty;
      }
