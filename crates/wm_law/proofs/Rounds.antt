-- Rounds make the jobs that are made at once.
use Rattle.std.proofs.Common.{◌≡◌, ◌⊎◌, ℕ, zero, suc, ◌+◌, ◌-◌, ◌<◌, ◌≤◌, ◌&&◌, min, nat_le, nat_lt, Bool, true, false, not, cond, count_by, Some, None, inl, inr, refl, ap, sym, ◌∙◌, subst, arith}
use mathlib.Core.Bool.{false≢true}
use Rattle.std.proofs.lemmas.Bool.{and_parts, cases_Bool, cases_lt, cond-false, cond-true}
use Rattle.std.proofs.lemmas.Bool.Decides.{nat_tests}
use Rattle.wm_base.specs.declared.limit.Limit.{Limit}
use Rattle.wm_base.specs.declared.limit.Limit.TheVariants.{NoMax, Most}
use Rattle.wm_base.specs.declared.qname.QName.{QName}
use Rattle.wm_base.specs.Iterate.{iterate, IsLessened}
use Rattle.wm_base.proofs.Iterate.{iterate-none, iterate-step}
use Rattle.wm_base.proofs.Tests.{bytes-itself, Some-injective}
use Rattle.wm_desc.specs.Table.{same_qname}
use Rattle.wm_desc.specs.declared.description.Sbsd.{Sbsd}
use Rattle.wm_desc.specs.declared.entry.PreEntry.{PreEntry}
use Rattle.wm_law.specs.declared.job.Job.{Job}
use Rattle.wm_law.specs.declared.state.State.{State}
use Rattle.wm_law.specs.Counts.{count_from_pre, count_in_sbs, is_active, is_from_pre, is_in_sbs}
use Rattle.wm_law.specs.Prestart.{count_available, is_available_in, is_lacking, is_stopped, least_multiple, left_by, make_pre, make_pres, new_pre_job, next_round, room, RoundsReplenish}
use Rattle.wm_law.specs.Submitting.{numbers_left}
use Rattle.wm_law.proofs.Counted.{count_last}
use Rattle.wm_law.proofs.Multiples.{multiple-enough, multiple-more, multiple-one}

-- of two bounds it doesn't matter which comes first
left-min : (l : Limit) (c k x : ℕ) → left_by l c (min k x) ≡ min k (left_by l c x)
left-min NoMax c k x = refl
left-min (Most m) c k x = omega arith

pub left-few : (l : Limit) (c x : ℕ) → left_by l c x ≤ x
left-few NoMax c x = omega arith
left-few (Most m) c x = omega arith

-- one more is active, and one less is left
left-less : (l : Limit) (b c x y : ℕ) → 0 < left_by l c x → b ≡ c + 1 → y ≡ x - 1 → left_by l b y ≡ left_by l c x - 1
left-less NoMax b c x y some more is = is
left-less (Most m) b c x y some more is = omega arith

at-least : (n : ℕ) → 1 ≤ n → nat_le 1 n ≡ true
at-least n le = grind (arith, nat_tests)

less-is : (a b : ℕ) → nat_lt a b ≡ true → a < b
less-is a b h = grind (arith, nat_tests)

less-from : (a b : ℕ) → a < b → nat_lt a b ≡ true
less-from a b h = grind (arith, nat_tests)

none-less : (a b : ℕ) → b ≤ a → nat_lt a b ≡ false
none-less a b h = grind (arith, nat_tests)

numbers-by : (n k a b : ℕ) → 0 < cond (nat_le 1 n) (min (a - n) (b - k)) 0 → cond (nat_le 1 (n + 1)) (min (a - (n + 1)) (b - (k + 1))) 0 ≡ cond (nat_le 1 n) (min (a - n) (b - k)) 0 - 1
numbers-by zero k a b some = absurd (omega arith)
numbers-by (suc n) k a b some =
    let now = cond-true (nat_le 1 (suc n)) (min (a - suc n) (b - k)) 0 (at-least (suc n) (omega arith)) in
    let then = cond-true (nat_le 1 (suc n + 1)) (min (a - (suc n + 1)) (b - (k + 1))) 0 (at-least (suc n + 1) (omega arith)) in
    omega (arith, now, then, some)

-- a job less can be made
pub numbers-less : (sbs pgm : QName) (s : State) → 0 < numbers_left s → numbers_left (make_pre sbs pgm s) ≡ numbers_left s - 1
numbers-less sbs pgm s some = numbers-by s.next_number s.next_serial 1000000 1000000000000000000 some

pub itself : (q : QName) → same_qname q q ≡ true
itself q = rw (bytes-itself q.lib, bytes-itself q.name) refl

-- a round and what is left to make are what is made at once: at most w, while fewer than t are there
module _ (t step : ℕ) (some : 0 < step) where
  abbrev closed : ℕ → ℕ → ℕ
  closed a w = cond (nat_lt a t) (min (least_multiple step (t - a)) w) 0

  closed-lacks : (a w : ℕ) → a < t → closed a w ≡ min (least_multiple step (t - a)) w
  closed-lacks a w lt = grind (arith, nat_tests)

  closed-none : (a w : ℕ) → t ≤ a → closed a w ≡ 0
  closed-none a w le = grind (arith, nat_tests)

  closed-empty : (a : ℕ) → closed a 0 ≡ 0
  closed-empty a = elim (cases_lt a t) [ inl lt ↦ omega (arith, closed-lacks a 0 lt) | inr ge ↦ closed-none a 0 ge ]

  at-least-one : (n : ℕ) → 0 < n → step ≤ least_multiple step n
  at-least-one n more =
      elim (cases_lt n step) [
        | inl lt ↦ omega (arith, multiple-one step some n more (omega arith))
        | inr ge ↦ omega (arith, ge, multiple-enough step some n)
      ]

  whole-round : (a w : ℕ) → a < t → step ≤ w → step + closed (a + step) (w - step) ≡ closed a w
  whole-round a w lt le =
      elim (cases_lt (a + step) t) [
        | inl more ↦ (
            let same : t - a ≡ (t - (a + step)) + step = omega (arith, more) in
            let here : least_multiple step (t - a) ≡ least_multiple step (t - (a + step)) + step = ap (least_multiple step) same ∙ multiple-more step some (t - (a + step)) in
            omega (arith, here, le, closed-lacks a w lt, closed-lacks (a + step) (w - step) more))
        | inr last ↦ omega (arith, le, closed-lacks a w lt, closed-none (a + step) (w - step) last, multiple-one step some (t - a) (omega (arith, lt)) (omega (arith, last)))
      ]

  part-round : (a w : ℕ) → a < t → w ≤ step → w + closed (a + w) 0 ≡ closed a w
  part-round a w lt le = omega (arith, le, closed-empty (a + w), closed-lacks a w lt, at-least-one (t - a) (omega (arith, lt)))

  a-round : (a w n x : ℕ) → a < t → n ≡ min step w → x ≡ w - n → n + closed (a + n) x ≡ closed a w
  a-round a w n x lt is left =
      elim (cases_lt step w) [
        | inl more ↦ (let n-is : n ≡ step = omega (arith, is, more) in let x-is : x ≡ w - step = omega (arith, left, n-is) in
            ap (λ k. k + closed (a + k) x) n-is ∙ (ap (λ k. step + closed (a + step) k) x-is ∙ whole-round a w lt (omega (arith, more))))
        | inr few ↦ (let n-is : n ≡ w = omega (arith, is, few) in let x-is : x ≡ 0 = omega (arith, left, n-is) in
            ap (λ k. k + closed (a + k) x) n-is ∙ (ap (λ k. w + closed (a + w) k) x-is ∙ part-round a w lt few))
      ]

module _ (sbs : QName) (d : Sbsd) (e : PreEntry) where
  -- how many jobs can be made
  abbrev pub left : State → ℕ
  left s = left_by d.maxjobs (count_in_sbs sbs s.jobs) (left_by e.maxjobs (count_from_pre sbs e.pgm s.jobs) (numbers_left s))

  abbrev ready : State → ℕ
  ready s = count_available sbs e.pgm s.jobs

  pub room-is : (s : State) (k : ℕ) → room s sbs d e k ≡ min k (left s)
  room-is s k =
      ap (left_by d.maxjobs (count_in_sbs sbs s.jobs)) (left-min e.maxjobs (count_from_pre sbs e.pgm s.jobs) k (numbers_left s))
      ∙ left-min d.maxjobs (count_in_sbs sbs s.jobs) k (left_by e.maxjobs (count_from_pre sbs e.pgm s.jobs) (numbers_left s))

  abbrev new : State → Job
  new s = new_pre_job s sbs e.pgm

  named : (s : State) → is_from_pre sbs e.pgm (new s).how ≡ true
  named s = rw (itself sbs, itself e.pgm) refl

  one-more : (p : Job → Bool) (s : State) → p (new s) ≡ true → count_by p (make_pre sbs e.pgm s).jobs ≡ count_by p s.jobs + 1
  one-more p s is = count_last p s.jobs (new s) ∙ ap (λ b. count_by p s.jobs + cond b 1 0) is

  pub ready-more : (s : State) → ready (make_pre sbs e.pgm s) ≡ ready s + 1
  ready-more s = one-more (is_available_in sbs e.pgm) s (ap (λ b. b && true) (named s))

  pub left-made : (s : State) → 0 < left s → left (make_pre sbs e.pgm s) ≡ left s - 1
  left-made s some =
      let n : ℕ = numbers_left s in
      let inner : ℕ = left_by e.maxjobs (count_from_pre sbs e.pgm s.jobs) n in
      let inner-some : 0 < inner = omega (arith, some, left-few d.maxjobs (count_in_sbs sbs s.jobs) inner) in
      let n-some : 0 < n = omega (arith, inner-some, left-few e.maxjobs (count_from_pre sbs e.pgm s.jobs) n) in
      let in-entry = one-more (λ j. is_active j.phase && is_from_pre sbs e.pgm j.how) s (named s) in
      let in-sbs = one-more (λ j. is_active j.phase && is_in_sbs sbs j.how) s (itself sbs) in
      left-less d.maxjobs (count_in_sbs sbs (make_pre sbs e.pgm s).jobs) (count_in_sbs sbs s.jobs) inner (left_by e.maxjobs (count_from_pre sbs e.pgm (make_pre sbs e.pgm s).jobs) (numbers_left (make_pre sbs e.pgm s))) some in-sbs
      (left-less e.maxjobs (count_from_pre sbs e.pgm (make_pre sbs e.pgm s).jobs) (count_from_pre sbs e.pgm s.jobs) n (numbers_left (make_pre sbs e.pgm s)) inner-some in-entry (numbers-less sbs e.pgm s n-some))

  pub ready-made : (n : ℕ) (s : State) → ready (make_pres sbs e.pgm n s) ≡ ready s + n
  ready-made zero s = omega arith
  ready-made (suc n) s = omega (arith, ready-made n (make_pre sbs e.pgm s), ready-more s)

  pub left-after : (n : ℕ) (s : State) → n ≤ left s → left (make_pres sbs e.pgm n s) ≡ left s - n
  left-after zero s le = omega arith
  left-after (suc n) s le =
      let one = left-made s (omega (arith, le)) in
      omega (arith, one, left-after n (make_pre sbs e.pgm s) (omega (arith, one, le)))

  pub made-both : (m n k : ℕ) (s : State) → n + m ≡ k → make_pres sbs e.pgm m (make_pres sbs e.pgm n s) ≡ make_pres sbs e.pgm k s
  made-both m zero k s is = let same : m ≡ k = omega (arith, is) in ap (λ i. make_pres sbs e.pgm i s) same
  made-both m (suc n) zero s is = absurd (omega (arith, is))
  made-both m (suc n) (suc k) s is = made-both m n k (make_pre sbs e.pgm s) (omega (arith, is))

  -- the next round, where there is one
  record IsRound (s : State) (n : ℕ) : Type 0 where
    lacks : ready s < e.threshold
    step : 0 < e.adljobs
    some : 0 < n
    whole : n ≡ min e.adljobs (left s)

  record HasNoRound (s : State) : Type 0 where
    none : 0 < e.adljobs → ready s < e.threshold → left s ≡ 0

  -- whether there is one
  round-cases : (s : State) → ((n : ℕ) × (next_round sbs d e s ≡ Some n) × IsRound s n) ⊎ ((next_round sbs d e s ≡ None) × HasNoRound s)
  round-cases s =
      let r : ℕ = room s sbs d e e.adljobs in
      elim (cases_Bool (is_lacking s sbs e && nat_lt 0 r)) [
        | inl all ↦ (
            let both = and_parts (is_lacking s sbs e) (nat_lt 0 r) all in
            let lacks = and_parts (nat_lt (ready s) e.threshold) (nat_lt 0 e.adljobs) both.0 in
            inl (
              r,
              ap (λ b. cond b (Some r) None) all,
              record {
                lacks = less-is (ready s) e.threshold lacks.0;
                step = less-is 0 e.adljobs lacks.1;
                some = less-is 0 r both.1;
                whole = room-is s e.adljobs;
              },
            ))
        | inr n ↦ inr (ap (λ b. cond b (Some r) None) n, record { none = λ step lacks. no-room s step lacks n })
      ]
    where
      no-room : (s : State) → 0 < e.adljobs → ready s < e.threshold → (is_lacking s sbs e && nat_lt 0 (room s sbs d e e.adljobs)) ≡ false → left s ≡ 0
      no-room s step lacks not_all =
          elim (cases_lt 0 (left s)) [
            | inr le ↦ omega (arith, le)
            | inl some ↦ (
                let all : (is_lacking s sbs e && nat_lt 0 (room s sbs d e e.adljobs)) ≡ true = rw (less-from (ready s) e.threshold lacks, less-from 0 e.adljobs step) (less-from 0 (room s sbs d e e.adljobs) (omega (arith, room-is s e.adljobs, step, some))) in
                absurd (false≢true (sym not_all ∙ all)))
          ]

  round-of : (s : State) (n : ℕ) → next_round sbs d e s ≡ Some n → IsRound s n
  round-of s n is =
      elim (round-cases s) [
        | inl r ↦ subst (λ k. IsRound s k) (Some-injective r.0 n (sym r.1 ∙ is)) r.2
        | inr none ↦ absurd (cc (sym is ∙ none.0))
      ]

  lessened : IsLessened (next_round sbs d e) (make_pres sbs e.pgm) (λ s. e.threshold - ready s)
  lessened = record { by_step = λ s n is. (let r = round-of s n is in omega (arith, r.lacks, r.some, ready-made n s)) }

  module _ (step : 0 < e.adljobs) where
    abbrev target : State → ℕ
    target s = closed e.threshold e.adljobs step (ready s) (left s)

    target-none : (s : State) → HasNoRound s → target s ≡ 0
    target-none s h =
        elim (cases_lt (ready s) e.threshold) [
          | inl lt ↦ ap (closed e.threshold e.adljobs step (ready s)) (h.none step lt) ∙ closed-empty e.threshold e.adljobs step (ready s)
          | inr ge ↦ closed-none e.threshold e.adljobs step (ready s) (left s) ge
        ]

    target-round : (s : State) (n : ℕ) → IsRound s n → n + target (make_pres sbs e.pgm n s) ≡ target s
    target-round s n r =
        let few : n ≤ left s = omega (arith, r.whole) in
        ap (λ a. n + closed e.threshold e.adljobs step a (left (make_pres sbs e.pgm n s))) (ready-made n s)
        ∙ a-round e.threshold e.adljobs step (ready s) (left s) n (left (make_pres sbs e.pgm n s)) r.lacks r.whole (left-after n s few)

    at-end : (n : ℕ) (s : State) → next_round sbs d e s ≡ None → HasNoRound s → iterate (next_round sbs d e) (make_pres sbs e.pgm) n s ≡ make_pres sbs e.pgm (target s) s
    at-end n s is h = iterate-none (next_round sbs d e) (make_pres sbs e.pgm) n s is ∙ sym (ap (λ k. make_pres sbs e.pgm k s) (target-none s h))

    run : (n : ℕ) (s : State) → e.threshold - ready s ≤ n → iterate (next_round sbs d e) (make_pres sbs e.pgm) n s ≡ make_pres sbs e.pgm (target s) s
    run zero s le =
        elim (round-cases s) [
          | inl r ↦ (let lacks = r.2.lacks in absurd (omega (arith, lacks, le)))
          | inr none ↦ at-end 0 s none.0 none.1
        ]
    run (suc k) s le =
        elim (round-cases s) [
          | inl r ↦ (
              let some = r.2.some in
              let enough : e.threshold - ready (make_pres sbs e.pgm r.0 s) ≤ k = omega (arith, r.2.lacks, some, ready-made r.0 s, le) in
              iterate-step lessened (suc k) k s r.0 r.1 le enough
              ∙ (run k (make_pres sbs e.pgm r.0 s) enough ∙ made-both (target (make_pres sbs e.pgm r.0 s)) r.0 (target s) s (target-round s r.0 r.2)))
          | inr none ↦ at-end (suc k) s none.0 none.1
        ]

    target-is : (s : State) → target s ≡ cond (is_lacking s sbs e) (room s sbs d e (least_multiple e.adljobs (e.threshold - ready s))) 0
    target-is s =
        elim (cases_lt (ready s) e.threshold) [
          | inl lt ↦ closed-lacks e.threshold e.adljobs step (ready s) (left s) lt ∙ (sym (room-is s (least_multiple e.adljobs (e.threshold - ready s))) ∙ sym (cond-true (is_lacking s sbs e) (room s sbs d e (least_multiple e.adljobs (e.threshold - ready s))) 0 (rw (less-from (ready s) e.threshold lt, less-from 0 e.adljobs step) refl)))
          | inr ge ↦ closed-none e.threshold e.adljobs step (ready s) (left s) ge ∙ sym (cond-false (is_lacking s sbs e) (room s sbs d e (least_multiple e.adljobs (e.threshold - ready s))) 0 (rw (none-less (ready s) e.threshold ge) refl))
        ]

  no-rounds : (s : State) → e.adljobs ≤ 0 → next_round sbs d e s ≡ None
  no-rounds s le =
      elim (round-cases s) [
        | inl r ↦ (let step = r.2.step in absurd (omega (arith, step, le)))
        | inr none ↦ none.0
      ]

  and-false : (b : Bool) → (b && false) ≡ false
  and-false true = refl
  and-false false = refl

  -- where the entry isn't stopped
  running : (s : State) → iterate (next_round sbs d e) (make_pres sbs e.pgm) e.threshold s ≡ make_pres sbs e.pgm (cond (is_lacking s sbs e) (room s sbs d e (least_multiple e.adljobs (e.threshold - ready s))) 0) s
  running s =
      elim (cases_lt 0 e.adljobs) [
        | inl step ↦ run step e.threshold s (omega arith) ∙ ap (λ k. make_pres sbs e.pgm k s) (target-is step s)
        | inr le ↦ iterate-none (next_round sbs d e) (make_pres sbs e.pgm) e.threshold s (no-rounds s le)
            ∙ sym (ap (λ b. make_pres sbs e.pgm (cond b (room s sbs d e (least_multiple e.adljobs (e.threshold - ready s))) 0) s) (ap (λ b. nat_lt (ready s) e.threshold && b) (none-less 0 e.adljobs le) ∙ and-false (nat_lt (ready s) e.threshold)))
      ]

  stopped-by : (b l : Bool) (n : ℕ) (s t : State) → t ≡ make_pres sbs e.pgm (cond l n 0) s → cond b s t ≡ make_pres sbs e.pgm (cond (not b && l) n 0) s
  stopped-by true l n s t is = refl
  stopped-by false l n s t is = is

pub rounds_replenish : RoundsReplenish
rounds_replenish s sbs d e = stopped-by sbs d e (is_stopped s sbs e.pgm) (is_lacking s sbs e) (room s sbs d e (least_multiple e.adljobs (e.threshold - count_available sbs e.pgm s.jobs))) s _ (running sbs d e s)
