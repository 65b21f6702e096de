-- What one job is to what jobs are found and counted by.
use Rattle.std.proofs.Common.{◌≡◌, ℕ, suc, ◌+◌, ◌<◌, ◌≤◌, Bool, true, false, ◌&&◌, cond, List, [], ◌∷◌, ◌++◌, length, map, Option, Some, None, is_some, option_map, fold, refl, ap, sym, ◌∙◌, subst, arith, nat_lt, ◌==◌, inl, inr, All}
use Rattle.std.specs.List.{filter, cons_option, count_by, find, slice_get}
use Rattle.std.specs.Ordering.{nat_cmp}
use mathlib.Core.Bool.{false≢true}
use Rattle.std.proofs.lemmas.Bool.{cases_Bool, eq-eqb}
use Rattle.std.proofs.lemmas.List.{map-append, append-nil}
use Rattle.std.proofs.lemmas.List.Elements.{All-head, All-tail, filter-append}
use Rattle.wm_indexes.specs.declared.acting.Acting.{Acting}
use Rattle.wm_base.specs.declared.job.How.{How}
use Rattle.wm_base.specs.declared.qname.QName.{QName}
use Rattle.wm_desc.specs.Sorted.{IsSortedOnce}
use Rattle.wm_law.specs.declared.job.Job.{Job}
use Rattle.wm_law.specs.declared.job.Phase.{Phase}
use Rattle.wm_law.specs.declared.job.Phase.TheVariants.{Waiting, Starting, Handed, Running, Ended}
use Rattle.wm_law.specs.Counts.{is_waiting, is_starting, is_active}
use Rattle.wm_law.specs.Pending.{sooner}
use Rattle.wm_ordered.specs.Least.{sooner as sooner_of}
use Rattle.wm_pick.specs.Tally.{Counts, IsTally, HasStarted}
use Rattle.wm_pick.specs.Counted.{counted, number_of}
use Rattle.wm_pick.specs.declared.counted.Counted.{Counted}
use Rattle.wm_ordered.specs.declared.waiter.Waiter.{Waiter}
use Rattle.wm_ordered.specs.Waiting.{is_ahead}
use Rattle.wm_pick.specs.Parts.{waiter_on, waiter_of, waiters}
use Rattle.wm_pick.specs.Tallied.{hows}
use Rattle.wm_jobs.specs.Indexed.{acting_of, order_of, orders, active_of, actives, Starts}
use Rattle.wm_jobs.specs.Table.{serial_of, active_in, starting_in}
use Rattle.wm_jobs.proofs.Sifted.{count-append, count-cons, differs, picked-keys}
use Rattle.wm_jobs.proofs.Splits.{above-head}

pub waiting-unstarted : (p : Phase) → is_waiting p ≡ true → is_starting p ≡ false
waiting-unstarted Waiting h = refl
waiting-unstarted Starting h = absurd (false≢true h)
waiting-unstarted (Handed m) h = absurd (false≢true h)
waiting-unstarted (Running m) h = absurd (false≢true h)
waiting-unstarted (Ended c) h = absurd (false≢true h)

-- a job that waits on a queue, where there is one
abbrev waiter_by : Job → Option QName → Option Waiter
waiter_by j q = option_map (λ queue. waiter_on queue j) q

keyed-on : (j : Job) (b : Bool) (q : Option QName) (w : Waiter) → cond b (waiter_by j q) None ≡ Some w → (w.serial ≡ j.serial) × (w.place ≡ j.place)
keyed-on j false q w e = absurd (cc e)
keyed-on j true None w e = absurd (cc e)
keyed-on j true (Some queue) w e = (cc e, cc e)

pub waiter-keyed : (j : Job) (w : Waiter) → waiter_of j ≡ Some w → w.serial ≡ j.serial
waiter-keyed j w e = (keyed-on j (is_waiting j.phase) j.jobq w e).0

pub waiter-placed : (j : Job) (w : Waiter) → waiter_of j ≡ Some w → w.place ≡ j.place
waiter-placed j w e = (keyed-on j (is_waiting j.phase) j.jobq w e).1

pub waiter-none : (j : Job) → is_waiting j.phase ≡ false → waiter_of j ≡ None
waiter-none j h = ap (λ b. cond b (waiter_by j j.jobq) None) h

some-on : (j : Job) (q : Option QName) → is_some q ≡ true → (w : Waiter) × (waiter_by j q ≡ Some w)
some-on j None h = absurd (false≢true h)
some-on j (Some queue) h = (record { serial = j.serial; jobq = queue; pty = j.pty; place = j.place; held = j.held; due = j.due }, refl)

pub waiter-some : (j : Job) → is_waiting j.phase ≡ true → is_some j.jobq ≡ true → (w : Waiter) × (waiter_of j ≡ Some w)
waiter-some j waits queue = let s = some-on j j.jobq queue in (s.0, ap (λ b. cond b (waiter_by j j.jobq) None) waits ∙ s.1)

-- a job is among those that wait where it waits on a queue
pub is-waiter : (j : Job) → (is_waiting j.phase ≡ true → is_some j.jobq ≡ true) → is_some (waiter_of j) ≡ is_waiting j.phase
is-waiter j queue =
    elim (cases_Bool (is_waiting j.phase)) [
      | inl e ↦ (let w = waiter-some j e (queue e) in ap (λ (o : Option Waiter). is_some o) w.1 ∙ sym e)
      | inr e ↦ ap (λ (o : Option Waiter). is_some o) (waiter-none j e) ∙ sym e
    ]

-- what becomes a waiter waits
waits-on : (b : Bool) (o : Option Waiter) (w : Waiter) → cond b o None ≡ Some w → b ≡ true
waits-on true o w e = refl
waits-on false o w e = absurd (cc e)

pub waiter-waits : (j : Job) (w : Waiter) → waiter_of j ≡ Some w → is_waiting j.phase ≡ true
waiter-waits j w e = waits-on (is_waiting j.phase) (option_map (λ queue. waiter_on queue j) j.jobq) w e

-- a job that waits for a monitor
order-on : (j : Job) (b : Bool) (e : ℕ × Unit {0}) → cond b (Some (j.serial, tt)) None ≡ Some e → e.0 ≡ j.serial
order-on j false e is = absurd (cc is)
order-on j true e is = cc is

pub order-keyed : (j : Job) (e : ℕ × Unit {0}) → order_of j ≡ Some e → e.0 ≡ j.serial
order-keyed j e is = order-on j (is_starting j.phase) e is

pub order-none : (j : Job) → is_starting j.phase ≡ false → order_of j ≡ None
order-none j h = ap (λ b. cond b (Some (j.serial, tt)) None) h

pub order-some : (j : Job) (s : ℕ) → j.serial ≡ s → is_starting j.phase ≡ true → order_of j ≡ Some (s, tt)
order-some j s same h = ap (λ b. cond b (Some (j.serial, tt)) None) h ∙ ap (λ (n : ℕ). Some (n, tt)) same

-- a job that is active
active-on : (j : Job) (b : Bool) (e : ℕ × Acting) → cond b (Some (j.serial, acting_of j.phase j.wish)) None ≡ Some e → e.0 ≡ j.serial
active-on j false e is = absurd (cc is)
active-on j true e is = let same : (j.serial, acting_of j.phase j.wish) ≡ e = cc is in sym (ap (λ (q : ℕ × Acting). q.0) same)

pub active-keyed : (j : Job) (e : ℕ × Acting) → active_of j ≡ Some e → e.0 ≡ j.serial
active-keyed j e is = active-on j (is_active j.phase) e is

pub active-none : (j : Job) → is_active j.phase ≡ false → active_of j ≡ None
active-none j h = ap (λ b. cond b (Some (j.serial, acting_of j.phase j.wish)) None) h

pub active-some : (j : Job) (s : ℕ) → j.serial ≡ s → is_active j.phase ≡ true → active_of j ≡ Some (s, acting_of j.phase j.wish)
active-some j s same h = ap (λ b. cond b (Some (j.serial, acting_of j.phase j.wish)) None) h ∙ ap (λ (n : ℕ). Some (n, acting_of j.phase j.wish)) same

-- hows
hows-first : (j : Job) (r : List Job) (b : Bool) → is_active j.phase ≡ b → hows (j ∷ r) ≡ cond b (j.how ∷ hows r) (hows r)
hows-first j r true h = ap (λ b. map (λ k. k.how) (cond b (j ∷ filter (λ k. is_active k.phase) r) (filter (λ k. is_active k.phase) r))) h
hows-first j r false h = ap (λ b. map (λ k. k.how) (cond b (j ∷ filter (λ k. is_active k.phase) r) (filter (λ k. is_active k.phase) r))) h

hows-append : (l r : List Job) → hows (l ++ r) ≡ hows l ++ hows r
hows-append l r = ap (map (λ (k : Job). k.how)) (filter-append (λ k. is_active k.phase) l r) ∙ map-append (λ (k : Job). k.how) (filter (λ k. is_active k.phase) l) (filter (λ k. is_active k.phase) r)

pub hows-active : (l r : List Job) (j : Job) → is_active j.phase ≡ true → hows (l ++ j ∷ r) ≡ hows l ++ j.how ∷ hows r
hows-active l r j h = hows-append l (j ∷ r) ∙ ap (λ hs. hows l ++ hs) (hows-first j r true h)

pub hows-inactive : (l r : List Job) (j : Job) → is_active j.phase ≡ false → hows (l ++ j ∷ r) ≡ hows l ++ hows r
hows-inactive l r j h = hows-append l (j ∷ r) ∙ ap (λ hs. hows l ++ hs) (hows-first j r false h)

pub hows-pushed : (jobs : List Job) (j : Job) → is_active j.phase ≡ false → hows (jobs ++ j ∷ []) ≡ hows jobs
hows-pushed jobs j h = hows-inactive jobs [] j h ∙ append-nil (hows jobs)

-- the order of the hows doesn't matter
number-middle : (k : Counted) (a b : List How) (how : How) → number_of k (how ∷ (a ++ b)) ≡ number_of k (a ++ how ∷ b)
number-middle k a b how =
    let p : How → Bool = λ h. counted h k in
    let first : count_by p (how ∷ (a ++ b)) ≡ cond (p how) 1 0 + count_by p (a ++ b) = count-cons p how (a ++ b) in
    let both : count_by p (a ++ b) ≡ count_by p a + count_by p b = count-append p a b in
    let parts : count_by p (a ++ how ∷ b) ≡ count_by p a + count_by p (how ∷ b) = count-append p a (how ∷ b) in
    let last : count_by p (how ∷ b) ≡ cond (p how) 1 0 + count_by p b = count-cons p how b in
    omega arith

pub tally-in : (a b : List How) (how : How) (t : Counts) → IsTally (how ∷ (a ++ b)) t → IsTally (a ++ how ∷ b) t
tally-in a b how t h = λ k. h k ∙ number-middle k a b how

pub tally-out : (a b : List How) (how : How) (t : Counts) → IsTally (a ++ how ∷ b) t → IsTally (how ∷ (a ++ b)) t
tally-out a b how t h = λ k. h k ∙ sym (number-middle k a b how)

module _ (l r : List Job) (j k : Job) (old new : Counts) where
  starts-on : (b : Bool) → is_active j.phase ≡ false → is_active k.phase ≡ b → Starts b old new k.how → IsTally (hows (l ++ j ∷ r)) old → IsTally (hows (l ++ k ∷ r)) new
  starts-on true was is starts h =
      subst (λ hs. IsTally hs new) (sym (hows-active l r k is)) (tally-in (hows l) (hows r) k.how new (starts (hows l ++ hows r) (subst (λ hs. IsTally hs old) (hows-inactive l r j was) h)))
  starts-on false was is starts h =
      subst (λ (t : Counts). IsTally (hows (l ++ k ∷ r)) t) (sym starts) (subst (λ hs. IsTally hs old) (hows-inactive l r j was ∙ sym (hows-inactive l r k is)) h)

  -- an inactive job comes into a phase
  pub tally-starts : is_active j.phase ≡ false → Starts (is_active k.phase) old new k.how → IsTally (hows (l ++ j ∷ r)) old → IsTally (hows (l ++ k ∷ r)) new
  tally-starts was starts h = starts-on (is_active k.phase) was refl starts h

pub has-started : (l r : List Job) (j : Job) (t : Counts) → is_active j.phase ≡ true → IsTally (hows (l ++ j ∷ r)) t → HasStarted t j.how
has-started l r j t is h = record { others = hows l ++ hows r; are = tally-out (hows l) (hows r) j.how t (subst (λ hs. IsTally hs t) (hows-active l r j is) h) }

pub hows-few : (jobs : List Job) → length (hows jobs) ≤ length jobs
hows-few [] = omega arith
hows-few (j ∷ js) = elim (cases_Bool (is_active j.phase)) [
  | inl e ↦ (let rest = hows-few js in rw (hows-first j js true e) (omega arith))
  | inr e ↦ (let rest = hows-few js in rw (hows-first j js false e) (omega arith))
]

-- counts
bit-none : (b : Bool) → b ≡ false → cond {A = ℕ} b 1 0 ≡ 0
bit-none true h = absurd (false≢true (sym h))
bit-none false h = refl

module _ (p : Job → Bool) (l r : List Job) (j k : Job) where
  pub count-changed : count_by p (l ++ k ∷ r) + cond (p j) 1 0 ≡ count_by p (l ++ j ∷ r) + cond (p k) 1 0
  count-changed =
      let a : count_by p (l ++ k ∷ r) ≡ count_by p l + count_by p (k ∷ r) = count-append p l (k ∷ r) in
      let b : count_by p (l ++ j ∷ r) ≡ count_by p l + count_by p (j ∷ r) = count-append p l (j ∷ r) in
      let c : count_by p (k ∷ r) ≡ cond (p k) 1 0 + count_by p r = count-cons p k r in
      let d : count_by p (j ∷ r) ≡ cond (p j) 1 0 + count_by p r = count-cons p j r in
      omega arith

  pub count-more : p j ≡ false → count_by p (l ++ k ∷ r) ≡ count_by p (l ++ j ∷ r) + cond (p k) 1 0
  count-more none =
      let bit = bit-none (p j) none in
      let changed = count-changed in
      omega arith

pub count-pushed : (p : Job → Bool) (jobs : List Job) (j : Job) → p j ≡ false → count_by p (jobs ++ j ∷ []) ≡ count_by p jobs
count-pushed p jobs j none =
    let a : count_by p (jobs ++ j ∷ []) ≡ count_by p jobs + count_by p (j ∷ []) = count-append p jobs (j ∷ []) in
    let b : count_by p (j ∷ []) ≡ cond (p j) 1 0 + count_by p [] = count-cons p j [] in
    let bit = bit-none (p j) none in
    let empty : count_by p [] ≡ 0 = refl in
    omega arith

-- how many wait for a monitor
orders-first : (b : Bool) (j : Job) (es : List (ℕ × Unit {0})) → length (cons_option (cond b (Some (j.serial, tt)) None) es) ≡ cond b 1 0 + length es
orders-first true j es = omega arith
orders-first false j es = omega arith

pub orders-counted : (jobs : List Job) → length (orders jobs) ≡ starting_in jobs
orders-counted [] = refl
orders-counted (j ∷ js) =
    let first : length (orders (j ∷ js)) ≡ cond (is_starting j.phase) 1 0 + length (orders js) = orders-first (is_starting j.phase) j (orders js) in
    let counts : starting_in (j ∷ js) ≡ cond (is_starting j.phase) 1 0 + starting_in js = count-cons (λ k. is_starting k.phase) j js in
    let rest = orders-counted js in
    omega arith

-- how many are active
actives-first : (b : Bool) (e : ℕ × Acting) (es : List (ℕ × Acting)) → length (cons_option (cond b (Some e) None) es) ≡ cond b 1 0 + length es
actives-first true e es = omega arith
actives-first false e es = omega arith

pub actives-counted : (jobs : List Job) → length (actives jobs) ≡ active_in jobs
actives-counted [] = refl
actives-counted (j ∷ js) =
    let first : length (actives (j ∷ js)) ≡ cond (is_active j.phase) 1 0 + length (actives js) = actives-first (is_active j.phase) (j.serial, acting_of j.phase j.wish) (actives js) in
    let counts : active_in (j ∷ js) ≡ cond (is_active j.phase) 1 0 + active_in js = count-cons (λ k. is_active k.phase) j js in
    let rest = actives-counted js in
    omega arith

-- the first of those that wait for a monitor
abbrev number_in : Option (ℕ × Unit {0}) → ℕ
number_in None = 0
number_in (Some e) = e.0

pub first-none : (jobs : List Job) → slice_get (orders jobs) 0 ≡ None → find (λ j. is_starting j.phase) jobs ≡ None
first-none [] none = refl
first-none (j ∷ js) none = on (is_starting j.phase) none (first-none js)
  where
    on : (b : Bool) → slice_get (cons_option (cond b (Some (j.serial, tt)) None) (orders js)) 0 ≡ None → (slice_get (orders js) 0 ≡ None → find (λ k. is_starting k.phase) js ≡ None) → cond b (Some j) (find (λ k. is_starting k.phase) js) ≡ None
    on true e rest = absurd (cc e)
    on false e rest = rest e

head-holds : {E : Type 0} (P : E → Type 0) (es : List E) (e : E) → slice_get es 0 ≡ Some e → All P es → P e
head-holds P [] e is all = absurd (cc is)
head-holds P (x ∷ es) e is all = let same : x ≡ e = cc is in subst P same (All-head P x es all)

pub first-found : (jobs : List Job) (s : ℕ) (u : Unit {0}) → IsSortedOnce serial_of nat_cmp jobs → slice_get (orders jobs) 0 ≡ Some (s, u) → find (λ j. j.serial == s) jobs ≡ find (λ j. is_starting j.phase) jobs
first-found [] s u sorted is = refl
first-found (j ∷ js) s u sorted is = on (is_starting j.phase) is (first-found js s u (λ a b d lt in_range. sorted (suc a) (suc b) d (omega arith) (omega arith)))
  where
    on : (b : Bool) → slice_get (cons_option (cond b (Some (j.serial, tt)) None) (orders js)) 0 ≡ Some (s, u) → (slice_get (orders js) 0 ≡ Some (s, u) → find (λ k. k.serial == s) js ≡ find (λ k. is_starting k.phase) js) → cond (j.serial == s) (Some j) (find (λ k. k.serial == s) js) ≡ cond b (Some j) (find (λ k. is_starting k.phase) js)
    on true e rest = let same : j.serial ≡ s = ap number_in e in ap (λ t. cond t (Some j) (find (λ k. k.serial == s) js)) (eq-eqb j.serial s same)
    on false e rest =
        let above : j.serial < s = head-holds (λ (o : ℕ × Unit {0}). j.serial < o.0) (orders js) (s, u) e (picked-keys serial_of order_of (λ o. o.0) order-keyed (λ n. j.serial < n) js (above-head serial_of s j js sorted)) in
        ap (λ t. cond t (Some j) (find (λ k. k.serial == s) js)) (differs j.serial s (λ q. omega arith)) ∙ rest e

-- the least moment to come
abbrev pass : ℕ → Option ℕ → Waiter → Option ℕ
pass clock least w = cond (is_ahead clock w) (sooner_of least w.due) least

same-sooner : (o : Option ℕ) (m : ℕ) → sooner_of o m ≡ sooner o m
same-sooner None m = refl
same-sooner (Some n) m = refl

due-first : (clock : ℕ) (a : Option ℕ) (j : Job) (ws : List Waiter) (b : Bool) (q : Option QName) → (b ≡ true → is_some q ≡ true) → fold (pass clock) a (cons_option (cond b (waiter_by j q) None) ws) ≡ fold (pass clock) (cond (b && nat_lt clock j.due) (sooner a j.due) a) ws
due-first clock a j ws false q queue = refl
due-first clock a j ws true None queue = absurd (false≢true (queue refl))
due-first clock a j ws true (Some q) queue = ap (λ o. fold (pass clock) (cond (nat_lt clock j.due) o a) ws) (same-sooner a j.due)

pub due-waiters : (clock : ℕ) (jobs : List Job) (a : Option ℕ) → All (λ j. is_waiting j.phase ≡ true → is_some j.jobq ≡ true) jobs → fold (pass clock) a (waiters jobs) ≡ fold (λ least j. cond (is_waiting j.phase && nat_lt clock j.due) (sooner least j.due) least) a jobs
due-waiters clock [] a queues = refl
due-waiters clock (j ∷ js) a queues =
    due-first clock a j (waiters js) (is_waiting j.phase) j.jobq (All-head (λ (k : Job). is_waiting k.phase ≡ true → is_some k.jobq ≡ true) j js queues)
    ∙ due-waiters clock js (cond (is_waiting j.phase && nat_lt clock j.due) (sooner a j.due) a) (All-tail (λ (k : Job). is_waiting k.phase ≡ true → is_some k.jobq ≡ true) j js queues)
