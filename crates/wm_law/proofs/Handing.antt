-- Hand orders the kill of least serial that its caller is yet to be handed, else the start of least serial.
use Rattle.std.proofs.Common.{◌≡◌, ℕ, ◌<◌, ◌≤◌, Bool, true, false, cond, List, [], ◌∷◌, map, Option, Some, None, refl, sym, ap, subst, ◌∙◌, inl, inr, arith}
use Rattle.std.specs.List.{find}
use Rattle.std.proofs.lemmas.Bool.{and_from, and_parts, eq-eqb, eqb-true}
use Rattle.wm_base.specs.declared.job.Asked.TheVariants.{Start, Kill}
use Rattle.wm_base.specs.declared.job.StartOrder.{StartOrder}
use Rattle.wm_base.proofs.Tests.{Some-injective}
use Rattle.wm_law.specs.declared.call.Reply.TheVariants.{Order}
use Rattle.wm_law.specs.declared.job.Job.{Job}
use Rattle.wm_law.specs.declared.job.Phase.{Phase}
use Rattle.wm_law.specs.declared.job.Phase.TheVariants.{Waiting, Starting, Handed, Running, Ended}
use Rattle.wm_law.specs.declared.job.Why.{Why}
use Rattle.wm_law.specs.declared.job.Wish.{Wish}
use Rattle.wm_law.specs.declared.job.Wish.TheVariants as wish
use Rattle.wm_law.specs.declared.state.State.{State}
use Rattle.wm_law.specs.Counts.{is_starting}
use Rattle.wm_law.specs.Handing.{HandedKillIsLeast, HandedStartIsLeast, IsLeastSerial, IsToBeKilled}
use Rattle.wm_law.specs.Launch.{order_of}
use Rattle.wm_law.specs.Laws.{IsIn}
use Rattle.wm_law.specs.Reports.{hand_job, hand_order, is_run_by, is_to_kill, start_job}
use Rattle.wm_law.specs.Sound.{HasJobsInOrder, IsIncreasing}
use Rattle.wm_law.specs.Wishes.{is_unhanded}
use Rattle.wm_law.proofs.Endings.{starting_phase}
use Rattle.wm_law.proofs.Members.{found_among, in_mapped, none_among}
use Rattle.wm_law.proofs.Starts.{by_serial}

-- the first that passes a test has the least serial, where the jobs stand in the order of their serials
module _ (test : Job → Bool) where
  least_by : (b : Bool) (x : Job) (jobs : List Job) (j k : Job) → test x ≡ b → ((n : ℕ) → IsIn n (map (λ j. j.serial) jobs) → x.serial < n) → (find test jobs ≡ Some j → IsIn k jobs → j.serial ≤ k.serial) → cond b (Some x) (find test jobs) ≡ Some j → IsIn k (x ∷ jobs) → test k ≡ true → j.serial ≤ k.serial
  least_by true x jobs j k e above rest f (inl same) t =
      let its = ap (λ (y : Job). y.serial) (Some-injective x j f) in
      let other = ap (λ (y : Job). y.serial) same in
      omega arith
  least_by true x jobs j k e above rest f (inr i) t =
      let its = ap (λ (y : Job). y.serial) (Some-injective x j f) in
      let less = above k.serial (in_mapped (λ (y : Job). y.serial) jobs k i) in
      omega arith
  least_by false x jobs j k e above rest f (inl same) t = let no : test k ≡ false = ap test same ∙ e in absurd (cc)
  least_by false x jobs j k e above rest f (inr i) t = rest f i

  least_found : (jobs : List Job) (j k : Job) → IsIncreasing (map (λ j. j.serial) jobs) → find test jobs ≡ Some j → IsIn k jobs → test k ≡ true → j.serial ≤ k.serial
  least_found [] j k order f i t = absurd i
  least_found (x ∷ jobs) j k order f i t = least_by (test x) x jobs j k refl order.0 (λ g m. least_found jobs j k order.1 g m t) f i t

  least_of : (Has : Job → Type 0) → ((j : Job) → test j ≡ true → Has j) → ((j : Job) → Has j → test j ≡ true) → (jobs : List Job) (j : Job) (serial : ℕ) → IsIncreasing (map (λ j. j.serial) jobs) → find test jobs ≡ Some j → j.serial ≡ serial → IsLeastSerial Has jobs serial
  least_of Has told tells jobs j serial order f its =
      let found = found_among test jobs j f in
      record { job = j; stands = found.0; has = told j found.1; its = its; least = λ k i h. subst (λ (n : ℕ). n ≤ k.serial) its (least_found jobs j k order f i (tells k h)) }

-- what the test of a kill says
run_by : (m : ℕ) (p : Phase) → is_run_by m p ≡ true → p ≡ Running m
run_by m Waiting h = absurd (cc)
run_by m Starting h = absurd (cc)
run_by m (Handed n) h = absurd (cc)
run_by m (Running n) h = ap Running (eqb-true n m h)
run_by m (Ended c) h = absurd (cc)

unhanded : (w : Wish) → is_unhanded w ≡ true → (why : Why) × (w ≡ wish.Now why false)
unhanded wish.NoWish h = absurd (cc)
unhanded (wish.Later until why) h = absurd (cc)
unhanded (wish.Now why true) h = absurd (cc)
unhanded (wish.Now why false) h = (why, refl)

told_kill : (m : ℕ) (j : Job) → is_to_kill m j ≡ true → IsToBeKilled m j
told_kill m j h =
    let parts = and_parts (is_run_by m j.phase) (is_unhanded j.wish) h in
    (run_by m j.phase parts.0, unhanded j.wish parts.1)

tells_kill : (m : ℕ) (j : Job) → IsToBeKilled m j → is_to_kill m j ≡ true
tells_kill m j h = and_from (is_run_by m j.phase) (is_unhanded j.wish) (ap (is_run_by m) h.0 ∙ eq-eqb m m refl) (ap is_unhanded h.1.1)

same_order : (o p : StartOrder) → Order (Start o) ≡ Order (Start p) → o ≡ p
same_order o p e = cc

same_kill : (n m : ℕ) → Order (Kill n) ≡ Order (Kill m) → n ≡ m
same_kill n m e = cc

-- of a start, no kill is ordered
no_kill : (s : State) (m : ℕ) (j : Job) (o : Option StartOrder) (serial : ℕ) → (hand_order s m j o).reply ≡ Order (Kill serial) → ⊥
no_kill s m j None serial e = absurd (cc)
no_kill s m j (Some o) serial e = absurd (cc)

none_killed : (s : State) (m : ℕ) (o : Option Job) (serial : ℕ) → (start_job s m o).reply ≡ Order (Kill serial) → ⊥
none_killed s m None serial e = absurd (cc)
none_killed s m (Some j) serial e = no_kill s m j (order_of s j) serial e

kill_by : (s : State) (m : ℕ) (o : Option Job) (serial : ℕ) → HasJobsInOrder s → find (is_to_kill m) s.jobs ≡ o → (hand_job s m o).reply ≡ Order (Kill serial) → IsLeastSerial (IsToBeKilled m) s.jobs serial
kill_by s m None serial order f e = absurd (none_killed s m (find (λ j. is_starting j.phase) s.jobs) serial e)
kill_by s m (Some j) serial order f e = least_of (is_to_kill m) (IsToBeKilled m) (told_kill m) (tells_kill m) s.jobs j serial order f (same_kill j.serial serial e)

pub handed_kill_is_least : HandedKillIsLeast
handed_kill_is_least s caller serial order e = kill_by s caller (find (is_to_kill caller) s.jobs) serial order refl e

ordered_by : (s : State) (m : ℕ) (j : Job) (given : Option StartOrder) (o : StartOrder) → order_of s j ≡ given → (hand_order s m j given).reply ≡ Order (Start o) → j.serial ≡ o.serial
ordered_by s m j None o g e = absurd (cc)
ordered_by s m j (Some p) o g e = sym (by_serial s j j.how o (g ∙ ap (λ (x : StartOrder). Some x) (same_order p o e)))

start_by : (s : State) (m : ℕ) (f : Option Job) (o : StartOrder) → HasJobsInOrder s → find (λ j. is_starting j.phase) s.jobs ≡ f → (start_job s m f).reply ≡ Order (Start o) → IsLeastSerial (λ j. j.phase ≡ Starting) s.jobs o.serial
start_by s m None o order f e = absurd (cc)
start_by s m (Some j) o order f e = least_of (λ j. is_starting j.phase) (λ j. j.phase ≡ Starting) (λ k h. starting_phase k.phase h) (λ k h. ap is_starting h) s.jobs j o.serial order f (ordered_by s m j (order_of s j) o refl e)

start_or_kill : (s : State) (m : ℕ) (k : Option Job) (o : StartOrder) → HasJobsInOrder s → find (is_to_kill m) s.jobs ≡ k → (hand_job s m k).reply ≡ Order (Start o) → ((j : Job) → IsIn j s.jobs → IsToBeKilled m j → ⊥) × IsLeastSerial (λ j. j.phase ≡ Starting) s.jobs o.serial
start_or_kill s m None o order f e = (λ j i k. none_among (is_to_kill m) s.jobs f j i (tells_kill m j k), start_by s m (find (λ j. is_starting j.phase) s.jobs) o order refl e)
start_or_kill s m (Some j) o order f e = absurd (cc)

pub handed_start_is_least : HandedStartIsLeast
handed_start_is_least s caller o order e = start_or_kill s caller (find (is_to_kill caller) s.jobs) o order refl e
