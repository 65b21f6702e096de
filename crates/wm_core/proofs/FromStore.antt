-- The jobs of a sound state without active ones may be those of a store, and nothing in such a state is due.
use Rattle.std.proofs.Common.{◌≡◌, ℕ, ◌<◌, true, false, List, [], ◌∷◌, map, is_some, refl, sym, subst, ◌∙◌, inl, inr, arith, All}
use Rattle.std.specs.declared.cmp.Ordering.TheVariants.{Less}
use Rattle.std.specs.Ordering.{nat_cmp}
use Rattle.std.proofs.lemmas.List.Elements.{All-nil, All-cons, All-head, All-tail}
use Rattle.std.proofs.lemmas.List.Kept.{AllPairs-cons}
use Rattle.wm_base.proofs.Orderings.{Less-lt}
use Rattle.wm_desc.specs.Sorted.{IsSortedOnce}
use Rattle.wm_law.specs.declared.job.Job.{Job}
use Rattle.wm_law.specs.declared.state.Sbs.{Sbs}
use Rattle.wm_law.specs.declared.state.State.{State}
use Rattle.wm_law.specs.Counts.{is_waiting, is_active}
use Rattle.wm_law.specs.Kept.{IsBelow}
use Rattle.wm_law.specs.Laws.{IsIn}
use Rattle.wm_law.specs.Sound.{HasNoneDue, IsIncreasing, IsSound}
use Rattle.wm_law.proofs.Members.{in_mapped}
use Rattle.wm_jobs.specs.Stored.{AreStored}
use Rattle.wm_jobs.specs.Table.{serial_of}

in-each : (P : Job → Type 0) (jobs : List Job) → ((j : Job) → IsIn j jobs → P j) → All P jobs
in-each P [] holds = All-nil P
in-each P (j ∷ js) holds = All-cons P j js (holds j (inl refl)) (in-each P js (λ k i. holds k (inr i)))

below-each : (key : Job → ℕ) (n : ℕ) (jobs : List Job) → IsBelow n (map key jobs) → All (λ j. key j < n) jobs
below-each key n [] below = All-nil (λ j. key j < n)
below-each key n (j ∷ js) below = All-cons (λ k. key k < n) j js below.0 (below-each key n js below.1)

increasing-sorted : (jobs : List Job) → IsIncreasing (map serial_of jobs) → IsSortedOnce serial_of nat_cmp jobs
increasing-sorted [] h = λ i j d lt in_range. absurd (omega arith)
increasing-sorted (j ∷ js) h =
    AllPairs-cons (λ (x y : Job). nat_cmp x.serial y.serial ≡ Less) j js
    (in-each (λ k. nat_cmp j.serial k.serial ≡ Less) js (λ k i. Less-lt j.serial k.serial (h.0 k.serial (in_mapped serial_of js k i))))
    (increasing-sorted js h.1)

pub sound-stored : (s : State) → IsSound s → All (λ (j : Job). is_active j.phase ≡ false) s.jobs → AreStored s.next_serial s.next_place s.jobs
sound-stored s h inactive =
    let serials = below-each serial_of s.next_serial s.jobs h.numbered.serials.below in
    let places = below-each (λ j. j.place) s.next_place s.jobs h.numbered.places in
    let queues = in-each (λ j. is_waiting j.phase ≡ true → is_some j.jobq ≡ true) s.jobs (λ j i waits. (h.queues j i).has_queue ((h.queues j i).waits waits)) in
    record {
      listed = record {
        first_place = h.numbered.next_place.least;
        sorted = increasing-sorted s.jobs h.jobs;
        each = λ k d lt. record { serial = serials k d lt; place = places k d lt; queue = queues k d lt };
      };
      inactive = inactive;
      places = h.numbered.waiting;
    }

of_each : (P : Job → Type 0) (jobs : List Job) (j : Job) → All P jobs → IsIn j jobs → P j
of_each P [] j all i = absurd i
of_each P (k ∷ ks) j all (inl same) = subst P (sym same) (All-head P k ks all)
of_each P (k ∷ ks) j all (inr i) = of_each P ks j (All-tail P k ks all) i

none_there : (bs : List Sbs) (b : Sbs) → bs ≡ [] → IsIn b bs → ⊥
none_there bs b e i = subst (λ (cs : List Sbs). IsIn b cs) e i

inactive_both : (j : Job) → is_active j.phase ≡ true → is_active j.phase ≡ false → ⊥
inactive_both j a n =
    let no : true ≡ false = sym a ∙ n in
    absurd (cc)

pub stored_none_due : (s : State) → s.started ≡ [] → All (λ (j : Job). is_active j.phase ≡ false) s.jobs → HasNoneDue s
stored_none_due s none inactive = record {
  subsystems = λ b i. absurd (none_there s.started b none i);
  jobs = λ j i a. absurd (inactive_both j a (of_each (λ (k : Job). is_active k.phase ≡ false) s.jobs j inactive i));
}
