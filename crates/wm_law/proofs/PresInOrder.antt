-- The jobs that came by prestart entries stay in the order of their numbers.
use Rattle.std.proofs.Common.{◌≡◌, ◌⊎◌, ℕ, ℤ, suc, ◌<◌, ◌++◌, ◌==◌, Bool, true, false, cond, List, [], ◌∷◌, map, All, Option, Some, None, refl, sym, ap, subst, ◌∙◌, inl, inr, arith, option_and_then}
use Rattle.std.specs.Prelude.{⊤}
use Rattle.std.specs.List.{find}
use Rattle.std.proofs.lemmas.List.Elements.{All-nil, All-cons}
use Rattle.std.proofs.lemmas.List.Kept.{AllPairs-cons}
use Rattle.wm_base.specs.declared.job.EndCause.{EndCause}
use Rattle.wm_base.specs.declared.job.How.{How}
use Rattle.wm_base.specs.declared.job.JobName.{JobName}
use Rattle.wm_base.specs.declared.qname.QName.{QName}
use Rattle.wm_desc.specs.declared.entry.RouteEntry.{RouteEntry}
use Rattle.wm_desc.specs.Table.{object_named}
use Rattle.wm_law.specs.declared.call.Call.{Call}
use Rattle.wm_law.specs.declared.choice.Candidate.{Candidate}
use Rattle.wm_law.specs.declared.job.Job.{Job}
use Rattle.wm_law.specs.declared.state.State.{State}
use Rattle.wm_law.specs.Autos.{auto_job, routed_auto}
use Rattle.wm_law.specs.Jobs.{active_at, changed_at}
use Rattle.wm_law.specs.Kept.{IsBelow, IsNumbered}
use Rattle.wm_law.specs.Launch.{as_launched, from_queue, route, route_fault, routed_from_queue, routed_through, starts_unless, with_routed, as_auto, routed_in}
use Rattle.wm_law.specs.Laws.{IsIn}
use Rattle.wm_law.specs.Machine.{step}
use Rattle.wm_law.specs.Opening.{opening}
use Rattle.wm_law.specs.Prestart.{HavePresInOrder, is_by_pre, new_pre_job, with_evoke}
use Rattle.wm_law.specs.Reports.{in_phase}
use Rattle.wm_law.specs.Submitting.{submitted_job}
use Rattle.wm_law.proofs.Alterations.{IsAltered}
use Rattle.wm_law.proofs.Endings.{IsWishing, key_same, using}
use Rattle.wm_law.proofs.Members.{All-in, of_last, of_mapped}
use Rattle.wm_law.proofs.Moves.{HoldsOfStates, IsKeptByParts, autos_made, step_keeps}
use Rattle.wm_law.proofs.Numbers.{auto_keeps, begun_keeps, calls, clock_keeps, launches_keep, only_started}
use Rattle.wm_law.proofs.Opened.{opening_is}

-- of two jobs that came by prestart entries the first has the lesser number
abbrev Before : Job → Job → Type 0
Before i j = is_by_pre i.how ≡ true → is_by_pre j.how ≡ true → i.job.number < j.job.number

-- each job comes before all later ones
abbrev StandInOrder : List Job → Type 0
StandInOrder [] = ⊤
StandInOrder (j ∷ jobs) = ((k : Job) → IsIn k jobs → Before j k) × StandInOrder jobs

all_of : (P : Job → Type 0) (jobs : List Job) → ((k : Job) → IsIn k jobs → P k) → All P jobs
all_of P [] h = All-nil P
all_of P (j ∷ jobs) h = All-cons P j jobs (h j (inl refl)) (all_of P jobs (λ k i. h k (inr i)))

in_pairs : (jobs : List Job) → StandInOrder jobs → HavePresInOrder jobs
in_pairs [] h = λ i j d less within. absurd (omega (arith, less, within))
in_pairs (j ∷ jobs) h = AllPairs-cons Before j jobs (all_of (Before j) jobs h.0) (in_pairs jobs h.1)

one_by_one : (jobs : List Job) → HavePresInOrder jobs → StandInOrder jobs
one_by_one [] sorted = tt
one_by_one (j ∷ jobs) sorted = (
  λ k i. All-in (Before j) jobs k (λ n d less. sorted 0 (suc n) d (omega arith) (omega (arith, less))) i,
  one_by_one jobs (λ m n d less within. sorted (suc m) (suc n) d (omega (arith, less)) (omega (arith, within))),
)

-- a job keeps its number, and came by a prestart entry only if it did so before
record IsStillBy (j k : Job) : Type 0 where
  by_pre : is_by_pre k.how ≡ true → is_by_pre j.how ≡ true
  number : k.job.number ≡ j.job.number

before_still : (i j k l : Job) → IsStillBy i k → IsStillBy j l → Before i j → Before k l
before_still i j k l a b h p q =
    let less = h (a.by_pre p) (b.by_pre q) in
    let first = a.number in
    let second = b.number in
    omega arith

-- jobs that are changed so stay in order
mapped_in_order : (change : Job → Job) → ((j : Job) → IsStillBy j (change j)) → (jobs : List Job) → StandInOrder jobs → StandInOrder (map change jobs)
mapped_in_order change still [] h = tt
mapped_in_order change still (j ∷ jobs) h = (
  λ k i. (
      let m = of_mapped change jobs k i in
      subst (Before (change j)) (sym m.2) (before_still j m.0 (change j) (change m.0) (still j) (still m.0) (h.0 m.0 m.1))),
  mapped_in_order change still jobs h.1,
)

-- a job with a greater number goes last
last_in_order : (jobs : List Job) (j : Job) → IsBelow j.job.number (map (λ k. k.job.number) jobs) → StandInOrder jobs → StandInOrder (jobs ++ j ∷ [])
last_in_order [] j below h = ((λ k i. absurd i), tt)
last_in_order (x ∷ jobs) j below h = (
  λ k i. (
      elim (of_last jobs j k i) as (λ _. Before x k) [
        | inl m ↦ h.0 k m
        | inr same ↦ subst (Before x) (sym same) (λ p q. below.0)
      ]),
  last_in_order jobs j below.1 h.1,
)

still_at : (change : Job → Job) → ((j : Job) → IsStillBy j (change j)) → (t : Bool) (j : Job) → IsStillBy j (cond t (change j) j)
still_at change h true j = h j
still_at change h false j = record { by_pre = λ p. p; number = refl }

-- so where the job of a serial is changed
changed_in_order : (serial : ℕ) (change : Job → Job) → ((j : Job) → IsStillBy j (change j)) → (jobs : List Job) → StandInOrder jobs → StandInOrder (map (changed_at serial change) jobs)
changed_in_order serial change still jobs h = mapped_in_order (changed_at serial change) (λ j. still_at change still (j.serial == serial) j) jobs h

wishing_still : (change : Job → Job) → IsWishing change → (j : Job) → IsStillBy j (change j)
wishing_still change e j = record {
  by_pre = λ p. ap is_by_pre (sym (key_same change e (λ (x : Job). x.how) (λ x q w u r. refl) j)) ∙ p;
  number = key_same change e (λ (x : Job). x.job.number) (λ x q w u r. refl) j;
}

altered_still : (s : State) (j k : Job) → (k ≡ j) ⊎ IsAltered s j k → IsStillBy j k
altered_still s j k (inl same) = record { by_pre = λ p. ap (λ (x : Job). is_by_pre x.how) (sym same) ∙ p; number = ap (λ (x : Job). x.job.number) same }
altered_still s j k (inr a) = record { by_pre = λ p. ap is_by_pre (sym a.how) ∙ p; number = (let name = a.job in ap (λ (x : JobName). x.number) name) }

unless_by_pre : (how : ℕ → How) (seq : ℕ) (o : Option EndCause) → is_by_pre (how seq) ≡ false → is_by_pre (starts_unless how seq o).how ≡ false
unless_by_pre how seq None h = h
unless_by_pre how seq (Some c) h = refl

through_by_pre : (s : State) (sbs : QName) (how : ℕ → How) (j : Job) (o : Option RouteEntry) → ((seq : ℕ) → is_by_pre (how seq) ≡ false) → is_by_pre (routed_through s sbs how j o).how ≡ false
through_by_pre s sbs how j None h = refl
through_by_pre s sbs how j (Some e) h = unless_by_pre how e.seq (route_fault s sbs e j) (h e.seq)

-- no launch of a job of a queue makes it one of a prestart entry
pub launched_by_queue : (s : State) (sbs queue : QName) (j : Job) → is_by_pre (routed_from_queue s sbs queue j).how ≡ false
launched_by_queue s sbs queue j = through_by_pre s sbs (from_queue sbs queue j) j (option_and_then (λ d. route d j.rtgdta) (object_named sbs s.objects.sbsds)) (λ seq. refl)

-- nor does that of an autostart job
pub launched_as_auto : (s : State) (sbs : QName) (j : Job) → is_by_pre (routed_in s sbs (as_auto sbs) j).how ≡ false
launched_as_auto s sbs j = through_by_pre s sbs (as_auto sbs) j (option_and_then (λ d. route d j.rtgdta) (object_named sbs s.objects.sbsds)) (λ seq. refl)

launched_in_order : (s : State) (c : Candidate) (o : Option Job) → StandInOrder s.jobs → StandInOrder (with_routed s c o).jobs
launched_in_order s c None h = h
launched_in_order s c (Some j) h =
    changed_in_order c.serial (as_launched (routed_from_queue s c.sbs c.jobq j)) (λ k. record { by_pre = λ p. (let no = launched_by_queue s c.sbs c.jobq j in absurd (cc)); number = refl }) s.jobs h

-- numbered, and the jobs stand in order
record IsInLine (s : State) : Type 0 where
  numbered : IsNumbered s
  order : StandInOrder s.jobs

calls_in_order : (s : State) → IsInLine s → HoldsOfStates IsInLine s
calls_in_order s l =
    let n = calls s l.numbered in
    let h = l.order in
    record {
      stays = l;
      starts = λ q e. autos_made IsInLine s q e
          (λ t x d m k. record { numbered = auto_keeps q t x d m k.numbered; order = last_in_order t.jobs (routed_auto t q (auto_job t x d)) k.numbered.numbers.below k.order })
          (record { numbered = begun_keeps s q l.numbered; order = h });
      supplies = record {
        makes = λ q d e t can k. record { numbered = n.supplies.makes q d e t can k.numbered; order = last_in_order t.jobs (new_pre_job t q e.pgm) k.numbered.numbers.below k.order };
        assigns = λ t q pgm job evokes can k. record { numbered = n.supplies.assigns t q pgm job evokes can k.numbered; order = mapped_in_order (active_at job.serial with_evoke) (wishing_still _ (using job.serial)) t.jobs k.order };
      };
      enters = λ user c d due has. record { numbered = n.enters user c d due has; order = last_in_order s.jobs (submitted_job s user c d due) l.numbered.numbers.below h };
      alters = λ change place a. record { numbered = n.alters change place a; order = mapped_in_order change (λ j. altered_still s j (change j) (a.each j)) s.jobs h };
      holds = λ held a. record { numbered = n.holds held a; order = h };
      lists = λ stopped evokes. record { numbered = n.lists stopped evokes; order = h };
      moves = λ serial j phase stopped i e r k. record { numbered = n.moves serial j phase stopped i e r k; order = changed_in_order serial (in_phase phase) (λ x. record { by_pre = λ p. p; number = refl }) s.jobs h };
      ends = λ change started stopped evokes power e. record { numbered = n.ends change started stopped evokes power e; order = mapped_in_order change (wishing_still change e.jobs) s.jobs h };
      makes = λ o c. record { numbered = n.makes o c; order = h };
    }

parts : IsKeptByParts IsInLine
parts = record {
  clock = λ s moment l. record { numbered = clock_keeps s moment l.numbered; order = l.order };
  calls = calls_in_order;
  leaves = λ s l. record { numbered = only_started s l.numbered; order = l.order };
  launches = record { by_step = λ t c e l. record { numbered = launches_keep.by_step t c e l.numbered; order = launched_in_order t c (find (λ (j : Job). j.serial == c.serial) t.jobs) l.order } };
}

pub step_keeps_pres_in_order : (s : State) (caller : ℕ) (call : Call) (moment : ℕ) → IsNumbered s → HavePresInOrder s.jobs → HavePresInOrder (step s caller call moment).state.jobs
step_keeps_pres_in_order s caller call moment n h =
    let t = (step s caller call moment).state in
    in_pairs t.jobs (step_keeps IsInLine parts s caller call moment (record { numbered = n; order = one_by_one s.jobs h })).order

pub opening_has_pres_in_order : (offset : ℤ) → HavePresInOrder (opening offset).jobs
opening_has_pres_in_order offset = subst (λ (s : State). HavePresInOrder s.jobs) (sym (opening_is offset)) (in_pairs [] tt)
