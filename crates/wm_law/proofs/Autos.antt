-- An autostart job that became Starting did so by its route.
use Rattle.std.proofs.Common.{◌≡◌, ◌⊎◌, ◌==◌, Bool, true, false, cond, Option, Some, None, refl, sym, ap, subst, ◌∙◌, inl, inr, List}
use Rattle.std.specs.List.{find}
use Rattle.std.proofs.lemmas.Bool.{eqb-true}
use Rattle.wm_base.specs.declared.qname.QName.{QName}
use Rattle.wm_base.specs.Iterate.{IsKept}
use Rattle.wm_base.proofs.Iterate.{iterate-keeps}
use Rattle.wm_desc.specs.declared.description.Jobd.{Jobd}
use Rattle.wm_desc.specs.declared.entry.AutoEntry.{AutoEntry}
use Rattle.wm_law.specs.declared.choice.Candidate.{Candidate}
use Rattle.wm_law.specs.declared.job.Job.{Job}
use Rattle.wm_law.specs.declared.job.JobKind.TheVariants.{Bch, Asj, Pj}
use Rattle.wm_law.specs.declared.job.Phase.TheVariants.{Starting}
use Rattle.wm_law.specs.declared.state.State.{State}
use Rattle.wm_law.specs.Autos.{auto_job, routed_auto, auto_made}
use Rattle.wm_law.specs.Choice.{next}
use Rattle.wm_law.specs.Kept.{IsNumbered}
use Rattle.wm_law.specs.Jobs.{changed_at, active_at}
use Rattle.wm_law.specs.Launch.{as_auto, as_launched, launch, with_routed, routed_from_queue, route}
use Rattle.wm_law.specs.Laws.{IsIn}
use Rattle.wm_law.specs.Limits.{IsStarting, is_autostart}
use Rattle.wm_law.specs.Order.{AutosFit, IsAutoRouted}
use Rattle.wm_law.specs.Settling.{come_due, job_at, leave, sbss_at, start_jobs, waiting, ready}
use Rattle.wm_law.specs.Sound.{HasQueues}
use Rattle.wm_law.proofs.Endings.{stood_starting, wishing_at, IsWishing, using, wished}
use Rattle.wm_law.proofs.Firsts.{ready_waits}
use Rattle.wm_law.proofs.Forward.{only_one}
use Rattle.wm_law.proofs.Limits.{altered_starts_none, ended_starts_none, entered_starts_none, moved_starts_none}
use Rattle.wm_law.proofs.Members.{of_last, of_mapped}
use Rattle.wm_law.proofs.Moves.{HoldsOfStates, autos_made}
use Rattle.wm_law.proofs.Nexts.{IsNext, is_next}
use Rattle.wm_law.proofs.Numbers.{launches_keep}
use Rattle.wm_law.proofs.Queued.{launches_queued}
use Rattle.wm_law.proofs.Routed.{by_route}
use Rattle.wm_law.specs.declared.state.Evoke.{Evoke}
use Rattle.wm_law.specs.declared.state.Power.{Power}
use Rattle.wm_law.specs.declared.state.Sbs.{Sbs}
use Rattle.wm_law.specs.Prestart.{make_pre, new_pre_job, with_evoke}
use Rattle.wm_law.proofs.Supplies.{supplied_keeps}
use Rattle.wm_law.specs.declared.state.Stop.{Stop}

-- each autostart job that is Starting in the second state was so in the first, or is as its route has it
abbrev pub AutosRouted : State → State → Type 0
AutosRouted s t = (j : Job) → IsIn j t.jobs → j.phase ≡ Starting → j.kind ≡ Asj → IsStarting s j.serial ⊎ IsAutoRouted t.objects j

auto_routed : (t : State) (q : QName) (e : AutoEntry) (d : Jobd) → (routed_auto t q (auto_job t e d)).phase ≡ Starting → IsAutoRouted t.objects (routed_auto t q (auto_job t e d))
auto_routed t q e d p =
    let r = by_route t q (as_auto q) (auto_job t e d) p in
    record { sbs = q; sbsd = r.sbsd; entry = r.entry; described = r.described; routed = r.routed; is_how = r.is_how }

autos_routed : (s t : State) (q : QName) (e : AutoEntry) (d : Jobd) → AutosRouted s t → AutosRouted s (auto_made t q e d)
autos_routed s t q e d h k i p v =
    elim (of_last t.jobs (routed_auto t q (auto_job t e d)) k i) as (λ _. IsStarting s k.serial ⊎ IsAutoRouted t.objects k) [
      | inl m ↦ h k m p v
      | inr same ↦ inr (subst (IsAutoRouted t.objects) (sym same) (auto_routed t q e d (ap (λ (j : Job). j.phase) (sym same) ∙ p)))
    ]

-- so it is where wishes and uses change
wished_routed : (s t : State) (change : Job → Job) (started : List Sbs) (stopped : List Stop) (evokes : List Evoke) (power : Power) → IsWishing change → AutosRouted s t → AutosRouted s (wished t change started stopped evokes power)
wished_routed s t change started stopped evokes power e h k i p v =
    let m = stood_starting change e t.jobs k i p in
    elim (h m.job m.there m.starting (sym (ap (λ (x : Job). x.kind) m.same) ∙ v)) as (λ _. IsStarting s k.serial ⊎ IsAutoRouted t.objects k) [
      | inl was ↦ inl (subst (IsStarting s) (sym (ap (λ (x : Job). x.serial) m.same)) was)
      | inr r ↦ inr (record {
        sbs = r.sbs;
        sbsd = r.sbsd;
        entry = r.entry;
        described = r.described;
        routed = ap (λ (x : Job). route r.sbsd x.rtgdta) m.same ∙ r.routed;
        is_how = ap (λ (x : Job). x.how) m.same ∙ r.is_how;
      })
    ]

-- a prestart job is no autostart job
pre_routed : (s t : State) (q pgm : QName) → AutosRouted s t → AutosRouted s (make_pre q pgm t)
pre_routed s t q pgm h k i p v =
    elim (of_last t.jobs (new_pre_job t q pgm) k i) as (λ _. IsStarting s k.serial ⊎ IsAutoRouted t.objects k) [
      | inl m ↦ h k m p v
      | inr same ↦ (let kinds : Pj ≡ Asj = ap (λ (j : Job). j.kind) (sym same) ∙ v in absurd (cc))
    ]

-- so it is after each call, before the state settles
pub calls_route_autos : (s : State) → HoldsOfStates (AutosRouted s) s
calls_route_autos s = record {
  stays = λ j i p v. inl (j, i, refl, p);
  starts = λ q e. autos_made (AutosRouted s) s q e (λ t x d m h. autos_routed s t q x d h) (λ j i p v. inl (j, i, refl, p));
  supplies = record { makes = λ q d e t can h. pre_routed s t q e.pgm h; assigns = λ t q pgm job evokes can h. wished_routed s t (active_at job.serial with_evoke) t.started t.stopped evokes t.power (using job.serial) h };
  enters = λ user c d due has j i p v. inl (entered_starts_none s user c d due j i p);
  alters = λ change place a j i p v. inl (altered_starts_none s change place a j i p);
  holds = λ held a j i p v. inl (j, i, refl, p);
  lists = λ stopped evokes j i p v. inl (j, i, refl, p);
  moves = λ serial j phase stopped i e r n k m p v. inl (moved_starts_none s serial phase n k m p);
  ends = λ change started stopped evokes power e j i p v. inl (ended_starts_none s change e.jobs j i p);
  makes = λ o c j i p v. inl (j, i, refl, p);
}

-- and where the state is ready for jobs to start
pub autos_ready : (s t : State) → AutosRouted s t → AutosRouted s (ready t)
autos_ready s t h =
    supplied_keeps (AutosRouted s) (calls_route_autos s).supplies (leave (come_due t))
    (wished_routed s t (job_at t.clock (sbss_at t)) (sbss_at t) t.stopped t.evokes t.power (wishing_at t.clock (sbss_at t)) h)

-- numbered, the jobs have their queues, and the autostart jobs are by their routes
record IsRoutedSince (s t : State) : Type 0 where
  numbered : IsNumbered t
  queues : HasQueues t
  routed : AutosRouted s t

-- what is launched next is no autostart job
routed_at : (s t : State) (c : Candidate) (f i : Job) (b : Bool) (k : Job) → (i.serial == c.serial) ≡ b → IsIn i t.jobs → IsNext t c f → IsRoutedSince s t → k ≡ cond b (as_launched (routed_from_queue t c.sbs c.jobq f) i) i → k.phase ≡ Starting → k.kind ≡ Asj → IsStarting s k.serial ⊎ IsAutoRouted t.objects k
routed_at s t c f i true k e m x h same p v =
    let its : i ≡ f = only_one t.jobs h.numbered.serials.distinct i f m x.first.job (eqb-true i.serial c.serial e ∙ x.serial) in
    let bch : f.kind ≡ Bch = (h.queues f x.first.job).waits (ready_waits t f x.first.may.ready) in
    let kinds : Asj ≡ Bch = sym v ∙ ap (λ (y : Job). y.kind) same ∙ ap (λ (y : Job). y.kind) its ∙ bch in
    let no : true ≡ false = ap is_autostart kinds in
    absurd (cc)
routed_at s t c f i false k e m x h same p v =
    subst (λ (y : Job). IsStarting s y.serial ⊎ IsAutoRouted t.objects y) (sym same) (h.routed i m (ap (λ (y : Job). y.phase) (sym same) ∙ p) (ap (λ (y : Job). y.kind) (sym same) ∙ v))

launched_routed : (s t : State) (c : Candidate) (o : Option Job) → find (λ j. j.serial == c.serial) t.jobs ≡ o → next t ≡ Some c → IsRoutedSince s t → AutosRouted s (with_routed t c o)
launched_routed s t c None f e h = h.routed
launched_routed s t c (Some j) f e h = λ k m p v. (
    let o = of_mapped (changed_at c.serial (as_launched (routed_from_queue t c.sbs c.jobq j))) t.jobs k m in
    routed_at s t c j o.0 (o.0.serial == c.serial) k refl o.1 (is_next t c j e h.numbered f) h o.2 p v)

launches_routed : (s : State) → IsKept next (λ c t. launch t c) (IsRoutedSince s)
launches_routed s = record {
  by_step = λ t c e h. record {
    numbered = launches_keep.by_step t c e h.numbered;
    queues = launches_queued.by_step t c e h.queues;
    routed = launched_routed s t c (find (λ (j : Job). j.serial == c.serial) t.jobs) refl e h;
  };
}

-- and once it has settled
pub autos_fit : (s t : State) → IsNumbered t → HasQueues t → AutosRouted s t → AutosFit s (start_jobs t)
autos_fit s t n q h j b v =
    let since : IsRoutedSince s (start_jobs t) = iterate-keeps (IsRoutedSince s) (launches_routed s) (waiting t) t (record { numbered = n; queues = q; routed = h }) in
    elim (since.routed j b.job b.starting v) as (λ _. IsAutoRouted (start_jobs t).objects j) [
      | inl was ↦ absurd (b.new was)
      | inr r ↦ r
    ]
