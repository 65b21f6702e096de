-- The opening state and that of a restart keep their ranges.
use Rattle.std.proofs.Common.{◌≡◌, ℤ, ℕ, false, List, [], ◌∷◌, refl, sym, subst, ◌∙◌, inl, inr, arith}
use Rattle.wm_base.specs.declared.job.Class.{Class}
use Rattle.wm_base.specs.declared.qname.QName.{QName}
use Rattle.wm_desc.specs.declared.description.Jobd.{Jobd}
use Rattle.wm_desc.specs.declared.description.Jobq.{Jobq}
use Rattle.wm_desc.specs.declared.description.Program.{Program}
use Rattle.wm_desc.specs.declared.description.Sbsd.{Sbsd}
use Rattle.wm_desc.specs.declared.entry.QueueEntry.{QueueEntry}
use Rattle.wm_desc.specs.declared.entry.RouteEntry.{RouteEntry}
use Rattle.wm_desc.specs.Opening.{qbatch}
use Rattle.wm_desc.specs.Sorted.{place_of}
use Rattle.wm_desc.specs.Table.{is_qcmd, qname_cmp}
use Rattle.wm_traits.specs.declared.row.Row.{Row}
use Rattle.wm_law.specs.Fit.{IsCommand, IsQName}
use Rattle.wm_law.specs.Laws.{IsIn}
use Rattle.wm_law.specs.Ranges.{AreInRange, HasEntriesInRange}
use Rattle.wm_law.specs.Opening.{empty, opening_commands}
use Rattle.wm_law.specs.Queues.{own_name, with_held_queue}
use Rattle.wm_law.specs.declared.command.Command.{Command}
use Rattle.wm_law.specs.declared.command.Command.TheVariants as command
use Rattle.wm_law.specs.declared.state.State.{State}
use Rattle.wm_law.proofs.InOrder.{in_inserted}
use Rattle.wm_law.proofs.Opened.{batch_sbsd, commands_fit, opened, opening_is, opening_objects}
use Rattle.wm_law.specs.Again.{crtcls_of, crtpgmref_of, crtjobq_of, crtjobd_of, crtsbsd_of, addjobqe_of, addrtge_of}
use Rattle.wm_rows.specs.declared.stored.Counter.{Counter}
use Rattle.wm_rows.specs.declared.stored.Counter.TheVariants as counter
use Rattle.wm_rows.specs.Stored.{IsPhase, stored_phase}
use Rattle.wm_rows.specs.declared.stored_job.StoredJob.{StoredJob}
use Rattle.wm_rows.specs.declared.stored_job.StoredPhase.{StoredPhase}
use Rattle.wm_rows.specs.declared.stored_job.StoredPhase.TheVariants.{Waiting, Active, Ended}
use Rattle.wm_tables.specs.Laws.{OpeningIsInRange, RestartIsInRange}
use Rattle.wm_tables.specs.Ranges.{IsInRange, IsJobInRange}
use Rattle.wm_tables.specs.Restart.{job_of, phase_of, with_counter, with_stored, IsGoodJob, IsRead, Takes}
use Rattle.wm_tables.proofs.Made.{call_makes, row_holds}
use Rattle.wm_tables.proofs.RangedJobs.{jobs_last, jobs_still, phased_kind, phased_stored}
use Rattle.wm_law.proofs.Members.{All-in}

fits : (c : Command) → IsIn c opening_commands → IsCommand c
fits c i = All-in IsCommand opening_commands c commands_fit i

only : {X : Type 0} (P : X → Type 0) (x : X) → P x → (y : X) → IsIn y (x ∷ []) → P y
only P x h y (inl same) = subst P (sym same) h
only P x h y (inr i) = absurd i

both : {X : Type 0} (P : X → Type 0) (x z : X) → P x → P z → (y : X) → IsIn y (x ∷ z ∷ []) → P y
both P x z h g y (inl same) = subst P (sym same) h
both P x z h g y (inr i) = only P z g y i

batch_entries : HasEntriesInRange qbatch batch_sbsd
batch_entries = record {
  queues = only (λ (e : QueueEntry). IsCommand (command.Addjobqe (addjobqe_of qbatch e))) _ (fits _ (inr (inr (inr (inr (inr (inr (inl refl))))))));
  routes = only (λ (e : RouteEntry). IsCommand (command.Addrtge (addrtge_of qbatch e))) _ (fits _ (inr (inr (inr (inr (inr (inr (inr (inl refl)))))))));
  autos = λ e i. absurd i;
  pres = λ e i. absurd i;
}

opened_objects : AreInRange opening_objects
opened_objects = record {
  classes = only (λ (x : QName × Class). IsCommand (command.Crtcls (crtcls_of x.0 x.1))) _ (fits _ (inl refl));
  programs = only (λ (x : QName × Program). IsCommand (command.Crtpgmref (crtpgmref_of x.0 x.1))) _ (fits _ (inr (inl refl)));
  no_qcmd = only (λ (x : QName × Program). is_qcmd x.0 ≡ false) _ refl;
  jobqs = only (λ (x : QName × Jobq). IsCommand (command.Crtjobq (crtjobq_of x.0))) _ (fits _ (inr (inr (inl refl))));
  jobds = both (λ (x : QName × Jobd). IsCommand (command.Crtjobd (crtjobd_of x.0 x.1))) _ _ (fits _ (inr (inr (inr (inr (inl refl)))))) (fits _ (inr (inr (inr (inl refl)))));
  sbsds = only (λ (x : QName × Sbsd). IsCommand (command.Crtsbsd (crtsbsd_of x.0 x.1))) _ (fits _ (inr (inr (inr (inr (inr (inl refl)))))));
  entries = only (λ (x : QName × Sbsd). HasEntriesInRange x.0 x.1) _ batch_entries;
}

opened_range : (offset : ℤ) → IsInRange (opened offset)
opened_range offset = record { objects = opened_objects; held = λ q i. absurd i; jobs = λ j i. absurd i; clock = omega arith }

pub opening_is_in_range : OpeningIsInRange
opening_is_in_range offset = subst IsInRange (sym (opening_is offset)) (opened_range offset)

empty_range : (offset : ℤ) → IsInRange (empty offset)
empty_range offset = record {
  objects = record { classes = λ x i. absurd i; programs = λ x i. absurd i; no_qcmd = λ x i. absurd i; jobqs = λ x i. absurd i; jobds = λ x i. absurd i; sbsds = λ x i. absurd i; entries = λ x i. absurd i };
  held = λ q i. absurd i;
  jobs = λ j i. absurd i;
  clock = omega arith;
}

-- a queue that becomes held keeps the ranges
held_range : (s : State) (q : QName) → IsQName q → IsInRange s → IsInRange (with_held_queue s q)
held_range s q h r = record {
  objects = r.objects;
  held = λ p i. (elim (in_inserted s.held (place_of own_name qname_cmp q s.held) q p i) as (λ _. IsQName p) [ inl same ↦ subst IsQName (sym same) h | inr was ↦ r.held p was ]);
  jobs = r.jobs;
  clock = r.clock;
}

phase_range : (p : StoredPhase) → IsPhase p → IsPhase (stored_phase (phase_of p))
phase_range Waiting h = tt
phase_range Active h = tt
phase_range (Ended cause) h = h

job_range : (s : State) (j : StoredJob) → IsGoodJob s j → IsJobInRange s.objects (job_of j)
job_range s j g =
    let p = stored_phase (phase_of j.phase) in
    record {
      stored = phased_stored j p (phase_range j.phase g.stored.phase) g.stored;
      lengths = record { rtgdta = g.lengths.rtgdta; rqsdta = g.lengths.rqsdta };
      kind = phased_kind s.objects j.kind j p g.kind;
    }

stored_range : (s : State) (j : StoredJob) → IsGoodJob s j → IsInRange s → IsInRange (with_stored s j)
stored_range s j g r = record { objects = r.objects; held = r.held; jobs = jobs_last s.objects s.jobs (job_of j) r.jobs (job_range s j g); clock = r.clock }

counter_range : (s : State) (c : Counter) (n : ℕ) → IsInRange s → IsInRange (with_counter s c n)
counter_range s counter.Number n r = record { objects = r.objects; held = r.held; jobs = r.jobs; clock = r.clock }
counter_range s counter.Place n r = record { objects = r.objects; held = r.held; jobs = r.jobs; clock = r.clock }
counter_range s counter.Schema n r = r
counter_range s counter.Serial n r = record { objects = r.objects; held = r.held; jobs = r.jobs; clock = r.clock }

takes_range : (s : State) (row : Row) (u : State) → Takes s row u → IsInRange s → IsInRange u
takes_range s row u (inl m) r =
    let made = call_makes s _ m.command m.accepted in
    subst IsInRange (sym (m.makes ∙ made.2)) (record { objects = made.3 (refl, m.fit) r.objects; held = r.held; jobs = jobs_still s.objects made.0 s.jobs made.1.jobqs r.jobs; clock = r.clock })
takes_range s row u (inr (inl m)) r = subst IsInRange (sym (m.makes ∙ (row_holds s m.queue m.accepted).is_with)) (held_range s m.queue m.fit r)
takes_range s row u (inr (inr (inl m))) r = subst IsInRange (sym m.makes) (stored_range s m.job m.good r)
takes_range s row u (inr (inr (inr m))) r = subst IsInRange (sym m.makes) (counter_range s m.counter m.count r)

read_range : (rows : List Row) (s t : State) → IsRead s rows t → IsInRange s → IsInRange t
read_range [] s t read r = subst IsInRange (sym read) r
read_range (row ∷ rows) s t read r = read_range rows read.0 t read.2 (takes_range s row read.0 read.1 r)

pub restart_is_in_range : RestartIsInRange
restart_is_in_range offset [] s h = subst IsInRange (sym h) (opening_is_in_range offset)
restart_is_in_range offset (row ∷ rows) s h = read_range (row ∷ rows) (empty offset) s h.0.read (empty_range offset)
