-- Commands in range keep the ranges of objects.
use Rattle.std.proofs.Common.{◌≡◌, ◌||◌, ℕ, Bool, true, false, cond, not, nat_eq, List, [], ◌∷◌, None, refl, sym, subst, inl, inr}
use Rattle.std.specs.Cmp.Lexicographic.{pointwise, slice_cmp}
use Rattle.std.specs.List.{insert}
use Rattle.std.specs.Ordering.{nat_cmp}
use Rattle.std.proofs.lemmas.Bool.{or_parts}
use Rattle.wm_base.specs.declared.job.Class.{Class}
use Rattle.wm_base.specs.declared.qname.QName.{QName}
use Rattle.wm_base.specs.declared.refusal.Kind.TheVariants as kind
use Rattle.wm_base.specs.declared.refusal.Refusal.{Refusal}
use Rattle.wm_base.specs.declared.refusal.Refusal.TheVariants.{Exists, SbsActive, TableFull}
use Rattle.wm_desc.specs.declared.description.Jobd.{Jobd}
use Rattle.wm_desc.specs.declared.description.Jobq.{Jobq}
use Rattle.wm_desc.specs.declared.description.Program.{Program}
use Rattle.wm_desc.specs.declared.description.Sbsd.{Sbsd}
use Rattle.wm_desc.specs.declared.entry.AutoEntry.{AutoEntry}
use Rattle.wm_desc.specs.declared.entry.PreEntry.{PreEntry}
use Rattle.wm_desc.specs.declared.entry.QueueEntry.{QueueEntry}
use Rattle.wm_desc.specs.declared.entry.RouteEntry.{RouteEntry}
use Rattle.wm_desc.specs.declared.objects.Objects.{Objects}
use Rattle.wm_desc.specs.Objects.{with_class, with_jobq, with_program, with_jobd, with_sbsd, with_description, with_queue, with_route, with_auto, with_pre, without_queue, without_route, without_auto, without_pre}
use Rattle.wm_desc.specs.Refusals.{is_full, program_refusal}
use Rattle.wm_desc.specs.Sorted.{place_of}
use Rattle.wm_desc.specs.Table.{has_object, is_qcmd, name_of, qname_cmp, same_qname}
use Rattle.wm_desc.proofs.Tables.{one_name, test_fails}
use Rattle.wm_law.specs.Fit.{IsCommand}
use Rattle.wm_law.specs.Laws.{IsIn}
use Rattle.wm_law.specs.Making.{class_of, jobd_of, queue_entry_of, route_entry_of, auto_entry_of, pre_entry_of}
use Rattle.wm_law.specs.declared.command.Addaje.{Addaje}
use Rattle.wm_law.specs.declared.command.Addjobqe.{Addjobqe}
use Rattle.wm_law.specs.declared.command.Addpje.{Addpje}
use Rattle.wm_law.specs.declared.command.Addrtge.{Addrtge}
use Rattle.wm_law.specs.declared.command.Command.TheVariants as command
use Rattle.wm_law.specs.declared.command.Crtcls.{Crtcls}
use Rattle.wm_law.specs.declared.command.Crtjobd.{Crtjobd}
use Rattle.wm_law.specs.declared.command.Crtjobq.{Crtjobq}
use Rattle.wm_law.specs.declared.command.Crtpgmref.{Crtpgmref}
use Rattle.wm_law.specs.declared.command.Crtsbsd.{Crtsbsd}
use Rattle.wm_law.proofs.InOrder.{in_inserted}
use Rattle.wm_law.proofs.Members.{left_in, of_mapped}
use Rattle.wm_law.specs.Again.{crtcls_of, crtpgmref_of, crtjobq_of, crtjobd_of, crtsbsd_of, addjobqe_of, addrtge_of, addaje_of, addpje_of}
use Rattle.wm_law.specs.Ranges.{AreInRange, HasEntriesInRange}

-- what holds of each element and of one more
each_more : {X : Type 0} (P : X → Type 0) (xs : List X) (n : ℕ) (x : X) → ((y : X) → IsIn y xs → P y) → P x → (y : X) → IsIn y (insert xs n x) → P y
each_more P xs n x each p y i = elim (in_inserted xs n x y i) as (λ _. P y) [ inl same ↦ subst P (sym same) p | inr was ↦ each y was ]

module _ (o : Objects) (r : AreInRange o) where
  pub class_range : (c : Crtcls) → IsCommand (command.Crtcls c) → AreInRange (with_class c.cls (class_of c) o)
  class_range c h = record {
    classes = each_more (λ (x : QName × Class). IsCommand (command.Crtcls (crtcls_of x.0 x.1))) o.classes (place_of name_of qname_cmp c.cls o.classes) (c.cls, class_of c) r.classes h;
    programs = r.programs;
    no_qcmd = r.no_qcmd;
    jobqs = r.jobqs;
    jobds = r.jobds;
    sbsds = r.sbsds;
    entries = r.entries;
  }

  pub program_range : (c : Crtpgmref) → IsCommand (command.Crtpgmref c) → program_refusal c.pgm o.programs ≡ None → AreInRange (with_program c.pgm c.path o)
  program_range c h e =
      let tests : List (Bool × Refusal) = (is_qcmd c.pgm || has_object c.pgm o.programs, Exists kind.Pgm) ∷ (is_full 1000 o.programs, TableFull kind.Pgm 1000) ∷ [] in
      let other = (or_parts (is_qcmd c.pgm) (has_object c.pgm o.programs) (test_fails tests 0 SbsActive e)).0 in
      let place = place_of name_of qname_cmp c.pgm o.programs in
      record {
        classes = r.classes;
        programs = each_more (λ (x : QName × Program). IsCommand (command.Crtpgmref (crtpgmref_of x.0 x.1))) o.programs place (c.pgm, record { path = c.path }) r.programs h;
        no_qcmd = each_more (λ (x : QName × Program). is_qcmd x.0 ≡ false) o.programs place (c.pgm, record { path = c.path }) r.no_qcmd other;
        jobqs = r.jobqs;
        jobds = r.jobds;
        sbsds = r.sbsds;
        entries = r.entries;
      }

  pub queue_range : (c : Crtjobq) → IsCommand (command.Crtjobq c) → AreInRange (with_jobq c.jobq o)
  queue_range c h = record {
    classes = r.classes;
    programs = r.programs;
    no_qcmd = r.no_qcmd;
    jobqs = each_more (λ (x : QName × Jobq). IsCommand (command.Crtjobq (crtjobq_of x.0))) o.jobqs (place_of name_of qname_cmp c.jobq o.jobqs) (c.jobq, record {}) r.jobqs h;
    jobds = r.jobds;
    sbsds = r.sbsds;
    entries = r.entries;
  }

  pub jobd_range : (c : Crtjobd) → IsCommand (command.Crtjobd c) → AreInRange (with_jobd c.jobd (jobd_of c) o)
  jobd_range c h = record {
    classes = r.classes;
    programs = r.programs;
    no_qcmd = r.no_qcmd;
    jobqs = r.jobqs;
    jobds = each_more (λ (x : QName × Jobd). IsCommand (command.Crtjobd (crtjobd_of x.0 x.1))) o.jobds (place_of name_of qname_cmp c.jobd o.jobds) (c.jobd, jobd_of c) r.jobds h;
    sbsds = r.sbsds;
    entries = r.entries;
  }

  pub sbsd_range : (c : Crtsbsd) → IsCommand (command.Crtsbsd c) → AreInRange (with_sbsd c.sbsd c.maxjobs o)
  sbsd_range c h =
      let place = place_of name_of qname_cmp c.sbsd o.sbsds in
      record {
        classes = r.classes;
        programs = r.programs;
        no_qcmd = r.no_qcmd;
        jobqs = r.jobqs;
        jobds = r.jobds;
        sbsds = each_more (λ (x : QName × Sbsd). IsCommand (command.Crtsbsd (crtsbsd_of x.0 x.1))) o.sbsds place (c.sbsd, _) r.sbsds h;
        entries = each_more (λ (x : QName × Sbsd). HasEntriesInRange x.0 x.1) o.sbsds place (c.sbsd, _) r.entries (record { queues = λ e i. absurd i; routes = λ e i. absurd i; autos = λ e i. absurd i; pres = λ e i. absurd i });
      }

  -- a change of descriptions keeps MAXJOBS, and the ranges of the entries of the one that is named
  pub record KeepsRanges (sbsd : QName) (change : Sbsd → Sbsd) : Type 0 where
    pub maxjobs : (d : Sbsd) → (change d).maxjobs ≡ d.maxjobs
    pub entries : (d : Sbsd) → HasEntriesInRange sbsd d → HasEntriesInRange sbsd (change d)

  changed_by : (P : QName × Sbsd → Type 0) (sbsd : QName) (change : Sbsd → Sbsd) (y x : QName × Sbsd) (t : Bool) → same_qname y.0 sbsd ≡ t → x ≡ cond t (y.0, change y.1) y → P y → (y.0 ≡ sbsd → P (y.0, change y.1)) → P x
  changed_by P sbsd change y x true e same was h = subst P (sym same) (h (one_name y.0 sbsd e))
  changed_by P sbsd change y x false e same was h = subst P (sym same) was

  pub description_range : (sbsd : QName) (change : Sbsd → Sbsd) → KeepsRanges sbsd change → AreInRange (with_description sbsd change o)
  description_range sbsd change k = record {
    classes = r.classes;
    programs = r.programs;
    no_qcmd = r.no_qcmd;
    jobqs = r.jobqs;
    jobds = r.jobds;
    sbsds = λ x i. (
        let P = λ (y : QName × Sbsd). IsCommand (command.Crtsbsd (crtsbsd_of y.0 y.1)) in
        let m = of_mapped (λ (y : QName × Sbsd). cond (same_qname y.0 sbsd) (y.0, change y.1) y) o.sbsds x i in
        changed_by P sbsd change m.0 x (same_qname m.0.0 sbsd) refl m.2 (r.sbsds m.0 m.1) (λ e. subst (λ (n : _). IsCommand (command.Crtsbsd (record { sbsd = m.0.0; maxjobs = n }))) (sym (k.maxjobs m.0.1)) (r.sbsds m.0 m.1)));
    entries = λ x i. (
        let P = λ (y : QName × Sbsd). HasEntriesInRange y.0 y.1 in
        let m = of_mapped (λ (y : QName × Sbsd). cond (same_qname y.0 sbsd) (y.0, change y.1) y) o.sbsds x i in
        changed_by P sbsd change m.0 x (same_qname m.0.0 sbsd) refl m.2 (r.entries m.0 m.1)
        (λ e. subst (λ (n : QName). HasEntriesInRange n (change m.0.1)) (sym e) (k.entries m.0.1 (subst (λ (n : QName). HasEntriesInRange n m.0.1) e (r.entries m.0 m.1)))));
  }

  pub queue_entry_range : (c : Addjobqe) → IsCommand (command.Addjobqe c) → AreInRange (with_description c.sbsd (with_queue (queue_entry_of c)) o)
  queue_entry_range c h =
      description_range c.sbsd (with_queue (queue_entry_of c))
      (record {
        maxjobs = λ d. refl;
        entries = λ d e. record {
          queues = each_more (λ (x : QueueEntry). IsCommand (command.Addjobqe (addjobqe_of c.sbsd x))) d.queues (place_of (λ (x : QueueEntry). x.seq) nat_cmp c.seqnbr d.queues) (queue_entry_of c) e.queues h;
          routes = e.routes;
          autos = e.autos;
          pres = e.pres;
        };
      })

  pub route_entry_range : (c : Addrtge) → IsCommand (command.Addrtge c) → AreInRange (with_description c.sbsd (with_route (route_entry_of c)) o)
  route_entry_range c h =
      description_range c.sbsd (with_route (route_entry_of c))
      (record {
        maxjobs = λ d. refl;
        entries = λ d e. record {
          queues = e.queues;
          routes = each_more (λ (x : RouteEntry). IsCommand (command.Addrtge (addrtge_of c.sbsd x))) d.routes (place_of (λ (x : RouteEntry). x.seq) nat_cmp c.seqnbr d.routes) (route_entry_of c) e.routes h;
          autos = e.autos;
          pres = e.pres;
        };
      })

  pub auto_entry_range : (c : Addaje) → IsCommand (command.Addaje c) → AreInRange (with_description c.sbsd (with_auto (auto_entry_of c)) o)
  auto_entry_range c h =
      description_range c.sbsd (with_auto (auto_entry_of c))
      (record {
        maxjobs = λ d. refl;
        entries = λ d e. record {
          queues = e.queues;
          routes = e.routes;
          autos = each_more (λ (x : AutoEntry). IsCommand (command.Addaje (addaje_of c.sbsd x))) d.autos (place_of (λ (x : AutoEntry). x.job) (slice_cmp nat_cmp) c.job d.autos) (auto_entry_of c) e.autos h;
          pres = e.pres;
        };
      })

  pub pre_entry_range : (c : Addpje) → IsCommand (command.Addpje c) → AreInRange (with_description c.sbsd (with_pre (pre_entry_of c)) o)
  pre_entry_range c h =
      description_range c.sbsd (with_pre (pre_entry_of c))
      (record {
        maxjobs = λ d. refl;
        entries = λ d e. record {
          queues = e.queues;
          routes = e.routes;
          autos = e.autos;
          pres = each_more (λ (x : PreEntry). IsCommand (command.Addpje (addpje_of c.sbsd x))) d.pres (place_of (λ (x : PreEntry). x.pgm) qname_cmp c.pgm d.pres) (pre_entry_of c) e.pres h;
        };
      })

  -- an entry that goes leaves the others in range
  pub without_queue_range : (sbsd jobq : QName) → AreInRange (with_description sbsd (without_queue jobq) o)
  without_queue_range sbsd jobq =
      description_range sbsd (without_queue jobq)
      (record { maxjobs = λ d. refl; entries = λ d e. record { queues = λ x i. e.queues x (left_in (λ (y : QueueEntry). not (same_qname y.jobq jobq)) d.queues x i); routes = e.routes; autos = e.autos; pres = e.pres } })

  pub without_route_range : (sbsd : QName) (seq : ℕ) → AreInRange (with_description sbsd (without_route seq) o)
  without_route_range sbsd seq =
      description_range sbsd (without_route seq)
      (record { maxjobs = λ d. refl; entries = λ d e. record { queues = e.queues; routes = λ x i. e.routes x (left_in (λ (y : RouteEntry). not (nat_eq y.seq seq)) d.routes x i); autos = e.autos; pres = e.pres } })

  pub without_auto_range : (sbsd : QName) (job : List ℕ) → AreInRange (with_description sbsd (without_auto job) o)
  without_auto_range sbsd job =
      description_range sbsd (without_auto job)
      (record { maxjobs = λ d. refl; entries = λ d e. record { queues = e.queues; routes = e.routes; autos = λ x i. e.autos x (left_in (λ (y : AutoEntry). not (pointwise nat_eq y.job job)) d.autos x i); pres = e.pres } })

  pub without_pre_range : (sbsd pgm : QName) → AreInRange (with_description sbsd (without_pre pgm) o)
  without_pre_range sbsd pgm =
      description_range sbsd (without_pre pgm)
      (record { maxjobs = λ d. refl; entries = λ d e. record { queues = e.queues; routes = e.routes; autos = e.autos; pres = λ x i. e.pres x (left_in (λ (y : PreEntry). not (same_qname y.pgm pgm)) d.pres x i) } })
