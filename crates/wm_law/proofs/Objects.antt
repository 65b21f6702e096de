-- What a command that makes or changes objects leaves as it was.
use Rattle.std.proofs.Common.{◌≡◌, ◌⊎◌, ◌||◌, ◌&&◌, Bool, false, cond, not, List, [], ◌∷◌, Option, Some, None, is_some, nat_eq, refl, sym, ap, subst, ◌∙◌, inl, inr, arith}
use Rattle.std.specs.List.{list_any}
use Rattle.std.specs.Option.{IsSome, option_map_or}
use Rattle.std.proofs.lemmas.Bool.{or_parts, not-false}
use Rattle.wm_base.specs.declared.qname.QName.{QName}
use Rattle.wm_base.specs.declared.refusal.Kind.{Kind}
use Rattle.wm_base.specs.declared.refusal.Kind.TheVariants as kind
use Rattle.wm_base.specs.declared.refusal.Refusal.{Refusal}
use Rattle.wm_base.specs.declared.refusal.Refusal.TheVariants.{SbsActive, NoObject, Exists, TableFull}
use Rattle.wm_base.specs.declared.job.Class.{Class}
use Rattle.std.specs.Ordering.{nat_cmp}
use Rattle.std.specs.declared.cmp.Ordering.TheVariants.{Less}
use Rattle.std.proofs.lemmas.List.Kept.{AllPairs-filter}
use Rattle.wm_base.proofs.Tests.{unrefused}
use Rattle.wm_desc.proofs.Tables.{test_fails}
use Rattle.wm_desc.specs.declared.description.Program.{Program}
use Rattle.wm_desc.specs.declared.description.Sbsd.{Sbsd}
use Rattle.wm_desc.specs.declared.entry.RouteEntry.{RouteEntry}
use Rattle.wm_desc.specs.Objects.{empty_sbsd, with_object, with_class, with_jobq, with_program, with_jobd, with_sbsd, with_description, with_auto, with_pre, with_queue, with_route, without_auto, without_pre, without_queue, without_route}
use Rattle.wm_desc.specs.Refusals.{is_full, by_description, first_refusal, seq_used, auto_tests, pre_tests, queue_tests, route_tests, object_refusal, program_refusal, auto_refusal, pre_refusal, queue_refusal, route_refusal, remove_auto_refusal, remove_pre_refusal, remove_queue_refusal, remove_route_refusal}
use Rattle.wm_desc.specs.Table.{object_named, has_object, same_qname, is_qcmd}
use Rattle.wm_desc.specs.declared.objects.Objects.{Objects}
use Rattle.wm_law.specs.declared.command.Addaje.{Addaje}
use Rattle.wm_law.specs.declared.command.Addjobqe.{Addjobqe}
use Rattle.wm_law.specs.declared.command.Addpje.{Addpje}
use Rattle.wm_law.specs.declared.command.Addrtge.{Addrtge}
use Rattle.wm_law.specs.declared.command.Crtcls.{Crtcls}
use Rattle.wm_law.specs.declared.command.Crtjobd.{Crtjobd}
use Rattle.wm_law.specs.declared.command.Crtjobq.{Crtjobq}
use Rattle.wm_law.specs.declared.command.Crtpgmref.{Crtpgmref}
use Rattle.wm_law.specs.declared.command.Crtsbsd.{Crtsbsd}
use Rattle.wm_law.specs.declared.command.Rmvaje.{Rmvaje}
use Rattle.wm_law.specs.declared.command.Rmvjobqe.{Rmvjobqe}
use Rattle.wm_law.specs.declared.command.Rmvpje.{Rmvpje}
use Rattle.wm_law.specs.declared.command.Rmvrtge.{Rmvrtge}
use Rattle.wm_law.specs.declared.state.Sbs.{Sbs}
use Rattle.wm_law.specs.declared.state.State.{State}
use Rattle.wm_law.proofs.Members.{left_in}
use Rattle.wm_law.proofs.Entries.{IsStillThere, auto_in, auto_out, description_still, empty_description, pre_in, pre_out, queue_in, queue_out, route_in, route_out}
use Rattle.wm_law.proofs.InOrder.{in_inserted, number_added}
use Rattle.wm_law.proofs.Named.{is_named, named_still, named_before, changed_other, changed_before, other_name}
use Rattle.wm_law.proofs.Routes.{IsSorted}
use Rattle.wm_law.proofs.Tables.{table_changed, table_more}
use Rattle.wm_law.specs.Kept.{IsRouted}
use Rattle.wm_law.specs.Laws.{IsIn}
use Rattle.wm_law.specs.Objects.{AreSound, HasTables, IsDescription}
use Rattle.wm_law.specs.Making.{is_in_use, class_of, jobd_of, auto_entry_of, pre_entry_of, queue_entry_of, route_entry_of, unless_in_use}

-- started subsystems keep their descriptions, queues, programs and classes stay, the routing entries keep their order and classes, and sound objects stay sound
pub record IsObjectChange (s : State) (o : Objects) : Type 0 where
  pub described : (b : Sbs) → IsIn b s.started → IsSome (object_named b.sbsd s.objects.sbsds) → object_named b.sbsd o.sbsds ≡ object_named b.sbsd s.objects.sbsds
  pub programs : (q : QName) → IsSome (object_named q s.objects.programs) → object_named q o.programs ≡ object_named q s.objects.programs
  pub classes : (q : QName) → IsSome (object_named q s.objects.classes) → object_named q o.classes ≡ object_named q s.objects.classes
  pub jobqs : (q : QName) → IsSome (object_named q s.objects.jobqs) → IsSome (object_named q o.jobqs)
  pub routed : IsRouted s.objects → IsRouted o
  pub sound : AreSound s.objects → AreSound o

-- a name that isn't refused is new
pub new_object : {V : Type 0} (k : Kind) (name : QName) (objects : List (QName × V)) → object_refusal k name objects ≡ None → has_object name objects ≡ false
new_object k name objects e = test_fails ((has_object name objects, Exists k) ∷ (is_full 1000 objects, TableFull k 1000) ∷ []) 0 SbsActive e

pub new_program : (name : QName) (programs : List (QName × Program)) → program_refusal name programs ≡ None → has_object name programs ≡ false
new_program name programs e = (or_parts (is_qcmd name) (has_object name programs) (test_fails ((is_qcmd name || has_object name programs, Exists kind.Pgm) ∷ (is_full 1000 programs, TableFull kind.Pgm 1000) ∷ []) 0 SbsActive e)).1

has_room : {V : Type 0} (k : Kind) (name : QName) (objects : List (QName × V)) → object_refusal k name objects ≡ None → is_full 1000 objects ≡ false
has_room k name objects e = test_fails ((has_object name objects, Exists k) ∷ (is_full 1000 objects, TableFull k 1000) ∷ []) 1 SbsActive e

-- an object of a new name is there, and the others are still
there_still : {V : Type 0} (name q : QName) (v : V) (objects : List (QName × V)) → has_object name objects ≡ false → IsSome (object_named q objects) → IsSome (object_named q (with_object name v objects))
there_still {V = V} name q v objects new h = subst (λ (o : Option V). IsSome o) (sym (named_still name q v objects new h)) h

-- where the descriptions are found the same and the objects are still there, sound objects are so with sound tables
sound_still : (a b : Objects) → b.sbsds ≡ a.sbsds → IsStillThere a b → HasTables b → AreSound a → AreSound b
sound_still a b same still tables h = record { tables = tables; described = λ sbs d k. description_still a b d still (h.described sbs d (ap (object_named sbs) (sym same) ∙ k)) }

-- classes that are found are found the same, so the routing entries keep theirs
classes_routed : (s : State) (o : Objects) → o.sbsds ≡ s.objects.sbsds → ((q : QName) → IsSome (object_named q s.objects.classes) → object_named q o.classes ≡ object_named q s.objects.classes) → IsRouted s.objects → IsRouted o
classes_routed s o same still r =
    record {
      sorted = λ sbs d k. r.sorted sbs d (ap (object_named sbs) (sym same) ∙ k);
      classes = λ sbs d e k i. (let c = r.classes sbs d e (ap (object_named sbs) (sym same) ∙ k) i in subst (λ (x : Option Class). IsSome x) (sym (still e.cls c)) c);
    }

pub class_made : (s : State) (c : Crtcls) → object_refusal kind.Cls c.cls s.objects.classes ≡ None → IsObjectChange s (with_class c.cls (class_of c) s.objects)
class_made s c e =
    let new = new_object kind.Cls c.cls s.objects.classes e in
    let still = λ (q : QName) (h : IsSome (object_named q s.objects.classes)). named_still c.cls q (class_of c) s.objects.classes new h in
    record {
      described = λ b i h. refl;
      programs = λ q h. refl;
      classes = still;
      jobqs = λ q h. h;
      routed = classes_routed s (with_class c.cls (class_of c) s.objects) refl still;
      sound = λ h. (
          let t = h.tables in
          let tables : HasTables (with_class c.cls (class_of c) s.objects) = record {
            classes = table_more c.cls (class_of c) s.objects.classes new (has_room kind.Cls c.cls s.objects.classes e) t.classes;
            jobqs = t.jobqs;
            programs = t.programs;
            jobds = t.jobds;
            sbsds = t.sbsds;
          } in
          sound_still s.objects _ refl (record { jobqs = λ q i. i; classes = λ q i. there_still c.cls q (class_of c) s.objects.classes new i; programs = λ q i. i; jobds = λ q i. i }) tables h);
    }

pub queue_made : (s : State) (c : Crtjobq) → object_refusal kind.Jobq c.jobq s.objects.jobqs ≡ None → IsObjectChange s (with_jobq c.jobq s.objects)
queue_made s c e =
    let new = new_object kind.Jobq c.jobq s.objects.jobqs e in
    let still = λ (q : QName) (h : IsSome (object_named q s.objects.jobqs)). there_still c.jobq q (record {}) s.objects.jobqs new h in
    record {
      described = λ b i h. refl;
      programs = λ q h. refl;
      classes = λ q h. refl;
      jobqs = still;
      routed = classes_routed s (with_jobq c.jobq s.objects) refl (λ q h. refl);
      sound = λ h. (
          let t = h.tables in
          let tables : HasTables (with_jobq c.jobq s.objects) = record {
            classes = t.classes;
            jobqs = table_more c.jobq (record {}) s.objects.jobqs new (has_room kind.Jobq c.jobq s.objects.jobqs e) t.jobqs;
            programs = t.programs;
            jobds = t.jobds;
            sbsds = t.sbsds;
          } in
          sound_still s.objects _ refl (record { jobqs = still; classes = λ q i. i; programs = λ q i. i; jobds = λ q i. i }) tables h);
    }

pub program_made : (s : State) (c : Crtpgmref) → program_refusal c.pgm s.objects.programs ≡ None → IsObjectChange s (with_program c.pgm c.path s.objects)
program_made s c e =
    let tests : List (Bool × Refusal) = (is_qcmd c.pgm || has_object c.pgm s.objects.programs, Exists kind.Pgm) ∷ (is_full 1000 s.objects.programs, TableFull kind.Pgm 1000) ∷ [] in
    let new = new_program c.pgm s.objects.programs e in
    let room : is_full 1000 s.objects.programs ≡ false = test_fails tests 1 SbsActive e in
    let pgm : Program = record { path = c.path } in
    record {
      described = λ b i h. refl;
      programs = λ q h. named_still c.pgm q pgm s.objects.programs new h;
      classes = λ q h. refl;
      jobqs = λ q h. h;
      routed = classes_routed s (with_program c.pgm c.path s.objects) refl (λ q h. refl);
      sound = λ h. (
          let t = h.tables in
          let tables : HasTables (with_program c.pgm c.path s.objects) = record {
            classes = t.classes;
            jobqs = t.jobqs;
            programs = table_more c.pgm pgm s.objects.programs new room t.programs;
            jobds = t.jobds;
            sbsds = t.sbsds;
          } in
          sound_still s.objects _ refl (record { jobqs = λ q i. i; classes = λ q i. i; programs = λ q i. there_still c.pgm q pgm s.objects.programs new i; jobds = λ q i. i }) tables h);
    }

pub job_description_made : (s : State) (c : Crtjobd) → object_refusal kind.Jobd c.jobd s.objects.jobds ≡ None → IsObjectChange s (with_jobd c.jobd (jobd_of c) s.objects)
job_description_made s c e =
    let new = new_object kind.Jobd c.jobd s.objects.jobds e in
    record {
      described = λ b i h. refl;
      programs = λ q h. refl;
      classes = λ q h. refl;
      jobqs = λ q h. h;
      routed = classes_routed s (with_jobd c.jobd (jobd_of c) s.objects) refl (λ q h. refl);
      sound = λ h. (
          let t = h.tables in
          let tables : HasTables (with_jobd c.jobd (jobd_of c) s.objects) = record {
            classes = t.classes;
            jobqs = t.jobqs;
            programs = t.programs;
            jobds = table_more c.jobd (jobd_of c) s.objects.jobds new (has_room kind.Jobd c.jobd s.objects.jobds e) t.jobds;
            sbsds = t.sbsds;
          } in
          sound_still s.objects _ refl (record { jobqs = λ q i. i; classes = λ q i. i; programs = λ q i. i; jobds = λ q i. there_still c.jobd q (jobd_of c) s.objects.jobds new i }) tables h);
    }

-- a description without entries has nothing to keep
made_sorted : (c : Crtsbsd) (objects : Objects) (sbs : QName) (d : Sbsd) → IsRouted objects → (d ≡ empty_sbsd c.maxjobs) ⊎ (object_named sbs objects.sbsds ≡ Some d) → IsSorted d.routes
made_sorted c objects sbs d r (inl new) = subst (λ (x : Sbsd). IsSorted x.routes) (sym new) (λ i j e less h. absurd (omega arith))
made_sorted c objects sbs d r (inr old) = r.sorted sbs d old

made_classes : (c : Crtsbsd) (objects : Objects) (sbs : QName) (d : Sbsd) (e : RouteEntry) → IsRouted objects → IsIn e d.routes → (d ≡ empty_sbsd c.maxjobs) ⊎ (object_named sbs objects.sbsds ≡ Some d) → IsSome (object_named e.cls objects.classes)
made_classes c objects sbs d e r i (inl new) = absurd (subst (λ (x : Sbsd). IsIn e x.routes) new i)
made_classes c objects sbs d e r i (inr old) = r.classes sbs d e old i

made_described : (c : Crtsbsd) (objects b : Objects) (sbs : QName) (d : Sbsd) → IsStillThere objects b → AreSound objects → (d ≡ empty_sbsd c.maxjobs) ⊎ (object_named sbs objects.sbsds ≡ Some d) → IsDescription b d
made_described c objects b sbs d still h (inl new) = subst (IsDescription b) (sym new) (empty_description b c.maxjobs)
made_described c objects b sbs d still h (inr old) = description_still objects b d still (h.described sbs d old)

pub description_made : (s : State) (c : Crtsbsd) → object_refusal kind.Sbsd c.sbsd s.objects.sbsds ≡ None → IsObjectChange s (with_sbsd c.sbsd c.maxjobs s.objects)
description_made s c e =
    let new = new_object kind.Sbsd c.sbsd s.objects.sbsds e in
    let d = empty_sbsd c.maxjobs in
    record {
      described = λ b i h. named_still c.sbsd b.sbsd d s.objects.sbsds new h;
      programs = λ q h. refl;
      classes = λ q h. refl;
      jobqs = λ q h. h;
      sound = λ h. (
          let t = h.tables in
          record {
            tables = record {
              classes = t.classes;
              jobqs = t.jobqs;
              programs = t.programs;
              jobds = t.jobds;
              sbsds = table_more c.sbsd d s.objects.sbsds new (has_room kind.Sbsd c.sbsd s.objects.sbsds e) t.sbsds;
            };
            described = λ sbs x k. made_described c s.objects _ sbs x (record { jobqs = λ q i. i; classes = λ q i. i; programs = λ q i. i; jobds = λ q i. i }) h (named_before c.sbsd sbs d x s.objects.sbsds k);
          });
      routed = λ r. record {
        sorted = λ sbs x k. made_sorted c s.objects sbs x r (named_before c.sbsd sbs d x s.objects.sbsds k);
        classes = λ sbs x n k i. made_classes c s.objects sbs x n r i (named_before c.sbsd sbs d x s.objects.sbsds k);
      };
    }

-- the description is there, its subsystem isn't started, and it has none of the tests against it
record IsFree (s : State) (sbsd : QName) (refusal : Sbsd → Option Refusal) : Type 0 where
  description : Sbsd
  named : object_named sbsd s.objects.sbsds ≡ Some description
  unused : is_in_use s sbsd ≡ false
  accepted : refusal description ≡ None

free_by : (s : State) (sbsd : QName) (refusal : Sbsd → Option Refusal) (o : Option Sbsd) → object_named sbsd s.objects.sbsds ≡ o → cond (is_some o && is_in_use s sbsd) (Some SbsActive) (option_map_or refusal o (Some (NoObject kind.Sbsd))) ≡ None → IsFree s sbsd refusal
free_by s sbsd refusal None k e = absurd (cc)
free_by s sbsd refusal (Some d) k e =
    let tests = unrefused (is_in_use s sbsd) SbsActive (refusal d) e in
    record { description = d; named = k; unused = tests.0; accepted = tests.1 }

free : (s : State) (sbsd : QName) (refusal : Sbsd → Option Refusal) → unless_in_use s sbsd (by_description s.objects sbsd refusal) ≡ None → IsFree s sbsd refusal
free s sbsd refusal e = free_by s sbsd refusal (object_named sbsd s.objects.sbsds) refl e

unused_by : (sbsd : QName) (started : List Sbs) (b : Sbs) → list_any (λ (x : Sbs). same_qname x.sbsd sbsd) started ≡ false → IsIn b started → same_qname b.sbsd sbsd ≡ false
unused_by sbsd [] b e i = absurd i
unused_by sbsd (x ∷ xs) b e (inl same) = subst (λ (y : Sbs). same_qname y.sbsd sbsd ≡ false) (sym same) (or_parts (same_qname x.sbsd sbsd) (list_any (λ (y : Sbs). same_qname y.sbsd sbsd) xs) e).0
unused_by sbsd (x ∷ xs) b e (inr i) = unused_by sbsd xs b (or_parts (same_qname x.sbsd sbsd) (list_any (λ (y : Sbs). same_qname y.sbsd sbsd) xs) e).1 i

-- a change keeps the order of the routing entries, adds none whose class isn't there, and keeps what holds of the description
record KeepsEntries (objects : Objects) (change : Sbsd → Sbsd) (d : Sbsd) : Type 0 where
  sorted : IsSorted d.routes → IsSorted (change d).routes
  classes : (e : RouteEntry) → IsIn e (change d).routes → IsIn e d.routes ⊎ IsSome (object_named e.cls objects.classes)
  described : IsDescription objects d → IsDescription objects (change d)

module _ (s : State) (sbsd : QName) (change : Sbsd → Sbsd) (keeps : (d : Sbsd) → object_named sbsd s.objects.sbsds ≡ Some d → KeepsEntries s.objects change d) where
  kept : (sbs : QName) (c : Sbsd) → object_named sbs s.objects.sbsds ≡ Some c → sbsd ≡ sbs → KeepsEntries s.objects change c
  kept sbs c old one = keeps c (ap (λ (q : QName). object_named q s.objects.sbsds) one ∙ old)

  changed_sorted : (sbs : QName) (c d : Sbsd) → object_named sbs s.objects.sbsds ≡ Some c → IsSorted c.routes → (d ≡ c) ⊎ ((sbsd ≡ sbs) × (d ≡ change c)) → IsSorted d.routes
  changed_sorted sbs c d old h (inl same) = subst (λ (x : Sbsd). IsSorted x.routes) (sym same) h
  changed_sorted sbs c d old h (inr new) = subst (λ (x : Sbsd). IsSorted x.routes) (sym new.1) ((kept sbs c old new.0).sorted h)

  changed_classes : (sbs : QName) (c d : Sbsd) (e : RouteEntry) → object_named sbs s.objects.sbsds ≡ Some c → (IsIn e c.routes → IsSome (object_named e.cls s.objects.classes)) → IsIn e d.routes → (d ≡ c) ⊎ ((sbsd ≡ sbs) × (d ≡ change c)) → IsSome (object_named e.cls s.objects.classes)
  changed_classes sbs c d e old h i (inl same) = h (subst (λ (x : Sbsd). IsIn e x.routes) same i)
  changed_classes sbs c d e old h i (inr new) =
      elim ((kept sbs c old new.0).classes e (subst (λ (x : Sbsd). IsIn e x.routes) new.1 i)) as (λ _. IsSome (object_named e.cls s.objects.classes)) [ inl was ↦ h was | inr there ↦ there ]

  changed_described : (b : Objects) (sbs : QName) (c d : Sbsd) → IsStillThere s.objects b → object_named sbs s.objects.sbsds ≡ Some c → IsDescription s.objects c → (d ≡ c) ⊎ ((sbsd ≡ sbs) × (d ≡ change c)) → IsDescription b d
  changed_described b sbs c d still old h (inl same) = subst (IsDescription b) (sym same) (description_still s.objects b c still h)
  changed_described b sbs c d still old h (inr new) = subst (IsDescription b) (sym new.1) (description_still s.objects b (change c) still ((kept sbs c old new.0).described h))

  -- so it is a change of objects where no started subsystem has the description
  description_changed : is_in_use s sbsd ≡ false → IsObjectChange s (with_description sbsd change s.objects)
  description_changed unused =
      record {
        described = λ b i h. changed_other sbsd b.sbsd change s.objects.sbsds (other_name b.sbsd sbsd (unused_by sbsd s.started b unused i));
        programs = λ q h. refl;
        classes = λ q h. refl;
        jobqs = λ q h. h;
        sound = λ h. (
            let t = h.tables in
            record {
              tables = record { classes = t.classes; jobqs = t.jobqs; programs = t.programs; jobds = t.jobds; sbsds = table_changed sbsd change s.objects.sbsds t.sbsds };
              described = λ sbs d k. (
                  let c = changed_before sbsd sbs change s.objects.sbsds d k in
                  changed_described _ sbs c.0 d (record { jobqs = λ q i. i; classes = λ q i. i; programs = λ q i. i; jobds = λ q i. i }) c.1 (h.described sbs c.0 c.1) c.2);
            });
        routed = λ r. record {
          sorted = λ sbs d k. (let c = changed_before sbsd sbs change s.objects.sbsds d k in changed_sorted sbs c.0 d c.1 (r.sorted sbs c.0 c.1) c.2);
          classes = λ sbs d e k i. (let c = changed_before sbsd sbs change s.objects.sbsds d k in changed_classes sbs c.0 d e c.1 (λ was. r.classes sbs c.0 e c.1 was) i c.2);
        };
      }

-- what a description that is changed has none of the tests against
accepted_by : (s : State) (sbsd : QName) (refusal : Sbsd → Option Refusal) → IsFree s sbsd refusal → (d : Sbsd) → object_named sbsd s.objects.sbsds ≡ Some d → refusal d ≡ None
accepted_by s sbsd refusal free d k =
    let one : free.description ≡ d = let same = sym free.named ∙ k in cc in
    subst (λ (x : Sbsd). refusal x ≡ None) one free.accepted

pub queue_added : (s : State) (c : Addjobqe) → unless_in_use s c.sbsd (queue_refusal s.objects c.sbsd (queue_entry_of c)) ≡ None → IsObjectChange s (with_description c.sbsd (with_queue (queue_entry_of c)) s.objects)
queue_added s c e =
    let refusal = λ (d : Sbsd). first_refusal (queue_tests s.objects (queue_entry_of c) d) in
    let f = free s c.sbsd refusal e in
    description_changed s c.sbsd (with_queue (queue_entry_of c))
    (λ d k. record { sorted = λ h. h; classes = λ n i. inl i; described = queue_in s.objects (queue_entry_of c) d (accepted_by s c.sbsd refusal f d k) })
    f.unused

route_kept : (objects : Objects) (entry : RouteEntry) (d : Sbsd) → first_refusal (route_tests objects entry d) ≡ None → KeepsEntries objects (with_route entry) d
route_kept objects entry d accepted =
    let cls : not (has_object entry.cls objects.classes) ≡ false = test_fails (route_tests objects entry d) 1 SbsActive accepted in
    let new : seq_used (λ (n : RouteEntry). n.seq) entry.seq d.routes ≡ false = test_fails (route_tests objects entry d) 2 SbsActive accepted in
    let there : IsSome (object_named entry.cls objects.classes) = sym (is_named entry.cls objects.classes) ∙ not-false _ cls in
    record {
      sorted = λ h. number_added (λ (n : RouteEntry). n.seq) entry d.routes h new;
      classes = λ n i. (elim (in_inserted d.routes _ entry n i) as (λ _. IsIn n d.routes ⊎ IsSome (object_named n.cls objects.classes)) [
        | inl same ↦ inr (subst (λ (x : RouteEntry). IsSome (object_named x.cls objects.classes)) (sym same) there)
        | inr was ↦ inl was
      ]);
      described = route_in objects entry d accepted;
    }

pub route_added : (s : State) (c : Addrtge) → unless_in_use s c.sbsd (route_refusal s.objects c.sbsd (route_entry_of c)) ≡ None → IsObjectChange s (with_description c.sbsd (with_route (route_entry_of c)) s.objects)
route_added s c e =
    let refusal = λ (d : Sbsd). first_refusal (route_tests s.objects (route_entry_of c) d) in
    let f = free s c.sbsd refusal e in
    description_changed s c.sbsd (with_route (route_entry_of c)) (λ d k. route_kept s.objects (route_entry_of c) d (accepted_by s c.sbsd refusal f d k)) f.unused

pub auto_added : (s : State) (c : Addaje) → unless_in_use s c.sbsd (auto_refusal s.objects c.sbsd (auto_entry_of c)) ≡ None → IsObjectChange s (with_description c.sbsd (with_auto (auto_entry_of c)) s.objects)
auto_added s c e =
    let refusal = λ (d : Sbsd). first_refusal (auto_tests s.objects (auto_entry_of c) d) in
    let f = free s c.sbsd refusal e in
    description_changed s c.sbsd (with_auto (auto_entry_of c))
    (λ d k. record { sorted = λ h. h; classes = λ n i. inl i; described = auto_in s.objects (auto_entry_of c) d (accepted_by s c.sbsd refusal f d k) })
    f.unused

pub pre_added : (s : State) (c : Addpje) → unless_in_use s c.sbsd (pre_refusal s.objects c.sbsd (pre_entry_of c)) ≡ None → IsObjectChange s (with_description c.sbsd (with_pre (pre_entry_of c)) s.objects)
pre_added s c e =
    let refusal = λ (d : Sbsd). first_refusal (pre_tests s.objects (pre_entry_of c) d) in
    let f = free s c.sbsd refusal e in
    description_changed s c.sbsd (with_pre (pre_entry_of c))
    (λ d k. record { sorted = λ h. h; classes = λ n i. inl i; described = pre_in s.objects (pre_entry_of c) d (accepted_by s c.sbsd refusal f d k) })
    f.unused

pub queue_removed : (s : State) (c : Rmvjobqe) → unless_in_use s c.sbsd (remove_queue_refusal s.objects c.sbsd c.jobq) ≡ None → IsObjectChange s (with_description c.sbsd (without_queue c.jobq) s.objects)
queue_removed s c e =
    description_changed s c.sbsd (without_queue c.jobq)
    (λ d k. record { sorted = λ h. h; classes = λ n i. inl i; described = queue_out s.objects c.jobq d })
    (free s c.sbsd _ e).unused

pub route_removed : (s : State) (c : Rmvrtge) → unless_in_use s c.sbsd (remove_route_refusal s.objects c.sbsd c.seqnbr) ≡ None → IsObjectChange s (with_description c.sbsd (without_route c.seqnbr) s.objects)
route_removed s c e =
    description_changed s c.sbsd (without_route c.seqnbr)
    (λ d k. record {
      sorted = AllPairs-filter (λ (x y : RouteEntry). nat_cmp x.seq y.seq ≡ Less) (λ (x : RouteEntry). not (nat_eq x.seq c.seqnbr)) d.routes;
      classes = λ n i. inl (left_in (λ (x : RouteEntry). not (nat_eq x.seq c.seqnbr)) d.routes n i);
      described = route_out s.objects c.seqnbr d;
    })
    (free s c.sbsd _ e).unused

pub auto_removed : (s : State) (c : Rmvaje) → unless_in_use s c.sbsd (remove_auto_refusal s.objects c.sbsd c.job) ≡ None → IsObjectChange s (with_description c.sbsd (without_auto c.job) s.objects)
auto_removed s c e =
    description_changed s c.sbsd (without_auto c.job)
    (λ d k. record { sorted = λ h. h; classes = λ n i. inl i; described = auto_out s.objects c.job d })
    (free s c.sbsd _ e).unused

pub pre_removed : (s : State) (c : Rmvpje) → unless_in_use s c.sbsd (remove_pre_refusal s.objects c.sbsd c.pgm) ≡ None → IsObjectChange s (with_description c.sbsd (without_pre c.pgm) s.objects)
pre_removed s c e =
    description_changed s c.sbsd (without_pre c.pgm)
    (λ d k. record { sorted = λ h. h; classes = λ n i. inl i; described = pre_out s.objects c.pgm d })
    (free s c.sbsd _ e).unused
