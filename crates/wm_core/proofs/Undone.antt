-- A step that is taken back leaves the state before it.
use Rattle.std.proofs.Common.{◌≡◌, ◌⊎◌, ◌∙◌, ◌==◌, ℕ, Bool, true, false, cond, List, find, Option, Some, None, refl, ap, sym, subst, inl, inr}
use Rattle.wm_base.proofs.Iterate.{iterate-keeps}
use Rattle.wm_base.specs.declared.qname.QName.{QName}
use Rattle.wm_base.specs.declared.refusal.Kind.{Kind}
use Rattle.wm_base.specs.declared.refusal.Kind.TheVariants as kind
use Rattle.wm_base.specs.declared.job.Class.{Class}
use mathlib.Core.Bool.{true≢false}
use Rattle.wm_base.proofs.Tests.{Some-injective}
use Rattle.wm_desc.specs.declared.description.Jobd.{Jobd}
use Rattle.wm_desc.specs.declared.description.Jobq.{Jobq}
use Rattle.wm_desc.specs.declared.description.Program.{Program}
use Rattle.wm_desc.specs.declared.description.Sbsd.{Sbsd}
use Rattle.wm_desc.specs.declared.objects.Objects.{Objects}
use Rattle.wm_desc.specs.Objects.{with_description, with_object}
use Rattle.wm_desc.specs.Sorted.{removed}
use Rattle.wm_desc.specs.Table.{has_object, name_of, object_named, same_qname}
use Rattle.wm_law.specs.declared.call.Call.{Call}
use Rattle.wm_law.specs.declared.choice.Candidate.{Candidate}
use Rattle.wm_law.specs.declared.configured.Configured.{Configured}
use Rattle.wm_law.specs.declared.configured.Configured.TheVariants as thing
use Rattle.wm_law.specs.declared.job.Job.{Job}
use Rattle.wm_law.specs.declared.state.Evoke.{Evoke}
use Rattle.wm_law.specs.declared.state.Sbs.{Sbs}
use Rattle.wm_law.specs.declared.state.Stop.{Stop}
use Rattle.wm_law.specs.declared.state.State.{State}
use Rattle.wm_law.specs.Configured.{configured_by, is_there}
use Rattle.wm_law.specs.Launch.{with_routed}
use Rattle.wm_law.specs.Machine.{apply, step, with_clock}
use Rattle.wm_law.specs.Objects.{AreSound}
use Rattle.wm_law.specs.Settling.{come_due, leave, ready, settle, waiting}
use Rattle.wm_law.proofs.Aside.{IsLeft, aside_by, call_leaves}
use Rattle.wm_law.proofs.Supplies.{supplied_keeps}
use Rattle.wm_law.proofs.Things.{IsMore, IsOf, IsWith}
use Rattle.wm_jobs.specs.Marked.{Marked}
use Rattle.wm_making.specs.declared.saved.Saved.{Saved}
use Rattle.wm_making.specs.declared.saved.Saved.TheVariants.{Nothing, New, Description}
use Rattle.wm_making.specs.Saved.{described, old_held, old_objects, saved_as, saved_of, saved_where, without_object}
use Rattle.wm_making.proofs.PutBack.{added_removed, changed_back, none_changed, none_removed, own_back}
use Rattle.wm_core.specs.declared.mark.Mark.{Mark}
use Rattle.wm_core.specs.Aside.{Aside, aside_of}
use Rattle.wm_core.specs.Marks.{Marks, before, marks_at}

-- with what was kept put back, all that a step doesn't mark otherwise is as it was
pub record IsBack (saved : Saved) (s t : State) : Type 0 where
  pub objects : old_objects saved t.objects ≡ s.objects
  pub held : old_held saved t.held ≡ s.held
  pub offset : t.offset_min ≡ s.offset_min

module _ (s : State) where
  -- objects with one more are as they were without it
  module _ {V : Type 0} (kind : Kind) (name : QName) (objects : List (QName × V)) (put : List (QName × V) → Objects) (takes : (l : List (QName × V)) → without_object kind name (put l) ≡ put (removed name_of same_qname name l)) (is : put objects ≡ s.objects) where
    out : (u : Objects) → (u ≡ s.objects) ⊎ IsMore name objects put u → has_object name objects ≡ false → without_object kind name u ≡ s.objects
    out u (inl same) new = ap (without_object kind name) (same ∙ sym is) ∙ (takes objects ∙ (ap put (none_removed name objects new) ∙ is))
    out u (inr more) new = ap (without_object kind name) more.1 ∙ (takes (with_object name more.0 objects) ∙ (ap put (added_removed name more.0 objects new) ∙ is))

  taken_out : (k : Kind) (name : QName) (u : Objects) → (u ≡ s.objects) ⊎ IsWith k name s.objects u → is_there k name s.objects ≡ false → without_object k name u ≡ s.objects
  taken_out kind.Cls name u with_it new = out {V = Class} kind.Cls name s.objects.classes (λ l. record s.objects { classes = l }) (λ l. refl) refl u with_it new
  taken_out kind.Jobq name u with_it new = out {V = Jobq} kind.Jobq name s.objects.jobqs (λ l. record s.objects { jobqs = l }) (λ l. refl) refl u with_it new
  taken_out kind.Pgm name u with_it new = out {V = Program} kind.Pgm name s.objects.programs (λ l. record s.objects { programs = l }) (λ l. refl) refl u with_it new
  taken_out kind.Jobd name u with_it new = out {V = Jobd} kind.Jobd name s.objects.jobds (λ l. record s.objects { jobds = l }) (λ l. refl) refl u with_it new
  taken_out kind.Sbsd name u with_it new = out {V = Sbsd} kind.Sbsd name s.objects.sbsds (λ l. record s.objects { sbsds = l }) (λ l. refl) refl u with_it new
  taken_out k name u with_it new = absurd (cc)

  -- an object that came is taken out, and one that was there stays
  object_back : (k : Kind) (name : QName) (there : Bool) (u : State) → is_there k name s.objects ≡ there → (u.objects ≡ s.objects) ⊎ IsOf (thing.Object k name) s.objects u.objects → u.held ≡ s.held → u.offset_min ≡ s.offset_min → IsBack (cond there Nothing (New k name)) s u
  object_back k name true u e (inl same) held offset = record { objects = same; held = held; offset = offset }
  object_back k name true u e (inr made) held offset = absurd (true≢false (sym e ∙ made.0))
  object_back k name false u e (inl same) held offset = record { objects = taken_out k name u.objects (inl same) e; held = held; offset = offset }
  object_back k name false u e (inr made) held offset = record { objects = taken_out k name u.objects (inr made.1) e; held = held; offset = offset }

  -- a description is put back
  description_back : AreSound s.objects → (name : QName) (o : Option Sbsd) (u : State) → object_named name s.objects.sbsds ≡ o → (u.objects ≡ s.objects) ⊎ IsOf (thing.Description name) s.objects u.objects → u.held ≡ s.held → u.offset_min ≡ s.offset_min → IsBack (described name o) s u
  description_back sound name None u e (inl same) held offset = record { objects = same; held = held; offset = offset }
  description_back sound name None u e (inr made) held offset = record { objects = made.1 ∙ ap (λ (l : List (QName × Sbsd)). record s.objects { sbsds = l }) (none_changed name made.0 s.objects.sbsds e); held = held; offset = offset }
  description_back sound name (Some d) u e (inl same) held offset =
      record { objects = ap (with_description name (λ _. d)) same ∙ ap (λ (l : List (QName × Sbsd)). record s.objects { sbsds = l }) (own_back name d s.objects.sbsds sound.tables.sbsds.sorted e); held = held; offset = offset }
  description_back sound name (Some d) u e (inr made) held offset =
      record { objects = ap (with_description name (λ _. d)) made.1 ∙ ap (λ (l : List (QName × Sbsd)). record s.objects { sbsds = l }) (changed_back name made.0 d s.objects.sbsds sound.tables.sbsds.sorted e); held = held; offset = offset }

  -- what is configured is put back
  back_by : AreSound s.objects → (c : Configured) (u : State) → (u.objects ≡ s.objects) ⊎ IsOf c s.objects u.objects → (u.held ≡ s.held) ⊎ (Some c ≡ Some thing.HeldQueues) → u.offset_min ≡ s.offset_min → IsBack (saved_as c s.objects s.held) s u
  back_by sound (thing.Object k name) u was (inl held) offset = object_back k name (is_there k name s.objects) u refl was held offset
  back_by sound (thing.Object k name) u was (inr none) offset = absurd (cc)
  back_by sound (thing.Description name) u was (inl held) offset = description_back sound name (object_named name s.objects.sbsds) u refl was held offset
  back_by sound (thing.Description name) u was (inr none) offset = absurd (cc)
  back_by sound thing.HeldQueues u (inl same) held offset = record { objects = same; held = refl; offset = offset }
  back_by sound thing.HeldQueues u (inr none) held offset = absurd none

  own_of : (c d : Configured) (u : Objects) → Some c ≡ Some d → IsOf d s.objects u → IsOf c s.objects u
  own_of c d u e is = subst (λ (x : Configured). IsOf x s.objects u) (sym (Some-injective c d e)) is

  left_back : AreSound s.objects → (c : Option Configured) (u : State) → IsLeft c s u → IsBack (saved_where c s.objects s.held) s u
  left_back sound None u l = (let a = aside_by None s u refl l in record { objects = a.objects; held = a.held; offset = a.offset })
  left_back sound (Some c) u l = back_by sound c u (elim l.objects as (λ _. (u.objects ≡ s.objects) ⊎ IsOf c s.objects u.objects) [ inl same ↦ inl same | inr is ↦ inr (own_of c is.0 u.objects is.1 is.2) ]) l.held l.offset

  called : AreSound s.objects → (caller : ℕ) (call : Call) → IsBack (saved_of s.objects s.held call) s (apply s caller call).state
  called sound caller call = left_back sound (configured_by call) (apply s caller call).state (call_leaves s call caller)

  -- what is kept as a call begins leads back from the state itself
  kept : AreSound s.objects → (call : Call) → IsBack (saved_of s.objects s.held call) s s
  kept sound call = left_back sound (configured_by call) s (record { objects = inl refl; held = inl refl; offset = refl })

module _ (saved : Saved) (s : State) where
  launched : (t : State) (c : Candidate) (o : Option Job) → IsBack saved s t → IsBack saved s (with_routed t c o)
  launched t c None h = h
  launched t c (Some j) h = record { objects = h.objects; held = h.held; offset = h.offset }

  settled : (t : State) → IsBack saved s t → IsBack saved s (settle t)
  settled t h =
      let supplied = supplied_keeps (IsBack saved s) (record { makes = λ q d e u can k. record { objects = k.objects; held = k.held; offset = k.offset }; assigns = λ u q pgm job evokes can k. record { objects = k.objects; held = k.held; offset = k.offset } }) (leave (come_due t)) (record { objects = h.objects; held = h.held; offset = h.offset }) in
      iterate-keeps (IsBack saved s) (record { by_step = λ u c e k. launched u c (find (λ (j : Job). j.serial == c.serial) u.jobs) k }) (waiting (ready t)) (ready t) supplied

stepped : (s : State) (caller : ℕ) (call : Call) (moment : ℕ) → AreSound s.objects → IsBack (saved_of s.objects s.held call) s (step s caller call moment).state
unfolding step
stepped s caller call moment sound =
    let h = called (with_clock s moment) sound caller call in
    settled (saved_of s.objects s.held call) s (apply (with_clock s moment) caller call).state (record { objects = h.objects; held = h.held; offset = h.offset })

back : (s : State) (call : Call) (m : Marks) (t : State) → m ≡ marks_at s call → IsBack (saved_of s.objects s.held call) s t → before m t ≡ s
back s call m t marks h =
    let here : before (marks_at s call) t ≡ s = rw (h.objects, h.held, h.offset) refl in
    ap (λ (n : Marks). before n t) marks ∙ here

-- objects, held queues and offset decide where what is kept leads back to
like_aside : (saved : Saved) (s t u : State) → aside_of t ≡ aside_of u → IsBack saved s u → IsBack saved s t
like_aside saved s t u e h = record {
  objects = ap (λ (a : Aside). old_objects saved a.objects) e ∙ h.objects;
  held = ap (λ (a : Aside). old_held saved a.held) e ∙ h.held;
  offset = ap (λ (a : Aside). a.offset) e ∙ h.offset;
}

-- what is kept as a call begins leads back from a state with the objects, held queues and offset that were there
pub kept_is_undone : (s : State) (call : Call) (m : Marks) (t : State) → AreSound s.objects → m ≡ marks_at s call → aside_of t ≡ aside_of s → before m t ≡ s
kept_is_undone s call m t sound marks e = back s call m t marks (like_aside (saved_of s.objects s.held call) s t s e (kept s sound call))

-- and from one with those that the call leaves before the state settles
pub call_is_undone : (s : State) (caller : ℕ) (call : Call) (moment : ℕ) (m : Marks) (t : State) → AreSound s.objects → m ≡ marks_at s call → aside_of t ≡ aside_of (apply (with_clock s moment) caller call).state → before m t ≡ s
call_is_undone s caller call moment m t sound marks e =
    let h = called (with_clock s moment) sound caller call in
    back s call m t marks (like_aside (saved_of s.objects s.held call) s t (apply (with_clock s moment) caller call).state e (record { objects = h.objects; held = h.held; offset = h.offset }))

-- and from the state that its step leaves
pub step_is_undone : (s : State) (caller : ℕ) (call : Call) (moment : ℕ) → AreSound s.objects → before (marks_at s call) (step s caller call moment).state ≡ s
step_is_undone s caller call moment sound =
    let h = stepped s caller call moment sound in
    rw (h.objects, h.held, h.offset) refl

pub back_from : (s : State) (caller : ℕ) (call : Call) (moment : ℕ) (m : Marks) (t : State) → AreSound s.objects → m ≡ marks_at s call → t ≡ (step s caller call moment).state → before m t ≡ s
back_from s caller call moment m t sound marks is = ap (λ (n : Marks). before n t) marks ∙ (ap (before (marks_at s call)) is ∙ step_is_undone s caller call moment sound)

-- what is kept as a call begins, beside the jobs
pub same_mark : (s : State) (call : Call) (saved : Saved) (started : List Sbs) (stopped : List Stop) (evokes : List Evoke) → saved ≡ saved_of s.objects s.held call → started ≡ s.started → stopped ≡ s.stopped → evokes ≡ s.evokes
    → record { saved = saved; started = started; stopped = stopped; evokes = evokes; next_number = s.next_number; power = s.power; undoable = true } ≡ (marks_at s call).mark
same_mark s call saved started stopped evokes e f g h = rw (e, f, g, h) refl

-- and with them
pub same_marks : (s : State) (call : Call) (mark : Mark) (marked : Marked) → mark ≡ (marks_at s call).mark → marked ≡ record { jobs = s.jobs; clock = s.clock; next_serial = s.next_serial; next_place = s.next_place }
    → record { mark = mark; jobs = marked } ≡ marks_at s call
same_marks s call mark marked e f = rw (e, f) refl
