-- A run opens with a state that is sound of prestart jobs: none is active, none has uses or a request, and each entry lets its jobs be used.
use Rattle.std.proofs.Common.{◌≡◌, ℕ, zero, suc, ◌<◌, ◌≤◌, true, false, List, [], ◌∷◌, length, get_or, refl, sym, ap, subst, inl, inr, arith}
use Rattle.std.proofs.lemmas.Bool.{and_parts}
use Rattle.std.proofs.lemmas.Bool.Decides.{nat_tests}
use Rattle.wm_base.specs.declared.limit.Limit.{Limit}
use Rattle.wm_base.specs.declared.limit.Limit.TheVariants.{NoMax, Most}
use Rattle.wm_base.specs.declared.qname.QName.{QName}
use Rattle.wm_base.specs.Limit.{is_below}
use Rattle.wm_desc.specs.declared.description.Sbsd.{Sbsd}
use Rattle.wm_desc.specs.declared.entry.PreEntry.{PreEntry}
use Rattle.wm_desc.specs.declared.objects.Objects.{Objects}
use Rattle.wm_desc.specs.Ranges.{limit_within, pre_in_range, within}
use Rattle.wm_law.specs.Counts.{is_active}
use Rattle.wm_law.specs.Laws.{IsIn}
use Rattle.wm_law.specs.Maxuse.{AreUsable, IsWithinMaxuse}
use Rattle.wm_law.specs.Prestart.{HavePresInOrder, count_evokes, is_by_pre}
use Rattle.wm_law.specs.SoundPrestart.{IsPrestartSound}
use Rattle.wm_law.specs.Uses.{max_evokes}
use Rattle.wm_law.specs.declared.job.Job.{Job}
use Rattle.wm_law.specs.declared.state.Evoke.{Evoke}
use Rattle.wm_law.specs.declared.state.State.{State}
use Rattle.wm_law.specs.declared.state.Stop.{Stop}
use Rattle.wm_law.proofs.Maxuse.{opening_is_within_maxuse}
use Rattle.wm_law.proofs.Requests.{idle_runs, running_now}
use Rattle.wm_law.proofs.SoundPrestart.{opening_is_prestart_sound}
use Rattle.wm_tables.specs.Laws.{RestartIsPrestartSound, RestartIsWithinMaxuse}
use Rattle.wm_law.specs.Ranges.{AreInRange}
use Rattle.wm_tables.proofs.Building.{IsAnew, IsBuilt, built}
use Rattle.wm_tables.proofs.RangedLaunches.{described_in}
use Rattle.wm_tables.proofs.RangedRestarts.{restart_is_in_range}
use Rattle.wm_tables.proofs.RowOrder.{ascending}

placed_by_none : (jobs : List Job) (i : ℕ) (d : Job) → i < length jobs → ((j : Job) → IsIn j jobs → IsAnew j) → is_by_pre (get_or jobs i d).how ≡ false
placed_by_none [] i d within h = absurd (omega (arith, within))
placed_by_none (j ∷ jobs) zero d within h = ap is_by_pre (h j (inl refl)).how
placed_by_none (j ∷ jobs) (suc i) d within h = placed_by_none jobs i d (omega (arith, within)) (λ k m. h k (inr m))

-- no job came by a prestart entry, so those that did stand in order
in_order : (jobs : List Job) → ((j : Job) → IsIn j jobs → IsAnew j) → HavePresInOrder jobs
in_order jobs h i j d less within came came' = (let none : is_by_pre (get_or jobs i d).how ≡ false = placed_by_none jobs i d (omega (arith, less, within)) h in absurd (cc))

none_waits : (sbs pgm : QName) (evokes : List Evoke) → evokes ≡ [] → count_evokes sbs pgm evokes ≤ max_evokes
none_waits sbs pgm evokes none = subst (λ (es : List Evoke). count_evokes sbs pgm es ≤ max_evokes) (sym none) (omega arith)

built_is_prestart_sound : (s : State) → IsBuilt s → IsPrestartSound s
built_is_prestart_sound s b = record {
  order = in_order s.jobs b.jobs.anew;
  requests = λ j i on asked. (let none : j.evoke ≡ false = (b.jobs.anew j i).evoke in absurd (cc));
  uses = λ j i waits. (b.jobs.anew j i).uses;
  stops_named = λ e i. absurd (subst (λ (es : List Stop). IsIn e es) b.stopped i);
  requests_named = λ e i. absurd (subst (λ (es : List Evoke). IsIn e es) b.evokes i);
  requests_few = λ sbs pgm. none_waits sbs pgm s.evokes b.evokes;
}

pub restart_is_prestart_sound : RestartIsPrestartSound
restart_is_prestart_sound offset [] s h = subst IsPrestartSound (sym h) (opening_is_prestart_sound offset)
restart_is_prestart_sound offset (row ∷ rows) s h = built_is_prestart_sound s (built offset (row ∷ rows) s (ascending (row ∷ rows) h.0.order) h.0.read)

-- a limit of at least 1 admits a use
admits : (l : Limit) → limit_within 1 1000 l ≡ true → is_below 0 l ≡ true
admits NoMax h = refl
admits (Most m) h = let least : 1 ≤ m = grind (arith, nat_tests) in grind (arith, nat_tests)

pre_admits : (e : PreEntry) → pre_in_range e ≡ true → is_below 0 e.maxuse ≡ true
pre_admits e h = admits e.maxuse (and_parts _ (limit_within 1 1000 e.maxuse) (and_parts _ (within 1 10 e.poolid) h).0).1

in_range_usable : (o : Objects) → AreInRange o → AreUsable o
in_range_usable o r sbs d e k i =
    let x = described_in sbs o.sbsds d k in
    pre_admits e ((r.entries x.0 x.1).pres e (subst (λ (c : Sbsd). IsIn e c.pres) (sym x.2) i)).ranges

built_is_within_maxuse : (s : State) → IsBuilt s → AreUsable s.objects → IsWithinMaxuse s
built_is_within_maxuse s b usable = record {
  usable = usable;
  active = λ j i on. (let none : is_active j.phase ≡ false = b.jobs.idle j i in absurd (cc));
  idle = λ j i waits. (let none : is_active j.phase ≡ false = b.jobs.idle j i in let on = (running_now j.phase (idle_runs j waits)).1 in absurd (cc));
}

pub restart_is_within_maxuse : RestartIsWithinMaxuse
restart_is_within_maxuse offset [] s h = subst IsWithinMaxuse (sym h) (opening_is_within_maxuse offset)
restart_is_within_maxuse offset (row ∷ rows) s h = built_is_within_maxuse s (built offset (row ∷ rows) s (ascending (row ∷ rows) h.0.order) h.0.read) (in_range_usable s.objects (restart_is_in_range offset (row ∷ rows) s h).objects)
