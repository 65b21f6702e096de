-- Stopped entries and waiting requests stay those of started subsystems' descriptions, and no entry gets too many requests.
use Rattle.std.proofs.Common.{◌≡◌, ◌⊎◌, ℕ, ℤ, ◌≤◌, ◌++◌, ◌==◌, ◌&&◌, not, Bool, true, false, List, [], ◌∷◌, filter, Option, Some, None, refl, sym, ap, subst, ◌∙◌, inl, inr, arith}
use Rattle.std.specs.List.{find, list_any}
use Rattle.std.specs.Option.{option_map_or}
use Rattle.std.proofs.lemmas.Bool.{not-true, or_parts}
use Rattle.wm_base.specs.declared.job.How.{How}
use Rattle.wm_base.specs.declared.job.How.TheVariants.{Pre}
use Rattle.wm_base.specs.declared.qname.QName.{QName}
use Rattle.wm_base.proofs.Iterate.{iterate-keeps}
use Rattle.wm_desc.specs.declared.description.Sbsd.{Sbsd}
use Rattle.wm_desc.specs.declared.entry.PreEntry.{PreEntry}
use Rattle.wm_desc.specs.declared.objects.Objects.{Objects}
use Rattle.wm_desc.specs.Table.{object_named, same_qname}
use Rattle.wm_law.specs.declared.call.Call.{Call}
use Rattle.wm_law.specs.declared.choice.Candidate.{Candidate}
use Rattle.wm_law.specs.declared.job.Job.{Job}
use Rattle.wm_law.specs.declared.job.JobKind.{JobKind}
use Rattle.wm_law.specs.declared.job.JobKind.TheVariants.{Bch, Asj, Pj}
use Rattle.wm_law.specs.declared.state.Evoke.{Evoke}
use Rattle.wm_law.specs.declared.state.Sbs.{Sbs}
use Rattle.wm_law.specs.declared.state.SbsPhase.TheVariants.{Active}
use Rattle.wm_law.specs.declared.state.State.{State}
use Rattle.wm_law.specs.declared.state.Stop.{Stop}
use Rattle.wm_law.specs.Launch.{with_routed}
use Rattle.wm_law.specs.Laws.{IsIn}
use Rattle.wm_law.specs.Machine.{apply, step, with_clock}
use Rattle.wm_law.specs.Opening.{opening}
use Rattle.wm_law.specs.Prestart.{count_evokes, is_by_pre, is_evoke_of}
use Rattle.wm_law.specs.Settling.{come_due, is_gone, is_gone_by_name, leave, ready, sbss_at, waiting}
use Rattle.wm_law.specs.Sound.{ActiveHaveCome, CameByEntry, HasCome}
use Rattle.wm_law.specs.SoundPrestart.{HasFewRequests, HasNamedRequests, HasNamedStops}
use Rattle.wm_law.specs.Subsystems.{begun}
use Rattle.wm_law.specs.Supply.{first_stops, pres_of}
use Rattle.wm_law.specs.Uses.{max_evokes}
use Rattle.wm_law.proofs.Endings.{ended_at}
use Rattle.wm_law.proofs.Listed.{IsKnown, IsPartOf, RequestsOn, StopsOn, part_filtered}
use Rattle.wm_law.proofs.Members.{in_left, left_in, left_passes, last_in, of_mapped}
use Rattle.wm_law.proofs.Moves.{HoldsAfterCalls, autos_made, call_comes, prestart_keeps, started_keeps}
use Rattle.wm_law.proofs.Opened.{opened, opening_is}
use Rattle.wm_law.proofs.Named.{own_name}
use Rattle.wm_law.proofs.Placed.{IsStillNamed, ending, longer, placed_still, remade}
use Rattle.wm_law.proofs.Supplies.{IsSupplied, supplied_keeps}

-- the stopped entries and the requests that wait are of started subsystems' descriptions, and no entry has too many requests
record AreListed (started : List Sbs) (o : Objects) (stopped : List Stop) (evokes : List Evoke) : Type 0 where
  stops : (e : Stop) → IsIn e stopped → CameByEntry started o (Pre e.sbs e.pgm)
  requests : (e : Evoke) → IsIn e evokes → CameByEntry started o (Pre e.sbs e.pgm)
  few : (sbs pgm : QName) → count_evokes sbs pgm evokes ≤ max_evokes

abbrev HasLists : State → Type 0
HasLists s = AreListed s.started s.objects s.stopped s.evokes

-- an entry that is named stays so
entry_still : (bs : List Sbs) (o : Objects) (cs : List Sbs) (p : Objects) (sbs pgm : QName) → IsStillNamed bs o cs p (Pre sbs pgm) → CameByEntry bs o (Pre sbs pgm) → CameByEntry cs p (Pre sbs pgm)
entry_still bs o cs p sbs pgm still h = placed_still bs o cs p Pj None 0 (Pre sbs pgm) still h

-- among subsystems and objects that name what was named, the lists stay
lists_still : (s : State) (cs : List Sbs) (p : Objects) → ((how : How) → IsStillNamed s.started s.objects cs p how) → HasLists s → AreListed cs p s.stopped s.evokes
lists_still s cs p still h = record {
  stops = λ e i. entry_still s.started s.objects cs p e.sbs e.pgm (still (Pre e.sbs e.pgm)) (h.stops e i);
  requests = λ e i. entry_still s.started s.objects cs p e.sbs e.pgm (still (Pre e.sbs e.pgm)) (h.requests e i);
  few = h.few;
}

-- fewer requests
part_listed : (started : List Sbs) (o : Objects) (stopped : List Stop) (evokes some : List Evoke) → IsPartOf some evokes → AreListed started o stopped evokes → AreListed started o stopped some
part_listed started o stopped evokes some part h = record {
  stops = h.stops;
  requests = λ e i. h.requests e (part.within e i);
  few = λ sbs pgm. (
      let less = part.fewer (is_evoke_of sbs pgm) in
      let most = h.few sbs pgm in
      omega arith);
}

-- the how of a prestart job names an entry
by_kind : (bs : List Sbs) (o : Objects) (kind : JobKind) (jobq : Option QName) (pty : ℕ) (how : How) (sbs pgm : QName) → how ≡ Pre sbs pgm → HasCome bs o kind jobq pty how → CameByEntry bs o (Pre sbs pgm)
by_kind bs o Bch jobq pty how sbs pgm e h = let no : is_by_pre (Pre sbs pgm) ≡ false = ap is_by_pre (sym e ∙ h.is_how) in absurd (cc)
by_kind bs o Asj jobq pty how sbs pgm e h = let no : is_by_pre (Pre sbs pgm) ≡ false = ap is_by_pre (sym e ∙ h.is_how) in absurd (cc)
by_kind bs o Pj jobq pty how sbs pgm e h = subst (CameByEntry bs o) e h

known_named : (s : State) (sbs pgm : QName) → ActiveHaveCome s → IsKnown s sbs pgm → CameByEntry s.started s.objects (Pre sbs pgm)
known_named s sbs pgm places (inl k) = k
known_named s sbs pgm places (inr k) = by_kind s.started s.objects k.0.kind k.0.jobq k.0.pty k.0.how sbs pgm k.3 (places k.0 k.1 k.2)

-- the lists of a call
called_lists : (s : State) (stopped : StopsOn s) (evokes : RequestsOn s) → ActiveHaveCome s → HasLists s → AreListed s.started s.objects stopped.stops evokes.requests
called_lists s stopped evokes places h = record {
  stops = λ e i. (elim (stopped.known e i) as (λ _. CameByEntry s.started s.objects (Pre e.sbs e.pgm)) [ inl was ↦ h.stops e was | inr k ↦ known_named s e.sbs e.pgm places k ]);
  requests = λ e i. (elim (evokes.known e i) as (λ _. CameByEntry s.started s.objects (Pre e.sbs e.pgm)) [ inl was ↦ h.requests e was | inr k ↦ k ]);
  few = λ sbs pgm. (
      let most = h.few sbs pgm in
      elim (evokes.few sbs pgm) as (λ _. count_evokes sbs pgm evokes.requests ≤ max_evokes) [ inl less ↦ omega arith | inr few ↦ few ]);
}

supplies_lists : IsSupplied HasLists
supplies_lists = record { makes = λ q d e t can h. h; assigns = λ t q pgm job evokes can h. part_listed t.started t.objects t.stopped t.evokes evokes can.part h }

in_appended : {X : Type 0} (xs ys : List X) (x : X) → IsIn x (xs ++ ys) → IsIn x xs ⊎ IsIn x ys
in_appended [] ys x i = inr i
in_appended (z ∷ xs) ys x (inl e) = inl (inl e)
in_appended (z ∷ xs) ys x (inr i) = elim (in_appended xs ys x i) as (λ _. IsIn x (z ∷ xs) ⊎ IsIn x ys) [ inl m ↦ inl (inr m) | inr m ↦ inr m ]

entry_of : (s : State) (q : QName) (o : Option Sbsd) (e : PreEntry) → object_named q s.objects.sbsds ≡ o → IsIn e (option_map_or (λ d. d.pres) o []) → (d : Sbsd) × (object_named q s.objects.sbsds ≡ Some d) × IsIn e d.pres
entry_of s q None e k i = absurd i
entry_of s q (Some d) e k i = (d, k, i)

-- the entries that are stopped as the subsystem starts are its own
first_named : (s : State) (q : QName) (e : Stop) → IsIn e (first_stops s q) → CameByEntry (begun s q).started s.objects (Pre e.sbs e.pgm)
first_named s q e i =
    let m = of_mapped (λ (x : PreEntry). record { sbs = q; pgm = x.pgm }) (filter (λ (x : PreEntry). not x.strjobs) (pres_of s q)) e i in
    let x = entry_of s q (object_named q s.objects.sbsds) m.0 refl (left_in (λ (y : PreEntry). not y.strjobs) (pres_of s q) m.0 m.1) in
    let b : Sbs = record { sbsd = q; phase = Active } in
    subst (λ (y : Stop). CameByEntry (begun s q).started s.objects (Pre y.sbs y.pgm)) (sym m.2) (record { sbs = b; sbsd = x.0; entry = m.0; started = last_in s.started b; described = x.1; entered = x.2; is_how = refl })

begun_lists : (s : State) (q : QName) → HasLists s → HasLists (begun s q)
begun_lists s q h =
    let b : Sbs = record { sbsd = q; phase = Active } in
    let still = lists_still s (begun s q).started s.objects (longer s b) h in
    record {
      stops = λ e i. (elim (in_appended s.stopped (first_stops s q) e i) as (λ _. CameByEntry (begun s q).started s.objects (Pre e.sbs e.pgm)) [ inl was ↦ still.stops e was | inr new ↦ first_named s q e new ]);
      requests = still.requests;
      few = still.few;
    }

lists_called : (s : State) (call : Call) → ActiveHaveCome s → HasLists s → HoldsAfterCalls (λ t. HasLists t.state) s call
lists_called s call places h = record {
  refuses = λ x. h;
  nothing = λ n. h;
  notes = h;
  hands = λ m j o i k f. h;
  reports = λ serial j phase stopped i e r n fit. record { stops = (called_lists s stopped (record { requests = s.evokes; known = λ e i. inl i; few = λ sbs pgm. inl (omega arith) }) places h).stops; requests = h.requests; few = h.few };
  starts = λ q k. started_keeps HasLists s q k supplies_lists (autos_made HasLists s q k (λ t e d m a. a) (begun_lists s q h));
  enters = λ user c d due has fit. h;
  alters = λ reply change place p a fit. h;
  holds = λ reply held p a told fit. h;
  ends = λ reply change started stopped evokes power p e told kept. (
      let new = called_lists s stopped evokes places h in
      lists_still (record s { stopped = stopped.stops; evokes = evokes.requests }) started s.objects (λ how. ending s started how e.subsystems) new);
  uses = λ reply change p u. h;
  waits = λ place evokes is. (let new = called_lists s (record { stops = s.stopped; known = λ e i. inl i }) evokes places h in new);
  prestarts = λ q d e can. prestart_keeps HasLists s q d e can supplies_lists (record { stops = λ x i. h.stops x (left_in (λ (y : Stop). not (same_qname y.sbs q && same_qname y.pgm e.pgm)) s.stopped x i); requests = h.requests; few = h.few });
  kills = λ m j i k. h;
  makes = λ o c told fit. lists_still s s.started o (λ how. remade s o how c) h;
}

-- a subsystem of the name isn't gone, where none of the name is
not_gone : (jobs : List Job) (bs : List Sbs) (b : Sbs) (q : QName) → list_any (λ (x : Sbs). is_gone jobs x && same_qname x.sbsd q) bs ≡ false → IsIn b bs → b.sbsd ≡ q → is_gone jobs b ≡ false
not_gone jobs [] b q none i e = absurd i
not_gone jobs (x ∷ bs) b q none (inl same) e =
    let first = (or_parts (is_gone jobs x && same_qname x.sbsd q) (list_any (λ (y : Sbs). is_gone jobs y && same_qname y.sbsd q) bs) none).0 in
    by_name (is_gone jobs b) (same_qname b.sbsd q) (ap (same_qname b.sbsd) (sym e) ∙ own_name b.sbsd) (ap (λ (y : Sbs). is_gone jobs y && same_qname y.sbsd q) same ∙ first)
  where
    by_name : (g t : Bool) → t ≡ true → (g && t) ≡ false → g ≡ false
    by_name true true e none = none
    by_name true false e none = absurd (cc)
    by_name false t e none = refl
not_gone jobs (x ∷ bs) b q none (inr i) e = not_gone jobs bs b q (or_parts (is_gone jobs x && same_qname x.sbsd q) (list_any (λ (y : Sbs). is_gone jobs y && same_qname y.sbsd q) bs) none).1 i e

-- so the entries of a name stay where no subsystem of the name leaves
left_entry : (s : State) (sbs pgm : QName) → is_gone_by_name s sbs ≡ false → CameByEntry s.started s.objects (Pre sbs pgm) → CameByEntry (leave s).started s.objects (Pre sbs pgm)
left_entry s sbs pgm none h =
    let its : h.sbs.sbsd ≡ sbs = let e = h.is_how in cc in
    record {
      sbs = h.sbs;
      sbsd = h.sbsd;
      entry = h.entry;
      started = in_left (λ (x : Sbs). not (is_gone s.jobs x)) s.started h.sbs (ap not (not_gone s.jobs s.started h.sbs sbs none h.started its)) h.started;
      described = h.described;
      entered = h.entered;
      is_how = h.is_how;
    }

left_lists : (s : State) → HasLists s → HasLists (leave s)
left_lists s h = record {
  stops = λ e i. left_entry s e.sbs e.pgm (not-true (is_gone_by_name s e.sbs) (left_passes (λ (x : Stop). not (is_gone_by_name s x.sbs)) s.stopped e i)) (h.stops e (left_in (λ (x : Stop). not (is_gone_by_name s x.sbs)) s.stopped e i));
  requests = λ e i. left_entry s e.sbs e.pgm (not-true (is_gone_by_name s e.sbs) (left_passes (λ (x : Evoke). not (is_gone_by_name s x.sbs)) s.evokes e i)) (h.requests e (left_in (λ (x : Evoke). not (is_gone_by_name s x.sbs)) s.evokes e i));
  few = (part_listed s.started s.objects s.stopped s.evokes _ (part_filtered (λ (x : Evoke). not (is_gone_by_name s x.sbs)) s.evokes) h).few;
}

launched_lists : (s : State) (c : Candidate) (o : Option Job) → HasLists s → HasLists (with_routed s c o)
launched_lists s c None h = h
launched_lists s c (Some j) h = h

step_keeps_listed : (s : State) (caller : ℕ) (call : Call) (moment : ℕ) → ActiveHaveCome s → HasLists s → HasLists (step s caller call moment).state
unfolding step
step_keeps_listed s caller call moment places h =
    let c = with_clock s moment in
    let t = (apply c caller call).state in
    let called : HasLists t = call_comes (λ x. HasLists x.state) c caller call (lists_called c call places h) in
    let due : HasLists (come_due t) = lists_still t (sbss_at t) t.objects (λ how. ending t (sbss_at t) how (ended_at t)) called in
    let supplied : HasLists (ready t) = supplied_keeps HasLists supplies_lists (leave (come_due t)) (left_lists (come_due t) due) in
    iterate-keeps HasLists (record { by_step = λ x c e k. launched_lists x c (find (λ (j : Job). j.serial == c.serial) x.jobs) k }) (waiting (ready t)) (ready t) supplied

-- every step keeps the lists
pub step_keeps_lists : (s : State) (caller : ℕ) (call : Call) (moment : ℕ) → ActiveHaveCome s → HasNamedStops s → HasNamedRequests s → HasFewRequests s → HasNamedStops (step s caller call moment).state × HasNamedRequests (step s caller call moment).state × HasFewRequests (step s caller call moment).state
step_keeps_lists s caller call moment places stops requests few =
    let after = step_keeps_listed s caller call moment places (record { stops = stops; requests = requests; few = few }) in
    (after.stops, after.requests, after.few)

opened_lists : (offset : ℤ) → HasNamedStops (opened offset) × HasNamedRequests (opened offset) × HasFewRequests (opened offset)
opened_lists offset = (λ e i. absurd i, λ e i. absurd i, λ sbs pgm. omega arith)

pub opening_lists : (offset : ℤ) → HasNamedStops (opening offset) × HasNamedRequests (opening offset) × HasFewRequests (opening offset)
opening_lists offset = subst (λ (s : State). HasNamedStops s × HasNamedRequests s × HasFewRequests s) (sym (opening_is offset)) (opened_lists offset)
