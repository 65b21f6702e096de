-- What calls do to the requests that wait: they stay, one comes by EVOKE, or those of an entry, of a subsystem or all go.
use Rattle.std.proofs.Common.{◌≡◌, ◌⊎◌, ℕ, zero, suc, ◌-◌, ◌++◌, ◌&&◌, ◌||◌, ◌==◌, not, nat_le, Bool, true, false, true≢false, cond, List, [], ◌∷◌, fold, Option, Some, None, refl, sym, ap, subst, ◌∙◌, inl, inr, ◌+◌}
use Rattle.std.specs.Prelude.{Result, Ok, Err}
use Rattle.std.specs.Cmp.Lexicographic.{pointwise}
use Rattle.std.proofs.Common.{nat_eq}
use Rattle.std.proofs.lemmas.Bool.{and_parts}
use Rattle.std.proofs.lemmas.List.Elements.{filter-append}
use Rattle.std.proofs.lemmas.Slice.Eq.{bytes_eq-Decides}
use Rattle.wm_base.specs.declared.qname.QName.{QName}
use Rattle.wm_base.specs.declared.refusal.Refusal.{Refusal}
use Rattle.wm_desc.proofs.Tables.{one_name}
use Rattle.wm_desc.specs.declared.description.Sbsd.{Sbsd}
use Rattle.wm_desc.specs.declared.entry.PreEntry.{PreEntry}
use Rattle.wm_desc.specs.Table.{object_named, same_qname}
use Rattle.wm_law.specs.declared.call.Call.{Call}
use Rattle.wm_law.specs.declared.call.Call.TheVariants.{Change}
use Rattle.wm_law.specs.declared.command.Command.{Command}
use Rattle.wm_law.specs.declared.command.Command.TheVariants as command
use Rattle.wm_law.specs.declared.command.EndOption.{EndOption}
use Rattle.wm_law.specs.declared.command.Endjob.{Endjob}
use Rattle.wm_law.specs.declared.command.Endpj.{Endpj}
use Rattle.wm_law.specs.declared.command.Endsbs.{Endsbs}
use Rattle.wm_law.specs.declared.command.EvokeCommand.{EvokeCommand}
use Rattle.wm_law.specs.declared.command.Pwrdwnsys.{Pwrdwnsys}
use Rattle.wm_law.specs.declared.job.Job.{Job}
use Rattle.wm_law.specs.declared.job.Phase.{Phase}
use Rattle.wm_law.specs.declared.job.Phase.TheVariants.{Waiting, Starting, Handed, Running, Ended}
use Rattle.wm_law.specs.declared.state.Evoke.{Evoke}
use Rattle.wm_law.specs.declared.state.Sbs.{Sbs}
use Rattle.wm_law.specs.declared.state.State.{State}
use Rattle.wm_law.specs.CallKinds.{is_ending_call}
use Rattle.wm_law.specs.Counts.{count_from_pre}
use Rattle.wm_law.specs.Endings.{end_active, end_found, end_in_phase, end_phase, end_started, end_those, is_down, is_ending_by, is_of_those, is_wished, phased, started_named}
use Rattle.wm_law.specs.Kept.{HasDistinctNames}
use Rattle.wm_law.specs.Launch.{pre_entry_for}
use Rattle.wm_law.specs.Laws.{IsIn}
use Rattle.wm_law.specs.Machine.{apply, change}
use Rattle.wm_law.specs.Named.{job_named}
use Rattle.wm_law.specs.Power.{is_on}
use Rattle.wm_law.specs.Prestart.{count_available, count_evokes, evokes_of, first_idle, is_evoke_of, is_stopped, make_pre, make_pres, room}
use Rattle.wm_law.specs.Prestarting.{end_entry, end_entry_in, end_entry_with, entry_ended, restarted}
use Rattle.wm_law.specs.Requests.{IsAfterCall, arrives, dropped, ends_entry, ends_subsystem, powers_down, stay, CallsKeepRequests, NoneWaitsAtEnd, IsLast, AnsweredRequestsWait}
use Rattle.wm_law.specs.Settling.{is_ending}
use Rattle.wm_law.specs.Stepped.{Stepped, refused}
use Rattle.wm_law.specs.Subsystems.{with_autos}
use Rattle.wm_law.specs.Supply.{make_first, make_firsts_with}
use Rattle.wm_law.specs.Uses.{evoke_entry, evoke_in, evoke_on, evoke_with, max_evokes, with_request}
use Rattle.wm_law.proofs.Distinct.{one_by_key}
use Rattle.wm_law.proofs.Filters.{all_go, all_stay}
use Rattle.wm_law.proofs.Members.{found_among, left_in, left_passes, of_last, of_mapped}
use Rattle.wm_law.proofs.Named.{own_name}
use Rattle.wm_law.proofs.Moves.{HoldsAfterCalls, IsEvokeCall, IsStartable, autos_made, call_comes}
use Rattle.wm_law.specs.declared.call.Reply.{Reply}
use Rattle.wm_law.specs.declared.call.Reply.TheVariants.{EvokeWaits, PreEnding}
use Rattle.std.proofs.lemmas.List.Sums.{length-filter}

-- the requests are as they were, and a subsystem more is Active
record IsCalm (s t : State) : Type 0 where
  evokes : t.evokes ≡ s.evokes
  started : (b : Sbs) → IsIn b t.started → IsIn b s.started ⊎ (is_ending b.phase ≡ false)

calm : (s : State) → IsCalm s s
calm s = record { evokes = refl; started = λ b i. inl i }

-- jobs that are made for entries leave both
module _ (s : State) where
  calm_made : (q pgm : QName) (n : ℕ) (t : State) → IsCalm s t → IsCalm s (make_pres q pgm n t)
  calm_made q pgm zero t h = h
  calm_made q pgm (suc n) t h = calm_made q pgm n (make_pre q pgm t) (record { evokes = h.evokes; started = h.started })

  first_by : (q : QName) (d : Sbsd) (e : PreEntry) (t : State) (b : Bool) → IsCalm s t → IsCalm s (cond b (make_pres q e.pgm (room t q d e e.inljobs) t) t)
  first_by q d e t true h = calm_made q e.pgm (room t q d e e.inljobs) t h
  first_by q d e t false h = h

  calm_firsts : (q : QName) (d : Sbsd) (es : List PreEntry) (t : State) → IsCalm s t → IsCalm s (fold (make_first q d) t es)
  calm_firsts q d [] t h = h
  calm_firsts q d (e ∷ es) t h = calm_firsts q d es (make_first q d t e) (first_by q d e t e.strjobs h)

  calm_with : (q : QName) (t : State) (d : Option Sbsd) → IsCalm s t → IsCalm s (make_firsts_with q t d)
  calm_with q t None h = h
  calm_with q t (Some d) h = calm_firsts q d d.pres t h

calm_begun : (s : State) (q : QName) → IsStartable s q → IsCalm s (with_autos s q)
calm_begun s q can =
    autos_made (IsCalm s) s q can (λ t e d m h. record { evokes = h.evokes; started = h.started })
    (record { evokes = refl; started = λ b i. (elim (of_last s.started _ b i) as (λ _. IsIn b s.started ⊎ (is_ending b.phase ≡ false)) [ inl m ↦ inl m | inr same ↦ inr (ap (λ (x : Sbs). is_ending x.phase) same) ]) })

calm_calls : (s : State) (call : Call) → is_ending_call call ≡ false → (IsEvokeCall call → ⊥) → HoldsAfterCalls (λ t. IsCalm s t.state) s call
calm_calls s call none other = record {
  refuses = λ x. calm s;
  nothing = λ n. calm s;
  notes = calm s;
  hands = λ m j o i k f. record { evokes = refl; started = λ b i. inl i };
  reports = λ serial j phase stopped i k r n fit. record { evokes = refl; started = λ b i. inl i };
  starts = λ q can. calm_with s q (with_autos s q) (object_named q (with_autos s q).objects.sbsds) (calm_begun s q can);
  enters = λ user c d due has fit. record { evokes = refl; started = λ b i. inl i };
  alters = λ reply change place p a fit. record { evokes = refl; started = λ b i. inl i };
  holds = λ reply held p a told fit. record { evokes = refl; started = λ b i. inl i };
  ends = λ reply change started stopped evokes power p e told kept. absurd (true≢false (sym told ∙ none));
  uses = λ reply change p u. record { evokes = refl; started = λ b i. inl i };
  waits = λ place evokes is. absurd (other is);
  prestarts = λ q d e can. calm_made s q e.pgm (room (restarted s q e.pgm) q d e (e.inljobs - count_available q e.pgm s.jobs)) (restarted s q e.pgm) (record { evokes = refl; started = λ b i. inl i });
  kills = λ m j i k. record { evokes = refl; started = λ b i. inl i };
  makes = λ o c told fit. record { evokes = refl; started = λ b i. inl i };
}

-- what a call does to the requests of each entry, and that none comes to wait at an ending subsystem
pub record IsCalled (s : State) (call : Call) (r : Stepped) : Type 0 where
  pub requests : (sbs pgm : QName) → IsAfterCall sbs pgm call r.reply (evokes_of sbs pgm s.evokes) (evokes_of sbs pgm r.state.evokes)
  pub none : HasDistinctNames s → NoneWaitsAtEnd s → NoneWaitsAtEnd r.state

none_after : (s : State) (e : Evoke) (b : Sbs) → NoneWaitsAtEnd s → IsIn e s.evokes → b.sbsd ≡ e.sbs → IsIn b s.started ⊎ (is_ending b.phase ≡ false) → is_ending b.phase ≡ false
none_after s e b h i same (inl m) = h e b i m same
none_after s e b h i same (inr active) = active

by_calm : (s : State) (call : Call) (r : Stepped) → IsCalm s r.state → IsCalled s call r
by_calm s call r h = record {
  requests = λ sbs pgm. stay (ap (λ (l : List Evoke). evokes_of sbs pgm l) h.evokes);
  none = λ d n e b i m same. none_after s e b n (subst (λ (l : List Evoke). IsIn e l) h.evokes i) same (h.started b m);
}

others : (s : State) (caller : ℕ) (call : Call) → is_ending_call call ≡ false → (IsEvokeCall call → ⊥) → IsCalled s call (apply s caller call)
others s caller call none other = by_calm s call (apply s caller call) (call_comes (λ t. IsCalm s t.state) s caller call (calm_calls s call none other))

either : (P : Stepped → Type 0) (b : Bool) (t u : Stepped) → (b ≡ true → P t) → (b ≡ false → P u) → P (cond b t u)
either P true t u k l = k refl
either P false t u k l = l refl

-- of an entry, by its subsystem and its program
pub of_entry : (sbs pgm : QName) (e : Evoke) → is_evoke_of sbs pgm e ≡ true → (e.sbs ≡ sbs) × (e.pgm ≡ pgm)
of_entry sbs pgm e h = let both = and_parts (same_qname e.sbs sbs) (same_qname e.pgm pgm) h in (one_name e.sbs sbs both.0, one_name e.pgm pgm both.1)

append_none : (xs : List Evoke) → xs ++ [] ≡ xs
append_none [] = refl
append_none (x ∷ xs) = ap (λ (l : List Evoke). x ∷ l) (append_none xs)

named_so : (s : State) (name : List ℕ) (b : Sbs) → started_named s name ≡ Some b → IsIn b s.started × (name ≡ b.sbsd.name)
named_so s name b e =
    let f = found_among (λ (x : Sbs). pointwise nat_eq x.sbsd.name name) s.started b e in
    (f.0, sym ((bytes_eq-Decides b.sbsd.name name).0 f.1))

entry_so : (pgm : QName) (d : Sbsd) (e : PreEntry) → pre_entry_for pgm d ≡ Some e → pgm ≡ e.pgm
entry_so pgm d e is = let f = found_among (λ (x : PreEntry). same_qname x.pgm pgm) d.pres e is in sym (one_name e.pgm pgm f.1)

-- EVOKE
module _ (s : State) (user : List ℕ) (c : EvokeCommand) where
  -- what the call does, and where a request waits that is answered so
  abbrev Evoked : Stepped → Type 0
  Evoked r = IsCalled s (Change user (command.Evoke c)) r × ((place : ℕ) → r.reply ≡ EvokeWaits place → IsLast s r.state (Change user (command.Evoke c)) place)

  refuses : {x : Refusal} → Evoked (refused s x)
  refuses = (by_calm s (Change user (command.Evoke c)) _ (calm s), λ place e. absurd (cc))

  module _ (b : Sbs) (e : PreEntry) (there : IsIn b s.started) (active : is_ending b.phase ≡ false) (sbs_is : c.sbs ≡ b.sbsd.name) (pgm_is : c.pgm ≡ e.pgm) where
    abbrev answer : Reply
    answer = EvokeWaits (count_evokes b.sbsd e.pgm s.evokes + 1)

    abbrev new : Evoke
    new = record { user = user; sbs = b.sbsd; pgm = e.pgm }

    added_by : (sbs pgm : QName) (t : Bool) → is_evoke_of sbs pgm new ≡ t → IsAfterCall sbs pgm (Change user (command.Evoke c)) answer (evokes_of sbs pgm s.evokes) (evokes_of sbs pgm s.evokes ++ cond t (new ∷ []) [])
    added_by sbs pgm true is =
        let names = of_entry sbs pgm new is in
        let same : new ≡ record { user = user; sbs = sbs; pgm = pgm } = ap (λ (x : QName). record { user = user; sbs = x; pgm = e.pgm }) names.0 ∙ ap (λ (x : QName). record { user = user; sbs = sbs; pgm = x }) names.1 in
        arrives (count_evokes b.sbsd e.pgm s.evokes + 1) new refl (record { user = user; evoke = c; is_call = refl; names_subsystem = sbs_is ∙ ap (λ (x : QName). x.name) names.0; names_program = pgm_is ∙ names.1; is_request = same }) refl
    added_by sbs pgm false is = stay (append_none (evokes_of sbs pgm s.evokes))

    added : (sbs pgm : QName) → IsAfterCall sbs pgm (Change user (command.Evoke c)) answer (evokes_of sbs pgm s.evokes) (evokes_of sbs pgm (s.evokes ++ new ∷ []))
    added sbs pgm =
        subst (λ (l : List Evoke). IsAfterCall sbs pgm (Change user (command.Evoke c)) answer (evokes_of sbs pgm s.evokes) l) (sym (filter-append (is_evoke_of sbs pgm) s.evokes (new ∷ [])))
        (added_by sbs pgm (is_evoke_of sbs pgm new) refl)

    none_added : HasDistinctNames s → NoneWaitsAtEnd s → (x : Evoke) (o : Sbs) → IsIn x s.evokes ⊎ (x ≡ new) → IsIn o s.started → o.sbsd ≡ x.sbs → is_ending o.phase ≡ false
    none_added d n x o (inl i) m same = n x o i m same
    none_added d n x o (inr is) m same =
        let named : o.sbsd ≡ b.sbsd = same ∙ ap (λ (y : Evoke). y.sbs) is in
        let one : o ≡ b = one_by_key (λ (y : Sbs). y.sbsd.name) s.started d o b m there (ap (λ (y : QName). y.name) named) in
        ap (λ (y : Sbs). is_ending y.phase) one ∙ active

    requested : IsCalled s (Change user (command.Evoke c)) (record { reply = answer; state = with_request s user b.sbsd e.pgm })
    requested = record { requests = added; none = λ d n x o i m same. none_added d n x o (of_last s.evokes new x i) m same }

    its_own : is_evoke_of b.sbsd e.pgm new ≡ true
    its_own = rw (own_name b.sbsd, own_name e.pgm) refl

    is_last : (place : ℕ) → ◌≡◌ {A = Reply} (EvokeWaits (count_evokes b.sbsd e.pgm s.evokes + 1)) (EvokeWaits place) → IsLast s (with_request s user b.sbsd e.pgm) (Change user (command.Evoke c)) place
    is_last place is =
        let so : place ≡ count_evokes b.sbsd e.pgm s.evokes + 1 = cc in
        record {
          sbs = b.sbsd;
          pgm = e.pgm;
          request = new;
          own = record { user = user; evoke = c; is_call = refl; names_subsystem = sbs_is; names_program = pgm_is; is_request = refl };
          last = filter-append (is_evoke_of b.sbsd e.pgm) s.evokes (new ∷ []) ∙ ap (λ (t : Bool). evokes_of b.sbsd e.pgm s.evokes ++ cond t (new ∷ []) []) its_own;
          told = so ∙ ap (λ (n : ℕ). n + 1) (sym (length-filter (is_evoke_of b.sbsd e.pgm) s.evokes));
        }

    evoked : (o : Option Job) → Evoked (evoke_on s user b.sbsd e o)
    evoked None =
        either Evoked e.wait _ _
        (λ t. either Evoked (nat_le max_evokes (count_evokes b.sbsd e.pgm s.evokes)) _ _ (λ u. refuses) (λ u. (requested, λ place is. is_last place is)))
        (λ t. refuses)
    evoked (Some j) = (by_calm s (Change user (command.Evoke c)) _ (record { evokes = refl; started = λ b i. inl i }), λ place e. absurd (cc))

  evoked_entry : (b : Sbs) (o : Option PreEntry) → IsIn b s.started → is_ending b.phase ≡ false → c.sbs ≡ b.sbsd.name → ((e : PreEntry) → o ≡ Some e → c.pgm ≡ e.pgm) → Evoked (evoke_entry s user b.sbsd o)
  evoked_entry b None there active name pgm = refuses
  evoked_entry b (Some e) there active name pgm = either Evoked (is_stopped s b.sbsd e.pgm) _ _ (λ t. refuses) (λ t. evoked b e there active name (pgm e refl) (first_idle b.sbsd e.pgm s.jobs))

  evoked_with : (b : Sbs) (o : Option Sbsd) → IsIn b s.started → is_ending b.phase ≡ false → c.sbs ≡ b.sbsd.name → Evoked (evoke_with s user b.sbsd c.pgm o)
  evoked_with b None there active name = refuses
  evoked_with b (Some d) there active name = evoked_entry b (pre_entry_for c.pgm d) there active name (λ e is. entry_so c.pgm d e is)

  evoked_in : (o : Option Sbs) → started_named s c.sbs ≡ o → Evoked (evoke_in s user c.pgm o)
  evoked_in None is = refuses
  evoked_in (Some b) is =
      let f = named_so s c.sbs b is in
      either Evoked (is_ending b.phase) _ _ (λ t. refuses) (λ t. evoked_with b (object_named b.sbsd s.objects.sbsds) f.0 t f.1)

  evoke_called : Evoked (change s user (command.Evoke c))
  evoke_called = either Evoked (is_on s.power) _ _ (λ t. evoked_in (started_named s c.sbs) refl) (λ t. refuses)

-- ENDJOB
module _ (s : State) (user : List ℕ) (c : Endjob) where
  abbrev IsLeft : Stepped → Type 0
  IsLeft r = IsCalm s r.state

  active_ended : (j : Job) → IsLeft (end_active s c j)
  active_ended j = either IsLeft (is_wished c.option j.wish) _ _ (λ t. calm s) (λ t. record { evokes = refl; started = λ b i. inl i })

  ended_in : (j : Job) (p : Phase) → IsLeft (end_in_phase s c j p)
  ended_in j Waiting = record { evokes = refl; started = λ b i. inl i }
  ended_in j Starting = active_ended j
  ended_in j (Handed m) = active_ended j
  ended_in j (Running m) = active_ended j
  ended_in j (Ended end) = calm s

  ended_found : (r : Result Job Refusal) → IsLeft (end_found s c r)
  ended_found (Err x) = calm s
  ended_found (Ok j) = ended_in j j.phase

  job_called : IsCalled s (Change user (command.Endjob c)) (change s user (command.Endjob c))
  job_called = by_calm s (Change user (command.Endjob c)) (change s user (command.Endjob c)) (ended_found (job_named s c.job))

-- where subsystems that pass a test end, the requests that wait there go
module _ (s : State) (option : EndOption) (delay : Option ℕ) (test : Sbs → Bool) where
  abbrev goes : QName → Bool
  goes q = is_of_those test s.started q

  goes_for : (sbs pgm : QName) (e : Evoke) → is_evoke_of sbs pgm e ≡ true → goes e.sbs ≡ goes sbs
  goes_for sbs pgm e h = ap goes (of_entry sbs pgm e h).0

  those_go : (sbs pgm : QName) → goes sbs ≡ true → evokes_of sbs pgm (end_those s option delay test).evokes ≡ []
  those_go sbs pgm all = all_go (is_evoke_of sbs pgm) (λ e. not (goes e.sbs)) s.evokes (λ e h. ap not (goes_for sbs pgm e h ∙ all))

  others_stay : (sbs pgm : QName) → goes sbs ≡ false → evokes_of sbs pgm (end_those s option delay test).evokes ≡ evokes_of sbs pgm s.evokes
  others_stay sbs pgm none = all_stay (is_evoke_of sbs pgm) (λ e. not (goes e.sbs)) s.evokes (λ e h. ap not (goes_for sbs pgm e h ∙ none))

  not_so : (b : Bool) → not b ≡ true → b ≡ true → ⊥
  not_so true h k = absurd (cc)
  not_so false h k = absurd (cc)

  any_so : (q : QName) (bs : List Sbs) (b : Sbs) → IsIn b bs → test b ≡ true → b.sbsd ≡ q → is_of_those test bs q ≡ true
  any_so q [] b i t same = absurd i
  any_so q (x ∷ bs) b (inl e) t same = ap (λ (y : Bool). y || is_of_those test bs q) (subst (λ (y : Sbs). (test y && same_qname y.sbsd q) ≡ true) e (rw t (subst (λ (y : QName). same_qname b.sbsd y ≡ true) same (own_name b.sbsd))))
  any_so q (x ∷ bs) b (inr i) t same = or_rest (test x && same_qname x.sbsd q) (is_of_those test bs q) (any_so q bs b i t same)
    where
      or_rest : (a b : Bool) → b ≡ true → (a || b) ≡ true
      or_rest true b h = refl
      or_rest false b h = h

  phased_by : (t : Bool) (b : Sbs) (e : Evoke) → test b ≡ t → IsIn b s.started → b.sbsd ≡ e.sbs → not (goes e.sbs) ≡ true → is_ending b.phase ≡ false → is_ending (cond t (record b { phase = end_phase s.clock option delay }) b).phase ≡ false
  phased_by true b e is i same stays active = absurd (not_so (goes e.sbs) stays (any_so e.sbs s.started b i is same))
  phased_by false b e is i same stays active = active

  phased_name : (t : Bool) (b : Sbs) → (cond t (record b { phase = end_phase s.clock option delay }) b).sbsd ≡ b.sbsd
  phased_name true b = refl
  phased_name false b = refl

  none_ends : NoneWaitsAtEnd s → NoneWaitsAtEnd (end_those s option delay test)
  none_ends n e b i m same =
      let was = of_mapped (phased test (end_phase s.clock option delay)) s.started b m in
      let there = left_in (λ (x : Evoke). not (goes x.sbs)) s.evokes e i in
      let stays = left_passes (λ (x : Evoke). not (goes x.sbs)) s.evokes e i in
      let name : was.0.sbsd ≡ e.sbs = sym (phased_name (test was.0) was.0) ∙ (sym (ap (λ (x : Sbs). x.sbsd) was.2) ∙ same) in
      ap (λ (x : Sbs). is_ending x.phase) was.2 ∙ phased_by (test was.0) was.0 e refl was.1 name stays (n e was.0 there was.1 name)

-- a subsystem of the name is among those that end, and has the name of the one that was found
one_of_those : (q : QName) (bs : List Sbs) (b : Sbs) → is_of_those (λ x. same_qname x.sbsd b.sbsd) bs q ≡ true → q ≡ b.sbsd
one_of_those q [] b h = absurd (cc)
one_of_those q (x ∷ bs) b h = by_first (same_qname x.sbsd b.sbsd && same_qname x.sbsd q) (λ t. (let both = and_parts (same_qname x.sbsd b.sbsd) (same_qname x.sbsd q) t in sym (one_name x.sbsd q both.1) ∙ one_name x.sbsd b.sbsd both.0)) (one_of_those q bs b) h
  where
    by_first : (a : Bool) → (a ≡ true → q ≡ b.sbsd) → (is_of_those (λ x. same_qname x.sbsd b.sbsd) bs q ≡ true → q ≡ b.sbsd) → (a || is_of_those (λ x. same_qname x.sbsd b.sbsd) bs q) ≡ true → q ≡ b.sbsd
    by_first true k l h = k refl
    by_first false k l h = l h

-- ENDSBS
module _ (s : State) (user : List ℕ) (c : Endsbs) where
  abbrev SbsCalled : Stepped → Type 0
  SbsCalled r = IsCalled s (Change user (command.Endsbs c)) r

  sbs_by : (reply : Reply) (b : Sbs) (sbs pgm : QName) (t : Bool) → c.sbs ≡ b.sbsd.name → is_of_those (λ x. same_qname x.sbsd b.sbsd) s.started sbs ≡ t → IsAfterCall sbs pgm (Change user (command.Endsbs c)) reply (evokes_of sbs pgm s.evokes) (evokes_of sbs pgm (end_those s c.option c.delay (λ x. same_qname x.sbsd b.sbsd)).evokes)
  sbs_by reply b sbs pgm true name is = dropped (ends_subsystem user c refl (name ∙ ap (λ (x : QName). x.name) (sym (one_of_those sbs s.started b is)))) (those_go s c.option c.delay (λ x. same_qname x.sbsd b.sbsd) sbs pgm is)
  sbs_by reply b sbs pgm false name is = stay (others_stay s c.option c.delay (λ x. same_qname x.sbsd b.sbsd) sbs pgm is)

  sbs_found : (o : Option Sbs) → started_named s c.sbs ≡ o → SbsCalled (end_started s c o)
  sbs_found None is = by_calm s _ _ (calm s)
  sbs_found (Some b) is =
      either SbsCalled (is_ending_by c.option b.phase) _ _ (λ t. by_calm s _ _ (calm s))
      (λ t. record {
        requests = λ sbs pgm. sbs_by _ b sbs pgm _ (named_so s c.sbs b is).1 refl;
        none = λ d n. none_ends s c.option c.delay (λ x. same_qname x.sbsd b.sbsd) n;
      })

-- PWRDWNSYS
module _ (s : State) (user : List ℕ) (c : Pwrdwnsys) where
  abbrev DownCalled : Stepped → Type 0
  DownCalled r = IsCalled s (Change user (command.Pwrdwnsys c)) r

  abbrev unless_ending : Sbs → Bool
  unless_ending b = not (is_ending_by c.option b.phase)

  down_by_name : (reply : Reply) (sbs pgm : QName) (t : Bool) → is_of_those unless_ending s.started sbs ≡ t → IsAfterCall sbs pgm (Change user (command.Pwrdwnsys c)) reply (evokes_of sbs pgm s.evokes) (evokes_of sbs pgm (end_those s c.option c.delay unless_ending).evokes)
  down_by_name reply sbs pgm true is = dropped (powers_down user c refl) (those_go s c.option c.delay unless_ending sbs pgm is)
  down_by_name reply sbs pgm false is = stay (others_stay s c.option c.delay unless_ending sbs pgm is)

  down_called : DownCalled (change s user (command.Pwrdwnsys c))
  down_called =
      either DownCalled (is_down c.option s.power) _ _ (λ t. by_calm s _ _ (calm s))
      (λ t. record {
        requests = λ sbs pgm. down_by_name _ sbs pgm _ refl;
        none = λ d n e b i m same. none_ends s c.option c.delay unless_ending n e b i m same;
      })

-- ENDPJ
module _ (s : State) (user : List ℕ) (c : Endpj) where
  abbrev PreCalled : Stepped → Type 0
  PreCalled r = IsCalled s (Change user (command.Endpj c)) r

  left_so : {x : Refusal} → PreCalled (refused s x)
  left_so = by_calm s (Change user (command.Endpj c)) _ (calm s)

  module _ (b : Sbs) (e : PreEntry) (sbs_is : c.sbs ≡ b.sbsd.name) (pgm_is : c.pgm ≡ e.pgm) where
    -- a request of another entry isn't one of this
    other_evoke : (sbs pgm : QName) (x : Evoke) (u : Bool) → (same_qname b.sbsd sbs && same_qname e.pgm pgm) ≡ false → is_evoke_of sbs pgm x ≡ true → is_evoke_of b.sbsd e.pgm x ≡ u → not u ≡ true
    other_evoke sbs pgm x false none h k = refl
    other_evoke sbs pgm x true none h k =
        let here = of_entry sbs pgm x h in
        let there = of_entry b.sbsd e.pgm x k in
        let a : same_qname b.sbsd sbs ≡ true = subst (λ (y : QName). same_qname y sbs ≡ true) there.0 (subst (λ (y : QName). same_qname x.sbs y ≡ true) here.0 (own_name x.sbs)) in
        let d : same_qname e.pgm pgm ≡ true = subst (λ (y : QName). same_qname y pgm ≡ true) there.1 (subst (λ (y : QName). same_qname x.pgm y ≡ true) here.1 (own_name x.pgm)) in
        let both : (same_qname b.sbsd sbs && same_qname e.pgm pgm) ≡ true = rw (a, d) refl in
        absurd (true≢false (sym both ∙ none))

    entry_by : (reply : Reply) (sbs pgm : QName) (t : Bool) → (same_qname b.sbsd sbs && same_qname e.pgm pgm) ≡ t → IsAfterCall sbs pgm (Change user (command.Endpj c)) reply (evokes_of sbs pgm s.evokes) (evokes_of sbs pgm (entry_ended s c.option c.delay b.sbsd e.pgm).evokes)
    entry_by reply sbs pgm true is =
        let both = and_parts (same_qname b.sbsd sbs) (same_qname e.pgm pgm) is in
        let sbs_so = one_name b.sbsd sbs both.0 in
        let pgm_so = one_name e.pgm pgm both.1 in
        dropped (ends_entry user c refl (sbs_is ∙ ap (λ (x : QName). x.name) sbs_so) (pgm_is ∙ pgm_so))
        (all_go (is_evoke_of sbs pgm) (λ x. not (is_evoke_of b.sbsd e.pgm x)) s.evokes
        (λ x h. ap not (subst (λ (y : QName). is_evoke_of y e.pgm x ≡ true) (sym sbs_so) (subst (λ (y : QName). is_evoke_of sbs y x ≡ true) (sym pgm_so) h))))
    entry_by reply sbs pgm false is = stay (all_stay (is_evoke_of sbs pgm) (λ x. not (is_evoke_of b.sbsd e.pgm x)) s.evokes (λ x h. other_evoke sbs pgm x (is_evoke_of b.sbsd e.pgm x) is h refl))

    entry_called : IsCalled s (Change user (command.Endpj c)) (record { reply = PreEnding; state = entry_ended s c.option c.delay b.sbsd e.pgm })
    entry_called = record {
      requests = λ sbs pgm. entry_by PreEnding sbs pgm (same_qname b.sbsd sbs && same_qname e.pgm pgm) refl;
      none = λ d n x o i m same. n x o (left_in (λ (y : Evoke). not (is_evoke_of b.sbsd e.pgm y)) s.evokes x i) m same;
    }

  entry_found : (b : Sbs) (o : Option PreEntry) → c.sbs ≡ b.sbsd.name → ((e : PreEntry) → o ≡ Some e → c.pgm ≡ e.pgm) → PreCalled (end_entry s c b.sbsd o)
  entry_found b None name pgm = left_so
  entry_found b (Some e) name pgm = either PreCalled (is_stopped s b.sbsd e.pgm && count_from_pre b.sbsd e.pgm s.jobs == 0) _ _ (λ t. left_so) (λ t. entry_called b e name (pgm e refl))

  entry_with : (b : Sbs) (o : Option Sbsd) → c.sbs ≡ b.sbsd.name → PreCalled (end_entry_with s c b.sbsd o)
  entry_with b None name = left_so
  entry_with b (Some d) name = entry_found b (pre_entry_for c.pgm d) name (λ e is. entry_so c.pgm d e is)

  entry_in : (o : Option Sbs) → started_named s c.sbs ≡ o → PreCalled (end_entry_in s c o)
  entry_in None is = left_so
  entry_in (Some b) is = entry_with b (object_named b.sbsd s.objects.sbsds) (named_so s c.sbs b is).1

-- each command
commanded : (s : State) (caller : ℕ) (user : List ℕ) (c : Command) → IsCalled s (Change user c) (change s user c)
commanded s caller user (command.Endsbs c) = sbs_found s user c (started_named s c.sbs) refl
commanded s caller user (command.Endjob c) = job_called s user c
commanded s caller user (command.Endpj c) = entry_in s user c (started_named s c.sbs) refl
commanded s caller user (command.Evoke c) = (evoke_called s user c).0
commanded s caller user (command.Pwrdwnsys c) = down_called s user c
commanded s caller user c = others s caller (Change user c) refl (λ is. (let e = is.2 in absurd (cc)))

-- each call
pub calls_do : (s : State) (caller : ℕ) (call : Call) → IsCalled s call (apply s caller call)
calls_do s caller (Change user c) = commanded s caller user c
calls_do s caller call = others s caller call refl (λ is. (let e = is.2 in absurd (cc)))

pub calls_keep_requests : CallsKeepRequests
calls_keep_requests s caller call sbs pgm = (calls_do s caller call).requests sbs pgm

-- a call that is answered so is EVOKE
answered_so : (s : State) (call : Call) → HoldsAfterCalls (λ t. (place : ℕ) → t.reply ≡ EvokeWaits place → IsEvokeCall call) s call
answered_so s call = record {
  refuses = λ x place e. absurd (cc);
  nothing = λ n place e. absurd (cc);
  notes = λ place e. absurd (cc);
  hands = λ m j o i k f place e. absurd (cc);
  reports = λ serial j phase stopped i k r n fit place e. absurd (cc);
  starts = λ q can place e. absurd (cc);
  enters = λ user c d due has fit place e. absurd (cc);
  alters = λ reply change at p a fit place e. absurd (p.waits_not place e);
  holds = λ reply held p a told fit place e. absurd (p.waits_not place e);
  ends = λ reply change started stopped evokes power p a told kept place e. absurd (p.waits_not place e);
  uses = λ reply change p u place e. absurd (p.waits_not place e);
  waits = λ at evokes is place e. is;
  prestarts = λ q d e can place is. absurd (cc);
  kills = λ m j i k place e. absurd (cc);
  makes = λ o c told fit place e. absurd (cc);
}

pub answered_requests_wait : AnsweredRequestsWait
answered_requests_wait s caller call place e =
    let is = call_comes (λ t. (place : ℕ) → t.reply ≡ EvokeWaits place → IsEvokeCall call) s caller call (answered_so s call) place e in
    subst (λ (x : Call). (apply s caller x).reply ≡ EvokeWaits place → IsLast s (apply s caller x).state x place) (sym is.2) (λ k. (evoke_called s is.0 is.1).1 place k) e
