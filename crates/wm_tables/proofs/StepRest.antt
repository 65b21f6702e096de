-- A row of a held queue, a job or a counter makes the part of a state with this more.
use Rattle.std.proofs.Common.{◌≡◌, ℕ, ℤ, ◌<◌, ◌≤◌, ◌+◌, ◌++◌, ◌&&◌, ◌==◌, Bool, true, false, cond, is_some, List, [], ◌∷◌, map, filter, fold, max, refl, sym, ap, subst, ◌∙◌, inl, inr, arith}
use Rattle.std.specs.Option.{IsSome}
use Rattle.std.specs.Ordering.{is_lt}
use Rattle.std.proofs.lemmas.Bool.{and_parts, eqb-true}
use Rattle.std.proofs.lemmas.List.Sums.{fold-append}
use Rattle.wm_base.specs.declared.qname.QName.{QName}
use Rattle.wm_base.specs.declared.refusal.Kind.TheVariants as kind
use Rattle.wm_base.specs.declared.refusal.Refusal.TheVariants.{HeldAlready, NoObject}
use Rattle.wm_desc.specs.Table.{object_named, qname_cmp, same_qname}
use Rattle.wm_desc.proofs.Tables.{one_name, qname_total}
use Rattle.wm_desc.specs.declared.description.Jobq.{Jobq}
use Rattle.wm_desc.specs.declared.objects.Objects.{Objects}
use Rattle.wm_traits.specs.declared.row.Row.{Row}
use Rattle.wm_traits.specs.Rows.{is_before, place_of}
use Rattle.wm_law.specs.Choice.{is_held}
use Rattle.wm_law.specs.Counts.{is_waiting}
use Rattle.wm_law.specs.Laws.{IsIn}
use Rattle.wm_law.specs.Queues.{hold_known, hold_queue, own_name, with_held_queue}
use Rattle.wm_law.specs.Sound.{IsIncreasing, IsSound}
use Rattle.wm_law.specs.Stepped.{Stepped, refused}
use Rattle.wm_law.specs.declared.call.Reply.TheVariants.{QueueHeld}
use Rattle.wm_law.specs.declared.job.Job.{Job}
use Rattle.wm_law.specs.declared.job.JobKind.{JobKind}
use Rattle.wm_law.specs.declared.job.JobKind.TheVariants.{Bch, Asj, Pj}
use Rattle.wm_law.specs.declared.job.Phase.{Phase}
use Rattle.wm_law.specs.declared.job.Phase.TheVariants as phase
use Rattle.wm_law.specs.declared.state.State.{State}
use Rattle.wm_law.proofs.Members.{in_left, in_mapped, left_in, of_mapped}
use Rattle.wm_rows.specs.Rows.{held_row, counter_row}
use Rattle.wm_rows.specs.declared.stored.Counter.{Counter}
use Rattle.wm_rows.specs.declared.stored.Counter.TheVariants as counter
use Rattle.wm_rows.specs.JobText.{job_row}
use Rattle.wm_rows.specs.Stored.{stored_of, stored_phase}
use Rattle.wm_rows.specs.declared.stored_job.StoredJob.{StoredJob}
use Rattle.wm_rows.specs.declared.stored_job.StoredPhase.TheVariants.{Waiting}
use Rattle.wm_tables.specs.Ranges.{IsInRange}
use Rattle.wm_tables.specs.Restart.{restarted_job, restarted_phase, job_of, phase_of, is_taken, is_used, IsOfKind, Holds, Enters, Counts}
use Rattle.wm_tables.proofs.Digits.{padded_less}
use Rattle.wm_tables.proofs.Ends.{one_counter}
use Rattle.wm_tables.proofs.Keys.{one_number, one_text}
use Rattle.wm_tables.proofs.OneMore.{IsOneMore, next_added, next_new}
use Rattle.wm_tables.proofs.OwnPlaces.{same_key}
use Rattle.wm_tables.proofs.Parts.{IsStep, far, state_part, same_parts, jobs_left, jobs_part, reached, classes_same, programs_same, queues_same, jobds_same, sbsds_same, held_same, jobs_same, number_same, place_same, serial_same, not_counter, other_tab}
use Rattle.wm_tables.proofs.Passing.{left_none, left_passes, none_passes}
use Rattle.wm_tables.proofs.RowsOf.{IsRowOf, in_rows, of_held, of_job, of_number, of_place, of_serial}
use Rattle.wm_tables.proofs.Made.{tab_before}
use Rattle.wm_tables.proofs.StepEntries.{all_queues, one_distinct}
use Rattle.wm_law.proofs.Waits.{below_in}

-- the part with one job more behind it
record IsLastMore (a b : Job → Bool) (jobs : List Job) (j : Job) : Type 0 where
  before : a j ≡ false
  after : b j ≡ true
  others : (k : Job) → IsIn k jobs → (k.serial ≡ j.serial → ⊥) → b k ≡ a k
  ahead : (k : Job) → IsIn k jobs → k.serial < j.serial → a k ≡ true
  behind : (k : Job) → IsIn k jobs → j.serial < k.serial → a k ≡ false

last_more : (a b : Job → Bool) (jobs : List Job) (j : Job) → IsIncreasing (map (λ k. k.serial) jobs) → IsIn j jobs → IsLastMore a b jobs j → filter b jobs ≡ filter a jobs ++ j ∷ []
last_more a b [] j up i h = absurd i
last_more a b (k ∷ ks) j up (inl same) h =
    let no_a : a k ≡ false = ap a (sym same) ∙ h.before in
    let yes_b : b k ≡ true = ap b (sym same) ∙ h.after in
    let less : (m : Job) → IsIn m ks → j.serial < m.serial = λ m i. subst (λ (n : ℕ). n < m.serial) (ap (λ (x : Job). x.serial) (sym same)) (up.0 m.serial (in_mapped (λ (x : Job). x.serial) ks m i)) in
    let none_a : filter a ks ≡ [] = left_none a ks (λ m i. h.behind m (inr i) (less m i)) in
    let none_b : filter b ks ≡ [] = left_none b ks (λ m i. (let apart = less m i in h.others m (inr i) (λ e. absurd (omega arith)) ∙ h.behind m (inr i) (less m i))) in
    ap (λ (t : Bool). cond t (k ∷ filter b ks) (filter b ks)) yes_b
    ∙ ap (λ (l : List Job). k ∷ l) none_b
    ∙ ap (λ (m : Job). m ∷ []) (sym same)
    ∙ sym (ap (λ (l : List Job). l ++ j ∷ []) (ap (λ (t : Bool). cond t (k ∷ filter a ks) (filter a ks)) no_a ∙ none_a))
last_more a b (k ∷ ks) j up (inr i) h =
    let less : k.serial < j.serial = up.0 j.serial (in_mapped (λ (x : Job). x.serial) ks j i) in
    let yes_a : a k ≡ true = h.ahead k (inl refl) less in
    let yes_b : b k ≡ true = h.others k (inl refl) (λ e. absurd (omega arith)) ∙ yes_a in
    let rest = last_more a b ks j up.1 i (record { before = h.before; after = h.after; others = λ m x. h.others m (inr x); ahead = λ m x. h.ahead m (inr x); behind = λ m x. h.behind m (inr x) }) in
    ap (λ (t : Bool). cond t (k ∷ filter b ks) (filter b ks)) yes_b
    ∙ ap (λ (l : List Job). k ∷ l) rest
    ∙ sym (ap (λ (l : List Job). l ++ j ∷ []) (ap (λ (t : Bool). cond t (k ∷ filter a ks) (filter a ks)) yes_a))

map_last : {X Y : Type 0} (f : X → Y) (xs : List X) (x : X) → map f (xs ++ x ∷ []) ≡ map f xs ++ f x ∷ []
map_last f [] x = refl
map_last f (y ∷ xs) x = ap (λ (ys : List _). f y ∷ ys) (map_last f xs x)

phase_again : (p : Phase) → phase_of (stored_phase p) ≡ restarted_phase p
phase_again phase.Waiting = refl
phase_again phase.Starting = refl
phase_again (phase.Handed m) = refl
phase_again (phase.Running m) = refl
phase_again (phase.Ended c) = refl

-- what is stored of a job makes the job as a new run knows it
job_again : (j : Job) → job_of (stored_of j) ≡ restarted_job j
job_again j = ap (λ (p : Phase). record (restarted_job j) { phase = p }) (phase_again j.phase)

stored_waits : (p : Phase) → stored_phase p ≡ Waiting → is_waiting p ≡ true
stored_waits phase.Waiting e = refl
stored_waits phase.Starting e = absurd (cc)
stored_waits (phase.Handed m) e = absurd (cc)
stored_waits (phase.Running m) e = absurd (cc)
stored_waits (phase.Ended c) e = absurd (cc)

waits_again : (p : Phase) → is_waiting (restarted_phase p) ≡ true → is_waiting p ≡ true
waits_again phase.Waiting e = refl
waits_again phase.Starting e = absurd (cc)
waits_again (phase.Handed m) e = absurd (cc)
waits_again (phase.Running m) e = absurd (cc)
waits_again (phase.Ended c) e = absurd (cc)

reached_last : (key : Job → ℕ) (jobs : List Job) (j : Job) → reached key (jobs ++ j ∷ []) ≡ max (reached key jobs) (key j + 1)
reached_last key jobs j = fold-append (λ n k. max n (key k + 1)) 1 jobs (j ∷ [])

-- what jobs have reached isn't above what is above each of them
reached_most : (key : Job → ℕ) (top start : ℕ) (jobs : List Job) → start ≤ top → ((j : Job) → IsIn j jobs → key j < top) → fold (λ n k. max n (key k + 1)) start jobs ≤ top
reached_most key top start [] le h = le
reached_most key top start (j ∷ jobs) le h =
    let less = h j (inl refl) in
    reached_most key top (max start (key j + 1)) jobs (omega arith) (λ k i. h k (inr i))

kind_still : (a b : Objects) (k : JobKind) (j : StoredJob) → a.jobqs ≡ b.jobqs → IsOfKind a k j → IsOfKind b k j
kind_still a b Bch j e h = (h.0, h.1, subst (λ (l : List (QName × Jobq)). IsSome (object_named h.0 l)) e h.2)
kind_still a b Asj j e h = h
kind_still a b Pj j e h = h

held_if : (s : State) (q : QName) → is_some (object_named q s.objects.jobqs) ≡ true → is_held s q ≡ false → hold_queue s q ≡ record { reply = QueueHeld; state = with_held_queue s q }
held_if s q known new =
    ap (λ (t : Bool). cond t (hold_known s q) (refused s (NoObject kind.Jobq))) known
    ∙ ap (λ (t : Bool). cond t (refused s HeldAlready) (record { reply = QueueHeld; state = with_held_queue s q })) new

module _ (offset : ℤ) (s : State) (sound : IsSound s) (range : IsInRange s) (row : Row) (p q : Row → Bool) (h : IsStep s row p q) where
  held_more : (x : QName) → IsIn x s.held → held_row x ≡ row → IsOneMore own_name qname_cmp qname_total (λ y. p (held_row y)) (λ y. q (held_row y)) s.held x
  held_more x i e = record {
    before = ap p e ∙ h.before;
    after = ap q e ∙ h.after;
    others = λ y j n. h.others (held_row y) (in_rows s (held_row y) (of_held y j refl)) (λ f. n (one_text y x (range.held y j) (range.held x i) (same_key (held_row y) (held_row x) (f ∙ ap place_of (sym e)))));
  }

  pub queue_holds : (x : QName) → IsIn x s.held → held_row x ≡ row → Holds (state_part p offset s) row (state_part q offset s)
  queue_holds x i e =
      let tab : 10 ≡ row.tab = ap (λ (r : Row). r.tab) e in
      let u = state_part p offset s in
      let known : is_some (object_named x u.objects.jobqs) ≡ true = ap (λ (l : List (QName × Jobq)). is_some (object_named x l)) (all_queues offset s sound range row p q h (omega arith)) ∙ sound.held.are_objects x i in
      let new : is_held u x ≡ false = next_new own_name qname_cmp qname_total same_qname one_name (λ y. p (held_row y)) s.held x sound.held.sorted i (ap p e ∙ h.before) in
      let result = held_if u x known new in
      record {
        queue = x;
        fit = range.held x i;
        is_row = e;
        accepted = ap (λ (t : Stepped). t.reply) result;
        makes =
            same_parts offset
            (classes_same s row p q h (far 1 tab refl))
            (programs_same s row p q h (far 2 tab refl))
            (queues_same s row p q h (far 3 tab refl))
            (jobds_same s row p q h (far 4 tab refl))
            (sbsds_same s row p q h (far 5 tab refl) (far 6 tab refl) (far 7 tab refl) (far 8 tab refl) (far 9 tab refl))
            (sym (next_added own_name qname_cmp qname_total (λ y. p (held_row y)) (λ y. q (held_row y)) s.held x sound.held.sorted i (held_more x i e)))
            (jobs_same s row p q h (far 11 tab refl))
            (number_same s row p q h (far 11 tab refl) (not_counter s row p q h counter.Number s.next_number (far 12 tab refl)))
            (place_same s row p q h (far 11 tab refl) (not_counter s row p q h counter.Place s.next_place (far 12 tab refl)))
            (serial_same s row p q h (far 11 tab refl) (not_counter s row p q h counter.Serial s.next_serial (far 12 tab refl)))
            ∙ sym (ap (λ (t : Stepped). t.state) result);
      }

  one_job : (j k : Job) → IsIn j s.jobs → IsIn k s.jobs → place_of (job_row (stored_of j)) ≡ place_of (job_row (stored_of k)) → j.serial ≡ k.serial
  one_job j k a b e =
      let f = (range.jobs j a).stored.serial in
      let g = (range.jobs k b).stored.serial in
      one_number 19 j.serial k.serial f g (omega arith) (omega arith) (same_key (job_row (stored_of j)) (job_row (stored_of k)) e)

  jobs_before : (j k : Job) → IsIn k s.jobs → j.serial < k.serial → is_before (job_row (stored_of j)) (job_row (stored_of k)) ≡ true
  jobs_before j k b less =
      let g = (range.jobs k b).stored.serial in
      ap is_lt (padded_less 19 j.serial k.serial less g (omega arith))

  job_more : (j : Job) → IsIn j s.jobs → job_row (stored_of j) ≡ row → jobs_left q s ≡ jobs_left p s ++ j ∷ []
  job_more j i e =
      last_more (λ k. p (job_row (stored_of k))) (λ k. q (job_row (stored_of k))) s.jobs j sound.jobs i
      (record {
        before = ap p e ∙ h.before;
        after = ap q e ∙ h.after;
        others = λ k m n. h.others (job_row (stored_of k)) (in_rows s (job_row (stored_of k)) (of_job k m refl)) (λ f. n (one_job k j m i (f ∙ ap place_of (sym e))));
        ahead = λ k m less. h.earlier (job_row (stored_of k)) (in_rows s (job_row (stored_of k)) (of_job k m refl)) (subst (λ (r : Row). is_before (job_row (stored_of k)) r ≡ true) e (jobs_before k j i less));
        behind = λ k m less. h.later (job_row (stored_of k)) (in_rows s (job_row (stored_of k)) (of_job k m refl)) (subst (λ (r : Row). is_before r (job_row (stored_of k)) ≡ true) e (jobs_before j k m less));
      })

  -- a counter comes later, so jobs tell what comes next
  uncounted : (c : Counter) (n : ℕ) → IsRowOf s (counter_row c n) → row.tab < 12 → (p (counter_row c n) ≡ false) × (q (counter_row c n) ≡ false)
  uncounted c n i less =
      let later : p (counter_row c n) ≡ false = h.later (counter_row c n) (in_rows s (counter_row c n) i) (tab_before row (counter_row c n) less) in
      (later, other_tab s row p q h (counter_row c n) i (λ e. absurd (omega arith)) ∙ later)

  counted : (key : Job → ℕ) (n : ℕ) (j : Job) (a b : Bool) → a ≡ false → b ≡ false → jobs_left q s ≡ jobs_left p s ++ j ∷ [] → cond b n (reached key (jobs_left q s)) ≡ max (cond a n (reached key (jobs_left p s))) (key j + 1)
  counted key n j a b f g more =
      ap (λ (t : Bool). cond t n (reached key (jobs_left q s))) g
      ∙ ap (reached key) more
      ∙ reached_last key (jobs_left p s) j
      ∙ sym (ap (λ (t : Bool). max (cond t n (reached key (jobs_left p s))) (key j + 1)) f)

  left_there : (k : Job) → IsIn k (jobs_left p s) → IsIn k s.jobs
  left_there k i = left_in (λ (x : Job). p (job_row (stored_of x))) s.jobs k i

  -- a job of the part isn't the one that comes
  left_other : (j k : Job) → job_row (stored_of j) ≡ row → IsIn k (jobs_left p s) → k ≡ j → ⊥
  left_other j k e i same =
      let passes : p (job_row (stored_of k)) ≡ true = left_passes (λ (x : Job). p (job_row (stored_of x))) s.jobs k i in
      let free : p (job_row (stored_of k)) ≡ false = ap (λ (x : Job). p (job_row (stored_of x))) same ∙ ap p e ∙ h.before in
      absurd (cc)

  unused_by : (j m k : Job) (t : Bool) → IsIn j s.jobs → job_row (stored_of j) ≡ row → IsIn k (jobs_left p s) → m ≡ restarted_job k → (m.job.number == j.job.number) ≡ t → t ≡ false
  unused_by j m k false i e l f g = refl
  unused_by j m k true i e l f g =
      let same : k.job.number ≡ j.job.number = ap (λ (x : Job). x.job.number) (sym f) ∙ eqb-true m.job.number j.job.number g in
      absurd (left_other j k e l (one_distinct (λ (x : Job). x.job.number) s.jobs k j sound.numbered.numbers.distinct (left_there k l) i same))

  unused : (j : Job) → IsIn j s.jobs → job_row (stored_of j) ≡ row → is_used j.job.number (jobs_part p s) ≡ false
  unused j i e =
      none_passes (λ (m : Job). m.job.number == j.job.number) (jobs_part p s)
      (λ m l. (let f = of_mapped restarted_job (jobs_left p s) m l in unused_by j m f.0 (m.job.number == j.job.number) i e f.1 f.2 refl))

  untaken_by : (j m k : Job) (t : Bool) → IsIn j s.jobs → job_row (stored_of j) ≡ row → is_waiting j.phase ≡ true → IsIn k (jobs_left p s) → m ≡ restarted_job k → (is_waiting m.phase && m.place == j.place) ≡ t → t ≡ false
  untaken_by j m k false i e w l f g = refl
  untaken_by j m k true i e w l f g =
      let both = and_parts (is_waiting m.phase) (m.place == j.place) g in
      let waits : is_waiting k.phase ≡ true = waits_again k.phase (ap (λ (x : Job). is_waiting x.phase) (sym f) ∙ both.0) in
      let same : k.place ≡ j.place = ap (λ (x : Job). x.place) (sym f) ∙ eqb-true m.place j.place both.1 in
      let test = λ (x : Job). is_waiting x.phase in
      absurd (left_other j k e l (one_distinct (λ (x : Job). x.place) (filter test s.jobs) k j sound.numbered.waiting (in_left test s.jobs k waits (left_there k l)) (in_left test s.jobs j w i) same))

  untaken : (j : Job) → IsIn j s.jobs → job_row (stored_of j) ≡ row → is_waiting j.phase ≡ true → is_taken j.place (jobs_part p s) ≡ false
  untaken j i e w =
      none_passes (λ (m : Job). is_waiting m.phase && m.place == j.place) (jobs_part p s)
      (λ m l. (let f = of_mapped restarted_job (jobs_left p s) m l in untaken_by j m f.0 (is_waiting m.phase && m.place == j.place) i e w f.1 f.2 refl))

  pub job_enters : (j : Job) → IsIn j s.jobs → job_row (stored_of j) ≡ row → Enters (state_part p offset s) row (state_part q offset s)
  job_enters j i e =
      let tab : 11 ≡ row.tab = ap (λ (r : Row). r.tab) e in
      let u = state_part p offset s in
      let fit = range.jobs j i in
      let more = job_more j i e in
      let number = uncounted counter.Number s.next_number (of_number refl) (omega arith) in
      let place = uncounted counter.Place s.next_place (of_place refl) (omega arith) in
      let serial = uncounted counter.Serial s.next_serial (of_serial refl) (omega arith) in
      record {
        job = stored_of j;
        is_row = e;
        good = record {
          stored = fit.stored;
          lengths = fit.lengths;
          kind = kind_still s.objects u.objects j.kind (stored_of j) (sym (all_queues offset s sound range row p q h (omega arith))) fit.kind;
          waits = λ w. (sound.queues j i).waits (stored_waits j.phase w);
          number = unused j i e;
          place = λ w. untaken j i e (stored_waits j.phase w);
        };
        makes =
            same_parts offset
            (classes_same s row p q h (far 1 tab refl))
            (programs_same s row p q h (far 2 tab refl))
            (queues_same s row p q h (far 3 tab refl))
            (jobds_same s row p q h (far 4 tab refl))
            (sbsds_same s row p q h (far 5 tab refl) (far 6 tab refl) (far 7 tab refl) (far 8 tab refl) (far 9 tab refl))
            (held_same s row p q h (far 10 tab refl))
            (ap (map restarted_job) more ∙ map_last restarted_job (jobs_left p s) j ∙ ap (λ (x : Job). map restarted_job (jobs_left p s) ++ x ∷ []) (sym (job_again j)))
            (counted (λ k. k.job.number) s.next_number j _ _ number.0 number.1 more)
            (counted (λ k. k.place) s.next_place j _ _ place.0 place.1 more)
            (counted (λ k. k.serial) s.next_serial j _ _ serial.0 serial.1 more);
      }

  -- the counter's row isn't that of another
  other_counter : (c d : Counter) (n m : ℕ) → (c ≡ d → ⊥) → counter_row d m ≡ row → place_of (counter_row c n) ≡ place_of row → ⊥
  other_counter c d n m other e f = other (one_counter c d (same_key (counter_row c n) (counter_row d m) (f ∙ ap place_of (sym e))))

  pub number_counts : counter_row counter.Number s.next_number ≡ row → Counts (state_part p offset s) row (state_part q offset s)
  number_counts e =
      let tab : 12 ≡ row.tab = ap (λ (r : Row). r.tab) e in
      let free : p (counter_row counter.Number s.next_number) ≡ false = ap p e ∙ h.before in
      let bounds = sound.numbered.next_number in
      let first = bounds.least in
      let low : reached (λ j. j.job.number) (jobs_left p s) ≤ s.next_number = reached_most (λ j. j.job.number) s.next_number 1 (jobs_left p s) first (λ j l. below_in s.next_number (map (λ j. j.job.number) s.jobs) _ sound.numbered.numbers.below (in_mapped (λ j. j.job.number) s.jobs j (left_there j l))) in
      record {
        counter = counter.Number;
        count = s.next_number;
        is_row = e;
        good = record { least = subst (λ (t : Bool). cond t s.next_number (reached (λ j. j.job.number) (jobs_left p s)) ≤ s.next_number) (sym free) low; most = bounds.most };
        makes =
            same_parts offset
            (classes_same s row p q h (far 1 tab refl))
            (programs_same s row p q h (far 2 tab refl))
            (queues_same s row p q h (far 3 tab refl))
            (jobds_same s row p q h (far 4 tab refl))
            (sbsds_same s row p q h (far 5 tab refl) (far 6 tab refl) (far 7 tab refl) (far 8 tab refl) (far 9 tab refl))
            (held_same s row p q h (far 10 tab refl))
            (jobs_same s row p q h (far 11 tab refl))
            (ap (λ (t : Bool). cond t s.next_number (reached (λ j. j.job.number) (jobs_left q s))) (ap q e ∙ h.after))
            (place_same s row p q h (far 11 tab refl) (other_counter counter.Place counter.Number s.next_place s.next_number (λ k. absurd (cc)) e))
            (serial_same s row p q h (far 11 tab refl) (other_counter counter.Serial counter.Number s.next_serial s.next_number (λ k. absurd (cc)) e));
      }

  pub place_counts : counter_row counter.Place s.next_place ≡ row → Counts (state_part p offset s) row (state_part q offset s)
  place_counts e =
      let tab : 12 ≡ row.tab = ap (λ (r : Row). r.tab) e in
      let free : p (counter_row counter.Place s.next_place) ≡ false = ap p e ∙ h.before in
      let bounds = sound.numbered.next_place in
      let first = bounds.least in
      let low : reached (λ j. j.place) (jobs_left p s) ≤ s.next_place = reached_most (λ j. j.place) s.next_place 1 (jobs_left p s) first (λ j l. below_in s.next_place (map (λ j. j.place) s.jobs) _ sound.numbered.places (in_mapped (λ j. j.place) s.jobs j (left_there j l))) in
      record {
        counter = counter.Place;
        count = s.next_place;
        is_row = e;
        good = record { least = subst (λ (t : Bool). cond t s.next_place (reached (λ j. j.place) (jobs_left p s)) ≤ s.next_place) (sym free) low; most = bounds.most };
        makes =
            same_parts offset
            (classes_same s row p q h (far 1 tab refl))
            (programs_same s row p q h (far 2 tab refl))
            (queues_same s row p q h (far 3 tab refl))
            (jobds_same s row p q h (far 4 tab refl))
            (sbsds_same s row p q h (far 5 tab refl) (far 6 tab refl) (far 7 tab refl) (far 8 tab refl) (far 9 tab refl))
            (held_same s row p q h (far 10 tab refl))
            (jobs_same s row p q h (far 11 tab refl))
            (number_same s row p q h (far 11 tab refl) (other_counter counter.Number counter.Place s.next_number s.next_place (λ k. absurd (cc)) e))
            (ap (λ (t : Bool). cond t s.next_place (reached (λ j. j.place) (jobs_left q s))) (ap q e ∙ h.after))
            (serial_same s row p q h (far 11 tab refl) (other_counter counter.Serial counter.Place s.next_serial s.next_place (λ k. absurd (cc)) e));
      }

  pub serial_counts : counter_row counter.Serial s.next_serial ≡ row → Counts (state_part p offset s) row (state_part q offset s)
  serial_counts e =
      let tab : 12 ≡ row.tab = ap (λ (r : Row). r.tab) e in
      let free : p (counter_row counter.Serial s.next_serial) ≡ false = ap p e ∙ h.before in
      let bounds = sound.numbered.next_serial in
      let first = bounds.least in
      let low : reached (λ j. j.serial) (jobs_left p s) ≤ s.next_serial = reached_most (λ j. j.serial) s.next_serial 1 (jobs_left p s) first (λ j l. below_in s.next_serial (map (λ j. j.serial) s.jobs) _ sound.numbered.serials.below (in_mapped (λ j. j.serial) s.jobs j (left_there j l))) in
      record {
        counter = counter.Serial;
        count = s.next_serial;
        is_row = e;
        good = record { least = subst (λ (t : Bool). cond t s.next_serial (reached (λ j. j.serial) (jobs_left p s)) ≤ s.next_serial) (sym free) low; most = bounds.most };
        makes =
            same_parts offset
            (classes_same s row p q h (far 1 tab refl))
            (programs_same s row p q h (far 2 tab refl))
            (queues_same s row p q h (far 3 tab refl))
            (jobds_same s row p q h (far 4 tab refl))
            (sbsds_same s row p q h (far 5 tab refl) (far 6 tab refl) (far 7 tab refl) (far 8 tab refl) (far 9 tab refl))
            (held_same s row p q h (far 10 tab refl))
            (jobs_same s row p q h (far 11 tab refl))
            (number_same s row p q h (far 11 tab refl) (other_counter counter.Number counter.Serial s.next_number s.next_serial (λ k. absurd (cc)) e))
            (place_same s row p q h (far 11 tab refl) (other_counter counter.Place counter.Serial s.next_place s.next_serial (λ k. absurd (cc)) e))
            (ap (λ (t : Bool). cond t s.next_serial (reached (λ j. j.serial) (jobs_left q s))) (ap q e ∙ h.after));
      }

  pub schema_counts : counter_row counter.Schema 1 ≡ row → Counts (state_part p offset s) row (state_part q offset s)
  schema_counts e =
      let tab : 12 ≡ row.tab = ap (λ (r : Row). r.tab) e in
      record {
        counter = counter.Schema;
        count = 1;
        is_row = e;
        good = refl;
        makes =
            same_parts offset
            (classes_same s row p q h (far 1 tab refl))
            (programs_same s row p q h (far 2 tab refl))
            (queues_same s row p q h (far 3 tab refl))
            (jobds_same s row p q h (far 4 tab refl))
            (sbsds_same s row p q h (far 5 tab refl) (far 6 tab refl) (far 7 tab refl) (far 8 tab refl) (far 9 tab refl))
            (held_same s row p q h (far 10 tab refl))
            (jobs_same s row p q h (far 11 tab refl))
            (number_same s row p q h (far 11 tab refl) (other_counter counter.Number counter.Schema s.next_number 1 (λ k. absurd (cc)) e))
            (place_same s row p q h (far 11 tab refl) (other_counter counter.Place counter.Schema s.next_place 1 (λ k. absurd (cc)) e))
            (serial_same s row p q h (far 11 tab refl) (other_counter counter.Serial counter.Schema s.next_serial 1 (λ k. absurd (cc)) e));
      }
