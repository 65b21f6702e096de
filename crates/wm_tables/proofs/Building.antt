-- What holds of a state that rows make, whichever counters they have.
use Rattle.std.proofs.Common.{◌≡◌, ℕ, ◌≤◌, ◌<◌, ◌+◌, ◌++◌, ◌^◌, Bool, true, false, List, [], ◌∷◌, map, max, Option, Some, None, ℤ, refl, sym, ap, subst, ◌∙◌, inl, inr, arith}
use Rattle.std.specs.Cmp.Lexicographic.{slice_cmp}
use Rattle.std.specs.Option.{IsSome}
use Rattle.std.specs.Ordering.{is_lt, nat_cmp, ordering_reverse}
use Rattle.std.specs.declared.cmp.Ordering.TheVariants.{Equal, Greater}
use Rattle.std.proofs.lemmas.Bool.{cases_lt}
use Rattle.std.proofs.lemmas.Cmp.{nat_list_cmp_total, tied_itself}
use Rattle.wm_base.specs.Number.{zero_padded}
use Rattle.wm_base.specs.declared.job.How.TheVariants.{NotYet}
use Rattle.wm_base.specs.declared.qname.QName.{QName}
use Rattle.wm_base.proofs.Tests.{Some-injective}
use Rattle.wm_desc.proofs.Tables.{qname_ties, qname_total}
use Rattle.wm_desc.specs.Sorted.{place_of}
use Rattle.wm_desc.specs.Table.{object_named, qname_cmp, same_qname}
use Rattle.wm_desc.specs.declared.objects.Objects.{Objects}
use Rattle.wm_traits.specs.declared.row.Row.{Row}
use Rattle.wm_traits.specs.Rows.{is_before}
use Rattle.wm_traits.specs.Rows.{place_of as row_place}
use Rattle.wm_law.specs.Counts.{is_active, is_waiting}
use Rattle.wm_law.specs.Kept.{IsBelow, IsDistinct, IsGiven, IsRouted, waiting_places}
use Rattle.wm_law.specs.Laws.{IsIn}
use Rattle.wm_law.specs.Objects.{AreSound}
use Rattle.wm_law.specs.Opening.{empty}
use Rattle.wm_law.specs.Queues.{own_name, with_held_queue}
use Rattle.wm_law.specs.Sound.{AreQueues, HasAutoValues, HasQueues, IsIncreasing, IsQueued}
use Rattle.wm_law.specs.declared.job.Job.{Job}
use Rattle.wm_law.specs.declared.job.JobKind.{JobKind}
use Rattle.wm_law.specs.declared.job.JobKind.TheVariants.{Bch, Asj, Pj}
use Rattle.wm_law.specs.declared.job.Wish.TheVariants.{NoWish}
use Rattle.wm_law.specs.declared.state.State.{State}
use Rattle.wm_law.proofs.InOrder.{in_inserted, sorted_added}
use Rattle.wm_law.proofs.Members.{of_last, of_mapped}
use Rattle.wm_law.proofs.Objects.{IsObjectChange}
use Rattle.wm_law.proofs.Waits.{waiting_more, waiting_same}
use Rattle.wm_rows.specs.declared.stored.Counter.{Counter}
use Rattle.wm_rows.specs.declared.stored.Counter.TheVariants as counter
use Rattle.wm_rows.specs.declared.stored_job.StoredJob.{StoredJob}
use Rattle.wm_rows.specs.declared.stored_job.StoredPhase.{StoredPhase}
use Rattle.wm_rows.specs.declared.stored_job.StoredPhase.TheVariants.{Waiting, Active, Ended}
use Rattle.wm_tables.specs.Restart.{job_of, phase_of, with_stored, with_counter, HasOwnValues, IsOfKind, IsGoodJob, IsGoodCount, Takes, IsRead}
use Rattle.wm_tables.proofs.Digits.{padded_less}
use Rattle.wm_tables.proofs.Joining.{below_end, below_rise, distinct_end, given_end, increasing_end, none_taken, none_used}
use Rattle.wm_tables.proofs.Made.{IsHeldNow, call_makes, row_holds}
use Rattle.wm_tables.proofs.RowOrder.{IsAscending}
use Rattle.wm_law.proofs.Numbers.{map_more}

-- serials, numbers and places are given once, and the next ones are 1 or more
pub record AreNumbered (jobs : List Job) (number serial place : ℕ) : Type 0 where
  pub serials : IsGiven (map (λ j. j.serial) jobs) serial
  pub numbers : IsGiven (map (λ j. j.job.number) jobs) number
  pub waiting : IsDistinct (waiting_places jobs)
  pub places : IsBelow place (map (λ j. j.place) jobs)
  pub number_least : 1 ≤ number
  pub serial_least : 1 ≤ serial
  pub place_least : 1 ≤ place

-- nothing is left of what the job was at the stop: it came by no entry, has no uses and no request
pub record IsAnew (j : Job) : Type 0 where
  pub how : j.how ≡ NotYet
  pub uses : j.uses ≡ 0
  pub evoke : j.evoke ≡ false

-- the jobs stand in the order of their serials, which are what a u64 can be, none is active or has a wish, and all are anew
pub record AreIdle (jobs : List Job) : Type 0 where
  pub increasing : IsIncreasing (map (λ j. j.serial) jobs)
  pub idle : (j : Job) → IsIn j jobs → is_active j.phase ≡ false
  pub unwished : (j : Job) → IsIn j jobs → j.wish ≡ NoWish
  pub fit : (j : Job) → IsIn j jobs → j.serial < 2 ^ 64
  pub anew : (j : Job) → IsIn j jobs → IsAnew j

-- all that holds of sound states but the upper ends of the next numbers; no job is active, no subsystem is started, no entry is stopped and no request waits
pub record IsBuilt (s : State) : Type 0 where
  pub numbered : AreNumbered s.jobs s.next_number s.next_serial s.next_place
  pub jobs : AreIdle s.jobs
  pub started : s.started ≡ []
  pub stopped : s.stopped ≡ []
  pub evokes : s.evokes ≡ []
  pub routed : IsRouted s.objects
  pub objects : AreSound s.objects
  pub queues : HasQueues s
  pub held : AreQueues s.objects s.held

pub empty_built : (offset : ℤ) → IsBuilt (empty offset)
empty_built offset = record {
  numbered = record {
    serials = record { distinct = tt; below = tt };
    numbers = record { distinct = tt; below = tt };
    waiting = tt;
    places = tt;
    number_least = omega arith;
    serial_least = omega arith;
    place_least = omega arith;
  };
  jobs = record { increasing = tt; idle = λ j i. absurd i; unwished = λ j i. absurd i; fit = λ j i. absurd i; anew = λ j i. absurd i };
  started = refl;
  stopped = refl;
  evokes = refl;
  routed = record { sorted = λ sbs d e. absurd (cc); classes = λ sbs d e k i. absurd (cc) };
  objects = record {
    tables = record {
      classes = record { sorted = λ i j d less within. absurd (omega arith); most = omega arith };
      jobqs = record { sorted = λ i j d less within. absurd (omega arith); most = omega arith };
      programs = record { sorted = λ i j d less within. absurd (omega arith); most = omega arith };
      jobds = record { sorted = λ i j d less within. absurd (omega arith); most = omega arith };
      sbsds = record { sorted = λ i j d less within. absurd (omega arith); most = omega arith };
    };
    described = λ sbs d e. absurd (cc);
  };
  queues = λ j i. absurd i;
  held = record { sorted = λ i j d less within. absurd (omega arith); are_objects = λ q i. absurd i };
}

-- a change of objects keeps it
still_queued : (s : State) (o : Objects) (j : Job) → IsObjectChange s o → IsQueued s.objects j → IsQueued o j
still_queued s o j c h = record { waits = h.waits; has_queue = h.has_queue; is_object = λ q e. c.jobqs q (h.is_object q e); auto = h.auto }

pub made_built : (s : State) (o : Objects) → IsObjectChange s o → IsBuilt s → IsBuilt (record s { objects = o })
made_built s o c b = record {
  numbered = b.numbered;
  jobs = b.jobs;
  started = b.started;
  stopped = b.stopped;
  evokes = b.evokes;
  routed = c.routed b.routed;
  objects = c.sound b.objects;
  queues = λ j i. still_queued s o j c (b.queues j i);
  held = record { sorted = b.held.sorted; are_objects = λ q i. c.jobqs q (b.held.are_objects q i) };
}

-- so does a queue that becomes held
pub held_built : (s : State) (q : QName) (t : State) → IsHeldNow s q t → IsBuilt s → IsBuilt (with_held_queue s q)
held_built s q t h b = record {
  numbered = b.numbered;
  jobs = b.jobs;
  started = b.started;
  stopped = b.stopped;
  evokes = b.evokes;
  routed = b.routed;
  objects = b.objects;
  queues = b.queues;
  held = record {
    sorted = sorted_added own_name qname_cmp qname_total same_qname qname_ties q s.held b.held.sorted h.new;
    are_objects = λ p i. (elim (in_inserted s.held (place_of own_name qname_cmp q s.held) q p i) as (λ _. IsSome (object_named p s.objects.jobqs)) [
      | inl same ↦ subst (λ (n : QName). IsSome (object_named n s.objects.jobqs)) (sym same) h.is_object
      | inr was ↦ b.held.are_objects p was
    ]);
  };
}

pub idle_as : (p : StoredPhase) → is_active (phase_of p) ≡ false
idle_as Waiting = refl
idle_as Active = refl
idle_as (Ended cause) = refl

pub waits_as : (p : StoredPhase) → is_waiting (phase_of p) ≡ true → p ≡ Waiting
waits_as Waiting h = refl
waits_as Active h = absurd (cc)
waits_as (Ended cause) h = absurd (cc)

auto_values : (j : StoredJob) → HasOwnValues j → HasAutoValues (job_of j)
auto_values j v = record { jobq = v.jobq; pty = v.pty; place = v.place; held = v.held }

none_is : (q : Option QName) (n : QName) → q ≡ None → q ≡ Some n → ⊥
none_is q n e f = absurd (cc)

-- a good job has the queue of its kind
stored_queued : (o : Objects) (j : StoredJob) (k : JobKind) → j.kind ≡ k → (j.phase ≡ Waiting → j.kind ≡ Bch) → IsOfKind o k j → IsQueued o (job_of j)
stored_queued o j Bch e w h = record {
  waits = λ t. w (waits_as j.phase t);
  has_queue = λ b. subst (λ (q : Option QName). IsSome q) (sym h.1) refl;
  is_object = λ q f. subst (λ (n : QName). IsSome (object_named n o.jobqs)) (Some-injective h.0 q (sym h.1 ∙ f)) h.2;
  auto = λ a. (let kinds : Bch ≡ Asj = sym e ∙ a in absurd (cc));
}
stored_queued o j Asj e w h = record {
  waits = λ t. w (waits_as j.phase t);
  has_queue = λ b. (let kinds : Asj ≡ Bch = sym e ∙ b in absurd (cc));
  is_object = λ q f. absurd (none_is j.jobq q h.jobq f);
  auto = λ a. auto_values j h;
}
stored_queued o j Pj e w h = record {
  waits = λ t. w (waits_as j.phase t);
  has_queue = λ b. (let kinds : Pj ≡ Bch = sym e ∙ b in absurd (cc));
  is_object = λ q f. absurd (none_is j.jobq q h.0.jobq f);
  auto = λ a. auto_values j h.0;
}

-- the row of a serial stands before a row
abbrev pub StandsBefore : ℕ → Row → Type 0
StandsBefore serial row = is_lt (slice_cmp nat_cmp (11 ∷ zero_padded 20 serial) (row_place row)) ≡ true

equal_padded : (a b : ℕ) → a ≡ b → slice_cmp nat_cmp (zero_padded 20 a) (zero_padded 20 b) ≡ Equal
equal_padded a b e = ap (λ (n : ℕ). slice_cmp nat_cmp (zero_padded 20 n) (zero_padded 20 b)) e ∙ tied_itself nat_list_cmp_total (zero_padded 20 b)

greater_padded : (a b : ℕ) → b < a → a < 2 ^ 64 → slice_cmp nat_cmp (zero_padded 20 a) (zero_padded 20 b) ≡ Greater
greater_padded a b less fits = nat_list_cmp_total.antisymm (zero_padded 20 a) (zero_padded 20 b) ∙ ap ordering_reverse (padded_less 19 b a less fits (omega arith))

-- so its serial is lower
pub serial_lower : (a b : ℕ) → a < 2 ^ 64 → is_lt (slice_cmp nat_cmp (zero_padded 20 a) (zero_padded 20 b)) ≡ true → a < b
serial_lower a b fits h =
    elim (cases_lt a b) [
      | inl less ↦ less
      | inr back ↦ (elim (cases_lt b a) [
        | inl more ↦ let no : is_lt (slice_cmp nat_cmp (zero_padded 20 a) (zero_padded 20 b)) ≡ false = ap is_lt (greater_padded a b more fits) in absurd (cc)
        | inr on ↦ let same : a ≡ b = omega arith in let no : is_lt (slice_cmp nat_cmp (zero_padded 20 a) (zero_padded 20 b)) ≡ false = ap is_lt (equal_padded a b same) in absurd (cc)
      ])
    ]

-- the rows to come stand behind those of the jobs
abbrev pub AreAhead : State → List Row → Type 0
AreAhead s rows = (j : Job) → IsIn j s.jobs → (r : Row) → IsIn r rows → StandsBefore j.serial r

job_places : (jobs : List Job) (j : Job) (b : Bool) → is_waiting j.phase ≡ b → (is_waiting j.phase ≡ true → IsIn j.place (waiting_places jobs) → ⊥) → IsDistinct (waiting_places jobs) → IsDistinct (waiting_places (jobs ++ j ∷ []))
job_places jobs j true e none d = subst IsDistinct (sym (waiting_more jobs j e)) (distinct_end j.place (waiting_places jobs) (none e) d)
job_places jobs j false e none d = subst IsDistinct (sym (waiting_same jobs j e)) d

of_both : (P : Job → Type 0) (jobs : List Job) (last : Job) → ((j : Job) → IsIn j jobs → P j) → P last → (j : Job) → IsIn j (jobs ++ last ∷ []) → P j
of_both P jobs last each p j i = elim (of_last jobs last j i) as (λ _. P j) [ inl was ↦ each j was | inr same ↦ subst P (sym same) p ]

-- and so does a good job whose serial is above the others
pub stored_built : (s : State) (j : StoredJob) → IsGoodJob s j → ((k : Job) → IsIn k s.jobs → k.serial < j.serial) → IsBuilt s → IsBuilt (with_stored s j)
stored_built s j g above b =
    let less : (n : ℕ) → IsIn n (map (λ k. k.serial) s.jobs) → n < j.serial = λ n i. (let m = of_mapped (λ (k : Job). k.serial) s.jobs n i in subst (λ (x : ℕ). x < j.serial) (sym m.2) (above m.0 m.1)) in
    let n = b.numbered in
    let number = n.number_least in
    let serial = n.serial_least in
    let place = n.place_least in
    record {
      numbered = record {
        serials = given_end (λ k. k.serial) s.jobs (job_of j) s.next_serial (λ i. (let under : j.serial < j.serial = less j.serial i in absurd (omega arith))) n.serials;
        numbers = given_end (λ k. k.job.number) s.jobs (job_of j) s.next_number (none_used j.number s.jobs g.number) n.numbers;
        waiting = job_places s.jobs (job_of j) (is_waiting (phase_of j.phase)) refl (λ w. none_taken j.place s.jobs (g.place (waits_as j.phase w))) n.waiting;
        places = subst (IsBelow (max s.next_place (j.place + 1))) (sym (map_more (λ k. k.place) s.jobs (job_of j))) (below_end j.place s.next_place (max s.next_place (j.place + 1)) (map (λ (k : Job). k.place) s.jobs) (omega arith) (omega arith) n.places);
        number_least = omega arith;
        serial_least = omega arith;
        place_least = omega arith;
      };
      jobs = record {
        increasing = subst IsIncreasing (sym (map_more (λ k. k.serial) s.jobs (job_of j))) (increasing_end j.serial (map (λ (k : Job). k.serial) s.jobs) less b.jobs.increasing);
        idle = of_both (λ (k : Job). is_active k.phase ≡ false) s.jobs (job_of j) b.jobs.idle (idle_as j.phase);
        unwished = of_both (λ (k : Job). k.wish ≡ NoWish) s.jobs (job_of j) b.jobs.unwished refl;
        fit = of_both (λ (k : Job). k.serial < 2 ^ 64) s.jobs (job_of j) b.jobs.fit g.stored.serial;
        anew = of_both IsAnew s.jobs (job_of j) b.jobs.anew (record { how = refl; uses = refl; evoke = refl });
      };
      started = b.started;
      stopped = b.stopped;
      evokes = b.evokes;
      routed = b.routed;
      objects = b.objects;
      queues = of_both (IsQueued s.objects) s.jobs (job_of j) b.queues (stored_queued s.objects j j.kind refl g.waits g.kind);
      held = b.held;
    }

-- and a good counter
given_rise : (ns : List ℕ) (next more : ℕ) → next ≤ more → IsGiven ns next → IsGiven ns more
given_rise ns next more rise g = record { distinct = g.distinct; below = below_rise next more ns rise g.below }

counted_numbers : (s : State) (c : Counter) (n : ℕ) → IsGoodCount s c n → AreNumbered s.jobs s.next_number s.next_serial s.next_place → AreNumbered s.jobs (with_counter s c n).next_number (with_counter s c n).next_serial (with_counter s c n).next_place
counted_numbers s counter.Number n g b =
    let least = b.number_least in
    let more = g.least in
    record {
      serials = b.serials;
      numbers = given_rise (map (λ (j : Job). j.job.number) s.jobs) s.next_number n more b.numbers;
      waiting = b.waiting;
      places = b.places;
      number_least = omega arith;
      serial_least = b.serial_least;
      place_least = b.place_least;
    }
counted_numbers s counter.Place n g b =
    let least = b.place_least in
    let more = g.least in
    record {
      serials = b.serials;
      numbers = b.numbers;
      waiting = b.waiting;
      places = below_rise s.next_place n (map (λ (j : Job). j.place) s.jobs) more b.places;
      number_least = b.number_least;
      serial_least = b.serial_least;
      place_least = omega arith;
    }
counted_numbers s counter.Schema n g b = b
counted_numbers s counter.Serial n g b =
    let least = b.serial_least in
    let more = g.least in
    record {
      serials = given_rise (map (λ (j : Job). j.serial) s.jobs) s.next_serial n more b.serials;
      numbers = b.numbers;
      waiting = b.waiting;
      places = b.places;
      number_least = b.number_least;
      serial_least = omega arith;
      place_least = b.place_least;
    }

-- a counter leaves all else
same_else : (s t : State) → IsBuilt s → t.jobs ≡ s.jobs → t.started ≡ s.started → t.stopped ≡ s.stopped → t.evokes ≡ s.evokes → t.objects ≡ s.objects → t.held ≡ s.held → AreNumbered t.jobs t.next_number t.next_serial t.next_place → IsBuilt t
same_else s t b jobs started stopped evokes objects held numbered = record {
  numbered = numbered;
  jobs = subst AreIdle (sym jobs) b.jobs;
  started = started ∙ b.started;
  stopped = stopped ∙ b.stopped;
  evokes = evokes ∙ b.evokes;
  routed = subst IsRouted (sym objects) b.routed;
  objects = subst AreSound (sym objects) b.objects;
  queues = λ j i. subst (λ (o : Objects). IsQueued o j) (sym objects) (b.queues j (subst (IsIn j) jobs i));
  held = subst (λ (o : Objects). AreQueues o t.held) (sym objects) (subst (AreQueues s.objects) (sym held) b.held);
}

pub counted_built : (s : State) (c : Counter) (n : ℕ) → IsGoodCount s c n → IsBuilt s → IsBuilt (with_counter s c n)
counted_built s counter.Number n g b = same_else s _ b refl refl refl refl refl refl (counted_numbers s counter.Number n g b.numbered)
counted_built s counter.Place n g b = same_else s _ b refl refl refl refl refl refl (counted_numbers s counter.Place n g b.numbered)
counted_built s counter.Schema n g b = b
counted_built s counter.Serial n g b = same_else s _ b refl refl refl refl refl refl (counted_numbers s counter.Serial n g b.numbered)

-- what one row leaves: the state is built, and the rows to come stand ahead of its jobs
record IsOn (s : State) (rows : List Row) : Type 0 where
  built : IsBuilt s
  ahead : AreAhead s rows

rest_ahead : (s : State) (row : Row) (rows : List Row) → AreAhead s (row ∷ rows) → AreAhead s rows
rest_ahead s row rows a j i r m = a j i r (inr m)

jobs_same : (s : State) (c : Counter) (n : ℕ) → (with_counter s c n).jobs ≡ s.jobs
jobs_same s counter.Number n = refl
jobs_same s counter.Place n = refl
jobs_same s counter.Schema n = refl
jobs_same s counter.Serial n = refl

counted_ahead : (s : State) (c : Counter) (n : ℕ) (rows : List Row) → AreAhead s rows → AreAhead (with_counter s c n) rows
counted_ahead s c n rows a j i r m = a j (subst (IsIn j) (jobs_same s c n) i) r m

takes_on : (s : State) (row : Row) (rows : List Row) (u : State) → IsAscending (row ∷ rows) → IsOn s (row ∷ rows) → Takes s row u → IsOn u rows
takes_on s row rows u up h (inl m) =
    let made = call_makes s _ m.command m.accepted in
    subst (λ (t : State). IsOn t rows) (sym (m.makes ∙ made.2)) (record { built = made_built s made.0 made.1 h.built; ahead = rest_ahead s row rows h.ahead })
takes_on s row rows u up h (inr (inl m)) =
    let held = row_holds s m.queue m.accepted in
    subst (λ (t : State). IsOn t rows) (sym (m.makes ∙ held.is_with)) (record { built = held_built s m.queue _ held h.built; ahead = rest_ahead s row rows h.ahead })
takes_on s row rows u up h (inr (inr (inl m))) =
    let above : (k : Job) → IsIn k s.jobs → k.serial < m.job.serial = λ k i. serial_lower k.serial m.job.serial (h.built.jobs.fit k i) (subst (StandsBefore k.serial) (sym m.is_row) (h.ahead k i row (inl refl))) in
    let first : (r : Row) → IsIn r rows → StandsBefore m.job.serial r = λ r i. subst (λ (q : Row). is_before q r ≡ true) (sym m.is_row) (up.0 r i) in
    subst (λ (t : State). IsOn t rows) (sym m.makes)
    (record {
      built = stored_built s m.job m.good above h.built;
      ahead = of_both (λ (k : Job). (r : Row) → IsIn r rows → StandsBefore k.serial r) s.jobs (job_of m.job) (rest_ahead s row rows h.ahead) first;
    })
takes_on s row rows u up h (inr (inr (inr m))) =
    subst (λ (t : State). IsOn t rows) (sym m.makes)
    (record { built = counted_built s m.counter m.count m.good h.built; ahead = counted_ahead s m.counter m.count rows (rest_ahead s row rows h.ahead) })

read_built : (rows : List Row) (s t : State) → IsAscending rows → IsOn s rows → IsRead s rows t → IsBuilt t
read_built [] s t up h read = subst IsBuilt (sym read) h.built
read_built (row ∷ rows) s t up h read = read_built rows read.0 t up.1 (takes_on s row rows read.0 up h read.1) read.2

-- what good rows make of none
pub built : (offset : ℤ) (rows : List Row) (t : State) → IsAscending rows → IsRead (empty offset) rows t → IsBuilt t
built offset rows t up read = read_built rows (empty offset) t up (record { built = empty_built offset; ahead = λ j i. absurd i }) read
