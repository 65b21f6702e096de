-- What is found among the seats of idle jobs.
use Rattle.std.proofs.Common.{◌≡◌, ◌⊎◌, ℕ, ◌<◌, ◌≤◌, Bool, true, false, not, List, Some, None, option_map, inl, inr, refl, ap, sym, ◌∙◌, arith, Contains}
use Rattle.std.specs.List.{filter, fold}
use Rattle.std.specs.Cmp.{tied_itself}
use Rattle.std.specs.declared.cmp.Ordering.{Ordering}
use Rattle.std.specs.declared.cmp.Ordering.TheVariants.{Less, Equal, Greater}
use Rattle.std.specs.Ordering.{is_eq, is_lt, nat_cmp, ordering_then}
use mathlib.Core.Bool.{false≢true}
use Rattle.std.proofs.lemmas.Bool.{and_parts}
use Rattle.std.proofs.lemmas.Bool.Decides.{nat_tests}
use Rattle.std.proofs.lemmas.Cmp.{ranked}
use Rattle.std.proofs.lemmas.List.Kept.{AllPairs-filter}
use Rattle.wm_base.proofs.Orderings.{lt-Less}
use Rattle.wm_desc.specs.Sorted.{IsSortedOnce}
use Rattle.wm_ordered.specs.Index.{IsIndex}
use Rattle.wm_ordered.specs.Keys.{nothing_of}
use Rattle.wm_ordered.specs.Ordered.{key_of, first_from}
use Rattle.wm_ordered.proofs.Members.{Contains-filter, Contains-from_filter, find-before, find-None, find-Some}
use Rattle.wm_indexes.specs.declared.prestart_job.PrestartEntry.{PrestartEntry}
use Rattle.wm_indexes.specs.declared.prestart_job.PrestartJob.{PrestartJob}
use Rattle.wm_indexes.specs.declared.seat.Seat.{Seat}
use Rattle.wm_indexes.specs.Ready.{entry_cmp, first_idle, is_idle, is_idle_in, of_lesser_number, same_entry}
use Rattle.wm_indexes.specs.Seats.{is_idle_job, same_seat, seat_cmp, seat_of}
use Rattle.wm_indexes.proofs.Entries.{entry_ties, entry_total, one_entry, same_seat-serial, seat-itself, seat_total}
use Rattle.wm_indexes.proofs.Least.{IsLeast, least, none-least}
use Rattle.wm_indexes.proofs.RowLemmas.{IsKey}

abbrev row : ℕ × PrestartJob → Seat × Unit {0}
row x = (seat_of x, tt)

-- each job has a seat of its own
pub seat_key : IsKey seat_of seat_cmp same_seat
seat_key = record {
  own = λ x y same. same_seat-serial (seat_of x) (seat_of y) same;
  itself = seat-itself;
  tied = λ k. tied_itself seat_total k;
}

seat-fields : (a b : Seat) → seat_cmp a b ≡ ordering_then (entry_cmp a.entry b.entry) (ordering_then (nat_cmp a.number b.number) (nat_cmp a.serial b.serial))
seat-fields a b = refl

-- an order that is neither Less nor Greater
squeezed : (o p q : Ordering) → not (is_lt (ordering_then o p)) ≡ true → ordering_then o q ≡ Less → is_eq o ≡ true
squeezed Less p q low high = absurd (false≢true low)
squeezed Equal p q low high = refl
squeezed Greater p q low high = absurd (cc high)

not-below : (n : ℕ) → not (is_lt (nat_cmp n 0)) ≡ true
not-below n = grind (arith, nat_tests)

neither-below : (o p : Ordering) → not (is_lt o) ≡ true → not (is_lt p) ≡ true → not (is_lt (ordering_then o p)) ≡ true
neither-below Less p h rest = h
neither-below Equal p h rest = rest
neither-below Greater p h rest = refl

-- by number, then serial
less-by : (o : Ordering) (m i n j : ℕ) → o ≡ nat_cmp m i → ordering_then o (nat_cmp n j) ≡ Less → (m ≤ i) × (m ≡ i → n < j)
less-by Less m i n j e h = let low = ranked m i Less e in (omega (arith, low), λ tie. absurd (omega (arith, low, tie)))
less-by Equal m i n j e h = let one = ranked m i Equal e in (omega (arith, one), λ tie. lt-Less n j h)
less-by Greater m i n j e h = absurd (cc h)

same-less : (e : PrestartEntry) (m i n j : ℕ) → ordering_then (entry_cmp e e) (ordering_then (nat_cmp m i) (nat_cmp n j)) ≡ Less → (m ≤ i) × (m ≡ i → n < j)
same-less e m i n j h = less-by (nat_cmp m i) m i n j refl (sym (ap (λ o. ordering_then o (ordering_then (nat_cmp m i) (nat_cmp n j))) (tied_itself entry_total e)) ∙ h)

module _ (jobs : List (ℕ × PrestartJob)) (seats : List (Seat × Unit {0})) (h : IsIndex seat_of nothing_of is_idle_job jobs seats) (entry : PrestartEntry) where
  abbrev begin : Seat
  begin = record { entry = entry; number = 0; serial = 0 }

  abbrev is_from : Seat × Unit {0} → Bool
  is_from r = not (is_lt (seat_cmp r.0 begin))

  own-entry : (x : ℕ × PrestartJob) → is_idle_in entry x ≡ true → x.1.entry ≡ entry
  own-entry x t = one_entry x.1.entry entry (and_parts (same_entry x.1.entry entry) (is_idle x.1.readiness) t).0

  -- the seat of an idle job of the entry isn't before all of them
  from-begin : (x : ℕ × PrestartJob) → is_idle_in entry x ≡ true → is_from (row x) ≡ true
  from-begin x t =
      let place = ordering_then (nat_cmp x.1.number 0) (nat_cmp x.0 0) in
      ap (λ (e : PrestartEntry). not (is_lt (ordering_then (entry_cmp e entry) place))) (own-entry x t)
      ∙ (ap (λ o. not (is_lt (ordering_then o place))) (tied_itself entry_total entry) ∙ neither-below (nat_cmp x.1.number 0) (nat_cmp x.0 0) (not-below x.1.number) (not-below x.0))

  seat-there : (x : ℕ × PrestartJob) → Contains jobs x → is_idle_in entry x ≡ true → Contains seats (row x)
  seat-there x there t = h.whole x there (and_parts (same_entry x.1.entry entry) (is_idle x.1.readiness) t).1

  none-idle : ((x : ℕ × PrestartJob) → Contains jobs x → is_idle_in entry x ≡ true → ⊥) → first_idle entry jobs ≡ None
  none-idle lacks = ap (option_map key_of) (none-least (filter (is_idle_in entry) jobs) (λ x h. let kept = Contains-from_filter (is_idle_in entry) jobs x h in lacks x kept.0 kept.1))

  pub idle-absent : first_from seat_cmp begin seats ≡ None → first_idle entry jobs ≡ None
  idle-absent none = none-idle (λ x there t. false≢true (sym (find-None is_from seats (row x) none (seat-there x there t)) ∙ from-begin x t))

  module _ (sorted : IsSortedOnce key_of seat_cmp seats) (r : Seat × Unit {0}) (found : first_from seat_cmp begin seats ≡ Some r) where
    abbrev here : Contains seats r × (is_from r ≡ true)
    here = find-Some is_from seats r found

    -- the first seat, or one behind it
    at-or-behind : (x : ℕ × PrestartJob) → Contains jobs x → is_idle_in entry x ≡ true → (row x ≡ r) ⊎ (seat_cmp r.0 (seat_of x) ≡ Less)
    at-or-behind x there t = find-before (λ (a b : Seat × Unit {0}). seat_cmp a.0 b.0 ≡ Less) is_from seats r (row x) sorted found (seat-there x there t) (from-begin x t)

    pub idle-other : same_entry r.0.entry entry ≡ false → first_idle entry jobs ≡ None
    idle-other apart = none-idle (λ x there t. false≢true (sym apart ∙ same x there t))
      where
        same : (x : ℕ × PrestartJob) → Contains jobs x → is_idle_in entry x ≡ true → same_entry r.0.entry entry ≡ true
        same x there t =
            elim (at-or-behind x there t) [
              | inl e ↦ (let own : same_entry x.1.entry entry ≡ true = (and_parts (same_entry x.1.entry entry) (is_idle x.1.readiness) t).0 in ap (λ (q : Seat × Unit {0}). same_entry q.0.entry entry) (sym e) ∙ own)
              | inr lt ↦ (
                  let place = ordering_then (nat_cmp r.0.number x.1.number) (nat_cmp r.0.serial x.0) in
                  let less : ordering_then (entry_cmp r.0.entry entry) place ≡ Less = sym (ap (λ (e : PrestartEntry). ordering_then (entry_cmp r.0.entry e) place) (own-entry x t)) ∙ lt in
                  entry_ties r.0.entry entry ∙ squeezed (entry_cmp r.0.entry entry) (ordering_then (nat_cmp r.0.number 0) (nat_cmp r.0.serial 0)) place here.1 less)
            ]

    pub idle-here : IsSortedOnce key_of nat_cmp jobs → same_entry r.0.entry entry ≡ true → first_idle entry jobs ≡ Some r.0.serial
    idle-here in_order same = ap (option_map key_of) first.1 ∙ ap Some serial
      where
        own : (x : ℕ × PrestartJob) × (r ≡ row x) × (is_idle_job x ≡ true) × Contains jobs x
        own = h.sound r here.0

        passes : is_idle_in entry own.0 ≡ true
        passes = rw (sym (ap (λ (q : Seat × Unit {0}). same_entry q.0.entry entry) own.1) ∙ same) own.2

        idle : List (ℕ × PrestartJob)
        idle = filter (is_idle_in entry) jobs

        mine : Contains idle own.0
        mine = Contains-filter (is_idle_in entry) jobs own.0 own.3 passes

        first : (y : ℕ × PrestartJob) × (fold of_lesser_number None idle ≡ Some y) × IsLeast idle y
        first = least idle own.0 (AllPairs-filter (λ (a b : ℕ × PrestartJob). nat_cmp a.0 b.0 ≡ Less) (is_idle_in entry) jobs in_order) mine

        -- the first seat is its seat
        serial : first.0.0 ≡ r.0.serial
        serial =
            let y = first.0 in
            let kept = Contains-from_filter (is_idle_in entry) jobs y first.2.there in
            elim (at-or-behind y kept.0 kept.1) [
              | inl e ↦ ap (λ (q : Seat × Unit {0}). q.0.serial) e
              | inr less ↦ (
                  let place = ordering_then (nat_cmp r.0.number y.1.number) (nat_cmp r.0.serial y.0) in
                  let r-entry : r.0.entry ≡ entry = one_entry r.0.entry entry same in
                  let both : ordering_then (entry_cmp entry entry) place ≡ Less =
                  sym (ap (λ (e : PrestartEntry). ordering_then (entry_cmp e entry) place) r-entry) ∙ (sym (ap (λ (e : PrestartEntry). ordering_then (entry_cmp r.0.entry e) place) (own-entry y kept.1)) ∙ less)
                  in
                  let after = same-less entry r.0.number y.1.number r.0.serial y.0 both in
                  let own-number : r.0.number ≡ own.0.1.number = ap (λ (q : Seat × Unit {0}). q.0.number) own.1 in
                  let own-serial : r.0.serial ≡ own.0.0 = ap (λ (q : Seat × Unit {0}). q.0.serial) own.1 in
                  let no_more = first.2.number own.0 mine in
                  let tie : y.1.number ≡ own.0.1.number = omega (arith, after.0, own-number, no_more) in
                  let low = first.2.serial own.0 mine tie in
                  let high = after.1 (own-number ∙ sym tie) in
                  absurd (omega (arith, low, high, own-serial)))
            ]
