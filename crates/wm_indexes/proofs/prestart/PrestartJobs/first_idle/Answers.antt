use Rattle.std.proofs.Common.{◌≡◌, ℕ, Bool, true, false, not, Some, None, refl, ap, sym, ◌∙◌, subst}
use Rattle.std.proofs.lemmas.Bool.{not-true}
use Rattle.wm_ordered.specs.Ordered.{Pairs, first_from}
use Rattle.wm_indexes.specs.declared.prestart_job.PrestartJob.{PrestartJob}
use Rattle.wm_indexes.specs.Ready.{first_idle, same_entry}
use Rattle.wm_indexes.specs.Seats.{seat_cmp}
use Rattle.wm_indexes.proofs.SeatLemmas.{idle-absent, idle-here, idle-other}
use Rattle.wm_indexes.proofs.prestart.PrestartJobs.first_idle.Goals as goal

undone : (b : Bool) → not b ≡ false → b ≡ true
undone true h = refl
undone false h = sym h

pub returns-in_default : goal.returns-in_default
returns-in_default c =
    let seats = c.self.inside.seats.items in
    let none : first_from seat_cmp (record { entry = c.args.entry.now; number = 0; serial = 0 }) seats ≡ None = ap (λ (n : ℕ). first_from seat_cmp (record { entry = c.args.entry.now; number = 0; serial = n }) seats) (sym c.new.ensures) ∙ sym c.in_default.ensures in
    subst (λ (v : Pairs ℕ PrestartJob). None ≡ first_idle c.args.entry.now v.items) c.self.view_is (sym (idle-absent c.self.inside.jobs.items seats c.self.invariant.seats.index c.args.entry.now none))

pub returns-then-ne : goal.returns-then-ne
returns-then-ne c =
    let seats = c.self.inside.seats.items in
    let found : first_from seat_cmp (record { entry = c.args.entry.now; number = 0; serial = 0 }) seats ≡ Some c.in-Some.row = ap (λ (n : ℕ). first_from seat_cmp (record { entry = c.args.entry.now; number = 0; serial = n }) seats) (sym c.new.ensures) ∙ sym c.in-Some.ensures in
    let apart : same_entry c.in-Some.row.0.entry c.args.entry.now ≡ false = not-true _ (sym c.ne.ensures ∙ c.if-ne.true) in
    subst (λ (v : Pairs ℕ PrestartJob). None ≡ first_idle c.args.entry.now v.items) c.self.view_is (sym (idle-other c.self.inside.jobs.items seats c.self.invariant.seats.index c.args.entry.now c.len-2.ensures.sorted c.in-Some.row found apart))

pub returns : goal.returns
returns c =
    let seats = c.self.inside.seats.items in
    let found : first_from seat_cmp (record { entry = c.args.entry.now; number = 0; serial = 0 }) seats ≡ Some c.in-Some.row = ap (λ (n : ℕ). first_from seat_cmp (record { entry = c.args.entry.now; number = 0; serial = n }) seats) (sym c.new.ensures) ∙ sym c.in-Some.ensures in
    let same : same_entry c.in-Some.row.0.entry c.args.entry.now ≡ true = undone _ (sym c.ne.ensures ∙ c.if-ne.false) in
    subst (λ (v : Pairs ℕ PrestartJob). Some c.in-Some.row.0.serial ≡ first_idle c.args.entry.now v.items) c.self.view_is (sym (idle-here c.self.inside.jobs.items seats c.self.invariant.seats.index c.args.entry.now c.len-2.ensures.sorted c.in-Some.row found c.len.ensures.sorted same))
