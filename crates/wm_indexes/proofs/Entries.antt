-- What the orders of entries and of seats say of their fields.
use Rattle.std.proofs.Common.{◌≡◌, true, ◌&&◌, nat_eq, refl, ap, ◌∙◌}
use Rattle.std.specs.Cmp.{IsTotalOrder, unsigned_ties, both_tied, tied_itself}
use Rattle.std.specs.Ordering.{is_eq}
use Rattle.std.proofs.lemmas.Bool.{and_parts, eqb-true}
use Rattle.std.proofs.lemmas.Cmp.{on_total, then_total, nat_cmp_total}
use Rattle.wm_base.specs.declared.qname.QName.{QName}
use Rattle.wm_desc.specs.Table.{same_qname}
use Rattle.wm_desc.proofs.Tables.{one_name, qname_ties, qname_total}
use Rattle.wm_indexes.specs.declared.prestart_job.PrestartEntry.{PrestartEntry}
use Rattle.wm_indexes.specs.declared.seat.Seat.{Seat}
use Rattle.wm_indexes.specs.Ready.{entry_cmp, same_entry}
use Rattle.wm_indexes.specs.Seats.{same_seat, seat_cmp}

pub same_entry-fields : (a b : PrestartEntry) → same_entry a b ≡ (same_qname a.sbs b.sbs && same_qname a.pgm b.pgm)
same_entry-fields a b = refl

pub entry_total : IsTotalOrder entry_cmp
entry_total = then_total (on_total (λ (e : PrestartEntry). e.sbs) qname_total) (on_total (λ (e : PrestartEntry). e.pgm) qname_total)

pub entry_ties : (a b : PrestartEntry) → same_entry a b ≡ is_eq (entry_cmp a b)
entry_ties a b = both_tied _ _ _ _ (qname_ties a.sbs b.sbs) (qname_ties a.pgm b.pgm)

pub entry-itself : (e : PrestartEntry) → same_entry e e ≡ true
entry-itself e = entry_ties e e ∙ ap is_eq (tied_itself entry_total e)

-- two entries are one where the test says so
pub one_entry : (a b : PrestartEntry) → same_entry a b ≡ true → a ≡ b
one_entry a b h =
    let parts = and_parts (same_qname a.sbs b.sbs) (same_qname a.pgm b.pgm) h in
    let first : a ≡ record b { pgm = a.pgm } = ap (λ (q : QName). record a { sbs = q }) (one_name a.sbs b.sbs parts.0) in
    first ∙ ap (λ (q : QName). record b { pgm = q }) (one_name a.pgm b.pgm parts.1)

pub seat_total : IsTotalOrder seat_cmp
seat_total = then_total (on_total (λ (s : Seat). s.entry) entry_total) (then_total (on_total (λ (s : Seat). s.number) nat_cmp_total) (on_total (λ (s : Seat). s.serial) nat_cmp_total))

pub seat_ties : (a b : Seat) → same_seat a b ≡ is_eq (seat_cmp a b)
seat_ties a b = both_tied _ _ _ _ (entry_ties a.entry b.entry) (both_tied _ _ _ _ (unsigned_ties a.number b.number) (unsigned_ties a.serial b.serial))

pub seat-itself : (s : Seat) → same_seat s s ≡ true
seat-itself s = seat_ties s s ∙ ap is_eq (tied_itself seat_total s)

-- one seat is of one serial
pub same_seat-serial : (a b : Seat) → same_seat a b ≡ true → a.serial ≡ b.serial
same_seat-serial a b h = eqb-true a.serial b.serial (and_parts (nat_eq a.number b.number) _ (and_parts (same_entry a.entry b.entry) _ h).1).1
