-- The order of spots.
use Rattle.std.specs.Prelude.{◌≡◌, ◌==◌, ◌&&◌}
use Rattle.std.specs.Cmp.{IsTotalOrder, both_tied, nat_cmp_total, on_total, then_total, unsigned_ties}
use Rattle.std.specs.Ordering.{is_eq, nat_cmp, ordering_then}
use Rattle.std.specs.declared.cmp.Ordering.{Ordering}
use Rattle.wm_desc.specs.Table.{qname_cmp, same_qname}
use Rattle.wm_desc.proofs.Tables.{qname_total, qname_ties}
use Rattle.wm_ordered.specs.declared.keys.Spot.{Spot}

-- by queue, then priority, then place
abbrev pub spot_order : Spot → Spot → Ordering
spot_order a b = ordering_then (qname_cmp a.jobq b.jobq) (ordering_then (nat_cmp a.pty b.pty) (nat_cmp a.place b.place))

-- it is total
pub spot_total : IsTotalOrder spot_order
spot_total = then_total (on_total (λ (s : Spot). s.jobq) qname_total) (then_total (on_total (λ (s : Spot). s.pty) nat_cmp_total) (on_total (λ (s : Spot). s.place) nat_cmp_total))

-- two tie where they are one
pub spot_ties : (a b : Spot) → (same_qname a.jobq b.jobq && (a.pty == b.pty && a.place == b.place)) ≡ is_eq (spot_order a b)
spot_ties a b = both_tied _ _ _ _ (qname_ties a.jobq b.jobq) (both_tied _ _ _ _ (unsigned_ties a.pty b.pty) (unsigned_ties a.place b.place))
