use Rattle.std.proofs.Common.{◌≡◌, true, false, refl, sym, ◌∙◌}
use Rattle.std.specs.Ordering.{is_eq, nat_cmp, ordering_then}
use Rattle.std.specs.declared.cmp.Ordering.{Ordering}
use Rattle.std.specs.declared.cmp.Ordering.TheVariants.{Less, Equal, Greater}
use mathlib.Core.Bool.{false≢true}
use Rattle.wm_desc.proofs.Tables.{qname_ties}
use Rattle.wm_ordered.proofs.keys.SpotOrd.cmp.Goals as goal

-- where two tie, the rest tells
tied : (o rest : Ordering) → is_eq o ≡ true → rest ≡ ordering_then o rest
tied Equal rest h = refl
tied Less rest h = absurd (false≢true h)
tied Greater rest h = absurd (false≢true h)

-- where they don't, nothing else does
apart : (o rest : Ordering) → is_eq o ≡ false → o ≡ ordering_then o rest
apart Equal rest h = absurd (false≢true (sym h))
apart Less rest h = refl
apart Greater rest h = refl

pub returns-then-eq : goal.returns-then-eq
returns-then-eq c =
    let a = c.args.self.now in
    let b = c.args.other.now in
    let rest : c.then.result ≡ ordering_then (nat_cmp a.pty b.pty) (nat_cmp a.place b.place) = rw (sym c.cmp.ensures, sym c.cmp-then-eq.ensures) c.then.ensures in
    rest ∙ tied _ _ (sym (qname_ties a.jobq b.jobq) ∙ (sym c.eq.ensures ∙ c.if-eq.true))

pub returns-else-eq : goal.returns-else-eq
returns-else-eq c =
    let a = c.args.self.now in
    let b = c.args.other.now in
    c.cmp-else-eq.ensures ∙ apart _ _ (sym (qname_ties a.jobq b.jobq) ∙ (sym c.eq.ensures ∙ c.if-eq.false))
