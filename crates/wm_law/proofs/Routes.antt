-- The route is the matching entry of least number.
use Rattle.std.proofs.Common.{◌≡◌, ℕ, ◌≤◌, Bool, true, false, cond, List, [], ◌∷◌, Some, nat_eq, refl, sym, ap, ◌∙◌, inl, inr, arith}
use Rattle.std.specs.List.{find}
use Rattle.std.specs.Ordering.{nat_cmp}
use Rattle.std.proofs.lemmas.Bool.{eq-eqb}
use Rattle.wm_base.proofs.Tests.{eqb-lt}
use Rattle.wm_desc.specs.declared.entry.RouteEntry.{RouteEntry}
use Rattle.wm_desc.specs.Sorted.{IsSortedOnce}
use Rattle.wm_law.specs.Launch.{is_match}
use Rattle.wm_law.specs.Laws.{IsIn, RouteIsLeast, NoRouteIsNone}
use Rattle.wm_law.proofs.ByNumber.{first_less, rest_sorted}
use Rattle.wm_law.proofs.Members.{found_among, none_among}

abbrev number : RouteEntry → ℕ
number e = e.seq

abbrev pub IsSorted : List RouteEntry → Type 0
IsSorted entries = IsSortedOnce number nat_cmp entries

-- each entry is the one of its number
pub numbered_once : (xs : List RouteEntry) (e : RouteEntry) → IsSorted xs → IsIn e xs → find (λ x. nat_eq x.seq e.seq) xs ≡ Some e
numbered_once [] e s i = absurd i
numbered_once (x ∷ xs) e s (inl same) = rw (eq-eqb x.seq e.seq (ap (λ (n : RouteEntry). n.seq) (sym same))) (ap Some (sym same))
numbered_once (x ∷ xs) e s (inr i) = rw (eqb-lt x.seq e.seq (first_less number x xs s e i)) (numbered_once xs e (rest_sorted number x xs s) i)

least_by : (p : RouteEntry → Bool) (x : RouteEntry) (xs : List RouteEntry) (e : RouteEntry) (t : Bool) → p x ≡ t → IsSorted (x ∷ xs) → cond t (Some x) (find p xs) ≡ Some e → (find p xs ≡ Some e → (o : RouteEntry) → IsIn o xs → p o ≡ true → e.seq ≤ o.seq) → (o : RouteEntry) → IsIn o (x ∷ xs) → p o ≡ true → e.seq ≤ o.seq
least_by p x xs e true b s f h o (inl same) m =
    let first : x ≡ e = cc in
    let one : o.seq ≡ e.seq = ap (λ (n : RouteEntry). n.seq) (same ∙ first) in
    omega arith
least_by p x xs e true b s f h o (inr i) m =
    let first : x ≡ e = cc in
    let one : x.seq ≡ e.seq = ap (λ (n : RouteEntry). n.seq) first in
    let less = first_less number x xs s o i in
    omega arith
least_by p x xs e false b s f h o (inl same) m = let not : p o ≡ false = ap p same ∙ b in absurd (cc)
least_by p x xs e false b s f h o (inr i) m = h f o i m

least : (p : RouteEntry → Bool) (xs : List RouteEntry) (e : RouteEntry) → IsSorted xs → find p xs ≡ Some e → (o : RouteEntry) → IsIn o xs → p o ≡ true → e.seq ≤ o.seq
least p [] e s f o i m = absurd (cc)
least p (x ∷ xs) e s f o i m = least_by p x xs e (p x) refl s f (least p xs e (rest_sorted number x xs s)) o i m

pub route_is_least : RouteIsLeast
route_is_least d rtgdta e s f =
    let k = found_among (λ (n : RouteEntry). is_match n.cmp rtgdta) d.routes e f in
    record { stands = k.0; matches = k.1; least = least (λ n. is_match n.cmp rtgdta) d.routes e s f }

pub no_route_is_none : NoRouteIsNone
no_route_is_none d rtgdta f = none_among (λ n. is_match n.cmp rtgdta) d.routes f
