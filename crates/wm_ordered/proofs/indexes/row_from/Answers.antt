use Rattle.std.proofs.Common.{◌≡◌, Bool, true, not, List, [], ◌∷◌, Option, Some, None, find, slice_get, refl, ap, sym, ◌∙◌}
use Rattle.std.specs.Ordering.{is_lt}
use Rattle.wm_ordered.specs.Orders.{spot_cmp}
use Rattle.wm_ordered.proofs.indexes.row_from.Goals as goal

module _ {X : Type 0} (p : X → Bool) where
  abbrev got : Option X → X → X
  got None x = x
  got (Some y) x = y

  none : (xs : List X) → slice_get xs 0 ≡ None → find p xs ≡ None
  none [] h = refl
  none (x ∷ xs) h = absurd (cc h)

  -- the first of all is found where it passes
  first : (xs : List X) (r : X) → slice_get xs 0 ≡ Some r → p r ≡ true → find p xs ≡ Some r
  first [] r h passes = absurd (cc h)
  first (x ∷ xs) r h passes =
      let same : x ≡ r = ap (λ o. got o x) h in
      let here : p x ≡ true = ap p same ∙ passes in
      rw here h

pub returns-in_default : goal.returns-in_default
returns-in_default c = sym (none (λ r. not (is_lt (spot_cmp r.0 c.args.begin.now))) c.args.rows.now.items (sym c.in_default.ensures))

pub returns : goal.returns
returns c =
    let above : not (is_lt (spot_cmp c.in-Some.first.0 c.args.begin.now)) ≡ true = ap not (sym (c.is_lt.ensures ∙ ap is_lt c.cmp.ensures) ∙ c.if-is_lt.false) in
    sym (first (λ r. not (is_lt (spot_cmp r.0 c.args.begin.now))) c.args.rows.now.items c.in-Some.first (sym c.in-Some.ensures) above)
