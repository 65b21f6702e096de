-- How a trail grows with a history.
use Rattle.std.proofs.Common.{◌≡◌, ℤ, List, [], ◌∷◌, ◌++◌, Option, Some, None, IfSome, append_assoc, sym, ap, subst, ◌∙◌}
use Rattle.std.proofs.lemmas.List.{append-nil}
use Rattle.wm_traits.specs.declared.row.Row.{Row}
use Rattle.wm_traits.specs.Told.{Grows}
use Rattle.wm_traits.proofs.Telling.{Grows-then}
use Rattle.wm_law.specs.declared.call.Entry.{Entry}
use Rattle.wm_law.specs.declared.state.State.{State}
use Rattle.wm_law.specs.History.{after, stepped}
use Rattle.wm_tables.specs.Tables.{tables}
use Rattle.wm_floor.specs.Keeping.{added, Telling, IsOpened}
use Rattle.wm_floor.specs.Trail.{tables_along, without_repeats, HasTrail}

-- a history of no entry has the tables of its state
pub none_along : (rows : List Row) (s : State) → without_repeats rows (tables_along s []) ≡ added rows (tables s)
none_along rows s = append-nil (added rows (tables s))

-- a journal opens with the trail of its state
pub trail_opened : (offset : ℤ) (s : State) (old new : Telling) → IsOpened offset s old new → HasTrail (record { opened = s; log = [] }) old new
trail_opened offset s old new h = by old.tables h.told
  where
    by : (told : Option (List Row)) → IfSome told (λ rows. rows ≡ h.found) → IfSome told (λ rows. Grows old.trail new.trail (without_repeats rows (tables_along s [])))
    by None is = tt
    by (Some rows) is =
        let same : added h.found (tables s) ≡ without_repeats rows (tables_along s []) = ap (λ (found : List Row). added found (tables s)) (sym is) ∙ sym (none_along rows s) in
        subst (λ (xs : List (List Row)). Grows old.trail new.trail xs) same h.trail

-- one more entry adds the tables after it to those before it
pub one_more : (rows : List Row) (s : State) (log : List Entry) (e : Entry) → without_repeats rows (tables_along s (log ++ e ∷ [])) ≡ without_repeats rows (tables_along s log) ++ added (tables (after s log)) (tables (after s (log ++ e ∷ [])))
one_more rows s [] e =
    let first = added rows (tables s) in
    let second = added (tables s) (tables (stepped s e).state) in
    ap (λ (xs : List (List Row)). first ++ xs) (append-nil second) ∙ ap (λ (xs : List (List Row)). xs ++ second) (sym (append-nil first))
one_more rows s (x ∷ log) e =
    let first = added rows (tables s) in
    let t = (stepped s x).state in
    let more = added (tables (after t log)) (tables (after t (log ++ e ∷ []))) in
    ap (λ (xs : List (List Row)). first ++ xs) (one_more (tables s) t log e) ∙ sym (append_assoc first (without_repeats (tables s) (tables_along t log)) more)

-- the trail of a history with one more entry
pub trail_with : (s : State) (log : List Entry) (e : Entry) (old mid new : Telling) → HasTrail (record { opened = s; log = log }) old mid → Grows mid.trail new.trail (added (tables (after s log)) (tables (after s (log ++ e ∷ [])))) → HasTrail (record { opened = s; log = log ++ e ∷ [] }) old new
trail_with s log e old mid new has grows = by old.tables has
  where
    by : (told : Option (List Row)) → IfSome told (λ rows. Grows old.trail mid.trail (without_repeats rows (tables_along s log))) → IfSome told (λ rows. Grows old.trail new.trail (without_repeats rows (tables_along s (log ++ e ∷ []))))
    by None h = tt
    by (Some rows) h = subst (λ (xs : List (List Row)). Grows old.trail new.trail xs) (sym (one_more rows s log e)) (Grows-then old.trail mid.trail new.trail _ _ h grows)
