use Rattle.std.proofs.Common.{rules, arith, ◌≡◌, ◌∙◌, refl, ap, map, None, sym, subst, IsErrOf, inl, inr, [], ◌∷◌, ◌++◌, List, Ok}
use Rattle.sqlite.specs.Store.{Ghosts}
use Rattle.sqlite.specs.Order.{Row}
use Rattle.sqlite.specs.State.{HasCleanDisk, IsUnchanged}
use Rattle.sqlite.specs.Held.{Held, state}
use Rattle.sqlite.specs.Given.{HasGiven, HasBegun}
use Rattle.sqlite.proofs.Callers.{given_begin, unchanged_then}
use Rattle.std.proofs.lemmas.List.{map-append}
use Rattle.wm_traits.specs.declared.row.Row.{Row as Made}
use Rattle.wm_sqlkeep.specs.Done.{first_columns, Loads}
use Rattle.wm_traits.specs.declared.fault.KeepFault.TheVariants.{Failed}
use Rattle.wm_sqlkeep.specs.Causes.{load_text, columns_of, IsFault, IsLater, FailsToGive, FailsToLoad}
use Rattle.wm_sqlkeep.proofs.Asking.{load_asks}
use Rattle.wm_sqlkeep.proofs.table.load.Goals as goal

module _ {S : Type 0} (g : Ghosts S) where
  -- the load's query begins with no row given
  begun : (old new : Held S) → HasBegun g load_text [] old new → HasGiven g load_text [] new [] × IsUnchanged (state g old) (state g new)
  begun old new (inl asked) = asked
  begun old new (inr wrote) = absurd (load_asks old.schema wrote.0)

  -- a fault at the next row is one of the load
  fails : (old mid new : Held S) (given : List Row) → HasGiven g load_text [] mid given → IsLater g old mid → FailsToGive g mid new → FailsToLoad g old new
  fails old mid new given has later (inl failed) = inl (failed.0, failed.1, mid, later, failed.2 load_text [] given has)
  fails old mid new given has later (inr gave) = inr (given, gave.0, given_begin g load_text [] new _ (gave.1.0 load_text [] given has), gave.2)

pub returns-in-Err-clause-failed : goal.returns-in-Err-clause-failed
returns-in-Err-clause-failed g c clean is =
    let fault : IsFault c.in-Err.error = (let e = is in let k = c.keep_fault.ensures in cc) in
    let refused = rw c.in-Err.is at c.query.follows.holds-at-none in
    inl (c.in-Err.error, fault, c.args.conn.now, inl refl, refused.err clean)

pub rows-init : goal.rows-init
rows-init g c =
    let made = c.in-Ok.ensures in
    let start = λ (clean : HasCleanDisk (state g.S.Store c.in-Ok.rows.conn.now)). begun g.S.Store c.args.conn.now c.in-Ok.rows.conn.now (made.begun clean) in
    (refl, made.survives.counts, λ clean. (([], (start clean).0, search rules), (start clean).1))

pub returns-in_err-row-clause-failed : goal.returns-in_err-row-clause-failed
returns-in_err-row-clause-failed g c clean is =
    let now = c.next_row.new.rows.conn.now in
    let why : HasCleanDisk (state g.S.Store now) → IsErrOf c.next_row.result Failed → FailsToLoad g.S.Store c.args.conn.now now = λ clean is.
    let was = c.rows.invariant.2 (omega (arith, c.next_row.ensures.survives.clean, clean)) in
    fails g.S.Store c.args.conn.now c.rows.rows.conn.now now was.0.0 was.0.1 (inr (was.1, c.rows.invariant.1)) (c.next_row.ensures.failed clean is) in
    let same : now ≡ c.conn-in_err-row-1.given.0 = search rules in
    let early : HasCleanDisk (state g.S.Store now) = subst (λ h. HasCleanDisk (state g.S.Store h)) (sym same) clean in
    let failed : IsErrOf c.next_row.result Failed = search rules in
    subst (FailsToLoad g.S.Store c.args.conn.now) same (why early failed)

-- one more row that is loaded as it was given
one_more_row : (given : List Row) (rows : List Made) (row : Row) (made : Made) → map first_columns given ≡ map columns_of rows → first_columns row ≡ columns_of made
    → map first_columns (given ++ row ∷ []) ≡ map columns_of (rows ++ made ∷ [])
one_more_row given rows row made same next =
    map-append first_columns given (row ∷ []) ∙ ap (λ l. l ++ first_columns row ∷ []) same ∙ ap (λ x. map columns_of rows ++ x ∷ []) next ∙ sym (map-append columns_of rows (made ∷ []))

pub rows-preserved : goal.rows-preserved
rows-preserved g c =
    let old = state g.S.Store c.args.conn.now in
    let mid = state g.S.Store c.rows.rows.conn.now in
    let now = state g.S.Store c.next_row.new.rows.conn.now in (
      c.next_row.ensures.same_reference ∙ c.rows.invariant.0,
      omega (arith, c.next_row.ensures.survives.counts, c.rows.invariant.1),
      λ clean.
          let was = c.rows.invariant.2 (omega (arith, c.next_row.ensures.survives.clean, clean)) in
          let gave = rw c.in-Some.is at (c.in_ok-row.ensures.given clean) in
          let pushed : c.push.new.self.items ≡ c.rows.loaded.items ++ c.in-Some.row ∷ [] = search rules in
          let same = subst (λ l. map first_columns (was.0.0 ++ gave.0 ∷ []) ≡ map columns_of l) (sym pushed) (one_more_row was.0.0 c.rows.loaded.items gave.0 c.in-Some.row was.0.2 gave.2) in
          ((was.0.0 ++ gave.0 ∷ [], gave.1.0 load_text [] was.0.0 was.0.1, same), unchanged_then old mid now was.1 gave.1.1),
    )

pub returns-in_default-clause-given : goal.returns-in_default-clause-given
returns-in_default-clause-given g c clean =
    let now = c.next_row.new.rows.conn.now in
    let ended : c.next_row.result ≡ Ok None = search rules in
    let all : HasCleanDisk (state g.S.Store now) → Loads g.S.Store c.args.conn.now now c.rows.loaded.items = λ clean.
    let was = c.rows.invariant.2 (omega (arith, c.next_row.ensures.survives.clean, clean)) in
    (c.rows.rows.conn.now, inr (was.1, c.rows.invariant.1), was.0.0, c.next_row.ensures.end clean ended load_text [] was.0.0 was.0.1, was.0.2) in
    let same : now ≡ c.conn-in_default-1.given.0 = search rules in
    let late : HasCleanDisk (state g.S.Store now) = subst (λ h. HasCleanDisk (state g.S.Store h)) (sym same) clean in
    subst (λ h. Loads g.S.Store c.args.conn.now h c.rows.loaded.items) same (all late)
