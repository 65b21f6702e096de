use Rattle.std.proofs.Common.{◌≡◌, ◌∙◌, ◌+◌, ℕ, suc, true, length, sym, refl, subst, inl, inr, rules, arith, IsTrue, IsErrOf, List, Some, slice_get}
use Rattle.std.proofs.lemmas.Option.{slice_get_read}
use Rattle.sqlite.specs.State.{State, HasCleanDisk, KeepsCommit, IsRolledBack}
use Rattle.sqlite.specs.Held.{Held, state}
use Rattle.sqlite.specs.Store.{Ghosts}
use Rattle.sqlite.specs.Steps.{FailsToCommit}
use Rattle.sqlite.specs.declared.error.Error.{Error}
use Rattle.wm_traits.specs.declared.fault.KeepFault.TheVariants.{Failed}
use Rattle.wm_traits.specs.declared.row.RowChange.{RowChange}
use Rattle.wm_sqlkeep.specs.Changes.{IsAsItWas}
use Rattle.wm_sqlkeep.specs.Causes.{IsFault, AreMade, FailsToApply}
use Rattle.wm_sqlkeep.specs.Done.{Applies}
use Rattle.sqlite.proofs.InsideLemmas.{keeps_then}
use Rattle.wm_sqlkeep.proofs.table.apply.Goals as goal
use Rattle.wm_base.proofs.Lists.{on_err}

module _ (old mid new : State) (settled : IsTrue old.is_open → old.now ≡ old.committed) (kept : KeepsCommit old mid) where
  -- what was rolled back before anything was committed is as it was
  undone : IsRolledBack mid new → IsTrue new.is_open → (new.now ≡ old.now) × (new.committed ≡ old.committed)
  undone back is_open =
      let mid_open = back.was_open is_open in
      let same = kept.committed mid_open in
      ((back.undone is_open).0 ∙ same ∙ sym (settled (kept.was_open mid_open)), (back.undone is_open).1 ∙ same)

  -- and so it is after a commit that failed
  uncommitted : (e : Error) → IsTrue mid.in_transaction → FailsToCommit mid new e → IsTrue new.is_open → (new.now ≡ old.now) × (new.committed ≡ old.committed)
  uncommitted e inside (inl failed) = undone failed.3
  uncommitted e inside (inr ended) = absurd (let x = ended.1 in cc)

-- the changes with the next one
one_more : {S : Type 0} (g : Ghosts S) (changes : List RowChange) (n : ℕ) (old new : Held S) → AreMade g changes (suc n) old new → AreMade g changes (n + 1) old new
one_more g changes n old new made = let same : suc n ≡ n + 1 = omega arith in subst (λ k. AreMade g changes k old new) same made

pub changes-init : goal.changes-init
changes-init g c = (refl, λ clean. rw c.transaction-tx.ensures.begun (record { was_open = λ h. h; committed = λ _. refl }, refl, refl))

pub changes-preserved : goal.changes-preserved
changes-preserved g c = (
  c.write.ensures.same_reference ∙ c.changes.invariant.0,
  λ clean.
      let was = c.changes.invariant.1 (omega (arith, c.write.ensures.survives.clean)) in (
        keeps_then (state g.S.Store c.args.conn.now) (state g.S.Store c.changes.tx.conn.now) (state g.S.Store c.write.new.tx.conn.now) was.0 (c.write.ensures.kept clean),
        c.in_ok-write.ensures.inside clean,
        one_more g.S.Store c.args.changes.now c.changes.change-index _ _
            (c.changes.tx.conn.now, was.2, c.change-item.result, slice_get_read c.args.changes.now _ c.changes.change-index c.change-item.result refl (omega arith) c.change-item.is, c.in_ok-write.ensures.made clean was.1),
      ),
)

pub returns-in_err-write-clause-err : goal.returns-in_err-write-clause-err
returns-in_err-write-clause-err g c =
    let old = state g.S.Store c.args.conn.now in
    let mid = state g.S.Store c.write.new.tx.conn.now in
    let end = state g.S.Store c.drop-tx.new.self.0 in
    let all : IsAsItWas old end = λ clean.
    let early : HasCleanDisk mid = omega (arith, c.drop-tx.ensures.survives.clean, clean) in
    let before : HasCleanDisk (state g.S.Store c.changes.tx.conn.now) = omega (arith, c.write.ensures.survives.clean, early) in
    let kept = keeps_then old (state g.S.Store c.changes.tx.conn.now) mid (c.changes.invariant.1 before).0 (c.write.ensures.kept early) in
    undone old mid end (c.if-not-is_autocommit.ensures.settled refl) kept (c.drop-tx.ensures.undone clean) in
    search (rules, on_err)

pub returns-in_err-write-clause-failed : goal.returns-in_err-write-clause-failed
returns-in_err-write-clause-failed g c clean is =
    let mid = state g.S.Store c.write.new.tx.conn.now in
    let end = state g.S.Store c.drop-tx.new.self.0 in
    let why : HasCleanDisk end → IsErrOf c.write.result Failed → FailsToApply g.S.Store c.args.changes.now c.args.conn.now c.drop-tx.new.self.0 = λ clean is.
    let early : HasCleanDisk mid = omega (arith, c.drop-tx.ensures.survives.clean, clean) in
    let was = c.changes.invariant.1 (omega (arith, c.write.ensures.survives.clean, early)) in
    let at : slice_get c.args.changes.now c.changes.change-index ≡ Some c.change-item.result = slice_get_read c.args.changes.now _ c.changes.change-index c.change-item.result refl (omega arith) c.change-item.is in
    inr (
      c.changes.change-index,
      c.changes.tx.conn.now,
      was.2,
      inl (c.write.new.tx.conn.now, c.change-item.result, at, c.write.ensures.failed early was.1 is, c.drop-tx.ensures.survives.counts),
    ) in
    let same : c.drop-tx.new.self.0 ≡ c.conn-1.given.0 = search rules in
    let late : HasCleanDisk end = subst (λ h. HasCleanDisk (state g.S.Store h)) (sym same) clean in
    let failed : IsErrOf c.write.result Failed = search rules in
    subst (FailsToApply g.S.Store c.args.changes.now c.args.conn.now) same (why late failed)

pub returns-in-Err-clause-err : goal.returns-in-Err-clause-err
returns-in-Err-clause-err g c =
    let old = state g.S.Store c.args.conn.now in
    let mid = state g.S.Store c.changes.tx.conn.now in
    let end = state g.S.Store c.commit.new.self.0 in
    let all : IsAsItWas old end = λ clean.
    let early : HasCleanDisk mid = omega (arith, c.commit.ensures.survives.clean, clean) in
    uncommitted old mid end (c.if-not-is_autocommit.ensures.settled refl) (c.changes.invariant.1 early).0 c.in-Err.error (c.changes.invariant.1 early).1 (c.in-Err.ensures.err clean) in
    search (rules, on_err)

pub returns-in-Err-clause-failed : goal.returns-in-Err-clause-failed
returns-in-Err-clause-failed g c clean is =
    let end = state g.S.Store c.commit.new.self.0 in
    let why : HasCleanDisk end → IsFault c.in-Err.error → FailsToApply g.S.Store c.args.changes.now c.args.conn.now c.commit.new.self.0 = λ clean is.
    let was = c.changes.invariant.1 (omega (arith, c.commit.ensures.survives.clean, clean)) in
    inr (c.changes.change-index, c.changes.tx.conn.now, was.2, inr (c.in-Err.error, is, c.in-Err.ensures.err clean)) in
    let same : c.commit.new.self.0 ≡ c.conn-2-1.given.0 = search rules in
    let late : HasCleanDisk end = subst (λ h. HasCleanDisk (state g.S.Store h)) (sym same) clean in
    let fault : IsFault c.in-Err.error = (let e = is in let k = c.keep_fault.ensures in cc) in
    subst (FailsToApply g.S.Store c.args.changes.now c.args.conn.now) same (why late fault)

pub returns-in-Ok-clause-made : goal.returns-in-Ok-clause-made
returns-in-Ok-clause-made g c clean =
    let end = c.commit.new.self.0 in
    let all : HasCleanDisk (state g.S.Store end) → Applies g.S.Store c.args.changes.now c.args.conn.now end = λ clean.
    let was = c.changes.invariant.1 (omega (arith, c.commit.ensures.survives.clean, clean)) in
    let ended : c.changes.change-index ≡ length c.args.changes.now = omega arith in
    let made = subst (λ n. AreMade g.S.Store c.args.changes.now n (record c.args.conn.now { in_transaction = true }) c.changes.tx.conn.now) ended was.2 in
    let done = c.in-Ok.ensures.ok clean in
    inr (c.changes.tx.conn.now, made, (done.1, done.2, done.3)) in
    let same : end ≡ c.conn-2-1.given.0 = search rules in
    let late : HasCleanDisk (state g.S.Store end) = subst (λ h. HasCleanDisk (state g.S.Store h)) (sym same) clean in
    subst (Applies g.S.Store c.args.changes.now c.args.conn.now) same (all late)
