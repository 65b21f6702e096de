use Rattle.std.proofs.Common.{◌≡◌, refl, sym, subst, ℕ, false, IsTrue, inl, inr, List, Result}
use Rattle.std.proofs.lemmas.Bool.{cases_Bool}
use Rattle.sqlite.specs.Store.{Ghosts}
use Rattle.sqlite.specs.Order.{Row}
use Rattle.sqlite.specs.declared.error.Error.{Error}
use Rattle.sqlite.specs.State.{KeepsCommit, ExecutesInside}
use Rattle.sqlite.specs.Held.{Held, state}
use Rattle.sqlite.proofs.InsideLemmas.{inside_keeps}
use Rattle.wm_sqlkeep.proofs.table.execute.Goals as goal

-- outside a transaction nothing is done, and inside it nothing is committed
keeps : {S R : Type 0} (g : Ghosts S) (old new : Held S) (sql : List ℕ) (params : Row) (r : Result ℕ Error) → (old.in_transaction ≡ false → R × (new ≡ old))
    → (IsTrue old.in_transaction → ExecutesInside 0 sql params (state g old) (state g new) r) → KeepsCommit (state g old) (state g new)
keeps g old new sql params r ended runs = elim (cases_Bool old.in_transaction) [
  | inl inside ↦ inside_keeps (state g old) (state g new) 0 false sql params r (runs inside)
  | inr outside ↦ subst (λ h. KeepsCommit (state g old) (state g h)) (sym (ended outside).1) (record { was_open = λ h. h; committed = λ _. refl })
]

pub returns-in-Put-clause-kept : goal.returns-in-Put-clause-kept
returns-in-Put-clause-kept g c clean =
    keeps g.S.Store c.args.tx.now.conn.now c.execute.new.self.conn.now _ _ c.execute.result c.execute.ensures.ended (c.execute.ensures.runs clean)
