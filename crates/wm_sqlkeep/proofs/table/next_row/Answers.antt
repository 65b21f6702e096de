use Rattle.std.proofs.Common.{◌≡◌, IsTrue, IfSome, IfOk, Result, Ok, Err, Option, Some, None}
use Rattle.sqlite.specs.Order.{Row}
use Rattle.wm_traits.specs.declared.fault.KeepFault.{KeepFault}
use Rattle.wm_traits.specs.declared.row.Row.{Row as Made}
use Rattle.wm_sqlkeep.specs.Causes.{columns_of, Gives}
use Rattle.wm_sqlkeep.specs.Done.{first_columns}
use Rattle.wm_sqlkeep.proofs.table.next_row.Goals as goal

-- what holds of a row that is there, holds of what an answer shows
of_some : {X : Type 0} {P Q : X → Type 0} (r : Result (Option X) KeepFault) → IfOk r (λ next. IfSome next P) → ((x : X) → P x → Q x) → IfOk r (λ next. IfSome next Q)
of_some (Ok (Some x)) p f = f x p
of_some (Ok None) p f = tt
of_some (Err e) p f = tt

pub returns-in-Ok-clause-given : goal.returns-in-Ok-clause-given
returns-in-Ok-clause-given g c clean =
    let now = c.advance.new.self.conn.now in
    let gives : (made : Made) → IsTrue c.advance.new.self.has_row × (first_columns now.reading.row ≡ columns_of made)
    → (row : Row) × Gives g.S.Store c.args.rows.now.conn.now now row × (first_columns row ≡ columns_of made) =
    λ made stands. (now.reading.row, (rw stands.0 at (c.in-Ok.ensures.ok clean), c.in-Ok.ensures.same clean), stands.1) in
    of_some c.row_at.result c.row_at.ensures.some gives

pub returns-in-Ok-clause-end : goal.returns-in-Ok-clause-end
returns-in-Ok-clause-end g c clean ended = rw (c.row_at.ensures.none ended) at (c.in-Ok.ensures.ok clean)
