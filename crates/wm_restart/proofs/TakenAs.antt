-- A row is taken as the one stored thing that it is the row of.
use Rattle.std.proofs.Common.{◌≡◌, ◌↔◌, ℕ, ◌<◌, ◌^◌, Bool, false, Option, Some, None, Result, Ok, Err, IfOk, IsTrue, codes, sym, subst, ap, inl, inr, arith}
use Rattle.wm_traits.specs.declared.row.Row.{Row}
use Rattle.wm_law.specs.declared.call.Reply.TheVariants.{Made, QueueHeld}
use Rattle.wm_law.specs.declared.state.State.{State}
use Rattle.wm_law.specs.Machine.{change}
use Rattle.wm_law.specs.Queues.{hold_queue}
use Rattle.wm_rows.specs.Fitting.{IsFitting}
use Rattle.wm_rows.specs.Rows.{row_of}
use Rattle.wm_rows.specs.declared.stored.Counter.{Counter}
use Rattle.wm_rows.specs.declared.stored.Counter.TheVariants as counter
use Rattle.wm_rows.specs.declared.stored.Stored.{Stored}
use Rattle.wm_rows.specs.declared.stored.Stored.TheVariants as stored
use Rattle.wm_tables.specs.Restart.{Takes, Makes, Holds, Enters, Counts, IsGoodCount}
use Rattle.wm_restart.specs.Plausible.{TakesNone}
use Rattle.wm_tables.proofs.CommandsFit.{row_commands_fit}

-- the machine takes the thing
abbrev pub IsTakenAs : State → Stored → Type 0
IsTakenAs s (stored.Made c) = (change s (codes "QSYS") c).reply ≡ Made
IsTakenAs s (stored.Held q) = (hold_queue s q).reply ≡ QueueHeld
IsTakenAs s (stored.Counter c n) = IsGoodCount s c n

-- a thing whose row is read as this
pub record IsReadAs (s : State) (o : Option Stored) : Type 0 where
  pub thing : Stored
  pub is : o ≡ Some thing
  pub as_it : IsTakenAs s thing

small : (s : State) (c : Counter) (n : ℕ) → IsGoodCount s c n → n < 2 ^ 64
small s counter.Number n h = let most = h.most in omega arith
small s counter.Place n h = let most = h.most in omega arith
small s counter.Schema n h = omega (arith, h)
small s counter.Serial n h = let most = h.most in omega arith

module _ (row : Row) (o : Option Stored) (exactly : (x : Stored) → IsFitting x → row_of x ≡ Some row → o ≡ Some x) (other : row.tab ≡ 11 → ⊥) (s t : State) where
  made : Makes s row t → IsReadAs s o
  made m = record { thing = stored.Made m.command; is = exactly (stored.Made m.command) (row_commands_fit m.command row m.fit m.is_row, m.fit) m.is_row; as_it = m.accepted }

  held : Holds s row t → IsReadAs s o
  held h = record { thing = stored.Held h.queue; is = exactly (stored.Held h.queue) h.fit (ap (λ (r : Row). Some r) h.is_row); as_it = h.accepted }

  entered : Enters s row t → IsReadAs s o
  entered e = absurd (other (ap (λ (r : Row). r.tab) (sym e.is_row)))

  counted : Counts s row t → IsReadAs s o
  counted k = record { thing = stored.Counter k.counter k.count; is = exactly (stored.Counter k.counter k.count) (small s k.counter k.count k.good) (ap (λ (r : Row). Some r) k.is_row); as_it = k.good }

  read_as : Takes s row t → IsReadAs s o
  read_as (inl m) = made m
  read_as (inr (inl h)) = held h
  read_as (inr (inr (inl e))) = entered e
  read_as (inr (inr (inr k))) = counted k

module _ (row : Row) (s : State) (other : row.tab ≡ 11 → ⊥) where
  pub none_taken : ((x : Stored) → IsFitting x → row_of x ≡ Some row → None ≡ Some x) → TakesNone s row
  none_taken exactly = λ t h. (let r = read_as row None exactly other s t h in let e = r.is in absurd (cc))

  pub one_taken : (x : Stored) → ((y : Stored) → IsFitting y → row_of y ≡ Some row → Some x ≡ Some y) → (IsTakenAs s x → ⊥) → TakesNone s row
  one_taken x exactly never =
      λ t h.
      let r = read_as row (Some x) exactly other s t h in
      let same : r.thing ≡ x = cc (sym r.is) in
      never (subst (IsTakenAs s) same r.as_it)

-- what follows of a value from both facts of it
pub if_both : {T E : Type 0} (P Q R : T → Type 0) → ((t : T) → P t → Q t → R t) → (r : Result T E) → IfOk r P → IfOk r Q → IfOk r R
if_both P Q R f (Ok t) h g = f t h g
if_both P Q R f (Err e) h g = tt

pub refused : (P : Type 0) (b : Bool) → (IsTrue b ↔ P) → b ≡ false → P → ⊥
refused P b iff e p = let t : IsTrue b = iff.1 p in absurd (cc)
