-- The head that a look finds, whatever its priority.
use Rattle.std.specs.Prelude.{◌≡◌, ℕ, ◌<◌, ◌≤◌, List, Some, None}
use Rattle.wm_base.specs.declared.qname.QName.{QName}
use Rattle.wm_ordered.specs.declared.waiter.Waiter.{Waiter}
use Rattle.wm_ordered.specs.Waiting.{head_of}

-- no priority of the queue from this one on has a head
abbrev pub HasNoHead : QName → ℕ → ℕ → List Waiter → Type 0
HasNoHead queue pty clock items = (p : ℕ) → pty ≤ p → head_of queue p clock items ≡ None

-- it is the head of its priority, which is the first of the queue from this one on that has a head
pub record IsNextHead (queue : QName) (pty clock : ℕ) (items : List Waiter) (w : Waiter) : Type 0 where
  pub from : pty ≤ w.pty
  pub head : head_of queue w.pty clock items ≡ Some w
  pub first : (p : ℕ) → pty ≤ p → p < w.pty → head_of queue p clock items ≡ None
