-- The head of a queue that a look finds, whatever its priority.
use Rattle.std.specs.Prelude.{◌≡◌, ℕ, ◌<◌, ◌≤◌, Some, None, option_map}
use Rattle.wm_base.specs.declared.qname.QName.{QName}
use Rattle.wm_law.specs.declared.state.State.{State}
use Rattle.wm_ordered.specs.declared.waiter.Waiter.{Waiter}
use Rattle.wm_pick.specs.Heads.{head_of}
use Rattle.wm_pick.specs.Parts.{waiter_on}

-- no priority of the queue from this one on has a head
abbrev pub HasNoHead : State → QName → ℕ → Type 0
HasNoHead s queue pty = (p : ℕ) → pty ≤ p → head_of s queue p ≡ None

-- it is the head of its priority
abbrev pub IsHead : State → QName → Waiter → Type 0
IsHead s queue w = Some w ≡ option_map (waiter_on queue) (head_of s queue w.pty)

-- it is the head of its priority, which is the first of the queue from this one on that has a head
pub record IsNextHead (s : State) (queue : QName) (pty : ℕ) (w : Waiter) : Type 0 where
  pub from : pty ≤ w.pty
  pub head : IsHead s queue w
  pub first : (p : ℕ) → pty ≤ p → p < w.pty → head_of s queue p ≡ None
