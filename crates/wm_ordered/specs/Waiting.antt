-- What a contract sees of the jobs that wait, and which of them is the head, or the first on a queue.
use Rattle.std.specs.Prelude.{◌≡◌, ℕ, ◌≤◌, Bool, not, ◌&&◌, ◌||◌, ◌==◌, nat_lt, nat_le, nat_eq, List, filter, fold, map, Option, Some, None, if◌then◌else◌}
use Rattle.std.specs.List.{Contains, list_any}
use Rattle.wm_base.specs.declared.qname.QName.{QName}
use Rattle.wm_desc.specs.Table.{same_qname}
use Rattle.wm_ordered.specs.Least.{sooner}
use Rattle.wm_ordered.specs.declared.waiter.Waiter.{Waiter}

-- the jobs that wait in the order of their serials, the greatest moment that was made due, and for how many more there is room
pub record Waiting : Type 0 where
  pub items : List Waiter
  pub clock : ℕ
  pub spare : ℕ

-- what they are sorted by
abbrev pub serial_of : Waiter → ℕ
serial_of w = w.serial

-- whether one of them has the place
abbrev pub has_place : ℕ → List Waiter → Bool
has_place place items = list_any (λ v. v.place == place) items

-- each has a place of its own
abbrev pub HavePlaces : List Waiter → Type 0
HavePlaces items = (v w : Waiter) → Contains items v → Contains items w → v.place ≡ w.place → v ≡ w

-- each has a priority of 1 to 9
abbrev pub HavePriorities : List Waiter → Type 0
HavePriorities items = (w : Waiter) → Contains items w → (1 ≤ w.pty) × (w.pty ≤ 9)

-- whether it is of the queue and the priority
abbrev pub is_of : QName → ℕ → Waiter → Bool
is_of queue pty w = same_qname w.jobq queue && w.pty == pty

-- whether it isn't held, and is due
abbrev pub is_up : ℕ → Waiter → Bool
is_up clock w = not w.held && nat_le w.due clock

-- whether it is due above the clock
abbrev pub is_ahead : ℕ → Waiter → Bool
is_ahead clock w = nat_lt clock w.due

-- whether it is of the queue and the priority, isn't held, and is due
abbrev pub is_turn : QName → ℕ → ℕ → Waiter → Bool
is_turn queue pty clock w = is_of queue pty w && is_up clock w

-- of two the one of lesser place, the first where neither has it
abbrev pub nearer : Option Waiter → Waiter → Option Waiter
nearer None w = Some w
nearer (Some v) w = if nat_lt w.place v.place then Some w else Some v

-- the head of a queue and a priority: of those that may have their turn, the one of least place
abbrev pub head_of : QName → ℕ → ℕ → List Waiter → Option Waiter
head_of queue pty clock items = fold nearer None (filter (is_turn queue pty clock) items)

-- whether it is on the queue
abbrev pub is_on : QName → Waiter → Bool
is_on queue w = same_qname w.jobq queue

-- whether it comes before another of its queue: by priority, then by place
abbrev pub is_before : Waiter → Waiter → Bool
is_before w v = nat_lt w.pty v.pty || (w.pty == v.pty && nat_lt w.place v.place)

-- of two the one that comes before the other, the first where neither does
abbrev pub earlier : Option Waiter → Waiter → Option Waiter
earlier None w = Some w
earlier (Some v) w = if is_before w v then Some w else Some v

-- the first of those on a queue, held or not, due or not
abbrev pub first_on : QName → List Waiter → Option Waiter
first_on queue items = fold earlier None (filter (is_on queue) items)

-- the next of those on the queue of one: the first of those that it comes before
abbrev pub next_on : Waiter → List Waiter → Option Waiter
next_on after items = first_on after.jobq (filter (is_before after) items)

-- the least moment above the clock at which one is due, held or not
abbrev pub next_due : ℕ → List Waiter → Option ℕ
next_due clock items = fold (λ least w. if is_ahead clock w then sooner least w.due else least) None items

-- another has its place only where that one has its serial too
abbrev pub HasOwnPlace : Waiter → List Waiter → Type 0
HasOwnPlace waiter items = (v : Waiter) → Contains items v → v.place ≡ waiter.place → v.serial ≡ waiter.serial

-- the jobs, with another in the place of the one of its serial
abbrev pub replaced : Waiter → List Waiter → List Waiter
replaced waiter items = map (λ v. if nat_eq v.serial waiter.serial then waiter else v) items
