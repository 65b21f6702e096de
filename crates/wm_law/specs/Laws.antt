-- Laws of the machine: what its definitions come to.
use Rattle.std.specs.Prelude.{◌≡◌, ℕ, ◌<◌, ◌≤◌, ◌⊎◌, true, false, List, [], ◌∷◌, Some, None}
use Rattle.std.specs.Ordering.{nat_cmp, is_lt}
use Rattle.std.specs.Cmp.Lexicographic.{slice_cmp}
use Rattle.wm_base.specs.declared.qname.QName.{QName}
use Rattle.wm_base.specs.declared.refusal.Refusal.{Refusal}
use Rattle.wm_law.specs.declared.call.Call.{Call}
use Rattle.wm_law.specs.declared.call.Reply.TheVariants.{No, Nothing}
use Rattle.wm_law.specs.declared.choice.Candidate.{Candidate}
use Rattle.wm_law.specs.declared.choice.Rank.{Rank}
use Rattle.wm_law.specs.declared.job.Job.{Job}
use Rattle.wm_desc.specs.declared.description.Sbsd.{Sbsd}
use Rattle.wm_desc.specs.declared.entry.RouteEntry.{RouteEntry}
use Rattle.wm_desc.specs.Sorted.{IsSortedOnce}
use Rattle.wm_law.specs.declared.state.State.{State}
use Rattle.wm_law.specs.History.{is_hand}
use Rattle.wm_law.specs.Choice.{Turn, candidate, first, is_allowed, is_before, is_ready, next, place_cmp, turn_of}
use Rattle.wm_law.specs.Launch.{is_match, route}
use Rattle.wm_law.specs.Settling.{settle}
use Rattle.wm_law.specs.Machine.{apply, step, with_clock}

-- the element stands in the list
abbrev pub IsIn : {X : Type 0} → X → List X → Type 0
IsIn x [] = ⊥
IsIn x (y ∷ ys) = (x ≡ y) ⊎ IsIn x ys

-- the job may start in the turn: it is ready, the turn is its own, and the limits allow it
pub record MayStart (s : State) (j : Job) (t : Turn) : Type 0 where
  pub ready : is_ready s j ≡ true
  pub turn : turn_of s j ≡ Some t
  pub allowed : is_allowed s t.sbs t.sbsd t.entry j.pty ≡ true

-- no job may start
abbrev pub LeavesNone : State → Type 0
LeavesNone s = (j : Job) (t : Turn) → IsIn j s.jobs → MayStart s j t → ⊥

-- in a subsystem the first rank comes before the second: by the entries' sequence numbers, for one number by the priorities, and for one priority by the places
abbrev pub ComesBefore : Rank → Rank → Type 0
ComesBefore a b =
    (a.seq < b.seq)
    ⊎ (((a.seq ≡ b.seq) × (a.pty < b.pty)) ⊎ ((a.seq ≡ b.seq) × (a.pty ≡ b.pty) × (a.place < b.place)))

-- what is less in the order of a subsystem comes before
abbrev pub LesserComesBefore : Type 0
LesserComesBefore = (a b : Rank) → is_lt (place_cmp a b) ≡ true → ComesBefore a b

-- the job is the first of its subsystem: it may start, and no job there that may start stands before it
pub record IsFirst (s : State) (j : Job) (t : Turn) : Type 0 where
  pub job : IsIn j s.jobs
  pub may : MayStart s j t
  pub none_before : (k : Job) (u : Turn) → IsIn k s.jobs → MayStart s k u → is_before u k t j ≡ true → ⊥

-- no job may start in a subsystem whose simple name comes before
pub record IsOfLeast (s : State) (t : Turn) : Type 0 where
  pub none_earlier : (k : Job) (u : Turn) → IsIn k s.jobs → MayStart s k u → is_lt (slice_cmp nat_cmp u.sbs.sbsd.name t.sbs.sbsd.name) ≡ true → ⊥

-- what is named to start next is a first job, by its serial, its subsystem and its queue
pub record IsNamed (c : Candidate) (j : Job) (t : Turn) : Type 0 where
  pub serial : c.serial ≡ j.serial
  pub sbs : c.sbs ≡ t.sbs.sbsd
  pub jobq : c.jobq ≡ t.entry.jobq

-- the first of a subsystem is the candidate of a job that may start there, and no job that may start there stands before it
abbrev pub FirstIsLeast : Type 0
FirstIsLeast = (s : State) (sbs : QName) (c : Candidate) → first s sbs ≡ Some c → (j : Job) × ((t : Turn) × (IsFirst s j t × IsNamed c j t × (candidate s j ≡ Some c) × (t.sbs.sbsd ≡ sbs)))

-- where a subsystem has no first, no job may start there
abbrev pub NoFirstIsNone : Type 0
NoFirstIsNone = (s : State) (sbs : QName) → first s sbs ≡ None → (j : Job) (t : Turn) → IsIn j s.jobs → MayStart s j t → t.sbs.sbsd ≡ sbs → ⊥

-- the next job is the first of its subsystem, and no subsystem with a job that may start comes before that one
abbrev pub NextIsFirst : Type 0
NextIsFirst = (s : State) (c : Candidate) → next s ≡ Some c → (j : Job) × ((t : Turn) × (IsFirst s j t × IsOfLeast s t × IsNamed c j t))

-- where there is no next job, no job may start
abbrev pub NoNextIsNone : Type 0
NoNextIsNone = (s : State) → next s ≡ None → LeavesNone s

-- the entry is the description's, routing data passes it, and passes none of a lesser number
pub record IsRoute (d : Sbsd) (rtgdta : List ℕ) (e : RouteEntry) : Type 0 where
  pub stands : IsIn e d.routes
  pub matches : is_match e.cmp rtgdta ≡ true
  pub least : (o : RouteEntry) → IsIn o d.routes → is_match o.cmp rtgdta ≡ true → e.seq ≤ o.seq

-- of entries in the order of their numbers, as descriptions have them, the route is the matching one of least number
abbrev pub RouteIsLeast : Type 0
RouteIsLeast = (d : Sbsd) (rtgdta : List ℕ) (e : RouteEntry) → IsSortedOnce (λ n. n.seq) nat_cmp d.routes → route d rtgdta ≡ Some e → IsRoute d rtgdta e

-- where there is no route, routing data passes no entry
abbrev pub NoRouteIsNone : Type 0
NoRouteIsNone = (d : Sbsd) (rtgdta : List ℕ) → route d rtgdta ≡ None → (o : RouteEntry) → IsIn o d.routes → is_match o.cmp rtgdta ≡ true → ⊥

-- after settling there is no next job
abbrev pub SettledHasNoNext : Type 0
SettledHasNoNext = (s : State) → next (settle s) ≡ None

-- after settling no job may start
abbrev pub SettledLeavesNone : Type 0
SettledLeavesNone = (s : State) → LeavesNone (settle s)

-- a refused call leaves the state
abbrev pub RefusalLeaves : Type 0
RefusalLeaves = (s : State) (caller : ℕ) (call : Call) (x : Refusal) → (apply s caller call).reply ≡ No x → (apply s caller call).state ≡ s

-- a step that refuses sets the clock and settles, and does nothing else
abbrev pub RefusedStepSettles : Type 0
RefusedStepSettles = (s : State) (caller : ℕ) (call : Call) (moment : ℕ) (x : Refusal) → (step s caller call moment).reply ≡ No x → (step s caller call moment).state ≡ settle (with_clock s moment)

-- no call is answered Nothing, Hand aside
abbrev pub CallsAreAnswered : Type 0
CallsAreAnswered = (s : State) (caller : ℕ) (call : Call) (moment : ℕ) → is_hand call ≡ false → (step s caller call moment).reply ≡ Nothing → ⊥
