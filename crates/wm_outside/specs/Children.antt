-- The children of a spawner in memory, the longest out first.
use Rattle.std.specs.Prelude.{◌==◌, ℕ, nat_le, min, Bool, not, ◌&&◌, ◌||◌, List, map, filter, find, fold, slice_get, Option, Some, None, option_map, Result, Ok, Err, if◌then◌else◌}
use Rattle.wm_base.specs.declared.job.Event.{Event}
use Rattle.wm_base.specs.declared.job.Event.TheVariants.{Ended, Used}
use Rattle.wm_base.specs.declared.job.Exit.TheVariants.{Code, Killed}
use Rattle.wm_traits.specs.declared.fault.Failed.{Failed}
use Rattle.wm_outside.specs.declared.memory.children.Child.{Child}
use Rattle.wm_traits.specs.Spawner.{without_first}

abbrev pub serials : List Child → List ℕ
serials children = map (λ child. child.serial) children

-- the serials of the killed children
abbrev pub killed_ones : List Child → List ℕ
killed_ones children = serials (filter (λ child. child.killed) children)

-- the serials of the children that have ended by themselves by the look of this number
abbrev pub due_ones : ℕ → List Child → List ℕ
due_ones look children = serials (filter (λ child. not child.pre && nat_le child.due look) children)

-- this one, or the least so far
abbrev pub lesser : Option ℕ → ℕ → Option ℕ
lesser None serial = Some serial
lesser (Some least) serial = Some (min least serial)

-- the least of them
abbrev pub least_of : List ℕ → Option ℕ
least_of xs = fold lesser None xs

-- one value, or else another
abbrev pub either : Option ℕ → Option ℕ → Option ℕ
either None other = other
either (Some serial) other = Some serial

-- the longest-out child that isn't prestart, or else the longest-out child
abbrev pub longest_out : List Child → Option ℕ
longest_out children = either (option_map (λ child. child.serial) (find (λ child. not child.pre) children)) (option_map (λ child. child.serial) (slice_get children 0))

-- the end of this child by being killed, or else of this one by itself
abbrev pub end_of : Option ℕ → Option ℕ → Option Event
end_of (Some serial) other = Some (Ended serial Killed)
end_of None (Some serial) = Some (Ended serial (Code 0))
end_of None None = None

-- the report of the look of this number: the least serial of the killed children, or else of those that have ended
abbrev pub report_of : ℕ → List Child → Option Event
report_of look children = end_of (least_of (killed_ones children)) (least_of (due_ones look children))

-- the report of a wait without a moment: the least serial of the killed children, or else the longest-out child
abbrev pub awaited_of : List Child → Option Event
awaited_of children = end_of (least_of (killed_ones children)) (longest_out children)

-- the report of a wait, where with a moment it is one look
abbrev pub wait_report : Bool → ℕ → List Child → Option Event
wait_report has_moment look children = if has_moment then report_of look children else awaited_of children

-- a child, killed where it is this job's
abbrev pub marked : ℕ → Child → Child
marked job child = record child { killed = child.killed || child.serial == job }

-- the children without the first that is this job's
abbrev pub without : ℕ → List Child → List Child
without job children = without_first (λ child. child.serial == job) children

-- the children after a look: one whose end was reported isn't out any more
abbrev pub children_after : Result (Option Event) Failed → List Child → List Child
children_after (Ok (Some (Ended serial exit))) children = without serial children
children_after (Ok (Some (Used serial))) children = children
children_after (Ok None) children = children
children_after (Err failed) children = children
