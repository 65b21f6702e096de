-- What a reading command is answered: a listing of the state that the history reaches.
use Rattle.std.specs.Prelude.{ℕ, Bool, true, false, List, if◌then◌else◌}
use Rattle.wm_floor.specs.History.{History, reached}
use Rattle.wm_law.specs.declared.command.Ask.{Ask}
use Rattle.wm_law.specs.declared.command.Ask.TheVariants.{Active, Queue, Submitted, Subsystems, Job, Log, Pending}
use Rattle.wm_listing.specs.Listing.{listing_text}
use Rattle.wm_listing.specs.Log.{log_text}
use Rattle.wm_views.specs.Views.{shown}
use Rattle.wm_views.specs.declared.shown.Shown.{Shown}
use Rattle.wm_views.specs.declared.shown.Shown.TheVariants as view

-- the history itself is asked for, and no view of the state
abbrev pub is_log : Ask → Bool
is_log Active = false
is_log (Queue jobq) = false
is_log (Submitted user) = false
is_log Subsystems = false
is_log (Job reference) = false
is_log Log = true
is_log (Pending monitor) = false

-- whether what is shown is a refusal
abbrev pub is_no : Shown → Bool
is_no (view.Active lines) = false
is_no (view.Queue q) = false
is_no (view.Submitted lines) = false
is_no (view.Subsystems lines) = false
is_no (view.Job j) = false
is_no view.NoView = false
is_no (view.No refusal) = true

-- the bytes of the listing that is due behind a history
abbrev pub read_text : Ask → History → List ℕ
read_text ask h = if is_log ask then log_text h.log else listing_text (shown (reached h) ask)

-- whether it is the line of a refusal
abbrev pub is_read_refused : Ask → History → Bool
is_read_refused ask h = is_no (shown (reached h) ask)
