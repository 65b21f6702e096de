-- The history of a server from the rows that it found.
use Rattle.std.proofs.Common.{◌≡◌, ◌⊎◌, ◌≤◌, ℕ, ℤ, List, [], Option, Some, None, IfSome, is_some, refl, sym, ap, subst, ◌∙◌, inl, inr, arith}
use Rattle.std.specs.Prelude.{⊤}
use Rattle.wm_traits.specs.Told.{Stays}
use Rattle.wm_traits.proofs.Telling.{Grows-none}
use Rattle.wm_traits.specs.declared.row.Row.{Row}
use Rattle.wm_tables.specs.Restart.{IsBad}
use Rattle.wm_floor.specs.Keeping.{IsLeft, Telling}
use Rattle.wm_floor.specs.OpenFaults.{NamesBad}
use Rattle.wm_floor.specs.declared.open_fault.OpenFault.{OpenFault}
use Rattle.wm_floor.specs.declared.open_fault.OpenFault.TheVariants.{KeeperFault, BadRow, NoMemory}
use Rattle.wm_run.specs.Kept.{HasBadRow, IsUnopened, open_status}
use Rattle.wm_run.proofs.Openings.{open_early, opened_none}
use Rattle.wm_floor.specs.Floor.{IsLeftOrOpened}
use Rattle.wm_serve.specs.Ending.{HasWritten}
use Rattle.wm_serve.specs.Server.{HasHistory, HasNone, IsServeStatus}

-- A server whose floor didn't open

pub unopened_server : (offset : ℤ) (fault : OpenFault) (status : ℕ) (old new : Telling) → status ≡ open_status fault → IsLeftOrOpened offset old new fault → is_some old.trail ≡ is_some old.tables → is_some new.trail ≡ is_some new.tables → HasNone offset status old new
unopened_server offset fault status old new is left both both' = record { early = subst IsUnopened (sym is) (open_early fault); left = by left }
  where
    by : IsLeftOrOpened offset old new fault → IsLeft old new ⊎ ((status ≡ 6) × HasHistory offset status [] old new (λ opened es. ⊤))
    by (inl same) = inl same
    by (inr (memory, opened)) =
        let six : status ≡ 6 = is ∙ ap open_status memory in
        inr (six, opened_none offset opened.0 old new opened.1 both both' (record { idle = λ none. absurd (omega (arith, six, none)); done = tt }))

-- its status is none of words, and none but that of a fault of the rows
pub open_begun : (fault : OpenFault) (status : ℕ) → status ≡ open_status fault → 5 ≤ status
open_begun KeeperFault status is = omega arith
open_begun (BadRow n) status is = omega arith
open_begun NoMemory status is = omega arith

open_listed : (fault : OpenFault) → IsServeStatus (open_status fault)
open_listed KeeperFault = refl
open_listed (BadRow n) = refl
open_listed NoMemory = refl

pub unopened_listed : (fault : OpenFault) (status : ℕ) → status ≡ open_status fault → IsServeStatus status
unopened_listed fault status is = subst IsServeStatus (sym is) (open_listed fault)

pub open_failed : (fault : OpenFault) (status : ℕ) → status ≡ open_status fault → status ≡ 5 → fault ≡ KeeperFault
open_failed KeeperFault status is five = refl
open_failed (BadRow n) status is five = absurd (omega arith)
open_failed NoMemory status is five = absurd (omega arith)

-- of statuses between that of a keeper's fault and that of rows there is one
pub open_only : (fault : OpenFault) (status : ℕ) → status ≡ open_status fault → (status ≡ 5) ⊎ ((status ≡ 6) ⊎ (status ≡ 9))
open_only KeeperFault status is = inl is
open_only (BadRow n) status is = inr (inr is)
open_only NoMemory status is = inr (inl is)

bad_row_kept : (offset : ℤ) (n : ℕ) (old new : Option (List Row)) → IfSome old (λ rows. IsBad offset rows n) → Stays old new → HasBadRow offset old new
bad_row_kept offset n old None bad stays = tt
bad_row_kept offset n None (Some now) bad stays = absurd stays
bad_row_kept offset n (Some before) (Some now) bad stays = (ap Some (sym stays), (n, subst (λ (rows : List Row). IsBad offset rows n) (sym stays) bad))

pub bad_row_told : (offset : ℤ) (fault : OpenFault) (status : ℕ) (old new : Telling) → status ≡ open_status fault → NamesBad offset old.tables fault → IsLeftOrOpened offset old new fault → status ≡ 9 → HasBadRow offset old.tables new.tables
bad_row_told offset KeeperFault status old new is bad left nine = absurd (omega arith)
bad_row_told offset NoMemory status old new is bad left nine = absurd (omega arith)
bad_row_told offset (BadRow n) status old new is bad (inl left) nine = bad_row_kept offset n old.tables new.tables bad left.tables
bad_row_told offset (BadRow n) status old new is bad (inr (memory, opened)) nine = absurd (cc)

-- it wrote nothing
pub written_none : (status : ℕ) (told : Option (List ℕ)) → (status ≡ 0 → ⊥) → HasWritten status told told
written_none status told early = record { part = (0, Grows-none told); all = λ ended. absurd (early ended) }
