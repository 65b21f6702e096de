-- What a call of a ledger keeps.
use Rattle.std.proofs.Common.{◌≡◌, ◌≤◌, ℕ, ℤ, List, [], Option, sym, refl, subst, arith}
use Rattle.wm_traits.specs.declared.row.Row.{Row}
use Rattle.wm_law.specs.declared.call.Entry.{Entry}
use Rattle.wm_floor.specs.Journaled.{IsJournal}
use Rattle.wm_floor.specs.Keeping.{telling, IsOpened}
use Rattle.wm_floor.specs.Stored.{Stored}
use Rattle.wm_floor.proofs.Trails.{trail_opened}
use Rattle.wm_floor.specs.Ledger.{IsLedger, Ledgered}
use Rattle.wm_floor.proofs.Counts.{risen_none}

module _ {K : Type 0} (faults : K → ℕ) (rows : K → Option (List Row)) (rows_had : K → Option (List (List Row))) where
  -- a ledger of a machine that was opened with a keeper
  abbrev opened_with : K → Stored K → List Entry → ℕ → K → Ledgered K
  opened_with found opened log limit keeper = record { opening = record { state = opened.state; keeper = opened.keeper; found = found; limit = limit }; log = log; keeper = keeper; misses = 0 }

  pub opened_ledger : (offset : ℤ) (keeper : K) (stored : Stored K) (limit : ℕ) → IsOpened offset stored.state (telling rows rows_had keeper) (telling rows rows_had stored.keeper) → faults stored.keeper ≡ faults keeper → limit ≤ 1000000 → (found : K) (opened : Stored K) (log : List Entry) → found ≡ keeper → opened ≡ stored → log ≡ [] → IsLedger faults rows rows_had (opened_with found opened log limit stored.keeper) stored.state
  opened_ledger offset keeper stored limit is same most found opened log f o l =
      let begun : IsJournal (record { opened = stored.state; log = [] }) limit stored.state (telling rows rows_had keeper) (telling rows rows_had stored.keeper) = record {
        state = refl;
        legal = tt;
        trail = trail_opened offset stored.state (telling rows rows_had keeper) (telling rows rows_had stored.keeper) is;
        limit = most;
        room = omega arith;
      } in
      let first : IsLedger faults rows rows_had (opened_with keeper stored [] limit stored.keeper) stored.state = record { journal = begun; risen = risen_none (faults keeper) (faults stored.keeper) same; untold = λ none. none } in
      let with_log = subst (λ (es : List Entry). IsLedger faults rows rows_had (opened_with keeper stored es limit stored.keeper) stored.state) (sym l) first in
      let with_found = subst (λ (k : K). IsLedger faults rows rows_had (opened_with k stored log limit stored.keeper) stored.state) (sym f) with_log in
      subst (λ (s : Stored K). IsLedger faults rows rows_had (opened_with found s log limit stored.keeper) stored.state) (sym o) with_found
