-- Runs, one after another, over one output and one store.
use Rattle.std.specs.Prelude.{◌≡◌, ◌⊎◌, ℕ, ◌<◌, ◌≤◌, List, [], ◌∷◌, length, map, Option, None, option_to_list, true, false}
use Rattle.std.specs.List.{list_all}
use Rattle.wm_base.specs.declared.job.Asked.{Asked}
use Rattle.wm_floor.specs.Keeping.{telling}
use Rattle.wm_run.specs.declared.whole_run.Ran.{Ran}
use Rattle.wm_run.specs.Kept.{HasBadRow, HasHistory}
use Rattle.wm_run.specs.Outcome.{RunTakes}
use Rattle.wm_run.specs.Run.{IsRunStatus, IsServed}
use Rattle.wm_run.specs.Serving.{is_of_run}
use Rattle.wm_run.specs.Words.{OpensStoreOf, is_run, settings_of}
use Rattle.wm_traits.specs.Cause.{raised}
use Rattle.wm_traits.specs.declared.row.Row.{Row}
use Rattle.wm_traits.specs.declared.spawner.Told.{Told}

-- what is seen of an input, an output, a store and a spawner
pub record Seen (I O S P : Type 0) : Type 0 where
  pub left : I → Option (List ℕ)
  pub read_faults : I → ℕ
  pub written : O → Option (List ℕ)
  pub write_faults : O → ℕ
  pub opened : S → Option (List (List ℕ))
  pub tables : S → Option (List Row)
  pub trail : S → Option (List (List Row))
  pub keeper_faults : S → ℕ
  pub asked : P → Option (List Asked)
  pub told : P → Option (List Told)
  pub misses : P → ℕ
  pub wait_faults : P → ℕ

-- a run: what it answered, and what its input, its spawner, the output and the store were before it and are after it
pub record Turn (I O S P : Type 0) : Type 0 where
  pub ran : Ran
  pub input_before : I
  pub input_now : I
  pub spawner_before : P
  pub spawner_now : P
  pub out_before : O
  pub out_now : O
  pub store_before : S
  pub store_now : S

-- its status has its cause in this run, and no count of the output or of the store has fallen
pub record HasCauses {I O S P : Type 0} (seen : Seen I O S P) (words : List (List ℕ)) (turn : Turn I O S P) : Type 0 where
  pub statuses : IsRunStatus turn.ran.status
  pub wrong : is_run words ≡ false → (turn.ran.status ≡ 2) ⊎ (turn.ran.status ≡ 6)
  pub right : is_run words ≡ true → turn.ran.status ≡ 2 → ⊥
  pub read_fault : turn.ran.status ≡ 3 → raised (seen.read_faults turn.input_before) ≤ seen.read_faults turn.input_now
  pub write_fault : turn.ran.status ≡ 4 → raised (seen.write_faults turn.out_before) ≤ seen.write_faults turn.out_now
  pub keeper_fault : turn.ran.status ≡ 5 → raised (seen.keeper_faults turn.store_before) ≤ seen.keeper_faults turn.store_now
  pub log_full : turn.ran.status ≡ 7 → (settings_of words).log_limit ≤ length turn.ran.log
  pub wait_fault : turn.ran.status ≡ 8 → raised (seen.wait_faults turn.spawner_before) ≤ seen.wait_faults turn.spawner_now
  pub bad_row : turn.ran.status ≡ 9 → HasBadRow (settings_of words).offset (seen.tables turn.store_before) (seen.tables turn.store_now)
  pub out_faults : seen.write_faults turn.out_before ≤ seen.write_faults turn.out_now
  pub store_faults : seen.keeper_faults turn.store_before ≤ seen.keeper_faults turn.store_now

-- what a run with these words answers for
pub record IsOneRun {I O S P : Type 0} (seen : Seen I O S P) (words : List (List ℕ)) (turn : Turn I O S P) : Type 0 where
  pub history : HasHistory (settings_of words).offset turn.ran.status turn.ran.log (telling seen.tables seen.trail turn.store_before) (telling seen.tables seen.trail turn.store_now)
      (RunTakes (settings_of words) (seen.left turn.input_before) (seen.left turn.input_now) turn.ran.status turn.ran.log (seen.written turn.out_before) (seen.written turn.out_now))
  pub callers : list_all is_of_run turn.ran.log ≡ true
  pub served : IsServed turn.ran.log (option_to_list turn.ran.kept) (seen.asked turn.spawner_before) (seen.asked turn.spawner_now) (seen.told turn.spawner_before) (seen.told turn.spawner_now) (seen.misses turn.spawner_before) (seen.misses turn.spawner_now)
  pub kept : turn.ran.status ≤ 1 → turn.ran.kept ≡ None
  pub reported : turn.ran.status ≡ 7 → length turn.ran.log < 4000000 → turn.ran.kept ≡ None
  pub not_begun : turn.ran.status ≡ 2 → turn.ran.log ≡ []
  pub unread : is_run words ≡ false → seen.left turn.input_now ≡ seen.left turn.input_before
  pub opened : OpensStoreOf words turn.ran.status (seen.opened turn.store_before) (seen.opened turn.store_now)
  pub causes : HasCauses seen words turn

-- the runs follow one another: each is over what the one before it has left of the output and of the store
abbrev pub AreInOrder : {I O S P : Type 0} → Seen I O S P → List (List ℕ) → O → S → List (Turn I O S P) → O → S → Type 0
AreInOrder seen words out store [] out' store' = (out' ≡ out) × (store' ≡ store)
AreInOrder seen words out store (turn ∷ turns) out' store' =
    (turn.out_before ≡ out) × (turn.store_before ≡ store) × IsOneRun seen words turn
    × AreInOrder seen words turn.out_now turn.store_now turns out' store'

-- one run for each input, with the spawner at its place, one after another
pub record AreRuns {I O S P : Type 0} (seen : Seen I O S P) (words : List (List ℕ)) (inputs inputs' : List I) (spawners spawners' : List P) (rans : List Ran) (out out' : O) (store store' : S) : Type 0 where
  pub turns : List (Turn I O S P)
  pub inputs_before : map (λ turn. turn.input_before) turns ≡ inputs
  pub inputs_now : map (λ turn. turn.input_now) turns ≡ inputs'
  pub spawners_before : map (λ turn. turn.spawner_before) turns ≡ spawners
  pub spawners_now : map (λ turn. turn.spawner_now) turns ≡ spawners'
  pub answers : map (λ turn. turn.ran) turns ≡ rans
  pub in_order : AreInOrder seen words out store turns out' store'
