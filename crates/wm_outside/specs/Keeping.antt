-- What a keeper in memory and its store have kept.
use Rattle.std.specs.Prelude.{ℕ, List, Option, option_map, map, string_bytes}
use Rattle.wm_outside.specs.declared.memory.calls.Calls.{Calls}
use Rattle.wm_outside.specs.declared.memory.keeper.MemKeeper.{MemKeeper}
use Rattle.wm_outside.specs.declared.memory.store.MemStore.{MemStore}
use Rattle.wm_traits.specs.declared.row.Row.{Row}
use Rattle.wm_traits.specs.Told.{told_if}
use Rattle.wm_outside.specs.Log.{tables_after, trail_of}

-- the rows
abbrev pub keeper_tables : MemKeeper → List Row
keeper_tables k = tables_after k.began.items k.made

-- all tables that it has had
abbrev pub keeper_trail : MemKeeper → List (List Row)
keeper_trail k = trail_of k.began.items k.made

-- the calls of `apply`
abbrev pub keeper_calls : MemKeeper → Calls
keeper_calls k = k.calls

-- the keeper, while it isn't out
abbrev pub store_keeper : MemStore → Option MemKeeper
store_keeper s = s.keeper

abbrev pub store_tables : MemStore → Option (List Row)
store_tables s = option_map keeper_tables s.keeper

abbrev pub store_trail : MemStore → Option (List (List Row))
store_trail s = option_map keeper_trail s.keeper

abbrev pub store_faults : MemStore → ℕ
store_faults s = s.faults

-- the paths of its openings, in order, where they are told
abbrev pub store_opened : MemStore → Option (List (List ℕ))
store_opened s = told_if s.tells (map string_bytes s.opened.items)
