-- Why the rows that a keeper in memory tells stand in order.
use Rattle.std.proofs.Common.{◌≡◌, List, [], ◌∷◌, Option, Some, None, option_map, is_some, IfSome, refl}
use Rattle.wm_outside.specs.declared.memory.keeper.MemKeeper.{MemKeeper}
use Rattle.wm_outside.specs.Keeping.{keeper_tables, keeper_trail}
use Rattle.wm_outside.specs.Log.{after_one, tables_after}
use Rattle.wm_traits.specs.declared.row.Row.{Row}
use Rattle.wm_traits.specs.declared.row.RowChange.{RowChange}
use Rattle.wm_traits.specs.InOrder.{changed_in_order}
use Rattle.wm_traits.specs.Rows.{IsInOrder}

pub after_in_order : (rows : List Row) (made : List (List RowChange)) → IsInOrder rows → IsInOrder (tables_after rows made)
after_in_order rows [] h = h
after_in_order rows (changes ∷ later) h = after_in_order (after_one rows changes) later (changed_in_order changes rows h)

-- the same of a store
pub kept_in_order : (kept : Option MemKeeper) → IfSome (option_map keeper_tables kept) IsInOrder
kept_in_order None = tt
kept_in_order (Some k) = after_in_order k.began.items k.made k.in_order

-- a store tells its trail where it tells its tables
pub kept_with_tables : (kept : Option MemKeeper) → is_some (option_map keeper_trail kept) ≡ is_some (option_map keeper_tables kept)
kept_with_tables None = refl
kept_with_tables (Some k) = refl
