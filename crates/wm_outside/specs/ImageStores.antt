-- What the store of a keeper that keeps all its tables shows.
use Rattle.std.specs.Prelude.{◌≡◌, ℕ, List, [], Option, Some, None, IfSome, is_some, option_map, refl, if◌then◌else◌}
use Rattle.wm_outside.specs.declared.memory.image_store.ImageStore.{ImageStore}
use Rattle.wm_outside.specs.declared.memory.images.ImageKeeper.{ImageKeeper}
use Rattle.wm_outside.specs.Images.{image_tables, image_trail}
use Rattle.wm_traits.specs.declared.row.Row.{Row}
use Rattle.wm_traits.specs.Rows.{IsInOrder}

abbrev pub image_store_tables : ImageStore → Option (List Row)
image_store_tables s = option_map image_tables s.keeper

abbrev pub image_store_trail : ImageStore → Option (List (List Row))
image_store_trail s = option_map image_trail s.keeper

abbrev pub image_store_faults : ImageStore → ℕ
image_store_faults s = s.faults

-- the keeper is out
abbrev pub is_out : ImageStore → Type 0
is_out s = s.keeper ≡ None

-- the tables of a keeper
abbrev pub images_of : Option ImageKeeper → List (List Row)
images_of None = []
images_of (Some k) = image_trail k

-- the tables of the keeper that was given back
abbrev pub closed_images : ImageStore → List (List Row)
closed_images s = if s.was_closed then images_of s.keeper else []

-- the rows stand in order
pub images_in_order : (kept : Option ImageKeeper) → IfSome (option_map image_tables kept) IsInOrder
images_in_order None = tt
images_in_order (Some k) = k.in_order

-- and the trail is told where they are
pub images_with_tables : (kept : Option ImageKeeper) → is_some (option_map image_trail kept) ≡ is_some (option_map image_tables kept)
images_with_tables None = refl
images_with_tables (Some k) = refl
