-- What a store that keeps all its tables shows.
use Rattle.std.specs.Prelude.{List, [], ◌∷◌, ◌++◌, map}
use Rattle.wm_outside.specs.declared.memory.images.ImageKeeper.{ImageKeeper}
use Rattle.wm_traits.specs.declared.row.Row.{Row}

-- the rows
abbrev pub image_tables : ImageKeeper → List Row
image_tables k = k.present.items

-- all tables that it has had
abbrev pub image_trail : ImageKeeper → List (List Row)
image_trail k = map (λ rows. rows.items) k.past.items ++ k.present.items ∷ []
