-- The state and the marks that open lists stand for.
use Rattle.std.specs.Prelude.{ℕ, List, [], ◌∷◌, ◌++◌, reverse, map}
use Rattle.std.specs.List.{flat_map}
use Rattle.wm_clwords.specs.declared.levels.Frame.{Frame}
use Rattle.wm_clwords.specs.declared.levels.Levels.{Levels}
use Rattle.wm_clwords.specs.Grammar.{Mark}
use Rattle.wm_clwords.specs.Items.{key_mark, list_marks}

abbrev pub frame_marks : Frame → List Mark
frame_marks frame = list_marks frame.before.items ++ key_mark frame.start frame.key ∷ []

-- the marks so far
abbrev pub level_marks : Levels → List Mark
level_marks levels = flat_map frame_marks levels.frames.items ++ list_marks levels.items.items

-- the places of the open lists, the innermost first
abbrev pub opening_of : Frame → ℕ
opening_of frame = frame.opening

abbrev pub level_opens : Levels → List ℕ
level_opens levels = reverse (map opening_of levels.frames.items)
