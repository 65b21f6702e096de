-- What the threads keep of their passes.
use Rattle.std.specs.Prelude.{◌≡◌, ◌+◌, length}
use Rattle.wm_floor.specs.Floor.{Seen}

-- as many passes are out afterwards as before
abbrev pub IsEven : {K : Type 0} → Seen K → Seen K → Type 0
IsEven before after = (after.number ≡ before.number) × (after.made + length before.joined ≡ before.made + length after.joined)
