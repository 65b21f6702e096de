-- What a contract sees of a tally, and of which hows it is the tally.
use Rattle.std.specs.Prelude.{◌≡◌, ℕ, ◌+◌, ◌^◌, ◌<◌, List, ◌∷◌, length}
use Rattle.wm_base.specs.declared.job.How.{How}
use Rattle.wm_pick.specs.declared.counted.Counted.{Counted}
use Rattle.wm_pick.specs.Counted.{same_counted, number_of}
use Rattle.wm_pick.specs.Rows.{number_at}

-- a number for each key that a how names, and for how many starts there is room
pub record Counts : Type 0 where
  pub counts : List (Counted × ℕ)
  pub spare : ℕ

-- the count of a key
abbrev pub count_of : Counted → Counts → ℕ
count_of key tally = number_at same_counted key tally.counts

-- the tally is that of these hows, in whatever order: each count is how many of them name the key
abbrev pub IsTally : List How → Counts → Type 0
IsTally hows tally = (key : Counted) → count_of key tally ≡ number_of key hows

-- fewer than 4,294,967,295 hows were started and have not ended
pub record HasFew (tally : Counts) : Type 0 where
  pub hows : List How
  pub are : IsTally hows tally
  pub few : length hows + 1 < 2 ^ 32

-- such a how was started and has not ended
pub record HasStarted (tally : Counts) (how : How) : Type 0 where
  pub others : List How
  pub are : IsTally (how ∷ others) tally

-- the tally of any hows is then that of these and one more
abbrev pub AddsHow : Counts → Counts → How → Type 0
AddsHow old new how = (hows : List How) → IsTally hows old → IsTally (how ∷ hows) new

-- the tally of that how and others is then that of the others
abbrev pub TakesHow : Counts → Counts → How → Type 0
TakesHow old new how = (others : List How) → IsTally (how ∷ others) old → IsTally others new
