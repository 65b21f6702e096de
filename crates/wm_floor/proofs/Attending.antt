-- What a monitor does, whatever number of entries it makes: nothing, and one thing after another.
use Rattle.std.proofs.Common.{ℕ, ◌+◌}
use Rattle.wm_floor.specs.Floor.{Floored, HasLooked, IsPassOf, IsSame, Seen}
use Rattle.wm_floor.specs.Advance.{Advances}
use Rattle.wm_floor.specs.Scene.{Scene}
use Rattle.wm_floor.proofs.Advances.{Advances-looked, Advances-none, Advances-then}
use Rattle.wm_floor.proofs.MonitorPasses.{GoesOn-looked}
use Rattle.wm_floor.specs.Attends.{Attends}

module _ {K : Type 0} (f : Floored K) where
  pub attends_none : (p : Seen K) (a : Scene) → IsPassOf f p → Attends f p p a a
  attends_none p a own = record { hands = 0; others = 0; part = Advances-none f 0 0 p a own }

  -- the pass has looked on
  pub attends_looked : (p q : Seen K) (a : Scene) → IsPassOf f p → IsPassOf f q → IsSame p q → HasLooked p q → Attends f p q a a
  attends_looked p q a before now same looked = record { hands = 0; others = 0; part = Advances-looked f 0 0 p q a (GoesOn-looked f p q before now same looked) looked.mine }

  pub attends_by : (h o : ℕ) (p q : Seen K) (a b : Scene) → Advances f h o p q a b → Attends f p q a b
  attends_by h o p q a b part = record { hands = h; others = o; part = part }

  pub attends_then : (p q r : Seen K) (a b c : Scene) → Attends f p q a b → Attends f q r b c → Attends f p r a c
  attends_then p q r a b c h k = record { hands = h.hands + k.hands; others = h.others + k.others; part = Advances-then f h.hands h.others k.hands k.others p q r a b c h.part k.part }
