-- What was asked stands for what was ordered: it is the same, kills that were tried again aside.
use Rattle.std.specs.Prelude.{◌≡◌, ◌⊎◌, List, [], ◌∷◌, ◌++◌, Option, Contains}
use Rattle.wm_base.specs.declared.job.Asked.{Asked}
use Rattle.wm_base.specs.declared.job.Asked.TheVariants.{Start, Kill}
use Rattle.wm_traits.specs.Told.{Grows}

-- the ask is a kill that was asked before
abbrev pub IsAgain : List Asked → Asked → Type 0
IsAgain before (Start order) = ⊥
IsAgain before (Kill serial) = Contains before (Kill serial)

-- asks stand for orders, behind what was asked before: each ask is a kill that is tried again, or the next order
abbrev pub StandFor : List Asked → List Asked → List Asked → Type 0
StandFor before [] orders = orders ≡ []
StandFor before (ask ∷ asks) orders =
    (IsAgain before ask × StandFor before asks orders)
    ⊎ ((others : List Asked) × (orders ≡ ask ∷ others) × StandFor (before ++ ask ∷ []) asks others)

-- where asks are told, they have grown by some that stand for these orders
pub record AsksFor (before : List Asked) (asked_before asked_now : Option (List Asked)) (orders : List Asked) : Type 0 where
  pub asks : List Asked
  pub told : Grows asked_before asked_now asks
  pub stand : StandFor before asks orders

-- where asks are told, this one is the first that is new
abbrev pub AsksFirst : Asked → Option (List Asked) → Option (List Asked) → Type 0
AsksFirst ask asked_before asked_now = (more : List Asked) × Grows asked_before asked_now (ask ∷ more)
