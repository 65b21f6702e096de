-- Laws of what was asked and what was ordered.
use Rattle.std.proofs.Common.{◌≡◌, ℕ, List, [], ◌∷◌, ◌++◌, Option, Some, None, IfSome, sym, ap, subst, ◌∙◌, refl, append_assoc, inl, inr, arith}
use Rattle.std.specs.Prelude.{Contains}
use Rattle.std.proofs.lemmas.List.{append-nil}
use Rattle.wm_base.specs.declared.job.Asked.{Asked}
use Rattle.wm_base.specs.declared.job.Asked.TheVariants.{Start, Kill}
use Rattle.wm_traits.specs.Told.{Grows}
use Rattle.wm_traits.proofs.Telling.{Grows-none, Grows-then}
use Rattle.wm_floor.specs.Asking.{AsksFirst, AsksFor, IsAgain, StandFor}
use Rattle.wm_floor.specs.Lists.{IsAmong}
use Rattle.wm_floor.proofs.Lists.{IsAmong-more}

again_among : (before later : List Asked) (ask : Asked) → IsAmong before later → IsAgain before ask → IsAgain later ask
again_among before later (Start order) among again = again
again_among before later (Kill serial) among again = among (Kill serial) again

-- asks stand for orders behind more too
pub StandFor-among : (before later asks orders : List Asked) → IsAmong before later → StandFor before asks orders → StandFor later asks orders
StandFor-among before later [] orders among h = h
StandFor-among before later (ask ∷ asks) orders among (inl h) = inl (again_among before later ask among h.0, StandFor-among before later asks orders among h.1)
StandFor-among before later (ask ∷ asks) orders among (inr h) =
    inr (h.0, h.1, StandFor-among (before ++ ask ∷ []) (later ++ ask ∷ []) asks h.0 (IsAmong-more before later (ask ∷ []) among) h.2)

-- some asks, and then more behind what the first stand for
pub StandFor-then : (before asks more orders others : List Asked) → StandFor before asks orders → StandFor (before ++ orders) more others → StandFor before (asks ++ more) (orders ++ others)
StandFor-then before [] more orders others none k =
    let P : List Asked → Type 0 = λ os. StandFor (before ++ os) more others → StandFor before more (os ++ others) in
    subst P (sym none) (λ rest. subst (λ (bs : List Asked). StandFor bs more others) (append-nil before) rest) k
StandFor-then before (ask ∷ asks) more orders others (inl h) k = inl (h.0, StandFor-then before asks more orders others h.1 k)
StandFor-then before (ask ∷ asks) more orders others (inr h) k =
    let same : before ++ orders ≡ (before ++ ask ∷ []) ++ h.0 = ap (λ (os : List Asked). before ++ os) h.1 ∙ sym (append_assoc before (ask ∷ []) h.0) in
    let rest = subst (λ (bs : List Asked). StandFor bs more others) same k in
    inr (h.0 ++ others, ap (λ (os : List Asked). os ++ others) h.1, StandFor-then (before ++ ask ∷ []) asks more h.0 others h.2 rest)

-- nothing is asked where nothing is ordered
pub AsksFor-none : (before : List Asked) (asked : Option (List Asked)) → AsksFor before asked asked []
AsksFor-none before asked = record { asks = []; told = Grows-none asked; stand = refl }

-- the same of a spawner that tells nothing new
pub AsksFor-nothing : (before : List Asked) (asked asked' : Option (List Asked)) → Grows asked asked' [] → AsksFor before asked asked' []
AsksFor-nothing before asked asked' grows = record { asks = []; told = grows; stand = refl }

-- an order is asked
pub AsksFor-order : (before : List Asked) (ask : Asked) (asked asked' : Option (List Asked)) → Grows asked asked' (ask ∷ []) → AsksFor before asked asked' (ask ∷ [])
AsksFor-order before ask asked asked' grows = record { asks = ask ∷ []; told = grows; stand = inr ([], refl, refl) }

first_is_in : (ask : Asked) (asks : List Asked) → Contains (ask ∷ asks) ask
first_is_in ask asks = (0, omega arith, refl)

-- a kill is tried again
pub AsksFor-again : (serial : _) (asked asked' : Option (List Asked)) → Grows asked asked' (Kill serial ∷ []) → AsksFor (Kill serial ∷ []) asked asked' []
AsksFor-again serial asked asked' grows = record { asks = Kill serial ∷ []; told = grows; stand = inl (first_is_in (Kill serial) [], refl) }

-- what is asked in one part and then in another, whose kills to be tried again were there before or were ordered in the first
pub AsksFor-then : (before mid : List Asked) (a b c : Option (List Asked)) (orders others : List Asked) → AsksFor before a b orders → IsAmong mid (before ++ orders) → AsksFor mid b c others → AsksFor before a c (orders ++ others)
AsksFor-then before mid a b c orders others h among k =
    record {
      asks = h.asks ++ k.asks;
      told = Grows-then a b c h.asks k.asks h.told k.told;
      stand = StandFor-then before h.asks k.asks orders others h.stand (StandFor-among mid (before ++ orders) k.asks others among k.stand);
    }

-- one ask, and then what more is asked
pub AsksFirst-then : (ask : Asked) (mid : List Asked) (a b c : Option (List Asked)) (orders : List Asked) → Grows a b (ask ∷ []) → AsksFor mid b c orders → AsksFirst ask a c
AsksFirst-then ask mid a b c orders grows k = (k.asks, Grows-then a b c (ask ∷ []) k.asks grows k.told)

-- the kill that failed is asked first
pub AsksFirst-again : (failed left : Option ℕ) (mid : List Asked) (a b c : Option (List Asked)) (orders : List Asked) → left ≡ failed → IfSome left (λ serial. Grows a b (Kill serial ∷ [])) → AsksFor mid b c orders → IfSome failed (λ serial. AsksFirst (Kill serial) a c)
AsksFirst-again failed left mid a b c orders same grows k = go failed (subst (λ (o : Option ℕ). IfSome o (λ serial. Grows a b (Kill serial ∷ []))) same grows)
  where
    go : (o : Option ℕ) → IfSome o (λ serial. Grows a b (Kill serial ∷ [])) → IfSome o (λ serial. AsksFirst (Kill serial) a c)
    go None h = tt
    go (Some serial) h = AsksFirst-then (Kill serial) mid a b c orders h k
