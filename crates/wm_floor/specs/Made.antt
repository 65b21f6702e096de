-- What one call of a monitor's pass makes, and when.
use Rattle.std.specs.Prelude.{◌≡◌, ℕ, ◌==◌, true, List, [], ◌∷◌, ◌++◌, Option, IfSome}
use Rattle.std.specs.List.{list_all}
use Rattle.wm_law.specs.declared.call.Call.{Call}
use Rattle.wm_law.specs.declared.call.Entry.{Entry}
use Rattle.wm_floor.specs.declared.answer.Answered.{Answered}
use Rattle.wm_floor.specs.Floor.{Seen}

module _ {K : Type 0} where
  -- the call's entry has the reply that is told, and it alone is new among the pass's own
  pub record IsMade (call : Call) (now : ℕ) (old new : Seen K) (answered : Answered) : Type 0 where
    pub entry : Entry
    pub caller : entry.caller ≡ old.number
    pub call_is : entry.call ≡ call
    pub moment : entry.moment ≡ now
    pub mine : new.mine ≡ old.mine ++ entry ∷ []
    pub reply : answered.reply ≡ entry.reply

-- each of these has the moment that the clock gave, where it is told
abbrev pub AreAt : Option ℕ → List Entry → Type 0
AreAt coming es = IfSome coming (λ now. list_all (λ e. e.moment == now) es ≡ true)
