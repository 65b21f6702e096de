-- Passes that look on.
use Rattle.std.proofs.Common.{◌∙◌, List, [], ◌++◌, refl, sym, ap, append_assoc, arith}
use Rattle.std.proofs.lemmas.List.{append-nil}
use Rattle.wm_floor.specs.Floor.{HasLooked, IsSame, Seen}
use Rattle.wm_turn.specs.Passed.{StartsWith}

starts_none : {E : Type 0} (a : List E) → StartsWith a a
starts_none a = ([], sym (append-nil a))

starts_then : {E : Type 0} (a b c : List E) → StartsWith b a → StartsWith c b → StartsWith c a
starts_then a b c h k = (h.0 ++ k.0, k.1 ∙ (ap (λ (l : List _). l ++ k.0) h.1 ∙ append_assoc a h.0 k.0))

module _ {K : Type 0} where
  pub looked_none : (p : Seen K) → HasLooked p p
  looked_none p = record { seen = starts_none p.seen; mine = refl; mark = omega arith }

  pub looked_then : (p q r : Seen K) → HasLooked p q → HasLooked q r → HasLooked p r
  looked_then p q r h k = record { seen = starts_then p.seen q.seen r.seen h.seen k.seen; mine = k.mine ∙ h.mine; mark = let a = h.mark in let b = k.mark in omega arith }

  pub same_none : (p : Seen K) → IsSame p p
  same_none p = record { number = refl; made = refl; joined = refl }

  pub same_then : (p q r : Seen K) → IsSame p q → IsSame q r → IsSame p r
  same_then p q r h k = record { number = k.number ∙ h.number; made = k.made ∙ h.made; joined = k.joined ∙ h.joined }
