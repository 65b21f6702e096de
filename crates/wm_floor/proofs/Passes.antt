-- What a turn does to a pass.
use Rattle.std.proofs.Common.{◌≡◌, ◌≤◌, ◌++◌, ℕ, List, [], sym, ap, subst, ◌∙◌, append-nil}
use Rattle.std.proofs.lemmas.List.Prefix.{front_rest}
use Rattle.wm_law.specs.declared.call.Entry.{Entry}
use Rattle.wm_law.specs.History.{IsLegal}
use Rattle.wm_turn.specs.Passed.{StartsWith, begun, ended, own, risen}
use Rattle.wm_floor.specs.Floor.{Floored, HasLooked, IsPassOf, IsSame, Seen}
use Rattle.wm_floor.specs.Ledger.{caller_of}
use Rattle.wm_floor.proofs.Counts.{grows}

module _ {K : Type 0} where
  -- a turn of a pass: it found a history and left one, with these marks of the value
  pub record IsTurned (f : Floored K) (old new : Seen K) (found log : List Entry) (before after : ℕ) : Type 0 where
    pub pass : IsPassOf f old
    pub front : StartsWith found old.seen
    pub new_is : new ≡ ended log after (begun found before old)
    pub legal : IsLegal f.opening.state log
    pub mine : new.mine ≡ own caller_of new.number new.seen

  module _ (f : Floored K) (old new : Seen K) (found log : List Entry) (before after : ℕ) (t : IsTurned f old new found log before after) where
    abbrev back : Seen K
    back = ended log after (begun found before old)

    pub pass_after : IsPassOf f new
    pass_after = record {
      turnstile = ap (λ (p : Seen K). p.turnstile) t.new_is ∙ t.pass.turnstile;
      opening = ap (λ (p : Seen K). p.opening) t.new_is ∙ t.pass.opening;
      free = ap (λ (p : Seen K). p.turn) t.new_is;
      legal = subst (λ (es : List Entry). IsLegal f.opening.state es) (sym (ap (λ (p : Seen K). p.seen) t.new_is)) t.legal;
      mine = t.mine;
    }

    pub same_after : IsSame old new
    same_after = record {
      number = ap (λ (p : Seen K). p.number) t.new_is;
      made = ap (λ (p : Seen K). p.made) t.new_is;
      joined = ap (λ (p : Seen K). p.joined) t.new_is;
    }

    pub seen_after : new.seen ≡ log
    seen_after = ap (λ (p : Seen K). p.seen) t.new_is

    pub mark_after : new.mark ≡ risen old.mark before after
    mark_after = ap (λ (p : Seen K). p.mark) t.new_is

    -- behind what was found there is this
    pub mine_after : (more : List Entry) → log ≡ found ++ more → new.mine ≡ old.mine ++ more
    mine_after more is = ap (λ (p : Seen K). p.mine) t.new_is ∙ ap (λ (es : List Entry). old.mine ++ es) (front_rest log found more is)

    pub mine_same : log ≡ found → new.mine ≡ old.mine
    mine_same is = mine_after [] (is ∙ sym (append-nil found)) ∙ append-nil old.mine

    pub looked_after : log ≡ found → HasLooked old new
    looked_after is = record {
      seen = subst (λ (es : List Entry). StartsWith es old.seen) (sym (seen_after ∙ is)) t.front;
      mine = mine_same is;
      mark = subst (λ (n : ℕ). old.mark ≤ n) (sym mark_after) (grows old.mark before after);
    }
