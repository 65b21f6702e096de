-- Laws of a run that is closed: the monitor's pass was joined, and the session's has seen the whole history.
use Rattle.std.proofs.Common.{◌≡◌, ℕ, ◌<◌, List, [], ◌∷◌, ◌++◌, sym, ap, ◌∙◌, arith}
use lib.ListN.{get_elem?}
use Rattle.wm_law.specs.declared.call.Entry.{Entry}
use Rattle.wm_turn.specs.Passed.{HasOwn, StartsWith, joining, own}
use Rattle.wm_turn.proofs.Histories.{starts_again}
use Rattle.wm_floor.specs.Floor.{HasLooked, IsPassOf, IsSame, Seen}
use Rattle.wm_floor.specs.Ledger.{caller_of}
use Rattle.wm_floor.specs.Idle.{monitor_pass}
use Rattle.wm_run.specs.Calls.{session_pass}
use Rattle.wm_run.specs.Serving.{IsRunning, IsWhole}
use Rattle.wm_run.specs.declared.running.Run.{Run}

module _ {K : Type 0} where
  -- of this run the history that it has seen then is the whole
  pub whole_of : (r : Run K) (p q : Seen K) (log : List Entry) → IsRunning r → r.session.made ≡ 1 → r.session.joined ≡ [] → p ≡ joining r.watch r.session → StartsWith p.seen r.session.seen → StartsWith p.seen r.watch.seen → IsPassOf r.floor q → IsSame p q → HasLooked p q → log ≡ q.seen → HasOwn caller_of q.seen q.joined → ((n : ℕ) → q.made < n → own caller_of n q.seen ≡ []) → IsWhole r log
  whole_of r p q log ready made joined is session watch now same looked told each others =
      let begins : StartsWith log p.seen = (looked.seen.0, told ∙ looked.seen.1) in
      let mine : r.session.mine ≡ q.mine = sym (looked.mine ∙ ap (λ (x : Seen K). x.mine) is) in
      let number : q.number ≡ session_pass = same.number ∙ (ap (λ (x : Seen K). x.number) is ∙ ready.zero) in
      let one : q.made ≡ 1 = same.made ∙ (ap (λ (x : Seen K). x.made) is ∙ made) in
      let its : ℕ × List Entry = (r.watch.number, r.watch.mine) in
      let list : q.joined ≡ its ∷ [] = same.joined ∙ (ap (λ (x : Seen K). x.joined) is ∙ ap (λ (l : List (ℕ × List Entry)). l ++ its ∷ []) joined) in
      record {
        history = record {
          session = starts_again log p.seen r.session.seen begins session;
          watch = starts_again log p.seen r.watch.seen begins watch;
          calls = mine ∙ (now.mine ∙ (ap (λ (n : ℕ). own caller_of n q.seen) number ∙ ap (own caller_of session_pass) (sym told)));
          others = λ n more. ap (own caller_of n) told ∙ others n (omega (arith, one, more));
        };
        monitors = each 0 r.watch.number r.watch.mine (ap (λ (l : List (ℕ × List Entry)). get_elem? l 0) list) ∙ (ap (λ (n : ℕ). own caller_of n q.seen) ready.one ∙ ap (own caller_of monitor_pass) (sym told));
      }
