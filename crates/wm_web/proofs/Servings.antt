-- Laws of requests served one after another.
use Rattle.std.proofs.Common.{◌≡◌, ℕ, ◌+◌, false, List, [], ◌∷◌, ◌++◌, length, refl, sym, ap, subst, ◌∙◌, arith, append_assoc, append-nil}
use Rattle.wm_floor.specs.Floor.{Seen}
use Rattle.wm_floor.specs.declared.opened.Opened.{Opened}
use Rattle.wm_http.specs.Laws.{IsFinal}
use Rattle.wm_http.specs.declared.answer.Answer.{Answer}
use Rattle.wm_http.specs.declared.request.Cut.{Cut}
use Rattle.wm_http.specs.declared.request.Cut.TheVariants.{ReadOn, Whole, Refused}
use Rattle.wm_http.proofs.StayLemmas.{final_cut_stays}
use Rattle.wm_web.specs.Answered.{AnswersCut}
use Rattle.wm_web.specs.Cuts.{behind_cut}
use Rattle.wm_web.specs.Session.{Exchange, IsExchange, Serves, ends_with, response_of}
use Rattle.wm_web.proofs.Cuts.{behind_more}

module _ {K : Type 0} where
  -- what is answered is no answer to read on
  pub answered_final : (o : Opened K) (cut : Cut) (old new : Seen K) (a : Answer) → AnswersCut o cut old new a → IsFinal cut
  answered_final o (ReadOn most) old new a x = x
  answered_final o (Whole r) old new a x = tt
  answered_final o (Refused why) old new a x = tt

  -- an exchange is one with more bytes behind, too
  pub exchange_more : (o : Opened K) (bytes more : List ℕ) (old : Seen K) (e : Exchange K) → IsExchange o bytes old e → IsExchange o (bytes ++ more) old e
  exchange_more o bytes more old e x =
      record { cut = final_cut_stays bytes more e.cut x.cut (answered_final o e.cut old e.pass e.answer x.answers); answers = x.answers }

  -- what was served of some bytes is served of them with more behind
  pub serves_more : (o : Opened K) (n : ℕ) (es : List (Exchange K)) (bytes rest extra : List ℕ) (old new : Seen K) (due : List ℕ) → Serves o n es bytes rest old new due → Serves o n es (bytes ++ extra) (rest ++ extra) old new due
  serves_more o n [] bytes rest extra old new due x = record { rest_is = ap (λ (l : List ℕ). l ++ extra) x.rest_is; pass = x.pass; none = x.none }
  serves_more o n (e ∷ es) bytes rest extra old new due x = record {
    more = x.more;
    exchange = exchange_more o bytes extra old e x.exchange;
    open_ = x.open_;
    text = x.text;
    later = subst (λ (l : List ℕ). Serves o (n + 1) es l (rest ++ extra) e.pass new x.more) (sym (behind_more e.cut bytes extra x.exchange.cut)) (serves_more o (n + 1) es (behind_cut e.cut bytes) rest extra e.pass new x.more x.later);
  }

  -- one more behind those that were served
  pub serves_then : (o : Opened K) (n k : ℕ) (es : List (Exchange K)) (bytes rest unread : List ℕ) (old mid : Seen K) (due : List ℕ) (e : Exchange K) → k ≡ n + length es → Serves o n es bytes rest old mid due → IsExchange o rest mid e → ends_with k mid e ≡ false → unread ≡ behind_cut e.cut rest → Serves o n (es ++ e ∷ []) bytes unread old e.pass (due ++ response_of k mid e)
  serves_then o n k [] bytes rest unread old mid due e is x h open_ left =
      let same : k ≡ n = omega (arith, is) in
      let here = subst (λ (b : List ℕ). IsExchange o b old e) x.rest_is (subst (λ (p : Seen K). IsExchange o rest p e) x.pass h) in
      record {
        more = [];
        exchange = here;
        open_ = subst (λ (p : Seen K). ends_with n p e ≡ false) x.pass (subst (λ (i : ℕ). ends_with i mid e ≡ false) same open_);
        text = ap (λ (l : List ℕ). l ++ response_of k mid e) x.none ∙ ap (λ (i : ℕ). response_of i mid e) same ∙ ap (λ (p : Seen K). response_of n p e) x.pass ∙ sym (append-nil (response_of n old e));
        later = record { rest_is = left ∙ ap (behind_cut e.cut) x.rest_is; pass = refl; none = refl };
      }
  serves_then o n k (f ∷ es) bytes rest unread old mid due e is x h open_ left =
      let next : k ≡ (n + 1) + length es = omega (arith, is) in
      record {
        more = x.more ++ response_of k mid e;
        exchange = x.exchange;
        open_ = x.open_;
        text = ap (λ (l : List ℕ). l ++ response_of k mid e) x.text ∙ append_assoc (response_of n old f) x.more (response_of k mid e);
        later = serves_then o (n + 1) k es (behind_cut f.cut bytes) rest unread f.pass mid x.more e next x.later h open_ left;
      }
