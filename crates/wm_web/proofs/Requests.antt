-- How a request that was cut is served, and how a connection ends without one.
use Rattle.std.proofs.Common.{◌≡◌, ◌+◌, inr, ℕ, false, List, [], ◌∷◌, ◌++◌, length, drop, Result, Ok, Err, Option, refl, sym, ap, subst, ◌∙◌, append-nil, arith}
use Rattle.std.specs.Prelude.{IfErr, IfOk, OnErr}
use Rattle.std.specs.Io.KnownBytes.{IsAtEnd}
use Rattle.std.proofs.lemmas.List.{length-append}
use Rattle.wm_floor.specs.Floor.{Floored, IsPassOf, IsSame, Seen}
use Rattle.wm_floor.specs.declared.opened.Opened.{Opened}
use Rattle.wm_http.specs.Cutting.{IsCut}
use Rattle.wm_http.specs.declared.answer.Answer.TheVariants.{BadRequest}
use Rattle.wm_http.specs.declared.answer.RequestFault.{RequestFault}
use Rattle.wm_http.specs.declared.request.Cut.{Cut}
use Rattle.wm_http.specs.declared.request.Cut.TheVariants.{ReadOn, Refused}
use Rattle.wm_law.specs.declared.command.Command.{Command}
use Rattle.wm_run.specs.declared.parsed.Parsed.{Parsed}
use Rattle.wm_run.specs.declared.parsed.Parsed.TheVariants.{Call}
use Rattle.wm_web.specs.Answered.{AnswersCall, AnswersCut, AnswersParsed, IsTakenUp}
use Rattle.wm_web.specs.Cuts.{IsInside}
use Rattle.wm_web.specs.Ends.{IsUnserved}
use Rattle.wm_web.specs.Reading.{ReadsOn, ended}
use Rattle.wm_web.specs.Serving.{IsServed, IsServedBy}
use Rattle.wm_web.specs.declared.answered.Answered.{Answered}
use Rattle.wm_web.specs.declared.end.WebEnd.{WebEnd}
use Rattle.wm_web.specs.declared.end.WebEnd.TheVariants.{NoMemory}
use Rattle.wm_web.specs.declared.served.Served.{Served}
use Rattle.wm_web.proofs.Calls.{down_same}

nil_of : (l : List ℕ) → length l ≡ 0 → l ≡ []
nil_of [] none = refl
nil_of (x ∷ xs) none = absurd (omega (arith, none))

-- bytes that are to be read on
pub inside_cut : (slice unread : List ℕ) (got : Cut) (most : ℕ) → slice ≡ unread → got ≡ ReadOn most → IsCut slice got → IsInside unread
inside_cut slice unread got most value is h =
    (most, subst (λ (l : List ℕ). IsCut l (ReadOn most)) value (subst (IsCut slice) is h))

-- they are so where nothing was read
pub inside_still : (l0 l1 : Option (List ℕ)) (a b : List ℕ) → ReadsOn l0 l1 a b → length b ≡ length a → IsInside a → IsInside b
inside_still l0 l1 a b reads same h =
    let all : length b ≡ length a + length reads.bytes = ap length reads.unread ∙ length-append a reads.bytes in
    let none : reads.bytes ≡ [] = nil_of reads.bytes (omega (arith, all, same)) in
    let is : b ≡ a = reads.unread ∙ ap (λ (l : List ℕ). a ++ l) none ∙ append-nil a in
    subst IsInside (sym is) h

module _ {K : Type 0} where
  -- a pass that nothing became of
  pub own_still : (f : Floored K) (old new : Seen K) → new ≡ old → IsPassOf f old → IsPassOf f new
  own_still f old new is own = subst (IsPassOf f) (sym is) own

  pub same_still : (old new : Seen K) → new ≡ old → IsSame old new
  same_still old new is = record { number = ap (λ (p : Seen K). p.number) is; made = ap (λ (p : Seen K). p.made) is; joined = ap (λ (p : Seen K). p.joined) is }

  pub same_from : (old mid new : Seen K) → mid ≡ old → IsSame mid new → IsSame old new
  same_from old mid new is same = subst (λ (p : Seen K). IsSame p new) is same

  -- the call of a body's one line
  pub taken_call : {E : Type 0} (o : Opened K) (user : List ℕ) (parsed : Parsed) (c : Command) (old new : Seen K) (r : Result Answered E) → parsed ≡ Call c → OnErr r (IsTakenUp (AnswersCall o user c) old new) → OnErr r (IsTakenUp (AnswersParsed o user parsed) old new)
  taken_call o user parsed c old new r is h =
      subst (λ (p : Parsed). OnErr r (IsTakenUp (AnswersParsed o user p) old new)) (sym is) h

  -- bytes that are refused
  pub served_refused : (o : Opened K) (why : RequestFault) (slice unread : List ℕ) (got : Cut) (old new : Seen K) (r : Served) → slice ≡ unread → got ≡ Refused why → IsCut slice got → new ≡ old → r.answered.answer ≡ BadRequest why → r.answered.down ≡ false → r.asks_close ≡ false → r.len ≡ 0 → IsServed o unread old new r
  served_refused o why slice unread got old new r value is h same answer up asks len = record {
    cut = Refused why;
    is = subst (λ (l : List ℕ). IsCut l (Refused why)) value (subst (IsCut slice) is h);
    served = record {
      answers = record { pass = same; says = answer };
      down = up ∙ sym (down_same old new (ap (λ (p : Seen K). p.mine) same));
      asks = asks;
      len = ap (λ (n : ℕ). drop n unread) len;
      within = omega (arith, len);
    };
  }

  served_cut : (o : Opened K) (cut : Cut) (unread : List ℕ) (old new : Seen K) (r : Result Served WebEnd) → IsCut unread cut → IfOk r (IsServedBy o cut unread old new) → IfOk r (IsServed o unread old new)
  served_cut o cut unread old new (Ok served) is h = record { cut = cut; is = is; served = h }
  served_cut o cut unread old new (Err end) is h = tt

  -- a request that was cut is served
  pub served_whole : (o : Opened K) (cut : Cut) (slice unread : List ℕ) (got : Cut) (old mid new : Seen K) (r : Result Served WebEnd) → slice ≡ unread → got ≡ cut → IsCut slice got → mid ≡ old → IfOk r (IsServedBy o cut unread mid new) → IfOk r (IsServed o unread old new)
  served_whole o cut slice unread got old mid new r value is h same x =
      served_cut o cut unread old new r (subst (λ (l : List ℕ). IsCut l cut) value (subst (IsCut slice) is h)) (subst (λ (p : Seen K). IfOk r (IsServedBy o cut unread p new)) same x)

  unserved_cut : (o : Opened K) (cut : Cut) (left : Option (List ℕ)) (unread : List ℕ) (old new : Seen K) (r : Result Served WebEnd) → IsCut unread cut → OnErr r (IsTakenUp (AnswersCut o cut) old new) → OnErr r (r ≡ Err NoMemory) → IfErr r (IsUnserved o left unread old new)
  unserved_cut o cut left unread old new (Ok served) is h only = tt
  unserved_cut o cut left unread old new (Err end) is h only =
      let memory : NoMemory ≡ end = cc in
      subst (IsUnserved o left unread old new) memory (inr (cut, is, h))

  -- or there was no memory for it
  pub unserved_whole : (o : Opened K) (cut : Cut) (left : Option (List ℕ)) (slice unread : List ℕ) (got : Cut) (old mid new : Seen K) (r : Result Served WebEnd) → slice ≡ unread → got ≡ cut → IsCut slice got → mid ≡ old → OnErr r (IsTakenUp (AnswersCut o cut) mid new) → OnErr r (r ≡ Err NoMemory) → IfErr r (IsUnserved o left unread old new)
  unserved_whole o cut left slice unread got old mid new r value is h same x only =
      unserved_cut o cut left unread old new r (subst (λ (l : List ℕ). IsCut l cut) value (subst (IsCut slice) is h)) (subst (λ (p : Seen K). OnErr r (IsTakenUp (AnswersCut o cut) p new)) same x) only

  at_end : (o : Opened K) (left : Option (List ℕ)) (unread : List ℕ) (old new : Seen K) → IsAtEnd left → IsInside unread → new ≡ old → IsUnserved o left unread old new (ended unread)
  at_end o left [] old new at inside same = record { ended = at; none = refl; pass = same }
  at_end o left (x ∷ xs) old new at inside same = record { ended = at; some = λ (e : x ∷ xs ≡ []). absurd (cc); inside = inside; pass = same }

  -- the input has ended
  pub ended_unserved : (o : Opened K) (left : Option (List ℕ)) (unread : List ℕ) (old new : Seen K) (end : WebEnd) → end ≡ ended unread → IsAtEnd left → IsInside unread → new ≡ old → IsUnserved o left unread old new end
  ended_unserved o left unread old new end is at inside same =
      subst (IsUnserved o left unread old new) (sym is) (at_end o left unread old new at inside same)
