-- Laws of a pass that goes on.
use Rattle.std.proofs.Common.{◌≡◌, ℕ, ◌≤◌, ◌&&◌, ◌==◌, Bool, true, List, [], ◌∷◌, ◌++◌, length, sym, ap, subst, ◌∙◌, refl, eq-eqb, append-nil, arith, inl}
use Rattle.std.specs.List.{list_all}
use Rattle.std.proofs.lemmas.List.{length-append, nil_from_length}
use Rattle.std.proofs.lemmas.List.Elements.{filter-append}
use Rattle.std.proofs.lemmas.List.Folds.{list_all-append}
use Rattle.wm_law.specs.declared.call.Entry.{Entry}
use Rattle.wm_law.specs.declared.state.State.{State}
use Rattle.wm_law.specs.History.{after}
use Rattle.wm_law.proofs.History.{after-append}
use Rattle.wm_floor.specs.History.{reached}
use Rattle.wm_turn.specs.Passed.{own}
use Rattle.wm_floor.specs.Lists.{since, Extends}
use Rattle.wm_floor.proofs.Lists.{Extends-then, since-append, since-then}
use Rattle.wm_floor.specs.Floor.{Floored, HasLooked, IsPassOf, IsSame, Seen}
use Rattle.wm_floor.specs.Ledger.{behind, caller_of}
use Rattle.wm_floor.specs.Advance.{GoesOn, is_monitors}
use Rattle.wm_floor.specs.Idle.{NoneIsIdle, IsCalledFor}
use Rattle.wm_floor.proofs.Idles.{NoneIsIdle-append, NoneIsIdle-one, NoneIsIdle-others}

-- what stands behind the same front is the same
same_rest : {A : Type 0} (front xs ys : List A) → front ++ xs ≡ front ++ ys → xs ≡ ys
same_rest front xs ys is = sym (since-append front xs) ∙ (ap (since front) is ∙ since-append front ys)

-- a list that is known by what came behind it
pub Extends-by : {A : Type 0} (old new more : List A) → new ≡ old ++ more → Extends old new
Extends-by old new more is = is ∙ ap (λ xs. old ++ xs) (sym (ap (since old) is ∙ since-append old more))

pub since-by : {A : Type 0} (old new more : List A) → new ≡ old ++ more → since old new ≡ more
since-by old new more is = ap (since old) is ∙ since-append old more

-- an entry of the number is the own one alone
own_one : (n : ℕ) (e : Entry) → e.caller ≡ n → own caller_of n (e ∷ []) ≡ e ∷ []
own_one n e is = let test : e.caller == n ≡ true = eq-eqb e.caller n is in rw test refl

-- entries that end in an own one, of which no other is own
others_none : (n : ℕ) (others : List Entry) (e : Entry) → e.caller ≡ n → own caller_of n (others ++ e ∷ []) ≡ e ∷ [] → own caller_of n others ≡ []
others_none n others e is alone =
    let both : own caller_of n (others ++ e ∷ []) ≡ own caller_of n others ++ own caller_of n (e ∷ []) = filter-append (λ (x : Entry). caller_of x == n) others (e ∷ []) in
    let whole : own caller_of n others ++ e ∷ [] ≡ e ∷ [] = ap (λ (xs : List Entry). own caller_of n others ++ xs) (sym (own_one n e is)) ∙ (sym both ∙ alone) in
    let count = ap length whole ∙ refl in
    let sum = length-append (own caller_of n others) (e ∷ []) in
    nil_from_length (own caller_of n others) (omega arith)

module _ {K : Type 0} (f : Floored K) where
  -- a pass that goes on, by what it has seen since and what it has made since
  GoesOn-by : (p q : Seen K) (more es : List Entry) → IsPassOf f q → IsSame p q → q.seen ≡ p.seen ++ more → q.mine ≡ p.mine ++ es → list_all is_monitors es ≡ true → NoneIsIdle p.number [] (reached (behind f.opening p.seen)) more → p.mark ≤ q.mark → GoesOn f p q
  GoesOn-by p q more es own same seen mine calls no_idle mark = record {
    own = own;
    same = same;
    seen = Extends-by p.seen q.seen more seen;
    mine = Extends-by p.mine q.mine es mine;
    calls = ap (list_all is_monitors) (since-by p.mine q.mine es mine) ∙ calls;
    no_idle = subst (λ (xs : List Entry). NoneIsIdle p.number [] (reached (behind f.opening p.seen)) xs) (sym (since-by p.seen q.seen more seen)) no_idle;
    mark = mark;
  }

  -- the own entries among what was seen since are those that were made since
  pub own_since : (p q : Seen K) (more es : List Entry) → IsPassOf f p → IsPassOf f q → IsSame p q → q.seen ≡ p.seen ++ more → q.mine ≡ p.mine ++ es → own caller_of p.number more ≡ es
  own_since p q more es before now same seen mine =
      let number = ap (λ (n : ℕ). own caller_of n q.seen) same.number in
      let both : own caller_of p.number (p.seen ++ more) ≡ own caller_of p.number p.seen ++ own caller_of p.number more = filter-append (λ (x : Entry). caller_of x == p.number) p.seen more in
      let whole : p.mine ++ own caller_of p.number more ≡ q.mine = ap (λ (xs : List Entry). xs ++ own caller_of p.number more) before.mine ∙ (sym both ∙ (sym (ap (own caller_of p.number) seen) ∙ (sym number ∙ sym now.mine))) in
      same_rest p.mine (own caller_of p.number more) es (whole ∙ mine)

  -- a pass that has made nothing
  pub GoesOn-quiet : (p q : Seen K) (more : List Entry) → IsPassOf f p → IsPassOf f q → IsSame p q → q.seen ≡ p.seen ++ more → q.mine ≡ p.mine → p.mark ≤ q.mark → GoesOn f p q
  GoesOn-quiet p q more before now same seen mine mark =
      let none = mine ∙ sym (append-nil p.mine) in
      let others = own_since p q more [] before now same seen none in
      GoesOn-by p q more [] now same seen none refl (NoneIsIdle-others p.number [] (reached (behind f.opening p.seen)) more others) mark

  -- a pass that has looked on
  pub GoesOn-looked : (p q : Seen K) → IsPassOf f p → IsPassOf f q → IsSame p q → HasLooked p q → GoesOn f p q
  GoesOn-looked p q before now same looked = GoesOn-quiet p q looked.seen.0 before now same looked.seen.1 looked.mine looked.mark

  -- a pass as it is
  pub GoesOn-none : (p : Seen K) → IsPassOf f p → GoesOn f p p
  GoesOn-none p own = GoesOn-quiet p p [] own own (record { number = refl; made = refl; joined = refl }) (sym (append-nil p.seen)) refl (omega arith)

  -- a pass that has made one entry, called for in the state that it had seen
  pub GoesOn-made : (p q : Seen K) (others : List Entry) (e : Entry) → IsPassOf f p → IsPassOf f q → IsSame p q → q.seen ≡ p.seen ++ (others ++ e ∷ []) → q.mine ≡ p.mine ++ e ∷ [] → e.caller ≡ p.number → is_monitors e ≡ true → IsCalledFor p.number (reached (behind f.opening p.seen)) e.moment e.call → p.mark ≤ q.mark → GoesOn f p q
  GoesOn-made p q others e before now same seen mine caller monitors called_for mark =
      let alone = own_since p q (others ++ e ∷ []) (e ∷ []) before now same seen mine in
      let none = others_none p.number others e caller alone in
      let calls : list_all is_monitors (e ∷ []) ≡ true = rw monitors refl in
      GoesOn-by p q (others ++ e ∷ []) (e ∷ []) now same seen mine calls (NoneIsIdle-one p.number [] (reached (behind f.opening p.seen)) others e none (inl called_for)) mark

  -- a pass that goes on, and on
  pub GoesOn-then : (p q r : Seen K) → GoesOn f p q → GoesOn f q r → GoesOn f p r
  GoesOn-then p q r h k =
      let es = since p.mine q.mine in
      let fs = since q.mine r.mine in
      let s = reached (behind f.opening p.seen) in
      let state : reached (behind f.opening q.seen) ≡ after s (since p.seen q.seen) = ap (after f.opening.state) h.seen ∙ after-append f.opening.state p.seen (since p.seen q.seen) in
      let own_idle = subst (λ (n : ℕ). NoneIsIdle n [] (reached (behind f.opening q.seen)) (since q.seen r.seen)) h.same.number k.no_idle in
      let rest = subst (λ (t : State). NoneIsIdle p.number [] t (since q.seen r.seen)) state own_idle in
      let all = NoneIsIdle-append p.number [] s (since p.seen q.seen) (since q.seen r.seen) h.no_idle rest in
      record {
        own = k.own;
        same = record { number = k.same.number ∙ h.same.number; made = k.same.made ∙ h.same.made; joined = k.same.joined ∙ h.same.joined };
        seen = Extends-then p.seen q.seen r.seen h.seen k.seen;
        mine = Extends-then p.mine q.mine r.mine h.mine k.mine;
        calls = ap (list_all is_monitors) (since-then p.mine q.mine r.mine h.mine k.mine) ∙ (list_all-append is_monitors es fs ∙ (ap (λ (b : Bool). b && list_all is_monitors fs) h.calls ∙ k.calls));
        no_idle = subst (λ (xs : List Entry). NoneIsIdle p.number [] s xs) (sym (since-then p.seen q.seen r.seen h.seen k.seen)) all;
        mark = let x = h.mark in let y = k.mark in omega arith;
      }
