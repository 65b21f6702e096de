-- What the fold over the items comes to: the head.
use Rattle.std.proofs.Common.{◌≡◌, ◌⊎◌, ℕ, ◌<◌, ◌≤◌, Bool, true, false, cond, ltb, List, [], ◌∷◌, Option, Some, None, fold, inl, inr, refl, ap, ◌∙◌, subst, arith, Contains}
use Rattle.std.specs.List.{filter}
use Rattle.std.proofs.lemmas.Bool.Decides.{nat_tests}
use Rattle.wm_base.specs.declared.qname.QName.{QName}
use Rattle.wm_ordered.proofs.Members.{Contains-head, Contains-cons, Contains-nil, Contains-cases, Contains-filter, Contains-from_filter, filter-empty}
use Rattle.wm_ordered.specs.declared.waiter.Waiter.{Waiter}
use Rattle.wm_ordered.specs.Waiting.{nearer, head_of, is_turn}

-- the one that no other is nearer than stays
nearer-stays : (w v : Waiter) → w.place ≤ v.place → nearer (Some w) v ≡ Some w
nearer-stays w v le = grind (arith, nat_tests)

nearer-comes : (v w : Waiter) → w.place < v.place → nearer (Some v) w ≡ Some w
nearer-comes v w lt = grind (arith, nat_tests)

fold-stays : (xs : List Waiter) (w : Waiter) → ((v : Waiter) → Contains xs v → w.place ≤ v.place) → fold nearer (Some w) xs ≡ Some w
fold-stays [] w least = refl
fold-stays (x ∷ xs) w least =
    ap (λ a. fold nearer a xs) (nearer-stays w x (least x (Contains-head x xs))) ∙ fold-stays xs w (λ v h. least v (Contains-cons x v xs h))

-- the best so far is none, or isn't nearer than w
abbrev Beyond : Waiter → Option Waiter → Type 0
Beyond w None = Unit {0}
Beyond w (Some u) = (u ≡ w) ⊎ (w.place < u.place)

nearer-takes : (a : Option Waiter) (w : Waiter) → Beyond w a → nearer a w ≡ Some w
nearer-takes None w h = refl
nearer-takes (Some u) w h = elim h [ inl same ↦ ap (λ (z : Waiter). nearer (Some z) w) same ∙ nearer-stays w w (omega arith) | inr lt ↦ nearer-comes u w lt ]

either : (b : Bool) (w x u : Waiter) → w.place < x.place → (u ≡ w) ⊎ (w.place < u.place) → Beyond w (cond b (Some x) (Some u))
either true w x u lt h = inr lt
either false w x u lt h = h

nearer-beyond : (a : Option Waiter) (w x : Waiter) → w.place < x.place → Beyond w a → Beyond w (nearer a x)
nearer-beyond None w x lt h = inr lt
nearer-beyond (Some u) w x lt h = either (ltb x.place u.place) w x u lt h

pub fold-nearer : (xs : List Waiter) (a : Option Waiter) (w : Waiter) → Contains xs w → ((v : Waiter) → Contains xs v → (v ≡ w) ⊎ (w.place < v.place)) → Beyond w a → fold nearer a xs ≡ Some w
fold-nearer [] a w there least beyond = absurd (Contains-nil w there)
fold-nearer (x ∷ xs) a w there least beyond =
    elim (least x (Contains-head x xs)) [
      | inl same ↦ ap (λ (z : Waiter). fold nearer (nearer a z) xs) same ∙ (ap (λ b. fold nearer b xs) (nearer-takes a w beyond) ∙ fold-stays xs w (λ v h. elim (least v (Contains-cons x v xs h)) [ inl e ↦ not_less v e | inr lt ↦ omega arith ]))
      | inr lt ↦ elim (Contains-cases x w xs there) [
        | inl e ↦ absurd (self_less x w e lt)
        | inr later ↦ fold-nearer xs (nearer a x) w later (λ v h. least v (Contains-cons x v xs h)) (nearer-beyond a w x lt beyond)
      ]
    ]
  where
    not_less : (v : Waiter) → v ≡ w → w.place ≤ v.place
    not_less v e = subst (λ (z : Waiter). z.place ≤ v.place) e (omega arith)

    self_less : (x w : Waiter) → x ≡ w → w.place < x.place → ⊥
    self_less x w e lt = let places : x.place ≡ w.place = ap (λ (z : Waiter). z.place) e in omega arith

module _ (queue : QName) (pty clock : ℕ) (items : List Waiter) where
  -- none has its turn
  pub head-None : ((v : Waiter) → Contains items v → is_turn queue pty clock v ≡ false) → head_of queue pty clock items ≡ None
  head-None none = ap (λ l. fold nearer None l) (filter-empty (is_turn queue pty clock) items none)

  -- one has its turn, and each other that has its turn has a greater place
  pub head-Some : (w : Waiter) → Contains items w → is_turn queue pty clock w ≡ true → ((v : Waiter) → Contains items v → is_turn queue pty clock v ≡ true → (v ≡ w) ⊎ (w.place < v.place)) → head_of queue pty clock items ≡ Some w
  head-Some w there turn least =
      fold-nearer (filter (is_turn queue pty clock) items) None w (Contains-filter (is_turn queue pty clock) items w there turn)
      (λ v h. let parts = Contains-from_filter (is_turn queue pty clock) items v h in least v parts.0 parts.1) tt
