-- What the steps of a turn come to together.
use Rattle.std.proofs.Common.{◌≡◌, ◌≢◌, ℕ, ◌+◌, ◌-◌, ◌≤◌, ◌↔◌, IsTrue, Bool, true, false, List, [], ◌∷◌, ◌++◌, length, drop, Option, Some, None, is_some, IsSome, sym, refl, ap, ◌∙◌, subst, arith, append-nil, add-zero, true≢false}
use mathlib.Core.Logic.{dite}
use native.Mathlib.Decide.{ℕ_discrete}
use Rattle.wm_turn.specs.declared.view.View.{View}
use Rattle.wm_turn.specs.declared.view.Stage.{Stage}
use Rattle.wm_turn.specs.declared.view.Stage.TheVariants.{Idle, Waiting, Turn}
use Rattle.wm_turn.specs.Passed.{risen}
use Rattle.wm_turn.specs.Kinds.{Begins}
use Rattle.wm_turn.specs.Held.{Stands, turn_of}
use Rattle.wm_turn.specs.Views.{Seated, IsTurn, is_live, at_stage, before_of, failed_of, flagged, with_entry, with_mark, entered, noted, done}

drop_all : {E : Type 0} (l : List E) → drop (length l) l ≡ []
drop_all [] = refl
drop_all (x ∷ xs) = drop_all xs

drop_front : {E : Type 0} (l more : List E) → drop (length l) (l ++ more) ≡ more
drop_front [] more = refl
drop_front (x ∷ xs) more = drop_front xs more

risen_none : (mark before after : ℕ) → before ≤ after → after ≡ 0 → risen mark before after ≡ mark
risen_none mark before after up zero_after = let zero_before : before ≡ 0 = omega arith in (λ i. risen mark (zero_before i) (zero_after i)) ∙ add-zero mark

module _ {O E : Type 0} where
  pub entered_same : (list : List E) (v : View O E) → list ≡ v.seen → entered list v ≡ v
  entered_same list v e = ap (λ (l : List E). entered l v) e ∙ ap (λ (m : List E). record v { mine = m }) (ap (λ (l : List E). v.mine ++ l) (drop_all v.seen) ∙ append-nil v.mine)

  pub entered_one : (list : List E) (entry : E) (v : View O E) → list ≡ v.seen ++ entry ∷ [] → entered list v ≡ with_entry entry v
  entered_one list entry v e = ap (λ (l : List E). entered l v) e ∙ ap (λ (l : List E). record v { seen = v.seen ++ entry ∷ []; mine = v.mine ++ l }) (drop_front v.seen (entry ∷ []))

  pub noted_turn : (t m f after : ℕ) (v : View O E) → v.stage ≡ Turn t m f → with_mark (risen v.mark m after) (Turn t m 1) v ≡ noted true after v
  noted_turn t m f after v is = ap (λ (s : Stage). with_mark (risen v.mark (before_of s) after) (flagged s) v) (sym is)

  pub noted_is_turn : (b : Bool) (after : ℕ) (v : View O E) → IsTurn v.stage → IsTurn (noted b after v).stage
  noted_is_turn true after v t = (t.0, t.1, 1, ap flagged t.3)
  noted_is_turn false after v t = t

  pub noted_marks : (b : Bool) (after : ℕ) (v : View O E) → (IsTrue b ↔ (after ≢ 0)) → (failed_of v.stage ≡ 1 → before_of v.stage ≢ 0) → before_of v.stage ≤ after → failed_of (noted b after v).stage ≡ 1 → after ≢ 0
  noted_marks true after v marked known up is = marked.0 refl
  noted_marks false after v marked known up is = let some = known is in λ none_after. some (omega arith)

  pub done_is : (b : Bool) (after : ℕ) (list : List E) (v : View O E) → (IsTrue b ↔ (after ≢ 0)) → before_of v.stage ≤ after → at_stage Idle (noted b after (entered list v)) ≡ done list after v
  done_is true after list v marked up = refl
  done_is false after list v marked up = dite (ℕ_discrete after 0)
      (λ none_after. ap (λ (m : ℕ). record v { seen = list; mine = v.mine ++ drop (length v.seen) list; mark = m; stage = Idle }) (sym (risen_none v.mark (before_of v.stage) after up none_after)))
      (λ some. absurd (true≢false (sym (marked.1 some))))

module _ {X : Type 0} where
  pub stands_turn : (st : Stage) (slots : List (ℕ × Option X)) (seen count : ℕ) → IsTurn st → Stands st slots seen count → (slots ≡ (0, None) ∷ []) × (count ≡ seen) × (failed_of st ≡ 1 → before_of st ≢ 0)
  stands_turn st slots seen count t = subst (λ (s : Stage). Stands s slots seen count → (slots ≡ (0, None) ∷ []) × (count ≡ seen) × (failed_of s ≡ 1 → before_of s ≢ 0)) (sym t.3) (λ h. h)

  -- a pass that hasn't the turn is idle, and nothing is out with it
  pub stands_idle : (st : Stage) (slots : List (ℕ × Option X)) (seen count : ℕ) → turn_of st ≡ None → Stands st slots seen count → (st ≡ Idle) × (slots ≡ [])
  stands_idle Idle slots seen count none_had h = (refl, h)
  stands_idle (Waiting t) slots seen count none_had h = absurd h
  stands_idle (Turn t m f) slots seen count none_had h = absurd (true≢false (ap is_some none_had))

-- and one that has it is in its turn
pub stands_in : (st : Stage) → IsSome (turn_of st) → IsTurn st
stands_in Idle h = absurd (true≢false (sym h))
stands_in (Waiting t) h = absurd (true≢false (sym h))
stands_in (Turn t m f) h = (t, m, f, refl)

-- a seat that didn't change
module _ {X O E : Type 0} (m m' : Seated X O E) (same : m ≡ m') where
  pub still_waits : (t : ℕ) → m'.0.stage ≡ Waiting t → m.0.stage ≡ Waiting t
  still_waits t e = ap (λ (z : Seated X O E). z.0.stage) same ∙ e

  pub still_free : m'.1 ≡ [] → m.1 ≡ []
  still_free e = ap (λ (z : Seated X O E). z.1) same ∙ e

  pub still_live : is_live m'.0 ≡ true → is_live m.0 ≡ true
  still_live e = ap (λ (z : Seated X O E). is_live z.0) same ∙ e

  pub still_begins : (opening : X → O) (stands : X → List E) (mark : X → ℕ) (t : ℕ) (after : Seated X O E) → Begins opening stands mark t m after → Begins opening stands mark t m' after
  still_begins opening stands mark t after b = subst (λ (z : Seated X O E). Begins opening stands mark t z after) same b

-- the steps of `leave`, one after another
module _ {X O E : Type 0} (x : X) (b : Bool) (after : ℕ) (list : List E) (m0 m1 m2 m3 : Seated X O E)
    (laid : m1 ≡ (m0.0, (0, Some x) ∷ [])) (entry : m2 ≡ (entered list m1.0, m1.1)) (mark_is : m3 ≡ (noted b after m2.0, m2.1)) where
  abbrev V : Type 0
  V = View O E

  first_is : m1.0 ≡ m0.0
  first_is = ap (λ (m : Seated X O E). m.0) laid

  second_is : m2.0 ≡ entered list m0.0
  second_is = ap (λ (m : Seated X O E). m.0) entry ∙ ap (λ (v : V). entered list v) first_is

  third_is : m3.0 ≡ noted b after (entered list m0.0)
  third_is = ap (λ (m : Seated X O E). m.0) mark_is ∙ ap (λ (v : V). noted b after v) second_is

  pub first_holds : m1.1 ≡ (0, Some x) ∷ []
  first_holds = ap (λ (m : Seated X O E). m.1) laid

  pub second_holds : m2.1 ≡ (0, Some x) ∷ []
  second_holds = ap (λ (m : Seated X O E). m.1) entry ∙ first_holds

  pub third_holds : m3.1 ≡ (0, Some x) ∷ []
  third_holds = ap (λ (m : Seated X O E). m.1) mark_is ∙ second_holds

  pub first_to : (P : V → Type 0) → P m0.0 → P m1.0
  first_to P = subst P (sym first_is)

  pub second_to : (P : V → Type 0) → P (entered list m0.0) → P m2.0
  second_to P = subst P (sym second_is)

  pub third_to : (P : V → Type 0) → P (noted b after (entered list m0.0)) → P m3.0
  third_to P = subst P (sym third_is)

  pub all_done : (m4 : Seated X O E) → m4 ≡ (at_stage Idle m3.0, []) → (IsTrue b ↔ (after ≢ 0)) → before_of m0.0.stage ≤ after → m4 ≡ (done list after m0.0, [])
  all_done m4 left marked up = let over : V → Seated X O E = λ v. (v, []) in left ∙ (ap (λ (v : V). over (at_stage Idle v)) third_is ∙ ap over (done_is b after list m0.0 marked up))

module _ {X O E : Type 0} (m m' : Seated X O E) where
  pub turn_over : (cs : List (ℕ × Option X)) → m ≡ (m'.0, cs) → IsTurn m'.0.stage → IsTurn m.0.stage
  turn_over cs same t = (t.0, t.1, t.2, ap (λ (z : Seated X O E). z.0.stage) same ∙ t.3)

  pub begins_turn : (opening : X → O) (stands : X → List E) (mark : X → ℕ) (t : ℕ) → Begins opening stands mark t m' m → IsTurn m.0.stage
  begins_turn opening stands mark t b = (t, mark b.0, b.1, ap (λ (z : Seated X O E). z.0.stage) b.2)
