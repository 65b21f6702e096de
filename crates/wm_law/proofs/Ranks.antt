-- The order of candidates is total, and the best of a list is its least.
use Rattle.std.proofs.Common.{◌≡◌, ℕ, ◌<◌, ◌⊎◌, Bool, true, false, cond, List, [], ◌∷◌, Option, Some, None, refl, sym, ap, subst, ◌∙◌, inl, inr}
use Rattle.std.specs.List.{fold}
use Rattle.std.specs.Ordering.{is_lt, is_gt, nat_cmp, ordering_then, ordering_reverse}
use Rattle.std.specs.Cmp.{IsTotalOrder}
use Rattle.std.specs.Cmp.Lexicographic.{slice_cmp}
use Rattle.std.specs.declared.cmp.Ordering.{Ordering}
use Rattle.std.specs.declared.cmp.Ordering.TheVariants.{Less, Equal, Greater}
use Rattle.std.proofs.lemmas.Cmp.{nat_list_cmp_total, nat_cmp_total, on_total, then_total, upto, tied_itself, ranked, by_ranked}
use Rattle.wm_law.specs.declared.choice.Candidate.{Candidate}
use Rattle.wm_law.specs.declared.choice.Rank.{Rank}
use Rattle.wm_law.specs.Choice.{better, place_cmp, rank_cmp}
use Rattle.wm_law.specs.Laws.{ComesBefore, IsIn, LesserComesBefore}

place_total : IsTotalOrder place_cmp
place_total =
    then_total (on_total (λ (r : Rank). r.seq) nat_cmp_total)
    (then_total (on_total (λ (r : Rank). r.pty) nat_cmp_total) (on_total (λ (r : Rank). r.place) nat_cmp_total))

pub rank_total : IsTotalOrder rank_cmp
rank_total = then_total (on_total (λ (r : Rank). r.sbs) nat_list_cmp_total) place_total

-- not behind
abbrev pub NotBehind : Candidate → Candidate → Type 0
NotBehind a b = is_gt (rank_cmp a.rank b.rank) ≡ false

pub chain : (a b c : Candidate) → NotBehind a b → NotBehind b c → NotBehind a c
chain a b c h k = upto rank_total a.rank b.rank c.rank h k

itself : (a : Candidate) → NotBehind a a
itself a = ap is_gt (tied_itself rank_total a.rank)

of_lt : (o : Ordering) → is_lt o ≡ true → is_gt o ≡ false
of_lt Less e = refl
of_lt Equal e = refl
of_lt Greater e = absurd (cc)

of_not_lt : (o : Ordering) → is_lt o ≡ false → is_gt (ordering_reverse o) ≡ false
of_not_lt Less e = absurd (cc)
of_not_lt Equal e = refl
of_not_lt Greater e = refl

turned : (a b : Candidate) → is_lt (rank_cmp b.rank a.rank) ≡ false → NotBehind a b
turned a b e = ap is_gt (rank_total.antisymm a.rank b.rank) ∙ of_not_lt (rank_cmp b.rank a.rank) e

-- of two, the one that is kept is behind neither
picks : (a b : Candidate) (t : Bool) → is_lt (rank_cmp b.rank a.rank) ≡ t → (r : Candidate) × (cond t (Some b) (Some a) ≡ Some r) × NotBehind r a × NotBehind r b
picks a b true e = (b, refl, of_lt (rank_cmp b.rank a.rank) e, itself b)
picks a b false e = (a, refl, itself a, turned a b e)

after_first : (o p : Option Candidate) (b : Candidate) → o ≡ Some b → (r : Candidate) × (better o p ≡ Some r) × NotBehind r b
after_first None p b e = absurd (cc)
after_first (Some a) None b e = let same : a ≡ b = cc in (a, refl, subst (λ (x : Candidate). NotBehind a x) same (itself a))
after_first (Some a) (Some c) b e =
    let same : a ≡ b = cc in
    let k = picks a c (is_lt (rank_cmp c.rank a.rank)) refl in
    (k.0, k.1, subst (λ (x : Candidate). NotBehind k.0 x) same k.2)

after_second : (o p : Option Candidate) (b : Candidate) → p ≡ Some b → (r : Candidate) × (better o p ≡ Some r) × NotBehind r b
after_second o None b e = absurd (cc)
after_second None (Some a) b e = let same : a ≡ b = cc in (a, refl, subst (λ (x : Candidate). NotBehind a x) same (itself a))
after_second (Some a) (Some c) b e =
    let same : c ≡ b = cc in
    let k = picks a c (is_lt (rank_cmp c.rank a.rank)) refl in
    (k.0, k.1, subst (λ (x : Candidate). NotBehind k.0 x) same k.3)

chosen : (t : Bool) (x y z : Option Candidate) → cond t x y ≡ z → (y ≡ z) ⊎ (x ≡ z)
chosen true x y z e = inr e
chosen false x y z e = inl e

-- the better of two is one of them
one_of : (best other : Option Candidate) (c : Candidate) → better best other ≡ Some c → (best ≡ Some c) ⊎ (other ≡ Some c)
one_of best None c e = inl e
one_of None (Some d) c e = inr e
one_of (Some b) (Some d) c e = chosen (is_lt (rank_cmp d.rank b.rank)) (Some d) (Some b) (Some c) e

-- the best of a candidate and of what the elements of a list give
abbrev pub best_of : {X : Type 0} → (X → Option Candidate) → Option Candidate → List X → Option Candidate
best_of f best xs = fold (λ b x. better b (f x)) best xs

-- the candidate is what an element of the list gives
abbrev pub IsFrom : {X : Type 0} → (X → Option Candidate) → List X → Candidate → Type 0
IsFrom {X} f xs c = (x : X) × IsIn x xs × (f x ≡ Some c)

from_some : {X : Type 0} (f : X → Option Candidate) (xs : List X) (best : Option Candidate) (c : Candidate) → best_of f best xs ≡ Some c → (best ≡ Some c) ⊎ IsFrom f xs c
from_some f [] best c e = inl e
from_some f (x ∷ xs) best c e =
    elim (from_some f xs (better best (f x)) c e) as (λ _. (best ≡ Some c) ⊎ IsFrom f (x ∷ xs) c) [
      | inl h ↦ (elim (one_of best (f x) c h) as (λ _. (best ≡ Some c) ⊎ IsFrom f (x ∷ xs) c) [ inl b ↦ inl b | inr o ↦ inr (x, inl refl, o) ])
      | inr k ↦ inr (k.0, inr k.1, k.2)
    ]

-- the best of a list is what one of its elements gives
pub from_best : {X : Type 0} (f : X → Option Candidate) (xs : List X) (c : Candidate) → best_of f None xs ≡ Some c → IsFrom f xs c
from_best f xs c e = elim (from_some f xs None c e) as (λ _. IsFrom f xs c) [ inl h ↦ absurd (cc) | inr k ↦ k ]

-- the best is not behind what was there before the list
least_of_best : {X : Type 0} (f : X → Option Candidate) (xs : List X) (best : Option Candidate) (r : Candidate) → best_of f best xs ≡ Some r → (b : Candidate) → best ≡ Some b → NotBehind r b
least_of_best f [] best r e b h = let same : b ≡ r = cc in subst (λ (x : Candidate). NotBehind x b) same (itself b)
least_of_best f (x ∷ xs) best r e b h =
    let m = after_first best (f x) b h in
    chain r m.0 b (least_of_best f xs (better best (f x)) r e m.0 m.1) m.2

-- nor behind what any element gives
pub least_of : {X : Type 0} (f : X → Option Candidate) (xs : List X) (best : Option Candidate) (r : Candidate) → best_of f best xs ≡ Some r → (y : X) (d : Candidate) → IsIn y xs → f y ≡ Some d → NotBehind r d
least_of f [] best r e y d i h = absurd i
least_of f (x ∷ xs) best r e y d (inl same) h =
    let m = after_second best (f x) d (ap f (sym same) ∙ h) in
    chain r m.0 d (least_of_best f xs (better best (f x)) r e m.0 m.1) m.2
least_of f (x ∷ xs) best r e y d (inr i) h = least_of f xs (better best (f x)) r e y d i h

-- where there is no best, there was nothing before the list
none_of_best : {X : Type 0} (f : X → Option Candidate) (xs : List X) (best : Option Candidate) (b : Candidate) → best ≡ Some b → best_of f best xs ≡ None → ⊥
none_of_best f [] best b h e = absurd (cc)
none_of_best f (x ∷ xs) best b h e =
    let m = after_first best (f x) b h in
    none_of_best f xs (better best (f x)) m.0 m.1 e

-- and no element gives anything
pub none_of : {X : Type 0} (f : X → Option Candidate) (xs : List X) (best : Option Candidate) → best_of f best xs ≡ None → (y : X) (d : Candidate) → IsIn y xs → f y ≡ Some d → ⊥
none_of f [] best e y d i h = absurd i
none_of f (x ∷ xs) best e y d (inl same) h =
    let m = after_second best (f x) d (ap f (sym same) ∙ h) in
    none_of_best f xs (better best (f x)) m.0 m.1 e
none_of f (x ∷ xs) best e y d (inr i) h = none_of f xs (better best (f x)) e y d i h

slice_level : (n m : List ℕ) → m ≡ n → slice_cmp nat_cmp n m ≡ Equal
slice_level n m same = subst (λ (x : List ℕ). slice_cmp nat_cmp x m ≡ Equal) same (tied_itself nat_list_cmp_total m)

of_lt_turned : (o : Ordering) → is_lt o ≡ true → is_gt (ordering_reverse o) ≡ true
of_lt_turned Less e = refl
of_lt_turned Equal e = absurd (cc)
of_lt_turned Greater e = absurd (cc)

of_less : (o p : Ordering) → is_lt o ≡ true → is_gt (ordering_then (ordering_reverse o) p) ≡ true
of_less Less p e = refl
of_less Equal p e = absurd (cc)
of_less Greater p e = absurd (cc)

-- what isn't behind another of its subsystem has none before it there
pub not_before : (a b : Rank) → b.sbs ≡ a.sbs → is_gt (rank_cmp a b) ≡ false → is_lt (place_cmp b a) ≡ true → ⊥
not_before a b same h less =
    let level = ap (λ (o : Ordering). is_gt (ordering_then o (place_cmp a b))) (slice_level a.sbs b.sbs same) in
    let turned = ap is_gt (place_total.antisymm a b) in
    let greater = of_lt_turned (place_cmp b a) less in
    absurd (cc)

-- the rank of a job of a subsystem whose name comes before is less
pub not_earlier : (a b : Rank) → is_gt (rank_cmp a b) ≡ false → is_lt (slice_cmp nat_cmp b.sbs a.sbs) ≡ true → ⊥
not_earlier a b h less =
    let turned = ap (λ (o : Ordering). is_gt (ordering_then o (place_cmp a b))) (nat_list_cmp_total.antisymm a.sbs b.sbs) in
    let greater = of_less (slice_cmp nat_cmp b.sbs a.sbs) (place_cmp a b) less in
    absurd (cc)

less_first : (a b : ℕ) (o : Ordering) → is_lt (ordering_then (nat_cmp a b) o) ≡ true → (a < b) ⊎ ((a ≡ b) × (is_lt o ≡ true))
less_first a b o h =
    by_ranked (a < b) (a ≡ b) (b < a) (nat_cmp a b) (ranked a b (nat_cmp a b) refl)
    (λ e (k : a < b). inl k)
    (λ e (k : a ≡ b). inr (k, ap (λ (p : Ordering). is_lt (ordering_then p o)) (sym e) ∙ h))
    (λ e (k : b < a). (let none : false ≡ true = ap (λ (p : Ordering). is_lt (ordering_then p o)) (sym e) ∙ h in absurd (cc)))

less_last : (a b : ℕ) → is_lt (nat_cmp a b) ≡ true → a < b
less_last a b h =
    by_ranked (a < b) (a ≡ b) (b < a) (nat_cmp a b) (ranked a b (nat_cmp a b) refl)
    (λ e (k : a < b). k)
    (λ e (k : a ≡ b). (let none : false ≡ true = ap is_lt (sym e) ∙ h in absurd (cc)))
    (λ e (k : b < a). (let none : false ≡ true = ap is_lt (sym e) ∙ h in absurd (cc)))

second_less : (b e c f : ℕ) → is_lt (ordering_then (nat_cmp b e) (nat_cmp c f)) ≡ true → (b < e) ⊎ ((b ≡ e) × (c < f))
second_less b e c f h =
    elim (less_first b e (nat_cmp c f) h) as (λ _. (b < e) ⊎ ((b ≡ e) × (c < f))) [ inl l ↦ inl l | inr m ↦ inr (m.0, less_last c f m.1) ]

pub comes_before : LesserComesBefore
comes_before a b h =
    elim (less_first a.seq b.seq (ordering_then (nat_cmp a.pty b.pty) (nat_cmp a.place b.place)) h) as (λ _. ComesBefore a b) [
      | inl l ↦ inl l
      | inr m ↦ (elim (second_less a.pty b.pty a.place b.place m.1) as (λ _. ComesBefore a b) [ inl l ↦ inr (inl (m.0, l)) | inr n ↦ inr (inr (m.0, n.0, n.1)) ])
    ]

not_apart : (o : Ordering) → is_lt o ≡ false → is_lt (ordering_reverse o) ≡ false → o ≡ Equal
not_apart Less e f = absurd (cc)
not_apart Equal e f = refl
not_apart Greater e f = absurd (cc)

both_level : (o p : Ordering) → ordering_then o p ≡ Equal → (o ≡ Equal) × (p ≡ Equal)
both_level Less p e = absurd (cc)
both_level Equal p e = (refl, e)
both_level Greater p e = absurd (cc)

same_number : (a b : ℕ) → nat_cmp a b ≡ Equal → a ≡ b
same_number a b h =
    by_ranked (a < b) (a ≡ b) (b < a) (nat_cmp a b) (ranked a b (nat_cmp a b) refl)
    (λ e (k : a < b). absurd (cc))
    (λ e (k : a ≡ b). k)
    (λ e (k : b < a). absurd (cc))

-- neither comes before the other, so all three are the same
pub level_ranks : (a b : Rank) → is_lt (place_cmp a b) ≡ false → is_lt (place_cmp b a) ≡ false → (a.seq ≡ b.seq) × (a.pty ≡ b.pty) × (a.place ≡ b.place)
level_ranks a b h k =
    let level = not_apart (place_cmp a b) h (sym (ap is_lt (place_total.antisymm b a)) ∙ k) in
    let first = both_level (nat_cmp a.seq b.seq) (ordering_then (nat_cmp a.pty b.pty) (nat_cmp a.place b.place)) level in
    let rest = both_level (nat_cmp a.pty b.pty) (nat_cmp a.place b.place) first.1 in
    (same_number a.seq b.seq first.0, same_number a.pty b.pty rest.0, same_number a.place b.place rest.1)
