-- The names of the started subsystems stand in the order of their simple names.
use Rattle.std.proofs.Common.{◌≡◌, ◌⊎◌, ℕ, Bool, true, false, cond, List, [], ◌∷◌, map, refl, sym, ap, subst, ◌∙◌, inl, inr}
use Rattle.std.specs.Prelude.{⊤}
use Rattle.std.specs.Ordering.{nat_cmp, is_lt, ordering_reverse}
use Rattle.std.specs.Cmp.Lexicographic.{slice_cmp}
use Rattle.std.specs.declared.cmp.Ordering.{Ordering}
use Rattle.std.specs.declared.cmp.Ordering.TheVariants.{Less, Equal, Greater}
use Rattle.std.proofs.lemmas.Cmp.{nat_list_cmp_total}
use Rattle.std.proofs.lemmas.Map.Lookups.{exact_bytes}
use Rattle.wm_base.specs.declared.qname.QName.{QName}
use Rattle.wm_base.proofs.Orderings.{is_lt-Less}
use Rattle.wm_law.specs.declared.state.Sbs.{Sbs}
use Rattle.wm_law.specs.Kept.{IsDistinct}
use Rattle.wm_law.specs.Laws.{IsIn}
use Rattle.wm_law.specs.Supply.{inserted, in_order}

-- the simple name comes before the other
abbrev pub Precedes : QName → QName → Type 0
Precedes q r = is_lt (slice_cmp nat_cmp q.name r.name) ≡ true

-- each name precedes those behind it
abbrev pub IsAscending : List QName → Type 0
IsAscending [] = ⊤
IsAscending (q ∷ qs) = ((r : QName) → IsIn r qs → Precedes q r) × IsAscending qs

precedes_still : (p q r : QName) → Precedes p q → Precedes q r → Precedes p r
precedes_still p q r h k = ap is_lt (nat_list_cmp_total.trans p.name q.name r.name (is_lt-Less _ h) (is_lt-Less _ k))

other_way : (a b : List ℕ) (o : Ordering) → slice_cmp nat_cmp a b ≡ o → is_lt o ≡ false → (a ≡ b → ⊥) → is_lt (slice_cmp nat_cmp b a) ≡ true
other_way a b Less e n d = absurd (cc)
other_way a b Equal e n d = absurd (d (exact_bytes a b e))
other_way a b Greater e n d = ap is_lt (nat_list_cmp_total.antisymm b a ∙ ap ordering_reverse e)

of_placed_by : (t : Bool) (q p r : QName) (ps : List QName) → (IsIn r (inserted q ps) → (r ≡ q) ⊎ IsIn r ps) → IsIn r (cond t (p ∷ inserted q ps) (q ∷ p ∷ ps)) → (r ≡ q) ⊎ IsIn r (p ∷ ps)
of_placed_by true q p r ps h (inl e) = inr (inl e)
of_placed_by true q p r ps h (inr i) = elim (h i) as (λ _. (r ≡ q) ⊎ IsIn r (p ∷ ps)) [ inl e ↦ inl e | inr k ↦ inr (inr k) ]
of_placed_by false q p r ps h (inl e) = inl e
of_placed_by false q p r ps h (inr i) = inr i

of_placed : (q : QName) (qs : List QName) (r : QName) → IsIn r (inserted q qs) → (r ≡ q) ⊎ IsIn r qs
of_placed q [] r (inl e) = inl e
of_placed q [] r (inr i) = absurd i
of_placed q (p ∷ ps) r i = of_placed_by (is_lt (slice_cmp nat_cmp p.name q.name)) q p r ps (of_placed q ps r) i

in_placed_by : (t : Bool) (q p r : QName) (ps : List QName) → ((r ≡ q) ⊎ IsIn r ps → IsIn r (inserted q ps)) → (r ≡ q) ⊎ IsIn r (p ∷ ps) → IsIn r (cond t (p ∷ inserted q ps) (q ∷ p ∷ ps))
in_placed_by true q p r ps h (inl e) = inr (h (inl e))
in_placed_by true q p r ps h (inr (inl e)) = inl e
in_placed_by true q p r ps h (inr (inr i)) = inr (h (inr i))
in_placed_by false q p r ps h (inl e) = inl e
in_placed_by false q p r ps h (inr i) = inr i

in_placed : (q : QName) (qs : List QName) (r : QName) → (r ≡ q) ⊎ IsIn r qs → IsIn r (inserted q qs)
in_placed q [] r h = h
in_placed q (p ∷ ps) r h = in_placed_by (is_lt (slice_cmp nat_cmp p.name q.name)) q p r ps (in_placed q ps r) h

behind_both : (q p : QName) (ps : List QName) → Precedes q p → ((r : QName) → IsIn r ps → Precedes p r) → (r : QName) → IsIn r (p ∷ ps) → Precedes q r
behind_both q p ps e h r (inl same) = subst (λ (x : QName). Precedes q x) (sym same) e
behind_both q p ps e h r (inr i) = precedes_still q p r e (h r i)

behind_placed : (q p : QName) (ps : List QName) → Precedes p q → ((r : QName) → IsIn r ps → Precedes p r) → (r : QName) → (r ≡ q) ⊎ IsIn r ps → Precedes p r
behind_placed q p ps e h r (inl same) = subst (λ (x : QName). Precedes p x) (sym same) e
behind_placed q p ps e h r (inr i) = h r i

ascending_by : (t : Bool) (q p : QName) (ps : List QName) → is_lt (slice_cmp nat_cmp p.name q.name) ≡ t → (p.name ≡ q.name → ⊥) → IsAscending (p ∷ ps) → IsAscending (inserted q ps) → IsAscending (cond t (p ∷ inserted q ps) (q ∷ p ∷ ps))
ascending_by true q p ps e d a rest = ((λ r i. behind_placed q p ps e a.0 r (of_placed q ps r i)), rest)
ascending_by false q p ps e d a rest = (behind_both q p ps (other_way p.name q.name (slice_cmp nat_cmp p.name q.name) refl e d) a.0, a)

ascending_placed : (q : QName) (qs : List QName) → ((r : QName) → IsIn r qs → r.name ≡ q.name → ⊥) → IsAscending qs → IsAscending (inserted q qs)
ascending_placed q [] d a = ((λ r i. absurd i), tt)
ascending_placed q (p ∷ ps) d a = ascending_by (is_lt (slice_cmp nat_cmp p.name q.name)) q p ps refl (d p (inl refl)) a (ascending_placed q ps (λ r i. d r (inr i)) a.1)

named_by : (b : Sbs) (bs : List Sbs) (r : QName) → (IsIn r (in_order bs) → IsIn r.name (map (λ b. b.sbsd.name) bs)) → (r ≡ b.sbsd) ⊎ IsIn r (in_order bs) → IsIn r.name (map (λ b. b.sbsd.name) (b ∷ bs))
named_by b bs r h (inl e) = inl (ap (λ (q : QName). q.name) e)
named_by b bs r h (inr i) = inr (h i)

-- the names in order are names of the subsystems
named_in : (bs : List Sbs) (r : QName) → IsIn r (in_order bs) → IsIn r.name (map (λ b. b.sbsd.name) bs)
named_in [] r i = absurd i
named_in (b ∷ bs) r i = named_by b bs r (named_in bs r) (of_placed b.sbsd (in_order bs) r i)

-- each subsystem's name stands there
pub stands_in_order : (bs : List Sbs) (b : Sbs) → IsIn b bs → IsIn b.sbsd (in_order bs)
stands_in_order [] b i = absurd i
stands_in_order (c ∷ bs) b (inl e) = in_placed c.sbsd (in_order bs) b.sbsd (inl (ap (λ (x : Sbs). x.sbsd) e))
stands_in_order (c ∷ bs) b (inr i) = in_placed c.sbsd (in_order bs) b.sbsd (inr (stands_in_order bs b i))

pub ascending_in_order : (bs : List Sbs) → IsDistinct (map (λ b. b.sbsd.name) bs) → IsAscending (in_order bs)
ascending_in_order [] d = tt
ascending_in_order (b ∷ bs) d =
    ascending_placed b.sbsd (in_order bs)
    (λ r i e. d.0 (subst (λ (n : List ℕ). IsIn n (map (λ (x : Sbs). x.sbsd.name) bs)) e (named_in bs r i)))
    (ascending_in_order bs d.1)
