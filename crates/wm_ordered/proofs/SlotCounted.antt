-- Where a serial stands, by the slot that is looked at.
use Rattle.std.proofs.Common.{◌≡◌, ℕ, suc, ◌<◌, List, length, get_or, inl, inr, ap, sym, ◌∙◌, subst, arith}
use Rattle.std.specs.Ordering.{nat_cmp, ordering_reverse}
use Rattle.std.specs.declared.cmp.Ordering.TheVariants.{Less, Equal}
use Rattle.std.proofs.lemmas.Bool.{cases_lt}
use Rattle.std.proofs.lemmas.Cmp.{nat_cmp_total}
use Rattle.std.specs.Cmp.{tied_itself}
use Rattle.wm_desc.specs.Place.{IsAt, IsGap}
use Rattle.wm_desc.specs.Sorted.{IsSortedOnce}
use Rattle.wm_ordered.specs.declared.slot.Slot.{Slot}
use Rattle.wm_ordered.specs.Slots.{serial_of}

module _ {V : Type 0} (slots : List (Slot V)) (s i : ℕ) (sorted : IsSortedOnce serial_of nat_cmp slots) (lt : i < length slots) where
  -- where the slot at a place has the serial, it is the one of that serial
  pub counted : ((d : Slot V) → (get_or slots i d).serial ≡ s) → IsAt serial_of nat_cmp s slots i
  counted here = record {
    in_range = lt;
    before = λ j d le below. subst (λ n. nat_cmp (get_or slots j d).serial n ≡ Less) (here d) (sorted j i d below lt);
    here = λ d. subst (λ n. nat_cmp n s ≡ Equal) (sym (here d)) (tied_itself nat_cmp_total s);
    after = λ j d above in_range.
        nat_cmp_total.antisymm (get_or slots j d).serial s ∙ ap ordering_reverse (subst (λ n. nat_cmp n (get_or slots j d).serial ≡ Less) (here d) (sorted i j d above in_range));
  }

  -- where the last slot has a lesser serial, all have
  pub at_end : suc i ≡ length slots → ((d : Slot V) → nat_cmp (get_or slots i d).serial s ≡ Less) → IsGap serial_of nat_cmp s slots (length slots)
  at_end last below = record {
    in_range = omega arith;
    before = λ j d le less. elim (cases_lt j i) [
      | inl before ↦ nat_cmp_total.trans (get_or slots j d).serial (get_or slots i d).serial s (sorted j i d before lt) (below d)
      | inr not_before ↦ let e : i ≡ j = omega arith in subst (λ n. nat_cmp (get_or slots n d).serial s ≡ Less) e (below d)
    ];
    after = λ j d le less. absurd (omega arith);
  }
