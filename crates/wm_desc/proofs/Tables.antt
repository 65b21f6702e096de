-- What a search in a table of objects finds, and what a refusal that doesn't come says.
use Rattle.std.proofs.Common.{◌≡◌, ℕ, Bool, zero, suc, true, false, List, [], ◌∷◌, get_or, set, sym, Option, Some, None, option_map, inl, inr, ◌<◌, length, get_or-set_same, get_or-set_other, length-set, refl, ap, ◌∙◌, arith}
use Rattle.std.specs.declared.cmp.Ordering.{Ordering}
use Rattle.std.specs.declared.cmp.Ordering.TheVariants.{Less, Greater}
use Rattle.std.specs.Cmp.{IsTotalOrder, both_tied}
use Rattle.std.specs.Cmp.Lexicographic.{texts_ties}
use Rattle.std.specs.Ordering.{is_eq}
use Rattle.std.specs.Option.{option_map_or}
use Rattle.std.proofs.lemmas.Bool.{cases_eq}
use Rattle.std.proofs.lemmas.List.{get_or_default}
use Rattle.std.proofs.lemmas.Cmp.{on_total, then_total, nat_list_cmp_total}
use Rattle.std.proofs.lemmas.Bool.Decides.{Decides-and}
use Rattle.std.proofs.lemmas.Slice.Eq.{bytes_eq-Decides}
use Rattle.wm_base.specs.declared.qname.QName.{QName}
use Rattle.wm_base.specs.declared.refusal.Refusal.{Refusal}
use Rattle.wm_desc.specs.declared.description.Sbsd.{Sbsd}
use Rattle.wm_desc.specs.Place.{IsAt, IsGap}
use Rattle.wm_desc.specs.Refusals.{first_refusal}
use Rattle.wm_desc.specs.Table.{same_qname, qname_cmp, name_of, object_named, changed, StandsAt}
use Rattle.wm_desc.specs.Sorted.{IsSortedOnce}
use Rattle.wm_desc.proofs.Places.{map-one}
use Rattle.wm_desc.proofs.SortedLists.{with_key-at, with_key-gap}

pub qname_total : IsTotalOrder qname_cmp
qname_total = then_total (on_total (λ q. q.lib) nat_list_cmp_total) (on_total (λ q. q.name) nat_list_cmp_total)

pub qname_ties : (a b : QName) → same_qname a b ≡ is_eq (qname_cmp a b)
qname_ties a b = both_tied _ _ _ _ (texts_ties a.lib b.lib) (texts_ties a.name b.name)

-- two qualified names are one where the test says so
pub one_name : (a b : QName) → same_qname a b ≡ true → a ≡ b
one_name a b h =
    let d = Decides-and _ _ (bytes_eq-Decides a.lib b.lib) (bytes_eq-Decides a.name b.name) in
    let parts = d.0 h in
    let first : a ≡ record b { name = a.name } = ap (λ (l : List ℕ). record a { lib = l }) parts.0 in
    first ∙ ap (λ (n : List ℕ). record b { name = n }) parts.1

module _ {V : Type 0} (name : QName) (objects : List (QName × V)) (i : ℕ) where
  differs : (object : QName × V) (r : Ordering) → is_eq r ≡ false → qname_cmp object.0 name ≡ r → same_qname object.0 name ≡ false
  differs object r h e = qname_ties object.0 name ∙ ap is_eq e ∙ h

  pub stands_at : IsAt name_of qname_cmp name objects i → StandsAt name objects i
  stands_at h = record {
    in_range = h.in_range;
    described = λ d. ap (option_map (λ object. object.1)) (with_key-at name_of qname_cmp qname_total name objects i same_qname qname_ties d h);
    written = λ change d. map-one (λ object. same_qname object.0 name) (λ object. (object.0, change object.1)) objects i d h.in_range
        (λ j e le lt. differs (get_or objects j e) Less refl (h.before j e le lt)) (λ e. qname_ties (get_or objects i e).0 name ∙ ap is_eq (h.here e))
        (λ j e le lt. differs (get_or objects j e) Greater refl (h.after j e le lt));
  }

  pub unnamed : IsGap name_of qname_cmp name objects i → object_named name objects ≡ None
  unnamed h = ap (option_map (λ object. object.1)) (with_key-gap name_of qname_cmp qname_total name objects i same_qname qname_ties h)

module _ {V : Type 0} where
  -- a description that was changed in its place
  pub edited : (name : QName) (items objects : List (QName × V)) (i : ℕ) (object : QName × V) (change : V → V) (new : V) → StandsAt name objects i → items ≡ objects → object ≡ get_or items i object → new ≡ change object.1 → set items i (object.0, new) ≡ changed name change objects
  edited name items objects i object change new stands same here is =
      rw (is, same) (let there : object ≡ get_or objects i object = here ∙ ap (λ xs. get_or xs i object) same in
      ap (λ (o : QName × V). set objects i (o.0, change o.1)) there ∙ sym (stands.written change object))

  -- a description has no part in the order
  pub sorted-edited : (objects : List (QName × V)) (i : ℕ) (object : QName × V) (new : V) → i < length objects → object ≡ get_or objects i object → IsSortedOnce name_of qname_cmp objects → IsSortedOnce name_of qname_cmp (set objects i (object.0, new))
  sorted-edited objects i object new in_range here sorted a b d lt below =
      let same : length (set objects i (object.0, new)) ≡ length objects = length-set objects i (object.0, new) in
      rw (named a d (omega arith), named b d (omega arith)) (sorted a b d lt (omega arith))
    where
      named : (j : ℕ) (d : QName × V) → j < length objects → (get_or (set objects i (object.0, new)) j d).0 ≡ (get_or objects j d).0
      named j d lt =
          elim (cases_eq j i) [
            | inl e ↦ rw (e, get_or-set_same objects i (object.0, new) d in_range, ap (λ (o : QName × V). o.0) here) (ap (λ (o : QName × V). o.0) (get_or_default objects i object d in_range))
            | inr ne ↦ ap (λ (o : QName × V). o.0) (get_or-set_other objects i j (object.0, new) d ne)
          ]

-- no refusal comes where the description's own tests all fail
pub accepted : (o : Option Sbsd) (refusal : Sbsd → Option Refusal) (r : Refusal) (description : Sbsd) → option_map_or refusal o (Some r) ≡ None → o ≡ Some description → refusal description ≡ None
accepted o refusal r description none is = rw is at none

some_none : (r : Refusal) → Some r ≡ None → ⊥
some_none r e = cc

-- each test of a list without a refusal fails
pub test_fails : (tests : List (Bool × Refusal)) (n : ℕ) (r : Refusal) → first_refusal tests ≡ None → (get_or tests n (false, r)).0 ≡ false
test_fails [] n r none = refl
test_fails ((true, x) ∷ tests) n r none = absurd (some_none x none)
test_fails ((false, x) ∷ tests) zero r none = refl
test_fails ((false, x) ∷ tests) (suc n) r none = test_fails tests n r none
