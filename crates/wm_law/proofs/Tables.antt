-- Tables of objects stay in order and within their limit.
use Rattle.std.proofs.Common.{◌≡◌, ℕ, ◌<◌, Bool, true, false, cond, List, length, get_or, map, refl, sym, ap, subst, ◌∙◌, arith}
use Rattle.std.proofs.lemmas.List.{get_or-map, length-map}
use Rattle.std.specs.declared.cmp.Ordering.TheVariants.{Less}
use Rattle.wm_base.specs.declared.qname.QName.{QName}
use Rattle.wm_desc.proofs.Tables.{qname_ties, qname_total}
use Rattle.wm_desc.specs.Objects.{with_object}
use Rattle.wm_desc.specs.Refusals.{is_full}
use Rattle.wm_desc.specs.Sorted.{place_of}
use Rattle.wm_desc.specs.Table.{changed, has_object, qname_cmp, same_qname}
use Rattle.wm_law.specs.Objects.{IsTable}
use Rattle.wm_law.proofs.Entries.{one_more}
use Rattle.wm_law.proofs.InOrder.{inserted_length, sorted_added}

module _ {V : Type 0} where
  -- an object of a new name, where there is room
  pub table_more : (name : QName) (v : V) (objects : List (QName × V)) → has_object name objects ≡ false → is_full 1000 objects ≡ false → IsTable objects → IsTable (with_object name v objects)
  table_more name v objects new room h =
      let key = λ (object : QName × V). object.0 in
      record {
        sorted = sorted_added key qname_cmp qname_total same_qname qname_ties (name, v) objects h.sorted new;
        most = one_more 1000 objects _ room (inserted_length objects (place_of key qname_cmp name objects) (name, v));
      }

  named_as : (change : V → V) (t : Bool) (object : QName × V) → (cond t (object.0, change object.1) object).0 ≡ object.0
  named_as change true object = refl
  named_as change false object = refl

  -- a changed description has no part in the order
  pub table_changed : (name : QName) (change : V → V) (objects : List (QName × V)) → IsTable objects → IsTable (changed name change objects)
  table_changed name change objects h =
      let f = λ (object : QName × V). cond (same_qname object.0 name) (object.0, change object.1) object in
      let same = length-map objects f in
      let long : length (changed name change objects) ≡ length objects = same in
      let most = h.most in
      let named : (i : ℕ) (d : QName × V) → i < length objects → (get_or objects i d).0 ≡ (get_or (map f objects) i d).0 =
      λ i d less. sym (ap (λ (object : QName × V). object.0) (get_or-map f objects i d d less) ∙ named_as change (same_qname (get_or objects i d).0 name) (get_or objects i d)) in
      record {
        sorted = λ i j d less within.
            subst (λ (q : QName). qname_cmp (get_or (map f objects) i d).0 q ≡ Less) (named j d (omega arith))
            (subst (λ (q : QName). qname_cmp q (get_or objects j d).0 ≡ Less) (named i d (omega arith)) (h.sorted i j d less (omega arith)));
        most = omega arith;
      }
