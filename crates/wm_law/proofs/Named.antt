-- What is found by its name in a table with one object more, and in one with a description changed.
use Rattle.std.proofs.Common.{◌≡◌, ◌⊎◌, ℕ, Bool, true, false, cond, List, [], ◌∷◌, take, drop, Option, Some, None, is_some, refl, sym, ap, subst, ◌∙◌, inl, inr}
use Rattle.std.specs.List.{find, insert}
use Rattle.std.specs.Option.{IsSome, option_map, option_or}
use Rattle.std.proofs.lemmas.List.{take-append-drop}
use Rattle.std.proofs.lemmas.List.Folds.{find-append}
use Rattle.std.proofs.lemmas.Bool.Decides.{Decides-and}
use Rattle.std.proofs.lemmas.Slice.Eq.{bytes_eq-Decides}
use Rattle.wm_base.specs.declared.qname.QName.{QName}
use Rattle.wm_desc.specs.Objects.{with_object}
use Rattle.wm_desc.specs.Table.{same_qname, name_of, qname_cmp, object_named, has_object, changed}
use Rattle.wm_desc.specs.Sorted.{place_of}
use Rattle.wm_desc.proofs.Places.{list_any-find}
use Rattle.wm_desc.proofs.Tables.{one_name}

pub own_name : (a : QName) → same_qname a a ≡ true
own_name a =
    let d = Decides-and _ _ (bytes_eq-Decides a.lib a.lib) (bytes_eq-Decides a.name a.name) in
    d.1 (refl, refl)

-- an element more that fails the test changes nothing of what is found
passed_over : {X : Type 0} (p : X → Bool) (xs : List X) (i : ℕ) (x : X) → p x ≡ false → find p (insert xs i x) ≡ find p xs
passed_over p xs i x h =
    find-append p (take i xs) (x ∷ drop i xs)
    ∙ ap (λ (t : Bool). option_or (find p (take i xs)) (cond t (Some x) (find p (drop i xs)))) h
    ∙ sym (find-append p (take i xs) (drop i xs))
    ∙ ap (find p) (take-append-drop i xs)

first_or_this : {X : Type 0} (o r : Option X) (x y : X) → option_or o (Some x) ≡ Some y → (y ≡ x) ⊎ (option_or o r ≡ Some y)
first_or_this None r x y e = let same : x ≡ y = cc in inl (sym same)
first_or_this (Some z) r x y e = inr e

by_test : {X : Type 0} (p : X → Bool) (xs : List X) (i : ℕ) (x y : X) (t : Bool) → p x ≡ t → option_or (find p (take i xs)) (cond t (Some x) (find p (drop i xs))) ≡ Some y → (y ≡ x) ⊎ (find p xs ≡ Some y)
by_test p xs i x y true h e =
    elim (first_or_this (find p (take i xs)) (find p (drop i xs)) x y e) as (λ _. (y ≡ x) ⊎ (find p xs ≡ Some y)) [
      | inl same ↦ inl same
      | inr old ↦ inr (sym (ap (find p) (take-append-drop i xs)) ∙ find-append p (take i xs) (drop i xs) ∙ old)
    ]
by_test p xs i x y false h e = inr (sym (ap (find p) (take-append-drop i xs)) ∙ find-append p (take i xs) (drop i xs) ∙ e)

-- what is found is the element more, or was found before
new_or_old : {X : Type 0} (p : X → Bool) (xs : List X) (i : ℕ) (x y : X) → find p (insert xs i x) ≡ Some y → (y ≡ x) ⊎ (find p xs ≡ Some y)
new_or_old p xs i x y e = by_test p xs i x y (p x) refl (sym (find-append p (take i xs) (x ∷ drop i xs)) ∙ e)

module _ {V : Type 0} where
  described : (o : Option (QName × V)) (d : V) → option_map (λ object. object.1) o ≡ Some d → (object : QName × V) × (o ≡ Some object) × (object.1 ≡ d)
  described None d e = absurd (cc)
  described (Some object) d e = (object, refl, (cc))

  same_some : (o : Option (QName × V)) → is_some (option_map (λ object. object.1) o) ≡ is_some o
  same_some None = refl
  same_some (Some object) = refl

  -- whether there is an object with a name is whether it has a description
  pub is_named : (q : QName) (objects : List (QName × V)) → has_object q objects ≡ is_some (object_named q objects)
  is_named q objects = list_any-find (λ (object : QName × V). same_qname object.0 q) objects ∙ sym (same_some (find (λ (object : QName × V). same_qname object.0 q) objects))

  named_by : (name q : QName) (v : V) (objects : List (QName × V)) (t : Bool) → same_qname name q ≡ t → has_object name objects ≡ false → IsSome (object_named q objects) → object_named q (with_object name v objects) ≡ object_named q objects
  named_by name q v objects true h new there =
      let one = one_name name q h in
      let old : has_object q objects ≡ false = subst (λ (n : QName). has_object n objects ≡ false) one new in
      let has : has_object q objects ≡ true = is_named q objects ∙ there in
      absurd (cc)
  named_by name q v objects false h new there =
      ap (option_map (λ (object : QName × V). object.1)) (passed_over (λ (object : QName × V). same_qname object.0 q) objects (place_of name_of qname_cmp name objects) (name, v) h)

  -- with an object of a new name, what was found before is found the same
  pub named_still : (name q : QName) (v : V) (objects : List (QName × V)) → has_object name objects ≡ false → IsSome (object_named q objects) → object_named q (with_object name v objects) ≡ object_named q objects
  named_still name q v objects new there = named_by name q v objects (same_qname name q) refl new there

  -- and what is found now is the new description, or was found before
  pub named_before : (name q : QName) (v d : V) (objects : List (QName × V)) → object_named q (with_object name v objects) ≡ Some d → (d ≡ v) ⊎ (object_named q objects ≡ Some d)
  named_before name q v d objects e =
      let p = λ (object : QName × V). same_qname object.0 q in
      let f = described (find p (with_object name v objects)) d e in
      elim (new_or_old p objects (place_of name_of qname_cmp name objects) (name, v) f.0 f.1) as (λ _. (d ≡ v) ⊎ (object_named q objects ≡ Some d)) [
        | inl new ↦ inl (sym f.2 ∙ ap (λ (object : QName × V). object.1) new)
        | inr old ↦ inr (ap (option_map (λ (object : QName × V). object.1)) old ∙ ap (λ (v : V). Some v) f.2)
      ]

  is_first : (q : QName) (object : QName × V) (objects : List (QName × V)) → same_qname object.0 q ≡ true → object_named q (object ∷ objects) ≡ Some object.1
  is_first q object objects f = ap (λ (t : Bool). option_map (λ (o : QName × V). o.1) (cond t (Some object) (find (λ (o : QName × V). same_qname o.0 q) objects))) f

  not_first : (q : QName) (object : QName × V) (objects : List (QName × V)) → same_qname object.0 q ≡ false → object_named q (object ∷ objects) ≡ object_named q objects
  not_first q object objects f = ap (λ (t : Bool). option_map (λ (o : QName × V). o.1) (cond t (Some object) (find (λ (o : QName × V). same_qname o.0 q) objects))) f

  abbrev changed_if : Bool → (V → V) → V → V
  changed_if t change d = cond t (change d) d

  changed_first : (name q : QName) (change : V → V) (object : QName × V) (objects others : List (QName × V)) (t u w : Bool) → same_qname object.0 name ≡ t → same_qname object.0 q ≡ u → same_qname name q ≡ w → object_named q others ≡ option_map (changed_if w change) (object_named q objects) → object_named q (cond t (object.0, change object.1) object ∷ others) ≡ option_map (changed_if w change) (object_named q (object ∷ objects))
  changed_first name q change object objects others true true w e f g h =
      let one : name ≡ q = sym (one_name object.0 name e) ∙ one_name object.0 q f in
      let test : true ≡ w = sym (subst (λ (n : QName). same_qname name n ≡ true) one (own_name name)) ∙ g in
      is_first q (object.0, change object.1) others f
      ∙ ap (λ (b : Bool). Some (changed_if b change object.1)) test
      ∙ sym (ap (option_map (changed_if w change)) (is_first q object objects f))
  changed_first name q change object objects others true false w e f g h = not_first q (object.0, change object.1) others f ∙ h ∙ sym (ap (option_map (changed_if w change)) (not_first q object objects f))
  changed_first name q change object objects others false true true e f g h =
      let one : object.0 ≡ name = one_name object.0 q f ∙ sym (one_name name q g) in
      let test : same_qname object.0 name ≡ true = subst (λ (n : QName). same_qname object.0 n ≡ true) one (own_name object.0) in
      absurd (cc)
  changed_first name q change object objects others false true false e f g h = is_first q object others f ∙ sym (ap (option_map (changed_if false change)) (is_first q object objects f))
  changed_first name q change object objects others false false w e f g h = not_first q object others f ∙ h ∙ sym (ap (option_map (changed_if w change)) (not_first q object objects f))

  -- the description with a name is changed, and no other
  pub changed_named : (name q : QName) (change : V → V) (objects : List (QName × V)) → object_named q (changed name change objects) ≡ option_map (λ d. cond (same_qname name q) (change d) d) (object_named q objects)
  changed_named name q change [] = refl
  changed_named name q change (object ∷ objects) = changed_first name q change object objects (changed name change objects) (same_qname object.0 name) (same_qname object.0 q) (same_qname name q) refl refl refl (changed_named name q change objects)

  changed_never : (change : V → V) (o : Option V) → option_map (changed_if false change) o ≡ o
  changed_never change None = refl
  changed_never change (Some d) = refl

  -- what has another name is found the same
  pub changed_other : (name q : QName) (change : V → V) (objects : List (QName × V)) → same_qname name q ≡ false → object_named q (changed name change objects) ≡ object_named q objects
  changed_other name q change objects h =
      changed_named name q change objects
      ∙ ap (λ (t : Bool). option_map (changed_if t change) (object_named q objects)) h
      ∙ changed_never change (object_named q objects)

  -- the description stood there, or it was changed and has the name
  abbrev pub IsChangeOf : QName → QName → (V → V) → V → V → Type 0
  IsChangeOf name q change c d = (d ≡ c) ⊎ ((name ≡ q) × (d ≡ change c))

  changed_by : (name q : QName) (change : V → V) (o : Option V) (d : V) (t : Bool) → same_qname name q ≡ t → option_map (changed_if t change) o ≡ Some d → (c : V) × (o ≡ Some c) × IsChangeOf name q change c d
  changed_by name q change None d t h e = absurd (cc)
  changed_by name q change (Some c) d true h e = let same : change c ≡ d = cc in (c, refl, inr (one_name name q h, sym same))
  changed_by name q change (Some c) d false h e = let same : c ≡ d = cc in (c, refl, inl (sym same))

  pub changed_before : (name q : QName) (change : V → V) (objects : List (QName × V)) (d : V) → object_named q (changed name change objects) ≡ Some d → (c : V) × (object_named q objects ≡ Some c) × IsChangeOf name q change c d
  changed_before name q change objects d e = changed_by name q change (object_named q objects) d (same_qname name q) refl (sym (changed_named name q change objects) ∙ e)

other_by : (a b : QName) (t : Bool) → same_qname b a ≡ t → same_qname a b ≡ false → t ≡ false
other_by a b true h e =
    let test : same_qname a b ≡ true = subst (λ (n : QName). same_qname a n ≡ true) (sym (one_name b a h)) (own_name a) in
    absurd (cc)
other_by a b false h e = refl

pub other_name : (a b : QName) → same_qname a b ≡ false → same_qname b a ≡ false
other_name a b e = other_by a b (same_qname b a) refl e
