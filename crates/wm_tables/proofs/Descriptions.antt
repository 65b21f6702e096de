-- The rows of objects, where one object or one entry comes or goes.
use Rattle.std.proofs.Common.{◌≡◌, ℕ, zero, suc, ◌++◌, Bool, true, false, cond, List, [], ◌∷◌, map, refl, sym, ap, subst, ◌∙◌, inl, inr}
use Rattle.std.specs.List.{flat_map, insert}
use Rattle.wm_base.specs.declared.limit.Limit.{Limit}
use Rattle.wm_base.specs.declared.qname.QName.{QName}
use Rattle.wm_desc.specs.declared.description.Sbsd.{Sbsd}
use Rattle.wm_desc.specs.declared.objects.Objects.{Objects}
use Rattle.wm_desc.specs.Objects.{empty_sbsd, with_description}
use Rattle.wm_desc.specs.Sorted.{IsSortedOnce}
use Rattle.wm_desc.specs.Table.{changed, name_of, qname_cmp, same_qname}
use Rattle.wm_desc.proofs.Tables.{qname_total}
use Rattle.wm_traits.specs.declared.row.Row.{Row}
use Rattle.wm_law.specs.Laws.{IsIn}
use Rattle.wm_law.proofs.Named.{own_name as its_own}
use Rattle.wm_law.proofs.InOrder.{rest_sorted}
use Rattle.wm_rows.specs.Rows.{class_row, program_row, queue_row, jobd_row, sbsd_row}
use Rattle.wm_rows.specs.Tables.{queue_entry_rows, route_entry_rows, auto_entry_rows, pre_entry_rows, object_rows, sbsd_rows}
use Rattle.wm_tables.proofs.OneMore.{first_below, not_same}
use Rattle.wm_tables.proofs.RowsOf.{other_named}
use Rattle.wm_tables.proofs.OneMoreRow.{IsMore, IsWithin, more_mapped, more_within}

-- A subsystem description that is changed

module _ (name : QName) (alter : Sbsd → Sbsd) where
  abbrev mend : QName × Sbsd → QName × Sbsd
  mend x = cond (same_qname x.0 name) (x.0, alter x.1) x

  -- rows that the change leaves
  module _ (f : QName × Sbsd → Row) (left : (x : QName × Sbsd) → f (x.0, alter x.1) ≡ f x) where
    one_same : (x : QName × Sbsd) (t : Bool) → f x ≡ f (cond t (x.0, alter x.1) x)
    one_same x true = sym (left x)
    one_same x false = refl

    pub map_same : (xs : List (QName × Sbsd)) → map f xs ≡ map f (changed name alter xs)
    map_same [] = refl
    map_same (x ∷ xs) = ap (λ (r : Row). r ∷ map f xs) (one_same x (same_qname x.0 name)) ∙ ap (λ (rs : List Row). f (mend x) ∷ rs) (map_same xs)

  module _ (f : QName × Sbsd → List Row) (left : (x : QName × Sbsd) → f (x.0, alter x.1) ≡ f x) where
    each_same : (x : QName × Sbsd) (t : Bool) → f x ≡ f (cond t (x.0, alter x.1) x)
    each_same x true = sym (left x)
    each_same x false = refl

    pub flat_same : (xs : List (QName × Sbsd)) → flat_map f xs ≡ flat_map f (changed name alter xs)
    flat_same [] = refl
    flat_same (x ∷ xs) = ap (λ (rs : List Row). rs ++ flat_map f xs) (each_same x (same_qname x.0 name)) ∙ ap (λ (rs : List Row). f (mend x) ++ rs) (flat_same xs)

abbrev Table : Type 0
Table = List (QName × Sbsd)

abbrev queue_entries : Table → List Row
queue_entries xs = flat_map queue_entry_rows xs

abbrev route_entries : Table → List Row
route_entries xs = flat_map route_entry_rows xs

abbrev auto_entries : Table → List Row
auto_entries xs = flat_map auto_entry_rows xs

abbrev pre_entries : Table → List Row
pre_entries xs = flat_map pre_entry_rows xs

abbrev to_queues : Table → List Row
to_queues xs = map sbsd_row xs ++ queue_entries xs

abbrev to_routes : Table → List Row
to_routes xs = to_queues xs ++ route_entries xs

abbrev to_autos : Table → List Row
to_autos xs = to_routes xs ++ auto_entries xs

module _ (Q : List Row → List Row → Type 0) (w : IsWithin Q) where
  -- one part of two changes, the other is the same
  left_as : (xs ys us vs : List Row) → us ≡ vs → Q xs ys → Q (xs ++ us) (ys ++ vs)
  left_as xs ys us vs e q = subst (λ (l : List Row). Q (xs ++ us) (ys ++ l)) e (w.left xs ys us q)

  right_as : (us vs xs ys : List Row) → us ≡ vs → Q xs ys → Q (us ++ xs) (vs ++ ys)
  right_as us vs xs ys e q = subst (λ (l : List Row). Q (us ++ xs) (l ++ ys)) e (w.right us xs ys q)

  abbrev first_parts : Objects → List Row
  first_parts o = map class_row o.classes ++ map program_row o.programs ++ map queue_row o.jobqs ++ map jobd_row o.jobds

  -- the rows of the descriptions alone change
  sbsds_change : (o : Objects) (ys : Table) → Q (sbsd_rows o.sbsds) (sbsd_rows ys) → Q (object_rows o) (object_rows (record o { sbsds = ys }))
  sbsds_change o ys q = w.right (first_parts o) (sbsd_rows o.sbsds) (sbsd_rows ys) q

  module _ (name : QName) (alter : Sbsd → Sbsd) where
    mend_other : (x : QName × Sbsd) (t : Bool) → t ≡ false → cond t (x.0, alter x.1) x ≡ x
    mend_other x true e = absurd (cc)
    mend_other x false e = refl

    mend_this : (x : QName × Sbsd) (t : Bool) → t ≡ true → cond t (x.0, alter x.1) x ≡ (x.0, alter x.1)
    mend_this x true e = refl
    mend_this x false e = absurd (cc)

    none_changed : (xs : Table) → ((x : QName × Sbsd) → IsIn x xs → same_qname x.0 name ≡ false) → changed name alter xs ≡ xs
    none_changed [] h = refl
    none_changed (x ∷ xs) h = ap (λ (y : QName × Sbsd). y ∷ changed name alter xs) (mend_other x (same_qname x.0 name) (h x (inl refl))) ∙ ap (λ (ys : Table). x ∷ ys) (none_changed xs (λ y i. h y (inr i)))

    rest_unchanged : (x : QName × Sbsd) (xs : Table) → IsSortedOnce name_of qname_cmp (x ∷ xs) → x.0 ≡ name → changed name alter xs ≡ xs
    rest_unchanged x xs s e = none_changed xs (λ y i. other_named y.0 name (same_qname y.0 name) refl (λ f. not_same (λ (o : QName × Sbsd). o.0) qname_cmp qname_total x.0 y.0 (first_below (λ (o : QName × Sbsd). o.0) qname_cmp qname_total x xs y s i) (e ∙ sym f)))

    -- and rows of the one description of the name that change
    flat_changed : (f : QName × Sbsd → List Row) (d : Sbsd) → Q (f (name, d)) (f (name, alter d)) → (xs : Table) → IsSortedOnce name_of qname_cmp xs → IsIn (name, d) xs → Q (flat_map f xs) (flat_map f (changed name alter xs))
    flat_changed f d q [] s i = absurd i
    flat_changed f d q (x ∷ xs) s (inl same) =
        let named : x.0 ≡ name = ap (λ (o : QName × Sbsd). o.0) (sym same) in
        let yes : same_qname x.0 name ≡ true = subst (λ (n : QName). same_qname n name ≡ true) (sym named) (its_own name) in
        let here : mend name alter x ≡ (name, alter d) = mend_this x (same_qname x.0 name) yes ∙ ap (λ (o : QName × Sbsd). (o.0, alter o.1)) (sym same) in
        let whole : changed name alter (x ∷ xs) ≡ (name, alter d) ∷ xs = ap (λ (o : QName × Sbsd). o ∷ changed name alter xs) here ∙ ap (λ (os : Table). (name, alter d) ∷ os) (rest_unchanged x xs s named) in
        subst (λ (os : Table). Q (flat_map f (x ∷ xs)) (flat_map f os)) (sym whole)
        (subst (λ (o : QName × Sbsd). Q (f o ++ flat_map f xs) (f (name, alter d) ++ flat_map f xs)) same (w.left (f (name, d)) (f (name, alter d)) (flat_map f xs) q))
    flat_changed f d q (x ∷ xs) s (inr i) =
        let no : same_qname x.0 name ≡ false = other_named x.0 name (same_qname x.0 name) refl (not_same (λ (o : QName × Sbsd). o.0) qname_cmp qname_total x.0 name (first_below (λ (o : QName × Sbsd). o.0) qname_cmp qname_total x xs (name, d) s i)) in
        let rest = w.right (f x) (flat_map f xs) (flat_map f (changed name alter xs)) (flat_changed f d q xs (rest_sorted (λ (o : QName × Sbsd). o.0) qname_cmp qname_total x xs s) i) in
        subst (λ (o : QName × Sbsd). Q (f x ++ flat_map f xs) (f o ++ flat_map f (changed name alter xs))) (sym (mend_other x (same_qname x.0 name) no)) rest

    module _ (o : Objects) (d : Sbsd) (sorted : IsSortedOnce name_of qname_cmp o.sbsds) (there : IsIn (name, d) o.sbsds) where
      abbrev xs : Table
      xs = o.sbsds

      abbrev ys : Table
      ys = changed name alter o.sbsds

      -- a prestart entry
      pub pres_change : ((x : QName × Sbsd) → sbsd_row (x.0, alter x.1) ≡ sbsd_row x) → ((x : QName × Sbsd) → queue_entry_rows (x.0, alter x.1) ≡ queue_entry_rows x) → ((x : QName × Sbsd) → route_entry_rows (x.0, alter x.1) ≡ route_entry_rows x) → ((x : QName × Sbsd) → auto_entry_rows (x.0, alter x.1) ≡ auto_entry_rows x) → Q (pre_entry_rows (name, d)) (pre_entry_rows (name, alter d)) → Q (object_rows o) (object_rows (with_description name alter o))
      pres_change bare queues routes autos q =
          let to_first : to_queues xs ≡ to_queues ys = ap (λ (l : List Row). l ++ queue_entries xs) (map_same name alter sbsd_row bare xs) ∙ ap (λ (l : List Row). map sbsd_row ys ++ l) (flat_same name alter queue_entry_rows queues xs) in
          let to_second : to_routes xs ≡ to_routes ys = ap (λ (l : List Row). l ++ route_entries xs) to_first ∙ ap (λ (l : List Row). to_queues ys ++ l) (flat_same name alter route_entry_rows routes xs) in
          let before : to_autos xs ≡ to_autos ys = ap (λ (l : List Row). l ++ auto_entries xs) to_second ∙ ap (λ (l : List Row). to_routes ys ++ l) (flat_same name alter auto_entry_rows autos xs) in
          sbsds_change o ys
          (right_as (to_autos xs) (to_autos ys) (pre_entries xs) (pre_entries ys) before
          (flat_changed pre_entry_rows d q xs sorted there))

      module _ (bare : (x : QName × Sbsd) → sbsd_row (x.0, alter x.1) ≡ sbsd_row x) (pres : (x : QName × Sbsd) → pre_entry_rows (x.0, alter x.1) ≡ pre_entry_rows x) where
        bare_same : map sbsd_row xs ≡ map sbsd_row ys
        bare_same = map_same name alter sbsd_row bare xs

        -- a queue entry
        pub queues_change : ((x : QName × Sbsd) → route_entry_rows (x.0, alter x.1) ≡ route_entry_rows x) → ((x : QName × Sbsd) → auto_entry_rows (x.0, alter x.1) ≡ auto_entry_rows x) → Q (queue_entry_rows (name, d)) (queue_entry_rows (name, alter d)) → Q (object_rows o) (object_rows (with_description name alter o))
        queues_change routes autos q =
            sbsds_change o ys
            (left_as (to_autos xs) (to_autos ys) (pre_entries xs) (pre_entries ys) (flat_same name alter pre_entry_rows pres xs)
            (left_as (to_routes xs) (to_routes ys) (auto_entries xs) (auto_entries ys) (flat_same name alter auto_entry_rows autos xs)
            (left_as (to_queues xs) (to_queues ys) (route_entries xs) (route_entries ys) (flat_same name alter route_entry_rows routes xs)
            (right_as (map sbsd_row xs) (map sbsd_row ys) (queue_entries xs) (queue_entries ys) bare_same
            (flat_changed queue_entry_rows d q xs sorted there)))))

        module _ (queues : (x : QName × Sbsd) → queue_entry_rows (x.0, alter x.1) ≡ queue_entry_rows x) where
          before_routes : to_queues xs ≡ to_queues ys
          before_routes = ap (λ (l : List Row). l ++ queue_entries xs) bare_same ∙ ap (λ (l : List Row). map sbsd_row ys ++ l) (flat_same name alter queue_entry_rows queues xs)

          -- a routing entry
          pub routes_change : ((x : QName × Sbsd) → auto_entry_rows (x.0, alter x.1) ≡ auto_entry_rows x) → Q (route_entry_rows (name, d)) (route_entry_rows (name, alter d)) → Q (object_rows o) (object_rows (with_description name alter o))
          routes_change autos q =
              sbsds_change o ys
              (left_as (to_autos xs) (to_autos ys) (pre_entries xs) (pre_entries ys) (flat_same name alter pre_entry_rows pres xs)
              (left_as (to_routes xs) (to_routes ys) (auto_entries xs) (auto_entries ys) (flat_same name alter auto_entry_rows autos xs)
              (right_as (to_queues xs) (to_queues ys) (route_entries xs) (route_entries ys) before_routes
              (flat_changed route_entry_rows d q xs sorted there))))

          -- an autostart entry
          pub autos_change : ((x : QName × Sbsd) → route_entry_rows (x.0, alter x.1) ≡ route_entry_rows x) → Q (auto_entry_rows (name, d)) (auto_entry_rows (name, alter d)) → Q (object_rows o) (object_rows (with_description name alter o))
          autos_change routes q =
              let before : to_routes xs ≡ to_routes ys = ap (λ (l : List Row). l ++ route_entries xs) before_routes ∙ ap (λ (l : List Row). to_queues ys ++ l) (flat_same name alter route_entry_rows routes xs) in
              sbsds_change o ys
              (left_as (to_autos xs) (to_autos ys) (pre_entries xs) (pre_entries ys) (flat_same name alter pre_entry_rows pres xs)
              (right_as (to_routes xs) (to_routes ys) (auto_entries xs) (auto_entries ys) before
              (flat_changed auto_entry_rows d q xs sorted there)))

-- One object more

module _ (o : Objects) (row : Row) where
  abbrev Q : List Row → List Row → Type 0
  Q = IsMore row

  pub class_more : (xs : List Row) → Q (map class_row o.classes) xs → Q (object_rows o) (xs ++ map program_row o.programs ++ map queue_row o.jobqs ++ map jobd_row o.jobds ++ sbsd_rows o.sbsds)
  class_more xs q =
      let w = more_within row in
      w.left _ _ (sbsd_rows o.sbsds) (w.left _ _ (map jobd_row o.jobds) (w.left _ _ (map queue_row o.jobqs) (w.left _ _ (map program_row o.programs) q)))

  pub program_more : (xs : List Row) → Q (map program_row o.programs) xs → Q (object_rows o) (map class_row o.classes ++ xs ++ map queue_row o.jobqs ++ map jobd_row o.jobds ++ sbsd_rows o.sbsds)
  program_more xs q =
      let w = more_within row in
      w.left _ _ (sbsd_rows o.sbsds) (w.left _ _ (map jobd_row o.jobds) (w.left _ _ (map queue_row o.jobqs) (w.right (map class_row o.classes) _ _ q)))

  pub queue_more : (xs : List Row) → Q (map queue_row o.jobqs) xs → Q (object_rows o) (map class_row o.classes ++ map program_row o.programs ++ xs ++ map jobd_row o.jobds ++ sbsd_rows o.sbsds)
  queue_more xs q =
      let w = more_within row in
      w.left _ _ (sbsd_rows o.sbsds) (w.left _ _ (map jobd_row o.jobds) (w.right (map class_row o.classes ++ map program_row o.programs) _ _ q))

  pub jobd_more : (xs : List Row) → Q (map jobd_row o.jobds) xs → Q (object_rows o) (map class_row o.classes ++ map program_row o.programs ++ map queue_row o.jobqs ++ xs ++ sbsd_rows o.sbsds)
  jobd_more xs q =
      let w = more_within row in
      w.left _ _ (sbsd_rows o.sbsds) (w.right (map class_row o.classes ++ map program_row o.programs ++ map queue_row o.jobqs) _ _ q)

-- a description without entries has none of their rows
flat_inserted : (f : QName × Sbsd → List Row) (xs : Table) (n : ℕ) (x : QName × Sbsd) → f x ≡ [] → flat_map f xs ≡ flat_map f (insert xs n x)
flat_inserted f xs zero x e = ap (λ (l : List Row). l ++ flat_map f xs) (sym e)
flat_inserted f [] (suc n) x e = ap (λ (l : List Row). l ++ []) (sym e)
flat_inserted f (y ∷ xs) (suc n) x e = ap (λ (l : List Row). f y ++ l) (flat_inserted f xs n x e)

pub sbsd_more : (o : Objects) (n : ℕ) (name : QName) (maxjobs : Limit) → IsMore (sbsd_row (name, empty_sbsd maxjobs)) (object_rows o) (object_rows (record o { sbsds = insert o.sbsds n (name, empty_sbsd maxjobs) }))
sbsd_more o n name maxjobs =
    let x : QName × Sbsd = (name, empty_sbsd maxjobs) in
    let row = sbsd_row x in
    let w = more_within row in
    let xs = o.sbsds in
    let ys = insert xs n x in
    sbsds_change (IsMore row) w o ys
    (left_as (IsMore row) w (to_autos xs) (to_autos ys) (pre_entries xs) (pre_entries ys) (flat_inserted pre_entry_rows xs n x refl)
    (left_as (IsMore row) w (to_routes xs) (to_routes ys) (auto_entries xs) (auto_entries ys) (flat_inserted auto_entry_rows xs n x refl)
    (left_as (IsMore row) w (to_queues xs) (to_queues ys) (route_entries xs) (route_entries ys) (flat_inserted route_entry_rows xs n x refl)
    (left_as (IsMore row) w (map sbsd_row xs) (map sbsd_row ys) (queue_entries xs) (queue_entries ys) (flat_inserted queue_entry_rows xs n x refl)
    (more_mapped sbsd_row xs n x)))))
