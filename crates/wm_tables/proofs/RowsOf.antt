-- The rows of a state: what they are the rows of, and that no two have one place.
use Rattle.std.proofs.Common.{◌≡◌, ◌++◌, Bool, true, false, cond, List, [], ◌∷◌, map, Some, refl, sym, ap, subst, ◌∙◌, inl, inr}
use Rattle.std.specs.List.{find, flat_map}
use Rattle.std.specs.Option.{option_map}
use Rattle.wm_base.specs.declared.job.Class.{Class}
use Rattle.wm_base.specs.declared.qname.QName.{QName}
use Rattle.wm_desc.specs.declared.description.Jobd.{Jobd}
use Rattle.wm_desc.specs.declared.description.Jobq.{Jobq}
use Rattle.wm_desc.specs.declared.description.Program.{Program}
use Rattle.wm_desc.specs.declared.description.Sbsd.{Sbsd}
use Rattle.wm_desc.specs.declared.entry.AutoEntry.{AutoEntry}
use Rattle.wm_desc.specs.declared.entry.PreEntry.{PreEntry}
use Rattle.wm_desc.specs.declared.entry.QueueEntry.{QueueEntry}
use Rattle.wm_desc.specs.declared.entry.RouteEntry.{RouteEntry}
use Rattle.wm_desc.specs.Sorted.{IsSortedOnce}
use Rattle.wm_desc.specs.Table.{name_of, object_named, qname_cmp, same_qname}
use Rattle.wm_desc.proofs.Tables.{one_name, qname_total}
use Rattle.wm_traits.specs.declared.row.Row.{Row}
use Rattle.wm_law.specs.Laws.{IsIn}
use Rattle.wm_law.specs.declared.job.Job.{Job}
use Rattle.wm_law.specs.declared.state.State.{State}
use Rattle.wm_law.proofs.Members.{in_mapped, of_mapped}
use Rattle.wm_law.proofs.Named.{own_name as its_own}
use Rattle.wm_law.proofs.InOrder.{rest_sorted}
use Rattle.wm_rows.specs.Rows.{class_row, program_row, queue_row, jobd_row, sbsd_row, queue_entry_row, route_entry_row, auto_entry_row, pre_entry_row, held_row, counter_row}
use Rattle.wm_rows.specs.Tables.{queue_entry_rows, route_entry_rows, auto_entry_rows, pre_entry_rows, held_rows, counter_rows}
use Rattle.wm_rows.specs.declared.stored.Counter.TheVariants as counter
use Rattle.wm_rows.specs.JobText.{job_row}
use Rattle.wm_rows.specs.Stored.{stored_of}
use Rattle.wm_tables.specs.Tables.{job_rows, rows_of}
use Rattle.wm_tables.proofs.OneMore.{first_below, not_same}
use Rattle.wm_tables.proofs.OwnPlaces.{in_flat, of_flat}
use Rattle.wm_tables.proofs.Passing.{in_left_part, in_right_part, of_parts}

-- two names are told apart
pub other_named : (a b : QName) (t : Bool) → same_qname a b ≡ t → (a ≡ b → ⊥) → t ≡ false
other_named a b true e h = absurd (h (one_name a b e))
other_named a b false e h = refl

module _ {V : Type 0} where
  abbrev name : QName × V → QName
  name o = o.0

  first_named : (t : Bool) (x y : QName × V) (xs : List (QName × V)) → t ≡ false → option_map (λ o. o.1) (find (λ o. same_qname o.0 x.0) xs) ≡ Some x.1 → option_map (λ o. o.1) (cond t (Some y) (find (λ o. same_qname o.0 x.0) xs)) ≡ Some x.1
  first_named true x y xs e h = absurd (cc)
  first_named false x y xs e h = h

  -- an object of a sorted table is found by its name
  pub named_in : (xs : List (QName × V)) (x : QName × V) → IsSortedOnce name_of qname_cmp xs → IsIn x xs → object_named x.0 xs ≡ Some x.1
  named_in [] x s i = absurd i
  named_in (y ∷ ys) x s (inl same) =
      let yes : same_qname y.0 x.0 ≡ true = subst (λ (q : QName). same_qname q x.0 ≡ true) (ap name same) (its_own x.0) in
      ap (λ (t : Bool). option_map (λ (o : QName × V). o.1) (cond t (Some y) (find (λ (o : QName × V). same_qname o.0 x.0) ys))) yes
      ∙ ap (λ (o : QName × V). Some o.1) (sym same)
  named_in (y ∷ ys) x s (inr i) =
      first_named (same_qname y.0 x.0) x y ys
      (other_named y.0 x.0 (same_qname y.0 x.0) refl (not_same name qname_cmp qname_total y.0 x.0 (first_below name qname_cmp qname_total y ys x s i)))
      (named_in ys x (rest_sorted name qname_cmp qname_total y ys s) i)

-- and so is a changed one with the same name
module _ {V : Type 0} (f : QName × V → QName × V) (keeps : (x : QName × V) → (f x).0 ≡ x.0) where
  changed_first : (t : Bool) (x y : QName × V) (xs : List (QName × V)) → t ≡ false → option_map (λ o. o.1) (find (λ o. same_qname o.0 x.0) xs) ≡ Some (f x).1 → option_map (λ o. o.1) (cond t (Some y) (find (λ o. same_qname o.0 x.0) xs)) ≡ Some (f x).1
  changed_first true x y xs e h = absurd (cc)
  changed_first false x y xs e h = h

  pub named_changed : (xs : List (QName × V)) (x : QName × V) → IsSortedOnce name_of qname_cmp xs → IsIn x xs → object_named x.0 (map f xs) ≡ Some (f x).1
  named_changed [] x s i = absurd i
  named_changed (y ∷ ys) x s (inl same) =
      let yes : same_qname (f y).0 x.0 ≡ true = subst (λ (q : QName). same_qname q x.0 ≡ true) (ap name same ∙ sym (keeps y)) (its_own x.0) in
      ap (λ (t : Bool). option_map (λ (o : QName × V). o.1) (cond t (Some (f y)) (find (λ (o : QName × V). same_qname o.0 x.0) (map f ys)))) yes
      ∙ ap (λ (o : QName × V). Some (f o).1) (sym same)
  named_changed (y ∷ ys) x s (inr i) =
      changed_first (same_qname (f y).0 x.0) x (f y) (map f ys)
      (ap (λ (q : QName). same_qname q x.0) (keeps y) ∙ other_named y.0 x.0 (same_qname y.0 x.0) refl (not_same (name {V = V}) qname_cmp qname_total y.0 x.0 (first_below (name {V = V}) qname_cmp qname_total y ys x s i)))
      (named_changed ys x (rest_sorted (name {V = V}) qname_cmp qname_total y ys s) i)

-- what a row of a state is the row of
pub data IsRowOf (s : State) (r : Row) : Type 0 where
  of_class : (x : QName × Class) → IsIn x s.objects.classes → r ≡ class_row x → IsRowOf s r
  of_program : (x : QName × Program) → IsIn x s.objects.programs → r ≡ program_row x → IsRowOf s r
  of_queue : (x : QName × Jobq) → IsIn x s.objects.jobqs → r ≡ queue_row x → IsRowOf s r
  of_jobd : (x : QName × Jobd) → IsIn x s.objects.jobds → r ≡ jobd_row x → IsRowOf s r
  of_sbsd : (x : QName × Sbsd) → IsIn x s.objects.sbsds → r ≡ sbsd_row x → IsRowOf s r
  of_queue_entry : (x : QName × Sbsd) (e : QueueEntry) → IsIn x s.objects.sbsds → IsIn e x.1.queues → r ≡ queue_entry_row x.0 e → IsRowOf s r
  of_route_entry : (x : QName × Sbsd) (e : RouteEntry) → IsIn x s.objects.sbsds → IsIn e x.1.routes → r ≡ route_entry_row x.0 e → IsRowOf s r
  of_auto_entry : (x : QName × Sbsd) (e : AutoEntry) → IsIn x s.objects.sbsds → IsIn e x.1.autos → r ≡ auto_entry_row x.0 e → IsRowOf s r
  of_pre_entry : (x : QName × Sbsd) (e : PreEntry) → IsIn x s.objects.sbsds → IsIn e x.1.pres → r ≡ pre_entry_row x.0 e → IsRowOf s r
  of_held : (q : QName) → IsIn q s.held → r ≡ held_row q → IsRowOf s r
  of_job : (j : Job) → IsIn j s.jobs → r ≡ job_row (stored_of j) → IsRowOf s r
  of_number : r ≡ counter_row counter.Number s.next_number → IsRowOf s r
  of_place : r ≡ counter_row counter.Place s.next_place → IsRowOf s r
  of_schema : r ≡ counter_row counter.Schema 1 → IsRowOf s r
  of_serial : r ≡ counter_row counter.Serial s.next_serial → IsRowOf s r

module _ (s : State) where
  abbrev classes : List Row
  classes = map class_row s.objects.classes

  abbrev programs : List Row
  programs = map program_row s.objects.programs

  abbrev queues : List Row
  queues = map queue_row s.objects.jobqs

  abbrev jobds : List Row
  jobds = map jobd_row s.objects.jobds

  abbrev sbsds : List Row
  sbsds = map sbsd_row s.objects.sbsds

  abbrev queue_entries : List Row
  queue_entries = flat_map queue_entry_rows s.objects.sbsds

  abbrev route_entries : List Row
  route_entries = flat_map route_entry_rows s.objects.sbsds

  abbrev auto_entries : List Row
  auto_entries = flat_map auto_entry_rows s.objects.sbsds

  abbrev pre_entries : List Row
  pre_entries = flat_map pre_entry_rows s.objects.sbsds

  abbrev first_two : List Row
  first_two = classes ++ programs

  abbrev first_three : List Row
  first_three = first_two ++ queues

  abbrev first_four : List Row
  first_four = first_three ++ jobds

  abbrev to_queue_entries : List Row
  to_queue_entries = sbsds ++ queue_entries

  abbrev to_route_entries : List Row
  to_route_entries = to_queue_entries ++ route_entries

  abbrev to_auto_entries : List Row
  to_auto_entries = to_route_entries ++ auto_entries

  abbrev descriptions : List Row
  descriptions = to_auto_entries ++ pre_entries

  abbrev objects : List Row
  objects = first_four ++ descriptions

  abbrev held : List Row
  held = held_rows s.held

  abbrev to_held : List Row
  to_held = objects ++ held

  abbrev jobs : List Row
  jobs = job_rows s.jobs

  abbrev to_jobs : List Row
  to_jobs = to_held ++ jobs

  abbrev counters : List Row
  counters = counter_rows s.next_number s.next_place s.next_serial

  in_objects : (r : Row) → IsIn r objects → IsIn r (rows_of s)
  in_objects r i = in_left_part to_jobs counters r (in_left_part to_held jobs r (in_left_part objects held r i))

  in_first : (r : Row) → IsIn r first_four → IsIn r (rows_of s)
  in_first r i = in_objects r (in_left_part first_four descriptions r i)

  in_descriptions : (r : Row) → IsIn r to_auto_entries → IsIn r (rows_of s)
  in_descriptions r i = in_objects r (in_right_part first_four descriptions r (in_left_part to_auto_entries pre_entries r i))

  in_counters : (r : Row) → IsIn r counters → IsIn r (rows_of s)
  in_counters r i = in_right_part to_jobs counters r i

  there : (r q : Row) → r ≡ q → IsIn q (rows_of s) → IsIn r (rows_of s)
  there r q e i = subst (λ (x : Row). IsIn x (rows_of s)) (sym e) i

  -- and it stands among them
  pub in_rows : (r : Row) → IsRowOf s r → IsIn r (rows_of s)
  in_rows r (of_class x i e) = there r (class_row x) e (in_first (class_row x) (in_left_part first_three jobds (class_row x) (in_left_part first_two queues (class_row x) (in_left_part classes programs (class_row x) (in_mapped class_row s.objects.classes x i)))))
  in_rows r (of_program x i e) = there r (program_row x) e (in_first (program_row x) (in_left_part first_three jobds (program_row x) (in_left_part first_two queues (program_row x) (in_right_part classes programs (program_row x) (in_mapped program_row s.objects.programs x i)))))
  in_rows r (of_queue x i e) = there r (queue_row x) e (in_first (queue_row x) (in_left_part first_three jobds (queue_row x) (in_right_part first_two queues (queue_row x) (in_mapped queue_row s.objects.jobqs x i))))
  in_rows r (of_jobd x i e) = there r (jobd_row x) e (in_first (jobd_row x) (in_right_part first_three jobds (jobd_row x) (in_mapped jobd_row s.objects.jobds x i)))
  in_rows r (of_sbsd x i e) = there r (sbsd_row x) e (in_descriptions (sbsd_row x) (in_left_part to_route_entries auto_entries (sbsd_row x) (in_left_part to_queue_entries route_entries (sbsd_row x) (in_left_part sbsds queue_entries (sbsd_row x) (in_mapped sbsd_row s.objects.sbsds x i)))))
  in_rows r (of_queue_entry x d i j e) =
      let row = queue_entry_row x.0 d in
      there r row e (in_descriptions row (in_left_part to_route_entries auto_entries row (in_left_part to_queue_entries route_entries row (in_right_part sbsds queue_entries row (in_flat queue_entry_rows s.objects.sbsds x row i (in_mapped (queue_entry_row x.0) x.1.queues d j))))))
  in_rows r (of_route_entry x d i j e) =
      let row = route_entry_row x.0 d in
      there r row e (in_descriptions row (in_left_part to_route_entries auto_entries row (in_right_part to_queue_entries route_entries row (in_flat route_entry_rows s.objects.sbsds x row i (in_mapped (route_entry_row x.0) x.1.routes d j)))))
  in_rows r (of_auto_entry x d i j e) =
      let row = auto_entry_row x.0 d in
      there r row e (in_descriptions row (in_right_part to_route_entries auto_entries row (in_flat auto_entry_rows s.objects.sbsds x row i (in_mapped (auto_entry_row x.0) x.1.autos d j))))
  in_rows r (of_pre_entry x d i j e) =
      let row = pre_entry_row x.0 d in
      there r row e (in_objects row (in_right_part first_four descriptions row (in_right_part to_auto_entries pre_entries row (in_flat pre_entry_rows s.objects.sbsds x row i (in_mapped (pre_entry_row x.0) x.1.pres d j)))))
  in_rows r (of_held q i e) = there r (held_row q) e (in_left_part to_jobs counters (held_row q) (in_left_part to_held jobs (held_row q) (in_right_part objects held (held_row q) (in_mapped held_row s.held q i))))
  in_rows r (of_job j i e) =
      let row = job_row (stored_of j) in
      there r row e (in_left_part to_jobs counters row (in_right_part to_held jobs row (in_mapped (λ (k : Job). job_row (stored_of k)) s.jobs j i)))
  in_rows r (of_number e) = in_counters r (inl e)
  in_rows r (of_place e) = in_counters r (inr (inl e))
  in_rows r (of_schema e) = in_counters r (inr (inr (inl e)))
  in_rows r (of_serial e) = in_counters r (inr (inr (inr (inl e))))

  of_counters : (r : Row) → IsIn r counters → IsRowOf s r
  of_counters r (inl e) = of_number e
  of_counters r (inr (inl e)) = of_place e
  of_counters r (inr (inr (inl e))) = of_schema e
  of_counters r (inr (inr (inr (inl e)))) = of_serial e
  of_counters r (inr (inr (inr (inr i)))) = absurd i

  of_first : (r : Row) → IsIn r first_four → IsRowOf s r
  of_first r i =
      elim (of_parts first_three jobds r i) as (λ _. IsRowOf s r) [
        | inl a ↦ (elim (of_parts first_two queues r a) as (λ _. IsRowOf s r) [
          | inl b ↦ (elim (of_parts classes programs r b) as (λ _. IsRowOf s r) [
            | inl c ↦ (let m = of_mapped class_row s.objects.classes r c in of_class m.0 m.1 m.2)
            | inr c ↦ (let m = of_mapped program_row s.objects.programs r c in of_program m.0 m.1 m.2)
          ])
          | inr b ↦ (let m = of_mapped queue_row s.objects.jobqs r b in of_queue m.0 m.1 m.2)
        ])
        | inr a ↦ (let m = of_mapped jobd_row s.objects.jobds r a in of_jobd m.0 m.1 m.2)
      ]

  of_descriptions : (r : Row) → IsIn r descriptions → IsRowOf s r
  of_descriptions r i =
      elim (of_parts to_auto_entries pre_entries r i) as (λ _. IsRowOf s r) [
        | inl a ↦ (elim (of_parts to_route_entries auto_entries r a) as (λ _. IsRowOf s r) [
          | inl b ↦ (elim (of_parts to_queue_entries route_entries r b) as (λ _. IsRowOf s r) [
            | inl c ↦ (elim (of_parts sbsds queue_entries r c) as (λ _. IsRowOf s r) [
              | inl d ↦ (let m = of_mapped sbsd_row s.objects.sbsds r d in of_sbsd m.0 m.1 m.2)
              | inr d ↦ (let f = of_flat queue_entry_rows s.objects.sbsds r d in let m = of_mapped (queue_entry_row f.0.0) f.0.1.queues r f.2 in of_queue_entry f.0 m.0 f.1 m.1 m.2)
            ])
            | inr c ↦ (let f = of_flat route_entry_rows s.objects.sbsds r c in let m = of_mapped (route_entry_row f.0.0) f.0.1.routes r f.2 in of_route_entry f.0 m.0 f.1 m.1 m.2)
          ])
          | inr b ↦ (let f = of_flat auto_entry_rows s.objects.sbsds r b in let m = of_mapped (auto_entry_row f.0.0) f.0.1.autos r f.2 in of_auto_entry f.0 m.0 f.1 m.1 m.2)
        ])
        | inr a ↦ (let f = of_flat pre_entry_rows s.objects.sbsds r a in let m = of_mapped (pre_entry_row f.0.0) f.0.1.pres r f.2 in of_pre_entry f.0 m.0 f.1 m.1 m.2)
      ]

  -- each row is the row of something
  pub of_rows : (r : Row) → IsIn r (rows_of s) → IsRowOf s r
  of_rows r i =
      elim (of_parts to_jobs counters r i) as (λ _. IsRowOf s r) [
        | inl a ↦ (elim (of_parts to_held jobs r a) as (λ _. IsRowOf s r) [
          | inl b ↦ (elim (of_parts objects held r b) as (λ _. IsRowOf s r) [
            | inl c ↦ (elim (of_parts first_four descriptions r c) as (λ _. IsRowOf s r) [ inl d ↦ of_first r d | inr d ↦ of_descriptions r d ])
            | inr c ↦ (let m = of_mapped held_row s.held r c in of_held m.0 m.1 m.2)
          ])
          | inr b ↦ (let m = of_mapped (λ (k : Job). job_row (stored_of k)) s.jobs r b in of_job m.0 m.1 m.2)
        ])
        | inr a ↦ of_counters r a
      ]
