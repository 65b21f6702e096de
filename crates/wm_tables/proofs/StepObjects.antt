-- A row of an object makes the part of a state with this object more.
use Rattle.std.proofs.Common.{◌≡◌, ℕ, ℤ, zero, suc, ◌||◌, nat_le, Bool, true, false, cond, List, [], ◌∷◌, map, filter, None, Some, refl, sym, ap, subst, ◌∙◌, arith}
use Rattle.std.specs.List.{insert}
use Rattle.std.specs.Ordering.{is_lt}
use Rattle.std.specs.declared.cmp.Ordering.{Ordering}
use Rattle.std.proofs.lemmas.List.{length-map}
use Rattle.std.proofs.lemmas.List.Sums.{sum_by-cons}
use Rattle.wm_base.specs.declared.job.Class.{Class}
use Rattle.wm_base.specs.declared.qname.QName.{QName}
use Rattle.wm_base.specs.declared.refusal.Kind.TheVariants as kind
use Rattle.wm_base.specs.declared.refusal.Refusal.TheVariants.{Exists, TableFull}
use Rattle.wm_desc.specs.Refusals.{first_refusal, is_full, object_refusal}
use Rattle.wm_desc.specs.declared.description.Jobd.{Jobd}
use Rattle.wm_desc.specs.declared.description.Jobq.{Jobq}
use Rattle.wm_desc.specs.declared.description.Program.{Program}
use Rattle.wm_desc.specs.declared.description.Sbsd.{Sbsd}
use Rattle.wm_desc.specs.Objects.{with_object, empty_sbsd}
use Rattle.wm_desc.specs.Sorted.{added, place_of}
use Rattle.wm_desc.specs.Table.{has_object, qname_cmp, same_qname}
use Rattle.wm_desc.proofs.Tables.{qname_total}
use Rattle.wm_traits.specs.declared.row.Row.{Row}
use Rattle.wm_traits.specs.Rows.{is_before}
use Rattle.wm_traits.specs.Rows.{place_of as row_place}
use Rattle.wm_law.specs.Laws.{IsIn}
use Rattle.wm_law.specs.Sound.{IsSound}
use Rattle.wm_law.specs.declared.command.Command.TheVariants as command
use Rattle.wm_law.specs.declared.state.State.{State}
use Rattle.wm_law.proofs.Members.{left_in}
use Rattle.wm_law.specs.Again.{crtcls_of, crtpgmref_of, crtjobq_of, crtjobd_of, crtsbsd_of}
use Rattle.wm_rows.specs.Rows.{class_row, program_row, queue_row, jobd_row, sbsd_row, queue_entry_row, route_entry_row, auto_entry_row, pre_entry_row}
use Rattle.wm_tables.specs.Ranges.{IsInRange}
use Rattle.wm_tables.specs.Restart.{Makes}
use Rattle.wm_tables.proofs.Keys.{one_text}
use Rattle.wm_tables.proofs.OneMore.{IsOneMore, next_added}
use Rattle.wm_tables.proofs.OwnPlaces.{same_key}
use Rattle.wm_tables.proofs.Parts.{IsStep, far, objects_step, state_part, sbsds_left, sbsds_part, sbsd_part, classes_same, programs_same, queues_same, jobds_same, description_same, same_entries, sbsds_same, map_each, other_tab}
use Rattle.wm_tables.proofs.Passing.{left_none}
use Rattle.wm_tables.proofs.RowsOf.{IsRowOf, in_rows, of_class, of_program, of_queue, of_jobd, of_sbsd, of_queue_entry, of_route_entry, of_auto_entry, of_pre_entry}
use Rattle.wm_tables.proofs.Unrefused.{command_makes, object_free, program_free}

-- an element more among changed ones that keep their keys
module _ {E K : Type 0} (key : E → K) (cmp : K → K → Ordering) (f : E → E) (same : (x : E) → key (f x) ≡ key x) where
  abbrev one : K → E → ℕ
  one k e = cond (is_lt (cmp (key e) k)) 1 0

  place_mapped : (k : K) (xs : List E) → place_of key cmp k (map f xs) ≡ place_of key cmp k xs
  place_mapped k [] = refl
  place_mapped k (x ∷ xs) =
      let first : one k (f x) ≡ one k x = ap (λ (a : K). cond (is_lt (cmp a k)) 1 0) (same x) in
      let rest = place_mapped k xs in
      rw (sum_by-cons (one k) (f x) (map f xs), sum_by-cons (one k) x xs) (omega arith)

  insert_mapped : (n : ℕ) (x : E) (xs : List E) → insert (map f xs) n (f x) ≡ map f (insert xs n x)
  insert_mapped zero x xs = refl
  insert_mapped (suc n) x [] = refl
  insert_mapped (suc n) x (y ∷ xs) = ap (λ (ys : List E). f y ∷ ys) (insert_mapped n x xs)

  pub added_mapped : (x : E) (xs : List E) → added key cmp (f x) (map f xs) ≡ map f (added key cmp x xs)
  added_mapped x xs =
      ap (λ (k : K). insert (map f xs) (place_of key cmp k (map f xs)) (f x)) (same x)
      ∙ ap (λ (n : ℕ). insert (map f xs) n (f x)) (place_mapped (key x) xs)
      ∙ insert_mapped (place_of key cmp (key x) xs) x xs

named_mapped : {V : Type 0} (f : QName × V → QName × V) → ((x : QName × V) → (f x).0 ≡ x.0) → (name : QName) (xs : List (QName × V)) → has_object name (map f xs) ≡ has_object name xs
named_mapped f same name [] = refl
named_mapped f same name (x ∷ xs) =
    ap (λ (q : QName). same_qname q name || has_object name (map f xs)) (same x)
    ∙ ap (λ (t : Bool). same_qname x.0 name || t) (named_mapped f same name xs)

-- changed descriptions with the same names are refused the same
refused_mapped : (f : QName × Sbsd → QName × Sbsd) → ((x : QName × Sbsd) → (f x).0 ≡ x.0) → (name : QName) (xs : List (QName × Sbsd)) → object_refusal kind.Sbsd name (map f xs) ≡ object_refusal kind.Sbsd name xs
refused_mapped f same name xs =
    ap (λ (t : Bool). first_refusal ((t, Exists kind.Sbsd) ∷ (is_full 1000 (map f xs), TableFull kind.Sbsd 1000) ∷ [])) (named_mapped f same name xs)
    ∙ ap (λ (n : ℕ). first_refusal ((has_object name xs, Exists kind.Sbsd) ∷ (nat_le 1000 n, TableFull kind.Sbsd 1000) ∷ [])) (length-map xs f)

-- entries whose rows stand behind a description's are left out
none_left : {X : Type 0} (a b : X → Bool) (xs : List X) → ((x : X) → IsIn x xs → b x ≡ a x) → ((x : X) → IsIn x xs → a x ≡ false) → filter b xs ≡ []
none_left a b xs h g = left_none b xs (λ x i. h x i ∙ g x i)

module _ (offset : ℤ) (s : State) (sound : IsSound s) (range : IsInRange s) (row : Row) (p q : Row → Bool) (h : IsStep s row p q) where
  class_more : (x : QName × Class) → IsIn x s.objects.classes → class_row x ≡ row → IsOneMore (λ (y : QName × Class). y.0) qname_cmp qname_total (λ y. p (class_row y)) (λ y. q (class_row y)) s.objects.classes x
  class_more x i e = record {
    before = ap p e ∙ h.before;
    after = ap q e ∙ h.after;
    others = λ y j n. h.others (class_row y) (in_rows s (class_row y) (of_class y j refl)) (λ f. n (one_text y.0 x.0 (range.objects.classes y j).0 (range.objects.classes x i).0 (same_key (class_row y) (class_row x) (f ∙ ap row_place (sym e)))));
  }

  pub class_made : (x : QName × Class) → IsIn x s.objects.classes → class_row x ≡ row → Makes (state_part p offset s) row (state_part q offset s)
  class_made x i e =
      let free : p (class_row x) ≡ false = ap p e ∙ h.before in
      let tab : 1 ≡ row.tab = ap (λ (r : Row). r.tab) e in
      command_makes (state_part p offset s) (state_part q offset s) (command.Crtcls (crtcls_of x.0 x.1)) row _ _ refl
      (object_free (λ (y : QName × Class). p (class_row y)) s.objects.classes x sound.objects.tables.classes.sorted i free kind.Cls sound.objects.tables.classes.most)
      (range.objects.classes x i)
      (ap (λ (r : Row). Some r) e)
      (objects_step s row p q h offset (omega arith)
      (sym (next_added (λ (y : QName × Class). y.0) qname_cmp qname_total (λ y. p (class_row y)) (λ y. q (class_row y)) s.objects.classes x sound.objects.tables.classes.sorted i (class_more x i e)))
      (programs_same s row p q h (far 2 tab refl))
      (queues_same s row p q h (far 3 tab refl))
      (jobds_same s row p q h (far 4 tab refl))
      (sbsds_same s row p q h (far 5 tab refl) (far 6 tab refl) (far 7 tab refl) (far 8 tab refl) (far 9 tab refl)))

  queue_more : (x : QName × Jobq) → IsIn x s.objects.jobqs → queue_row x ≡ row → IsOneMore (λ (y : QName × Jobq). y.0) qname_cmp qname_total (λ y. p (queue_row y)) (λ y. q (queue_row y)) s.objects.jobqs x
  queue_more x i e = record {
    before = ap p e ∙ h.before;
    after = ap q e ∙ h.after;
    others = λ y j n. h.others (queue_row y) (in_rows s (queue_row y) (of_queue y j refl)) (λ f. n (one_text y.0 x.0 (range.objects.jobqs y j) (range.objects.jobqs x i) (same_key (queue_row y) (queue_row x) (f ∙ ap row_place (sym e)))));
  }

  pub queue_made : (x : QName × Jobq) → IsIn x s.objects.jobqs → queue_row x ≡ row → Makes (state_part p offset s) row (state_part q offset s)
  queue_made x i e =
      let free : p (queue_row x) ≡ false = ap p e ∙ h.before in
      let tab : 3 ≡ row.tab = ap (λ (r : Row). r.tab) e in
      command_makes (state_part p offset s) (state_part q offset s) (command.Crtjobq (crtjobq_of x.0)) row _ _ refl
      (object_free (λ (y : QName × Jobq). p (queue_row y)) s.objects.jobqs x sound.objects.tables.jobqs.sorted i free kind.Jobq sound.objects.tables.jobqs.most)
      (range.objects.jobqs x i)
      (ap (λ (r : Row). Some r) e)
      (objects_step s row p q h offset (omega arith)
      (classes_same s row p q h (far 1 tab refl))
      (programs_same s row p q h (far 2 tab refl))
      (sym (next_added (λ (y : QName × Jobq). y.0) qname_cmp qname_total (λ y. p (queue_row y)) (λ y. q (queue_row y)) s.objects.jobqs x sound.objects.tables.jobqs.sorted i (queue_more x i e)))
      (jobds_same s row p q h (far 4 tab refl))
      (sbsds_same s row p q h (far 5 tab refl) (far 6 tab refl) (far 7 tab refl) (far 8 tab refl) (far 9 tab refl)))

  jobd_more : (x : QName × Jobd) → IsIn x s.objects.jobds → jobd_row x ≡ row → IsOneMore (λ (y : QName × Jobd). y.0) qname_cmp qname_total (λ y. p (jobd_row y)) (λ y. q (jobd_row y)) s.objects.jobds x
  jobd_more x i e = record {
    before = ap p e ∙ h.before;
    after = ap q e ∙ h.after;
    others = λ y j n. h.others (jobd_row y) (in_rows s (jobd_row y) (of_jobd y j refl)) (λ f. n (one_text y.0 x.0 (range.objects.jobds y j).jobd (range.objects.jobds x i).jobd (same_key (jobd_row y) (jobd_row x) (f ∙ ap row_place (sym e)))));
  }

  pub jobd_made : (x : QName × Jobd) → IsIn x s.objects.jobds → jobd_row x ≡ row → Makes (state_part p offset s) row (state_part q offset s)
  jobd_made x i e =
      let free : p (jobd_row x) ≡ false = ap p e ∙ h.before in
      let tab : 4 ≡ row.tab = ap (λ (r : Row). r.tab) e in
      command_makes (state_part p offset s) (state_part q offset s) (command.Crtjobd (crtjobd_of x.0 x.1)) row _ _ refl
      (object_free (λ (y : QName × Jobd). p (jobd_row y)) s.objects.jobds x sound.objects.tables.jobds.sorted i free kind.Jobd sound.objects.tables.jobds.most)
      (range.objects.jobds x i)
      (ap (λ (r : Row). Some r) e)
      (objects_step s row p q h offset (omega arith)
      (classes_same s row p q h (far 1 tab refl))
      (programs_same s row p q h (far 2 tab refl))
      (queues_same s row p q h (far 3 tab refl))
      (sym (next_added (λ (y : QName × Jobd). y.0) qname_cmp qname_total (λ y. p (jobd_row y)) (λ y. q (jobd_row y)) s.objects.jobds x sound.objects.tables.jobds.sorted i (jobd_more x i e)))
      (sbsds_same s row p q h (far 5 tab refl) (far 6 tab refl) (far 7 tab refl) (far 8 tab refl) (far 9 tab refl)))

  program_more : (x : QName × Program) → IsIn x s.objects.programs → program_row x ≡ row → IsOneMore (λ (y : QName × Program). y.0) qname_cmp qname_total (λ y. p (program_row y)) (λ y. q (program_row y)) s.objects.programs x
  program_more x i e = record {
    before = ap p e ∙ h.before;
    after = ap q e ∙ h.after;
    others = λ y j n. h.others (program_row y) (in_rows s (program_row y) (of_program y j refl)) (λ f. n (one_text y.0 x.0 (range.objects.programs y j).0 (range.objects.programs x i).0 (same_key (program_row y) (program_row x) (f ∙ ap row_place (sym e)))));
  }

  pub program_made : (x : QName × Program) → IsIn x s.objects.programs → program_row x ≡ row → Makes (state_part p offset s) row (state_part q offset s)
  program_made x i e =
      let free : p (program_row x) ≡ false = ap p e ∙ h.before in
      let tab : 2 ≡ row.tab = ap (λ (r : Row). r.tab) e in
      command_makes (state_part p offset s) (state_part q offset s) (command.Crtpgmref (crtpgmref_of x.0 x.1)) row _ _ refl
      (program_free (λ (y : QName × Program). p (program_row y)) s.objects.programs x sound.objects.tables.programs.sorted i free (range.objects.no_qcmd x i) sound.objects.tables.programs.most)
      (range.objects.programs x i)
      (ap (λ (r : Row). Some r) e)
      (objects_step s row p q h offset (omega arith)
      (classes_same s row p q h (far 1 tab refl))
      (sym (next_added (λ (y : QName × Program). y.0) qname_cmp qname_total (λ y. p (program_row y)) (λ y. q (program_row y)) s.objects.programs x sound.objects.tables.programs.sorted i (program_more x i e)))
      (queues_same s row p q h (far 3 tab refl))
      (jobds_same s row p q h (far 4 tab refl))
      (sbsds_same s row p q h (far 5 tab refl) (far 6 tab refl) (far 7 tab refl) (far 8 tab refl) (far 9 tab refl)))

  sbsd_more : (x : QName × Sbsd) → IsIn x s.objects.sbsds → sbsd_row x ≡ row → IsOneMore (λ (y : QName × Sbsd). y.0) qname_cmp qname_total (λ y. p (sbsd_row y)) (λ y. q (sbsd_row y)) s.objects.sbsds x
  sbsd_more x i e = record {
    before = ap p e ∙ h.before;
    after = ap q e ∙ h.after;
    others = λ y j n. h.others (sbsd_row y) (in_rows s (sbsd_row y) (of_sbsd y j refl)) (λ f. n (one_text y.0 x.0 (range.objects.sbsds y j).0 (range.objects.sbsds x i).0 (same_key (sbsd_row y) (sbsd_row x) (f ∙ ap row_place (sym e)))));
  }

  -- its entries come later
  bare : (x : QName × Sbsd) → IsIn x s.objects.sbsds → sbsd_row x ≡ row → sbsd_part q x ≡ (x.0, empty_sbsd x.1.maxjobs)
  bare x i e =
      let tab : 5 ≡ row.tab = ap (λ (r : Row). r.tab) e in
      let later = λ (r : Row) (m : IsRowOf s r) (k : is_before (sbsd_row x) r ≡ true). h.later r (in_rows s r m) (subst (λ (b : Row). is_before b r ≡ true) e k) in
      let queues = none_left (λ d. p (queue_entry_row x.0 d)) (λ d. q (queue_entry_row x.0 d)) x.1.queues (λ d j. other_tab s row p q h (queue_entry_row x.0 d) (of_queue_entry x d i j refl) (far 6 tab refl)) (λ d j. later (queue_entry_row x.0 d) (of_queue_entry x d i j refl) refl) in
      let routes = none_left (λ d. p (route_entry_row x.0 d)) (λ d. q (route_entry_row x.0 d)) x.1.routes (λ d j. other_tab s row p q h (route_entry_row x.0 d) (of_route_entry x d i j refl) (far 7 tab refl)) (λ d j. later (route_entry_row x.0 d) (of_route_entry x d i j refl) refl) in
      let autos = none_left (λ d. p (auto_entry_row x.0 d)) (λ d. q (auto_entry_row x.0 d)) x.1.autos (λ d j. other_tab s row p q h (auto_entry_row x.0 d) (of_auto_entry x d i j refl) (far 8 tab refl)) (λ d j. later (auto_entry_row x.0 d) (of_auto_entry x d i j refl) refl) in
      let pres = none_left (λ d. p (pre_entry_row x.0 d)) (λ d. q (pre_entry_row x.0 d)) x.1.pres (λ d j. other_tab s row p q h (pre_entry_row x.0 d) (of_pre_entry x d i j refl) (far 9 tab refl)) (λ d j. later (pre_entry_row x.0 d) (of_pre_entry x d i j refl) refl) in
      same_entries x.0 x.1.maxjobs queues routes autos pres

  sbsd_added : (x : QName × Sbsd) → IsIn x s.objects.sbsds → sbsd_row x ≡ row → sbsds_part q s ≡ with_object x.0 (empty_sbsd x.1.maxjobs) (sbsds_part p s)
  sbsd_added x i e =
      let tab : 5 ≡ row.tab = ap (λ (r : Row). r.tab) e in
      let same : map (sbsd_part q) (sbsds_left p s) ≡ sbsds_part p s = map_each (sbsd_part q) (sbsd_part p) (sbsds_left p s) (λ y j. description_same s row p q h (far 6 tab refl) (far 7 tab refl) (far 8 tab refl) (far 9 tab refl) y (left_in (λ (z : QName × Sbsd). p (sbsd_row z)) s.objects.sbsds y j)) in
      ap (map (sbsd_part q)) (sym (next_added (λ (y : QName × Sbsd). y.0) qname_cmp qname_total (λ y. p (sbsd_row y)) (λ y. q (sbsd_row y)) s.objects.sbsds x sound.objects.tables.sbsds.sorted i (sbsd_more x i e)))
      ∙ sym (added_mapped (λ (y : QName × Sbsd). y.0) qname_cmp (sbsd_part q) (λ y. refl) x (sbsds_left p s))
      ∙ ap (λ (y : QName × Sbsd). added (λ (z : QName × Sbsd). z.0) qname_cmp y (map (sbsd_part q) (sbsds_left p s))) (bare x i e)
      ∙ ap (λ (ys : List (QName × Sbsd)). with_object x.0 (empty_sbsd x.1.maxjobs) ys) same

  sbsd_free : (x : QName × Sbsd) → IsIn x s.objects.sbsds → p (sbsd_row x) ≡ false → object_refusal kind.Sbsd x.0 (sbsds_part p s) ≡ None
  sbsd_free x i free =
      let left = object_free (λ (y : QName × Sbsd). p (sbsd_row y)) s.objects.sbsds x sound.objects.tables.sbsds.sorted i free kind.Sbsd sound.objects.tables.sbsds.most in
      refused_mapped (sbsd_part p) (λ y. refl) x.0 (sbsds_left p s) ∙ left

  pub sbsd_made : (x : QName × Sbsd) → IsIn x s.objects.sbsds → sbsd_row x ≡ row → Makes (state_part p offset s) row (state_part q offset s)
  sbsd_made x i e =
      let free : p (sbsd_row x) ≡ false = ap p e ∙ h.before in
      let tab : 5 ≡ row.tab = ap (λ (r : Row). r.tab) e in
      command_makes (state_part p offset s) (state_part q offset s) (command.Crtsbsd (crtsbsd_of x.0 x.1)) row _ _ refl
      (sbsd_free x i free)
      (range.objects.sbsds x i)
      (ap (λ (r : Row). Some r) e)
      (objects_step s row p q h offset (omega arith)
      (classes_same s row p q h (far 1 tab refl))
      (programs_same s row p q h (far 2 tab refl))
      (queues_same s row p q h (far 3 tab refl))
      (jobds_same s row p q h (far 4 tab refl))
      (sbsd_added x i e))
