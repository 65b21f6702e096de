-- A row of an entry makes the part of a state with this entry more.
use Rattle.std.proofs.Common.{◌≡◌, ◌⊎◌, ℕ, ℤ, ◌<◌, ◌≤◌, ◌||◌, ◌&&◌, ◌++◌, not, nat_eq, nat_lt, Bool, true, false, cond, List, [], ◌∷◌, length, map, filter, Some, None, is_some, refl, sym, ap, subst, ◌∙◌, inl, inr, arith}
use Rattle.std.specs.Cmp.Lexicographic.{pointwise, slice_cmp}
use Rattle.std.specs.Ordering.{nat_cmp}
use Rattle.std.proofs.lemmas.Bool.Decides.{nat_tests}
use Rattle.std.proofs.lemmas.Cmp.{nat_cmp_total, nat_list_cmp_total}
use Rattle.std.proofs.lemmas.Slice.Eq.{bytes_eq-Decides}
use Rattle.std.proofs.lemmas.Bool.{or_from, eqb-true}
use Rattle.wm_base.specs.declared.job.Class.{Class}
use Rattle.wm_base.specs.declared.qname.QName.{QName}
use Rattle.wm_base.specs.declared.refusal.Kind.TheVariants as kind
use Rattle.wm_base.specs.declared.refusal.Refusal.TheVariants.{SbsActive, TableFull}
use Rattle.wm_base.specs.Limit.{is_below}
use Rattle.wm_desc.specs.declared.description.Jobd.{Jobd}
use Rattle.wm_desc.specs.declared.description.Jobq.{Jobq}
use Rattle.wm_desc.specs.declared.description.Program.{Program}
use Rattle.wm_desc.specs.declared.description.Sbsd.{Sbsd}
use Rattle.wm_desc.specs.declared.entry.AutoEntry.{AutoEntry}
use Rattle.wm_desc.specs.declared.entry.PreEntry.{PreEntry}
use Rattle.wm_desc.specs.declared.entry.QueueEntry.{QueueEntry}
use Rattle.wm_desc.specs.declared.entry.RouteEntry.{RouteEntry}
use Rattle.wm_desc.specs.Objects.{with_queue, with_route, with_auto, with_pre}
use Rattle.wm_desc.specs.Refusals.{auto_tests, first_refusal, is_above, is_any, is_any_before, is_full, pre_tests, queue_tests, relation_tests, route_tests}
use Rattle.wm_desc.specs.Table.{changed, has_object, is_qcmd, object_named, qname_cmp, same_qname}
use Rattle.wm_desc.proofs.Tables.{one_name, qname_total, test_fails}
use Rattle.wm_traits.specs.declared.row.Row.{Row}
use Rattle.wm_traits.specs.Rows.{place_of}
use Rattle.wm_law.specs.Kept.{IsDistinct}
use Rattle.wm_law.specs.Laws.{IsIn}
use Rattle.wm_law.specs.Sound.{IsSound}
use Rattle.wm_law.specs.declared.command.Command.TheVariants as command
use Rattle.wm_law.specs.declared.state.State.{State}
use Rattle.wm_law.proofs.Members.{in_mapped, left_in, left_same}
use Rattle.wm_law.proofs.Named.{is_named, own_name}
use Rattle.wm_law.specs.Again.{addjobqe_of, addrtge_of, addaje_of, addpje_of}
use Rattle.wm_rows.specs.Rows.{class_row, program_row, queue_row, jobd_row, sbsd_row, queue_entry_row, route_entry_row, auto_entry_row, pre_entry_row}
use Rattle.wm_tables.specs.Ranges.{IsInRange}
use Rattle.wm_tables.specs.Restart.{Makes}
use Rattle.wm_tables.proofs.Made.{tab_before}
use Rattle.wm_tables.proofs.OneMore.{IsOneMore, next_added, next_new, one_of_key}
use Rattle.wm_tables.proofs.OwnRows.{description, one_queue_entry, one_route_entry, one_auto_entry, one_pre_entry}
use Rattle.wm_tables.proofs.Parts.{IsStep, far, objects_step, state_part, class_part, program_part, queue_part, jobd_part, sbsds_left, sbsds_part, sbsd_part, classes_same, programs_same, queues_same, jobds_same, left_sbsds_same, queue_entries_same, route_entries_same, auto_entries_same, pre_entries_same, same_entries}
use Rattle.wm_tables.proofs.Passing.{fewer, left_all, left_passes, none_passes}
use Rattle.wm_tables.proofs.RowsOf.{IsRowOf, in_rows, named_changed, named_in, of_class, of_program, of_queue, of_jobd, of_sbsd, of_queue_entry, of_route_entry, of_auto_entry, of_pre_entry}
use Rattle.wm_tables.proofs.Unrefused.{NoneHolds, command_makes, described_free, never_in_use, none_refuses, not_full}

-- of elements with distinct keys no two have one
pub one_distinct : {X A : Type 0} (key : X → A) (xs : List X) (x y : X) → IsDistinct (map key xs) → IsIn x xs → IsIn y xs → key x ≡ key y → x ≡ y
one_distinct key [] x y d i j e = absurd i
one_distinct key (z ∷ zs) x y d (inl a) (inl b) e = a ∙ sym b
one_distinct key (z ∷ zs) x y d (inl a) (inr j) e = absurd (d.0 (subst (λ (k : _). IsIn k (map key zs)) (sym e ∙ ap key a) (in_mapped key zs y j)))
one_distinct key (z ∷ zs) x y d (inr i) (inl b) e = absurd (d.0 (subst (λ (k : _). IsIn k (map key zs)) (e ∙ ap key b) (in_mapped key zs x i)))
one_distinct key (z ∷ zs) x y d (inr i) (inr j) e = one_distinct key zs x y d.1 i j e

map_twice : {X Y Z : Type 0} (f : X → Y) (g : Y → Z) (k : X → Z) (xs : List X) → ((x : X) → IsIn x xs → g (f x) ≡ k x) → map g (map f xs) ≡ map k xs
map_twice f g k [] h = refl
map_twice f g k (x ∷ xs) h = ap (λ (z : _). z ∷ map g (map f xs)) (h x (inl refl)) ∙ ap (λ (zs : List _). k x ∷ zs) (map_twice f g k xs (λ y i. h y (inr i)))

sure_text : (a b : List ℕ) → pointwise nat_eq a b ≡ true → a ≡ b
sure_text a b h = (bytes_eq-Decides a b).0 h

-- no entry before another is *ANY, where *ANY has the greatest number
not_before : (a b : RouteEntry) (t : Bool) → is_any a.cmp ≡ t → (is_any a.cmp ≡ true → b.seq ≤ a.seq) → (t && nat_lt a.seq b.seq) ≡ false
not_before a b true e h = let most : b.seq ≤ a.seq = h e in let less : nat_lt a.seq b.seq ≡ false = grind (arith, nat_tests) in less
not_before a b false e h = refl

-- fewer than the limit are left, where one isn't
few : {X : Type 0} (most : ℕ) (test : X → Bool) (xs : List X) (x : X) → IsIn x xs → test x ≡ false → length xs ≤ most → is_full most (filter test xs) ≡ false
few most test xs x i free all = let less = fewer test xs x i free in not_full most (filter test xs) (omega arith)

-- QSYS/QCMD, or what is an object
known : (a b : Bool) → (a ≡ true) ⊎ (b ≡ true) → not (a || b) ≡ false
known a b (inl e) = ap (λ (t : Bool). not (t || b)) e
known a b (inr e) = ap (λ (t : Bool). not (a || t)) e ∙ always a
  where
    always : (t : Bool) → not (t || true) ≡ false
    always true = refl
    always false = refl

module _ (offset : ℤ) (s : State) (sound : IsSound s) (range : IsInRange s) (row : Row) (p q : Row → Bool) (h : IsStep s row p q) where
  -- rows of earlier tables pass
  passes : (r : Row) → IsRowOf s r → r.tab < row.tab → p r ≡ true
  passes r i less = h.earlier r (in_rows s r i) (tab_before r row less)

  pub all_classes : 1 < row.tab → class_part p s ≡ s.objects.classes
  all_classes less = left_all (λ x. p (class_row x)) s.objects.classes (λ x i. passes (class_row x) (of_class x i refl) less)

  pub all_programs : 2 < row.tab → program_part p s ≡ s.objects.programs
  all_programs less = left_all (λ x. p (program_row x)) s.objects.programs (λ x i. passes (program_row x) (of_program x i refl) less)

  pub all_queues : 3 < row.tab → queue_part p s ≡ s.objects.jobqs
  all_queues less = left_all (λ x. p (queue_row x)) s.objects.jobqs (λ x i. passes (queue_row x) (of_queue x i refl) less)

  pub all_jobds : 4 < row.tab → jobd_part p s ≡ s.objects.jobds
  all_jobds less = left_all (λ x. p (jobd_row x)) s.objects.jobds (λ x i. passes (jobd_row x) (of_jobd x i refl) less)

  all_sbsds : 5 < row.tab → sbsds_left p s ≡ s.objects.sbsds
  all_sbsds less = left_all (λ x. p (sbsd_row x)) s.objects.sbsds (λ x i. passes (sbsd_row x) (of_sbsd x i refl) less)

  -- a description is found with the entries whose rows pass
  named_part : 5 < row.tab → (x : QName × Sbsd) → IsIn x s.objects.sbsds → object_named x.0 (sbsds_part p s) ≡ Some (sbsd_part p x).1
  named_part less x i = ap (λ (l : List (QName × Sbsd)). object_named x.0 (map (sbsd_part p) l)) (all_sbsds less) ∙ named_changed (sbsd_part p) (λ y. refl) s.objects.sbsds x sound.objects.tables.sbsds.sorted i

  later_tab : (n m : ℕ) → m ≡ row.tab → n < m → n < row.tab
  later_tab n m e less = omega arith

  -- what changes a description to one with an entry more, and leaves the others
  record IsChange (x : QName × Sbsd) (change : Sbsd → Sbsd) : Type 0 where
    this : (x.0, change (sbsd_part p x).1) ≡ sbsd_part q x
    other : (y : QName × Sbsd) → IsIn y s.objects.sbsds → (y.0 ≡ x.0 → ⊥) → sbsd_part q y ≡ sbsd_part p y

  changed_each : (x : QName × Sbsd) (change : Sbsd → Sbsd) → IsIn x s.objects.sbsds → IsChange x change → (y : QName × Sbsd) → IsIn y s.objects.sbsds → (t : Bool) → same_qname y.0 x.0 ≡ t → cond t (y.0, change (sbsd_part p y).1) (sbsd_part p y) ≡ sbsd_part q y
  changed_each x change i c y j true e =
      let same : y ≡ x = one_of_key (λ (z : QName × Sbsd). z.0) qname_cmp qname_total s.objects.sbsds y x sound.objects.tables.sbsds.sorted j i (one_name y.0 x.0 e) in
      subst (λ (z : QName × Sbsd). (z.0, change (sbsd_part p z).1) ≡ sbsd_part q z) (sym same) c.this
  changed_each x change i c y j false e =
      sym (c.other y j (λ f. (let yes : same_qname y.0 x.0 ≡ true = subst (λ (n : QName). same_qname y.0 n ≡ true) f (own_name y.0) in absurd (cc))))

  changed_part : 5 < row.tab → (5 ≡ row.tab → ⊥) → (x : QName × Sbsd) (change : Sbsd → Sbsd) → IsIn x s.objects.sbsds → IsChange x change → sbsds_part q s ≡ changed x.0 change (sbsds_part p s)
  changed_part less n x change i c =
      let mend = λ (y : QName × Sbsd). cond (same_qname y.0 x.0) (y.0, change y.1) y in
      ap (map (sbsd_part q)) (left_sbsds_same s row p q h n ∙ all_sbsds less)
      ∙ sym (map_twice (sbsd_part p) mend (sbsd_part q) s.objects.sbsds (λ y j. changed_each x change i c y j (same_qname y.0 x.0) refl))
      ∙ ap (λ (l : List (QName × Sbsd)). map mend (map (sbsd_part p) l)) (sym (all_sbsds less))

  queue_more : (x : QName × Sbsd) (e : QueueEntry) → IsIn x s.objects.sbsds → IsIn e x.1.queues → queue_entry_row x.0 e ≡ row → IsOneMore (λ (d : QueueEntry). d.seq) nat_cmp nat_cmp_total (λ d. p (queue_entry_row x.0 d)) (λ d. q (queue_entry_row x.0 d)) x.1.queues e
  queue_more x e i j same = record {
    before = ap p same ∙ h.before;
    after = ap q same ∙ h.after;
    others = λ d k n. h.others (queue_entry_row x.0 d) (in_rows s (queue_entry_row x.0 d) (of_queue_entry x d i k refl)) (λ f. n (one_queue_entry s sound range x x d e i i k j (f ∙ ap place_of (sym same))).1);
  }

  queue_change : (x : QName × Sbsd) (e : QueueEntry) → IsIn x s.objects.sbsds → IsIn e x.1.queues → queue_entry_row x.0 e ≡ row → IsChange x (with_queue e)
  queue_change x e i j same =
      let tab : 6 ≡ row.tab = ap (λ (r : Row). r.tab) same in
      record {
        this =
            same_entries x.0 x.1.maxjobs
            (next_added (λ (d : QueueEntry). d.seq) nat_cmp nat_cmp_total (λ d. p (queue_entry_row x.0 d)) (λ d. q (queue_entry_row x.0 d)) x.1.queues e (description s sound range x i).queues.sorted j (queue_more x e i j same))
            (sym (route_entries_same s row p q h (far 7 tab refl) x i))
            (sym (auto_entries_same s row p q h (far 8 tab refl) x i))
            (sym (pre_entries_same s row p q h (far 9 tab refl) x i));
        other = λ y m n.
            same_entries y.0 y.1.maxjobs
            (left_same (λ d. p (queue_entry_row y.0 d)) (λ d. q (queue_entry_row y.0 d)) y.1.queues (λ d k. h.others (queue_entry_row y.0 d) (in_rows s (queue_entry_row y.0 d) (of_queue_entry y d m k refl)) (λ f. n (one_queue_entry s sound range y x d e m i k j (f ∙ ap place_of (sym same))).0)))
            (route_entries_same s row p q h (far 7 tab refl) y m)
            (auto_entries_same s row p q h (far 8 tab refl) y m)
            (pre_entries_same s row p q h (far 9 tab refl) y m);
      }

  fed_by : (x : QName × Sbsd) (e d : QueueEntry) (t : Bool) → IsIn x s.objects.sbsds → IsIn e x.1.queues → p (queue_entry_row x.0 e) ≡ false → IsIn d (filter (λ c. p (queue_entry_row x.0 c)) x.1.queues) → same_qname d.jobq e.jobq ≡ t → t ≡ false
  fed_by x e d false i j free m f = refl
  fed_by x e d true i j free m f =
      let test = λ (c : QueueEntry). p (queue_entry_row x.0 c) in
      let one : d ≡ e = one_distinct (λ (c : QueueEntry). c.jobq) x.1.queues d e (description s sound range x i).queues.once (left_in test x.1.queues d m) j (one_name d.jobq e.jobq f) in
      let yes : p (queue_entry_row x.0 e) ≡ true = subst (λ (c : QueueEntry). p (queue_entry_row x.0 c) ≡ true) one (left_passes test x.1.queues d m) in
      absurd (cc)

  pub queue_made : (x : QName × Sbsd) (e : QueueEntry) → IsIn x s.objects.sbsds → IsIn e x.1.queues → queue_entry_row x.0 e ≡ row → Makes (state_part p offset s) row (state_part q offset s)
  queue_made x e i j same =
      let tab : 6 ≡ row.tab = ap (λ (r : Row). r.tab) same in
      let u = state_part p offset s in
      command_makes u (state_part q offset s) (command.Addjobqe (addjobqe_of x.0 e)) row _ _ refl
      (never_in_use u x.0 _ refl (described_free u.objects x.0 (λ d. first_refusal (queue_tests u.objects e d)) (sbsd_part p x).1 (named_part (later_tab 5 6 tab (omega arith)) x i) (none_refuses (queue_tests u.objects e (sbsd_part p x).1) (
        ap (λ (l : List (QName × Jobq)). not (has_object e.jobq l)) (all_queues (later_tab 3 6 tab (omega arith))) ∙ ap not (is_named e.jobq s.objects.jobqs ∙ (description s sound range x i).queues.queues e j),
        (
          none_passes (λ (d : QueueEntry). same_qname d.jobq e.jobq) (filter (λ d. p (queue_entry_row x.0 d)) x.1.queues) (λ d m. fed_by x e d (same_qname d.jobq e.jobq) i j (ap p same ∙ h.before) m refl),
          (
            next_new (λ (d : QueueEntry). d.seq) nat_cmp nat_cmp_total nat_eq eqb-true (λ d. p (queue_entry_row x.0 d)) x.1.queues e (description s sound range x i).queues.sorted j (ap p same ∙ h.before),
            (few 100 (λ d. p (queue_entry_row x.0 d)) x.1.queues e j (ap p same ∙ h.before) (description s sound range x i).sizes.queues, tt),
          ),
        ),
      ))))
      ((range.objects.entries x i).queues e j)
      (ap (λ (r : Row). Some r) same)
      (objects_step s row p q h offset (omega arith)
      (classes_same s row p q h (far 1 tab refl))
      (programs_same s row p q h (far 2 tab refl))
      (queues_same s row p q h (far 3 tab refl))
      (jobds_same s row p q h (far 4 tab refl))
      (changed_part (later_tab 5 6 tab (omega arith)) (far 5 tab refl) x (with_queue e) i (queue_change x e i j same)))

  route_more : (x : QName × Sbsd) (e : RouteEntry) → IsIn x s.objects.sbsds → IsIn e x.1.routes → route_entry_row x.0 e ≡ row → IsOneMore (λ (d : RouteEntry). d.seq) nat_cmp nat_cmp_total (λ d. p (route_entry_row x.0 d)) (λ d. q (route_entry_row x.0 d)) x.1.routes e
  route_more x e i j same = record {
    before = ap p same ∙ h.before;
    after = ap q same ∙ h.after;
    others = λ d k n. h.others (route_entry_row x.0 d) (in_rows s (route_entry_row x.0 d) (of_route_entry x d i k refl)) (λ f. n (one_route_entry s sound range x x d e i i k j (f ∙ ap place_of (sym same))).1);
  }

  route_change : (x : QName × Sbsd) (e : RouteEntry) → IsIn x s.objects.sbsds → IsIn e x.1.routes → route_entry_row x.0 e ≡ row → IsChange x (with_route e)
  route_change x e i j same =
      let tab : 7 ≡ row.tab = ap (λ (r : Row). r.tab) same in
      record {
        this =
            same_entries x.0 x.1.maxjobs
            (sym (queue_entries_same s row p q h (far 6 tab refl) x i))
            (next_added (λ (d : RouteEntry). d.seq) nat_cmp nat_cmp_total (λ d. p (route_entry_row x.0 d)) (λ d. q (route_entry_row x.0 d)) x.1.routes e (sound.orders.routed.sorted x.0 x.1 (named_in s.objects.sbsds x sound.objects.tables.sbsds.sorted i)) j (route_more x e i j same))
            (sym (auto_entries_same s row p q h (far 8 tab refl) x i))
            (sym (pre_entries_same s row p q h (far 9 tab refl) x i));
        other = λ y m n.
            same_entries y.0 y.1.maxjobs
            (queue_entries_same s row p q h (far 6 tab refl) y m)
            (left_same (λ d. p (route_entry_row y.0 d)) (λ d. q (route_entry_row y.0 d)) y.1.routes (λ d k. h.others (route_entry_row y.0 d) (in_rows s (route_entry_row y.0 d) (of_route_entry y d m k refl)) (λ f. n (one_route_entry s sound range y x d e m i k j (f ∙ ap place_of (sym same))).0)))
            (auto_entries_same s row p q h (far 8 tab refl) y m)
            (pre_entries_same s row p q h (far 9 tab refl) y m);
      }

  program_there : (x : QName × Sbsd) (e : RouteEntry) → 2 < row.tab → IsIn x s.objects.sbsds → IsIn e x.1.routes → not (is_qcmd e.pgm || has_object e.pgm (program_part p s)) ≡ false
  program_there x e less i j =
      ap (λ (l : List (QName × Program)). not (is_qcmd e.pgm || has_object e.pgm l)) (all_programs less)
      ∙ ap (λ (t : Bool). not (is_qcmd e.pgm || t)) (is_named e.pgm s.objects.programs)
      ∙ known (is_qcmd e.pgm) (is_some (object_named e.pgm s.objects.programs)) ((description s sound range x i).routes.programs e j)

  last_by : (x : QName × Sbsd) (e d : RouteEntry) → IsIn x s.objects.sbsds → IsIn e x.1.routes → IsIn d (filter (λ c. p (route_entry_row x.0 c)) x.1.routes) → (is_any_before e d || is_any_before d e) ≡ false
  last_by x e d i j m =
      let there = left_in (λ (c : RouteEntry). p (route_entry_row x.0 c)) x.1.routes d m in
      let last = (description s sound range x i).routes.any_last in
      or_from (is_any_before e d) (is_any_before d e) (not_before e d (is_any e.cmp) refl (last e d j there)) (not_before d e (is_any d.cmp) refl (last d e there j))

  pub route_made : (x : QName × Sbsd) (e : RouteEntry) → IsIn x s.objects.sbsds → IsIn e x.1.routes → route_entry_row x.0 e ≡ row → Makes (state_part p offset s) row (state_part q offset s)
  route_made x e i j same =
      let tab : 7 ≡ row.tab = ap (λ (r : Row). r.tab) same in
      let u = state_part p offset s in
      command_makes u (state_part q offset s) (command.Addrtge (addrtge_of x.0 e)) row _ _ refl
      (never_in_use u x.0 _ refl (described_free u.objects x.0 (λ d. first_refusal (route_tests u.objects e d)) (sbsd_part p x).1 (named_part (later_tab 5 7 tab (omega arith)) x i) (none_refuses (route_tests u.objects e (sbsd_part p x).1) (
        program_there x e (later_tab 2 7 tab (omega arith)) i j,
        (
          ap (λ (l : List (QName × Class)). not (has_object e.cls l)) (all_classes (later_tab 1 7 tab (omega arith))) ∙ ap not (is_named e.cls s.objects.classes ∙ sound.orders.routed.classes x.0 x.1 e (named_in s.objects.sbsds x sound.objects.tables.sbsds.sorted i) j),
          (
            next_new (λ (d : RouteEntry). d.seq) nat_cmp nat_cmp_total nat_eq eqb-true (λ d. p (route_entry_row x.0 d)) x.1.routes e (sound.orders.routed.sorted x.0 x.1 (named_in s.objects.sbsds x sound.objects.tables.sbsds.sorted i)) j (ap p same ∙ h.before),
            (
              none_passes (λ (d : RouteEntry). is_any_before e d || is_any_before d e) (filter (λ d. p (route_entry_row x.0 d)) x.1.routes) (λ d m. last_by x e d i j m),
              (few 999 (λ d. p (route_entry_row x.0 d)) x.1.routes e j (ap p same ∙ h.before) (description s sound range x i).sizes.routes, tt),
            ),
          ),
        ),
      ))))
      ((range.objects.entries x i).routes e j)
      (ap (λ (r : Row). Some r) same)
      (objects_step s row p q h offset (omega arith)
      (classes_same s row p q h (far 1 tab refl))
      (programs_same s row p q h (far 2 tab refl))
      (queues_same s row p q h (far 3 tab refl))
      (jobds_same s row p q h (far 4 tab refl))
      (changed_part (later_tab 5 7 tab (omega arith)) (far 5 tab refl) x (with_route e) i (route_change x e i j same)))

  auto_more : (x : QName × Sbsd) (e : AutoEntry) → IsIn x s.objects.sbsds → IsIn e x.1.autos → auto_entry_row x.0 e ≡ row → IsOneMore (λ (d : AutoEntry). d.job) (slice_cmp nat_cmp) nat_list_cmp_total (λ d. p (auto_entry_row x.0 d)) (λ d. q (auto_entry_row x.0 d)) x.1.autos e
  auto_more x e i j same = record {
    before = ap p same ∙ h.before;
    after = ap q same ∙ h.after;
    others = λ d k n. h.others (auto_entry_row x.0 d) (in_rows s (auto_entry_row x.0 d) (of_auto_entry x d i k refl)) (λ f. n (one_auto_entry s sound range x x d e i i (f ∙ ap place_of (sym same))).1);
  }

  auto_change : (x : QName × Sbsd) (e : AutoEntry) → IsIn x s.objects.sbsds → IsIn e x.1.autos → auto_entry_row x.0 e ≡ row → IsChange x (with_auto e)
  auto_change x e i j same =
      let tab : 8 ≡ row.tab = ap (λ (r : Row). r.tab) same in
      record {
        this =
            same_entries x.0 x.1.maxjobs
            (sym (queue_entries_same s row p q h (far 6 tab refl) x i))
            (sym (route_entries_same s row p q h (far 7 tab refl) x i))
            (next_added (λ (d : AutoEntry). d.job) (slice_cmp nat_cmp) nat_list_cmp_total (λ d. p (auto_entry_row x.0 d)) (λ d. q (auto_entry_row x.0 d)) x.1.autos e (description s sound range x i).autos.sorted j (auto_more x e i j same))
            (sym (pre_entries_same s row p q h (far 9 tab refl) x i));
        other = λ y m n.
            same_entries y.0 y.1.maxjobs
            (queue_entries_same s row p q h (far 6 tab refl) y m)
            (route_entries_same s row p q h (far 7 tab refl) y m)
            (left_same (λ d. p (auto_entry_row y.0 d)) (λ d. q (auto_entry_row y.0 d)) y.1.autos (λ d k. h.others (auto_entry_row y.0 d) (in_rows s (auto_entry_row y.0 d) (of_auto_entry y d m k refl)) (λ f. n (one_auto_entry s sound range y x d e m i (f ∙ ap place_of (sym same))).0)))
            (pre_entries_same s row p q h (far 9 tab refl) y m);
      }

  pub auto_made : (x : QName × Sbsd) (e : AutoEntry) → IsIn x s.objects.sbsds → IsIn e x.1.autos → auto_entry_row x.0 e ≡ row → Makes (state_part p offset s) row (state_part q offset s)
  auto_made x e i j same =
      let tab : 8 ≡ row.tab = ap (λ (r : Row). r.tab) same in
      let u = state_part p offset s in
      command_makes u (state_part q offset s) (command.Addaje (addaje_of x.0 e)) row _ _ refl
      (never_in_use u x.0 _ refl (described_free u.objects x.0 (λ d. first_refusal (auto_tests u.objects e d)) (sbsd_part p x).1 (named_part (later_tab 5 8 tab (omega arith)) x i) (none_refuses (auto_tests u.objects e (sbsd_part p x).1) (
        ap (λ (l : List (QName × Jobd)). not (has_object e.jobd l)) (all_jobds (later_tab 4 8 tab (omega arith))) ∙ ap not (is_named e.jobd s.objects.jobds ∙ (description s sound range x i).autos.jobds e j),
        (
          next_new (λ (d : AutoEntry). d.job) (slice_cmp nat_cmp) nat_list_cmp_total (pointwise nat_eq) sure_text (λ d. p (auto_entry_row x.0 d)) x.1.autos e (description s sound range x i).autos.sorted j (ap p same ∙ h.before),
          (few 100 (λ d. p (auto_entry_row x.0 d)) x.1.autos e j (ap p same ∙ h.before) (description s sound range x i).sizes.autos, tt),
        ),
      ))))
      ((range.objects.entries x i).autos e j)
      (ap (λ (r : Row). Some r) same)
      (objects_step s row p q h offset (omega arith)
      (classes_same s row p q h (far 1 tab refl))
      (programs_same s row p q h (far 2 tab refl))
      (queues_same s row p q h (far 3 tab refl))
      (jobds_same s row p q h (far 4 tab refl))
      (changed_part (later_tab 5 8 tab (omega arith)) (far 5 tab refl) x (with_auto e) i (auto_change x e i j same)))

  pre_more : (x : QName × Sbsd) (e : PreEntry) → IsIn x s.objects.sbsds → IsIn e x.1.pres → pre_entry_row x.0 e ≡ row → IsOneMore (λ (d : PreEntry). d.pgm) qname_cmp qname_total (λ d. p (pre_entry_row x.0 d)) (λ d. q (pre_entry_row x.0 d)) x.1.pres e
  pre_more x e i j same = record {
    before = ap p same ∙ h.before;
    after = ap q same ∙ h.after;
    others = λ d k n. h.others (pre_entry_row x.0 d) (in_rows s (pre_entry_row x.0 d) (of_pre_entry x d i k refl)) (λ f. n (one_pre_entry s sound range x x d e i i k j (f ∙ ap place_of (sym same))).1);
  }

  pre_change : (x : QName × Sbsd) (e : PreEntry) → IsIn x s.objects.sbsds → IsIn e x.1.pres → pre_entry_row x.0 e ≡ row → IsChange x (with_pre e)
  pre_change x e i j same =
      let tab : 9 ≡ row.tab = ap (λ (r : Row). r.tab) same in
      record {
        this =
            same_entries x.0 x.1.maxjobs
            (sym (queue_entries_same s row p q h (far 6 tab refl) x i))
            (sym (route_entries_same s row p q h (far 7 tab refl) x i))
            (sym (auto_entries_same s row p q h (far 8 tab refl) x i))
            (next_added (λ (d : PreEntry). d.pgm) qname_cmp qname_total (λ d. p (pre_entry_row x.0 d)) (λ d. q (pre_entry_row x.0 d)) x.1.pres e (description s sound range x i).pres.sorted j (pre_more x e i j same));
        other = λ y m n.
            same_entries y.0 y.1.maxjobs
            (queue_entries_same s row p q h (far 6 tab refl) y m)
            (route_entries_same s row p q h (far 7 tab refl) y m)
            (auto_entries_same s row p q h (far 8 tab refl) y m)
            (left_same (λ d. p (pre_entry_row y.0 d)) (λ d. q (pre_entry_row y.0 d)) y.1.pres (λ d k. h.others (pre_entry_row y.0 d) (in_rows s (pre_entry_row y.0 d) (of_pre_entry y d m k refl)) (λ f. n (one_pre_entry s sound range y x d e m i k j (f ∙ ap place_of (sym same))).0)));
      }

  -- the values of an entry go together, whatever else is tested behind
  related_then : (e : PreEntry) (full : Bool) → first_refusal (relation_tests e) ≡ None → full ≡ false → NoneHolds (relation_tests e ++ (full, TableFull kind.Pje 100) ∷ [])
  related_then e full related room =
      let inljobs : nat_lt e.inljobs e.threshold ≡ false = test_fails (relation_tests e) 0 SbsActive related in
      let maxjobs : is_above e.inljobs e.maxjobs ≡ false = test_fails (relation_tests e) 1 SbsActive related in
      let adljobs : not (is_below e.adljobs e.maxjobs) ≡ false = test_fails (relation_tests e) 2 SbsActive related in
      (inljobs, (maxjobs, (adljobs, (room, tt))))

  pub pre_made : (x : QName × Sbsd) (e : PreEntry) → IsIn x s.objects.sbsds → IsIn e x.1.pres → pre_entry_row x.0 e ≡ row → Makes (state_part p offset s) row (state_part q offset s)
  pre_made x e i j same =
      let tab : 9 ≡ row.tab = ap (λ (r : Row). r.tab) same in
      let u = state_part p offset s in
      let entries = (description s sound range x i).pres in
      command_makes u (state_part q offset s) (command.Addpje (addpje_of x.0 e)) row _ _ refl
      (never_in_use u x.0 _ refl (described_free u.objects x.0 (λ d. first_refusal (pre_tests u.objects e d)) (sbsd_part p x).1 (named_part (later_tab 5 9 tab (omega arith)) x i) (none_refuses (pre_tests u.objects e (sbsd_part p x).1) (
        ap (λ (l : List (QName × Program)). not (has_object e.pgm l)) (all_programs (later_tab 2 9 tab (omega arith))) ∙ ap not (is_named e.pgm s.objects.programs ∙ entries.programs e j),
        (
          ap (λ (l : List (QName × Class)). not (has_object e.cls l)) (all_classes (later_tab 1 9 tab (omega arith))) ∙ ap not (is_named e.cls s.objects.classes ∙ entries.classes e j),
          (
            next_new (λ (d : PreEntry). d.pgm) qname_cmp qname_total same_qname one_name (λ d. p (pre_entry_row x.0 d)) x.1.pres e entries.sorted j (ap p same ∙ h.before),
            related_then e (is_full 100 (sbsd_part p x).1.pres) (entries.related e j) (few 100 (λ d. p (pre_entry_row x.0 d)) x.1.pres e j (ap p same ∙ h.before) (description s sound range x i).sizes.pres),
          ),
        ),
      ))))
      ((range.objects.entries x i).pres e j)
      (ap (λ (r : Row). Some r) same)
      (objects_step s row p q h offset (omega arith)
      (classes_same s row p q h (far 1 tab refl))
      (programs_same s row p q h (far 2 tab refl))
      (queues_same s row p q h (far 3 tab refl))
      (jobds_same s row p q h (far 4 tab refl))
      (changed_part (later_tab 5 9 tab (omega arith)) (far 5 tab refl) x (with_pre e) i (pre_change x e i j same)))
