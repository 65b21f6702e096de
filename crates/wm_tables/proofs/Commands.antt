-- What a call changes of the rows of objects, entries and held queues.
use Rattle.std.proofs.Common.{◌≡◌, ℕ, ◌<◌, ◌≤◌, ◌++◌, not, Bool, true, false, cond, List, [], ◌∷◌, Option, Some, None, is_some, map, refl, sym, ap, subst, ◌∙◌, inl, inr, arith}
use Rattle.std.specs.List.{flat_map}
use Rattle.std.specs.Option.{option_map, option_to_list}
use Rattle.std.proofs.lemmas.Bool.{not-false}
use Rattle.wm_base.specs.QName.{qname_text}
use Rattle.wm_base.specs.declared.qname.QName.{QName}
use Rattle.wm_base.specs.declared.refusal.Kind.TheVariants as kind
use Rattle.wm_base.specs.declared.refusal.Refusal.{Refusal}
use Rattle.wm_base.specs.declared.refusal.Refusal.TheVariants.{NoObject, SbsActive}
use Rattle.wm_desc.specs.declared.description.Sbsd.{Sbsd}
use Rattle.wm_desc.specs.declared.entry.QueueEntry.{QueueEntry}
use Rattle.wm_desc.specs.declared.objects.Objects.{Objects}
use Rattle.wm_desc.specs.Objects.{with_description, without_auto, without_pre, without_queue, without_route}
use Rattle.wm_desc.specs.Refusals.{first_refusal, has_auto, has_pre, has_queue, remove_auto_refusal, remove_pre_refusal, remove_queue_refusal, remove_route_refusal, seq_used}
use Rattle.wm_desc.specs.Sorted.{place_of}
use Rattle.wm_desc.specs.Table.{object_named, qname_cmp, same_qname}
use Rattle.wm_desc.proofs.Tables.{test_fails}
use Rattle.wm_traits.specs.declared.row.Row.{Row}
use Rattle.wm_traits.specs.declared.row.RowChange.{RowChange}
use Rattle.wm_traits.specs.declared.row.RowChange.TheVariants.{Put, Del}
use Rattle.wm_law.specs.Choice.{entry_for, is_held}
use Rattle.wm_law.specs.Machine.{apply, change}
use Rattle.wm_law.specs.Making.{made_unless, unless_in_use}
use Rattle.wm_law.specs.Queues.{hold_queue, own_name, release_queue, with_held_queue, without_held_queue}
use Rattle.wm_law.specs.Sound.{IsSound}
use Rattle.wm_law.specs.Stepped.{Stepped}
use Rattle.wm_law.specs.declared.call.Call.{Call}
use Rattle.wm_law.specs.declared.call.Call.TheVariants.{Change}
use Rattle.wm_law.specs.declared.command.Command.{Command}
use Rattle.wm_law.specs.declared.command.Command.TheVariants as command
use Rattle.wm_law.specs.declared.state.State.{State}
use Rattle.wm_law.proofs.Aside.{IsAside, call_is_aside}
use Rattle.wm_rows.specs.Rows.{class_row, program_row, queue_row, jobd_row, sbsd_row, queue_entry_row, route_entry_row, auto_entry_row, pre_entry_row, command_row, held_row}
use Rattle.wm_rows.specs.Places.{numbered_place, entry_place}
use Rattle.wm_rows.specs.Tables.{queue_entry_rows, route_entry_rows, auto_entry_rows, pre_entry_rows, held_rows, object_rows}
use Rattle.wm_tables.proofs.Made.{tab_before}
use Rattle.wm_tables.proofs.MadeRows.{IsRowMade, row_made}
use Rattle.wm_tables.proofs.OwnPlaces.{HasTab, HasTabsTo, tab_flat, tab_mapped}
use Rattle.wm_tables.proofs.Passing.{of_parts}
use Rattle.wm_tables.proofs.RowOrder.{HasOwnPlaces}
use Rattle.wm_tables.specs.Changes.{call_change, command_change, deletion, is_accepted, number_in, number_of, removed_number}
use Rattle.wm_tables.proofs.Descriptions.{autos_change, pres_change, queues_change, routes_change}
use Rattle.wm_tables.proofs.Differs.{AreApart, Differs, both_differ, same_rows}
use Rattle.wm_tables.proofs.Left.{auto_less, described, held_less, named_there, pre_less, queue_less, route_less, any_found}
use Rattle.wm_tables.proofs.OneMoreRow.{IsLess, less_differs, less_within, more_differs, more_mapped}

-- Objects and held queues stand apart

to_nine : (xs ys : List Row) → HasTabsTo 9 xs → HasTabsTo 9 ys → HasTabsTo 9 (xs ++ ys)
to_nine xs ys h g r i = elim (of_parts xs ys r i) as (λ _. r.tab ≤ 9) [ inl k ↦ h r k | inr k ↦ g r k ]

of_tab : (n : ℕ) (rows : List Row) → n ≤ 9 → HasTab n rows → HasTabsTo 9 rows
of_tab n rows most h r i = let at : r.tab ≡ n = h r i in omega arith

pub objects_to_nine : (o : Objects) → HasTabsTo 9 (object_rows o)
objects_to_nine o =
    let entries = λ (n : ℕ) (f : QName × Sbsd → List Row) (most : n ≤ 9) (h : (x : QName × Sbsd) → HasTab n (f x)). of_tab n (flat_map f o.sbsds) most (tab_flat n f o.sbsds h) in
    to_nine _ _
    (to_nine _ _
    (to_nine _ _
    (to_nine _ _ (of_tab 1 (map class_row o.classes) (omega arith) (tab_mapped 1 class_row o.classes (λ x. refl))) (of_tab 2 (map program_row o.programs) (omega arith) (tab_mapped 2 program_row o.programs (λ x. refl))))
    (of_tab 3 (map queue_row o.jobqs) (omega arith) (tab_mapped 3 queue_row o.jobqs (λ x. refl))))
    (of_tab 4 (map jobd_row o.jobds) (omega arith) (tab_mapped 4 jobd_row o.jobds (λ x. refl))))
    (to_nine _ _
    (to_nine _ _
    (to_nine _ _
    (to_nine _ _ (of_tab 5 (map sbsd_row o.sbsds) (omega arith) (tab_mapped 5 sbsd_row o.sbsds (λ x. refl))) (entries 6 queue_entry_rows (omega arith) (λ x. tab_mapped 6 (queue_entry_row x.0) x.1.queues (λ e. refl))))
    (entries 7 route_entry_rows (omega arith) (λ x. tab_mapped 7 (route_entry_row x.0) x.1.routes (λ e. refl))))
    (entries 8 auto_entry_rows (omega arith) (λ x. tab_mapped 8 (auto_entry_row x.0) x.1.autos (λ e. refl))))
    (entries 9 pre_entry_rows (omega arith) (λ x. tab_mapped 9 (pre_entry_row x.0) x.1.pres (λ e. refl))))

-- rows up to a table stand apart from those of a later one
pub apart_tabs : (n m : ℕ) (xs ys us vs : List Row) → n < m → HasTabsTo n xs → HasTabsTo n ys → HasTab m us → HasTab m vs → AreApart xs ys us vs
apart_tabs n m xs ys us vs less f g h k = record {
  olds = λ a b i j. (let low : a.tab ≤ n = f a i in let high : b.tab ≡ m = h b j in tab_before a b (omega arith));
  old_new = λ a b i j. (let low : a.tab ≤ n = f a i in let high : b.tab ≡ m = k b j in tab_before a b (omega arith));
  new_old = λ a b i j. (let low : a.tab ≤ n = g a i in let high : b.tab ≡ m = h b j in tab_before a b (omega arith));
  news = λ a b i j. (let low : a.tab ≤ n = g a i in let high : b.tab ≡ m = k b j in tab_before a b (omega arith));
}

pub held_tab : (held : List QName) → HasTab 10 (held_rows held)
held_tab held = tab_mapped 10 held_row held (λ x. refl)

pub none_more : (cs : List RowChange) → cs ++ [] ≡ cs
none_more [] = refl
none_more (c ∷ cs) = ap (λ (l : List RowChange). c ∷ l) (none_more cs)

-- the rows of objects and of held queues
abbrev pub own_part : State → List Row
own_part s = object_rows s.objects ++ held_rows s.held

-- no two of the rows have one place
pub record HasOwn (t : State) : Type 0 where
  pub objects : HasOwnPlaces (object_rows t.objects)
  pub held : HasOwnPlaces (held_rows t.held)

-- what an answer leaves or changes
module _ (s : State) where
  abbrev pub Answers : Option RowChange → Stepped → Type 0
  Answers change t = HasOwn t.state → Differs (own_part s) (own_part t.state) (option_to_list (cond (is_accepted t.reply) change None))

  apart : (t : State) → AreApart (object_rows s.objects) (object_rows t.objects) (held_rows s.held) (held_rows t.held)
  apart t = apart_tabs 9 10 (object_rows s.objects) (object_rows t.objects) (held_rows s.held) (held_rows t.held) (omega arith) (objects_to_nine s.objects) (objects_to_nine t.objects) (held_tab s.held) (held_tab t.held)

  objects_differ : (t : State) (cs : List RowChange) → t.held ≡ s.held → Differs (object_rows s.objects) (object_rows t.objects) cs → Differs (own_part s) (own_part t) cs
  objects_differ t cs e d =
      subst (λ (l : List RowChange). Differs (own_part s) (own_part t) l) (none_more cs)
      (both_differ (object_rows s.objects) (object_rows t.objects) (held_rows s.held) (held_rows t.held) cs [] (apart t) d (same_rows (held_rows s.held) (held_rows t.held) (ap held_rows e)))

  held_differ : (t : State) (cs : List RowChange) → t.objects ≡ s.objects → Differs (held_rows s.held) (held_rows t.held) cs → Differs (own_part s) (own_part t) cs
  held_differ t cs e d = both_differ (object_rows s.objects) (object_rows t.objects) (held_rows s.held) (held_rows t.held) [] cs (apart t) (same_rows (object_rows s.objects) (object_rows t.objects) (ap object_rows e)) d

  none_differ : (t : State) → IsAside s t → Differs (own_part s) (own_part t) []
  none_differ t l = objects_differ t [] l.held (same_rows (object_rows s.objects) (object_rows t.objects) (ap object_rows l.objects))

  none_either : (b : Bool) (t : State) → IsAside s t → Differs (own_part s) (own_part t) (option_to_list (cond b None None))
  none_either true t l = none_differ t l
  none_either false t l = none_differ t l

  itself : IsAside s s
  itself = record { objects = refl; held = refl; offset = refl }

  -- a command that makes none
  leaves_answers : (t : Stepped) → IsAside s t.state → Answers None t
  leaves_answers t l own = none_either (is_accepted t.reply) t.state l

  -- one that isn't refused only where this is so
  made_answers : (o : Objects) (r : Option Refusal) (c : Option RowChange) → (r ≡ None → HasOwnPlaces (object_rows o) → Differs (object_rows s.objects) (object_rows o) (option_to_list c)) → Answers c (made_unless s o r)
  made_answers o None c h own = objects_differ (made_unless s o None).state (option_to_list c) refl (h refl own.objects)
  made_answers o (Some x) c h own = none_differ (made_unless s o (Some x)).state itself

  either : (P : Stepped → Type 0) (b : Bool) (t u : Stepped) → (b ≡ true → P t) → (b ≡ false → P u) → P (cond b t u)
  either P true t u f g = f refl
  either P false t u f g = g refl

  -- Commands that make or take out

  module _ (sound : IsSound s) (own : HasOwn s) where
    hold_answers : (q : QName) → Answers (Some (Put (held_row q))) (hold_queue s q)
    hold_answers q =
        let P = Answers (Some (Put (held_row q))) in
        either P (is_some (object_named q s.objects.jobqs)) _ _
        (λ e. either P (is_held s q) _ _ (λ f now. none_differ s itself)
        (λ f now. held_differ (with_held_queue s q) (Put (held_row q) ∷ []) refl (more_differs (held_row q) _ _ (more_mapped held_row s.held (place_of own_name qname_cmp q s.held) q) now.held)))
        (λ e now. none_differ s itself)

    release_answers : (q : QName) → Answers (Some (Del 10 (held_row q).key)) (release_queue s q)
    release_answers q =
        let P = Answers (Some (Del 10 (held_row q).key)) in
        either P (is_some (object_named q s.objects.jobqs)) _ _
        (λ e. either P (is_held s q) _ _
        (λ f now. held_differ (without_held_queue s q) (Del 10 (held_row q).key ∷ []) refl (less_differs (held_row q) _ _ (held_less q s.held sound.held.sorted f) own.held))
        (λ f now. none_differ s itself))
        (λ e now. none_differ s itself)

    -- an entry less
    number_is : (sbsd jobq : QName) (d : Sbsd) (e : QueueEntry) → object_named sbsd s.objects.sbsds ≡ Some d → entry_for jobq d ≡ Some e → number_in jobq (object_named sbsd s.objects.sbsds) ≡ Some e.seq
    number_is sbsd jobq d e named found = ap (number_in jobq) named ∙ ap (option_map (λ (n : QueueEntry). n.seq)) found

    queue_out : (sbsd jobq : QName) → unless_in_use s sbsd (remove_queue_refusal s.objects sbsd jobq) ≡ None → Differs (object_rows s.objects) (object_rows (with_description sbsd (without_queue jobq) s.objects)) (option_to_list (option_map (λ n. deletion (numbered_place 6 sbsd n)) (number_in jobq (object_named sbsd s.objects.sbsds))))
    queue_out sbsd jobq r =
        let m = described s sbsd (λ d. first_refusal ((not (has_queue jobq d.queues), NoObject kind.Jobqe) ∷ [])) r in
        let d = m.description in
        let there : has_queue jobq d.queues ≡ true = not-false _ (test_fails ((not (has_queue jobq d.queues), NoObject kind.Jobqe) ∷ []) 0 SbsActive m.accepted) in
        let f = any_found (λ (n : QueueEntry). same_qname n.jobq jobq) d.queues there in
        let is = sound.objects.described sbsd d m.named in
        let row = queue_entry_row sbsd f.item in
        let less = queues_change (IsLess row) (less_within row) sbsd (without_queue jobq) s.objects d sound.objects.tables.sbsds.sorted (named_there sbsd s.objects.sbsds d m.named) (λ x. refl) (λ x. refl) (λ x. refl) (λ x. refl) (queue_less sbsd jobq d f.item is.queues.sorted is.queues.once f.found) in
        subst (λ (n : Option ℕ). Differs (object_rows s.objects) (object_rows (with_description sbsd (without_queue jobq) s.objects)) (option_to_list (option_map (λ n. deletion (numbered_place 6 sbsd n)) n))) (sym (number_is sbsd jobq d f.item m.named f.found))
        (less_differs row _ _ less own.objects)

    route_out : (sbsd : QName) (seq : ℕ) → unless_in_use s sbsd (remove_route_refusal s.objects sbsd seq) ≡ None → Differs (object_rows s.objects) (object_rows (with_description sbsd (without_route seq) s.objects)) (deletion (numbered_place 7 sbsd seq) ∷ [])
    route_out sbsd seq r =
        let m = described s sbsd (λ d. first_refusal ((not (seq_used (λ e. e.seq) seq d.routes), NoObject kind.Rtge) ∷ [])) r in
        let d = m.description in
        let there : seq_used (λ e. e.seq) seq d.routes ≡ true = not-false _ (test_fails ((not (seq_used (λ e. e.seq) seq d.routes), NoObject kind.Rtge) ∷ []) 0 SbsActive m.accepted) in
        let l = route_less sbsd seq d (sound.orders.routed.sorted sbsd d m.named) there in
        let row = route_entry_row sbsd l.0 in
        let less = routes_change (IsLess row) (less_within row) sbsd (without_route seq) s.objects d sound.objects.tables.sbsds.sorted (named_there sbsd s.objects.sbsds d m.named) (λ x. refl) (λ x. refl) (λ x. refl) (λ x. refl) l.2 in
        subst (λ (n : ℕ). Differs (object_rows s.objects) (object_rows (with_description sbsd (without_route seq) s.objects)) (deletion (numbered_place 7 sbsd n) ∷ [])) l.1
        (less_differs row _ _ less own.objects)

    auto_out : (sbsd : QName) (job : List ℕ) → unless_in_use s sbsd (remove_auto_refusal s.objects sbsd job) ≡ None → Differs (object_rows s.objects) (object_rows (with_description sbsd (without_auto job) s.objects)) (deletion (entry_place 8 sbsd job) ∷ [])
    auto_out sbsd job r =
        let m = described s sbsd (λ d. first_refusal ((not (has_auto job d.autos), NoObject kind.Aje) ∷ [])) r in
        let d = m.description in
        let there : has_auto job d.autos ≡ true = not-false _ (test_fails ((not (has_auto job d.autos), NoObject kind.Aje) ∷ []) 0 SbsActive m.accepted) in
        let l = auto_less sbsd job d (sound.objects.described sbsd d m.named).autos.sorted there in
        let row = auto_entry_row sbsd l.0 in
        let less = autos_change (IsLess row) (less_within row) sbsd (without_auto job) s.objects d sound.objects.tables.sbsds.sorted (named_there sbsd s.objects.sbsds d m.named) (λ x. refl) (λ x. refl) (λ x. refl) (λ x. refl) l.2 in
        subst (λ (n : List ℕ). Differs (object_rows s.objects) (object_rows (with_description sbsd (without_auto job) s.objects)) (deletion (entry_place 8 sbsd n) ∷ [])) l.1
        (less_differs row _ _ less own.objects)

    pre_out : (sbsd pgm : QName) → unless_in_use s sbsd (remove_pre_refusal s.objects sbsd pgm) ≡ None → Differs (object_rows s.objects) (object_rows (with_description sbsd (without_pre pgm) s.objects)) (deletion (entry_place 9 sbsd (qname_text pgm)) ∷ [])
    pre_out sbsd pgm r =
        let m = described s sbsd (λ d. first_refusal ((not (has_pre pgm d.pres), NoObject kind.Pje) ∷ [])) r in
        let d = m.description in
        let there : has_pre pgm d.pres ≡ true = not-false _ (test_fails ((not (has_pre pgm d.pres), NoObject kind.Pje) ∷ []) 0 SbsActive m.accepted) in
        let l = pre_less sbsd pgm d (sound.objects.described sbsd d m.named).pres.sorted there in
        let row = pre_entry_row sbsd l.0 in
        let less = pres_change (IsLess row) (less_within row) sbsd (without_pre pgm) s.objects d sound.objects.tables.sbsds.sorted (named_there sbsd s.objects.sbsds d m.named) (λ x. refl) (λ x. refl) (λ x. refl) (λ x. refl) l.2 in
        subst (λ (q : QName). Differs (object_rows s.objects) (object_rows (with_description sbsd (without_pre pgm) s.objects)) (deletion (entry_place 9 sbsd (qname_text q)) ∷ [])) l.1
        (less_differs row _ _ less own.objects)

    -- a row's command
    answers_by : (t : Stepped) (row : Row) → IsRowMade s row t → Answers (Some (Put row)) t
    answers_by t row (inl m) = subst (λ (u : Stepped). Answers (Some (Put row)) u) (sym m.1) (λ now. objects_differ (record s { objects = m.0 }) (Put row ∷ []) refl (more_differs row _ _ m.2 now.objects))
    answers_by t row (inr m) = subst (λ (u : Stepped). Answers (Some (Put row)) u) (sym m.1) (λ now. none_differ s itself)

    row_answers : (user : List ℕ) (c : Command) (row : Row) → command_row c ≡ Some row → Answers (Some (Put row)) (change s user c)
    row_answers user c row e = answers_by (change s user c) row (row_made s sound.objects user c row e)

    -- each command
    command_answers : (user : List ℕ) (c : Command) → Answers (command_change (number_of s.objects c) c) (change s user c)
    command_answers user (command.Crtcls c) = row_answers user (command.Crtcls c) _ refl
    command_answers user (command.Crtpgmref c) = row_answers user (command.Crtpgmref c) _ refl
    command_answers user (command.Crtjobq c) = row_answers user (command.Crtjobq c) _ refl
    command_answers user (command.Crtjobd c) = row_answers user (command.Crtjobd c) _ refl
    command_answers user (command.Crtsbsd c) = row_answers user (command.Crtsbsd c) _ refl
    command_answers user (command.Addjobqe c) = row_answers user (command.Addjobqe c) _ refl
    command_answers user (command.Addrtge c) = row_answers user (command.Addrtge c) _ refl
    command_answers user (command.Addaje c) = row_answers user (command.Addaje c) _ refl
    command_answers user (command.Addpje c) = row_answers user (command.Addpje c) _ refl
    command_answers user (command.Rmvjobqe c) = made_answers _ _ _ (λ n now. queue_out c.sbsd c.jobq n)
    command_answers user (command.Rmvrtge c) = made_answers _ _ _ (λ n now. route_out c.sbsd c.seqnbr n)
    command_answers user (command.Rmvaje c) = made_answers _ _ _ (λ n now. auto_out c.sbsd c.job n)
    command_answers user (command.Rmvpje c) = made_answers _ _ _ (λ n now. pre_out c.sbsd c.pgm n)
    command_answers user (command.Hldjobq c) = hold_answers c.jobq
    command_answers user (command.Rlsjobq c) = release_answers c.jobq
    command_answers user c = leaves_answers (change s user c) (call_is_aside s 0 (Change user c) refl)

    -- and each call
    pub call_differs : (caller : ℕ) (call : Call) → HasOwn (apply s caller call).state → Differs (own_part s) (own_part (apply s caller call).state) (option_to_list (call_change (removed_number s.objects call) call (apply s caller call).reply))
    call_differs caller (Change user c) now = command_answers user c now
    call_differs caller call now = none_differ (apply s caller call).state (call_is_aside s caller call refl)
