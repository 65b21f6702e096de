-- The row that a command makes which makes an object or an entry.
use Rattle.std.proofs.Common.{◌≡◌, ◌⊎◌, ℕ, List, Option, Some, None, refl, subst, inl, inr}
use Rattle.std.specs.Cmp.Lexicographic.{slice_cmp}
use Rattle.std.specs.Ordering.{nat_cmp}
use Rattle.wm_base.specs.declared.qname.QName.{QName}
use Rattle.wm_base.specs.declared.refusal.Refusal.{Refusal}
use Rattle.wm_base.proofs.Tests.{Some-injective}
use Rattle.wm_desc.specs.declared.description.Sbsd.{Sbsd}
use Rattle.wm_desc.specs.declared.entry.AutoEntry.{AutoEntry}
use Rattle.wm_desc.specs.declared.entry.PreEntry.{PreEntry}
use Rattle.wm_desc.specs.declared.entry.QueueEntry.{QueueEntry}
use Rattle.wm_desc.specs.declared.entry.RouteEntry.{RouteEntry}
use Rattle.wm_desc.specs.declared.objects.Objects.{Objects}
use Rattle.wm_desc.specs.Objects.{with_auto, with_description, with_pre, with_queue, with_route}
use Rattle.wm_desc.specs.Refusals.{auto_tests, first_refusal, pre_tests, queue_tests, route_tests}
use Rattle.wm_desc.specs.Sorted.{place_of}
use Rattle.wm_desc.specs.Table.{name_of, object_named, qname_cmp}
use Rattle.wm_traits.specs.declared.row.Row.{Row}
use Rattle.wm_law.specs.Machine.{change}
use Rattle.wm_law.specs.Making.{auto_entry_of, class_of, jobd_of, made_unless, pre_entry_of, queue_entry_of, route_entry_of}
use Rattle.wm_law.specs.Objects.{AreSound}
use Rattle.wm_law.specs.Stepped.{Stepped, refused}
use Rattle.wm_law.specs.declared.call.Reply.TheVariants.{Made}
use Rattle.wm_law.specs.declared.command.Command.{Command}
use Rattle.wm_law.specs.declared.command.Command.TheVariants as command
use Rattle.wm_law.specs.declared.state.State.{State}
use Rattle.wm_rows.specs.Rows.{class_row, program_row, queue_row, jobd_row, queue_entry_row, route_entry_row, auto_entry_row, pre_entry_row, command_row}
use Rattle.wm_rows.specs.Tables.{object_rows}
use Rattle.wm_tables.proofs.Descriptions.{autos_change, class_more, jobd_more, pres_change, program_more, queue_more, queues_change, routes_change, sbsd_more}
use Rattle.wm_tables.proofs.Left.{described, named_there}
use Rattle.wm_tables.proofs.OneMoreRow.{IsMore, more_mapped, more_within}

-- the objects have this row more, or the command is refused
abbrev pub IsRowMade : State → Row → Stepped → Type 0
IsRowMade s row t = ((o : Objects) × (t ≡ record { reply = Made; state = record s { objects = o } }) × IsMore row (object_rows s.objects) (object_rows o)) ⊎ ((x : Refusal) × (t ≡ refused s x))

unless : (s : State) (o : Objects) (row : Row) (r : Option Refusal) → (r ≡ None → IsMore row (object_rows s.objects) (object_rows o)) → IsRowMade s row (made_unless s o r)
unless s o row None h = inl (o, refl, h refl)
unless s o row (Some x) h = inr (x, refl)

-- the same of a row that is written otherwise
as_row : (a b : Row) (xs ys : List Row) → Some a ≡ Some b → IsMore a xs ys → IsMore b xs ys
as_row a b xs ys e m = subst (λ (r : Row). IsMore r xs ys) (Some-injective a b e) m

module _ (s : State) (sound : AreSound s.objects) where
  -- an entry more
  queue_in : (sbsd : QName) (entry : QueueEntry) (d : Sbsd) → object_named sbsd s.objects.sbsds ≡ Some d → IsMore (queue_entry_row sbsd entry) (object_rows s.objects) (object_rows (with_description sbsd (with_queue entry) s.objects))
  queue_in sbsd entry d e =
      let row = queue_entry_row sbsd entry in
      queues_change (IsMore row) (more_within row) sbsd (with_queue entry) s.objects d sound.tables.sbsds.sorted (named_there sbsd s.objects.sbsds d e) (λ x. refl) (λ x. refl) (λ x. refl) (λ x. refl)
      (more_mapped (queue_entry_row sbsd) d.queues (place_of (λ (n : QueueEntry). n.seq) nat_cmp entry.seq d.queues) entry)

  route_in : (sbsd : QName) (entry : RouteEntry) (d : Sbsd) → object_named sbsd s.objects.sbsds ≡ Some d → IsMore (route_entry_row sbsd entry) (object_rows s.objects) (object_rows (with_description sbsd (with_route entry) s.objects))
  route_in sbsd entry d e =
      let row = route_entry_row sbsd entry in
      routes_change (IsMore row) (more_within row) sbsd (with_route entry) s.objects d sound.tables.sbsds.sorted (named_there sbsd s.objects.sbsds d e) (λ x. refl) (λ x. refl) (λ x. refl) (λ x. refl)
      (more_mapped (route_entry_row sbsd) d.routes (place_of (λ (n : RouteEntry). n.seq) nat_cmp entry.seq d.routes) entry)

  auto_in : (sbsd : QName) (entry : AutoEntry) (d : Sbsd) → object_named sbsd s.objects.sbsds ≡ Some d → IsMore (auto_entry_row sbsd entry) (object_rows s.objects) (object_rows (with_description sbsd (with_auto entry) s.objects))
  auto_in sbsd entry d e =
      let row = auto_entry_row sbsd entry in
      autos_change (IsMore row) (more_within row) sbsd (with_auto entry) s.objects d sound.tables.sbsds.sorted (named_there sbsd s.objects.sbsds d e) (λ x. refl) (λ x. refl) (λ x. refl) (λ x. refl)
      (more_mapped (auto_entry_row sbsd) d.autos (place_of (λ (n : AutoEntry). n.job) (slice_cmp nat_cmp) entry.job d.autos) entry)

  pre_in : (sbsd : QName) (entry : PreEntry) (d : Sbsd) → object_named sbsd s.objects.sbsds ≡ Some d → IsMore (pre_entry_row sbsd entry) (object_rows s.objects) (object_rows (with_description sbsd (with_pre entry) s.objects))
  pre_in sbsd entry d e =
      let row = pre_entry_row sbsd entry in
      pres_change (IsMore row) (more_within row) sbsd (with_pre entry) s.objects d sound.tables.sbsds.sorted (named_there sbsd s.objects.sbsds d e) (λ x. refl) (λ x. refl) (λ x. refl) (λ x. refl)
      (more_mapped (pre_entry_row sbsd) d.pres (place_of (λ (n : PreEntry). n.pgm) qname_cmp entry.pgm d.pres) entry)

  pub row_made : (user : List ℕ) (c : Command) (row : Row) → command_row c ≡ Some row → IsRowMade s row (change s user c)
  row_made user (command.Crtcls c) row e = unless s _ row _ (λ n. as_row _ row _ _ e (class_more s.objects (class_row (c.cls, class_of c)) _ (more_mapped class_row s.objects.classes (place_of name_of qname_cmp c.cls s.objects.classes) (c.cls, class_of c))))
  row_made user (command.Crtpgmref c) row e = unless s _ row _ (λ n. as_row _ row _ _ e (program_more s.objects (program_row (c.pgm, record { path = c.path })) _ (more_mapped program_row s.objects.programs (place_of name_of qname_cmp c.pgm s.objects.programs) (c.pgm, record { path = c.path }))))
  row_made user (command.Crtjobq c) row e = unless s _ row _ (λ n. as_row _ row _ _ e (queue_more s.objects (queue_row (c.jobq, record {})) _ (more_mapped queue_row s.objects.jobqs (place_of name_of qname_cmp c.jobq s.objects.jobqs) (c.jobq, record {}))))
  row_made user (command.Crtjobd c) row e = unless s _ row _ (λ n. as_row _ row _ _ e (jobd_more s.objects (jobd_row (c.jobd, jobd_of c)) _ (more_mapped jobd_row s.objects.jobds (place_of name_of qname_cmp c.jobd s.objects.jobds) (c.jobd, jobd_of c))))
  row_made user (command.Crtsbsd c) row e = unless s _ row _ (λ n. as_row _ row _ _ e (sbsd_more s.objects (place_of name_of qname_cmp c.sbsd s.objects.sbsds) c.sbsd c.maxjobs))
  row_made user (command.Addjobqe c) row e = unless s _ row _ (λ n. (let m = described s c.sbsd (λ d. first_refusal (queue_tests s.objects (queue_entry_of c) d)) n in as_row _ row _ _ e (queue_in c.sbsd (queue_entry_of c) m.description m.named)))
  row_made user (command.Addrtge c) row e = unless s _ row _ (λ n. (let m = described s c.sbsd (λ d. first_refusal (route_tests s.objects (route_entry_of c) d)) n in as_row _ row _ _ e (route_in c.sbsd (route_entry_of c) m.description m.named)))
  row_made user (command.Addaje c) row e = unless s _ row _ (λ n. (let m = described s c.sbsd (λ d. first_refusal (auto_tests s.objects (auto_entry_of c) d)) n in as_row _ row _ _ e (auto_in c.sbsd (auto_entry_of c) m.description m.named)))
  row_made user (command.Addpje c) row e = unless s _ row _ (λ n. (let m = described s c.sbsd (λ d. first_refusal (pre_tests s.objects (pre_entry_of c) d)) n in as_row _ row _ _ e (pre_in c.sbsd (pre_entry_of c) m.description m.named)))
  row_made user c row e = absurd (cc)
