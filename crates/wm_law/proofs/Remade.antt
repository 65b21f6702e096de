-- A change of objects leaves each Starting job its order.
use Rattle.std.proofs.Common.{◌≡◌, ℕ, true, List, Option, Some, None, refl, sym, ap, subst, ◌∙◌, [], false, Bool}
use Rattle.std.specs.Option.{IsSome, option_and_then}
use Rattle.wm_base.specs.declared.job.Class.{Class}
use Rattle.wm_base.specs.declared.job.How.{How}
use Rattle.wm_base.specs.declared.job.How.TheVariants.{NotYet, FromQueue, Auto, Pre}
use Rattle.wm_base.specs.declared.qname.QName.{QName}
use Rattle.wm_desc.specs.declared.description.Program.{Program}
use Rattle.wm_desc.specs.declared.description.Sbsd.{Sbsd}
use Rattle.wm_desc.specs.declared.entry.RouteEntry.{RouteEntry}
use Rattle.wm_desc.specs.declared.objects.Objects.{Objects}
use Rattle.wm_desc.specs.Table.{object_named}
use Rattle.wm_desc.proofs.Tables.{one_name}
use Rattle.wm_law.specs.declared.job.Job.{Job}
use Rattle.wm_law.specs.declared.state.Sbs.{Sbs}
use Rattle.wm_law.specs.declared.state.State.{State}
use Rattle.wm_law.specs.Counts.{is_in_sbs}
use Rattle.wm_law.specs.Kept.{IsLodged}
use Rattle.wm_law.specs.Launch.{called_args, called_program, entry_numbered, order_by, order_called, order_of, order_through, order_with, route_entry, order_pre, pre_entry, pre_entry_for}
use Rattle.wm_law.specs.Laws.{IsIn}
use Rattle.wm_law.proofs.Objects.{IsObjectChange}
use Rattle.wm_desc.specs.declared.entry.PreEntry.{PreEntry}

same_order : (pre : Bool) (j : Job) (args : List (List ℕ)) (p q : Option Program) (c d : Option Class) → IsSome (order_with pre j args p c) → (IsSome p → q ≡ p) → (IsSome c → d ≡ c) → order_with pre j args q d ≡ order_with pre j args p c
same_order pre j args None q c d h e f = absurd (cc)
same_order pre j args (Some p) q None d h e f = absurd (cc)
same_order pre j args (Some p) q (Some c) d h e f = ap (λ (o : Option Program). order_with pre j args o d) (e refl) ∙ ap (order_with pre j args (Some p)) (f refl)

module _ (s : State) (o : Objects) (change : IsObjectChange s o) (j : Job) where
  abbrev made : State
  made = record s { objects = o }

  by_called : (e : RouteEntry) (pgm : Option QName) → IsSome (order_called s j e pgm) → order_called made j e pgm ≡ order_called s j e pgm
  by_called e None h = absurd (cc)
  by_called e (Some pgm) h = same_order false j (called_args e j.rqsdta) _ _ _ _ h (change.programs pgm) (change.classes e.cls)

  by_entry : (e : Option RouteEntry) → IsSome (order_through s j e) → order_through made j e ≡ order_through s j e
  by_entry None h = absurd (cc)
  by_entry (Some e) h = by_called e (called_program e j.rqsdta) h

  is_there : (seq : ℕ) (d : Option Sbsd) → IsSome (order_through s j (option_and_then (entry_numbered seq) d)) → IsSome d
  is_there seq None h = absurd (cc)
  is_there seq (Some d) h = refl

  -- through the routing entry of a started subsystem
  by_number : (sbs : QName) (seq : ℕ) (b : Sbs) → IsIn b s.started → sbs ≡ b.sbsd → IsSome (order_through s j (route_entry s sbs seq)) → order_through made j (route_entry made sbs seq) ≡ order_through s j (route_entry s sbs seq)
  by_number sbs seq b i e h =
      let there = is_there seq (object_named sbs s.objects.sbsds) h in
      let same : object_named sbs o.sbsds ≡ object_named sbs s.objects.sbsds = subst (λ (q : QName). IsSome (object_named q s.objects.sbsds) → object_named q o.sbsds ≡ object_named q s.objects.sbsds) (sym e) (change.described b i) there in
      ap (λ (d : Option Sbsd). order_through made j (option_and_then (entry_numbered seq) d)) same
      ∙ by_entry (route_entry s sbs seq) h

  by_pre : (e : Option PreEntry) → IsSome (order_pre s j e) → order_pre made j e ≡ order_pre s j e
  by_pre None h = absurd (cc)
  by_pre (Some e) h = same_order true j [] _ _ _ _ h (change.programs e.pgm) (change.classes e.cls)

  pre_there : (pgm : QName) (d : Option Sbsd) → IsSome (order_pre s j (option_and_then (pre_entry_for pgm) d)) → IsSome d
  pre_there pgm None h = absurd (cc)
  pre_there pgm (Some d) h = refl

  -- through the prestart entry of a started subsystem
  by_entry_for : (sbs pgm : QName) (b : Sbs) → IsIn b s.started → sbs ≡ b.sbsd → IsSome (order_pre s j (pre_entry s sbs pgm)) → order_pre made j (pre_entry made sbs pgm) ≡ order_pre s j (pre_entry s sbs pgm)
  by_entry_for sbs pgm b i e h =
      let there = pre_there pgm (object_named sbs s.objects.sbsds) h in
      let same : object_named sbs o.sbsds ≡ object_named sbs s.objects.sbsds = subst (λ (q : QName). IsSome (object_named q s.objects.sbsds) → object_named q o.sbsds ≡ object_named q s.objects.sbsds) (sym e) (change.described b i) there in
      ap (λ (d : Option Sbsd). order_pre made j (option_and_then (pre_entry_for pgm) d)) same
      ∙ by_pre (pre_entry s sbs pgm) h

  by_how : (how : How) (b : Sbs) → IsIn b s.started → is_in_sbs b.sbsd how ≡ true → IsSome (order_by s j how) → order_by made j how ≡ order_by s j how
  by_how NotYet b i e h = absurd (cc)
  by_how (FromQueue sbs jobq pty seq) b i e h = by_number sbs seq b i (one_name sbs b.sbsd e) h
  by_how (Auto sbs seq) b i e h = by_number sbs seq b i (one_name sbs b.sbsd e) h
  by_how (Pre sbs pgm) b i e h = by_entry_for sbs pgm b i (one_name sbs b.sbsd e) h

  pub order_kept : IsLodged s.started j → IsSome (order_of s j) → order_of made j ≡ order_of s j
  order_kept lodged h = by_how j.how lodged.0 lodged.1 lodged.2 h
