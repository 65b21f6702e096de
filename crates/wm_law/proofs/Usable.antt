-- Each prestart entry lets its jobs be used, as long as each call keeps its ranges.
use Rattle.std.proofs.Common.{◌≡◌, ◌⊎◌, ℕ, ◌≤◌, ◌&&◌, nat_le, not, Bool, true, false, cond, List, Option, Some, None, is_some, refl, sym, subst, inl, inr, arith}
use Rattle.std.proofs.lemmas.Bool.{and_parts}
use Rattle.std.proofs.lemmas.Bool.Decides.{nat_tests}
use Rattle.wm_base.specs.declared.limit.Limit.{Limit}
use Rattle.wm_base.specs.declared.limit.Limit.TheVariants.{NoMax, Most}
use Rattle.wm_base.specs.declared.qname.QName.{QName}
use Rattle.wm_base.specs.declared.refusal.Kind.TheVariants as kind
use Rattle.wm_base.specs.declared.refusal.Refusal.{Refusal}
use Rattle.wm_base.specs.declared.refusal.Refusal.TheVariants.{HeldAlready, NoObject, NotHeld}
use Rattle.wm_base.specs.Limit.{is_below}
use Rattle.wm_desc.specs.declared.description.Sbsd.{Sbsd}
use Rattle.wm_desc.specs.declared.entry.PreEntry.{PreEntry}
use Rattle.wm_desc.specs.declared.objects.Objects.{Objects}
use Rattle.wm_desc.specs.Objects.{empty_sbsd, with_description, with_pre, with_sbsd, without_pre}
use Rattle.wm_desc.specs.Ranges.{limit_within, pre_in_range, within}
use Rattle.wm_desc.specs.Sorted.{added, place_of, removed}
use Rattle.wm_desc.specs.Table.{object_named, qname_cmp, same_qname}
use Rattle.wm_law.specs.declared.call.Call.{Call}
use Rattle.wm_law.specs.declared.call.Call.TheVariants.{Change}
use Rattle.wm_law.specs.declared.call.Reply.TheVariants.{QueueHeld, QueueReleased}
use Rattle.wm_law.specs.declared.command.Command.{Command}
use Rattle.wm_law.specs.declared.command.Command.TheVariants as command
use Rattle.wm_law.specs.declared.state.State.{State}
use Rattle.wm_law.specs.CallKinds.{is_configuring_call}
use Rattle.wm_law.specs.Choice.{is_held}
use Rattle.wm_law.specs.Fit.{IsCall}
use Rattle.wm_law.specs.Laws.{IsIn}
use Rattle.wm_law.specs.Machine.{apply, change}
use Rattle.wm_law.specs.Making.{made_unless, pre_entry_of}
use Rattle.wm_law.specs.Maxuse.{AreUsable}
use Rattle.wm_law.specs.Queues.{hold_queue, own_name, release_queue}
use Rattle.wm_law.specs.Stepped.{Stepped, refused}
use Rattle.wm_law.proofs.Aside.{call_is_aside}
use Rattle.wm_law.proofs.InOrder.{in_inserted}
use Rattle.wm_law.proofs.Members.{left_in}
use Rattle.wm_law.proofs.Named.{IsChangeOf, changed_before, named_before}

-- the objects of a state let prestart jobs be used
abbrev IsUsable : Stepped → Type 0
IsUsable t = AreUsable t.state.objects

made_usable : (s : State) (o : Objects) (refusal : Option Refusal) → AreUsable s.objects → AreUsable o → IsUsable (made_unless s o refusal)
made_usable s o None h new = new
made_usable s o (Some x) h new = h

-- a limit in its range admits a use
in_range : (l : Limit) → limit_within 1 1000 l ≡ true → is_below 0 l ≡ true
in_range NoMax h = refl
in_range (Most m) h = let least : 1 ≤ m = grind (arith, nat_tests) in grind (arith, nat_tests)

pre_usable : (e : PreEntry) → pre_in_range e ≡ true → is_below 0 e.maxuse ≡ true
pre_usable e h =
    let most = and_parts (within 1 9999 e.inljobs && within 1 9999 e.threshold && nat_le e.adljobs 999 && limit_within 1 9999 e.maxjobs && limit_within 1 1000 e.maxuse) (within 1 10 e.poolid) h in
    let some = and_parts (within 1 9999 e.inljobs && within 1 9999 e.threshold && nat_le e.adljobs 999 && limit_within 1 9999 e.maxjobs) (limit_within 1 1000 e.maxuse) most.0 in
    in_range e.maxuse some.1

-- a description without entries
created : (c : Limit) (o : Objects) (sbs : QName) (d : Sbsd) (e : PreEntry) → AreUsable o → IsIn e d.pres → (d ≡ empty_sbsd c) ⊎ (object_named sbs o.sbsds ≡ Some d) → is_below 0 e.maxuse ≡ true
created c o sbs d e h i (inl new) = absurd (subst (λ (x : Sbsd). IsIn e x.pres) new i)
created c o sbs d e h i (inr old) = h sbs d e old i

created_usable : (name : QName) (c : Limit) (o : Objects) → AreUsable o → AreUsable (with_sbsd name c o)
created_usable name c o h sbs d e k i = created c o sbs d e h i (named_before name sbs (empty_sbsd c) d o.sbsds k)

-- a description that is changed, where its entries stay or are usable
changed_by : (name : QName) (change : Sbsd → Sbsd) (o : Objects) (sbs : QName) (c d : Sbsd) (e : PreEntry) → ((x : Sbsd) (y : PreEntry) → IsIn y (change x).pres → IsIn y x.pres ⊎ (is_below 0 y.maxuse ≡ true)) → AreUsable o → object_named sbs o.sbsds ≡ Some c → IsIn e d.pres → IsChangeOf name sbs change c d → is_below 0 e.maxuse ≡ true
changed_by name change o sbs c d e keeps h k i (inl same) = h sbs c e k (subst (λ (x : Sbsd). IsIn e x.pres) same i)
changed_by name change o sbs c d e keeps h k i (inr new) =
    elim (keeps c e (subst (λ (x : Sbsd). IsIn e x.pres) new.1 i)) as (λ _. is_below 0 e.maxuse ≡ true) [ inl was ↦ h sbs c e k was | inr its ↦ its ]

changed_usable : (name : QName) (change : Sbsd → Sbsd) (o : Objects) → ((x : Sbsd) (y : PreEntry) → IsIn y (change x).pres → IsIn y x.pres ⊎ (is_below 0 y.maxuse ≡ true)) → AreUsable o → AreUsable (with_description name change o)
changed_usable name change o keeps h sbs d e k i =
    let c = changed_before name sbs change o.sbsds d k in
    changed_by name change o sbs c.0 d e keeps h c.1 i c.2

either : (b : Bool) (t u : Stepped) → IsUsable t → IsUsable u → IsUsable (cond b t u)
either true t u h k = h
either false t u h k = k

-- nor does a queue that is held or released change them
held : (s : State) (q : QName) → AreUsable s.objects → IsUsable (hold_queue s q)
held s q h =
    let holds : Stepped = record { reply = QueueHeld; state = record s { held = added own_name qname_cmp q s.held } } in
    either (is_some (object_named q s.objects.jobqs)) (cond (is_held s q) (refused s HeldAlready) holds) (refused s (NoObject kind.Jobq)) (either (is_held s q) (refused s HeldAlready) holds h h) h

released : (s : State) (q : QName) → AreUsable s.objects → IsUsable (release_queue s q)
released s q h =
    let releases : Stepped = record { reply = QueueReleased; state = record s { held = removed own_name same_qname q s.held } } in
    either (is_some (object_named q s.objects.jobqs)) (cond (is_held s q) releases (refused s NotHeld)) (refused s (NoObject kind.Jobq)) (either (is_held s q) releases (refused s NotHeld) h h) h

-- a call that configures nothing leaves the objects
aside : (s : State) (caller : ℕ) (call : Call) → is_configuring_call call ≡ false → AreUsable s.objects → AreUsable (apply s caller call).state.objects
aside s caller call none h =
    let same = call_is_aside s caller call none in
    subst AreUsable (sym same.objects) h

changed : (s : State) (caller : ℕ) (user : List ℕ) (c : Command) → IsCall (Change user c) → AreUsable s.objects → AreUsable (apply s caller (Change user c)).state.objects
changed s caller user (command.Crtcls c) fit h = made_usable s _ _ h h
changed s caller user (command.Crtjobq c) fit h = made_usable s _ _ h h
changed s caller user (command.Crtpgmref c) fit h = made_usable s _ _ h h
changed s caller user (command.Crtjobd c) fit h = made_usable s _ _ h h
changed s caller user (command.Crtsbsd c) fit h = made_usable s _ _ h (created_usable c.sbsd c.maxjobs s.objects h)
changed s caller user (command.Addjobqe c) fit h = made_usable s _ _ h (changed_usable c.sbsd _ s.objects (λ x y i. inl i) h)
changed s caller user (command.Addrtge c) fit h = made_usable s _ _ h (changed_usable c.sbsd _ s.objects (λ x y i. inl i) h)
changed s caller user (command.Addaje c) fit h = made_usable s _ _ h (changed_usable c.sbsd _ s.objects (λ x y i. inl i) h)
changed s caller user (command.Addpje c) fit h =
    let entry = pre_entry_of c in
    made_usable s _ _ h
    (changed_usable c.sbsd (with_pre entry) s.objects
    (λ x y i. (elim (in_inserted x.pres (place_of (λ (e : PreEntry). e.pgm) qname_cmp entry.pgm x.pres) entry y i) as (λ _. IsIn y x.pres ⊎ (is_below 0 y.maxuse ≡ true)) [
      | inl same ↦ inr (subst (λ (e : PreEntry). is_below 0 e.maxuse ≡ true) (sym same) (pre_usable entry fit.1.ranges))
      | inr was ↦ inl was
    ]))
    h)
changed s caller user (command.Rmvjobqe c) fit h = made_usable s _ _ h (changed_usable c.sbsd _ s.objects (λ x y i. inl i) h)
changed s caller user (command.Rmvrtge c) fit h = made_usable s _ _ h (changed_usable c.sbsd _ s.objects (λ x y i. inl i) h)
changed s caller user (command.Rmvaje c) fit h = made_usable s _ _ h (changed_usable c.sbsd _ s.objects (λ x y i. inl i) h)
changed s caller user (command.Rmvpje c) fit h = made_usable s _ _ h (changed_usable c.sbsd (without_pre c.pgm) s.objects (λ x y i. inl (left_in (λ (e : PreEntry). not (same_qname e.pgm c.pgm)) x.pres y i)) h)
changed s caller user (command.Hldjobq c) fit h = held s c.jobq h
changed s caller user (command.Rlsjobq c) fit h = released s c.jobq h
changed s caller user c fit h = aside s caller (Change user c) refl h

-- after a call within its ranges the entries let their jobs be used, where they did so before
pub call_keeps_usable : (s : State) (caller : ℕ) (call : Call) → IsCall call → AreUsable s.objects → AreUsable (apply s caller call).state.objects
call_keeps_usable s caller (Change user c) fit h = changed s caller user c fit h
call_keeps_usable s caller call fit h = aside s caller call refl h
