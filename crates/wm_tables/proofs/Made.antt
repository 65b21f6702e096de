-- What one row makes, by its table.
use Rattle.std.proofs.Common.{◌≡◌, ℕ, ◌≤◌, ◌<◌, Bool, true, false, cond, is_some, List, Some, refl, ap, inl, inr, arith}
use Rattle.std.specs.Ordering.{is_lt, nat_cmp, ordering_then}
use Rattle.std.specs.Cmp.Lexicographic.{slice_cmp}
use Rattle.std.specs.declared.cmp.Ordering.{Ordering}
use Rattle.std.specs.declared.cmp.Ordering.TheVariants.{Greater}
use Rattle.std.proofs.lemmas.Bool.{cases_lt}
use Rattle.std.proofs.lemmas.Bool.Decides.{nat_tests}
use Rattle.wm_base.specs.declared.qname.QName.{QName}
use Rattle.wm_base.specs.declared.refusal.Kind.TheVariants as kind
use Rattle.wm_base.specs.declared.refusal.Refusal.TheVariants.{HeldAlready, NoObject}
use Rattle.wm_base.proofs.Orderings.{Less-lt}
use Rattle.wm_traits.specs.declared.row.Row.{Row}
use Rattle.wm_traits.specs.Rows.{is_before}
use Rattle.wm_desc.specs.Table.{object_named}
use Rattle.wm_desc.specs.declared.objects.Objects.{Objects}
use Rattle.wm_law.specs.Choice.{is_held}
use Rattle.wm_law.specs.Fit.{IsCall}
use Rattle.wm_law.specs.Machine.{change}
use Rattle.wm_law.specs.Queues.{hold_queue, with_held_queue}
use Rattle.wm_law.specs.Ranges.{AreInRange}
use Rattle.wm_law.specs.Stepped.{Stepped, refused}
use Rattle.wm_law.specs.declared.call.Call.{Call}
use Rattle.wm_law.specs.declared.call.Call.TheVariants.{Change}
use Rattle.wm_law.specs.declared.call.Reply.TheVariants.{Made, QueueHeld}
use Rattle.wm_law.specs.declared.command.Command.{Command}
use Rattle.wm_law.specs.declared.command.Command.TheVariants as command
use Rattle.wm_law.specs.declared.state.State.{State}
use Rattle.wm_law.proofs.Moves.{HoldsAfterCalls, call_comes}
use Rattle.wm_law.proofs.Objects.{IsObjectChange}
use Rattle.wm_rows.specs.Rows.{command_row}

-- the objects change, and nothing else; where the values of the call keep their ranges, those of the objects do
abbrev pub IsMaking : State → Call → State → Type 0
IsMaking s call t = (o : Objects) × IsObjectChange s o × (t ≡ record s { objects = o }) × (IsCall call → AreInRange s.objects → AreInRange o)

abbrev WouldMake : State → Call → Stepped → Type 0
WouldMake s call t = t.reply ≡ Made → IsMaking s call t.state

makes_by : (s : State) (call : Call) → HoldsAfterCalls (WouldMake s call) s call
makes_by s call = record {
  refuses = λ x e. absurd (cc);
  nothing = λ n e. absurd (cc);
  notes = λ e. absurd (cc);
  hands = λ m j o i k f e. absurd (cc);
  reports = λ serial j phase stopped i k r n fit e. absurd (cc);
  starts = λ q can e. absurd (cc);
  enters = λ user c d due has fit e. absurd (cc);
  alters = λ reply change place p a fit e. absurd (p.makes_none e);
  holds = λ reply held p a told fit e. absurd (p.makes_none e);
  ends = λ reply change started stopped evokes power p a told kept e. absurd (p.makes_none e);
  uses = λ reply change p u e. absurd (p.makes_none e);
  waits = λ place evokes is e. absurd (cc);
  prestarts = λ q d x can e. absurd (cc);
  kills = λ m j i k e. absurd (cc);
  makes = λ o c told fit e. (o, c, refl, fit);
}

-- what a command makes that says so
pub call_makes : (s : State) (user : List ℕ) (c : Command) → (change s user c).reply ≡ Made → IsMaking s (Change user c) (change s user c).state
call_makes s user c made = call_comes (WouldMake s (Change user c)) s 0 (Change user c) (makes_by s (Change user c)) made

tab_is : (a b : Row) (n : ℕ) → Some a ≡ Some b → a.tab ≡ n → n ≤ 9 → b.tab ≤ 9
tab_is a b n e f h = let same : a ≡ b = cc in let tab : a.tab ≡ b.tab = ap (λ (r : Row). r.tab) same in omega arith

-- the table of a row that holds a command
pub made_tab : (c : Command) (row : Row) → command_row c ≡ Some row → row.tab ≤ 9
made_tab (command.Crtcls c) row e = tab_is _ row 1 e refl (omega arith)
made_tab (command.Crtpgmref c) row e = tab_is _ row 2 e refl (omega arith)
made_tab (command.Crtjobq c) row e = tab_is _ row 3 e refl (omega arith)
made_tab (command.Crtjobd c) row e = tab_is _ row 4 e refl (omega arith)
made_tab (command.Crtsbsd c) row e = tab_is _ row 5 e refl (omega arith)
made_tab (command.Addjobqe c) row e = tab_is _ row 6 e refl (omega arith)
made_tab (command.Addrtge c) row e = tab_is _ row 7 e refl (omega arith)
made_tab (command.Addaje c) row e = tab_is _ row 8 e refl (omega arith)
made_tab (command.Addpje c) row e = tab_is _ row 9 e refl (omega arith)
made_tab c row e = absurd (cc)

-- a queue becomes held that is an object and wasn't held
pub record IsHeldNow (s : State) (q : QName) (t : State) : Type 0 where
  pub is_object : is_some (object_named q s.objects.jobqs) ≡ true
  pub new : is_held s q ≡ false
  pub is_with : t ≡ with_held_queue s q

held_by : (s : State) (q : QName) (known held : Bool) → is_some (object_named q s.objects.jobqs) ≡ known → is_held s q ≡ held → (cond known (cond held (refused s HeldAlready) (record { reply = QueueHeld; state = with_held_queue s q })) (refused s (NoObject kind.Jobq))).reply ≡ QueueHeld → IsHeldNow s q (cond known (cond held (refused s HeldAlready) (record { reply = QueueHeld; state = with_held_queue s q })) (refused s (NoObject kind.Jobq))).state
held_by s q true true e f h = absurd (cc)
held_by s q true false e f h = record { is_object = e; new = f; is_with = refl }
held_by s q false held e f h = absurd (cc)

pub row_holds : (s : State) (q : QName) → (hold_queue s q).reply ≡ QueueHeld → IsHeldNow s q (hold_queue s q).state
row_holds s q h = held_by s q (is_some (object_named q s.objects.jobqs)) (is_held s q) refl refl h

greater_is : (a b : ℕ) → b < a → nat_cmp a b ≡ Greater
greater_is a b h = grind (arith, nat_tests)

-- rows stand in the order of their tables
pub tabs_rise : (a b : Row) → is_before a b ≡ true → a.tab ≤ b.tab
tabs_rise a b h =
    elim (cases_lt b.tab a.tab) [
      | inl back ↦
          let not : is_before a b ≡ false = ap (λ (r : Ordering). is_lt (ordering_then r (slice_cmp nat_cmp a.key b.key))) (greater_is a.tab b.tab back) in
          absurd (cc)
      | inr on ↦ on
    ]

pub tab_before : (a b : Row) → a.tab < b.tab → is_before a b ≡ true
tab_before a b h = ap (λ (r : Ordering). is_lt (ordering_then r (slice_cmp nat_cmp a.key b.key))) (Less-lt a.tab b.tab h)
