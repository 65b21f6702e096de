-- What a call leaves of the objects, the held queues and the offset: of these it changes only what it configures.
use Rattle.std.proofs.Common.{◌≡◌, ◌⊎◌, ℕ, Option, Some, None, is_some, false, refl, inl, inr}
use Rattle.wm_law.specs.declared.call.Call.{Call}
use Rattle.wm_law.specs.declared.configured.Configured.{Configured}
use Rattle.wm_law.specs.declared.configured.Configured.TheVariants.{HeldQueues}
use Rattle.wm_law.specs.declared.state.State.{State}
use Rattle.wm_law.specs.CallKinds.{is_configuring_call}
use Rattle.wm_law.specs.Configured.{configured_by}
use Rattle.wm_law.specs.Machine.{apply}
use Rattle.wm_law.proofs.Moves.{HoldsAfterCalls, call_comes, autos_made, started_keeps, prestart_keeps}
use Rattle.wm_law.proofs.Supplies.{IsSupplied}
use Rattle.wm_law.proofs.Things.{IsOf}

-- the objects, the held queues and the offset are as they were
pub record IsAside (s t : State) : Type 0 where
  pub objects : t.objects ≡ s.objects
  pub held : t.held ≡ s.held
  pub offset : t.offset_min ≡ s.offset_min

-- but for what is configured
pub record IsLeft (c : Option Configured) (s t : State) : Type 0 where
  pub objects : (t.objects ≡ s.objects) ⊎ ((d : Configured) × (c ≡ Some d) × IsOf d s.objects t.objects)
  pub held : (t.held ≡ s.held) ⊎ (c ≡ Some HeldQueues)
  pub offset : t.offset_min ≡ s.offset_min

-- prestart jobs leave them, too
pub supplied_aside : (s : State) → IsSupplied (IsAside s)
supplied_aside s = record { makes = λ q d e t can a. record { objects = a.objects; held = a.held; offset = a.offset }; assigns = λ t q pgm job evokes can a. record { objects = a.objects; held = a.held; offset = a.offset } }

left_by : (c : Option Configured) (s t : State) → IsAside s t → IsLeft c s t
left_by c s t a = record { objects = inl a.objects; held = inl a.held; offset = a.offset }

pub aside_by : (c : Option Configured) (s t : State) → is_some c ≡ false → IsLeft c s t → IsAside s t
aside_by (Some d) s t none l = absurd (cc)
aside_by None s t none l = record {
  objects = elim l.objects as (λ _. t.objects ≡ s.objects) [ inl same ↦ same | inr is ↦ (let told = is.1 in absurd (cc)) ];
  held = elim l.held as (λ _. t.held ≡ s.held) [ inl same ↦ same | inr told ↦ absurd (cc) ];
  offset = l.offset;
}

module _ (s : State) (call : Call) where
  same : (t : State) → t.objects ≡ s.objects → t.held ≡ s.held → t.offset_min ≡ s.offset_min → IsLeft (configured_by call) s t
  same t objects held offset = record { objects = inl objects; held = inl held; offset = offset }

  calls_leave : HoldsAfterCalls (λ t. IsLeft (configured_by call) s t.state) s call
  calls_leave = record {
    refuses = λ x. same s refl refl refl;
    nothing = λ n. same s refl refl refl;
    notes = same s refl refl refl;
    hands = λ m j o i k f. same _ refl refl refl;
    reports = λ serial j phase stopped i k r n fit. same _ refl refl refl;
    starts = λ q k. left_by (configured_by call) s _
        (started_keeps (IsAside s) s q k
        (supplied_aside s)
        (autos_made (IsAside s) s q k (λ t e d m a. record { objects = a.objects; held = a.held; offset = a.offset }) (record { objects = refl; held = refl; offset = refl })));
    enters = λ user c d due has fit. same _ refl refl refl;
    alters = λ reply change place p a fit. same _ refl refl refl;
    holds = λ reply held p a told fit. record { objects = inl refl; held = inr told; offset = refl };
    ends = λ reply change started stopped evokes power p e told kept. same _ refl refl refl;
    uses = λ reply change p u. same _ refl refl refl;
    waits = λ place evokes is. same _ refl refl refl;
    prestarts = λ q d e can. left_by (configured_by call) s _ (prestart_keeps (IsAside s) s q d e can (supplied_aside s) (record { objects = refl; held = refl; offset = refl }));
    kills = λ m j i k. same _ refl refl refl;
    makes = λ o c told fit. record { objects = inr told; held = inl refl; offset = refl };
  }

  pub call_leaves : (caller : ℕ) → IsLeft (configured_by call) s (apply s caller call).state
  call_leaves caller = call_comes (λ t. IsLeft (configured_by call) s t.state) s caller call calls_leave

-- a call that configures nothing leaves the objects, the held queues and the offset
pub call_is_aside : (s : State) (caller : ℕ) (call : Call) → is_configuring_call call ≡ false → IsAside s (apply s caller call).state
call_is_aside s caller call none = aside_by (configured_by call) s (apply s caller call).state none (call_leaves s call caller)
