-- What a legal history orders once: a job has a rank when it is ordered, a greater one after that, and ranks never fall.
use Rattle.std.proofs.Common.{◌≡◌, ℕ, ◌<◌, ◌≤◌, ◌⊎◌, List, [], ◌∷◌, Option, Some, None, refl, sym, ap, ◌∙◌, inl, inr, arith}
use Rattle.std.specs.List.{cons_option, filter_map}
use Rattle.std.specs.Option.{option_and_then}
use Rattle.wm_base.specs.declared.job.Asked.{Asked}
use Rattle.wm_law.specs.declared.call.Call.{Call}
use Rattle.wm_law.specs.declared.call.Entry.{Entry}
use Rattle.wm_law.specs.declared.call.Reply.{Reply}
use Rattle.wm_law.specs.declared.job.Job.{Job}
use Rattle.wm_law.specs.declared.state.State.{State}
use Rattle.wm_law.specs.History.{stepped, IsEntry, IsLegal, order_in}
use Rattle.wm_law.specs.Kept.{IsDistinct, IsLater, IsNumbered}
use Rattle.wm_law.specs.Laws.{IsIn}
use Rattle.wm_law.specs.Machine.{apply, step, with_clock}
use Rattle.wm_law.specs.Settling.{settle}
use Rattle.wm_law.specs.Stepped.{Stepped}
use Rattle.wm_law.proofs.Forward.{only_one, settle_goes_on, step_goes_on}
use Rattle.wm_law.proofs.Moves.{HoldsAfterCalls, call_comes}
use Rattle.wm_law.proofs.Numbers.{apply_keeps, clock_keeps, step_keeps_numbers}

-- a job of that serial has the rank in the first state, and in the second it is past that
pub record IsOrderedIn (rank : Job → ℕ) (level : ℕ) (s t : State) (x : ℕ) : Type 0 where
  pub job : Job
  pub before : IsIn job s.jobs
  pub serial : job.serial ≡ x
  pub ranked : rank job ≡ level
  pub later : Job
  pub now : IsIn later t.jobs
  pub same : later.serial ≡ x
  pub past : level < rank later

-- the serial that a reply tells
abbrev pub told : (Asked → Option ℕ) → Reply → Option ℕ
told tell r = option_and_then tell (order_in r)

-- what a reply tells was ordered
abbrev pub Orders : (Job → ℕ) → ℕ → (Asked → Option ℕ) → State → Stepped → Type 0
Orders rank level tell s t = (x : ℕ) → told tell t.reply ≡ Some x → IsOrderedIn rank level s t.state x

-- what stands in a list with perhaps one more at its front
by_front : (o : Option ℕ) (xs : List ℕ) (x : ℕ) → IsIn x (cons_option o xs) → (o ≡ Some x) ⊎ IsIn x xs
by_front None xs x i = inr i
by_front (Some y) xs x (inl e) = inl (ap Some (sym e))
by_front (Some y) xs x (inr i) = inr i

distinct_front : (o : Option ℕ) (xs : List ℕ) → ((x : ℕ) → o ≡ Some x → IsIn x xs → ⊥) → IsDistinct xs → IsDistinct (cons_option o xs)
distinct_front None xs none rest = rest
distinct_front (Some y) xs none rest = (none y refl, rest)

module _ (rank : Job → ℕ) (level : ℕ) (tell : Asked → Option ℕ) (climbs : (j k : Job) → IsLater j k → rank j ≤ rank k) (hands : (s : State) (call : Call) → HoldsAfterCalls (Orders rank level tell s) s call) where
  settled_orders : (s t : State) (x : ℕ) → IsNumbered t → IsOrderedIn rank level s t x → IsOrderedIn rank level s (settle t) x
  settled_orders s t x n h =
      let k = settle_goes_on t n h.later h.now in
      let on = k.2 in
      let more = climbs h.later k.0 on in
      let past = h.past in
      record { job = h.job; before = h.before; serial = h.serial; ranked = h.ranked; later = k.0; now = k.1; same = on.serial ∙ h.same; past = omega arith }

  step_orders : (s : State) (caller : ℕ) (call : Call) (moment : ℕ) → IsNumbered s → (x : ℕ) → told tell (step s caller call moment).reply ≡ Some x → IsOrderedIn rank level s (step s caller call moment).state x
  unfolding step
  step_orders s caller call moment n x e =
      let c = with_clock s moment in
      let h = call_comes (Orders rank level tell c) c caller call (hands c call) x e in
      let k : IsOrderedIn rank level s (apply c caller call).state x = record { job = h.job; before = h.before; serial = h.serial; ranked = h.ranked; later = h.later; now = h.now; same = h.same; past = h.past } in
      settled_orders s (apply c caller call).state x (apply_keeps c caller call (clock_keeps s moment n)) k

  entry_orders : (s : State) (e : Entry) → IsNumbered s → IsEntry s e → (x : ℕ) → told tell e.reply ≡ Some x → IsOrderedIn rank level s (stepped s e).state x
  entry_orders s e n h x f = step_orders s e.caller e.call e.moment n x (ap (told tell) (sym h.reply) ∙ f)

  -- what the entries tell
  abbrev all : List Entry → List ℕ
  all h = filter_map (λ e. told tell e.reply) h

  -- no job of that serial was ordered yet
  abbrev IsFresh : State → ℕ → Type 0
  IsFresh s x = (j : Job) → IsIn j s.jobs → j.serial ≡ x → rank j ≤ level

  -- what a legal history orders wasn't ordered before it
  orders_fresh : (s : State) (h : List Entry) → IsNumbered s → IsLegal s h → (x : ℕ) → IsIn x (all h) → IsFresh s x
  orders_fresh s [] n l x i j m f = absurd i
  orders_fresh s (e ∷ es) n l x i j m f =
      elim (by_front (told tell e.reply) (all es) x i) as (λ _. rank j ≤ level) [
        | inl o ↦ (
            let h = entry_orders s e n l.0 x o in
            let one = only_one s.jobs n.serials.distinct h.job j h.before m (h.serial ∙ sym f) in
            let ranked = h.ranked in
            let here : rank j ≡ level = ap rank (sym one) ∙ ranked in
            omega arith)
        | inr k ↦ (
            let on = step_goes_on s e.caller e.call e.moment n j m in
            let later = on.2 in
            let behind = orders_fresh (stepped s e).state es (step_keeps_numbers s e.caller e.call e.moment n) l.1 x k on.0 on.1 (later.serial ∙ f) in
            let more = climbs j on.0 later in
            omega arith)
      ]

  not_again : (s : State) (e : Entry) (es : List Entry) → IsNumbered s → IsEntry s e → IsLegal (stepped s e).state es → (x : ℕ) → told tell e.reply ≡ Some x → IsIn x (all es) → ⊥
  not_again s e es n h l x o i =
      let k = entry_orders s e n h x o in
      let fresh = orders_fresh (stepped s e).state es (step_keeps_numbers s e.caller e.call e.moment n) l x i k.later k.now k.same in
      let past = k.past in
      absurd (omega arith)

  pub orders_once : (s : State) (h : List Entry) → IsNumbered s → IsLegal s h → IsDistinct (all h)
  orders_once s [] n l = tt
  orders_once s (e ∷ es) n l =
      distinct_front (told tell e.reply) (all es) (λ x o. not_again s e es n l.0 l.1 x o) (orders_once (stepped s e).state es (step_keeps_numbers s e.caller e.call e.moment n) l.1)
