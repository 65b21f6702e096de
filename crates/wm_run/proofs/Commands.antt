-- What the session has seen since, with a call of its own or without one, and what is answered by it.
use Rattle.std.proofs.Common.{◌≡◌, ℕ, Bool, List, [], ◌∷◌, Option, Some, None, IfSome, sym, ap, ◌∙◌, refl, take, append-nil}
use Rattle.wm_law.specs.declared.call.Call.{Call}
use Rattle.wm_law.specs.declared.call.Call.TheVariants.{Change}
use Rattle.wm_law.specs.declared.call.Entry.{Entry}
use Rattle.wm_law.specs.declared.call.Reply.{Reply}
use Rattle.wm_law.specs.declared.command.Command.{Command}
use Rattle.wm_law.specs.History.{entries_of}
use Rattle.wm_listing.specs.Said.{said_text}
use Rattle.wm_traits.specs.Told.{Grows}
use Rattle.wm_turn.specs.Passed.{own}
use Rattle.wm_floor.specs.Floor.{Floored, HasLooked, IsPassOf, IsSame, Seen, entry_of}
use Rattle.wm_floor.specs.Ledger.{caller_of}
use Rattle.wm_floor.specs.declared.opened.Opened.{Opened}
use Rattle.wm_floor.specs.Lists.{since}
use Rattle.wm_floor.proofs.MonitorPasses.{own_since, since-by}
use Rattle.wm_run.specs.Answer.{with_end, is_power_down, is_refused}
use Rattle.wm_run.specs.Calls.{Called, MakesCall, session_pass}
use Rattle.wm_run.specs.Down.{is_down}
use Rattle.wm_run.specs.Session.{AnsweredBy, Calls, IsUncalled, OneCall}
use Rattle.wm_run.specs.Stopped.{WritesSome}
use Rattle.wm_run.proofs.Downs.{down_called}
use Rattle.wm_run.proofs.Servings.{seen_called}

-- what is said of a call, and where it leaves the power

pub one_call : {reply : Reply} {es : List Entry} (c d : Call) → MakesCall c reply es → c ≡ d → OneCall d es
one_call c d h is = record { entry = h.entry; only = h.only; call = h.call ∙ is }

pub commanded : {user : List ℕ} {c : Command} {reply : Reply} {es : List Entry} (call : Call) (before now : Option (List ℕ)) (refused : Bool) → MakesCall call reply es → call ≡ Change user c → Grows before now (with_end (said_text c reply)) → refused ≡ is_refused reply → AnsweredBy (Calls user c) es before now refused
commanded {user} {c} {reply} {es} call before now refused h same said is = record {
  bytes = with_end (said_text c reply);
  answers = record { entry = h.entry; only = h.only; call = h.call ∙ same; says = ap (λ (r : Reply). with_end (said_text c r)) h.replied; refused = is ∙ ap is_refused h.replied };
  written = said;
}

-- it was written in part
pub commanded_some : {user : List ℕ} {c : Command} {reply : Reply} {es : List Entry} (call : Call) (before now : Option (List ℕ)) (n : ℕ) → MakesCall call reply es → call ≡ Change user c → Grows before now (take n (with_end (said_text c reply))) → WritesSome (Calls user c) es before now
commanded_some {user} {c} {reply} {es} call before now n h same said = record {
  due = with_end (said_text c reply);
  faulty = is_refused reply;
  answers = record { entry = h.entry; only = h.only; call = h.call ∙ same; says = ap (λ (r : Reply). with_end (said_text c r)) h.replied; refused = ap is_refused h.replied };
  count = n;
  written = said;
}

pub commanded_down : {call : Call} {reply : Reply} {es : List Entry} (down : Bool) → MakesCall call reply es → down ≡ is_power_down reply → down ≡ is_down es
commanded_down {call} {reply} {es} down h is = is ∙ (ap is_power_down h.replied ∙ sym (down_called es h.entry h.only))

-- at the moment that the clock gave
pub called_at : {K : Type 0} {o : Opened K} {c : Call} {reply : Reply} (now : ℕ) (coming : Option ℕ) (p q : Seen K) → IfSome coming (λ told. now ≡ told) → Called o c (Some now) p q reply → Called o c coming p q reply
called_at now coming p q told h = record { found = h.found; now = h.now; moment = by coming told; begins = h.begins; seen = h.seen; mine = h.mine; replied = h.replied }
  where
    by : (o : Option ℕ) → IfSome o (λ told. now ≡ told) → IfSome o (λ told. h.now ≡ told)
    by None k = tt
    by (Some t) k = h.moment ∙ k

-- what the session's pass has seen since

module _ {K : Type 0} (f : Floored K) (p q : Seen K) (before : IsPassOf f p) (now : IsPassOf f q) (zero : p.number ≡ session_pass) (same : IsSame p q) where
  own_zero : (es : List Entry) → entries_of session_pass es ≡ own caller_of p.number es
  own_zero es = ap (λ (n : ℕ). own caller_of n es) (sym zero)

  -- a look has no call
  pub uncalled_since : HasLooked p q → IsUncalled (since p.seen q.seen)
  uncalled_since looked =
      let more = looked.seen.0 in
      let es : since p.seen q.seen ≡ more = since-by p.seen q.seen more looked.seen.1 in
      let none = own_since f p q more [] before now same looked.seen.1 (looked.mine ∙ sym (append-nil p.mine)) in
      ap (entries_of session_pass) es ∙ (own_zero more ∙ none)

  -- a call has its own entry
  pub called_since : {c : Call} {coming : Option ℕ} {reply : Reply} → Called f.opening c coming p q reply → MakesCall c reply (since p.seen q.seen)
  called_since {c} h =
      let e = entry_of f.opening h.found p.number c h.now in
      let seen = seen_called p q h in
      let es : since p.seen q.seen ≡ _ = since-by p.seen q.seen _ seen in
      let one = own_since f p q _ (e ∷ []) before now same seen h.mine in
      record { entry = e; only = ap (entries_of session_pass) es ∙ (own_zero _ ∙ one); call = refl; replied = h.replied }
