-- Laws of entries that aren't idle.
use Rattle.std.proofs.Common.{◌≡◌, ℕ, ◌==◌, Bool, true, false, List, [], ◌∷◌, ◌++◌, Some, sym, ap, subst, ◌∙◌, refl, inl, inr, if◌then◌else◌}
use borrow.Author.Tests.{eqb-false}
use Rattle.std.specs.Ordering.{is_le, nat_cmp}
use Rattle.std.proofs.lemmas.Map.Keys.{le_from_is_le}
use Rattle.wm_law.specs.declared.call.Call.{Call}
use Rattle.wm_law.specs.declared.call.Entry.{Entry}
use Rattle.wm_law.specs.declared.pending.Pending.{Pending}
use Rattle.wm_law.specs.declared.state.State.{State}
use Rattle.wm_law.specs.History.{after, stepped}
use Rattle.wm_law.specs.Pending.{pending}
use Rattle.wm_floor.specs.Idle.{IsDueBy, NoneIsIdle, WasCalledFor, range_behind}
use Rattle.wm_turn.specs.Passed.{own}
use Rattle.wm_floor.specs.Ledger.{caller_of}

-- what was called for in the one range was so in the other
abbrev IsWider : ℕ → List State → List State → Type 0
IsWider m range more = (moment : ℕ) (call : Call) → WasCalledFor m range moment call → WasCalledFor m more moment call

wider_by : (m : ℕ) (s : State) (range more : List State) → IsWider m range more → IsWider m (s ∷ range) (s ∷ more)
wider_by m s range more h moment call (inl here) = inl here
wider_by m s range more h moment call (inr before) = inr (h moment call before)

wider_behind : (m : ℕ) (e : Entry) (range more : List State) → IsWider m range more → IsWider m (range_behind m e range) (range_behind m e more)
wider_behind m e range more h = by (e.caller == m)
  where
    by : (b : Bool) → IsWider m (if b then [] else range) (if b then [] else more)
    by true moment call was = was
    by false moment call was = h moment call was

-- the range may begin earlier
wider : (m : ℕ) (range more : List State) (s : State) (es : List Entry) → IsWider m range more → NoneIsIdle m range s es → NoneIsIdle m more s es
wider m range more s [] h k = tt
wider m range more s (e ∷ es) h k =
    let h' = wider_by m s range more h in
    (λ own. h' e.moment e.call (k.0 own), wider m (range_behind m e (s ∷ range)) (range_behind m e (s ∷ more)) (stepped s e).state es (wider_behind m e (s ∷ range) (s ∷ more) h') k.1)

-- entries, and then more, whose range begins with the state behind the first
pub NoneIsIdle-append : (m : ℕ) (range : List State) (s : State) (es fs : List Entry) → NoneIsIdle m range s es → NoneIsIdle m [] (after s es) fs → NoneIsIdle m range s (es ++ fs)
NoneIsIdle-append m range s [] fs h k = wider m [] range s fs (λ moment call none. absurd none) k
NoneIsIdle-append m range s (e ∷ es) fs h k = (h.0, NoneIsIdle-append m (range_behind m e (s ∷ range)) (stepped s e).state es fs h.1 k)

-- the first of entries, none of which is the monitor's own, isn't either, nor are the others
not_own : (m : ℕ) (e : Entry) (es : List Entry) → own caller_of m (e ∷ es) ≡ [] → (e.caller == m ≡ false) × (own caller_of m es ≡ [])
not_own m e es none = by (e.caller == m) refl
  where
    by : (b : Bool) → e.caller == m ≡ b → (e.caller == m ≡ false) × (own caller_of m es ≡ [])
    by true is = let front : own caller_of m (e ∷ es) ≡ e ∷ own caller_of m es = rw is refl in absurd (cc)
    by false is = let rest : own caller_of m (e ∷ es) ≡ own caller_of m es = rw is refl in (is, sym rest ∙ none)

-- entries of others
pub NoneIsIdle-others : (m : ℕ) (range : List State) (s : State) (es : List Entry) → own caller_of m es ≡ [] → NoneIsIdle m range s es
NoneIsIdle-others m range s [] none = tt
NoneIsIdle-others m range s (e ∷ es) none =
    let h = not_own m e es none in
    (λ is. absurd (eqb-false e.caller m h.0 is), NoneIsIdle-others m (range_behind m e (s ∷ range)) (stepped s e).state es h.1)

-- entries of others, and then one of the monitor that was called for in a state before them
pub NoneIsIdle-one : (m : ℕ) (range : List State) (s : State) (es : List Entry) (e : Entry) → own caller_of m es ≡ [] → WasCalledFor m (s ∷ range) e.moment e.call → NoneIsIdle m range s (es ++ e ∷ [])
NoneIsIdle-one m range s [] e none was = (λ own. was, tt)
NoneIsIdle-one m range s (x ∷ xs) e none was =
    let h = not_own m x xs none in
    let same : range_behind m x (s ∷ range) ≡ s ∷ range = ap (λ (b : Bool). if b then [] else s ∷ range) h.0 in
    let rest = NoneIsIdle-one m (s ∷ range) (stepped s x).state xs e h.1 (inr was) in
    (λ is. absurd (eqb-false x.caller m h.0 is), subst (λ (r : List State). NoneIsIdle m r (stepped s x).state (xs ++ e ∷ [])) (sym same) rest)

-- what the machine tells of as next is due, where the moment is no earlier
pub is_due : (s : State) (m : ℕ) (p : Pending) (due told now : ℕ) → p ≡ pending s m → p.next ≡ Some due → told ≡ due → true ≡ is_le (nat_cmp told now) → IsDueBy s now
is_due s m p due told now is next same passed =
    record {
      due = due;
      next = sym (ap (λ (q : Pending). q.next) is) ∙ next;
      passed = le_from_is_le due now (sym (passed ∙ ap (λ (d : ℕ). is_le (nat_cmp d now)) same));
    }
