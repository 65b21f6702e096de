-- Laws of where the power went down.
use Rattle.std.proofs.Common.{◌≡◌, ℕ, ◌==◌, ◌&&◌, ◌||◌, Bool, true, false, List, [], ◌∷◌, ◌++◌, sym, ap, ◌∙◌, refl}
use Rattle.std.specs.List.{list_any}
use Rattle.std.proofs.lemmas.List.Folds.{list_any-append}
use Rattle.wm_base.proofs.Tests.{or_second}
use Rattle.wm_law.specs.declared.call.Entry.{Entry}
use Rattle.wm_law.specs.History.{entries_of}
use Rattle.wm_floor.specs.History.{History}
use Rattle.wm_run.specs.Answer.{is_power_down}
use Rattle.wm_run.specs.Calls.{session_pass}
use Rattle.wm_run.specs.Down.{is_down, powers_down}
use Rattle.wm_run.specs.Grown.{entries_between}
use Rattle.wm_run.specs.Session.{IsUncalled}
use Rattle.wm_run.proofs.Growing.{Continues, entries-none, entries-then}

-- entries, and then more entries
pub is_down-append : (es fs : List Entry) → is_down (es ++ fs) ≡ (is_down es || is_down fs)
is_down-append es fs = list_any-append powers_down es fs

or_left : (a b : Bool) → (a || b) ≡ false → a ≡ false
or_left true b h = h
or_left false b h = refl

or_up : (a b : Bool) → a ≡ false → (a || b) ≡ b
or_up a b up = ap (λ (t : Bool). t || b) up

-- where the power isn't down behind all, it is so behind neither part
pub up_first : (es fs all : List Entry) → all ≡ es ++ fs → is_down all ≡ false → is_down es ≡ false
up_first es fs all is up = or_left (is_down es) (is_down fs) (sym (ap is_down is ∙ is_down-append es fs) ∙ up)

pub up_then : (es fs all : List Entry) → all ≡ es ++ fs → is_down all ≡ false → is_down fs ≡ false
up_then es fs all is up = or_second (is_down es) (is_down fs) (sym (ap is_down is ∙ is_down-append es fs) ∙ up)

-- where the first part leaves it up, it is as the second part leaves it
pub down_then : (es fs all : List Entry) → all ≡ es ++ fs → is_down es ≡ false → is_down all ≡ is_down fs
down_then es fs all is up = ap is_down is ∙ (is_down-append es fs ∙ or_up (is_down es) (is_down fs) up)

-- where the second part leaves it up, it is as the first part left it
or_false_right : (a b : Bool) → b ≡ false → (a || b) ≡ a
or_false_right true b up = refl
or_false_right false b up = up

pub down_first : (es fs all : List Entry) → all ≡ es ++ fs → is_down fs ≡ false → is_down all ≡ is_down es
down_first es fs all is up = ap is_down is ∙ (is_down-append es fs ∙ or_false_right (is_down es) (is_down fs) up)

-- by a call of the pass of this number
abbrev downs : ℕ → List Entry → Bool
downs n es = list_any (λ (e : Entry). e.caller == n && is_power_down e.reply) es

-- it is one of the session's own entries that does
downs_own : (n : ℕ) (es : List Entry) → downs n es ≡ list_any (λ (e : Entry). is_power_down e.reply) (entries_of n es)
downs_own n [] = refl
downs_own n (e ∷ es) = by (e.caller == n) refl (downs_own n es)
  where
    by : (t : Bool) → (e.caller == n) ≡ t → downs n es ≡ list_any (λ (x : Entry). is_power_down x.reply) (entries_of n es) → downs n (e ∷ es) ≡ list_any (λ (x : Entry). is_power_down x.reply) (entries_of n (e ∷ es))
    by true is rest = rw (is, rest) refl
    by false is rest = rw (is, rest) refl

-- where it made no call, it puts no power down
pub up_uncalled : (es : List Entry) → IsUncalled es → is_down es ≡ false
up_uncalled es none = downs_own session_pass es ∙ ap (list_any (λ (e : Entry). is_power_down e.reply)) none

-- where it made one, its reply says whether it did
pub down_called : (es : List Entry) (e : Entry) → entries_of session_pass es ≡ e ∷ [] → is_down es ≡ is_power_down e.reply
down_called es e one = downs_own session_pass es ∙ (ap (list_any (λ (x : Entry). is_power_down x.reply)) one ∙ or_false_right (is_power_down e.reply) false refl)

-- nothing does
pub up_none : (h : History) → is_down (entries_between h h) ≡ false
up_none h = ap is_down (entries-none h)

-- the same of two parts of a history
pub down_between : (a b c : History) → Continues a b → Continues b c → is_down (entries_between a b) ≡ false → is_down (entries_between a c) ≡ is_down (entries_between b c)
down_between a b c ab bc up = down_then (entries_between a b) (entries_between b c) (entries_between a c) (entries-then a b c ab bc) up
