-- Requests that wait for an entry go to its idle jobs one by one.
use Rattle.std.proofs.Common.{◌≡◌, ◌⊎◌, ℕ, ◌<◌, ◌+◌, ◌||◌, not, nat_lt, Bool, true, false, cond, List, [], ◌∷◌, length, Option, Some, None, refl, ap, inl, inr, arith}
use Rattle.std.specs.List.{list_any}
use Rattle.std.specs.Option.{option_map_or}
use Rattle.std.specs.Prelude.{position, remove}
use Rattle.std.specs.List.{position_or_len}
use Rattle.std.proofs.lemmas.Bool.Decides.{nat_tests}
use Rattle.std.proofs.lemmas.List.Edits.{length-remove}
use Rattle.wm_base.specs.declared.qname.QName.{QName}
use Rattle.wm_base.specs.Iterate.{IsLessened}
use Rattle.wm_base.proofs.Iterate.{iterate-none, iterate-step}
use Rattle.wm_base.proofs.Tests.{Some-injective}
use Rattle.wm_law.specs.declared.job.Job.{Job}
use Rattle.wm_law.specs.declared.state.State.{State}
use Rattle.wm_law.specs.Prestart.{assign, assigned, assigned_to, first_idle, is_evoke_of}

or_rest : (a b : Bool) → (a || b) ≡ true → (b ≡ true) ⊎ (a ≡ true)
or_rest true b e = inr refl
or_rest false b e = inl e

found_by : (b : Bool) (n m : ℕ) → (n < m) ⊎ (b ≡ true) → cond (not b) (1 + n) 0 < m + 1
found_by true n m h = omega arith
found_by false n m (inl h) = omega arith
found_by false n m (inr e) = absurd (cc)

-- where one passes, the first that does has a place
found_less : {X : Type 0} (p : X → Bool) (xs : List X) → list_any p xs ≡ true → position_or_len p xs < length xs
found_less p [] e = absurd (cc)
found_less p (x ∷ xs) e =
    let less = found_by (p x) (position_or_len p xs) (length xs)
    (elim (or_rest (p x) (list_any p xs) e) as (λ _. (position_or_len p xs < length xs) ⊎ (p x ≡ true)) [ inl rest ↦ inl (found_less p xs rest) | inr here ↦ inr here ]) in
    omega arith

less-true : (a b : ℕ) → a < b → nat_lt a b ≡ true
less-true a b h = grind (arith, nat_tests)

position_found : {X : Type 0} (p : X → Bool) (xs : List X) → list_any p xs ≡ true → (n : ℕ) × (position p xs ≡ Some n) × (n < length xs)
position_found p xs e =
    let less = found_less p xs e in
    (position_or_len p xs, ap (λ (b : Bool). cond b (Some (position_or_len p xs)) None) (less-true (position_or_len p xs) (length xs) less), less)

-- a list without the first that passes, where one does, is shorter
cut : {X : Type 0} (xs : List X) (o : Option ℕ) → (n : ℕ) → o ≡ Some n → n < length xs → length (option_map_or (λ i. remove xs i) o xs) < length xs
cut xs None n e h = absurd (cc)
cut xs (Some i) n e h =
    let same : i ≡ n = Some-injective i n e in
    let one = length-remove xs i (omega arith) in
    omega arith

removed_less : {X : Type 0} (p : X → Bool) (xs : List X) → list_any p xs ≡ true → length (option_map_or (λ i. remove xs i) (position p xs) xs) < length xs
removed_less p xs e = let at = position_found p xs e in cut xs (position p xs) at.0 at.1 at.2

assign_by : (b : Bool) (o : Option Job) (j : Job) → cond b o None ≡ Some j → b ≡ true
assign_by true o j e = refl
assign_by false o j e = absurd (cc)

-- each leaves one request less
pub assigns_lessen : (sbs pgm : QName) → IsLessened (assign sbs pgm) (assigned_to sbs pgm) (λ s. length s.evokes)
assigns_lessen sbs pgm = record { by_step = λ s j e. removed_less (is_evoke_of sbs pgm) s.evokes (assign_by (list_any (is_evoke_of sbs pgm) s.evokes) (first_idle sbs pgm s.jobs) j e) }

-- where a job gets a request, the others are given out from there
pub assigned_step : (sbs pgm : QName) (s : State) (j : Job) → assign sbs pgm s ≡ Some j → assigned s sbs pgm ≡ assigned (assigned_to sbs pgm j s) sbs pgm
assigned_step sbs pgm s j e = iterate-step (assigns_lessen sbs pgm) (length s.evokes) (length (assigned_to sbs pgm j s).evokes) s j e (omega arith) (omega arith)

-- where none does, the state is as it was
pub assigned_none : (sbs pgm : QName) (s : State) → assign sbs pgm s ≡ None → assigned s sbs pgm ≡ s
assigned_none sbs pgm s e = iterate-none (assign sbs pgm) (assigned_to sbs pgm) (length s.evokes) s e
