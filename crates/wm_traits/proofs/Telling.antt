-- What was told in two steps.
use Rattle.std.proofs.Common.{ℕ, ◌+◌, ◌-◌, List, [], ◌++◌, length, Option, Some, None, take, drop, refl, sym, ◌∙◌, ap, append_assoc}
use Rattle.std.proofs.Math.Seq.{take-add}
use Rattle.std.proofs.lemmas.List.{append-nil, take_rest}
use Rattle.wm_traits.specs.Told.{Grows, Takes}

-- nothing more
pub Grows-none : {A : Type 0} (told : Option (List A)) → Grows told told []
Grows-none None = tt
Grows-none (Some xs) = sym (append-nil xs)

-- some more, and then some more
pub Grows-then : {A : Type 0} (old mid new : Option (List A)) (xs ys : List A) → Grows old mid xs → Grows mid new ys → Grows old new (xs ++ ys)
Grows-then old mid None xs ys h k = tt
Grows-then old None (Some ws) xs ys h k = absurd k
Grows-then None (Some vs) (Some ws) xs ys h k = absurd h
Grows-then (Some us) (Some vs) (Some ws) xs ys h k = k ∙ ap (λ (l : List _). l ++ ys) h ∙ append_assoc us xs ys

-- nothing taken
pub Takes-none : {A : Type 0} (told : Option (List A)) → Takes told [] told
Takes-none None = tt
Takes-none (Some xs) = refl

-- some taken, and then some more
pub Takes-then : {A : Type 0} (old mid new : Option (List A)) (xs ys : List A) → Takes old xs mid → Takes mid ys new → Takes old (xs ++ ys) new
Takes-then old mid None xs ys h k = tt
Takes-then old None (Some ws) xs ys h k = absurd k
Takes-then None (Some vs) (Some ws) xs ys h k = absurd h
Takes-then (Some us) (Some vs) (Some ws) xs ys h k = h ∙ ap (λ (l : List _). xs ++ l) k ∙ sym (append_assoc xs ys ws)

-- the first bytes of a list, and then some of the rest of it
pub Grows-piece : {A : Type 0} (old mid new : Option (List A)) (xs : List A) (at n : ℕ) → Grows old mid (take at xs) → Grows mid new (take n (take (length xs - at) (drop at xs))) → Grows old new (take (at + n) xs)
Grows-piece old mid new xs at n h k = rw (take-add, ← take_rest xs at) (Grows-then old mid new _ _ h k)

pub ruleset told_steps = (Grows-none, Grows-then, Grows-piece, Takes-none, Takes-then)
