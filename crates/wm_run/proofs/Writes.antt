-- What stays true while bytes are written.
use Rattle.std.proofs.Common.{◌≡◌, ℕ, ◌+◌, ◌-◌, ◌≤◌, List, length, take, drop, min, Option, sym, ap, subst, ◌∙◌, arith}
use Rattle.std.proofs.Math.Seq.{take-add, take-length}
use Rattle.std.proofs.lemmas.List.{take_min, length-drop}
use Rattle.wm_traits.proofs.Telling.{Grows-then}
use Rattle.wm_traits.specs.Told.{Grows}

-- the first n bytes are written, and no call has failed
pub record WriteLoop (bytes : List ℕ) (n : ℕ) (old new : Option (List ℕ)) (before now : ℕ) : Type 0 where
  pub within : n ≤ length bytes
  pub written : Grows old new (take n bytes)
  pub faults : now ≡ before

-- a front that is as long as the list is the list
pub take_whole : (n : ℕ) (xs : List ℕ) → length xs ≤ n → take n xs ≡ xs
take_whole n xs short =
    let m : min n (length xs) ≡ length xs = omega arith in
    sym (take_min n xs) ∙ (ap (λ (k : ℕ). take k xs) m ∙ take-length xs)

pub rest_of : (at : ℕ) (bytes : List ℕ) → take (length bytes - at) (drop at bytes) ≡ drop at bytes
rest_of at bytes = take_whole (length bytes - at) (drop at bytes) (omega (arith, length-drop {A = ℕ} at bytes))

-- one write more
pub write_more : (bytes : List ℕ) (at n : ℕ) (old mid new : Option (List ℕ)) → Grows old mid (take at bytes) → Grows mid new (take n (take (length bytes - at) (drop at bytes))) → Grows old new (take (at + n) bytes)
write_more bytes at n old mid new h k =
    let more = subst (λ (xs : List ℕ). Grows mid new (take n xs)) (rest_of at bytes) k in
    subst (λ (xs : List ℕ). Grows old new xs) (sym (take-add at n bytes)) (Grows-then old mid new _ _ h more)

pub write_within : (bytes : List ℕ) (at n : ℕ) → at ≤ length bytes → n ≤ length (take (length bytes - at) (drop at bytes)) → at + n ≤ length bytes
write_within bytes at n h k = omega (arith, ap length (rest_of at bytes), length-drop {A = ℕ} at bytes)
