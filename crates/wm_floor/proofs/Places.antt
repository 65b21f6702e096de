-- Where the values of a list in parts stand.
use Rattle.std.proofs.Common.{◌≡◌, ◌<◌, ◌≤◌, ◌+◌, ◌-◌, ◌*◌, ◌/◌, ◌%◌, ◌++◌, ℕ, zero, suc, List, [], ◌∷◌, length, get_or, Some, sym, refl, ap, ◌∙◌, append_assoc, arith, length-append}
use Rattle.std.proofs.lemmas.Option.{slice_get_read}
use Rattle.std.specs.List.{slice_get, flat_map, All}
use Rattle.wm_floor.specs.declared.shared_list.TheConstants.{PART}

-- a place in the first of two lists, and one in the second
slice_get_front : {A : Type 0} (xs ys : List A) (i : ℕ) → i < length xs → slice_get (xs ++ ys) i ≡ slice_get xs i
slice_get_front [] ys i h = absurd (omega arith)
slice_get_front (x ∷ xs) ys zero h = refl
slice_get_front (x ∷ xs) ys (suc i) h = slice_get_front xs ys i (omega arith)

slice_get_behind : {A : Type 0} (xs ys : List A) (i j : ℕ) → i ≡ length xs + j → slice_get (xs ++ ys) i ≡ slice_get ys j
slice_get_behind [] ys i j e = ap (slice_get ys) (omega arith)
slice_get_behind (x ∷ xs) ys zero j e = absurd (omega arith)
slice_get_behind (x ∷ xs) ys (suc i) j e = slice_get_behind xs ys i j (omega arith)

module _ {V T : Type 0} (items : V → List T) where
  abbrev AreFull : List V → Type 0
  AreFull full = All (λ part. length (items part) ≡ PART) full

  later : (part : V) (full : List V) → AreFull (part ∷ full) → AreFull full
  later part full each = λ k d h. each (suc k) d (omega arith)

  -- how many values full parts have
  length_full : (full : List V) → AreFull full → length (flat_map items full) ≡ length full * PART
  length_full [] each = refl
  length_full (part ∷ full) each =
      let first : length (items part) ≡ PART = each 0 part (omega arith) in
      let rest = length_full full (later part full each) in
      omega (arith, length-append (items part) (flat_map items full))

  -- how many values there are
  pub length_parts : (full : List V) (last : List T) → AreFull full → length (flat_map items full ++ last) ≡ length full * PART + length last
  length_parts full last each = omega (arith, length_full full each, length-append (flat_map items full) last)

  -- a place of a full part
  in_full : (full : List V) (last : List T) (k r : ℕ) (part : V) → AreFull full → slice_get full k ≡ Some part → r < PART → slice_get (flat_map items full ++ last) (k * PART + r) ≡ slice_get (items part) r
  in_full [] last k r part each is within = absurd (cc)
  in_full (p ∷ full) last zero r part each is within =
      let first : length (items p) ≡ PART = each 0 p (omega arith) in
      let same : p ≡ part = cc in
      let place : 0 * PART + r ≡ r = omega arith in
      rw (append_assoc, place) (slice_get_front (items p) (flat_map items full ++ last) r (omega arith) ∙ ap (λ (v : V). slice_get (items v) r) same)
  in_full (p ∷ full) last (suc k) r part each is within =
      let first : length (items p) ≡ PART = each 0 p (omega arith) in
      rw append_assoc (slice_get_behind (items p) (flat_map items full ++ last) (suc k * PART + r) (k * PART + r) (omega arith) ∙ in_full full last k r part (later p full each) is within)

  -- a value of a full part
  pub found_full : (full : List V) (last : List T) (at : ℕ) (part : V) → AreFull full → at / PART < length full → part ≡ get_or full (at / PART) part → slice_get (flat_map items full ++ last) at ≡ slice_get (items part) (at % PART)
  found_full full last at part each within is =
      let place : at / PART * PART + at % PART ≡ at = omega arith in
      let found = slice_get_read full (length full) (at / PART) part refl within is in
      ap (slice_get (flat_map items full ++ last)) (sym place) ∙ in_full full last (at / PART) (at % PART) part each found (omega arith)

  -- a value of the last part
  pub found_last : (full : List V) (last : List T) (at : ℕ) → AreFull full → length full ≤ at / PART → slice_get last (at - length full * PART) ≡ slice_get (flat_map items full ++ last) at
  found_last full last at each past = sym (slice_get_behind (flat_map items full) last at (at - length full * PART) (omega (arith, length_full full each)))
