-- What the row of a key is after an edit of the row of another key, or of its own.
use Rattle.std.proofs.Common.{◌≡◌, ℕ, ◌+◌, ◌-◌, ◌%◌, ◌^◌, ◌<◌, ◌≤◌, Bool, true, false, cond, List, [], ◌∷◌, Option, Some, unwrap_or, nat_lt, refl, ap, sym, ◌∙◌, arith}
use Rattle.std.proofs.Math.Nat.{mod_self}
use Rattle.std.specs.Cmp.{IsEquivalence}
use Rattle.std.specs.Map.{lookup}
use Rattle.wm_indexes.specs.declared.namesakes.Namesakes.{Namesakes}
use Rattle.wm_indexes.specs.Namesakes.{nobody, parted, namesakes_at, HaveJobs, IsAmong}

module _ {K : Type 0} (eq : K → K → Bool) (laws : IsEquivalence eq) (key : K) where
  -- two keys that are one find the same
  lookup-same : (k : K) → eq key k ≡ true → (rows : List (K × Namesakes)) → lookup (eq k) rows ≡ lookup (eq key) rows
  lookup-same k h [] = refl
  lookup-same k h (row ∷ rows) =
      ap (λ b. cond b (Some row.1) (lookup (eq k) rows)) (sym (laws.congr key k row.0 h)) ∙ ap (λ o. cond (eq key row.0) (Some row.1) o) (lookup-same k h rows)

  -- the row of a key is another one now, or gone; the others are as before
  module _ (old new : List (K × Namesakes)) (row : Option Namesakes) (edits : (k : K) → lookup (eq k) new ≡ cond (eq key k) row (lookup (eq k) old)) where
    module _ (edit : Bool → Namesakes → Namesakes) (leaves : (n : Namesakes) → edit false n ≡ n) (is : unwrap_or row nobody ≡ edit true (namesakes_at eq key old)) where
      edited_by : (b : Bool) (k : K) → eq key k ≡ b → unwrap_or (cond b row (lookup (eq k) old)) nobody ≡ edit b (namesakes_at eq k old)
      edited_by true k h = is ∙ ap (λ o. edit true (unwrap_or o nobody)) (sym (lookup-same k h old))
      edited_by false k h = sym (leaves (namesakes_at eq k old))

      -- so those of each key are what the edit makes of them
      pub edited : (k : K) → namesakes_at eq k new ≡ edit (eq key k) (namesakes_at eq k old)
      edited k = ap (λ o. unwrap_or o nobody) (edits k) ∙ edited_by (eq key k) k refl

    module _ (some : (n : Namesakes) → row ≡ Some n → 1 ≤ n.count) (have : HaveJobs eq old) where
      kept_by : (b : Bool) (k : K) (n : Namesakes) → cond b row (lookup (eq k) old) ≡ Some n → 1 ≤ n.count
      kept_by true k n found = some n found
      kept_by false k n found = have k n found

      -- where the row has a job, each has
      pub kept : HaveJobs eq new
      kept k n found = kept_by (eq key k) k n (sym (edits k) ∙ found)

pub some-count : (n m : Namesakes) → 1 ≤ n.count → Some n ≡ Some m → 1 ≤ m.count
some-count n m some is = ap-count (cc is)
  where
    ap-count : n ≡ m → 1 ≤ m.count
    ap-count e = omega (arith, ap (λ (x : Namesakes). x.count) e, some)

-- where a job is among those of a row, and there aren't several, none is left without it
pub last : (serial : ℕ) (row : Namesakes) → serial < 2 ^ 64 → IsAmong serial row → nat_lt 1 row.count ≡ false → nobody ≡ parted true serial row
last serial row lt among single =
    let one : row.count ≡ 1 = grind (arith, among.some, single) in
    let count : 0 ≡ row.count - 1 = omega (arith, one) in
    let whole : row.serials + (2 ^ 64 - serial) ≡ 2 ^ 64 = omega (arith, among.alone one, lt) in
    let sum : 0 ≡ (row.serials + (2 ^ 64 - serial)) % 2 ^ 64 = sym (ap (λ (n : ℕ). n % 2 ^ 64) whole ∙ mod_self (2 ^ 64)) in
    ap (λ (n : ℕ). record { count = n; serials = 0 }) count ∙ ap (λ (n : ℕ). record { count = row.count - 1; serials = n }) sum
