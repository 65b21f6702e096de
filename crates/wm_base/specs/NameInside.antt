-- What lies in a `Name`.
use Rattle.std.specs.Prelude.{◌≡◌, ℕ, ◌-◌, ◌≤◌, List, ◌++◌, length, take, drop, replicate}
use Rattle.std.proofs.Common.{refl, arith}
use Rattle.std.proofs.lemmas.List.{length-take-le, take-append-drop}
use Rattle.wm_base.specs.declared.name.Name.TheInside.{Inside}
use Rattle.wm_base.specs.Name.{IsName}

-- the bytes of the name
abbrev pub name_bytes : Inside → List ℕ
name_bytes a = take a.len a.bytes

-- ten bytes: a name, and zeros behind it
pub record IsNameInside (a : Inside) : Type 0 where
  pub ten : length a.bytes ≡ 10
  pub len : a.len ≤ 10
  pub zeros : drop a.len a.bytes ≡ replicate (10 - a.len) 0
  pub name : IsName (take a.len a.bytes)

-- a name's bytes, with zeros behind them
abbrev pub inside_of : List ℕ → Inside
inside_of bytes = record { bytes = bytes ++ replicate (10 - length bytes) 0; len = length bytes }

pub inside_of-name_bytes : (a : Inside) → IsNameInside a → inside_of (name_bytes a) ≡ a
inside_of-name_bytes a h =
    let long : length (take a.len a.bytes) ≡ a.len = omega (arith, length-take-le a.len a.bytes, h.ten, h.len) in
    rw (long, ← h.zeros, take-append-drop) refl
