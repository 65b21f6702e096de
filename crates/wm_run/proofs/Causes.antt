-- The causes of an error that is passed on.
use Rattle.std.proofs.Common.{◌≡◌, ℕ, ◌≤◌, Result, Err, arith}
use Rattle.wm_run.specs.Halt.{HasCauses}
use Rattle.wm_run.specs.declared.halt.Halt.{Halt}

-- an error that is passed on has its cause, since an earlier moment too
pub HasCauses-pass : {T U : Type 0} (r : Result T Halt) (q : Result U Halt) (e d : Halt) (a b c x y z : ℕ) → r ≡ Err e → q ≡ Err d → d ≡ e → a ≤ b → x ≤ y → HasCauses r b c y z → HasCauses q a c x z
HasCauses-pass r q e d a b c x y z was is same before looked h =
    record {
      written = let k = h.written in omega arith;
      looked = let k = h.looked in omega arith;
      write_fault = λ f. let k = h.write_fault (cc) in omega arith;
      wait_fault = λ f. let k = h.wait_fault (cc) in omega arith;
      no_read_fault = λ f. h.no_read_fault (cc);
      not_full = λ f. h.not_full (cc);
    }
