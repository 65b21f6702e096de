-- Reading on until a request is whole.
use Rattle.std.proofs.Common.{◌≡◌, ◌≤◌, ℕ, List, [], ◌++◌, length, Option, sym, ap, ◌∙◌, append_assoc, append-nil}
use Rattle.wm_traits.proofs.Telling.{Takes-none, Takes-then}
use Rattle.wm_web.specs.Reading.{ReadsOn}

-- nothing was read
pub reads_none : (left : Option (List ℕ)) (unread : List ℕ) → ReadsOn left left unread unread
reads_none left unread = record { bytes = []; taken = Takes-none left; unread = sym (append-nil unread) }

-- some bytes were read, and then some more
pub reads_then : (l0 l1 l2 : Option (List ℕ)) (a b c : List ℕ) → ReadsOn l0 l1 a b → ReadsOn l1 l2 b c → ReadsOn l0 l2 a c
reads_then l0 l1 l2 a b c h k = record {
  bytes = h.bytes ++ k.bytes;
  taken = Takes-then l0 l1 l2 h.bytes k.bytes h.taken k.taken;
  unread = k.unread ∙ ap (λ (l : List ℕ). l ++ k.bytes) h.unread ∙ append_assoc a h.bytes k.bytes;
}

-- reads so far, each of which gave a byte; the pass is as it was
pub record ReadLoop {P : Type 0} (left_before left_now : Option (List ℕ)) (unread_before unread_now : List ℕ) (count before now : ℕ) (old new : P) : Type 0 where
  pub reads : ReadsOn left_before left_now unread_before unread_now
  pub some : count ≤ length unread_now
  pub faults : before ≤ now
  pub pass : new ≡ old
