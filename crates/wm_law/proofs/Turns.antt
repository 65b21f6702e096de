-- The turn of a job, and which of two jobs stands before the other.
use Rattle.std.proofs.Common.{◌≡◌, Bool, true, false, cond, List, [], ◌∷◌, Option, Some, None, is_some, refl, sym, ap, subst, ◌∙◌}
use Rattle.std.specs.List.{find}
use Rattle.std.specs.Option.{option_and_then}
use Rattle.wm_base.specs.declared.qname.QName.{QName}
use Rattle.wm_base.proofs.Tests.{Some-injective}
use Rattle.wm_desc.specs.declared.description.Sbsd.{Sbsd}
use Rattle.wm_desc.specs.declared.entry.QueueEntry.{QueueEntry}
use Rattle.wm_desc.specs.Table.{object_named}
use Rattle.wm_law.specs.declared.job.Job.{Job}
use Rattle.wm_law.specs.declared.launch.Launched.{Launched}
use Rattle.wm_law.specs.declared.state.Sbs.{Sbs}
use Rattle.wm_law.specs.declared.state.State.{State}
use Rattle.wm_law.specs.Choice.{Turn, entry_for, holder, is_before, turn_by_description, turn_by_entry, turn_by_holder, turn_by_queue, turn_of}
use Rattle.wm_law.specs.Launch.{as_launched}
use Rattle.wm_law.specs.Laws.{IsFirst, IsIn, MayStart}
use Rattle.wm_law.specs.Order.{before_by, stands_before}
use Rattle.wm_law.proofs.Members.{found_among}

-- what a turn is
pub record IsTurn (s : State) (j : Job) (t : Turn) : Type 0 where
  pub queue : j.jobq ≡ Some t.queue
  pub holder : holder s t.queue ≡ Some t.sbs
  pub sbsd : object_named t.sbs.sbsd s.objects.sbsds ≡ Some t.sbsd
  pub entry : entry_for t.queue t.sbsd ≡ Some t.entry

by_entry : (s : State) (j : Job) (q : QName) (b : Sbs) (d : Sbsd) (o : Option QueueEntry) (t : Turn) → j.jobq ≡ Some q → holder s q ≡ Some b → object_named b.sbsd s.objects.sbsds ≡ Some d → entry_for q d ≡ o → turn_by_entry q b d o ≡ Some t → IsTurn s j t
by_entry s j q b d None t i h k l e = absurd (cc)
by_entry s j q b d (Some n) t i h k l e =
    let u : Turn = record { queue = q; sbs = b; sbsd = d; entry = n } in
    let this : IsTurn s j u = record { queue = i; holder = h; sbsd = k; entry = l } in
    subst (IsTurn s j) (Some-injective u t e) this

by_description : (s : State) (j : Job) (q : QName) (b : Sbs) (o : Option Sbsd) (t : Turn) → j.jobq ≡ Some q → holder s q ≡ Some b → object_named b.sbsd s.objects.sbsds ≡ o → turn_by_description q b o ≡ Some t → IsTurn s j t
by_description s j q b None t i h k e = absurd (cc)
by_description s j q b (Some d) t i h k e = by_entry s j q b d (entry_for q d) t i h k refl e

by_holder : (s : State) (j : Job) (q : QName) (o : Option Sbs) (t : Turn) → j.jobq ≡ Some q → holder s q ≡ o → turn_by_holder s q o ≡ Some t → IsTurn s j t
by_holder s j q None t i h e = absurd (cc)
by_holder s j q (Some b) t i h e = by_description s j q b (object_named b.sbsd s.objects.sbsds) t i h refl e

by_queue : (s : State) (j : Job) (o : Option QName) (t : Turn) → j.jobq ≡ o → turn_by_queue s o ≡ Some t → IsTurn s j t
by_queue s j None t i e = absurd (cc)
by_queue s j (Some q) t i e = by_holder s j q (holder s q) t i refl e

pub is_turn : (s : State) (j : Job) (t : Turn) → turn_of s j ≡ Some t → IsTurn s j t
is_turn s j t e = by_queue s j j.jobq t refl e

-- and so what makes up a turn is the job's turn
pub has_turn : (s : State) (j : Job) (t : Turn) → IsTurn s j t → turn_of s j ≡ Some t
has_turn s j t i =
    ap (turn_by_queue s) i.queue
    ∙ ap (turn_by_holder s t.queue) i.holder
    ∙ ap (turn_by_description t.queue t.sbs) i.sbsd
    ∙ ap (turn_by_entry t.queue t.sbs t.sbsd) i.entry

-- with their turns, whether one job stands before another is by these
pub by_turns : (s : State) (j k : Job) (t u : Turn) → turn_of s j ≡ Some t → turn_of s k ≡ Some u → stands_before s j k ≡ is_before t j u k
by_turns s j k t u e f = ap (λ (o : Option Turn). before_by o j (turn_of s k) k) e ∙ ap (λ (o : Option Turn). before_by (Some t) j o k) f

not_first : (s : State) (k j : Job) (u t : Turn) (b : Bool) → is_before u k t j ≡ b → IsFirst s j t → IsIn k s.jobs → MayStart s k u → b ≡ false
not_first s k j u t true e f i m = absurd (f.none_before k u i m e)
not_first s k j u t false e f i m = refl

-- no job that may start stands before the first job
pub none_ahead : (s : State) (k j : Job) (u t : Turn) → IsFirst s j t → IsIn k s.jobs → MayStart s k u → stands_before s k j ≡ false
none_ahead s k j u t f i m =
    let same = by_turns s k j u t m.turn f.may.turn in
    same ∙ not_first s k j u t (is_before u k t j) refl f i m

behind_by : (l : Launched) (o p : Option Turn) (j k : Job) → before_by o j p (as_launched l k) ≡ before_by o j p k
behind_by l None p j k = refl
behind_by l (Some t) None j k = refl
behind_by l (Some t) (Some u) j k = refl

ahead_by : (l : Launched) (o p : Option Turn) (j k : Job) → before_by o (as_launched l j) p k ≡ before_by o j p k
ahead_by l None p j k = refl
ahead_by l (Some t) None j k = refl
ahead_by l (Some t) (Some u) j k = refl

-- a launch leaves a job its place in the order
pub behind_launched : (s : State) (l : Launched) (j k : Job) → stands_before s j (as_launched l k) ≡ stands_before s j k
behind_launched s l j k = behind_by l (turn_of s j) (turn_of s k) j k

pub ahead_launched : (s : State) (l : Launched) (j k : Job) → stands_before s (as_launched l j) k ≡ stands_before s j k
ahead_launched s l j k = ahead_by l (turn_of s j) (turn_of s k) j k

module _ {X K : Type 0} (key : X → K) (p q : K → Bool) where
  found_by : (z : X) (xs : List X) (x y : X) (a b : Bool) → p (key z) ≡ a → q (key z) ≡ b → cond a (Some z) (find (λ (v : X). p (key v)) xs) ≡ Some x → cond b (Some z) (find (λ (v : X). q (key v)) xs) ≡ Some y → key x ≡ key y → (find (λ (v : X). p (key v)) xs ≡ Some x → find (λ (v : X). q (key v)) xs ≡ Some y → x ≡ y) → x ≡ y
  found_by z xs x y true true d e f g k rest = sym (Some-injective z x f) ∙ Some-injective z y g
  found_by z xs x y true false d e f g k rest =
      let yes : q (key z) ≡ true = ap q (ap key (Some-injective z x f) ∙ k) ∙ (found_among (λ (v : X). q (key v)) xs y g).1 in
      absurd (cc)
  found_by z xs x y false true d e f g k rest =
      let yes : p (key z) ≡ true = ap p (ap key (Some-injective z y g) ∙ sym k) ∙ (found_among (λ (v : X). p (key v)) xs x f).1 in
      absurd (cc)
  found_by z xs x y false false d e f g k rest = rest f g

  -- what two tests of a key find first is one element, where the key is one
  found_one : (xs : List X) (x y : X) → find (λ (v : X). p (key v)) xs ≡ Some x → find (λ (v : X). q (key v)) xs ≡ Some y → key x ≡ key y → x ≡ y
  found_one [] x y f g k = absurd (cc)
  found_one (z ∷ xs) x y f g k = found_by z xs x y (p (key z)) (q (key z)) refl refl f g k (λ d e. found_one xs x y d e k)

-- a subsystem of the name has an entry for the queue
abbrev feeds : State → QName → QName → Bool
feeds s queue sbs = is_some (option_and_then (entry_for queue) (object_named sbs s.objects.sbsds))

-- the holders of two queues are one, where their names are
one_holder : (s : State) (q r : QName) (b c : Sbs) → holder s q ≡ Some b → holder s r ≡ Some c → b.sbsd ≡ c.sbsd → b ≡ c
one_holder s q r b c e f k = found_one (λ (x : Sbs). x.sbsd) (feeds s q) (feeds s r) s.started b c e f k

-- two turns whose holders have one name have one holder and one description
pub one_sbs : (s : State) (j k : Job) (t u : Turn) → IsTurn s j t → IsTurn s k u → u.sbs.sbsd ≡ t.sbs.sbsd → (t.sbs ≡ u.sbs) × (t.sbsd ≡ u.sbsd)
one_sbs s j k t u m i same = (
  one_holder s t.queue u.queue t.sbs u.sbs m.holder i.holder (sym same),
  Some-injective t.sbsd u.sbsd (sym m.sbsd ∙ ap (λ (q : QName). object_named q s.objects.sbsds) (sym same) ∙ i.sbsd),
)
