-- How often a key stands among those that a how names: once where the how names it, and else not at all.
use Rattle.std.proofs.Common.{◌≡◌, ℕ, ◌+◌, Bool, true, false, cond, ◌&&◌, ◌==◌, count_by, refl, ap, ◌∙◌, arith}
use Rattle.wm_base.specs.declared.qname.QName.{QName}
use Rattle.wm_base.specs.declared.job.How.{How}
use Rattle.wm_base.specs.declared.job.How.TheVariants.{NotYet, FromQueue, Auto, Pre}
use Rattle.wm_desc.specs.Table.{same_qname}
use Rattle.wm_pick.specs.declared.counted.Counted.{Counted}
use Rattle.wm_pick.specs.declared.counted.Counted.TheVariants as key
use Rattle.wm_pick.specs.Counted.{same_counted, counted}
use Rattle.wm_pick.specs.How.{keys_of}

-- the one that isn't 0 of up to four numbers
alone : (n : ℕ) → 0 + n ≡ n
alone n = omega arith

alone_of_two : (n : ℕ) → 0 + n + 0 ≡ n
alone_of_two n = omega arith

alone_of_three : (n : ℕ) → 0 + n + 0 + 0 ≡ n
alone_of_three n = omega arith

alone_of_four : (n : ℕ) → 0 + n + 0 + 0 + 0 ≡ n
alone_of_four n = omega arith

and_regrouped : (a b c : Bool) → (a && (b && c)) ≡ (a && b && c)
and_regrouped true b c = refl
and_regrouped false b c = refl

abbrev pub times : Counted → How → ℕ
times k how = count_by (λ q. same_counted q k) (keys_of how)

pub times-Sbs : (q : QName) (how : How) → times (key.Sbs q) how ≡ cond (counted how (key.Sbs q)) 1 0
times-Sbs q NotYet = refl
times-Sbs q (FromQueue sbs jobq pty route) = alone_of_four (cond (same_qname sbs q) 1 0)
times-Sbs q (Auto sbs route) = alone_of_two (cond (same_qname sbs q) 1 0)
times-Sbs q (Pre sbs pgm) = alone_of_two (cond (same_qname sbs q) 1 0)

pub times-Queue : (q queue : QName) (how : How) → times (key.Queue q queue) how ≡ cond (counted how (key.Queue q queue)) 1 0
times-Queue q queue NotYet = refl
times-Queue q queue (FromQueue sbs jobq pty route) = alone_of_three (cond (same_qname sbs q && same_qname jobq queue) 1 0)
times-Queue q queue (Auto sbs route) = refl
times-Queue q queue (Pre sbs pgm) = refl

pub times-Pty : (q queue : QName) (p : ℕ) (how : How) → times (key.Pty q queue p) how ≡ cond (counted how (key.Pty q queue p)) 1 0
times-Pty q queue p NotYet = refl
times-Pty q queue p (FromQueue sbs jobq pty route) =
    alone_of_two (cond (same_qname sbs q && (same_qname jobq queue && pty == p)) 1 0) ∙ ap (λ b. cond b 1 0) (and_regrouped (same_qname sbs q) (same_qname jobq queue) (pty == p))
times-Pty q queue p (Auto sbs route) = refl
times-Pty q queue p (Pre sbs pgm) = refl

pub times-Route : (q : QName) (seq : ℕ) (how : How) → times (key.Route q seq) how ≡ cond (counted how (key.Route q seq)) 1 0
times-Route q seq NotYet = refl
times-Route q seq (FromQueue sbs jobq pty route) = alone (cond (same_qname sbs q && route == seq) 1 0)
times-Route q seq (Auto sbs route) = alone (cond (same_qname sbs q && route == seq) 1 0)
times-Route q seq (Pre sbs pgm) = refl

pub times-Pre : (q program : QName) (how : How) → times (key.Pre q program) how ≡ cond (counted how (key.Pre q program)) 1 0
times-Pre q program NotYet = refl
times-Pre q program (FromQueue sbs jobq pty route) = refl
times-Pre q program (Auto sbs route) = refl
times-Pre q program (Pre sbs pgm) = alone (cond (same_qname sbs q && same_qname pgm program) 1 0)
