-- What a change of the counts by the keys of a how says of the hows.
use Rattle.std.proofs.Common.{◌≡◌, ℕ, ◌+◌, ◌^◌, ◌<◌, ◌≤◌, Bool, true, false, cond, List, ◌∷◌, length, count_by, ap, ◌∙◌, arith}
use Rattle.std.proofs.lemmas.List.Sums.{sum_by-cons, count_by-le-length}
use Rattle.wm_base.specs.declared.job.How.{How}
use Rattle.wm_pick.specs.declared.counted.Counted.{Counted}
use Rattle.wm_pick.specs.declared.counted.Counted.TheVariants.{Sbs, Queue, Pty, Route, Pre}
use Rattle.wm_pick.specs.Counted.{same_counted, counted, number_of}
use Rattle.wm_pick.specs.How.{keys_of}
use Rattle.wm_pick.specs.Rows.{number_at}
use Rattle.wm_pick.proofs.KeysOf.{times, times-Sbs, times-Queue, times-Pty, times-Route, times-Pre}

times-counted : (how : How) (k : Counted) → times k how ≡ cond (counted how k) 1 0
times-counted how (Sbs sbs) = times-Sbs sbs how
times-counted how (Queue sbs jobq) = times-Queue sbs jobq how
times-counted how (Pty sbs jobq pty) = times-Pty sbs jobq pty how
times-counted how (Route sbs route) = times-Route sbs route how
times-counted how (Pre sbs pgm) = times-Pre sbs pgm how

-- the number after a start, and after an end
one_more : (new old keys hows bit all : ℕ) → new ≡ old + keys → old ≡ hows → keys ≡ bit → all ≡ bit + hows → new ≡ all
one_more new old keys hows bit all a b c d = omega arith

one_less : (new old keys others bit all : ℕ) → new + keys ≡ old → old ≡ all → keys ≡ bit → all ≡ bit + others → new ≡ others
one_less new old keys others bit all a b c d = omega arith

-- one how more fits
fits_more : (old keys hows len most : ℕ) (b : Bool) → old ≡ hows → hows ≤ len → keys ≡ cond b 1 0 → len + 1 < most → old + keys < most
fits_more old keys hows len most true a b c d = omega arith
fits_more old keys hows len most false a b c d = omega arith

-- a how that is there is counted
at_least : (old keys others bit all : ℕ) → old ≡ all → keys ≡ bit → all ≡ bit + others → keys ≤ old
at_least old keys others bit all a b c = omega arith

-- where these are the keys that a how names
module _ (how : How) (keys : List Counted) (named : keys ≡ keys_of how) where
  count_by-keys : (k : Counted) → count_by (λ q. same_counted q k) keys ≡ cond (counted how k) 1 0
  count_by-keys k = ap (λ (l : List Counted). count_by (λ q. same_counted q k) l) named ∙ times-counted how k

  number_of-cons : (k : Counted) (hows : List How) → number_of k (how ∷ hows) ≡ cond (counted how k) 1 0 + number_of k hows
  number_of-cons k hows = sum_by-cons (λ h. cond (counted h k) 1 0) how hows

  -- the tally of some hows becomes that of these and this one
  pub started : (old new : List (Counted × ℕ)) → ((k : Counted) → number_at same_counted k new ≡ number_at same_counted k old + count_by (λ q. same_counted q k) keys) → (hows : List How) → ((k : Counted) → number_at same_counted k old ≡ number_of k hows) → (k : Counted) → number_at same_counted k new ≡ number_of k (how ∷ hows)
  started old new numbers hows are k =
      one_more (number_at same_counted k new) (number_at same_counted k old) (count_by (λ q. same_counted q k) keys) (number_of k hows) (cond (counted how k) 1 0) (number_of k (how ∷ hows)) (numbers k) (are k) (count_by-keys k) (number_of-cons k hows)

  -- and the other way round
  pub ended : (old new : List (Counted × ℕ)) → ((k : Counted) → number_at same_counted k new + count_by (λ q. same_counted q k) keys ≡ number_at same_counted k old) → (others : List How) → ((k : Counted) → number_at same_counted k old ≡ number_of k (how ∷ others)) → (k : Counted) → number_at same_counted k new ≡ number_of k others
  ended old new numbers others are k =
      one_less (number_at same_counted k new) (number_at same_counted k old) (count_by (λ q. same_counted q k) keys) (number_of k others) (cond (counted how k) 1 0) (number_of k (how ∷ others)) (numbers k) (are k) (count_by-keys k) (number_of-cons k others)

  pub fits : (old : List (Counted × ℕ)) (hows : List How) → ((k : Counted) → number_at same_counted k old ≡ number_of k hows) → length hows + 1 < 2 ^ 32 → (k : Counted) → number_at same_counted k old + count_by (λ q. same_counted q k) keys < 2 ^ 32
  fits old hows are few k =
      fits_more (number_at same_counted k old) (count_by (λ q. same_counted q k) keys) (number_of k hows) (length hows) (2 ^ 32) (counted how k) (are k) (count_by-le-length (λ h. counted h k) hows) (count_by-keys k) few

  pub enough : (old : List (Counted × ℕ)) (others : List How) → ((k : Counted) → number_at same_counted k old ≡ number_of k (how ∷ others)) → (k : Counted) → count_by (λ q. same_counted q k) keys ≤ number_at same_counted k old
  enough old others are k =
      at_least (number_at same_counted k old) (count_by (λ q. same_counted q k) keys) (number_of k others) (cond (counted how k) 1 0) (number_of k (how ∷ others)) (are k) (count_by-keys k) (number_of-cons k others)
