-- What stays true while a monitor goes on.
use Rattle.std.proofs.Common.{◌≡◌, ℕ, ◌+◌, ◌<◌, ◌≤◌, List, Option, length, sym, refl, arith}
use Rattle.wm_floor.specs.Monitor.{hands_of}
use Rattle.wm_floor.specs.Floor.{Floored, IsPassOf, Seen}
use Rattle.wm_floor.specs.declared.monitor.Monitor.{Monitor}
use Rattle.wm_floor.specs.Advance.{Advances, GoesOn, added}
use Rattle.wm_floor.specs.Scene.{IsClear, Spawning, scene}
use Rattle.wm_floor.proofs.Advances.{Advances-looked, Advances-most, Advances-none, Advances-then}
use Rattle.wm_floor.proofs.Parts.{count_then, hands_none, hands_then, made_none}

module _ {K : Type 0} where
  -- so many Hands have been made, with so many entries, and the monitor keeps nothing; as long as there was none, the same children have a report
  pub record HandLoop (f : Floored K) (p q : Seen K) (m n : Monitor) (s t : Spawning) (reporting reporting_now : Option (List ℕ)) (count entries : ℕ) : Type 0 where
    pub part : Advances f count 0 p q (scene m s) (scene n t)
    pub clear : IsClear n
    pub hands : hands_of (added p q) ≡ count
    pub sent : entries ≡ length (added p q)
    pub quiet : count ≡ 0 → reporting_now ≡ reporting

  -- so many looks have been made, each with an entry, and the monitor keeps nothing; as long as there was none, the same children have a report
  pub record LookLoop (f : Floored K) (p q : Seen K) (m n : Monitor) (s t : Spawning) (reporting reporting_now : Option (List ℕ)) (count : ℕ) : Type 0 where
    pub part : Advances f 0 count p q (scene m s) (scene n t)
    pub clear : IsClear n
    pub sent : count ≡ length (added p q)
    pub quiet : count ≡ 0 → reporting_now ≡ reporting

  module _ (f : Floored K) where
    pub HandLoop-none : (p : Seen K) (m : Monitor) (s : Spawning) (reporting : Option (List ℕ)) → IsPassOf f p → IsClear m → HandLoop f p p m m s s reporting reporting 0 0
    HandLoop-none p m s reporting own clear = record {
      part = Advances-none f 0 0 p (scene m s) own;
      clear = clear;
      hands = hands_none f p p refl;
      sent = made_none f p p refl;
      quiet = λ none. refl;
    }

    -- so many Hands, and then one that ends the call early
    pub hands_part : (p q t : Seen K) (m k n : Monitor) (v x w : Spawning) (count : ℕ) → count < 256 → Advances f count 0 p q (scene m v) (scene k x) → Advances f 1 0 q t (scene k x) (scene n w) → Advances f 256 0 p t (scene m v) (scene n w)
    hands_part p q t m k n v x w count few part hand =
        let whole = Advances-then f count 0 1 0 p q t (scene m v) (scene k x) (scene n w) part hand in
        Advances-most f (count + 1) 0 256 0 p t (scene m v) (scene n w) whole (omega arith) (omega arith)

    HandLoop-more : (p q t : Seen K) (m k n : Monitor) (v x w : Spawning) (reporting before now : Option (List ℕ)) (count entries more : ℕ) → HandLoop f p q m k v x reporting before count entries → Advances f 1 0 q t (scene k x) (scene n w) → IsClear n → 1 ≤ hands_of (added q t) → more ≡ length (added q t) → HandLoop f p t m n v w reporting now (count + 1) (entries + more)
    HandLoop-more p q t m k n v x w reporting before now count entries more i hand clear some sent =
        let hands = hands_then f p q t i.part.pass hand.pass in
        let most = hand.within.hands_most in
        let had = i.hands in
        record {
          part = Advances-then f count 0 1 0 p q t (scene m v) (scene k x) (scene n w) i.part hand;
          clear = clear;
          hands = omega arith;
          sent = count_then f p q t entries more i.part.pass hand.pass i.sent sent;
          quiet = λ no. absurd (omega arith);
        }

    HandLoop-looked : (p q r : Seen K) (m n : Monitor) (s t : Spawning) (reporting now : Option (List ℕ)) (count entries : ℕ) → HandLoop f p q m n s t reporting now count entries → GoesOn f q r → r.mine ≡ q.mine → HandLoop f p r m n s t reporting now count entries
    HandLoop-looked p q r m n s t reporting now count entries i goes same =
        let looked = Advances-looked f 0 0 q r (scene n t) goes same in
        let whole = Advances-then f count 0 0 0 p q r (scene m s) (scene n t) (scene n t) i.part looked in
        let hands = hands_then f p q r i.part.pass goes in
        let none = hands_none f q r same in
        let had = i.hands in
        let sent = count_then f p q r entries 0 i.part.pass goes i.sent (made_none f q r same) in
        record {
          part = Advances-most f (count + 0) 0 count 0 p r (scene m s) (scene n t) whole (omega arith) (omega arith);
          clear = i.clear;
          hands = omega arith;
          sent = omega arith;
          quiet = i.quiet;
        }

    -- a Hand, and then a look at what waits
    pub HandLoop-next : (p q r t : Seen K) (m k n : Monitor) (v x w : Spawning) (reporting before now : Option (List ℕ)) (count entries more : ℕ) → HandLoop f p q m k v x reporting before count entries → Advances f 1 0 q r (scene k x) (scene n w) → IsClear n → 1 ≤ hands_of (added q r) → more ≡ length (added q r) → GoesOn f r t → t.mine ≡ r.mine → HandLoop f p t m n v w reporting now (count + 1) (entries + more)
    HandLoop-next p q r t m k n v x w reporting before now count entries more i hand clear some sent goes same =
        HandLoop-looked p r t m n v w reporting now (count + 1) (entries + more) (HandLoop-more p q r m k n v x w reporting before now count entries more i hand clear some sent) goes same

    pub LookLoop-none : (p : Seen K) (m : Monitor) (s : Spawning) (reporting : Option (List ℕ)) → IsPassOf f p → IsClear m → LookLoop f p p m m s s reporting reporting 0
    LookLoop-none p m s reporting own clear = record {
      part = Advances-none f 0 0 p (scene m s) own;
      clear = clear;
      sent = made_none f p p refl;
      quiet = λ none. refl;
    }

    -- so many looks, and then one more
    pub looks_part : (p q t : Seen K) (m k n : Monitor) (v x w : Spawning) (count : ℕ) → count < 256 → Advances f 0 count p q (scene m v) (scene k x) → Advances f 0 1 q t (scene k x) (scene n w) → Advances f 0 256 p t (scene m v) (scene n w)
    looks_part p q t m k n v x w count few part look =
        let whole = Advances-then f 0 count 0 1 p q t (scene m v) (scene k x) (scene n w) part look in
        Advances-most f 0 (count + 1) 0 256 p t (scene m v) (scene n w) whole (omega arith) (omega arith)

    pub LookLoop-more : (p q t : Seen K) (m k n : Monitor) (v x w : Spawning) (reporting before now : Option (List ℕ)) (count : ℕ) → LookLoop f p q m k v x reporting before count → Advances f 0 1 q t (scene k x) (scene n w) → IsClear n → length (added q t) ≡ 1 → LookLoop f p t m n v w reporting now (count + 1)
    LookLoop-more p q t m k n v x w reporting before now count i look clear one = record {
      part = Advances-then f 0 count 0 1 p q t (scene m v) (scene k x) (scene n w) i.part look;
      clear = clear;
      sent = count_then f p q t count 1 i.part.pass look.pass i.sent (sym one);
      quiet = λ no. absurd (omega arith);
    }
