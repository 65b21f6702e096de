-- Connections that were served, one after another.
use Rattle.std.proofs.Common.{◌≡◌, ◌∙◌, ℕ, ◌≤◌, List, [], ◌∷◌, ◌++◌, Option, Some, None, sym, subst, arith}
use Rattle.std.proofs.lemmas.Option.{same_Some}
use Rattle.wm_floor.specs.Floor.{HasLooked, Seen}
use Rattle.wm_floor.specs.declared.opened.Opened.{Opened}
use Rattle.wm_listener.specs.Had.{GivesBack, Had}
use Rattle.wm_traits.specs.Told.{IsEmpty, Stays}
use Rattle.wm_traits.proofs.Telling.{Grows-none, Grows-then}
use Rattle.wm_web.specs.Serving.{TakesSession}
use Rattle.wm_web.specs.declared.end.WebEnd.{WebEnd}
use Rattle.wm_web.specs.declared.end.WebEnd.TheVariants.{ReadFault, WriteFault}
use Rattle.wm_serve.specs.Connections.{DeskServes, ServesAll}
use Rattle.wm_serve.proofs.Looking.{looked_none, looked_then}

module _ {K : Type 0} (o : Opened K) where
  ServesAll-then : (hs ks : List Had) (p q r : Seen K) → ServesAll o hs p q → ServesAll o ks q r → ServesAll o (hs ++ ks) p r
  ServesAll-then [] [] p q r h k = looked_then p q r h k
  ServesAll-then [] (x ∷ ks) p q r h k = record { start = k.start; mid = k.mid; looked = looked_then p q k.start h k.looked; one = k.one; rest = k.rest }
  ServesAll-then (x ∷ hs) ks p q r h k = record { start = h.start; mid = h.mid; looked = h.looked; one = h.one; rest = ServesAll-then hs ks h.mid q r h.rest k }

  pub DeskServes-then : (before mid now : Option (List Had)) (p q r : Seen K) → DeskServes o before mid p q → DeskServes o mid now q r → DeskServes o before now p r
  DeskServes-then before mid None p q r h k = tt
  DeskServes-then before None (Some n) p q r h k = absurd k.had
  DeskServes-then before (Some m) (Some n) p q r h k = record {
    more = h.more ++ k.more;
    had = Grows-then before (Some m) (Some n) h.more k.more h.had k.had;
    served = ServesAll-then h.more k.more p q r h.served k.served;
  }

  -- none was served
  pub DeskServes-none : (told : Option (List Had)) (p q : Seen K) → HasLooked p q → DeskServes o told told p q
  DeskServes-none None p q h = tt
  DeskServes-none (Some hs) p q h = record { more = []; had = Grows-none (Some hs); served = h }

  pub DeskServes-stays : (before now : Option (List Had)) (p : Seen K) → Stays before now → DeskServes o before now p p
  DeskServes-stays before None p h = tt
  DeskServes-stays None (Some n) p h = absurd h
  DeskServes-stays (Some b) (Some n) p h = subst (λ (told : List Had). DeskServes o (Some b) (Some told) p p) (sym h) (DeskServes-none (Some b) p p (looked_none p))

  -- the one that was given back
  pub DeskServes-one : (before now : Option (List Had)) (hand : Option (Option (List ℕ))) (given left start written : Option (List ℕ)) (reads writes : ℕ) (end : WebEnd) (p q r : Seen K) → hand ≡ Some given → GivesBack before now hand left written reads writes → TakesSession o end given left p q start written → IsEmpty start → (end ≡ ReadFault → 1 ≤ reads) → (end ≡ WriteFault → 1 ≤ writes) → HasLooked q r → DeskServes o before now p r
  DeskServes-one before None hand given left start written reads writes end p q r came gives session none read write looked = tt
  DeskServes-one None (Some n) hand given left start written reads writes end p q r came gives session none read write looked = absurd gives
  DeskServes-one (Some b) (Some n) hand given left start written reads writes end p q r came gives session none read write looked =
      let last = gives.last in
      let first : given ≡ Some last.given = same_Some given (Some last.given) (sym came ∙ gives.came) in
      let one = subst (λ (t : Option (List ℕ)). TakesSession o end t left p q start written) first session in
      let two = subst (λ (t : Option (List ℕ)). TakesSession o end (Some last.given) t p q start written) gives.rest one in
      record {
        more = last ∷ [];
        had = gives.more;
        served = record {
          start = p;
          mid = q;
          looked = looked_none p;
          one = record {
            end = end;
            before = start;
            unwritten = none;
            session = subst (λ (t : Option (List ℕ)). TakesSession o end (Some last.given) (Some last.left) p q start t) gives.said two;
            read_fault = λ e. let some = read e in let same = gives.reads in omega arith;
            write_fault = λ e. let some = write e in let same = gives.writes in omega arith;
          };
          rest = looked;
        };
      }
