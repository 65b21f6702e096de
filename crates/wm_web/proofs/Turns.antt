-- One request of a connection.
use Rattle.std.proofs.Common.{◌≡◌, ◌≤◌, ◌⊎◌, inl, inr, ℕ, Bool, true, false, List, [], length, take, drop, Option, refl, ap, subst, ◌∙◌, ◌==◌, if◌then◌else◌}
use Rattle.wm_floor.specs.Floor.{Seen}
use Rattle.wm_floor.specs.declared.opened.Opened.{Opened}
use Rattle.wm_http.specs.Answers.{closes_after, response_bytes}
use Rattle.wm_traits.specs.Told.{Grows}
use Rattle.wm_traits.proofs.Telling.{Grows-none}
use Rattle.wm_web.specs.Answered.{is_down}
use Rattle.wm_web.specs.Cuts.{asks_close}
use Rattle.wm_web.specs.Ends.{Closes, Ends, IsUnserved, end_of}
use Rattle.wm_web.specs.Reading.{ReadsOn}
use Rattle.wm_web.specs.Serving.{GoesOn, GoesOnOrEnds, IsServed, IsUnwritten, ServesNext}
use Rattle.wm_web.specs.Session.{Exchange, asks_end}
use Rattle.wm_web.specs.declared.end.WebEnd.{WebEnd}
use Rattle.wm_web.specs.declared.end.WebEnd.TheVariants.{Done, CutShort, Budget, PowerDown, ReadFault, WriteFault, NoMemory}
use Rattle.wm_web.specs.declared.served.Served.{Served}

-- behind an answer that closes it a connection isn't cut short, and no fault ends it
not_end : (end : WebEnd) (d b : Bool) → end ≡ (if d then PowerDown else (if b then Budget else Done)) → (end ≡ Done) ⊎ ((end ≡ Budget) ⊎ (end ≡ PowerDown))
not_end end true b is = inr (inr is)
not_end end false true is = inr (inl is)
not_end end false false is = inl is

module _ {K : Type 0} where
  -- no request was served
  pub unserved_ends : (o : Opened K) (end : WebEnd) (left : Option (List ℕ)) (n : ℕ) (unread : List ℕ) (old new : Seen K) (w : Option (List ℕ)) → IsUnserved o left unread old new end → Ends o end left n unread old new [] w w
  unserved_ends o Done left n unread old new w x = inl (record { unserved = x; written = Grows-none w })
  unserved_ends o CutShort left n unread old new w x = record { unserved = x; written = Grows-none w }
  unserved_ends o Budget left n unread old new w x = absurd x
  unserved_ends o PowerDown left n unread old new w x = absurd x
  unserved_ends o ReadFault left n unread old new w x = record { unserved = x; written = Grows-none w }
  unserved_ends o WriteFault left n unread old new w x = absurd x
  unserved_ends o NoMemory left n unread old new w x = record { unserved = x; written = Grows-none w }

  -- the exchange of a request that was served
  abbrev pub exchange_of : (o : Opened K) (unread : List ℕ) (old new : Seen K) (r : Served) → IsServed o unread old new r → Exchange K
  exchange_of o unread old new r s = record { cut = s.cut; answer = r.answered.answer; pass = new }

  -- whether it is asked to close, as the code has it
  pub asked_is : (o : Opened K) (n : ℕ) (unread : List ℕ) (old new : Seen K) (r : Served) (s : IsServed o unread old new r) (last : Bool) → last ≡ asks_end r.asks_close n r.answered.down → last ≡ asks_end (asks_close s.cut) n (is_down old new)
  asked_is o n unread old new r s last is =
      is ∙ ap (λ (b : Bool). asks_end b n r.answered.down) s.served.asks ∙ ap (asks_end (asks_close s.cut) n) s.served.down

  -- its response wasn't written whole
  pub unwritten_ends : (o : Opened K) (end : WebEnd) (left : Option (List ℕ)) (n : ℕ) (unread : List ℕ) (old new : Seen K) (r : Served) (last : Bool) (w0 w1 : Option (List ℕ)) → IsServed o unread old new r → last ≡ asks_end r.asks_close n r.answered.down → IsUnwritten (response_bytes r.answered.answer last) w0 w1 end → Ends o end left n unread old new [] w0 w1
  unwritten_ends o Done left n unread old new r last w0 w1 s is x = absurd x
  unwritten_ends o CutShort left n unread old new r last w0 w1 s is x = absurd x
  unwritten_ends o Budget left n unread old new r last w0 w1 s is x = absurd x
  unwritten_ends o PowerDown left n unread old new r last w0 w1 s is x = absurd x
  unwritten_ends o ReadFault left n unread old new r last w0 w1 s is x = absurd x
  unwritten_ends o WriteFault left n unread old new r last w0 w1 s is x = record {
    last = exchange_of o unread old new r s;
    exchange = record { cut = s.is; answers = s.served.answers };
    pass = refl;
    count = x.0;
    written = subst (λ (b : Bool). Grows w0 w1 (take x.0 (response_bytes r.answered.answer b))) (asked_is o n unread old new r s last is) x.1;
  }
  unwritten_ends o NoMemory left n unread old new r last w0 w1 s is x = record {
    unserved = inr (s.cut, s.is, inr (r.answered.answer, s.served.answers));
    written = x;
  }

  closes_ends : (o : Opened K) (end : WebEnd) (left : Option (List ℕ)) (n : ℕ) (unread : List ℕ) (old new : Seen K) (due : List ℕ) (w0 w1 : Option (List ℕ)) → Closes o end n unread old new due w0 w1 → (end ≡ Done) ⊎ ((end ≡ Budget) ⊎ (end ≡ PowerDown)) → Ends o end left n unread old new due w0 w1
  closes_ends o Done left n unread old new due w0 w1 c known = inr c
  closes_ends o Budget left n unread old new due w0 w1 c known = c
  closes_ends o PowerDown left n unread old new due w0 w1 c known = c
  closes_ends o CutShort left n unread old new due w0 w1 c (inl e) = absurd (cc)
  closes_ends o CutShort left n unread old new due w0 w1 c (inr (inl e)) = absurd (cc)
  closes_ends o CutShort left n unread old new due w0 w1 c (inr (inr e)) = absurd (cc)
  closes_ends o ReadFault left n unread old new due w0 w1 c (inl e) = absurd (cc)
  closes_ends o ReadFault left n unread old new due w0 w1 c (inr (inl e)) = absurd (cc)
  closes_ends o ReadFault left n unread old new due w0 w1 c (inr (inr e)) = absurd (cc)
  closes_ends o WriteFault left n unread old new due w0 w1 c (inl e) = absurd (cc)
  closes_ends o WriteFault left n unread old new due w0 w1 c (inr (inl e)) = absurd (cc)
  closes_ends o WriteFault left n unread old new due w0 w1 c (inr (inr e)) = absurd (cc)
  closes_ends o NoMemory left n unread old new due w0 w1 c (inl e) = absurd (cc)
  closes_ends o NoMemory left n unread old new due w0 w1 c (inr (inl e)) = absurd (cc)
  closes_ends o NoMemory left n unread old new due w0 w1 c (inr (inr e)) = absurd (cc)

  -- its answer closes the connection
  pub served_ends : (o : Opened K) (end : WebEnd) (left : Option (List ℕ)) (n : ℕ) (unread : List ℕ) (old new : Seen K) (r : Served) (last : Bool) (w0 w1 : Option (List ℕ)) → IsServed o unread old new r → last ≡ asks_end r.asks_close n r.answered.down → Grows w0 w1 (response_bytes r.answered.answer last) → closes_after r.answered.answer last ≡ true → end ≡ end_of r.answered.down n → Ends o end left n unread old new [] w0 w1
  served_ends o end left n unread old new r last w0 w1 s is x closes end_is =
      let asked = asked_is o n unread old new r s last is in
      let down : end ≡ end_of (is_down old new) n = end_is ∙ ap (λ (d : Bool). end_of d n) s.served.down in
      closes_ends o end left n unread old new [] w0 w1 (record {
        last = exchange_of o unread old new r s;
        exchange = record { cut = s.is; answers = s.served.answers };
        pass = refl;
        closes = subst (λ (b : Bool). closes_after r.answered.answer b ≡ true) asked closes;
        end_is = down;
        written = subst (λ (b : Bool). Grows w0 w1 (response_bytes r.answered.answer b)) asked x;
      }) (not_end end (is_down old new) (n == 9999) down)

  -- the connection goes on behind it
  pub served_goes_on : (o : Opened K) (n : ℕ) (read unread : List ℕ) (old new : Seen K) (r : Served) (last : Bool) (w0 w1 : Option (List ℕ)) → IsServed o read old new r → last ≡ asks_end r.asks_close n r.answered.down → Grows w0 w1 (response_bytes r.answered.answer last) → closes_after r.answered.answer last ≡ false → unread ≡ drop r.len read → GoesOn o n read unread old new w0 w1
  served_goes_on o n read unread old new r last w0 w1 s is x open_ left =
      let asked = asked_is o n read old new r s last is in
      record {
        one = exchange_of o read old new r s;
        exchange = record { cut = s.is; answers = s.served.answers };
        pass = refl;
        open_ = subst (λ (b : Bool). closes_after r.answered.answer b ≡ false) asked open_;
        left = left ∙ s.served.len;
        written = subst (λ (b : Bool). Grows w0 w1 (response_bytes r.answered.answer b)) asked x;
      }

  -- the bytes that were read for it stand behind those that were unread
  pub next_of : (o : Opened K) (came : Option WebEnd) (n : ℕ) (l0 l1 : Option (List ℕ)) (unread read now : List ℕ) (old new : Seen K) (w0 w1 : Option (List ℕ)) → ReadsOn l0 l1 unread read → length read ≤ 16384 → GoesOnOrEnds o came l1 n read now old new w0 w1 → ServesNext o came n l0 l1 unread now old new w0 w1
  next_of o came n l0 l1 unread read now old new w0 w1 reads most x = record {
    bytes = reads.bytes;
    taken = reads.taken;
    most = subst (λ (l : List ℕ). length l ≤ 16384) reads.unread most;
    came = subst (λ (l : List ℕ). GoesOnOrEnds o came l1 n l now old new w0 w1) reads.unread x;
  }
