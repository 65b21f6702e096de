-- A connection, request by request.
use Rattle.std.proofs.Common.{◌≡◌, ◌≢◌, ℕ, ◌+◌, ◌*◌, ◌≤◌, inl, inr, Bool, true, false, List, [], ◌∷◌, ◌++◌, length, Option, None, Some, refl, sym, ap, subst, ◌∙◌, arith, append-nil}
use Rattle.std.proofs.lemmas.Bool.{true≢false}
use Rattle.std.proofs.lemmas.List.{length-append}
use Rattle.wm_floor.specs.Floor.{Floored, IsPassOf, IsSame, Seen}
use Rattle.wm_floor.specs.declared.opened.Opened.{Opened}
use Rattle.wm_traits.specs.Told.{Grows, Takes}
use Rattle.wm_traits.proofs.Telling.{Grows-none, Grows-then, Takes-none, Takes-then}
use Rattle.wm_http.specs.Answers.{closes_after}
use Rattle.wm_web.specs.Answered.{is_down}
use Rattle.wm_web.specs.Ends.{Closes, Ends, FailsWriting, IsSession, Stops}
use Rattle.wm_web.specs.Serving.{ServesNext, TakesSession}
use Rattle.wm_web.specs.Cuts.{asks_close}
use Rattle.wm_web.specs.Session.{Exchange, Serves, asks_end, ends_with, is_last, response_of}
use Rattle.wm_web.specs.declared.end.WebEnd.{WebEnd}
use Rattle.wm_web.specs.declared.end.WebEnd.TheVariants.{Done, CutShort, Budget, PowerDown, ReadFault, WriteFault, NoMemory}
use Rattle.wm_web.proofs.Counted.{faults_counted}
use Rattle.wm_web.proofs.Servings.{serves_more, serves_then}

-- the 10,000th answer is asked to close the connection
last_asks : (asked down : Bool) → asks_end asked 9999 down ≡ true
last_asks true down = refl
last_asks false down = refl

module _ {K : Type 0} where
  -- the 10,000th answer closes the connection
  last_closes : (n : ℕ) (old : Seen K) (e : Exchange K) → n ≡ 9999 → ends_with n old e ≡ false → ⊥
  last_closes n old e is h =
      let asks : is_last n old e ≡ true = ap (λ (k : ℕ). asks_end (asks_close e.cut) k (is_down old e.pass)) is ∙ last_asks (asks_close e.cut) (is_down old e.pass) in
      let all : ends_with n old e ≡ true = ap (λ (b : Bool). closes_after e.answer b) asks in
      true≢false (sym all ∙ h)

  stops_behind : (o : Opened K) (end : WebEnd) (left : Option (List ℕ)) (unread : List ℕ) (old new : Seen K) (due : List ℕ) (w0 w1 w2 : Option (List ℕ)) → Grows w0 w1 due → Stops o end left unread old new [] w1 w2 → Stops o end left unread old new due w0 w2
  stops_behind o end left unread old new due w0 w1 w2 h s =
      record { unserved = s.unserved; written = subst (λ (l : List ℕ). Grows w0 w2 l) (append-nil due) (Grows-then w0 w1 w2 due [] h s.written) }

  closes_behind : (o : Opened K) (end : WebEnd) (n : ℕ) (unread : List ℕ) (old new : Seen K) (due : List ℕ) (w0 w1 w2 : Option (List ℕ)) → Grows w0 w1 due → Closes o end n unread old new [] w1 w2 → Closes o end n unread old new due w0 w2
  closes_behind o end n unread old new due w0 w1 w2 h c = record {
    last = c.last;
    exchange = c.exchange;
    pass = c.pass;
    closes = c.closes;
    end_is = c.end_is;
    written = Grows-then w0 w1 w2 due (response_of n old c.last) h c.written;
  }

  fails_behind : (o : Opened K) (n : ℕ) (unread : List ℕ) (old new : Seen K) (due : List ℕ) (w0 w1 w2 : Option (List ℕ)) → Grows w0 w1 due → FailsWriting o n unread old new [] w1 w2 → FailsWriting o n unread old new due w0 w2
  fails_behind o n unread old new due w0 w1 w2 h f = record {
    last = f.last;
    exchange = f.exchange;
    pass = f.pass;
    count = f.count;
    written = Grows-then w0 w1 w2 due _ h f.written;
  }

  -- an end behind what was due before
  ends_behind : (o : Opened K) (end : WebEnd) (left : Option (List ℕ)) (n : ℕ) (unread : List ℕ) (old new : Seen K) (due : List ℕ) (w0 w1 w2 : Option (List ℕ)) → Grows w0 w1 due → Ends o end left n unread old new [] w1 w2 → Ends o end left n unread old new due w0 w2
  ends_behind o Done left n unread old new due w0 w1 w2 h (inl s) = inl (stops_behind o Done left unread old new due w0 w1 w2 h s)
  ends_behind o Done left n unread old new due w0 w1 w2 h (inr c) = inr (closes_behind o Done n unread old new due w0 w1 w2 h c)
  ends_behind o CutShort left n unread old new due w0 w1 w2 h s = stops_behind o CutShort left unread old new due w0 w1 w2 h s
  ends_behind o Budget left n unread old new due w0 w1 w2 h c = closes_behind o Budget n unread old new due w0 w1 w2 h c
  ends_behind o PowerDown left n unread old new due w0 w1 w2 h c = closes_behind o PowerDown n unread old new due w0 w1 w2 h c
  ends_behind o ReadFault left n unread old new due w0 w1 w2 h s = stops_behind o ReadFault left unread old new due w0 w1 w2 h s
  ends_behind o WriteFault left n unread old new due w0 w1 w2 h f = fails_behind o n unread old new due w0 w1 w2 h f
  ends_behind o NoMemory left n unread old new due w0 w1 w2 h s = stops_behind o NoMemory left unread old new due w0 w1 w2 h s

  -- a connection that goes on, behind so many answers
  pub record GoesSoFar (o : Opened K) (n : ℕ) (left_before left_now : Option (List ℕ)) (unread : List ℕ) (old new : Seen K) (w0 w1 : Option (List ℕ)) : Type 0 where
    pub bytes : List ℕ
    pub taken : Takes left_before bytes left_now
    pub most : length bytes ≤ n * 16384 + length unread
    pub few : n ≤ 9999
    pub served : List (Exchange K)
    pub count : length served ≡ n
    pub due : List ℕ
    pub serves : Serves o 0 served bytes unread old new due
    pub written : Grows w0 w1 due

  pub far_none : (o : Opened K) (left : Option (List ℕ)) (unread : List ℕ) (old : Seen K) (w : Option (List ℕ)) → unread ≡ [] → GoesSoFar o 0 left left unread old old w w
  far_none o left unread old w none = record {
    bytes = [];
    taken = Takes-none left;
    most = omega arith;
    few = omega arith;
    served = [];
    count = refl;
    due = [];
    serves = record { rest_is = none; pass = refl; none = refl };
    written = Grows-none w;
  }

  pub far_more : (o : Opened K) (n : ℕ) (l0 l1 l2 : Option (List ℕ)) (unread now : List ℕ) (old mid new : Seen K) (w0 w1 w2 : Option (List ℕ)) → GoesSoFar o n l0 l1 unread old mid w0 w1 → ServesNext o None n l1 l2 unread now mid new w1 w2 → GoesSoFar o (n + 1) l0 l2 now old new w0 w2
  far_more o n l0 l1 l2 unread now old mid new w0 w1 w2 far next =
      let e = next.came.one in
      let most = far.most in
      let least = next.most in
      let is : n ≡ 0 + length far.served = omega (arith, far.count) in
      let some = serves_more o 0 far.served far.bytes unread next.bytes old mid far.due far.serves in
      let all = serves_then o 0 n far.served (far.bytes ++ next.bytes) (unread ++ next.bytes) now old mid far.due e is some next.came.exchange next.came.open_ next.came.left in
      let not_last : n ≢ 9999 = λ h. last_closes n mid e h next.came.open_ in
      let few = far.few in
      record {
        bytes = far.bytes ++ next.bytes;
        taken = Takes-then l0 l1 l2 far.bytes next.bytes far.taken next.taken;
        most = omega (arith, length-append far.bytes next.bytes, length-append unread next.bytes, most, least);
        few = omega (arith, few, not_last);
        served = far.served ++ e ∷ [];
        count = omega (arith, length-append far.served (e ∷ []), far.count);
        due = far.due ++ response_of n mid e;
        serves = subst (λ (p : Seen K). Serves o 0 (far.served ++ e ∷ []) (far.bytes ++ next.bytes) now old p (far.due ++ response_of n mid e)) (sym next.came.pass) all;
        written = Grows-then w0 w1 w2 far.due (response_of n mid e) far.written next.came.written;
      }

  pub far_ends : (o : Opened K) (end : WebEnd) (n : ℕ) (l0 l1 l2 : Option (List ℕ)) (unread now : List ℕ) (old mid new : Seen K) (w0 w1 w2 : Option (List ℕ)) → GoesSoFar o n l0 l1 unread old mid w0 w1 → ServesNext o (Some end) n l1 l2 unread now mid new w1 w2 → TakesSession o end l0 l2 old new w0 w2
  far_ends o end n l0 l1 l2 unread now old mid new w0 w1 w2 far next =
      let most = far.most in
      let least = next.most in
      let few = far.few in
      let session : IsSession o end (far.bytes ++ next.bytes) l2 old new w0 w2 = record {
        served = far.served;
        unread = unread ++ next.bytes;
        mid = mid;
        due = far.due;
        serves = serves_more o 0 far.served far.bytes unread next.bytes old mid far.due far.serves;
        ends = subst (λ (k : ℕ). Ends o end l2 k (unread ++ next.bytes) mid new far.due w0 w2) (sym far.count) (ends_behind o end l2 n (unread ++ next.bytes) mid new far.due w0 w1 w2 far.written next.came);
      } in
      record {
        bytes = far.bytes ++ next.bytes;
        taken = Takes-then l0 l1 l2 far.bytes next.bytes far.taken next.taken;
        most = omega (arith, length-append far.bytes next.bytes, length-append unread next.bytes, most, least, few);
        session = session;
        counted = faults_counted o end (far.bytes ++ next.bytes) l2 old new w0 w2 session;
      }

  -- there was no memory for the first read
  pub no_session : (o : Opened K) (left : Option (List ℕ)) (old : Seen K) (w : Option (List ℕ)) → TakesSession o NoMemory left left old old w w
  no_session o left old w =
      let session : IsSession o NoMemory [] left old old w w = record {
        served = [];
        unread = [];
        mid = old;
        due = [];
        serves = record { rest_is = refl; pass = refl; none = refl };
        ends = record { unserved = inl refl; written = Grows-none w };
      } in
      record {
        bytes = [];
        taken = Takes-none left;
        most = omega arith;
        session = session;
        counted = faults_counted o NoMemory [] left old old w w session;
      }

  -- what stays true from request to request
  pub record SessionLoop (f : Floored K) (n : ℕ) (left_before left_now : Option (List ℕ)) (unread : List ℕ) (old new : Seen K) (w0 w1 : Option (List ℕ)) (r0 r1 s0 s1 : ℕ) : Type 0 where
    pub own : IsPassOf f new
    pub same : IsSame old new
    pub far : GoesSoFar f.opening n left_before left_now unread old new w0 w1
    pub read : r0 ≤ r1
    pub written : s0 ≤ s1

  -- the same pass, and the same again
  pub same_then : (a b c : Seen K) → IsSame a b → IsSame b c → IsSame a c
  same_then a b c h k = record { number = k.number ∙ h.number; made = k.made ∙ h.made; joined = k.joined ∙ h.joined }

  pub same_none : (a : Seen K) → IsSame a a
  same_none a = record { number = refl; made = refl; joined = refl }
