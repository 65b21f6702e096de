-- Laws of an input that is taken piece by piece.
use Rattle.std.proofs.Common.{◌≡◌, ℕ, ◌||◌, Bool, true, false, List, [], ◌++◌, Option, sym, ap, subst, ◌∙◌}
use Rattle.std.proofs.lemmas.List.{append-nil}
use Rattle.wm_clwords.specs.Lines.{logical_lines}
use Rattle.wm_clwords.specs.Part.{Part, fresh, lines_from}
use Rattle.wm_clwords.proofs.LinesLaw.{lines_from-fresh}
use Rattle.wm_law.specs.declared.call.Entry.{Entry}
use Rattle.wm_floor.specs.History.{History}
use Rattle.wm_traits.specs.Told.{Takes}
use Rattle.wm_traits.proofs.Telling.{Takes-none, Takes-then}
use Rattle.wm_run.specs.Down.{is_down}
use Rattle.wm_run.specs.Grown.{entries_between}
use Rattle.wm_run.specs.Session.{Answers, AnsweredBy}
use Rattle.wm_run.specs.Taking.{TakesPiece, TakesInput}
use Rattle.wm_run.proofs.Growing.{Continues, entries-none, entries-then, grown-between}
use Rattle.wm_run.proofs.Takings.{AnsweredBy-append, AnsweredBy-none, TakesPiece-none, TakesPiece-then, TakesPiece-down, TakesPiece-more, TakesPiece-lines}

-- no entry and no line
pub answered_none : (user : List ℕ) (history : History) (w : Option (List ℕ)) → AnsweredBy (Answers user [] history) (entries_between history history) w w false
answered_none user history w = subst (λ (es : List Entry). AnsweredBy (Answers user [] history) es w w false) (sym (entries-none history)) (AnsweredBy-none user history w)

-- the same, as it is told
pub uncalled_none : (user : List ℕ) (history : History) (w : Option (List ℕ)) (faulty : Bool) → faulty ≡ false → AnsweredBy (Answers user [] history) (entries_between history history) w w faulty
uncalled_none user history w faulty none = subst (λ (t : Bool). AnsweredBy (Answers user [] history) (entries_between history history) w w t) (sym none) (answered_none user history w)

-- nothing taken, with the entries
pub taken_none : (user : List ℕ) (a b : Part) (piece : List ℕ) (history : History) (w : Option (List ℕ)) → ((more : List ℕ) → lines_from a more ≡ lines_from b more) → TakesPiece user a piece b piece history (entries_between history history) w w false
taken_none user a b piece history w same = subst (λ (es : List Entry). TakesPiece user a piece b piece history es w w false) (sym (entries-none history)) (TakesPiece-none user a b piece history w same)

-- a part of a piece, and then some of the rest
pub taken_then : {user : List ℕ} (a b c : Part) (piece rest last : List ℕ) (old mid new : History) (u v w : Option (List ℕ)) (f g h : Bool) → h ≡ (f || g) → is_down (entries_between old mid) ≡ false → Continues old mid → Continues mid new → TakesPiece user a piece b rest old (entries_between old mid) u v f → TakesPiece user b rest c last mid (entries_between mid new) v w g → TakesPiece user a piece c last old (entries_between old new) u w h
taken_then {user} a b c piece rest last old mid new u v w f g h is up ab bc first second =
    let es = entries_between old mid in
    let fs = entries_between mid new in
    let next = subst (λ (o : History). TakesPiece user b rest c last o fs v w g) (sym (grown-between old mid ab)) second in
    subst (λ (t : Bool). TakesPiece user a piece c last old (entries_between old new) u w t) (sym is)
    (subst (λ (all : List Entry). TakesPiece user a piece c last old all u w (f || g)) (sym (entries-then old mid new ab bc)) (TakesPiece-then a b c piece rest last old es fs u v w f g up first next))

-- no input taken
abbrev pub input_none : (user : List ℕ) (b : Part) (x : Option (List ℕ)) (history : History) (w : Option (List ℕ)) → ((bytes : List ℕ) → lines_from b bytes ≡ logical_lines bytes) → TakesInput x x (λ bytes. TakesPiece user fresh bytes b [] history (entries_between history history) w w false)
input_none user b x history w begins =
    record { bytes = []; taken = Takes-none x; done = taken_none user fresh b [] history w (λ more. lines_from-fresh more ∙ sym (begins more)) }

-- some of it, and then some more
abbrev pub input_then : {user : List ℕ} (x y z : Option (List ℕ)) (b c : Part) (ys : List ℕ) (old mid new : History) (u v w : Option (List ℕ)) (f g h : Bool) → h ≡ (f || g) → is_down (entries_between old mid) ≡ false → Continues old mid → Continues mid new → TakesInput x y (λ bytes. TakesPiece user fresh bytes b [] old (entries_between old mid) u v f) → Takes y ys z → TakesPiece user b ys c [] mid (entries_between mid new) v w g → TakesInput x z (λ bytes. TakesPiece user fresh bytes c [] old (entries_between old new) u w h)
input_then {user} x y z b c ys old mid new u v w f g h is up ab bc first more second =
    let xs = first.bytes in
    record {
      bytes = xs ++ ys;
      taken = Takes-then x y z xs ys first.taken more;
      done = taken_then fresh b c (xs ++ ys) ys [] old mid new u v w f g h is up ab bc (TakesPiece-more fresh b xs ys old _ u v f first.done) second;
    }

-- the line that ends with the input is answered
abbrev pub input_end : {user : List ℕ} (x y : Option (List ℕ)) (b : Part) (old mid new : History) (u v w : Option (List ℕ)) (f g h : Bool) → h ≡ (f || g) → is_down (entries_between old mid) ≡ false → Continues old mid → Continues mid new → TakesInput x y (λ bytes. TakesPiece user fresh bytes b [] old (entries_between old mid) u v f) → AnsweredBy (Answers user (lines_from b []) mid) (entries_between mid new) v w g → TakesInput x y (λ bytes. AnsweredBy (Answers user (logical_lines bytes) old) (entries_between old new) u w h)
input_end {user} x y b old mid new u v w f g h is up ab bc taken ended =
    let xs = taken.bytes in
    let d = taken.done in
    let es = entries_between old mid in
    let fs = entries_between mid new in
    let lines = ap logical_lines (sym (append-nil xs)) ∙ TakesPiece-lines b xs [] old es u v f d in
    let last = subst (λ (o : History). AnsweredBy (Answers user (lines_from b []) o) fs v w g) (sym (grown-between old mid ab)) ended in
    let both = AnsweredBy-append user d.lines (lines_from b []) old es fs u v w f g up d.answered last in
    record {
      bytes = xs;
      taken = taken.taken;
      done = subst (λ (t : Bool). AnsweredBy (Answers user (logical_lines xs) old) (entries_between old new) u w t) (sym is)
          (subst (λ (all : List Entry). AnsweredBy (Answers user (logical_lines xs) old) all u w (f || g)) (sym (entries-then old mid new ab bc))
          (subst (λ (l : List (Option (List ℕ))). AnsweredBy (Answers user l old) (es ++ fs) u w (f || g)) (sym lines) both));
    }

-- a line of the next piece put the power down
abbrev pub input_down : {user : List ℕ} (x y z : Option (List ℕ)) (b c : Part) (ys rest : List ℕ) (old mid new : History) (u v w : Option (List ℕ)) (f g h : Bool) → h ≡ (f || g) → is_down (entries_between old mid) ≡ false → is_down (entries_between old new) ≡ true → Continues old mid → Continues mid new → TakesInput x y (λ bytes. TakesPiece user fresh bytes b [] old (entries_between old mid) u v f) → Takes y ys z → TakesPiece user b ys c rest mid (entries_between mid new) v w g → TakesInput x z (λ bytes. AnsweredBy (Answers user (logical_lines bytes) old) (entries_between old new) u w h)
input_down {user} x y z b c ys rest old mid new u v w f g h is up down ab bc first more second =
    let xs = first.bytes in
    let all = taken_then fresh b c (xs ++ ys) ys rest old mid new u v w f g h is up ab bc (TakesPiece-more fresh b xs ys old _ u v f first.done) second in
    record {
      bytes = xs ++ ys;
      taken = Takes-then x y z xs ys first.taken more;
      done = TakesPiece-down c (xs ++ ys) rest old (entries_between old new) u w h down all;
    }
