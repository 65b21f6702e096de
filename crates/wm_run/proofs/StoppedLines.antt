-- Laws of lines that were answered up to some place.
use Rattle.std.proofs.Common.{◌≡◌, ℕ, ◌+◌, ◌||◌, Bool, false, List, [], ◌∷◌, ◌++◌, length, take, drop, Option, sym, ap, subst, ◌∙◌, refl, inl, inr, append_assoc}
use Rattle.std.proofs.Math.Seq.{take-add, take-length}
use Rattle.std.proofs.lemmas.List.{append-nil, take_at}
use Rattle.wm_clwords.specs.Part.{Part, lines_from}
use Rattle.wm_law.specs.declared.call.Entry.{Entry}
use Rattle.wm_floor.specs.History.{History}
use Rattle.wm_traits.specs.Told.{Grows}
use Rattle.wm_traits.proofs.Telling.{Grows-none, Grows-then}
use Rattle.wm_run.specs.Down.{is_down}
use Rattle.wm_run.specs.Grown.{grown}
use Rattle.wm_run.specs.Session.{Answers, AnswersLine, AnsweredBy}
use Rattle.wm_run.specs.Stopped.{IsCutShort, StopsIn, Unanswered}
use Rattle.wm_run.specs.Taking.{TakesPiece}
use Rattle.wm_floor.proofs.Lists.{since-append}
use Rattle.wm_run.proofs.Takings.{Answers-append, Answers-one}

take-append : (xs ys : List ℕ) (n : ℕ) → take (length xs + n) (xs ++ ys) ≡ xs ++ take n ys
take-append xs ys n =
    let rest = drop (length xs) (xs ++ ys) in
    take-add (length xs) n (xs ++ ys) ∙ (ap (λ (l : List ℕ). l ++ take n rest) (take_at xs ys (length xs) refl) ∙ ap (λ (l : List ℕ). xs ++ take n l) (since-append xs ys))

-- no line was answered
pub StopsIn-unanswered : (user : List ℕ) (lines : List (Option (List ℕ))) (o : History) (es : List Entry) (a b : Option (List ℕ)) → Unanswered es a b → StopsIn user lines o es a b
StopsIn-unanswered user lines o es a b h =
    record {
      answered = [];
      others = lines;
      split = refl;
      some = record { due = []; faulty = false; answers = record { none = h.none; says = refl; fault = refl }; count = 0; written = h.written };
    }

-- nothing was done at all
pub StopsIn-none : (user : List ℕ) (lines : List (Option (List ℕ))) (o : History) (w : Option (List ℕ)) → StopsIn user lines o [] w w
StopsIn-none user lines o w = StopsIn-unanswered user lines o [] w w (record { none = refl; written = Grows-none w })

-- a line's answer was cut short
pub StopsIn-line : {user : List ℕ} (line : Option (List ℕ)) (o : History) (es : List Entry) (a b : Option (List ℕ)) → IsCutShort (AnswersLine user line o) es a b → StopsIn user (line ∷ []) o es a b
StopsIn-line {user} line o es a b (inl h) = StopsIn-unanswered user (line ∷ []) o es a b h
StopsIn-line {user} line o es a b (inr h) =
    record {
      answered = line ∷ [];
      others = [];
      split = refl;
      some = record { due = h.due; faulty = h.faulty; answers = Answers-one line o es h.due h.faulty h.answers; count = h.count; written = h.written };
    }

-- more lines follow that weren't answered
pub StopsIn-more : {user : List ℕ} (xs ys : List (Option (List ℕ))) (o : History) (es : List Entry) (a b : Option (List ℕ)) → StopsIn user xs o es a b → StopsIn user (xs ++ ys) o es a b
StopsIn-more {user} xs ys o es a b h =
    record {
      answered = h.answered;
      others = h.others ++ ys;
      split = ap (λ (l : List (Option (List ℕ))). l ++ ys) h.split ∙ append_assoc h.answered h.others ys;
      some = h.some;
    }

-- lines were answered before them
pub StopsIn-after : {user : List ℕ} (xs ys : List (Option (List ℕ))) (o : History) (es fs : List Entry) (a b c : Option (List ℕ)) (f : Bool) → is_down es ≡ false → AnsweredBy (Answers user xs o) es a b f → StopsIn user ys (grown o es) fs b c → StopsIn user (xs ++ ys) o (es ++ fs) a c
StopsIn-after {user} xs ys o es fs a b c f up h k =
    let s = k.some in
    record {
      answered = xs ++ k.answered;
      others = k.others;
      split = ap (λ (l : List (Option (List ℕ))). xs ++ l) k.split ∙ sym (append_assoc xs k.answered k.others);
      some = record {
        due = h.bytes ++ s.due;
        faulty = f || s.faulty;
        answers = Answers-append user xs k.answered o es fs h.bytes s.due f s.faulty up h.answers s.answers;
        count = length h.bytes + s.count;
        written = subst (λ (l : List ℕ). Grows a c l) (sym (take-append h.bytes s.due s.count)) (Grows-then a b c h.bytes (take s.count s.due) h.written s.written);
      };
    }

-- all lines were answered, and all bytes written
pub StopsIn-whole : {user : List ℕ} (lines : List (Option (List ℕ))) (o : History) (es : List Entry) (a b : Option (List ℕ)) (f : Bool) → AnsweredBy (Answers user lines o) es a b f → StopsIn user lines o es a b
StopsIn-whole {user} lines o es a b f h =
    record {
      answered = lines;
      others = [];
      split = sym (append-nil lines);
      some = record { due = h.bytes; faulty = f; answers = h.answers; count = length h.bytes; written = subst (λ (l : List ℕ). Grows a b l) (sym (take-length h.bytes)) h.written };
    }

-- bytes follow that weren't looked at
pub stops_front : {user : List ℕ} (a b : Part) (piece rest : List ℕ) (o : History) (es : List Entry) (u v : Option (List ℕ)) (f : Bool) → TakesPiece user a piece b rest o es u v f → (more : List ℕ) → StopsIn user (lines_from a (piece ++ more)) o es u v
stops_front {user} a b piece rest o es u v f h more =
    subst (λ (l : List (Option (List ℕ))). StopsIn user l o es u v) (sym (h.split more))
    (StopsIn-more h.lines (lines_from b (rest ++ more)) o es u v (StopsIn-whole h.lines o es u v f h.answered))

-- bytes were taken before them
pub stops_then : {user : List ℕ} (a b : Part) (piece rest : List ℕ) (o : History) (es fs : List Entry) (u v w : Option (List ℕ)) (f : Bool) → is_down es ≡ false → TakesPiece user a piece b rest o es u v f → ((more : List ℕ) → StopsIn user (lines_from b (rest ++ more)) (grown o es) fs v w) → (more : List ℕ) → StopsIn user (lines_from a (piece ++ more)) o (es ++ fs) u w
stops_then {user} a b piece rest o es fs u v w f up h k more =
    subst (λ (l : List (Option (List ℕ))). StopsIn user l o (es ++ fs) u w) (sym (h.split more))
    (StopsIn-after h.lines (lines_from b (rest ++ more)) o es fs u v w f up h.answered (k more))
