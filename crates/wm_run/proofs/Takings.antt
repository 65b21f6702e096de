-- Laws of lines: how answers follow one another, and the parts of an input.
use Rattle.std.proofs.Common.{◌≡◌, ℕ, ◌==◌, ◌||◌, Bool, true, false, List, [], ◌∷◌, ◌++◌, Option, Some, None, sym, ap, subst, ◌∙◌, refl, append_assoc}
use Rattle.std.proofs.lemmas.Bool.{false≢true}
use Rattle.std.proofs.lemmas.List.{append-nil}
use Rattle.std.proofs.lemmas.List.Elements.{filter-append}
use Rattle.wm_clwords.specs.Lines.{logical_lines}
use Rattle.wm_clwords.specs.Part.{Part, fresh, lines_from}
use Rattle.wm_clwords.proofs.LinesLaw.{lines_from-fresh}
use Rattle.wm_clwords.specs.declared.fault.ClFault.TheVariants.{TooLong}
use Rattle.wm_law.specs.declared.call.Entry.{Entry}
use Rattle.wm_law.specs.History.{entries_of}
use Rattle.wm_floor.specs.History.{History}
use Rattle.wm_traits.proofs.Telling.{Grows-none, Grows-then}
use Rattle.wm_run.specs.Grown.{grown}
use Rattle.wm_run.specs.Down.{is_down}
use Rattle.wm_listing.specs.declared.line_fault.LineFault.TheVariants.{Cl}
use Rattle.wm_run.specs.Calls.{session_pass}
use Rattle.wm_run.specs.Reads.{read_text, is_read_refused}
use Rattle.wm_run.specs.Session.{Answers, AnswersLine, AnswersParsed, AnsweredBy, GoesOn, IsUncalled, Says}
use Rattle.wm_run.specs.declared.parsed.Parsed.{Parsed}
use Rattle.wm_run.specs.declared.parsed.Parsed.TheVariants.{Fault, Read, Call}
use Rattle.wm_run.specs.Taking.{TakesPiece}
use Rattle.wm_run.proofs.Downs.{down_then, up_first, up_then, up_uncalled}
use Rattle.wm_run.proofs.Growing.{grown-then}

or_assoc : (a b c : Bool) → ((a || b) || c) ≡ (a || (b || c))
or_assoc true b c = refl
or_assoc false b c = refl

-- once the power is down nothing follows
ends_down : (own others : List Entry) (Rest : List Entry → List ℕ → Bool → Type 0) (more : List ℕ) (later : Bool) → is_down own ≡ true → GoesOn (is_down own) Rest others more later → Says [] false others more later
ends_down own others Rest more later down h = subst (λ (t : Bool). GoesOn t Rest others more later) down h

-- while it is up the rest follows
goes_on : (own others : List Entry) (Rest : List Entry → List ℕ → Bool → Type 0) (more : List ℕ) (later : Bool) → is_down own ≡ false → GoesOn (is_down own) Rest others more later → Rest others more later
goes_on own others Rest more later up h = subst (λ (t : Bool). GoesOn t Rest others more later) up h

-- Entries without a call, before and behind answers

pub calls_both : (es fs : List Entry) → entries_of session_pass (es ++ fs) ≡ entries_of session_pass es ++ entries_of session_pass fs
calls_both es fs = filter-append (λ (e : Entry). e.caller == session_pass) es fs

pub uncalled_before : (es fs : List Entry) → IsUncalled es → entries_of session_pass (es ++ fs) ≡ entries_of session_pass fs
uncalled_before es fs none = calls_both es fs ∙ ap (λ (l : List Entry). l ++ entries_of session_pass fs) none

pub uncalled_both : (es fs : List Entry) → IsUncalled es → IsUncalled fs → IsUncalled (es ++ fs)
uncalled_both es fs none more = uncalled_before es fs none ∙ more

parsed_before : (user : List ℕ) (parsed : Parsed) (o : History) (es own : List Entry) (said : List ℕ) (wrong : Bool) → IsUncalled es → AnswersParsed user parsed (grown o es) own said wrong → AnswersParsed user parsed o (es ++ own) said wrong
parsed_before user (Fault fault) o es own said wrong none h = record { none = uncalled_both es own none h.none; says = h.says; fault = h.fault }
parsed_before user (Read ask) o es own said wrong none h =
    let same : grown (grown o es) own ≡ grown o (es ++ own) = grown-then o es own in
    record { none = uncalled_both es own none h.none; says = h.says ∙ ap (read_text ask) same; fault = h.fault ∙ ap (is_read_refused ask) same }
parsed_before user (Call c) o es own said wrong none h = record { entry = h.entry; only = uncalled_before es own none ∙ h.only; call = h.call; says = h.says; refused = h.refused }

line_before : (user : List ℕ) (line : Option (List ℕ)) (o : History) (es own : List Entry) (said : List ℕ) (wrong : Bool) → IsUncalled es → AnswersLine user line (grown o es) own said wrong → AnswersLine user line o (es ++ own) said wrong
line_before user None o es own said wrong none h = parsed_before user (Fault (Cl TooLong)) o es own said wrong none h
line_before user (Some text) o es own said wrong none h = record { parsed = h.parsed; parses = h.parses; answers = parsed_before user h.parsed o es own said wrong none h.answers }

Answers-before : (user : List ℕ) (ys : List (Option (List ℕ))) (o : History) (es fs : List Entry) (cs : List ℕ) (g : Bool) → IsUncalled es → Answers user ys (grown o es) fs cs g → Answers user ys o (es ++ fs) cs g
Answers-before user [] o es fs cs g none h = record { none = uncalled_both es fs none h.none; says = h.says; fault = h.fault }
Answers-before user (y ∷ ys) o es fs cs g none h =
    let down : is_down (es ++ h.own) ≡ is_down h.own = down_then es h.own (es ++ h.own) refl (up_uncalled es none) in
    let rest = subst (λ (x : History). GoesOn (is_down h.own) (Answers user ys x) h.others h.more h.later) (grown-then o es h.own) h.rest in
    record {
      own = es ++ h.own;
      others = h.others;
      said = h.said;
      more = h.more;
      wrong = h.wrong;
      later = h.later;
      entries = ap (λ (l : List Entry). es ++ l) h.entries ∙ sym (append_assoc es h.own h.others);
      text = h.text;
      fault = h.fault;
      first = line_before user y o es h.own h.said h.wrong none h.first;
      rest = subst (λ (t : Bool). GoesOn t (Answers user ys (grown o (es ++ h.own))) h.others h.more h.later) (sym down) rest;
    }

pub Answers-behind : (user : List ℕ) (xs : List (Option (List ℕ))) (o : History) (es fs : List Entry) (bs : List ℕ) (f : Bool) → IsUncalled fs → Answers user xs o es bs f → Answers user xs o (es ++ fs) bs f
Answers-behind user [] o es fs bs f none h = record { none = uncalled_both es fs h.none none; says = h.says; fault = h.fault }
Answers-behind user (x ∷ xs) o es fs bs f none h =
    record {
      own = h.own;
      others = h.others ++ fs;
      said = h.said;
      more = h.more;
      wrong = h.wrong;
      later = h.later;
      entries = ap (λ (e : List Entry). e ++ fs) h.entries ∙ append_assoc h.own h.others fs;
      text = h.text;
      fault = h.fault;
      first = h.first;
      rest = goes_behind (is_down h.own) (λ k. Answers-behind user xs (grown o h.own) h.others fs h.more h.later none k) h.rest;
    }
  where
    goes_behind : (t : Bool) → (Answers user xs (grown o h.own) h.others h.more h.later → Answers user xs (grown o h.own) (h.others ++ fs) h.more h.later) → GoesOn t (Answers user xs (grown o h.own)) h.others h.more h.later → GoesOn t (Answers user xs (grown o h.own)) (h.others ++ fs) h.more h.later
    goes_behind true on k = record { none = uncalled_both h.others fs k.none none; says = k.says; fault = k.fault }
    goes_behind false on k = on k

pub AnsweredBy-behind : (user : List ℕ) (xs : List (Option (List ℕ))) (o : History) (es fs : List Entry) (a b : Option (List ℕ)) (f : Bool) → IsUncalled fs → AnsweredBy (Answers user xs o) es a b f → AnsweredBy (Answers user xs o) (es ++ fs) a b f
AnsweredBy-behind user xs o es fs a b f none h = record { bytes = h.bytes; answers = Answers-behind user xs o es fs h.bytes f none h.answers; written = h.written }

-- answers to lines that leave the power up, and then to more lines
pub Answers-append : (user : List ℕ) (xs ys : List (Option (List ℕ))) (o : History) (es fs : List Entry) (bs cs : List ℕ) (f g : Bool) → is_down es ≡ false → Answers user xs o es bs f → Answers user ys (grown o es) fs cs g → Answers user (xs ++ ys) o (es ++ fs) (bs ++ cs) (f || g)
Answers-append user [] ys o es fs bs cs f g up h k =
    let both = Answers-before user ys o es fs cs g h.none k in
    let P : List ℕ → Bool → Type 0 = λ b t. Answers user ys o (es ++ fs) (b ++ cs) (t || g) in
    subst (λ (b : List ℕ). P b f) (sym h.says) (subst (λ (t : Bool). P [] t) (sym h.fault) both)
Answers-append user (x ∷ xs) ys o es fs bs cs f g up h k =
    let same : grown o es ≡ grown (grown o h.own) h.others = ap (grown o) h.entries ∙ sym (grown-then o h.own h.others) in
    let rest = subst (λ (x : History). Answers user ys x fs cs g) same k in
    let first : is_down h.own ≡ false = up_first h.own h.others es h.entries up in
    let later : is_down h.others ≡ false = up_then h.own h.others es h.entries up in
    let before = goes_on h.own h.others (Answers user xs (grown o h.own)) h.more h.later first h.rest in
    let both = Answers-append user xs ys (grown o h.own) h.others fs h.more cs h.later g later before rest in
    record {
      own = h.own;
      others = h.others ++ fs;
      said = h.said;
      more = h.more ++ cs;
      wrong = h.wrong;
      later = h.later || g;
      entries = ap (λ (e : List Entry). e ++ fs) h.entries ∙ append_assoc h.own h.others fs;
      text = ap (λ (b : List ℕ). b ++ cs) h.text ∙ append_assoc h.said h.more cs;
      fault = ap (λ (t : Bool). t || g) h.fault ∙ or_assoc h.wrong h.later g;
      first = h.first;
      rest = subst (λ (t : Bool). GoesOn t (Answers user (xs ++ ys) (grown o h.own)) (h.others ++ fs) (h.more ++ cs) (h.later || g)) (sym first) both;
    }

-- answers to lines that put the power down are answers to any more lines
pub Answers-down : (user : List ℕ) (xs ys : List (Option (List ℕ))) (o : History) (es : List Entry) (bs : List ℕ) (f : Bool) → is_down es ≡ true → Answers user xs o es bs f → Answers user (xs ++ ys) o es bs f
Answers-down user [] ys o es bs f down h = absurd (false≢true (sym (up_uncalled es h.none) ∙ down))
Answers-down user (x ∷ xs) ys o es bs f down h = go (λ later before. Answers-down user xs ys (grown o h.own) h.others h.more h.later later before) (is_down h.own) refl
  where
    with_rest : GoesOn (is_down h.own) (Answers user (xs ++ ys) (grown o h.own)) h.others h.more h.later → Answers user ((x ∷ xs) ++ ys) o es bs f
    with_rest rest =
        record {
          own = h.own;
          others = h.others;
          said = h.said;
          more = h.more;
          wrong = h.wrong;
          later = h.later;
          entries = h.entries;
          text = h.text;
          fault = h.fault;
          first = h.first;
          rest = rest;
        }

    go : (is_down h.others ≡ true → Answers user xs (grown o h.own) h.others h.more h.later → Answers user (xs ++ ys) (grown o h.own) h.others h.more h.later) → (t : Bool) → is_down h.own ≡ t → Answers user ((x ∷ xs) ++ ys) o es bs f
    go again true own =
        let none = ends_down h.own h.others (Answers user xs (grown o h.own)) h.more h.later own h.rest in
        with_rest (subst (λ (t : Bool). GoesOn t (Answers user (xs ++ ys) (grown o h.own)) h.others h.more h.later) (sym own) none)
    go again false own =
        let others : is_down h.others ≡ true = sym (down_then h.own h.others es h.entries own) ∙ down in
        let before = goes_on h.own h.others (Answers user xs (grown o h.own)) h.more h.later own h.rest in
        let more = again others before in
        with_rest (subst (λ (t : Bool). GoesOn t (Answers user (xs ++ ys) (grown o h.own)) h.others h.more h.later) (sym own) more)

-- the same with what was written
pub AnsweredBy-append : (user : List ℕ) (xs ys : List (Option (List ℕ))) (o : History) (es fs : List Entry) (a b c : Option (List ℕ)) (f g : Bool) → is_down es ≡ false → AnsweredBy (Answers user xs o) es a b f → AnsweredBy (Answers user ys (grown o es)) fs b c g → AnsweredBy (Answers user (xs ++ ys) o) (es ++ fs) a c (f || g)
AnsweredBy-append user xs ys o es fs a b c f g up h k =
    record {
      bytes = h.bytes ++ k.bytes;
      answers = Answers-append user xs ys o es fs h.bytes k.bytes f g up h.answers k.answers;
      written = Grows-then a b c h.bytes k.bytes h.written k.written;
    }

pub AnsweredBy-down : (user : List ℕ) (xs ys : List (Option (List ℕ))) (o : History) (es : List Entry) (a b : Option (List ℕ)) (f : Bool) → is_down es ≡ true → AnsweredBy (Answers user xs o) es a b f → AnsweredBy (Answers user (xs ++ ys) o) es a b f
AnsweredBy-down user xs ys o es a b f down h = record { bytes = h.bytes; answers = Answers-down user xs ys o es h.bytes f down h.answers; written = h.written }

-- no line
pub AnsweredBy-none : (user : List ℕ) (o : History) (w : Option (List ℕ)) → AnsweredBy (Answers user [] o) [] w w false
AnsweredBy-none user o w = record { bytes = []; answers = record { none = refl; says = refl; fault = refl }; written = Grows-none w }

or_false : (f : Bool) → f ≡ (f || false)
or_false true = refl
or_false false = refl

-- nothing more was said, however the first line left the power
nothing_more : (user : List ℕ) (t : Bool) (o : History) → GoesOn t (Answers user [] o) [] [] false
nothing_more user true o = record { none = refl; says = refl; fault = refl }
nothing_more user false o = record { none = refl; says = refl; fault = refl }

-- one line
pub Answers-one : {user : List ℕ} (line : Option (List ℕ)) (o : History) (es : List Entry) (bytes : List ℕ) (f : Bool) → AnswersLine user line o es bytes f → Answers user (line ∷ []) o es bytes f
Answers-one {user} line o es bytes f h =
    record {
      own = es;
      others = [];
      said = bytes;
      more = [];
      wrong = f;
      later = false;
      entries = sym (append-nil es);
      text = sym (append-nil bytes);
      fault = or_false f;
      first = h;
      rest = nothing_more user (is_down es) (grown o es);
    }

pub AnsweredBy-one : {user : List ℕ} (line : Option (List ℕ)) (o : History) (es : List Entry) (a b : Option (List ℕ)) (f : Bool) → AnsweredBy (AnswersLine user line o) es a b f → AnsweredBy (Answers user (line ∷ []) o) es a b f
AnsweredBy-one {user} line o es a b f h = record { bytes = h.bytes; answers = Answers-one line o es h.bytes f h.answers; written = h.written }

-- nothing taken: the lines go on as they would have
pub TakesPiece-none : (user : List ℕ) (a b : Part) (piece : List ℕ) (o : History) (w : Option (List ℕ)) → ((more : List ℕ) → lines_from a more ≡ lines_from b more) → TakesPiece user a piece b piece o [] w w false
TakesPiece-none user a b piece o w same = record { lines = []; split = λ more. same (piece ++ more); answered = AnsweredBy-none user o w }

-- a part of a piece, and then some of the rest
pub TakesPiece-then : {user : List ℕ} (a b c : Part) (piece rest last : List ℕ) (o : History) (es fs : List Entry) (u v w : Option (List ℕ)) (f g : Bool) → is_down es ≡ false → TakesPiece user a piece b rest o es u v f → TakesPiece user b rest c last (grown o es) fs v w g → TakesPiece user a piece c last o (es ++ fs) u w (f || g)
TakesPiece-then {user} a b c piece rest last o es fs u v w f g up h k =
    record {
      lines = h.lines ++ k.lines;
      split = λ more. h.split more ∙ (ap (λ (l : List (Option (List ℕ))). h.lines ++ l) (k.split more) ∙ sym (append_assoc h.lines k.lines (lines_from c (last ++ more))));
      answered = AnsweredBy-append user h.lines k.lines o es fs u v w f g up h.answered k.answered;
    }

-- a whole piece was taken, and another follows
pub TakesPiece-more : {user : List ℕ} (a b : Part) (xs ys : List ℕ) (o : History) (es : List Entry) (u v : Option (List ℕ)) (f : Bool) → TakesPiece user a xs b [] o es u v f → TakesPiece user a (xs ++ ys) b ys o es u v f
TakesPiece-more {user} a b xs ys o es u v f h =
    record {
      lines = h.lines;
      split = λ more. ap (lines_from a) (append_assoc xs ys more) ∙ h.split (ys ++ more);
      answered = h.answered;
    }

-- the lines of an input that was taken from its start, whose last part holds what doesn't end
pub TakesPiece-lines : {user : List ℕ} (b : Part) (xs ys : List ℕ) (o : History) (es : List Entry) (u v : Option (List ℕ)) (f : Bool) → (h : TakesPiece user fresh xs b [] o es u v f) → logical_lines (xs ++ ys) ≡ h.lines ++ lines_from b ys
TakesPiece-lines {user} b xs ys o es u v f h = sym (lines_from-fresh (xs ++ ys)) ∙ h.split ys

-- where the power went down, whatever follows what was taken isn't answered
pub TakesPiece-down : {user : List ℕ} (b : Part) (xs rest : List ℕ) (o : History) (es : List Entry) (u v : Option (List ℕ)) (f : Bool) → is_down es ≡ true → TakesPiece user fresh xs b rest o es u v f → AnsweredBy (Answers user (logical_lines xs) o) es u v f
TakesPiece-down {user} b xs rest o es u v f down h =
    let whole : logical_lines xs ≡ h.lines ++ lines_from b (rest ++ []) = sym (lines_from-fresh xs) ∙ (ap (lines_from fresh) (sym (append-nil xs)) ∙ h.split []) in
    subst (λ (l : List (Option (List ℕ))). AnsweredBy (Answers user l o) es u v f) (sym whole) (AnsweredBy-down user h.lines (lines_from b (rest ++ [])) o es u v f down h.answered)
