-- The verdict is that of the grammar, both ways.
use Rattle.std.proofs.Common.{◌≡◌, ◌≢◌, ◌⊎◌, ℕ, ◌+◌, ◌≤◌, ◌++◌, Bool, true, false, cond, List, [], ◌∷◌, length, take, drop, get_or, eqb, Result, Ok, Err, IfOk, IfErr, MatchResult, subst, sym, ◌∙◌, ap, refl, arith, inl, inr}
use Rattle.std.proofs.lemmas.Bool.{false≢true, cases_lt}
use Rattle.std.proofs.lemmas.List.{append_assoc, take-append-drop, drop_more, length-take-le, take_more}
use Rattle.wm_base.specs.Name.{is_name, IsName}
use Rattle.wm_clwords.specs.declared.fault.ClFault.{ClFault}
use Rattle.wm_clwords.specs.declared.fault.ClFault.TheVariants.{Empty, BadName, OpenQuote, OpenParen, StrayParen, OpenComment, TooLong, BadByte, TooDeep, NoMemory}
use Rattle.wm_clwords.specs.declared.tree.Tree.{Tree}
use Rattle.wm_clwords.specs.Items.{list_marks}
use Rattle.wm_clwords.specs.Grammar.{Token, Blank, Comment, Word, Quoted, Key, Open, Close, Mark, Spells}
use Rattle.wm_clwords.specs.Reading.{State, Went, step, run, begun}
use Rattle.wm_clwords.specs.Faults.{Begins, StopsAt, IsLoneSlash, IsTooDeep, IsStrayParen, IsBadByte, IsNoName, StandsIn, Stands, IsCommand}
use Rattle.wm_clwords.specs.Verdict.{Command, named_by, named_of, verdict}
use Rattle.wm_clwords.proofs.Completeness.{Marks, run-Spells}
use Rattle.wm_clwords.proofs.Soundness.{Spells-run}
use Rattle.wm_clwords.proofs.Explained.{ExplainedBy}
use Rattle.wm_clwords.proofs.Runs.{steps, steps_on, steps-push, run-stopped, steps-explained, begins_from, steps_from}
use Rattle.wm_clwords.proofs.FaultLaw.{Class, classify, lone_run, deep_run, quoted_run, list_run, comment_fault, fault_stands}
use Rattle.wm_clwords.proofs.VerdictLemmas.{verdict-long, verdict-short}

-- where the bytes stop, the reader has a fault
record Stopped (bytes : List ℕ) (place : ℕ) : Type 0 where
  fault : ClFault
  stop : run begun 0 bytes ≡ Err fault
  class : Class bytes place (get_or bytes place 0) fault

stopped_by : (bytes front : List ℕ) (b : ℕ) (more : List ℕ) (place : ℕ) (state : State) (went : Went) → bytes ≡ front ++ b ∷ more → length front ≡ place → get_or bytes place 0 ≡ b
    → steps begun 0 front ≡ Ok state → step state place b ≡ went → (Begins (front ++ b ∷ []) → ⊥) → Stopped bytes place
stopped_by bytes front b more place state (Ok w) written long here led s none =
    let on : steps begun 0 (front ++ b ∷ []) ≡ Ok w.0 =
    steps-push front begun 0 state b led ∙ ap (λ n. steps_on (step state n b) (λ n. Ok n)) (omega (arith, long)) ∙ ap (λ x. steps_on x (λ n. Ok n)) s in
    absurd (none (begins_from (front ++ b ∷ []) w.0 on))
stopped_by bytes front b more place state (Err f) written long here led s none =
    let stop : steps begun 0 (front ++ b ∷ []) ≡ Err f =
    steps-push front begun 0 state b led ∙ ap (λ n. steps_on (step state n b) (λ n. Ok n)) (omega (arith, long)) ∙ ap (λ x. steps_on x (λ n. Ok n)) s in
    let explained : ExplainedBy state front = steps-explained front [] begun state (record { tokens = []; written = refl; ends = refl; leads = (refl, refl) }) led in
    record {
      fault = f;
      stop = ap (run begun 0) (written ∙ sym (append_assoc front (b ∷ []) more)) ∙ run-stopped (front ++ b ∷ []) more begun 0 f stop;
      class = subst (λ (n : ℕ). Class bytes place n f) (sym here)
          (subst (λ (n : ℕ). Class bytes n b f) long (classify state.mode state.start state.held state.opens bytes front b more f written explained (ap (λ n. step state n b) long ∙ s)));
    }

stopped : (bytes : List ℕ) (place : ℕ) → StopsAt bytes place → Stopped bytes place
stopped bytes place h =
    let front : List ℕ = take place bytes in
    let b : ℕ = get_or bytes place 0 in
    let led = steps_from front h.before in
    stopped_by bytes front b (drop (place + 1) bytes) place led.0 (step led.0 place b)
    (sym (take-append-drop place bytes) ∙ ap (λ l. front ++ l) (drop_more bytes place 0 h.within))
    (length-take-le place bytes (omega (arith, h.within))) refl led.1 refl
    (λ s. h.here (subst (λ (l : List ℕ). Begins l) (sym (take_more bytes place 0 h.within)) s))

apart : ◌≡◌ {A = ℕ} 40 41 → ⊥
apart e = false≢true (ap (λ n. eqb n 41) e)

stray_class : (bytes : List ℕ) (place b : ℕ) (f : ClFault) → b ≡ 41 → ((q : ℕ) → IsLoneSlash bytes q → ⊥) → run begun 0 bytes ≡ Err f → Class bytes place b f → run begun 0 bytes ≡ Err (StrayParen place)
stray_class bytes place b f e paired r (inl h) = absurd (paired h.0 h.2)
stray_class bytes place b f e paired r (inr (inl h)) = r ∙ ap Err h.0
stray_class bytes place b f e paired r (inr (inr (inl h))) = absurd (apart (sym h.2 ∙ e))
stray_class bytes place b f e paired r (inr (inr (inr h))) = absurd (h.1 e)

bad_class : (bytes : List ℕ) (place b : ℕ) (f : ClFault) → (b ≡ 41 → ⊥) → (IsTooDeep bytes place → ⊥) → ((q : ℕ) → IsLoneSlash bytes q → ⊥) → run begun 0 bytes ≡ Err f → Class bytes place b f → run begun 0 bytes ≡ Err (BadByte place)
bad_class bytes place b f other shallow paired r (inl h) = absurd (paired h.0 h.2)
bad_class bytes place b f other shallow paired r (inr (inl h)) = absurd (other h.1)
bad_class bytes place b f other shallow paired r (inr (inr (inl h))) = absurd (shallow h.1)
bad_class bytes place b f other shallow paired r (inr (inr (inr h))) = r ∙ ap Err h.0

pub stray_run : (bytes : List ℕ) (place : ℕ) → IsStrayParen bytes place → run begun 0 bytes ≡ Err (StrayParen place)
stray_run bytes place h =
    let s = stopped bytes place h.stops in
    stray_class bytes place (get_or bytes place 0) s.fault h.paren h.paired s.stop s.class

pub bad_run : (bytes : List ℕ) (place : ℕ) → IsBadByte bytes place → run begun 0 bytes ≡ Err (BadByte place)
bad_run bytes place h =
    let s = stopped bytes place h.stops in
    bad_class bytes place (get_or bytes place 0) s.fault h.other h.shallow h.paired s.stop s.class

-- the verdict of a text that spells items
of_run : (bytes : List ℕ) (r : Result (List Mark) ClFault) → length bytes ≤ 8192 → run begun 0 bytes ≡ r → verdict bytes ≡ named_of r
of_run bytes r short e = verdict-short bytes short ∙ ap named_of e

abbrev by_name : Bool → List ℕ → List Mark → Result Command ClFault
by_name c bytes marks = cond c (Ok (bytes, marks)) (Err BadName)

nameless : (token : Token) (marks : List Mark) → IsNoName token → named_by token marks ≡ Err BadName
nameless (Word bytes) marks h = word_by (is_name bytes) refl h
  where
    word_by : (c : Bool) → is_name bytes ≡ c → (IsName bytes → ⊥) → by_name (is_name bytes) bytes marks ≡ Err BadName
    word_by true e h = absurd (h e)
    word_by false e h = ap (λ c. by_name c bytes marks) e
nameless (Blank byte) marks h = refl
nameless (Comment text) marks h = refl
nameless (Quoted text) marks h = refl
nameless (Key bytes) marks h = refl
nameless Open marks h = refl
nameless Close marks h = refl

stands_in : (f : ClFault) (bytes : List ℕ) → length bytes ≤ 8192 → StandsIn f bytes → verdict bytes ≡ Err f
stands_in (BadByte place) bytes short (inl h) = of_run bytes _ short (lone_run bytes place h)
stands_in (BadByte place) bytes short (inr h) = of_run bytes _ short (bad_run bytes place h)
stands_in (StrayParen place) bytes short h = of_run bytes _ short (stray_run bytes place h)
stands_in (TooDeep place) bytes short h = of_run bytes _ short (deep_run bytes place h.1)
stands_in (OpenQuote place) bytes short h = of_run bytes _ short (quoted_run bytes place h)
stands_in (OpenComment place) bytes short h = of_run bytes _ short (comment_fault bytes place h)
stands_in (OpenParen place) bytes short h = of_run bytes _ short (list_run bytes place h)
stands_in Empty bytes short h = of_run bytes (Ok []) short (run-Spells bytes [] h)
stands_in BadName bytes short h = of_run bytes (Ok (h.first ∷ h.marks)) short (run-Spells bytes (h.first ∷ h.marks) h.spells) ∙ nameless h.first.token h.marks h.nameless
stands_in TooLong bytes short h = absurd h
stands_in NoMemory bytes short h = absurd h

-- a fault that stands is the verdict
pub verdict-Stands : (bytes : List ℕ) (f : ClFault) → Stands f bytes → verdict bytes ≡ Err f
verdict-Stands bytes f (inl h) = verdict-long bytes h.0 ∙ ap Err (sym h.1)
verdict-Stands bytes f (inr h) = stands_in f bytes h.0 h.1

-- a command is the verdict
pub verdict-IsCommand : (bytes name : List ℕ) (marks : List Mark) → IsCommand bytes name marks → verdict bytes ≡ Ok (name, marks)
verdict-IsCommand bytes name marks h =
    of_run bytes (Ok (h.first ∷ marks)) h.short (run-Spells bytes (h.first ∷ marks) h.spells)
    ∙ ap (λ t. named_by t marks) h.word ∙ ap (λ c. by_name c name marks) h.named

command_apart : (c : Command) (f : ClFault) → ◌≡◌ {A = Result Command ClFault} (Ok c) (Err f) → ⊥
command_apart c f e = cc

same_command : (c d : Command) → ◌≡◌ {A = Result Command ClFault} (Ok c) (Ok d) → c ≡ d
same_command c d e = cc

fault_same : (f g : ClFault) → ◌≡◌ {A = Result Command ClFault} (Err f) (Err g) → f ≡ g
fault_same f g e = cc

-- what is named
record IsNamed (first : Mark) (name : List ℕ) : Type 0 where
  word : first.token ≡ Word name
  named : IsName name

word_named : (bytes : List ℕ) (first : Mark) (marks : List Mark) (name : List ℕ) (rest : List Mark) (c : Bool) → is_name bytes ≡ c → first.token ≡ Word bytes
    → by_name c bytes marks ≡ Ok (name, rest) → IsNamed first name × (marks ≡ rest)
word_named bytes first marks name rest true e w h =
    let same = same_command (bytes, marks) (name, rest) h in
    let n : bytes ≡ name = ap (λ (p : Command). p.0) same in
    (record { word = w ∙ ap Word n; named = subst IsName n e }, ap (λ (p : Command). p.1) same)
word_named bytes first marks name rest false e w h = absurd (command_apart (name, rest) BadName (sym h))

token_named : (token : Token) (first : Mark) (marks : List Mark) (name : List ℕ) (rest : List Mark) → first.token ≡ token → named_by token marks ≡ Ok (name, rest) → IsNamed first name × (marks ≡ rest)
token_named (Word bytes) first marks name rest w h = word_named bytes first marks name rest (is_name bytes) refl w h
token_named (Blank byte) first marks name rest w h = absurd (command_apart (name, rest) BadName (sym h))
token_named (Comment text) first marks name rest w h = absurd (command_apart (name, rest) BadName (sym h))
token_named (Quoted text) first marks name rest w h = absurd (command_apart (name, rest) BadName (sym h))
token_named (Key bytes) first marks name rest w h = absurd (command_apart (name, rest) BadName (sym h))
token_named Open first marks name rest w h = absurd (command_apart (name, rest) BadName (sym h))
token_named Close first marks name rest w h = absurd (command_apart (name, rest) BadName (sym h))

command_by : (bytes : List ℕ) (r : Marks) (name : List ℕ) (rest : List Mark) → length bytes ≤ 8192 → run begun 0 bytes ≡ r → named_of r ≡ Ok (name, rest) → IsCommand bytes name rest
command_by bytes (Ok []) name rest short e h = absurd (command_apart (name, rest) Empty (sym h))
command_by bytes (Ok (first ∷ marks)) name rest short e h =
    let n = token_named first.token first marks name rest refl h in
    record {
      short = short;
      first = first;
      spells = subst (λ (m : List Mark). Spells 16 bytes (first ∷ m)) n.1 (Spells-run bytes (first ∷ marks) e);
      word = n.0.word;
      named = n.0.named;
    }
command_by bytes (Err f) name rest short e h = absurd (command_apart (name, rest) f (sym h))

-- the verdict is a command
pub IsCommand-verdict : (bytes name : List ℕ) (marks : List Mark) → verdict bytes ≡ Ok (name, marks) → IsCommand bytes name marks
IsCommand-verdict bytes name marks e =
    elim (cases_lt 8192 (length bytes)) [
      | inl long ↦ absurd (command_apart (name, marks) TooLong (sym e ∙ verdict-long bytes long))
      | inr short ↦ command_by bytes (run begun 0 bytes) name marks short refl (sym (verdict-short bytes short) ∙ e)
    ]

word_nameless : (bytes : List ℕ) (marks : List Mark) (f : ClFault) (c : Bool) → is_name bytes ≡ c → by_name c bytes marks ≡ Err f → (f ≡ BadName) × (IsName bytes → ⊥)
word_nameless bytes marks f true e h = absurd (command_apart (bytes, marks) f h)
word_nameless bytes marks f false e h = (sym (fault_same BadName f h), λ n. false≢true (sym e ∙ n))

token_nameless : (token : Token) (marks : List Mark) (f : ClFault) → named_by token marks ≡ Err f → (f ≡ BadName) × IsNoName token
token_nameless (Word bytes) marks f h = word_nameless bytes marks f (is_name bytes) refl h
token_nameless (Blank byte) marks f h = (sym (fault_same BadName f h), tt)
token_nameless (Comment text) marks f h = (sym (fault_same BadName f h), tt)
token_nameless (Quoted text) marks f h = (sym (fault_same BadName f h), tt)
token_nameless (Key bytes) marks f h = (sym (fault_same BadName f h), tt)
token_nameless Open marks f h = (sym (fault_same BadName f h), tt)
token_nameless Close marks f h = (sym (fault_same BadName f h), tt)

stands_by : (bytes : List ℕ) (r : Marks) (f : ClFault) → run begun 0 bytes ≡ r → named_of r ≡ Err f → StandsIn f bytes
stands_by bytes (Ok []) f e h = subst (λ (g : ClFault). StandsIn g bytes) (fault_same Empty f h) (Spells-run bytes [] e)
stands_by bytes (Ok (first ∷ marks)) f e h =
    let n = token_nameless first.token marks f h in
    subst (λ (g : ClFault). StandsIn g bytes) (sym n.0) (record { first = first; marks = marks; spells = Spells-run bytes (first ∷ marks) e; nameless = n.1 })
stands_by bytes (Err g) f e h = subst (λ (g : ClFault). StandsIn g bytes) (fault_same g f h) (fault_stands bytes g e)

-- the verdict is a fault that stands
pub Stands-verdict : (bytes : List ℕ) (f : ClFault) → verdict bytes ≡ Err f → Stands f bytes
Stands-verdict bytes f e =
    elim (cases_lt 8192 (length bytes)) [
      | inl long ↦ inl (long, fault_same f TooLong (sym e ∙ verdict-long bytes long))
      | inr short ↦ inr (short, stands_by bytes (run begun 0 bytes) f refl (sym (verdict-short bytes short) ∙ e))
    ]

-- what the reader's answer says by the grammar
pub ok_command : (bytes : List ℕ) (r : Result Tree ClFault) → IfOk r (λ tree. verdict bytes ≡ Ok (tree.name, list_marks tree.items.items)) → IfOk r (λ tree. IsCommand bytes tree.name (list_marks tree.items.items))
ok_command bytes (Ok tree) h = IsCommand-verdict bytes tree.name (list_marks tree.items.items) h
ok_command bytes (Err f) h = tt

pub err_stands : (bytes : List ℕ) (r : Result Tree ClFault) → IfErr r (λ e. e ≢ NoMemory → verdict bytes ≡ Err e) → IfErr r (λ e. e ≢ NoMemory → Stands e bytes)
err_stands bytes (Ok tree) h = tt
err_stands bytes (Err f) h = λ n. Stands-verdict bytes f (h n)

is_memory : (f : ClFault) → (f ≡ NoMemory) ⊎ (f ≢ NoMemory)
is_memory NoMemory = inl refl
is_memory (BadByte p) = inr (λ e. cc)
is_memory (StrayParen p) = inr (λ e. cc)
is_memory (TooDeep p) = inr (λ e. cc)
is_memory (OpenQuote p) = inr (λ e. cc)
is_memory (OpenComment p) = inr (λ e. cc)
is_memory (OpenParen p) = inr (λ e. cc)
is_memory Empty = inr (λ e. cc)
is_memory BadName = inr (λ e. cc)
is_memory TooLong = inr (λ e. cc)

pub command_read : (bytes : List ℕ) (r : Result Tree ClFault) → IfOk r (λ tree. verdict bytes ≡ Ok (tree.name, list_marks tree.items.items)) → IfErr r (λ e. e ≢ NoMemory → verdict bytes ≡ Err e)
    → (name : List ℕ) (marks : List Mark) → IsCommand bytes name marks → MatchResult r (λ tree. (tree.name ≡ name) × (list_marks tree.items.items ≡ marks)) (λ e. e ≡ NoMemory)
command_read bytes (Ok tree) h k name marks c =
    let same = same_command (tree.name, list_marks tree.items.items) (name, marks) (sym h ∙ verdict-IsCommand bytes name marks c) in
    (ap (λ (p : Command). p.0) same, ap (λ (p : Command). p.1) same)
command_read bytes (Err f) h k name marks c =
    elim (is_memory f) [ inl e ↦ e | inr n ↦ absurd (command_apart (name, marks) f (sym (verdict-IsCommand bytes name marks c) ∙ k n)) ]

pub fault_read : (bytes : List ℕ) (r : Result Tree ClFault) → IfOk r (λ tree. verdict bytes ≡ Ok (tree.name, list_marks tree.items.items)) → IfErr r (λ e. e ≢ NoMemory → verdict bytes ≡ Err e)
    → (fault : ClFault) → Stands fault bytes → MatchResult r (λ _. ⊥) (λ e. e ≢ NoMemory → e ≡ fault)
fault_read bytes (Ok tree) h k fault s = command_apart (tree.name, list_marks tree.items.items) fault (sym h ∙ verdict-Stands bytes fault s)
fault_read bytes (Err f) h k fault s = λ n. fault_same f fault (sym (k n) ∙ verdict-Stands bytes fault s)

-- a text has one verdict
pub one_command : (bytes : List ℕ) (name other : List ℕ) (marks more : List Mark) → IsCommand bytes name marks → IsCommand bytes other more → (name ≡ other) × (marks ≡ more)
one_command bytes name other marks more h k =
    let same = same_command (name, marks) (other, more) (sym (verdict-IsCommand bytes name marks h) ∙ verdict-IsCommand bytes other more k) in
    (ap (λ (p : Command). p.0) same, ap (λ (p : Command). p.1) same)

pub one_fault : (bytes : List ℕ) (f g : ClFault) → Stands f bytes → Stands g bytes → f ≡ g
one_fault bytes f g h k = fault_same f g (sym (verdict-Stands bytes f h) ∙ verdict-Stands bytes g k)

pub no_fault : (bytes name : List ℕ) (marks : List Mark) (f : ClFault) → IsCommand bytes name marks → Stands f bytes → ⊥
no_fault bytes name marks f h k = command_apart (name, marks) f (sym (verdict-IsCommand bytes name marks h) ∙ verdict-Stands bytes f k)

-- each text is a command or has a fault
verdict_cases : (bytes : List ℕ) (r : Result Command ClFault) → verdict bytes ≡ r → ((name : List ℕ) × ((marks : List Mark) × IsCommand bytes name marks)) ⊎ ((f : ClFault) × Stands f bytes)
verdict_cases bytes (Ok c) e = inl (c.0, (c.1, IsCommand-verdict bytes c.0 c.1 e))
verdict_cases bytes (Err f) e = inr (f, Stands-verdict bytes f e)

pub some_verdict : (bytes : List ℕ) → ((name : List ℕ) × ((marks : List Mark) × IsCommand bytes name marks)) ⊎ ((f : ClFault) × Stands f bytes)
some_verdict bytes = verdict_cases bytes (verdict bytes) refl
