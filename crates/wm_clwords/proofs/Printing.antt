-- What printed items spell: a keyed item with a word, with a text in apostrophes, or with several values, and items one after another.
use Rattle.std.proofs.Common.{◌≡◌, ℕ, ◌+◌, ◌<◌, ◌≤◌, ◌++◌, true, List, [], ◌∷◌, length, subst, sym, ◌∙◌, ap, refl, arith}
use Rattle.std.specs.List.{flat_map}
use Rattle.std.proofs.lemmas.List.{append_assoc, append-nil}
use Rattle.std.proofs.lemmas.List.Concat.{flat_map-append}
use Rattle.wm_base.specs.Name.{IsName}
use Rattle.wm_base.specs.Text.{IsText}
use Rattle.wm_clwords.specs.Quote.{quoted}
use Rattle.wm_clwords.specs.Grammar.{Token, Blank, Comment, Word, Quoted, Key, Open, Close, spelling, is_word, Next, Anything, ByWord, ByQuoted, MayStand, upper, Mark, mark_at, marks_from}
use Rattle.wm_clwords.specs.Faults.{IsCommand}
use Rattle.wm_clwords.specs.Call.{tokens_of}
use Rattle.wm_clwords.proofs.NameWords.{upper_name, word_name}
use Rattle.wm_clwords.proofs.Tokens.{tokens-append}

-- what a token says of the items
abbrev pub said : Token → List Token
said (Blank byte) = []
said (Comment text) = []
said (Word bytes) = Word (upper bytes) ∷ []
said (Quoted text) = Quoted text ∷ []
said (Key bytes) = Key (upper bytes) ∷ []
said Open = Open ∷ []
said Close = Close ∷ []

mark_said : (place : ℕ) (token : Token) → tokens_of (mark_at place token) ≡ said token
mark_said place (Blank byte) = refl
mark_said place (Comment text) = refl
mark_said place (Word bytes) = refl
mark_said place (Quoted text) = refl
mark_said place (Key bytes) = refl
mark_said place Open = refl
mark_said place Close = refl

pub marks_said : (place : ℕ) (tokens : List Token) → tokens_of (marks_from place tokens) ≡ flat_map said tokens
marks_said place [] = refl
marks_said place (token ∷ tokens) =
    tokens-append (mark_at place token) (marks_from (place + length (spelling token)) tokens)
    ∙ ap (λ l. l ++ tokens_of (marks_from (place + length (spelling token)) tokens)) (mark_said place token)
    ∙ ap (λ l. said token ++ l) (marks_said (place + length (spelling token)) tokens)

-- tokens that may stand
blank_stands : (next : Next) (opens : ℕ) (rest : List Token) → MayStand 16 Anything opens rest → MayStand 16 next opens (Blank 32 ∷ rest)
blank_stands Anything opens rest h = (refl, refl, (opens, refl, h))
blank_stands ByWord opens rest h = (refl, refl, (opens, refl, h))
blank_stands ByQuoted opens rest h = (refl, refl, (opens, refl, h))

close_stands : (next : Next) (opens : ℕ) (rest : List Token) → MayStand 16 Anything opens rest → MayStand 16 next (opens + 1) (Close ∷ rest)
close_stands Anything opens rest h = (refl, refl, (opens, refl, h))
close_stands ByWord opens rest h = (refl, refl, (opens, refl, h))
close_stands ByQuoted opens rest h = (refl, refl, (opens, refl, h))

-- bytes that fill a list, and the tokens that they say
pub record Fills (bytes : List ℕ) (tokens : List Token) : Type 0 where
  pub parts : List Token
  pub written : bytes ≡ flat_map spelling parts
  pub says : flat_map said parts ≡ tokens
  pub stands : (rest : List Token) (opens : ℕ) → MayStand 16 Anything opens rest → MayStand 16 Anything (opens + 1) (parts ++ (Close ∷ rest))

-- a word, or a text in apostrophes
pub fills_word : (word : List ℕ) → is_word word ≡ true → Fills word (Word (upper word) ∷ [])
fills_word word w =
    record {
      parts = Word word ∷ [];
      written = sym (append-nil word);
      says = refl;
      stands = λ rest opens h. (w, refl, (opens + 1, refl, close_stands ByWord opens rest h));
    }

pub fills_quoted : (text : List ℕ) → IsText text → Fills (quoted text) (Quoted text ∷ [])
fills_quoted text t =
    record {
      parts = Quoted text ∷ [];
      written = sym (append-nil (quoted text));
      says = refl;
      stands = λ rest opens h. (t, refl, (opens + 1, refl, close_stands ByQuoted opens rest h));
    }

pub fills_quoted_next : (text bytes : List ℕ) (tokens : List Token) → IsText text → Fills bytes tokens → Fills (quoted text ++ 32 ∷ bytes) (Quoted text ∷ tokens)
fills_quoted_next text bytes tokens t f =
    record {
      parts = Quoted text ∷ Blank 32 ∷ f.parts;
      written = ap (λ l. quoted text ++ 32 ∷ l) f.written;
      says = ap (λ l. Quoted text ∷ l) f.says;
      stands = λ rest opens h. (t, refl, (opens + 1, refl, blank_stands ByQuoted (opens + 1) (f.parts ++ (Close ∷ rest)) (f.stands rest opens h)));
    }

-- bytes of whole items, each a key with its list, and the tokens that they say
pub record Prints (bytes : List ℕ) (tokens : List Token) : Type 0 where
  pub parts : List Token
  pub written : bytes ≡ flat_map spelling parts
  pub says : flat_map said parts ≡ tokens
  pub stands : (rest : List Token) (opens : ℕ) → opens < 16 → MayStand 16 Anything opens rest → MayStand 16 Anything opens (parts ++ rest)

pub prints_nil : Prints [] []
prints_nil = record { parts = []; written = refl; says = refl; stands = λ rest opens few h. h }

-- `KEY(` .. `)`
pub prints_keyed : (key bytes : List ℕ) (tokens : List Token) → is_word key ≡ true → Fills bytes tokens → Prints (key ++ 40 ∷ bytes ++ 41 ∷ []) (Key (upper key) ∷ tokens ++ Close ∷ [])
prints_keyed key bytes tokens w f =
    record {
      parts = Key key ∷ f.parts ++ Close ∷ [];
      written =
          append_assoc key (40 ∷ bytes) (41 ∷ []) ∙ ap (λ l. key ++ 40 ∷ (l ++ 41 ∷ [])) f.written ∙ sym (append_assoc key (40 ∷ []) (flat_map spelling f.parts ++ 41 ∷ []))
          ∙ ap (λ l. (key ++ 40 ∷ []) ++ l) (sym (flat_map-append spelling f.parts (Close ∷ [])));
      says = ap (λ l. Key (upper key) ∷ l) (flat_map-append said f.parts (Close ∷ []) ∙ ap (λ l. l ++ Close ∷ []) f.says);
      stands = λ rest opens few h. (w, refl, (opens + 1, (few, refl), subst (λ (l : List Token). MayStand 16 Anything (opens + 1) l) (sym (append_assoc f.parts (Close ∷ []) rest)) (f.stands rest opens h)));
    }

-- a blank before items
pub prints_blank : (bytes : List ℕ) (tokens : List Token) → Prints bytes tokens → Prints (32 ∷ bytes) tokens
prints_blank bytes tokens p =
    record {
      parts = Blank 32 ∷ p.parts;
      written = ap (λ l. 32 ∷ l) p.written;
      says = p.says;
      stands = λ rest opens few h. blank_stands Anything opens (p.parts ++ rest) (p.stands rest opens few h);
    }

-- items, and further ones
pub prints_append : (bytes more : List ℕ) (tokens others : List Token) → Prints bytes tokens → Prints more others → Prints (bytes ++ more) (tokens ++ others)
prints_append bytes more tokens others p q =
    record {
      parts = p.parts ++ q.parts;
      written = ap (λ l. l ++ more) p.written ∙ ap (λ l. flat_map spelling p.parts ++ l) q.written ∙ sym (flat_map-append spelling p.parts q.parts);
      says = flat_map-append said p.parts q.parts ∙ ap (λ l. l ++ flat_map said q.parts) p.says ∙ ap (λ l. tokens ++ l) q.says;
      stands = λ rest opens few h. subst (λ (l : List Token). MayStand 16 Anything opens l) (sym (append_assoc p.parts q.parts rest)) (p.stands (q.parts ++ rest) opens few (q.stands rest opens few h));
    }

-- a command's name, a blank and its items
pub record Printed (bytes name : List ℕ) (tokens : List Token) : Type 0 where
  pub marks : List Mark
  pub command : IsCommand bytes name marks
  pub says : tokens_of marks ≡ tokens

pub command_printed : (name bytes : List ℕ) (tokens : List Token) → IsName name → Prints bytes tokens → length (name ++ 32 ∷ bytes) ≤ 8192 → Printed (name ++ 32 ∷ bytes) name tokens
command_printed name bytes tokens n p short =
    let behind : List Mark = marks_from (0 + length name) (Blank 32 ∷ p.parts) in
    record {
      marks = behind;
      command =
          record {
            short = short;
            first = record { from = 0; to = 0 + length name; token = Word (upper name) };
            spells =
                record {
                  tokens = Word name ∷ Blank 32 ∷ p.parts;
                  written = ap (λ l. name ++ 32 ∷ l) p.written;
                  stand = (word_name name n, refl, (0, refl, blank_stands ByWord 0 p.parts (subst (λ (l : List Token). MayStand 16 Anything 0 l) (append-nil p.parts) (p.stands [] 0 (omega arith) refl))));
                  items = refl;
                };
            word = ap Word (upper_name name n);
            named = n;
          };
      says = marks_said (0 + length name) (Blank 32 ∷ p.parts) ∙ p.says;
    }
