-- The verdict, from the parts of its definition.
use Rattle.std.proofs.Common.{◌≡◌, ◌≢◌, ◌<◌, ◌≤◌, ◌∙◌, ℕ, List, length, cond, Result, Ok, Err, IfOk, IfErr, ap}
use Rattle.std.proofs.lemmas.Bool.{lt-ltb, le-ltb}
use Rattle.wm_clwords.specs.declared.fault.ClFault.{ClFault}
use Rattle.wm_clwords.specs.declared.fault.ClFault.TheVariants.{TooLong, NoMemory}
use Rattle.wm_clwords.specs.declared.tree.Tree.{Tree}
use Rattle.wm_clwords.specs.Grammar.{Mark}
use Rattle.wm_clwords.specs.Items.{list_marks}
use Rattle.wm_clwords.specs.Reading.{run, begun}
use Rattle.wm_clwords.specs.Verdict.{named, named_of, verdict}

pub verdict-long : (bytes : List ℕ) → 8192 < length bytes → verdict bytes ≡ Err TooLong
unfolding verdict
verdict-long bytes h = ap (λ c. cond c (Err TooLong) (named_of (run begun 0 bytes))) (lt-ltb 8192 (length bytes) h)

pub verdict-short : (bytes : List ℕ) → length bytes ≤ 8192 → verdict bytes ≡ named_of (run begun 0 bytes)
unfolding verdict
verdict-short bytes h = ap (λ c. cond c (Err TooLong) (named_of (run begun 0 bytes))) (le-ltb 8192 (length bytes) h)

-- the items were read, and then named
pub if_ok_after : (bytes : List ℕ) (marks : List Mark) → length bytes ≤ 8192 → run begun 0 bytes ≡ Ok marks → (r : Result Tree ClFault)
    → IfOk r (λ tree. named marks ≡ Ok (tree.name, list_marks tree.items.items)) → IfOk r (λ tree. verdict bytes ≡ Ok (tree.name, list_marks tree.items.items))
if_ok_after bytes marks h e (Ok tree) n = verdict-short bytes h ∙ ap named_of e ∙ n
if_ok_after bytes marks h e (Err f) n = tt

pub if_err_after : (bytes : List ℕ) (marks : List Mark) → length bytes ≤ 8192 → run begun 0 bytes ≡ Ok marks → (r : Result Tree ClFault)
    → IfErr r (λ e. named marks ≡ Err e) → IfErr r (λ e. e ≢ NoMemory → verdict bytes ≡ Err e)
if_err_after bytes marks h e (Ok tree) n = tt
if_err_after bytes marks h e (Err f) n = λ _. verdict-short bytes h ∙ ap named_of e ∙ n
