-- What a desk tells once a connection was given back.
use Rattle.std.proofs.Common.{◌≡◌, ℕ, Bool, true, false, List, [], ◌∷◌, ◌++◌, Option, Some, None, option_map, refl, ap, sym, subst, ◌∙◌}
use Rattle.std.specs.Option.{option_and_then}
use Rattle.wm_outside.specs.Memory.{source_left, source_calls, sink_calls, sink_written}
use Rattle.wm_traits.specs.Told.{told_if}
use Rattle.wm_listener.specs.Had.{Had, GivesBack}
use Rattle.wm_listener.specs.Memory.{had_with, had_of, joined, had_all}
use Rattle.wm_listener.specs.declared.memory.desk.Returned.{Returned}

-- one more behind others, where all are told
abbrev appended : Option (List Had) → Option Had → Option (List Had)
appended None h = None
appended (Some xs) None = None
appended (Some xs) (Some h) = Some (xs ++ h ∷ [])

joined_appended : (f : Option Had) (xs : Option (List Had)) (h : Option Had) → joined f (appended xs h) ≡ appended (joined f xs) h
joined_appended None xs h = refl
joined_appended (Some f) None h = refl
joined_appended (Some f) (Some xs) None = refl
joined_appended (Some f) (Some xs) (Some h) = refl

alone : (h : Option Had) → joined h (Some []) ≡ appended (Some []) h
alone None = refl
alone (Some h) = refl

had_more : (rs : List Returned) (r : Returned) → had_all (rs ++ r ∷ []) ≡ appended (had_all rs) (had_of r)
had_more [] r = alone (had_of r)
had_more (s ∷ rs) r = ap (joined (had_of s)) (had_more rs r) ∙ joined_appended (had_of s) (had_all rs) (had_of r)

behind : (r : Returned) (xs : Option (List Had)) (w : Option (List ℕ)) → GivesBack xs (appended xs (option_map (had_with r) w)) (Some (Some (source_left r.given.value))) (Some (source_left r.input)) w (source_calls r.input).failed (sink_calls r.output).failed
behind r None w = tt
behind r (Some xs) None = tt
behind r (Some xs) (Some w) = record { last = had_with r w; more = refl; came = refl; rest = refl; said = refl; reads = refl; writes = refl }

-- the connection that is put behind the others is given back
pub put_back : (tells : Bool) (rs : List Returned) (r : Returned) → GivesBack (option_and_then (λ (xs : List Returned). had_all xs) (told_if tells rs)) (option_and_then (λ (xs : List Returned). had_all xs) (told_if tells (rs ++ r ∷ []))) (Some (Some (source_left r.given.value))) (Some (source_left r.input)) (sink_written r.output) (source_calls r.input).failed (sink_calls r.output).failed
put_back false rs r = tt
put_back true rs r = subst (λ (now : Option (List Had)). GivesBack (had_all rs) now (Some (Some (source_left r.given.value))) (Some (source_left r.input)) (sink_written r.output) (source_calls r.input).failed (sink_calls r.output).failed) (sym (had_more rs r)) (behind r (had_all rs) (sink_written r.output))
