use Rattle.std.proofs.Common.{rules, refl, inl, inr}
use Rattle.wm_http.proofs.cutting.cut.Goals as goal

pub returns-in-TooLarge : goal.returns-in-TooLarge
returns-in-TooLarge c = inr (inl (search rules, refl))
