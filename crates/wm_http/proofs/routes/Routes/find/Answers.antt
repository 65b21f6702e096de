use Rattle.std.proofs.Common.{rules}
use Rattle.wm_http.proofs.PathLemmas.{ascii_text}
use Rattle.wm_http.proofs.routes.Routes.find.Goals as goal

pub returns-in_default : goal.returns-in_default
returns-in_default c = absurd (c.in_default.ensures.cases.0 (ascii_text _ (search rules)))
