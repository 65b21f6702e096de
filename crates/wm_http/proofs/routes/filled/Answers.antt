use Rattle.std.proofs.Common.{rules}
use Rattle.matchit.proofs.OnLiterals.{matchit_on_literals}
use Rattle.wm_http.specs.Routes.{known_routes}
use Rattle.wm_http.proofs.routes.filled.Goals as goal

pub returns : goal.returns
unfolding matchit_on_literals known_routes
returns c = search rules
