use Rattle.wm_law.proofs.Orders.{reached_route_is_least}
use Rattle.wm_law.proofs.Routes.{route_is_least, no_route_is_none}
use Rattle.wm_law.proofs.laws.routes_are_least.Goals as goal

pub returns-clause-least : goal.returns-clause-least
returns-clause-least c = route_is_least

pub returns-clause-none : goal.returns-clause-none
returns-clause-none c = no_route_is_none

pub returns-clause-always : goal.returns-clause-always
returns-clause-always c = reached_route_is_least
