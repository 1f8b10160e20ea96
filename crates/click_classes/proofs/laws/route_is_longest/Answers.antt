use Rattle.click_classes.proofs.OfRoutes.LongestRoute.{route-some, route-none}
use Rattle.click_classes.proofs.laws.route_is_longest.Goals as goal

pub returns-clause-found : goal.returns-clause-found
returns-clause-found c = route-some

pub returns-clause-none : goal.returns-clause-none
returns-clause-none c = route-none
