use Rattle.click_classes.proofs.OfRoutes.OneRoute.{one_route_at}
use Rattle.click_classes.proofs.laws.one_route.Goals as goal

pub returns : goal.returns
returns c = one_route_at
