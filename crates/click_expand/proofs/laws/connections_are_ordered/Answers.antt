use Rattle.click_expand.proofs.OfLaws.OwnElements.{ordered-at}
use Rattle.click_expand.proofs.laws.connections_are_ordered.Goals as goal

pub returns : goal.returns
returns c = λ config flat i j k l h. ordered-at flat.connections h.meant.connections.in_order i j k l
