use Rattle.click_classes.proofs.OfQueriers.QuerierAccounts.{run-told}
use Rattle.click_classes.proofs.OfQueriers.KnownNeighbours.{account-known, at_most_one}
use Rattle.click_classes.proofs.laws.queriers_account_for_each_packet.Goals as goal

pub returns : goal.returns
returns c = record {
  account = λ outputs q es sound. let t = run-told outputs q es sound in (t.sent, t.dropped, t.account);
  known = account-known;
  one = at_most_one;
}
