use Rattle.click_gateway.proofs.Reports.{fragment-not_reported}
use Rattle.click_gateway.proofs.laws.no_error_about_a_later_fragment.Goals as goal

pub returns : goal.returns
returns c = fragment-not_reported
