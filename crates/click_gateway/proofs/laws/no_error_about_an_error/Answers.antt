use Rattle.click_gateway.specs.Icmp.{report_of}
use Rattle.click_gateway.proofs.Reports.{report-is_error, error-not_reported}
use Rattle.click_gateway.proofs.laws.no_error_about_an_error.Goals as goal

pub returns : goal.returns
returns c = λ own further bytes kind code n h.
    error-not_reported (report_of own kind code further bytes) (report-is_error own further bytes kind code n h)
