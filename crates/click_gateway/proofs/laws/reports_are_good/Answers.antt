use Rattle.click_gateway.proofs.Reports.{report-carries, report-sums, report-quotes, report-short}
use Rattle.click_gateway.proofs.laws.reports_are_good.Goals as goal

pub returns-clause-good : goal.returns-clause-good
returns-clause-good c = λ own further bytes kind code n. (report-carries own further bytes kind code n).good

pub returns-clause-source : goal.returns-clause-source
returns-clause-source c = λ own further bytes kind code n. (report-carries own further bytes kind code n).source

pub returns-clause-destination : goal.returns-clause-destination
returns-clause-destination c = λ own further bytes kind code n. (report-carries own further bytes kind code n).destination

pub returns-clause-sum : goal.returns-clause-sum
returns-clause-sum c = report-sums

pub returns-clause-quote : goal.returns-clause-quote
returns-clause-quote c = report-quotes

pub returns-clause-len : goal.returns-clause-len
returns-clause-len c = report-short
