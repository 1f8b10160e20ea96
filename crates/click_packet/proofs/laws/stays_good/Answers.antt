use Rattle.click_packet.proofs.Headers.{with_ttl-good, ttl-with_ttl, get_or-with_ttl, length-with_ttl}
use Rattle.click_packet.proofs.laws.stays_good.Goals as goal

pub returns-clause-good : goal.returns-clause-good
returns-clause-good c = with_ttl-good

pub returns-clause-ttl : goal.returns-clause-ttl
returns-clause-ttl c = λ bytes refused new g. ttl-with_ttl bytes new g.long g.there

pub returns-clause-rest : goal.returns-clause-rest
returns-clause-rest c = get_or-with_ttl

pub returns-clause-len : goal.returns-clause-len
returns-clause-len c = length-with_ttl
