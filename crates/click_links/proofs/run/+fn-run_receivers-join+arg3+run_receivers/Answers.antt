use Rattle.std.proofs.Common.{◌≡◌, arith}
use Rattle.std.proofs.lemmas.Slice.Zip.{AllZip-long}
use Rattle.click_links.proofs.Zips.{zip_more}
use Rattle.click_links.specs.Fates.{Receives}
use Rattle.click_links.specs.declared.run.Receiver.{Receiver}
use Rattle.click_links.proofs.run.+fn-run_receivers-join+arg3+run_receivers.Goals as goal

pub push_reserved-requires : goal.push_reserved-requires
push_reserved-requires g t c =
    let rest = c.join-heard.ensures.second in
    let many = AllZip-long _ _ _ rest.0 in
    let is = rw c.in-Some.is at c.pop.ensures.cases in
    omega (arith, many, c.join-heard.result.1.ok.0, c.pop.new.self.ok.0, c.args.links.ok, rest.1, is, c.pop.ensures.len, c.pop.ensures.capacity)

pub returns-clause-receives : goal.returns-clause-receives
returns-clause-receives g t c =
    zip_more
    (λ (old new : Receiver g.row.L.Denot). (new.device ≡ old.device) × Receives (g.L.Inbound.received old.link) (g.L.Inbound.received new.link) old.intake new.intake new.received.dropped)
    _ _ _ _ _ _ _ c.pop.ensures.items c.in-Some.is c.push_reserved.ensures.items c.join-heard.ensures.second.0 c.join-heard.ensures.first
