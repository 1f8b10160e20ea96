use Rattle.std.proofs.Common.{inr}
use Rattle.click_text.proofs.OfParser.RunOutcomes.{refused_end, refused_token, deep_none, deep_token}
use Rattle.click_text.proofs.parser.Parser.fault.Goals as goal

pub returns-in-None : goal.returns-in-None
returns-in-None c = λ ts h. inr (rw c.fault.ensures (refused_end c.args.size ts c.args.ending (rw (c.in-Unexpected.is, c.in-None.ensures) at h)))

pub returns-in-Some : goal.returns-in-Some
returns-in-Some c = λ ts h. inr (rw c.span.ensures (refused_token c.args.size ts _ c.in-Some.token c.args.ending (rw (c.in-Unexpected.is, c.in-Some.ensures) at h)))

pub returns-in-None-next : goal.returns-in-None-next
returns-in-None-next c = λ ts h. absurd (deep_none ts (rw (c.in-TooDeep.is, c.in-None-next.ensures) at h))

pub returns-in-Some-next : goal.returns-in-Some-next
returns-in-Some-next c = λ ts h. inr (rw c.span-in-Some-next.ensures (deep_token c.args.size ts _ c.in-Some-next.token c.args.ending (rw (c.in-TooDeep.is, c.in-Some-next.ensures) at h)))
