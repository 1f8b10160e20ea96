use Rattle.std.proofs.Common.{subst, ◌<◌}
use Rattle.click_scopes.proofs.OfBodies.BodyBraces.{spelled-short}
use Rattle.click_scopes.proofs.analysis.text_len.Goals as goal

pub returns : goal.returns
returns c = spelled-short c.args.config.now.text c.args.config.now c.requires (subst (λ n. n < 18446744073709551616) c.len.ensures c.len.type_inv)
