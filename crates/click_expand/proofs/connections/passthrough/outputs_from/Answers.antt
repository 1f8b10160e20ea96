use Rattle.std.proofs.Common.{◌≡◌, ◌<◌, ◌∙◌, List, Some, length, get_or, subst, sym, ap, arith}
use Rattle.std.specs.List.{slice_get}
use Rattle.std.proofs.lemmas.Option.{slice_get-get_or}
use Rattle.click_scopes.specs.declared.written_connections.Owner.TheVariants as owner
use Rattle.click_scopes.specs.kept.Lookups.{body_at}
use Rattle.click_expand.specs.declared.connections.connection_index.ScopePort.{ScopePort}
use Rattle.click_expand.specs.kept.Wiring.{scope_port, ends_in}
use Rattle.click_expand.specs.kept.Passthrough.{GoesOnBehind, LeadsThrough}
use Rattle.click_expand.proofs.OfConnections.PassthroughSearch.{goes-next, goes-all}
use Rattle.click_expand.proofs.connections.passthrough.outputs_from.Goals as goal

abbrev blank : ScopePort
blank = scope_port owner.Input 0

pub loop-at-preserved : goal.loop-at-preserved
loop-at-preserved c = λ ends short h are.
    let i = c.loop-at.at in let xs = c.as_slice.result.now in let seen = c.loop-at.seen.keys in let t = get_or xs i blank in
    let body = body_at c.args.scopes.now.scopes.items in let s = c.args.scope in let here = ends_in c.args.index.now.ends.entries in
    let new = c.follow_all.new.seen.keys in let old_outs = c.loop-at.outputs.keys in let new_outs = c.follow_all.new.outputs.keys in
    let within : i < length xs = (let f = c.loop-at-test.true in let n = c.len.ensures.len in let e = ap length c.as_slice.ensures.keys in omega (arith, f, n, e)) in
    let there : slice_get seen i ≡ Some t = ap (λ l. slice_get l i) (sym c.as_slice.ensures.keys) ∙ slice_get-get_or xs i blank within in
    goes-next ends body short s here are c.args.from seen new old_outs new_outs i t there
    (subst (λ (es : List ScopePort). GoesOnBehind ends body short s es seen new old_outs new_outs) c.ends-ends.ensures (c.in_ok-follow_all.ensures ends short h (let f = c.if-not-branch.false in cc f)))
    (c.loop-at.invariant ends short h are)

pub returns : goal.returns
returns c = λ ends short h are n like.
    let body = body_at c.args.scopes.now.scopes.items in let s = c.args.scope in let here = ends_in c.args.index.now.ends.entries in
    let m = c.len.ensures.len in
    subst (LeadsThrough ends body s n) (sym (c.in_ok-from_slice.ensures.items ∙ c.as_slice-2.ensures.keys))
    (goes-all ends body short s here are c.args.from c.loop-at.seen.keys c.loop-at.outputs.keys c.loop-at.at (c.loop-at.invariant ends short h are)
    (let f = c.loop-at-test.false in omega (arith, f, m)) n like)
