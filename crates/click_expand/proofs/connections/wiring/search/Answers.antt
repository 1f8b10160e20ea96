use Rattle.std.proofs.Common.{◌≡◌, ◌<◌, Some, length, get_or, ap, sym, ◌∙◌, arith}
use Rattle.std.specs.List.{slice_get}
use Rattle.std.proofs.lemmas.Option.{slice_get-get_or}
use Rattle.click_scopes.specs.declared.written_connections.Owner.TheVariants as owner
use Rattle.click_expand.specs.declared.connections.connection_index.InstancePort.{InstancePort}
use Rattle.click_expand.specs.kept.Wiring.{scope_port, instance_port, IsFrom}
use Rattle.click_expand.proofs.OfConnections.PortSearch.{gains-none, goes-first, goes-next, goes-all}
use Rattle.click_expand.proofs.connections.wiring.search.Goals as goal
use Rattle.click_expand.proofs.connections.wiring.search.Goals.{then-loop-at-test+else-len-le-MAX_CONNECTIONS, else-loop-at-test}

abbrev blank : InstancePort
blank = instance_port 0 (scope_port owner.Input 0)

pub returns-then-len-gt-MAX_CONNECTIONS-clause-more : goal.returns-then-len-gt-MAX_CONNECTIONS-clause-more
returns-then-len-gt-MAX_CONNECTIONS-clause-more c = gains-none (IsFrom c.args.instances.now c.args.indices.now c.args.from.primitive_element c.args.from.start) c.args.found.now.keys

pub returns-then-len-gt-MAX_CONNECTIONS-clause-all : goal.returns-then-len-gt-MAX_CONNECTIONS-clause-all
returns-then-len-gt-MAX_CONNECTIONS-clause-all c = λ few. absurd (let n = c.len.ensures.len in let f = c.if-len-gt-MAX_CONNECTIONS.true in omega (arith, few, n, f))

pub loop-at-init : goal.loop-at-init
loop-at-init c =
    goes-first c.args.instances.now c.args.indices.now c.args.from.primitive_element c.args.from.start c.new-seen.result.keys c.visit.new.seen.keys c.args.found.now.keys c.visit.new.found.keys
    c.new-seen.ensures.empty c.in_ok-visit.ensures

pub loop-at-preserved : goal.loop-at-preserved
loop-at-preserved c =
    let i = c.loop-at.at in let xs = c.as_slice.result.now in let seen = c.loop-at.seen.keys in
    let within : i < length xs = (let t = c.loop-at-test.true in let n = c.len-in-loop-at.ensures.len in let e = ap length c.as_slice.ensures.keys in omega (arith, t, n, e)) in
    let there : slice_get seen i ≡ Some (get_or xs i blank) = ap (λ l. slice_get l i) (sym c.as_slice.ensures.keys) ∙ slice_get-get_or xs i blank within in
    goes-next c.args.instances.now c.args.indices.now c.args.from.primitive_element c.args.from.start seen c.visit-in-loop-at.new.seen.keys c.args.found.now.keys c.loop-at.found.keys c.visit-in-loop-at.new.found.keys i (get_or xs i blank)
    there c.in_ok-visit-2.ensures c.loop-at.invariant

pub returns-clause-all : goal.returns-clause-all
returns-clause-all c = λ few.
    let n = c.len-in-loop-at.ensures.len in
    elim c.loop-at-test.branch [
      | then-loop-at-test+else-len-le-MAX_CONNECTIONS w ↦
          absurd (let m = w.len-in-loop-at-2.ensures.len in let f = w.if-len-le-MAX_CONNECTIONS.false in omega (arith, few, m, f))
      | else-loop-at-test w ↦
          goes-all c.args.instances.now c.args.indices.now c.args.from.primitive_element c.args.from.start c.loop-at.seen.keys c.args.found.now.keys c.loop-at.found.keys c.loop-at.at c.loop-at.invariant
          (let f = w.loop-at-test.false in omega (arith, f, n))
    ]
