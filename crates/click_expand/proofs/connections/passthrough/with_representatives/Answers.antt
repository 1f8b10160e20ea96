use Rattle.std.proofs.Common.{◌≡◌, ◌+◌, List, None, sym, ap, subst, ◌∙◌, arith}
use Rattle.std.specs.List.{slice_get}
use Rattle.std.specs.Option.{option_map}
use Rattle.std.specs.Map.Iter.{deref_pair}
use Rattle.click_scopes.specs.kept.Lookups.{body_at}
use Rattle.click_expand.specs.declared.connections.connection_index.ScopePort.{ScopePort}
use Rattle.click_expand.specs.declared.connections.connection_index.PortEnds.TheVariants.{Several}
use Rattle.click_expand.specs.kept.Passthrough.{AreStoodFor}
use Rattle.click_expand.proofs.OfConnections.PortStandIns.{Reduces, reduces-more, reduces-past, reduces-all}
use Rattle.click_expand.proofs.connections.passthrough.with_representatives.Goals as goal
use Rattle.click_expand.proofs.connections.passthrough.with_representatives.Goals.{in-Some+in_ok-ports+in_ok-put_ends, in_default}

pub loop-at-preserved : goal.loop-at-preserved
loop-at-preserved c = λ ends short known.
    let body = body_at c.args.scopes.now.scopes.items in let s = c.args.scope in let raw = c.args.index.now.ends.entries in let i = c.loop-at.at in let old = c.loop-at.ends.entries in
    let before = c.loop-at.invariant ends short known in
    elim c.match-get_index.branch [
      | in-Some+in_ok-ports+in_ok-put_ends w ↦
          (let p = w.in-Some.port.now in let v = Several w.in_ok-ports.ports in let new = w.put_ends.new.ends.entries in
          subst (Reduces ends body short s raw (i + 1)) (sym (ap (λ m. m.entries) w.ends-is))
          (reduces-more ends body short s raw i old new p v w.in-Some.field-0-1.now (sym w.in-Some.ensures.entry)
          (subst (λ (x : List ScopePort). AreStoodFor ends body short s x w.in_ok-ports.ports.items) w.ends.ensures (w.in_ok-ports.ensures ends short known))
          w.in_ok-put_ends.ensures before))
      | in_default w ↦
          (let e : None ≡ slice_get raw i = ap (option_map deref_pair) (sym w.in_default.is) ∙ c.get_index.ensures.entry in
          subst (Reduces ends body short s raw (i + 1)) (sym (ap (λ m. m.entries) w.ends-is)) (reduces-past ends body short s raw i old e before))
    ]

pub returns : goal.returns
returns c = λ ends short known is.
    reduces-all ends (body_at c.args.scopes.now.scopes.items) short c.args.scope c.args.index.now.ends.entries c.loop-at.at c.loop-at.ends.entries
    (let n = c.len-at-end.ensures.len in let t = c.loop-at-test.false in omega (arith, n, t)) (c.loop-at.invariant ends short known) is
