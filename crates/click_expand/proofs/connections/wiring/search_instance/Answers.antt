use Rattle.std.proofs.Common.{◌≡◌, ◌+◌, List, Some, None, sym, ap, subst, ◌∙◌, arith}
use Rattle.std.specs.List.{slice_get}
use Rattle.std.specs.Option.{option_copied, option_map}
use Rattle.std.specs.Map.Iter.{deref_pair}
use Rattle.click_expand.specs.declared.flat.Connection.{Connection}
use Rattle.click_expand.specs.Flat.{most_connections}
use Rattle.click_expand.proofs.OfConnections.OutputSearches.{item-is, Gathers, IsFromKey, key-more, key-none, use-more, use-all}
use Rattle.click_expand.proofs.connections.wiring.search_instance.Goals as goal
use Rattle.click_expand.proofs.connections.wiring.search_instance.Goals.{in-Some-get_index+in_ok-search_port, in_default-get_index}

pub loop-at-preserved : goal.loop-at-preserved
loop-at-preserved c =
    let instances = c.args.instances.now in let indices = c.args.indices.now in let within = c.args.within in let i = c.loop-at.at in
    let entries = c.in-Some-get.index.now.ends.entries in let old = c.args.found.now.keys in let mid = c.loop-at.found.keys in
    elim c.match-get_index.branch [
      | in-Some-get_index+in_ok-search_port w ↦
          subst (λ (x : List Connection). Gathers (IsFromKey instances indices within entries) most_connections (i + 1) old x) (sym (ap (λ m. m.keys) w.found-is))
          (key-more instances indices within entries most_connections i w.in-Some-get_index.port.now w.in-Some-get_index.field-0-1.now old mid w.search_port.new.found.keys
          w.in-Some-get_index.ensures.entry c.loop-at.invariant w.in_ok-search_port.ensures.more w.in_ok-search_port.ensures.all)
      | in_default-get_index w ↦
          (let e : None ≡ slice_get entries i = ap (option_map deref_pair) (sym w.in_default-get_index.is) ∙ c.get_index.ensures.entry in
          subst (λ (x : List Connection). Gathers (IsFromKey instances indices within entries) most_connections (i + 1) old x) (sym (ap (λ m. m.keys) w.found-is))
          (key-none instances indices within entries most_connections i old mid e c.loop-at.invariant))
    ]

pub returns-clause-more : goal.returns-clause-more
returns-clause-more c =
    use-more c.args.instances.now c.args.indices.now c.args.within c.in-Some-get.index.now.ends.entries most_connections c.loop-at.at c.args.found.now.keys c.loop-at.found.keys c.loop-at.invariant

pub returns-clause-all : goal.returns-clause-all
returns-clause-all c =
    let instances = c.args.instances.now in let indices = c.args.indices.now in let one = c.in-Some.one.now in let index = c.in-Some-get.index.now in
    let there : slice_get instances c.args.within ≡ Some one = item-is instances c.args.within c.get.result c.get.ensures.lookup ∙ ap option_copied c.in-Some.is in
    let index_there : slice_get indices one.scope ≡ Some index = item-is indices one.scope c.get-2.result c.get-2.ensures.lookup ∙ ap option_copied c.in-Some-get.is in
    use-all instances indices c.args.within one index there index_there most_connections c.loop-at.at c.args.found.now.keys c.loop-at.found.keys
    (let n = c.len-at-end.ensures.len in let t = c.loop-at-test.false in omega (arith, n, t)) c.loop-at.invariant
