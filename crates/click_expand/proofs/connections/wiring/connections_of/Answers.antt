use Rattle.std.proofs.Common.{◌≡◌, ◌↔◌, ◌≤◌, List, length, Contains, sym, ◌∙◌, subst, arith}
use Rattle.click_expand.specs.declared.instances.tree.Instance.{Instance}
use Rattle.click_expand.specs.declared.connections.connection_index.ConnectionIndex.{ConnectionIndex}
use Rattle.click_expand.specs.declared.flat.Connection.{Connection}
use Rattle.click_expand.specs.Flat.{most_connections}
use Rattle.click_expand.specs.kept.Wiring.{Connects, HasAll}
use Rattle.click_expand.proofs.OfConnections.FlatConnections.{ordered-sound, ordered-all}
use Rattle.click_expand.proofs.connections.wiring.connections_of.Goals as goal

pub returns-then-len-gt-MAX_CONNECTIONS : goal.returns-then-len-gt-MAX_CONNECTIONS
returns-then-len-gt-MAX_CONNECTIONS c = λ primitive_elements known are.
    let instances = c.args.instances.now.instances.items in let indices = c.in_ok-indices.indices.items in let found = c.in_ok-found.found.keys in let ordered = c.in_order-all.result.items in
    let is : c.in_ok-from_slice.field-0.items ≡ found = c.in_ok-from_slice.ensures.items ∙ c.as_slice-3.ensures.keys in
    let alike : (k : Connection) → Contains ordered k ↔ Contains found k = λ k. subst (λ xs. Contains ordered k ↔ Contains xs k) is (c.in_order-all.ensures.same k) in
    let found_sound : (k : Connection) → Contains found k → Connects instances indices k =
    λ k h. subst (λ (us : List Instance). Connects us indices k) c.as_slice.ensures.value (subst (λ (xs : List ConnectionIndex). Connects c.as_slice.result.now xs k) c.as_slice-2.ensures.value (c.in_ok-found.ensures.sound k h)) in (
      ordered,
      c.in_order-all.ensures.order,
      ordered-sound c.args.config.now c.requires.nested c.requires.sound c.args.scopes.now.scopes.items c.requires.scopes.all instances c.args.instances.now.primitive_elements.items
          c.in_ok-indices.ensures.0 indices c.in_ok-indices.ensures.1 c.in_ok-indices.ensures.2 c.in_ok-indices.ensures.3 found ordered
          c.in_order-all.ensures.order alike found_sound known primitive_elements are,
      (let n = c.len.ensures in let t = c.if-len-gt-MAX_CONNECTIONS.true in omega (arith, n, t)),
    )

pub returns : goal.returns
returns c = λ primitive_elements known are.
    let instances = c.args.instances.now.instances.items in let indices = c.in_ok-indices.indices.items in let found = c.in_ok-found.found.keys in let ordered = c.in_order-all.result.items in
    let is : c.in_ok-from_slice.field-0.items ≡ found = c.in_ok-from_slice.ensures.items ∙ c.as_slice-3.ensures.keys in
    let alike : (k : Connection) → Contains ordered k ↔ Contains found k = λ k. subst (λ xs. Contains ordered k ↔ Contains xs k) is (c.in_order-all.ensures.same k) in
    let found_sound : (k : Connection) → Contains found k → Connects instances indices k =
    λ k h. subst (λ (us : List Instance). Connects us indices k) c.as_slice.ensures.value (subst (λ (xs : List ConnectionIndex). Connects c.as_slice.result.now xs k) c.as_slice-2.ensures.value (c.in_ok-found.ensures.sound k h)) in
    let found_all : length found ≤ most_connections → HasAll (Connects instances indices) found =
    λ few k h. c.in_ok-found.ensures.all few k
    (subst (λ (us : List Instance). Connects us c.as_slice-2.result.now k) (sym c.as_slice.ensures.value) (subst (λ (xs : List ConnectionIndex). Connects instances xs k) (sym c.as_slice-2.ensures.value) h)) in
    let few : length ordered ≤ most_connections = let n = c.len.ensures in let t = c.if-len-gt-MAX_CONNECTIONS.false in omega (arith, n, t) in (
      ordered-all c.args.config.now c.requires.nested c.requires.sound c.args.scopes.now.scopes.items c.requires.scopes.all instances c.args.instances.now.primitive_elements.items
          c.in_ok-indices.ensures.0 indices c.in_ok-indices.ensures.1 c.in_ok-indices.ensures.2 c.in_ok-indices.ensures.3 found ordered
          c.in_order-all.ensures.order alike found_sound known primitive_elements are c.as_slice-3.ensures.unique found_all few,
      few,
    )
