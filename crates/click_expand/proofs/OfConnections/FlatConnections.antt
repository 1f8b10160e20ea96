-- The found connections, in order, are those of the flat elements.
use Rattle.std.proofs.Common.{◌≡◌, ◌↔◌, ◌≤◌, List, length, Contains, arith}
use Rattle.std.specs.List.{IsDistinct}
use Rattle.click_text.specs.declared.syntax.Config.{Config}
use Rattle.click_scopes.specs.Faults.{IsFaultless}
use Rattle.click_scopes.specs.kept.Nesting.{IsNested}
use Rattle.click_expand.specs.Instances.{PrimitiveElement}
use Rattle.click_scopes.specs.kept.AllScopes.{AreAllScopes}
use Rattle.click_expand.specs.kept.Passthrough.{ends_at, AreShortened}
use Rattle.click_expand.specs.kept.KnownInstances.{KnownInstance, AreInstances}
use Rattle.click_expand.specs.Flat.{Joins, AreOrdered, AreConnections, most_connections}
use Rattle.click_scopes.specs.kept.Lookups.{body_at}
use Rattle.click_scopes.specs.declared.scopes.Scope.{Scope as ScopeKept}
use Rattle.click_expand.specs.declared.instances.tree.Place.{Place}
use Rattle.click_expand.specs.declared.instances.tree.Instance.{Instance}
use Rattle.click_expand.specs.declared.connections.connection_index.ConnectionIndex.{ConnectionIndex}
use Rattle.click_expand.specs.declared.flat.Connection.{Connection}
use Rattle.click_expand.specs.kept.Wiring.{AreIndices, Connects, HasAll}
use Rattle.click_expand.proofs.OfConnections.ConnectionOrder.{same}
use Rattle.click_expand.proofs.OfConnections.SearchSteps.{connects-sound, connects-complete}
use Rattle.click_expand.proofs.OfConnections.NestedInstances.{instances-nested}
use Rattle.click_expand.proofs.OfConnections.Shortcuts.{connects-short}
use Rattle.click_expand.proofs.OfConnections.OutputSearches.{distinct-within}

module _ (c : Config) (nested : IsNested c) (sound : IsFaultless c) (scopes : List ScopeKept) (all : AreAllScopes c scopes)
    (instances : List Instance) (places : List Place) (whole short : List ConnectionIndex) (indexed : AreIndices scopes whole) (as_many : length whole ≡ length short)
    (shortened : AreShortened (ends_at whole) (body_at scopes) (ends_at short) short) (found ordered : List Connection) (order : AreOrdered ordered)
    (alike : (k : Connection) → Contains ordered k ↔ Contains found k) (found_sound : (k : Connection) → Contains found k → Connects instances short k) where
  module _ (known : List KnownInstance) (primitive_elements : List PrimitiveElement) (are : AreInstances c instances places known primitive_elements) where
    -- the shortened connections lead to the same inputs as the written ones
    short-same : (k : Connection) → Connects instances whole k ↔ Connects instances short k
    short-same = connects-short instances (body_at scopes) (instances-nested c scopes all instances places known primitive_elements are) whole short as_many shortened

    pub ordered-sound : (k : Connection) → Contains ordered k → Joins c primitive_elements k
    ordered-sound k h = connects-sound c nested sound instances places known primitive_elements are scopes all whole indexed k ((short-same k).1 (found_sound k ((alike k).0 h)))

    pub ordered-all : IsDistinct same found → (length found ≤ most_connections → HasAll (Connects instances short) found) → length ordered ≤ most_connections → AreConnections c primitive_elements ordered
    ordered-all distinct found_all few =
        let n = distinct-within found ordered distinct (λ k h. (alike k).1 h) in
        let less : length found ≤ most_connections = omega (arith, n, few) in
        record {
          sound = ordered-sound;
          complete = λ k h. (alike k).1 (found_all less k ((short-same k).0 (connects-complete c nested sound instances places known primitive_elements are scopes all whole indexed k h)));
          in_order = order;
        }
