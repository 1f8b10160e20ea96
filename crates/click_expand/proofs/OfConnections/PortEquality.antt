-- The derived equality tests agree with those of the definitions.
use Rattle.std.proofs.Common.{◌≡◌, ◌&&◌, nat_eq, refl, ap}
use Rattle.click_scopes.specs.declared.written_connections.Owner.{Owner}
use Rattle.click_scopes.specs.declared.written_connections.Owner.TheVariants as owner
use Rattle.click_expand.specs.declared.connections.connection_index.ScopePort.{ScopePort}
use Rattle.click_expand.specs.declared.connections.connection_index.InstancePort.{InstancePort}
use Rattle.click_scopes.specs.contracts.written_connections.OwnerPartialEq.TheImpl as owners
use Rattle.click_expand.specs.contracts.connections.connection_index.ScopePortPartialEq.TheImpl as ports
use Rattle.click_expand.specs.contracts.connections.connection_index.InstancePortPartialEq.TheImpl as starts
use Rattle.click_expand.specs.kept.Wiring.{same_owner, same_port, same_start}

owner_at : (a b : Owner) → owners.ghosts.eq a b ≡ same_owner a b
owner_at owner.Input owner.Input = refl
owner_at owner.Input owner.Output = refl
owner_at owner.Input (owner.Element j) = refl
owner_at owner.Output owner.Input = refl
owner_at owner.Output owner.Output = refl
owner_at owner.Output (owner.Element j) = refl
owner_at (owner.Element i) owner.Input = refl
owner_at (owner.Element i) owner.Output = refl
owner_at (owner.Element i) (owner.Element j) = refl

port_at : (a b : ScopePort) → ports.ghosts.eq a b ≡ same_port a b
port_at a b = ap (λ t. t && nat_eq a.number b.number) (owner_at a.owner b.owner)

pub port-eq : ports.ghosts.eq ≡ same_port
port-eq = λ j a b. port_at a b j

start_at : (a b : InstancePort) → starts.ghosts.eq a b ≡ same_start a b
start_at a b = ap (λ t. nat_eq a.within b.within && t) (port_at a.port b.port)

pub start-eq : starts.ghosts.eq ≡ same_start
start-eq = λ j a b. start_at a b j
