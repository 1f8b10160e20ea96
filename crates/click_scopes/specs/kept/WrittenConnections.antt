-- The stored connections of each scope.
use Rattle.std.specs.Prelude.{◌≡◌, ◌≢◌, List, [], ◌∷◌, slice_get, Some}
use Rattle.click_scopes.specs.Elements.{ScopeElement, pseudo, input_name, output_name}
use Rattle.click_scopes.specs.Faults.{End, WrittenConnection}
use Rattle.click_scopes.specs.declared.written_connections.Owner.{Owner}
use Rattle.click_scopes.specs.declared.written_connections.Owner.TheVariants as owner
use Rattle.click_scopes.specs.declared.written_connections.End.{End as EndKept}
use Rattle.click_scopes.specs.declared.written_connections.WrittenConnection.{WrittenConnection as ConnectionKept}

-- the port of an end belongs to this owner: the body itself, or one of the scope's elements
abbrev pub IsOwner : List ScopeElement → Owner → End → Type 0
IsOwner ls owner.Input e = (e.role ≡ pseudo) × (e.name ≡ input_name)
IsOwner ls owner.Output e = (e.role ≡ pseudo) × (e.name ≡ output_name)
IsOwner ls (owner.Element i) e =
    (e.role ≢ pseudo) × ((l : ScopeElement) × (slice_get ls i ≡ Some l) × (l.name ≡ e.name) × (l.meaning ≡ e.meaning))

pub record IsEndKept (ls : List ScopeElement) (k : EndKept) (e : End) : Type 0 where
  pub owner : IsOwner ls k.owner e
  pub first : k.first ≡ e.first

pub record IsWrittenConnection (ls : List ScopeElement) (k : ConnectionKept) (j : WrittenConnection) : Type 0 where
  pub from : IsEndKept ls k.from j.from
  pub out_port : k.out_port ≡ j.out_port
  pub to : IsEndKept ls k.to j.to
  pub in_port : k.in_port ≡ j.in_port

abbrev pub AreWrittenConnections : List ScopeElement → List ConnectionKept → List WrittenConnection → Type 0
AreWrittenConnections ls [] [] = Unit {0}
AreWrittenConnections ls [] (j ∷ js) = ⊥
AreWrittenConnections ls (k ∷ ks) [] = ⊥
AreWrittenConnections ls (k ∷ ks) (j ∷ js) = IsWrittenConnection ls k j × AreWrittenConnections ls ks js
