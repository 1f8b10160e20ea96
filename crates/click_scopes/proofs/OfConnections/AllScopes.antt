-- The stored scopes of a configuration, from the written ones.
use Rattle.std.proofs.Common.{◌≡◌, ℕ, ◌≤◌, List, [], ◌∷◌, length, nat_lt, refl, sym, ap, ◌∙◌, subst, arith}
use Rattle.std.proofs.lemmas.Option.{slice_get_within}
use Rattle.click_text.specs.declared.syntax.Element.{Element}
use Rattle.click_text.specs.declared.syntax.Config.{Config}
use Rattle.click_text.specs.declared.syntax.Statement.{Statement}
use Rattle.click_scopes.specs.Scopes.{Scope, is_body, statements_of}
use Rattle.click_scopes.specs.Elements.{Placed, placed}
use Rattle.click_scopes.specs.kept.Tables.{AreWritten, elements_of}
use Rattle.click_scopes.specs.kept.Nesting.{IsNested}
use Rattle.click_scopes.specs.kept.Scoped.{table_place, IsWrittenScope, AreWrittenScopes}
use Rattle.click_scopes.specs.kept.ConnectionEnds.{placed_elements}
use Rattle.click_scopes.specs.kept.AllScopes.{IsScopeOf, IsScope, AreAllScopes}
use Rattle.click_scopes.specs.declared.classes.ClassEntry.{ClassEntry}
use Rattle.click_scopes.specs.declared.written_scopes.WrittenElement.{WrittenElement}
use Rattle.click_scopes.specs.declared.written_scopes.WrittenScope.{WrittenScope}
use Rattle.click_scopes.specs.declared.scopes.Scope.{Scope as ScopeKept}
use Rattle.click_scopes.proofs.OfElements.ElementTables.{body-place, strings-kept}
use Rattle.click_scopes.proofs.OfLists.TableRows.{Filled}

-- k is the stored form of the written scope at index j
abbrev pub ScopeAt : Config → List ClassEntry → ℕ → WrittenScope → ScopeKept → Type 0
ScopeAt c es j w k = IsScopeOf c es (nat_lt j (length c.bodies)) w k

placed-written : (text : List ℕ) (es : List ClassEntry) (ws : List WrittenElement) (ps : List Placed) → AreWritten text es ws ps → placed_elements ps ≡ elements_of ws
placed-written text es [] [] h = refl
placed-written text es [] (p ∷ ps) h = absurd h
placed-written text es (w ∷ ws) [] h = absurd h
placed-written text es (w ∷ ws) (p ∷ ps) h = ap (λ (e : Element). e ∷ placed_elements ps) (sym h.0.element) ∙ ap (λ xs. w.element ∷ xs) (placed-written text es ws ps h.1)

scope-is : (c : Config) (es : List ClassEntry) (s : Scope) (v : List Statement) (a : List Scope) (w : WrittenScope) (k : ScopeKept) → IsWrittenScope c es s v a w → IsScopeOf c es (is_body s) w k → IsScope c s v a k
scope-is c es s v a w k h r =
    let ps = placed v (statements_of c s) in
    record {
      elements = r.elements ps h.written;
      strings = strings-kept c.text es (is_body s) w.written.items ps k.elements.items h.written r.strings;
      arguments = r.arguments;
      connections = r.connections v (statements_of c s) (placed-written c.text es w.written.items ps h.written) h.ports;
      parent = r.parent ∙ h.parent;
    }

pub all-scopes : (c : Config) (es : List ClassEntry) (ws : List WrittenScope) (all : List ScopeKept) (i : ℕ) → IsNested c → AreWrittenScopes c es ws → length ws ≤ i → Filled (ScopeAt c es) ws all i → AreAllScopes c all
all-scopes c es ws all i n scopes l f = λ s v a h.
    let w = scopes s v a h in
    let r = f.each (table_place c s) w.0 (let x = slice_get_within ws (table_place c s) w.0 w.1 in omega (arith, x, l)) w.1 in
    (r.0, r.1, scope-is c es s v a w.0 r.0 w.2 (subst (λ b. IsScopeOf c es b w.0 r.0) (body-place c n s v a h) r.2))
