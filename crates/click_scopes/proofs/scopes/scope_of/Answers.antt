use Rattle.std.proofs.Common.{All, refl, subst, ap, ◌∙◌}
use Rattle.click_base.specs.NameLists.{has_name}
use Rattle.click_scopes.specs.kept.Tables.{elements_of, names_declared}
use Rattle.click_scopes.specs.kept.ScopeElements.{AreScopeElementsOf, AreStringsOf}
use Rattle.click_scopes.specs.kept.CompoundArguments.{HasArguments}
use Rattle.click_scopes.specs.kept.ConnectionEnds.{AreDeclared, AreWrittenConnectionsOf}
use Rattle.click_scopes.proofs.OfElements.ElementTables.{scope_elements-declared, strings-declared}
use Rattle.click_scopes.proofs.scopes.scope_of.Goals as goal

pub returns : goal.returns
returns c =
    let config = c.args.config.now in let es = c.args.class_table.now in let b = c.args.in_body in let ls = c.in_ok-elements.elements.items in
    let text = c.as_slice-text.ensures in let written = c.as_slice-all.ensures.value in let t = c.as_slice-text.result.now in let ws = c.as_slice-all.result.now in
    let d = c.in_ok-declared.declared in let has = c.in_ok-declared.ensures.has in
    record {
      elements = subst (λ t. AreScopeElementsOf t es b c.args.written.now.written.items ls) text (subst (λ w. AreScopeElementsOf t es b w ls) written
          (scope_elements-declared t es b ws d.names ls has c.in_ok-elements.ensures.scope_elements));
      strings = subst (λ t. AreStringsOf t b c.args.written.now.written.items ls) text (subst (λ w. AreStringsOf t b w ls) written
          (strings-declared t b ws d.names ls has c.in_ok-elements.ensures.strings));
      arguments = subst (λ t. All (HasArguments t) ls) text c.in_ok-elements.ensures.arguments;
      connections = subst (λ w. AreWrittenConnectionsOf config b w c.in_ok-connections.connections) written
          (c.in_ok-connections.ensures (subst (λ x. AreDeclared x (elements_of ws) d.names d.firsts.items) text c.in_ok-declared.ensures.first)
          (λ q. has q ∙ ap (λ x. has_name q (names_declared x (elements_of ws))) text));
      parent = refl;
    }
