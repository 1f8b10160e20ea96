use Rattle.std.proofs.Common.{length, nat_lt, ap}
use Rattle.std.proofs.lemmas.Result.{IfOk-weaker}
use Rattle.click_scopes.specs.kept.NameFaults.{IsWrongAt}
use Rattle.click_scopes.specs.kept.FirstFault.{IsLeast, IsWrongScopeElement}
use Rattle.click_scopes.proofs.OfFaults.PlaceNameFaults.{place-read}
use Rattle.click_scopes.proofs.name_faults.in_scope.Goals as goal

pub returns : goal.returns
returns c =
    let config = c.args.config.now in let scopes = c.args.scopes.now.scopes.items in let text = c.as_slice-text.result.now in let bodies = c.as_slice-bodies.result.now in
    let items = c.elements_at-elements.result.now in let b = nat_lt c.args.place (length bodies) in
    IfOk-weaker c.in_scope_elements.result (IsLeast (IsWrongScopeElement text bodies b items (length items))) (IsLeast (IsWrongAt config scopes c.args.place))
    (λ o h. place-read config scopes text bodies b items c.args.place o c.as_slice-text.ensures c.as_slice-bodies.ensures
    (ap (λ x. nat_lt c.args.place (length x)) c.as_slice-bodies.ensures) c.elements_at-elements.ensures h) c.in_scope_elements.ensures
