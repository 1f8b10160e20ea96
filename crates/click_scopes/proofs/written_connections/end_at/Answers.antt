use Rattle.std.proofs.Common.{sym, ap, ◌∙◌, subst}
use Rattle.click_text.specs.declared.syntax.Element.{Element}
use Rattle.click_scopes.specs.Faults.{first_token}
use Rattle.click_scopes.specs.kept.FirstFault.{AreShort}
use Rattle.click_scopes.proofs.OfConnections.EndOwners.{first-in}
use Rattle.click_scopes.proofs.written_connections.end_at.Goals as goal

pub returns : goal.returns
returns c = λ ps p known here. record {
  owner = c.owner_of.ensures ps p known here;
  first =
      c.first_token.ensures ∙ first-in c.args.config.now c.args.element.head c.as_slice.result.now c.as_slice.ensures
      ∙ sym (ap (λ (e : Element). first_token c.args.config.now e.head) here.element);
}

pub first_token-requires : goal.first_token-requires
first_token-requires c = subst AreShort (sym c.as_slice.ensures) c.requires
