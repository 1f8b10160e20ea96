use Rattle.std.proofs.Common.{◌≡◌, length, sym, ap, ◌∙◌, subst}
use Rattle.std.specs.List.{slice_get}
use Rattle.click_scopes.specs.Scopes.{body_formals, inside, formals_of}
use Rattle.click_scopes.specs.kept.NameFaults.{IsWrongAt, IsWrongWithin}
use Rattle.click_scopes.specs.kept.FirstFault.{IsLeast, IsWrongFormal}
use Rattle.click_scopes.proofs.OfFaults.LeastWrongUse.{least-first_of}
use Rattle.click_scopes.proofs.name_faults.in_body.Goals as goal

pub returns : goal.returns
returns c =
    let config = c.args.config.now in let all = c.args.scopes.now.scopes.items in let place = c.args.place in
    let a = c.in_ok-elements.elements in let b = c.in_ok-parameters.parameters in let text = c.as_slice-text.result.now in
    let fs = c.formals_at-formals.result.now in
    let same : fs ≡ formals_of config (inside place) = c.formals_at-formals.ensures ∙ ap (λ bs. body_formals (slice_get bs place)) c.as_slice.ensures in
    let formals : IsLeast (IsWrongFormal config.text (formals_of config (inside place)) (length (formals_of config (inside place)))) b =
    subst (λ t. IsLeast (IsWrongFormal t (formals_of config (inside place)) (length (formals_of config (inside place)))) b) c.as_slice-text.ensures
    (subst (λ x. IsLeast (IsWrongFormal text x (length x)) b) same c.in_ok-parameters.ensures) in
    subst (IsLeast (IsWrongWithin config all place)) (sym c.first_of.ensures)
    (least-first_of (IsWrongAt config all place) (IsWrongFormal config.text (formals_of config (inside place)) (length (formals_of config (inside place)))) a b c.in_ok-elements.ensures formals)
