use Rattle.std.proofs.Common.{◌≡◌, Some, None, sym, ap, ◌∙◌, subst}
use Rattle.std.specs.Str.{bytes_eq}
use Rattle.click_scopes.specs.Elements.{role, word_of}
use Rattle.click_scopes.specs.kept.WrittenConnections.{IsOwner}
use Rattle.click_scopes.specs.kept.ConnectionEnds.{names_among, scope_elements_in}
use Rattle.click_scopes.specs.Faults.{written_end}
use Rattle.click_scopes.specs.declared.written_connections.Owner.TheVariants as owner
use Rattle.click_scopes.proofs.OfConnections.EndOwners.{owner-makes, owner-input, owner-output, owner-refers, some_same}
use Rattle.click_scopes.proofs.written_connections.owner_of.Goals as goal

pub returns-then-eq : goal.returns-then-eq
returns-then-eq c = λ ps p known here.
    let config = c.args.config.now in let b = c.args.in_body in let d = c.args.declared.now in let t = c.as_slice-text.ensures in
    owner-input config b ps d.names d.firsts.items c.args.numbers.now known c.args.number c.args.element p here c.word_of-word.result.now
    (c.word_of-word.ensures ∙ ap (λ x. word_of x c.args.element.head) t)
    (ap (λ x. role x b d.names c.args.element) (sym t) ∙ sym c.in-Pseudo.ensures) (ap (bytes_eq c.word_of-word.result.now) (sym c.as_slice.ensures) ∙ sym c.if-eq.ensures)

pub returns-else-eq : goal.returns-else-eq
returns-else-eq c = λ ps p known here.
    let config = c.args.config.now in let b = c.args.in_body in let d = c.args.declared.now in let t = c.as_slice-text.ensures in
    owner-output config b ps d.names d.firsts.items c.args.numbers.now known c.args.number c.args.element p here c.word_of-word.result.now
    (c.word_of-word.ensures ∙ ap (λ x. word_of x c.args.element.head) t)
    (ap (λ x. role x b d.names c.args.element) (sym t) ∙ sym c.in-Pseudo.ensures) (ap (bytes_eq c.word_of-word.result.now) (sym c.as_slice.ensures) ∙ sym c.if-eq.ensures)

pub returns-in-Some : goal.returns-in-Some
returns-in-Some c = λ ps p known here.
    let config = c.args.config.now in let b = c.args.in_body in let d = c.args.declared.now in let t = c.as_slice-text.ensures in
    let r = owner-refers config b ps d.names d.firsts.items c.args.numbers.now known c.args.number c.args.element p here c.word_of-word.result.now
    (c.word_of-word.ensures ∙ ap (λ x. word_of x c.args.element.head) t)
    (ap (λ x. role x b d.names c.args.element) (sym t) ∙ sym c.in-Refers.ensures) in
    let same : r.0 ≡ c.in-Some.place = some_same (sym r.1 ∙ sym c.in-Some.ensures) in
    subst (λ m. IsOwner (scope_elements_in config.text b ps) (owner.Element m) (written_end config (names_among config.text b ps) c.args.number p)) same r.2

pub returns-in-None : goal.returns-in-None
returns-in-None c = λ ps p known here.
    let config = c.args.config.now in let b = c.args.in_body in let d = c.args.declared.now in let t = c.as_slice-text.ensures in
    let r = owner-refers config b ps d.names d.firsts.items c.args.numbers.now known c.args.number c.args.element p here c.word_of-word.result.now
    (c.word_of-word.ensures ∙ ap (λ x. word_of x c.args.element.head) t)
    (ap (λ x. role x b d.names c.args.element) (sym t) ∙ sym c.in-Refers.ensures) in
    absurd (let e : Some r.0 ≡ None = sym r.1 ∙ sym c.in-None.ensures in cc e)

pub returns-in-Makes : goal.returns-in-Makes
returns-in-Makes c = λ ps p known here.
    let config = c.args.config.now in let b = c.args.in_body in let d = c.args.declared.now in
    owner-makes config b ps d.names d.firsts.items c.args.numbers.now known c.args.number c.args.element p here
    (ap (λ x. role x b d.names c.args.element) (sym c.as_slice-text.ensures) ∙ sym c.in-Makes.ensures)
