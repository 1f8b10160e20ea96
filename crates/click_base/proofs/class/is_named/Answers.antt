use Rattle.std.proofs.Common.{◌≡◌, length, ◌==◌, false, sym, ap, ◌∙◌, arith, inl, inr}
use Rattle.std.specs.Str.{bytes_eq}
use Rattle.std.proofs.lemmas.Bool.{cases_Bool}
use Rattle.std.proofs.lemmas.Bool.Decides.{nat_tests}
use Rattle.std.proofs.lemmas.Slice.Eq.{bytes_eq-Decides}
use Rattle.click_base.specs.Classes.{name as name_of}
use Rattle.click_base.proofs.class.is_named.Goals as goal

pub returns-else-own-name : goal.returns-else-own-name
returns-else-own-name c =
    let own = name_of c.args.class in
    let name = c.args.name.now in
    let differ = c.if-own-name.false in
    elim (cases_Bool (bytes_eq own name)) [
      | inl t ↦ absurd (differ (ap length (c.name-own.ensures ∙ (bytes_eq-Decides own name).0 t)))
      | inr t ↦ let n : (length c.name-own.result.now == length name) ≡ false = grind (arith, nat_tests) in n ∙ sym t
    ]
