use Rattle.std.proofs.Common.{◌≡◌, Some, sym, ap, ◌∙◌, rules}
use Rattle.std.proofs.lemmas.Result.{IfOk-weaker}
use Rattle.click_router.specs.Globals.{global_value, class_list}
use Rattle.click_router.specs.kept.GlobalNames.{name_of}
use Rattle.click_router.proofs.OfCalls.OwnHandlers.{classes_value}
use Rattle.click_router.proofs.running.RunningConfig.global_value.Goals as goal

pub returns-in-Classes : goal.returns-in-Classes
returns-in-Classes c =
    let s = c.args.self.now in
    let es = c.as_slice-in-Classes.result.now in
    let same : es ≡ s.flat.elements = search rules in
    IfOk-weaker c.classes_text.result (λ v. v.items ≡ class_list es) (λ v. global_value s (name_of c.args.handler) ≡ Some v.items)
    (λ v e. ap (λ h. global_value s (name_of h)) c.in-Classes.is ∙ (classes_value s ∙ ap Some (sym (e ∙ ap class_list same)))) c.classes_text.ensures
