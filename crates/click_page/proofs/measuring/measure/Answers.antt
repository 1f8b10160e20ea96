use Rattle.std.proofs.Common.{ℕ, List, [], Option, true, map, refl, sym, subst, ap, ◌∙◌}
use Rattle.click_router.specs.declared.call.Call.{Call}
use Rattle.click_page.specs.Asking.{reading}
use Rattle.click_page.specs.Metrics.{full_name}
use Rattle.click_page.specs.declared.sample.Sample.{Sample}
use Rattle.click_page.specs.kept.Calls.{AreNoPolls, read_call}
use Rattle.click_page.proofs.CommandCalls.{asked-none, made_no_polls, reading_calls}
use Rattle.click_page.proofs.measuring.measure.Goals as goal

pub returns-in_default-clause-asked : goal.returns-in_default-clause-asked
returns-in_default-clause-asked g c = λ readonly. asked-none g.P.Port.asks c.args.port.now c.new.result.items c.new.ensures.items readonly [] refl

pub ask_all-values-requires-clause-no_polls : goal.ask_all-values-requires-clause-no_polls
ask_all-values-requires-clause-no_polls g c =
    let names = c.as_slice-2.result.now in
    subst (λ (l : List (Option Call)). AreNoPolls l) (sym (c.in_ok-calls.ensures ∙ reading_calls true names)) (made_no_polls true (map reading names))

pub returns-clause-asked : goal.returns-clause-asked
returns-clause-asked g c = λ readonly.
    let names = map full_name c.in-Some.survey.samples in
    let named = c.as_slice-2.ensures.value ∙ c.in_ok-names.ensures ∙ ap (λ (l : List Sample). map full_name l) c.as_slice.ensures in
    c.ask_all-values.ensures readonly (map reading names) (c.in_ok-calls.ensures ∙ ap (λ (l : List (List ℕ)). map read_call l) named ∙ reading_calls readonly names)
