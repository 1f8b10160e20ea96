use Rattle.std.proofs.Common.{◌≡◌, ◌+◌, not, nat_eq, length, take, reverse, ap, ◌∙◌, rules, tests}
use Rattle.std.specs.List.{take_while}
use Rattle.std.proofs.lemmas.List.{take_min}
use Rattle.std.proofs.lemmas.Iterator.Adapters.{YieldsList-from_rev_slice}
use Rattle.std.proofs.lemmas.Iterator.Consumers.{count_from_yields_List}
use Rattle.std.proofs.lemmas.Iterator.Search.{YieldsList-from_take_while}
use Rattle.click_router.proofs.opening.column_at.Goals as goal

pub returns : goal.returns
returns c =
    let text = c.args.text.now in
    let before = take c.min.result text in
    let same : before ≡ take c.args.at text = ap (λ n. take n text) c.min.ensures ∙ take_min c.args.at text in
    let count : c.count.result ≡ length (take_while (λ b. not (nat_eq b 10)) (reverse before)) =
    count_from_yields_List c.take_while.result _ c.count.ensures.ran
    (YieldsList-from_take_while _ (λ b. not (nat_eq b 10)) (YieldsList-from_rev_slice before cc) c.take_while.ensures.closure c.take_while.ensures.done (λ x b q k. search (rules, tests))) in
    ap (λ n. n + 1) (count ∙ ap (λ xs. length (take_while (λ b. not (nat_eq b 10)) (reverse xs))) same)
