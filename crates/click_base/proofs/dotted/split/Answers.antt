use Rattle.std.proofs.Common.{◌≡◌, ◌+◌, ◌-◌, false, length, get_or, drop, is_some, sym, ap, ◌∙◌, arith}
use Rattle.std.proofs.lemmas.List.{take_all, length-drop}
use Rattle.std.proofs.lemmas.Bool.{false_from_ne_true}
use Rattle.std.proofs.lemmas.List.Elements.{All-from_get_or}
use Rattle.std.proofs.lemmas.List.Folds.{list_any_none}
use Rattle.click_base.specs.Dotted.{is_dot}
use Rattle.click_base.proofs.LastDot.{before_last-at, after_last-at}
use Rattle.click_base.proofs.dotted.split.Goals as goal

pub returns-in_err-dot-clause-dot : goal.returns-in_err-dot-clause-dot
returns-in_err-dot-clause-dot c =
    let name = c.args.name.now in
    ap is_some c.from_residual.ensures ∙ sym (list_any_none is_dot name (All-from_get_or (λ b. is_dot b ≡ false) name 0 (λ k l. false_from_ne_true (is_dot (get_or name k 0)) (c.in_err-dot.ensures k (omega arith) l))))

pub returns-clause-front : goal.returns-clause-front
returns-clause-front c =
    let name = c.args.name.now in let found = c.in_ok-dot.ensures in
    before_last-at name c.in_ok-dot.dot found.0.high found.1 (λ j low high. false_from_ne_true (is_dot (get_or name j 0)) (found.0.after j (omega arith) high))

pub returns-clause-back : goal.returns-clause-back
returns-clause-back c =
    let name = c.args.name.now in let found = c.in_ok-dot.ensures in
    take_all (length name - (c.in_ok-dot.dot + 1)) (drop (c.in_ok-dot.dot + 1) name) (let e = length-drop (c.in_ok-dot.dot + 1) name in omega (arith, e)) ∙ after_last-at name c.in_ok-dot.dot found.0.high found.1 (λ j low high. false_from_ne_true (is_dot (get_or name j 0)) (found.0.after j (omega arith) high))
