use Rattle.std.proofs.Common.{◌∙◌, ◌≤◌, ap, subst, arith, length}
use mathlib.Core.List.{IsPrefix}
use Rattle.click_views.proofs.Prefixes.{prefix_shorter, installs_begin}
use Rattle.click_views.proofs.view.View.later_of.Goals as goal

pub returns-then-number-clause-later : goal.returns-then-number-clause-later
returns-then-number-clause-later g c =
    let whole = c.learn.new.self.log in
    let mine = c.self.inside.mark.told.log in
    let theirs = c.args.mark.now.told.log in
    let own : IsPrefix mine whole = subst (λ l. IsPrefix l whole) (ap (λ s. s.log) c.again-both.ensures ∙ ap (λ v. v.mark.told.log) c.self-inside.view_is) c.learn.ensures.2 in
    let other : IsPrefix theirs whole = subst (λ l. IsPrefix l whole) (ap (λ m. m.told.log) c.mark.view_is) c.learn.ensures.3 in
    let less : length mine ≤ length theirs = omega (arith, c.if-number.true, c.number.ensures.counted, c.number-2.ensures.counted) in
    rw (c.again.ensures, ← c.self.view_is) (installs_begin mine theirs (prefix_shorter mine theirs whole own other less))

pub returns-clause-told : goal.returns-clause-told
returns-clause-told g c =
    let whole = c.learn.new.self.log in
    let mine = c.self.inside.mark.told.log in
    let theirs = c.args.mark.now.told.log in
    let own : IsPrefix mine whole = subst (λ l. IsPrefix l whole) (ap (λ s. s.log) c.again-both.ensures ∙ ap (λ v. v.mark.told.log) c.self-inside.view_is) c.learn.ensures.2 in
    let other : IsPrefix theirs whole = subst (λ l. IsPrefix l whole) (ap (λ m. m.told.log) c.mark.view_is) c.learn.ensures.3 in
    let less : length theirs ≤ length mine = omega (arith, c.if-number.false, c.number.ensures.counted, c.number-2.ensures.counted) in
    rw c.again-else-number.ensures (installs_begin theirs mine (prefix_shorter theirs mine whole other own less))
