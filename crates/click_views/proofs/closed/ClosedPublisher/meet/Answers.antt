use Rattle.std.proofs.Common.{◌≡◌, ◌∙◌, ap, sym, subst, ◌++◌, ◌∷◌, [], None}
use mathlib.Core.List.{IsPrefix}
use Rattle.click_views.specs.Showing.{BeginsWith}
use Rattle.click_views.proofs.Prefixes.{installs_begin}
use Rattle.click_views.proofs.Steps.{closed_is_whole}
use Rattle.click_views.proofs.closed.ClosedPublisher.meet.Goals as goal

pub returns : goal.returns
returns g c =
    let whole = c.learn.new.self.log in
    let closed = c.self.invariant.1 in
    let all = c.self.inside.seen.log in
    let theirs = c.view.inside.mark.told.log in
    let rule = c.learn.ensures.4 in
    let own : IsPrefix (closed.0 ++ (closed.1, None) ∷ []) whole = subst (λ l. IsPrefix l whole) (ap (λ s. s.log) c.again-both.ensures ∙ closed.2) c.learn.ensures.2 in
    let other : IsPrefix theirs whole = subst (λ l. IsPrefix l whole) (ap (λ v. v.mark.told.log) c.view-inside.view_is) c.learn.ensures.3 in
    let same : whole ≡ all = closed_is_whole rule.0 closed.0 closed.1 whole rule.1 own ∙ sym closed.2 in
    let begins : BeginsWith all theirs = subst (λ l. BeginsWith l theirs) same (other.0, sym other.1) in
    rw (← c.self.view_is, ← c.view.view_is) (installs_begin theirs all begins)
