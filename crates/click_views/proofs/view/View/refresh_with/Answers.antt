use Rattle.std.proofs.Common.{refl, ◌∙◌, ap}
use Rattle.click_views.specs.Log.{installs}
use Rattle.click_views.proofs.Prefixes.{installs_more}
use Rattle.click_views.proofs.view.View.refresh_with.Goals as goal

pub returns-in-Ok-clause-ok : goal.returns-in-Ok-clause-ok
returns-in-Ok-clause-ok g c =
    let ends = c.number-number.ensures.ends in
    (c.install.result.now, (installs ends.0, rw (c.install.ensures, ← c.mark.view_is) (ap installs ends.2 ∙ installs_more ends.0 ends.1 _)), (c.install.result, rw (← c.in-Ok.is) c.f.ensures, refl))
