use Rattle.click_page.proofs.FieldSequences.{six-added}
use Rattle.click_page.proofs.headers.add_guards.Goals as goal

pub returns-clause-added : goal.returns-clause-added
returns-clause-added c =
    six-added _ _ _ _ _ _ _ _ _ _ _ _ _ c.in_ok-add.ensures.added c.in_ok-add_policy.ensures.added c.in_ok-add-2.ensures.added c.in_ok-add-3.ensures.added
    c.in_ok-add-4.ensures.added c.in_ok-add-5.ensures.added
