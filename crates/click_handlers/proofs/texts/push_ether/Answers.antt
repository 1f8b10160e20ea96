use Rattle.click_handlers.proofs.QuerierTexts.{six_parts}
use Rattle.click_handlers.proofs.texts.push_ether.Goals as goal

pub returns : goal.returns
returns c =
    six_parts _ _ _ _ _ _ _ _ _ _ _ _ _ c.in_ok-push_pair.ensures c.in_ok-push_colon_pair.ensures c.in_ok-push_colon_pair-2.ensures c.in_ok-push_colon_pair-3.ensures c.in_ok-push_colon_pair-4.ensures
    c.in_ok-push_colon_pair-5.ensures
