use Rattle.click_router.proofs.laws.routers_in_order_fit.Goals as goal

pub returns : goal.returns
returns c = λ s h. (h.elements.fitting, h.elements.sound)
