-- Routers in order.
use Rattle.click_engine.specs.InOrder as plants
use Rattle.click_router.specs.State.{RouterState}

-- The net is lawful, and each element has the class and ports of the net and a state that allows
-- them. No queue holds more packets than it has room for.
abbrev pub IsInOrder : RouterState → Type 0
IsInOrder s = plants.IsInOrder s.plant
