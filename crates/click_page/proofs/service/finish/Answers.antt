use Rattle.std.proofs.Common.{inl, inr, [], None, true, refl, sym, subst}
use Rattle.click_control.specs.Serving.{Asked, nothing}
use Rattle.click_page.proofs.CommandCalls.{survey-each}
use Rattle.click_page.proofs.service.finish.Goals as goal

pub tell-requires-clause-all : goal.tell-requires-clause-all
tell-requires-clause-all g c =
    survey-each g.P.Port.asks true c.args.port.now c.in-Ok.measured.survey c.in-Ok.measured.values.items c.measure_for.new.port (c.in-Ok.ensures.asked true)

pub returns-in-Ok : goal.returns-in-Ok
returns-in-Ok g c = λ readonly. record {
  survey = c.in-Ok.measured.survey;
  values = c.in-Ok.measured.values.items;
  asked = c.in-Ok.ensures.asked readonly;
  says = inl (c.in-Ok.ensures.survey, c.tell.ensures);
}

pub returns-in-Err : goal.returns-in-Err
returns-in-Err g c = λ readonly. record {
  survey = None;
  values = [];
  asked = subst (λ (q : g.row.P.Denot). Asked g.P.Port.asks readonly c.args.port.now [] [] q) (sym c.in-Err.ensures.unasked) (nothing c.args.port.now);
  says = inr (refl, c.tell_no_memory.ensures);
}
