use Rattle.click_base.proofs.ClassNames.{named, found, gateway-named, gateway-found}
use Rattle.click_base.proofs.laws.found_by_name.Goals as goal

pub returns : goal.returns
returns c = record {
  thirty = λ k text. (λ e. found k text e, λ e. named k text e.0 e.1);
  gateway = λ k text. (λ e. gateway-found k text e, λ e. gateway-named k text e.0 e.1);
}
