-- The answer to a call by name.
use Rattle.std.proofs.Common.{◌≡◌, ℕ, List, Bool, true, false, ◌∙◌, sym}
use Rattle.click_engine.specs.declared.run_state.Element.{Element}
use Rattle.click_handlers.specs.Answers.{IsWriteAnswer, takes_room}
use Rattle.click_handlers.specs.Writes.{write_value}
use Rattle.click_handlers.specs.declared.written.Written.{Written}

never : {P : Type 0} → false ≡ true → P
never e = absurd (let k = e in cc)

-- a write of a handler that never allocates is that of another name, if the two have the same value
pub write_as : (name known : List ℕ) (old : Element) (text : List ℕ) (w : Written) → write_value name old text ≡ write_value known old text → takes_room known ≡ false
    → IsWriteAnswer known old text w → IsWriteAnswer name old text w
write_as name known old text w same none h =
    (λ e. same ∙ h.0 e, λ f e. let k = h.1 f e in (k.0, (λ n. same ∙ k.1.0 n, λ n. never (sym none ∙ k.1.1 n))))
