-- The name of the handler of a port stands for that port.
use mathlib.Core.Path.{refl}
use Rattle.std.proofs.Common.{rules}
use Rattle.std.specs.Prelude.{◌≡◌, ℕ, zero, suc, ◌<◌, false}
use Rattle.click_handlers.specs.Answers.{takes_room}
use Rattle.click_handlers.specs.Names.{active_name, active_port}

pub port_named : (n : ℕ) → n < 16 → active_port (active_name n) ≡ n
unfolding active_name
port_named zero h = refl
port_named (suc zero) h = refl
port_named (suc (suc zero)) h = refl
port_named (suc (suc (suc zero))) h = refl
port_named (suc (suc (suc (suc zero)))) h = refl
port_named (suc (suc (suc (suc (suc zero))))) h = refl
port_named (suc (suc (suc (suc (suc (suc zero)))))) h = refl
port_named (suc (suc (suc (suc (suc (suc (suc zero))))))) h = refl
port_named (suc (suc (suc (suc (suc (suc (suc (suc zero)))))))) h = refl
port_named (suc (suc (suc (suc (suc (suc (suc (suc (suc zero))))))))) h = refl
port_named (suc (suc (suc (suc (suc (suc (suc (suc (suc (suc zero)))))))))) h = refl
port_named (suc (suc (suc (suc (suc (suc (suc (suc (suc (suc (suc zero))))))))))) h = refl
port_named (suc (suc (suc (suc (suc (suc (suc (suc (suc (suc (suc (suc zero)))))))))))) h = refl
port_named (suc (suc (suc (suc (suc (suc (suc (suc (suc (suc (suc (suc (suc zero))))))))))))) h = refl
port_named (suc (suc (suc (suc (suc (suc (suc (suc (suc (suc (suc (suc (suc (suc zero)))))))))))))) h = refl
port_named (suc (suc (suc (suc (suc (suc (suc (suc (suc (suc (suc (suc (suc (suc (suc zero))))))))))))))) h = refl
port_named (suc (suc (suc (suc (suc (suc (suc (suc (suc (suc (suc (suc (suc (suc (suc (suc n)))))))))))))))) h = search rules

-- a write of it never allocates
pub port_takes_none : (n : ℕ) → n < 16 → takes_room (active_name n) ≡ false
unfolding active_name
port_takes_none zero h = refl
port_takes_none (suc zero) h = refl
port_takes_none (suc (suc zero)) h = refl
port_takes_none (suc (suc (suc zero))) h = refl
port_takes_none (suc (suc (suc (suc zero)))) h = refl
port_takes_none (suc (suc (suc (suc (suc zero))))) h = refl
port_takes_none (suc (suc (suc (suc (suc (suc zero)))))) h = refl
port_takes_none (suc (suc (suc (suc (suc (suc (suc zero))))))) h = refl
port_takes_none (suc (suc (suc (suc (suc (suc (suc (suc zero)))))))) h = refl
port_takes_none (suc (suc (suc (suc (suc (suc (suc (suc (suc zero))))))))) h = refl
port_takes_none (suc (suc (suc (suc (suc (suc (suc (suc (suc (suc zero)))))))))) h = refl
port_takes_none (suc (suc (suc (suc (suc (suc (suc (suc (suc (suc (suc zero))))))))))) h = refl
port_takes_none (suc (suc (suc (suc (suc (suc (suc (suc (suc (suc (suc (suc zero)))))))))))) h = refl
port_takes_none (suc (suc (suc (suc (suc (suc (suc (suc (suc (suc (suc (suc (suc zero))))))))))))) h = refl
port_takes_none (suc (suc (suc (suc (suc (suc (suc (suc (suc (suc (suc (suc (suc (suc zero)))))))))))))) h = refl
port_takes_none (suc (suc (suc (suc (suc (suc (suc (suc (suc (suc (suc (suc (suc (suc (suc zero))))))))))))))) h = refl
port_takes_none (suc (suc (suc (suc (suc (suc (suc (suc (suc (suc (suc (suc (suc (suc (suc (suc n)))))))))))))))) h = search rules
