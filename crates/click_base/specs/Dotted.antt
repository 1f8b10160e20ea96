-- Names of two parts with a dot between them (Click manual, "Handlers").
use Rattle.std.specs.Prelude.{ℕ, Bool, nat_eq}

abbrev pub is_dot : ℕ → Bool
is_dot b = nat_eq b 46
