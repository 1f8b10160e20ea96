-- A session that is fed its stream in pieces and gives its commands one after another.
use Rattle.std.specs.Prelude.{◌≡◌, ℕ, ◌≤◌, ◌<◌, List, [], ◌∷◌, ◌++◌, length, Bool, true, false, Option, Some, None, if◌then◌else◌}
use Rattle.click_control.specs.declared.command.Command.{Command}
use Rattle.click_control.specs.Commands.{Reading, in_line, after_return, before_payload, in_payload, over, commands_from, is_last}

-- a session between two commands: its position, and the bytes after it that are not taken up
pub record Pending : Type 0 where
  pub from : Reading
  pub bytes : List ℕ

abbrev pub fresh : Pending
fresh = record { from = in_line []; bytes = [] }

-- the commands still to come, if these bytes follow
abbrev pub to_come : Pending → List ℕ → List Command
to_come s more = commands_from s.from (s.bytes ++ more)

abbrev pub is_over : Reading → Bool
is_over (in_line line) = false
is_over after_return = false
is_over (before_payload w handler n) = false
is_over (in_payload w handler n came) = false
is_over over = true

-- a session that was fed a piece; after its last command it ignores it
abbrev pub fed : Pending → List ℕ → Pending
fed s piece = if is_over s.from then s else record { from = s.from; bytes = s.bytes ++ piece }

-- Between two states a session gives exactly these commands, whatever bytes follow.
abbrev pub Gives : Pending → Pending → List Command → Type 0
Gives old new cs = (more : List ℕ) → to_come old more ≡ cs ++ to_come new more

-- The session gave this command. After one that ends the session, nothing is to come.
pub record GivesOne (old new : Pending) (c : Command) : Type 0 where
  pub gives : Gives old new (c ∷ [])
  pub fewer : length new.bytes < length old.bytes
  pub last : is_last c ≡ true → (more : List ℕ) → to_come new more ≡ []

-- The session gave no command, and what is to come is unchanged.
pub record GivesNone (old new : Pending) : Type 0 where
  pub gives : Gives old new []
  pub no_more : length new.bytes ≤ length old.bytes

-- The session gave its next command. It gives none only if no command is whole.
abbrev pub GivesNext : Pending → Pending → Option Command → Type 0
GivesNext old new None = GivesNone old new × (to_come new [] ≡ [])
GivesNext old new (Some c) = GivesOne old new c
