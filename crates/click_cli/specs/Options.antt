-- The options of a command line.
use Rattle.std.specs.Prelude.{◌≡◌, ◌&&◌, not, ℕ, List, [], ◌∷◌, Bool, true, false, Option, Some, None, codes, is_some}
use Rattle.std.specs.Str.{bytes_eq}
use Rattle.clap.specs.Facts.{args_of, groups_of}
use Rattle.clap.specs.Matches.{first_value}
use Rattle.clap.specs.declared.builder.command.Command.{Command}
use Rattle.clap.specs.declared.builder.command.Command.TheViews.{out-Command}
use Rattle.clap.specs.declared.parser.matches.Found.{Found}
use Rattle.click_cli.specs.declared.options.CommandOption.{CommandOption}
use Rattle.click_cli.specs.declared.options.Takes.{Takes}
use Rattle.click_cli.specs.declared.options.Takes.TheVariants as takes

-- a command that has no options yet
pub record IsNew (command : Command) : Type 0 where
  pub args : args_of command ≡ []
  pub groups : groups_of command ≡ []
  pub globals : (out-Command command).has_globals ≡ false
  pub negates : (out-Command command).subcommand_negates_reqs ≡ false

-- an option that takes this is required
abbrev pub is_needed : Takes → Bool
is_needed (takes.NeededText name) = true
is_needed (takes.NeededWord name) = true
is_needed _ = false

-- the option has a value if it is required
abbrev pub HasItsValue : Found → CommandOption → Type 0
HasItsValue found option = is_needed option.takes ≡ true → is_some (first_value found option.id.now) ≡ true

-- an option may have this id: it is not empty, and none of clap's own flags has it
abbrev pub is_free : List ℕ → Bool
is_free id = not (bytes_eq id []) && (not (bytes_eq id (codes "help")) && not (bytes_eq id (codes "version")))

-- none of the options has this id
abbrev pub is_new : List ℕ → List CommandOption → Bool
is_new id [] = true
is_new id (option ∷ options) = not (bytes_eq id option.id.now) && is_new id options

-- no two options have the same id
abbrev pub are_apart : List CommandOption → Bool
are_apart [] = true
are_apart (option ∷ options) = is_free option.id.now && (is_new option.id.now options && are_apart options)

-- the flag that clap stores for this value
abbrev pub IsFlag : Option (List ℕ) → Bool → Type 0
IsFlag value flag = (value ≡ None → flag ≡ false) × (value ≡ Some (codes "true") → flag ≡ true) × (value ≡ Some (codes "false") → flag ≡ false)
