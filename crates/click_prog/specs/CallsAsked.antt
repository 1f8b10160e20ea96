-- The options of a command line whose first word is `--calls`.
use Rattle.std.specs.Prelude.{◌≡◌, codes, option_map}
use Rattle.clap.specs.Matches.{first_value, one_text}
use Rattle.clap.specs.declared.parser.matches.Found.{Found}
use Rattle.click_cli.specs.Options.{IsFlag}
use Rattle.click_prog.specs.declared.calls.arguments.Options.{Options}

-- the options are those that clap found
pub record AsksFor (found : Found) (options : Options) : Type 0 where
  pub text : option_map (λ s. s.now) options.text ≡ first_value found (codes "text")
  pub replay : IsFlag (one_text found (codes "replay")) options.replay
