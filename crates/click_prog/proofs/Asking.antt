-- Lemmas on the parse of a command line.
use Rattle.std.proofs.Common.{Result, Ok, Err, IfErr, IfOk}
use Rattle.clap.specs.Built.{IsParsedFrom}
use Rattle.clap.specs.Matches.{found_of}
use Rattle.clap.specs.declared.builder.command.Command.{Command}
use Rattle.clap.specs.declared.parser.matches.ArgMatches.{ArgMatches}
use Rattle.click_prog.specs.Asked.{AsksFor, IsRefused, IsRefusedFor}
use Rattle.click_prog.specs.declared.arguments.Options.{Options}
use Rattle.click_prog.specs.declared.arguments.ArgumentRefusal.{ArgumentRefusal}
use Rattle.click_prog.specs.declared.arguments.ArgumentRefusal.TheVariants as why

-- options that this parse found are options that some parse found
pub asked-of : {E : Type 0} (r : Result Options E) (command : Command) (matches : ArgMatches) → IsParsedFrom command matches → IfOk r (AsksFor (found_of matches))
    → IfOk r (λ options. (c : Command) × (m : ArgMatches) × IsParsedFrom c m × AsksFor (found_of m) options)
asked-of (Ok options) command matches parsed asks = (command, matches, parsed, asks)
asked-of (Err e) command matches parsed asks = tt

-- what this parse found is refused, so what some parse found is refused
refused-of : (command : Command) (matches : ArgMatches) → IsParsedFrom command matches → (refusal : ArgumentRefusal) → IsRefusedFor (found_of matches) refusal → IsRefused refusal
refused-of command matches parsed (why.Clap error) refused = tt
refused-of command matches parsed (why.NoNumber number) refused = (command, matches, parsed, refused)
refused-of command matches parsed (why.NotDrawn option) refused = (command, matches, parsed, refused)
refused-of command matches parsed (why.NotLive option) refused = (command, matches, parsed, refused)
refused-of command matches parsed (why.OnlyLive option) refused = (command, matches, parsed, refused)
refused-of command matches parsed (why.OnlyOver option) refused = (command, matches, parsed, refused)
refused-of command matches parsed (why.OnlyWith pair) refused = (command, matches, parsed, refused)
refused-of command matches parsed (why.Link fault) refused = (command, matches, parsed, refused)

pub refused-if : {T : Type 0} (r : Result T ArgumentRefusal) (command : Command) (matches : ArgMatches) → IsParsedFrom command matches → IfErr r (IsRefusedFor (found_of matches)) → IfErr r IsRefused
refused-if (Ok options) command matches parsed refused = tt
refused-if (Err refusal) command matches parsed refused = refused-of command matches parsed refusal refused
