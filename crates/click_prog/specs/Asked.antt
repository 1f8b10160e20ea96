-- The options of a command line.
use Rattle.std.specs.Prelude.{◌≡◌, ℕ, ◌≤◌, ◌⊎◌, List, [], length, Bool, true, false, Option, Some, None, codes, option_map, is_some}
use Rattle.std.specs.Option.{option_map_or}
use Rattle.clap.specs.Matches.{first_value, found_of, matched_of, one_text, raw_values}
use Rattle.clap.specs.declared.parser.matches.Found.{Found}
use Rattle.clap.specs.Built.{IsParsedFrom}
use Rattle.clap.specs.declared.builder.command.Command.{Command}
use Rattle.clap.specs.declared.parser.matches.ArgMatches.{ArgMatches}
use Rattle.click_cli.specs.Options.{IsFlag}
use Rattle.click_prog.specs.declared.arguments.NoNumber.{NoNumber}
use Rattle.click_prog.specs.declared.arguments.Options.{Options}
use Rattle.click_prog.specs.declared.arguments.ArgumentRefusal.{ArgumentRefusal}
use Rattle.click_prog.specs.declared.arguments.ArgumentRefusal.TheVariants as why
use Rattle.click_prog.specs.Links.{AreLinks, IsLinkFault}
use Rattle.click_prog.specs.Numbers.{IsNoNumber, IsNumber}
use Rattle.click_prog.specs.Running.{Planned}

-- the number that was given to an option with this value, if it has one
abbrev pub IsGiven : ℕ → ℕ → Option (List ℕ) → Option ℕ → Type 0
IsGiven least most None number = number ≡ None
IsGiven least most (Some text) None = ⊥
IsGiven least most (Some text) (Some n) = IsNumber least most text n

-- the number that was given to an option with this value, or `usual` if it has none
abbrev pub IsGivenOr : ℕ → ℕ → ℕ → Option (List ℕ) → ℕ → Type 0
IsGivenOr least most usual None n = n ≡ usual
IsGivenOr least most usual (Some text) n = IsNumber least most text n

-- the option with this id has a value that is not a number of its range
abbrev pub IsMistyped : Found → List ℕ → ℕ → ℕ → NoNumber → Type 0
IsMistyped found id least most n = (first_value found id ≡ Some n.text.now) × (n.least ≡ least) × (n.most ≡ most) × IsNoNumber least most n.text.now

-- the values of an option that may be given several times, in order
abbrev pub values_of : Found → List ℕ → List (List ℕ)
values_of found id = option_map_or raw_values (matched_of found id) []

-- the idle time of sessions if none is given, in seconds: 600 for a live router, else 0
abbrev pub usual_idle : Bool → ℕ
usual_idle true = 600
usual_idle false = 0

-- The options are those that clap found. Each number is the one that was given, or the usual one.
pub record Finds (found : Found) (options : Options) : Type 0 where
  pub text : option_map (λ s. s.now) options.text ≡ first_value found (codes "text")
  pub readonly : IsFlag (one_text found (codes "readonly")) options.readonly
  pub port : IsGiven 1 65535 (first_value found (codes "port")) options.port
  pub page : IsGiven 1 65535 (first_value found (codes "front")) options.page
  pub sessions : IsGivenOr 1 64 1 (first_value found (codes "sessions")) options.sessions
  pub workers : IsGivenOr 0 16 0 (first_value found (codes "workers")) options.workers
  pub rounds : IsGivenOr 0 1000000 1000 (first_value found (codes "number")) options.rounds
  pub check : option_map (λ s. s.now) options.check ≡ first_value found (codes "check")
  pub book : IsFlag (one_text found (codes "book")) options.book
  pub live : IsFlag (one_text found (codes "live")) options.live
  pub links : AreLinks (values_of found (codes "device")) options.links.items
  pub idle : IsGivenOr 0 86400 (usual_idle options.live) (first_value found (codes "quiet")) options.idle
  pub tell : IsGivenOr 0 86400 0 (first_value found (codes "every")) options.tell
  pub log : IsFlag (one_text found (codes "log")) options.log
  pub draw : IsFlag (one_text found (codes "image")) options.draw

-- no option with a number was given that only a run has
abbrev pub HasNoNumber : Found → Type 0
HasNoNumber found = (first_value found (codes "port") ≡ None) × (first_value found (codes "sessions") ≡ None) × (first_value found (codes "workers") ≡ None)
    × (first_value found (codes "number") ≡ None) × (first_value found (codes "every") ≡ None)
    × (first_value found (codes "quiet") ≡ None) × (first_value found (codes "front") ≡ None)

-- no other option was given that only a run has
abbrev pub HasNoWord : Options → Type 0
HasNoWord options =
    (options.readonly ≡ false) × (options.check ≡ None) × (options.book ≡ false) × (options.live ≡ false) × (options.links.items ≡ []) × (options.log ≡ false)

-- if a picture is asked for, no option was given that only a run has
abbrev pub DrawsAlone : Found → Options → Type 0
DrawsAlone found options = options.draw ≡ true → HasNoNumber found × HasNoWord options

-- a live router was given no number of rounds, no check and no book
abbrev pub GoesOn : Found → Options → Type 0
GoesOn found options = options.live ≡ true → (first_value found (codes "number") ≡ None) × (options.check ≡ None) × (options.book ≡ false)

-- a router that is not live was given no link, and no interval for printing counts
abbrev pub Ends : Found → Options → Type 0
Ends found options = options.live ≡ false → (options.links.items ≡ []) × (first_value found (codes "every") ≡ None)

-- if sessions are logged, a port for sessions over TCP was given
abbrev pub LogsOver : Options → Type 0
LogsOver options = options.log ≡ true → is_some options.port ≡ true

-- an interval for printing counts was given only with a link
abbrev pub TellsOfLinks : Found → Options → Type 0
TellsOfLinks found options = options.links.items ≡ [] → first_value found (codes "every") ≡ None

-- the options are those that clap found, and can be used together
abbrev pub AsksFor : Found → Options → Type 0
AsksFor found options = Finds found options × DrawsAlone found options × GoesOn found options × Ends found options × LogsOver options × TellsOfLinks found options

-- The reason why the options that clap found are refused: a value is not valid, or the options
-- cannot be used together. Nothing is said of an error of clap.
abbrev pub IsRefusedFor : Found → ArgumentRefusal → Type 0
IsRefusedFor found (why.Clap error) = Unit {0}
IsRefusedFor found (why.NoNumber n) =
    IsMistyped found (codes "port") 1 65535 n ⊎ (IsMistyped found (codes "sessions") 1 64 n ⊎ (IsMistyped found (codes "workers") 0 16 n
    ⊎ (IsMistyped found (codes "number") 0 1000000 n ⊎ (IsMistyped found (codes "every") 0 86400 n ⊎ (IsMistyped found (codes "quiet") 0 86400 n ⊎ IsMistyped found (codes "front") 1 65535 n)))))
IsRefusedFor found (why.NotDrawn option) = (options : Options) × Finds found options × (DrawsAlone found options → ⊥)
IsRefusedFor found (why.NotLive option) = (options : Options) × Finds found options × (GoesOn found options → ⊥)
IsRefusedFor found (why.OnlyLive option) = (options : Options) × Finds found options × (Ends found options → ⊥)
IsRefusedFor found (why.OnlyOver option) = (options : Options) × Finds found options × (LogsOver options → ⊥)
IsRefusedFor found (why.OnlyWith pair) = (options : Options) × Finds found options × (TellsOfLinks found options → ⊥)
IsRefusedFor found (why.Link fault) = IsLinkFault (values_of found (codes "device")) fault

-- a refusal, unless it is an error of clap, is about what some parse found
abbrev pub IsRefused : ArgumentRefusal → Type 0
IsRefused (why.Clap error) = Unit {0}
IsRefused refusal = (command : Command) × (matches : ArgMatches) × IsParsedFrom command matches × IsRefusedFor (found_of matches) refusal

-- each number is in its range
pub record IsInRanges (options : Options) : Type 0 where
  pub some_session : 1 ≤ options.sessions
  pub sessions : options.sessions ≤ 64
  pub workers : options.workers ≤ 16
  pub rounds : options.rounds ≤ 1000000
  pub links : length options.links.items ≤ 16
  pub tell : options.tell ≤ 86400
  pub idle : options.idle ≤ 86400

-- the number of sessions: one if there is no port
abbrev pub sessions_at : Option ℕ → ℕ → ℕ
sessions_at None n = 1
sessions_at (Some port) n = n

-- the plan of these options
abbrev pub plan_of : Options → Planned
plan_of options = record {
  sessions = sessions_at options.port options.sessions;
  workers = options.workers;
  rounds = options.rounds;
  readonly = options.readonly;
  live = options.live;
}
