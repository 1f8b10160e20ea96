-- Histories of one thread.
use Rattle.std.specs.Prelude.{◌≡◌, ℕ, ◌==◌, if◌then◌else◌, Option, Some, None, List, [], ◌∷◌, ◌++◌}
use Rattle.click_text.specs.Spelling.{Spells}
use Rattle.click_text.specs.declared.syntax.Config.{Config}
use Rattle.click_classes.specs.declared.state.State.{State}
use Rattle.click_expand.specs.Flat.{IsFlat}
use Rattle.click_expand.specs.declared.flat.Flat.{Flat}
use Rattle.click_router.specs.State.{RouterState}
use Rattle.click_router.specs.Opened.{IsOpened, AreFresh, IsLawful}
use Rattle.click_router.specs.One as one
use Rattle.click_router.specs.declared.call.Call.{Call}
use Rattle.click_router.specs.declared.call.Reply.{Reply}
use Rattle.click_router.specs.declared.call.Reply.TheVariants as reply
use Rattle.click_desk.specs.declared.entry.Entry.{Entry}

-- The entry of a seat for a call and its reply.
abbrev pub entry : ℕ → Call → Reply → Entry
entry seat call reply = record { seat = seat; call = call; reply = reply }

-- One thread that makes the calls in order, from the first state, gets exactly these replies and
-- ends in the last state.
abbrev pub Replays : RouterState → List Entry → RouterState → Type 0
Replays s [] last = s ≡ last
Replays s (e ∷ es) last = (next : RouterState) × one.Answers s e.call next e.reply × Replays next es last

-- The history replays from the state that this text opens, and ends in this state.
abbrev pub Legal : List ℕ → List Entry → RouterState → Type 0
Legal text history state = (first : RouterState) × IsOpened text first × Replays first history state

-- The history replays from the state that this text opens, and ends in some state.
abbrev pub IsLegal : List ℕ → List Entry → Type 0
IsLegal text history = (state : RouterState) × Legal text history state

-- The calls and replies of one seat, in order.
abbrev pub entries : List Entry → ℕ → List (Call × Reply)
entries [] seat = []
entries (e ∷ es) seat = if e.seat == seat then ((e.call, e.reply) ∷ entries es seat) else entries es seat

-- What was seen is a prefix of the history.
abbrev pub StartsWith : List Entry → List Entry → Type 0
StartsWith history seen = (more : List Entry) × (history ≡ seen ++ more)

-- The text that a call installed, if it installed one, as a list.
abbrev pub asked : Option (List ℕ) → List (List ℕ)
asked (Some text) = text ∷ []
asked None = []

-- The text, if the reply is Done.
abbrev pub text_if_done : List ℕ → Reply → Option (List ℕ)
text_if_done text (reply.Value value) = None
text_if_done text reply.Done = Some text
text_if_done text (reply.Refused why) = None
text_if_done text (reply.Entered count) = None
text_if_done text (reply.Worked count) = None
text_if_done text (reply.Sent packet) = None
text_if_done text reply.NoDevice = None

-- The text that a call with this reply installed, if it installed one, as a list.
abbrev pub installed : Call → Reply → List (List ℕ)
installed c (reply.Value value) = []
installed c reply.Done = asked (one.swap_text c)
installed c (reply.Refused why) = []
installed c (reply.Entered count) = []
installed c (reply.Worked count) = []
installed c (reply.Sent packet) = []
installed c reply.NoDevice = []

-- The texts that the accepted swaps of a history installed, in order.
abbrev pub swaps : List Entry → List (List ℕ)
swaps [] = []
swaps (e ∷ es) = installed e.call e.reply ++ swaps es

-- The texts of all installed configurations, in order: the opening one, and then that of each
-- accepted swap.
abbrev pub installs : List ℕ → List Entry → List (List ℕ)
installs opening history = opening ∷ swaps history

-- The text spells a lawful configuration: its elements have first states, and with their
-- connections they satisfy the port rules.
pub record IsLawfulText (text : List ℕ) : Type 0 where
  pub config : Config
  pub spells : Spells text config
  pub flat : Flat
  pub is_flat : IsFlat config flat
  pub states : List State
  pub fresh : AreFresh flat.elements states
  pub lawful : IsLawful flat states

-- Each of these texts spells a lawful configuration.
abbrev pub EachLawful : List (List ℕ) → Type 0
EachLawful [] = Unit {0}
EachLawful (text ∷ texts) = IsLawfulText text × EachLawful texts
