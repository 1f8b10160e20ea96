-- Entering a call keeps the invariant of the logged router.
use Rattle.std.proofs.Common.{◌≡◌, ◌≤◌, ◌++◌, ◌∷◌, [], ℕ, true, false, None, is_some, List, length, map, ◌∙◌, ap, subst, sym, refl, append-nil, arith}
use Rattle.click_packet.specs.Packet.{Packet}
use Rattle.click_rings.specs.Feeds.{ConsumerState, FeedName, name_of, has_feed, have_distinct_devices, drew}
use Rattle.click_rings.proofs.Draws.{drew_feeds}
use Rattle.click_router.specs.One.{Answers, swap_text}
use Rattle.click_router.specs.Polls.{poll, is_poll}
use Rattle.click_router.specs.State.{RouterState}
use Rattle.click_router.specs.declared.call.Reply.{Reply}
use Rattle.click_router.specs.declared.call.Reply.TheVariants.{NoDevice}
use Rattle.click_views.specs.Showing.{Showing}
use Rattle.click_desk.specs.declared.logged_router.RouterLog.{RouterLog}
use Rattle.click_desk.specs.declared.entry.Entry.{Entry}
use Rattle.click_desk.specs.declared.options.DeskOptions.{DeskOptions}
use Rattle.click_desk.specs.History.{Legal, installs, installed}
use Rattle.click_desk.specs.Polls.{IsPolled, MayTake}
use Rattle.click_desk.specs.TrailState.{TrailState}
use Rattle.click_desk.proofs.Histories.{legal_more}
use Rattle.click_desk.proofs.InstalledTexts.{published_more, quiet}
use Rattle.click_desk.proofs.HistoryPolls.{polled_same, polled_drew, drew_length, none_of}

-- The invariant of a logged router, in terms of its parts.
abbrev pub Kept : DeskOptions → TrailState Entry → List ConsumerState → Showing (List ℕ) → RouterState → Type 0
Kept options entries consumers published router = Legal options.opening entries.items router × IsPolled entries.items consumers
    × (have_distinct_devices (map name_of consumers) ≡ true)
    × (published ≡ record { board = options.origin; list = installs options.opening entries.items })
    × (entries.keeps ≡ is_some options.room)

abbrev pub KeptIn : RouterLog → RouterState → Type 0
KeptIn log router = Kept log.options log.entries log.consumers.items log.published router

kept_more : (log : RouterLog) (router next : RouterState) (e : Entry) (entries : TrailState Entry) (consumers : List ConsumerState) (published : Showing (List ℕ))
    → KeptIn log router → Answers router e.call next e.reply → entries.items ≡ log.entries.items ++ e ∷ [] → entries.keeps ≡ log.entries.keeps
    → IsPolled (log.entries.items ++ e ∷ []) consumers → map name_of consumers ≡ map name_of log.consumers.items
    → published.board ≡ log.published.board → published.list ≡ log.published.list ++ installed e.call e.reply
    → Kept log.options entries consumers published next
kept_more log router next e entries consumers published kept answer more keeps polled names board list = (
  subst (λ (l : List Entry). Legal log.options.opening l next) (sym more) (legal_more log.options.opening log.entries.items router e next kept.0 answer),
  subst (λ (l : List Entry). IsPolled l consumers) (sym more) polled,
  ap have_distinct_devices names ∙ kept.2,
  published_more log.options.origin log.options.opening log.entries.items entries.items e log.published published kept.3 more board list,
  keeps ∙ kept.4,
)

-- Entering a call that is no Poll keeps the invariant.
pub kept_call : (inside log : RouterLog) (router next : RouterState) (e : Entry) (entries : TrailState Entry) (published : Showing (List ℕ))
    → log ≡ inside → KeptIn inside router → is_poll e.call ≡ false
    → Answers router e.call next e.reply → entries.items ≡ log.entries.items ++ e ∷ [] → entries.keeps ≡ log.entries.keeps
    → published.board ≡ log.published.board → published.list ≡ log.published.list ++ installed e.call e.reply
    → Kept log.options entries log.consumers.items published next
kept_call inside log router next e entries published same within no_poll answer more keeps board list =
    let kept = subst (λ (l : RouterLog). KeptIn l router) (sym same) within in
    kept_more log router next e entries log.consumers.items published kept answer more keeps
    (polled_same log.entries.items e log.consumers.items no_poll kept.1) refl board list

installs_none : (log : RouterLog) (e : Entry) → swap_text e.call ≡ None → log.published.list ≡ log.published.list ++ installed e.call e.reply
installs_none log e none = sym (ap (λ l. log.published.list ++ l) (quiet e.call e.reply none) ∙ append-nil log.published.list)

-- Entering a call that is neither a Poll nor a swap keeps the invariant.
pub kept_quiet : (inside log : RouterLog) (router next : RouterState) (e : Entry) (entries : TrailState Entry)
    → log ≡ inside → KeptIn inside router → is_poll e.call ≡ false → swap_text e.call ≡ None
    → Answers router e.call next e.reply → entries.items ≡ log.entries.items ++ e ∷ [] → entries.keeps ≡ log.entries.keeps
    → Kept log.options entries log.consumers.items log.published next
kept_quiet inside log router next e entries same within no_poll no_swap answer more keeps =
    kept_call inside log router next e entries log.published same within no_poll answer more keeps refl (installs_none log e no_swap)

pub names_drawn : (device : List ℕ) (got : List Packet) (old now : List ConsumerState) → now ≡ drew device got old → map name_of now ≡ map name_of old
names_drawn device got old now drawn = ap (λ l. map name_of l) drawn ∙ drew_feeds device got old

-- Entering a Poll of the packets that were drawn keeps the invariant.
pub kept_poll : (inside log : RouterLog) (router next : RouterState) (e : Entry) (entries : TrailState Entry) (consumers : List ConsumerState) (device : List ℕ) (got : List Packet)
    → log ≡ inside → KeptIn inside router → e.call ≡ poll device got → consumers ≡ drew device got log.consumers.items
    → Answers router e.call next e.reply → entries.items ≡ log.entries.items ++ e ∷ [] → entries.keeps ≡ log.entries.keeps
    → Kept log.options entries consumers log.published next
kept_poll inside log router next e entries consumers device got same within is drawn answer more keeps =
    let kept = subst (λ (l : RouterLog). KeptIn l router) (sym same) within in
    kept_more log router next e entries consumers log.published kept answer more keeps
    (subst (λ (l : List ConsumerState). IsPolled (log.entries.items ++ e ∷ []) l) (sym drawn) (polled_drew log.entries.items e device got log.consumers.items is kept.1))
    (names_drawn device got log.consumers.items consumers drawn) refl (installs_none log e (ap swap_text is))

-- What is drawn through a slice of the feeds is drawn from the feeds.
pub drawn_by : (device : List ℕ) (got : List Packet) (old items slice new now : List ConsumerState) (len : ℕ) → items ≡ old → slice ≡ items → len ≡ length items
    → (length new ≡ len → now ≡ new) → new ≡ drew device got slice → now ≡ drew device got old
drawn_by device got old items slice new now len same sliced many put went =
    put (ap length went ∙ (drew_length device got slice ∙ (ap length sliced ∙ sym many))) ∙ (went ∙ ap (λ l. drew device got l) (sliced ∙ same))

-- A poll draws no more packets than were seen in the feed.
pub may_take : (feeds : List FeedName) (device : List ℕ) (limit seen : ℕ) (got : List Packet) (router next : RouterState) (reply told : Reply) → seen ≤ limit
    → ((packets : List Packet) (after : RouterState) (said : Reply) → Answers router (poll device packets) after said → said ≡ NoDevice → seen ≡ 0)
    → length got ≤ seen → (has_feed device feeds ≡ false → got ≡ []) → Answers router (poll device got) next reply → told ≡ reply → MayTake feeds device limit got told
may_take feeds device limit seen got router next reply told most nothing within no_feed answer same = record {
  within = omega (arith, within, most);
  no_device = λ none. let few = nothing got next reply answer (sym same ∙ none) in none_of got (omega (arith, within, few));
  no_feed = no_feed;
}
