-- What is known of the seat and the sending end of a run while its threads use them, one at a time.
use Rattle.std.specs.Prelude.{◌≡◌, ℕ, Bool, true, false, ◌&&◌, leb, List, [], ◌∷◌, ◌++◌, length, drop, if◌then◌else◌}
use Rattle.std.specs.Str.{bytes_eq}
use Rattle.click_router.specs.declared.call.Call.{Call}
use Rattle.click_router.specs.declared.call.Call.TheVariants as call
use Rattle.click_router.specs.declared.call.Reply.{Reply}
use Rattle.click_links.specs.Ends.{Attempt}
use Rattle.click_links.specs.Forwarding.{packets_given, sendings}

-- Whether the device is one of these.
abbrev pub is_among : List (List ℕ) → List ℕ → Bool
is_among [] device = false
is_among (d ∷ ds) device = if bytes_eq d device then true else is_among ds device

-- Whether a forwarder of these devices makes this call.
abbrev pub is_forwarding : List (List ℕ) → Call → Bool
is_forwarding devices (call.Read name text) = false
is_forwarding devices (call.Write name text) = false
is_forwarding devices (call.CheckRead name) = false
is_forwarding devices (call.CheckWrite name) = false
is_forwarding devices (call.Swap text) = false
is_forwarding devices (call.Arrive from p) = false
is_forwarding devices (call.Poll from taken) = is_among devices from && leb (length taken) 32
is_forwarding devices call.Round = true
is_forwarding devices (call.Transmit from) = is_among devices from

-- Whether a forwarder of these devices makes all of these calls.
abbrev pub are_forwarding : List (List ℕ) → List (Call × Reply) → Bool
are_forwarding devices [] = true
are_forwarding devices (m ∷ ms) = is_forwarding devices m.0 && are_forwarding devices ms

-- What `Forwards` says, as equations only, so that it can be known of a value that threads share.
-- What was made and sent is what follows the earlier calls and attempts.
abbrev pub HasForwarded : List (List ℕ) → List (Call × Reply) → List (Call × Reply) → List Attempt → List Attempt → Type 0
HasForwarded devices calls calls2 before after =
    (calls2 ≡ calls ++ drop (length calls) calls2)
    × (after ≡ before ++ drop (length before) after)
    × (are_forwarding devices (drop (length calls) calls2) ≡ true)
    × (packets_given (drop (length calls) calls2) ≡ sendings (drop (length before) after))
