-- The packets that were sent, after one more attempt.
use Rattle.std.proofs.Common.{◌≡◌, ℕ, Bool, List, [], ◌∷◌, ◌++◌, if◌then◌else◌, sym, ap, ◌∙◌, append-nil, append_assoc}
use Rattle.click_packet.specs.Packet.{Packet}
use Rattle.click_links.specs.Ends.{Attempt, attempt, gone}

pub gone_one : (ts : List Attempt) (device : List ℕ) (packet : Packet) (sent : Bool)
    → gone (ts ++ attempt device packet sent ∷ []) ≡ gone ts ++ (if sent then (device, packet) ∷ [] else [])
gone_one [] device packet sent = append-nil (if sent then (device, packet) ∷ [] else [])
gone_one (t ∷ ts) device packet sent =
    ap (λ l. (if t.sent then (t.device, t.packet) ∷ [] else []) ++ l) (gone_one ts device packet sent)
    ∙ sym (append_assoc (if t.sent then (t.device, t.packet) ∷ [] else []) (gone ts) (if sent then (device, packet) ∷ [] else []))
