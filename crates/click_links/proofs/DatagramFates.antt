-- The fates of datagrams, after one more.
use Rattle.std.proofs.Common.{◌≡◌, ℕ, ◌+◌, ◌<◌, ◌≤◌, inl, inr, true, false, List, [], ◌∷◌, ◌++◌, length, map, refl, sym, ap, subst, ◌∙◌, append-nil, append_assoc, arith}
use Rattle.click_packet.specs.Packet.{Packet, longest_packet}
use Rattle.click_links.specs.declared.datagram.Datagram.{Datagram}
use Rattle.click_links.specs.declared.datagram.DatagramOutcome.{DatagramOutcome}
use Rattle.click_links.specs.declared.datagram.DatagramOutcome.TheVariants.{Enqueued, ForeignSender, TooLong, FeedFull, NoMemory}
use Rattle.click_links.specs.declared.dropped.Dropped.{Dropped}
use Rattle.click_links.specs.Ends.{Offering, Received, further}
use Rattle.click_links.specs.Fates.{Heard, heard, put_of, puts, asked_of, asks, counted, of_stranger, of_long, of_full, of_memory, nothing_dropped, AllBelow, IsDue, EachDue, Hears, Receives, Steps, added}

abbrev datagrams : List Heard → List Datagram
datagrams hs = map (λ (h : Heard). h.datagram) hs

datagrams_append : (hs ks : List Heard) → datagrams (hs ++ ks) ≡ datagrams hs ++ datagrams ks
datagrams_append [] ks = refl
datagrams_append (h ∷ hs) ks = ap (λ l. h.datagram ∷ l) (datagrams_append hs ks)

puts_append : (hs ks : List Heard) → puts (hs ++ ks) ≡ puts hs ++ puts ks
puts_append [] ks = refl
puts_append (h ∷ hs) ks = ap (λ l. put_of h.fate h.datagram.bytes ++ l) (puts_append hs ks) ∙ sym (append_assoc (put_of h.fate h.datagram.bytes) (puts hs) (puts ks))

asks_append : (hs ks : List Heard) → asks (hs ++ ks) ≡ asks hs ++ asks ks
asks_append [] ks = refl
asks_append (h ∷ hs) ks = ap (λ l. asked_of h.fate h.datagram.bytes ++ l) (asks_append hs ks) ∙ sym (append_assoc (asked_of h.fate h.datagram.bytes) (asks hs) (asks ks))

due_append : (places : ℕ) (put : List Packet) (hs ks : List Heard) → EachDue places put hs → EachDue places (put ++ puts hs) ks → EachDue places put (hs ++ ks)
due_append places put [] ks a b = subst (λ l. EachDue places l ks) (append-nil put) b
due_append places put (h ∷ hs) ks (first, rest) b =
    (first, due_append places (put ++ put_of h.fate h.datagram.bytes) hs ks rest (subst (λ l. EachDue places l ks) (sym (append_assoc put (put_of h.fate h.datagram.bytes) (puts hs))) b))

counted_one : (f : DatagramOutcome → ℕ) (hs : List Heard) (datagram : Datagram) (fate : DatagramOutcome) → counted f (hs ++ heard datagram fate ∷ []) ≡ counted f hs + f fate
counted_one f [] datagram fate = omega arith
counted_one f (h ∷ hs) datagram fate = omega (arith, counted_one f hs datagram fate)

pub hears_then : (came came2 came3 : Received) (from mid to : Offering) (hs ks : List Heard) → Hears came came2 from mid hs → Hears came2 came3 mid to ks → Hears came came3 from to (hs ++ ks)
hears_then came came2 came3 from mid to hs ks a b = record {
  more = b.more ∙ (ap (λ r. further r (datagrams ks)) a.more
      ∙ ap (λ l. record { addresses = came.addresses; datagrams = l }) (append_assoc came.datagrams (datagrams hs) (datagrams ks) ∙ ap (λ l. came.datagrams ++ l) (sym (datagrams_append hs ks))));
  offered = b.offered ∙ (ap (λ l. l ++ asks ks) a.offered ∙ (append_assoc from.asked (asks hs) (asks ks) ∙ ap (λ l. from.asked ++ l) (sym (asks_append hs ks))));
  entered = b.entered ∙ (ap (λ l. l ++ puts ks) a.entered ∙ (append_assoc from.feed.put (puts hs) (puts ks) ∙ ap (λ l. from.feed.put ++ l) (sym (puts_append hs ks))));
  due = due_append from.feed.places from.feed.put hs ks a.due (subst (λ p. EachDue p (from.feed.put ++ puts hs) ks) a.places (subst (λ l. EachDue mid.feed.places l ks) a.entered b.due));
  places = b.places ∙ a.places;
  ring = b.ring ∙ a.ring;
}

-- One datagram came.
pub hears_one : (came came2 : Received) (from to : Offering) (datagram : Datagram) (fate : DatagramOutcome) → came2 ≡ further came (datagram ∷ []) → to.asked ≡ from.asked ++ asked_of fate datagram.bytes
    → to.feed.put ≡ from.feed.put ++ put_of fate datagram.bytes → IsDue from.feed.places (length from.feed.put) datagram fate → to.feed.places ≡ from.feed.places → to.feed.ring ≡ from.feed.ring
    → Hears came came2 from to (heard datagram fate ∷ [])
hears_one came came2 from to datagram fate more offered entered due places ring = record {
  more = more;
  offered = offered ∙ ap (λ l. from.asked ++ l) (sym (append-nil (asked_of fate datagram.bytes)));
  entered = entered ∙ ap (λ l. from.feed.put ++ l) (sym (append-nil (put_of fate datagram.bytes)));
  due = (due, tt);
  places = places;
  ring = ring;
}

-- No datagram came.
pub receives_none : (came : Received) (from : Offering) → Receives came came from from nothing_dropped
receives_none came from = record {
  heard_here = [];
  hears = record {
    more = ap (λ l. record { addresses = came.addresses; datagrams = l }) (sym (append-nil came.datagrams));
    offered = sym (append-nil from.asked);
    entered = sym (append-nil from.feed.put);
    due = tt;
    places = refl;
    ring = refl;
  };
  strangers = refl;
  too_long = refl;
  no_room = refl;
  no_memory = refl;
}

-- One more datagram came.
pub receives_more : (came came2 came3 : Received) (from mid to : Offering) (d : Dropped) (datagram : Datagram) (fate : DatagramOutcome) → Receives came came2 from mid d → Hears came2 came3 mid to (heard datagram fate ∷ [])
    → Receives came came3 from to (added d fate)
receives_more came came2 came3 from mid to d datagram fate r h = record {
  heard_here = r.heard_here ++ heard datagram fate ∷ [];
  hears = hears_then came came2 came3 from mid to r.heard_here (heard datagram fate ∷ []) r.hears h;
  strangers = ap (λ n. n + of_stranger fate) r.strangers ∙ sym (counted_one of_stranger r.heard_here datagram fate);
  too_long = ap (λ n. n + of_long fate) r.too_long ∙ sym (counted_one of_long r.heard_here datagram fate);
  no_room = ap (λ n. n + of_full fate) r.no_room ∙ sym (counted_one of_full r.heard_here datagram fate);
  no_memory = ap (λ n. n + of_memory fate) r.no_memory ∙ sym (counted_one of_memory r.heard_here datagram fate);
}

-- No further datagram came.
pub receives_same : (came came2 came3 : Received) (from mid to : Offering) (d : Dropped) → Receives came came2 from mid d → came3 ≡ came2 → to ≡ mid → Receives came came3 from to d
receives_same came came2 came3 from mid to d r same still =
    subst (λ (o : Offering). Receives came came3 from o d) (sym still) (subst (λ (l : Received). Receives came l from mid d) (sym same) r)

-- A fate adds at most one to each number.
adds_one : (fate : DatagramOutcome) → AllBelow (added nothing_dropped fate) 2
adds_one Enqueued = (omega arith, omega arith, omega arith, omega arith)
adds_one ForeignSender = (omega arith, omega arith, omega arith, omega arith)
adds_one TooLong = (omega arith, omega arith, omega arith, omega arith)
adds_one FeedFull = (omega arith, omega arith, omega arith, omega arith)
adds_one NoMemory = (omega arith, omega arith, omega arith, omega arith)

pub due_stranger : (places before : ℕ) (datagram : Datagram) → datagram.known ≡ false → IsDue places before datagram ForeignSender
due_stranger places before datagram strange = record {
  stranger = (λ _. strange, λ _. refl);
  long = (λ e. absurd cc, λ p. let k : datagram.known ≡ true = p.0 in absurd cc);
  room = λ e. absurd cc;
}

pub due_long : (places before : ℕ) (datagram : Datagram) → datagram.known ≡ true → longest_packet < length datagram.bytes → IsDue places before datagram TooLong
due_long places before datagram known long = record {
  stranger = (λ e. absurd cc, λ k. absurd cc);
  long = (λ _. (known, long), λ _. refl);
  room = λ e. absurd cc;
}

pub due_put : (places before : ℕ) (datagram : Datagram) → datagram.known ≡ true → length datagram.bytes ≤ longest_packet → IsDue places before datagram Enqueued
due_put places before datagram known short = record {
  stranger = (λ e. absurd cc, λ k. absurd cc);
  long = (λ e. absurd cc, λ p. absurd (omega (arith, p.1, short)));
  room = λ e. absurd cc;
}

pub due_full : (places before : ℕ) (datagram : Datagram) → datagram.known ≡ true → length datagram.bytes ≤ longest_packet → places ≤ before → IsDue places before datagram FeedFull
due_full places before datagram known short full = record {
  stranger = (λ e. absurd cc, λ k. absurd cc);
  long = (λ e. absurd cc, λ p. absurd (omega (arith, p.1, short)));
  room = λ _. full;
}

pub received_step : (came came2 came3 : Received) (from mid to : Offering) (d d2 : Dropped) → Receives came came2 from mid d → Steps came2 came3 mid to d d2 → Receives came came3 from to d2
received_step came came2 came3 from mid to d d2 r (inl (same, still, is)) =
    subst (λ (x : Dropped). Receives came came3 from to x) (sym is) (receives_same came came2 came3 from mid to d r same still)
received_step came came2 came3 from mid to d d2 r (inr (datagram, fate, hears, is)) =
    subst (λ (x : Dropped). Receives came came3 from to x) (sym is) (receives_more came came2 came3 from mid to d datagram fate r hears)

pub due_memory : (places before : ℕ) (datagram : Datagram) → datagram.known ≡ true → length datagram.bytes ≤ longest_packet → IsDue places before datagram NoMemory
due_memory places before datagram known short = record {
  stranger = (λ e. absurd cc, λ k. absurd cc);
  long = (λ e. absurd cc, λ p. absurd (omega (arith, p.1, short)));
  room = λ e. absurd cc;
}

-- Each number grows by at most one.
pub steps_small : (came came2 : Received) (from to : Offering) (d d2 : Dropped) (n : ℕ) → AllBelow d (n + 1) → Steps came came2 from to d d2 → AllBelow d2 (n + 1 + 1)
steps_small came came2 from to d d2 n below (inl (same, still, is)) = (
  omega (arith, below.0, ap (λ (x : Dropped). x.strangers) is),
  omega (arith, below.1, ap (λ (x : Dropped). x.too_long) is),
  omega (arith, below.2, ap (λ (x : Dropped). x.no_room) is),
  omega (arith, below.3, ap (λ (x : Dropped). x.no_memory) is),
)
steps_small came came2 from to d d2 n below (inr (datagram, fate, hears, is)) = (
  omega (arith, below.0, ap (λ (x : Dropped). x.strangers) is, (adds_one fate).0),
  omega (arith, below.1, ap (λ (x : Dropped). x.too_long) is, (adds_one fate).1),
  omega (arith, below.2, ap (λ (x : Dropped). x.no_room) is, (adds_one fate).2),
  omega (arith, below.3, ap (λ (x : Dropped). x.no_memory) is, (adds_one fate).3),
)

pub below_more : (d : Dropped) (n m : ℕ) → AllBelow d n → n ≤ m → AllBelow d m
below_more d n m below more = (omega (arith, below.0, more), omega (arith, below.1, more), omega (arith, below.2, more), omega (arith, below.3, more))
