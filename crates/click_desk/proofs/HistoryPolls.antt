-- Laws of what a history polled.
use Rattle.std.proofs.Common.{◌≡◌, ℕ, zero, suc, ◌≤◌, Bool, true, false, if◌then◌else◌, List, [], ◌∷◌, ◌++◌, length, slice_index_or, sym, refl, ap, ◌∙◌, true≢false, append-nil, append_assoc, arith}
use Rattle.std.specs.Str.{bytes_eq}
use Rattle.click_packet.specs.Packet.{Packet}
use Rattle.click_rings.specs.Feeds.{ConsumerState, drew}
use Rattle.click_router.specs.Polls.{poll, is_poll}
use Rattle.click_router.specs.declared.call.Call.{Call}
use Rattle.click_router.specs.declared.call.Call.TheVariants as call
use Rattle.click_desk.specs.declared.entry.Entry.{Entry}
use Rattle.click_desk.specs.Polls.{taken_of, polled, IsPolled}

pub drew_length : (device : List ℕ) (got : List Packet) (is : List ConsumerState) → length (drew device got is) ≡ length is
drew_length device got [] = refl
drew_length device got (i ∷ is) = ap suc (drew_length device got is)

-- A list of length 0 is empty.
pub none_of : (l : List Packet) → length l ≤ 0 → l ≡ []
none_of [] e = refl
none_of (p ∷ l) e = absurd (omega arith)

-- What a history with one more entry polled.
pub polled_push : (h : List Entry) (e : Entry) (device : List ℕ) → polled (h ++ e ∷ []) device ≡ polled h device ++ taken_of e.call device
polled_push [] e device = append-nil (taken_of e.call device)
polled_push (x ∷ h) e device = ap (λ l. taken_of x.call device ++ l) (polled_push h e device) ∙ sym (append_assoc (taken_of x.call device) (polled h device) (taken_of e.call device))

pub not_taken : (c : Call) (device : List ℕ) → is_poll c ≡ false → taken_of c device ≡ []
not_taken (call.Poll from taken) device not_poll = absurd (true≢false not_poll)
not_taken _ device not_poll = refl

-- An entry that is no Poll keeps `IsPolled`.
pub polled_same : (h : List Entry) (e : Entry) (is : List ConsumerState) → is_poll e.call ≡ false → IsPolled h is → IsPolled (h ++ e ∷ []) is
polled_same h e is not_poll all k x below =
    let i = slice_index_or is k x in
    all k x below ∙ sym (polled_push h e i.device ∙ (ap (λ l. polled h i.device ++ l) (not_taken e.call i.device not_poll) ∙ append-nil (polled h i.device)))

drew_one : (h : List Entry) (e : Entry) (device : List ℕ) (got : List Packet) (i : ConsumerState) (b : Bool) → bytes_eq i.device device ≡ b → e.call ≡ poll device got → i.drawn ≡ polled h i.device
    → (if b then record i { drawn = i.drawn ++ got } else i).drawn ≡ polled (h ++ e ∷ []) (if b then record i { drawn = i.drawn ++ got } else i).device
drew_one h e device got i true here is was =
    let took : taken_of e.call i.device ≡ got = ap (λ c. taken_of c i.device) is ∙ ap (λ (b : Bool). if b then got else []) here in
    ap (λ l. l ++ got) was ∙ (ap (λ l. polled h i.device ++ l) (sym took) ∙ sym (polled_push h e i.device))
drew_one h e device got i false here is was =
    let took : taken_of e.call i.device ≡ [] = ap (λ c. taken_of c i.device) is ∙ ap (λ (b : Bool). if b then got else []) here in
    was ∙ (sym (append-nil (polled h i.device)) ∙ (ap (λ l. polled h i.device ++ l) (sym took) ∙ sym (polled_push h e i.device)))

-- The entry of a Poll keeps `IsPolled`, if its packets were drawn from the feed.
pub polled_drew : (h : List Entry) (e : Entry) (device : List ℕ) (got : List Packet) (is : List ConsumerState) → e.call ≡ poll device got → IsPolled h is → IsPolled (h ++ e ∷ []) (drew device got is)
polled_drew h e device got [] is all k x below = absurd (omega arith)
polled_drew h e device got (i ∷ rest) is all zero x below = drew_one h e device got i (bytes_eq i.device device) refl is (all 0 x (omega arith))
polled_drew h e device got (i ∷ rest) is all (suc k) x below = polled_drew h e device got rest is (λ j y less. all (suc j) y (omega arith)) k x (omega arith)
