-- The fields of ARP packets that are written byte by byte.
use Rattle.std.proofs.Common.{◌≡◌, ℕ, Bool, true, false, List, [], ◌∷◌, length, get_or, take, Some, None, if◌then◌else◌, refl, subst, ◌∙◌, ap}
use Rattle.std.proofs.lemmas.Option.{same_Some, none-some}
use Rattle.click_gateway.specs.Arp.{is_station, is_arp, request, requested, reply_to, request_for, sender, sender_ether, target_ip}
use Rattle.click_gateway.proofs.Fronts.{six-bytes, four-bytes}

pub reply_to-front : (frame ether : List ℕ) → take 6 (reply_to ether frame) ≡ sender_ether frame
unfolding reply_to
reply_to-front frame ether = refl

some_if : (b : Bool) (x y : List ℕ) → (if b then Some x else None) ≡ Some y → x ≡ y
some_if true x y h = same_Some x y h
some_if false x y h = absurd (none-some y h)

requested-is : (frame address : List ℕ) → requested frame ≡ Some address → target_ip frame ≡ address
unfolding requested
requested-is frame address h = some_if (is_arp request frame) (target_ip frame) address h

sender-reply_bytes : (frame : List ℕ) (a b c d e f : ℕ) → let ether = a ∷ b ∷ c ∷ d ∷ e ∷ f ∷ [] in
    is_station ether ≡ true → sender (reply_to ether frame) ≡ Some (record { ip = target_ip frame; ether = ether })
unfolding reply_to sender
sender-reply_bytes frame a b c d e f k = rw k refl

pub sender-reply : (frame ether address : List ℕ) → length ether ≡ 6 → is_station ether ≡ true → requested frame ≡ Some address →
    sender (reply_to ether frame) ≡ Some (record { ip = address; ether = ether })
sender-reply frame ether address n k h =
    subst (λ (xs : List ℕ). is_station xs ≡ true → sender (reply_to xs frame) ≡ Some (record { ip = target_ip frame; ether = xs })) (six-bytes ether n)
    (sender-reply_bytes frame (get_or ether 0 0) (get_or ether 1 0) (get_or ether 2 0) (get_or ether 3 0) (get_or ether 4 0) (get_or ether 5 0)) k
    ∙ ap (λ (a : List ℕ). Some (record { ip = a; ether = ether })) (requested-is frame address h)

request-bytes : (a b c d e f g h i j k l m n : ℕ) →
    let ip = a ∷ b ∷ c ∷ d ∷ [] in
    let ether = e ∷ f ∷ g ∷ h ∷ i ∷ j ∷ [] in
    let wanted = k ∷ l ∷ m ∷ n ∷ [] in
    (requested (request_for ip ether wanted) ≡ Some wanted) × (is_station ether ≡ true → sender (request_for ip ether wanted) ≡ Some (record { ip = ip; ether = ether }))
unfolding request_for requested sender
request-bytes a b c d e f g h i j k l m n = (refl, λ s. rw s refl)

pub request-fields : (ip ether wanted : List ℕ) → length ip ≡ 4 → length ether ≡ 6 → length wanted ≡ 4 →
    (requested (request_for ip ether wanted) ≡ Some wanted) × (is_station ether ≡ true → sender (request_for ip ether wanted) ≡ Some (record { ip = ip; ether = ether }))
request-fields ip ether wanted n m k =
    rw (← four-bytes ip n, ← six-bytes ether m, ← four-bytes wanted k)
    (request-bytes (get_or ip 0 0) (get_or ip 1 0) (get_or ip 2 0) (get_or ip 3 0)
    (get_or ether 0 0) (get_or ether 1 0) (get_or ether 2 0) (get_or ether 3 0) (get_or ether 4 0) (get_or ether 5 0)
    (get_or wanted 0 0) (get_or wanted 1 0) (get_or wanted 2 0) (get_or wanted 3 0))
