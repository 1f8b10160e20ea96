-- Packets with commas between them, with one more at the end.
use Rattle.std.proofs.Common.{◌≡◌, ℕ, ◌+◌, ◌<◌, List, [], ◌∷◌, ◌++◌, map, take, length, get_or, sym, ap, ◌∙◌, append_assoc}
use Rattle.std.proofs.lemmas.List.{append-nil, map-append, take_more}
use Rattle.click_packet.specs.Packet.{Packet}
use Rattle.click_lines.specs.Lines.{packet_word}
use Rattle.click_lines.specs.Spelling.{behind}

pub behind_more : (c : ℕ) (fs : List (List ℕ)) (f : List ℕ) → behind c (fs ++ f ∷ []) ≡ behind c fs ++ c ∷ f
behind_more c [] f = append-nil (c ∷ f)
behind_more c (g ∷ gs) f = ap (λ (t : List ℕ). (c ∷ g) ++ t) (behind_more c gs f) ∙ sym (append_assoc (c ∷ g) (behind c gs) (c ∷ f))

pub one_more : (ps : List Packet) (i : ℕ) (p : Packet) → i < length ps → p ≡ get_or ps i p
    → behind 44 (map packet_word (take (i + 1) ps)) ≡ behind 44 (map packet_word (take i ps)) ++ 44 ∷ packet_word p
one_more ps i p lt at =
    let longer : take (i + 1) ps ≡ take i ps ++ p ∷ [] = take_more ps i p lt ∙ ap (λ (x : Packet). take i ps ++ x ∷ []) (sym at) in
    let words : map packet_word (take i ps ++ p ∷ []) ≡ map packet_word (take i ps) ++ packet_word p ∷ [] = map-append packet_word (take i ps) (p ∷ []) in
    ap (λ (x : List Packet). behind 44 (map packet_word x)) longer ∙ ap (λ (x : List (List ℕ)). behind 44 x) words
    ∙ behind_more 44 (map packet_word (take i ps)) (packet_word p)
