-- Lemmas on converting bytes to text, one byte at a time.
use Rattle.std.proofs.Common.{◌≡◌, ◌+◌, ◌<◌, ℕ, List, [], ◌∷◌, ◌++◌, length, take, get_or, sym}
use Rattle.std.proofs.lemmas.List.{take_more, append-nil}
use Rattle.std.proofs.lemmas.Str.{encodes-append}
use Rattle.std.specs.Prelude.{encode_utf8_all, encode_utf8}

pub encoded-more : (bs : List ℕ) (i : ℕ) (t u : List ℕ) (ch : ℕ) → i < length bs → ch ≡ get_or bs i 0 → t ≡ encode_utf8_all (take i bs) → u ≡ t ++ encode_utf8 ch
    → u ≡ encode_utf8_all (take (i + 1) bs)
encoded-more bs i t u ch lt is so more =
    let split : encode_utf8_all (take (i + 1) bs) ≡ encode_utf8_all (take i bs) ++ encode_utf8 (get_or bs i 0) =
    rw (take_more bs i 0 lt, encodes-append (take i bs) (get_or bs i 0 ∷ [])) (simp append-nil) in
    rw (more, so, is) (sym split)
