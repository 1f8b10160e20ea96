-- Lemmas on texts that are split at their first byte of a kind.
use Rattle.std.proofs.Common.{◌≡◌, ◌<◌, ℕ, List, Some, None, Bor}
use Rattle.std.proofs.lemmas.Str.Pattern.{IsSplitOnceResult, split_after, split_parts}
use Rattle.click_prog.specs.Links.{IsCut}

-- the result of `split_once` is the split
pub cut-found : (byte : ℕ) (text : List ℕ) (x : Bor (List ℕ) × Bor (List ℕ)) → IsSplitOnceResult byte text (Some x) → byte < 128 → IsCut byte text x.0.now x.1.now
cut-found byte text x came low = let parts = split_parts byte text (Some x) came low in record { spelled = parts.0; first = parts.1 }

-- there is no other split
pub cut-same : (byte : ℕ) (text before after : List ℕ) (x : Bor (List ℕ) × Bor (List ℕ)) → IsSplitOnceResult byte text (Some x) → byte < 128 → IsCut byte text before after
    → (x.0.now ≡ before) × (x.1.now ≡ after)
cut-same byte text before after x came low cut = split_after byte text before after (Some x) came low cut.spelled cut.first

-- if `split_once` returns nothing, there is no split
pub cut-none : (byte : ℕ) (text before after : List ℕ) → IsSplitOnceResult byte text None → byte < 128 → IsCut byte text before after → ⊥
cut-none byte text before after came low cut = split_after byte text before after None came low cut.spelled cut.first
