-- Lemmas on what was written, one write after another.
use Rattle.std.proofs.Common.{◌≡◌, ℕ, List, [], ◌++◌, Bool, true, false, ◌||◌, Result, Ok, Err, OnErr, Option, None, Some, refl, sym, ap, subst, append-nil, append_assoc, ◌∙◌}
use Rattle.std.specs.Io.KnownBytes.{Appends, append_known}
use Rattle.std.proofs.KnownBytes.{Appends-nil, Appends-trans}
use Rattle.click_streams.specs.Peers.{Output, HasWritten, WroteFront}
use Rattle.click_prog.specs.Buffers.{BufferState, taken, Grew}
use Rattle.click_streams.proofs.Peers.{or-false}

pub HasWritten-nil : (a : Output) → HasWritten a a [] false
HasWritten-nil a = record { appended = Appends-nil a.contents; failed = sym (or-false a.failed) }

pub HasWritten-then : (a b c : Output) (xs ys : List ℕ) (f : Bool) → HasWritten a b xs false → HasWritten b c ys f → HasWritten a c (xs ++ ys) f
HasWritten-then a b c xs ys f p q = record {
  appended = Appends-trans a.contents b.contents c.contents xs ys p.appended q.appended;
  failed = q.failed ∙ ap (λ (t : Bool). t || f) (p.failed ∙ or-false a.failed);
}

-- a prefix of the first bytes is one of all bytes
pub front-of : (a b : Output) (xs ys : List ℕ) (f : Bool) → WroteFront a b xs f → WroteFront a b (xs ++ ys) f
front-of a b xs ys f p = (p.0, p.1 ++ ys, ap (λ (l : List ℕ). l ++ ys) p.2 ∙ append_assoc p.0 p.1 ys, p.3)

-- the first bytes, and then a prefix of the others
front-then : (a b c : Output) (xs ys : List ℕ) (f : Bool) → HasWritten a b xs false → WroteFront b c ys f → WroteFront a c (xs ++ ys) f
front-then a b c xs ys f p q =
    (xs ++ q.0, q.1, ap (λ (l : List ℕ). xs ++ l) q.2 ∙ sym (append_assoc xs q.0 q.1), HasWritten-then a b c xs q.0 f p q.3)

-- if the write of the others failed, a prefix of all bytes was written
pub front-after : {T E : Type 0} (r : Result T E) (a b c : Output) (xs ys : List ℕ) → HasWritten a b xs false → OnErr r (WroteFront b c ys true) → OnErr r (WroteFront a c (xs ++ ys) true)
front-after (Ok v) a b c xs ys p q = tt
front-after (Err e) a b c xs ys p q = front-then a b c xs ys true p q

-- a flush takes no more bytes, so that what was written before it is written after it
pub HasWritten-flushed : (a b c : Output) (xs : List ℕ) (f : Bool) → HasWritten a b xs f → HasWritten b c [] false → HasWritten a c xs f
HasWritten-flushed a b c xs f p q = record {
  appended = subst (λ (l : List ℕ). Appends a.contents c.contents l) (append-nil xs) (Appends-trans a.contents b.contents c.contents xs [] p.appended q.appended);
  failed = q.failed ∙ or-false b.failed ∙ p.failed;
}

append_known-nil : (c : Option (List ℕ)) → append_known c [] ≡ c
append_known-nil None = refl
append_known-nil (Some xs) = ap (λ (l : List ℕ). Some l) (append-nil xs)

abbrev output_of : Option (List ℕ) → Bool → Output
output_of contents failed = record { contents = contents; failed = failed }

-- if the buffer is empty, the sink has everything that the buffer took
pub none_held : {O : Type 0} (output : O → Output) (b : BufferState O) → b.held ≡ [] → taken output b ≡ output b.sink
none_held output b none =
    ap (λ (l : List ℕ). output_of (append_known (output b.sink).contents l) (output b.sink).failed) none
    ∙ ap (λ (c : Option (List ℕ)). output_of c (output b.sink).failed) (append_known-nil (output b.sink).contents)

pub Grew-more : (a b c : Option (List ℕ)) (bytes : List ℕ) → Grew a b → Appends b c bytes → Grew a c
Grew-more a b c bytes g p = (g.0 ++ bytes, Appends-trans a b c g.0 bytes g.1 p)
