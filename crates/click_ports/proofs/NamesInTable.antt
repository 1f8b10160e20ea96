-- Names that are written one after another.
use Rattle.std.proofs.Common.{◌≡◌, ℕ, ◌≤◌, ◌-◌, List, [], ◌∷◌, ◌++◌, length, take, drop, map, All, refl, sym, ap, ◌∙◌, arith}
use Rattle.std.proofs.lemmas.List.{map_push, length-append, length-drop, take_all, drop_all, take-append-le, drop-append-le}
use Rattle.std.proofs.lemmas.List.Elements.{All-head, All-tail, All-push}
use Rattle.click_ports.specs.declared.name_table.NamePlace.{NamePlace}
use Rattle.click_ports.specs.kept.NameTables.{name_within, IsWithin}

-- a name is unchanged when bytes are appended
name-kept : (bytes more : List ℕ) (p : NamePlace) → IsWithin (length bytes) p → name_within (bytes ++ more) p ≡ name_within bytes p
name-kept bytes more p h =
    let o = h.ordered in let w = h.within in
    ap (λ x. take (p.end - p.start) x) (drop-append-le p.start bytes more (omega (arith, o, w)))
    ∙ take-append-le (p.end - p.start) (drop p.start bytes) more (let l = length-drop p.start bytes in omega (arith, o, w, l))

names-kept : (bytes more : List ℕ) (ps : List NamePlace) → All (IsWithin (length bytes)) ps → map (name_within (bytes ++ more)) ps ≡ map (name_within bytes) ps
names-kept bytes more [] h = refl
names-kept bytes more (p ∷ ps) h =
    ap (λ n. n ∷ map (name_within (bytes ++ more)) ps) (name-kept bytes more p (All-head (IsWithin (length bytes)) p ps h))
    ∙ ap (λ ns. name_within bytes p ∷ ns) (names-kept bytes more ps (All-tail (IsWithin (length bytes)) p ps h))

-- the name that was appended
name-last : (bytes name : List ℕ) (end : ℕ) → end ≡ length (bytes ++ name) → name_within (bytes ++ name) (record { start = length bytes; end = end }) ≡ name
name-last bytes name end e =
    ap (λ x. take (end - length bytes) x) (drop-append-le (length bytes) bytes name (omega arith) ∙ ap (λ x. x ++ name) (drop_all (length bytes) bytes (omega arith)))
    ∙ take_all (end - length bytes) name (let l = length-append bytes name in omega (arith, e, l))

pub names-added : (bytes name : List ℕ) (ps : List NamePlace) (start end : ℕ) → start ≡ length bytes → end ≡ length (bytes ++ name) → All (IsWithin (length bytes)) ps →
    map (name_within (bytes ++ name)) (ps ++ record { start = start; end = end } ∷ []) ≡ map (name_within bytes) ps ++ name ∷ []
names-added bytes name ps start end s e h =
    map_push (name_within (bytes ++ name)) ps (record { start = start; end = end })
    ∙ ap (λ ns. ns ++ name_within (bytes ++ name) (record { start = start; end = end }) ∷ []) (names-kept bytes name ps h)
    ∙ ap (λ n. map (name_within bytes) ps ++ n ∷ []) (ap (λ x. name_within (bytes ++ name) (record { start = x; end = end })) s ∙ name-last bytes name end e)

within-more : (bytes name : List ℕ) (ps : List NamePlace) → All (IsWithin (length bytes)) ps → All (IsWithin (length (bytes ++ name))) ps
within-more bytes name ps h = λ i d lt.
    let p = h i d lt in let o = p.ordered in let w = p.within in let l = length-append bytes name in
    record { ordered = o; within = omega (arith, w, l) }

pub within-added : (bytes name : List ℕ) (ps : List NamePlace) (start end : ℕ) → start ≡ length bytes → end ≡ length (bytes ++ name) → All (IsWithin (length bytes)) ps →
    All (IsWithin (length (bytes ++ name))) (ps ++ record { start = start; end = end } ∷ [])
within-added bytes name ps start end s e h =
    All-push (IsWithin (length (bytes ++ name))) ps (record { start = start; end = end }) (within-more bytes name ps h)
    (record { ordered = (let l = length-append bytes name in omega (arith, s, e, l)); within = omega (arith, e) })
