-- The bytes of a capture determine its header and records, and the bytes of a header have no fault.
use Rattle.std.proofs.Common.{◌≡◌, ℕ, ◌<◌, ◌^◌, List, [], ◌∷◌, ◌++◌, length, take, drop, Result, Ok, Err, refl, sym, ap, subst, ◌∙◌, append_assoc, arith, lit<}
use Rattle.std.specs.Prelude.{IfOk, IfErr}
use Rattle.std.specs.Int.{w16, w32, from_le_bytes, from_be_bytes}
use Rattle.std.proofs.lemmas.List.{take_at, drop_at, length-append}
use Rattle.std.proofs.lemmas.Nat.{from_le_bytes-to_le_bytes_2, from_be_bytes-to_be_bytes_2, from_le_bytes-to_le_bytes_4, from_be_bytes-to_be_bytes_4}
use Rattle.click_capture.specs.Numbers.{word, half}
use Rattle.click_capture.specs.Captures.{magic, link_number, header_bytes, Record, record_bytes, records_bytes, capture_bytes, FitsHeader, FitsRecord, AllFit, section_header, IsHeaderFault}
use Rattle.click_capture.specs.declared.order.Order.{Order}
use Rattle.click_capture.specs.declared.order.Order.TheVariants as order
use Rattle.click_capture.specs.declared.header.Resolution.{Resolution}
use Rattle.click_capture.specs.declared.header.Resolution.TheVariants as resolution
use Rattle.click_capture.specs.declared.header.Link.{Link}
use Rattle.click_capture.specs.declared.header.Link.TheVariants as link
use Rattle.click_capture.specs.declared.header.Header.{Header}
use Rattle.click_capture.specs.declared.fault.HeaderFault.{HeaderFault}
use Rattle.click_capture.specs.declared.fault.HeaderFault.TheVariants as fault

-- ---- numbers

word-len : (o : Order) (n : ℕ) → length (word o n) ≡ 4
word-len order.Little n = refl
word-len order.Big n = refl

half-len : (o : Order) (n : ℕ) → length (half o n) ≡ 2
half-len order.Little n = refl
half-len order.Big n = refl

word-one : (o : Order) (m n : ℕ) → m < 2 ^ 32 → n < 2 ^ 32 → word o m ≡ word o n → m ≡ n
word-one order.Little m n p q e = sym (from_le_bytes-to_le_bytes_4 m p) ∙ ap (from_le_bytes w32) e ∙ from_le_bytes-to_le_bytes_4 n q
word-one order.Big m n p q e = sym (from_be_bytes-to_be_bytes_4 m p) ∙ ap (from_be_bytes w32) e ∙ from_be_bytes-to_be_bytes_4 n q

half-one : (o : Order) (m n : ℕ) → m < 2 ^ 16 → n < 2 ^ 16 → half o m ≡ half o n → m ≡ n
half-one order.Little m n p q e = sym (from_le_bytes-to_le_bytes_2 m p) ∙ ap (from_le_bytes w16) e ∙ from_le_bytes-to_le_bytes_2 n q
half-one order.Big m n p q e = sym (from_be_bytes-to_be_bytes_2 m p) ∙ ap (from_be_bytes w16) e ∙ from_be_bytes-to_be_bytes_2 n q

-- two lists that begin with parts of the same length
fronts : (a b x y : List ℕ) (k : ℕ) → length a ≡ k → length b ≡ k → a ++ x ≡ b ++ y → a ≡ b
fronts a b x y k p q e = sym (take_at a x k p) ∙ ap (take k) e ∙ take_at b y k q

rests : (a b x y : List ℕ) (k : ℕ) → length a ≡ k → length b ≡ k → a ++ x ≡ b ++ y → x ≡ y
rests a b x y k p q e = sym (drop_at a x k p) ∙ ap (drop k) e ∙ drop_at b y k q

word-front : (o : Order) (m n : ℕ) (x y : List ℕ) → m < 2 ^ 32 → n < 2 ^ 32 → word o m ++ x ≡ word o n ++ y → (m ≡ n) × (x ≡ y)
word-front o m n x y p q e =
    (word-one o m n p q (fronts (word o m) (word o n) x y 4 (word-len o m) (word-len o n) e), rests (word o m) (word o n) x y 4 (word-len o m) (word-len o n) e)

-- ---- the magic number

-- different numbers have different bytes in the same byte order
differ : (m n : ℕ) → m < 2 ^ 32 → n < 2 ^ 32 → (m ≡ n → ⊥) → word order.Little m ≡ word order.Little n → ⊥
differ m n p q apart e = apart (word-one order.Little m n p q e)

kind-one : (o p : Order) (r s : Resolution) → word o (magic r) ≡ word p (magic s) → (o ≡ p) × (r ≡ s)
kind-one order.Little order.Little resolution.Micro resolution.Micro e = (refl, refl)
kind-one order.Little order.Little resolution.Micro resolution.Nano e = absurd (differ 0xa1b2c3d4 0xa1b23c4d (lit< tt) (lit< tt) (λ n. omega arith) e)
kind-one order.Little order.Little resolution.Nano resolution.Micro e = absurd (differ 0xa1b23c4d 0xa1b2c3d4 (lit< tt) (lit< tt) (λ n. omega arith) e)
kind-one order.Little order.Little resolution.Nano resolution.Nano e = (refl, refl)
kind-one order.Little order.Big resolution.Micro resolution.Micro e = absurd (differ 0xa1b2c3d4 0xd4c3b2a1 (lit< tt) (lit< tt) (λ n. omega arith) e)
kind-one order.Little order.Big resolution.Micro resolution.Nano e = absurd (differ 0xa1b2c3d4 0x4d3cb2a1 (lit< tt) (lit< tt) (λ n. omega arith) e)
kind-one order.Little order.Big resolution.Nano resolution.Micro e = absurd (differ 0xa1b23c4d 0xd4c3b2a1 (lit< tt) (lit< tt) (λ n. omega arith) e)
kind-one order.Little order.Big resolution.Nano resolution.Nano e = absurd (differ 0xa1b23c4d 0x4d3cb2a1 (lit< tt) (lit< tt) (λ n. omega arith) e)
kind-one order.Big order.Little resolution.Micro resolution.Micro e = absurd (differ 0xd4c3b2a1 0xa1b2c3d4 (lit< tt) (lit< tt) (λ n. omega arith) e)
kind-one order.Big order.Little resolution.Micro resolution.Nano e = absurd (differ 0xd4c3b2a1 0xa1b23c4d (lit< tt) (lit< tt) (λ n. omega arith) e)
kind-one order.Big order.Little resolution.Nano resolution.Micro e = absurd (differ 0x4d3cb2a1 0xa1b2c3d4 (lit< tt) (lit< tt) (λ n. omega arith) e)
kind-one order.Big order.Little resolution.Nano resolution.Nano e = absurd (differ 0x4d3cb2a1 0xa1b23c4d (lit< tt) (lit< tt) (λ n. omega arith) e)
kind-one order.Big order.Big resolution.Micro resolution.Micro e = (refl, refl)
kind-one order.Big order.Big resolution.Micro resolution.Nano e = absurd (differ 0xd4c3b2a1 0x4d3cb2a1 (lit< tt) (lit< tt) (λ n. omega arith) e)
kind-one order.Big order.Big resolution.Nano resolution.Micro e = absurd (differ 0x4d3cb2a1 0xd4c3b2a1 (lit< tt) (lit< tt) (λ n. omega arith) e)
kind-one order.Big order.Big resolution.Nano resolution.Nano e = (refl, refl)

link-one : (a b : Link) → link_number a ≡ link_number b → a ≡ b
link-one link.Ethernet link.Ethernet e = refl
link-one link.Raw link.Raw e = refl
link-one link.Ipv4 link.Ipv4 e = refl
link-one link.Ethernet link.Raw e = absurd (omega arith)
link-one link.Ethernet link.Ipv4 e = absurd (omega arith)
link-one link.Raw link.Ethernet e = absurd (omega arith)
link-one link.Raw link.Ipv4 e = absurd (omega arith)
link-one link.Ipv4 link.Ethernet e = absurd (omega arith)
link-one link.Ipv4 link.Raw e = absurd (omega arith)

link-fits : (l : Link) → link_number l < 2 ^ 32
link-fits link.Ethernet = omega arith
link-fits link.Raw = omega arith
link-fits link.Ipv4 = omega arith

-- ---- headers

-- the bytes after the version
fields : Order → Header → List ℕ → List ℕ
fields o h x = word o h.zone ++ (word o h.accuracy ++ (word o h.snap ++ (word o (link_number h.link) ++ x)))

-- a header and the bytes after it, with the version as one part
in_parts : (h : Header) (x : List ℕ) → header_bytes h ++ x ≡ word h.order (magic h.resolution) ++ ((half h.order 2 ++ half h.order 4) ++ fields h.order h x)
unfolding fields
in_parts h x = simp append_assoc

version-len : (o : Order) (m n : ℕ) → length (half o m ++ half o n) ≡ 4
version-len o m n = omega (arith, length-append (half o m) (half o n), half-len o m, half-len o n)

made : Order → Resolution → ℕ → ℕ → ℕ → Link → Header
made o r z a s l = record { order = o; resolution = r; zone = z; accuracy = a; snap = s; link = l }

header-same : (g h : Header) → g.order ≡ h.order → g.resolution ≡ h.resolution → g.zone ≡ h.zone → g.accuracy ≡ h.accuracy → g.snap ≡ h.snap → g.link ≡ h.link → g ≡ h
unfolding made
header-same g h o r z a s l = let e : made g.order g.resolution g.zone g.accuracy g.snap g.link ≡ made h.order h.resolution h.zone h.accuracy h.snap h.link = rw (o, r, z, a, s, l) in e

pub header-one : (g h : Header) (x y : List ℕ) → FitsHeader g → FitsHeader h → header_bytes g ++ x ≡ header_bytes h ++ y → (g ≡ h) × (x ≡ y)
unfolding fields
header-one g h x y p q e =
    let parts = sym (in_parts g x) ∙ e ∙ in_parts h y in
    let wg = word-len g.order (magic g.resolution) in
    let wh = word-len h.order (magic h.resolution) in
    let kind = kind-one g.order h.order g.resolution h.resolution (fronts _ _ _ _ 4 wg wh parts) in
    let behind = rests _ _ _ _ 4 wg wh parts in
    let tail : fields g.order g x ≡ fields h.order h y = rests _ _ _ _ 4 (version-len g.order 2 4) (version-len h.order 2 4) behind in
    let one : fields g.order g x ≡ fields g.order h y = subst (λ (o : Order). fields g.order g x ≡ fields o h y) (sym kind.0) tail in
    let z = word-front g.order g.zone h.zone _ _ p.zone q.zone one in
    let a = word-front g.order g.accuracy h.accuracy _ _ p.accuracy q.accuracy z.1 in
    let s = word-front g.order g.snap h.snap _ _ p.snap q.snap a.1 in
    let l = word-front g.order (link_number g.link) (link_number h.link) x y (link-fits g.link) (link-fits h.link) s.1 in
    (header-same g h kind.0 kind.1 z.0 a.0 s.0 (link-one g.link h.link l.0), l.1)

-- ---- records

record_in_parts : (o : Order) (r : Record) (x : List ℕ) → record_bytes o r ++ x ≡ word o r.time.seconds ++ (word o r.time.fraction ++ (word o (length r.bytes) ++ (word o r.wire ++ (r.bytes ++ x))))
record_in_parts o r x = simp append_assoc

filled : ℕ → ℕ → ℕ → List ℕ → Record
filled s f w b = record { time = record { seconds = s; fraction = f }; wire = w; bytes = b }

record-same : (r q : Record) → r.time.seconds ≡ q.time.seconds → r.time.fraction ≡ q.time.fraction → r.wire ≡ q.wire → r.bytes ≡ q.bytes → r ≡ q
unfolding filled
record-same r q s f w b = let e : filled r.time.seconds r.time.fraction r.wire r.bytes ≡ filled q.time.seconds q.time.fraction q.wire q.bytes = rw (s, f, w, b) in e

pub record-one : (o : Order) (r q : Record) (x y : List ℕ) → FitsRecord r → FitsRecord q → record_bytes o r ++ x ≡ record_bytes o q ++ y → (r ≡ q) × (x ≡ y)
record-one o r q x y p h e =
    let parts = sym (record_in_parts o r x) ∙ e ∙ record_in_parts o q y in
    let s = word-front o r.time.seconds q.time.seconds _ _ p.seconds h.seconds parts in
    let f = word-front o r.time.fraction q.time.fraction _ _ p.fraction h.fraction s.1 in
    let k = word-front o (length r.bytes) (length q.bytes) _ _ p.kept h.kept f.1 in
    let w = word-front o r.wire q.wire _ _ p.wire h.wire k.1 in
    (record-same r q s.0 f.0 w.0 (fronts r.bytes q.bytes x y (length q.bytes) k.0 refl w.1), rests r.bytes q.bytes x y (length q.bytes) k.0 refl w.1)

record-some : (o : Order) (r : Record) (x : List ℕ) → record_bytes o r ++ x ≡ [] → ⊥
record-some o r x e =
    let behind : List ℕ = word o r.time.fraction ++ (word o (length r.bytes) ++ (word o r.wire ++ (r.bytes ++ x))) in
    let none : length (word o r.time.seconds ++ behind) ≡ 0 = ap length (sym (record_in_parts o r x) ∙ e) in
    omega (arith, none, length-append (word o r.time.seconds) behind, word-len o r.time.seconds)

pub records-one : (o : Order) (rs qs : List Record) → AllFit rs → AllFit qs → records_bytes o rs ≡ records_bytes o qs → rs ≡ qs
records-one o [] [] p h e = refl
records-one o [] (q ∷ qs) p h e = absurd (record-some o q (records_bytes o qs) (sym e))
records-one o (r ∷ rs) [] p h e = absurd (record-some o r (records_bytes o rs) e)
records-one o (r ∷ rs) (q ∷ qs) p h e =
    let one = record-one o r q (records_bytes o rs) (records_bytes o qs) p.0 h.0 e in
    let rest = records-one o rs qs p.1 h.1 one.1 in
    rw (one.0, rest)

pub capture-one : (g h : Header) (rs qs : List Record) → FitsHeader g → FitsHeader h → AllFit rs → AllFit qs → capture_bytes g rs ≡ capture_bytes h qs → (g ≡ h) × (rs ≡ qs)
capture-one g h rs qs p q ps hs e =
    let one = header-one g h (records_bytes g.order rs) (records_bytes h.order qs) p q e in
    let rest : records_bytes g.order rs ≡ records_bytes g.order qs = one.1 ∙ ap (λ (k : Header). records_bytes k.order qs) (sym one.0) in
    (one.0, records-one g.order rs qs ps hs rest)

-- ---- faults

begins : (h : Header) → take 4 (header_bytes h) ≡ word h.order (magic h.resolution)
begins h =
    let rest : List ℕ = half h.order 2 ++ half h.order 4 ++ word h.order h.zone ++ word h.order h.accuracy ++ word h.order h.snap ++ word h.order (link_number h.link) in
    let parts : header_bytes h ≡ word h.order (magic h.resolution) ++ rest = simp append_assoc in
    ap (take 4) parts ∙ take_at _ rest 4 (word-len h.order (magic h.resolution))

version : (h : Header) → take 4 (drop 4 (header_bytes h)) ≡ half h.order 2 ++ half h.order 4
version h =
    let rest : List ℕ = word h.order h.zone ++ word h.order h.accuracy ++ word h.order h.snap ++ word h.order (link_number h.link) in
    let parts : header_bytes h ≡ word h.order (magic h.resolution) ++ ((half h.order 2 ++ half h.order 4) ++ rest) = simp append_assoc in
    ap (λ (l : List ℕ). take 4 (drop 4 l)) parts ∙ ap (take 4) (drop_at (word h.order (magic h.resolution)) _ 4 (word-len h.order (magic h.resolution)))
    ∙ take_at (half h.order 2 ++ half h.order 4) rest 4 (version-len h.order 2 4)

five : (o : Order) (a : ℕ) (b : ℕ) (z : ℕ) → ℕ → length (word o a ++ half o 2 ++ half o 4 ++ word o z ++ word o b) ≡ 16
five o a b z n =
    omega (
      arith,
      length-append (word o a) (half o 2),
      length-append (word o a ++ half o 2) (half o 4),
      length-append (word o a ++ half o 2 ++ half o 4) (word o z),
      length-append (word o a ++ half o 2 ++ half o 4 ++ word o z) (word o b),
      word-len o a,
      half-len o 2,
      half-len o 4,
      word-len o z,
      word-len o b,
    )

linked : (h : Header) → drop 20 (header_bytes h) ≡ word h.order (link_number h.link)
linked h =
    let o = h.order in
    let front : List ℕ = word o (magic h.resolution) ++ half o 2 ++ half o 4 ++ word o h.zone ++ word o h.accuracy in
    let len : length (front ++ word o h.snap) ≡ 20 = omega (arith, length-append front (word o h.snap), five o (magic h.resolution) h.accuracy h.zone 0, word-len o h.snap) in
    drop_at (front ++ word o h.snap) (word o (link_number h.link)) 20 len

-- no magic number is the beginning of a pcapng file
no_section : (o : Order) (r : Resolution) → word o (magic r) ≡ section_header → ⊥
no_section order.Little resolution.Micro e = cc
no_section order.Little resolution.Nano e = cc
no_section order.Big resolution.Micro e = cc
no_section order.Big resolution.Nano e = cc

pub no_fault : (h : Header) (f : HeaderFault) → FitsHeader h → IsHeaderFault (header_bytes h) f → ⊥
no_fault h fault.Pcapng fits bad = no_section h.order h.resolution (sym (begins h) ∙ bad)
no_fault h fault.Magic fits bad = bad.1 h.order h.resolution (begins h)
no_fault h (fault.Version major minor) fits bad =
    let kind = kind-one h.order bad.0 h.resolution bad.1 (sym (begins h) ∙ bad.2) in
    let told : half h.order 2 ++ half h.order 4 ≡ half h.order major ++ half h.order minor =
    sym (version h) ∙ bad.3 ∙ ap (λ (o : Order). half o major ++ half o minor) (sym kind.0) in
    let a = half-one h.order 2 major (omega arith) bad.5 (fronts _ _ _ _ 2 (half-len h.order 2) (half-len h.order major) told) in
    let b = half-one h.order 4 minor (omega arith) bad.6 (rests _ _ _ _ 2 (half-len h.order 2) (half-len h.order major) told) in
    bad.4 (sym a, sym b)
no_fault h (fault.Link number) fits bad =
    let kind = kind-one h.order bad.0 h.resolution bad.1 (sym (begins h) ∙ bad.2) in
    let told : word h.order (link_number h.link) ≡ word h.order number = sym (linked h) ∙ bad.4 ∙ ap (λ (o : Order). word o number) (sym kind.0) in
    bad.5 h.link (sym (word-one h.order (link_number h.link) number (link-fits h.link) bad.6 told))

-- if these are the bytes of a header, exactly that header is returned
pub read_again : (r : Result Header HeaderFault) (bytes : List ℕ) → IfOk r (λ k. (bytes ≡ header_bytes k) × FitsHeader k) → IfErr r (IsHeaderFault bytes)
    → (h : Header) → FitsHeader h → bytes ≡ header_bytes h → r ≡ Ok h
read_again (Ok k) bytes good bad h fits e =
    let same : header_bytes k ++ [] ≡ header_bytes h ++ [] = ap (λ (l : List ℕ). l ++ []) (sym good.0 ∙ e) in
    ap (λ (x : Header). Ok x) (header-one k h [] [] good.1 fits same).0
read_again (Err f) bytes good bad h fits e = absurd (no_fault h f fits (subst (λ (l : List ℕ). IsHeaderFault l f) e bad))
