-- Lemmas about prefixes and their bits.
use Rattle.std.proofs.Common.{◌≡◌, ◌==◌, ℕ, zero, suc, ◌+◌, ◌-◌, ◌*◌, ◌/◌, ◌^◌, List, [], ◌∷◌, length, take, drop, Option, Some, None, Result, Ok, Err, refl, sym, ap, ◌∙◌, arith}
use Rattle.std.specs.Prelude.{position, option_map, option_and_then, slice_index}
use Rattle.std.specs.Option.{ok_or}
use Rattle.std.proofs.lemmas.Nat.{pow_pos}
use Rattle.std.proofs.Math.Nat.{mul-div_cancel}
use Rattle.click_base.specs.Numbers.{decimal_in}
use Rattle.click_classes.specs.declared.fault.ArgFault.{ArgFault}
use Rattle.click_classes.specs.declared.fault.ArgFault.TheVariants as fault
use Rattle.click_classes.specs.declared.values.groups.Group.{Group}
use Rattle.click_classes.specs.declared.values.groups.Group.TheVariants as kind
use Rattle.click_classes.specs.declared.values.prefix.Prefix.{Prefix}
use Rattle.click_classes.specs.Values.{group, separated, address, first_bits, cleared, prefix_of, whole, prefix_at, prefix}

first_bits_again : (bits b : ℕ) → first_bits bits (first_bits bits b) ≡ first_bits bits b
unfolding first_bits
first_bits_again bits b = let e = mul-div_cancel (b / 2 ^ (8 - bits)) (pow_pos (8 - bits)) in ap (λ q. q * 2 ^ (8 - bits)) e

-- clearing an address twice is clearing it once
pub cleared_again : (len : ℕ) (a : List ℕ) → cleared len (cleared len a) ≡ cleared len a
unfolding cleared
cleared_again len a =
    let p = first_bits_again len (slice_index a 0) in
    let q = first_bits_again (len - 8) (slice_index a 1) in
    let r = first_bits_again (len - 16) (slice_index a 2) in
    let s = first_bits_again (len - 24) (slice_index a 3) in
    cc

some_of : {A B : Type 0} (o : Option A) (f : A → Option B) (b : B) → option_and_then f o ≡ Some b → (a : A) × (f a ≡ Some b)
some_of None f b e = cc
some_of (Some a) f b e = (a, e)

mapped : {A B : Type 0} (o : Option A) (f : A → B) (b : B) → option_map f o ≡ Some b → (a : A) × (o ≡ Some a) × (f a ≡ b)
mapped None f b e = cc
mapped (Some a) f b e = (a, refl, cc)

-- as many values as groups
pub separated_len : (k : Group) (separator n : ℕ) (bytes values : List ℕ) → separated k separator n bytes ≡ Some values → length values ≡ n
unfolding separated
separated_len k separator zero bytes values e = cc
separated_len k separator (suc zero) bytes values e =
    let one = mapped (group k bytes) (λ x. x ∷ []) values e in
    ap length (sym one.2)
separated_len k separator (suc (suc n)) bytes values e =
    let cut = some_of (position (λ b. b == separator) bytes) _ values e in
    let read = some_of (group k (take cut.0 bytes)) _ values cut.1 in
    let more = mapped (separated k separator (suc n) (drop (cut.0 + 1) bytes)) (λ xs. read.0 ∷ xs) values read.1 in
    ap length (sym more.2) ∙ ap suc (separated_len k separator (suc n) (drop (cut.0 + 1) bytes) more.0 more.1)

byte_whole : (b : ℕ) → b / 1 * 1 ≡ b
byte_whole b = omega arith

cleared_none : (a : List ℕ) → length a ≡ 4 → cleared 32 a ≡ a
unfolding cleared first_bits
cleared_none [] e = absurd (omega arith)
cleared_none (a ∷ []) e = absurd (omega arith)
cleared_none (a ∷ b ∷ []) e = absurd (omega arith)
cleared_none (a ∷ b ∷ c ∷ []) e = absurd (omega arith)
cleared_none (a ∷ b ∷ c ∷ d ∷ []) e = let p = byte_whole a in let q = byte_whole b in let r = byte_whole c in let s = byte_whole d in cc
cleared_none (a ∷ b ∷ c ∷ d ∷ x ∷ xs) e = absurd (omega arith)

found : {A : Type 0} (o : Option A) (f : ArgFault) (a : A) → ok_or o f ≡ Ok a → o ≡ Some a
found None f a e = cc
found (Some b) f a e = cc

address_len : (bytes a : List ℕ) → address bytes ≡ Ok a → length a ≡ 4
unfolding address
address_len bytes a e = separated_len kind.Octet 46 4 bytes a (found (separated kind.Octet 46 4 bytes) fault.BadAddress a e)

whole_cleared : (bytes : List ℕ) (r : Result (List ℕ) ArgFault) (p : Prefix) → address bytes ≡ r → whole r ≡ Ok p → cleared p.len p.network ≡ p.network
whole_cleared bytes (Ok a) p e f =
    let alone : Prefix = record { network = a; len = 32 } in
    let same : alone ≡ p = cc in
    rw (← same) (cleared_none a (address_len bytes a e))
whole_cleared bytes (Err g) p e f = cc

part_cleared : (r : Result (List ℕ) ArgFault) (l : Option ℕ) (p : Prefix) → prefix_of r l ≡ Ok p → cleared p.len p.network ≡ p.network
part_cleared (Ok a) (Some len) p f =
    let cut : Prefix = record { network = cleared len a; len = len } in
    let same : cut ≡ p = cc in
    rw (← same) (cleared_again len a)
part_cleared (Ok a) None p f = cc
part_cleared (Err g) l p f = cc

prefix_at_cleared : (bytes : List ℕ) (at : Option ℕ) (p : Prefix) → prefix_at bytes at ≡ Ok p → cleared p.len p.network ≡ p.network
prefix_at_cleared bytes None p f = whole_cleared bytes (address bytes) p refl f
prefix_at_cleared bytes (Some at) p f = part_cleared (address (take at bytes)) (decimal_in 32 (drop (at + 1) bytes)) p f

-- the bits of a prefix after its length are clear
pub prefix_cleared : (bytes : List ℕ) (p : Prefix) → prefix bytes ≡ Ok p → cleared p.len p.network ≡ p.network
unfolding prefix
prefix_cleared bytes p e = prefix_at_cleared bytes (position (λ b. b == 47) bytes) p e
