-- Lemmas about finding a class by its name.
use Rattle.std.proofs.Common.{◌≡◌, ℕ, List, [], ◌∷◌, Bool, true, false, Some, find, refl, rules, inl, inr}
use Rattle.std.proofs.lemmas.Bool.{cases_Bool}
use Rattle.std.proofs.lemmas.Slice.Eq.{bytes_eq-Decides}
use Rattle.std.specs.Str.{bytes_eq}
use Rattle.click_base.specs.declared.class.Class.{Class}
use Rattle.click_base.specs.declared.class.Class.TheVariants as class
use Rattle.click_base.specs.Classes.{classes, gateway_classes, name, class_of, gateway_class_of, is_gateway}

-- an item that `find` returns passes the test
passes : (test : Class → Bool) (cs : List Class) (c : Class) → find test cs ≡ Some c → test c ≡ true
passes test [] c e = cc
passes test (d ∷ cs) c e = elim (cases_Bool (test d)) [
  | inl t ↦ let f = rw t at e in let same : d ≡ c = cc in rw (← same) t
  | inr t ↦ passes test cs c (rw t at e)
]

-- what `find` returns is of the gateway package if all items are, and is not if none is
abbrev all_are : Bool → List Class → Type 0
all_are b [] = Unit {0}
all_are b (c ∷ cs) = (is_gateway c ≡ b) × all_are b cs

kind : (b : Bool) (test : Class → Bool) (cs : List Class) (c : Class) → all_are b cs → find test cs ≡ Some c → is_gateway c ≡ b
kind b test [] c a e = cc
kind b test (d ∷ cs) c (k, a) e = elim (cases_Bool (test d)) [
  | inl t ↦ let f = rw t at e in let same : d ≡ c = cc in rw (← same) k
  | inr t ↦ kind b test cs c a (rw t at e)
]

pub found : (c : Class) (text : List ℕ) → class_of text ≡ Some c → (is_gateway c ≡ false) × (name c ≡ text)
unfolding class_of
found c text e =
    (kind false (λ d. bytes_eq (name d) text) classes c (search rules) e, (bytes_eq-Decides (name c) text).0 (passes (λ d. bytes_eq (name d) text) classes c e))

pub gateway-found : (c : Class) (text : List ℕ) → gateway_class_of text ≡ Some c → (is_gateway c ≡ true) × (name c ≡ text)
unfolding gateway_class_of
gateway-found c text e =
    (kind true (λ d. bytes_eq (name d) text) gateway_classes c (search rules) e, (bytes_eq-Decides (name c) text).0 (passes (λ d. bytes_eq (name d) text) gateway_classes c e))

-- each class is found by its name, by computation for each of them
pub by_name : (c : Class) → is_gateway c ≡ false → class_of (name c) ≡ Some c
unfolding class_of
by_name class.ARPResponder k = absurd (cc k)
by_name class.ARPQuerier k = absurd (cc k)
by_name class.ICMPError k = absurd (cc k)
by_name class.ICMPPingResponder k = absurd (cc k)
by_name class.HostEtherFilter k = absurd (cc k)
by_name class.EtherMirror k = absurd (cc k)
by_name class.IPMirror k = absurd (cc k)
by_name class.SetIPChecksum k = absurd (cc k)
by_name class.StripIPHeader k = absurd (cc k)
by_name class.UDPIPEncap k = absurd (cc k)
by_name class.IPFilter k = absurd (cc k)
by_name class.IPClassifier k = absurd (cc k)
by_name _ k = refl

pub gateway-by_name : (c : Class) → is_gateway c ≡ true → gateway_class_of (name c) ≡ Some c
unfolding gateway_class_of
gateway-by_name class.ARPResponder k = refl
gateway-by_name class.ARPQuerier k = refl
gateway-by_name class.ICMPError k = refl
gateway-by_name class.ICMPPingResponder k = refl
gateway-by_name class.HostEtherFilter k = refl
gateway-by_name class.EtherMirror k = refl
gateway-by_name class.IPMirror k = refl
gateway-by_name class.SetIPChecksum k = refl
gateway-by_name class.StripIPHeader k = refl
gateway-by_name class.UDPIPEncap k = refl
gateway-by_name class.IPFilter k = refl
gateway-by_name class.IPClassifier k = refl
gateway-by_name _ k = absurd (cc k)

pub named : (c : Class) (text : List ℕ) → is_gateway c ≡ false → name c ≡ text → class_of text ≡ Some c
named c text k e = rw (← e) (by_name c k)

pub gateway-named : (c : Class) (text : List ℕ) → is_gateway c ≡ true → name c ≡ text → gateway_class_of text ≡ Some c
gateway-named c text k e = rw (← e) (gateway-by_name c k)
