-- Lemmas on the names of the page's own host.
use Rattle.std.proofs.Common.{◌≡◌, ℕ, List, [], ◌∷◌, ◌++◌, length, map, take, drop, Bool, true, false, ◌&&◌, ◌||◌, codes, decimal, bytes_eq, nat_eq, if◌then◌else◌, refl, sym, ap, ◌∙◌}
use Rattle.std.specs.List.{list_any}
use Rattle.std.specs.Cmp.Lexicographic.{nat_list_eq_equiv}
use Rattle.click_page.specs.Asking.{at_port, own_hosts, own_names}

and_assoc : (a b c : Bool) → (a && (b && c)) ≡ ((a && b) && c)
and_assoc true b c = refl
and_assoc false b c = refl

-- a text is a ++ b exactly if its first bytes are a and the rest is b
bytes_eq-append : (a b v : List ℕ) → bytes_eq (a ++ b) v ≡ (bytes_eq a (take (length a) v) && bytes_eq b (drop (length a) v))
bytes_eq-append [] b v = refl
bytes_eq-append (x ∷ a) b [] = refl
bytes_eq-append (x ∷ a) b (y ∷ v) =
    ap (λ r. nat_eq x y && r) (bytes_eq-append a b v)
    ∙ and_assoc (nat_eq x y) (bytes_eq a (take (length a) v)) (bytes_eq b (drop (length a) v))

-- a host is a name with a port if it begins with the name, and the rest is a colon and the port
pub at_port-is : (port name host : List ℕ) → bytes_eq host (at_port port name)
    ≡ (bytes_eq name (take (length name) host)
    && (bytes_eq (58 ∷ []) (take 1 (drop (length name) host)) && bytes_eq (drop 1 (drop (length name) host)) port))
at_port-is port name host =
    let after = drop (length name) host in
    nat_list_eq_equiv.symm host (at_port port name) ∙ bytes_eq-append name (58 ∷ port) host
    ∙ ap (λ r. bytes_eq name (take (length name) host) && r) (bytes_eq-append (58 ∷ []) port after
    ∙ ap (λ r. bytes_eq (58 ∷ []) (take 1 after) && r) (nat_list_eq_equiv.symm port (drop 1 after)))

list_any-append : {A : Type 0} (test : A → Bool) (xs ys : List A) → list_any test (xs ++ ys) ≡ (list_any test xs || list_any test ys)
list_any-append test [] ys = refl
list_any-append test (x ∷ xs) ys = elim (test x) as (λ b. (b || list_any test (xs ++ ys)) ≡ ((b || list_any test xs) || list_any test ys))
    [ true ↦ refl | false ↦ list_any-append test xs ys ]

any_if : {A : Type 0} (test : A → Bool) (p : Bool) (xs : List A) → list_any test (if p then xs else []) ≡ (p && list_any test xs)
any_if test true xs = refl
any_if test false xs = refl

any_own_host : (port : ℕ) (host : List ℕ) → list_any (bytes_eq host) (own_hosts port)
    ≡ (list_any (bytes_eq host) (map (at_port (decimal port)) own_names) || (nat_eq port 80 && list_any (bytes_eq host) own_names))
unfolding own_hosts
any_own_host port host =
    let named = map (at_port (decimal port)) own_names in
    list_any-append (bytes_eq host) named (if nat_eq port 80 then own_names else [])
    ∙ ap (λ r. list_any (bytes_eq host) named || r) (any_if (bytes_eq host) (nat_eq port 80) own_names)

-- a host names the page if it is a name with the port, or the port is 80 and it is a name alone
pub own_host_found : (port : ℕ) (digits host : List ℕ) (found : Bool) → found ≡ list_any (bytes_eq host) (map (at_port digits) own_names) → digits ≡ decimal port
    → list_any (bytes_eq host) (own_hosts port) ≡ (found || (nat_eq port 80 && list_any (bytes_eq host) own_names))
own_host_found port digits host found e d =
    any_own_host port host
    ∙ ap (λ r. r || (nat_eq port 80 && list_any (bytes_eq host) own_names))
    (sym (e ∙ ap (λ ds. list_any (bytes_eq host) (map (at_port ds) own_names)) d))
