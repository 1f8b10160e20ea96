-- A first state is of its class, and some numbers of ports fit its counts.
use Rattle.std.proofs.Common.{◌≡◌, ℕ, ◌+◌, ◌≤◌, List, [], ◌∷◌, ◌++◌, ◌==◌, length, max, Bool, true, false, Option, Some, None, Result, Ok, Err, refl, sym, arith, inl, inr}
use Rattle.std.specs.Prelude.{MatchBool, if◌then◌else◌, ◌&&◌, ◌-◌, ◌^◌, nat_le, slice_get, slice_index_or, codes}
use Rattle.std.specs.Str.{bytes_eq}
use Rattle.std.proofs.lemmas.Bool.{cases_Bool}
use Rattle.std.proofs.lemmas.Bool.Decides.{nat_tests}
use Rattle.std.specs.List.{AllZip}
use Rattle.click_patterns.specs.declared.rules.FlatRule.{FlatRule}
use Rattle.click_patterns.specs.declared.rules.RuleForm.{RuleForm}
use Rattle.click_patterns.specs.declared.rules.RuleForm.TheVariants as form
use Rattle.click_text.specs.Words.{AreWords}
use Rattle.click_base.specs.Numbers.{within}
use Rattle.click_base.specs.declared.class.Class.{Class}
use Rattle.click_base.specs.declared.class.Class.TheVariants as is
use Rattle.click_classes.specs.declared.fault.ArgFault.{ArgFault}
use Rattle.click_classes.specs.declared.fault.ArgFault.TheVariants as fault
use Rattle.click_classes.specs.declared.state.State.{State}
use Rattle.click_classes.specs.declared.state.State.TheVariants as state
use Rattle.click_classes.specs.declared.values.entry.Entry.{Entry}
use Rattle.click_classes.specs.Ports.{ports, at_least, up_to_256, outputs_for, counts}
use Rattle.click_classes.specs.Entries.{word, entry_of, entry, has_prefix, with_entry, table}
use Rattle.click_classes.specs.Made.{argument_at, given_or, optional, addresses, source_bytes, without_arguments, suppressor, capacity, empty, queue, front_drop_queue, switch_port, switch, pull_switch, copies, tee, pull_tee, only_number, paint, paint_tee, strip, check_length, get_ip_address, ether_header, ether_encap, device, from_device, to_device, classifier, static_ip_lookup, check_ip_header, infinite_source, station, arp_responder, querier, arp_querier, error_kind, icmp_error, host_ether_filter, udp_ip_encap, FirstStandsFor, ByWords, HaveRules, ByRules, IsFresh}
use Rattle.click_classes.specs.Patterns.{pattern}
use Rattle.click_classes.specs.State.{class}
use Rattle.click_classes.specs.Steps.{◌>>=◌, each}
use Rattle.click_classes.specs.Uses.{HasUse}
use Rattle.click_classes.specs.Values.{number, as_argument, number_in, number_or_minus_one, some, prefix, address, ethernet, truth}

-- if both steps succeed, the first one succeeds
pub both_ok : {A B : Type 0} (r : Result A ArgFault) (f : A → Result B ArgFault) (b : B) → Ok b ≡ (r >>= f) → (a : A) × (r ≡ Ok a) × (Ok b ≡ f a)
both_ok (Ok a) f b e = (a, refl, e)
both_ok (Err g) f b e = cc

pub taken : {A : Type 0} (fits : Bool) (r : Result A ArgFault) (a : A) → Ok a ≡ (if fits then r else Err fault.ArgumentCount) → Ok a ≡ r
taken true r a e = e
taken false r a e = cc

-- the first state, by the words of an allowed number of arguments
abbrev AtWords : (List (List (List ℕ)) → Result State ArgFault) → List (List ℕ) → State → Type 0
AtWords first args s = (words : List (List (List ℕ))) × AllZip AreWords args words × (Ok s ≡ first words)

cut : (fits : Bool) (first : List (List (List ℕ)) → Result State ArgFault) (args : List (List ℕ)) (s : State) → MatchBool fits (AtWords first args s) (Ok s ≡ Err fault.ArgumentCount) → AtWords first args s
cut true first args s p = p
cut false first args s e = cc

pub by_words : (least most : ℕ) (first : List (List (List ℕ)) → Result State ArgFault) (args : List (List ℕ)) (s : State) → ByWords least most first args (Ok s) → AtWords first args s
by_words least most first args s h = cut (nat_le least (length args) && nat_le (length args) most) first args s h

ruled : (fits : Bool) (f : RuleForm) (state_of : List FlatRule → State) (args : List (List ℕ)) (s : State) →
    MatchBool fits ((rules : Result (List FlatRule) ArgFault) × HaveRules f args rules × (Ok s ≡ (rules >>= λ rs. Ok (state_of rs)))) (Ok s ≡ Err fault.ArgumentCount)
    → (rules : Result (List FlatRule) ArgFault) × (Ok s ≡ (rules >>= λ rs. Ok (state_of rs)))
ruled true f state_of args s (rules, h, e) = (rules, e)
ruled false f state_of args s e = cc

pub by_rules : (f : RuleForm) (state_of : List FlatRule → State) (args : List (List ℕ)) (s : State) → ByRules f state_of args (Ok s)
    → (rules : Result (List FlatRule) ArgFault) × (Ok s ≡ (rules >>= λ rs. Ok (state_of rs)))
by_rules f state_of args s h = ruled (nat_le 1 (length args) && nat_le (length args) 256) f state_of args s h

abbrev AtFirst : Option (List ℕ) → (Option (Option (List ℕ)) → Result State ArgFault) → State → Type 0
AtFirst argument state_of s = (first : Option (Option (List ℕ))) × FirstStandsFor argument first × (Ok s ≡ state_of first)

pub given : (fits : Bool) (argument : Option (List ℕ)) (state_of : Option (Option (List ℕ)) → Result State ArgFault) (s : State) → MatchBool fits (AtFirst argument state_of s) (Ok s ≡ Err fault.ArgumentCount) → AtFirst argument state_of s
given true argument state_of s p = p
given false argument state_of s e = cc

within_bound : (low high : ℕ) (o : Option ℕ) (n : ℕ) → Ok n ≡ as_argument (within low high o) → n ≤ high
within_bound low high None n e = cc
within_bound low high (Some m) n e = grind (arith, nat_tests)

pub number_bound : (low high : ℕ) (bytes : List ℕ) (n : ℕ) → Ok n ≡ number_in low high bytes → n ≤ high
unfolding number_in
number_bound low high bytes n e = within_bound low high (number bytes) n e

some_bound : (r : Result ℕ ArgFault) (high : ℕ) (k : Option ℕ) → ((n : ℕ) → Ok n ≡ r → n ≤ high) → Ok k ≡ some r → at_least k ≤ high + 1
some_bound (Ok n) high k bound e =
    let same : Some n ≡ k = cc in
    let small = bound n refl in
    rw (← same) (omega arith)
some_bound (Err f) high k bound e = cc

minus_bound : (high : ℕ) (bytes : List ℕ) (k : Option ℕ) → Ok k ≡ number_or_minus_one high bytes → at_least k ≤ high + 1
unfolding number_or_minus_one
minus_bound high bytes k e = elim (cases_Bool (bytes_eq bytes (codes "-1"))) [
  | inl t ↦ let f = rw t at e in let same : None ≡ k = cc in rw (← same) (omega arith)
  | inr t ↦ let f = rw t at e in some_bound (number_in 0 high bytes) high k (λ n g. number_bound 0 high bytes n g) f
]

port_given : (o : Option (List ℕ)) (k : Option ℕ) → Ok k ≡ given_or (Some 0) (number_or_minus_one 255) o → at_least k ≤ 256
port_given None k e = let same : Some 0 ≡ k = cc in rw (← same) (omega arith)
port_given (Some bytes) k e = minus_bound 255 bytes k e

port_bound : (args : List (List ℕ)) (k : Option ℕ) → Ok k ≡ switch_port args → at_least k ≤ 256
unfolding switch_port
port_bound args k e = port_given (slice_get args 0) k (taken _ (given_or (Some 0) (number_or_minus_one 255) (slice_get args 0)) k e)

-- the number of outputs that entries need
outputs_push : (es : List Entry) (e : Entry) → outputs_for (es ++ e ∷ []) ≡ max (outputs_for es) (e.output + 1)
outputs_push [] e = omega arith
outputs_push (d ∷ es) e = let more = outputs_push es e in omega arith

entry_bound : (words : List (List ℕ)) (e : Entry) → Ok e ≡ entry words → e.output ≤ 255
unfolding entry
entry_bound words e h = elim (cases_Bool (length words == 2)) [
  | inl t ↦
      let f = rw t at h in
      let p = both_ok (prefix (word words 0)) _ e f in
      let n = both_ok (number_in 0 255 (word words 1)) _ e p.2 in
      let same : entry_of p.0 None n.0 ≡ e = cc in
      rw (← same) (number_bound 0 255 (word words 1) n.0 (sym n.1))
  | inr t ↦ elim (cases_Bool (length words == 3)) [
    | inl u ↦
        let f = rw (t, u) at h in
        let p = both_ok (prefix (word words 0)) _ e f in
        let g = both_ok (address (word words 1)) _ e p.2 in
        let n = both_ok (number_in 0 255 (word words 2)) _ e g.2 in
        let same : entry_of p.0 (Some g.0) n.0 ≡ e = cc in
        rw (← same) (number_bound 0 255 (word words 2) n.0 (sym n.1))
    | inr u ↦ let f = rw (t, u) at h in cc
  ]
]

pub with_entry_is : (es : List Entry) (e : Entry) (more : List Entry) → with_entry es e ≡ Ok more → (has_prefix es e.prefix ≡ false) × (more ≡ es ++ e ∷ [])
with_entry_is es e more h = elim (cases_Bool (has_prefix es e.prefix)) [
  | inl t ↦ let f = rw t at h in cc
  | inr t ↦ let f = rw t at h in (t, cc)
]

outputs_bound : (es : List Entry) (args : List (List (List ℕ))) (all : List Entry) → outputs_for es ≤ 256 → Ok all ≡ table es args → outputs_for all ≤ 256
outputs_bound es [] all h e = let same : es ≡ all = cc in rw (← same) h
outputs_bound es (words ∷ args) all h e =
    let first = both_ok (entry words) _ all e in
    let next = both_ok (with_entry es first.0) _ all first.2 in
    let small = entry_bound words first.0 (sym first.1) in
    let longer = (with_entry_is es first.0 next.0 next.1).1 in
    let fits : outputs_for next.0 ≤ 256 = rw (longer, outputs_push es first.0) (omega arith) in
    outputs_bound next.0 args all fits next.2

-- ranges that are not empty
ranges : (a b c d : ℕ) → a ≤ b → c ≤ d → HasUse (ports a b c d)
ranges a b c d h k = record {
  inputs = a;
  outputs = c;
  least_in = omega arith;
  most_in = h;
  least_out = omega arith;
  most_out = k;
  equal = λ e. cc;
}

-- what holds of a first state
abbrev pub IsWell : Class → State → Type 0
IsWell c s = (class s ≡ c) × HasUse (counts s)

well : (c : Class) (t s : State) → ◌≡◌ {A = Result State ArgFault} (Ok s) (Ok t) → class t ≡ c → HasUse (counts t) → IsWell c s
well c t s e f h = let same : t ≡ s = cc in rw (← same) (f, h)

well_plain : (c : Class) (t s : State) (args : List (List ℕ)) → Ok s ≡ without_arguments t args → class t ≡ c → HasUse (counts t) → IsWell c s
unfolding without_arguments
well_plain c t s args e f h = well c t s (taken _ (Ok t) s e) f h

one_one : HasUse (ports 1 1 1 1)
one_one = ranges 1 1 1 1 (omega arith) (omega arith)

one_or_two : HasUse (ports 1 1 1 2)
one_or_two = ranges 1 1 1 2 (omega arith) (omega arith)

only_in : HasUse (ports 1 1 0 0)
only_in = ranges 1 1 0 0 (omega arith) (omega arith)

only_out : HasUse (ports 0 0 1 1)
only_out = ranges 0 0 1 1 (omega arith) (omega arith)

as_many : (n : ℕ) → HasUse (ports 1 1 n n)
as_many n = ranges 1 1 n n (omega arith) (omega arith)

up_to : (n : Option ℕ) → HasUse (ports 1 1 (up_to_256 n).0 (up_to_256 n).1)
up_to None = ranges 1 1 1 256 (omega arith) (omega arith)
up_to (Some n) = ranges 1 1 n n (omega arith) (omega arith)

-- a class whose state holds what was read
well_of : {A : Type 0} (r : Result A ArgFault) (c : Class) (state_of : A → State) (s : State) → Ok s ≡ (r >>= λ a. Ok (state_of a)) →
    ((a : A) → class (state_of a) ≡ c) → ((a : A) → Ok a ≡ r → HasUse (counts (state_of a))) → IsWell c s
well_of r c state_of s h f u = let a = both_ok r _ s h in well c (state_of a.0) s a.2 (f a.0) (u a.0 (sym a.1))

well_ether_encap : (args : List (List ℕ)) (s : State) → Ok s ≡ ether_encap args → IsWell is.EtherEncap s
unfolding ether_encap
well_ether_encap args s h =
    let whole = taken (nat_le 3 (length args) && nat_le (length args) 3) _ s h in
    let a = both_ok (number_in 0 65535 (argument_at args 0)) _ s whole in
    let b = both_ok (ethernet (argument_at args 1)) _ s a.2 in
    let d = both_ok (ethernet (argument_at args 2)) _ s b.2 in
    well is.EtherEncap (state.EtherEncap (ether_header a.0 b.0 d.0)) s d.2 refl one_one

well_infinite_source : (first : Option (Option (List ℕ))) (args : List (List ℕ)) (s : State) → Ok s ≡ infinite_source first args → IsWell is.InfiniteSource s
unfolding infinite_source
well_infinite_source first args s h =
    let a = both_ok (source_bytes first) _ s h in
    let b = both_ok (optional args 1 None (number_or_minus_one (2 ^ 64 - 1))) _ s a.2 in
    let d = both_ok (optional args 2 1 (number_in 1 64)) _ s b.2 in
    let e = both_ok (optional args 3 true truth) _ s d.2 in
    well is.InfiniteSource (state.InfiniteSource a.0 b.0 d.0 e.0 0) s e.2 refl only_out

well_arp_querier : (args : List (List ℕ)) (s : State) → Ok s ≡ arp_querier args → IsWell is.ARPQuerier s
unfolding arp_querier
well_arp_querier args s h =
    let whole = taken (nat_le 2 (length args) && nat_le (length args) 2) _ s h in
    let a = both_ok (address (argument_at args 0)) _ s whole in
    let b = both_ok (ethernet (argument_at args 1)) _ s a.2 in
    well is.ARPQuerier (state.ARPQuerier (querier a.0 b.0)) s b.2 refl (ranges 2 2 1 2 (omega arith) (omega arith))

well_icmp_error : (args : List (List ℕ)) (s : State) → Ok s ≡ icmp_error args → IsWell is.ICMPError s
unfolding icmp_error
well_icmp_error args s h =
    let whole = taken (nat_le 2 (length args) && nat_le (length args) 4) _ s h in
    let a = both_ok (address (argument_at args 0)) _ s whole in
    let b = both_ok (error_kind (argument_at args 1)) _ s a.2 in
    let d = both_ok (optional args 2 0 (number_in 0 255)) _ s b.2 in
    let e = both_ok (optional args 3 0 (number_in 0 65535)) _ s d.2 in
    well is.ICMPError (state.ICMPError (record { own = a.0; kind = b.0; code = d.0; mtu = e.0 })) s e.2 refl one_one

well_host_ether_filter : (args : List (List ℕ)) (s : State) → Ok s ≡ host_ether_filter args → IsWell is.HostEtherFilter s
unfolding host_ether_filter
well_host_ether_filter args s h =
    let whole = taken (nat_le 1 (length args) && nat_le (length args) 1) _ s h in
    let a = both_ok (ethernet (argument_at args 0)) _ s whole in
    well is.HostEtherFilter (state.HostEtherFilter a.0) s a.2 refl one_or_two

well_udp_ip_encap : (args : List (List ℕ)) (s : State) → Ok s ≡ udp_ip_encap args → IsWell is.UDPIPEncap s
unfolding udp_ip_encap
well_udp_ip_encap args s h =
    let whole = taken (nat_le 4 (length args) && nat_le (length args) 4) _ s h in
    let a = both_ok (address (argument_at args 0)) _ s whole in
    let b = both_ok (number_in 0 65535 (argument_at args 1)) _ s a.2 in
    let d = both_ok (address (argument_at args 2)) _ s b.2 in
    let e = both_ok (number_in 0 65535 (argument_at args 3)) _ s d.2 in
    well is.UDPIPEncap (state.UDPIPEncap (record { source = a.0; source_port = b.0; destination = d.0; destination_port = e.0 })) s e.2 refl one_one

-- a first state is of its class, and some numbers of ports fit its counts
pub first_well : (c : Class) (args : List (List ℕ)) (s : State) → IsFresh c args (Ok s) → IsWell c s
unfolding queue front_drop_queue switch pull_switch tee pull_tee paint paint_tee strip check_length classifier get_ip_address static_ip_lookup check_ip_header from_device to_device arp_responder
first_well is.Queue args s h = well_of (capacity args) is.Queue (λ n. state.Queue (empty n) 0 0) s h (λ _. refl) (λ _ _. one_one)
first_well is.FrontDropQueue args s h = well_of (capacity args) is.FrontDropQueue (λ n. state.FrontDropQueue (empty n) 0 0) s h (λ _. refl) (λ _ _. one_one)
first_well is.Unqueue args s h = well_plain is.Unqueue state.Unqueue s args h refl one_one
first_well is.Counter args s h = well_plain is.Counter (state.Counter 0 0) s args h refl one_one
first_well is.Switch args s h = well_of (switch_port args) is.Switch state.Switch s h (λ _. refl) (λ k e. ranges 1 1 (at_least k) 256 (omega arith) (port_bound args k e))
first_well is.PullSwitch args s h = well_of (switch_port args) is.PullSwitch state.PullSwitch s h (λ _. refl) (λ k e. ranges (at_least k) 256 1 1 (port_bound args k e) (omega arith))
first_well is.RoundRobinSwitch args s h = well_plain is.RoundRobinSwitch (state.RoundRobinSwitch 0) s args h refl (ranges 1 1 1 256 (omega arith) (omega arith))
first_well is.RoundRobinSched args s h = well_plain is.RoundRobinSched (state.RoundRobinSched 0) s args h refl (ranges 1 256 1 1 (omega arith) (omega arith))
first_well is.PrioSched args s h = well_plain is.PrioSched state.PrioSched s args h refl (ranges 1 256 1 1 (omega arith) (omega arith))
first_well is.Tee args s h = well_of (copies args) is.Tee state.Tee s h (λ _. refl) (λ n _. up_to n)
first_well is.PullTee args s h = well_of (copies args) is.PullTee state.PullTee s h (λ _. refl) (λ n _. up_to n)
first_well is.Idle args s h = well_plain is.Idle state.Idle s args h refl (ranges 0 256 0 256 (omega arith) (omega arith))
first_well is.Discard args s h = well_plain is.Discard state.Discard s args h refl only_in
first_well is.Null args s h = well_plain is.Null state.Null s args h refl one_one
first_well is.PushNull args s h = well_plain is.PushNull state.PushNull s args h refl one_one
first_well is.PullNull args s h = well_plain is.PullNull state.PullNull s args h refl one_one
first_well is.Suppressor args s h = well_plain is.Suppressor suppressor s args h refl (record { inputs = 1; outputs = 1; least_in = omega arith; most_in = omega arith; least_out = omega arith; most_out = omega arith; equal = λ _. refl })
first_well is.Paint args s h = well_of (only_number 255 args) is.Paint state.Paint s h (λ _. refl) (λ _ _. one_one)
first_well is.PaintTee args s h = well_of (only_number 255 args) is.PaintTee state.PaintTee s h (λ _. refl) (λ _ _. one_or_two)
first_well is.Strip args s h = well_of (only_number 1600 args) is.Strip state.Strip s h (λ _. refl) (λ _ _. one_one)
first_well is.CheckLength args s h = well_of (only_number 65535 args) is.CheckLength state.CheckLength s h (λ _. refl) (λ _ _. one_or_two)
first_well is.Classifier args s h = let w = by_words 1 256 classifier args s h in well_of (each pattern w.0) is.Classifier state.Classifier s w.2 (λ _. refl) (λ _ _. ranges 1 1 _ _ (omega arith) (omega arith))
first_well is.GetIPAddress args s h = well_of (only_number 1596 args) is.GetIPAddress state.GetIPAddress s h (λ _. refl) (λ _ _. one_one)
first_well is.StaticIPLookup args s h = let w = by_words 0 1024 static_ip_lookup args s h in well_of (table [] w.0) is.StaticIPLookup state.StaticIPLookup s w.2 (λ _. refl) (λ es e. ranges 1 1 (outputs_for es) 256 (omega arith) (outputs_bound [] w.0 es (omega arith) e))
first_well is.CheckIPHeader args s h = let w = by_words 0 1 check_ip_header args s h in well_of (if length w.0 == 0 then Ok [] else addresses (slice_index_or w.0 0 [])) is.CheckIPHeader state.CheckIPHeader s w.2 (λ _. refl) (λ _ _. one_or_two)
first_well is.DecIPTTL args s h = well_plain is.DecIPTTL state.DecIPTTL s args h refl one_or_two
first_well is.EtherEncap args s h = well_ether_encap args s h
first_well is.InfiniteSource args s h = let w = given (nat_le 0 (length args) && nat_le (length args) 4) (slice_get args 0) (λ first. infinite_source first args) s h in well_infinite_source w.0 args s w.2
first_well is.FromDevice args s h = well_of (device args) is.FromDevice state.FromDevice s h (λ _. refl) (λ _ _. only_out)
first_well is.ToDevice args s h = well_of (device args) is.ToDevice state.ToDevice s h (λ _. refl) (λ _ _. only_in)
first_well is.ARPResponder args s h = let w = by_words 1 256 arp_responder args s h in well_of (each station w.0) is.ARPResponder state.ARPResponder s w.2 (λ _. refl) (λ _ _. one_or_two)
first_well is.ARPQuerier args s h = well_arp_querier args s h
first_well is.ICMPError args s h = well_icmp_error args s h
first_well is.ICMPPingResponder args s h = well_plain is.ICMPPingResponder state.ICMPPingResponder s args h refl one_or_two
first_well is.HostEtherFilter args s h = well_host_ether_filter args s h
first_well is.EtherMirror args s h = well_plain is.EtherMirror state.EtherMirror s args h refl one_one
first_well is.IPMirror args s h = well_plain is.IPMirror state.IPMirror s args h refl one_one
first_well is.SetIPChecksum args s h = well_plain is.SetIPChecksum state.SetIPChecksum s args h refl one_one
first_well is.StripIPHeader args s h = well_plain is.StripIPHeader state.StripIPHeader s args h refl one_one
first_well is.UDPIPEncap args s h = well_udp_ip_encap args s h
first_well is.IPFilter args s h = let w = by_rules form.WithAction state.IPFilter args s h in well_of w.0 is.IPFilter state.IPFilter s w.1 (λ _. refl) (λ _ _. as_many _)
first_well is.IPClassifier args s h = let w = by_rules form.PatternAlone state.IPClassifier args s h in well_of w.0 is.IPClassifier state.IPClassifier s w.1 (λ _. refl) (λ _ _. as_many _)
