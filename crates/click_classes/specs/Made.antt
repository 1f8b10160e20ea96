-- The result of `make`: the first state of an element, or the first fault of its arguments. Their
-- number is tested first, and then the arguments in order (Click element reference).
use Rattle.std.specs.Prelude.{ℕ, ◌<◌, ◌≤◌, Bool, ◌||◌, take, codes, ◌-◌, ◌/◌, ◌%◌, ◌^◌, ◌==◌, List, [], ◌∷◌, ◌++◌, length, true, ◌&&◌, nat_le, slice_get, slice_index_or, replicate, Option, Some, None, Result, Ok, Err, if◌then◌else◌, ◌≡◌, map, MatchBool}
use Rattle.click_classes.specs.declared.fault.ArgFault.{ArgFault}
use Rattle.click_classes.specs.declared.fault.ArgFault.TheVariants as fault
use Rattle.click_classes.specs.declared.state.State.{State}
use Rattle.click_classes.specs.declared.state.State.TheVariants as state
use Rattle.click_classes.specs.Steps.{◌>>=◌, each}
use Rattle.click_classes.specs.Patterns.{pattern}
use Rattle.click_classes.specs.Entries.{table}
use Rattle.click_classes.specs.PacketList.{PacketList}
use Rattle.click_classes.specs.Values.{number_in, number_or_minus_one, some, truth, address, ethernet, prefix, is_device}
use Rattle.click_classes.specs.declared.neighbours.Querier.{Querier}
use Rattle.click_classes.specs.declared.values.report.Report.{Report}
use Rattle.click_classes.specs.declared.values.station.Station.{Station}
use Rattle.click_filter.specs.Rules.{Ruling, all_tests}
use Rattle.click_patterns.specs.declared.rules.FlatRule.{FlatRule}
use Rattle.click_patterns.specs.declared.rules.RuleForm.{RuleForm}
use Rattle.click_patterns.specs.declared.rules.RuleForm.TheVariants as form
use Rattle.click_patterns.specs.RuleLists.{AreSpelled, flat_rule}
use Rattle.std.specs.Str.{bytes_eq}
use Rattle.std.specs.List.{AllZip}
use Rattle.click_text.specs.declared.syntax.Span.{Span}
use Rattle.click_text.specs.Arguments.{AreArguments}
use Rattle.click_text.specs.Spans.{bytes_at}
use Rattle.click_text.specs.Unquote.{StandsFor}
use Rattle.click_text.specs.Words.{AreWords, IsWithoutComments}
use Rattle.click_base.specs.declared.class.Class.{Class}
use Rattle.click_base.specs.declared.class.Class.TheVariants as class

-- the result for a class that takes from `least` to `most` arguments
abbrev pub taking : {A : Type 0} → ℕ → ℕ → List (List ℕ) → Result A ArgFault → Result A ArgFault
taking least most args r = if nat_le least (length args) && nat_le (length args) most then r else Err fault.ArgumentCount

-- the argument at index k
abbrev pub argument_at : List (List ℕ) → ℕ → List ℕ
argument_at args k = slice_index_or args k []

-- the value of an argument, or a default if it is left out
abbrev pub given_or : {A : Type 0} → A → (List ℕ → Result A ArgFault) → Option (List ℕ) → Result A ArgFault
given_or default read None = Ok default
given_or default read (Some bytes) = read bytes

abbrev pub optional : {A : Type 0} → List (List ℕ) → ℕ → A → (List ℕ → Result A ArgFault) → Result A ArgFault
optional args k default read = given_or default read (slice_get args k)

-- a class without arguments
unfoldable pub without_arguments : State → List (List ℕ) → Result State ArgFault
without_arguments s args = taking 0 0 args (Ok s)

-- a Suppressor with all inputs active
abbrev pub suppressor : State
suppressor = state.Suppressor (replicate 16 true)

-- the number of packets that a queue has room for
unfoldable pub capacity : List (List ℕ) → Result ℕ ArgFault
capacity args = taking 0 1 args (optional args 0 1000 (number_in 1 10000))

abbrev pub empty : ℕ → PacketList
empty n = record { packets = []; capacity = n }

unfoldable pub queue : List (List ℕ) → Result State ArgFault
queue args = capacity args >>= λ n. Ok (state.Queue (empty n) 0 0)

unfoldable pub front_drop_queue : List (List ℕ) → Result State ArgFault
front_drop_queue args = capacity args >>= λ n. Ok (state.FrontDropQueue (empty n) 0 0)

-- the port of a switch; None for -1
unfoldable pub switch_port : List (List ℕ) → Result (Option ℕ) ArgFault
switch_port args = taking 0 1 args (optional args 0 (Some 0) (number_or_minus_one 255))

unfoldable pub switch : List (List ℕ) → Result State ArgFault
switch args = switch_port args >>= λ k. Ok (state.Switch k)

unfoldable pub pull_switch : List (List ℕ) → Result State ArgFault
pull_switch args = switch_port args >>= λ k. Ok (state.PullSwitch k)

-- the required number of outputs, if it is given
unfoldable pub copies : List (List ℕ) → Result (Option ℕ) ArgFault
copies args = taking 0 1 args (optional args 0 None (λ bytes. some (number_in 1 256 bytes)))

unfoldable pub tee : List (List ℕ) → Result State ArgFault
tee args = copies args >>= λ n. Ok (state.Tee n)

unfoldable pub pull_tee : List (List ℕ) → Result State ArgFault
pull_tee args = copies args >>= λ n. Ok (state.PullTee n)

-- a number up to a limit, as the only argument
unfoldable pub only_number : ℕ → List (List ℕ) → Result ℕ ArgFault
only_number high args = taking 1 1 args (number_in 0 high (argument_at args 0))

unfoldable pub paint : List (List ℕ) → Result State ArgFault
paint args = only_number 255 args >>= λ c. Ok (state.Paint c)

unfoldable pub paint_tee : List (List ℕ) → Result State ArgFault
paint_tee args = only_number 255 args >>= λ c. Ok (state.PaintTee c)

unfoldable pub strip : List (List ℕ) → Result State ArgFault
strip args = only_number 1600 args >>= λ n. Ok (state.Strip n)

unfoldable pub check_length : List (List ℕ) → Result State ArgFault
check_length args = only_number 65535 args >>= λ n. Ok (state.CheckLength n)

unfoldable pub get_ip_address : List (List ℕ) → Result State ArgFault
get_ip_address args = only_number 1596 args >>= λ n. Ok (state.GetIPAddress n)

-- an Ethernet header: destination, source, and the type with its high byte first
abbrev pub ether_header : ℕ → List ℕ → List ℕ → List ℕ
ether_header ether_type source destination = destination ++ source ++ (ether_type / 256) ∷ (ether_type % 256) ∷ []

unfoldable pub ether_encap : List (List ℕ) → Result State ArgFault
ether_encap args = taking 3 3 args
    (number_in 0 65535 (argument_at args 0) >>= λ t.
    ethernet (argument_at args 1) >>= λ source.
    ethernet (argument_at args 2) >>= λ destination.
    Ok (state.EtherEncap (ether_header t source destination)))

-- the name of a device, as the only argument
unfoldable pub device : List (List ℕ) → Result (List ℕ) ArgFault
device args = taking 1 1 args (if is_device (argument_at args 0) then Ok (argument_at args 0) else Err fault.BadText)

unfoldable pub from_device : List (List ℕ) → Result State ArgFault
from_device args = device args >>= λ d. Ok (state.FromDevice d)

unfoldable pub to_device : List (List ℕ) → Result State ArgFault
to_device args = device args >>= λ d. Ok (state.ToDevice d)

-- the first state of a Classifier, by the words of its arguments
unfoldable pub classifier : List (List (List ℕ)) → Result State ArgFault
classifier args = each pattern args >>= λ ps. Ok (state.Classifier ps)

-- the first state of a StaticIPLookup, by the words of its arguments
unfoldable pub static_ip_lookup : List (List (List ℕ)) → Result State ArgFault
static_ip_lookup args = table [] args >>= λ es. Ok (state.StaticIPLookup es)

-- up to 64 addresses, from the words of one argument
unfoldable pub addresses : List (List ℕ) → Result (List (List ℕ)) ArgFault
addresses words = if nat_le (length words) 64 then each address words else Err fault.OutOfRange

-- the first state of a CheckIPHeader, by the words of its arguments
unfoldable pub check_ip_header : List (List (List ℕ)) → Result State ArgFault
check_ip_header args =
    (if length args == 0 then Ok [] else addresses (slice_index_or args 0 [])) >>= λ rs. Ok (state.CheckIPHeader rs)

-- the bytes of an InfiniteSource's packets: those that the argument stands for, if its quoting is
-- right, or 64 zeros without an argument
abbrev pub source_bytes : Option (Option (List ℕ)) → Result (List ℕ) ArgFault
source_bytes None = Ok (replicate 64 0)
source_bytes (Some None) = Err fault.BadText
source_bytes (Some (Some bytes)) = if nat_le (length bytes) 1600 then Ok bytes else Err fault.OutOfRange

-- the first state of an InfiniteSource, by its arguments and the bytes that the first one stands
-- for
unfoldable pub infinite_source : Option (Option (List ℕ)) → List (List ℕ) → Result State ArgFault
infinite_source first args =
    source_bytes first >>= λ bytes.
    optional args 1 None (number_or_minus_one (2 ^ 64 - 1)) >>= λ limit.
    optional args 2 1 (number_in 1 64) >>= λ burst.
    optional args 3 true truth >>= λ active.
    Ok (state.InfiniteSource bytes limit burst active 0)

-- ---- the classes of the gateway package

-- a station: the prefixes of its addresses, and its Ethernet address last
unfoldable pub station : List (List ℕ) → Result Station ArgFault
station words =
    if nat_le 2 (length words) && nat_le (length words) 65
    then (each prefix (take (length words - 1) words) >>= λ prefixes. ethernet (slice_index_or words (length words - 1) []) >>= λ ether. Ok (record { prefixes = prefixes; ether = ether }))
    else Err fault.BadEntry

-- the first state of ARPResponder from the words of its arguments
unfoldable pub arp_responder : List (List (List ℕ)) → Result State ArgFault
arp_responder args = each station args >>= λ stations. Ok (state.ARPResponder stations)

-- a querier with an empty table
abbrev pub querier : List ℕ → List ℕ → Querier
querier ip ether = record { ip = ip; ether = ether; table = []; packets = 0; drops = 0 }

unfoldable pub arp_querier : List (List ℕ) → Result State ArgFault
arp_querier args = taking 2 2 args
    (address (argument_at args 0) >>= λ ip. ethernet (argument_at args 1) >>= λ ether. Ok (state.ARPQuerier (querier ip ether)))

-- the types of ICMP errors: unreachable, redirect, time exceeded and parameter problem
abbrev pub is_error_kind : ℕ → Bool
is_error_kind n = (n == 3) || (n == 5) || (n == 11) || (n == 12)

-- the type of an ICMP error from its name or its number
unfoldable pub error_kind : List ℕ → Result ℕ ArgFault
error_kind bytes =
    if bytes_eq bytes (codes "unreachable") then Ok 3
    else if bytes_eq bytes (codes "redirect") then Ok 5
    else if bytes_eq bytes (codes "timeexceeded") then Ok 11
    else if bytes_eq bytes (codes "parameterproblem") then Ok 12
    else number_in 0 255 bytes >>= λ n. if is_error_kind n then Ok n else Err fault.OutOfRange

unfoldable pub icmp_error : List (List ℕ) → Result State ArgFault
icmp_error args = taking 2 4 args
    (address (argument_at args 0) >>= λ own.
    error_kind (argument_at args 1) >>= λ kind.
    optional args 2 0 (number_in 0 255) >>= λ code.
    optional args 3 0 (number_in 0 65535) >>= λ mtu.
    Ok (state.ICMPError (record { own = own; kind = kind; code = code; mtu = mtu })))

unfoldable pub host_ether_filter : List (List ℕ) → Result State ArgFault
host_ether_filter args = taking 1 1 args (ethernet (argument_at args 0) >>= λ ether. Ok (state.HostEtherFilter ether))

unfoldable pub udp_ip_encap : List (List ℕ) → Result State ArgFault
udp_ip_encap args = taking 4 4 args
    (address (argument_at args 0) >>= λ source.
    number_in 0 65535 (argument_at args 1) >>= λ source_port.
    address (argument_at args 2) >>= λ destination.
    number_in 0 65535 (argument_at args 3) >>= λ destination_port.
    Ok (state.UDPIPEncap (record { source = source; source_port = source_port; destination = destination; destination_port = destination_port })))

-- the result is determined by the words of the arguments, whose number is tested first
abbrev pub ByWords : ℕ → ℕ → (List (List (List ℕ)) → Result State ArgFault) → List (List ℕ) → Result State ArgFault → Type 0
ByWords least most first args r = MatchBool (nat_le least (length args) && nat_le (length args) most)
    ((words : List (List (List ℕ))) × AllZip AreWords args words × (r ≡ first words))
    (r ≡ Err fault.ArgumentCount)

-- the bytes that an argument stands for, if it is given
abbrev pub FirstStandsFor : Option (List ℕ) → Option (Option (List ℕ)) → Type 0
FirstStandsFor None first = first ≡ None
FirstStandsFor (Some argument) first = (bytes : Option (List ℕ)) × StandsFor argument bytes × (first ≡ Some bytes)

-- the result is determined by the bytes that the first argument stands for
abbrev pub ByFirst : ℕ → (Option (Option (List ℕ)) → List (List ℕ) → Result State ArgFault) → List (List ℕ) → Result State ArgFault → Type 0
ByFirst most state_of args r = MatchBool (nat_le 0 (length args) && nat_le (length args) most)
    ((first : Option (Option (List ℕ))) × FirstStandsFor (slice_get args 0) first × (r ≡ state_of first args))
    (r ≡ Err fault.ArgumentCount)

-- the rules that texts spell, or a fault if they spell none or have more than 4,096 tests
abbrev pub AreRuled : RuleForm → List (List ℕ) → Result (List FlatRule) ArgFault → Type 0
AreRuled f texts (Ok rules) = (rs : List Ruling) × AreSpelled f texts rs × (all_tests rs ≤ 4096) × (rules ≡ map flat_rule rs)
AreRuled f texts (Err e) = (e ≡ fault.BadEntry) × ((rs : List Ruling) → AreSpelled f texts rs → 4096 < all_tests rs)

-- the rules of arguments, in which each comment counts as a space
abbrev pub HaveRules : RuleForm → List (List ℕ) → Result (List FlatRule) ArgFault → Type 0
HaveRules f args rules = (texts : List (List ℕ)) × AllZip IsWithoutComments args texts × AreRuled f texts rules

-- the result is determined by the rules of 1 to 256 arguments
abbrev pub ByRules : RuleForm → (List FlatRule → State) → List (List ℕ) → Result State ArgFault → Type 0
ByRules f state_of args r = MatchBool (nat_le 1 (length args) && nat_le (length args) 256)
    ((rules : Result (List FlatRule) ArgFault) × HaveRules f args rules × (r ≡ (rules >>= λ rs. Ok (state_of rs))))
    (r ≡ Err fault.ArgumentCount)

-- the first state, or the first fault, of an element of this class with these arguments
abbrev pub IsFresh : Class → List (List ℕ) → Result State ArgFault → Type 0
IsFresh class.Queue args r = r ≡ queue args
IsFresh class.FrontDropQueue args r = r ≡ front_drop_queue args
IsFresh class.Unqueue args r = r ≡ without_arguments state.Unqueue args
IsFresh class.Counter args r = r ≡ without_arguments (state.Counter 0 0) args
IsFresh class.Switch args r = r ≡ switch args
IsFresh class.PullSwitch args r = r ≡ pull_switch args
IsFresh class.RoundRobinSwitch args r = r ≡ without_arguments (state.RoundRobinSwitch 0) args
IsFresh class.RoundRobinSched args r = r ≡ without_arguments (state.RoundRobinSched 0) args
IsFresh class.PrioSched args r = r ≡ without_arguments state.PrioSched args
IsFresh class.Tee args r = r ≡ tee args
IsFresh class.PullTee args r = r ≡ pull_tee args
IsFresh class.Idle args r = r ≡ without_arguments state.Idle args
IsFresh class.Discard args r = r ≡ without_arguments state.Discard args
IsFresh class.Null args r = r ≡ without_arguments state.Null args
IsFresh class.PushNull args r = r ≡ without_arguments state.PushNull args
IsFresh class.PullNull args r = r ≡ without_arguments state.PullNull args
IsFresh class.Suppressor args r = r ≡ without_arguments suppressor args
IsFresh class.Paint args r = r ≡ paint args
IsFresh class.PaintTee args r = r ≡ paint_tee args
IsFresh class.Strip args r = r ≡ strip args
IsFresh class.CheckLength args r = r ≡ check_length args
IsFresh class.Classifier args r = ByWords 1 256 classifier args r
IsFresh class.GetIPAddress args r = r ≡ get_ip_address args
IsFresh class.StaticIPLookup args r = ByWords 0 1024 static_ip_lookup args r
IsFresh class.CheckIPHeader args r = ByWords 0 1 check_ip_header args r
IsFresh class.DecIPTTL args r = r ≡ without_arguments state.DecIPTTL args
IsFresh class.EtherEncap args r = r ≡ ether_encap args
IsFresh class.InfiniteSource args r = ByFirst 4 infinite_source args r
IsFresh class.FromDevice args r = r ≡ from_device args
IsFresh class.ToDevice args r = r ≡ to_device args
IsFresh class.ARPResponder args r = ByWords 1 256 arp_responder args r
IsFresh class.ARPQuerier args r = r ≡ arp_querier args
IsFresh class.ICMPError args r = r ≡ icmp_error args
IsFresh class.ICMPPingResponder args r = r ≡ without_arguments state.ICMPPingResponder args
IsFresh class.HostEtherFilter args r = r ≡ host_ether_filter args
IsFresh class.EtherMirror args r = r ≡ without_arguments state.EtherMirror args
IsFresh class.IPMirror args r = r ≡ without_arguments state.IPMirror args
IsFresh class.SetIPChecksum args r = r ≡ without_arguments state.SetIPChecksum args
IsFresh class.StripIPHeader args r = r ≡ without_arguments state.StripIPHeader args
IsFresh class.UDPIPEncap args r = r ≡ udp_ip_encap args
IsFresh class.IPFilter args r = ByRules form.WithAction state.IPFilter args r
IsFresh class.IPClassifier args r = ByRules form.PatternAlone state.IPClassifier args r

-- the first state, or the first fault, of an element of this class with this configuration string
pub record IsMade (class : Class) (text : List ℕ) (r : Result State ArgFault) : Type 0 where
  pub spans : List Span
  pub cut : AreArguments text spans
  pub fresh : IsFresh class (map (bytes_at text) spans) r
