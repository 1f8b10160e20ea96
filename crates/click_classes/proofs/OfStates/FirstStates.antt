-- A first state has settings only, and nothing that packets have changed.
use Rattle.std.proofs.Common.{◌≡◌, ℕ, ◌-◌, ◌^◌, List, Bool, true, false, Option, None, Result, Ok, refl, ap, subst, arith}
use Rattle.std.specs.Prelude.{◌&&◌, length, nat_le, slice_get}
use Rattle.click_base.specs.declared.class.Class.{Class}
use Rattle.click_base.specs.declared.class.Class.TheVariants as is
use Rattle.click_classes.specs.declared.fault.ArgFault.{ArgFault}
use Rattle.click_classes.specs.declared.state.State.{State}
use Rattle.click_classes.specs.declared.state.State.TheVariants as state
use Rattle.click_classes.specs.Made.{argument_at, querier, arp_querier, optional, source_bytes, without_arguments, capacity, empty, queue, front_drop_queue, infinite_source, IsFresh}
use Rattle.click_classes.specs.Queues.{IsSound}
use Rattle.click_classes.specs.Settings.{settings}
use Rattle.click_classes.specs.State.{class}
use Rattle.click_classes.specs.Values.{address, ethernet, number_in, number_or_minus_one, truth}
use Rattle.click_classes.proofs.OfPorts.PortUses.{both_ok, taken, given, first_well}

-- the classes whose states packets change
abbrev changes : Class → Bool
changes is.Queue = true
changes is.FrontDropQueue = true
changes is.Counter = true
changes is.RoundRobinSwitch = true
changes is.RoundRobinSched = true
changes is.InfiniteSource = true
changes is.ARPQuerier = true
changes c = false

stays : (s : State) → changes (class s) ≡ false → settings s ≡ s
stays (state.Queue q drops highest) e = cc
stays (state.FrontDropQueue q drops highest) e = cc
stays (state.Counter count byte_count) e = cc
stays (state.RoundRobinSwitch next) e = cc
stays (state.RoundRobinSched next) e = cc
stays (state.InfiniteSource bytes limit burst active count) e = cc
stays (state.ARPQuerier q) e = cc
stays _ e = refl

begins : (t s : State) → ◌≡◌ {A = Result State ArgFault} (Ok s) (Ok t) → settings t ≡ t → settings s ≡ s
begins t s e h = let same : t ≡ s = cc in subst (λ x. settings x ≡ x) same h

begins_plain : (t s : State) (args : List (List ℕ)) → Ok s ≡ without_arguments t args → settings t ≡ t → settings s ≡ s
unfolding without_arguments
begins_plain t s args e h = begins t s (taken _ (Ok t) s e) h

source-begins : (first : Option (Option (List ℕ))) (args : List (List ℕ)) (s : State) → Ok s ≡ infinite_source first args → settings s ≡ s
unfolding infinite_source
source-begins first args s h =
    let a = both_ok (source_bytes first) _ s h in
    let b = both_ok (optional args 1 None (number_or_minus_one (2 ^ 64 - 1))) _ s a.2 in
    let d = both_ok (optional args 2 1 (number_in 1 64)) _ s b.2 in
    let e = both_ok (optional args 3 true truth) _ s d.2 in
    begins (state.InfiniteSource a.0 b.0 d.0 e.0 0) s e.2 refl

querier-begins : (args : List (List ℕ)) (s : State) → Ok s ≡ arp_querier args → settings s ≡ s
unfolding arp_querier
querier-begins args s h =
    let whole = taken (nat_le 2 (length args) && nat_le (length args) 2) _ s h in
    let a = both_ok (address (argument_at args 0)) _ s whole in
    let b = both_ok (ethernet (argument_at args 1)) _ s a.2 in
    begins (state.ARPQuerier (querier a.0 b.0)) s b.2 refl

pub fresh-begins : (c : Class) (args : List (List ℕ)) (s : State) → IsFresh c args (Ok s) → settings s ≡ s
unfolding queue front_drop_queue
fresh-begins is.Queue args s h = let a = both_ok (capacity args) _ s h in begins (state.Queue (empty a.0) 0 0) s a.2 refl
fresh-begins is.FrontDropQueue args s h = let a = both_ok (capacity args) _ s h in begins (state.FrontDropQueue (empty a.0) 0 0) s a.2 refl
fresh-begins is.Counter args s h = begins_plain (state.Counter 0 0) s args h refl
fresh-begins is.RoundRobinSwitch args s h = begins_plain (state.RoundRobinSwitch 0) s args h refl
fresh-begins is.RoundRobinSched args s h = begins_plain (state.RoundRobinSched 0) s args h refl
fresh-begins is.InfiniteSource args s h =
    let w = given (nat_le 0 (length args) && nat_le (length args) 4) (slice_get args 0) (λ first. infinite_source first args) s h in
    source-begins w.0 args s w.2
fresh-begins is.ARPQuerier args s h = querier-begins args s h
fresh-begins c args s h = stays s (ap changes (first_well c args s h).0)

settings-sound : (s : State) → IsSound (settings s)
settings-sound (state.Queue q drops highest) = (omega arith, omega arith)
settings-sound (state.FrontDropQueue q drops highest) = (omega arith, omega arith)
settings-sound _ = tt

pub fresh-sound : (c : Class) (args : List (List ℕ)) (s : State) → IsFresh c args (Ok s) → IsSound s
fresh-sound c args s h = subst IsSound (fresh-begins c args s h) (settings-sound s)
