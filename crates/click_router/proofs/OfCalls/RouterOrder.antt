-- A router begins in order, and each answered call leaves it in order.
use Rattle.std.proofs.Common.{◌≡◌, ℕ, zero, suc, List, [], ◌∷◌, length, map, Bool, true, false, if◌then◌else◌, Option, Some, None, Result, Ok, Err, option_map, slice_get, refl, sym, ◌∙◌, subst}
use Rattle.std.specs.Prelude.{option_and_then, is_some}
use Rattle.std.specs.List.{All, list_any}
use Rattle.std.proofs.lemmas.List.{length-map}
use Rattle.std.proofs.lemmas.List.Elements.{All-nil, All-cons, All-head, All-tail}
use Rattle.click_packet.specs.Packet.{Packet}
use Rattle.click_classes.specs.Queues.{IsSound}
use Rattle.click_classes.specs.State.{class}
use Rattle.click_classes.specs.declared.state.State.{State}
use Rattle.click_classes.proofs.OfStates.FirstStates.{fresh-begins, fresh-sound}
use Rattle.click_expand.specs.declared.flat.FlatElement.{FlatElement}
use Rattle.click_ports.specs.Net.{IsLawfulNet, net_of, shape_of}
use Rattle.click_ports.proofs.ResolvedNet.{joined-within}
use Rattle.click_engine.specs.declared.run_state.Element.{Element}
use Rattle.click_engine.specs.InOrder.{IsInOrder}
use Rattle.click_engine.specs.Plant.{Plant}
use Rattle.click_engine.specs.Rounds.{arrive, source_of, sink_of, transmit, transmitted}
use Rattle.click_engine.proofs.OfInvariants.PortFit.{Fits, IsSet}
use Rattle.click_engine.proofs.OfInvariants.PlantOrder.{arrive-in-order, transmit-in-order, round-in-order}
use Rattle.click_engine.proofs.OfInvariants.FirstOrder.{begins-in-order, taken-in-order, changed-in-order}
use Rattle.click_handlers.specs.Names.{has_read, has_write}
use Rattle.click_handlers.specs.Writes.{write_value}
use Rattle.click_handlers.specs.declared.fault.HandlerFault.{HandlerFault}
use Rattle.click_handlers.proofs.WriteInvariants.{element-kept, fits-after}
use Rattle.click_router.specs.Globals.{global_value}
use Rattle.click_base.specs.Dotted.{is_dot}
use Rattle.click_router.specs.One.{Answers, is_hotconfig, place_of, found, before, after, written, write_element, write_found, with_plant, refusal_of, write, arrivals, entered, worked, sent}
use Rattle.click_router.specs.Opened.{AreFresh, IsOpened}
use Rattle.click_router.specs.State.{RouterState}
use Rattle.click_router.specs.Swap.{Swaps, installed, refused}
use Rattle.click_router.specs.declared.call.Call.{Call}
use Rattle.click_router.specs.declared.call.Call.TheVariants as call
use Rattle.click_router.specs.declared.call.Reply.{Reply}
use Rattle.click_router.specs.declared.call.Reply.TheVariants as reply
use Rattle.click_router.proofs.OfOpenings.FirstStates.{length_fresh, states_of}

-- ---- what a text opens

fresh-set : (es : List FlatElement) (qs : List State) → AreFresh es qs → All IsSet qs
fresh-set [] [] h = All-nil IsSet
fresh-set [] (q ∷ qs) h = absurd h
fresh-set (e ∷ es) [] h = absurd h
fresh-set (e ∷ es) (q ∷ qs) h = All-cons IsSet q qs (fresh-begins e.class _ q h.0.fresh) (fresh-set es qs h.1)

fresh-sound-all : (es : List FlatElement) (qs : List State) → AreFresh es qs → All IsSound qs
fresh-sound-all [] [] h = All-nil IsSound
fresh-sound-all [] (q ∷ qs) h = absurd h
fresh-sound-all (e ∷ es) [] h = absurd h
fresh-sound-all (e ∷ es) (q ∷ qs) h = All-cons IsSound q qs (fresh-sound e.class _ q h.0.fresh) (fresh-sound-all es qs h.1)

pub opened-in-order : (text : List ℕ) (s : RouterState) → IsOpened text s → IsInOrder s.plant
opened-in-order text s o =
    let b = o.opens.begins in
    let es = s.flat.elements in
    let many : length es ≡ length (map shape_of b.states) = sym (length_fresh es b.states b.fresh) ∙ sym (length-map b.states shape_of) in
    let net : IsLawfulNet (net_of s.flat b.states) = record {
      named = length-map es (λ (e : FlatElement). e.name) ∙ many;
      within = joined-within es b.states s.flat.connections _ (map shape_of b.states) (length es) (states_of es b.states b.fresh) refl refl refl;
      lawful = b.lawful;
    } in
    begins-in-order (net_of s.flat b.states) b.states s.plant b.started refl net (fresh-set es b.states b.fresh) (fresh-sound-all es b.states b.fresh)

-- ---- the state after a call

swapped : (s : RouterState) (text : List ℕ) (t : RouterState) (r : Reply) → IsInOrder s.plant → Swaps s text t r → IsInOrder t.plant
swapped s text _ _ h (installed new o) = taken-in-order new.plant s.plant (opened-in-order text new o)
swapped s text _ _ h (refused f g) = h

-- the state of a call's result is in order if that of the function is
left : (p : RouterState × Reply) (t : RouterState) (r : Reply) → p ≡ (t, r) → IsInOrder p.0.plant → IsInOrder t.plant
left p t r is h = subst (λ (q : RouterState × Reply). IsInOrder q.0.plant) is h

found-at : (es : List Element) (o : Option ℕ) (x : ℕ × Element) → option_and_then {U = ℕ × Element} (λ at. option_map (λ (e : Element). (at, e)) (slice_get es at)) o ≡ Some x → slice_get es x.0 ≡ Some x.1
found-at es None x is = absurd (let k = is in cc)
found-at es (Some at) x is = go (slice_get es at) refl is
  where
    pair : (e : Element) → (at, e) ≡ x → slice_get es at ≡ Some e → slice_get es x.0 ≡ Some x.1
    pair e same got = subst (λ (y : ℕ × Element). slice_get es y.0 ≡ Some y.1) same got

    go : (g : Option Element) → slice_get es at ≡ g → option_map (λ (e : Element). (at, e)) g ≡ Some x → slice_get es x.0 ≡ Some x.1
    go (Some e) got k = pair e (let l = k in cc) got
    go None got k = absurd (let l = k in cc)

holds-at : (P : Element → Type 0) (es : List Element) (at : ℕ) (e : Element) → slice_get es at ≡ Some e → All P es → P e
holds-at P [] at e got h = absurd (let k = got in cc)
holds-at P (x ∷ es) zero e got h = subst P (let same : x ≡ e = cc in same) (All-head P x es h)
holds-at P (x ∷ es) (suc at) e got h = holds-at P es at e got (All-tail P x es h)

write-made : (v : Plant) (at : ℕ) (e : Element) (handler text : List ℕ) (r : Result Element HandlerFault) → IsInOrder v → slice_get v.elements at ≡ Some e → write_value handler e text ≡ r → IsInOrder (written v at r).0
write-made v at e handler text (Ok f) h got made =
    let k = element-kept handler text e f made in
    changed-in-order v at e f h got k.inputs k.outputs k.state.its_class (fits-after handler text e f made (holds-at Fits v.elements at e got h.elements.fitting))
    (k.state.sound (holds-at (λ (x : Element). IsSound x.state) v.elements at e got h.elements.sound))
write-made v at e handler text (Err f) h got made = h

write-at : (v : Plant) (at : ℕ) (e : Element) (handler text : List ℕ) → IsInOrder v → slice_get v.elements at ≡ Some e → IsInOrder (write_element v at e handler text).0
write-at v at e handler text h got = go (has_write (class e.state) handler)
  where
    go : (b : Bool) → IsInOrder (if b then written v at (write_value handler e text) else (v, reply.Refused (refusal_of (has_read (class e.state) handler)))).0
    go true = write-made v at e handler text (write_value handler e text) h got refl
    go false = h

write-found : (s : RouterState) (o : Option (ℕ × Element)) (handler text : List ℕ) → IsInOrder s.plant → ((x : ℕ × Element) → o ≡ Some x → slice_get s.plant.elements x.0 ≡ Some x.1)
    → IsInOrder (write_found s.plant o handler text).0
write-found s (Some x) handler text h got = write-at s.plant x.0 x.1 handler text h (got x refl)
write-found s None handler text h got = h

write-in-order : (s : RouterState) (name text : List ℕ) → IsInOrder s.plant → IsInOrder (write s name text).0.plant
write-in-order s name text h = go (list_any is_dot name)
  where
    go : (b : Bool) → IsInOrder (if b then with_plant s (write_found s.plant (found s (before name)) (after name) text) else (s, reply.Refused (refusal_of (is_some (global_value s name))))).0.plant
    go true = write-found s (found s (before name)) (after name) text h (λ x. found-at s.plant.elements (place_of s (before name)) x)
    go false = h

pub arrivals-in-order : (v : Plant) (device : List ℕ) (ps : List Packet) → IsInOrder v → IsInOrder (arrivals v device ps)
arrivals-in-order v device [] h = h
arrivals-in-order v device (p ∷ ps) h = arrivals-in-order (arrive v device p) device ps (arrive-in-order v device p h)

-- the results of entering packets and of taking one, by the index of the device's element
abbrev entered_by : RouterState → List ℕ → List Packet → Option ℕ → RouterState × Reply
entered_by s device ps o = elim o [ None ↦ (s, reply.NoDevice) | Some at ↦ (record s { plant = arrivals s.plant device ps }, reply.Entered (length ps)) ]

abbrev sent_by : RouterState → List ℕ → Option ℕ → RouterState × Reply
sent_by s device o = elim o [ None ↦ (s, reply.NoDevice) | Some at ↦ (record s { plant = transmit s.plant device }, reply.Sent (transmitted s.plant device)) ]

entered-in-order : (s : RouterState) (device : List ℕ) (ps : List Packet) → IsInOrder s.plant → IsInOrder (entered s device ps).0.plant
entered-in-order s device ps h = go (source_of s.plant device)
  where
    go : (o : Option ℕ) → IsInOrder (entered_by s device ps o).0.plant
    go None = h
    go (Some at) = arrivals-in-order s.plant device ps h

sent-in-order : (s : RouterState) (device : List ℕ) → IsInOrder s.plant → IsInOrder (sent s device).0.plant
sent-in-order s device h = go (sink_of s.plant device)
  where
    go : (o : Option ℕ) → IsInOrder (sent_by s device o).0.plant
    go None = h
    go (Some at) = transmit-in-order s.plant device h

abbrev WroteBy : Bool → RouterState → List ℕ → List ℕ → RouterState → Reply → Type 0
WroteBy b s name text t r = elim b [ true ↦ Swaps s text t r | false ↦ write s name text ≡ (t, r) ]

wrote : (b : Bool) (s : RouterState) (name text : List ℕ) (t : RouterState) (r : Reply) → IsInOrder s.plant → WroteBy b s name text t r → IsInOrder t.plant
wrote true s name text t r h a = swapped s text t r h a
wrote false s name text t r h a = left (write s name text) t r a (write-in-order s name text h)

same : (s t : RouterState) → t ≡ s → IsInOrder s.plant → IsInOrder t.plant
same s t is h = subst (λ (x : RouterState). IsInOrder x.plant) (sym is) h

pub answered-in-order : (s t : RouterState) (c : Call) (r : Reply) → IsInOrder s.plant → Answers s c t r → IsInOrder t.plant
answered-in-order s t (call.Read name text) r h a = same s t a.0 h
answered-in-order s t (call.Write name text) r h a = wrote (is_hotconfig name) s name text t r h a
answered-in-order s t (call.CheckRead name) r h a = same s t a.0 h
answered-in-order s t (call.CheckWrite name) r h a = same s t a.0 h
answered-in-order s t (call.Swap text) r h a = swapped s text t r h a
answered-in-order s t (call.Arrive device p) r h a = left (entered s device (p ∷ [])) t r a (entered-in-order s device (p ∷ []) h)
answered-in-order s t (call.Poll device ps) r h a = left (entered s device ps) t r a (entered-in-order s device ps h)
answered-in-order s t call.Round r h a = left (worked s) t r a (round-in-order s.plant h)
answered-in-order s t (call.Transmit device) r h a = left (sent s device) t r a (sent-in-order s device h)
