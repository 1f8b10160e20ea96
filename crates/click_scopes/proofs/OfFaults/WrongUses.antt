-- The misuses that the code looks for are those of the configuration.
use Rattle.std.proofs.Common.{◌≡◌, ◌≢◌, ◌⊎◌, inl, inr, ℕ, suc, zero, ◌<◌, ◌≤◌, List, [], ◌∷◌, ◌++◌, map, length, take, Bool, true, false, not, nat_eq, nat_lt, Option, Some, None, refl, sym, ap, ◌∙◌, subst, arith, All, Contains}
use Rattle.std.specs.List.{slice_get}
use Rattle.std.specs.Option.{option_map}
use Rattle.std.specs.Str.{bytes_eq}
use Rattle.std.proofs.lemmas.Bool.Decides.{nat_tests}
use Rattle.std.proofs.lemmas.List.Elements.{All-contains}
use Rattle.std.proofs.lemmas.Option.{same_Some, slice_get-map, slice_get_within}
use Rattle.click_text.specs.declared.syntax.Span.{Span}
use Rattle.click_text.specs.declared.syntax.Statement.{Statement}
use Rattle.click_text.specs.declared.syntax.Body.{Body}
use Rattle.click_text.specs.declared.syntax.Config.{Config}
use Rattle.click_text.specs.Arguments.{AreArguments}
use Rattle.click_scopes.specs.Scopes.{Scope, whole, inside, is_body, formals_of, body_formals, Stands, at_top}
use Rattle.click_scopes.specs.Classes.{compound}
use Rattle.click_scopes.specs.Elements.{Placed, Role, pseudo, refers, makes, string_or_empty, element_meaning, input_name, output_name, ScopeElement, scope_element}
use Rattle.click_scopes.specs.Faults.{scope_placed, scope_declared, elements_of_scope, scope_connections, role_in, scope_names, first_token, brace_of, number_after_all, End, WrittenConnection, port_count, inputs_of, outputs_of, fault_number, IsWrong, unknown_name, unknown_class, unknown_declared, unknown_original, named_twice, port_declared, formal_twice, wrong_parameters, no_output, no_input, output_as_source, input_as_target, input_gap, output_gap}
use Rattle.click_scopes.specs.kept.Tables.{meaning_by, scope_element_of}
use Rattle.click_scopes.specs.kept.Nesting.{IsNested}
use Rattle.click_scopes.specs.kept.Scoped.{table_place}
use Rattle.click_scopes.specs.kept.CompoundArguments.{HasArguments}
use Rattle.click_scopes.specs.kept.AllScopes.{AreAllScopes}
use Rattle.click_scopes.specs.kept.Lookups.{elements_by, connections_by, class_body, scope_element_body}
use Rattle.click_scopes.specs.kept.WrittenConnections.{IsOwner, IsWrittenConnection, AreWrittenConnections}
use Rattle.click_scopes.specs.kept.FirstFault.{IsLeast, IsCompoundFault, first_of, first_in, token_fault, token_fault_if}
use Rattle.click_scopes.specs.kept.CompoundFaults.{Among, IsWrongCall, IsWrongWrittenConnection, IsWrongIn, IsCompoundFaultOfBody, ArePorts, ports_or, call_fault_of, outputs_by, inputs_by, lacking, source_by, target_by, gap_at, HasGap}
use Rattle.click_scopes.specs.declared.fault.WrongUse.{WrongUse}
use Rattle.click_scopes.specs.declared.fault.WrongUse.TheVariants as kind
use Rattle.click_scopes.specs.declared.scope_elements.ScopeElement.{ScopeElement as ScopeElementKept}
use Rattle.click_scopes.specs.declared.written_connections.Owner.{Owner}
use Rattle.click_scopes.specs.declared.written_connections.Owner.TheVariants as owner
use Rattle.click_scopes.specs.declared.written_connections.WrittenConnection.{WrittenConnection as ConnectionKept}
use Rattle.click_scopes.specs.declared.scopes.Scope.{Scope as ScopeKept}
use Rattle.click_scopes.specs.declared.ports.Ports.{Ports}
use Rattle.click_scopes.specs.declared.first_fault.TokenFault.{TokenFault}
use Rattle.click_scopes.proofs.OfLists.ListParts.{contains-at, at-contains, contains-split, map-there}
use Rattle.click_scopes.proofs.OfElements.ElementBodies.{compound-means, means-compound}
use Rattle.click_scopes.proofs.OfBodies.EarlierBodies.{scope_element-made}
use Rattle.click_text.proofs.OfArguments.OneArgumentList.{arguments-once}
use Rattle.click_scopes.proofs.OfConnections.EndOwners.{numbers-after, made-there, first-in}
use Rattle.click_scopes.proofs.OfConnections.BodyPortCounts.{is_by, body-stands}
use Rattle.click_scopes.proofs.OfBodies.ScopeWalk.{inside-within}
use Rattle.click_scopes.proofs.OfFaults.LeastWrongUse.{least-first_of, least-same}

there-map : {X Y : Type 0} (f : X → Y) (xs : List X) (i : ℕ) (x : X) → slice_get xs i ≡ Some x → slice_get (map f xs) i ≡ Some (f x)
there-map f xs i x h = slice_get-map f xs i ∙ ap (option_map f) h

split-there : {X : Type 0} (xs : List X) (x : X) (ys : List X) → slice_get (xs ++ x ∷ ys) (length xs) ≡ Some x
split-there [] x ys = refl
split-there (y ∷ xs) x ys = split-there xs x ys

not-eq : (a b : ℕ) → a ≢ b → nat_eq a b ≡ false
not-eq a b h = grind (arith, nat_tests)

eq-not : (a b : ℕ) → nat_eq a b ≡ false → a ≢ b
eq-not a b h = λ e. grind (arith, nat_tests)

not-below : (a b : ℕ) → b ≤ a → nat_lt a b ≡ false
not-below a b h = grind (arith, nat_tests)

below-not : (a b : ℕ) → nat_lt a b ≡ false → b ≤ a
below-not a b h = grind (arith, nat_tests)

-- a misuse that a test finds
wrong-found : (b : Bool) (k : WrongUse) (s : Span) (w : TokenFault) → token_fault_if (not b) k s ≡ Some w → (b ≡ false) × (w ≡ token_fault k s)
wrong-found true k s w h = absurd (cc h)
wrong-found false k s w h = (refl, sym (same_Some (token_fault k s) w h))

-- an element with a wrong number of arguments
record IsCall (bodies : List Body) (o : Option ℕ) (spans : List Span) (first : Span) (w : TokenFault) : Type 0 where
  pub body : ℕ
  pub compound : o ≡ Some body
  pub other : length spans ≢ length (body_formals (slice_get bodies body))
  pub is : w ≡ token_fault kind.WrongParameters first

call-is : (bodies : List Body) (o : Option ℕ) (spans : List Span) (first : Span) (w : TokenFault) → call_fault_of bodies o spans first ≡ Some w → IsCall bodies o spans first w
call-is bodies None spans first w h = absurd (cc h)
call-is bodies (Some b) spans first w h =
    let r = wrong-found (nat_eq (length spans) (length (body_formals (slice_get bodies b)))) kind.WrongParameters first w h in
    record { body = b; compound = refl; other = eq-not (length spans) (length (body_formals (slice_get bodies b))) r.0; is = r.1 }

-- a port that a compound does not have
record IsLack (count : Ports → ℕ) (ports : List Ports) (o : Option ℕ) (port : ℕ) (first : Span) (w : TokenFault) : Type 0 where
  pub body : ℕ
  pub compound : o ≡ Some body
  pub past : count (ports_or (slice_get ports body)) ≤ port
  pub is : w ≡ token_fault kind.CompoundPort first

output-lack : (ports : List Ports) (o : Option ℕ) (port : ℕ) (first : Span) (w : TokenFault) → lacking (outputs_by ports o) port first ≡ Some w → IsLack (λ p. p.outputs) ports o port first w
output-lack ports None port first w h = absurd (cc h)
output-lack ports (Some b) port first w h =
    let r = wrong-found (nat_lt port ((ports_or (slice_get ports b)).outputs)) kind.CompoundPort first w h in
    record { body = b; compound = refl; past = below-not port ((ports_or (slice_get ports b)).outputs) r.0; is = r.1 }

input-lack : (ports : List Ports) (o : Option ℕ) (port : ℕ) (first : Span) (w : TokenFault) → lacking (inputs_by ports o) port first ≡ Some w → IsLack (λ p. p.inputs) ports o port first w
input-lack ports None port first w h = absurd (cc h)
input-lack ports (Some b) port first w h =
    let r = wrong-found (nat_lt port ((ports_or (slice_get ports b)).inputs)) kind.CompoundPort first w h in
    record { body = b; compound = refl; past = below-not port ((ports_or (slice_get ports b)).inputs) r.0; is = r.1 }

compound-there : (o : Option ScopeElementKept) (b : ℕ) → scope_element_body o ≡ Some b → (l : ScopeElementKept) × (o ≡ Some l) × (class_body l.class ≡ Some b)
compound-there None b h = absurd (cc h)
compound-there (Some l) b h = (l, refl, h)

written_connections-at : (sl : List ScopeElement) (ks : List ConnectionKept) (js : List WrittenConnection) (i : ℕ) (k : ConnectionKept) → AreWrittenConnections sl ks js → slice_get ks i ≡ Some k → (j : WrittenConnection) × (slice_get js i ≡ Some j) × IsWrittenConnection sl k j
written_connections-at sl [] js i k h e = absurd (cc e)
written_connections-at sl (x ∷ ks) [] i k h e = absurd h
written_connections-at sl (x ∷ ks) (y ∷ js) zero k h e = (y, refl, subst (λ z. IsWrittenConnection sl z y) (same_Some x k e) h.0)
written_connections-at sl (x ∷ ks) (y ∷ js) (suc i) k h e = written_connections-at sl ks js i k h.1 e

written_connections-kept : (sl : List ScopeElement) (ks : List ConnectionKept) (js : List WrittenConnection) (i : ℕ) (j : WrittenConnection) → AreWrittenConnections sl ks js → slice_get js i ≡ Some j → (k : ConnectionKept) × (slice_get ks i ≡ Some k) × IsWrittenConnection sl k j
written_connections-kept sl [] [] i j h e = absurd (cc e)
written_connections-kept sl [] (y ∷ js) i j h e = absurd h
written_connections-kept sl (x ∷ ks) [] i j h e = absurd h
written_connections-kept sl (x ∷ ks) (y ∷ js) zero j h e = (x, refl, subst (IsWrittenConnection sl x) (same_Some y j e) h.0)
written_connections-kept sl (x ∷ ks) (y ∷ js) (suc i) j h e = written_connections-kept sl ks js i j h.1 e

-- an end that is one of a body's own ports
own-port : (w n : List ℕ) (r : Role) (m : List ℕ) → r ≡ pseudo → n ≡ m → is_by w n r ≡ bytes_eq m w
own-port w n r m p q = ap (λ x. is_by w n x) p ∙ ap (λ x. bytes_eq x w) q

other-port : (w n : List ℕ) (r : Role) → (r ≡ pseudo → ⊥) → is_by w n r ≡ false
other-port w n pseudo h = absurd (h refl)
other-port w n refers h = refl
other-port w n makes h = refl

least-kind : (c : Config) (k : WrongUse) (s : Span) (w : TokenFault) → 14 ≤ fault_number k → w ≡ token_fault k s → IsWrong c k s → IsCompoundFault c w
least-kind c k s w l e h = subst (IsCompoundFault c) (sym e) (record { wrong = h; kind = l })

module _ (c : Config) (s : Scope) (v : List Statement) (a : List Scope) (st : Stands c s v a) (ls : List ScopeElementKept) (same : map (scope_element_of c.text) ls ≡ elements_of_scope c s v) where
  scope_element-there : (i : ℕ) (l : ScopeElementKept) → slice_get ls i ≡ Some l → slice_get (elements_of_scope c s v) i ≡ Some (scope_element_of c.text l)
  scope_element-there i l h = ap (λ xs. slice_get xs i) (sym same) ∙ there-map (scope_element_of c.text) ls i l h

  scope_element-kept : (i : ℕ) (l : ScopeElement) → slice_get (elements_of_scope c s v) i ≡ Some l → (k : ScopeElementKept) × (slice_get ls i ≡ Some k) × (scope_element_of c.text k ≡ l)
  scope_element-kept i l h = map-there (scope_element_of c.text) ls i l (ap (λ xs. slice_get xs i) same ∙ h)

  module _ (ha : All (HasArguments c.text) ls) where
    arguments-at : (i : ℕ) (l : ScopeElementKept) → slice_get ls i ≡ Some l → HasArguments c.text l
    arguments-at i l h = All-contains (HasArguments c.text) ls l ha (contains-at ls i l h)

    pub call-to : (i : ℕ) (w : TokenFault) → IsWrongCall c.bodies ls i w → IsCompoundFault c w
    call-to i w h =
        let l = h.element in
        let r = call-is c.bodies (class_body l.class) l.arguments (first_in c.bodies l.head) w h.is in
        let there = scope_element-there i l h.there in
        let means : meaning_by l.class ≡ Some (compound r.body) = compound-means l.class r.body r.compound in
        let m = scope_element-made c.text (is_body s) (scope_declared c s v) 0 (scope_placed c s v) (scope_element_of c.text l) (contains-at (elements_of_scope c s v) i (scope_element_of c.text l) there) in
        let p = m.element in
        let split = contains-split (scope_placed c s v) p m.there in
        let text = ap (λ (x : ScopeElement). x.text) m.is in
        let read = subst (λ t. AreArguments t l.arguments) text (arguments-at i l h.there r.body means) in
        let first : first_token c p.element.head ≡ first_in c.bodies l.head = sym (first-in c l.head c.bodies refl ∙ ap (λ (x : ScopeElement). first_token c x.head) m.is) in
        least-kind c kind.WrongParameters (first_in c.bodies l.head) w (omega arith) r.is
        (subst (IsWrong c kind.WrongParameters) first
        (wrong_parameters s v a split.0 split.1 p r.body l.arguments st split.2 m.makes (sym (ap (λ (x : ScopeElement). x.meaning) m.is) ∙ means) read r.other))

    pub call-from : (front back : List Placed) (p : Placed) (b : ℕ) (spans : List Span) → scope_placed c s v ≡ front ++ p ∷ back → role_in c s v p ≡ makes →
        element_meaning c.text p ≡ Some (compound b) → AreArguments (string_or_empty c.text p.element.text) spans → length spans ≢ length (formals_of c (inside b)) →
        Among (IsWrongCall c.bodies ls) (length ls) (token_fault kind.WrongParameters (first_token c p.element.head))
    call-from front back p b spans split made means read other =
        let ps = scope_placed c s v in
        let at_p : slice_get ps (length front) ≡ Some p = ap (λ xs. slice_get xs (length front)) split ∙ split-there front p back in
        let n = number_after_all c (scope_names c s v) 0 (take (length front) ps) in
        let m = made-there c.text (is_body s) (scope_declared c s v) 0 ps (length front) p n at_p (numbers-after c (scope_names c s v) 0 ps (length front) p at_p) made in
        let k = scope_element-kept m.place (scope_element c.text n p) m.there in
        let kept-means = ap (λ (x : ScopeElement). x.meaning) k.2 ∙ means in
        let found = subst (λ t. AreArguments t k.0.arguments) (ap (λ (x : ScopeElement). x.text) k.2) (arguments-at m.place k.0 k.1 b kept-means) in
        let once : k.0.arguments ≡ spans = arguments-once (string_or_empty c.text p.element.text) k.0.arguments spans found read in
        let class : class_body k.0.class ≡ Some b = means-compound k.0.class b kept-means in
        let first : first_in c.bodies k.0.head ≡ first_token c p.element.head = first-in c k.0.head c.bodies refl ∙ ap (λ (x : ScopeElement). first_token c x.head) k.2 in
        record {
          place = m.place;
          within = slice_get_within ls m.place k.0 k.1;
          is = record {
            element = k.0;
            there = k.1;
            is =
                ap (λ o. call_fault_of c.bodies o k.0.arguments (first_in c.bodies k.0.head)) class
                ∙ ap (λ x. call_fault_of c.bodies (Some b) x (first_in c.bodies k.0.head)) once
                ∙ ap (λ t. token_fault_if (not t) kind.WrongParameters (first_in c.bodies k.0.head)) (not-eq (length spans) (length (body_formals (slice_get c.bodies b))) other)
                ∙ ap (λ x. Some (token_fault kind.WrongParameters x)) first;
          };
        }

  module _ (ports : List Ports) (hp : ArePorts c ports) (ks : List ConnectionKept) (hk : AreWrittenConnections (elements_of_scope c s v) ks (scope_connections c s v)) where
    -- the class of an element at an end of a connection
    joined-means : (i b : ℕ) (e : End) → IsOwner (elements_of_scope c s v) (owner.Element i) e → scope_element_body (slice_get ls i) ≡ Some b → e.meaning ≡ Some (compound b)
    joined-means i b e h k =
        let r = compound-there (slice_get ls i) b k in
        let same_scope_element : scope_element_of c.text r.0 ≡ h.1.0 = same_Some (scope_element_of c.text r.0) h.1.0 (sym (scope_element-there i r.0 r.1) ∙ h.1.1) in
        sym h.1.3 ∙ sym (ap (λ (x : ScopeElement). x.meaning) same_scope_element) ∙ compound-means r.0.class b r.2

    means-joined : (i b : ℕ) (e : End) → IsOwner (elements_of_scope c s v) (owner.Element i) e → e.meaning ≡ Some (compound b) → scope_element_body (slice_get ls i) ≡ Some b
    means-joined i b e h k =
        let r = scope_element-kept i h.1.0 h.1.1 in
        ap scope_element_body r.1 ∙ means-compound r.0.class b (ap (λ (x : ScopeElement). x.meaning) r.2 ∙ h.1.3 ∙ k)

    source-to : (j : WrittenConnection) → Contains (scope_connections c s v) j → (o : Owner) → IsOwner (elements_of_scope c s v) o j.from → (port : ℕ) → port ≡ j.out_port → (first : Span) → first ≡ j.from.first →
        (w : TokenFault) → source_by ls ports o port first ≡ Some w → IsCompoundFault c w
    source-to j i owner.Input h port p first f w e = absurd (cc e)
    source-to j i owner.Output h port p first f w e =
        least-kind c kind.CompoundPort j.from.first w (omega arith) (sym (same_Some (token_fault kind.CompoundPort first) w e) ∙ ap (token_fault kind.CompoundPort) f)
        (output_as_source s v a j st i (own-port output_name j.from.name j.from.role output_name h.0 h.1))
    source-to j i (owner.Element n) h port p first f w e =
        let r = output-lack ports (scope_element_body (slice_get ls n)) port first w e in
        least-kind c kind.CompoundPort j.from.first w (omega arith) (r.is ∙ ap (token_fault kind.CompoundPort) f)
        (no_output s v a j r.body st i h.0 (joined-means n r.body j.from h r.compound) (let x = r.past in let y = (hp.each r.body).outs in omega (arith, x, y, p)))

    target-to : (j : WrittenConnection) → Contains (scope_connections c s v) j → (o : Owner) → IsOwner (elements_of_scope c s v) o j.to → (port : ℕ) → port ≡ j.in_port → (first : Span) → first ≡ j.to.first →
        (w : TokenFault) → target_by ls ports o port first ≡ Some w → IsCompoundFault c w
    target-to j i owner.Output h port p first f w e = absurd (cc e)
    target-to j i owner.Input h port p first f w e =
        least-kind c kind.CompoundPort j.to.first w (omega arith) (sym (same_Some (token_fault kind.CompoundPort first) w e) ∙ ap (token_fault kind.CompoundPort) f)
        (input_as_target s v a j st i (own-port input_name j.to.name j.to.role input_name h.0 h.1))
    target-to j i (owner.Element n) h port p first f w e =
        let r = input-lack ports (scope_element_body (slice_get ls n)) port first w e in
        least-kind c kind.CompoundPort j.to.first w (omega arith) (r.is ∙ ap (token_fault kind.CompoundPort) f)
        (no_input s v a j r.body st i h.0 (joined-means n r.body j.to h r.compound) (let x = r.past in let y = (hp.each r.body).ins in omega (arith, x, y, p)))

    pub written_connection-to : (i : ℕ) (w : TokenFault) → IsWrongWrittenConnection ls ports ks i w → IsCompoundFault c w
    written_connection-to i w h =
        let r = written_connections-at (elements_of_scope c s v) ks (scope_connections c s v) i h.written_connection hk h.there in
        let there = contains-at (scope_connections c s v) i r.0 r.1 in
        elim h.is [
          | inl e ↦ source-to r.0 there h.written_connection.from.owner r.2.from.owner h.written_connection.out_port r.2.out_port h.written_connection.from.first r.2.from.first w e
          | inr e ↦ target-to r.0 there h.written_connection.to.owner r.2.to.owner h.written_connection.in_port r.2.in_port h.written_connection.to.first r.2.to.first w e
        ]

    pub lack-source : (j : WrittenConnection) (b : ℕ) → (j.from.role ≡ pseudo → ⊥) → j.from.meaning ≡ Some (compound b) → port_count (outputs_of c b) ≤ j.out_port →
        (o : Owner) → IsOwner (elements_of_scope c s v) o j.from → (port : ℕ) → port ≡ j.out_port → (first : Span) → source_by ls ports o port first ≡ Some (token_fault kind.CompoundPort first)
    lack-source j b r m l owner.Input h port p first = absurd (r h.0)
    lack-source j b r m l owner.Output h port p first = absurd (r h.0)
    lack-source j b r m l (owner.Element n) h port p first =
        ap (λ x. lacking (outputs_by ports x) port first) (means-joined n b j.from h m)
        ∙ ap (λ t. token_fault_if (not t) kind.CompoundPort first) (not-below port ((ports_or (slice_get ports b)).outputs) (let y = (hp.each b).outs in omega (arith, y, l, p)))

    pub lack-target : (j : WrittenConnection) (b : ℕ) → (j.to.role ≡ pseudo → ⊥) → j.to.meaning ≡ Some (compound b) → port_count (inputs_of c b) ≤ j.in_port →
        (o : Owner) → IsOwner (elements_of_scope c s v) o j.to → (port : ℕ) → port ≡ j.in_port → (first : Span) → target_by ls ports o port first ≡ Some (token_fault kind.CompoundPort first)
    lack-target j b r m l owner.Input h port p first = absurd (r h.0)
    lack-target j b r m l owner.Output h port p first = absurd (r h.0)
    lack-target j b r m l (owner.Element n) h port p first =
        ap (λ x. lacking (inputs_by ports x) port first) (means-joined n b j.to h m)
        ∙ ap (λ t. token_fault_if (not t) kind.CompoundPort first) (not-below port ((ports_or (slice_get ports b)).inputs) (let y = (hp.each b).ins in omega (arith, y, l, p)))

    pub own-source : (e : End) → is_by output_name e.name e.role ≡ true → (o : Owner) → IsOwner (elements_of_scope c s v) o e → (port : ℕ) (first : Span) →
        source_by ls ports o port first ≡ Some (token_fault kind.CompoundPort first)
    own-source e t owner.Input h port first = absurd (let f : is_by output_name e.name e.role ≡ false = own-port output_name e.name e.role input_name h.0 h.1 in cc (t, f))
    own-source e t owner.Output h port first = refl
    own-source e t (owner.Element n) h port first = absurd (let f : is_by output_name e.name e.role ≡ false = other-port output_name e.name e.role h.0 in cc (t, f))

    pub own-target : (e : End) → is_by input_name e.name e.role ≡ true → (o : Owner) → IsOwner (elements_of_scope c s v) o e → (port : ℕ) (first : Span) →
        target_by ls ports o port first ≡ Some (token_fault kind.CompoundPort first)
    own-target e t owner.Input h port first = refl
    own-target e t owner.Output h port first = absurd (let f : is_by input_name e.name e.role ≡ false = own-port input_name e.name e.role output_name h.0 h.1 in cc (t, f))
    own-target e t (owner.Element n) h port first = absurd (let f : is_by input_name e.name e.role ≡ false = other-port input_name e.name e.role h.0 in cc (t, f))

    pub written_connection-from : (j : WrittenConnection) → Contains (scope_connections c s v) j → (first : Span) →
        ((k : ConnectionKept) → IsWrittenConnection (elements_of_scope c s v) k j →
        (source_by ls ports k.from.owner k.out_port k.from.first ≡ Some (token_fault kind.CompoundPort first))
        ⊎ (target_by ls ports k.to.owner k.in_port k.to.first ≡ Some (token_fault kind.CompoundPort first))) →
        Among (IsWrongWrittenConnection ls ports ks) (length ks) (token_fault kind.CompoundPort first)
    written_connection-from j i first f =
        let n = at-contains (scope_connections c s v) j i in
        let r = written_connections-kept (elements_of_scope c s v) ks (scope_connections c s v) n.0 j hk n.1 in
        record { place = n.0; within = slice_get_within ks n.0 r.0 r.1; is = record { written_connection = r.0; there = r.1; is = f r.0 r.2 } }

wrong-yes : (b : Bool) (k : WrongUse) (s : Span) (w : TokenFault) → token_fault_if b k s ≡ Some w → (b ≡ true) × (w ≡ token_fault k s)
wrong-yes true k s w h = (refl, sym (same_Some (token_fault k s) w h))
wrong-yes false k s w h = absurd (cc h)

module _ (c : Config) (n : IsNested c) (scopes : List ScopeKept) (ports : List Ports) (hs : AreAllScopes c scopes) (hp : ArePorts c ports) where
  -- a misuse in a body, of its ports, or in the whole text
  abbrev pub IsWrongSomewhere : TokenFault → Type 0
  IsWrongSomewhere w =
      Among (IsCompoundFaultOfBody c.bodies scopes ports) (length c.bodies) w ⊎ IsWrongIn c.bodies scopes ports (length c.bodies) w

  module _ (s : Scope) (v : List Statement) (a : List Scope) (st : Stands c s v a) where
    in-to : (w : TokenFault) → IsWrongIn c.bodies scopes ports (table_place c s) w → IsCompoundFault c w
    in-to w h =
        let i = table_place c s in
        let r = hs s v a st in let ls = r.0.elements.items in
        elim h [
          | inl x ↦ call-to c s v a st ls r.2.elements r.2.arguments x.place w (subst (λ y. IsWrongCall c.bodies y x.place w) (ap elements_by r.1) x.is)
          | inr x ↦
              written_connection-to c s v a st ls r.2.elements ports hp r.0.connections r.2.connections x.place w
              (subst (λ y. IsWrongWrittenConnection ls ports y x.place w) (ap connections_by r.1) (subst (λ y. IsWrongWrittenConnection y ports (connections_by (slice_get scopes i)) x.place w) (ap elements_by r.1) x.is))
        ]

    placed-in : (w : TokenFault) → IsWrongIn c.bodies scopes ports (table_place c s) w → IsWrongSomewhere w
    placed-in w h = by_scope s refl h
      where
        by_scope : (t : Scope) → s ≡ t → IsWrongIn c.bodies scopes ports (table_place c t) w → IsWrongSomewhere w
        by_scope whole e k = inr k
        by_scope (inside b) e k = inl (record { place = b; within = inside-within c n s v a st b e; is = inl k })

    calls-in : (w : TokenFault) → ((ls : List ScopeElementKept) → map (scope_element_of c.text) ls ≡ elements_of_scope c s v → All (HasArguments c.text) ls → Among (IsWrongCall c.bodies ls) (length ls) w) → IsWrongSomewhere w
    calls-in w f =
        let r = hs s v a st in
        placed-in w (inl (subst (λ x. Among (IsWrongCall c.bodies x) (length x) w) (sym (ap elements_by r.1)) (f r.0.elements.items r.2.elements r.2.arguments)))

    written_connections-in : (w : TokenFault) → ((ls : List ScopeElementKept) → map (scope_element_of c.text) ls ≡ elements_of_scope c s v → (ks : List ConnectionKept) → AreWrittenConnections (elements_of_scope c s v) ks (scope_connections c s v) →
        Among (IsWrongWrittenConnection ls ports ks) (length ks) w) → IsWrongSomewhere w
    written_connections-in w f =
        let r = hs s v a st in let here = slice_get scopes (table_place c s) in
        placed-in w
        (inr (subst (λ x. Among (IsWrongWrittenConnection x ports (connections_by here)) (length (connections_by here)) w) (sym (ap elements_by r.1))
        (subst (λ x. Among (IsWrongWrittenConnection r.0.elements.items ports x) (length x) w) (sym (ap connections_by r.1)) (f r.0.elements.items r.2.elements r.0.connections r.2.connections))))

  gap-to : (b : ℕ) → b < length c.bodies → (w : TokenFault) → gap_at c.bodies ports b ≡ Some w → IsCompoundFault c w
  gap-to b l w h =
      let r = wrong-yes ((ports_or (slice_get ports b)).gap) kind.CompoundPort (brace_of c b) w h in
      let st = body-stands c n b l in
      least-kind c kind.CompoundPort (brace_of c b) w (omega arith) r.1
      (elim ((hp.each b).gaps.0 r.0) [
        | inl g ↦ input_gap b st.visible st.enclosing g.port st.stands g.below g.unused
        | inr g ↦ output_gap b st.visible st.enclosing g.port st.stands g.below g.unused
      ])

  gap-from : (b : ℕ) → b < length c.bodies → HasGap (inputs_of c b) ⊎ HasGap (outputs_of c b) → IsWrongSomewhere (token_fault kind.CompoundPort (brace_of c b))
  gap-from b l g = inl (record { place = b; within = l; is = inr (ap (λ t. token_fault_if t kind.CompoundPort (brace_of c b)) ((hp.each b).gaps.1 g)) })

  somewhere-to : (w : TokenFault) → IsWrongSomewhere w → IsCompoundFault c w
  somewhere-to w h = elim h [
    | inl x ↦
        (let st = body-stands c n x.place x.within in
        elim x.is [
          | inl y ↦ in-to (inside x.place) st.visible st.enclosing st.stands w y
          | inr y ↦ gap-to x.place x.within w y
        ])
    | inr y ↦ in-to whole [] [] at_top w y
  ]

  wrong-somewhere : (k : WrongUse) (p : Span) → IsWrong c k p → 14 ≤ fault_number k → IsWrongSomewhere (token_fault k p)
  wrong-somewhere k p (unknown_name s v a front back q w st e r x y z) l = absurd (omega (arith, l))
  wrong-somewhere k p (unknown_class s v a front back q w string st e x y z) l = absurd (omega (arith, l))
  wrong-somewhere k p (unknown_declared s v a front back q m w st e x y) l = absurd (omega (arith, l))
  wrong-somewhere k p (unknown_original s v a before after m w st e x) l = absurd (omega (arith, l))
  wrong-somewhere k p (named_twice s v a front back q st e r x y) l = absurd (omega (arith, l))
  wrong-somewhere k p (port_declared b v a front back q m d st e x y) l = absurd (omega (arith, l))
  wrong-somewhere k p (formal_twice b v a front back f st e x) l = absurd (omega (arith, l))
  wrong-somewhere k p (wrong_parameters s v a front back q b spans st e r m read other) l =
      calls-in s v a st (token_fault kind.WrongParameters (first_token c q.element.head))
      (λ ls same h. call-from c s v a st ls same h front back q b spans e r m read other)
  wrong-somewhere k p (no_output s v a j b st i r m x) l =
      written_connections-in s v a st (token_fault kind.CompoundPort j.from.first)
      (λ ls same ks hk. written_connection-from c s v a st ls same ports hp ks hk j i j.from.first
      (λ kj h. inl (lack-source c s v a st ls same ports hp ks hk j b r m x kj.from.owner h.from.owner kj.out_port h.out_port kj.from.first ∙ ap (λ y. Some (token_fault kind.CompoundPort y)) h.from.first)))
  wrong-somewhere k p (no_input s v a j b st i r m x) l =
      written_connections-in s v a st (token_fault kind.CompoundPort j.to.first)
      (λ ls same ks hk. written_connection-from c s v a st ls same ports hp ks hk j i j.to.first
      (λ kj h. inr (lack-target c s v a st ls same ports hp ks hk j b r m x kj.to.owner h.to.owner kj.in_port h.in_port kj.to.first ∙ ap (λ y. Some (token_fault kind.CompoundPort y)) h.to.first)))
  wrong-somewhere k p (output_as_source s v a j st i t) l =
      written_connections-in s v a st (token_fault kind.CompoundPort j.from.first)
      (λ ls same ks hk. written_connection-from c s v a st ls same ports hp ks hk j i j.from.first
      (λ kj h. inl (own-source c s v a st ls same ports hp ks hk j.from t kj.from.owner h.from.owner kj.out_port kj.from.first ∙ ap (λ y. Some (token_fault kind.CompoundPort y)) h.from.first)))
  wrong-somewhere k p (input_as_target s v a j st i t) l =
      written_connections-in s v a st (token_fault kind.CompoundPort j.to.first)
      (λ ls same ks hk. written_connection-from c s v a st ls same ports hp ks hk j i j.to.first
      (λ kj h. inr (own-target c s v a st ls same ports hp ks hk j.to t kj.to.owner h.to.owner kj.in_port kj.to.first ∙ ap (λ y. Some (token_fault kind.CompoundPort y)) h.to.first)))
  wrong-somewhere k p (input_gap b v a q st x y) l =
      gap-from b (inside-within c n (inside b) v a st b refl) (inl (record { port = q; below = x; unused = y }))
  wrong-somewhere k p (output_gap b v a q st x y) l =
      gap-from b (inside-within c n (inside b) v a st b refl) (inr (record { port = q; below = x; unused = y }))

  pub compound_fault-least : (bs : List Body) (ps qs : List Ports) (len : ℕ) (x y o : Option TokenFault) → bs ≡ c.bodies → ps ≡ ports → qs ≡ ports → len ≡ length c.bodies →
      IsLeast (Among (IsCompoundFaultOfBody bs scopes ps) (length bs)) x → IsLeast (IsWrongIn bs scopes qs len) y → o ≡ first_of x y → IsLeast (IsCompoundFault c) o
  compound_fault-least bs ps qs len x y o eb ep eq el h k e =
      let h1 = subst (λ z. IsLeast (Among (IsCompoundFaultOfBody z scopes ps) (length z)) x) eb h in
      let h2 = subst (λ z. IsLeast (Among (IsCompoundFaultOfBody c.bodies scopes z) (length c.bodies)) x) ep h1 in
      let k1 = subst (λ z. IsLeast (IsWrongIn z scopes qs len) y) eb k in
      let k2 = subst (λ z. IsLeast (IsWrongIn c.bodies scopes z len) y) eq k1 in
      let k3 = subst (λ z. IsLeast (IsWrongIn c.bodies scopes ports z) y) el k2 in
      subst (IsLeast (IsCompoundFault c)) (sym e)
      (least-same IsWrongSomewhere (IsCompoundFault c) (first_of x y) somewhere-to (λ w m. wrong-somewhere w.kind w.span m.wrong m.kind)
      (least-first_of (Among (IsCompoundFaultOfBody c.bodies scopes ports) (length c.bodies)) (IsWrongIn c.bodies scopes ports (length c.bodies)) x y h2 k3))
