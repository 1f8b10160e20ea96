-- The ports of each body. They do not depend on what is visible before the body.
use Rattle.std.proofs.Common.{◌≡◌, inl, inr, ℕ, ◌+◌, ◌<◌, ◌≤◌, List, [], ◌∷◌, ◌++◌, map, length, Bool, true, false, cond, None, refl, sym, ap, ◌∙◌, subst, arith, Contains}
use Rattle.std.specs.List.{slice_get}
use Rattle.std.specs.Str.{bytes_eq}
use Rattle.std.proofs.lemmas.Bool.{cases_order, cases_lt}
use Rattle.std.proofs.lemmas.List.{map-append, length_push}
use Rattle.std.proofs.lemmas.List.Elements.{Contains-append_cases}
use Rattle.std.proofs.lemmas.Option.{slice_get_past}
use Rattle.click_text.specs.declared.syntax.Element.{Element}
use Rattle.click_text.specs.declared.syntax.Link.{Link}
use Rattle.click_text.specs.declared.syntax.Statement.{Statement}
use Rattle.click_text.specs.declared.syntax.Statement.TheVariants as statement
use Rattle.click_text.specs.declared.syntax.Config.{Config}
use Rattle.click_scopes.specs.Scopes.{Scope, whole, inside, is_body, body_statements, bodies_in, statement_elements, statements_of, Stands, at_top, nested}
use Rattle.click_scopes.specs.Elements.{Placed, place, placed, declared_names, Role, pseudo, refers, makes, input_name, output_name, ScopeElement}
use Rattle.click_scopes.specs.Faults.{ScopeNames, End, written_end, WrittenConnection, number_behind, number_after_all, written_connections_behind, written_connections_from, statement_connections, scope_connections, input_ports, output_ports, inputs_of, outputs_of}
use Rattle.click_scopes.specs.kept.Nesting.{direct, Nests, no_bodies, next_body, IsNested}
use Rattle.click_scopes.specs.kept.WrittenConnections.{IsOwner, AreWrittenConnections}
use Rattle.click_scopes.specs.kept.AllScopes.{AreAllScopes}
use Rattle.click_scopes.specs.kept.Lookups.{connections_by}
use Rattle.click_scopes.specs.kept.ConnectionEnds.{placed_elements}
use Rattle.click_scopes.specs.kept.Tables.{names_declared}
use Rattle.click_scopes.specs.kept.CompoundFaults.{from_input, to_output, inputs_kept, outputs_kept, HasGap, IsPorts, ports_or, ArePorts}
use Rattle.click_scopes.specs.declared.written_connections.Owner.{Owner}
use Rattle.click_scopes.specs.declared.written_connections.Owner.TheVariants as owner
use Rattle.click_scopes.specs.declared.written_connections.WrittenConnection.{WrittenConnection as ConnectionKept}
use Rattle.click_scopes.specs.declared.scopes.Scope.{Scope as ScopeKept}
use Rattle.click_scopes.specs.declared.ports.Ports.{Ports}
use Rattle.click_scopes.proofs.OfLists.StatementTables.{slice_get-more, slice_get-last}
use Rattle.click_scopes.proofs.OfLists.ListParts.{contains-here, contains-behind}
use Rattle.click_scopes.proofs.OfBodies.OneBodyPlace.{contains-nil}
use Rattle.click_scopes.proofs.OfConnections.EndOwners.{names-placed, some-there}

-- The body is in some scope.
pub record StandsSomewhere (c : Config) (b : ℕ) : Type 0 where
  pub visible : List Statement
  pub enclosing : List Scope
  pub stands : Stands c (inside b) visible enclosing

record IsDirect (ss : List Statement) (b : ℕ) : Type 0 where
  pub before : List Statement
  pub after : List Statement
  pub statement : Statement
  pub splits : ss ≡ before ++ statement ∷ after
  pub there : Contains (bodies_in statement) b

direct-split : (ss : List Statement) (b : ℕ) → Contains (direct ss) b → IsDirect ss b
direct-split [] b h = absurd (contains-nil b h)
direct-split (s ∷ ss) b h =
    elim (Contains-append_cases (bodies_in s) (direct ss) b h) [
      | inl i ↦ record { before = []; after = ss; statement = s; splits = refl; there = i }
      | inr j ↦ (let r = direct-split ss b j in record { before = s ∷ r.before; after = r.after; statement = r.statement; splits = ap (λ x. s ∷ x) r.splits; there = r.there })
    ]

module _ (c : Config) where
  stands-inside : (s : Scope) (v : List Statement) (a : List Scope) → Stands c s v a → (b : ℕ) → Contains (direct (statements_of c s)) b → StandsSomewhere c b
  stands-inside s v a h b i =
      let r = direct-split (statements_of c s) b i in
      record { visible = _; enclosing = _; stands = nested s v a r.before r.after r.statement b h r.splits r.there }

  stands-range : (from : ℕ) (bs : List ℕ) (to : ℕ) → Nests c.bodies from bs to → ((r : ℕ) → Contains bs r → StandsSomewhere c r) → (p : ℕ) → from ≤ p → p < to → StandsSomewhere c p
  stands-range from bs to (no_bodies at) f p l m = absurd (omega (arith, l, m))
  stands-range from bs to (next_body a b z rs n h k) f p l m =
      let here = f b (contains-here b rs) in
      elim (cases_order p b) [
        | inl e ↦ subst (StandsSomewhere c) (sym e) here
        | inr (inl s) ↦ stands-range a (direct (body_statements (slice_get c.bodies b))) b h (λ r i. stands-inside (inside b) here.visible here.enclosing here.stands r i) p l s
        | inr (inr s) ↦ stands-range (b + 1) rs z k (λ r i. f r (contains-behind b rs r i)) p (omega (arith, s)) m
      ]

  pub body-stands : IsNested c → (b : ℕ) → b < length c.bodies → StandsSomewhere c b
  body-stands n b l = stands-range 0 (direct c.statements) (length c.bodies) n (λ r i. stands-inside whole [] [] at_top r i) b (omega arith) l

-- the end is one of a body's own ports, with the name w
abbrev pub is_by : List ℕ → List ℕ → Role → Bool
is_by w n pseudo = bytes_eq n w
is_by w n refers = false
is_by w n makes = false

module _ (ls : List ScopeElement) where
  input-owner : (o : Owner) (e : End) → IsOwner ls o e → (p q : ℕ) → p ≡ q → (xs : List ℕ) → from_input o p xs ≡ cond (is_by input_name e.name e.role) (q ∷ xs) xs
  input-owner owner.Input e h p q s xs =
      ap (λ x. x ∷ xs) s ∙ ap (λ n. cond (is_by input_name n pseudo) (q ∷ xs) xs) (sym h.1) ∙ ap (λ r. cond (is_by input_name e.name r) (q ∷ xs) xs) (sym h.0)
  input-owner owner.Output e h p q s xs =
      ap (λ n. cond (is_by input_name n pseudo) (q ∷ xs) xs) (sym h.1) ∙ ap (λ r. cond (is_by input_name e.name r) (q ∷ xs) xs) (sym h.0)
  input-owner (owner.Element i) e h p q s xs = by_role e.role h.0
    where
      by_role : (r : Role) → (r ≡ pseudo → ⊥) → xs ≡ cond (is_by input_name e.name r) (q ∷ xs) xs
      by_role pseudo k = absurd (k refl)
      by_role refers k = refl
      by_role makes k = refl

  output-owner : (o : Owner) (e : End) → IsOwner ls o e → (p q : ℕ) → p ≡ q → (xs : List ℕ) → to_output o p xs ≡ cond (is_by output_name e.name e.role) (q ∷ xs) xs
  output-owner owner.Output e h p q s xs =
      ap (λ x. x ∷ xs) s ∙ ap (λ n. cond (is_by output_name n pseudo) (q ∷ xs) xs) (sym h.1) ∙ ap (λ r. cond (is_by output_name e.name r) (q ∷ xs) xs) (sym h.0)
  output-owner owner.Input e h p q s xs =
      ap (λ n. cond (is_by output_name n pseudo) (q ∷ xs) xs) (sym h.1) ∙ ap (λ r. cond (is_by output_name e.name r) (q ∷ xs) xs) (sym h.0)
  output-owner (owner.Element i) e h p q s xs = by_role e.role h.0
    where
      by_role : (r : Role) → (r ≡ pseudo → ⊥) → xs ≡ cond (is_by output_name e.name r) (q ∷ xs) xs
      by_role pseudo k = absurd (k refl)
      by_role refers k = refl
      by_role makes k = refl

  inputs-said : (ks : List ConnectionKept) (js : List WrittenConnection) → AreWrittenConnections ls ks js → inputs_kept ks ≡ input_ports js
  inputs-said [] [] h = refl
  inputs-said [] (j ∷ js) h = absurd h
  inputs-said (k ∷ ks) [] h = absurd h
  inputs-said (k ∷ ks) (j ∷ js) h =
      ap (from_input k.from.owner k.out_port) (inputs-said ks js h.1) ∙ input-owner k.from.owner j.from h.0.from.owner k.out_port j.out_port h.0.out_port (input_ports js)

  outputs-said : (ks : List ConnectionKept) (js : List WrittenConnection) → AreWrittenConnections ls ks js → outputs_kept ks ≡ output_ports js
  outputs-said [] [] h = refl
  outputs-said [] (j ∷ js) h = absurd h
  outputs-said (k ∷ ks) [] h = absurd h
  outputs-said (k ∷ ks) (j ∷ js) h =
      ap (to_output k.to.owner k.in_port) (outputs-said ks js h.1) ∙ output-owner k.to.owner j.to h.0.to.owner k.in_port j.in_port h.0.in_port (output_ports js)

-- two ends are the same of a body's own ports, or neither is one
abbrev IsAlike : End → End → Type 0
IsAlike e f = (w : List ℕ) → is_by w e.name e.role ≡ is_by w f.name f.role

abbrev AreAlike : List WrittenConnection → List WrittenConnection → Type 0
AreAlike [] [] = Unit {0}
AreAlike [] (k ∷ ks) = ⊥
AreAlike (j ∷ js) [] = ⊥
AreAlike (j ∷ js) (k ∷ ks) = IsAlike j.from k.from × (j.out_port ≡ k.out_port) × IsAlike j.to k.to × (j.in_port ≡ k.in_port) × AreAlike js ks

alike-append : (js ks us vs : List WrittenConnection) → AreAlike js ks → AreAlike us vs → AreAlike (js ++ us) (ks ++ vs)
alike-append [] [] us vs h i = i
alike-append [] (k ∷ ks) us vs h i = absurd h
alike-append (j ∷ js) [] us vs h i = absurd h
alike-append (j ∷ js) (k ∷ ks) us vs h i = (h.0, h.1, h.2, h.3, alike-append js ks us vs h.4 i)

alike-inputs : (js ks : List WrittenConnection) → AreAlike js ks → input_ports js ≡ input_ports ks
alike-inputs [] [] h = refl
alike-inputs [] (k ∷ ks) h = absurd h
alike-inputs (j ∷ js) [] h = absurd h
alike-inputs (j ∷ js) (k ∷ ks) h =
    ap (λ xs. cond (is_by input_name j.from.name j.from.role) (j.out_port ∷ xs) xs) (alike-inputs js ks h.4)
    ∙ ap (λ b. cond b (j.out_port ∷ input_ports ks) (input_ports ks)) (h.0 input_name)
    ∙ ap (λ p. cond (is_by input_name k.from.name k.from.role) (p ∷ input_ports ks) (input_ports ks)) h.1

alike-outputs : (js ks : List WrittenConnection) → AreAlike js ks → output_ports js ≡ output_ports ks
alike-outputs [] [] h = refl
alike-outputs [] (k ∷ ks) h = absurd h
alike-outputs (j ∷ js) [] h = absurd h
alike-outputs (j ∷ js) (k ∷ ks) h =
    ap (λ xs. cond (is_by output_name j.to.name j.to.role) (j.in_port ∷ xs) xs) (alike-outputs js ks h.4)
    ∙ ap (λ b. cond b (j.in_port ∷ output_ports ks) (output_ports ks)) (h.2 output_name)
    ∙ ap (λ p. cond (is_by output_name k.to.name k.to.role) (p ∷ output_ports ks) (output_ports ks)) h.3

module _ (c : Config) (b : Bool) (d : List (List ℕ)) (ps qs : List Placed) where
  abbrev these : ScopeNames
  these = record { in_body = b; declared = d; written = ps }

  abbrev those : ScopeNames
  those = record { in_body = b; declared = d; written = qs }

  number-same : (v w : List Statement) (n : ℕ) (es : List Element) → number_after_all c these n (map (place v) es) ≡ number_after_all c those n (map (place w) es)
  unfolding number_after_all
  number-same v w n [] = refl
  number-same v w n (e ∷ es) = number-same v w (number_behind c these n (place v e)) es

  alike-links : (v w : List Statement) (n : ℕ) (e f : End) (ls : List Link) → IsAlike e f → AreAlike (written_connections_behind c these v n e ls) (written_connections_behind c those w n f ls)
  unfolding written_connections_behind
  alike-links v w n e f [] h = tt
  alike-links v w n e f (l ∷ ls) h = (
    h,
    refl,
    (λ x. refl),
    refl,
    alike-links v w (number_behind c these n (place v l.element)) (written_end c these n (place v l.element)) (written_end c those n (place w l.element)) ls (λ x. refl),
  )

  alike-statement : (v w : List Statement) (n : ℕ) (st : Statement) → AreAlike (statement_connections c these v n st) (statement_connections c those w n st)
  alike-statement v w n (statement.Chain k) =
      alike-links v w (number_behind c these n (place v k.first)) (written_end c these n (place v k.first)) (written_end c those n (place w k.first)) k.links (λ x. refl)
  alike-statement v w n (statement.Declaration k) = tt
  alike-statement v w n (statement.Definition m k) = tt
  alike-statement v w n (statement.Synonym m k) = tt
  alike-statement v w n (statement.Requirement k) = tt

  alike-all : (v w : List Statement) (n : ℕ) (ss : List Statement) → AreAlike (written_connections_from c these v n ss) (written_connections_from c those w n ss)
  unfolding written_connections_from
  alike-all v w n [] = tt
  alike-all v w n (st ∷ ss) =
      alike-append (statement_connections c these v n st) (statement_connections c those w n st) _ _ (alike-statement v w n st)
      (subst (λ m. AreAlike (written_connections_from c these (st ∷ v) (number_after_all c these n (map (place v) (statement_elements st))) ss) (written_connections_from c those (st ∷ w) m ss))
      (number-same v w n (statement_elements st)) (alike-all (st ∷ v) (st ∷ w) (number_after_all c these n (map (place v) (statement_elements st))) ss))

elements-placed : (v w : List Statement) (es : List Element) → placed_elements (map (place v) es) ≡ placed_elements (map (place w) es)
elements-placed v w [] = refl
elements-placed v w (e ∷ es) = ap (λ xs. e ∷ xs) (elements-placed v w es)

elements-same : (v w ss : List Statement) → placed_elements (placed v ss) ≡ placed_elements (placed w ss)
elements-same v w [] = refl
elements-same v w (s ∷ ss) =
    map-append (λ (p : Placed). p.element) (map (place v) (statement_elements s)) (placed (s ∷ v) ss)
    ∙ ap (λ xs. xs ++ placed_elements (placed (s ∷ v) ss)) (elements-placed v w (statement_elements s))
    ∙ ap (λ xs. placed_elements (map (place w) (statement_elements s)) ++ xs) (elements-same (s ∷ v) (s ∷ w) ss)
    ∙ sym (map-append (λ (p : Placed). p.element) (map (place w) (statement_elements s)) (placed (s ∷ w) ss))

module _ (c : Config) (s : Scope) (v w : List Statement) where
  scopes-alike : AreAlike (scope_connections c s v) (scope_connections c s w)
  scopes-alike =
      let ss = statements_of c s in
      let same : declared_names c.text (placed v ss) ≡ declared_names c.text (placed w ss) =
      sym (names-placed c.text (placed v ss)) ∙ ap (names_declared c.text) (elements-same v w ss) ∙ names-placed c.text (placed w ss) in
      subst (λ (d : List (List ℕ)). AreAlike (scope_connections c s v) (written_connections_from c (record { in_body = is_body s; declared = d; written = placed w ss }) w 0 ss)) same
      (alike-all c (is_body s) (declared_names c.text (placed v ss)) (placed v ss) (placed w ss) v w 0 ss)

  pub inputs-same : input_ports (scope_connections c s v) ≡ input_ports (scope_connections c s w)
  inputs-same = alike-inputs (scope_connections c s v) (scope_connections c s w) scopes-alike

  pub outputs-same : output_ports (scope_connections c s v) ≡ output_ports (scope_connections c s w)
  outputs-same = alike-outputs (scope_connections c s v) (scope_connections c s w) scopes-alike

module _ (c : Config) (n : IsNested c) (scopes : List ScopeKept) (h : AreAllScopes c scopes) where
  pub body-ports : (b : ℕ) (p : Ports) → b < length c.bodies → IsPorts (inputs_kept (connections_by (slice_get scopes b))) (outputs_kept (connections_by (slice_get scopes b))) p →
      IsPorts (inputs_of c b) (outputs_of c b) p
  body-ports b p l i =
      let st = body-stands c n b l in
      let r = h (inside b) st.visible st.enclosing st.stands in
      let row : connections_by (slice_get scopes b) ≡ r.0.connections = ap connections_by r.1 in
      subst (λ xs. IsPorts xs (outputs_of c b) p) (ap inputs_kept row ∙ inputs-said _ r.0.connections _ r.2.connections ∙ inputs-same c (inside b) st.visible [])
      (subst (λ xs. IsPorts (inputs_kept (connections_by (slice_get scopes b))) xs p) (ap outputs_kept row ∙ outputs-said _ r.0.connections _ r.2.connections ∙ outputs-same c (inside b) st.visible []) i)

no-gap : HasGap [] → ⊥
no-gap g = let b = g.below in omega (arith, b)

none-from : (c : Config) (names : ScopeNames) (v : List Statement) (n : ℕ) → written_connections_from c names v n [] ≡ []
unfolding written_connections_from
none-from c names v n = refl

nothing-there : (c : Config) (b : ℕ) → slice_get c.bodies b ≡ None → scope_connections c (inside b) [] ≡ []
nothing-there c b e =
    ap (λ ss. written_connections_from c (record { in_body = true; declared = declared_names c.text (placed [] ss); written = placed [] ss }) [] 0 ss) (ap body_statements e)
    ∙ none-from c (record { in_body = true; declared = []; written = [] }) [] 0

pub no-body : (c : Config) (b : ℕ) → length c.bodies ≤ b → IsPorts (inputs_of c b) (outputs_of c b) (ports_or None)
no-body c b l =
    subst (λ js. IsPorts (input_ports js) (output_ports js) (ports_or None)) (sym (nothing-there c b (slice_get_past c.bodies b l)))
    (record { ins = refl; outs = refl; gaps = ((λ t. absurd (cc t)), (λ g. absurd (elim g [ inl x ↦ no-gap x | inr x ↦ no-gap x ]))) })

-- the ports of the first i bodies
pub record Counted (c : Config) (all : List Ports) (i : ℕ) : Type 0 where
  pub count : length all ≡ i
  pub each : (b : ℕ) → b < i → IsPorts (inputs_of c b) (outputs_of c b) (ports_or (slice_get all b))

pub counted-first : (c : Config) (all : List Ports) → all ≡ [] → Counted c all 0
counted-first c all e = record { count = ap length e; each = λ b l. absurd (omega (arith, l)) }

pub counted-next : (c : Config) (all new : List Ports) (i : ℕ) (p : Ports) → IsPorts (inputs_of c i) (outputs_of c i) p → new ≡ all ++ p ∷ [] → Counted c all i → Counted c new (i + 1)
counted-next c all new i p h e k = record {
  count = ap length e ∙ length_push all p ∙ ap (λ n. n + 1) k.count;
  each = λ b l. elim (cases_order b i) [
    | inl s ↦
        subst (IsPorts (inputs_of c b) (outputs_of c b))
        (sym (ap ports_or (ap (slice_get new) (s ∙ sym k.count) ∙ ap (λ xs. slice_get xs (length all)) e ∙ slice_get-last all p)))
        (subst (λ n. IsPorts (inputs_of c n) (outputs_of c n) p) (sym s) h)
    | inr (inl s) ↦
        (let r = some-there all b (let m = k.count in omega (arith, s, m)) in
        subst (IsPorts (inputs_of c b) (outputs_of c b))
        (sym (ap ports_or (ap (λ xs. slice_get xs b) e ∙ slice_get-more all (p ∷ []) b r.0 r.1 ∙ sym r.1))) (k.each b s))
    | inr (inr s) ↦ absurd (omega (arith, l, s))
  ];
}

pub counted-all : (c : Config) (all : List Ports) (i : ℕ) → length c.bodies ≤ i → Counted c all i → ArePorts c all
counted-all c all i l k = record {
  each = λ b. elim (cases_lt b i) [
    | inl s ↦ k.each b s
    | inr s ↦
        subst (IsPorts (inputs_of c b) (outputs_of c b)) (ap ports_or (sym (slice_get_past all b (let m = k.count in omega (arith, s, m)))))
        (no-body c b (omega (arith, l, s)))
  ];
}
