-- The first misuse of a name, class or declaration of a configuration.
use Rattle.std.proofs.Common.{◌≡◌, ◌⊎◌, inl, inr, ◌≤◌, List, [], ◌∷◌, ◌++◌, take, length, true, nat_lt, Option, Some, None, refl, sym, ap, ◌∙◌, subst, arith}
use Rattle.click_text.specs.declared.syntax.Span.{Span}
use Rattle.click_text.specs.declared.syntax.Head.TheVariants as head
use Rattle.click_text.specs.declared.syntax.ClassReference.TheVariants as class
use Rattle.click_text.specs.declared.syntax.Statement.{Statement}
use Rattle.click_text.specs.declared.syntax.Config.{Config}
use Rattle.click_scopes.specs.Scopes.{Scope, whole, inside, is_body, Stands, at_top}
use Rattle.click_scopes.specs.Elements.{Placed, makes, role_of_head, scope_elements_from}
use Rattle.click_base.specs.NameLists.{has_name}
use Rattle.click_scopes.specs.Faults.{IsWrong, fault_number, scope_placed, scope_declared, role_in, first_token, unknown_name, unknown_class, unknown_declared, unknown_original, named_twice, port_declared, formal_twice, wrong_parameters, no_output, no_input, output_as_source, input_as_target, input_gap, output_gap}
use Rattle.click_scopes.specs.kept.Nesting.{IsNested}
use Rattle.click_scopes.specs.kept.Scoped.{table_place, AreSynonyms}
use Rattle.click_scopes.specs.kept.AllScopes.{AreAllScopes}
use Rattle.click_scopes.specs.kept.Lookups.{elements_by}
use Rattle.click_scopes.specs.kept.FirstFault.{token_fault, AtMost, IsLeast, IsNameFault, first_of, local_names, IsWrongScopeElement}
use Rattle.click_scopes.specs.kept.NameFaults.{IsWrongAt, IsNameFaultWithin, IsWrongEntry}
use Rattle.click_scopes.specs.declared.scope_elements.ScopeElement.{ScopeElement as ScopeElementKept}
use Rattle.click_scopes.specs.declared.scopes.Scope.{Scope as ScopeKept}
use Rattle.click_scopes.specs.declared.classes.ClassEntry.{ClassEntry}
use Rattle.click_scopes.specs.declared.fault.WrongUse.{WrongUse}
use Rattle.click_scopes.specs.declared.fault.WrongUse.TheVariants as kind
use Rattle.click_scopes.specs.declared.first_fault.TokenFault.{TokenFault}
use Rattle.click_scopes.proofs.OfBodies.ScopeWalk.{inside-within}
use Rattle.click_scopes.proofs.OfElements.ElementTables.{body-place}
use Rattle.click_scopes.proofs.OfBodies.BodyScopes.{all-placed}
use Rattle.click_scopes.proofs.OfFaults.LeastWrongUse.{least-first_of}
use Rattle.click_scopes.proofs.OfFaults.PlaceNameFaults.{least-before, at_most-same}
use Rattle.click_scopes.proofs.OfElements.WrittenElements.{IsKept}
use Rattle.click_scopes.proofs.OfFaults.ScopeNameFaults.{WrongHere, scope_element-sound, scope_element-found, unknown-here, twice-here, port-here, formal-sound, formal-found, entry-sound, entry-found}

-- a misuse in the whole text or in a body, or a synonym of an unknown class
abbrev pub AnyWrong : Config → List ClassEntry → List ScopeKept → TokenFault → Type 0
AnyWrong c class_table all w = (IsWrongAt c all (length c.bodies) w ⊎ IsNameFaultWithin c all (length c.bodies) w) ⊎ IsWrongEntry class_table (length class_table) w

-- a misuse is found that comes no later
abbrev Found : Config → List ClassEntry → List ScopeKept → TokenFault → Type 0
Found c class_table all w = (x : TokenFault) × AnyWrong c class_table all x × AtMost x w

module _ (c : Config) (class_table : List ClassEntry) (all : List ScopeKept) (n : IsNested c) (ls : AreAllScopes c all) (ys : AreSynonyms c class_table) where
  scope-sound : (s : Scope) (v : List Statement) (a : List Scope) → Stands c s v a → (w : TokenFault) → IsWrongAt c all (table_place c s) w → IsNameFault c w
  scope-sound s v a st w h =
      let x = ls s v a st in let es = x.0.elements.items in
      scope_element-sound c s v a st es x.2.elements x.2.strings w
      (subst (λ b. IsWrongScopeElement c.text c.bodies b es (length es) w) (body-place c n s v a st)
      (subst (λ zs. IsWrongScopeElement c.text c.bodies (nat_lt (table_place c s) (length c.bodies)) zs (length zs) w) (ap elements_by x.1) h))

  body-sound : (w : TokenFault) → IsNameFaultWithin c all (length c.bodies) w → IsNameFault c w
  body-sound w h =
      let p = all-placed c n h.place h.within in
      elim h.is [
        | inl q ↦ scope-sound (inside h.place) p.visible p.enclosing p.stands w q
        | inr q ↦ formal-sound c h.place p.visible p.enclosing p.stands w q
      ]

  any-sound : (w : TokenFault) → AnyWrong c class_table all w → IsNameFault c w
  any-sound w (inl (inl h)) = scope-sound whole [] [] at_top w h
  any-sound w (inl (inr h)) = body-sound w h
  any-sound w (inr h) = entry-sound c class_table ys w h

  scope-any : (s : Scope) (v : List Statement) (a : List Scope) → Stands c s v a → (x : TokenFault) → IsWrongAt c all (table_place c s) x → AnyWrong c class_table all x
  scope-any whole v a st x h = inl (inl h)
  scope-any (inside b) v a st x h = inl (inr (record { place = b; within = inside-within c n (inside b) v a st b refl; is = inl h }))

  scope-found : (s : Scope) (v : List Statement) (a : List Scope) (st : Stands c s v a) (front : List Placed) (p : Placed) (back : List Placed) → scope_placed c s v ≡ front ++ p ∷ back →
      role_in c s v p ≡ makes → (w : TokenFault) →
      ((items : List ScopeElementKept) (k : IsKept c.text (is_body s) (scope_declared c s v) items front p) →
      WrongHere c (is_body s) (has_name k.element.name.items (local_names (take (length (scope_elements_from c.text (is_body s) (scope_declared c s v) 0 front)) items))) k.element w) →
      Found c class_table all w
  scope-found s v a st front p back e r w f =
      let x = ls s v a st in
      let q = scope_element-found c s v a st x.0.elements.items x.2.elements x.2.strings front p back e r w (f x.0.elements.items) in (
        q.0,
        scope-any s v a st q.0
            (subst (λ zs. IsWrongScopeElement c.text c.bodies (nat_lt (table_place c s) (length c.bodies)) zs (length zs) q.0) (sym (ap elements_by x.1))
            (subst (λ b. IsWrongScopeElement c.text c.bodies b x.0.elements.items (length x.0.elements.items) q.0) (sym (body-place c n s v a st)) q.1)),
        q.2,
      )

  -- for each misuse of a name, class or declaration, one is found that comes no later
  any-found : (k : WrongUse) (t : Span) → IsWrong c k t → fault_number k ≤ 13 → Found c class_table all (token_fault k t)
  any-found k t (unknown_name s v a front back p w st e r eh et em) l =
      scope-found s v a st front p back e r (token_fault kind.UnknownName w)
      (λ items x. unknown-here c s v a st front p back e r items x (head.Word w) None (token_fault kind.UnknownName w) eh et em refl)
  any-found k t (unknown_class s v a front back p w y st e eh et em) l =
      let r : role_in c s v p ≡ makes =
      ap (λ h. role_of_head c.text (is_body s) (scope_declared c s v) h p.element.text) eh ∙ ap (role_of_head c.text (is_body s) (scope_declared c s v) (head.Word w)) et in
      scope-found s v a st front p back e r (token_fault kind.UnknownClass w)
      (λ items x. unknown-here c s v a st front p back e r items x (head.Word w) (Some y) (token_fault kind.UnknownClass w) eh et em refl)
  any-found k t (unknown_declared s v a front back p m w st e eh em) l =
      let r : role_in c s v p ≡ makes = ap (λ h. role_of_head c.text (is_body s) (scope_declared c s v) h p.element.text) eh in
      scope-found s v a st front p back e r (token_fault kind.UnknownClass w)
      (λ items x. unknown-here c s v a st front p back e r items x (head.Declared m (class.Named w)) p.element.text (token_fault kind.UnknownClass w) eh refl em refl)
  any-found k t (unknown_original s v a before after m w st e q) l =
      let P = AnyWrong c class_table all in
      at_most-same P (token_fault kind.UnknownClass w) (inr (entry-found c class_table ys s v a before after m w st e q))
  any-found k t (named_twice s v a front back p st e r why q) l =
      scope-found s v a st front p back e r (token_fault kind.DeclaredTwice (first_token c p.element.head))
      (λ items x. twice-here c s v a st front p back e r items x why q)
  any-found k t (port_declared b v a front back p m d st e eh q) l =
      let r : role_in c (inside b) v p ≡ makes = ap (λ h. role_of_head c.text true (scope_declared c (inside b) v) h p.element.text) eh in
      scope-found (inside b) v a st front p back e r (token_fault kind.DeclaredTwice m)
      (λ items x. port-here c (inside b) v a st front p back e r items x m d eh refl q)
  any-found k t (formal_twice b v a front back f st e q) l =
      let P = AnyWrong c class_table all in
      at_most-same P (token_fault kind.DeclaredTwice f)
      (inl (inr (record { place = b; within = inside-within c n (inside b) v a st b refl; is = inr (formal-found c b v a st front back f e q) })))
  any-found k t (wrong_parameters s v a front back p b fs st e r m x y) l = absurd (omega (arith, l))
  any-found k t (no_output s v a j b st e x y z) l = absurd (omega (arith, l))
  any-found k t (no_input s v a j b st e x y z) l = absurd (omega (arith, l))
  any-found k t (output_as_source s v a j st e x) l = absurd (omega (arith, l))
  any-found k t (input_as_target s v a j st e x) l = absurd (omega (arith, l))
  any-found k t (input_gap b v a p st e x) l = absurd (omega (arith, l))
  any-found k t (output_gap b v a p st e x) l = absurd (omega (arith, l))

  pub first-name_fault : (first bodies originals : Option TokenFault) → IsLeast (IsWrongAt c all (length c.bodies)) first → IsLeast (IsNameFaultWithin c all (length c.bodies)) bodies →
      IsLeast (IsWrongEntry class_table (length class_table)) originals → IsLeast (IsNameFault c) (first_of (first_of first bodies) originals)
  first-name_fault first bodies originals f b o =
      least-before (AnyWrong c class_table all) (IsNameFault c) (first_of (first_of first bodies) originals) any-sound (λ w q. any-found w.kind w.span q.wrong q.kind)
      (least-first_of (λ w. IsWrongAt c all (length c.bodies) w ⊎ IsNameFaultWithin c all (length c.bodies) w) (IsWrongEntry class_table (length class_table)) (first_of first bodies) originals
      (least-first_of (IsWrongAt c all (length c.bodies)) (IsNameFaultWithin c all (length c.bodies)) first bodies f b) o)
