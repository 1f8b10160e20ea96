-- The names and configuration strings of the stored elements of a scope.
use Rattle.std.proofs.Common.{◌≡◌, ℕ, ◌<◌, List, [], ◌∷◌, map, length, Bool, true, false, ◌&&◌, cond, nat_lt, Option, Some, None, refl, ap, ◌∙◌, arith}
use Rattle.std.specs.List.{cons_option}
use Rattle.std.proofs.lemmas.Bool.{lt-ltb, ltb-true}
use Rattle.click_text.specs.declared.syntax.Span.{Span}
use Rattle.click_text.specs.declared.syntax.Head.{Head}
use Rattle.click_text.specs.declared.syntax.Head.TheVariants as head
use Rattle.click_text.specs.declared.syntax.Element.{Element}
use Rattle.click_text.specs.declared.syntax.Statement.{Statement}
use Rattle.click_text.specs.declared.syntax.Config.{Config}
use Rattle.click_text.specs.Spans.{bytes_at}
use Rattle.click_scopes.specs.Scopes.{Scope, whole, inside, is_body, Stands}
use Rattle.click_scopes.specs.Elements.{Placed, pseudo, refers, makes, role, role_of_head, count_with, is_port_name, head_name, declared_names, scope_element, scope_element_by, scope_elements_from}
use Rattle.click_base.specs.NameLists.{has_name}
use Rattle.click_scopes.specs.kept.Tables.{AreWritten, elements_of, names_declared, scope_element_of}
use Rattle.click_scopes.specs.kept.Nesting.{IsNested}
use Rattle.click_scopes.specs.kept.Scoped.{table_place}
use Rattle.click_scopes.specs.kept.ScopeElements.{AreScopeElementsOf, AreStringsOf, string_where_made, string_made, strings_made, strings_of}
use Rattle.click_scopes.specs.declared.classes.ClassEntry.{ClassEntry}
use Rattle.click_scopes.specs.declared.written_scopes.WrittenElement.{WrittenElement}
use Rattle.click_scopes.specs.declared.scope_elements.ScopeElement.{ScopeElement as ScopeElementKept}
use Rattle.click_scopes.proofs.OfBodies.ScopeWalk.{inside-within}

module _ (text : List ℕ) where
  -- the stored elements declare the same names as the written ones
  pub declared-kept : (es : List ClassEntry) (ws : List WrittenElement) (ps : List Placed) → AreWritten text es ws ps → names_declared text (elements_of ws) ≡ declared_names text ps
  declared-kept es [] [] h = refl
  declared-kept es [] (p ∷ ps) h = absurd h
  declared-kept es (w ∷ ws) [] h = absurd h
  declared-kept es (w ∷ ws) (p ∷ ps) h =
      ap (λ (e : Element). cons_option (head_name text e.head) (names_declared text (elements_of ws))) h.0.element
      ∙ ap (cons_option (head_name text p.element.head)) (declared-kept es ws ps h.1)

  elements-kept : (es : List ClassEntry) (ws : List WrittenElement) (ps : List Placed) → AreWritten text es ws ps → elements_of ws ≡ map (λ (p : Placed). p.element) ps
  elements-kept es [] [] h = refl
  elements-kept es [] (p ∷ ps) h = absurd h
  elements-kept es (w ∷ ws) [] h = absurd h
  elements-kept es (w ∷ ws) (p ∷ ps) h = ap (λ x. x ∷ elements_of ws) h.0.element ∙ ap (λ xs. p.element ∷ xs) (elements-kept es ws ps h.1)

  -- the configuration strings of the stored elements are those of the written ones
  pub strings-kept : (es : List ClassEntry) (in_body : Bool) (ws : List WrittenElement) (ps : List Placed) (ls : List ScopeElementKept) → AreWritten text es ws ps → AreStringsOf text in_body ws ls →
      strings_of ls ≡ strings_made text in_body (declared_names text ps) (map (λ (p : Placed). p.element) ps)
  strings-kept es in_body ws ps ls k h =
      h ∙ ap (λ d. strings_made text in_body d (elements_of ws)) (declared-kept es ws ps k)
      ∙ ap (strings_made text in_body (declared_names text ps)) (elements-kept es ws ps k)

  module _ (in_body : Bool) (d e : List (List ℕ)) (same : (q : List ℕ) → has_name q d ≡ has_name q e) where
    pub role-same : (h : Head) (t : Option Span) → role_of_head text in_body d h t ≡ role_of_head text in_body e h t
    role-same (head.Word s) None =
        ap (λ b. cond (in_body && is_port_name (bytes_at text s)) pseudo (cond b refers makes)) (same (bytes_at text s))
    role-same (head.Word s) (Some t) = refl
    role-same (head.Declared s c) t = refl
    role-same (head.Compound b) t = refl

    pub strings-same : (es : List Element) → strings_made text in_body d es ≡ strings_made text in_body e es
    strings-same [] = refl
    strings-same (x ∷ xs) =
        ap (λ r. cons_option (string_where_made r x.text) (strings_made text in_body d xs)) (role-same x.head x.text)
        ∙ ap (cons_option (string_made text in_body e x)) (strings-same xs)

    pub scope_elements-same : (n : ℕ) (ps : List Placed) → scope_elements_from text in_body d n ps ≡ scope_elements_from text in_body e n ps
    unfolding scope_elements_from
    scope_elements-same n [] = refl
    scope_elements-same n (p ∷ ps) =
        let r = role text in_body e p.element in
        ap (λ o. scope_element_by o (scope_element text n p) (scope_elements_from text in_body d (count_with o n) ps)) (role-same p.element.head p.element.text)
        ∙ ap (scope_element_by r (scope_element text n p)) (scope_elements-same (count_with r n) ps)

  pub scope_elements-declared : (es : List ClassEntry) (in_body : Bool) (ws : List WrittenElement) (d : List (List ℕ)) (ls : List ScopeElementKept) →
      ((q : List ℕ) → has_name q d ≡ has_name q (names_declared text (elements_of ws))) →
      ((ps : List Placed) → AreWritten text es ws ps → map (scope_element_of text) ls ≡ scope_elements_from text in_body d 0 ps) → AreScopeElementsOf text es in_body ws ls
  scope_elements-declared es in_body ws d ls same h = λ ps k.
      h ps k ∙ scope_elements-same in_body d (declared_names text ps) (λ q. same q ∙ ap (has_name q) (declared-kept es ws ps k)) 0 ps

pub strings-declared : (text : List ℕ) (in_body : Bool) (ws : List WrittenElement) (d : List (List ℕ)) (ls : List ScopeElementKept) →
    ((q : List ℕ) → has_name q d ≡ has_name q (names_declared text (elements_of ws))) → strings_of ls ≡ strings_made text in_body d (elements_of ws) → AreStringsOf text in_body ws ls
strings-declared text in_body ws d ls same h = h ∙ strings-same text in_body d (names_declared text (elements_of ws)) same (elements_of ws)

ltb-self : (n : ℕ) → nat_lt n n ≡ false
ltb-self n = by_test (nat_lt n n) refl
  where
    by_test : (b : Bool) → nat_lt n n ≡ b → b ≡ false
    by_test true e = let l : n < n = ltb-true n n e in absurd (omega (arith, l))
    by_test false e = refl

pub body-place : (c : Config) → IsNested c → (s : Scope) (v : List Statement) (a : List Scope) → Stands c s v a → nat_lt (table_place c s) (length c.bodies) ≡ is_body s
body-place c n whole v a h = ltb-self (length c.bodies)
body-place c n (inside p) v a h = lt-ltb p (length c.bodies) (inside-within c n (inside p) v a h p refl)
