-- The misuses of names, classes and declarations in a scope are those of its stored elements and
-- parameters.
use Rattle.std.proofs.Common.{◌≡◌, ◌≢◌, ◌⊎◌, inl, inr, ℕ, ◌+◌, ◌≤◌, List, ◌∷◌, ◌++◌, map, take, drop, reverse, length, Bool, true, false, ◌&&◌, Option, Some, None, refl, sym, ap, ◌∙◌, subst, arith}
use Rattle.std.specs.List.{slice_get}
use Rattle.std.specs.Option.{option_map}
use Rattle.std.proofs.Math.Seq.{take-append_seam}
use Rattle.std.proofs.lemmas.Option.{slice_get_within, get_or_from_slice_get, slice_get-map}
use Rattle.std.proofs.lemmas.List.{take-append-drop, drop_more, length-append}
use Rattle.click_text.specs.declared.syntax.Span.{Span}
use Rattle.click_text.specs.declared.syntax.ClassReference.{ClassReference}
use Rattle.click_text.specs.declared.syntax.ClassReference.TheVariants as class
use Rattle.click_text.specs.declared.syntax.Head.{Head}
use Rattle.click_text.specs.declared.syntax.Head.TheVariants as head
use Rattle.click_text.specs.declared.syntax.Statement.{Statement}
use Rattle.click_text.specs.declared.syntax.Statement.TheVariants as statement
use Rattle.click_text.specs.declared.syntax.Config.{Config}
use Rattle.click_text.specs.Spans.{bytes_at}
use Rattle.click_scopes.specs.Scopes.{Scope, whole, inside, is_body, statements_of, formals_of, Stands}
use Rattle.click_scopes.specs.Elements.{Placed, makes, is_port_name, made_name, ScopeElement, scope_elements_from, element_meaning}
use Rattle.click_base.specs.NameLists.{has_name}
use Rattle.click_scopes.specs.Faults.{IsWrong, fault_number, scope_placed, scope_declared, elements_of_scope, role_in, first_token, unknown_name, unknown_class, unknown_declared, unknown_original, named_twice, port_declared, formal_twice}
use Rattle.click_scopes.specs.kept.Tables.{meaning_by, scope_element_of}
use Rattle.click_scopes.specs.kept.ScopeElements.{strings_of, scope_strings}
use Rattle.click_scopes.specs.Classes.{meaning}
use Rattle.click_scopes.specs.kept.Scoped.{AreSynonyms}
use Rattle.click_scopes.specs.kept.NameFaults.{original_at, IsWrongEntry}
use Rattle.click_scopes.specs.kept.FirstFault.{token_fault, token_fault_if, AtMost, IsLeast, IsNameFault, unknown_at, port_at, twice_at, first_in, first_of, scope_element_at, local_names, IsWrongScopeElement, formals_in, IsWrongFormal}
use Rattle.click_scopes.specs.declared.scope_elements.ScopeElement.{ScopeElement as ScopeElementKept}
use Rattle.click_scopes.specs.declared.classes.ResolvedClass.{ResolvedClass}
use Rattle.click_scopes.specs.declared.classes.ClassEntry.{ClassEntry}
use Rattle.click_scopes.specs.declared.classes.ResolvedClass.TheVariants as meant
use Rattle.click_scopes.specs.declared.fault.WrongUse.{WrongUse}
use Rattle.click_scopes.specs.declared.fault.WrongUse.TheVariants as kind
use Rattle.click_scopes.specs.declared.first_fault.TokenFault.{TokenFault}
use Rattle.click_scopes.proofs.OfFaults.LeastWrongUse.{least-first_of, least-alone}
use Rattle.click_scopes.proofs.OfFaults.PlaceNameFaults.{least-found, least-is}
use Rattle.click_scopes.proofs.OfElements.WrittenElements.{made-at, IsKept, kept-at, get-behind}

some_same : {X : Type 0} {x y : X} → Some x ≡ Some y → x ≡ y
some_same h = cc h

pub class-none : (m : Option ResolvedClass) → meaning_by m ≡ None → m ≡ None
class-none None h = refl
class-none (Some (meant.Primitive s)) h = absurd (cc h)
class-none (Some (meant.Compound b)) h = absurd (cc h)

wrong_if-is : (b : Bool) (k : WrongUse) (s : Span) (w : TokenFault) → token_fault_if b k s ≡ Some w → (b ≡ true) × (token_fault k s ≡ w)
wrong_if-is true k s w h = (refl, some_same h)
wrong_if-is false k s w h = absurd (cc h)

token-same : (c : Config) (h : Head) → first_token c h ≡ first_in c.bodies h
token-same c (head.Word s) = refl
token-same c (head.Declared n d) = refl
token-same c (head.Compound b) = refl

name_fault : (c : Config) (k : WrongUse) (s : Span) (w : TokenFault) → token_fault k s ≡ w → fault_number k ≤ 13 → IsWrong c k s → IsNameFault c w
name_fault c k s w e l h = subst (IsNameFault c) e (record { wrong = h; kind = l })

-- the misuse of an element
abbrev pub WrongHere : Config → Bool → Bool → ScopeElementKept → TokenFault → Type 0
WrongHere c in_body taken l w =
    ((unknown_at l.head l.text l.class ≡ Some w) ⊎ (twice_at taken l.head l.class (first_in c.bodies l.head) ≡ Some w)) ⊎ (port_at c.text in_body l.head ≡ Some w)

here-least : (c : Config) (in_body taken : Bool) (l : ScopeElementKept) → IsLeast (WrongHere c in_body taken l) (scope_element_at c.text c.bodies in_body taken l)
here-least c in_body taken l =
    let u = unknown_at l.head l.text l.class in let t = twice_at taken l.head l.class (first_in c.bodies l.head) in let p = port_at c.text in_body l.head in
    least-first_of (λ w. (u ≡ Some w) ⊎ (t ≡ Some w)) (λ w. p ≡ Some w) (first_of u t) p
    (least-first_of (λ w. u ≡ Some w) (λ w. t ≡ Some w) u t (least-alone u) (least-alone t)) (least-alone p)

port-sound : (c : Config) (s : Scope) (v : List Statement) (a : List Scope) (front : List Placed) (p : Placed) (back : List Placed) (h : Head) (w : TokenFault) → Stands c s v a →
    scope_placed c s v ≡ front ++ p ∷ back → p.element.head ≡ h → port_at c.text (is_body s) h ≡ Some w → IsNameFault c w
port-sound c s v a front p back (head.Word x) w st e eh q = absurd (cc q)
port-sound c s v a front p back (head.Compound b) w st e eh q = absurd (cc q)
port-sound c whole v a front p back (head.Declared n d) w st e eh q = absurd (cc q)
port-sound c (inside b) v a front p back (head.Declared n d) w st e eh q =
    let r = wrong_if-is (is_port_name (bytes_at c.text n)) kind.DeclaredTwice n w q in
    name_fault c kind.DeclaredTwice n w r.1 (omega arith) (port_declared b v a front back p n d st e eh r.0)

twice-found : (taken : Bool) (h : Head) (m : Option ResolvedClass) (s : Span) → taken ≡ true → ((n : Span) × (d : ClassReference) × (h ≡ head.Declared n d)) ⊎ (m ≡ None → ⊥) →
    twice_at taken h m s ≡ Some (token_fault kind.DeclaredTwice s)
twice-found taken (head.Declared n d) m s e r = ap (λ b. token_fault_if b kind.DeclaredTwice s) e
twice-found taken (head.Word x) (Some m) s e r = ap (λ b. token_fault_if b kind.DeclaredTwice s) e
twice-found taken (head.Compound b) (Some m) s e r = ap (λ b. token_fault_if b kind.DeclaredTwice s) e
twice-found taken (head.Word x) None s e (inl (n, d, q)) = absurd (cc q)
twice-found taken (head.Word x) None s e (inr f) = absurd (f refl)
twice-found taken (head.Compound b) None s e (inl (n, d, q)) = absurd (cc q)
twice-found taken (head.Compound b) None s e (inr f) = absurd (f refl)

module _ (c : Config) (s : Scope) (v : List Statement) (a : List Scope) (st : Stands c s v a) where
  abbrev declared_here : List (List ℕ)
  declared_here = scope_declared c s v

  abbrev before_it : List Placed → List ScopeElement
  before_it front = scope_elements_from c.text (is_body s) declared_here 0 front

  -- an earlier element has the name
  abbrev is_taken : List Placed → Placed → Bool
  is_taken front p = has_name (made_name c.text (length (before_it front)) p.element.head) (map (λ (l : ScopeElement). l.name) (before_it front))

  module _ (front : List Placed) (p : Placed) (back : List Placed) (e : scope_placed c s v ≡ front ++ p ∷ back) (r : role_in c s v p ≡ makes) where
    unknown-sound : (h : Head) (t : Option Span) (m : Option ResolvedClass) (w : TokenFault) → p.element.head ≡ h → p.element.text ≡ t → element_meaning c.text p ≡ meaning_by m →
        unknown_at h t m ≡ Some w → IsNameFault c w
    unknown-sound h t (Some m) w eh et em q = absurd (cc q)
    unknown-sound (head.Word x) None None w eh et em q =
        name_fault c kind.UnknownName x w (some_same q) (omega arith) (unknown_name s v a front back p x st e r eh et em)
    unknown-sound (head.Word x) (Some y) None w eh et em q =
        name_fault c kind.UnknownClass x w (some_same q) (omega arith) (unknown_class s v a front back p x y st e eh et em)
    unknown-sound (head.Declared n (class.Named x)) t None w eh et em q =
        name_fault c kind.UnknownClass x w (some_same q) (omega arith) (unknown_declared s v a front back p n x st e eh em)
    unknown-sound (head.Declared n (class.Body b)) t None w eh et em q = absurd (cc q)
    unknown-sound (head.Compound b) t None w eh et em q = absurd (cc q)

    twice-named : (h : Head) (w : TokenFault) → p.element.head ≡ h → token_fault_if (is_taken front p) kind.DeclaredTwice (first_in c.bodies h) ≡ Some w →
        ((n : Span) × (d : ClassReference) × (p.element.head ≡ head.Declared n d)) ⊎ (element_meaning c.text p ≢ None) → IsNameFault c w
    twice-named h w eh q why =
        let t = wrong_if-is (is_taken front p) kind.DeclaredTwice (first_in c.bodies h) w q in
        name_fault c kind.DeclaredTwice (first_in c.bodies h) w t.1 (omega arith)
        (subst (IsWrong c kind.DeclaredTwice) (ap (first_token c) eh ∙ token-same c h) (named_twice s v a front back p st e r why t.0))

    meant-here : (m : ResolvedClass) → element_meaning c.text p ≡ meaning_by (Some m) → element_meaning c.text p ≢ None
    meant-here m em q = let k = class-none (Some m) (sym em ∙ q) in cc k

    twice-sound : (h : Head) (m : Option ResolvedClass) (w : TokenFault) → p.element.head ≡ h → element_meaning c.text p ≡ meaning_by m →
        twice_at (is_taken front p) h m (first_in c.bodies h) ≡ Some w → IsNameFault c w
    twice-sound (head.Word x) None w eh em q = absurd (cc q)
    twice-sound (head.Word x) (Some m) w eh em q = twice-named (head.Word x) w eh q (inr (meant-here m em))
    twice-sound (head.Declared n d) m w eh em q = twice-named (head.Declared n d) w eh q (inl (n, d, eh))
    twice-sound (head.Compound b) None w eh em q = absurd (cc q)
    twice-sound (head.Compound b) (Some m) w eh em q = twice-named (head.Compound b) w eh q (inr (meant-here m em))

    module _ (ls : List ScopeElementKept) (k : IsKept c.text (is_body s) declared_here ls front p) where
      -- what holds of the stored element
      head-kept : k.element.head ≡ p.element.head
      head-kept = ap (λ (l : ScopeElement). l.head) k.made

      meaning-kept : meaning_by k.element.class ≡ element_meaning c.text p
      meaning-kept = ap (λ (l : ScopeElement). l.meaning) k.made

      abbrev taken_kept : Bool
      taken_kept = has_name k.element.name.items (local_names (take (length (before_it front)) ls))

      taken-kept : taken_kept ≡ is_taken front p
      taken-kept =
          ap (λ n. has_name n (local_names (take (length (before_it front)) ls))) (ap (λ (l : ScopeElement). l.name) k.made)
          ∙ ap (has_name (made_name c.text (length (before_it front)) p.element.head)) k.names

      here-sound : (w : TokenFault) → WrongHere c (is_body s) taken_kept k.element w → IsNameFault c w
      here-sound w (inl (inl q)) = unknown-sound k.element.head k.element.text k.element.class w (sym head-kept) (sym k.string) (sym meaning-kept) q
      here-sound w (inl (inr q)) =
          twice-sound k.element.head k.element.class w (sym head-kept) (sym meaning-kept)
          (ap (λ b. twice_at b k.element.head k.element.class (first_in c.bodies k.element.head)) (sym taken-kept) ∙ q)
      here-sound w (inr q) = port-sound c s v a front p back k.element.head w st e (sym head-kept) q

      pub unknown-here : (h : Head) (t : Option Span) (w : TokenFault) → p.element.head ≡ h → p.element.text ≡ t → element_meaning c.text p ≡ None → unknown_at h t None ≡ Some w →
          WrongHere c (is_body s) taken_kept k.element w
      unknown-here h t w eh et em q =
          inl (inl (ap (λ x. unknown_at x k.element.text k.element.class) (head-kept ∙ eh) ∙ ap (λ x. unknown_at h x k.element.class) (k.string ∙ et)
          ∙ ap (unknown_at h t) (class-none k.element.class (meaning-kept ∙ em)) ∙ q))

      twice-why : ((n : Span) × (d : ClassReference) × (p.element.head ≡ head.Declared n d)) ⊎ (element_meaning c.text p ≢ None) →
          ((n : Span) × (d : ClassReference) × (k.element.head ≡ head.Declared n d)) ⊎ (k.element.class ≡ None → ⊥)
      twice-why (inl (n, d, q)) = inl (n, d, head-kept ∙ q)
      twice-why (inr f) = inr (λ q. f (sym meaning-kept ∙ ap meaning_by q))

      pub twice-here : ((n : Span) × (d : ClassReference) × (p.element.head ≡ head.Declared n d)) ⊎ (element_meaning c.text p ≢ None) → is_taken front p ≡ true →
          WrongHere c (is_body s) taken_kept k.element (token_fault kind.DeclaredTwice (first_token c p.element.head))
      twice-here why t =
          inl (inr (twice-found taken_kept k.element.head k.element.class (first_in c.bodies k.element.head) (taken-kept ∙ t) (twice-why why)
          ∙ ap (λ x. Some (token_fault kind.DeclaredTwice x)) (sym (token-same c k.element.head) ∙ ap (first_token c) head-kept)))

      pub port-here : (n : Span) (d : ClassReference) → p.element.head ≡ head.Declared n d → is_body s ≡ true → is_port_name (bytes_at c.text n) ≡ true →
          WrongHere c (is_body s) taken_kept k.element (token_fault kind.DeclaredTwice n)
      port-here n d eh b q =
          inr (ap (port_at c.text (is_body s)) (head-kept ∙ eh) ∙ ap (λ x. token_fault_if (x && is_port_name (bytes_at c.text n)) kind.DeclaredTwice n) b
          ∙ ap (λ x. token_fault_if x kind.DeclaredTwice n) q)

  -- the stored elements
  module _ (ls : List ScopeElementKept) (h : map (scope_element_of c.text) ls ≡ elements_of_scope c s v) (g : strings_of ls ≡ scope_strings c s v) where
    -- A written element, and the stored element at its index.
    record Both (i : ℕ) (l : ScopeElementKept) : Type 0 where
      front : List Placed
      back : List Placed
      placed : Placed
      splits : scope_placed c s v ≡ front ++ placed ∷ back
      makes_one : role_in c s v placed ≡ makes
      kept : IsKept c.text (is_body s) declared_here ls front placed
      count : length (before_it front) ≡ i
      same : kept.element ≡ l

    both : (i : ℕ) (l : ScopeElementKept) → slice_get ls i ≡ Some l → Both i l
    both i l e =
        let there : slice_get (elements_of_scope c s v) i ≡ Some (scope_element_of c.text l) =
        ap (λ x. slice_get x i) (sym h) ∙ slice_get-map (scope_element_of c.text) ls i ∙ ap (option_map (scope_element_of c.text)) e in
        let m = made-at c.text (is_body s) declared_here (scope_placed c s v) 0 i (scope_element_of c.text l) there in
        let k = kept-at c.text (is_body s) declared_here ls (scope_placed c s v) m.front m.placed m.back h g m.splits m.makes_one in
        record {
          front = m.front;
          back = m.back;
          placed = m.placed;
          splits = m.splits;
          makes_one = m.makes_one;
          kept = k;
          count = m.count;
          same = some_same (sym k.there ∙ ap (slice_get ls) m.count ∙ e);
        }

    -- a misuse among the stored elements is a misuse
    pub scope_element-sound : (w : TokenFault) → IsWrongScopeElement c.text c.bodies (is_body s) ls (length ls) w → IsNameFault c w
    scope_element-sound w q =
        let m = both q.place q.element q.there in let l = m.kept.element in let i = length (before_it m.front) in
        let t = has_name l.name.items (local_names (take i ls)) in
        here-sound m.front m.placed m.back m.splits m.makes_one ls m.kept w
        (least-is (WrongHere c (is_body s) t l) (scope_element_at c.text c.bodies (is_body s) t l) w (here-least c (is_body s) t l)
        (ap (λ n. scope_element_at c.text c.bodies (is_body s) (has_name l.name.items (local_names (take n ls))) l) m.count
        ∙ ap (λ (x : ScopeElementKept). scope_element_at c.text c.bodies (is_body s) (has_name x.name.items (local_names (take q.place ls))) x) m.same ∙ q.is))

    -- a misuse of a written element comes no earlier than one among the stored elements
    pub scope_element-found : (front : List Placed) (p : Placed) (back : List Placed) → scope_placed c s v ≡ front ++ p ∷ back → role_in c s v p ≡ makes → (w : TokenFault) →
        ((k : IsKept c.text (is_body s) declared_here ls front p) → WrongHere c (is_body s) (has_name k.element.name.items (local_names (take (length (before_it front)) ls))) k.element w) →
        (x : TokenFault) × IsWrongScopeElement c.text c.bodies (is_body s) ls (length ls) x × AtMost x w
    scope_element-found front p back e r w f =
        let k = kept-at c.text (is_body s) declared_here ls (scope_placed c s v) front p back h g e r in
        let i = length (before_it front) in let l = k.element in let t = has_name l.name.items (local_names (take i ls)) in
        let q = least-found (WrongHere c (is_body s) t l) (scope_element_at c.text c.bodies (is_body s) t l) w (here-least c (is_body s) t l) (f k) in
        (q.0, record { place = i; element = l; within = slice_get_within ls i l k.there; there = k.there; is = q.1 }, q.2)

split-there : {X : Type 0} (xs : List X) (i : ℕ) (x : X) → slice_get xs i ≡ Some x → xs ≡ take i xs ++ x ∷ drop (i + 1) xs
split-there xs i x h =
    let l = slice_get_within xs i x h in
    sym (take-append-drop i xs) ∙ ap (λ y. take i xs ++ y) (drop_more xs i x l) ∙ ap (λ y. take i xs ++ y ∷ drop (i + 1) xs) (get_or_from_slice_get xs i x x h)

module _ (c : Config) (b : ℕ) (v : List Statement) (a : List Scope) (st : Stands c (inside b) v a) where
  pub formal-sound : (w : TokenFault) → IsWrongFormal c.text (formals_of c (inside b)) (length (formals_of c (inside b))) w → IsNameFault c w
  formal-sound w q =
      let fs = formals_of c (inside b) in let f = q.formal in let i = q.place in
      let r = wrong_if-is (has_name (bytes_at c.text f) (formals_in c.text (take i fs))) kind.DeclaredTwice f w q.is in
      name_fault c kind.DeclaredTwice f w r.1 (omega arith) (formal_twice b v a (take i fs) (drop (i + 1) fs) f st (split-there fs i f q.there) r.0)

  pub formal-found : (front back : List Span) (f : Span) → formals_of c (inside b) ≡ front ++ f ∷ back → has_name (bytes_at c.text f) (map (bytes_at c.text) front) ≡ true →
      IsWrongFormal c.text (formals_of c (inside b)) (length (formals_of c (inside b))) (token_fault kind.DeclaredTwice f)
  formal-found front back f e t = record {
    place = length front;
    formal = f;
    within = (let n = ap length e ∙ length-append front (f ∷ back) in omega (arith, n));
    there = ap (λ x. slice_get x (length front)) e ∙ get-behind front f back;
    is = ap (λ x. token_fault_if x kind.DeclaredTwice f)
        (ap (λ x. has_name (bytes_at c.text f) (formals_in c.text (take (length front) x))) e
        ∙ ap (λ x. has_name (bytes_at c.text f) (formals_in c.text x)) (take-append_seam front (f ∷ back)) ∙ t);
  }

-- What holds if the word of a synonym names no class.
original-is : (o : Option Span) (m : Option ResolvedClass) (w : TokenFault) → original_at o m ≡ Some w → (x : Span) × (o ≡ Some x) × (m ≡ None) × (token_fault kind.UnknownClass x ≡ w)
original-is None m w h = absurd (cc h)
original-is (Some x) None w h = (x, refl, refl, some_same h)
original-is (Some x) (Some m) w h = absurd (cc h)

module _ (c : Config) (class_table : List ClassEntry) (ys : AreSynonyms c class_table) where
  pub entry-sound : (w : TokenFault) → IsWrongEntry class_table (length class_table) w → IsNameFault c w
  entry-sound w q =
      let r = original-is q.entry.original q.entry.class w q.is in
      let y = ys.sound q.place q.entry r.0 q.there r.1 in
      name_fault c kind.UnknownClass r.0 w r.3 (omega arith)
      (unknown_original y.scope y.visible y.enclosing y.before y.after y.name r.0 y.stands y.splits (sym y.meaning ∙ ap meaning_by r.2))

  pub entry-found : (s : Scope) (v : List Statement) (a : List Scope) (before after : List Statement) (n w : Span) → Stands c s v a → statements_of c s ≡ before ++ statement.Synonym n w ∷ after →
      meaning c.text (reverse before ++ v) (bytes_at c.text w) ≡ None → IsWrongEntry class_table (length class_table) (token_fault kind.UnknownClass w)
  entry-found s v a before after n w st e m =
      let y = ys.complete s v a before after n w st e in
      record {
        place = y.0;
        entry = y.1;
        within = slice_get_within class_table y.0 y.1 y.2;
        there = y.2;
        is = ap (λ o. original_at o y.1.class) y.3 ∙ ap (original_at (Some w)) (class-none y.1.class (y.4 ∙ m));
      }
