-- The bodies of a configuration that a text spells are nested.
use Rattle.std.proofs.Common.{◌≡◌, ℕ, suc, zero, ◌+◌, ◌<◌, ◌≤◌, List, [], ◌∷◌, ◌++◌, length, Some, refl, sym, ap, ◌∙◌, append_assoc, subst, arith}
use Rattle.std.specs.List.{slice_get}
use Rattle.std.proofs.lemmas.List.{append-nil, length_push}
use Rattle.click_text.specs.declared.syntax.Token.{Token}
use Rattle.click_text.specs.declared.syntax.ClassReference.{ClassReference}
use Rattle.click_text.specs.declared.syntax.Head.{Head}
use Rattle.click_text.specs.declared.syntax.Element.{Element}
use Rattle.click_text.specs.declared.syntax.Link.{Link}
use Rattle.click_text.specs.declared.syntax.Statement.{Statement}
use Rattle.click_text.specs.declared.syntax.Body.{Body}
use Rattle.click_text.specs.declared.syntax.Config.{Config}
use Rattle.click_text.specs.Grammar.{IsBody, braces, IsClass, by_name, by_body, IsHead, word, declared, compound, IsElement, an_element, IsLinks, no_links, more_links, IsStatement, chained, declarations, definition, synonym, requirement, IsStatements, no_more, empty, stated, body}
use Rattle.click_text.specs.Spelling.{Spells}
use Rattle.click_scopes.specs.Scopes.{class_bodies, head_bodies, link_bodies, bodies_in, body_statements}
use Rattle.click_scopes.specs.kept.Nesting.{direct, Nests, no_bodies, next_body, IsNested}

slice_get-append : {X : Type 0} (xs ys : List X) (i : ℕ) → i < length xs → slice_get (xs ++ ys) i ≡ slice_get xs i
slice_get-append [] ys i l = absurd (omega (arith, l))
slice_get-append (x ∷ xs) ys zero l = refl
slice_get-append (x ∷ xs) ys (suc i) l = slice_get-append xs ys i (omega (arith, l))

slice_get-end : {X : Type 0} (xs : List X) (x : X) → slice_get (xs ++ x ∷ []) (length xs) ≡ Some x
slice_get-end [] x = refl
slice_get-end (y ∷ xs) x = slice_get-end xs x

length-grown : (bs more : List Body) → length bs ≤ length (bs ++ more)
length-grown [] more = omega arith
length-grown (b ∷ bs) more = let h = length-grown bs more in omega arith

nests-grow : (bodies more : List Body) (a : ℕ) (rs : List ℕ) (z : ℕ) → Nests bodies a rs z → Nests (bodies ++ more) a rs z
nests-grow bodies more a rs z (no_bodies at) = no_bodies at
nests-grow bodies more a rs z (next_body from b to bs l h k) =
    next_body from b to bs (let g = length-grown bodies more in omega arith)
    (subst (λ o. Nests (bodies ++ more) from (direct (body_statements o)) b) (sym (slice_get-append bodies more b l)) (nests-grow bodies more from _ b h))
    (nests-grow bodies more (b + 1) bs to k)

pub nests-append : (bodies : List Body) (a : ℕ) (rs : List ℕ) (m : ℕ) (ts : List ℕ) (z : ℕ) → Nests bodies a rs m → Nests bodies m ts z → Nests bodies a (rs ++ ts) z
nests-append bodies a rs m ts z (no_bodies at) k = k
nests-append bodies a rs m ts z (next_body from b to bs l h g) k = next_body from b z (bs ++ ts) l h (nests-append bodies (b + 1) bs to ts z g k)

-- the bodies with the indices rs, and those inside them, were closed: they were appended to bs, and
-- are nested
pub record Grown (bs new : List Body) (rs : List ℕ) : Type 0 where
  pub more : List Body
  pub is : new ≡ bs ++ more
  pub nests : Nests new (length bs) rs (length new)

grown-none : (bs : List Body) → Grown bs bs []
grown-none bs = record { more = []; is = sym (append-nil bs); nests = no_bodies (length bs) }

grown-append : (a b c : List Body) (rs ts : List ℕ) → Grown a b rs → Grown b c ts → Grown a c (rs ++ ts)
grown-append a b c rs ts g h = record {
  more = g.more ++ h.more;
  is = h.is ∙ ap (λ x. x ++ h.more) g.is ∙ append_assoc a g.more h.more;
  nests = nests-append c (length a) rs (length b) ts (length c) (subst (λ x. Nests x (length a) rs (length b)) (sym h.is) (nests-grow b h.more (length a) rs (length b) g.nests)) h.nests;
}

grown-body : (bs new : List Body) (x : Body) → Grown bs new (direct x.statements) → Grown bs (new ++ x ∷ []) (length new ∷ [])
grown-body bs new x g =
    let e : length (new ++ x ∷ []) ≡ length new + 1 = length_push new x in
    record {
      more = g.more ++ x ∷ [];
      is = ap (λ y. y ++ x ∷ []) g.is ∙ append_assoc bs g.more (x ∷ []);
      nests = next_body (length bs) (length new) (length (new ++ x ∷ [])) [] (omega arith)
          (subst (λ o. Nests (new ++ x ∷ []) (length bs) (direct (body_statements o)) (length new)) (sym (slice_get-end new x))
          (nests-grow new (x ∷ []) (length bs) (direct x.statements) (length new) g.nests))
          (subst (λ n. Nests (new ++ x ∷ []) (length new + 1) [] n) (sym e) (no_bodies (length new + 1)));
    }

mutual
  body_grows : {ts rest : List Token} {bs bs' : List Body} {n : ℕ} → IsBody ts bs n rest bs' → Grown bs bs' (n ∷ [])
  body_grows (braces {a = a} {b = b} {bs = bs} {bs' = bs'} {fs = fs} {ss = ss} h r) = grown-body bs bs' (body a b fs ss) (statements_grow r)

  class_grows : {ts rest : List Token} {bs bs' : List Body} {c : ClassReference} → IsClass ts bs c rest bs' → Grown bs bs' (class_bodies c)
  class_grows (by_name {bs = bs}) = grown-none bs
  class_grows (by_body r) = body_grows r

  head_grows : {ts rest : List Token} {bs bs' : List Body} {h : Head} → IsHead ts bs h rest bs' → Grown bs bs' (head_bodies h)
  head_grows (word {bs = bs}) = grown-none bs
  head_grows (declared r) = class_grows r
  head_grows (compound r) = body_grows r

  element_grows : {ts rest : List Token} {bs bs' : List Body} {e : Element} → IsElement ts bs e rest bs' → Grown bs bs' (head_bodies e.head)
  element_grows (an_element r q) = head_grows r

  links_grow : {ts rest : List Token} {bs bs' : List Body} {ls : List Link} → IsLinks ts bs ls rest bs' → Grown bs bs' (link_bodies ls)
  links_grow (no_links {bs = bs}) = grown-none bs
  links_grow (more_links {bs = bs} {bs1 = bs1} {bs2 = bs2} {e = e} {ls = ls} k m r rs) =
      grown-append bs bs1 bs2 (head_bodies e.head) (link_bodies ls) (element_grows r) (links_grow rs)

  statement_grows : {ts rest : List Token} {bs bs' : List Body} {st : Statement} → IsStatement ts bs st rest bs' → Grown bs bs' (bodies_in st)
  statement_grows (chained {bs = bs} {bs1 = bs1} {bs2 = bs2} {e = e} {ls = ls} r rs end) =
      grown-append bs bs1 bs2 (head_bodies e.head) (link_bodies ls) (element_grows r) (links_grow rs)
  statement_grows (declarations names r q end) = class_grows r
  statement_grows (definition r) = body_grows r
  statement_grows (synonym {bs = bs} end) = grown-none bs
  statement_grows (requirement {bs = bs} q) = grown-none bs

  statements_grow : {ts rest : List Token} {bs bs' : List Body} {ss : List Statement} → IsStatements ts bs ss rest bs' → Grown bs bs' (direct ss)
  statements_grow (no_more {bs = bs}) = grown-none bs
  statements_grow (empty r) = statements_grow r
  statements_grow (stated {bs = bs} {bs1 = bs1} {bs2 = bs2} {s = s} {ss = ss} r q) =
      grown-append bs bs1 bs2 (bodies_in s) (direct ss) (statement_grows r) (statements_grow q)

-- a configuration that a text spells is nested
pub spelled-nested : (text : List ℕ) (c : Config) → Spells text c → IsNested c
spelled-nested text c h = (statements_grow h.tree).nests
