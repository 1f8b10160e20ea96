-- The braces of a text's bodies are inside the text.
use Rattle.std.proofs.Common.{◌≡◌, ℕ, suc, zero, ◌+◌, ◌<◌, ◌≤◌, List, [], ◌∷◌, take, drop, length, Option, Some, sym, ◌∙◌, subst, arith}
use Rattle.std.specs.List.{slice_get}
use Rattle.std.proofs.lemmas.List.{length-drop}
use Rattle.click_text.specs.declared.syntax.Span.{Span}
use Rattle.click_text.specs.declared.syntax.Token.{Token}
use Rattle.click_text.specs.declared.syntax.Token.TheVariants as token
use Rattle.click_text.specs.declared.syntax.Ending.{Ending}
use Rattle.click_text.specs.declared.syntax.WrittenPort.{WrittenPort}
use Rattle.click_text.specs.declared.syntax.ClassReference.{ClassReference}
use Rattle.click_text.specs.declared.syntax.Head.{Head}
use Rattle.click_text.specs.declared.syntax.Element.{Element}
use Rattle.click_text.specs.declared.syntax.Link.{Link}
use Rattle.click_text.specs.declared.syntax.Statement.{Statement}
use Rattle.click_text.specs.declared.syntax.Body.{Body}
use Rattle.click_text.specs.declared.syntax.Config.{Config}
use Rattle.click_text.specs.declared.lexer.Piece.{Piece}
use Rattle.click_text.specs.declared.lexer.Piece.TheVariants as piece
use Rattle.click_text.specs.Pieces.{span, IsPiece, token_of, Reads, ends, passes, takes, stuck}
use Rattle.click_text.specs.Grammar.{IsPort, no_port, bracketed, IsString, no_string, string, IsEnd, semicolon, before_close, at_end, IsFormals, last_formal, more_formals, IsHeader, no_header, header, IsNames, last_name, more_names, IsBody, braces, IsClass, by_name, by_body, IsHead, word, declared, compound, IsElement, an_element, IsLinks, no_links, more_links, IsStatement, chained, declarations, definition, synonym, requirement, IsStatements, no_more, empty, stated, body}
use Rattle.click_text.specs.Spelling.{Spells}
use Rattle.click_scopes.specs.kept.Standing.{Each}
use Rattle.click_scopes.specs.kept.FirstFault.{AreShort}
use Rattle.click_scopes.proofs.OfLists.StatementTables.{each-append}

-- an opening brace begins before the end of a text of m bytes
abbrev OpensBefore : ℕ → Token → Type 0
OpensBefore m (token.Open s) = s.start + 1 ≤ m
OpensBefore m _ = Unit {0}

abbrev BeginsBefore : ℕ → Body → Type 0
BeginsBefore m b = b.span.start + 1 ≤ m

some_same : {X : Type 0} {x y : X} → Some x ≡ Some y → x ≡ y
some_same h = cc h

brace-length : (text : List ℕ) (n b : ℕ) → take n text ≡ b ∷ [] → 1 ≤ length text
brace-length [] zero b h = absurd (cc h)
brace-length [] (suc n) b h = absurd (cc h)
brace-length (c ∷ text) n b h = omega arith

piece-opens : (k : Piece) (at n : ℕ) (text : List ℕ) (t : Token) → IsPiece k (take n text) → token_of k (take n text) (span at (at + n)) ≡ Some t → OpensBefore (at + length text) t
piece-opens piece.Blank at n text t f h = absurd (cc h)
piece-opens piece.LineComment at n text t f h = absurd (cc h)
piece-opens piece.BlockComment at n text t f h = absurd (cc h)
piece-opens piece.Word at n text t f h = subst (OpensBefore (at + length text)) (some_same h) tt
piece-opens piece.Number at n text t f h = subst (OpensBefore (at + length text)) (some_same h) tt
piece-opens piece.Elementclass at n text t f h = subst (OpensBefore (at + length text)) (some_same h) tt
piece-opens piece.Require at n text t f h = subst (OpensBefore (at + length text)) (some_same h) tt
piece-opens piece.Formal at n text t f h = subst (OpensBefore (at + length text)) (some_same h) tt
piece-opens piece.String at n text t f h = subst (OpensBefore (at + length text)) (some_same h) tt
piece-opens piece.DoubleColon at n text t f h = subst (OpensBefore (at + length text)) (some_same h) tt
piece-opens piece.Arrow at n text t f h = subst (OpensBefore (at + length text)) (some_same h) tt
piece-opens piece.Semicolon at n text t f h = subst (OpensBefore (at + length text)) (some_same h) tt
piece-opens piece.Comma at n text t f h = subst (OpensBefore (at + length text)) (some_same h) tt
piece-opens piece.OpenBracket at n text t f h = subst (OpensBefore (at + length text)) (some_same h) tt
piece-opens piece.CloseBracket at n text t f h = subst (OpensBefore (at + length text)) (some_same h) tt
piece-opens piece.Open at n text t f h =
    let l = brace-length text n 123 f in
    subst (OpensBefore (at + length text)) (some_same h) (omega (arith, l))
piece-opens piece.Close at n text t f h = subst (OpensBefore (at + length text)) (some_same h) tt
piece-opens piece.Bar at n text t f h = subst (OpensBefore (at + length text)) (some_same h) tt

rest-length : (at n : ℕ) (text : List ℕ) → n ≤ length text → at + n + length (drop n text) ≡ at + length text
rest-length at n text l = omega (arith, length-drop n text, l)

reads-open : (at m : ℕ) (text : List ℕ) (ts : List Token) (e : Ending) → m ≡ at + length text → Reads at text ts e → Each (OpensBefore m) ts
reads-open at m text ts e q (ends at') = tt
reads-open at m text ts e q (passes at' text' ts' e' k n l t r) =
    reads-open (at + n) m (drop n text) ts e (q ∙ sym (rest-length at n text l.within)) r
reads-open at m text ts e q (takes at' text' ts' e' k n tok l t r) =
    (subst (λ x. OpensBefore x tok) (sym q) (piece-opens k at n text tok l.form t), reads-open (at + n) m (drop n text) ts' e (q ∙ sym (rest-length at n text l.within)) r)
reads-open at m text ts e q (stuck at' text' l f) = tt

module _ (m : ℕ) where
  -- holds of the tokens that are left, and of the bodies that were closed
  abbrev Rest : List Token → List Body → Type 0
  Rest ts bs = Each (OpensBefore m) ts × Each (BeginsBefore m) bs

  port-rest : {ts rest : List Token} {p : Option WrittenPort} → IsPort ts p rest → Each (OpensBefore m) ts → Each (OpensBefore m) rest
  port-rest no_port o = o
  port-rest bracketed o = o.1.1.1

  string-rest : {ts rest : List Token} {s : Option Span} → IsString ts s rest → Each (OpensBefore m) ts → Each (OpensBefore m) rest
  string-rest no_string o = o
  string-rest string o = o.1

  end-rest : {ts rest : List Token} → IsEnd ts rest → Each (OpensBefore m) ts → Each (OpensBefore m) rest
  end-rest semicolon o = o.1
  end-rest before_close o = o
  end-rest at_end o = o

  formals-rest : {ts rest : List Token} {fs : List Span} → IsFormals ts fs rest → Each (OpensBefore m) ts → Each (OpensBefore m) rest
  formals-rest last_formal o = o.1.1
  formals-rest (more_formals r) o = formals-rest r o.1.1

  header-rest : {ts rest : List Token} {fs : List Span} → IsHeader ts fs rest → Each (OpensBefore m) ts → Each (OpensBefore m) rest
  header-rest no_header o = o
  header-rest (header r) o = formals-rest r o

  names-rest : {ts rest : List Token} {ns : List Span} → IsNames ts ns rest → Each (OpensBefore m) ts → Each (OpensBefore m) rest
  names-rest last_name o = o.1.1.1
  names-rest (more_names r) o = names-rest r o.1.1

  mutual
    body-rest : {ts rest : List Token} {bs bs' : List Body} {n : ℕ} → IsBody ts bs n rest bs' → Each (OpensBefore m) ts → Each (BeginsBefore m) bs → Rest rest bs'
    body-rest (braces {a = a} {b = b} {bs' = bs'} {fs = fs} {ss = ss} h r) o s =
        let q = statements-rest r (header-rest h o.1) s in
        (q.0.1, each-append (BeginsBefore m) bs' (body a b fs ss ∷ []) q.1 (o.0, tt))

    class-rest : {ts rest : List Token} {bs bs' : List Body} {c : ClassReference} → IsClass ts bs c rest bs' → Each (OpensBefore m) ts → Each (BeginsBefore m) bs → Rest rest bs'
    class-rest by_name o s = (o.1, s)
    class-rest (by_body r) o s = body-rest r o s

    head-rest : {ts rest : List Token} {bs bs' : List Body} {h : Head} → IsHead ts bs h rest bs' → Each (OpensBefore m) ts → Each (BeginsBefore m) bs → Rest rest bs'
    head-rest word o s = (o.1, s)
    head-rest (declared r) o s = class-rest r o.1.1 s
    head-rest (compound r) o s = body-rest r o s

    element-rest : {ts rest : List Token} {bs bs' : List Body} {e : Element} → IsElement ts bs e rest bs' → Each (OpensBefore m) ts → Each (BeginsBefore m) bs → Rest rest bs'
    element-rest (an_element r q) o s = let h = head-rest r o s in (string-rest q h.0, h.1)

    links-rest : {ts rest : List Token} {bs bs' : List Body} {ls : List Link} → IsLinks ts bs ls rest bs' → Each (OpensBefore m) ts → Each (BeginsBefore m) bs → Rest rest bs'
    links-rest no_links o s = (o, s)
    links-rest (more_links k n r rs) o s =
        let h = element-rest r (port-rest n (port-rest k o).1) s in links-rest rs h.0 h.1

    statement-rest : {ts rest : List Token} {bs bs' : List Body} {st : Statement} → IsStatement ts bs st rest bs' → Each (OpensBefore m) ts → Each (BeginsBefore m) bs → Rest rest bs'
    statement-rest (chained r rs end) o s =
        let h = element-rest r o s in let l = links-rest rs h.0 h.1 in (end-rest end l.0, l.1)
    statement-rest (declarations names r q end) o s =
        let h = class-rest r (names-rest names o.1) s in (end-rest end (string-rest q h.0), h.1)
    statement-rest (definition r) o s = body-rest r o.1.1 s
    statement-rest (synonym end) o s = (end-rest end o.1.1.1, s)
    statement-rest (requirement q) o s = (string-rest q o.1, s)

    statements-rest : {ts rest : List Token} {bs bs' : List Body} {ss : List Statement} → IsStatements ts bs ss rest bs' → Each (OpensBefore m) ts → Each (BeginsBefore m) bs → Rest rest bs'
    statements-rest no_more o s = (o, s)
    statements-rest (empty r) o s = statements-rest r o.1 s
    statements-rest (stated r q) o s = let h = statement-rest r o s in statements-rest q h.0 h.1

each-at : {X : Type 0} (P : X → Type 0) (xs : List X) (i : ℕ) (x : X) → Each P xs → slice_get xs i ≡ Some x → P x
each-at P [] i x h e = absurd (cc e)
each-at P (y ∷ xs) zero x h e = subst P (some_same e) h.0
each-at P (y ∷ xs) (suc i) x h e = each-at P xs i x h.1 e

-- each body begins before the end of the text
pub spelled-within : (text : List ℕ) (c : Config) → Spells text c → (b : ℕ) (x : Body) → slice_get c.bodies b ≡ Some x → x.span.start + 1 ≤ length text
spelled-within text c h b x e =
    let o = reads-open 0 (length text) text h.tokens _ (omega arith) h.pieces in
    each-at (BeginsBefore (length text)) c.bodies b x (statements-rest (length text) h.tree o tt).1 e

below-limit : (a m n : ℕ) → a ≤ m → m < n → a < n
below-limit a m n p q = omega (arith, p, q)

-- the bodies of a text that fits in memory
pub spelled-short : (text : List ℕ) (c : Config) → Spells text c → length text < 18446744073709551616 → AreShort c.bodies
spelled-short text c h l = λ b x e. below-limit (x.span.start + 1) (length text) 18446744073709551616 (spelled-within text c h b x e) l
