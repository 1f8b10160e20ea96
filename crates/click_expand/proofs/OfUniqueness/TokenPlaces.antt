-- The parts of a configuration that a text spells are at the tokens of the text.
use Rattle.std.proofs.Common.{◌≡◌, ℕ, zero, suc, ◌+◌, ◌≤◌, List, [], ◌∷◌, take, drop, length, Option, Some, refl, sym, ap, ◌∙◌, subst, arith}
use Rattle.std.proofs.lemmas.List.{length-take}
use Rattle.click_text.specs.declared.syntax.Span.{Span}
use Rattle.click_text.specs.declared.syntax.Token.{Token}
use Rattle.click_text.specs.declared.syntax.Token.TheVariants as token
use Rattle.click_text.specs.declared.syntax.Ending.{Ending}
use Rattle.click_text.specs.declared.syntax.WrittenPort.{WrittenPort}
use Rattle.click_text.specs.declared.syntax.ClassReference.{ClassReference}
use Rattle.click_text.specs.declared.syntax.ClassReference.TheVariants as class
use Rattle.click_text.specs.declared.syntax.Head.{Head}
use Rattle.click_text.specs.declared.syntax.Head.TheVariants as head
use Rattle.click_text.specs.declared.syntax.Element.{Element}
use Rattle.click_text.specs.declared.syntax.Link.{Link}
use Rattle.click_text.specs.declared.syntax.Statement.{Statement}
use Rattle.click_text.specs.declared.syntax.Statement.TheVariants as statement
use Rattle.click_text.specs.declared.syntax.Body.{Body}
use Rattle.click_text.specs.declared.syntax.Config.{Config}
use Rattle.click_text.specs.declared.lexer.Piece.{Piece}
use Rattle.click_text.specs.declared.lexer.Piece.TheVariants as piece
use Rattle.click_text.specs.Pieces.{span, IsPiece, Longest, token_of, Reads, ends, passes, takes, stuck}
use Rattle.click_text.specs.Grammar.{IsPort, no_port, bracketed, IsString, no_string, string, IsEnd, semicolon, before_close, at_end, IsFormals, last_formal, more_formals, IsHeader, no_header, header, IsNames, last_name, more_names, IsBody, braces, IsClass, by_name, by_body, IsHead, word, declared, compound, IsElement, an_element, IsLinks, no_links, more_links, IsStatement, chained, declarations, definition, synonym, requirement, IsStatements, no_more, empty, stated, body}
use Rattle.click_text.specs.Spelling.{Spells}
use Rattle.click_text.proofs.OfPieces.OnePieceList.{same_len}
use Rattle.click_scopes.specs.kept.Standing.{Each}
use Rattle.click_scopes.proofs.OfLists.StatementTables.{each-append}

-- the span is that of a token
pub record IsToken (text : List ℕ) (s : Span) : Type 0 where
  pub piece : Piece
  pub size : ℕ
  pub ends : s.end ≡ s.start + size
  pub longest : Longest (drop s.start text) piece size

-- tokens that begin at the same offset are the same
pub token-once : (text : List ℕ) (s t : Span) → IsToken text s → IsToken text t → s.start ≡ t.start → s ≡ t
token-once text s t h k e =
    let n = same_len (drop t.start text) h.piece k.piece h.size k.size (subst (λ x. Longest (drop x text) h.piece h.size) e h.longest) k.longest in
    let f : s.end ≡ t.end = h.ends ∙ ap (λ x. x + h.size) e ∙ ap (λ x. t.start + x) n ∙ sym k.ends in
    ap (λ x. span x s.end) e ∙ ap (span t.start) f

-- P holds of the span of a word or a parameter, and of the span of an opening brace, which is one
-- byte
abbrev Marks : (Span → Type 0) → Token → Type 0
Marks P (token.Word s) = P s
Marks P (token.Formal s) = P s
Marks P (token.Open s) = P (span s.start (s.start + 1))
Marks P _ = Unit {0}

same-token : {t u : Token} → Some t ≡ Some u → t ≡ u
same-token h = cc h

brace-size : (n : ℕ) (text : List ℕ) (b : ℕ) → n ≤ length text → take n text ≡ b ∷ [] → n ≡ 1
brace-size n text b l e = let k = length-take n text in let m : length (take n text) ≡ 1 = ap length e in omega (arith, k, m, l)

module _ (P : Span → Type 0) (s : Span) (p : List ℕ) (t : Token) (holds : P s) (opens : IsPiece piece.Open p → P (span s.start (s.start + 1))) where
  piece-marks : (k : Piece) → IsPiece k p → token_of k p s ≡ Some t → Marks P t
  piece-marks piece.Blank f h = absurd (cc h)
  piece-marks piece.LineComment f h = absurd (cc h)
  piece-marks piece.BlockComment f h = absurd (cc h)
  piece-marks piece.Word f h = subst (Marks P) (same-token h) holds
  piece-marks piece.Formal f h = subst (Marks P) (same-token h) holds
  piece-marks piece.Open f h = subst (Marks P) (same-token h) (opens f)
  piece-marks piece.Number f h = subst (Marks P) (same-token h) tt
  piece-marks piece.Elementclass f h = subst (Marks P) (same-token h) tt
  piece-marks piece.Require f h = subst (Marks P) (same-token h) tt
  piece-marks piece.String f h = subst (Marks P) (same-token h) tt
  piece-marks piece.DoubleColon f h = subst (Marks P) (same-token h) tt
  piece-marks piece.Arrow f h = subst (Marks P) (same-token h) tt
  piece-marks piece.Semicolon f h = subst (Marks P) (same-token h) tt
  piece-marks piece.Comma f h = subst (Marks P) (same-token h) tt
  piece-marks piece.OpenBracket f h = subst (Marks P) (same-token h) tt
  piece-marks piece.CloseBracket f h = subst (Marks P) (same-token h) tt
  piece-marks piece.Close f h = subst (Marks P) (same-token h) tt
  piece-marks piece.Bar f h = subst (Marks P) (same-token h) tt

module _ (text : List ℕ) where
  token-here : (at n : ℕ) (k : Piece) (left : List ℕ) → left ≡ drop at text → Longest left k n → IsToken text (span at (at + n))
  token-here at n k left e l = record { piece = k; size = n; ends = refl; longest = subst (λ x. Longest x k n) e l }

  brace-here : (at n : ℕ) (k : Piece) (left : List ℕ) → left ≡ drop at text → Longest left k n → IsPiece piece.Open (take n left) → IsToken text (span at (at + 1))
  brace-here at n k left e l f = subst (λ x. IsToken text (span at (at + x))) (brace-size n left 123 l.within f) (token-here at n k left e l)

  left-behind : (at n : ℕ) (left : List ℕ) → left ≡ drop at text → drop n left ≡ drop (at + n) text
  left-behind at n left e = ap (drop n) e ∙ drop-twice at n text
    where
      drop-none : (i : ℕ) (xs : List ℕ) → xs ≡ [] → drop i xs ≡ []
      drop-none zero xs e = e
      drop-none (suc i) [] e = refl
      drop-none (suc i) (x ∷ xs) e = absurd (cc e)

      drop-twice : (i j : ℕ) (xs : List ℕ) → drop j (drop i xs) ≡ drop (i + j) xs
      drop-twice zero j xs = let e : j ≡ 0 + j = omega arith in ap (λ k. drop k xs) e
      drop-twice (suc i) j [] = drop-none j [] refl ∙ sym (drop-none (suc i + j) [] refl)
      drop-twice (suc i) j (x ∷ xs) = let e : suc (i + j) ≡ suc i + j = omega arith in drop-twice i j xs ∙ ap (λ k. drop k (x ∷ xs)) e

  reads-marks : (at : ℕ) (left : List ℕ) (ts : List Token) (e : Ending) → left ≡ drop at text → Reads at left ts e → Each (Marks (IsToken text)) ts
  reads-marks at left ts e q (ends at') = tt
  reads-marks at left ts e q (passes at' left' ts' e' k n l t r) = reads-marks (at + n) (drop n left) ts e (left-behind at n left q) r
  reads-marks at left ts e q (takes at' left' ts' e' k n tok l t r) = (
    piece-marks (IsToken text) (span at (at + n)) (take n left) tok (token-here at n k left q l) (brace-here at n k left q l) k l.form t,
    reads-marks (at + n) (drop n left) ts' e (left-behind at n left q) r,
  )
  reads-marks at left ts e q (stuck at' left' l f) = tt

-- P holds of the words, parameters and braces of a tree
module _ (P : Span → Type 0) where
  abbrev pub OfClass : ClassReference → Type 0
  OfClass (class.Named s) = P s
  OfClass (class.Body b) = Unit {0}

  abbrev pub OfHead : Head → Type 0
  OfHead (head.Word s) = P s
  OfHead (head.Declared s c) = P s × OfClass c
  OfHead (head.Compound b) = Unit {0}

  abbrev pub OfLinks : List Link → Type 0
  OfLinks [] = Unit {0}
  OfLinks (l ∷ ls) = OfHead l.element.head × OfLinks ls

  abbrev pub OfStatement : Statement → Type 0
  OfStatement (statement.Chain k) = OfHead k.first.head × OfLinks k.links
  OfStatement (statement.Declaration d) = Each P d.names × OfClass d.class
  OfStatement (statement.Definition n b) = P n
  OfStatement (statement.Synonym n d) = P n × P d
  OfStatement (statement.Requirement t) = Unit {0}

  pub record OfBody (b : Body) : Type 0 where
    pub brace : P (span b.span.start (b.span.start + 1))
    pub formals : Each P b.formals
    pub statements : Each OfStatement b.statements

  -- P holds of the tokens that are left, and of the bodies that were closed
  abbrev Rest : List Token → List Body → Type 0 → Type 0
  Rest ts bs T = Each (Marks P) ts × Each OfBody bs × T

  port-rest : {ts rest : List Token} {p : Option WrittenPort} → IsPort ts p rest → Each (Marks P) ts → Each (Marks P) rest
  port-rest no_port o = o
  port-rest bracketed o = o.1.1.1

  string-rest : {ts rest : List Token} {s : Option Span} → IsString ts s rest → Each (Marks P) ts → Each (Marks P) rest
  string-rest no_string o = o
  string-rest string o = o.1

  end-rest : {ts rest : List Token} → IsEnd ts rest → Each (Marks P) ts → Each (Marks P) rest
  end-rest semicolon o = o.1
  end-rest before_close o = o
  end-rest at_end o = o

  formals-rest : {ts rest : List Token} {fs : List Span} → IsFormals ts fs rest → Each (Marks P) ts → Each (Marks P) rest × Each P fs
  formals-rest last_formal o = (o.1.1, (o.0, tt))
  formals-rest (more_formals r) o = let q = formals-rest r o.1.1 in (q.0, (o.0, q.1))

  header-rest : {ts rest : List Token} {fs : List Span} → IsHeader ts fs rest → Each (Marks P) ts → Each (Marks P) rest × Each P fs
  header-rest no_header o = (o, tt)
  header-rest (header r) o = formals-rest r o

  names-rest : {ts rest : List Token} {ns : List Span} → IsNames ts ns rest → Each (Marks P) ts → Each (Marks P) rest × Each P ns
  names-rest last_name o = (o.1.1.1, (o.1.0, tt))
  names-rest (more_names r) o = let q = names-rest r o.1.1 in (q.0, (o.1.0, q.1))

  mutual
    body-rest : {ts rest : List Token} {bs bs' : List Body} {n : ℕ} → IsBody ts bs n rest bs' → Each (Marks P) ts → Each OfBody bs → Rest rest bs' (Unit {0})
    body-rest (braces {a = a} {b = b} {bs' = bs'} {fs = fs} {ss = ss} h r) o s =
        let f = header-rest h o.1 in
        let q = statements-rest r f.0 s in
        let x : OfBody (body a b fs ss) = record { brace = o.0; formals = f.1; statements = q.2 } in
        (q.0.1, each-append OfBody bs' (body a b fs ss ∷ []) q.1 (x, tt), tt)

    class-rest : {ts rest : List Token} {bs bs' : List Body} {c : ClassReference} → IsClass ts bs c rest bs' → Each (Marks P) ts → Each OfBody bs → Rest rest bs' (OfClass c)
    class-rest by_name o s = (o.1, s, o.0)
    class-rest (by_body r) o s = let q = body-rest r o s in (q.0, q.1, tt)

    head-rest : {ts rest : List Token} {bs bs' : List Body} {h : Head} → IsHead ts bs h rest bs' → Each (Marks P) ts → Each OfBody bs → Rest rest bs' (OfHead h)
    head-rest word o s = (o.1, s, o.0)
    head-rest (declared r) o s = let q = class-rest r o.1.1 s in (q.0, q.1, (o.0, q.2))
    head-rest (compound r) o s = let q = body-rest r o s in (q.0, q.1, tt)

    element-rest : {ts rest : List Token} {bs bs' : List Body} {e : Element} → IsElement ts bs e rest bs' → Each (Marks P) ts → Each OfBody bs → Rest rest bs' (OfHead e.head)
    element-rest (an_element r q) o s = let h = head-rest r o s in (string-rest q h.0, h.1, h.2)

    links-rest : {ts rest : List Token} {bs bs' : List Body} {ls : List Link} → IsLinks ts bs ls rest bs' → Each (Marks P) ts → Each OfBody bs → Rest rest bs' (OfLinks ls)
    links-rest no_links o s = (o, s, tt)
    links-rest (more_links k n r rs) o s =
        let h = element-rest r (port-rest n (port-rest k o).1) s in
        let q = links-rest rs h.0 h.1 in
        (q.0, q.1, (h.2, q.2))

    statement-rest : {ts rest : List Token} {bs bs' : List Body} {st : Statement} → IsStatement ts bs st rest bs' → Each (Marks P) ts → Each OfBody bs → Rest rest bs' (OfStatement st)
    statement-rest (chained r rs end) o s =
        let h = element-rest r o s in
        let q = links-rest rs h.0 h.1 in
        (end-rest end q.0, q.1, (h.2, q.2))
    statement-rest (declarations names r q end) o s =
        let n = names-rest names o.1 in
        let h = class-rest r n.0 s in
        (end-rest end (string-rest q h.0), h.1, ((o.0, n.1), h.2))
    statement-rest (definition r) o s = let h = body-rest r o.1.1 s in (h.0, h.1, o.1.0)
    statement-rest (synonym end) o s = (end-rest end o.1.1.1, s, (o.1.0, o.1.1.0))
    statement-rest (requirement q) o s = (string-rest q o.1, s, tt)

    statements-rest : {ts rest : List Token} {bs bs' : List Body} {ss : List Statement} → IsStatements ts bs ss rest bs' → Each (Marks P) ts → Each OfBody bs →
        Rest rest bs' (Each OfStatement ss)
    statements-rest no_more o s = (o, s, tt)
    statements-rest (empty r) o s = statements-rest r o.1 s
    statements-rest (stated r q) o s =
        let h = statement-rest r o s in
        let k = statements-rest q h.0 h.1 in
        (k.0, k.1, (h.2, k.2))

-- The words, parameters and braces of a configuration are at the tokens of its text.
pub record StandsAtTokens (text : List ℕ) (c : Config) : Type 0 where
  pub statements : Each (OfStatement (IsToken text)) c.statements
  pub bodies : Each (OfBody (IsToken text)) c.bodies

pub spelled-tokens : (text : List ℕ) (c : Config) → Spells text c → StandsAtTokens text c
spelled-tokens text c h =
    let o = reads-marks text 0 text h.tokens _ refl h.pieces in
    let r = statements-rest (IsToken text) h.tree o tt in
    record { statements = r.2; bodies = r.1 }
