-- In what the grammar makes of tokens, names are words and ports are below 256.
use Rattle.std.proofs.Common.{◌≡◌, ℕ, ◌+◌, ◌-◌, ◌<◌, List, [], ◌∷◌, ◌++◌, take, drop, Option, Some, None, refl, subst, arith, inl, inr}
use Rattle.std.specs.Prelude.{nat_lt}
use Rattle.std.specs.List.{AllByRecursion}
use Rattle.std.proofs.lemmas.Bool.{cases_Bool, ltb-true}
use Rattle.std.proofs.lemmas.List.{drop-drop}
use Rattle.click_text.specs.declared.syntax.Span.{Span}
use Rattle.click_text.specs.declared.syntax.Token.{Token}
use Rattle.click_text.specs.declared.syntax.Token.TheVariants as token
use Rattle.click_text.specs.declared.syntax.Ending.{Ending}
use Rattle.click_text.specs.declared.syntax.WrittenPort.{WrittenPort}
use Rattle.click_text.specs.declared.syntax.ClassReference.{ClassReference}
use Rattle.click_text.specs.declared.syntax.Head.{Head}
use Rattle.click_text.specs.declared.syntax.Head.TheVariants as head
use Rattle.click_text.specs.declared.syntax.Element.{Element}
use Rattle.click_text.specs.declared.syntax.Link.{Link}
use Rattle.click_text.specs.declared.syntax.Statement.{Statement}
use Rattle.click_text.specs.declared.syntax.Statement.TheVariants as statement
use Rattle.click_text.specs.declared.syntax.Body.{Body}
use Rattle.click_text.specs.declared.lexer.Piece.{Piece}
use Rattle.click_text.specs.declared.lexer.Piece.TheVariants as piece
use Rattle.click_text.specs.Spans.{bytes_at}
use Rattle.click_text.specs.Pieces.{IsPiece, span, decimal_after, port_spelled, token_of, Reads, ends, passes, takes, stuck}
use Rattle.click_text.specs.Grammar.{body, IsPort, no_port, bracketed, IsString, no_string, string, IsEnd, semicolon, before_close, at_end, IsFormals, last_formal, more_formals, IsHeader, no_header, header, IsNames, last_name, more_names, IsBody, braces, IsClass, by_name, by_body, IsHead, word, declared, compound, IsElement, an_element, IsLinks, no_links, more_links, IsStatement, chained, declarations, definition, synonym, requirement, IsStatements, no_more, empty, stated}
use Rattle.click_expand.proofs.OfFlatText.NameWords.{IsName}

abbrev pub RightToken : List ℕ → Token → Type 0
RightToken text (token.Word s) = IsName (bytes_at text s)
RightToken text (token.Number (Some n) s) = n < 256
RightToken text _ = Unit {0}

abbrev pub RightSpan : List ℕ → Span → Type 0
RightSpan text s = IsName (bytes_at text s)

abbrev pub RightPort : Option WrittenPort → Type 0
RightPort None = Unit {0}
RightPort (Some p) = p.number < 256

abbrev pub RightHead : List ℕ → Head → Type 0
RightHead text (head.Word s) = RightSpan text s
RightHead text (head.Declared s c) = RightSpan text s
RightHead text (head.Compound b) = Unit {0}

abbrev pub RightLink : List ℕ → Link → Type 0
RightLink text l = RightPort l.from × RightPort l.to × RightHead text l.element.head

abbrev pub RightStatement : List ℕ → Statement → Type 0
RightStatement text (statement.Chain c) = RightHead text c.first.head × AllByRecursion (RightLink text) c.links
RightStatement text (statement.Declaration d) = AllByRecursion (RightSpan text) d.names
RightStatement text _ = Unit {0}

abbrev pub RightBody : List ℕ → Body → Type 0
RightBody text b = AllByRecursion (RightStatement text) b.statements

abbrev Tokens : List ℕ → List Token → Type 0
Tokens text ts = AllByRecursion (RightToken text) ts

abbrev Bodies : List ℕ → List Body → Type 0
Bodies text bs = AllByRecursion (RightBody text) bs

right_number : (text : List ℕ) (s : Span) (p : List ℕ) → RightToken text (token.Number (port_spelled p) s)
right_number text s p = elim (cases_Bool (nat_lt (decimal_after 0 p) 256)) [
  | inl e ↦ rw e (ltb-true (decimal_after 0 p) 256 e)
  | inr e ↦ rw e tt
]

right_by : (text : List ℕ) (t tok : Token) → Some t ≡ Some tok → RightToken text t → RightToken text tok
right_by text t tok e h = let f : t ≡ tok = cc in subst (RightToken text) f h

right_token : (text : List ℕ) (k : Piece) (p : List ℕ) (s : Span) (tok : Token) → IsPiece k p → bytes_at text s ≡ p → token_of k p s ≡ Some tok → RightToken text tok
right_token text piece.Blank p s tok h b e = cc
right_token text piece.LineComment p s tok h b e = cc
right_token text piece.BlockComment p s tok h b e = cc
right_token text piece.Word p s tok h b e = right_by text (token.Word s) tok e (rw b h)
right_token text piece.Number p s tok h b e = right_by text (token.Number (port_spelled p) s) tok e (right_number text s p)
right_token text piece.Elementclass p s tok h b e = right_by text (token.Elementclass s) tok e tt
right_token text piece.Require p s tok h b e = right_by text (token.Require s) tok e tt
right_token text piece.Formal p s tok h b e = right_by text (token.Formal s) tok e tt
right_token text piece.String p s tok h b e = right_by text (token.String s) tok e tt
right_token text piece.DoubleColon p s tok h b e = right_by text (token.DoubleColon s) tok e tt
right_token text piece.Arrow p s tok h b e = right_by text (token.Arrow s) tok e tt
right_token text piece.Semicolon p s tok h b e = right_by text (token.Semicolon s) tok e tt
right_token text piece.Comma p s tok h b e = right_by text (token.Comma s) tok e tt
right_token text piece.OpenBracket p s tok h b e = right_by text (token.OpenBracket s) tok e tt
right_token text piece.CloseBracket p s tok h b e = right_by text (token.CloseBracket s) tok e tt
right_token text piece.Open p s tok h b e = right_by text (token.Open s) tok e tt
right_token text piece.Close p s tok h b e = right_by text (token.Close s) tok e tt
right_token text piece.Bar p s tok h b e = right_by text (token.Bar s) tok e tt

next_rest : (text t : List ℕ) (at n : ℕ) → t ≡ drop at text → drop n t ≡ drop (at + n) text
next_rest text t at n h = rw h (drop-drop n at text)

front_bytes : (text t : List ℕ) (at n : ℕ) → t ≡ drop at text → bytes_at text (span at (at + n)) ≡ take n t
front_bytes text t at n h = let e : at + n - at ≡ n = omega arith in rw (e, h) refl

pub right_tokens : (text : List ℕ) {at : ℕ} {t : List ℕ} {ts : List Token} {e : Ending} → t ≡ drop at text → Reads at t ts e → Tokens text ts
right_tokens text h (ends at) = tt
right_tokens text h (passes at t ts e k n l q r) = right_tokens text (next_rest text t at n h) r
right_tokens text h (takes at t ts e k n tok l q r) =
    (right_token text k (take n t) (span at (at + n)) tok l.form (front_bytes text t at n h) q, right_tokens text (next_rest text t at n h) r)
right_tokens text h (stuck at t z n) = tt

right_port : (text : List ℕ) {ts rest : List Token} {p : Option WrittenPort} → IsPort ts p rest → Tokens text ts → RightPort p × Tokens text rest
right_port text no_port a = (tt, a)
right_port text bracketed a = (a.1.0, a.1.1.1)

right_string : (text : List ℕ) {ts rest : List Token} {s : Option Span} → IsString ts s rest → Tokens text ts → Tokens text rest
right_string text no_string a = a
right_string text string a = a.1

right_end : (text : List ℕ) {ts rest : List Token} → IsEnd ts rest → Tokens text ts → Tokens text rest
right_end text semicolon a = a.1
right_end text before_close a = a
right_end text at_end a = a

right_formals : (text : List ℕ) {ts rest : List Token} {fs : List Span} → IsFormals ts fs rest → Tokens text ts → Tokens text rest
right_formals text last_formal a = a.1.1
right_formals text (more_formals f) a = right_formals text f a.1.1

right_header : (text : List ℕ) {ts rest : List Token} {fs : List Span} → IsHeader ts fs rest → Tokens text ts → Tokens text rest
right_header text no_header a = a
right_header text (header f) a = right_formals text f a

right_names : (text : List ℕ) {ts rest : List Token} {ns : List Span} → IsNames ts ns rest → Tokens text ts → AllByRecursion (RightSpan text) ns × Tokens text rest
right_names text last_name a = ((a.1.0, tt), a.1.1.1)
right_names text (more_names r) a = let x = right_names text r a.1.1 in ((a.1.0, x.0), x.1)

push_body : (text : List ℕ) (bs : List Body) (b : Body) → Bodies text bs → RightBody text b → Bodies text (bs ++ b ∷ [])
push_body text [] b a h = (h, tt)
push_body text (c ∷ bs) b a h = (a.0, push_body text bs b a.1 h)

mutual
  right_body : (text : List ℕ) {ts rest : List Token} {bs bs' : List Body} {n : ℕ} → IsBody ts bs n rest bs' → Tokens text ts → Bodies text bs → Tokens text rest × Bodies text bs'
  right_body text (braces {a = a} {b = b} {bs' = bs'} {fs = fs} {ss = ss} h r) ts bs =
      let x = right_statements text r (right_header text h ts.1) bs in
      (x.1.1, push_body text bs' (body a b fs ss) x.2 x.0)

  right_class : (text : List ℕ) {ts rest : List Token} {bs bs' : List Body} {c : ClassReference} → IsClass ts bs c rest bs' → Tokens text ts → Bodies text bs → Tokens text rest × Bodies text bs'
  right_class text by_name ts bs = (ts.1, bs)
  right_class text (by_body r) ts bs = right_body text r ts bs

  right_head : (text : List ℕ) {ts rest : List Token} {bs bs' : List Body} {h : Head} → IsHead ts bs h rest bs' → Tokens text ts → Bodies text bs → RightHead text h × Tokens text rest × Bodies text bs'
  right_head text word ts bs = (ts.0, ts.1, bs)
  right_head text (declared r) ts bs = let x = right_class text r ts.1.1 bs in (ts.0, x.0, x.1)
  right_head text (compound r) ts bs = let x = right_body text r ts bs in (tt, x.0, x.1)

  right_element : (text : List ℕ) {ts rest : List Token} {bs bs' : List Body} {e : Element} → IsElement ts bs e rest bs' → Tokens text ts → Bodies text bs → RightHead text e.head × Tokens text rest × Bodies text bs'
  right_element text (an_element h s) ts bs = let x = right_head text h ts bs in (x.0, right_string text s x.1, x.2)

  right_links : (text : List ℕ) {ts rest : List Token} {bs bs' : List Body} {ls : List Link} → IsLinks ts bs ls rest bs' → Tokens text ts → Bodies text bs → AllByRecursion (RightLink text) ls × Tokens text rest × Bodies text bs'
  right_links text no_links ts bs = (tt, ts, bs)
  right_links text (more_links p q e r) ts bs =
      let x = right_port text p ts in
      let y = right_port text q x.1.1 in
      let z = right_element text e y.1 bs in
      let w = right_links text r z.1 z.2 in
      (((x.0, y.0, z.0), w.0), w.1, w.2)

  right_statement : (text : List ℕ) {ts rest : List Token} {bs bs' : List Body} {s : Statement} → IsStatement ts bs s rest bs' → Tokens text ts → Bodies text bs → RightStatement text s × Tokens text rest × Bodies text bs'
  right_statement text (chained e l n) ts bs =
      let x = right_element text e ts bs in
      let y = right_links text l x.1 x.2 in
      ((x.0, y.0), right_end text n y.1, y.2)
  right_statement text (declarations ns c s n) ts bs =
      let x = right_names text ns ts.1 in
      let y = right_class text c x.1 bs in
      ((ts.0, x.0), right_end text n (right_string text s y.0), y.1)
  right_statement text (definition r) ts bs = let x = right_body text r ts.1.1 bs in (tt, x.0, x.1)
  right_statement text (synonym n) ts bs = (tt, right_end text n ts.1.1.1, bs)
  right_statement text (requirement s) ts bs = (tt, right_string text s ts.1, bs)

  right_statements : (text : List ℕ) {ts rest : List Token} {bs bs' : List Body} {ss : List Statement} → IsStatements ts bs ss rest bs' → Tokens text ts → Bodies text bs → AllByRecursion (RightStatement text) ss × Tokens text rest × Bodies text bs'
  right_statements text no_more ts bs = (tt, ts, bs)
  right_statements text (empty r) ts bs = right_statements text r ts.1 bs
  right_statements text (stated s r) ts bs =
      let x = right_statement text s ts bs in
      let y = right_statements text r x.1 x.2 in
      ((x.0, y.0), y.1, y.2)

-- the statements and the bodies of a text
pub right_text : (text : List ℕ) {ts : List Token} {ss : List Statement} {bs : List Body} → IsStatements ts [] ss [] bs → Tokens text ts → AllByRecursion (RightStatement text) ss × AllByRecursion (RightBody text) bs
right_text text r a = let x = right_statements text r a tt in (x.0, x.2)
