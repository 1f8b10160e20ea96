-- The text of a flat form as tokens, and as statements of the grammar.
use Rattle.std.proofs.Common.{◌≡◌, inl, inr, ℕ, zero, suc, ◌+◌, ◌-◌, ◌<◌, List, [], ◌∷◌, ◌++◌, length, drop, Bool, true, false, Option, Some, None, refl, sym, ◌∙◌, ap, subst, arith, append_assoc, length-append}
use Rattle.std.specs.Prelude.{codes, decimal, flat_map}
use Rattle.std.specs.List.{AllByRecursion}
use Rattle.std.proofs.lemmas.Bool.{cases_eq, eq-eqb, ne_eqb, or_parts}
use Rattle.std.proofs.lemmas.List.{take_at}
use Rattle.click_base.specs.Classes.{name as class_name, is_gateway}
use Rattle.click_text.specs.declared.syntax.Span.{Span}
use Rattle.click_text.specs.declared.syntax.WrittenPort.{WrittenPort}
use Rattle.click_text.specs.declared.syntax.Token.{Token}
use Rattle.click_text.specs.declared.syntax.Token.TheVariants as token
use Rattle.click_text.specs.declared.syntax.Ending.TheVariants as ending
use Rattle.click_text.specs.declared.syntax.Statement.{Statement}
use Rattle.click_text.specs.declared.syntax.Statement.TheVariants as statement
use Rattle.click_text.specs.declared.lexer.Piece.TheVariants as piece
use Rattle.click_text.specs.Spans.{bytes_at, without_ends}
use Rattle.click_text.specs.Pieces.{IsPiece, span, Reads, ends}
use Rattle.click_text.specs.Grammar.{written_port, IsPort, no_port, bracketed, IsString, no_string, string, semicolon, by_name, declared, word, an_element, no_links, more_links, chained, IsStatements, no_more, stated, empty, requirement as requirement_stated, NestsWithin}
use Rattle.click_expand.specs.declared.flat.FlatElement.{FlatElement}
use Rattle.click_expand.specs.declared.flat.Connection.{Connection}
use Rattle.click_expand.specs.declared.flat.Flat.{Flat}
use Rattle.click_scopes.specs.Elements.{string_or_empty}
use Rattle.click_scopes.specs.Faults.{port_number}
use Rattle.click_expand.specs.Flat.{is_whole}
use Rattle.click_expand.specs.FlatText.{uses_gateway, string_of, element_line, connection_line, out_port, in_port, name_at_place, flat_text_of}
use Rattle.click_expand.proofs.OfFlatText.ClassWords.{class_word}
use Rattle.click_expand.proofs.OfFlatText.Lines.{element_statement, connection_statement, IsDeclared, IsJoined, AreLines, no_lines, required, first_connection, first_element}
use Rattle.click_expand.proofs.OfFlatText.TextPieces.{Stops, read_word, read_require, read_number, read_string, read_blank, read_semicolon, read_open, read_close, read_colons, read_arrow, port_digits, port_of_digits, behind, bytes_front}

-- from offset `at` on, the text has tokens that are these statements
pub record Told (at : ℕ) (text : List ℕ) (ss : List Statement) : Type 0 where
  pub tokens : List Token
  pub reads : Reads at text tokens ending.Whole
  pub stated : IsStatements tokens [] ss [] []
  pub nests : NestsWithin 0 tokens

-- a configuration string, or none
pub record StringPart (text : List ℕ) (at : ℕ) (rest bytes : List ℕ) : Type 0 where
  pub span : Option Span
  pub gives : string_or_empty text span ≡ bytes
  pub behind : ℕ
  pub there : drop behind text ≡ rest
  pub told : (ts : List Token) → Reads behind rest ts ending.Whole → (us : List Token) × Reads at (string_of bytes ++ rest) us ending.Whole × IsString us span ts × (NestsWithin 0 ts → NestsWithin 0 us)

between : (t : List ℕ) → without_ends (40 ∷ (t ++ 41 ∷ [])) ≡ t
between t = take_at t (41 ∷ []) (length (40 ∷ (t ++ 41 ∷ [])) - 2) (omega (arith, length-append t (41 ∷ [])))

string_part : (text : List ℕ) (at : ℕ) (rest bytes : List ℕ) → is_whole bytes ≡ true → drop at text ≡ string_of bytes ++ rest → StringPart text at rest bytes
string_part text at rest [] w e = record { span = None; gives = refl; behind = at; there = e; told = λ ts r. (ts, r, no_string, λ n. n) }
string_part text at rest (b ∷ t) w e =
    let p = (b ∷ t) ++ 41 ∷ [] in
    let f : bytes_at text (span at (at + length (40 ∷ p))) ≡ 40 ∷ p = bytes_front text at (40 ∷ p) rest e in
    record {
      span = Some (span at (at + length (40 ∷ p)));
      gives = ap without_ends f ∙ between (b ∷ t);
      behind = at + length (40 ∷ p);
      there = behind text at (40 ∷ p) rest e;
      told = λ ts r. (token.String (span at (at + length (40 ∷ p))) ∷ ts, read_string at p rest ts w r, string, λ n. (tt, n));
    }

string_stops : (bytes r : List ℕ) → Stops (string_of bytes ++ 59 ∷ r)
string_stops [] r = (refl, refl)
string_stops (b ∷ t) r = (refl, refl)

-- a port, or none
pub record PortPart (text : List ℕ) (at : ℕ) (rest bytes : List ℕ) (n : ℕ) : Type 0 where
  pub port : Option WrittenPort
  pub number : port_number port ≡ n
  pub behind : ℕ
  pub there : drop behind text ≡ rest
  pub told : (ts : List Token) → Reads behind rest ts ending.Whole → (us : List Token) × Reads at (bytes ++ rest) us ending.Whole × IsPort us port ts × (NestsWithin 0 ts → NestsWithin 0 us)

no_part : (text : List ℕ) (at : ℕ) (rest bytes : List ℕ) (n : ℕ) → n ≡ 0 → bytes ≡ [] → drop at text ≡ bytes ++ rest → PortPart text at rest bytes n
no_part text at rest bytes n z b e = record { port = None; number = sym z; behind = at; there = rw b at e; told = λ ts r. (ts, rw b r, no_port, λ m. m) }

out_some : (text : List ℕ) (at : ℕ) (rest bytes : List ℕ) (n : ℕ) → n < 256 → bytes ≡ 32 ∷ 91 ∷ (decimal n ++ 93 ∷ []) → drop at text ≡ bytes ++ rest → PortPart text at rest bytes n
out_some text at rest bytes n l b e =
    let shape : bytes ++ rest ≡ 32 ∷ 91 ∷ (decimal n ++ 93 ∷ rest) = rw b (ap (λ (bs : List ℕ). 32 ∷ 91 ∷ bs) (append_assoc (decimal n) (93 ∷ []) rest)) in
    let e0 : drop at text ≡ 32 ∷ 91 ∷ (decimal n ++ 93 ∷ rest) = e ∙ shape in
    let e1 = behind text at (32 ∷ []) (91 ∷ (decimal n ++ 93 ∷ rest)) e0 in
    let e2 = behind text (at + 1) (91 ∷ []) (decimal n ++ 93 ∷ rest) e1 in
    let e3 = behind text (at + 1 + 1) (decimal n) (93 ∷ rest) e2 in
    let d = at + 1 + 1 + length (decimal n) in
    let R : List Token → List ℕ → Type 0 = λ us t. Reads at t us ending.Whole in
    record {
      port = Some (written_port n (span (at + 1) (at + 1 + 1)) (span d (d + 1)));
      number = refl;
      behind = d + 1;
      there = behind text d (93 ∷ []) rest e3;
      told = λ ts r.
          let us3 = token.CloseBracket (span d (d + 1)) ∷ ts in
          let us2 = token.Number (Some n) (span (at + 1 + 1) d) ∷ us3 in
          let us = token.OpenBracket (span (at + 1) (at + 1 + 1)) ∷ us2 in
          let x2 = read_number (at + 1 + 1) (decimal n) (93 ∷ rest) us3 n (port_digits n l) (port_of_digits n l) (refl, refl) (read_close d rest ts r) in
          let x1 = read_open (at + 1) (decimal n ++ 93 ∷ rest) us2 x2 in
          (us, subst (R us) (sym shape) (read_blank at 32 (91 ∷ (decimal n ++ 93 ∷ rest)) us refl x1), bracketed, λ m. (tt, (tt, (tt, m))));
    }

in_some : (text : List ℕ) (at : ℕ) (rest bytes : List ℕ) (n : ℕ) → n < 256 → bytes ≡ 91 ∷ (decimal n ++ 93 ∷ 32 ∷ []) → drop at text ≡ bytes ++ rest → PortPart text at rest bytes n
in_some text at rest bytes n l b e =
    let shape : bytes ++ rest ≡ 91 ∷ (decimal n ++ 93 ∷ 32 ∷ rest) = rw b (ap (λ (bs : List ℕ). 91 ∷ bs) (append_assoc (decimal n) (93 ∷ 32 ∷ []) rest)) in
    let e0 : drop at text ≡ 91 ∷ (decimal n ++ 93 ∷ 32 ∷ rest) = e ∙ shape in
    let e2 = behind text at (91 ∷ []) (decimal n ++ 93 ∷ 32 ∷ rest) e0 in
    let e3 = behind text (at + 1) (decimal n) (93 ∷ 32 ∷ rest) e2 in
    let d = at + 1 + length (decimal n) in
    let e4 = behind text d (93 ∷ []) (32 ∷ rest) e3 in
    let R : List Token → List ℕ → Type 0 = λ us t. Reads at t us ending.Whole in
    record {
      port = Some (written_port n (span at (at + 1)) (span d (d + 1)));
      number = refl;
      behind = d + 1 + 1;
      there = behind text (d + 1) (32 ∷ []) rest e4;
      told = λ ts r.
          let us3 = token.CloseBracket (span d (d + 1)) ∷ ts in
          let us2 = token.Number (Some n) (span (at + 1) d) ∷ us3 in
          let us = token.OpenBracket (span at (at + 1)) ∷ us2 in
          let x3 = read_close d (32 ∷ rest) ts (read_blank (d + 1) 32 rest ts refl r) in
          let x2 = read_number (at + 1) (decimal n) (93 ∷ 32 ∷ rest) us3 n (port_digits n l) (port_of_digits n l) (refl, refl) x3 in
          (us, subst (R us) (sym shape) (read_open at (decimal n ++ 93 ∷ 32 ∷ rest) us2 x2), bracketed, λ m. (tt, (tt, (tt, m))));
    }

out_none_is : (n : ℕ) → n ≡ 0 → out_port n ≡ []
out_none_is n e = rw (eq-eqb n 0 e) refl

out_some_is : (n : ℕ) → (n ≡ 0 → ⊥) → out_port n ≡ 32 ∷ 91 ∷ (decimal n ++ 93 ∷ [])
out_some_is n e = rw (ne_eqb n 0 e) refl

in_none_is : (n : ℕ) → n ≡ 0 → in_port n ≡ []
in_none_is n e = rw (eq-eqb n 0 e) refl

in_some_is : (n : ℕ) → (n ≡ 0 → ⊥) → in_port n ≡ 91 ∷ (decimal n ++ 93 ∷ 32 ∷ [])
in_some_is n e = rw (ne_eqb n 0 e) refl

out_part : (text : List ℕ) (at : ℕ) (rest : List ℕ) (n : ℕ) → n < 256 → drop at text ≡ out_port n ++ rest → PortPart text at rest (out_port n) n
out_part text at rest n l e = elim (cases_eq n 0) [
  | inl z ↦ no_part text at rest (out_port n) n z (out_none_is n z) e
  | inr z ↦ out_some text at rest (out_port n) n l (out_some_is n z) e
]

in_part : (text : List ℕ) (at : ℕ) (rest : List ℕ) (n : ℕ) → n < 256 → drop at text ≡ in_port n ++ rest → PortPart text at rest (in_port n) n
in_part text at rest n l e = elim (cases_eq n 0) [
  | inl z ↦ no_part text at rest (in_port n) n z (in_none_is n z) e
  | inr z ↦ in_some text at rest (in_port n) n l (in_some_is n z) e
]

out_stops : (n : ℕ) (r : List ℕ) → Stops (out_port n ++ 32 ∷ r)
out_stops n r = elim (cases_eq n 0) [
  | inl z ↦ rw (out_none_is n z) (refl, refl)
  | inr z ↦ rw (out_some_is n z) (refl, refl)
]

element_stated : (s d w c : Span) (o : Option Span) (us ts : List Token) (ss : List Statement) → IsString us o (token.Semicolon c ∷ ts) → IsStatements ts [] ss [] [] →
    IsStatements (token.Word s ∷ token.DoubleColon d ∷ token.Word w ∷ us) [] (element_statement s w o ∷ ss) [] []
element_stated s d w c o us ts ss h r = stated (chained (an_element (declared by_name) h) no_links semicolon) r

connection_stated : (s a u c : Span) (p q : Option WrittenPort) (us vs ts : List Token) (ss : List Statement) → IsPort us p (token.Arrow a ∷ vs) → IsPort vs q (token.Word u ∷ token.Semicolon c ∷ ts) →
    IsStatements ts [] ss [] [] → IsStatements (token.Word s ∷ us) [] (connection_statement s u p q ∷ ss) [] []
connection_stated s a u c p q us vs ts ss g h r = stated (chained (an_element word no_string) (more_links g h (an_element word no_string) no_links) semicolon) r

-- the line of an element
pub record ElementLine (text : List ℕ) (at : ℕ) (rest : List ℕ) (e : FlatElement) : Type 0 where
  pub name : Span
  pub class : Span
  pub string : Option Span
  pub fits : IsDeclared text e name class string
  pub behind : ℕ
  pub there : drop behind text ≡ rest
  pub told : (ss : List Statement) → Told behind rest ss → Told at (element_line e ++ rest) (element_statement name class string ∷ ss)

element_shape : (e : FlatElement) (rest : List ℕ) → element_line e ++ rest ≡ e.name ++ (32 ∷ 58 ∷ 58 ∷ 32 ∷ (class_name e.class ++ (string_of e.text ++ (59 ∷ 10 ∷ rest))))
element_shape e rest = simp append_assoc

read_element : (text : List ℕ) (at : ℕ) (rest : List ℕ) (e : FlatElement) → IsPiece piece.Word e.name → is_whole e.text ≡ true → drop at text ≡ element_line e ++ rest →
    ElementLine text at rest e
read_element text at rest e n w h =
    let r5 = string_of e.text ++ (59 ∷ 10 ∷ rest) in
    let shape = element_shape e rest in
    let at1 = at + length e.name in
    let at5 = at1 + 1 + 2 + 1 + length (class_name e.class) in
    let r4 = class_name e.class ++ r5 in
    let r3 = 32 ∷ r4 in
    let r2 = 58 ∷ 58 ∷ r3 in
    let r1 = 32 ∷ r2 in
    let h0 : drop at text ≡ e.name ++ r1 = h ∙ shape in
    let h1 = behind text at e.name r1 h0 in
    let h2 = behind text at1 (32 ∷ []) r2 h1 in
    let h3 = behind text (at1 + 1) (58 ∷ 58 ∷ []) r3 h2 in
    let h4 = behind text (at1 + 1 + 2) (32 ∷ []) r4 h3 in
    let h5 = behind text (at1 + 1 + 2 + 1) (class_name e.class) r5 h4 in
    let s = string_part text at5 (59 ∷ 10 ∷ rest) e.text w h5 in
    let h7 = behind text s.behind (59 ∷ []) (10 ∷ rest) s.there in
    let R : List Token → List ℕ → Type 0 = λ us t. Reads at t us ending.Whole in
    record {
      name = span at at1;
      class = span (at1 + 1 + 2 + 1) at5;
      string = s.span;
      fits = record { name = bytes_front text at e.name r1 h0; class = bytes_front text (at1 + 1 + 2 + 1) (class_name e.class) r5 h4; string = s.gives };
      behind = s.behind + 1 + 1;
      there = behind text (s.behind + 1) (10 ∷ []) rest h7;
      told = λ ss m.
          let x = s.told (token.Semicolon (span s.behind (s.behind + 1)) ∷ m.tokens) (read_semicolon s.behind (10 ∷ rest) m.tokens (read_blank (s.behind + 1) 10 rest m.tokens refl m.reads)) in
          let us4 = token.Word (span (at1 + 1 + 2 + 1) at5) ∷ x.0 in
          let us2 = token.DoubleColon (span (at1 + 1) (at1 + 1 + 2)) ∷ us4 in
          let us = token.Word (span at at1) ∷ us2 in
          let x4 = read_word (at1 + 1 + 2 + 1) (class_name e.class) r5 x.0 (class_word e.class) (string_stops e.text (10 ∷ rest)) x.1 in
          let x3 = read_blank (at1 + 1 + 2) 32 r4 us4 refl x4 in
          let x2 = read_colons (at1 + 1) r3 us4 x3 in
          let x1 = read_blank at1 32 r2 us2 refl x2 in
          record {
            tokens = us;
            reads = subst (R us) (sym shape) (read_word at e.name r1 us2 n (refl, refl) x1);
            stated = element_stated (span at at1) (span (at1 + 1) (at1 + 1 + 2)) (span (at1 + 1 + 2 + 1) at5) (span s.behind (s.behind + 1)) s.span x.0 m.tokens ss x.2 m.stated;
            nests = (tt, (tt, (tt, x.3 (tt, m.nests))));
          };
    }

-- the line of a connection
pub record ConnectionLine (text : List ℕ) (at : ℕ) (rest : List ℕ) (all : List FlatElement) (k : Connection) : Type 0 where
  pub from : Span
  pub to : Span
  pub out : Option WrittenPort
  pub into : Option WrittenPort
  pub fits : IsJoined text all k from to out into
  pub behind : ℕ
  pub there : drop behind text ≡ rest
  pub told : (ss : List Statement) → Told behind rest ss → Told at (connection_line all k ++ rest) (connection_statement from to out into ∷ ss)

connection_shape : (all : List FlatElement) (k : Connection) (rest : List ℕ) → connection_line all k ++ rest ≡
    name_at_place all k.from ++ (out_port k.out_port ++ (32 ∷ 45 ∷ 62 ∷ 32 ∷ (in_port k.in_port ++ (name_at_place all k.to ++ (59 ∷ 10 ∷ rest)))))
connection_shape all k rest = simp append_assoc

-- what the line of a connection requires
pub record IsWritable (all : List FlatElement) (k : Connection) : Type 0 where
  pub from_there : k.from < length all
  pub to_there : k.to < length all
  pub out_small : k.out_port < 256
  pub in_small : k.in_port < 256

read_connection : (text : List ℕ) (at : ℕ) (rest : List ℕ) (all : List FlatElement) (k : Connection) → IsWritable all k → IsPiece piece.Word (name_at_place all k.from) → IsPiece piece.Word (name_at_place all k.to) →
    drop at text ≡ connection_line all k ++ rest → ConnectionLine text at rest all k
read_connection text at rest all k i n m h =
    let a = name_at_place all k.from in
    let b = name_at_place all k.to in
    let r5 = b ++ (59 ∷ 10 ∷ rest) in
    let r4 = in_port k.in_port ++ r5 in
    let r1 = 32 ∷ 45 ∷ 62 ∷ 32 ∷ r4 in
    let shape = connection_shape all k rest in
    let h0 : drop at text ≡ a ++ (out_port k.out_port ++ r1) = h ∙ shape in
    let h1 = behind text at a (out_port k.out_port ++ r1) h0 in
    let p = out_part text (at + length a) r1 k.out_port i.out_small h1 in
    let h2 = behind text p.behind (32 ∷ []) (45 ∷ 62 ∷ 32 ∷ r4) p.there in
    let h3 = behind text (p.behind + 1) (45 ∷ 62 ∷ []) (32 ∷ r4) h2 in
    let h4 = behind text (p.behind + 1 + 2) (32 ∷ []) r4 h3 in
    let at4 = p.behind + 1 + 2 + 1 in
    let q = in_part text at4 r5 k.in_port i.in_small h4 in
    let at5 = q.behind in
    let at6 = at5 + length b in
    let h6 = behind text at5 b (59 ∷ 10 ∷ rest) q.there in
    let h7 = behind text at6 (59 ∷ []) (10 ∷ rest) h6 in
    let R : List Token → List ℕ → Type 0 = λ us t. Reads at t us ending.Whole in
    record {
      from = span at (at + length a);
      to = span at5 at6;
      out = p.port;
      into = q.port;
      fits = record { from_there = i.from_there; to_there = i.to_there; from = bytes_front text at a (out_port k.out_port ++ r1) h0; to = bytes_front text at5 b (59 ∷ 10 ∷ rest) q.there; out_port = p.number; in_port = q.number };
      behind = at6 + 1 + 1;
      there = behind text (at6 + 1) (10 ∷ []) rest h7;
      told = λ ss t.
          let us6 = token.Semicolon (span at6 (at6 + 1)) ∷ t.tokens in
          let x6 = read_semicolon at6 (10 ∷ rest) t.tokens (read_blank (at6 + 1) 10 rest t.tokens refl t.reads) in
          let x = q.told (token.Word (span at5 at6) ∷ us6) (read_word at5 b (59 ∷ 10 ∷ rest) us6 m (refl, refl) x6) in
          let us2 = token.Arrow (span (p.behind + 1) (p.behind + 1 + 2)) ∷ x.0 in
          let x3 = read_blank (p.behind + 1 + 2) 32 r4 x.0 refl x.1 in
          let x2 = read_arrow (p.behind + 1) (32 ∷ r4) x.0 x3 in
          let y = p.told us2 (read_blank p.behind 32 (45 ∷ 62 ∷ 32 ∷ r4) us2 refl x2) in
          let us = token.Word (span at (at + length a)) ∷ y.0 in
          record {
            tokens = us;
            reads = subst (R us) (sym shape) (read_word at a (out_port k.out_port ++ r1) y.0 n (out_stops k.out_port (45 ∷ 62 ∷ 32 ∷ r4)) y.1);
            stated = connection_stated (span at (at + length a)) (span (p.behind + 1) (p.behind + 1 + 2)) (span at5 at6) (span at6 (at6 + 1)) p.port q.port y.0 x.0 t.tokens ss y.2 x.2 t.stated;
            nests = (tt, y.3 (tt, x.3 (tt, (tt, t.nests))));
          };
    }

-- what holds of the lines of these elements and connections, with the truth value `g` of `AreLines`
pub record AllTold (text : List ℕ) (at : ℕ) (rest : List ℕ) (g : Bool) (all es : List FlatElement) (ks : List Connection) : Type 0 where
  pub statements : List Statement
  pub told : Told at rest statements
  pub lines : AreLines text all g es ks statements

abbrev pub IsWordy : FlatElement → Type 0
IsWordy e = IsPiece piece.Word e.name

abbrev pub IsTextual : FlatElement → Type 0
IsTextual e = is_whole e.text ≡ true

name_word : (es : List FlatElement) (i : ℕ) → AllByRecursion IsWordy es → i < length es → IsPiece piece.Word (name_at_place es i)
name_word [] i a h = absurd (omega arith)
name_word (e ∷ es) zero a h = a.0
name_word (e ∷ es) (suc i) a h = name_word es i a.1 (omega arith)

read_connections : (text : List ℕ) (at : ℕ) (g : Bool) (all : List FlatElement) (ks : List Connection) → AllByRecursion IsWordy all → AllByRecursion (IsWritable all) ks → drop at text ≡ flat_map (connection_line all) ks →
    AllTold text at (flat_map (connection_line all) ks) g all [] ks
read_connections text at g all [] n w h = record { statements = []; told = record { tokens = []; reads = ends at; stated = no_more; nests = tt }; lines = no_lines }
read_connections text at g all (k ∷ ks) n w h =
    let rest = flat_map (connection_line all) ks in
    let l = read_connection text at rest all k w.0 (name_word all k.from n w.0.from_there) (name_word all k.to n w.0.to_there) h in
    let m = read_connections text l.behind g all ks n w.1 l.there in
    record {
      statements = connection_statement l.from l.to l.out l.into ∷ m.statements;
      told = l.told m.statements m.told;
      lines = first_connection k ks l.from l.to l.out l.into m.statements l.fits m.lines;
    }

-- the class of the element is visible: `g` is true if it is of the gateway package
abbrev IsVisible : Bool → FlatElement → Type 0
IsVisible g e = is_gateway e.class ≡ true → g ≡ true

read_elements : (text : List ℕ) (at : ℕ) (g : Bool) (all es : List FlatElement) (ks : List Connection) → AllByRecursion (IsVisible g) es → AllByRecursion IsWordy all → AllByRecursion IsWordy es → AllByRecursion IsTextual es →
    AllByRecursion (IsWritable all) ks → drop at text ≡ flat_map element_line es ++ flat_map (connection_line all) ks → AllTold text at (flat_map element_line es ++ flat_map (connection_line all) ks) g all es ks
read_elements text at g all [] ks i n ns ts w h = read_connections text at g all ks n w h
read_elements text at g all (e ∷ es) ks i n ns ts w h =
    let rest = flat_map element_line es ++ flat_map (connection_line all) ks in
    let shape : flat_map element_line (e ∷ es) ++ flat_map (connection_line all) ks ≡ element_line e ++ rest = append_assoc (element_line e) (flat_map element_line es) (flat_map (connection_line all) ks) in
    let l = read_element text at rest e ns.0 ts.0 (h ∙ shape) in
    let m = read_elements text l.behind g all es ks i.1 n ns.1 ts.1 w l.there in
    let T : List ℕ → Type 0 = λ t. Told at t (element_statement l.name l.class l.string ∷ m.statements) in
    record {
      statements = element_statement l.name l.class l.string ∷ m.statements;
      told = subst T (sym shape) (l.told m.statements m.told);
      lines = first_element e es ks l.name l.class l.string m.statements l.fits i.0 m.lines;
    }

-- every class is visible with the gateway package
all_visible : (es : List FlatElement) → AllByRecursion (IsVisible true) es
all_visible [] = tt
all_visible (e ∷ es) = (λ k. refl, all_visible es)

-- every class is visible without the gateway package, if no element is of one of its classes
visible_without : (es : List FlatElement) → uses_gateway es ≡ false → AllByRecursion (IsVisible false) es
visible_without [] h = tt
visible_without (e ∷ es) h = let p = or_parts (is_gateway e.class) (uses_gateway es) h in ((λ k. sym p.0 ∙ k), visible_without es p.1)

-- the line `require(gateway);` has the tokens of the statement that requires the gateway package
required_told : (rest : List ℕ) (ss : List Statement) → Told 18 rest ss → Told 0 (codes "require" ++ (40 ∷ (codes "gateway)" ++ (59 ∷ 10 ∷ rest)))) (statement.Requirement (Some (span 7 16)) ∷ ss)
required_told rest ss m =
    let us2 = token.Semicolon (span 16 17) ∷ m.tokens in
    let us1 = token.String (span 7 16) ∷ us2 in
    let x2 = read_semicolon 16 (10 ∷ rest) m.tokens (read_blank 17 10 rest m.tokens refl m.reads) in
    let x1 = read_string 7 (codes "gateway)") (59 ∷ 10 ∷ rest) us2 refl x2 in
    record {
      tokens = token.Require (span 0 7) ∷ us1;
      reads = read_require 0 (codes "require") (40 ∷ (codes "gateway)" ++ (59 ∷ 10 ∷ rest))) us1 refl (refl, refl) x1;
      stated = stated (requirement_stated string) (empty m.stated);
      nests = (tt, (tt, (tt, m.nests)));
    }

-- the whole text
pub read_text : (f : Flat) → AllByRecursion IsWordy f.elements → AllByRecursion IsTextual f.elements → AllByRecursion (IsWritable f.elements) f.connections →
    AllTold (flat_text_of f) 0 (flat_text_of f) false f.elements f.elements f.connections
read_text f n t w = by_test (uses_gateway f.elements) refl
  where
    E : List ℕ
    E = flat_map element_line f.elements

    C : List ℕ
    C = flat_map (connection_line f.elements) f.connections

    by_test : (b : Bool) → uses_gateway f.elements ≡ b → AllTold (flat_text_of f) 0 (flat_text_of f) false f.elements f.elements f.connections
    by_test false u =
        let e : flat_text_of f ≡ E ++ C = rw u refl in
        rw e (read_elements (E ++ C) 0 false f.elements f.elements f.connections (visible_without f.elements u) n n t w refl)
    by_test true u =
        let whole = codes "require" ++ (40 ∷ (codes "gateway)" ++ (59 ∷ 10 ∷ (E ++ C)))) in
        let e : flat_text_of f ≡ whole = rw u refl in
        let m = read_elements whole 18 true f.elements f.elements f.connections (all_visible f.elements) n n t w refl in
        rw e (record {
          statements = statement.Requirement (Some (span 7 16)) ∷ m.statements;
          told = required_told (E ++ C) m.statements m.told;
          lines = required f.elements f.connections (span 7 16) m.statements refl m.lines;
        })
