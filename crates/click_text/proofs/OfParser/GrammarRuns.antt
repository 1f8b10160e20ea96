-- From the grammar to the machine: the machine runs through what the grammar describes, with the
-- same tree.
use Rattle.std.proofs.Common.{inl, inr, ◌≡◌, ℕ, List, [], ◌∷◌, ◌++◌, Option, Some, None, refl, sym, ◌∙◌, append_assoc}
use Rattle.std.proofs.lemmas.List.{append-nil}
use Rattle.click_text.specs.declared.syntax.Span.{Span}
use Rattle.click_text.specs.declared.syntax.Token.{Token}
use Rattle.click_text.specs.declared.syntax.Token.TheVariants as token
use Rattle.click_text.specs.declared.syntax.WrittenPort.{WrittenPort}
use Rattle.click_text.specs.declared.syntax.ClassReference.{ClassReference}
use Rattle.click_text.specs.declared.syntax.Head.{Head}
use Rattle.click_text.specs.declared.syntax.Head.TheVariants as head
use Rattle.click_text.specs.declared.syntax.Element.{Element}
use Rattle.click_text.specs.declared.syntax.Link.{Link}
use Rattle.click_text.specs.declared.syntax.Statement.{Statement}
use Rattle.click_text.specs.declared.syntax.Body.{Body}
use Rattle.click_text.specs.Grammar.{element, link, chain, declaration, Tree, IsPort, no_port, bracketed, IsString, no_string, string, IsEnd, semicolon, before_close, at_end, IsFormals, last_formal, more_formals, IsHeader, no_header, header, IsNames, last_name, more_names, IsBody, braces, IsClass, by_name, by_body, IsHead, word, declared, compound, IsElement, an_element, IsLinks, no_links, more_links, IsStatement, chained, declarations, definition, synonym, requirement, IsStatements, no_more, empty, stated, IsText}
use Rattle.click_text.specs.kept.ParserStates.{Place, top, inside, Use, as_element, as_class, as_definition, Target, of_head, of_names, Context, start, linked, Side, out, into, State, between, statement_wanted, first_read, name_read, listed_read, define_named, required, ending, body_opened, formal_wanted, element_wanted, word_read, class_wanted, head_read, after, port_wanted, element_read, classified, body_read, ported, past_port, beyond_element, a_synonym, a_requirement, step, tree_at_element, finish, run}
use Rattle.click_text.proofs.OfParser.StateTokens.{headed_by, worded_by, firsted_by, listed_by, required_by, unfolded_by}

-- the next token is not of this kind
abbrev NoClass : List Token → Type 0
NoClass ts = (d : Span) (rest : List Token) → ts ≡ token.DoubleColon d ∷ rest → ⊥

abbrev NoString : List Token → Type 0
NoString ts = (s : Span) (rest : List Token) → ts ≡ token.String s ∷ rest → ⊥

abbrev NoComma : List Token → Type 0
NoComma ts = (c : Span) (rest : List Token) → ts ≡ token.Comma c ∷ rest → ⊥

abbrev NoFormal : List Token → Type 0
NoFormal ts = (s : Span) (rest : List Token) → ts ≡ token.Formal s ∷ rest → ⊥

end_runs : {ts rest : List Token} → IsEnd ts rest → (bs : List Body) (p : Place) (ss : List Statement) (f : Element) (ls : List Link) → run (after bs p ss f ls) ts ≡ run (between bs p (ss ++ chain f ls ∷ [])) rest
unfolding run
end_runs semicolon bs p ss f ls = refl
end_runs before_close bs p ss f ls = refl
end_runs at_end bs p ss f ls = refl

ending_runs : {ts rest : List Token} → IsEnd ts rest → (bs : List Body) (p : Place) (ss : List Statement) (st : Statement) → run (ending bs p ss st) ts ≡ run (between bs p (ss ++ st ∷ [])) rest
unfolding run
ending_runs semicolon bs p ss st = refl
ending_runs before_close bs p ss st = refl
ending_runs at_end bs p ss st = refl

end_follows : {ts rest : List Token} → IsEnd ts rest → NoString ts
end_follows semicolon = λ s r e. cc
end_follows before_close = λ s r e. cc
end_follows at_end = λ s r e. cc

-- after an element comes no `::`, no string and no comma
follows : {ts ts' rest : List Token} {bs bs' : List Body} {ls : List Link} → IsLinks ts bs ls ts' bs' → IsEnd ts' rest → NoClass ts × NoString ts × NoComma ts
follows no_links semicolon = (λ d r e. cc, λ s r e. cc, λ s r e. cc)
follows no_links before_close = (λ d r e. cc, λ s r e. cc, λ s r e. cc)
follows no_links at_end = (λ d r e. cc, λ s r e. cc, λ s r e. cc)
follows (more_links no_port q r rs) e = (λ d r e. cc, λ s r e. cc, λ s r e. cc)
follows (more_links bracketed q r rs) e = (λ d r e. cc, λ s r e. cc, λ s r e. cc)

-- after a head comes no `::`
headed_follows : {ts rest : List Token} {text : Option Span} → IsString ts text rest → NoClass rest → NoClass ts
headed_follows no_string h = h
headed_follows string h = λ d r e. cc

headed_no_comma : {ts rest : List Token} {text : Option Span} → IsString ts text rest → NoComma rest → NoComma ts
headed_no_comma no_string h = h
headed_no_comma string h = λ d r e. cc

-- a statement begins with neither a string nor a parameter
statement_first : {ts rest : List Token} {bs bs' : List Body} {st : Statement} → IsStatement ts bs st rest bs' → NoString ts × NoFormal ts
statement_first (chained (an_element word q) rs end) = (λ s r e. cc, λ s r e. cc)
statement_first (chained (an_element (declared c) q) rs end) = (λ s r e. cc, λ s r e. cc)
statement_first (chained (an_element (compound (braces h k)) q) rs end) = (λ s r e. cc, λ s r e. cc)
statement_first (declarations ns c q end) = (λ s r e. cc, λ s r e. cc)
statement_first (definition b) = (λ s r e. cc, λ s r e. cc)
statement_first (synonym end) = (λ s r e. cc, λ s r e. cc)
statement_first (requirement q) = (λ s r e. cc, λ s r e. cc)

statements_first : {ts rest : List Token} {bs bs' : List Body} {ss : List Statement} → IsStatements ts bs ss rest bs' → NoString rest × NoFormal rest → NoString ts × NoFormal ts
statements_first no_more k = k
statements_first (empty r) k = (λ s r e. cc, λ s r e. cc)
statements_first (stated r q) k = statement_first r

no_string_first : {ts rest : List Token} {bs bs' : List Body} {ss : List Statement} → IsStatements ts bs ss rest bs' → NoString rest → NoString ts
no_string_first no_more k = k
no_string_first (empty r) k = λ s r e. cc
no_string_first (stated r q) k = (statement_first r).0

-- a word that is not declared
word_runs : (ts : List Token) (bs : List Body) (cx : Context) (s : Span) → NoClass ts → run (word_read bs cx s) ts ≡ run (head_read bs cx (head.Word s)) ts
unfolding run
word_runs [] bs cx s h = refl
word_runs (tok ∷ ts) bs cx s h = elim (worded_by bs cx s tok) [ inl w ↦ absurd (h w.0 ts (rw (w.1) refl)) | inr e ↦ rw e refl ]

-- a first word that is not the first of several names
first_runs : (ts : List Token) (bs : List Body) (p : Place) (ss : List Statement) (s : Span) → NoComma ts → run (first_read bs p ss s) ts ≡ run (word_read bs (start p ss) s) ts
unfolding run
first_runs [] bs p ss s h = refl
first_runs (tok ∷ ts) bs p ss s h = elim (firsted_by bs p ss s tok) [ inl w ↦ absurd (h w.0 ts (rw (w.1) refl)) | inr e ↦ rw e refl ]

pub step_grown : (bs : List Body) (cx : Context) (e : Element) (tok : Token) → step (element_read bs cx e) tok ≡ beyond_element bs cx e tok
step_grown bs (start p ss) e tok = refl
step_grown bs (linked p ss f ls from to) e tok = refl

pub finish_grown : (bs : List Body) (cx : Context) (e : Element) → finish (element_read bs cx e) ≡ tree_at_element bs cx e
finish_grown bs (start p ss) e = refl
finish_grown bs (linked p ss f ls from to) e = refl

-- no port comes
pub step_ported : (bs : List Body) (p : Place) (ss : List Statement) (f : Element) (ls : List Link) (side : Side) (q : Option WrittenPort) (tok : Token) → step (ported bs p ss f ls side q) tok ≡ past_port bs p ss f ls side q tok
step_ported bs p ss f ls out q tok = refl
step_ported bs p ss f ls (into from) q tok = refl

pub finish_ported : (bs : List Body) (p : Place) (ss : List Statement) (f : Element) (ls : List Link) (side : Side) (q : Option WrittenPort) → finish (ported bs p ss f ls side q) ≡ None
finish_ported bs p ss f ls out q = refl
finish_ported bs p ss f ls (into from) q = refl

-- a head without a string
bare_runs : (ts : List Token) (bs : List Body) (cx : Context) (h : Head) → NoString ts → run (head_read bs cx h) ts ≡ run (element_read bs cx (element h None)) ts
unfolding run
bare_runs [] bs cx h k = sym (finish_grown bs cx (element h None))
bare_runs (tok ∷ ts) bs cx h k = elim (headed_by bs cx h tok) [ inl w ↦ absurd (k w.0 ts (rw (w.1) refl)) | inr e ↦ rw (e, step_grown) refl ]

string_runs : {ts rest : List Token} {text : Option Span} → IsString ts text rest → NoString rest → (bs : List Body) (cx : Context) (h : Head) → run (head_read bs cx h) ts ≡ run (element_read bs cx (element h text)) rest
unfolding run
string_runs (no_string {ts = ts}) k bs cx h = bare_runs ts bs cx h k
string_runs string k bs cx h = refl

-- names without a string
bare_listed : (ts : List Token) (bs : List Body) (p : Place) (ss : List Statement) (ns : List Span) (c : ClassReference) → NoString ts → run (listed_read bs p ss ns c) ts ≡ run (ending bs p ss (declaration ns c None)) ts
unfolding run
bare_listed [] bs p ss ns c k = refl
bare_listed (tok ∷ ts) bs p ss ns c k = elim (listed_by bs p ss ns c tok) [ inl w ↦ absurd (k w.0 ts (rw (w.1) refl)) | inr e ↦ rw e refl ]

listed_runs : {ts rest : List Token} {text : Option Span} → IsString ts text rest → NoString rest → (bs : List Body) (p : Place) (ss : List Statement) (ns : List Span) (c : ClassReference) → run (listed_read bs p ss ns c) ts ≡ run (ending bs p ss (declaration ns c text)) rest
unfolding run
listed_runs (no_string {ts = ts}) k bs p ss ns c = bare_listed ts bs p ss ns c k
listed_runs string k bs p ss ns c = refl

-- a requirement without a string
bare_required : (ts : List Token) (bs : List Body) (p : Place) (ss : List Statement) → NoString ts → run (required bs p ss) ts ≡ run (between bs p (ss ++ a_requirement None ∷ [])) ts
unfolding run
bare_required [] bs p ss k = refl
bare_required (tok ∷ ts) bs p ss k = elim (required_by bs p ss tok) [ inl w ↦ absurd (k w.0 ts (rw (w.1) refl)) | inr e ↦ rw e refl ]

required_runs : {ts rest : List Token} {text : Option Span} → IsString ts text rest → NoString rest → (bs : List Body) (p : Place) (ss : List Statement) → run (required bs p ss) ts ≡ run (between bs p (ss ++ a_requirement text ∷ [])) rest
unfolding run
required_runs (no_string {ts = ts}) k bs p ss = bare_required ts bs p ss k
required_runs string k bs p ss = refl

-- a body without parameters
bare_body : (ts : List Token) (bs : List Body) (a : Span) (u : Use) → NoFormal ts → run (body_opened bs a u) ts ≡ run (between bs (inside a [] u) []) ts
unfolding run
bare_body [] bs a u k = refl
bare_body (tok ∷ ts) bs a u k = elim (unfolded_by bs a u tok) [ inl w ↦ absurd (k w.0 ts (rw (w.1) refl)) | inr e ↦ rw e refl ]

formals_run : {ts rest : List Token} {more : List Span} → IsFormals ts more rest → (bs : List Body) (a : Span) (u : Use) (fs : List Span) → run (formal_wanted bs a u fs) ts ≡ run (between bs (inside a (fs ++ more) u) []) rest
unfolding run
formals_run last_formal bs a u fs = refl
formals_run (more_formals {s = s} r) bs a u fs = rw append_assoc at (formals_run r bs a u (fs ++ s ∷ []))

-- the first parameter of a body is read like a further one
formals_first : {ts rest : List Token} {more : List Span} → IsFormals ts more rest → (bs : List Body) (a : Span) (u : Use) → run (body_opened bs a u) ts ≡ run (formal_wanted bs a u []) ts
unfolding run
formals_first last_formal bs a u = refl
formals_first (more_formals r) bs a u = refl

header_runs : {ts rest : List Token} {fs : List Span} → IsHeader ts fs rest → NoFormal rest → (bs : List Body) (a : Span) (u : Use) → run (body_opened bs a u) ts ≡ run (between bs (inside a fs u) []) rest
header_runs (no_header {ts = ts}) k bs a u = bare_body ts bs a u k
header_runs (header r) k bs a u = formals_first r bs a u ∙ formals_run r bs a u []

names_run : {ts rest : List Token} {more : List Span} → IsNames ts more rest → (bs : List Body) (p : Place) (ss : List Statement) (ns : List Span) → run (name_read bs p ss ns) ts ≡ run (class_wanted bs (of_names (ns ++ more) p ss)) rest
unfolding run
names_run last_name bs p ss ns = refl
names_run (more_names {s = s} r) bs p ss ns = rw append_assoc at (names_run r bs p ss (ns ++ s ∷ []))

-- the first name of a declaration is read as the first word of a statement
names_first : {ts rest : List Token} {more : List Span} → IsNames ts more rest → (bs : List Body) (p : Place) (ss : List Statement) (s : Span) → run (first_read bs p ss s) ts ≡ run (name_read bs p ss (s ∷ [])) ts
unfolding run
names_first last_name bs p ss s = refl
names_first (more_names r) bs p ss s = refl

-- a chain begins like its first element
chain_first : {ts rest : List Token} {bs bs' : List Body} {e : Element} → IsElement ts bs e rest bs' → NoComma rest → (p : Place) (ss : List Statement) → run (statement_wanted bs p ss) ts ≡ run (element_wanted bs (start p ss)) ts
unfolding run
chain_first (an_element (word {s = s} {ts = ts} {bs = bs}) q) k p ss = first_runs ts bs p ss s (headed_no_comma q k)
chain_first (an_element (declared r) q) k p ss = refl
chain_first (an_element (compound (braces h r)) q) k p ss = refl

-- if a statement begins, a state in which one may begin goes on like a state in which one must
statement_begins : {ts rest : List Token} {bs bs' : List Body} {st : Statement} → IsStatement ts bs st rest bs' → (p : Place) (ss : List Statement) → run (between bs p ss) ts ≡ run (statement_wanted bs p ss) ts
unfolding run
statement_begins (chained (an_element word q) rs end) p ss = refl
statement_begins (chained (an_element (declared r) q) rs end) p ss = refl
statement_begins (chained (an_element (compound (braces h r)) q) rs end) p ss = refl
statement_begins (declarations ns c q end) p ss = refl
statement_begins (definition b) p ss = refl
statement_begins (synonym end) p ss = refl
statement_begins (requirement q) p ss = refl

-- an arrow after an element, with the port before it
arrow_runs : {ts ts' : List Token} {s : Span} {q : Option WrittenPort} → IsPort ts q (token.Arrow s ∷ ts') → (bs : List Body) (p : Place) (ss : List Statement) (f : Element) (ls : List Link) → run (after bs p ss f ls) ts ≡ run (port_wanted bs p ss f ls (into q)) ts'
unfolding run
arrow_runs no_port bs p ss f ls = refl
arrow_runs bracketed bs p ss f ls = refl

-- the port after an arrow
into_runs : {ts ts' rest : List Token} {bs bs' : List Body} {q : Option WrittenPort} {e : Element} → IsPort ts q ts' → IsElement ts' bs e rest bs' → (p : Place) (ss : List Statement) (f : Element) (ls : List Link) (from : Option WrittenPort) → run (port_wanted bs p ss f ls (into from)) ts ≡ run (element_wanted bs (linked p ss f ls from q)) ts'
unfolding run
into_runs no_port (an_element word k) p ss f ls from = refl
into_runs no_port (an_element (declared r) k) p ss f ls from = refl
into_runs no_port (an_element (compound (braces h r)) k) p ss f ls from = refl
into_runs bracketed r p ss f ls from = refl

-- an opening brace that a state takes
brace_runs : (s : State) (a : Span) (ts : List Token) (s' : State) → step s (token.Open a) ≡ Some s' → run s (token.Open a ∷ ts) ≡ run s' ts
unfolding run
brace_runs s a ts s' e = rw e refl

close_follows : (b : Span) (rest : List Token) → NoString (token.Close b ∷ rest) × NoFormal (token.Close b ∷ rest)
close_follows b rest = (λ s r e. cc, λ s r e. cc)

mutual
  unfolding run

  body_runs : {ts rest : List Token} {bs bs' : List Body} {n : ℕ} → IsBody ts bs n rest bs' → (s : State) (u : Use) → ((a : Span) → step s (token.Open a) ≡ Some (body_opened bs a u)) → run s ts ≡ run (body_read bs' u n) rest
  body_runs (braces {a = a} {b = b} {ts = ts} {rest = rest} {bs = bs} {fs = fs} h r) s u k =
      brace_runs s a ts (body_opened bs a u) (k a)
      ∙ header_runs h (statements_first r (close_follows b rest)).1 bs a u
      ∙ statements_run r (close_follows b rest).0 (inside a fs u) []

  class_runs : {ts rest : List Token} {bs bs' : List Body} {c : ClassReference} → IsClass ts bs c rest bs' → (g : Target) → run (class_wanted bs g) ts ≡ run (classified bs' g c) rest
  class_runs by_name g = refl
  class_runs (by_body {bs = bs} r) g = body_runs r (class_wanted bs g) (as_class g) (λ a. refl)

  head_runs : {ts rest : List Token} {bs bs' : List Body} {h : Head} → IsHead ts bs h rest bs' → NoClass rest → (cx : Context) → run (element_wanted bs cx) ts ≡ run (head_read bs' cx h) rest
  head_runs (word {s = s} {ts = ts} {bs = bs}) k cx = word_runs ts bs cx s k
  head_runs (declared {s = s} r) k cx = class_runs r (of_head s cx)
  head_runs (compound {bs = bs} r) k cx = body_runs r (element_wanted bs cx) (as_element cx) (λ a. refl)

  element_runs : {ts rest : List Token} {bs bs' : List Body} {e : Element} → IsElement ts bs e rest bs' → NoClass rest → NoString rest → (cx : Context) → run (element_wanted bs cx) ts ≡ run (element_read bs' cx e) rest
  element_runs (an_element {bs' = bs'} {h = h} r q) k m cx = head_runs r (headed_follows q k) cx ∙ string_runs q m bs' cx h

  chain_runs : {ts ts' rest : List Token} {bs bs' : List Body} {more : List Link} → IsLinks ts bs more ts' bs' → IsEnd ts' rest → (p : Place) (ss : List Statement) (f : Element) (ls : List Link) → run (after bs p ss f ls) ts ≡ run (between bs' p (ss ++ chain f (ls ++ more) ∷ [])) rest
  chain_runs (no_links {bs = bs}) end p ss f ls = rw append-nil (end_runs end bs p ss f ls)
  chain_runs (more_links {bs = bs} {p = from} {q = to} {e = e} k m r rs) end p ss f ls =
      let w = follows rs end in
      arrow_runs k bs p ss f ls ∙ into_runs m r p ss f ls from ∙ element_runs r w.0 w.1 (linked p ss f ls from to)
      ∙ (rw append_assoc at (chain_runs rs end p ss f (ls ++ link from to e ∷ [])))

  statement_runs : {ts rest : List Token} {bs bs' : List Body} {st : Statement} → IsStatement ts bs st rest bs' → NoString rest → (p : Place) (ss : List Statement) → run (statement_wanted bs p ss) ts ≡ run (between bs' p (ss ++ st ∷ [])) rest
  statement_runs (chained {e = e} r rs end) k p ss =
      let w = follows rs end in
      chain_first r w.2 p ss ∙ element_runs r w.0 w.1 (start p ss) ∙ chain_runs rs end p ss e []
  statement_runs (declarations {s = s} {bs = bs} {bs' = bs'} {ns = ns} {c = c} {text = text} names r q end) k p ss =
      names_first names bs p ss s ∙ names_run names bs p ss (s ∷ []) ∙ class_runs r (of_names (s ∷ ns) p ss)
      ∙ listed_runs q (end_follows end) bs' p ss (s ∷ ns) c ∙ ending_runs end bs' p ss (declaration (s ∷ ns) c text)
  statement_runs (definition {s = s} {bs = bs} r) k p ss = body_runs r (define_named bs p ss s) (as_definition s p ss) (λ a. refl)
  statement_runs (synonym {s = s} {c = c} {bs = bs} end) k p ss = ending_runs end bs p ss (a_synonym s c)
  statement_runs (requirement {bs = bs} q) k p ss = required_runs q k bs p ss

  statements_run : {ts rest : List Token} {bs bs' : List Body} {more : List Statement} → IsStatements ts bs more rest bs' → NoString rest → (p : Place) (ss : List Statement) → run (between bs p ss) ts ≡ run (between bs' p (ss ++ more)) rest
  statements_run no_more k p ss = rw append-nil refl
  statements_run (empty r) k p ss = statements_run r k p ss
  statements_run (stated {s = s} r q) k p ss =
      statement_begins r p ss ∙ statement_runs r (no_string_first q k) p ss
      ∙ (rw append_assoc at (statements_run q k p (ss ++ s ∷ [])))

pub runs_to : {ts : List Token} {t : Tree} → IsText ts t → run (between [] top []) ts ≡ Some t
unfolding run
runs_to r = statements_run r (λ s rest e. cc) top []
