-- From the machine to the grammar: what may still follow in a state, in terms of the grammar.
use Rattle.std.proofs.Common.{inl, inr, ◌≡◌, ℕ, List, [], ◌∷◌, ◌++◌, length, Option, Some, None, refl, append_assoc}
use Rattle.std.proofs.lemmas.List.{append-nil}
use Rattle.click_text.specs.declared.syntax.Span.{Span}
use Rattle.click_text.specs.declared.syntax.Token.{Token}
use Rattle.click_text.specs.declared.syntax.Token.TheVariants as token
use Rattle.click_text.specs.declared.syntax.WrittenPort.{WrittenPort}
use Rattle.click_text.specs.declared.syntax.ClassReference.{ClassReference}
use Rattle.click_text.specs.declared.syntax.ClassReference.TheVariants as class
use Rattle.click_text.specs.declared.syntax.Head.{Head}
use Rattle.click_text.specs.declared.syntax.Head.TheVariants as head
use Rattle.click_text.specs.declared.syntax.Element.{Element}
use Rattle.click_text.specs.declared.syntax.Link.{Link}
use Rattle.click_text.specs.declared.syntax.Statement.{Statement}
use Rattle.click_text.specs.declared.syntax.Body.{Body}
use Rattle.click_text.specs.Grammar.{written_port, element, link, chain, declaration, body, Tree, IsPort, no_port, bracketed, IsString, no_string, string, IsEnd, semicolon, before_close, at_end, IsFormals, last_formal, more_formals, IsHeader, no_header, header, IsNames, last_name, more_names, IsBody, braces, IsClass, by_name, by_body, IsHead, word, declared, compound, IsElement, an_element, IsLinks, no_links, more_links, IsStatement, chained, declarations, definition, synonym, requirement, IsStatements, no_more, empty, stated}
use Rattle.click_text.specs.kept.ParserStates.{Place, top, inside, Use, as_element, as_class, as_definition, Target, of_head, of_names, Context, start, linked, Side, out, into, State, between, statement_wanted, first_read, name_wanted, name_read, listed_read, define, define_named, required, ending, body_opened, formal_wanted, formal_read, element_wanted, word_read, class_wanted, head_read, after, port_wanted, number_wanted, close_wanted, arrow_wanted, a_definition, a_synonym, a_requirement, element_read, classified, body_read, ported, begun, classed, closed, arrowed, past_port, port_begun, port_numbered, bracketed_off, beyond, beyond_element, headed, worded, firsted, named, names_on, statement_over, class_listed, defined, define_on, opening, required_on, unfolded, formal_next, formal_on, step, tree_at_end, tree_at_element, finish}
use Rattle.click_text.specs.kept.ParserStates as machine
use Rattle.click_text.proofs.OfParser.StateTokens.{begun_by, classed_by, arrowed_by, joined_by, numbered_by, bracketed_by, beyond_by, headed_by, worded_by, firsted_by, named_by, names_by, over_by, listed_by, defined_by, define_on_by, opening_by, stated_by, required_by, unfolded_by, formal_by, formal_on_by}

-- after names: `::`, or further names
pub data Names : List Token → List Span → List Token → Type 0 where
  names_end : {d : Span} {ts : List Token} → Names (token.DoubleColon d ∷ ts) [] ts
  names_more : {c s : Span} {ts rest : List Token} {ns : List Span} → Names ts ns rest → Names (token.Comma c ∷ token.Word s ∷ ts) (s ∷ ns) rest

names_are : {ts rest : List Token} {ns : List Span} → Names ts ns rest → (c s : Span) → IsNames (token.Comma c ∷ token.Word s ∷ ts) (s ∷ ns) rest
names_are names_end c s = last_name
names_are (names_more {c = d} {s = r} k) c s = more_names (names_are k d r)

-- after a parameter: the `|`, or further parameters
pub data Formals : List Token → List Span → List Token → Type 0 where
  formals_end : {r : Span} {ts : List Token} → Formals (token.Bar r ∷ ts) [] ts
  formals_more : {c : Span} {ts rest : List Token} {fs : List Span} → IsFormals ts fs rest → Formals (token.Comma c ∷ ts) fs rest

formals_are : {ts rest : List Token} {fs : List Span} → Formals ts fs rest → (s : Span) → IsFormals (token.Formal s ∷ ts) (s ∷ fs) rest
formals_are formals_end s = last_formal
formals_are (formals_more k) s = more_formals k

abbrev pub Then : Type 1
Then = List Body → List Statement → List Token → Tree → Type 0

-- statements follow, and then k
abbrev pub Between : Then → Then
Between k bs ss ts t =
    (more : List Statement) × (rest : List Token) × (bs' : List Body) × IsStatements ts bs more rest bs' × k bs' (ss ++ more) rest t

-- the rest of a chain follows with its end, and then further statements and k
abbrev pub After : Then → List Body → List Statement → Element → List Link → List Token → Tree → Type 0
After k bs ss f ls ts t =
    (more : List Link) × (ts1 : List Token) × (rest : List Token) × (bs1 : List Body) × IsLinks ts bs more ts1 bs1 × IsEnd ts1 rest
    × Between k bs1 (ss ++ chain f (ls ++ more) ∷ []) rest t

-- a string may follow the class of names, then the end of the statement, and then k
abbrev pub Listed : Then → List Body → List Statement → List Span → ClassReference → List Token → Tree → Type 0
Listed k bs ss ns c ts t =
    (text : Option Span) × (ts1 : List Token) × (rest : List Token) × IsString ts text ts1 × IsEnd ts1 rest
    × Between k bs (ss ++ declaration ns c text ∷ []) rest t

-- a string may follow a head, and then k
abbrev pub Headed : (List Body → Element → List Token → Tree → Type 0) → List Body → Head → List Token → Tree → Type 0
Headed k bs h ts t = (text : Option Span) × (rest : List Token) × IsString ts text rest × k bs (element h text) rest t

abbrev mutual
  pub Ends : Place → Then
  Ends top bs ss ts t = (ts ≡ []) × (t ≡ record { statements = ss; bodies = bs })
  Ends (inside a fs u) bs ss ts t =
      (b : Span) × (rest : List Token) × (ts ≡ token.Close b ∷ rest) × Used u (bs ++ body a b fs ss ∷ []) (length bs) rest t

  pub Used : Use → List Body → ℕ → List Token → Tree → Type 0
  Used (as_element cx) bs n ts t = Headed (Grown cx) bs (head.Compound n) ts t
  Used (as_class g) bs n ts t = Classified g bs (class.Body n) ts t
  Used (as_definition s p ss) bs n ts t = Between (Ends p) bs (ss ++ a_definition s n ∷ []) ts t

  pub Classified : Target → List Body → ClassReference → List Token → Tree → Type 0
  Classified (of_head s cx) bs c ts t = Headed (Grown cx) bs (head.Declared s c) ts t
  Classified (of_names ns p ss) bs c ts t = Listed (Ends p) bs ss ns c ts t

  pub Grown : Context → List Body → Element → List Token → Tree → Type 0
  Grown (start p ss) bs e ts t = After (Ends p) bs ss e [] ts t
  Grown (linked p ss f ls from to) bs e ts t = After (Ends p) bs ss f (ls ++ link from to e ∷ []) ts t

-- a statement follows
abbrev pub Stated : Place → List Body → List Statement → List Token → Tree → Type 0
Stated p bs ss ts t =
    (st : Statement) × (rest : List Token) × (bs' : List Body) × IsStatement ts bs st rest bs' × Between (Ends p) bs' (ss ++ st ∷ []) rest t

-- a class follows
abbrev pub Classed : Target → List Body → List Token → Tree → Type 0
Classed g bs ts t = (c : ClassReference) × (rest : List Token) × (bs' : List Body) × IsClass ts bs c rest bs' × Classified g bs' c rest t

-- the end of a statement follows
abbrev pub Ending : Place → List Body → List Statement → Statement → List Token → Tree → Type 0
Ending p bs ss st ts t = (rest : List Token) × IsEnd ts rest × Between (Ends p) bs (ss ++ st ∷ []) rest t

-- further names, or none, follow and then their class
abbrev pub Named : Place → List Body → List Statement → List Span → List Token → Tree → Type 0
Named p bs ss ns ts t = (more : List Span) × (ts1 : List Token) × Names ts more ts1 × Classed (of_names (ns ++ more) p ss) bs ts1 t

-- an element follows
abbrev pub Wanted : Context → List Body → List Token → Tree → Type 0
Wanted cx bs ts t = (e : Element) × (rest : List Token) × (bs' : List Body) × IsElement ts bs e rest bs' × Grown cx bs' e rest t

-- an arrow follows, then a port or none, and an element
abbrev pub Arrowed : Place → List Body → List Statement → Element → List Link → Option WrittenPort → List Token → Tree → Type 0
Arrowed p bs ss f ls from ts t =
    (s : Span) × (ts1 : List Token) × (ts2 : List Token) × (to : Option WrittenPort) × (ts ≡ token.Arrow s ∷ ts1) × IsPort ts1 to ts2
    × Wanted (linked p ss f ls from to) bs ts2 t

abbrev pub Ported : Place → List Body → List Statement → Element → List Link → Side → Option WrittenPort → List Token → Tree → Type 0
Ported p bs ss f ls out q ts t = Arrowed p bs ss f ls q ts t
Ported p bs ss f ls (into from) q ts t = Wanted (linked p ss f ls from q) bs ts t

-- the tokens complete what is open in the state to a text with this tree
abbrev pub Completes : State → List Token → Tree → Type 0
Completes (between bs p ss) ts t = Between (Ends p) bs ss ts t
Completes (statement_wanted bs p ss) ts t = Stated p bs ss ts t
Completes (first_read bs p ss s) ts t = Stated p bs ss (token.Word s ∷ ts) t
Completes (name_wanted bs p ss ns) ts t = (s : Span) × (rest : List Token) × (ts ≡ token.Word s ∷ rest) × Named p bs ss (ns ++ s ∷ []) rest t
Completes (name_read bs p ss ns) ts t = Named p bs ss ns ts t
Completes (listed_read bs p ss ns c) ts t = Listed (Ends p) bs ss ns c ts t
Completes (define bs p ss) ts t = (k : Span) → Stated p bs ss (token.Elementclass k ∷ ts) t
Completes (define_named bs p ss s) ts t = (k : Span) → Stated p bs ss (token.Elementclass k ∷ token.Word s ∷ ts) t
Completes (required bs p ss) ts t =
    (text : Option Span) × (rest : List Token) × IsString ts text rest × Between (Ends p) bs (ss ++ a_requirement text ∷ []) rest t
Completes (ending bs p ss st) ts t = Ending p bs ss st ts t
Completes (body_opened bs a u) ts t = (fs : List Span) × (rest : List Token) × IsHeader ts fs rest × Between (Ends (inside a fs u)) bs [] rest t
Completes (formal_wanted bs a u fs) ts t =
    (more : List Span) × (rest : List Token) × IsFormals ts more rest × Between (Ends (inside a (fs ++ more) u)) bs [] rest t
Completes (formal_read bs a u fs) ts t =
    (more : List Span) × (rest : List Token) × Formals ts more rest × Between (Ends (inside a (fs ++ more) u)) bs [] rest t
Completes (element_wanted bs cx) ts t = Wanted cx bs ts t
Completes (word_read bs cx s) ts t =
    (h : Head) × (rest : List Token) × (bs' : List Body) × IsHead (token.Word s ∷ ts) bs h rest bs' × Headed (Grown cx) bs' h rest t
Completes (class_wanted bs g) ts t = Classed g bs ts t
Completes (head_read bs cx h) ts t = Headed (Grown cx) bs h ts t
Completes (after bs p ss f ls) ts t = After (Ends p) bs ss f ls ts t
Completes (port_wanted bs p ss f ls side) ts t = (q : Option WrittenPort) × (rest : List Token) × IsPort ts q rest × Ported p bs ss f ls side q rest t
Completes (number_wanted bs p ss f ls side a) ts t =
    (q : Option WrittenPort) × (rest : List Token) × IsPort (token.OpenBracket a ∷ ts) q rest × Ported p bs ss f ls side q rest t
Completes (close_wanted bs p ss f ls side a n) ts t =
    (b : Span) × (rest : List Token) × (ts ≡ token.CloseBracket b ∷ rest) × Ported p bs ss f ls side (Some (written_port n a b)) rest t
Completes (arrow_wanted bs p ss f ls q) ts t = Arrowed p bs ss f ls q ts t

-- the tokens complete the state, if there is one
abbrev pub Leads : Option State → List Token → Tree → Type 0
Leads None ts t = ⊥
Leads (Some s) ts t = Completes s ts t

from_grown : (bs : List Body) (cx : Context) (e : Element) (ts : List Token) (t : Tree) → Completes (element_read bs cx e) ts t → Grown cx bs e ts t
from_grown bs (start p ss) e ts t h = h
from_grown bs (linked p ss f ls from to) e ts t h = h

from_classified : (bs : List Body) (g : Target) (c : ClassReference) (ts : List Token) (t : Tree) → Completes (classified bs g c) ts t → Classified g bs c ts t
from_classified bs (of_head s cx) c ts t h = h
from_classified bs (of_names ns p ss) c ts t h = h

from_used : (bs : List Body) (u : Use) (n : ℕ) (ts : List Token) (t : Tree) → Completes (body_read bs u n) ts t → Used u bs n ts t
from_used bs (as_element cx) n ts t h = h
from_used bs (as_class g) n ts t h = from_classified bs g _ ts t h
from_used bs (as_definition s p ss) n ts t h = h

from_ported : (bs : List Body) (p : Place) (ss : List Statement) (f : Element) (ls : List Link) (side : Side) (q : Option WrittenPort) (ts : List Token) (t : Tree) → Completes (ported bs p ss f ls side q) ts t → Ported p bs ss f ls side q ts t
from_ported bs p ss f ls out q ts t h = h
from_ported bs p ss f ls (into from) q ts t h = h

-- a brace that opens a body
opened : (bs : List Body) (a : Span) (u : Use) (ts : List Token) (t : Tree) → Completes (body_opened bs a u) ts t → (n : ℕ) × (rest : List Token) × (bs' : List Body) × IsBody (token.Open a ∷ ts) bs n rest bs' × Used u bs' n rest t
opened bs a u ts t (fs, ts1, h, (more, ts2, bs', r, (b, rest, e, g))) =
    (length bs', rest, bs' ++ body a b fs more ∷ [], braces h (rw e at r), g)

-- an element that begins with a word or a brace
begun_word : (bs : List Body) (cx : Context) (s : Span) (ts : List Token) (t : Tree) → Completes (word_read bs cx s) ts t → Wanted cx bs (token.Word s ∷ ts) t
begun_word bs cx s ts t (h, rest, bs', r, (text, rest', q, g)) = (element h text, rest', bs', an_element r q, g)

begun_brace : (bs : List Body) (cx : Context) (a : Span) (ts : List Token) (t : Tree) → (n : ℕ) × (rest : List Token) × (bs' : List Body) × IsBody (token.Open a ∷ ts) bs n rest bs' × Used (as_element cx) bs' n rest t → Wanted cx bs (token.Open a ∷ ts) t
begun_brace bs cx a ts t (n, rest, bs', r, (text, rest', q, g)) = (element (head.Compound n) text, rest', bs', an_element (compound r) q, g)

begun_completes : (bs : List Body) (cx : Context) (tok : Token) (ts : List Token) (t : Tree) → Leads (begun bs cx tok) ts t → Wanted cx bs (tok ∷ ts) t
begun_completes bs cx tok ts t l = elim (begun_by bs cx tok) [
  | inl w ↦ rw (w.1) (begun_word bs cx w.0 ts t (rw (w.1) at l))
  | inr (inl w) ↦ rw (w.1) (begun_brace bs cx w.0 ts t (opened bs w.0 (as_element cx) ts t (rw (w.1) at l)))
  | inr (inr e) ↦ absurd (rw e at l)
]

classed_brace : (bs : List Body) (g : Target) (a : Span) (ts : List Token) (t : Tree) → (n : ℕ) × (rest : List Token) × (bs' : List Body) × IsBody (token.Open a ∷ ts) bs n rest bs' × Used (as_class g) bs' n rest t → Classed g bs (token.Open a ∷ ts) t
classed_brace bs g a ts t (n, rest, bs', r, k) = (class.Body n, rest, bs', by_body r, k)

classed_completes : (bs : List Body) (g : Target) (tok : Token) (ts : List Token) (t : Tree) → Leads (classed bs g tok) ts t → Classed g bs (tok ∷ ts) t
classed_completes bs g tok ts t l = elim (classed_by bs g tok) [
  | inl w ↦ rw (w.1) (class.Named w.0, ts, bs, by_name, from_classified bs g _ ts t (rw (w.1) at l))
  | inr (inl w) ↦ rw (w.1) (classed_brace bs g w.0 ts t (opened bs w.0 (as_class g) ts t (rw (w.1) at l)))
  | inr (inr e) ↦ absurd (rw e at l)
]

-- a statement that is a chain
chain_first : (bs : List Body) (p : Place) (ss : List Statement) (ts : List Token) (t : Tree) → Wanted (start p ss) bs ts t → Stated p bs ss ts t
chain_first bs p ss ts t (e, rest, bs', r, (more, ts1, rest2, bs1, rs, end, k)) = (chain e more, rest2, bs1, chained r rs end, k)

-- a statement that is a definition
define_brace : (bs : List Body) (p : Place) (ss : List Statement) (s a : Span) (ts : List Token) (t : Tree) → (n : ℕ) × (rest : List Token) × (bs' : List Body) × IsBody (token.Open a ∷ ts) bs n rest bs' × Used (as_definition s p ss) bs' n rest t → Completes (define_named bs p ss s) (token.Open a ∷ ts) t
define_brace bs p ss s a ts t (n, rest, bs', r, k) = λ e. (a_definition s n, rest, bs', definition r, k)

define_synonym : (bs : List Body) (p : Place) (ss : List Statement) (s c : Span) (ts : List Token) (t : Tree) → Ending p bs ss (a_synonym s c) ts t → Completes (define_named bs p ss s) (token.Word c ∷ ts) t
define_synonym bs p ss s c ts t (rest, end, k) = λ e. (a_synonym s c, rest, bs, synonym end, k)

define_on_completes : (bs : List Body) (p : Place) (ss : List Statement) (s : Span) (tok : Token) (ts : List Token) (t : Tree) → Leads (define_on bs p ss s tok) ts t → Completes (define_named bs p ss s) (tok ∷ ts) t
define_on_completes bs p ss s tok ts t l = elim (define_on_by bs p ss s tok) [
  | inl w ↦ rw (w.1) (define_synonym bs p ss s w.0 ts t (rw (w.1) at l))
  | inr (inl w) ↦ rw (w.1) (define_brace bs p ss s w.0 ts t (opened bs w.0 (as_definition s p ss) ts t (rw (w.1) at l)))
  | inr (inr e) ↦ absurd (rw e at l)
]

defined_completes : (bs : List Body) (p : Place) (ss : List Statement) (tok : Token) (ts : List Token) (t : Tree) → Leads (defined bs p ss tok) ts t → Completes (define bs p ss) (tok ∷ ts) t
defined_completes bs p ss tok ts t l = elim (defined_by bs p ss tok) [
  | inl w ↦ rw (w.1) (rw (w.1) at l)
  | inr e ↦ absurd (rw e at l)
]

-- a statement that is a requirement
require_completes : (bs : List Body) (p : Place) (ss : List Statement) (k : Span) (ts : List Token) (t : Tree) → Completes (required bs p ss) ts t → Stated p bs ss (token.Require k ∷ ts) t
require_completes bs p ss k ts t (text, rest, q, g) = (a_requirement text, rest, bs, requirement q, g)

define_leads : (bs : List Body) (p : Place) (ss : List Statement) (k : Span) (ts : List Token) (t : Tree) → Completes (define bs p ss) ts t → Stated p bs ss (token.Elementclass k ∷ ts) t
define_leads bs p ss k ts t h = h k

opening_completes : (bs : List Body) (p : Place) (ss : List Statement) (tok : Token) (ts : List Token) (t : Tree) → Leads (opening bs p ss tok) ts t → Stated p bs ss (tok ∷ ts) t
opening_completes bs p ss tok ts t l = elim (opening_by bs p ss tok) [
  | inl w ↦ rw (w.1) (rw (w.1) at l)
  | inr (inl w) ↦ rw (w.1) (define_leads bs p ss w.0 ts t (rw (w.1) at l))
  | inr (inr (inl w)) ↦ rw (w.1) (require_completes bs p ss w.0 ts t (rw (w.1) at l))
  | inr (inr (inr e)) ↦ chain_first bs p ss _ t (begun_completes bs (start p ss) tok ts t (rw e at l))
]

-- statements that begin with a statement
stated_first : (bs : List Body) (p : Place) (ss : List Statement) (ts : List Token) (t : Tree) → Stated p bs ss ts t → Completes (between bs p ss) ts t
stated_first bs p ss ts t (st, rest, bs', r, (more, rest2, bs2, q, k)) = (st ∷ more, rest2, bs2, stated r q, rw append_assoc at k)

closed_completes : (bs : List Body) (p : Place) (ss : List Statement) (b : Span) (ts : List Token) (t : Tree) → Leads (closed bs p ss b) ts t → Completes (between bs p ss) (token.Close b ∷ ts) t
closed_completes bs top ss b ts t l = absurd l
closed_completes bs (inside a fs u) ss b ts t l =
    ([], token.Close b ∷ ts, bs, no_more, rw append-nil (b, ts, refl, from_used (bs ++ body a b fs ss ∷ []) u (length bs) ts t l))

stated_empty : (bs : List Body) (p : Place) (ss : List Statement) (s : Span) (ts : List Token) (t : Tree) → Completes (between bs p ss) ts t → Completes (between bs p ss) (token.Semicolon s ∷ ts) t
stated_empty bs p ss s ts t (more, rest, bs', r, k) = (more, rest, bs', empty r, k)

stated_completes : (bs : List Body) (p : Place) (ss : List Statement) (tok : Token) (ts : List Token) (t : Tree) → Leads (machine.statement_next bs p ss tok) ts t → Completes (between bs p ss) (tok ∷ ts) t
stated_completes bs p ss tok ts t l = elim (stated_by bs p ss tok) [
  | inl w ↦ rw (w.1) (stated_empty bs p ss w.0 ts t (rw (w.1) at l))
  | inr (inl w) ↦ rw (w.1) (closed_completes bs p ss w.0 ts t (rw (w.1) at l))
  | inr (inr e) ↦ stated_first bs p ss _ t (opening_completes bs p ss tok ts t (rw e at l))
]

required_completes : (bs : List Body) (p : Place) (ss : List Statement) (tok : Token) (ts : List Token) (t : Tree) → Leads (required_on bs p ss tok) ts t → Completes (required bs p ss) (tok ∷ ts) t
required_completes bs p ss tok ts t l = elim (required_by bs p ss tok) [
  | inl w ↦ rw (w.1) (Some w.0, ts, string, (rw (w.1) at l))
  | inr e ↦ (None, tok ∷ ts, no_string, stated_completes bs p _ tok ts t (rw e at l))
]

-- the states inside a body

unfolded_formal : (bs : List Body) (a : Span) (u : Use) (s : Span) (ts : List Token) (t : Tree) → Completes (formal_read bs a u (s ∷ [])) ts t → Completes (body_opened bs a u) (token.Formal s ∷ ts) t
unfolded_formal bs a u s ts t (more, rest, r, k) = (s ∷ more, rest, header (formals_are r s), k)

unfolded_completes : (bs : List Body) (a : Span) (u : Use) (tok : Token) (ts : List Token) (t : Tree) → Leads (unfolded bs a u tok) ts t → Completes (body_opened bs a u) (tok ∷ ts) t
unfolded_completes bs a u tok ts t l = elim (unfolded_by bs a u tok) [
  | inl w ↦ rw (w.1) (unfolded_formal bs a u w.0 ts t (rw (w.1) at l))
  | inr e ↦ ([], tok ∷ ts, no_header, stated_completes bs (inside a [] u) [] tok ts t (rw e at l))
]

formal_more : (bs : List Body) (a : Span) (u : Use) (fs : List Span) (s : Span) (ts : List Token) (t : Tree) → Completes (formal_read bs a u (fs ++ s ∷ [])) ts t → Completes (formal_wanted bs a u fs) (token.Formal s ∷ ts) t
formal_more bs a u fs s ts t (more, rest, r, k) = (s ∷ more, rest, formals_are r s, rw append_assoc at k)

formal_completes : (bs : List Body) (a : Span) (u : Use) (fs : List Span) (tok : Token) (ts : List Token) (t : Tree) → Leads (formal_next bs a u fs tok) ts t → Completes (formal_wanted bs a u fs) (tok ∷ ts) t
formal_completes bs a u fs tok ts t l = elim (formal_by bs a u fs tok) [
  | inl w ↦ rw (w.1) (formal_more bs a u fs w.0 ts t (rw (w.1) at l))
  | inr e ↦ absurd (rw e at l)
]

formal_comma : (bs : List Body) (a : Span) (u : Use) (fs : List Span) (c : Span) (ts : List Token) (t : Tree) → Completes (formal_wanted bs a u fs) ts t → Completes (formal_read bs a u fs) (token.Comma c ∷ ts) t
formal_comma bs a u fs c ts t (more, rest, r, k) = (more, rest, formals_more r, k)

formal_bar : (bs : List Body) (a : Span) (u : Use) (fs : List Span) (r : Span) (ts : List Token) (t : Tree) → Completes (between bs (inside a fs u) []) ts t → Completes (formal_read bs a u fs) (token.Bar r ∷ ts) t
formal_bar bs a u fs r ts t k = ([], ts, formals_end, rw append-nil k)

formal_on_completes : (bs : List Body) (a : Span) (u : Use) (fs : List Span) (tok : Token) (ts : List Token) (t : Tree) → Leads (formal_on bs a u fs tok) ts t → Completes (formal_read bs a u fs) (tok ∷ ts) t
formal_on_completes bs a u fs tok ts t l = elim (formal_on_by bs a u fs tok) [
  | inl w ↦ rw (w.1) (formal_comma bs a u fs w.0 ts t (rw (w.1) at l))
  | inr (inl w) ↦ rw (w.1) (formal_bar bs a u fs w.0 ts t (rw (w.1) at l))
  | inr (inr e) ↦ absurd (rw e at l)
]

-- the states inside a declaration

over_semicolon : (bs : List Body) (p : Place) (ss : List Statement) (st : Statement) (s : Span) (ts : List Token) (t : Tree) → Completes (between bs p (ss ++ st ∷ [])) ts t → Ending p bs ss st (token.Semicolon s ∷ ts) t
over_semicolon bs p ss st s ts t k = (ts, semicolon, k)

over_close : (bs : List Body) (p : Place) (ss : List Statement) (st : Statement) (b : Span) (ts : List Token) (t : Tree) → Completes (between bs p (ss ++ st ∷ [])) (token.Close b ∷ ts) t → Ending p bs ss st (token.Close b ∷ ts) t
over_close bs p ss st b ts t k = (token.Close b ∷ ts, before_close, k)

over_completes : (bs : List Body) (p : Place) (ss : List Statement) (st : Statement) (tok : Token) (ts : List Token) (t : Tree) → Leads (statement_over bs p ss st tok) ts t → Ending p bs ss st (tok ∷ ts) t
over_completes bs p ss st tok ts t l = elim (over_by bs p ss st tok) [
  | inl w ↦ rw (w.1) (over_semicolon bs p ss st w.0 ts t (rw (w.1) at l))
  | inr (inl w) ↦ rw (w.1) (over_close bs p ss st w.0 ts t (closed_completes bs p _ w.0 ts t (rw (w.1) at l)))
  | inr (inr e) ↦ absurd (rw e at l)
]

listed_ends : (bs : List Body) (p : Place) (ss : List Statement) (ns : List Span) (c : ClassReference) (text : Option Span) (ts ts1 : List Token) (t : Tree) → IsString ts text ts1 → Ending p bs ss (declaration ns c text) ts1 t → Listed (Ends p) bs ss ns c ts t
listed_ends bs p ss ns c text ts ts1 t q (rest, end, k) = (text, ts1, rest, q, end, k)

listed_completes : (bs : List Body) (p : Place) (ss : List Statement) (ns : List Span) (c : ClassReference) (tok : Token) (ts : List Token) (t : Tree) → Leads (class_listed bs p ss ns c tok) ts t → Listed (Ends p) bs ss ns c (tok ∷ ts) t
listed_completes bs p ss ns c tok ts t l = elim (listed_by bs p ss ns c tok) [
  | inl w ↦ rw (w.1) (listed_ends bs p ss ns c (Some w.0) _ ts t string (rw (w.1) at l))
  | inr e ↦ listed_ends bs p ss ns c None _ _ t no_string (over_completes bs p ss _ tok ts t (rw e at l))
]

named_completes : (bs : List Body) (p : Place) (ss : List Statement) (ns : List Span) (tok : Token) (ts : List Token) (t : Tree) → Leads (named bs p ss ns tok) ts t → Completes (name_wanted bs p ss ns) (tok ∷ ts) t
named_completes bs p ss ns tok ts t l = elim (named_by bs p ss ns tok) [
  | inl w ↦ rw (w.1) (w.0, ts, refl, (rw (w.1) at l))
  | inr e ↦ absurd (rw e at l)
]

names_comma : (bs : List Body) (p : Place) (ss : List Statement) (ns : List Span) (c : Span) (ts : List Token) (t : Tree) → Completes (name_wanted bs p ss ns) ts t → Named p bs ss ns (token.Comma c ∷ ts) t
names_comma bs p ss ns c ts t (s, rest, e, (more, ts1, r, k)) = rw e (s ∷ more, ts1, names_more r, rw append_assoc at k)

names_class : (bs : List Body) (p : Place) (ss : List Statement) (ns : List Span) (d : Span) (ts : List Token) (t : Tree) → Classed (of_names ns p ss) bs ts t → Named p bs ss ns (token.DoubleColon d ∷ ts) t
names_class bs p ss ns d ts t k = ([], ts, names_end, rw append-nil k)

names_complete : (bs : List Body) (p : Place) (ss : List Statement) (ns : List Span) (tok : Token) (ts : List Token) (t : Tree) → Leads (names_on bs p ss ns tok) ts t → Named p bs ss ns (tok ∷ ts) t
names_complete bs p ss ns tok ts t l = elim (names_by bs p ss ns tok) [
  | inl w ↦ rw (w.1) (names_comma bs p ss ns w.0 ts t (rw (w.1) at l))
  | inr (inl w) ↦ rw (w.1) (names_class bs p ss ns w.0 ts t (rw (w.1) at l))
  | inr (inr e) ↦ absurd (rw e at l)
]

-- the states inside a chain

arrowed_into : (bs : List Body) (p : Place) (ss : List Statement) (f : Element) (ls : List Link) (q : Option WrittenPort) (s : Span) (ts : List Token) (t : Tree) → Completes (port_wanted bs p ss f ls (into q)) ts t → Arrowed p bs ss f ls q (token.Arrow s ∷ ts) t
arrowed_into bs p ss f ls q s ts t (to, rest, k, g) = (s, ts, rest, to, refl, k, g)

arrowed_completes : (bs : List Body) (p : Place) (ss : List Statement) (f : Element) (ls : List Link) (q : Option WrittenPort) (tok : Token) (ts : List Token) (t : Tree) → Leads (arrowed bs p ss f ls q tok) ts t → Arrowed p bs ss f ls q (tok ∷ ts) t
arrowed_completes bs p ss f ls q tok ts t l = elim (arrowed_by bs p ss f ls q tok) [ inl w ↦ rw (w.1) (arrowed_into bs p ss f ls q w.0 ts t (rw (w.1) at l)) | inr e ↦ absurd (rw e at l) ]

past_port_completes : (bs : List Body) (p : Place) (ss : List Statement) (f : Element) (ls : List Link) (side : Side) (q : Option WrittenPort) (tok : Token) (ts : List Token) (t : Tree) → Leads (past_port bs p ss f ls side q tok) ts t → Ported p bs ss f ls side q (tok ∷ ts) t
past_port_completes bs p ss f ls out q tok ts t l = arrowed_completes bs p ss f ls q tok ts t l
past_port_completes bs p ss f ls (into from) q tok ts t l = begun_completes bs (linked p ss f ls from q) tok ts t l

joined_completes : (bs : List Body) (p : Place) (ss : List Statement) (f : Element) (ls : List Link) (side : Side) (tok : Token) (ts : List Token) (t : Tree) → Leads (port_begun bs p ss f ls side tok) ts t → Completes (port_wanted bs p ss f ls side) (tok ∷ ts) t
joined_completes bs p ss f ls side tok ts t l = elim (joined_by bs p ss f ls side tok) [
  | inl w ↦ rw (w.1) (rw (w.1) at l)
  | inr e ↦ (None, tok ∷ ts, no_port, past_port_completes bs p ss f ls side None tok ts t (rw e at l))
]

numbered_into : (bs : List Body) (p : Place) (ss : List Statement) (f : Element) (ls : List Link) (side : Side) (a : Span) (n : ℕ) (s : Span) (ts : List Token) (t : Tree) → Completes (close_wanted bs p ss f ls side a n) ts t → Completes (number_wanted bs p ss f ls side a) (token.Number (Some n) s ∷ ts) t
numbered_into bs p ss f ls side a n s ts t (b, rest, e, g) = (Some (written_port n a b), rest, rw e bracketed, g)

numbered_completes : (bs : List Body) (p : Place) (ss : List Statement) (f : Element) (ls : List Link) (side : Side) (a : Span) (tok : Token) (ts : List Token) (t : Tree) → Leads (port_numbered bs p ss f ls side a tok) ts t → Completes (number_wanted bs p ss f ls side a) (tok ∷ ts) t
numbered_completes bs p ss f ls side a tok ts t l = elim (numbered_by bs p ss f ls side a tok) [
  | inl w ↦ rw (w.2) (numbered_into bs p ss f ls side a w.0 w.1 ts t (rw (w.2) at l))
  | inr e ↦ absurd (rw e at l)
]

bracketed_completes : (bs : List Body) (p : Place) (ss : List Statement) (f : Element) (ls : List Link) (side : Side) (a : Span) (n : ℕ) (tok : Token) (ts : List Token) (t : Tree) → Leads (bracketed_off bs p ss f ls side a n tok) ts t → Completes (close_wanted bs p ss f ls side a n) (tok ∷ ts) t
bracketed_completes bs p ss f ls side a n tok ts t l = elim (bracketed_by bs p ss f ls side a n tok) [
  | inl w ↦ rw (w.1) (w.0, ts, refl, from_ported bs p ss f ls side _ ts t (rw (w.1) at l))
  | inr e ↦ absurd (rw e at l)
]

-- an arrow after an element
joined_after : (bs : List Body) (p : Place) (ss : List Statement) (f : Element) (ls : List Link) (ts : List Token) (t : Tree) → Completes (port_wanted bs p ss f ls out) ts t → After (Ends p) bs ss f ls ts t
joined_after bs p ss f ls ts t (from, ts0, k, (s, ts1, ts2, to, q, m, (e, rest, bs', r, (more, ts3, rest2, bs1, rs, end, g)))) =
    (link from to e ∷ more, ts3, rest2, bs1, more_links (rw q at k) m r rs, end, rw append_assoc at g)

beyond_ends : (bs : List Body) (p : Place) (ss : List Statement) (f : Element) (ls : List Link) (s : Span) (ts : List Token) (t : Tree) → Completes (between bs p (ss ++ chain f ls ∷ [])) ts t → After (Ends p) bs ss f ls (token.Semicolon s ∷ ts) t
beyond_ends bs p ss f ls s ts t l = ([], token.Semicolon s ∷ ts, ts, bs, no_links, semicolon, rw append-nil l)

beyond_closed : (bs : List Body) (p : Place) (ss : List Statement) (f : Element) (ls : List Link) (b : Span) (ts : List Token) (t : Tree) → Completes (between bs p (ss ++ chain f ls ∷ [])) (token.Close b ∷ ts) t → After (Ends p) bs ss f ls (token.Close b ∷ ts) t
beyond_closed bs p ss f ls b ts t l = ([], token.Close b ∷ ts, token.Close b ∷ ts, bs, no_links, before_close, rw append-nil l)

beyond_completes : (bs : List Body) (p : Place) (ss : List Statement) (f : Element) (ls : List Link) (tok : Token) (ts : List Token) (t : Tree) → Leads (beyond bs p ss f ls tok) ts t → After (Ends p) bs ss f ls (tok ∷ ts) t
beyond_completes bs p ss f ls tok ts t l = elim (beyond_by bs p ss f ls tok) [
  | inl w ↦ rw (w.1) (beyond_ends bs p ss f ls w.0 ts t (rw (w.1) at l))
  | inr (inl w) ↦ rw (w.1) (beyond_closed bs p ss f ls w.0 ts t (closed_completes bs p _ w.0 ts t (rw (w.1) at l)))
  | inr (inr e) ↦ joined_after bs p ss f ls _ t (joined_completes bs p ss f ls out tok ts t (rw e at l))
]

grown_completes : (bs : List Body) (cx : Context) (e : Element) (tok : Token) (ts : List Token) (t : Tree) → Leads (beyond_element bs cx e tok) ts t → Grown cx bs e (tok ∷ ts) t
grown_completes bs (start p ss) e tok ts t l = beyond_completes bs p ss e [] tok ts t l
grown_completes bs (linked p ss f ls from to) e tok ts t l = beyond_completes bs p ss f (ls ++ link from to e ∷ []) tok ts t l

headed_completes : (bs : List Body) (cx : Context) (h : Head) (tok : Token) (ts : List Token) (t : Tree) → Leads (headed bs cx h tok) ts t → Headed (Grown cx) bs h (tok ∷ ts) t
headed_completes bs cx h tok ts t l = elim (headed_by bs cx h tok) [
  | inl w ↦ rw (w.1) (Some w.0, ts, string, from_grown bs cx _ ts t (rw (w.1) at l))
  | inr e ↦ (None, tok ∷ ts, no_string, grown_completes bs cx _ tok ts t (rw e at l))
]

-- a name that is declared
worded_declared : (bs : List Body) (cx : Context) (s d : Span) (ts : List Token) (t : Tree) → Classed (of_head s cx) bs ts t → Completes (word_read bs cx s) (token.DoubleColon d ∷ ts) t
worded_declared bs cx s d ts t (c, rest, bs', r, k) = (head.Declared s c, rest, bs', declared r, k)

worded_completes : (bs : List Body) (cx : Context) (s : Span) (tok : Token) (ts : List Token) (t : Tree) → Leads (worded bs cx s tok) ts t → Completes (word_read bs cx s) (tok ∷ ts) t
worded_completes bs cx s tok ts t l = elim (worded_by bs cx s tok) [
  | inl w ↦ rw (w.1) (worded_declared bs cx s w.0 ts t (rw (w.1) at l))
  | inr e ↦ (head.Word s, tok ∷ ts, bs, word, headed_completes bs cx _ tok ts t (rw e at l))
]

-- a name that is the first of several
firsted_comma : (bs : List Body) (p : Place) (ss : List Statement) (s c : Span) (ts : List Token) (t : Tree) → Completes (name_wanted bs p ss (s ∷ [])) ts t → Stated p bs ss (token.Word s ∷ token.Comma c ∷ ts) t
firsted_comma bs p ss s c ts t (s', rest, e, (more, ts1, r, (cl, ts2, bs', rc, (text, ts3, rest2, q, end, k)))) =
    (declaration (s ∷ s' ∷ more) cl text, rest2, bs', rw e (declarations (names_are r c s') rc q end), k)

firsted_completes : (bs : List Body) (p : Place) (ss : List Statement) (s : Span) (tok : Token) (ts : List Token) (t : Tree) → Leads (firsted bs p ss s tok) ts t → Stated p bs ss (token.Word s ∷ tok ∷ ts) t
firsted_completes bs p ss s tok ts t l = elim (firsted_by bs p ss s tok) [
  | inl w ↦ rw (w.1) (firsted_comma bs p ss s w.0 ts t (rw (w.1) at l))
  | inr e ↦ chain_first bs p ss _ t (begun_word bs (start p ss) s _ t (worded_completes bs (start p ss) s tok ts t (rw e at l)))
]

pub step_completes : (s : State) (tok : Token) (ts : List Token) (t : Tree) → Leads (step s tok) ts t → Completes s (tok ∷ ts) t
step_completes (between bs p ss) tok ts t l = stated_completes bs p ss tok ts t l
step_completes (statement_wanted bs p ss) tok ts t l = opening_completes bs p ss tok ts t l
step_completes (first_read bs p ss s) tok ts t l = firsted_completes bs p ss s tok ts t l
step_completes (name_wanted bs p ss ns) tok ts t l = named_completes bs p ss ns tok ts t l
step_completes (name_read bs p ss ns) tok ts t l = names_complete bs p ss ns tok ts t l
step_completes (listed_read bs p ss ns c) tok ts t l = listed_completes bs p ss ns c tok ts t l
step_completes (define bs p ss) tok ts t l = defined_completes bs p ss tok ts t l
step_completes (define_named bs p ss s) tok ts t l = define_on_completes bs p ss s tok ts t l
step_completes (required bs p ss) tok ts t l = required_completes bs p ss tok ts t l
step_completes (ending bs p ss st) tok ts t l = over_completes bs p ss st tok ts t l
step_completes (body_opened bs a u) tok ts t l = unfolded_completes bs a u tok ts t l
step_completes (formal_wanted bs a u fs) tok ts t l = formal_completes bs a u fs tok ts t l
step_completes (formal_read bs a u fs) tok ts t l = formal_on_completes bs a u fs tok ts t l
step_completes (element_wanted bs cx) tok ts t l = begun_completes bs cx tok ts t l
step_completes (word_read bs cx s) tok ts t l = worded_completes bs cx s tok ts t l
step_completes (class_wanted bs g) tok ts t l = classed_completes bs g tok ts t l
step_completes (head_read bs cx h) tok ts t l = headed_completes bs cx h tok ts t l
step_completes (after bs p ss f ls) tok ts t l = beyond_completes bs p ss f ls tok ts t l
step_completes (port_wanted bs p ss f ls side) tok ts t l = joined_completes bs p ss f ls side tok ts t l
step_completes (number_wanted bs p ss f ls side a) tok ts t l = numbered_completes bs p ss f ls side a tok ts t l
step_completes (close_wanted bs p ss f ls side a n) tok ts t l = bracketed_completes bs p ss f ls side a n tok ts t l
step_completes (arrow_wanted bs p ss f ls q) tok ts t l = arrowed_completes bs p ss f ls q tok ts t l

-- the states in which the tokens may end

ended_completes : (bs : List Body) (p : Place) (ss : List Statement) (t : Tree) → tree_at_end bs p ss ≡ Some t → Completes (between bs p ss) [] t
ended_completes bs top ss t e = ([], [], bs, no_more, rw append-nil (refl, cc))
ended_completes bs (inside a fs u) ss t e = cc

after_ends : (bs : List Body) (p : Place) (ss : List Statement) (f : Element) (ls : List Link) (t : Tree) → tree_at_end bs p (ss ++ chain f ls ∷ []) ≡ Some t → After (Ends p) bs ss f ls [] t
after_ends bs p ss f ls t e = ([], [], [], bs, no_links, at_end, rw append-nil (ended_completes bs p _ t e))

grown_ends : (bs : List Body) (cx : Context) (e : Element) (t : Tree) → tree_at_element bs cx e ≡ Some t → Grown cx bs e [] t
grown_ends bs (start p ss) e t q = after_ends bs p ss e [] t q
grown_ends bs (linked p ss f ls from to) e t q = after_ends bs p ss f (ls ++ link from to e ∷ []) t q

headed_ends : (bs : List Body) (cx : Context) (h : Head) (t : Tree) → tree_at_element bs cx (element h None) ≡ Some t → Headed (Grown cx) bs h [] t
headed_ends bs cx h t q = (None, [], no_string, grown_ends bs cx _ t q)

word_ends : (bs : List Body) (cx : Context) (s : Span) (t : Tree) → tree_at_element bs cx (element (head.Word s) None) ≡ Some t → Completes (word_read bs cx s) [] t
word_ends bs cx s t q = (head.Word s, [], bs, word, headed_ends bs cx _ t q)

pub finish_completes : (s : State) (t : Tree) → finish s ≡ Some t → Completes s [] t
finish_completes (between bs p ss) t e = ended_completes bs p ss t e
finish_completes (first_read bs p ss s) t e = chain_first bs p ss _ t (begun_word bs (start p ss) s [] t (word_ends bs (start p ss) s t e))
finish_completes (listed_read bs p ss ns c) t e = (None, [], [], no_string, at_end, ended_completes bs p _ t e)
finish_completes (required bs p ss) t e = (None, [], no_string, ended_completes bs p _ t e)
finish_completes (ending bs p ss st) t e = ([], at_end, ended_completes bs p _ t e)
finish_completes (word_read bs cx s) t e = word_ends bs cx s t e
finish_completes (head_read bs cx h) t e = headed_ends bs cx h t e
finish_completes (after bs p ss f ls) t e = after_ends bs p ss f ls t e
finish_completes _ t e = cc
