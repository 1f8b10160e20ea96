-- A state machine over tokens. Its state holds what is open after the tokens so far, which
-- determines what may follow. It accepts exactly the texts of the grammar
-- (proofs/OfParser/GrammarEquality.antt). The private contracts of the parser cite it.
use Rattle.std.specs.Prelude.{◌≡◌, ℕ, ◌+◌, ◌-◌, List, [], ◌∷◌, ◌++◌, length, Option, Some, None, Bool, true, false, nat_lt, if◌then◌else◌}
use Rattle.click_text.specs.declared.syntax.Span.{Span}
use Rattle.click_text.specs.declared.syntax.Token.{Token}
use Rattle.click_text.specs.declared.syntax.Token.TheVariants as token
use Rattle.click_text.specs.declared.syntax.WrittenPort.{WrittenPort}
use Rattle.click_text.specs.declared.syntax.ClassReference.{ClassReference}
use Rattle.click_text.specs.declared.syntax.ClassReference.TheVariants as class
use Rattle.click_text.specs.declared.syntax.Head.{Head}
use Rattle.click_text.specs.declared.syntax.Head.TheVariants as head
use Rattle.click_text.specs.declared.syntax.Element.{Element}
use Rattle.click_text.specs.declared.syntax.Link.{Link}
use Rattle.click_text.specs.declared.syntax.Statement.{Statement}
use Rattle.click_text.specs.declared.syntax.Statement.TheVariants as statement
use Rattle.click_text.specs.declared.syntax.Body.{Body}
use Rattle.click_text.specs.declared.tokens.ParseStop.{ParseStop}
use Rattle.click_text.specs.declared.tokens.ParseStop.TheVariants as stop
use Rattle.click_text.specs.declared.tokens.ArrowPorts.{ArrowPorts}
use Rattle.click_text.specs.Grammar.{written_port, element, link, chain, declaration, body, Tree, most_open, Brace, Opens, Closes, Neither, brace}

mutual
  -- where a list of statements belongs: to the whole text, or to a body, with its brace, its
  -- parameters and its use
  pub data Place : Type 0 where
    top : Place
    inside : Span → List Span → Use → Place

  -- what a body is used for
  pub data Use : Type 0 where
    as_element : Context → Use
    as_class : Target → Use
    as_definition : Span → Place → List Statement → Use

  -- what a class is used for: the name of a head, or the names of a declaration
  pub data Target : Type 0 where
    of_head : Span → Context → Target
    of_names : List Span → Place → List Statement → Target

  -- what an element is used for: the first of a chain, or a further one after an arrow with these
  -- ports
  pub data Context : Type 0 where
    start : Place → List Statement → Context
    linked : Place → List Statement → Element → List Link → Option WrittenPort → Option WrittenPort → Context

-- the side of an arrow that a port is on; `into` has the port that was written before the arrow
pub data Side : Type 0 where
  out : Side
  into : Option WrittenPort → Side

pub data State : Type 0 where
  -- a statement may begin
  between : List Body → Place → List Statement → State
  -- a statement must begin
  statement_wanted : List Body → Place → List Statement → State
  -- the first word of a statement was read
  first_read : List Body → Place → List Statement → Span → State
  -- after a comma another name must come
  name_wanted : List Body → Place → List Statement → List Span → State
  -- names were read
  name_read : List Body → Place → List Statement → List Span → State
  -- the class of several names was read; a string may follow
  listed_read : List Body → Place → List Statement → List Span → ClassReference → State
  -- the name of a definition must come
  define : List Body → Place → List Statement → State
  -- the body or class of a definition must come
  define_named : List Body → Place → List Statement → Span → State
  -- the string of a requirement may come
  required : List Body → Place → List Statement → State
  -- a statement was read and must end
  ending : List Body → Place → List Statement → Statement → State
  -- a brace was opened; parameters may follow
  body_opened : List Body → Span → Use → State
  -- another parameter must come
  formal_wanted : List Body → Span → Use → List Span → State
  -- a parameter was read
  formal_read : List Body → Span → Use → List Span → State
  -- an element must come
  element_wanted : List Body → Context → State
  -- a word was read, which may be declared
  word_read : List Body → Context → Span → State
  -- a class must come
  class_wanted : List Body → Target → State
  -- a head was read; a string may follow
  head_read : List Body → Context → Head → State
  -- an element has ended
  after : List Body → Place → List Statement → Element → List Link → State
  -- a port may come, and then what follows a port must
  port_wanted : List Body → Place → List Statement → Element → List Link → Side → State
  -- a bracket was opened; the number of a port must come
  number_wanted : List Body → Place → List Statement → Element → List Link → Side → Span → State
  -- a closing bracket must come
  close_wanted : List Body → Place → List Statement → Element → List Link → Side → Span → ℕ → State
  -- an arrow must come
  arrow_wanted : List Body → Place → List Statement → Element → List Link → Option WrittenPort → State

abbrev pub a_definition : Span → ℕ → Statement
a_definition s n = statement.Definition s n

abbrev pub a_synonym : Span → Span → Statement
a_synonym s c = statement.Synonym s c

abbrev pub a_requirement : Option Span → Statement
a_requirement text = statement.Requirement text

-- the state after an element
abbrev pub element_read : List Body → Context → Element → State
element_read bs (start p ss) e = after bs p ss e []
element_read bs (linked p ss f ls from to) e = after bs p ss f (ls ++ link from to e ∷ [])

-- the state after a class
abbrev pub classified : List Body → Target → ClassReference → State
classified bs (of_head s cx) c = head_read bs cx (head.Declared s c)
classified bs (of_names ns p ss) c = listed_read bs p ss ns c

-- the state after a body with index n
abbrev pub body_read : List Body → Use → ℕ → State
body_read bs (as_element cx) n = head_read bs cx (head.Compound n)
body_read bs (as_class g) n = classified bs g (class.Body n)
body_read bs (as_definition s p ss) n = between bs p (ss ++ a_definition s n ∷ [])

-- the state after a port, or after none
abbrev pub ported : List Body → Place → List Statement → Element → List Link → Side → Option WrittenPort → State
ported bs p ss f ls out q = arrow_wanted bs p ss f ls q
ported bs p ss f ls (into from) q = element_wanted bs (linked p ss f ls from q)

-- the state after a token, if an element must begin
abbrev pub begun : List Body → Context → Token → Option State
begun bs cx (token.Word s) = Some (word_read bs cx s)
begun bs cx (token.Open a) = Some (body_opened bs a (as_element cx))
begun bs cx _ = None

-- the state after a token, if a class must come
abbrev pub classed : List Body → Target → Token → Option State
classed bs g (token.Word w) = Some (classified bs g (class.Named w))
classed bs g (token.Open a) = Some (body_opened bs a (as_class g))
classed bs g _ = None

-- the state after a brace that closes a body
abbrev pub closed : List Body → Place → List Statement → Span → Option State
closed bs top ss b = None
closed bs (inside a fs u) ss b = Some (body_read (bs ++ body a b fs ss ∷ []) u (length bs))

-- the state after a token, if an arrow must come
abbrev pub arrowed : List Body → Place → List Statement → Element → List Link → Option WrittenPort → Token → Option State
arrowed bs p ss f ls q (token.Arrow s) = Some (port_wanted bs p ss f ls (into q))
arrowed bs p ss f ls q _ = None

-- the state after a token that follows a port
abbrev pub past_port : List Body → Place → List Statement → Element → List Link → Side → Option WrittenPort → Token → Option State
past_port bs p ss f ls out q t = arrowed bs p ss f ls q t
past_port bs p ss f ls (into from) q t = begun bs (linked p ss f ls from q) t

-- the state after a token, if a port may come
abbrev pub port_begun : List Body → Place → List Statement → Element → List Link → Side → Token → Option State
port_begun bs p ss f ls side (token.OpenBracket a) = Some (number_wanted bs p ss f ls side a)
port_begun bs p ss f ls side t = past_port bs p ss f ls side None t

-- the state after a token, if the number of a port must come
abbrev pub port_numbered : List Body → Place → List Statement → Element → List Link → Side → Span → Token → Option State
port_numbered bs p ss f ls side a (token.Number (Some n) s) = Some (close_wanted bs p ss f ls side a n)
port_numbered bs p ss f ls side a _ = None

-- the state after a token, if a closing bracket must come
abbrev pub bracketed_off : List Body → Place → List Statement → Element → List Link → Side → Span → ℕ → Token → Option State
bracketed_off bs p ss f ls side a n (token.CloseBracket b) = Some (ported bs p ss f ls side (Some (written_port n a b)))
bracketed_off bs p ss f ls side a n _ = None

-- the state after a token that follows an element
abbrev pub beyond : List Body → Place → List Statement → Element → List Link → Token → Option State
beyond bs p ss f ls (token.Semicolon s) = Some (between bs p (ss ++ chain f ls ∷ []))
beyond bs p ss f ls (token.Close s) = closed bs p (ss ++ chain f ls ∷ []) s
beyond bs p ss f ls t = port_begun bs p ss f ls out t

abbrev pub beyond_element : List Body → Context → Element → Token → Option State
beyond_element bs (start p ss) e t = beyond bs p ss e [] t
beyond_element bs (linked p ss f ls from to) e t = beyond bs p ss f (ls ++ link from to e ∷ []) t

-- the state after a token that follows a head
abbrev pub headed : List Body → Context → Head → Token → Option State
headed bs cx h (token.String s) = Some (element_read bs cx (element h (Some s)))
headed bs cx h t = beyond_element bs cx (element h None) t

-- the state after a token that follows a word
abbrev pub worded : List Body → Context → Span → Token → Option State
worded bs cx s (token.DoubleColon d) = Some (class_wanted bs (of_head s cx))
worded bs cx s t = headed bs cx (head.Word s) t

-- the state after a token that follows the first word of a statement
abbrev pub firsted : List Body → Place → List Statement → Span → Token → Option State
firsted bs p ss s (token.Comma c) = Some (name_wanted bs p ss (s ∷ []))
firsted bs p ss s t = worded bs (start p ss) s t

-- the state after a token, if another name must come
abbrev pub named : List Body → Place → List Statement → List Span → Token → Option State
named bs p ss ns (token.Word s) = Some (name_read bs p ss (ns ++ s ∷ []))
named bs p ss ns _ = None

-- the state after a token that follows names
abbrev pub names_on : List Body → Place → List Statement → List Span → Token → Option State
names_on bs p ss ns (token.Comma c) = Some (name_wanted bs p ss ns)
names_on bs p ss ns (token.DoubleColon d) = Some (class_wanted bs (of_names ns p ss))
names_on bs p ss ns _ = None

-- the state after a token, if a statement must end
abbrev pub statement_over : List Body → Place → List Statement → Statement → Token → Option State
statement_over bs p ss st (token.Semicolon s) = Some (between bs p (ss ++ st ∷ []))
statement_over bs p ss st (token.Close s) = closed bs p (ss ++ st ∷ []) s
statement_over bs p ss st _ = None

-- the state after a token that follows the class of several names
abbrev pub class_listed : List Body → Place → List Statement → List Span → ClassReference → Token → Option State
class_listed bs p ss ns c (token.String s) = Some (ending bs p ss (declaration ns c (Some s)))
class_listed bs p ss ns c t = statement_over bs p ss (declaration ns c None) t

-- the state after a token, if the name of a definition must come
abbrev pub defined : List Body → Place → List Statement → Token → Option State
defined bs p ss (token.Word s) = Some (define_named bs p ss s)
defined bs p ss _ = None

-- the state after a token that follows the name of a definition
abbrev pub define_on : List Body → Place → List Statement → Span → Token → Option State
define_on bs p ss s (token.Word c) = Some (ending bs p ss (a_synonym s c))
define_on bs p ss s (token.Open a) = Some (body_opened bs a (as_definition s p ss))
define_on bs p ss s _ = None

-- the state after a token, if a statement must begin
abbrev pub opening : List Body → Place → List Statement → Token → Option State
opening bs p ss (token.Word s) = Some (first_read bs p ss s)
opening bs p ss (token.Elementclass k) = Some (define bs p ss)
opening bs p ss (token.Require k) = Some (required bs p ss)
opening bs p ss t = begun bs (start p ss) t

-- the state after a token, if a statement may begin
abbrev pub statement_next : List Body → Place → List Statement → Token → Option State
statement_next bs p ss (token.Semicolon s) = Some (between bs p ss)
statement_next bs p ss (token.Close s) = closed bs p ss s
statement_next bs p ss t = opening bs p ss t

-- the state after a token that follows `require`
abbrev pub required_on : List Body → Place → List Statement → Token → Option State
required_on bs p ss (token.String s) = Some (between bs p (ss ++ a_requirement (Some s) ∷ []))
required_on bs p ss t = statement_next bs p (ss ++ a_requirement None ∷ []) t

-- the state after a token that follows an opening brace
abbrev pub unfolded : List Body → Span → Use → Token → Option State
unfolded bs a u (token.Formal s) = Some (formal_read bs a u (s ∷ []))
unfolded bs a u t = statement_next bs (inside a [] u) [] t

-- the state after a token, if another parameter must come
abbrev pub formal_next : List Body → Span → Use → List Span → Token → Option State
formal_next bs a u fs (token.Formal s) = Some (formal_read bs a u (fs ++ s ∷ []))
formal_next bs a u fs _ = None

-- the state after a token that follows a parameter
abbrev pub formal_on : List Body → Span → Use → List Span → Token → Option State
formal_on bs a u fs (token.Comma c) = Some (formal_wanted bs a u fs)
formal_on bs a u fs (token.Bar r) = Some (between bs (inside a fs u) [])
formal_on bs a u fs _ = None

abbrev pub step : State → Token → Option State
step (between bs p ss) t = statement_next bs p ss t
step (statement_wanted bs p ss) t = opening bs p ss t
step (first_read bs p ss s) t = firsted bs p ss s t
step (name_wanted bs p ss ns) t = named bs p ss ns t
step (name_read bs p ss ns) t = names_on bs p ss ns t
step (listed_read bs p ss ns c) t = class_listed bs p ss ns c t
step (define bs p ss) t = defined bs p ss t
step (define_named bs p ss s) t = define_on bs p ss s t
step (required bs p ss) t = required_on bs p ss t
step (ending bs p ss st) t = statement_over bs p ss st t
step (body_opened bs a u) t = unfolded bs a u t
step (formal_wanted bs a u fs) t = formal_next bs a u fs t
step (formal_read bs a u fs) t = formal_on bs a u fs t
step (element_wanted bs cx) t = begun bs cx t
step (word_read bs cx s) t = worded bs cx s t
step (class_wanted bs g) t = classed bs g t
step (head_read bs cx h) t = headed bs cx h t
step (after bs p ss f ls) t = beyond bs p ss f ls t
step (port_wanted bs p ss f ls side) t = port_begun bs p ss f ls side t
step (number_wanted bs p ss f ls side a) t = port_numbered bs p ss f ls side a t
step (close_wanted bs p ss f ls side a n) t = bracketed_off bs p ss f ls side a n t
step (arrow_wanted bs p ss f ls q) t = arrowed bs p ss f ls q t

-- the tree of the text, if it may end here
abbrev pub tree_at_end : List Body → Place → List Statement → Option Tree
tree_at_end bs top ss = Some (record { statements = ss; bodies = bs })
tree_at_end bs (inside a fs u) ss = None

abbrev pub tree_at_element : List Body → Context → Element → Option Tree
tree_at_element bs (start p ss) e = tree_at_end bs p (ss ++ chain e [] ∷ [])
tree_at_element bs (linked p ss f ls from to) e = tree_at_end bs p (ss ++ chain f (ls ++ link from to e ∷ []) ∷ [])

abbrev pub finish : State → Option Tree
finish (between bs p ss) = tree_at_end bs p ss
finish (statement_wanted bs p ss) = None
finish (first_read bs p ss s) = tree_at_end bs p (ss ++ chain (element (head.Word s) None) [] ∷ [])
finish (name_wanted bs p ss ns) = None
finish (name_read bs p ss ns) = None
finish (listed_read bs p ss ns c) = tree_at_end bs p (ss ++ declaration ns c None ∷ [])
finish (define bs p ss) = None
finish (define_named bs p ss s) = None
finish (required bs p ss) = tree_at_end bs p (ss ++ a_requirement None ∷ [])
finish (ending bs p ss st) = tree_at_end bs p (ss ++ st ∷ [])
finish (body_opened bs a u) = None
finish (formal_wanted bs a u fs) = None
finish (formal_read bs a u fs) = None
finish (element_wanted bs cx) = None
finish (word_read bs cx s) = tree_at_element bs cx (element (head.Word s) None)
finish (class_wanted bs g) = None
finish (head_read bs cx h) = tree_at_element bs cx (element h None)
finish (after bs p ss f ls) = tree_at_end bs p (ss ++ chain f ls ∷ [])
finish (port_wanted bs p ss f ls side) = None
finish (number_wanted bs p ss f ls side a) = None
finish (close_wanted bs p ss f ls side a n) = None
finish (arrow_wanted bs p ss f ls q) = None

abbrev pub bind : {A B : Type 0} → Option A → (A → Option B) → Option B
bind None f = None
bind (Some a) f = f a

-- the tree of a whole list of tokens
unfoldable pub run : State → List Token → Option Tree
run s [] = finish s
run s (t ∷ ts) = bind (step s t) (λ s'. run s' ts)

-- the state after a list of tokens
unfoldable pub advance : State → List Token → Option State
advance s [] = Some s
advance s (t ∷ ts) = bind (step s t) (λ s'. advance s' ts)

-- the number of open braces after a token, unless it opens one too many
abbrev pub open_after_brace : Brace → ℕ → Option ℕ
open_after_brace Opens n = if nat_lt n most_open then Some (n + 1) else None
open_after_brace Closes n = Some (n - 1)
open_after_brace Neither n = Some n

abbrev pub open_after : ℕ → Token → Option ℕ
open_after n t = open_after_brace (brace t) n

-- how a run with the limit ends: with a tree, or before the first token that fits nowhere or opens
-- one brace too many
pub data Outcome : Type 0 where
  Accepted : Tree → Outcome
  Refused : List Token → Outcome
  Deep : List Token → Outcome

abbrev pub or_refused : Option State → List Token → (State → Outcome) → Outcome
or_refused None ts f = Refused ts
or_refused (Some s) ts f = f s

abbrev pub or_deep : Option ℕ → List Token → (ℕ → Outcome) → Outcome
or_deep None ts f = Deep ts
or_deep (Some n) ts f = f n

abbrev pub accepted : Option Tree → Outcome
accepted None = Refused []
accepted (Some t) = Accepted t

unfoldable pub outcome : ℕ → State → List Token → Outcome
outcome n s [] = accepted (finish s)
outcome n s (t ∷ ts) = or_refused (step s t) (t ∷ ts) (λ s'. or_deep (open_after n t) (t ∷ ts) (λ m. outcome m s' ts))

-- the state after an element and an arrow with its ports, or after the end of the chain
abbrev pub past_element : Option ArrowPorts → List Body → Place → List Statement → Element → List Link → State
past_element (Some j) bs p ss f ls = element_wanted bs (linked p ss f ls j.from j.to)
past_element None bs p ss f ls = between bs p (ss ++ chain f ls ∷ [])

-- the state after a word, with or without `::`
abbrev pub past_word : Bool → List Body → Context → Span → State
past_word true bs cx s = class_wanted bs (of_head s cx)
past_word false bs cx s = head_read bs cx (head.Word s)

-- the state after names and a comma, or after names and `::`
abbrev pub past_name : Bool → List Body → Place → List Statement → List Span → State
past_name true bs p ss ns = name_wanted bs p ss ns
past_name false bs p ss ns = class_wanted bs (of_names ns p ss)

-- the state after a parameter and a comma, or after a parameter and the `|`
abbrev pub past_formal : Bool → List Body → Span → Use → List Span → State
past_formal true bs a u fs = formal_wanted bs a u fs
past_formal false bs a u fs = between bs (inside a fs u) []

-- if the parser stops with a fault, the run from before ends with that fault, at the tokens that
-- are left
abbrev pub Stops : ParseStop → Outcome → List Token → Type 0
Stops stop.Memory before rest = Unit {0}
Stops stop.Unexpected before rest = before ≡ Refused rest
Stops stop.TooDeep before rest = before ≡ Deep rest

-- no statement begins here: a brace closes, or there is no token
abbrev pub NoStatement : List Token → Type 0
NoStatement ts = (tok : Token) (rest : List Token) → ts ≡ tok ∷ rest → (s : Span) × (tok ≡ token.Close s)

-- the tokens begin with a name and a comma
abbrev pub Lists : List Token → Span → Type 0
Lists ts first = (c : Span) × (rest : List Token) × (ts ≡ token.Word first ∷ token.Comma c ∷ rest)
