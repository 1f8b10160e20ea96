-- The grammar of configurations (Click manual, "The Click language"), by cases over the list of
-- tokens.
-- In `IsX ts bs x ts' bs'`, the tokens ts begin with an X and go on with ts'. Its tree is x. The
-- bodies bs were closed before it, and bs' are those that are closed after it. A body is referred
-- to by its index among them.
use Rattle.std.specs.Prelude.{ℕ, ◌+◌, ◌-◌, ◌<◌, List, [], ◌∷◌, ◌++◌, length, Option, Some, None}
use Rattle.click_text.specs.declared.syntax.Span.{Span}
use Rattle.click_text.specs.declared.syntax.Token.{Token}
use Rattle.click_text.specs.declared.syntax.Token.TheVariants as token
use Rattle.click_text.specs.declared.syntax.WrittenPort.{WrittenPort}
use Rattle.click_text.specs.declared.syntax.ClassReference.{ClassReference}
use Rattle.click_text.specs.declared.syntax.ClassReference.TheVariants as class
use Rattle.click_text.specs.declared.syntax.Head.{Head}
use Rattle.click_text.specs.declared.syntax.Head.TheVariants as head
use Rattle.click_text.specs.declared.syntax.Element.{Element}
use Rattle.click_text.specs.declared.syntax.Link.{Link}
use Rattle.click_text.specs.declared.syntax.Statement.{Statement}
use Rattle.click_text.specs.declared.syntax.Statement.TheVariants as statement
use Rattle.click_text.specs.declared.syntax.Body.{Body}
use Rattle.click_text.specs.declared.syntax.Config.{Config}

-- from the start of one span to the end of another
abbrev pub from_to : Span → Span → Span
from_to a b = record { start = a.start; end = b.end }

abbrev pub written_port : ℕ → Span → Span → WrittenPort
written_port n a b = record { number = n; span = from_to a b }

abbrev pub element : Head → Option Span → Element
element h text = record { head = h; text = text }

abbrev pub link : Option WrittenPort → Option WrittenPort → Element → Link
link p q e = record { from = p; to = q; element = e }

abbrev pub chain : Element → List Link → Statement
chain e ls = statement.Chain (record { first = e; links = ls })

abbrev pub declaration : List Span → ClassReference → Option Span → Statement
declaration ns c text = statement.Declaration (record { names = ns; class = c; text = text })

abbrev pub body : Span → Span → List Span → List Statement → Body
body a b fs ss = record { span = from_to a b; formals = fs; statements = ss }

-- a port in brackets, or no port
pub data IsPort : List Token → Option WrittenPort → List Token → Type 0 where
  no_port : {ts : List Token} → IsPort ts None ts
  bracketed : {a b s : Span} {n : ℕ} {ts : List Token} →
      IsPort (token.OpenBracket a ∷ token.Number (Some n) s ∷ token.CloseBracket b ∷ ts) (Some (written_port n a b)) ts

-- a configuration string, or none
pub data IsString : List Token → Option Span → List Token → Type 0 where
  no_string : {ts : List Token} → IsString ts None ts
  string : {s : Span} {ts : List Token} → IsString (token.String s ∷ ts) (Some s) ts

-- the end of a chain: a semicolon, or nothing before a closing brace or at the end of the text
pub data IsEnd : List Token → List Token → Type 0 where
  semicolon : {s : Span} {ts : List Token} → IsEnd (token.Semicolon s ∷ ts) ts
  before_close : {s : Span} {ts : List Token} → IsEnd (token.Close s ∷ ts) (token.Close s ∷ ts)
  at_end : IsEnd [] []

-- further parameters, each after a comma, up to the `|`
pub data IsFormals : List Token → List Span → List Token → Type 0 where
  last_formal : {s r : Span} {ts : List Token} → IsFormals (token.Formal s ∷ token.Bar r ∷ ts) (s ∷ []) ts
  more_formals : {s c : Span} {ts rest : List Token} {fs : List Span} →
      IsFormals ts fs rest → IsFormals (token.Formal s ∷ token.Comma c ∷ ts) (s ∷ fs) rest

-- the parameters of a body, or none
pub data IsHeader : List Token → List Span → List Token → Type 0 where
  no_header : {ts : List Token} → IsHeader ts [] ts
  header : {ts rest : List Token} {fs : List Span} → IsFormals ts fs rest → IsHeader ts fs rest

-- further names of a declaration, each after a comma, up to `::`
pub data IsNames : List Token → List Span → List Token → Type 0 where
  last_name : {s c d : Span} {ts : List Token} → IsNames (token.Comma c ∷ token.Word s ∷ token.DoubleColon d ∷ ts) (s ∷ []) ts
  more_names : {s c : Span} {ts rest : List Token} {ns : List Span} →
      IsNames ts ns rest → IsNames (token.Comma c ∷ token.Word s ∷ ts) (s ∷ ns) rest

mutual
  -- a body: braces around parameters and statements; it comes last among the bodies so far
  pub data IsBody : List Token → List Body → ℕ → List Token → List Body → Type 0 where
    braces : {a b : Span} {ts ts1 rest : List Token} {bs bs' : List Body} {fs : List Span} {ss : List Statement} →
        IsHeader ts fs ts1 → IsStatements ts1 bs ss (token.Close b ∷ rest) bs' →
        IsBody (token.Open a ∷ ts) bs (length bs') rest (bs' ++ body a b fs ss ∷ [])

  -- a class: a name or a body
  pub data IsClass : List Token → List Body → ClassReference → List Token → List Body → Type 0 where
    by_name : {s : Span} {ts : List Token} {bs : List Body} → IsClass (token.Word s ∷ ts) bs (class.Named s) ts bs
    by_body : {ts rest : List Token} {bs bs' : List Body} {n : ℕ} → IsBody ts bs n rest bs' → IsClass ts bs (class.Body n) rest bs'

  -- the head of an element: a name, a name with its class, or a body
  pub data IsHead : List Token → List Body → Head → List Token → List Body → Type 0 where
    word : {s : Span} {ts : List Token} {bs : List Body} → IsHead (token.Word s ∷ ts) bs (head.Word s) ts bs
    declared : {s d : Span} {ts rest : List Token} {bs bs' : List Body} {c : ClassReference} →
        IsClass ts bs c rest bs' → IsHead (token.Word s ∷ token.DoubleColon d ∷ ts) bs (head.Declared s c) rest bs'
    compound : {ts rest : List Token} {bs bs' : List Body} {n : ℕ} → IsBody ts bs n rest bs' → IsHead ts bs (head.Compound n) rest bs'

  pub data IsElement : List Token → List Body → Element → List Token → List Body → Type 0 where
    an_element : {ts ts1 rest : List Token} {bs bs' : List Body} {h : Head} {text : Option Span} →
        IsHead ts bs h ts1 bs' → IsString ts1 text rest → IsElement ts bs (element h text) rest bs'

  pub data IsLinks : List Token → List Body → List Link → List Token → List Body → Type 0 where
    no_links : {ts : List Token} {bs : List Body} → IsLinks ts bs [] ts bs
    more_links : {s : Span} {ts ts1 ts2 ts3 rest : List Token} {bs bs1 bs2 : List Body} {p q : Option WrittenPort} {e : Element} {ls : List Link} →
        IsPort ts p (token.Arrow s ∷ ts1) → IsPort ts1 q ts2 → IsElement ts2 bs e ts3 bs1 → IsLinks ts3 bs1 ls rest bs2 →
        IsLinks ts bs (link p q e ∷ ls) rest bs2

  -- one statement, with its end if it has one
  pub data IsStatement : List Token → List Body → Statement → List Token → List Body → Type 0 where
    chained : {ts ts1 ts2 rest : List Token} {bs bs1 bs2 : List Body} {e : Element} {ls : List Link} →
        IsElement ts bs e ts1 bs1 → IsLinks ts1 bs1 ls ts2 bs2 → IsEnd ts2 rest → IsStatement ts bs (chain e ls) rest bs2
    declarations : {s : Span} {ts ts1 ts2 ts3 rest : List Token} {bs bs' : List Body} {ns : List Span} {c : ClassReference} {text : Option Span} →
        IsNames ts ns ts1 → IsClass ts1 bs c ts2 bs' → IsString ts2 text ts3 → IsEnd ts3 rest →
        IsStatement (token.Word s ∷ ts) bs (declaration (s ∷ ns) c text) rest bs'
    -- a `;` after the brace is an empty statement
    definition : {k s : Span} {ts rest : List Token} {bs bs' : List Body} {n : ℕ} →
        IsBody ts bs n rest bs' → IsStatement (token.Elementclass k ∷ token.Word s ∷ ts) bs (statement.Definition s n) rest bs'
    synonym : {k s c : Span} {ts rest : List Token} {bs : List Body} →
        IsEnd ts rest → IsStatement (token.Elementclass k ∷ token.Word s ∷ token.Word c ∷ ts) bs (statement.Synonym s c) rest bs
    -- a `;` after it is an empty statement
    requirement : {k : Span} {ts rest : List Token} {bs : List Body} {text : Option Span} →
        IsString ts text rest → IsStatement (token.Require k ∷ ts) bs (statement.Requirement text) rest bs

  pub data IsStatements : List Token → List Body → List Statement → List Token → List Body → Type 0 where
    no_more : {ts : List Token} {bs : List Body} → IsStatements ts bs [] ts bs
    empty : {s : Span} {ts rest : List Token} {bs bs' : List Body} {ss : List Statement} →
        IsStatements ts bs ss rest bs' → IsStatements (token.Semicolon s ∷ ts) bs ss rest bs'
    stated : {ts ts1 rest : List Token} {bs bs1 bs2 : List Body} {s : Statement} {ss : List Statement} →
        IsStatement ts bs s ts1 bs1 → IsStatements ts1 bs1 ss rest bs2 → IsStatements ts bs (s ∷ ss) rest bs2

-- the tree of a text: its statements and its bodies
pub record Tree : Type 0 where
  pub statements : List Statement
  pub bodies : List Body

-- the tokens are a text of the grammar, with this tree
abbrev pub IsText : List Token → Tree → Type 0
IsText ts t = IsStatements ts [] t.statements [] t.bodies

-- the tokens begin a text of the grammar
abbrev pub BeginsText : List Token → Type 0
BeginsText ts = (more : List Token) × (t : Tree) × IsText (ts ++ more) t

-- the maximum number of open braces
abbrev pub most_open : ℕ
most_open = 32

-- the effect of a token on the number of open braces
pub data Brace : Type 0 where
  Opens : Brace
  Closes : Brace
  Neither : Brace

abbrev pub brace : Token → Brace
brace (token.Open s) = Opens
brace (token.Close s) = Closes
brace _ = Neither

-- one more brace may be open, if the token opens one
abbrev pub HasRoom : Brace → ℕ → Type 0
HasRoom Opens depth = depth < most_open
HasRoom Closes depth = Unit {0}
HasRoom Neither depth = Unit {0}

-- the number of open braces after a token
abbrev pub braces_after : Brace → ℕ → ℕ
braces_after Opens depth = depth + 1
braces_after Closes depth = depth - 1
braces_after Neither depth = depth

-- with `depth` braces open before these tokens, at most 32 are open at once
abbrev pub NestsWithin : ℕ → List Token → Type 0
NestsWithin depth [] = Unit {0}
NestsWithin depth (t ∷ ts) = HasRoom (brace t) depth × NestsWithin (braces_after (brace t) depth) ts

-- the tree of a configuration
abbrev pub tree_of : Config → Tree
tree_of c = record { statements = c.statements; bodies = c.bodies }
