-- Which token each state takes, and what it does with any other.
use Rattle.std.proofs.Common.{◌⊎◌, inl, inr, ◌≡◌, ℕ, List, [], ◌∷◌, ◌++◌, Option, Some, None, refl}
use Rattle.click_text.specs.declared.syntax.Span.{Span}
use Rattle.click_text.specs.declared.syntax.Token.{Token}
use Rattle.click_text.specs.declared.syntax.Token.TheVariants as token
use Rattle.click_text.specs.declared.syntax.WrittenPort.{WrittenPort}
use Rattle.click_text.specs.declared.syntax.ClassReference.{ClassReference}
use Rattle.click_text.specs.declared.syntax.Head.{Head}
use Rattle.click_text.specs.declared.syntax.Head.TheVariants as head
use Rattle.click_text.specs.declared.syntax.Element.{Element}
use Rattle.click_text.specs.declared.syntax.Link.{Link}
use Rattle.click_text.specs.declared.syntax.Statement.{Statement}
use Rattle.click_text.specs.declared.syntax.Body.{Body}
use Rattle.click_text.specs.Grammar.{element, declaration}
use Rattle.click_text.specs.kept.ParserStates.{Place, inside, Use, Target, Context, start, Side, out, a_requirement, begun, classed, arrowed, past_port, port_begun, port_numbered, bracketed_off, beyond, beyond_element, headed, worded, firsted, named, names_on, statement_over, class_listed, defined, define_on, opening, statement_next, required_on, unfolded, formal_next, formal_on}

abbrev pub IsWord : Token → Type 0
IsWord tok = (s : Span) × (tok ≡ token.Word s)

abbrev pub IsFormal : Token → Type 0
IsFormal tok = (s : Span) × (tok ≡ token.Formal s)

abbrev pub IsString : Token → Type 0
IsString tok = (s : Span) × (tok ≡ token.String s)

abbrev pub IsDoubleColon : Token → Type 0
IsDoubleColon tok = (s : Span) × (tok ≡ token.DoubleColon s)

abbrev pub IsArrow : Token → Type 0
IsArrow tok = (s : Span) × (tok ≡ token.Arrow s)

abbrev pub IsSemicolon : Token → Type 0
IsSemicolon tok = (s : Span) × (tok ≡ token.Semicolon s)

abbrev pub IsComma : Token → Type 0
IsComma tok = (s : Span) × (tok ≡ token.Comma s)

abbrev pub IsOpenBracket : Token → Type 0
IsOpenBracket tok = (s : Span) × (tok ≡ token.OpenBracket s)

abbrev pub IsCloseBracket : Token → Type 0
IsCloseBracket tok = (s : Span) × (tok ≡ token.CloseBracket s)

abbrev pub IsOpen : Token → Type 0
IsOpen tok = (s : Span) × (tok ≡ token.Open s)

abbrev pub IsClose : Token → Type 0
IsClose tok = (s : Span) × (tok ≡ token.Close s)

abbrev pub IsBar : Token → Type 0
IsBar tok = (s : Span) × (tok ≡ token.Bar s)

abbrev pub IsElementclass : Token → Type 0
IsElementclass tok = (s : Span) × (tok ≡ token.Elementclass s)

abbrev pub IsRequire : Token → Type 0
IsRequire tok = (s : Span) × (tok ≡ token.Require s)

abbrev pub IsNumber : Token → Type 0
IsNumber tok = (n : ℕ) × (s : Span) × (tok ≡ token.Number (Some n) s)

-- the second of two cases, if the first is excluded
pub otherwise : {A B : Type 0} → A ⊎ B → (A → ⊥) → B
otherwise (inl a) h = absurd (h a)
otherwise (inr b) h = b

-- the third of three cases, if the first two are excluded
pub neither : {A B C : Type 0} → A ⊎ B ⊎ C → (A → ⊥) → (B → ⊥) → C
neither (inl a) h k = absurd (h a)
neither (inr (inl b)) h k = absurd (k b)
neither (inr (inr c)) h k = c

-- an element begins with a word or a brace
pub begun_by : (bs : List Body) (cx : Context) (tok : Token) → IsWord tok ⊎ IsOpen tok ⊎ (begun bs cx tok ≡ None)
begun_by bs cx (token.Word x) = inl (x, refl)
begun_by bs cx (token.Open x) = inr (inl (x, refl))
begun_by bs cx _ = inr (inr refl)

-- a class is a word or begins with a brace
pub classed_by : (bs : List Body) (g : Target) (tok : Token) → IsWord tok ⊎ IsOpen tok ⊎ (classed bs g tok ≡ None)
classed_by bs g (token.Word x) = inl (x, refl)
classed_by bs g (token.Open x) = inr (inl (x, refl))
classed_by bs g _ = inr (inr refl)

-- an arrow
pub arrowed_by : (bs : List Body) (p : Place) (ss : List Statement) (f : Element) (ls : List Link) (q : Option WrittenPort) (tok : Token) → IsArrow tok ⊎ (arrowed bs p ss f ls q tok ≡ None)
arrowed_by bs p ss f ls q (token.Arrow x) = inl (x, refl)
arrowed_by bs p ss f ls q _ = inr refl

-- a port, which begins with a bracket
pub joined_by : (bs : List Body) (p : Place) (ss : List Statement) (f : Element) (ls : List Link) (side : Side) (tok : Token) → IsOpenBracket tok ⊎ (port_begun bs p ss f ls side tok ≡ past_port bs p ss f ls side None tok)
joined_by bs p ss f ls side (token.OpenBracket x) = inl (x, refl)
joined_by bs p ss f ls side _ = inr refl

-- the number of a port
pub numbered_by : (bs : List Body) (p : Place) (ss : List Statement) (f : Element) (ls : List Link) (side : Side) (b : Span) (tok : Token) → IsNumber tok ⊎ (port_numbered bs p ss f ls side b tok ≡ None)
numbered_by bs p ss f ls side b (token.Number (Some m) s) = inl (m, s, refl)
numbered_by bs p ss f ls side b _ = inr refl

-- a bracket
pub bracketed_by : (bs : List Body) (p : Place) (ss : List Statement) (f : Element) (ls : List Link) (side : Side) (b : Span) (n : ℕ) (tok : Token) → IsCloseBracket tok ⊎ (bracketed_off bs p ss f ls side b n tok ≡ None)
bracketed_by bs p ss f ls side b n (token.CloseBracket x) = inl (x, refl)
bracketed_by bs p ss f ls side b n _ = inr refl

-- after an element: the end of its chain, or an arrow
pub beyond_by : (bs : List Body) (p : Place) (ss : List Statement) (f : Element) (ls : List Link) (tok : Token) → IsSemicolon tok ⊎ IsClose tok ⊎ (beyond bs p ss f ls tok ≡ port_begun bs p ss f ls out tok)
beyond_by bs p ss f ls (token.Semicolon x) = inl (x, refl)
beyond_by bs p ss f ls (token.Close x) = inr (inl (x, refl))
beyond_by bs p ss f ls _ = inr (inr refl)

-- after a head: a string, or what follows an element
pub headed_by : (bs : List Body) (cx : Context) (h : Head) (tok : Token) → IsString tok ⊎ (headed bs cx h tok ≡ beyond_element bs cx (element h None) tok)
headed_by bs cx h (token.String x) = inl (x, refl)
headed_by bs cx h _ = inr refl

-- after a word: `::`, or what follows a head
pub worded_by : (bs : List Body) (cx : Context) (s : Span) (tok : Token) → IsDoubleColon tok ⊎ (worded bs cx s tok ≡ headed bs cx (head.Word s) tok)
worded_by bs cx s (token.DoubleColon x) = inl (x, refl)
worded_by bs cx s _ = inr refl

-- after the first word of a statement: a comma, or what follows a word
pub firsted_by : (bs : List Body) (p : Place) (ss : List Statement) (s : Span) (tok : Token) → IsComma tok ⊎ (firsted bs p ss s tok ≡ worded bs (start p ss) s tok)
firsted_by bs p ss s (token.Comma x) = inl (x, refl)
firsted_by bs p ss s _ = inr refl

-- a further name
pub named_by : (bs : List Body) (p : Place) (ss : List Statement) (ns : List Span) (tok : Token) → IsWord tok ⊎ (named bs p ss ns tok ≡ None)
named_by bs p ss ns (token.Word x) = inl (x, refl)
named_by bs p ss ns _ = inr refl

-- after names: a comma or `::`
pub names_by : (bs : List Body) (p : Place) (ss : List Statement) (ns : List Span) (tok : Token) → IsComma tok ⊎ IsDoubleColon tok ⊎ (names_on bs p ss ns tok ≡ None)
names_by bs p ss ns (token.DoubleColon x) = inr (inl (x, refl))
names_by bs p ss ns (token.Comma x) = inl (x, refl)
names_by bs p ss ns _ = inr (inr refl)

-- the end of a statement
pub over_by : (bs : List Body) (p : Place) (ss : List Statement) (st : Statement) (tok : Token) → IsSemicolon tok ⊎ IsClose tok ⊎ (statement_over bs p ss st tok ≡ None)
over_by bs p ss st (token.Semicolon x) = inl (x, refl)
over_by bs p ss st (token.Close x) = inr (inl (x, refl))
over_by bs p ss st _ = inr (inr refl)

-- after the class of names: a string, or the end of the statement
pub listed_by : (bs : List Body) (p : Place) (ss : List Statement) (ns : List Span) (c : ClassReference) (tok : Token) → IsString tok ⊎ (class_listed bs p ss ns c tok ≡ statement_over bs p ss (declaration ns c None) tok)
listed_by bs p ss ns c (token.String x) = inl (x, refl)
listed_by bs p ss ns c _ = inr refl

-- the name of a definition
pub defined_by : (bs : List Body) (p : Place) (ss : List Statement) (tok : Token) → IsWord tok ⊎ (defined bs p ss tok ≡ None)
defined_by bs p ss (token.Word x) = inl (x, refl)
defined_by bs p ss _ = inr refl

-- the class or body of a definition
pub define_on_by : (bs : List Body) (p : Place) (ss : List Statement) (s : Span) (tok : Token) → IsWord tok ⊎ IsOpen tok ⊎ (define_on bs p ss s tok ≡ None)
define_on_by bs p ss s (token.Word x) = inl (x, refl)
define_on_by bs p ss s (token.Open x) = inr (inl (x, refl))
define_on_by bs p ss s _ = inr (inr refl)

-- a statement begins with a word, a keyword or an element
pub opening_by : (bs : List Body) (p : Place) (ss : List Statement) (tok : Token) → IsWord tok ⊎ IsElementclass tok ⊎ IsRequire tok ⊎ (opening bs p ss tok ≡ begun bs (start p ss) tok)
opening_by bs p ss (token.Word x) = inl (x, refl)
opening_by bs p ss (token.Elementclass x) = inr (inl (x, refl))
opening_by bs p ss (token.Require x) = inr (inr (inl (x, refl)))
opening_by bs p ss _ = inr (inr (inr refl))

-- a statement is empty, or begins
pub stated_by : (bs : List Body) (p : Place) (ss : List Statement) (tok : Token) → IsSemicolon tok ⊎ IsClose tok ⊎ (statement_next bs p ss tok ≡ opening bs p ss tok)
stated_by bs p ss (token.Semicolon x) = inl (x, refl)
stated_by bs p ss (token.Close x) = inr (inl (x, refl))
stated_by bs p ss _ = inr (inr refl)

-- after `require`: its string, or further statements
pub required_by : (bs : List Body) (p : Place) (ss : List Statement) (tok : Token) → IsString tok ⊎ (required_on bs p ss tok ≡ statement_next bs p (ss ++ a_requirement None ∷ []) tok)
required_by bs p ss (token.String x) = inl (x, refl)
required_by bs p ss _ = inr refl

-- after an opening brace: a parameter, or statements
pub unfolded_by : (bs : List Body) (a : Span) (u : Use) (tok : Token) → IsFormal tok ⊎ (unfolded bs a u tok ≡ statement_next bs (inside a [] u) [] tok)
unfolded_by bs a u (token.Formal x) = inl (x, refl)
unfolded_by bs a u _ = inr refl

-- a further parameter
pub formal_by : (bs : List Body) (a : Span) (u : Use) (fs : List Span) (tok : Token) → IsFormal tok ⊎ (formal_next bs a u fs tok ≡ None)
formal_by bs a u fs (token.Formal x) = inl (x, refl)
formal_by bs a u fs _ = inr refl

-- after a parameter: a comma or the `|`
pub formal_on_by : (bs : List Body) (a : Span) (u : Use) (fs : List Span) (tok : Token) → IsComma tok ⊎ IsBar tok ⊎ (formal_on bs a u fs tok ≡ None)
formal_on_by bs a u fs (token.Comma x) = inl (x, refl)
formal_on_by bs a u fs (token.Bar x) = inr (inl (x, refl))
formal_on_by bs a u fs _ = inr (inr refl)
