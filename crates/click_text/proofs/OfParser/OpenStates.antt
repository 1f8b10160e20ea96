-- What is open in a state can always be completed.
use Rattle.std.proofs.Common.{ℕ, List, [], ◌∷◌, ◌++◌, length, Option, Some, None, refl}
use Rattle.std.proofs.lemmas.List.{append-nil}
use Rattle.click_text.specs.declared.syntax.Span.{Span}
use Rattle.click_text.specs.declared.syntax.Token.{Token}
use Rattle.click_text.specs.declared.syntax.Token.TheVariants as token
use Rattle.click_text.specs.declared.syntax.WrittenPort.{WrittenPort}
use Rattle.click_text.specs.declared.syntax.ClassReference.{ClassReference}
use Rattle.click_text.specs.declared.syntax.ClassReference.TheVariants as class
use Rattle.click_text.specs.declared.syntax.Head.{Head}
use Rattle.click_text.specs.declared.syntax.Head.TheVariants as head
use Rattle.click_text.specs.declared.syntax.Element.{Element}
use Rattle.click_text.specs.declared.syntax.Link.{Link}
use Rattle.click_text.specs.declared.syntax.Statement.{Statement}
use Rattle.click_text.specs.declared.syntax.Body.{Body}
use Rattle.click_text.specs.Grammar.{written_port, element, link, chain, declaration, body, Tree, no_port, bracketed, no_string, semicolon, last_formal, no_header, by_name, word, an_element, no_links, chained, synonym, no_more}
use Rattle.click_text.specs.kept.ParserStates.{Place, top, inside, Use, as_element, as_class, as_definition, Target, of_head, of_names, Context, start, linked, Side, out, into, State, between, statement_wanted, first_read, name_wanted, name_read, listed_read, define, define_named, required, ending, body_opened, formal_wanted, formal_read, element_wanted, word_read, class_wanted, head_read, after, port_wanted, number_wanted, close_wanted, arrow_wanted, a_definition, a_synonym, a_requirement}
use Rattle.click_text.proofs.OfParser.Completions.{names_end, formals_end, Then, Between, After, Listed, Headed, Ends, Used, Classified, Grown, Stated, Named, Wanted, Ported, Completes}

abbrev somewhere : Span
somewhere = record { start = 0; end = 0 }

after_live : (k : Then) (bs : List Body) (ss : List Statement) (f : Element) (ls : List Link) → ((ts : List Token) × (t : Tree) × k bs (ss ++ chain f ls ∷ []) ts t) → (ts : List Token) × (t : Tree) × After k bs ss f ls ts t
after_live k bs ss f ls (ts, t, h) =
    (token.Semicolon somewhere ∷ ts, t, ([], _, ts, bs, no_links, semicolon, ([], ts, bs, no_more, rw (append-nil ls, append-nil (ss ++ chain f ls ∷ [])) h)))

listed_live : (k : Then) (bs : List Body) (ss : List Statement) (ns : List Span) (c : ClassReference) → ((ts : List Token) × (t : Tree) × k bs (ss ++ declaration ns c None ∷ []) ts t) → (ts : List Token) × (t : Tree) × Listed k bs ss ns c ts t
listed_live k bs ss ns c (ts, t, h) =
    (token.Semicolon somewhere ∷ ts, t, (None, _, ts, no_string, semicolon, ([], ts, bs, no_more, rw append-nil h)))

between_live : (k : Then) (bs : List Body) (ss : List Statement) → ((ts : List Token) × (t : Tree) × k bs ss ts t) → (ts : List Token) × (t : Tree) × Between k bs ss ts t
between_live k bs ss (ts, t, h) = (ts, t, ([], ts, bs, no_more, rw append-nil h))

headed_live : (k : List Body → Element → List Token → Tree → Type 0) (bs : List Body) (h : Head) → ((ts : List Token) × (t : Tree) × k bs (element h None) ts t) → (ts : List Token) × (t : Tree) × Headed k bs h ts t
headed_live k bs h (ts, t, g) = (ts, t, (None, ts, no_string, g))

mutual
  ends_live : (p : Place) (bs : List Body) (ss : List Statement) → (ts : List Token) × (t : Tree) × Ends p bs ss ts t
  ends_live top bs ss = ([], _, (refl, refl))
  ends_live (inside a fs u) bs ss =
      let g = used_live u (bs ++ body a a fs ss ∷ []) (length bs) in
      (token.Close a ∷ g.0, g.1, (a, g.0, refl, g.2))

  used_live : (u : Use) (bs : List Body) (n : ℕ) → (ts : List Token) × (t : Tree) × Used u bs n ts t
  used_live (as_element cx) bs n = headed_live (Grown cx) bs (head.Compound n) (grown_live cx bs _)
  used_live (as_class g) bs n = classified_live g bs (class.Body n)
  used_live (as_definition s p ss) bs n = between_live (Ends p) bs (ss ++ a_definition s n ∷ []) (ends_live p bs _)

  classified_live : (g : Target) (bs : List Body) (c : ClassReference) → (ts : List Token) × (t : Tree) × Classified g bs c ts t
  classified_live (of_head s cx) bs c = headed_live (Grown cx) bs (head.Declared s c) (grown_live cx bs _)
  classified_live (of_names ns p ss) bs c = listed_live (Ends p) bs ss ns c (ends_live p bs _)

  grown_live : (cx : Context) (bs : List Body) (e : Element) → (ts : List Token) × (t : Tree) × Grown cx bs e ts t
  grown_live (start p ss) bs e = after_live (Ends p) bs ss e [] (ends_live p bs _)
  grown_live (linked p ss f ls from to) bs e = after_live (Ends p) bs ss f (ls ++ link from to e ∷ []) (ends_live p bs _)

bare_live : (cx : Context) (bs : List Body) (h : Head) → (ts : List Token) × (t : Tree) × Headed (Grown cx) bs h ts t
bare_live cx bs h = headed_live (Grown cx) bs h (grown_live cx bs _)

wanted_live : (cx : Context) (bs : List Body) → (ts : List Token) × (t : Tree) × Wanted cx bs ts t
wanted_live cx bs =
    let g = grown_live cx bs (element (head.Word somewhere) None) in
    (token.Word somewhere ∷ g.0, g.1, (element (head.Word somewhere) None, g.0, bs, an_element word no_string, g.2))

ported_live : (p : Place) (bs : List Body) (ss : List Statement) (f : Element) (ls : List Link) (side : Side) (q : Option WrittenPort) → (ts : List Token) × (t : Tree) × Ported p bs ss f ls side q ts t
ported_live p bs ss f ls out q =
    let g = wanted_live (linked p ss f ls q None) bs in
    (token.Arrow somewhere ∷ g.0, g.1, (somewhere, g.0, g.0, None, refl, no_port, g.2))
ported_live p bs ss f ls (into from) q = wanted_live (linked p ss f ls from q) bs

-- statements may end if their place may
stated_live : (p : Place) (bs : List Body) (ss : List Statement) → (ts : List Token) × (t : Tree) × Between (Ends p) bs ss ts t
stated_live p bs ss = between_live (Ends p) bs ss (ends_live p bs ss)

named_live : (p : Place) (bs : List Body) (ss : List Statement) (ns : List Span) → (ts : List Token) × (t : Tree) × Named p bs ss ns ts t
named_live p bs ss ns =
    let g = classified_live (of_names ns p ss) bs (class.Named somewhere) in
    (token.DoubleColon somewhere ∷ token.Word somewhere ∷ g.0, g.1, ([], _, names_end, rw append-nil (class.Named somewhere, g.0, bs, by_name, g.2)))

first_live : (p : Place) (bs : List Body) (ss : List Statement) (s : Span) → (ts : List Token) × (t : Tree) × Stated p bs ss (token.Word s ∷ ts) t
first_live p bs ss s =
    let g = stated_live p bs (ss ++ chain (element (head.Word s) None) [] ∷ []) in
    (token.Semicolon somewhere ∷ g.0, g.1, (_, g.0, bs, chained (an_element word no_string) no_links semicolon, g.2))

define_live : (p : Place) (bs : List Body) (ss : List Statement) (s : Span) → (ts : List Token) × (t : Tree) × ((k : Span) → Stated p bs ss (token.Elementclass k ∷ token.Word s ∷ ts) t)
define_live p bs ss s =
    let g = stated_live p bs (ss ++ a_synonym s somewhere ∷ []) in
    (token.Word somewhere ∷ token.Semicolon somewhere ∷ g.0, g.1, λ k. (a_synonym s somewhere, g.0, bs, synonym semicolon, g.2))

pub live : (s : State) → (ts : List Token) × (t : Tree) × Completes s ts t
live (between bs p ss) = stated_live p bs ss
live (statement_wanted bs p ss) = let g = first_live p bs ss somewhere in (token.Word somewhere ∷ g.0, g.1, g.2)
live (first_read bs p ss s) = first_live p bs ss s
live (name_wanted bs p ss ns) =
    let g = named_live p bs ss (ns ++ somewhere ∷ []) in
    (token.Word somewhere ∷ g.0, g.1, (somewhere, g.0, refl, g.2))
live (name_read bs p ss ns) = named_live p bs ss ns
live (listed_read bs p ss ns c) = classified_live (of_names ns p ss) bs c
live (define bs p ss) = let g = define_live p bs ss somewhere in (token.Word somewhere ∷ g.0, g.1, g.2)
live (define_named bs p ss s) = define_live p bs ss s
live (required bs p ss) = let g = stated_live p bs (ss ++ a_requirement None ∷ []) in (g.0, g.1, (None, g.0, no_string, g.2))
live (ending bs p ss st) = let g = stated_live p bs (ss ++ st ∷ []) in (token.Semicolon somewhere ∷ g.0, g.1, (g.0, semicolon, g.2))
live (body_opened bs a u) = let g = stated_live (inside a [] u) bs [] in (g.0, g.1, ([], g.0, no_header, g.2))
live (formal_wanted bs a u fs) =
    let g = stated_live (inside a (fs ++ somewhere ∷ []) u) bs [] in
    (token.Formal somewhere ∷ token.Bar somewhere ∷ g.0, g.1, (somewhere ∷ [], g.0, last_formal, g.2))
live (formal_read bs a u fs) =
    let g = stated_live (inside a fs u) bs [] in
    (token.Bar somewhere ∷ g.0, g.1, ([], g.0, formals_end, rw append-nil g.2))
live (element_wanted bs cx) = wanted_live cx bs
live (word_read bs cx s) = let g = bare_live cx bs (head.Word s) in (g.0, g.1, (head.Word s, g.0, bs, word, g.2))
live (class_wanted bs g) =
    let h = classified_live g bs (class.Named somewhere) in
    (token.Word somewhere ∷ h.0, h.1, (class.Named somewhere, h.0, bs, by_name, h.2))
live (head_read bs cx h) = bare_live cx bs h
live (after bs p ss f ls) = after_live (Ends p) bs ss f ls (ends_live p bs _)
live (port_wanted bs p ss f ls side) = let g = ported_live p bs ss f ls side None in (g.0, g.1, (None, g.0, no_port, g.2))
live (number_wanted bs p ss f ls side a) =
    let g = ported_live p bs ss f ls side (Some (written_port 0 a a)) in
    (token.Number (Some 0) a ∷ token.CloseBracket a ∷ g.0, g.1, (Some (written_port 0 a a), g.0, bracketed, g.2))
live (close_wanted bs p ss f ls side a n) =
    let g = ported_live p bs ss f ls side (Some (written_port n a a)) in
    (token.CloseBracket a ∷ g.0, g.1, (a, g.0, refl, g.2))
live (arrow_wanted bs p ss f ls q) = ported_live p bs ss f ls out q
