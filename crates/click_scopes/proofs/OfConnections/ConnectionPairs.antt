-- The connections of a scope, one after another.
use Rattle.std.proofs.Common.{◌≡◌, ℕ, ◌+◌, ◌<◌, ◌≤◌, List, [], ◌∷◌, ◌++◌, map, length, get_or, drop, Option, Some, None, refl, sym, ap, ◌∙◌, append_assoc, subst}
use Rattle.std.specs.List.{cons_option}
use Rattle.std.proofs.lemmas.List.{append-nil, drop_more, drop_all}
use Rattle.click_text.specs.declared.syntax.Span.{Span}
use Rattle.click_text.specs.declared.syntax.Head.TheVariants as head
use Rattle.click_text.specs.declared.syntax.Link.{Link}
use Rattle.click_text.specs.declared.syntax.Declaration.{Declaration}
use Rattle.click_text.specs.declared.syntax.Statement.{Statement}
use Rattle.click_text.specs.declared.syntax.Statement.TheVariants as statement
use Rattle.click_text.specs.declared.syntax.Config.{Config}
use Rattle.click_text.specs.Grammar.{element}
use Rattle.click_scopes.specs.Scopes.{statement_elements}
use Rattle.click_scopes.specs.Elements.{Placed, place, placed, ScopeElement}
use Rattle.click_scopes.specs.Faults.{ScopeNames, End, written_end, WrittenConnection, port_number, number_behind, number_after_all, written_connections_behind, written_connections_from}
use Rattle.click_scopes.specs.kept.Scoped.{ports_in}
use Rattle.click_scopes.specs.kept.WrittenConnections.{IsEndKept, AreWrittenConnections}
use Rattle.click_scopes.specs.kept.ConnectionEnds.{AreEndsKept, written_connection_by}
use Rattle.click_scopes.specs.declared.written_scopes.WrittenElement.{WrittenElement}
use Rattle.click_scopes.specs.declared.written_connections.End.{End as EndKept}
use Rattle.click_scopes.specs.declared.written_connections.WrittenConnection.{WrittenConnection as ConnectionKept}

-- the connections between ends; each end has the ports that connect it to the one before
abbrev pub pairs : Option EndKept → List EndKept → List (Option (ℕ × ℕ)) → List ConnectionKept
pairs a [] os = []
pairs a (e ∷ es) [] = []
pairs a (e ∷ es) (o ∷ os) = cons_option (written_connection_by a o e) (pairs (Some e) es os)

abbrev pub ports_at : List WrittenElement → List (Option (ℕ × ℕ))
ports_at ws = map (λ (w : WrittenElement). w.ports) ws

pairs-none : (a : Option EndKept) (es : List EndKept) → pairs a es [] ≡ []
pairs-none a [] = refl
pairs-none a (e ∷ es) = refl

cons-last : {X : Type 0} (xs : List X) (o : Option X) (ys : List X) → xs ++ cons_option o ys ≡ (xs ++ cons_option o []) ++ ys
cons-last xs None ys = ap (λ zs. zs ++ ys) (sym (append-nil xs))
cons-last xs (Some x) ys = sym (append_assoc xs (x ∷ []) ys)

module _ (ends : List EndKept) (ws : List WrittenElement) where
  -- js are the connections up to index i
  abbrev pub Paired : List ConnectionKept → Option EndKept → ℕ → Type 0
  Paired js a i = js ++ pairs a (drop i ends) (ports_at (drop i ws)) ≡ pairs None ends (ports_at ws)

  pub paired-next : (js new : List ConnectionKept) (a : Option EndKept) (i : ℕ) (de e : EndKept) (dw w : WrittenElement) (o : Option ConnectionKept) → i < length ends → i < length ws →
      e ≡ get_or ends i de → w ≡ get_or ws i dw → o ≡ written_connection_by a w.ports e → new ≡ js ++ cons_option o [] → Paired js a i → Paired new (Some e) (i + 1)
  paired-next js new a i de e dw w o l m p q k is h =
      let rest = pairs (Some e) (drop (i + 1) ends) (ports_at (drop (i + 1) ws)) in
      ap (λ xs. xs ++ rest) is ∙ sym (cons-last js o rest)
      ∙ ap (λ x. js ++ cons_option x rest) k
      ∙ ap (λ x. js ++ pairs a (x ∷ drop (i + 1) ends) (w.ports ∷ ports_at (drop (i + 1) ws))) p
      ∙ ap (λ (x : WrittenElement). js ++ pairs a (get_or ends i de ∷ drop (i + 1) ends) (ports_at (x ∷ drop (i + 1) ws))) q
      ∙ ap (λ x. js ++ pairs a x (ports_at (get_or ws i dw ∷ drop (i + 1) ws))) (sym (drop_more ends i de l))
      ∙ ap (λ x. js ++ pairs a (drop i ends) (ports_at x)) (sym (drop_more ws i dw m))
      ∙ h

  pub paired-all : (js : List ConnectionKept) (a : Option EndKept) (i : ℕ) → length ws ≤ i → Paired js a i → js ≡ pairs None ends (ports_at ws)
  paired-all js a i l h =
      sym (append-nil js) ∙ ap (λ xs. js ++ xs) (sym (pairs-none a (drop i ends))) ∙ ap (λ x. js ++ pairs a (drop i ends) (ports_at x)) (sym (drop_all i ws l)) ∙ h

-- the connection between two ends, if there is an end before and ports connect them
abbrev pub said_by : Option End → Option (ℕ × ℕ) → End → Option WrittenConnection
said_by None ports to = None
said_by (Some from) None to = None
said_by (Some from) (Some p) to = Some (record { from = from; out_port = p.0; to = to; in_port = p.1 })

said-none : (a : Option End) (e : End) (js : List WrittenConnection) → cons_option (said_by a None e) js ≡ js
said-none None e js = refl
said-none (Some b) e js = refl

abbrev pub IsBefore : List ScopeElement → Option EndKept → Option End → Type 0
IsBefore ls None None = Unit {0}
IsBefore ls None (Some e) = ⊥
IsBefore ls (Some k) None = ⊥
IsBefore ls (Some k) (Some e) = IsEndKept ls k e

module _ (c : Config) (names : ScopeNames) where
  -- the connections between written elements; each has the ports that connect it to the one before
  abbrev pub flat : Option End → ℕ → List Placed → List (Option (ℕ × ℕ)) → List WrittenConnection
  flat a n [] os = []
  flat a n (p ∷ ps) [] = []
  flat a n (p ∷ ps) (o ∷ os) = cons_option (said_by a o (written_end c names n p)) (flat (Some (written_end c names n p)) (number_behind c names n p) ps os)

  joined-more : (ls : List ScopeElement) (a : Option EndKept) (b : Option End) (o : Option (ℕ × ℕ)) (k : EndKept) (e : End) (ks : List ConnectionKept) (js : List WrittenConnection) → IsBefore ls a b → IsEndKept ls k e →
      AreWrittenConnections ls ks js → AreWrittenConnections ls (cons_option (written_connection_by a o k) ks) (cons_option (said_by b o e) js)
  joined-more ls None None o k e ks js h i j = j
  joined-more ls None (Some y) o k e ks js h i j = absurd h
  joined-more ls (Some x) None o k e ks js h i j = absurd h
  joined-more ls (Some x) (Some y) None k e ks js h i j = j
  joined-more ls (Some x) (Some y) (Some p) k e ks js h i j = (record { from = h; out_port = refl; to = i; in_port = refl }, j)

  pairs-flat : (ls : List ScopeElement) (a : Option EndKept) (b : Option End) (n : ℕ) (ks : List EndKept) (ps : List Placed) (os : List (Option (ℕ × ℕ))) → IsBefore ls a b → AreEndsKept ls c names n ks ps →
      AreWrittenConnections ls (pairs a ks os) (flat b n ps os)
  pairs-flat ls a b n [] [] os h e = tt
  pairs-flat ls a b n [] (p ∷ ps) os h e = absurd e
  pairs-flat ls a b n (k ∷ ks) [] os h e = absurd e
  pairs-flat ls a b n (k ∷ ks) (p ∷ ps) [] h e = tt
  pairs-flat ls a b n (k ∷ ks) (p ∷ ps) (o ∷ os) h e =
      joined-more ls a b o k (written_end c names n p) (pairs (Some k) ks os) (flat (Some (written_end c names n p)) (number_behind c names n p) ps os) h e.0
      (pairs-flat ls (Some k) (Some (written_end c names n p)) (number_behind c names n p) ks ps os e.0 e.1)

  flat-links : (visible : List Statement) (n : ℕ) (a : End) (ls : List Link) (qs : List Placed) (os : List (Option (ℕ × ℕ))) (rest : List WrittenConnection) →
      ((b : End) → flat (Some b) (number_after_all c names n (map (place visible) (map (λ (l : Link). l.element) ls))) qs os ≡ rest) →
      flat (Some a) n (map (place visible) (map (λ (l : Link). l.element) ls) ++ qs) (map (λ (l : Link). Some (port_number l.from, port_number l.to)) ls ++ os) ≡ written_connections_behind c names visible n a ls ++ rest
  unfolding written_connections_behind number_after_all
  flat-links visible n a [] qs os rest h = h a
  flat-links visible n a (l ∷ ls) qs os rest h =
      let b = written_end c names n (place visible l.element) in
      ap (λ x. record { from = a; out_port = port_number l.from; to = b; in_port = port_number l.to } ∷ x)
      (flat-links visible (number_behind c names n (place visible l.element)) b ls qs os rest h)

  flat-names : (visible : List Statement) (n : ℕ) (a : Option End) (d : Declaration) (ns : List Span) (qs : List Placed) (os : List (Option (ℕ × ℕ))) (rest : List WrittenConnection) →
      ((b : Option End) → flat b (number_after_all c names n (map (place visible) (map (λ m. element (head.Declared m d.class) d.text) ns))) qs os ≡ rest) →
      flat a n (map (place visible) (map (λ m. element (head.Declared m d.class) d.text) ns) ++ qs) (map (λ (m : Span). None) ns ++ os) ≡ rest
  unfolding number_after_all
  flat-names visible n a d [] qs os rest h = h a
  flat-names visible n a d (m ∷ ns) qs os rest h =
      let p = place visible (element (head.Declared m d.class) d.text) in
      said-none a (written_end c names n p) _ ∙ flat-names visible (number_behind c names n p) (Some (written_end c names n p)) d ns qs os rest h

  flat-all : (a : Option End) (visible : List Statement) (n : ℕ) (ss : List Statement) → flat a n (placed visible ss) (ports_in ss) ≡ written_connections_from c names visible n ss
  unfolding written_connections_from number_after_all
  flat-all a visible n [] = refl
  flat-all a visible n (statement.Chain k ∷ ss) =
      let p = place visible k.first in
      said-none a (written_end c names n p) _
      ∙ flat-links visible (number_behind c names n p) (written_end c names n p) k.links (placed (statement.Chain k ∷ visible) ss) (ports_in ss) _
      (λ b. flat-all (Some b) (statement.Chain k ∷ visible) (number_after_all c names n (map (place visible) (statement_elements (statement.Chain k)))) ss)
  flat-all a visible n (statement.Declaration d ∷ ss) =
      flat-names visible n a d d.names (placed (statement.Declaration d ∷ visible) ss) (ports_in ss) _
      (λ b. flat-all b (statement.Declaration d ∷ visible) (number_after_all c names n (map (place visible) (statement_elements (statement.Declaration d)))) ss)
  flat-all a visible n (statement.Definition m b ∷ ss) = flat-all a (statement.Definition m b ∷ visible) n ss
  flat-all a visible n (statement.Synonym m b ∷ ss) = flat-all a (statement.Synonym m b ∷ visible) n ss
  flat-all a visible n (statement.Requirement t ∷ ss) = flat-all a (statement.Requirement t ∷ visible) n ss

  pub paired-written_connections : (ls : List ScopeElement) (visible ss : List Statement) (ends : List EndKept) (ws : List WrittenElement) (js : List ConnectionKept) → AreEndsKept ls c names 0 ends (placed visible ss) →
      ports_at ws ≡ ports_in ss → js ≡ pairs None ends (ports_at ws) → AreWrittenConnections ls js (written_connections_from c names visible 0 ss)
  paired-written_connections ls visible ss ends ws js e p is =
      subst (λ x. AreWrittenConnections ls x (written_connections_from c names visible 0 ss)) (sym (is ∙ ap (pairs None ends) p))
      (subst (AreWrittenConnections ls (pairs None ends (ports_in ss))) (flat-all None visible 0 ss) (pairs-flat ls None None 0 ends (placed visible ss) (ports_in ss) tt e))
