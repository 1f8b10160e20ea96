-- A text spells at most one configuration, has at most one first fault, and never both.
use Rattle.std.proofs.Common.{◌≡◌, ℕ, List, length, Result, Ok, Err, IfOk, IfErr, inl, inr, refl, sym, ◌∙◌, ap}
use Rattle.click_text.specs.declared.syntax.Token.{Token}
use Rattle.click_text.specs.declared.syntax.Statement.{Statement}
use Rattle.click_text.specs.declared.syntax.Body.{Body}
use Rattle.click_text.specs.declared.syntax.Ending.{Ending}
use Rattle.click_text.specs.declared.syntax.TextFault.{TextFault}
use Rattle.click_text.specs.declared.syntax.Config.{Config}
use Rattle.click_text.specs.Grammar.{Tree, IsText, tree_of}
use Rattle.click_text.specs.Pieces.{Reads}
use Rattle.click_text.specs.Faults.{IsFaultAmong, IsMemoryOr}
use Rattle.click_text.specs.Spelling.{Spells, IsGiven, IsTextFault}
use Rattle.click_text.proofs.OfPieces.OnePieceList.{reads_once}
use Rattle.click_text.proofs.OfParser.RunOutcomes.{one_tree, no_fault}
use Rattle.click_text.proofs.OfParser.OneFault.{one_fault}

abbrev parts : List ℕ → List Statement → List Body → Config
parts t s b = record { text = t; statements = s; bodies = b }

same_parts : (t t' : List ℕ) (s s' : List Statement) (b b' : List Body) → t ≡ t' → s ≡ s' → b ≡ b' → parts t s b ≡ parts t' s' b'
same_parts t t' s s' b b' p q r = rw (p, q, r) refl

same_config : (c d : Config) → c.text ≡ d.text → tree_of c ≡ tree_of d → c ≡ d
same_config c d e q = same_parts c.text d.text c.statements d.statements c.bodies d.bodies e (ap (λ (t : Tree). t.statements) q) (ap (λ (t : Tree). t.bodies) q)

pub given : (r : Result Config TextFault) (n : ℕ) (text : List ℕ) (tokens : List Token) (e : Ending) (config : Config) → Reads 0 text tokens e → IfOk r (λ c. c.text ≡ text) → IfOk r (λ c. IsText tokens (tree_of c)) → IfErr r (λ f. IsMemoryOr f (IsFaultAmong n tokens e f)) → Spells text config → IsGiven r config
given (Ok d) n text tokens e config r t k f s =
    let i = reads_once r s.pieces in
    same_config d config (t ∙ sym s.copy) (one_tree tokens (tree_of d) (tree_of config) k (rw (i.0) s.tree))
given (Err f) n text tokens e config r t k (inl m) s = m
given (Err f) n text tokens e config r t k (inr m) s =
    let i = reads_once r s.pieces in
    absurd (no_fault n s.tokens f (tree_of config) (rw (i.0, i.1) at m) s.tree s.nests)

-- a text spells at most one configuration
pub spells_once : (text : List ℕ) (c d : Config) → Spells text c → Spells text d → c ≡ d
spells_once text c d s t =
    let i = reads_once s.pieces t.pieces in
    same_config c d (s.copy ∙ sym t.copy) (one_tree t.tokens (tree_of c) (tree_of d) (rw (i.0) at s.tree) t.tree)

-- a text has at most one first fault
pub faults_once : (text : List ℕ) (f g : TextFault) → IsTextFault text f → IsTextFault text g → f ≡ g
faults_once text f g a b =
    let i = reads_once a.pieces b.pieces in
    one_fault (length text) b.tokens b.ending f g (rw (i.0, i.1) at a.first) b.first

-- a text that spells a configuration has no first fault
pub spelled_has_no_fault : (text : List ℕ) (c : Config) (f : TextFault) → Spells text c → IsTextFault text f → ⊥
spelled_has_no_fault text c f s a =
    let i = reads_once a.pieces s.pieces in
    no_fault (length text) s.tokens f (tree_of c) (rw (i.0, i.1) at a.first) s.tree s.nests
