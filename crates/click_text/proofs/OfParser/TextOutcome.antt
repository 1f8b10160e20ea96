-- Every text spells a configuration or has a first fault.
use Rattle.std.proofs.Common.{◌⊎◌, inl, inr, ◌≡◌, ℕ, List, [], ◌∷◌, length, refl}
use Rattle.click_text.specs.declared.syntax.Token.{Token}
use Rattle.click_text.specs.declared.syntax.Ending.{Ending}
use Rattle.click_text.specs.declared.syntax.Ending.TheVariants as ending
use Rattle.click_text.specs.declared.syntax.TextFault.{TextFault}
use Rattle.click_text.specs.declared.syntax.Config.{Config}
use Rattle.click_text.specs.Pieces.{Reads}
use Rattle.click_text.specs.kept.ParserStates.{Outcome, Accepted, Refused, Deep, outcome}
use Rattle.click_text.specs.Spelling.{Spells, IsTextFault}
use Rattle.click_text.proofs.OfParser.GrammarEquality.{initial}
use Rattle.click_text.proofs.OfParser.RunOutcomes.{accepted_text, accepted_stuck, refused_token, refused_end, deep_token, deep_none}
use Rattle.click_text.proofs.OfPieces.PieceExistence.{reads}

abbrev Either : List ℕ → Type 0
Either text = ((c : Config) × Spells text c) ⊎ ((f : TextFault) × IsTextFault text f)

either : (text : List ℕ) (ts : List Token) (e : Ending) → Reads 0 text ts e → (o : Outcome) → outcome 0 initial ts ≡ o → Either text
either text ts ending.Whole r (Accepted t) q =
    let a = accepted_text ts t q in
    inl (record { text = text; statements = t.statements; bodies = t.bodies }, record { tokens = ts; pieces = r; nests = a.1; tree = a.0; copy = refl })
either text ts (ending.Stuck f) r (Accepted t) q = inr (f, record { tokens = ts; ending = ending.Stuck f; pieces = r; first = accepted_stuck (length text) ts t f q })
either text ts e r (Refused []) q = inr (_, record { tokens = ts; ending = e; pieces = r; first = refused_end (length text) ts e q })
either text ts e r (Refused (tok ∷ more)) q = inr (_, record { tokens = ts; ending = e; pieces = r; first = refused_token (length text) ts more tok e q })
either text ts e r (Deep []) q = absurd (deep_none ts q)
either text ts e r (Deep (tok ∷ more)) q = inr (_, record { tokens = ts; ending = e; pieces = r; first = deep_token (length text) ts more tok e q })

-- every text spells a configuration or has a first fault
pub spelled_or_faulty : (text : List ℕ) → ((c : Config) × Spells text c) ⊎ ((f : TextFault) × IsTextFault text f)
spelled_or_faulty text =
    let r = reads text in
    either text r.0 r.1 r.2 (outcome 0 initial r.0) refl
