-- The shortcuts that are found in a scope, and the inputs that are like those found before.
use Rattle.std.proofs.Common.{◌≡◌, ◌⊎◌, inl, inr, ℕ, List, [], ◌∷◌, ◌++◌, Bool, true, false, nat_eq, cond, Option, Some, None, Vec, Global, Contains, refl, sym, ap, ◌∙◌, subst, arith}
use Rattle.std.specs.Map.{lookup}
use Rattle.std.proofs.lemmas.Bool.{eqb-true}
use Rattle.std.proofs.lemmas.List.Elements.{Contains-push, Contains-push_cases, Contains-append_left}
use Rattle.click_scopes.specs.declared.written_connections.Owner.TheVariants as owner
use Rattle.click_expand.specs.declared.connections.connection_index.ScopePort.{ScopePort}
use Rattle.click_expand.specs.declared.connections.passthrough.Shortcut.{Shortcut}
use Rattle.click_expand.specs.declared.connections.passthrough.ScopeShortcuts.{ScopeShortcuts}
use Rattle.click_expand.specs.kept.Wiring.{scope_port, same_port}
use Rattle.click_expand.specs.kept.Passthrough.{LeadAlike, only, IsLike, AreFound}
use Rattle.click_expand.proofs.OfConnections.ConnectionIndex.{port-exact}

some_same : {X : Type 0} {x y : X} → Some x ≡ Some y → x ≡ y
some_same h = cc h

pub only-is : (es : List ScopePort) (p : ScopePort) → Some p ≡ only es → es ≡ p ∷ []
only-is [] p h = absurd (cc h)
only-is (q ∷ []) p h = ap (λ x. x ∷ []) (sym (some_same h))
only-is (q ∷ r ∷ ps) p h = absurd (cc h)

-- the value of a map at a key after an insertion
written : {X : Type 0} (t : Bool) (new old : Option X) (x y : X) → new ≡ cond t (Some x) old → new ≡ Some y → ((t ≡ true) × (y ≡ x)) ⊎ (old ≡ Some y)
written true new old x y e h = inl (refl, some_same (sym h ∙ e))
written false new old x y e h = inr (sym e ∙ h)

from-input : (from : ScopePort) → from.owner ≡ owner.Input → from ≡ scope_port owner.Input from.number
from-input from own = ap (λ o. scope_port o from.number) own

abbrev pub shortcut : ScopePort → Vec ScopePort Global → Shortcut
shortcut from outs = record { from = from; outputs = outs }

module _ (ends : ℕ → ScopePort → List ScopePort) (body : ℕ → ℕ → Option ℕ) (s : ℕ) (here : ScopePort → List ScopePort) where
  like-more : (ks : List Shortcut) (new : Shortcut) (from : ScopePort) (k : ℕ) → IsLike here ks from k → IsLike here (ks ++ new ∷ []) from k
  like-more ks new from k h = record { ends = h.ends; shortcut = h.shortcut; there = Contains-append_left ks (new ∷ []) h.shortcut h.there; is = h.is }

  pub found-none : (found : ScopeShortcuts) → found.shortcuts.items ≡ [] → found.firsts.entries ≡ [] → found.alike.entries ≡ [] → AreFound ends body s here found
  found-none found none first alike = record {
    shortcuts = λ k h. absurd (let m : Contains [] k = subst (λ x. Contains x k) none h in omega (arith, m.1));
    firsts = λ p k h. absurd (let e : None ≡ Some k = ap (lookup (same_port p)) (sym first) ∙ h in cc e);
    alike = λ n k h. absurd (let e : None ≡ Some k = ap (lookup (nat_eq n)) (sym alike) ∙ h in cc e);
  }

  module _ (old new : ScopeShortcuts) (from : ScopePort) (are : AreFound ends body s here old) (own : from.owner ≡ owner.Input) where
    module _ (outs : Vec ScopePort Global) (leads : LeadAlike ends body s here from outs.items) (pushed : new.shortcuts.items ≡ old.shortcuts.items ++ shortcut from outs ∷ []) where
      shortcuts : (k : Shortcut) → Contains new.shortcuts.items k → (k.from.owner ≡ owner.Input) × LeadAlike ends body s here k.from k.outputs.items
      shortcuts k h =
          elim (Contains-push_cases old.shortcuts.items (shortcut from outs) k (subst (λ x. Contains x k) pushed h)) [
            | inl o ↦ are.shortcuts k o
            | inr e ↦ subst (λ (x : Shortcut). (x.from.owner ≡ owner.Input) × LeadAlike ends body s here x.from x.outputs.items) e (own, leads)
          ]

      kept : (p : ScopePort) (k : ℕ) → IsLike here old.shortcuts.items p k → IsLike here new.shortcuts.items p k
      kept p k h = subst (λ x. IsLike here x p k) (sym pushed) (like-more old.shortcuts.items (shortcut from outs) p k h)

      -- the new shortcut is from a port with the same ends
      here-too : (p : ScopePort) → here p ≡ here from → IsLike here new.shortcuts.items p from.number
      here-too p e = record {
        ends = e ∙ ap here (from-input from own);
        shortcut = shortcut from outs;
        there = subst (λ x. Contains x (shortcut from outs)) (sym pushed) (Contains-push old.shortcuts.items (shortcut from outs));
        is = from-input from own;
      }

      found-with : ((p : ScopePort) (k : ℕ) → lookup (same_port p) new.firsts.entries ≡ Some k → ((here from ≡ p ∷ []) × (k ≡ from.number)) ⊎ (lookup (same_port p) old.firsts.entries ≡ Some k)) →
          new.alike ≡ old.alike → AreFound ends body s here new
      found-with firsts alike = record {
        shortcuts = shortcuts;
        firsts = λ p k h at e. elim (firsts p k h) [
          | inl a ↦ subst (IsLike here new.shortcuts.items at) (sym a.1) (here-too at (e ∙ sym a.0))
          | inr o ↦ kept at k (are.firsts p k o at e)
        ];
        alike = λ n k h. kept (scope_port owner.Input n) k (are.alike n k (ap (λ a. lookup (nat_eq n) a.entries) (sym alike) ∙ h));
      }

      -- a shortcut from a port with one end is added
      pub found-first : (end : ScopePort) → Some end ≡ only (here from) →
          ((q : ScopePort) → lookup (same_port q) new.firsts.entries ≡ cond (same_port end q) (Some from.number) (lookup (same_port q) old.firsts.entries)) → new.alike ≡ old.alike → AreFound ends body s here new
      found-first end one firsts alike =
          found-with (λ p k h. elim (written (same_port end p) (lookup (same_port p) new.firsts.entries) (lookup (same_port p) old.firsts.entries) from.number k (firsts p) h) [
            | inl a ↦ inl (only-is (here from) end one ∙ ap (λ x. x ∷ []) (port-exact end p a.0), a.1)
            | inr o ↦ inr o
          ]) alike

      -- a shortcut from any other port is added
      pub found-other : new.firsts ≡ old.firsts → new.alike ≡ old.alike → AreFound ends body s here new
      found-other firsts alike = found-with (λ p k h. inr (ap (λ m. lookup (same_port p) m.entries) (sym firsts) ∙ h)) alike

    -- an input is like one that was found before
    pub found-like : (number : ℕ) → IsLike here old.shortcuts.items from number → new.shortcuts ≡ old.shortcuts → new.firsts ≡ old.firsts →
        ((n : ℕ) → lookup (nat_eq n) new.alike.entries ≡ cond (nat_eq from.number n) (Some number) (lookup (nat_eq n) old.alike.entries)) → AreFound ends body s here new
    found-like number like shortcuts firsts alike = record {
      shortcuts = λ k h. are.shortcuts k (subst (λ (v : Vec Shortcut Global). Contains v.items k) shortcuts h);
      firsts = λ p k h at e. likes at k (are.firsts p k (ap (λ m. lookup (same_port p) m.entries) (sym firsts) ∙ h) at e);
      alike = λ n k h. elim (written (nat_eq from.number n) (lookup (nat_eq n) new.alike.entries) (lookup (nat_eq n) old.alike.entries) number k (alike n) h) [
        | inl a ↦
            likes (scope_port owner.Input n) k
            (subst (IsLike here old.shortcuts.items (scope_port owner.Input n)) (sym a.1)
            (subst (λ p. IsLike here old.shortcuts.items p number) (from-input from own ∙ ap (scope_port owner.Input) (eqb-true from.number n a.0)) like))
        | inr o ↦ likes (scope_port owner.Input n) k (are.alike n k o)
      ];
    }
      where
        likes : (p : ScopePort) (k : ℕ) → IsLike here old.shortcuts.items p k → IsLike here new.shortcuts.items p k
        likes p k h = subst (λ (v : Vec Shortcut Global). IsLike here v.items p k) (sym shortcuts) h

-- an input that was found at the only end of a port
pub like-first : (ends : ℕ → ScopePort → List ScopePort) (body : ℕ → ℕ → Option ℕ) (s : ℕ) (here : ScopePort → List ScopePort) (found : ScopeShortcuts) (from end : ScopePort) (k : ℕ) → AreFound ends body s here found →
    Some end ≡ only (here from) → lookup (same_port end) found.firsts.entries ≡ Some k → IsLike here found.shortcuts.items from k
like-first ends body s here found from end k are one at = are.firsts end k at from (only-is (here from) end one)
