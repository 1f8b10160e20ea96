-- The shortcuts in the index of a scope, and the indices of all scopes with their shortcuts.
use Rattle.std.proofs.Common.{◌≡◌, ◌⊎◌, inl, inr, ℕ, ◌+◌, ◌<◌, zero, suc, List, [], ◌∷◌, ◌++◌, length, get_or, take, cond, nat_eq, Option, Some, Contains, refl, sym, ap, ◌∙◌, subst, append_assoc, arith}
use Rattle.std.specs.Map.{lookup}
use Rattle.std.specs.List.{slice_get}
use Rattle.std.proofs.lemmas.Bool.{cases_order}
use Rattle.std.proofs.lemmas.List.{length-append}
use Rattle.std.proofs.lemmas.Option.{slice_get_within}
use Rattle.std.proofs.lemmas.List.Elements.{Contains-append_left, Contains-append_right}
use Rattle.click_scopes.specs.declared.written_connections.Owner.TheVariants as owner
use Rattle.click_scopes.specs.declared.scopes.Scope.{Scope as ScopeKept}
use Rattle.click_expand.specs.declared.connections.connection_index.ScopePort.{ScopePort}
use Rattle.click_expand.specs.declared.connections.connection_index.PortEnds.{PortEnds}
use Rattle.click_expand.specs.declared.connections.connection_index.PortEnds.TheVariants.{Several}
use Rattle.click_expand.specs.declared.connections.connection_index.ConnectionIndex.{ConnectionIndex}
use Rattle.click_expand.specs.declared.connections.passthrough.Shortcut.{Shortcut}
use Rattle.click_expand.specs.declared.connections.passthrough.ScopeShortcuts.{ScopeShortcuts}
use Rattle.click_expand.specs.kept.Wiring.{scope_port, same_port, ends_in, IsIndex, AreIndices}
use Rattle.click_expand.specs.kept.Passthrough.{index_ends, ends_at, LeadsThrough, AreStoodFor, IsShortened, AreShortened, AreEndsOf, AreFound, HasShortcuts, AreAlike}
use Rattle.click_expand.proofs.OfConnections.Chains.{some_same}
use Rattle.click_expand.proofs.OfConnections.ConnectionIndex.{indices-more}
use Rattle.click_scopes.proofs.OfLists.StatementTables.{slice_get-last, slice_get-front}
use Rattle.click_expand.proofs.OfConnections.PortStandIns.{changed-at, changed-here}

contains-cons : {X : Type 0} (x : X) (xs : List X) (y : X) → Contains (x ∷ xs) y → (x ≡ y) ⊎ Contains xs y
contains-cons x xs y (zero, l, e) = inl e
contains-cons x xs y (suc k, l, e) = inr (k, omega (arith, l), e)

module _ (old : List (ScopePort × PortEnds)) (all : List Shortcut) where
  -- a port has its old ends, or the outputs of a shortcut from it
  abbrev IsOldOrShort : List (ScopePort × PortEnds) → ScopePort → Type 0
  IsOldOrShort new a = (ends_in new a ≡ ends_in old a) ⊎ ((k : Shortcut) × Contains all k × (a ≡ k.from) × (ends_in new a ≡ k.outputs.items))

  -- a port with a shortcut has the outputs of one
  abbrev IsPut : List (ScopePort × PortEnds) → Shortcut → Type 0
  IsPut new k = (j : Shortcut) × Contains all j × (k.from ≡ j.from) × (ends_in new k.from ≡ j.outputs.items)

  -- All shortcuts except those that are left are in the index.
  pub record Puts (left : List Shortcut) (new : List (ScopePort × PortEnds)) : Type 0 where
    pub each : (a : ScopePort) → IsOldOrShort new a
    pub gone : List Shortcut
    pub are : all ≡ left ++ gone
    pub done : (k : Shortcut) → Contains gone k → IsPut new k

  module _ (left rest : List Shortcut) (k : Shortcut) (mid new : List (ScopePort × PortEnds)) (is : left ≡ rest ++ k ∷ [])
      (changed : (q : ScopePort) → lookup (same_port q) new ≡ cond (same_port k.from q) (Some (Several k.outputs)) (lookup (same_port q) mid)) (h : Puts left mid) where
    among : Contains all k
    among = subst (λ xs. Contains xs k) (sym (h.are ∙ ap (λ xs. xs ++ h.gone) is)) (Contains-append_left (rest ++ k ∷ []) h.gone k (Contains-append_right rest (k ∷ []) k (0, omega arith, refl)))

    each-more : (a : ScopePort) → IsOldOrShort new a
    each-more a =
        elim (changed-at mid new k.from (Several k.outputs) changed a) [
          | inl c ↦ inr (k, among, c.0, c.1)
          | inr c ↦ elim (h.each a) [ inl e ↦ inl (c ∙ e) | inr o ↦ inr (o.0, o.1, o.2, c ∙ o.3) ]
        ]

    done-more : (j : Shortcut) → Contains (k ∷ h.gone) j → IsPut new j
    done-more j m =
        elim (changed-at mid new k.from (Several k.outputs) changed j.from) [
          | inl c ↦ (k, among, c.0, c.1)
          | inr c ↦ elim (contains-cons k h.gone j m) [
            | inl o ↦
                (let e : j.from ≡ k.from = ap (λ (x : Shortcut). x.from) (sym o) in (
                  k,
                  among,
                  e,
                  ap (ends_in new) e ∙ changed-here mid new k.from (Several k.outputs) changed,
                ))
            | inr o ↦ (let r = h.done j o in (r.0, r.1, r.2, c ∙ r.3))
          ]
        ]

    pub puts-next : Puts rest new
    puts-next = record { each = each-more; gone = k ∷ h.gone; are = h.are ∙ ap (λ xs. xs ++ h.gone) is ∙ append_assoc rest (k ∷ []) h.gone; done = done-more }

pub puts-all : (old new : ConnectionIndex) (found : ScopeShortcuts) (left : List Shortcut) (entries : List (ScopePort × PortEnds)) → Puts old.ends.entries found.shortcuts.items left entries → left ≡ [] → new.ends.entries ≡ entries → new.alike ≡ found.alike →
    HasShortcuts old found new
puts-all old new found left entries h none is alike =
    let r : Puts old.ends.entries found.shortcuts.items left new.ends.entries = subst (Puts old.ends.entries found.shortcuts.items left) (sym is) h in
    record {
      each = r.each;
      all = λ k m. r.done k (subst (λ xs. Contains xs k) (r.are ∙ ap (λ xs. xs ++ r.gone) none) m);
      alike = alike;
    }

module _ (ends : ℕ → ScopePort → List ScopePort) (body : ℕ → ℕ → Option ℕ) (short : ℕ → ScopePort → List ScopePort) where
  module _ (s : ℕ) (old new : ConnectionIndex) (found : ScopeShortcuts) (h : HasShortcuts old found new) (f : AreFound ends body s (ends_in old.ends.entries) found) (is : (a : ScopePort) → short s a ≡ ends_in new.ends.entries a) where
    -- if a port has a shortcut, each input with the same ends leads to the outputs of the shortcut
    leads : (a : ScopePort) (n : ℕ) (j : Shortcut) → Contains found.shortcuts.items j → ends_in old.ends.entries (scope_port owner.Input n) ≡ ends_in old.ends.entries j.from → ends_in new.ends.entries a ≡ j.outputs.items → LeadsThrough ends body s n (short s a)
    leads a n j m e put = subst (LeadsThrough ends body s n) (sym (is a ∙ put)) ((f.shortcuts j m).1 n e)

    short-is : AreEndsOf ends body short s (ends_in old.ends.entries) → IsShortened ends body short s
    short-is stood a =
        elim (h.each a) [
          | inl e ↦ inl (subst (AreStoodFor ends body short s (ends s a)) (sym (is a ∙ e)) (stood a))
          | inr r ↦
              (let n = r.0.from.number in
              let at : r.0.from ≡ scope_port owner.Input n = ap (λ o. scope_port o n) (f.shortcuts r.0 r.1).0 in
              inr (n, r.2 ∙ at, leads a n r.0 r.1 (ap (ends_in old.ends.entries) (sym at)) r.3))
        ]

    short-alike : AreAlike ends body short s new
    short-alike n k l =
        let like = f.alike n k (ap (λ m. lookup (nat_eq n) m.entries) (sym h.alike) ∙ l) in
        let r = h.all like.shortcut like.there in
        leads (scope_port owner.Input k) n r.0 r.1 (like.ends ∙ ap (ends_in old.ends.entries) (sym like.is ∙ r.2)) (ap (ends_in new.ends.entries) (sym like.is) ∙ r.3)

  pub short-both : (s : ℕ) (old new : ConnectionIndex) (found : ScopeShortcuts) → HasShortcuts old found new → AreFound ends body s (ends_in old.ends.entries) found → AreEndsOf ends body short s (ends_in old.ends.entries) →
      ((a : ScopePort) → short s a ≡ ends_in new.ends.entries a) → IsShortened ends body short s × AreAlike ends body short s new
  short-both s old new found h f stood is = (short-is s old new found h f is stood, short-alike s old new found h f is)

  module _ (done : List ConnectionIndex) (x : ConnectionIndex) (h : AreShortened ends body short done) (is : (a : ScopePort) → short (length done) a ≡ ends_in x.ends.entries a) (new : IsShortened ends body short (length done) × AreAlike ends body short (length done) x) where
    pub shortened-push : AreShortened ends body short (done ++ x ∷ [])
    shortened-push = record {
      is = λ s a l. elim (cases_order s (length done)) [
        | inl e ↦ subst (λ t. short t a ≡ ends_at (done ++ x ∷ []) t a) (sym e) (is a ∙ sym (ap (λ o. index_ends o a) (slice_get-last done x)))
        | inr (inl m) ↦ h.is s a m ∙ sym (ap (λ o. index_ends o a) (slice_get-front done (x ∷ []) s m))
        | inr (inr m) ↦ absurd (omega (arith, l, m, length-append done (x ∷ [])))
      ];
      each = λ s l. elim (cases_order s (length done)) [
        | inl e ↦ subst (IsShortened ends body short) (sym e) new.0
        | inr (inl m) ↦ h.each s m
        | inr (inr m) ↦ absurd (omega (arith, l, m, length-append done (x ∷ [])))
      ];
      alike = λ s y at. elim (cases_order s (length done)) [
        | inl e ↦
            (let same_index : x ≡ y = some_same (sym (slice_get-last done x) ∙ ap (slice_get (done ++ x ∷ [])) (sym e) ∙ at) in
            subst (λ t. AreAlike ends body short t y) (sym e) (subst (AreAlike ends body short (length done)) same_index new.1))
        | inr (inl m) ↦ h.alike s y (sym (slice_get-front done (x ∷ []) s m) ∙ at)
        | inr (inr m) ↦ absurd (let l = slice_get_within (done ++ x ∷ []) s y at in omega (arith, l, m, length-append done (x ∷ [])))
      ];
    }

-- `ends` has the ends of the indices, for the scopes that have one
abbrev pub AreEndsBelow : List ConnectionIndex → (ℕ → ScopePort → List ScopePort) → Type 0
AreEndsBelow xs ends = (s : ℕ) (a : ScopePort) → s < length xs → ends s a ≡ ends_at xs s a

-- The indices of scopes with their shortcuts. What holds of these does not depend on the further
-- scopes.
pub record AreAllShortened (body : ℕ → ℕ → Option ℕ) (scopes : List ScopeKept) (xs : List ConnectionIndex) : Type 0 where
  pub whole : List ConnectionIndex
  pub are : AreIndices scopes whole
  pub as_many : length whole ≡ length xs
  pub shortened : (ends short : ℕ → ScopePort → List ScopePort) → AreEndsBelow whole ends → AreEndsBelow xs short → AreShortened ends body short xs

below-front : (xs : List ConnectionIndex) (x : ConnectionIndex) (ends : ℕ → ScopePort → List ScopePort) → AreEndsBelow (xs ++ x ∷ []) ends → AreEndsBelow xs ends
below-front xs x ends h s a l = h s a (omega (arith, l, length-append xs (x ∷ []))) ∙ ap (λ o. index_ends o a) (slice_get-front xs (x ∷ []) s l)

below-last : (xs : List ConnectionIndex) (x : ConnectionIndex) (ends : ℕ → ScopePort → List ScopePort) → AreEndsBelow (xs ++ x ∷ []) ends → (a : ScopePort) → ends (length xs) a ≡ ends_in x.ends.entries a
below-last xs x ends h a = h (length xs) a (omega (arith, length-append xs (x ∷ []))) ∙ ap (λ o. index_ends o a) (slice_get-last xs x)

module _ (body : ℕ → ℕ → Option ℕ) (scopes : List ScopeKept) (i : ℕ) (xs new : List ConnectionIndex) (k d : ScopeKept) (index x : ConnectionIndex) (l : i < length scopes) (item : k ≡ get_or scopes i d)
    (h : AreAllShortened body (take i scopes) xs) (many : i ≡ length xs) (is_index : IsIndex k.connections index.ends.entries) (e : new ≡ xs ++ x ∷ []) where
  pub all-shortened-next : ((ends short : ℕ → ScopePort → List ScopePort) → AreShortened ends body short xs → ((a : ScopePort) → ends i a ≡ ends_in index.ends.entries a) →
      ((a : ScopePort) → short i a ≡ ends_in x.ends.entries a) → IsShortened ends body short i × AreAlike ends body short i x) → AreAllShortened body (take (i + 1) scopes) new
  all-shortened-next short_one = subst (AreAllShortened body (take (i + 1) scopes)) (sym e) (record {
    whole = h.whole ++ index ∷ [];
    are = indices-more scopes i h.whole (h.whole ++ index ∷ []) k d index l item h.are is_index refl;
    as_many = length-append h.whole (index ∷ []) ∙ ap (λ n. n + 1) h.as_many ∙ sym (length-append xs (x ∷ []));
    shortened = λ ends short old_ends new_ends. (
        let before = h.shortened ends short (below-front h.whole index ends old_ends) (below-front xs x short new_ends) in
        let at_ends : (a : ScopePort) → ends i a ≡ ends_in index.ends.entries a = λ a. ap (λ n. ends n a) (many ∙ sym h.as_many) ∙ below-last h.whole index ends old_ends a in
        let at_short : (a : ScopePort) → short i a ≡ ends_in x.ends.entries a = λ a. ap (λ n. short n a) many ∙ below-last xs x short new_ends a in
        shortened-push ends body short xs x before (below-last xs x short new_ends)
        (subst (λ n. IsShortened ends body short n × AreAlike ends body short n x) many (short_one ends short before at_ends at_short)));
  })
