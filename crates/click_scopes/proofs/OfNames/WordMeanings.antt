-- The meaning of a word, found by going back from one definition to the one before it.
use Rattle.std.proofs.Common.{◌≡◌, ℕ, ◌<◌, List, [], ◌∷◌, length, Bool, true, false, cond, Option, Some, None, refl, sym, ap, ◌∙◌, nat_lt, subst}
use Rattle.std.specs.Prelude.{MatchBool}
use Rattle.std.specs.List.{slice_get}
use Rattle.std.specs.Str.{bytes_eq}
use Rattle.std.proofs.lemmas.Option.{slice_get_within}
use Rattle.std.proofs.lemmas.Bool.{lt-ltb, ltb-true}
use Rattle.click_text.specs.declared.syntax.Statement.{Statement}
use Rattle.click_text.specs.declared.syntax.Statement.TheVariants as statement
use Rattle.click_text.specs.Spans.{bytes_at}
use Rattle.click_scopes.specs.Classes.{Meaning, compound, meaning, primitive_of, requires_gateway, gateway_or}
use Rattle.click_scopes.specs.kept.Tables.{meaning_by, entry_meaning, IsBelow, IsShown, IsRequired, Shows, entry_found, entry_from}
use Rattle.click_scopes.specs.declared.classes.ClassEntry.{ClassEntry}

abbrev place_of : Option (ℕ × ClassEntry) → ℕ → ℕ
place_of None d = d
place_of (Some x) d = x.0

abbrev entry_part : Option (ℕ × ClassEntry) → Option ClassEntry
entry_part None = None
entry_part (Some x) = Some x.1

some_same : {X : Type 0} {x y : X} → Some x ≡ Some y → x ≡ y
some_same h = cc h

pub found-entry : (class_table : List ClassEntry) (at : Option ℕ) (limit : ℕ) (i : ℕ) (e : ClassEntry) → Some (i, e) ≡ entry_from class_table at limit →
    (i < limit) × (at ≡ Some i) × (slice_get class_table i ≡ Some e)
found-entry class_table None limit i e h = absurd (cc h)
found-entry class_table (Some j) limit i e h = by_test (nat_lt j limit) refl (slice_get class_table j) refl h
  where
    by_test : (t : Bool) → nat_lt j limit ≡ t → (o : Option ClassEntry) → slice_get class_table j ≡ o → Some (i, e) ≡ cond t (entry_found j o) None →
        (i < limit) × (Some j ≡ Some i) × (slice_get class_table i ≡ Some e)
    by_test true t None q h = absurd (cc h)
    by_test true t (Some d) q h =
        let same : j ≡ i = ap (λ (x : Option (ℕ × ClassEntry)). place_of x j) (sym h) in
        let lt : j < limit = ltb-true j limit t in
        (subst (λ k. k < limit) same lt, ap Some same, ap (slice_get class_table) (sym same) ∙ q ∙ ap (λ (x : Option (ℕ × ClassEntry)). entry_part x) (sym h))
    by_test false t o q h = absurd (cc h)

module _ (text : List ℕ) where
  pub meaning-nil : (w : List ℕ) → meaning text [] w ≡ primitive_of w
  unfolding meaning
  meaning-nil w = refl

  pub meaning-chain : (k : _) (older : List Statement) (w : List ℕ) → meaning text (statement.Chain k ∷ older) w ≡ meaning text older w
  unfolding meaning
  meaning-chain k older w = refl

  pub meaning-declaration : (d : _) (older : List Statement) (w : List ℕ) → meaning text (statement.Declaration d ∷ older) w ≡ meaning text older w
  unfolding meaning
  meaning-declaration d older w = refl

  pub meaning-requirement : (t : _) (older : List Statement) (w : List ℕ) →
      meaning text (statement.Requirement t ∷ older) w ≡ cond (requires_gateway text t) (gateway_or w (meaning text older w)) (meaning text older w)
  unfolding meaning
  meaning-requirement t older w = refl

  pub meaning-definition : (n : _) (b : ℕ) (older : List Statement) (w : List ℕ) →
      meaning text (statement.Definition n b ∷ older) w ≡ cond (bytes_eq (bytes_at text n) w) (Some (compound b)) (meaning text older w)
  unfolding meaning
  meaning-definition n b older w = refl

  pub meaning-synonym : (n d : _) (older : List Statement) (w : List ℕ) →
      meaning text (statement.Synonym n d ∷ older) w ≡ cond (bytes_eq (bytes_at text n) w) (meaning text older (bytes_at text d)) (meaning text older w)
  unfolding meaning
  meaning-synonym n d older w = refl

  module _ (class_table : List ClassEntry) where
    -- if no definition is visible, a word means what it means before the text
    pub found-nothing : (vs : List Statement) (w : List ℕ) → Shows text class_table None vs → meaning text vs w ≡ primitive_of w
    found-nothing [] w h = meaning-nil w
    found-nothing (statement.Chain k ∷ vs) w h = meaning-chain k vs w ∙ found-nothing vs w h
    found-nothing (statement.Declaration d ∷ vs) w h = meaning-declaration d vs w ∙ found-nothing vs w h
    found-nothing (statement.Definition n b ∷ vs) w h = absurd (cc h.is)
    found-nothing (statement.Synonym n d ∷ vs) w h = absurd (cc h.is)
    found-nothing (statement.Requirement t ∷ vs) w h = by_test (λ k. found-nothing vs w k) (requires_gateway text t) refl h
      where
        by_test : (Shows text class_table None vs → meaning text vs w ≡ primitive_of w) → (b : Bool) → requires_gateway text t ≡ b →
            MatchBool b (IsRequired class_table None (λ u. Shows text class_table u vs)) (Shows text class_table None vs) → meaning text (statement.Requirement t ∷ vs) w ≡ primitive_of w
        by_test f true e k = absurd (cc k.is)
        by_test f false e k = meaning-requirement t vs w ∙ ap (λ b. cond b (gateway_or w (meaning text vs w)) (meaning text vs w)) e ∙ f k

    -- the definition at index i, and what is visible before it
    pub record Found (i : ℕ) (vs : List Statement) (w : List ℕ) : Type 0 where
      pub entry : ClassEntry
      pub there : slice_get class_table i ≡ Some entry
      pub before : List Statement
      pub shows : Shows text class_table entry.older before
      pub below : IsBelow entry.older i
      pub means : meaning text vs w ≡ entry_meaning text entry w (meaning text before w)

    found-shown : (i : ℕ) (n : _) (m : Option Meaning) (vs older : List Statement) (w : List ℕ) →
        IsShown text class_table (Some i) n m (λ t. Shows text class_table t older) →
        meaning text vs w ≡ cond (bytes_eq (bytes_at text n) w) m (meaning text older w) → Found i vs w
    found-shown i n m vs older w h e =
        let at : h.place ≡ i = cc h.is in
        record {
          entry = h.entry;
          there = ap (slice_get class_table) (sym at) ∙ h.there;
          before = older;
          shows = h.older;
          below = subst (IsBelow h.entry.older) at h.below;
          means = e
              ∙ ap (λ x. cond (bytes_eq (bytes_at text x) w) m (meaning text older w)) (sym h.same_name)
              ∙ ap (λ x. cond (bytes_eq (bytes_at text h.entry.name) w) x (meaning text older w)) (sym h.class)
              ∙ ap (λ b. cond b (gateway_or w (meaning text older w)) (cond (bytes_eq (bytes_at text h.entry.name) w) (meaning_by h.entry.class) (meaning text older w))) (sym h.named);
        }

    found-required : (i : ℕ) (vs older : List Statement) (w : List ℕ) → IsRequired class_table (Some i) (λ t. Shows text class_table t older) →
        meaning text vs w ≡ gateway_or w (meaning text older w) → Found i vs w
    found-required i vs older w h e =
        let at : h.place ≡ i = cc h.is in
        record {
          entry = h.entry;
          there = ap (slice_get class_table) (sym at) ∙ h.there;
          before = older;
          shows = h.older;
          below = subst (IsBelow h.entry.older) at h.below;
          means = e
              ∙ ap (λ b. cond b (gateway_or w (meaning text older w)) (cond (bytes_eq (bytes_at text h.entry.name) w) (meaning_by h.entry.class) (meaning text older w))) (sym h.gateway);
        }

    same-found : (i : ℕ) (vs older : List Statement) (w : List ℕ) → meaning text vs w ≡ meaning text older w → Found i older w → Found i vs w
    same-found i vs older w e f =
        record { entry = f.entry; there = f.there; before = f.before; shows = f.shows; below = f.below; means = e ∙ f.means }

    pub found : (i : ℕ) (vs : List Statement) (w : List ℕ) → Shows text class_table (Some i) vs → Found i vs w
    found i [] w h = absurd (cc h)
    found i (statement.Chain k ∷ vs) w h = same-found i _ vs w (meaning-chain k vs w) (found i vs w h)
    found i (statement.Declaration d ∷ vs) w h = same-found i _ vs w (meaning-declaration d vs w) (found i vs w h)
    found i (statement.Definition n b ∷ vs) w h = found-shown i n _ _ vs w h (meaning-definition n b vs w)
    found i (statement.Synonym n d ∷ vs) w h = found-shown i n _ _ vs w h (meaning-synonym n d vs w)
    found i (statement.Requirement t ∷ vs) w h = by_test (λ k. found i vs w k) (requires_gateway text t) refl h
      where
        by_test : (Shows text class_table (Some i) vs → Found i vs w) → (b : Bool) → requires_gateway text t ≡ b →
            MatchBool b (IsRequired class_table (Some i) (λ u. Shows text class_table u vs)) (Shows text class_table (Some i) vs) → Found i (statement.Requirement t ∷ vs) w
        by_test f true e k =
            found-required i (statement.Requirement t ∷ vs) vs w k
            (meaning-requirement t vs w ∙ ap (λ b. cond b (gateway_or w (meaning text vs w)) (meaning text vs w)) e)
        by_test f false e k =
            same-found i (statement.Requirement t ∷ vs) vs w
            (meaning-requirement t vs w ∙ ap (λ b. cond b (gateway_or w (meaning text vs w)) (meaning text vs w)) e) (f k)

    -- the index of a visible definition is an index of the list
    pub shown-below : (visible_class : Option ℕ) (vs : List Statement) → Shows text class_table visible_class vs → IsBelow visible_class (length class_table)
    shown-below None vs h = tt
    shown-below (Some i) vs h = let f = found i vs [] h in slice_get_within class_table i f.entry f.there

    -- one definition further back
    pub found-older : (at : Option ℕ) (limit : ℕ) (i : ℕ) (e : ClassEntry) (vs : List Statement) (w : List ℕ) → Some (i, e) ≡ entry_from class_table at limit →
        Shows text class_table at vs →
        (before : List Statement) × Shows text class_table e.older before × IsBelow e.older i
        × (meaning text vs w ≡ entry_meaning text e w (meaning text before w))
    found-older at limit i e vs w h s =
        let r = found-entry class_table at limit i e h in
        let f = found i vs w (subst (λ t. Shows text class_table t vs) r.1 s) in
        let same : f.entry ≡ e = some_same (sym f.there ∙ r.2) in (
          f.before,
          subst (λ (x : ClassEntry). Shows text class_table x.older f.before) same f.shows,
          subst (λ (x : ClassEntry). IsBelow x.older i) same f.below,
          subst (λ (x : ClassEntry). meaning text vs w ≡ entry_meaning text x w (meaning text f.before w)) same f.means,
        )

    pub found-end : (at : Option ℕ) (limit : ℕ) (vs : List Statement) (w : List ℕ) → Shows text class_table at vs → IsBelow at limit →
        entry_from class_table at limit ≡ None → meaning text vs w ≡ primitive_of w
    found-end None limit vs w s b h = found-nothing vs w s
    found-end (Some i) limit vs w s b h =
        let f = found i vs w s in
        let t : nat_lt i limit ≡ true = lt-ltb i limit b in
        absurd (cc (sym h ∙ ap (λ x. cond x (entry_found i (slice_get class_table i)) None) t ∙ ap (entry_found i) f.there))
