-- The synonyms among the definitions, and the ports of chains, one statement after another.
use Rattle.std.proofs.Common.{◌≡◌, ◌⊎◌, inl, inr, ℕ, suc, zero, ◌+◌, ◌<◌, ◌≤◌, List, [], ◌∷◌, ◌++◌, map, length, get_or, take, drop, reverse, Option, Some, None, refl, sym, ap, ◌∙◌, append_assoc, subst, arith}
use Rattle.std.specs.List.{slice_get, cons_option}
use Rattle.std.proofs.lemmas.Bool.{cases_order}
use Rattle.std.proofs.lemmas.List.{append-nil, at_drop_all, at_drop_more, drop_more, take-append-drop, map-append, length-append, length-take-le}
use Rattle.click_text.specs.declared.syntax.Span.{Span}
use Rattle.click_text.specs.declared.syntax.Link.{Link}
use Rattle.click_text.specs.declared.syntax.Declaration.{Declaration}
use Rattle.click_text.specs.declared.syntax.Statement.{Statement}
use Rattle.click_text.specs.declared.syntax.Statement.TheVariants as statement
use Rattle.click_text.specs.Spans.{bytes_at}
use Rattle.click_scopes.specs.Classes.{Meaning, meaning}
use Rattle.click_scopes.specs.Faults.{port_number}
use Rattle.click_scopes.specs.kept.Tables.{meaning_by, Shows, IsEntry, IsMore}
use Rattle.click_scopes.specs.kept.Scoped.{ports_of, ports_in}
use Rattle.click_scopes.specs.kept.Standing.{kept_link, kept_name, kept_elements, written_ports, IsDefined, HasSynonym, IsSynonymAmong, AddsSynonyms}
use Rattle.click_scopes.specs.declared.classes.ClassEntry.{ClassEntry}
use Rattle.click_scopes.specs.declared.written_scopes.WrittenElement.{WrittenElement}
use Rattle.click_scopes.proofs.OfLists.StatementTables.{slice_get-more, slice_get-last}

ports-links : (visible_class : Option ℕ) (ls : List Link) → written_ports (map (λ l. kept_link visible_class l) ls) ≡ map (λ (l : Link). Some (port_number l.from, port_number l.to)) ls
ports-links visible_class [] = refl
ports-links visible_class (l ∷ ls) = ap (λ x. Some (port_number l.from, port_number l.to) ∷ x) (ports-links visible_class ls)

ports-names : (visible_class : Option ℕ) (d : Declaration) (ns : List Span) → written_ports (map (λ n. kept_name d visible_class n) ns) ≡ map (λ (n : Span). None) ns
ports-names visible_class d [] = refl
ports-names visible_class d (n ∷ ns) = ap (λ x. None ∷ x) (ports-names visible_class d ns)

ports-statement : (visible_class : Option ℕ) (st : Statement) → written_ports (kept_elements visible_class st) ≡ ports_of st
ports-statement visible_class (statement.Chain k) = ap (λ x. None ∷ x) (ports-links visible_class k.links)
ports-statement visible_class (statement.Declaration d) = ports-names visible_class d d.names
ports-statement visible_class (statement.Definition n b) = refl
ports-statement visible_class (statement.Synonym n d) = refl
ports-statement visible_class (statement.Requirement t) = refl

pub ports-next : (ws vs : List WrittenElement) (visible_class : Option ℕ) (all : List Statement) (i : ℕ) (d st : Statement) → i < length all → st ≡ get_or all i d → vs ≡ ws ++ kept_elements visible_class st →
    written_ports ws ++ ports_in (drop i all) ≡ ports_in all → written_ports vs ++ ports_in (drop (i + 1) all) ≡ ports_in all
ports-next ws vs visible_class all i d st l is w h =
    let rest = ports_in (drop (i + 1) all) in
    ap (λ x. written_ports x ++ rest) w
    ∙ ap (λ x. x ++ rest) (map-append (λ (x : WrittenElement). x.ports) ws (kept_elements visible_class st) ∙ ap (λ x. written_ports ws ++ x) (ports-statement visible_class st))
    ∙ append_assoc (written_ports ws) (ports_of st) rest
    ∙ ap (λ (x : Statement). written_ports ws ++ (ports_of x ++ rest)) is
    ∙ ap (λ x. written_ports ws ++ x) (sym (at_drop_more ports_in all i d l))
    ∙ h

pub ports-all : (ws : List WrittenElement) (all : List Statement) (i : ℕ) → length all ≤ i → written_ports ws ++ ports_in (drop i all) ≡ ports_in all → written_ports ws ≡ ports_in all
ports-all ws all i l h = sym (append-nil (written_ports ws)) ∙ ap (λ x. written_ports ws ++ x) (sym (at_drop_all ports_in all i l)) ∙ h

-- a list is split at a given length in one way only
split-same : {X : Type 0} (xs us ys vs : List X) (a b : X) → xs ++ a ∷ ys ≡ us ++ b ∷ vs → length xs ≡ length us → (xs ≡ us) × (a ≡ b)
split-same [] [] ys vs a b e l = (refl, cc e)
split-same [] (u ∷ us) ys vs a b e l = absurd (omega (arith, l))
split-same (x ∷ xs) [] ys vs a b e l = absurd (omega (arith, l))
split-same (x ∷ xs) (u ∷ us) ys vs a b e l =
    let h : x ≡ u = cc e in
    let t : xs ++ a ∷ ys ≡ us ++ b ∷ vs = cc e in
    let r = split-same xs us ys vs a b t (omega (arith, l)) in
    (ap (λ y. y ∷ xs) h ∙ ap (λ y. u ∷ y) r.0, r.1)

-- an item of a list to which an item, or none, was appended
added-cases : (es : List ClassEntry) (o : Option ClassEntry) (j : ℕ) (e : ClassEntry) → slice_get (es ++ cons_option o []) j ≡ Some e → (slice_get es j ≡ Some e) ⊎ (o ≡ Some e)
added-cases [] None j e h = absurd (cc h)
added-cases [] (Some x) zero e h = inr h
added-cases [] (Some x) (suc j) e h = absurd (cc h)
added-cases (y ∷ es) o zero e h = inl h
added-cases (y ∷ es) o (suc j) e h = added-cases es o j e h

some_same : {X : Type 0} {x y : X} → Some x ≡ Some y → x ≡ y
some_same h = cc h

pub synonym-grown : (text : List ℕ) (es new : List ClassEntry) (w : Span) (m : Option Meaning) → IsMore es new → HasSynonym text es w m → HasSynonym text new w m
synonym-grown text es new w m g h = record {
  place = h.place;
  entry = h.entry;
  there = ap (λ x. slice_get x h.place) g.1 ∙ slice_get-more es g.0 h.place h.entry h.there;
  is = h.is;
  class = h.class;
}

module _ (text : List ℕ) (vs : List Statement) (visible_class : Option ℕ) where
  -- a definition with an original word is a synonym
  entry-synonym : (st : Statement) (e : ClassEntry) (w : Span) → IsEntry text vs visible_class st (Some e) → e.original ≡ Some w →
      (n : Span) × (st ≡ statement.Synonym n w) × (meaning_by e.class ≡ meaning text vs (bytes_at text w))
  entry-synonym (statement.Chain k) e w d o = absurd d
  entry-synonym (statement.Declaration k) e w d o = absurd d
  entry-synonym (statement.Definition n b) e w d o = let t : None ≡ Some w = sym d.3 ∙ o in absurd (cc t)
  entry-synonym (statement.Synonym n k) e w d o =
      let same : k ≡ w = some_same (sym d.3 ∙ o) in
      (n, ap (λ x. statement.Synonym n x) same, d.1 ∙ ap (λ x. meaning text vs (bytes_at text x)) same)
  entry-synonym (statement.Requirement t) e w d o = let u : None ≡ Some w = sym d.3 ∙ o in absurd (cc u)

  synonym-entry : (n w : Span) (o : Option ClassEntry) → IsEntry text vs visible_class (statement.Synonym n w) o →
      (e : ClassEntry) × (o ≡ Some e) × (e.original ≡ Some w) × (meaning_by e.class ≡ meaning text vs (bytes_at text w))
  synonym-entry n w None d = absurd d
  synonym-entry n w (Some e) d = (e, refl, d.3, d.1)

-- The synonyms among the first i statements are among the definitions, and no others were appended.
pub record Renamed (text : List ℕ) (visible : List Statement) (old new : List ClassEntry) (i : ℕ) (all : List Statement) : Type 0 where
  pub sound : (j : ℕ) (e : ClassEntry) (w : Span) → slice_get new j ≡ Some e → e.original ≡ Some w →
      (slice_get old j ≡ Some e) ⊎ IsSynonymAmong text visible all w (meaning_by e.class)
  pub complete : (before after : List Statement) (n w : Span) → all ≡ before ++ statement.Synonym n w ∷ after → length before < i →
      HasSynonym text new w (meaning text (reverse before ++ visible) (bytes_at text w))

module _ (text : List ℕ) (visible : List Statement) where
  pub renamed-first : (es : List ClassEntry) (all : List Statement) → Renamed text visible es es 0 all
  renamed-first es all = record { sound = λ j e w t o. inl t; complete = λ before after n w s l. absurd (omega (arith, l)) }

  synonym-last : (es new : List ClassEntry) (visible_class : Option ℕ) (seen : List Statement) (n w : Span) → IsDefined text (reverse seen ++ visible) visible_class (statement.Synonym n w) es new →
      HasSynonym text new w (meaning text (reverse seen ++ visible) (bytes_at text w))
  synonym-last es new visible_class seen n w d =
      let r = synonym-entry text (reverse seen ++ visible) visible_class n w d.entry d.is in
      record {
        place = length es;
        entry = r.0;
        there = ap (λ x. slice_get x (length es)) (d.added ∙ ap (λ o. es ++ cons_option o []) r.1) ∙ slice_get-last es r.0;
        is = r.2;
        class = r.3;
      }

  pub renamed-next : (old es new : List ClassEntry) (visible_class : Option ℕ) (all : List Statement) (i : ℕ) (d st : Statement) → i < length all → st ≡ get_or all i d →
      Shows text es visible_class (reverse (take i all) ++ visible) → ((ss : List Statement) → Shows text es visible_class ss → IsDefined text ss visible_class st es new) →
      Renamed text visible old es i all → Renamed text visible old new (i + 1) all
  renamed-next old es new visible_class all i d st l is s f k =
      let seen = take i all in
      let g = f (reverse seen ++ visible) s in
      let split : all ≡ seen ++ st ∷ drop (i + 1) all =
      sym (take-append-drop i all) ∙ ap (λ x. seen ++ x) (drop_more all i d l) ∙ ap (λ (x : Statement). seen ++ x ∷ drop (i + 1) all) (sym is) in
      let count : length seen ≡ i = length-take-le i all (omega (arith, l)) in
      record {
        sound = λ j e w t o. elim (added-cases es g.entry j e (ap (λ x. slice_get x j) (sym g.added) ∙ t)) [
          | inl p ↦ k.sound j e w p o
          | inr p ↦
              (let r = entry-synonym text (reverse seen ++ visible) visible_class st e w (subst (IsEntry text (reverse seen ++ visible) visible_class st) p g.is) o in
              inr (record {
                before = seen;
                after = drop (i + 1) all;
                name = r.0;
                splits = split ∙ ap (λ (x : Statement). seen ++ x ∷ drop (i + 1) all) r.1;
                meaning = r.2;
              }))
        ];
        complete = λ before after n w e m. elim (cases_order (length before) i) [
          | inl q ↦
              (let r = split-same before seen after (drop (i + 1) all) (statement.Synonym n w) st (sym e ∙ split) (q ∙ sym count) in
              subst (λ x. HasSynonym text new w (meaning text (reverse x ++ visible) (bytes_at text w))) (sym r.0)
              (synonym-last es new visible_class seen n w (subst (λ x. IsDefined text (reverse seen ++ visible) visible_class x es new) (sym r.1) g)))
          | inr (inl q) ↦ synonym-grown text es new w _ (cons_option g.entry [], g.added) (k.complete before after n w e q)
          | inr (inr q) ↦ absurd (omega (arith, m, q))
        ];
      }

  pub renamed-all : (old new : List ClassEntry) (all : List Statement) (i : ℕ) → length all ≤ i → Renamed text visible old new i all → AddsSynonyms text visible all old new
  renamed-all old new all i l k = record {
    sound = k.sound;
    complete = λ before after n w e. k.complete before after n w e (let t = ap length e ∙ length-append before (statement.Synonym n w ∷ after) in omega (arith, t, l));
  }
