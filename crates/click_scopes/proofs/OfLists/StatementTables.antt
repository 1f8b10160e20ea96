-- What is stored of statements, one after another.
use Rattle.std.proofs.Common.{◌≡◌, ℕ, suc, zero, ◌+◌, ◌<◌, ◌≤◌, List, [], ◌∷◌, ◌++◌, map, length, get_or, take, drop, reverse, Contains, Option, Some, None, Bool, true, false, refl, sym, ap, ◌∙◌, append_assoc, subst, arith}
use Rattle.std.specs.List.{slice_get}
use Rattle.std.proofs.lemmas.List.{append-nil, at_drop_all, at_drop_more, take_more, drop_more, reverse-append, take-append-drop, map-append}
use Rattle.std.proofs.lemmas.List.Elements.{Contains-append_right}
use Rattle.click_text.specs.declared.syntax.Span.{Span}
use Rattle.click_text.specs.declared.syntax.Link.{Link}
use Rattle.click_text.specs.declared.syntax.Statement.{Statement}
use Rattle.click_text.specs.declared.syntax.Statement.TheVariants as statement
use Rattle.click_text.specs.declared.syntax.Declaration.{Declaration}
use Rattle.click_scopes.specs.Scopes.{head_bodies, link_bodies, bodies_in, statement_elements}
use Rattle.click_scopes.specs.kept.Nesting.{direct}
use Rattle.click_scopes.specs.Classes.{Meaning, requires_gateway}
use Rattle.click_scopes.specs.Elements.{Placed, place, placed}
use Rattle.click_scopes.specs.kept.Tables.{meaning_by, IsBelow, IsShown, IsRequired, Shows, AreWritten, IsEntry, IsMore}
use Rattle.std.specs.Prelude.{MatchBool}
use Rattle.click_scopes.specs.kept.Standing.{kept_link, kept_name, kept_elements, nested_body, Each, IsNestedBody, AreNestedBodies}
use Rattle.click_scopes.specs.declared.classes.ClassEntry.{ClassEntry}
use Rattle.click_scopes.specs.declared.written_scopes.WrittenElement.{WrittenElement}
use Rattle.click_scopes.specs.declared.written_scopes.NestedBody.{NestedBody}
use Rattle.click_scopes.proofs.OfNames.WordMeanings.{shown-below}

pub slice_get-more : {X : Type 0} (xs ys : List X) (i : ℕ) (x : X) → slice_get xs i ≡ Some x → slice_get (xs ++ ys) i ≡ Some x
slice_get-more [] ys i x h = absurd (cc h)
slice_get-more (y ∷ xs) ys zero x h = h
slice_get-more (y ∷ xs) ys (suc i) x h = slice_get-more xs ys i x h

pub slice_get-front : {X : Type 0} (xs ys : List X) (i : ℕ) → i < length xs → slice_get (xs ++ ys) i ≡ slice_get xs i
slice_get-front [] ys i l = absurd (omega (arith, l))
slice_get-front (x ∷ xs) ys zero l = refl
slice_get-front (x ∷ xs) ys (suc i) l = slice_get-front xs ys i (omega (arith, l))

pub slice_get-last : {X : Type 0} (xs : List X) (x : X) → slice_get (xs ++ x ∷ []) (length xs) ≡ Some x
slice_get-last [] x = refl
slice_get-last (y ∷ xs) x = slice_get-last xs x

pub each-append : {X : Type 0} (P : X → Type 0) (xs ys : List X) → Each P xs → Each P ys → Each P (xs ++ ys)
each-append P [] ys h k = k
each-append P (x ∷ xs) ys h k = (h.0, each-append P xs ys h.1 k)

nested_bodies-bodies : (scope : ℕ) (visible_class : Option ℕ) (bs : List ℕ) → map (λ (r : NestedBody). r.body) (map (nested_body scope visible_class) bs) ≡ bs
nested_bodies-bodies scope visible_class [] = refl
nested_bodies-bodies scope visible_class (b ∷ bs) = ap (λ x. b ∷ x) (nested_bodies-bodies scope visible_class bs)

pub nested_body-links : (parent : ℕ) (visible_class : Option ℕ) (ls : List Link) (i : ℕ) (d : Link) → i < length ls →
    map (nested_body parent visible_class) (link_bodies (drop i ls)) ≡ map (nested_body parent visible_class) (head_bodies (get_or ls i d).element.head) ++ map (nested_body parent visible_class) (link_bodies (drop (i + 1) ls))
nested_body-links parent visible_class ls i d l =
    at_drop_more (λ xs. map (nested_body parent visible_class) (link_bodies xs)) ls i d l ∙ map-append (nested_body parent visible_class) (head_bodies (get_or ls i d).element.head) (link_bodies (drop (i + 1) ls))

pub more-more : (a b c : List ClassEntry) → IsMore a b → IsMore b c → IsMore a c
more-more a b c h k = (h.0 ++ k.0, k.1 ∙ ap (λ x. x ++ k.0) h.1 ∙ append_assoc a h.0 k.0)

module _ (text : List ℕ) where
  -- what is visible stays the same when definitions are appended
  pub shows-more : (old more : List ClassEntry) (visible_class : Option ℕ) (vs : List Statement) → Shows text old visible_class vs → Shows text (old ++ more) visible_class vs
  shows-more old more visible_class [] h = h
  shows-more old more visible_class (statement.Chain k ∷ vs) h = shows-more old more visible_class vs h
  shows-more old more visible_class (statement.Declaration d ∷ vs) h = shows-more old more visible_class vs h
  shows-more old more visible_class (statement.Definition n b ∷ vs) h = record {
    place = h.place;
    entry = h.entry;
    is = h.is;
    there = slice_get-more old more h.place h.entry h.there;
    named = h.named;
    same_name = h.same_name;
    class = h.class;
    below = h.below;
    older = shows-more old more h.entry.older vs h.older;
  }
  shows-more old more visible_class (statement.Synonym n d ∷ vs) h = record {
    place = h.place;
    entry = h.entry;
    is = h.is;
    there = slice_get-more old more h.place h.entry h.there;
    named = h.named;
    same_name = h.same_name;
    class = h.class;
    below = h.below;
    older = shows-more old more h.entry.older vs h.older;
  }
  shows-more old more visible_class (statement.Requirement t ∷ vs) h = by_test (λ u k. shows-more old more u vs k) (requires_gateway text t) h
    where
      by_test : ((u : Option ℕ) → Shows text old u vs → Shows text (old ++ more) u vs) → (b : Bool) → MatchBool b (IsRequired old visible_class (λ u. Shows text old u vs)) (Shows text old visible_class vs) →
          MatchBool b (IsRequired (old ++ more) visible_class (λ u. Shows text (old ++ more) u vs)) (Shows text (old ++ more) visible_class vs)
      by_test f true k = record {
        place = k.place;
        entry = k.entry;
        is = k.is;
        there = slice_get-more old more k.place k.entry k.there;
        gateway = k.gateway;
        below = k.below;
        older = f k.entry.older k.older;
      }
      by_test f false k = f visible_class k

  pub shows-grown : (old new : List ClassEntry) (visible_class : Option ℕ) (vs : List Statement) → IsMore old new → Shows text old visible_class vs → Shows text new visible_class vs
  shows-grown old new visible_class vs m h = subst (λ es. Shows text es visible_class vs) (sym m.1) (shows-more old m.0 visible_class vs h)

  -- a definition at the end
  defined-there : (es : List ClassEntry) (visible_class : Option ℕ) (vs : List Statement) (e : ClassEntry) (n : Span) (m : Option Meaning) → e.gateway ≡ false → e.name ≡ n → meaning_by e.class ≡ m → e.older ≡ visible_class → Shows text es visible_class vs →
      IsShown text (es ++ e ∷ []) (Some (length es)) n m (λ t. Shows text (es ++ e ∷ []) t vs)
  defined-there es visible_class vs e n m g p q r h = record {
    place = length es;
    entry = e;
    is = refl;
    there = slice_get-last es e;
    named = g;
    same_name = p;
    class = q;
    below = subst (λ t. IsBelow t (length es)) (sym r) (shown-below text es visible_class vs h);
    older = subst (λ t. Shows text (es ++ e ∷ []) t vs) (sym r) (shows-more es (e ∷ []) visible_class vs h);
  }

  pub defined : (es : List ClassEntry) (visible_class : Option ℕ) (vs : List Statement) (st : Statement) (e : ClassEntry) → IsEntry text vs visible_class st (Some e) → Shows text es visible_class vs →
      Shows text (es ++ e ∷ []) (Some (length es)) (st ∷ vs)
  defined es visible_class vs (statement.Chain k) e d h = absurd d
  defined es visible_class vs (statement.Declaration k) e d h = absurd d
  defined es visible_class vs (statement.Definition n b) e d h = defined-there es visible_class vs e n _ d.4 d.0 d.1 d.2 h
  defined es visible_class vs (statement.Synonym n w) e d h = defined-there es visible_class vs e n _ d.4 d.0 d.1 d.2 h
  defined es visible_class vs (statement.Requirement t) e d h = by_test (requires_gateway text t) d.0
    where
      by_test : (b : Bool) → b ≡ true →
          MatchBool b (IsRequired (es ++ e ∷ []) (Some (length es)) (λ u. Shows text (es ++ e ∷ []) u vs)) (Shows text (es ++ e ∷ []) (Some (length es)) vs)
      by_test true k = record {
        place = length es;
        entry = e;
        is = refl;
        there = slice_get-last es e;
        gateway = d.1;
        below = subst (λ u. IsBelow u (length es)) (sym d.2) (shown-below text es visible_class vs h);
        older = subst (λ u. Shows text (es ++ e ∷ []) u vs) (sym d.2) (shows-more es (e ∷ []) visible_class vs h);
      }
      by_test false k = absurd (cc k)

  -- a statement without a definition leaves the visible definitions unchanged
  pub undefined : (es : List ClassEntry) (visible_class : Option ℕ) (vs : List Statement) (st : Statement) → IsEntry text vs visible_class st None → Shows text es visible_class vs → Shows text es visible_class (st ∷ vs)
  undefined es visible_class vs (statement.Chain k) d h = h
  undefined es visible_class vs (statement.Declaration k) d h = h
  undefined es visible_class vs (statement.Definition n b) d h = absurd d
  undefined es visible_class vs (statement.Synonym n w) d h = absurd d
  undefined es visible_class vs (statement.Requirement t) d h = by_test (requires_gateway text t) d
    where
      by_test : (b : Bool) → b ≡ false → MatchBool b (IsRequired es visible_class (λ u. Shows text es u vs)) (Shows text es visible_class vs)
      by_test true k = absurd (cc k)
      by_test false k = h

  pub written-grown : (old new : List ClassEntry) (ws : List WrittenElement) (ps : List Placed) → IsMore old new → AreWritten text old ws ps → AreWritten text new ws ps
  written-grown old new [] [] m h = tt
  written-grown old new [] (p ∷ ps) m h = absurd h
  written-grown old new (w ∷ ws) [] m h = absurd h
  written-grown old new (w ∷ ws) (p ∷ ps) m h =
      (record { element = h.0.element; visible = shows-grown old new w.visible_class p.visible m h.0.visible }, written-grown old new ws ps m h.1)

  pub written-append : (es : List ClassEntry) (ws : List WrittenElement) (ps : List Placed) (vs : List WrittenElement) (qs : List Placed) → AreWritten text es ws ps → AreWritten text es vs qs →
      AreWritten text es (ws ++ vs) (ps ++ qs)
  written-append es [] [] vs qs h k = k
  written-append es [] (p ∷ ps) vs qs h k = absurd h
  written-append es (w ∷ ws) [] vs qs h k = absurd h
  written-append es (w ∷ ws) (p ∷ ps) vs qs h k = (h.0, written-append es ws ps vs qs h.1 k)

  module _ (es : List ClassEntry) (visible_class : Option ℕ) (vs : List Statement) (h : Shows text es visible_class vs) where
    written-links : (ls : List Link) → AreWritten text es (map (λ l. kept_link visible_class l) ls) (map (place vs) (map (λ (l : Link). l.element) ls))
    written-links [] = tt
    written-links (l ∷ ls) = (record { element = refl; visible = h }, written-links ls)

    written-names : (d : Declaration) (ns : List Span) →
        AreWritten text es (map (λ n. kept_name d visible_class n) ns) (map (place vs) (map (λ n. (kept_name d visible_class n).element) ns))
    written-names d [] = tt
    written-names d (n ∷ ns) = (record { element = refl; visible = h }, written-names d ns)

    pub written-statement : (st : Statement) → AreWritten text es (kept_elements visible_class st) (map (place vs) (statement_elements st))
    written-statement (statement.Chain k) = (record { element = refl; visible = h }, written-links k.links)
    written-statement (statement.Declaration d) = written-names d d.names
    written-statement (statement.Definition n b) = tt
    written-statement (statement.Synonym n w) = tt
    written-statement (statement.Requirement t) = tt

  nested_body-grown : (es new : List ClassEntry) (scope : ℕ) (visible all : List Statement) (r : NestedBody) → IsMore es new → IsNestedBody text es scope visible all r → IsNestedBody text new scope visible all r
  nested_body-grown es new scope visible all r m h = record {
    before = h.before;
    after = h.after;
    statement = h.statement;
    splits = h.splits;
    there = h.there;
    shows = shows-grown es new r.visible_class (reverse h.before ++ visible) m h.shows;
    parent = h.parent;
  }

  nested_bodies-grown : (es new : List ClassEntry) (scope : ℕ) (visible all : List Statement) (rs : List NestedBody) → IsMore es new → Each (IsNestedBody text es scope visible all) rs → Each (IsNestedBody text new scope visible all) rs
  nested_bodies-grown es new scope visible all [] m h = tt
  nested_bodies-grown es new scope visible all (r ∷ rs) m h = (nested_body-grown es new scope visible all r m h.0, nested_bodies-grown es new scope visible all rs m h.1)

  nested_bodies-at : (es : List ClassEntry) (scope : ℕ) (visible_class : Option ℕ) (visible all before after : List Statement) (st : Statement) (bs : List ℕ) →
      all ≡ before ++ st ∷ after → ((b : ℕ) → Contains bs b → Contains (bodies_in st) b) → Shows text es visible_class (reverse before ++ visible) →
      Each (IsNestedBody text es scope visible all) (map (nested_body scope visible_class) bs)
  nested_bodies-at es scope visible_class visible all before after st [] e i h = tt
  nested_bodies-at es scope visible_class visible all before after st (b ∷ bs) e i h = (
    record { before = before; after = after; statement = st; splits = e; there = i b (0, omega arith, refl); shows = h; parent = refl },
    nested_bodies-at es scope visible_class visible all before after st bs e (λ c k. i c (Contains-append_right (b ∷ []) bs c k)) h,
  )

  -- The elements and the bodies of the first i statements, and what is visible after these.
  pub record Kept (es : List ClassEntry) (scope : ℕ) (visible_class : Option ℕ) (ws : List WrittenElement) (first nested_bodies : List NestedBody) (visible : List Statement) (i : ℕ) (all : List Statement) : Type 0 where
    pub seen : List Placed
    pub shows : Shows text es visible_class (reverse (take i all) ++ visible)
    pub written : AreWritten text es ws seen
    pub rest : placed visible all ≡ seen ++ placed (reverse (take i all) ++ visible) (drop i all)
    pub more : List NestedBody
    pub is : nested_bodies ≡ first ++ more
    pub bodies : map (λ (r : NestedBody). r.body) more ++ direct (drop i all) ≡ direct all
    pub each : Each (IsNestedBody text es scope visible all) more

  pub kept-first : (es : List ClassEntry) (scope : ℕ) (visible_class : Option ℕ) (nested_bodies : List NestedBody) (visible all : List Statement) → Shows text es visible_class visible → Kept es scope visible_class [] nested_bodies nested_bodies visible 0 all
  kept-first es scope visible_class nested_bodies visible all h = record { seen = []; shows = h; written = tt; rest = refl; more = []; is = sym (append-nil nested_bodies); bodies = refl; each = tt }

  pub kept-next : (es new : List ClassEntry) (scope : ℕ) (visible_class behind : Option ℕ) (ws vs : List WrittenElement) (first nested_bodies more : List NestedBody) (visible all : List Statement) (i : ℕ) (d st : Statement) →
      i < length all → st ≡ get_or all i d → IsMore es new →
      vs ≡ ws ++ kept_elements visible_class st → more ≡ nested_bodies ++ map (nested_body scope visible_class) (bodies_in st) →
      ((ss : List Statement) → Shows text es visible_class ss → Shows text new behind (st ∷ ss)) →
      Kept es scope visible_class ws first nested_bodies visible i all → Kept new scope behind vs first more visible (i + 1) all
  kept-next es new scope visible_class behind ws vs first nested_bodies more visible all i d st l is m w q f k =
      let s = reverse (take i all) ++ visible in
      let bs = bodies_in st in
      let next : reverse (take (i + 1) all) ++ visible ≡ st ∷ s =
      ap (λ x. reverse x ++ visible) (take_more all i d l) ∙ ap (λ x. x ++ visible) (reverse-append (take i all) (get_or all i d ∷ []))
      ∙ ap (λ (x : Statement). x ∷ s) (sym is) in
      let split : all ≡ take i all ++ st ∷ drop (i + 1) all =
      sym (take-append-drop i all) ∙ ap (λ x. take i all ++ x) (drop_more all i d l) ∙ ap (λ (x : Statement). take i all ++ x ∷ drop (i + 1) all) (sym is) in
      record {
        seen = k.seen ++ map (place s) (statement_elements st);
        shows = subst (Shows text new behind) (sym next) (f s k.shows);
        written = subst (λ x. AreWritten text new x (k.seen ++ map (place s) (statement_elements st))) (sym w)
            (written-append new ws k.seen (kept_elements visible_class st) (map (place s) (statement_elements st))
            (written-grown es new ws k.seen m k.written) (written-statement new visible_class s (shows-grown es new visible_class s m k.shows) st));
        rest = k.rest
            ∙ ap (λ xs. k.seen ++ xs) (at_drop_more (placed s) all i d l)
            ∙ ap (λ (x : Statement). k.seen ++ placed s (x ∷ drop (i + 1) all)) (sym is)
            ∙ sym (append_assoc k.seen (map (place s) (statement_elements st)) (placed (st ∷ s) (drop (i + 1) all)))
            ∙ ap (λ x. (k.seen ++ map (place s) (statement_elements st)) ++ placed x (drop (i + 1) all)) (sym next);
        more = k.more ++ map (nested_body scope visible_class) bs;
        is = q ∙ ap (λ x. x ++ map (nested_body scope visible_class) bs) k.is ∙ append_assoc first k.more (map (nested_body scope visible_class) bs);
        bodies =
            ap (λ x. x ++ direct (drop (i + 1) all)) (map-append (λ (r : NestedBody). r.body) k.more (map (nested_body scope visible_class) bs) ∙ ap (λ x. map (λ (r : NestedBody). r.body) k.more ++ x) (nested_bodies-bodies scope visible_class bs))
            ∙ append_assoc (map (λ (r : NestedBody). r.body) k.more) bs (direct (drop (i + 1) all))
            ∙ ap (λ (x : Statement). map (λ (r : NestedBody). r.body) k.more ++ direct (x ∷ drop (i + 1) all)) is
            ∙ ap (λ x. map (λ (r : NestedBody). r.body) k.more ++ x) (sym (at_drop_more direct all i d l)) ∙ k.bodies;
        each = each-append (IsNestedBody text new scope visible all) k.more (map (nested_body scope visible_class) bs) (nested_bodies-grown es new scope visible all k.more m k.each)
            (nested_bodies-at new scope visible_class visible all (take i all) (drop (i + 1) all) st bs split (λ b j. j) (shows-grown es new visible_class s m k.shows));
      }

  pub kept-all : (es : List ClassEntry) (scope : ℕ) (visible_class : Option ℕ) (ws : List WrittenElement) (first nested_bodies : List NestedBody) (visible all : List Statement) (i : ℕ) → length all ≤ i →
      Kept es scope visible_class ws first nested_bodies visible i all → AreWritten text es ws (placed visible all)
  kept-all es scope visible_class ws first nested_bodies visible all i l k =
      subst (AreWritten text es ws)
      (sym (k.rest ∙ ap (λ xs. k.seen ++ xs) (at_drop_all (placed (reverse (take i all) ++ visible)) all i l) ∙ append-nil k.seen)) k.written

  pub kept-nested_bodies : (es : List ClassEntry) (scope : ℕ) (visible_class : Option ℕ) (ws : List WrittenElement) (first nested_bodies : List NestedBody) (visible all : List Statement) (i : ℕ) → length all ≤ i →
      Kept es scope visible_class ws first nested_bodies visible i all → AreNestedBodies text es scope visible all first nested_bodies
  kept-nested_bodies es scope visible_class ws first nested_bodies visible all i l k = record {
    more = k.more;
    is = k.is;
    bodies = sym (append-nil (map (λ (r : NestedBody). r.body) k.more)) ∙ ap (λ x. map (λ (r : NestedBody). r.body) k.more ++ x) (sym (at_drop_all direct all i l)) ∙ k.bodies;
    each = k.each;
  }
