-- The scopes of a configuration, one after another, from the whole text to the first body.
use Rattle.std.proofs.Common.{◌≡◌, inl, inr, ℕ, ◌+◌, ◌-◌, ◌<◌, ◌≤◌, List, [], ◌∷◌, ◌++◌, map, reverse, length, get_or, None, Some, refl, sym, ap, ◌∙◌, subst, arith, Contains}
use Rattle.std.specs.List.{slice_get}
use Rattle.std.proofs.lemmas.Option.{slice_get-get_or}
use Rattle.std.proofs.lemmas.Bool.{cases_order}
use Rattle.std.proofs.lemmas.List.{map-append, length_push, length-reverse, get_or-reverse}
use Rattle.click_text.specs.declared.syntax.Span.{Span}
use Rattle.click_text.specs.declared.syntax.Statement.{Statement}
use Rattle.click_text.specs.declared.syntax.Statement.TheVariants as statement
use Rattle.click_text.specs.Spans.{bytes_at}
use Rattle.click_scopes.specs.Classes.{meaning}
use Rattle.click_text.specs.declared.syntax.Body.{Body}
use Rattle.click_text.specs.declared.syntax.Config.{Config}
use Rattle.click_scopes.specs.Scopes.{Scope, whole, inside, statements_of, Stands, at_top, nested}
use Rattle.click_scopes.specs.Elements.{placed}
use Rattle.click_scopes.specs.kept.Tables.{meaning_by, Shows, AreWritten, IsMore}
use Rattle.click_scopes.specs.kept.Nesting.{direct, Nests, no_bodies, next_body, IsNested}
use Rattle.click_scopes.specs.kept.Standing.{Each, IsNestedBody, AreNestedBodies, written_ports, HasSynonym, AddsSynonyms}
use Rattle.click_scopes.specs.kept.Scoped.{table_place, outer_of, ports_in, IsWrittenScope, AreWrittenScopes, IsSynonym, AreSynonyms}
use Rattle.click_scopes.specs.declared.classes.ClassEntry.{ClassEntry}
use Rattle.click_scopes.specs.declared.written_scopes.NestedBody.{NestedBody}
use Rattle.click_scopes.specs.declared.written_scopes.WrittenScope.{WrittenScope}
use Rattle.click_scopes.proofs.OfLists.StatementTables.{shows-grown, written-grown, each-append, slice_get-more, slice_get-last}
use Rattle.click_scopes.proofs.OfNames.Synonyms.{synonym-grown}
use Rattle.click_scopes.proofs.OfBodies.NestedBodies.{nests-append}
use Rattle.click_scopes.proofs.OfBodies.OneBodyPlace.{inner, direct-has, child-range, nested_body-range, place-in, stands-once}

abbrev pub places : List NestedBody → List ℕ
places rs = map (λ (r : NestedBody). r.body) rs

-- the bodies with indices from a to below z: xs with those inside them, those inside b, and b
pub record LastBody (bodies : List Body) (a : ℕ) (xs : List ℕ) (b z : ℕ) : Type 0 where
  pub next : b + 1 ≡ z
  pub within : b < length bodies
  pub middle : ℕ
  pub before : Nests bodies a xs middle
  pub inside : Nests bodies middle (inner bodies b) b

nests-end : (bodies : List Body) (a z : ℕ) → Nests bodies a [] z → a ≡ z
nests-end bodies a z (no_bodies at) = refl

nests-last : (bodies : List Body) (a : ℕ) (xs : List ℕ) (b z : ℕ) → Nests bodies a (xs ++ b ∷ []) z → LastBody bodies a xs b z
nests-last bodies a [] b z (next_body from c to bs n h k) = record { next = nests-end bodies (b + 1) z k; within = n; middle = a; before = no_bodies a; inside = h }
nests-last bodies a (x ∷ xs) b z (next_body from c to bs n h k) =
    let r = nests-last bodies (x + 1) xs b z k in
    record { next = r.next; within = r.within; middle = r.middle; before = next_body a x r.middle xs n h r.before; inside = r.inside }

module _ (c : Config) where
  -- A body that is still to be visited, with its scopes and the statements before it.
  pub record IsPending (es : List ClassEntry) (r : NestedBody) : Type 0 where
    pub visible : List Statement
    pub enclosing : List Scope
    pub stands : Stands c (inside r.body) visible enclosing
    pub shows : Shows c.text es r.visible_class visible
    pub parent : r.parent ≡ outer_of c enclosing

  -- the synonyms of a scope are among the definitions
  abbrev pub HasAll : List ClassEntry → Scope → List Statement → Type 0
  HasAll es s v = (before after : List Statement) (n w : Span) → statements_of c s ≡ before ++ statement.Synonym n w ∷ after →
      HasSynonym c.text es w (meaning c.text (reverse before ++ v) (bytes_at c.text w))

  -- the definitions with an original word are synonyms
  abbrev pub AreSound : List ClassEntry → Type 0
  AreSound es = (i : ℕ) (e : ClassEntry) (w : Span) → slice_get es i ≡ Some e → e.original ≡ Some w → IsSynonym c w (meaning_by e.class)

  -- The body with index p is done.
  pub record IsDone (es : List ClassEntry) (ks : List WrittenScope) (p : ℕ) : Type 0 where
    pub visible : List Statement
    pub enclosing : List Scope
    pub scope : WrittenScope
    pub stands : Stands c (inside p) visible enclosing
    pub there : slice_get ks (length c.bodies - p) ≡ Some scope
    pub is : IsWrittenScope c es (inside p) visible enclosing scope
    pub synonyms : HasAll es (inside p) visible

  -- The whole text and all bodies from index `left` on are done. The bodies that are still to be
  -- visited have lower indices.
  pub record Walked (es : List ClassEntry) (rs : List NestedBody) (ks : List WrittenScope) : Type 0 where
    pub left : ℕ
    pub count : left + length ks ≡ length c.bodies + 1
    pub nests : Nests c.bodies 0 (places rs) left
    pub pending : Each (IsPending es) rs
    pub first : WrittenScope
    pub first_there : slice_get ks 0 ≡ Some first
    pub first_is : IsWrittenScope c es whole [] [] first
    pub first_synonyms : HasAll es whole []
    pub sound : AreSound es
    pub done : (p : ℕ) → left ≤ p → p < length c.bodies → IsDone es ks p

  pending-grown : (es new : List ClassEntry) (rs : List NestedBody) → IsMore es new → Each (IsPending es) rs → Each (IsPending new) rs
  pending-grown es new [] m h = tt
  pending-grown es new (r ∷ rs) m h = (
    record { visible = h.0.visible; enclosing = h.0.enclosing; stands = h.0.stands; shows = shows-grown c.text es new r.visible_class h.0.visible m h.0.shows; parent = h.0.parent },
    pending-grown es new rs m h.1,
  )

  scope-grown : (es new : List ClassEntry) (s : Scope) (v : List Statement) (a : List Scope) (k : WrittenScope) → IsMore es new → IsWrittenScope c es s v a k → IsWrittenScope c new s v a k
  scope-grown es new s v a k m h = record { written = written-grown c.text es new k.written.items (placed v (statements_of c s)) m h.written; ports = h.ports; parent = h.parent }

  all-grown : (es new : List ClassEntry) (s : Scope) (v : List Statement) → IsMore es new → HasAll es s v → HasAll new s v
  all-grown es new s v m h = λ before after n w e. synonym-grown c.text es new w (meaning c.text (reverse before ++ v) (bytes_at c.text w)) m (h before after n w e)

  sound-more : (es new : List ClassEntry) (s : Scope) (v : List Statement) (a : List Scope) → Stands c s v a → AddsSynonyms c.text v (statements_of c s) es new → AreSound es → AreSound new
  sound-more es new s v a st k h = λ i e w t o. elim (k.sound i e w t o) [
    | inl p ↦ h i e w p o
    | inr p ↦ record {
      scope = s;
      visible = v;
      enclosing = a;
      stands = st;
      before = p.before;
      after = p.after;
      name = p.name;
      splits = p.splits;
      meaning = p.meaning;
    }
  ]

  sound-none : AreSound []
  sound-none = λ i e w t o. let q : None ≡ Some e = t in absurd (cc q)

  nested_bodies-pending : (es : List ClassEntry) (s : Scope) (v : List Statement) (a : List Scope) (rs : List NestedBody) → Stands c s v a →
      Each (IsNestedBody c.text es (table_place c s) v (statements_of c s)) rs → Each (IsPending es) rs
  nested_bodies-pending es s v a [] k h = tt
  nested_bodies-pending es s v a (r ∷ rs) k h = (
    record {
      visible = reverse h.0.before ++ v;
      enclosing = s ∷ a;
      stands = nested s v a h.0.before h.0.after h.0.statement r.body k h.0.splits h.0.there;
      shows = h.0.shows;
      parent = h.0.parent;
    },
    nested_bodies-pending es s v a rs k h.1,
  )

  pub walked-first : (es : List ClassEntry) (rs : List NestedBody) (k : WrittenScope) → IsNested c → AreWritten c.text es k.written.items (placed [] c.statements) → written_ports k.written.items ≡ ports_in c.statements → k.parent ≡ length c.bodies →
      AreNestedBodies c.text es (length c.bodies) [] c.statements [] rs → AddsSynonyms c.text [] c.statements [] es → Walked es rs (k ∷ [])
  walked-first es rs k n w ports o r y = record {
    left = length c.bodies;
    count = omega arith;
    nests = subst (λ x. Nests c.bodies 0 (places x) (length c.bodies)) (sym r.is) (subst (λ x. Nests c.bodies 0 x (length c.bodies)) (sym r.bodies) n);
    pending = subst (Each (IsPending es)) (sym r.is) (nested_bodies-pending es whole [] [] r.more at_top r.each);
    first = k;
    first_there = refl;
    first_is = record { written = w; ports = ports; parent = o };
    first_synonyms = y.complete;
    sound = sound-more [] es whole [] [] at_top y sound-none;
    done = λ p l m. absurd (omega (arith, l, m));
  }

  each-front : {X : Type 0} (P : X → Type 0) (xs : List X) (y : X) → Each P (xs ++ y ∷ []) → Each P xs × P y
  each-front P [] y h = (tt, h.0)
  each-front P (x ∷ xs) y h = let r = each-front P xs y h.1 in ((h.0, r.0), r.1)

  -- what holds of the body that is taken next
  pub record IsTaken (es : List ClassEntry) (rs : List NestedBody) (r : NestedBody) (ks : List WrittenScope) : Type 0 where
    pub pending : IsPending es r
    pub last : LastBody c.bodies 0 (places rs) r.body (r.body + 1)
    pub count : r.body + 1 + length ks ≡ length c.bodies + 1
    pub rest : Each (IsPending es) rs
    pub done : (p : ℕ) → r.body + 1 ≤ p → p < length c.bodies → IsDone es ks p

  pub taken : (es : List ClassEntry) (all rs : List NestedBody) (r : NestedBody) (ks : List WrittenScope) → all ≡ rs ++ r ∷ [] → Walked es all ks → IsTaken es rs r ks
  taken es all rs r ks e w =
      let n : Nests c.bodies 0 (places rs ++ r.body ∷ []) w.left =
      subst (λ x. Nests c.bodies 0 x w.left) (ap places e ∙ map-append (λ (x : NestedBody). x.body) rs (r ∷ [])) w.nests in
      let l = nests-last c.bodies 0 (places rs) r.body w.left n in
      let f = each-front (IsPending es) rs r (subst (Each (IsPending es)) e w.pending) in
      record {
        pending = f.1;
        last = record { next = refl; within = l.within; middle = l.middle; before = l.before; inside = l.inside };
        count = ap (λ x. x + length ks) l.next ∙ w.count;
        rest = f.0;
        done = λ p q m. w.done p (omega (arith, l.next, q)) m;
      }

  done-grown : (es new : List ClassEntry) (ks ls : List WrittenScope) (k : WrittenScope) (p : ℕ) → ls ≡ ks ++ k ∷ [] → IsMore es new → IsDone es ks p → IsDone new ls p
  done-grown es new ks ls k p e m d = record {
    visible = d.visible;
    enclosing = d.enclosing;
    scope = d.scope;
    stands = d.stands;
    there = ap (λ x. slice_get x (length c.bodies - p)) e ∙ slice_get-more ks (k ∷ []) (length c.bodies - p) d.scope d.there;
    is = scope-grown es new (inside p) d.visible d.enclosing d.scope m d.is;
    synonyms = all-grown es new (inside p) d.visible m d.synonyms;
  }

  done-next : (es new : List ClassEntry) (ks ls : List WrittenScope) (k : WrittenScope) (b x : ℕ) → ls ≡ ks ++ k ∷ [] → IsMore es new → IsDone new ls b →
      ((p : ℕ) → b + 1 ≤ p → p < length c.bodies → IsDone es ks p) → b ≤ x → x < length c.bodies → IsDone new ls x
  done-next es new ks ls k b x e m h f l n =
      elim (cases_order x b) [
        | inl q ↦ subst (IsDone new ls) (sym q) h
        | inr (inl q) ↦ absurd (omega (arith, l, q))
        | inr (inr q) ↦ done-grown es new ks ls k x e m (f x (omega (arith, q)) n)
      ]

  at_end : (b m n : ℕ) → b + 1 + m ≡ n + 1 → n - b ≡ m
  at_end b m n h = omega (arith, h)

  pub walked-next : (es new : List ClassEntry) (all rs more : List NestedBody) (r : NestedBody) (ks ls : List WrittenScope) (k : WrittenScope) → all ≡ rs ++ r ∷ [] → Walked es all ks → IsMore es new →
      ((v : List Statement) → Shows c.text es r.visible_class v → AreWritten c.text new k.written.items (placed v (statements_of c (inside r.body)))) →
      written_ports k.written.items ≡ ports_in (statements_of c (inside r.body)) → k.parent ≡ r.parent →
      ((v : List Statement) → Shows c.text es r.visible_class v → AreNestedBodies c.text new r.body v (statements_of c (inside r.body)) rs more) →
      ((v : List Statement) → Shows c.text es r.visible_class v → AddsSynonyms c.text v (statements_of c (inside r.body)) es new) →
      ls ≡ ks ++ k ∷ [] → Walked new more ls
  walked-next es new all rs more r ks ls k e w m f ports o g y p =
      let t = taken es all rs r ks e w in
      let v = t.pending.visible in let a = t.pending.enclosing in
      let q = g v t.pending.shows in
      let b = r.body in
      let len : length ls ≡ length ks + 1 = ap length p ∙ length_push ks k in
      let count = t.count in
      record {
        left = b;
        count = omega (arith, len, count);
        nests = subst (λ x. Nests c.bodies 0 (places x) b) (sym q.is)
            (subst (λ x. Nests c.bodies 0 x b) (sym (map-append (λ (x : NestedBody). x.body) rs q.more ∙ ap (λ x. places rs ++ x) q.bodies))
            (nests-append c.bodies 0 (places rs) t.last.middle (inner c.bodies b) b t.last.before t.last.inside));
        pending = subst (Each (IsPending new)) (sym q.is)
            (each-append (IsPending new) rs q.more (pending-grown es new rs m t.rest) (nested_bodies-pending new (inside b) v a q.more t.pending.stands q.each));
        first = w.first;
        first_there = ap (λ x. slice_get x 0) p ∙ slice_get-more ks (k ∷ []) 0 w.first w.first_there;
        first_is = scope-grown es new whole [] [] w.first m w.first_is;
        first_synonyms = all-grown es new whole [] m w.first_synonyms;
        sound = sound-more es new (inside b) v a t.pending.stands (y v t.pending.shows) w.sound;
        done = λ x l n. done-next es new ks ls k b x p m
            (record {
              visible = v;
              enclosing = a;
              scope = k;
              stands = t.pending.stands;
              there = ap (λ y. slice_get y (length c.bodies - b)) p ∙ ap (slice_get (ks ++ k ∷ [])) (at_end b (length ks) (length c.bodies) count) ∙ slice_get-last ks k;
              is = record { written = f v t.pending.shows; ports = ports; parent = o ∙ t.pending.parent };
              synonyms = (y v t.pending.shows).complete;
            }) t.done l n;
      }

  -- the index of a body in a scope is an index of a body
  stands-within : IsNested c → (t : Scope) (b : ℕ) → Contains (direct (statements_of c t)) b → b < length c.bodies
  stands-within n whole b i = (nested_body-range c.bodies 0 (direct c.statements) (length c.bodies) b n i).1
  stands-within n (inside q) b i =
      let l = place-in c.bodies q b i in
      let r = child-range c.bodies 0 (direct c.statements) (length c.bodies) q b n (omega arith) l i in
      omega (arith, r.1, l)

  pub inside-within : IsNested c → (s : Scope) (v : List Statement) (a : List Scope) → Stands c s v a → (p : ℕ) → s ≡ inside p → p < length c.bodies
  inside-within n s v a at_top p q = absurd (cc q)
  inside-within n s v a (nested t visible enclosing before after st b h e i) p q =
      let same : b ≡ p = cc q in
      let l = stands-within n t b (subst (λ x. Contains (direct x) b) (sym e) (direct-has c.bodies before st after b i)) in
      omega (arith, l, same)

  slice_get-reverse : {X : Type 0} (xs : List X) (i j : ℕ) (d : X) → i < length xs → j + i + 1 ≡ length xs → slice_get (reverse xs) i ≡ slice_get xs j
  slice_get-reverse xs i j d l e =
      let k : length xs - 1 - i ≡ j = omega (arith, l, e) in
      slice_get-get_or (reverse xs) i d (omega (arith, l, length-reverse xs))
      ∙ ap Some (get_or-reverse xs i d l ∙ ap (λ n. get_or xs n d) k)
      ∙ sym (slice_get-get_or xs j d (omega (arith, e)))

  pub walked-all : (es : List ClassEntry) (rs : List NestedBody) (ks : List WrittenScope) → IsNested c → rs ≡ [] → Walked es rs ks → AreWrittenScopes c es (reverse ks)
  walked-all es rs ks n e w s v a st = by_scope s st
    where
      none : 0 ≡ w.left
      none = nests-end c.bodies 0 w.left (subst (λ x. Nests c.bodies 0 (places x) w.left) e w.nests)

      count : length ks ≡ length c.bodies + 1
      count = let x = w.count in let y = none in omega arith

      by_whole : (v : List Statement) (a : List Scope) → Stands c whole v a → (k : WrittenScope) × (slice_get (reverse ks) (length c.bodies) ≡ Some k) × IsWrittenScope c es whole v a k
      by_whole v a at_top =
          (w.first, slice_get-reverse ks (length c.bodies) 0 w.first (let x = count in omega arith) (let x = count in omega arith) ∙ w.first_there, w.first_is)

      by_body : (p : ℕ) → Stands c (inside p) v a → (k : WrittenScope) × (slice_get (reverse ks) p ≡ Some k) × IsWrittenScope c es (inside p) v a k
      by_body p h =
          let l = inside-within n (inside p) v a h p refl in
          let d = w.done p (let x = none in omega arith) l in
          let o = stands-once c n (inside p) v d.visible a d.enclosing h d.stands in (
            d.scope,
            slice_get-reverse ks p (length c.bodies - p) w.first (let x = count in omega (arith, l)) (let x = count in omega (arith, l)) ∙ d.there,
            subst (λ x. IsWrittenScope c es (inside p) x a d.scope) (sym o.0) (subst (λ x. IsWrittenScope c es (inside p) d.visible x d.scope) (sym o.1) d.is),
          )

      by_scope : (s : Scope) → Stands c s v a → (k : WrittenScope) × (slice_get (reverse ks) (table_place c s) ≡ Some k) × IsWrittenScope c es s v a k
      by_scope whole h = by_whole v a h
      by_scope (inside p) h = by_body p h

  pub walked-synonyms : (es : List ClassEntry) (rs : List NestedBody) (ks : List WrittenScope) → IsNested c → rs ≡ [] → Walked es rs ks → AreSynonyms c es
  walked-synonyms es rs ks n e w = record {
    sound = w.sound;
    complete = λ s v a before after m x st q. let h = by_scope s v a st before after m x q in (h.place, h.entry, h.there, h.is, h.class);
  }
    where
      none : 0 ≡ w.left
      none = nests-end c.bodies 0 w.left (subst (λ x. Nests c.bodies 0 (places x) w.left) e w.nests)

      by_whole : (v : List Statement) (a : List Scope) → Stands c whole v a → HasAll es whole v
      by_whole v a at_top = w.first_synonyms

      by_body : (p : ℕ) (v : List Statement) (a : List Scope) → Stands c (inside p) v a → HasAll es (inside p) v
      by_body p v a h =
          let d = w.done p (let x = none in omega arith) (inside-within n (inside p) v a h p refl) in
          let o = stands-once c n (inside p) v d.visible a d.enclosing h d.stands in
          subst (HasAll es (inside p)) (sym o.0) d.synonyms

      by_scope : (s : Scope) (v : List Statement) (a : List Scope) → Stands c s v a → HasAll es s v
      by_scope whole v a h = by_whole v a h
      by_scope (inside p) v a h = by_body p v a h

  -- the first step of the walk, for the values that the code reads
  pub walk-first : (text : List ℕ) (ss : List Statement) (n : ℕ) (es : List ClassEntry) (rs0 rs : List NestedBody) (ks0 ks : List WrittenScope) (k : WrittenScope) →
      ks ≡ ks0 ++ k ∷ [] → ks0 ≡ [] → rs0 ≡ [] → text ≡ c.text → ss ≡ c.statements → n ≡ length c.bodies → IsNested c →
      AreWritten text es k.written.items (placed [] ss) → written_ports k.written.items ≡ ports_in ss → k.parent ≡ n → AreNestedBodies text es n [] ss rs0 rs →
      (es0 : List ClassEntry) → es0 ≡ [] → AddsSynonyms text [] ss es0 es → Walked es rs ks
  walk-first text ss n es rs0 rs ks0 ks k e e0 r0 te se ne is_nested w ports o r es0 y0 y =
      subst (Walked es rs) (sym (e ∙ ap (λ x. x ++ k ∷ []) e0))
      (walked-first es rs k is_nested
      (subst (λ x. AreWritten x es k.written.items (placed [] c.statements)) te (subst (λ x. AreWritten text es k.written.items (placed [] x)) se w))
      (ports ∙ ap ports_in se)
      (o ∙ ne)
      (subst (λ x. AreNestedBodies x es (length c.bodies) [] c.statements [] rs) te
      (subst (λ x. AreNestedBodies text es x [] c.statements [] rs) ne
      (subst (λ x. AreNestedBodies text es n [] x [] rs) se
      (subst (λ x. AreNestedBodies text es n [] ss x rs) r0 r))))
      (subst (λ x. AddsSynonyms x [] c.statements [] es) te
      (subst (λ x. AddsSynonyms text [] x [] es) se
      (subst (λ x. AddsSynonyms text [] ss x es) y0 y))))

  pub walk-next : (text : List ℕ) (ss : List Statement) (es new : List ClassEntry) (all rs more : List NestedBody) (r : NestedBody) (ks ls : List WrittenScope) (k : WrittenScope) →
      ls ≡ ks ++ k ∷ [] → all ≡ rs ++ r ∷ [] → text ≡ c.text → ss ≡ statements_of c (inside r.body) → Walked es all ks → IsMore es new →
      ((v : List Statement) → Shows text es r.visible_class v → AreWritten text new k.written.items (placed v ss)) → written_ports k.written.items ≡ ports_in ss → k.parent ≡ r.parent →
      ((v : List Statement) → Shows text es r.visible_class v → AreNestedBodies text new r.body v ss rs more) →
      ((v : List Statement) → Shows text es r.visible_class v → AddsSynonyms text v ss es new) → Walked new more ls
  walk-next text ss es new all rs more r ks ls k p e te se w m f ports o g y =
      walked-next es new all rs more r ks ls k e w m
      (λ v h. subst (λ x. AreWritten x new k.written.items (placed v (statements_of c (inside r.body)))) te
      (subst (λ x. AreWritten text new k.written.items (placed v x)) se (f v (subst (λ x. Shows x es r.visible_class v) (sym te) h))))
      (ports ∙ ap ports_in se)
      o
      (λ v h. subst (λ x. AreNestedBodies x new r.body v (statements_of c (inside r.body)) rs more) te
      (subst (λ x. AreNestedBodies text new r.body v x rs more) se (g v (subst (λ x. Shows x es r.visible_class v) (sym te) h))))
      (λ v h. subst (λ x. AddsSynonyms x v (statements_of c (inside r.body)) es new) te
      (subst (λ x. AddsSynonyms text v x es new) se (y v (subst (λ x. Shows x es r.visible_class v) (sym te) h))))
      p
