-- The owners of the ends of connections.
use Rattle.std.proofs.Common.{◌≡◌, ◌⊎◌, inl, inr, ℕ, suc, zero, ◌+◌, ◌<◌, ◌≤◌, List, [], ◌∷◌, ◌++◌, length, get_or, take, Bool, true, false, ◌&&◌, ◌||◌, cond, Option, Some, None, refl, sym, ap, ◌∙◌, subst, arith, position}
use Rattle.std.specs.List.{slice_get, position_from, cons_option}
use Rattle.std.specs.Str.{bytes_eq}
use Rattle.std.proofs.lemmas.Slice.Eq.{bytes_eq-Decides}
use Rattle.std.proofs.lemmas.Option.{slice_get-map, slice_get-get_or, get_or_from_slice_get}
use Rattle.std.proofs.lemmas.List.{take_more, take_all, length-map}
use Rattle.std.specs.Option.{option_map}
use Rattle.click_text.specs.declared.syntax.Span.{Span}
use Rattle.click_text.specs.declared.syntax.Head.{Head}
use Rattle.click_text.specs.declared.syntax.Head.TheVariants as head
use Rattle.click_text.specs.declared.syntax.Element.{Element}
use Rattle.click_text.specs.declared.syntax.Config.{Config}
use Rattle.click_text.specs.Spans.{bytes_at}
use Rattle.click_scopes.specs.Elements.{Placed, Role, pseudo, refers, makes, role, role_of_head, word_of, is_port_name, input_name, output_name, count_with, head_name, declared_names, element_meaning, made_name, ScopeElement, scope_element, scope_elements_from}
use Rattle.click_base.specs.NameLists.{has_name}
use Rattle.click_scopes.specs.Faults.{ScopeNames, end_by, written_end, first_token, number_behind, number_after_all, is_declared_as, declared_meaning}
use Rattle.click_scopes.specs.kept.Tables.{elements_of, names_declared, numbers_from}
use Rattle.click_scopes.specs.kept.WrittenConnections.{IsOwner, IsEndKept}
use Rattle.click_scopes.specs.kept.FirstFault.{first_in}
use Rattle.click_text.specs.declared.syntax.Body.{Body}
use Rattle.click_scopes.specs.kept.ConnectionEnds.{placed_elements, names_among, scope_elements_in, at, declares, AreDeclared, AreNamesKnown, IsHere, AreEndsKept}
use Rattle.click_scopes.specs.declared.written_connections.Owner.TheVariants as owner
use Rattle.click_scopes.specs.declared.written_connections.End.{End as EndKept}
use Rattle.click_scopes.specs.declared.written_scopes.WrittenElement.{WrittenElement}
use Rattle.click_scopes.proofs.OfElements.ElementTables.{role-same}
use Rattle.click_scopes.proofs.OfElements.DeclaredNames.{position-from, some-within}

pub some_same : {X : Type 0} {x y : X} → Some x ≡ Some y → x ≡ y
some_same h = cc h

module _ (c : Config) (names : ScopeNames) where
  pub numbers-after : (n : ℕ) (ps : List Placed) (i : ℕ) (p : Placed) → slice_get ps i ≡ Some p →
      slice_get (numbers_from c.text names.in_body names.declared n (placed_elements ps)) i ≡ Some (number_after_all c names n (take i ps))
  unfolding numbers_from number_after_all
  numbers-after n [] i p h = absurd (cc h)
  numbers-after n (q ∷ ps) zero p h = refl
  numbers-after n (q ∷ ps) (suc i) p h = numbers-after (number_behind c names n q) ps i p h

module _ (text : List ℕ) (b : Bool) (d : List (List ℕ)) where
  -- the written element p makes element m of its scope
  pub record IsMade (n : ℕ) (ps : List Placed) (m : ℕ) (p : Placed) : Type 0 where
    pub place : ℕ
    pub is : m ≡ n + place
    pub there : slice_get (scope_elements_from text b d n ps) place ≡ Some (scope_element text m p)

  made-behind : (n : ℕ) (q : Placed) (ps : List Placed) (m : ℕ) (p : Placed) (r : Role) → role text b d q.element ≡ r → IsMade (count_with r n) ps m p → IsMade n (q ∷ ps) m p
  unfolding scope_elements_from
  made-behind n q ps m p pseudo e h = record { place = h.place; is = h.is; there = rw e h.there }
  made-behind n q ps m p refers e h = record { place = h.place; is = h.is; there = rw e h.there }
  made-behind n q ps m p makes e h = record { place = suc h.place; is = (let i = h.is in omega (arith, i)); there = rw e h.there }

  pub made-there : (n : ℕ) (ps : List Placed) (i : ℕ) (p : Placed) (m : ℕ) → slice_get ps i ≡ Some p → slice_get (numbers_from text b d n (placed_elements ps)) i ≡ Some m →
      role text b d p.element ≡ makes → IsMade n ps m p
  unfolding numbers_from scope_elements_from
  made-there n [] i p m h k r = absurd (cc h)
  made-there n (q ∷ ps) zero p m h k r =
      let e : q ≡ p = some_same h in
      let f : n ≡ m = some_same k in
      let g : role text b d q.element ≡ makes = ap (λ (x : Placed). role text b d x.element) e ∙ r in
      record { place = 0; is = omega (arith, f); there = rw g (ap (λ x. Some (scope_element text x q)) f ∙ ap (λ x. Some (scope_element text m x)) e) }
  made-there n (q ∷ ps) (suc i) p m h k r =
      made-behind n q ps m p (role text b d q.element) refl (made-there (count_with (role text b d q.element) n) ps i p m h k r)

  pub refers-declared : (h : Head) (t : Option Span) → role_of_head text b d h t ≡ refers → has_name (word_of text h) d ≡ true
  refers-declared (head.Word s) None e = by_tests (b && is_port_name (bytes_at text s)) (has_name (bytes_at text s) d) e
    where
      by_tests : (x y : Bool) → cond x pseudo (cond y refers makes) ≡ refers → y ≡ true
      by_tests true y f = absurd (cc f)
      by_tests false true f = refl
      by_tests false false f = absurd (cc f)
  refers-declared (head.Word s) (Some t) e = absurd (cc e)
  refers-declared (head.Declared s g) t e = absurd (cc e)
  refers-declared (head.Compound g) t e = absurd (cc e)

  pub pseudo-port : (h : Head) (t : Option Span) → role_of_head text b d h t ≡ pseudo → is_port_name (word_of text h) ≡ true
  pseudo-port (head.Word s) None e = by_tests b (is_port_name (bytes_at text s)) (has_name (bytes_at text s) d) e
    where
      by_tests : (x y z : Bool) → cond (x && y) pseudo (cond z refers makes) ≡ pseudo → y ≡ true
      by_tests true true z f = refl
      by_tests true false true f = absurd (cc f)
      by_tests true false false f = absurd (cc f)
      by_tests false y true f = absurd (cc f)
      by_tests false y false f = absurd (cc f)
  pseudo-port (head.Word s) (Some t) e = absurd (cc e)
  pseudo-port (head.Declared s g) t e = absurd (cc e)
  pseudo-port (head.Compound g) t e = absurd (cc e)

  pub declared-makes : (q : List ℕ) (h : Head) (t : Option Span) → is_declared_as text q (head_name text h) ≡ true → role_of_head text b d h t ≡ makes
  declared-makes q (head.Word s) t e = absurd (cc e)
  declared-makes q (head.Declared s g) t e = refl
  declared-makes q (head.Compound g) t e = absurd (cc e)

module _ (text : List ℕ) where
  pub declared-named : (q : List ℕ) (n : ℕ) (h : Head) → is_declared_as text q (head_name text h) ≡ true → made_name text n h ≡ q
  declared-named q n (head.Word s) e = absurd (cc e)
  declared-named q n (head.Declared s g) e = (bytes_eq-Decides (bytes_at text s) q).0 e
  declared-named q n (head.Compound g) e = absurd (cc e)

  -- the first element that is declared under a name
  pub record IsFirst (q : List ℕ) (ps : List Placed) (i : ℕ) : Type 0 where
    pub element : Placed
    pub there : slice_get ps i ≡ Some element
    pub declared : declares text q element.element ≡ true
    pub meaning : declared_meaning text ps q ≡ element_meaning text element

  first-from : (q : List ℕ) (j : ℕ) (ps : List Placed) → (has_name q (declared_names text ps) ≡ false)
      ⊎ ((k : ℕ) × (position_from (declares text q) j (placed_elements ps) ≡ Some (j + k)) × IsFirst q ps k)
  first-from q j [] = inl refl
  first-from q j (p ∷ ps) = by_test (first-from q (j + 1) ps) (declares text q p.element) refl
    where
      apart : (o : Option (List ℕ)) → is_declared_as text q o ≡ false → (ns : List (List ℕ)) → has_name q ns ≡ false → has_name q (cons_option o ns) ≡ false
      apart None e ns h = h
      apart (Some n) e ns h = by_eq (bytes_eq q n) refl
        where
          by_eq : (b : Bool) → bytes_eq q n ≡ b → (b || has_name q ns) ≡ false
          by_eq true f = absurd (let s : bytes_eq n q ≡ true = (bytes_eq-Decides n q).1 (sym ((bytes_eq-Decides q n).0 f)) in cc (s, e))
          by_eq false f = h

      by_test : (has_name q (declared_names text ps) ≡ false) ⊎ ((k : ℕ) × (position_from (declares text q) (j + 1) (placed_elements ps) ≡ Some ((j + 1) + k)) × IsFirst q ps k) →
          (t : Bool) → declares text q p.element ≡ t →
          (has_name q (declared_names text (p ∷ ps)) ≡ false)
          ⊎ ((k : ℕ) × (cond t (Some j) (position_from (declares text q) (j + 1) (placed_elements ps)) ≡ Some (j + k)) × IsFirst q (p ∷ ps) k)
      by_test r true e = inr (0, ap Some (omega arith), record { element = p; there = refl; declared = e; meaning = rw e refl })
      by_test (inl r) false e = inl (apart (head_name text p.element.head) e (declared_names text ps) r)
      by_test (inr r) false e =
          inr (suc r.0, r.1 ∙ ap Some (let z : (j + 1) + r.0 ≡ j + suc r.0 = omega arith in z), record { element = r.2.element; there = r.2.there; declared = r.2.declared; meaning = rw e (r.2.meaning) })

  pub first-there : (q : List ℕ) (ps : List Placed) → has_name q (declared_names text ps) ≡ true →
      (k : ℕ) × (position (declares text q) (placed_elements ps) ≡ Some k) × IsFirst q ps k
  first-there q ps h = by_part (first-from q 0 ps)
    where
      by_part : (has_name q (declared_names text ps) ≡ false) ⊎ ((k : ℕ) × (position_from (declares text q) 0 (placed_elements ps) ≡ Some (0 + k)) × IsFirst q ps k) →
          (k : ℕ) × (position (declares text q) (placed_elements ps) ≡ Some k) × IsFirst q ps k
      by_part (inl r) = absurd (cc (r, h))
      by_part (inr r) = (r.0, position-from (declares text q) (placed_elements ps) ∙ r.1 ∙ ap Some (omega arith), r.2)

module _ (c : Config) (b : Bool) (ps : List Placed) (d : List (List ℕ)) (firsts numbers : List ℕ) (known : AreNamesKnown c.text b d firsts numbers ps)
    (number : ℕ) (e : Element) (p : Placed) (here : IsHere numbers number e ps p) where
  abbrev pub said : ScopeNames
  said = names_among c.text b ps

  abbrev pub ls : List ScopeElement
  ls = scope_elements_in c.text b ps

  same-role : (r : Role) → role c.text b d e ≡ r → role c.text b (declared_names c.text ps) p.element ≡ r
  same-role r h = ap (role c.text b (declared_names c.text ps)) here.element ∙ sym (role-same c.text b d (declared_names c.text ps) known.has e.head e.text) ∙ h

  made-number : (i : ℕ) (q : Placed) (m : ℕ) → slice_get ps i ≡ Some q → slice_get numbers i ≡ Some m → role c.text b (declared_names c.text ps) q.element ≡ makes →
      slice_get (scope_elements_in c.text b ps) m ≡ Some (scope_element c.text m q)
  made-number i q m h k r =
      let made = made-there c.text b (declared_names c.text ps) 0 ps i q m h (ap (λ ns. slice_get ns i) (sym known.counts) ∙ k) r in
      let at_m : m ≡ made.place = (let z = made.is in omega (arith, z)) in
      ap (slice_get (scope_elements_in c.text b ps)) at_m ∙ made.there

  pub owner-makes : role c.text b d e ≡ makes → IsOwner (scope_elements_in c.text b ps) (owner.Element number) (written_end c (names_among c.text b ps) number p)
  owner-makes h =
      let r = same-role makes h in
      subst (λ o. IsOwner (scope_elements_in c.text b ps) (owner.Element number) (end_by c (names_among c.text b ps) number p o)) (sym r)
      ((λ z. cc z), (scope_element c.text number p, made-number here.place p number here.there here.before r, refl, refl))

  pub owner-input : (w : List ℕ) → w ≡ word_of c.text e.head → role c.text b d e ≡ pseudo → bytes_eq w input_name ≡ true →
      IsOwner (scope_elements_in c.text b ps) owner.Input (written_end c (names_among c.text b ps) number p)
  owner-input w is h k =
      subst (λ o. IsOwner (scope_elements_in c.text b ps) owner.Input (end_by c (names_among c.text b ps) number p o)) (sym (same-role pseudo h))
      (refl, ap (λ (x : Element). word_of c.text x.head) here.element ∙ sym is ∙ (bytes_eq-Decides w input_name).0 k)

  pub owner-output : (w : List ℕ) → w ≡ word_of c.text e.head → role c.text b d e ≡ pseudo → bytes_eq w input_name ≡ false →
      IsOwner (scope_elements_in c.text b ps) owner.Output (written_end c (names_among c.text b ps) number p)
  owner-output w is h k =
      subst (λ o. IsOwner (scope_elements_in c.text b ps) owner.Output (end_by c (names_among c.text b ps) number p o)) (sym (same-role pseudo h))
      (refl, ap (λ (x : Element). word_of c.text x.head) here.element ∙ sym is ∙ (bytes_eq-Decides w output_name).0 (other (bytes_eq w input_name) (bytes_eq w output_name) k (ap is_port_name is ∙ pseudo-port c.text b d e.head e.text h)))
    where
      other : (x y : Bool) → x ≡ false → (x || y) ≡ true → y ≡ true
      other true y f g = absurd (cc f)
      other false y f g = g

  pub owner-refers : (w : List ℕ) → w ≡ word_of c.text e.head → role c.text b d e ≡ refers →
      (m : ℕ) × (at numbers (at firsts (position (bytes_eq w) d)) ≡ Some m) × IsOwner (scope_elements_in c.text b ps) (owner.Element m) (written_end c (names_among c.text b ps) number p)
  owner-refers w is h =
      let word : w ≡ word_of c.text p.element.head = is ∙ sym (ap (λ (x : Element). word_of c.text x.head) here.element) in
      let has : has_name w (declared_names c.text ps) ≡ true = sym (known.has w) ∙ ap (λ x. has_name x d) is ∙ refers-declared c.text b d e.head e.text h in
      let f = first-there c.text w ps has in
      let q = f.2.element in
      let m = number_after_all c (names_among c.text b ps) 0 (take f.0 ps) in
      let counted : slice_get numbers f.0 ≡ Some m = ap (λ ns. slice_get ns f.0) known.counts ∙ numbers-after c (names_among c.text b ps) 0 ps f.0 q f.2.there in
      let r : role c.text b (declared_names c.text ps) q.element ≡ makes = declared-makes c.text b (declared_names c.text ps) w q.element.head q.element.text f.2.declared in (
        m,
        ap (at numbers) (known.declared.first w ∙ f.1) ∙ counted,
        subst (λ o. IsOwner (scope_elements_in c.text b ps) (owner.Element m) (end_by c (names_among c.text b ps) number p o)) (sym (same-role refers h)) (
          (λ z. cc z),
          (
            scope_element c.text m q,
            made-number f.0 q m f.2.there counted r,
            declared-named c.text w m q.element.head f.2.declared ∙ word,
            sym f.2.meaning ∙ ap (declared_meaning c.text ps) word,
          ),
        ),
      )

pub first-in : (c : Config) (h : Head) (bodies : List Body) → bodies ≡ c.bodies → first_in bodies h ≡ first_token c h
first-in c (head.Word s) bodies e = refl
first-in c (head.Declared s d) bodies e = refl
first-in c (head.Compound b) bodies e = ap (λ x. first_in x (head.Compound b)) e

pub some-there : {X : Type 0} (xs : List X) (i : ℕ) → i < length xs → (x : X) × (slice_get xs i ≡ Some x)
some-there xs i l = by_part (slice_get xs i) refl
  where
    by_part : (o : Option _) → slice_get xs i ≡ o → (x : _) × (slice_get xs i ≡ Some x)
    by_part None e = absurd (some-within xs i l e)
    by_part (Some x) e = (x, e)

take-there : {X : Type 0} (xs : List X) (i : ℕ) (x : X) → i < length xs → slice_get xs i ≡ Some x → take (i + 1) xs ≡ take i xs ++ x ∷ []
take-there xs i x l h = take_more xs i x l ∙ ap (λ y. take i xs ++ y ∷ []) (get_or_from_slice_get xs i x x h)

module _ (ls : List ScopeElement) (c : Config) (names : ScopeNames) where
  ends-push : (n : ℕ) (ks : List EndKept) (ps : List Placed) (k : EndKept) (p : Placed) → AreEndsKept ls c names n ks ps → IsEndKept ls k (written_end c names (number_after_all c names n ps) p) →
      AreEndsKept ls c names n (ks ++ k ∷ []) (ps ++ p ∷ [])
  unfolding number_after_all
  ends-push n [] [] k p h e = (e, tt)
  ends-push n [] (q ∷ ps) k p h e = absurd h
  ends-push n (j ∷ ks) [] k p h e = absurd h
  ends-push n (j ∷ ks) (q ∷ ps) k p h e = (h.0, ends-push (number_behind c names n q) ks ps k p h.1 e)

  pub ends-none : (ps : List Placed) → AreEndsKept ls c names 0 [] (take 0 ps)
  ends-none [] = tt
  ends-none (p ∷ ps) = tt

module _ (c : Config) (b : Bool) (ps : List Placed) (d : List (List ℕ)) (firsts numbers : List ℕ) (known : AreNamesKnown c.text b d firsts numbers ps)
    (ws : List WrittenElement) (same : placed_elements ps ≡ elements_of ws) where
  as_many : length ps ≡ length ws
  as_many = sym (length-map ps (λ (p : Placed). p.element)) ∙ ap length same ∙ length-map ws (λ (w : WrittenElement). w.element)

  pub ends-next : (i : ℕ) (dw w : WrittenElement) (dn number : ℕ) (k : EndKept) (ks new : List EndKept) → i < length ws → w ≡ get_or ws i dw → i < length numbers → number ≡ get_or numbers i dn →
      ((q : Placed) → IsHere numbers number w.element ps q → IsEndKept (scope_elements_in c.text b ps) k (written_end c (names_among c.text b ps) number q)) → new ≡ ks ++ k ∷ [] →
      AreEndsKept (scope_elements_in c.text b ps) c (names_among c.text b ps) 0 ks (take i ps) → AreEndsKept (scope_elements_in c.text b ps) c (names_among c.text b ps) 0 new (take (i + 1) ps)
  ends-next i dw w dn number k ks new l is ln counted h e a =
      let names = names_among c.text b ps in
      let within : i < length ps = omega (arith, l, as_many) in
      let p = some-there ps i within in
      let there : slice_get numbers i ≡ Some number = slice_get-get_or numbers i dn ln ∙ ap Some (sym counted) in
      let after : number ≡ number_after_all c names 0 (take i ps) = some_same (sym there ∙ ap (λ ns. slice_get ns i) known.counts ∙ numbers-after c names 0 ps i p.0 p.1) in
      let element : p.0.element ≡ w.element =
      some_same (sym (slice_get-map (λ (x : Placed). x.element) ps i ∙ ap (option_map (λ (x : Placed). x.element)) p.1) ∙ ap (λ es. slice_get es i) same
      ∙ slice_get-map (λ (x : WrittenElement). x.element) ws i ∙ ap (option_map (λ (x : WrittenElement). x.element)) (slice_get-get_or ws i dw l) ∙ ap (λ (x : WrittenElement). Some x.element) (sym is)) in
      let end = h p.0 (record { place = i; there = p.1; before = there; element = element }) in
      subst (λ xs. AreEndsKept (scope_elements_in c.text b ps) c names 0 xs (take (i + 1) ps)) (sym e)
      (subst (AreEndsKept (scope_elements_in c.text b ps) c names 0 (ks ++ k ∷ [])) (sym (take-there ps i p.0 within p.1))
      (ends-push (scope_elements_in c.text b ps) c names 0 ks (take i ps) k p.0 a (subst (λ n. IsEndKept (scope_elements_in c.text b ps) k (written_end c names n p.0)) after end)))

  pub ends-all : (i : ℕ) (ks : List EndKept) → length ws ≤ i → AreEndsKept (scope_elements_in c.text b ps) c (names_among c.text b ps) 0 ks (take i ps) →
      AreEndsKept (scope_elements_in c.text b ps) c (names_among c.text b ps) 0 ks ps
  ends-all i ks l = subst (AreEndsKept (scope_elements_in c.text b ps) c (names_among c.text b ps) 0 ks) (take_all i ps (omega (arith, l, as_many)))

pub names-placed : (text : List ℕ) (ps : List Placed) → names_declared text (placed_elements ps) ≡ declared_names text ps
names-placed text [] = refl
names-placed text (p ∷ ps) = ap (cons_option (head_name text p.element.head)) (names-placed text ps)

module _ (text : List ℕ) (b : Bool) where
  pub numbers-length : (d : List (List ℕ)) (n : ℕ) (es : List Element) → length (numbers_from text b d n es) ≡ length es
  unfolding numbers_from
  numbers-length d n [] = refl
  numbers-length d n (e ∷ es) = ap suc (numbers-length d (count_with (role text b d e) n) es)

  numbers-same : (d e : List (List ℕ)) (same : (q : List ℕ) → has_name q d ≡ has_name q e) (n : ℕ) (es : List Element) → numbers_from text b d n es ≡ numbers_from text b e n es
  unfolding numbers_from
  numbers-same d e same n [] = refl
  numbers-same d e same n (x ∷ xs) =
      ap (λ r. n ∷ numbers_from text b d (count_with r n) xs) (role-same text b d e same x.head x.text)
      ∙ ap (λ ns. n ∷ ns) (numbers-same d e same (count_with (role text b e x) n) xs)

  pub known-by : (ws : List WrittenElement) (d : List (List ℕ)) (firsts numbers : List ℕ) (ps : List Placed) → AreDeclared text (elements_of ws) d firsts →
      ((q : List ℕ) → has_name q d ≡ has_name q (names_declared text (elements_of ws))) → numbers ≡ numbers_from text b d 0 (elements_of ws) → placed_elements ps ≡ elements_of ws →
      AreNamesKnown text b d firsts numbers ps
  known-by ws d firsts numbers ps h has counted same =
      let names : names_declared text (elements_of ws) ≡ declared_names text ps = ap (names_declared text) (sym same) ∙ names-placed text ps in
      let known : (q : List ℕ) → has_name q d ≡ has_name q (declared_names text ps) = λ q. has q ∙ ap (has_name q) names in
      record {
        declared = subst (λ es. AreDeclared text es d firsts) (sym same) h;
        has = known;
        counts = counted ∙ ap (numbers_from text b d 0) (sym same) ∙ numbers-same d (declared_names text ps) known 0 (placed_elements ps);
      }
