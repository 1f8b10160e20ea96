-- The steps that are left to write a text, and why writing it ends.
use Rattle.std.proofs.Common.{◌≡◌, ℕ, zero, suc, ◌+◌, ◌-◌, ◌<◌, ◌≤◌, List, [], ◌∷◌, ◌++◌, length, take, drop, get_or, Bool, true, false, Result, Ok, Err, IfOk, nat_eq, inl, inr, if◌then◌else◌, Some, refl, sym, ap, ◌∙◌, subst, arith, append_assoc, length-append}
use Rattle.std.specs.List.{slice_get}
use Rattle.std.specs.Map.{lookup}
use Rattle.std.proofs.Math.Seq.{drop-append_seam}
use Rattle.std.proofs.lemmas.Bool.{and_parts, eqb-true, cases_Bool}
use Rattle.std.proofs.lemmas.List.{append-nil, take_rest, take-append-le, drop-append-le, length-drop}
use Rattle.std.proofs.lemmas.Option.{same_Some, slice_get-get_or}
use Rattle.click_text.specs.declared.syntax.Span.{Span}
use Rattle.click_text.specs.declared.syntax.Config.{Config}
use Rattle.click_text.specs.Items.{AreItems, ended}
use Rattle.click_text.specs.Spans.{bytes_at}
use Rattle.click_text.proofs.OfItems.OneItemList.{items_once}
use Rattle.click_text.proofs.OfItems.ItemExistence.{reading}
use Rattle.click_expand.specs.Parameters.{replaced, value_in, IsReplaced}
use Rattle.click_expand.specs.Instances.{PrimitiveElement}
use Rattle.click_expand.specs.kept.KnownInstances.{KnownInstance, the_whole, AreInstances}
use Rattle.click_expand.specs.kept.ParameterValues.{IsRead, IsOwn, own_arguments}
use Rattle.click_expand.specs.kept.Spread.{IsReadAt, Parts}
use Rattle.click_expand.specs.kept.Buffered.{same_argument, IsArgumentKept, AreKept, IsTextStep, AreSteps, BeginWithin, IsRest, costs, price, step_weight, weight}
use Rattle.click_expand.specs.declared.instances.tree.Place.{Place}
use Rattle.click_expand.specs.declared.instances.tree.Instance.{Instance as InstanceKept}
use Rattle.click_expand.specs.declared.texts.parameter_values.Argument.{Argument}
use Rattle.click_expand.specs.declared.texts.parameter_values.UnreadText.{UnreadText}
use Rattle.click_expand.specs.declared.texts.parameter_values.ParameterValue.{ParameterValue}
use Rattle.click_expand.specs.declared.texts.writing.TextPart.TheVariants as part
use Rattle.click_expand.specs.declared.texts.writing.TextStep.{TextStep}
use Rattle.click_expand.specs.declared.texts.writing.TextStep.TheVariants as step
use Rattle.click_expand.specs.declared.texts.text_buffer.TextBuffer.{TextBuffer}

pub no-length : (xs : List ℕ) → length xs ≡ 0 → xs ≡ []
no-length [] e = refl
no-length (x ∷ xs) e = absurd (omega (arith, e))

costs-least : (p : ℕ) (t : List ℕ) → p ≤ costs p t
costs-least p [] = omega arith
costs-least p (b ∷ t) = omega arith

costs-drop : (p n : ℕ) (t : List ℕ) → costs p (drop n t) ≤ costs p t
costs-drop p zero t = omega arith
costs-drop p (suc n) [] = omega arith
costs-drop p (suc n) (b ∷ t) = let h = costs-drop p n t in omega (arith, h)

costs-less : (p n : ℕ) (t : List ℕ) → 0 < n → n ≤ length t → costs p (drop n t) + p ≤ costs p t
costs-less p zero t l m = absurd (omega (arith, l))
costs-less p (suc n) [] l m = absurd (omega (arith, m))
costs-less p (suc n) (b ∷ t) l m = let h = costs-drop p n t in omega (arith, h)

costs-longer : (p : ℕ) (s t : List ℕ) → length s ≤ length t → costs p s ≤ costs p t
costs-longer p [] t l = costs-least p t
costs-longer p (b ∷ s) [] l = absurd (omega (arith, l))
costs-longer p (b ∷ s) (d ∷ t) l = let h = costs-longer p s t (omega (arith, l)) in omega (arith, h)

price-some : (text : List ℕ) (u : ℕ) → 0 < price text u
price-some text zero = omega arith
price-some text (suc u) = omega arith

at-zero : (text : List ℕ) (u : ℕ) → price text u ≤ price text (0 + u)
at-zero text u = let e : u ≡ 0 + u = omega arith in let f = ap (price text) e in omega (arith, f)

price-from : (text : List ℕ) (v n : ℕ) → price text (suc v) ≤ price text (n + suc v)
price-from text v zero = at-zero text (suc v)
price-from text v (suc n) = let h = price-from text v n in let k = costs-least (price text (n + suc v)) text in let e : suc (n + suc v) ≡ suc n + suc v = omega arith in let f = ap (price text) e in omega (arith, h, k, f)

price-more : (text : List ℕ) (v u : ℕ) → v < u → 2 + costs (price text v) text ≤ price text u
price-more text v u l =
    let e : u - suc v + suc v ≡ u = omega (arith, l) in
    subst (λ w. 2 + costs (price text v) text ≤ price text w) e (price-from text v (u - suc v))

weight-push : (text : List ℕ) (ss : List TextStep) (s : TextStep) → weight text (ss ++ s ∷ []) ≡ weight text ss + step_weight text s
weight-push text [] s = omega arith
weight-push text (q ∷ ss) s = let h = weight-push text ss s in omega (arith, h)

abbrev cost : List ℕ → UnreadText → ℕ
cost text r = costs (price text r.within) r.rest.now

rest-less : (text : List ℕ) (r q : UnreadText) (n : ℕ) → IsRest r n q → 0 < n → n ≤ length r.rest.now → cost text q + price text r.within ≤ cost text r
rest-less text r q n i l m =
    subst (λ z. z + price text r.within ≤ cost text r) (sym (ap (λ z. costs (price text z) q.rest.now) i.0 ∙ ap (costs (price text r.within)) i.1)) (costs-less (price text r.within) n r.rest.now l m)

pub ends-empty : (text : List ℕ) (ss : List TextStep) (r : UnreadText) → weight text ss < weight text (ss ++ step.Read r ∷ [])
ends-empty text ss r = let k = costs-least (price text r.within) r.rest.now in let p = price-some text r.within in omega (arith, weight-push text ss (step.Read r), k, p)

pub ends-keep : (text : List ℕ) (ss : List TextStep) (a : Argument) (start : ℕ) → weight text ss < weight text (ss ++ step.Keep a start ∷ [])
ends-keep text ss a start = omega (arith, weight-push text ss (step.Keep a start))

pub ends-rest : (text : List ℕ) (ss new : List TextStep) (r q : UnreadText) (n : ℕ) → new ≡ ss ++ step.Read q ∷ [] → IsRest r n q → 0 < n → n ≤ length r.rest.now → weight text new < weight text (ss ++ step.Read r ∷ [])
ends-rest text ss new r q n f i l m =
    let k = ap (weight text) f in let s = rest-less text r q n i l m in let p = price-some text r.within in
    omega (arith, k, s, p, weight-push text ss (step.Read r), weight-push text ss (step.Read q))

pub ends-value : (text : List ℕ) (ss new more most : List TextStep) (r q v : UnreadText) (a : Argument) (start n : ℕ) →
    new ≡ ss ++ step.Read q ∷ [] → more ≡ new ++ step.Keep a start ∷ [] → most ≡ more ++ step.Read v ∷ [] → IsRest r n q → 0 < n → n ≤ length r.rest.now →
    v.within < r.within → length v.rest.now ≤ length text → weight text most < weight text (ss ++ step.Read r ∷ [])
ends-value text ss new more most r q v a start n f g h i l m b w =
    let k = ap (weight text) f in let j = ap (weight text) g in let y = ap (weight text) h in let s = rest-less text r q n i l m in
    let p = price-more text v.within r.within b in let o = costs-longer (price text v.within) v.rest.now text w in
    omega (arith, k, j, y, s, p, o, weight-push text ss (step.Read r), weight-push text ss (step.Read q), weight-push text new (step.Keep a start), weight-push text more (step.Read v))

begin-more : (n m : ℕ) (ss : List TextStep) → n ≤ m → BeginWithin n ss → BeginWithin m ss
begin-more n m [] l h = tt
begin-more n m (step.Read r ∷ ss) l h = begin-more n m ss l h
begin-more n m (step.Keep a start ∷ ss) l h = let i = h.0 in (omega (arith, i, l), begin-more n m ss l h.1)

begin-read : (n : ℕ) (ss : List TextStep) (r : UnreadText) → BeginWithin n ss → BeginWithin n (ss ++ step.Read r ∷ [])
begin-read n [] r h = tt
begin-read n (step.Read q ∷ ss) r h = begin-read n ss r h
begin-read n (step.Keep a start ∷ ss) r h = (h.0, begin-read n ss r h.1)

begin-keep : (n : ℕ) (ss : List TextStep) (a : Argument) (start : ℕ) → start ≤ n → BeginWithin n ss → BeginWithin n (ss ++ step.Keep a start ∷ [])
begin-keep n [] a start l h = (l, tt)
begin-keep n (step.Read q ∷ ss) a start l h = begin-keep n ss a start l h
begin-keep n (step.Keep b place ∷ ss) a start l h = (h.0, begin-keep n ss a start l h.1)

pub begin-pop : (n : ℕ) (ss : List TextStep) (s : TextStep) → BeginWithin n (ss ++ s ∷ []) → BeginWithin n ss
begin-pop n [] s h = tt
begin-pop n (step.Read q ∷ ss) s h = begin-pop n ss s h
begin-pop n (step.Keep b place ∷ ss) s h = (h.0, begin-pop n ss s h.1)

pub begin-last : (n : ℕ) (ss : List TextStep) (a : Argument) (start : ℕ) → BeginWithin n (ss ++ step.Keep a start ∷ []) → start ≤ n
begin-last n [] a start h = h.0
begin-last n (step.Read q ∷ ss) a start h = begin-last n ss a start h
begin-last n (step.Keep b place ∷ ss) a start h = begin-last n ss a start h.1

pub begin-rest : (old new more : List ℕ) (ss most : List TextStep) (q : UnreadText) → most ≡ ss ++ step.Read q ∷ [] → new ≡ old ++ more → BeginWithin (length old) ss → BeginWithin (length new) most
begin-rest old new more ss most q e f h =
    let l = ap length f in subst (BeginWithin (length new)) (sym e) (begin-read (length new) ss q (begin-more (length old) (length new) ss (omega (arith, l, length-append old more)) h))

pub begin-value : (n : ℕ) (ss new more most : List TextStep) (q v : UnreadText) (a : Argument) (start : ℕ) →
    new ≡ ss ++ step.Read q ∷ [] → more ≡ new ++ step.Keep a start ∷ [] → most ≡ more ++ step.Read v ∷ [] → start ≤ n → BeginWithin n ss → BeginWithin n most
begin-value n ss new more most q v a start e f g l h =
    subst (BeginWithin n) (sym g) (begin-read n more v (subst (BeginWithin n) (sym f) (begin-keep n new a start l (subst (BeginWithin n) (sym e) (begin-read n ss q h)))))

own-once : (known : List KnownInstance) (a : Argument) (v w : List ℕ) → IsOwn known a v → IsOwn known a w → v ≡ w
own-once known a v w h k =
    let e : h.0 ≡ k.0 = same_Some _ _ (sym h.1 ∙ k.1) in
    same_Some _ _ (sym h.2 ∙ ap (λ (x : KnownInstance). slice_get (own_arguments x.bindings) a.place) e ∙ k.2)

module _ (c : Config) (known : List KnownInstance) where
  steps-push : (ss : List TextStep) (s : TextStep) (before between whole : List ℕ) → AreSteps c known ss between whole → IsTextStep c known s before between → AreSteps c known (ss ++ s ∷ []) before whole
  steps-push [] s before between whole h k = (before, refl, subst (λ z. IsTextStep c known s before z) (sym h) k)
  steps-push (q ∷ ss) s before between whole h k = (h.0, steps-push ss s before between h.0 h.1 k, h.2)

  steps-pop : (ss : List TextStep) (s : TextStep) (before whole : List ℕ) → AreSteps c known (ss ++ s ∷ []) before whole → (between : List ℕ) × AreSteps c known ss between whole × IsTextStep c known s before between
  steps-pop [] s before whole h = (whole, refl, subst (λ z. IsTextStep c known s z whole) h.1 h.2)
  steps-pop (q ∷ ss) s before whole h = let k = steps-pop ss s before h.0 h.1 in (k.0, (h.0, k.1, h.2), k.2)

  steps-longer : (ss : List TextStep) (before whole : List ℕ) → AreSteps c known ss before whole → length before ≤ length whole
  steps-longer [] before whole h = let e = ap length h in omega (arith, e)
  steps-longer (step.Read r ∷ ss) before whole h =
      let l = steps-longer ss before h.0 h.1 in let e = ap length h.2.1 in omega (arith, l, e, length-append h.0 h.2.0)
  steps-longer (step.Keep a start ∷ ss) before whole h = let l = steps-longer ss before h.0 h.1 in let e = ap length h.2.0 in omega (arith, l, e)

  read-as : (r q : UnreadText) (n : ℕ) (out : List ℕ) → IsRest r n q → IsReadAt c known r.within (drop n r.rest.now) out → IsRead c known q out
  read-as r q n out i h =
      (h.0, ap (slice_get known) i.0 ∙ h.1, subst (λ z. IsReplaced c h.0.bindings (h.0.scope ∷ h.0.enclosing) z out) (sym i.1) h.2)

  pub read-none : (r : UnreadText) (out : List ℕ) → r.rest.now ≡ [] → IsRead c known r out → out ≡ []
  unfolding replaced
  read-none r out e h =
      let i = h.2 in
      i.replaces ∙ ap (replaced (value_in c h.0.bindings (h.0.scope ∷ h.0.enclosing)) 0) (items_once i.read (subst (λ z. AreItems z []) (sym e) ended))

  module _ (ss : List TextStep) (r : UnreadText) (text whole : List ℕ) (led : AreSteps c known (ss ++ step.Read r ∷ []) text whole) where
    pub led-empty : r.rest.now ≡ [] → AreSteps c known ss text whole
    led-empty e =
        let k = steps-pop ss (step.Read r) text whole led in
        subst (λ z. AreSteps c known ss z whole) (k.2.1 ∙ ap (λ z. text ++ z) (read-none r k.2.0 e k.2.2) ∙ append-nil text) k.1

    -- the beginning of the reading is written, and the rest of it is still to be read
    led-first : (n : ℕ) (q : UnreadText) (new : List TextStep) (more first rest : List ℕ) → IsRest r n q → new ≡ ss ++ step.Read q ∷ [] → more ≡ text ++ first →
        (between : List ℕ) → AreSteps c known ss between whole → between ≡ text ++ (first ++ rest) → IsReadAt c known r.within (drop n r.rest.now) rest → AreSteps c known new more whole
    led-first n q new more first rest i e f between h g k =
        subst (λ z. AreSteps c known z more whole) (sym e)
        (steps-push ss (step.Read q) more between whole h (rest, g ∙ sym (append_assoc text first rest) ∙ ap (λ z. z ++ rest) (sym f), read-as r q n rest i k))

    pub led-bytes : (n : ℕ) (q : UnreadText) (new : List TextStep) (more : List ℕ) → ((p : List ℕ) → IsRead c known r p → Parts c known r.within r.rest.now p (part.Bytes n)) → IsRest r n q →
        new ≡ ss ++ step.Read q ∷ [] → more ≡ text ++ take n r.rest.now → AreSteps c known new more whole
    led-bytes n q new more parts i e f =
        let k = steps-pop ss (step.Read r) text whole led in let p = parts k.2.0 k.2.2 in
        led-first n q new more (take n r.rest.now) p.0 i e f k.0 k.1 (k.2.1 ∙ ap (λ z. text ++ z) p.1) p.2

    module _ (n : ℕ) (v : ParameterValue) (parts : (p : List ℕ) → IsRead c known r p → Parts c known r.within r.rest.now p (part.Value n v)) where
      pub led-kept : (q : UnreadText) (new : List TextStep) (own more : List ℕ) → IsOwn known v.argument own → IsRest r n q → new ≡ ss ++ step.Read q ∷ [] → more ≡ text ++ own → AreSteps c known new more whole
      led-kept q new own more o i e f =
          let k = steps-pop ss (step.Read r) text whole led in let p = parts k.2.0 k.2.2 in
          led-first n q new more p.0 p.1 i e (f ∙ ap (λ z. text ++ z) (own-once known v.argument own p.0 o p.4)) k.0 k.1 (k.2.1 ∙ ap (λ z. text ++ z) p.2) p.5

      pub led-value : (q : UnreadText) (new more most : List TextStep) (start : ℕ) → IsRest r n q → new ≡ ss ++ step.Read q ∷ [] → more ≡ new ++ step.Keep v.argument start ∷ [] → most ≡ more ++ step.Read v.reading ∷ [] →
          start ≡ length text → AreSteps c known most text whole
      led-value q new more most start i e f g begins =
          let k = steps-pop ss (step.Read r) text whole led in let p = parts k.2.0 k.2.2 in
          let one = led-first n q new (text ++ p.0) p.0 p.1 i e refl k.0 k.1 (k.2.1 ∙ ap (λ z. text ++ z) p.2) p.5 in
          let two : AreSteps c known more (text ++ p.0) whole = subst (λ z. AreSteps c known z (text ++ p.0) whole) (sym (f ∙ ap (λ z. new ++ step.Keep v.argument z ∷ []) begins))
          (steps-push new (step.Keep v.argument (length text)) (text ++ p.0) (text ++ p.0) whole one
          (refl, omega (arith, length-append text p.0), subst (IsOwn known v.argument) (sym (drop-append_seam text p.0)) p.4)) in
          subst (λ z. AreSteps c known z text whole) (sym g) (steps-push more (step.Read v.reading) text (text ++ p.0) whole two (p.0, refl, p.3))

      -- there is no room for a value
      pub full-kept : (own : List ℕ) (room : ℕ) → IsOwn known v.argument own → room < length own → room + length text < length whole
      full-kept own room o l =
          let k = steps-pop ss (step.Read r) text whole led in let p = parts k.2.0 k.2.2 in
          let a = ap length (own-once known v.argument own p.0 o p.4) in let m = steps-longer ss k.0 whole k.1 in let b = ap length (k.2.1 ∙ ap (λ z. text ++ z) p.2) in
          omega (arith, l, a, m, b, length-append text (p.0 ++ p.1), length-append p.0 p.1)

    -- there is no room for bytes
    pub full-bytes : (n room : ℕ) → ((p : List ℕ) → IsRead c known r p → Parts c known r.within r.rest.now p (part.Bytes n)) → room < length (take n r.rest.now) → room + length text < length whole
    full-bytes n room parts l =
        let k = steps-pop ss (step.Read r) text whole led in let p = parts k.2.0 k.2.2 in
        let m = steps-longer ss k.0 whole k.1 in let b = ap length (k.2.1 ∙ ap (λ z. text ++ z) p.1) in
        omega (arith, l, m, b, length-append text (take n r.rest.now ++ p.0), length-append (take n r.rest.now) p.0)

  led-keep : (ss : List TextStep) (a : Argument) (start : ℕ) (text whole : List ℕ) → AreSteps c known (ss ++ step.Keep a start ∷ []) text whole → AreSteps c known ss text whole × IsOwn known a (drop start text)
  led-keep ss a start text whole h =
      let k = steps-pop ss (step.Keep a start) text whole h in
      (subst (λ z. AreSteps c known ss z whole) k.2.0 k.1, k.2.2)

-- these steps are left of writing the first reading after the text before
abbrev pub AreLeft : Config → List InstanceKept → UnreadText → List ℕ → List TextStep → List ℕ → Type 0
AreLeft c instances first before ss text = (places : List Place) (known : List KnownInstance) (primitive_elements : List PrimitiveElement) (whole : List ℕ) → AreInstances c instances places known primitive_elements → IsRead c known first whole → AreSteps c known ss text (before ++ whole)

-- every text can be read
read-any : (c : Config) (known : List KnownInstance) (r : UnreadText) → r.within < length known → (whole : List ℕ) × IsRead c known r whole
read-any c known r l =
    let i = reading r.rest.now in let x = get_or known r.within the_whole in
    (replaced (value_in c x.bindings (x.scope ∷ x.enclosing)) 0 i.0, (x, slice_get-get_or known r.within the_whole l, record { items = i.0; read = i.1; replaces = refl }))

pub left-own : (c : Config) (instances : List InstanceKept) (first : UnreadText) (before : List ℕ) (all ss : List TextStep) (a : Argument) (start : ℕ) (text : List ℕ) → first.within < length instances → all ≡ ss ++ step.Keep a start ∷ [] →
    AreLeft c instances first before all text → (places : List Place) (known : List KnownInstance) (primitive_elements : List PrimitiveElement) → AreInstances c instances places known primitive_elements → IsOwn known a (drop start text)
left-own c instances first before all ss a start text l is left places known primitive_elements are =
    let m = are.as_many in let r = read-any c known first (omega (arith, l, m)) in
    (led-keep c known ss a start text (before ++ r.0) (subst (λ z. AreSteps c known z text (before ++ r.0)) is (left places known primitive_elements r.0 are r.1))).1

pub left-keep : (c : Config) (instances : List InstanceKept) (first : UnreadText) (before : List ℕ) (all ss : List TextStep) (a : Argument) (start : ℕ) (text new : List ℕ) → all ≡ ss ++ step.Keep a start ∷ [] → new ≡ text →
    AreLeft c instances first before all text → AreLeft c instances first before ss new
left-keep c instances first before all ss a start text new is e left places known primitive_elements whole are h =
    subst (λ z. AreSteps c known ss z (before ++ whole)) (sym e)
    (led-keep c known ss a start text (before ++ whole) (subst (λ z. AreSteps c known z text (before ++ whole)) is (left places known primitive_elements whole are h))).0

bytes-more : (text more : List ℕ) (s : Span) → s.start ≤ s.end → s.end ≤ length text → bytes_at (text ++ more) s ≡ bytes_at text s
bytes-more text more s l m =
    ap (take (s.end - s.start)) (drop-append-le s.start text more (omega (arith, l, m)))
    ∙ take-append-le (s.end - s.start) (drop s.start text) more (omega (arith, l, m, length-drop s.start text))

argument-exact : (a b : Argument) → same_argument a b ≡ true → a ≡ b
argument-exact a b h =
    let p = and_parts (nat_eq a.within b.within) (nat_eq a.place b.place) h in
    ap (λ n. record { within = n; place = a.place }) (eqb-true a.within b.within p.0) ∙ ap (λ n. record { within = b.within; place = n }) (eqb-true a.place b.place p.1)

module _ (c : Config) (instances : List InstanceKept) where
  pub kept-more : (old new : TextBuffer) (more : List ℕ) → new.text.items ≡ old.text.items ++ more → new.values.entries ≡ old.values.entries → AreKept c instances old → AreKept c instances new
  kept-more old new more e f kept a s h =
      let k = kept a s (ap (lookup (same_argument a)) (sym f) ∙ h) in
      record {
        ordered = k.ordered;
        within = let m = k.within in let l = ap length e in omega (arith, m, l, length-append old.text.items more);
        value = λ places known primitive_elements are. subst (IsOwn known a) (sym (bytes-more old.text.items more s k.ordered k.within) ∙ ap (λ z. bytes_at z s) (sym e)) (k.value places known primitive_elements are);
      }

  pub kept-same : (old new : TextBuffer) → new.text.items ≡ old.text.items → new.values.entries ≡ old.values.entries → AreKept c instances old → AreKept c instances new
  kept-same old new e f kept = kept-more old new [] (e ∙ sym (append-nil old.text.items)) f kept

  pub kept-put : (old new : TextBuffer) (b : Argument) (start : ℕ) → new.text.items ≡ old.text.items →
      ((a : Argument) → lookup (same_argument a) new.values.entries ≡ (if same_argument a b then Some (record { start = start; end = length old.text.items }) else lookup (same_argument a) old.values.entries)) →
      start ≤ length old.text.items → ((places : List Place) (known : List KnownInstance) (primitive_elements : List PrimitiveElement) → AreInstances c instances places known primitive_elements → IsOwn known b (drop start old.text.items)) →
      AreKept c instances old → AreKept c instances new
  kept-put old new b start e f l own kept a s h =
      let span : Span = record { start = start; end = length old.text.items } in
      let was = lookup (same_argument a) old.values.entries in
      elim (cases_Bool (same_argument a b)) [
        | inl y ↦
            let is : span ≡ s = same_Some _ _ (ap (λ t. if t then Some span else was) (sym y) ∙ sym (f a) ∙ h) in
            subst (λ z. IsArgumentKept c instances new.text.items a z) is (record {
              ordered = l;
              within = let m = ap length e in omega (arith, m);
              value = λ places known primitive_elements are.
                  subst (λ z. IsOwn known z (bytes_at new.text.items span)) (sym (argument-exact a b y))
                  (subst (IsOwn known b) (sym (take_rest old.text.items start) ∙ ap (λ z. bytes_at z span) (sym e)) (own places known primitive_elements are));
            })
        | inr n ↦
            let k = kept a s (ap (λ t. if t then Some span else was) (sym n) ∙ sym (f a) ∙ h) in
            subst (λ z. IsArgumentKept c instances z a s) (sym e) k
      ]

-- in both cases: there was room, or there was none
pub by-room : {E P Q R : Type 0} (r : Result Bool E) → IfOk r (λ fits. fits ≡ true → P) → IfOk r (λ fits. fits ≡ false → Q) → (P → R) → (Q → R) → IfOk r (λ _. R)
by-room (Ok true) p q f g = f (p refl)
by-room (Ok false) p q f g = g (q refl)
by-room (Err e) p q f g = tt
