-- The beginning of a text, and what is read of the rest.
use Rattle.std.proofs.Common.{◌≡◌, ℕ, zero, suc, ◌-◌, ◌<◌, List, [], ◌∷◌, ◌++◌, take, drop, Option, Some, None, refl, sym, ap, ◌∙◌, subst, arith}
use Rattle.std.specs.Prelude.{option_map}
use Rattle.std.specs.List.{slice_get}
use Rattle.click_text.specs.declared.items.ItemKind.{ItemKind}
use Rattle.click_text.specs.declared.syntax.Config.{Config}
use Rattle.click_text.specs.Items.{LongestItem, Item, item, AreItems, next}
use Rattle.click_text.specs.Spans.{bytes_at}
use Rattle.click_text.proofs.OfItems.OneItemList.{items_once}
use Rattle.click_text.proofs.OfItems.ItemExistence.{reading}
use Rattle.click_expand.specs.Parameters.{Formal, formal_at, value_by, found_bytes, found_size, replaced, value_in}
use Rattle.click_expand.specs.kept.KnownInstances.{KnownInstance}
use Rattle.click_expand.specs.kept.Texts.{formal_of, formal_in}
use Rattle.click_expand.specs.kept.ParameterValues.{IsRead, IsValue}
use Rattle.click_expand.specs.kept.Spread.{Parts}
use Rattle.click_expand.specs.declared.texts.parameters.Parameter.{Parameter}
use Rattle.click_expand.specs.declared.texts.parameter_values.UnreadText.{UnreadText}
use Rattle.click_expand.specs.declared.texts.parameter_values.ParameterValue.{ParameterValue}
use Rattle.click_expand.specs.declared.texts.writing.TextPart.TheVariants as part
use Rattle.click_expand.proofs.OfTexts.ParameterItems.{formal-here, replaced-skips}
use Rattle.click_expand.proofs.OfTexts.ParameterParents.{value-of}

module _ (value : List ℕ → Option (List ℕ)) where
  -- the first item of the result
  replaced-first : (i : Item) (items : List Item) (o : Option (List ℕ × ℕ)) → value_by value (formal_at (i ∷ items)) ≡ o →
      replaced value 0 (i ∷ items) ≡ found_bytes o i ++ replaced value (found_size o - 1) items
  unfolding replaced
  replaced-first i items o e = ap (λ z. found_bytes z i ++ replaced value (found_size z - 1) items) e

  pub stays : (text : List ℕ) (k : ItemKind) (n : ℕ) (items rest : List Item) → LongestItem text k n → AreItems text items → AreItems (drop n text) rest →
      value_by value (formal_in text) ≡ None → replaced value 0 items ≡ take n text ++ replaced value 0 rest
  stays text k n items rest l h r e =
      let same : items ≡ item k (take n text) ∷ rest = items_once h (next text k n rest l r) in
      ap (replaced value 0) same
      ∙ replaced-first (item k (take n text)) rest None (ap (λ z. value_by value (formal_at z)) (sym same) ∙ ap (value_by value) (formal-here text items h).same ∙ e)

  drop-one : (i : Item) (items : List Item) (n : ℕ) → 0 < n → drop (n - 1) items ≡ drop n (i ∷ items)
  drop-one i items zero l = absurd (omega (arith, l))
  drop-one i items (suc n) l = let e : suc n - 1 ≡ n = omega arith in ap (λ m. drop m items) e

  pub replaces : (text : List ℕ) (items : List Item) (f : Formal) (v : List ℕ) → AreItems text items → formal_in text ≡ Some f → value f.name ≡ Some v →
      replaced value 0 items ≡ v ++ replaced value 0 (drop f.size items)
  replaces text [] f v h e g = let s = (formal-here text [] h).same ∙ e in absurd (cc s)
  replaces text (i ∷ items) f v h e g =
      let s = formal-here text (i ∷ items) h in
      replaced-first i items (Some (v, f.size)) (ap (value_by value) (s.same ∙ e) ∙ ap (λ z. elim z [ None ↦ None | Some w ↦ Some (w, f.size) ]) g)
      ∙ ap (λ z. v ++ z) (replaced-skips value (f.size - 1) items)
      ∙ ap (λ z. v ++ replaced value 0 z) (drop-one i items f.size (s.skips f e).0)

kept-formal : (text : List ℕ) (o : Option Parameter) (p : Parameter) → option_map (formal_of text) o ≡ formal_in text → o ≡ Some p → formal_in text ≡ Some (formal_of text p)
kept-formal text o p h e = sym h ∙ ap (option_map (formal_of text)) e

kept-none : (text : List ℕ) (o : Option Parameter) → option_map (formal_of text) o ≡ formal_in text → o ≡ None → formal_in text ≡ None
kept-none text o h e = sym h ∙ ap (option_map (formal_of text)) e

module _ (c : Config) (known : List KnownInstance) (r : UnreadText) (whole : List ℕ) (h : IsRead c known r whole) where
  -- a parameter with a value
  pub part-value : (o : Option Parameter) (p : Parameter) (name : List ℕ) (found : Option ParameterValue) (v : ParameterValue) → option_map (formal_of r.rest.now) o ≡ formal_in r.rest.now → o ≡ Some p → name ≡ bytes_at r.rest.now p.name →
      ((x : KnownInstance) → slice_get known r.within ≡ Some x → IsValue c known found (value-of c x name)) → found ≡ Some v → Parts c known r.within r.rest.now whole (part.Value p.size v)
  part-value o p name found v e f g k q =
      let x = h.0 in
      let i = h.2 in
      let is = subst (λ z. IsValue c known z (value-of c x name)) q (k x h.1) in
      let fo = kept-formal r.rest.now o p e f in
      let s = (formal-here r.rest.now i.items i.read).skips (formal_of r.rest.now p) fo in
      let val = value_in c x.bindings (x.scope ∷ x.enclosing) in (
        is.0,
        replaced val 0 (drop p.size i.items),
        i.replaces ∙ replaces val r.rest.now i.items (formal_of r.rest.now p) is.0 i.read fo (ap val (sym g) ∙ is.1),
        is.2,
        is.3,
        (x, h.1, record { items = drop p.size i.items; read = s.1; replaces = refl }),
      )

  stays-by : (k : ItemKind) (n : ℕ) → LongestItem r.rest.now k n → ((x : KnownInstance) → slice_get known r.within ≡ Some x → value_by (value-of c x) (formal_in r.rest.now) ≡ None) → Parts c known r.within r.rest.now whole (part.Bytes n)
  stays-by k n l none =
      let x = h.0 in
      let i = h.2 in
      let val = value_in c x.bindings (x.scope ∷ x.enclosing) in
      let t = reading (drop n r.rest.now) in
      (replaced val 0 t.0, i.replaces ∙ stays val r.rest.now k n i.items t.0 l i.read t.1 (none x h.1), (x, h.1, record { items = t.0; read = t.1; replaces = refl }))

  -- no parameter
  pub part-bytes : (o : Option Parameter) (k : ItemKind) (n : ℕ) → option_map (formal_of r.rest.now) o ≡ formal_in r.rest.now → o ≡ None → LongestItem r.rest.now k n → Parts c known r.within r.rest.now whole (part.Bytes n)
  part-bytes o k n e f l = stays-by k n l (λ x g. ap (value_by (value-of c x)) (kept-none r.rest.now o e f))

  -- a parameter without a value
  pub part-none : (o : Option Parameter) (p : Parameter) (name : List ℕ) (found : Option ParameterValue) (k : ItemKind) (n : ℕ) → option_map (formal_of r.rest.now) o ≡ formal_in r.rest.now → o ≡ Some p → name ≡ bytes_at r.rest.now p.name →
      ((x : KnownInstance) → slice_get known r.within ≡ Some x → IsValue c known found (value-of c x name)) → found ≡ None → LongestItem r.rest.now k n → Parts c known r.within r.rest.now whole (part.Bytes n)
  part-none o p name found k n e f g q z l =
      stays-by k n l (λ x there.
      ap (value_by (value-of c x)) (kept-formal r.rest.now o p e f)
      ∙ ap (λ y. elim y [ None ↦ None | Some w ↦ Some (w, p.size) ]) (ap (value-of c x) (sym g) ∙ subst (λ y. IsValue c known y (value-of c x name)) z (q x there)))
