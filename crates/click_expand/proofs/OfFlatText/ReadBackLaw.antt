-- The text of a flat form spells a configuration with that flat form.
use Rattle.std.proofs.Common.{◌≡◌, ℕ, ◌≤◌, List, length, map, refl, sym, ◌∙◌, ap, subst}
use Rattle.std.specs.List.{AllByRecursion}
use Rattle.std.proofs.lemmas.List.Elements.{recursion_from_All}
use Rattle.click_text.specs.declared.syntax.Config.{Config}
use Rattle.click_text.specs.Spelling.{Spells}
use Rattle.click_expand.specs.declared.flat.FlatElement.{FlatElement}
use Rattle.click_expand.specs.declared.flat.Flat.{Flat}
use Rattle.click_expand.specs.Instances.{PrimitiveElement}
use Rattle.click_expand.specs.Flat.{IsFlat, AreDistinct, flat_element, flat_names, text_size, most_elements, most_text}
use Rattle.click_expand.specs.FlatText.{flat_text_of}
use Rattle.click_expand.proofs.OfFlatText.LineScope.{names}
use Rattle.click_expand.proofs.OfFlatText.LineSoundness.{config_of}
use Rattle.click_expand.proofs.OfFlatText.LineFlatForm.{IsItself, IsWholeText, element_sizes, one_flat, sizes_are, names_are, lengths_are, whole_elements}
use Rattle.click_expand.proofs.OfFlatText.WellFormedFlat.{IsRight, spelled_right, all_map, all_weaker, RightPrimitiveElement, RightConnection, flat_primitive_elements, flat_connections}
use Rattle.click_expand.proofs.OfFlatText.TextTokens.{IsWordy, IsWritable, read_text}

-- what holds of a flat form by itself
own : (c : Config) (f : Flat) → IsFlat c f → IsItself f
own c f h =
    let ls = h.primitive_elements in
    let e : f.elements ≡ map flat_element ls = h.elements in
    let D : List (List ℕ) → Type 0 = λ ns. AreDistinct ns in
    let W : List FlatElement → Type 0 = λ es. AllByRecursion IsWholeText es in
    let n : length ls ≡ length f.elements = lengths_are ls ∙ ap (λ (es : List FlatElement). length es) (sym e) in
    let z : text_size ls ≡ element_sizes f.elements = sizes_are ls ∙ ap element_sizes (sym e) in
    let m : flat_names ls ≡ names f.elements = names_are ls ∙ ap names (sym e) in
    let few : length ls ≤ most_elements = h.limits.elements in
    let short : text_size ls ≤ most_text = h.limits.text in
    record {
      distinct = subst D m h.distinct;
      texts = subst W (sym e) (whole_elements ls (recursion_from_All _ ls h.texts));
      in_order = h.meant.connections.in_order;
      few_elements = subst (λ (i : ℕ). i ≤ most_elements) n few;
      few_connections = h.limits.connections;
      short = subst (λ (i : ℕ). i ≤ most_text) z short;
    }

wordy : (c : Config) (f : Flat) → IsRight c → IsFlat c f → AllByRecursion IsWordy f.elements
wordy c f r h =
    let W : List FlatElement → Type 0 = λ es. AllByRecursion IsWordy es in
    subst W (sym h.elements) (all_map IsWordy flat_element h.primitive_elements (all_weaker RightPrimitiveElement (λ (l : PrimitiveElement). IsWordy (flat_element l)) (λ l x. x.name_right) h.primitive_elements (flat_primitive_elements r h)))

writable : (c : Config) (f : Flat) → IsRight c → IsFlat c f → AllByRecursion (IsWritable f.elements) f.connections
writable c f r h =
    let n : length h.primitive_elements ≡ length f.elements = lengths_are h.primitive_elements ∙ ap (λ (es : List FlatElement). length es) (sym h.elements) in
    let P : ℕ → Type 0 = λ i. AllByRecursion (RightConnection i) f.connections in
    all_weaker (RightConnection (length f.elements)) (IsWritable f.elements) (λ k x. record { from_there = x.from_there; to_there = x.to_there; out_small = x.out_small; in_small = x.in_small }) f.connections (subst P n (flat_connections r h))

pub reads_back : (text : List ℕ) (config : Config) (flat : Flat) → Spells text config → IsFlat config flat → (again : Config) × Spells (flat_text_of flat) again × IsFlat again flat
reads_back text config flat s h =
    let r = spelled_right text config s in
    let i = own config flat h in
    let t = read_text flat (wordy config flat r h) i.texts (writable config flat r h) in (
      config_of (flat_text_of flat) t.statements,
      record { tokens = t.told.tokens; pieces = t.told.reads; nests = t.told.nests; tree = t.told.stated; copy = refl },
      one_flat (flat_text_of flat) flat t.statements i t.lines,
    )
