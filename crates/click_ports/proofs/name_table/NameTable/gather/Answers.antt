use Rattle.std.proofs.Common.{◌≡◌, ◌++◌, ◌∷◌, [], All, length, map, take, refl, sym, ap, subst, ◌∙◌}
use Rattle.std.proofs.lemmas.List.{take_more, take_all, map_push}
use Rattle.std.proofs.lemmas.List.Elements.{All-nil}
use Rattle.click_expand.specs.declared.flat.FlatElement.{FlatElement}
use Rattle.click_ports.specs.Net.{names_of}
use Rattle.click_ports.specs.kept.NameTables.{name_within, IsWithin}
use Rattle.click_ports.proofs.NamesInTable.{names-added, within-added}
use Rattle.click_ports.proofs.name_table.NameTable.gather.Goals as goal

pub loop-element-init : goal.loop-element-init
loop-element-init c = record {
  names = ap (map (name_within c.new-bytes.result.items)) c.in_ok-places.ensures.items;
  within = subst (All (IsWithin (length c.new-bytes.result.items))) (sym c.in_ok-places.ensures.items) (All-nil (IsWithin (length c.new-bytes.result.items)));
}

pub loop-element-preserved : goal.loop-element-preserved
loop-element-preserved c =
    let es = c.args.elements.now in let i = c.loop-element.element-index in let v = c.loop-element.invariant in
    let bytes = c.loop-element.bytes.items in let name = c.as_slice.result.now in let ps = c.loop-element.places.items in
    let new = c.extend_from_slice.new.self.items in
    let grown : new ≡ bytes ++ name = c.in_ok-extend_from_slice.ensures.items in
    let e = c.element-item.result in
    let start = c.len-start.ensures ∙ c.loop-element.bytes.ok.0 in
    let end = c.len.ensures ∙ c.extend_from_slice.new.self.ok.0 ∙ ap length grown in
    record {
      names = ap (λ x. map (name_within x) c.push.new.self.items) grown ∙ ap (map (name_within (bytes ++ name))) c.in_ok-push.ensures.items
          ∙ names-added bytes name ps _ _ start end v.within ∙ ap (λ ns. ns ++ name ∷ []) v.names ∙ ap (λ n. names_of (take i es) ++ n ∷ []) c.as_slice.ensures
          ∙ sym (ap names_of (take_more es i e c.loop-element-test.true ∙ ap (λ x. take i es ++ x ∷ []) (sym c.element-item.is)) ∙ map_push (λ (e : FlatElement). e.name) (take i es) e);
      within = subst (λ x. All (IsWithin (length x)) c.push.new.self.items) (sym grown)
          (subst (All (IsWithin (length (bytes ++ name)))) (sym c.in_ok-push.ensures.items) (within-added bytes name ps _ _ start end v.within));
    }

pub returns : goal.returns
returns c = c.loop-element.invariant.names ∙ ap names_of (take_all c.loop-element.element-index c.args.elements.now c.loop-element-test.false)
