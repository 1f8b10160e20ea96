use Rattle.std.proofs.Common.{◌≡◌, ◌<◌, ◌≤◌, ◌-◌, ◌∙◌, Some, None, [], ap, sym, refl, length, set, get_or, slice_get, slice_set, arith, position}
use Rattle.std.specs.Str.{bytes_eq}
use Rattle.std.proofs.lemmas.List.{get_or_default, get_or-take, set-get_or}
use Rattle.std.specs.Prelude.{slice_index_or, option_and_then}
use Rattle.std.proofs.lemmas.Option.{slice_get_read, slice_get_past}
use Rattle.click_engine.specs.Plant.{Plant}
use Rattle.click_engine.specs.TakeOver.{named, place_of, with_taken_over}
use Rattle.click_engine.specs.RunState.{blank, but_last}
use Rattle.click_engine.proofs.OfPlants.LastElement.{at_but_last, but_last_length, set_but_last}
use Rattle.click_engine.specs.declared.run_state.Element.{Element}
use Rattle.click_engine.proofs.OfPlants.ElementTakeOver.{finds_before, set-past}
use Rattle.click_engine.proofs.plant.Plant.take_over_at.Goals.{else-at-len-via-then-at-len+else-place-len, else-at-len-via-else-at-len}
use Rattle.click_engine.proofs.plant.Plant.take_over_at.Goals as goal

-- the old plant has no element of this name
pub returns-in_default-clause-taken : goal.returns-in_default-clause-taken
returns-in_default-clause-taken c =
    let v = c.args.self.now in let at = c.args.at in let old = c.args.old.now in
    let n = slice_index_or v.net.names at [] in
    let name : c.name-name.result.now ≡ n =
    c.name-name.ensures.value ∙ ap (λ ns. slice_index_or ns at []) (ap (λ n. n.names) c.net.ensures ∙ ap (λ (p : Plant). p.net.names) c.self.view_is) in
    let none : named old n ≡ None = ap (named old) (sym name) ∙ ap (λ o. option_and_then (slice_get old.elements) o) (sym c.in_default.ensures) in
    sym (ap (λ l. record v { elements = l }) (ap (λ o. slice_set v.elements at (with_taken_over (slice_index_or v.elements at blank) o)) none ∙ set-get_or v.elements at blank))

pub returns-then-place-len-clause-taken : goal.returns-then-place-len-clause-taken
returns-then-place-len-clause-taken c =
    let v = c.self.view_is in let at = c.args.at in let old = c.args.old.now in let place = c.in-Some.place in
    let m = c.self.inside.circuit in let es = m.run_memory.elements.items in let r = c.index_mut-element.result.now in
    let k = c.old.inside.circuit in let os = k.run_memory.elements.items in let b = c.index_mut-before.result.now in
    let here : at < length es = omega (arith, c.if-at-len.true, c.len.ensures, m.count, m.run_memory.elements.ok.0) in
    let low : place < length os - 1 = omega (arith, c.if-place-len.true, c.len-then-at-len.ensures, k.count, k.run_memory.elements.ok.0) in
    let there : place < length (but_last os) = omega (arith, low, but_last_length os k.run_memory.blank) in
    let n = slice_index_or m.adjacency.names at [] in
    let borrowed : r ≡ get_or (but_last es) at blank = c.index_mut-element.ensures.value ∙ get_or_default es at _ blank here ∙ sym (at_but_last es at m.run_memory.blank) in
    let name : c.name-name.result.now ≡ n = c.name-name.ensures.value ∙ ap (λ ns. slice_index_or ns at []) (ap (λ n. n.names) c.net.ensures) in
    let found : Some b ≡ named old n =
    sym (slice_get_read (but_last os) (length (but_last os)) place b refl there (c.index_mut-before.ensures.value ∙ sym (get_or-take (length os - 1) os place _ low))) ∙ ap (λ (p : Plant). slice_get p.elements place) c.old.view_is
    ∙ ap (λ o. option_and_then (slice_get old.elements) o) c.in-Some.ensures ∙ ap (named old) name in
    let after : record r { state = c.take_over.new.self } ≡ with_taken_over (get_or (but_last es) at blank) (named old n) =
    ap (λ s. record r { state = s }) c.take_over.ensures.taken ∙ ap (with_taken_over r) found ∙ ap (λ (e : Element). with_taken_over e (named old n)) borrowed in
    rw (after, set_but_last es at (with_taken_over (get_or (but_last es) at blank) (named old n)) m.run_memory.blank)
    (ap (λ (q : Plant). record q { elements = set q.elements at (with_taken_over (get_or q.elements at blank) (named old (slice_index_or q.net.names at []))) }) v)

pub returns-then-place-len-clause-kept : goal.returns-then-place-len-clause-kept
returns-then-place-len-clause-kept c =
    let at = c.args.at in let place = c.in-Some.place in let names = c.args.self.now.net.names in let name = c.name-name.result.now in
    let k = c.old.inside.circuit in let os = k.run_memory.elements.items in let b = c.index_mut-before.result.now in
    let e : Element = record b { state = c.take_over.new.old } in
    let low : place < length os - 1 = omega (arith, c.if-place-len.true, c.len-then-at-len.ensures, k.count, k.run_memory.elements.ok.0) in
    let found : Some place ≡ position (bytes_eq name) k.adjacency.names = c.in-Some.ensures ∙ ap (λ (p : Plant). place_of p name) (sym c.old.view_is) in
    record {
      overruns = ap (λ (p : Plant). p.overruns) c.old.view_is;
      finds = λ j before.
          rw (set_but_last os place e k.run_memory.blank) (finds_before names at k.adjacency.names (but_last os) place b e name c.place-2.result c.place-2.ensures found
          (c.index_mut-before.ensures.value ∙ sym (get_or-take (length os - 1) os place _ low))
          (λ k. ap (λ s. record b { state = s }) (c.take_over.ensures.kept (c.ne-keeps.ensures ∙ k))) j before
          ∙ ap (λ (p : Plant). named p (slice_index_or names j [])) c.old.view_is);
    }

pub returns-else-at-len-clause-taken : goal.returns-else-at-len-clause-taken
returns-else-at-len-clause-taken c =
    let v = c.args.self.now in let at = c.args.at in let old = c.args.old.now in let place = c.in-Some.place in
    let m = c.self.inside.circuit in let k = c.old.inside.circuit in
    let es = m.run_memory.elements.items in let os = k.run_memory.elements.items in
    let n = slice_index_or v.net.names at [] in
    let name : c.name-name.result.now ≡ n =
    c.name-name.ensures.value ∙ ap (λ ns. slice_index_or ns at []) (ap (λ n. n.names) c.net.ensures ∙ ap (λ (p : Plant). p.net.names) c.self.view_is) in
    let count : length (but_last es) ≡ length v.elements = ap (λ (p : Plant). length p.elements) c.self.view_is in
    elim c.else-at-len.branch [
      | else-at-len-via-then-at-len+else-place-len w ↦
          let past : length (but_last os) ≤ place = omega (arith, w.if-place-len.false, w.len-then-at-len.ensures, k.count, k.run_memory.elements.ok.0, but_last_length os k.run_memory.blank) in
          let none : named old n ≡ None =
          ap (named old) (sym name) ∙ ap (λ o. option_and_then (slice_get old.elements) o) (sym c.in-Some.ensures) ∙ ap (λ (p : Plant). slice_get p.elements place) (sym c.old.view_is)
          ∙ slice_get_past (but_last os) place past in
          sym (ap (λ l. record v { elements = l }) (ap (λ o. slice_set v.elements at (with_taken_over (slice_index_or v.elements at blank) o)) none ∙ set-get_or v.elements at blank))
      | else-at-len-via-else-at-len w ↦
          let past : length v.elements ≤ at = omega (arith, count, w.if-at-len.false, c.len.ensures, m.count, m.run_memory.elements.ok.0, but_last_length es m.run_memory.blank) in
          sym (ap (λ l. record v { elements = l }) (set-past v.elements at (with_taken_over (slice_index_or v.elements at blank) (named old n)) past))
    ]
