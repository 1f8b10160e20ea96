-- Lemmas on the JSON of responses: it has no floating-point number.
use Rattle.std.proofs.Common.{◌≡◌, List, [], ◌∷◌, map, false, refl}
use Rattle.serde_json.specs.Data.{Data}
use Rattle.serde_json.specs.View.{items_of}
use Rattle.serde_json.specs.Written.{has_float, items_have_float}
use Rattle.click_draw.specs.declared.drawing.Drawing.{Drawing}
use Rattle.click_draw.specs.declared.drawing.Figure.{Figure}
use Rattle.click_expand.specs.declared.flat.Flat.{Flat}
use Rattle.click_expand.specs.declared.flat.FlatElement.{FlatElement}
use Rattle.click_handlers.specs.Names.{reads_of, writes_of}
use Rattle.click_router.specs.declared.call.Reply.TheVariants.{Value, Done}
use Rattle.click_control.specs.declared.command.Answer.{Answer}
use Rattle.click_control.specs.declared.command.Answer.TheVariants.{Replied}
use Rattle.click_control.specs.declared.command.Command.{Command}
use Rattle.click_page.specs.Form.{bytes_data, connection_data, element_data, elements_data, flat_data, port_data}
use Rattle.click_page.specs.Saying.{entries_of, entry_of}

map-whole : {X : Type 0} (f : X → Data) → ((x : X) → has_float (f x) ≡ false) → (xs : List X) → items_have_float (items_of (map f xs)) ≡ false
map-whole f each [] = refl
map-whole f each (x ∷ xs) = rw (each x) (map-whole f each xs)

element-whole : (e : FlatElement) (f : Figure) → has_float (element_data e f) ≡ false
element-whole e f =
    rw (
      map-whole port_data (λ m. refl) f.look.inputs,
      map-whole port_data (λ m. refl) f.look.outputs,
      map-whole bytes_data (λ b. refl) (reads_of f.look.class),
      map-whole bytes_data (λ b. refl) (writes_of f.look.class),
    ) refl

elements-whole : (es : List FlatElement) (fs : List Figure) → items_have_float (items_of (elements_data es fs)) ≡ false
elements-whole [] fs = refl
elements-whole (e ∷ es) [] = refl
elements-whole (e ∷ es) (f ∷ fs) = rw (element-whole e f) (elements-whole es fs)

pub flat-whole : (flat : Flat) (d : Drawing) → has_float (flat_data flat d) ≡ false
flat-whole flat d = rw (map-whole connection_data (λ c. refl) flat.connections, elements-whole flat.elements d.figures) refl

entry-whole : (c : Command) (a : Answer) → has_float (entry_of c a) ≡ false
entry-whole c (Replied (Value bytes)) = refl
entry-whole c (Replied Done) = refl
entry-whole c a = refl

pub entries-whole : (cs : List Command) (answers : List Answer) → items_have_float (items_of (entries_of cs answers)) ≡ false
entries-whole [] answers = refl
entries-whole (c ∷ cs) [] = refl
entries-whole (c ∷ cs) (a ∷ answers) = rw (entry-whole c a) (entries-whole cs answers)
