-- The flat form of the running configuration, as JSON.
use Rattle.std.specs.Prelude.{◌≡◌, ℕ, List, [], ◌∷◌, map, codes, encode_utf8_all}
use Rattle.serde_json.specs.Data.{Data, no_members, member, string, boolean, number, array, object, unsigned}
use Rattle.serde_json.specs.View.{items_of}
use Rattle.serde_json.specs.Written.{compact_text}
use Rattle.click_base.specs.Classes.{name}
use Rattle.click_handlers.specs.Names.{reads_of, writes_of}
use Rattle.click_draw.specs.declared.drawing.Figure.{Figure}
use Rattle.click_draw.specs.declared.drawing.Mark.{Mark}
use Rattle.click_draw.specs.declared.drawing.Drawing.{Drawing}
use Rattle.click_expand.specs.declared.flat.Connection.{Connection}
use Rattle.click_expand.specs.declared.flat.Flat.{Flat}
use Rattle.click_expand.specs.declared.flat.FlatElement.{FlatElement}
use Rattle.click_ports.specs.Net.{Net}
use Rattle.click_router.specs.Opened.{IsOpened}
use Rattle.click_router.specs.State.{RouterState}
use Rattle.click_draw.specs.Drawn.{IsFormNet, Shows}

-- Bytes as a JSON string. Each byte is the character with its number, so that no byte is lost.
abbrev pub bytes_data : List ℕ → Data
bytes_data bytes = string (encode_utf8_all bytes)

abbrev pub list_data : List Data → Data
list_data ds = array (items_of ds)

abbrev pub number_data : ℕ → Data
number_data n = number (unsigned n)

-- a port: whether it is agnostic in its class, and whether it is pull
abbrev pub port_data : Mark → Data
port_data m = object (member (codes "agnostic") (boolean m.agnostic) (member (codes "pull") (boolean m.pull) no_members))

-- an element: its class, name and configuration string, its ports, and its handlers that can be
-- read or written
abbrev pub element_data : FlatElement → Figure → Data
element_data e f = object (
    member (codes "class") (bytes_data (name f.look.class)) (
    member (codes "inputs") (list_data (map port_data f.look.inputs)) (
    member (codes "name") (bytes_data e.name) (
    member (codes "outputs") (list_data (map port_data f.look.outputs)) (
    member (codes "reads") (list_data (map bytes_data (reads_of f.look.class))) (
    member (codes "text") (bytes_data e.text) (
    member (codes "writes") (list_data (map bytes_data (writes_of f.look.class))) no_members)))))))

-- the elements, each with its figure
abbrev pub elements_data : List FlatElement → List Figure → List Data
elements_data [] figures = []
elements_data (e ∷ es) [] = []
elements_data (e ∷ es) (f ∷ figures) = element_data e f ∷ elements_data es figures

-- a connection: its source element and output, and its target element and input
abbrev pub connection_data : Connection → Data
connection_data c = list_data (number_data c.from ∷ number_data c.out_port ∷ number_data c.to ∷ number_data c.in_port ∷ [])

abbrev pub flat_data : Flat → Drawing → Data
flat_data flat d = object (
    member (codes "connections") (list_data (map connection_data flat.connections)) (
    member (codes "elements") (list_data (elements_data flat.elements d.figures)) no_members))

-- the JSON of the flat form, with its ports as a drawing of its net marks them
abbrev pub IsFormText : Flat → Net → List ℕ → Type 0
IsFormText flat net made = (d : Drawing) × Shows net d × (made ≡ compact_text (flat_data flat d))

-- the JSON of the flat form that the text opens
abbrev pub IsFlatText : List ℕ → List ℕ → Type 0
IsFlatText text made = (state : RouterState) × IsOpened text state × (net : Net) × IsFormNet state.flat net × IsFormText state.flat net made
