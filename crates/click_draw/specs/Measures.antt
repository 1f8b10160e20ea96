-- The sizes of boxes and the places of ports, in pixels.
use Rattle.std.specs.Prelude.{ℕ, ◌+◌, ◌-◌, ◌*◌, ◌/◌, min, max, List, [], length, slice_index_or}
use Rattle.click_base.specs.declared.class.Class.{Class}
use Rattle.click_base.specs.Classes.{name}
use Rattle.click_classes.specs.declared.ports.Side.TheVariants.{Input, Output}
use Rattle.click_ports.specs.Ports.{used}
use Rattle.click_ports.specs.Links.{class_at}
use Rattle.click_ports.specs.Net.{Net}

-- a letter is 8 wide; letters after the first 4,096 extend beyond the box
abbrev pub text_width : List ℕ → ℕ
text_width text = 8 * min (length text) 4096

-- two ports of a side are 20 apart
abbrev pub ports_width : ℕ → ℕ
ports_width n = 20 * n

-- a box is as wide as its texts need, with 20 more, and as its ports need
abbrev pub box_width : List ℕ → Class → ℕ → ℕ → ℕ
box_width called class inputs outputs =
    max (max (text_width called) (text_width (name class)) + 20) (max (ports_width inputs) (ports_width outputs))

-- the width of the box of an element of the net
unfoldable pub element_width : Net → ℕ → ℕ
element_width net e =
    box_width (slice_index_or net.names e []) (class_at net.shapes e) (used net.connections e Input) (used net.connections e Output)

-- the distance of a port from the left side of its box, given the box's width and its number of
-- ports on the side, which are centered
abbrev pub port_offset : ℕ → ℕ → ℕ → ℕ
port_offset width ports port = (width - ports_width ports) / 2 + 20 * port + 10
