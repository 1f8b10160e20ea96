-- The handlers of each class, in order (Click element reference).
use Rattle.std.specs.Prelude.{ℕ, List, [], ◌∷◌, map, flat_map, codes, Bool, ◌&&◌, slice_get, position, unwrap_or}
use Rattle.std.specs.List.{list_any}
use Rattle.std.specs.Str.{bytes_eq}
use Rattle.click_base.specs.Classes.{name}
use Rattle.click_base.specs.declared.class.Class.{Class}
use Rattle.click_base.specs.declared.class.Class.TheVariants as class

-- a class, and the name of a handler that its elements have
pub record HandlerName : Type 0 where
  pub class : Class
  pub name : List ℕ

abbrev pub of_class : Class → List ℕ → HandlerName
of_class class name = record { class = class; name = name }

-- the handlers of a Suppressor's ports
abbrev pub active_names : List (List ℕ)
active_names =
    codes "active0" ∷ codes "active1" ∷ codes "active2" ∷ codes "active3" ∷ codes "active4" ∷ codes "active5" ∷ codes "active6" ∷ codes "active7" ∷
    codes "active8" ∷ codes "active9" ∷ codes "active10" ∷ codes "active11" ∷ codes "active12" ∷ codes "active13" ∷ codes "active14" ∷
    codes "active15" ∷ []

-- the name of the handler of a port, and the port that a name stands for
unfoldable pub active_name : ℕ → List ℕ
active_name port = unwrap_or (slice_get active_names port) []

abbrev pub active_port : List ℕ → ℕ
active_port name = unwrap_or (position (λ other. bytes_eq other name) active_names) 16

-- the name at an index of a list of names, from 0
abbrev pub name_at : List (List ℕ) → ℕ → List ℕ
name_at names place = unwrap_or (slice_get names place) []

-- the handlers of a queue that can be read, and that can be written
abbrev pub queue_reads : List (List ℕ)
queue_reads = codes "length" ∷ codes "highwater_length" ∷ codes "drops" ∷ codes "capacity" ∷ []

abbrev pub queue_writes : List (List ℕ)
queue_writes = codes "capacity" ∷ codes "reset_counts" ∷ codes "reset" ∷ []

-- the handlers of an ARPQuerier that can be read, and that can be written
abbrev pub querier_reads : List (List ℕ)
querier_reads = codes "table" ∷ codes "count" ∷ codes "drops" ∷ []

abbrev pub querier_writes : List (List ℕ)
querier_writes = codes "insert" ∷ codes "delete" ∷ codes "clear" ∷ codes "reset_counts" ∷ codes "expire" ∷ []

-- the handlers of a class that can be read, in order
unfoldable pub reads_of : Class → List (List ℕ)
reads_of class.Queue = queue_reads
reads_of class.FrontDropQueue = queue_reads
reads_of class.Counter = codes "count" ∷ codes "byte_count" ∷ []
reads_of class.Switch = codes "switch" ∷ []
reads_of class.PullSwitch = codes "switch" ∷ []
reads_of class.Suppressor = active_names
reads_of class.StaticIPLookup = codes "lookup" ∷ []
reads_of class.InfiniteSource = codes "active" ∷ codes "count" ∷ []
reads_of class.ARPQuerier = querier_reads
reads_of _ = []

-- the handlers of a class that can be written, in order
unfoldable pub writes_of : Class → List (List ℕ)
writes_of class.Queue = queue_writes
writes_of class.FrontDropQueue = queue_writes
writes_of class.Counter = codes "reset_counts" ∷ []
writes_of class.Switch = codes "switch" ∷ []
writes_of class.PullSwitch = codes "switch" ∷ []
writes_of class.Suppressor = active_names
writes_of class.InfiniteSource = codes "active" ∷ codes "reset" ∷ []
writes_of class.ARPQuerier = querier_writes
writes_of _ = []

-- the handlers of these classes, one class after another, by the names that each class has
abbrev pub names_by : (Class → List (List ℕ)) → List Class → List HandlerName
names_by names_of cs = flat_map (λ c. map (of_class c) (names_of c)) cs

-- The classes whose handlers are the rows of a table, in the order of a table. The handlers of the
-- gateway package have no rows.
abbrev pub handled : List Class
handled =
    class.Queue ∷ class.FrontDropQueue ∷ class.Counter ∷ class.Switch ∷ class.PullSwitch ∷ class.Suppressor ∷ class.InfiniteSource ∷
    class.StaticIPLookup ∷ []

-- all handlers with a row that can be read, and that can be written
unfoldable pub read_names : List HandlerName
read_names = names_by reads_of handled

unfoldable pub write_names : List HandlerName
write_names = names_by writes_of handled

-- it is the handler of this class with this name; classes are compared by their names
abbrev pub is_named : Class → List ℕ → HandlerName → Bool
is_named class handler h = bytes_eq (name h.class) (name class) && bytes_eq h.name handler

-- whether elements of the class have a handler of this name that can be read, or written
abbrev pub has_read : Class → List ℕ → Bool
has_read class handler = list_any (λ n. bytes_eq n handler) (reads_of class)

abbrev pub has_write : Class → List ℕ → Bool
has_write class handler = list_any (λ n. bytes_eq n handler) (writes_of class)
