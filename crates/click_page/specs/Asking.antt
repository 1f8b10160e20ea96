-- What a request asks for, and the commands of a session that it makes.
use Rattle.std.specs.Prelude.{ℕ, ◌≤◌, ◌==◌, List, [], ◌∷◌, ◌++◌, length, map, Bool, true, false, not, ◌&&◌, ◌||◌, nat_le, Option, Some, None, unwrap_or, codes, decimal, bytes_eq, if◌then◌else◌}
use Rattle.std.specs.List.{list_any, list_all}
use Rattle.std.specs.Char.{to_ascii_lowercase}
use Rattle.form_urlencoded.specs.Form.{raw_pairs, decode, is_nonempty}
use Rattle.http.specs.declared.request.Parts.{Parts}
use Rattle.http_header.specs.HeaderMap.{get_all}
use Rattle.http_header.specs.FieldValue.{FieldValue}
use Rattle.http_uri.specs.Uri.{uri_authority, uri_path, uri_query, uri_scheme}
use Rattle.click_control.specs.declared.command.Command.{Command}
use Rattle.click_control.specs.declared.command.Command.TheVariants as command
use Rattle.click_page.specs.declared.route.Route.{Route}
use Rattle.click_page.specs.declared.route.Route.TheVariants as route
use Rattle.click_page.specs.declared.page_request.PageRequest.{PageRequest}
use Rattle.click_page.specs.declared.page_request.PageRequest.TheVariants as page_request
use Rattle.click_page.specs.declared.page_request.RequestRefusal.TheVariants as refusal

-- the names of this machine's own host that a browser may use
abbrev pub own_names : List (List ℕ)
own_names = codes "127.0.0.1" ∷ codes "localhost" ∷ codes "[::1]" ∷ []

-- a name with a port
abbrev pub at_port : List ℕ → List ℕ → List ℕ
at_port port name = name ++ (codes ":" ++ port)

-- the values of Host that name the page at this port; browsers leave port 80 out
unfoldable pub own_hosts : ℕ → List (List ℕ)
own_hosts port = map (at_port (decimal port)) own_names ++ (if port == 80 then own_names else [])

-- these bytes, in small letters
abbrev pub lowercase : List ℕ → List ℕ
lowercase bytes = map to_ascii_lowercase bytes

-- the host is one of these names; host names are compared without regard to case
abbrev pub is_among : List (List ℕ) → List ℕ → Bool
is_among names host = list_any (bytes_eq (lowercase host)) names

-- there is exactly one value, and it is one of these names
abbrev pub is_one_of : List (List ℕ) → List FieldValue → Bool
is_one_of names [] = false
is_one_of names (value ∷ []) = is_among names value.bytes
is_one_of names (first ∷ second ∷ rest) = false

-- The scheme and the authority of a target, and the values of Host, name one of these hosts. A
-- target in the absolute form names the host itself, and Host is then ignored (RFC 9112, 3.2.2). A
-- target with an authority alone, as CONNECT has it, names no page.
abbrev pub names_one_of : List (List ℕ) → Option (List ℕ) → Option (List ℕ) → List FieldValue → Bool
names_one_of names scheme None hosts = is_one_of names hosts
names_one_of names None (Some authority) hosts = false
names_one_of names (Some scheme) (Some authority) hosts = bytes_eq (lowercase scheme) (codes "http") && is_among names authority

-- The request is for the page at this port: its target in the absolute form names the page, or it
-- has exactly one Host field, which names the page.
abbrev pub is_for_own_host : ℕ → Parts → Bool
is_for_own_host port head = names_one_of (own_hosts port) (uri_scheme head.uri) (uri_authority head.uri) (get_all head.headers (codes "host"))

-- the request has the header that browsers do not let a page of another origin send
abbrev pub has_page_header : Parts → Bool
has_page_header head = nat_le 1 (length (get_all head.headers (codes "x-click-page")))

-- the names and values of the request's query, still encoded
abbrev pub pairs_of : Parts → List (List ℕ × List ℕ)
pairs_of head = raw_pairs (unwrap_or (uri_query head.uri) [])

-- each name is `handler`, and each value has bytes
abbrev pub are_handlers : List (List ℕ × List ℕ) → Bool
are_handlers pairs = list_all (λ p. bytes_eq p.0 (codes "handler") && is_nonempty p.1) pairs

-- the handlers that the values name, decoded
abbrev pub handlers_in : List (List ℕ × List ℕ) → List (List ℕ)
handlers_in pairs = map (λ p. decode p.1) pairs

-- what a query asks to read: from 1 to 256 handlers
abbrev pub read_of : List (List ℕ × List ℕ) → PageRequest
read_of pairs =
    if are_handlers pairs && nat_le 1 (length pairs) && nat_le (length pairs) 256
    then page_request.Read (handlers_in pairs) else page_request.Refused refusal.WrongQuery

-- what a query asks to write: one handler
abbrev pub write_to : List (List ℕ) → List ℕ → PageRequest
write_to [] text = page_request.Refused refusal.WrongQuery
write_to (name ∷ []) text = page_request.Write name text
write_to (first ∷ second ∷ rest) text = page_request.Refused refusal.WrongQuery

abbrev pub write_of : List (List ℕ × List ℕ) → List ℕ → PageRequest
write_of pairs text = if are_handlers pairs then write_to (handlers_in pairs) text else page_request.Refused refusal.WrongQuery

-- the route of a path
unfoldable pub route_of : List ℕ → Option Route
route_of path =
    if bytes_eq path (codes "/") then Some route.Page
    else (if bytes_eq path (codes "/picture.svg") then Some route.Picture
    else (if bytes_eq path (codes "/flat") then Some route.Flat
    else (if bytes_eq path (codes "/read") then Some route.Read
    else (if bytes_eq path (codes "/write") then Some route.Write
    else (if bytes_eq path (codes "/swap") then Some route.Swap
    else (if bytes_eq path (codes "/metrics") then Some route.Metrics
    else None))))))

-- whether requests for a route write
abbrev pub is_write : Route → Bool
is_write route.Page = false
is_write route.Picture = false
is_write route.Flat = false
is_write route.Read = false
is_write route.Metrics = false
is_write route.Write = true
is_write route.Swap = true

-- whether requests for a route may have this method
abbrev pub is_method_at : Route → List ℕ → Bool
is_method_at p method = if is_write p then bytes_eq method (codes "POST") else (bytes_eq method (codes "GET") || bytes_eq method (codes "HEAD"))

-- the refusal of another method at a route
abbrev pub wrong_method : Route → PageRequest
wrong_method p = page_request.Refused (if is_write p then refusal.WantsPost else refusal.WantsGet)

-- what a request for this route asks for
unfoldable pub request_on_route : Route → Parts → List ℕ → PageRequest
request_on_route route.Page head body = page_request.Page
request_on_route route.Picture head body = page_request.Picture
request_on_route route.Flat head body = page_request.Flat
request_on_route route.Read head body = read_of (pairs_of head)
request_on_route route.Write head body = write_of (pairs_of head) body
request_on_route route.Swap head body = page_request.Write (codes "hotconfig") body
request_on_route route.Metrics head body = page_request.Metrics

-- what is asked for if the request has a method of the route, and for a write the header
abbrev pub if_allowed : Route → Parts → PageRequest → PageRequest
if_allowed p head w =
    if is_method_at p head.method
    then (if is_write p && not (has_page_header head) then page_request.Refused refusal.MissingHeader else w)
    else wrong_method p

-- what a request for this page's own host asks for; the route is none if its path is unknown
unfoldable pub request_at : Option Route → Parts → List ℕ → PageRequest
request_at None head body = page_request.Refused refusal.NotFound
request_at (Some p) head body = if_allowed p head (request_on_route p head body)

-- what a request with this head and body asks of the page at this port
unfoldable pub parse_request : ℕ → Parts → List ℕ → PageRequest
parse_request port head body =
    if is_for_own_host port head then request_at (route_of (uri_path head.uri)) head body else page_request.Refused refusal.ForeignHost

-- ---- commands

-- the command that reads a handler
abbrev pub reading : List ℕ → Command
reading handler = command.Read handler []

-- The commands of a session that a request makes. A picture or a flat form is made from the running
-- configuration, which is read. For metrics it is read first, and then says what else is read
-- (`later`).
abbrev pub commands_of : PageRequest → List Command
commands_of page_request.Page = []
commands_of page_request.Picture = reading (codes "config") ∷ []
commands_of page_request.Flat = reading (codes "config") ∷ []
commands_of (page_request.Read handlers) = map reading handlers
commands_of (page_request.Write handler text) = command.Write handler text ∷ []
commands_of page_request.Metrics = reading (codes "config") ∷ reading (codes "overruns") ∷ []
commands_of (page_request.Refused why) = []
