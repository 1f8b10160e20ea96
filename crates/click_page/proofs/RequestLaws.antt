-- Lemmas on what requests ask for.
use Rattle.std.proofs.Common.{◌≡◌, ℕ, ◌≤◌, List, [], ◌∷◌, length, map, Bool, true, false, not, ◌&&◌, ◌||◌, nat_le, Option, Some, None, codes, bytes_eq, if◌then◌else◌, refl, sym, ap, subst, ◌∙◌, arith}
use Rattle.std.specs.List.{list_all}
use Rattle.std.proofs.lemmas.Bool.Decides.{nat_tests}
use Rattle.std.proofs.lemmas.Grind.{common_steps}
use Rattle.http.specs.declared.request.Parts.{Parts}
use Rattle.http_uri.specs.Uri.{uri_path}
use Rattle.click_page.specs.Asking.{are_handlers, request_at, request_on_route, commands_of, handlers_in, if_allowed, has_page_header, is_for_own_host, is_method_at, is_write, pairs_of, route_of, read_of, reading, parse_request, write_of, write_to, wrong_method}
use Rattle.click_page.specs.Metrics.{full_name, later}
use Rattle.click_page.specs.Reads.{AreReads, MakeReads, is_read, is_read_call}
use Rattle.click_page.specs.declared.route.Route.{Route}
use Rattle.click_page.specs.declared.route.Route.TheVariants as route
use Rattle.click_page.specs.declared.page_request.PageRequest.{PageRequest}
use Rattle.click_page.specs.declared.page_request.PageRequest.TheVariants as page_request
use Rattle.click_page.specs.declared.page_request.RequestRefusal.TheVariants as refusal
use Rattle.click_page.specs.declared.survey.Survey.{Survey}

pub foreign : (port : ℕ) (head : Parts) (body : List ℕ) → is_for_own_host port head ≡ false → commands_of (parse_request port head body) ≡ []
unfolding parse_request
foreign port head body e =
    ap (λ b. commands_of (if b then request_at (route_of (uri_path head.uri)) head body else page_request.Refused refusal.ForeignHost)) e

-- ---- a property of both results of a choice is one of the choice
either : (Q : PageRequest → Type 0) (b : Bool) (w v : PageRequest) → Q w → Q v → Q (if b then w else v)
either Q true w v p q = p
either Q false w v p q = q

-- ---- reads

OnlyReads : PageRequest → Type 0
OnlyReads w = AreReads (commands_of w)

readings : (handlers : List (List ℕ)) → list_all is_read (map reading handlers) ≡ true
readings [] = refl
readings (h ∷ handlers) = readings handlers

place_reads : (p : Route) (head : Parts) (body : List ℕ) → is_write p ≡ false → OnlyReads (request_on_route p head body)
unfolding OnlyReads request_on_route
place_reads route.Read head body e =
    let pairs = pairs_of head in
    either (λ w. AreReads (commands_of w)) (are_handlers pairs && nat_le 1 (length pairs) && nat_le (length pairs) 256)
    (page_request.Read (handlers_in pairs)) (page_request.Refused refusal.WrongQuery) (readings (handlers_in pairs)) refl
place_reads route.Write head body e = absurd (cc)
place_reads route.Swap head body e = absurd (cc)
place_reads _ head body e = refl

-- a write needs the method and the header
write_gate : (method marked : Bool) (w : PageRequest) → (marked && method) ≡ false
    → OnlyReads (if method then (if not marked then page_request.Refused refusal.MissingHeader else w) else page_request.Refused refusal.WantsPost)
unfolding OnlyReads
write_gate true true w e = absurd (cc)
write_gate true false w e = refl
write_gate false marked w e = refl

read_gate : (method : Bool) (w : PageRequest) → OnlyReads w → OnlyReads (if method then w else page_request.Refused refusal.WantsGet)
unfolding OnlyReads
read_gate true w h = h
read_gate false w h = refl

allowed_reads : (p : Route) (head : Parts) (w : PageRequest) → (has_page_header head && bytes_eq head.method (codes "POST")) ≡ false → (is_write p ≡ false → OnlyReads w)
    → OnlyReads (if_allowed p head w)
allowed_reads route.Write head w e h = write_gate (bytes_eq head.method (codes "POST")) (has_page_header head) w e
allowed_reads route.Swap head w e h = write_gate (bytes_eq head.method (codes "POST")) (has_page_header head) w e
allowed_reads _ head w e h = read_gate (bytes_eq head.method (codes "GET") || bytes_eq head.method (codes "HEAD")) w (h refl)

asked_reads : (o : Option Route) (head : Parts) (body : List ℕ) → (has_page_header head && bytes_eq head.method (codes "POST")) ≡ false
    → OnlyReads (request_at o head body)
unfolding OnlyReads request_at
asked_reads None head body e = refl
asked_reads (Some p) head body e = allowed_reads p head (request_on_route p head body) e (place_reads p head body)

pub unmarked : (port : ℕ) (head : Parts) (body : List ℕ) → (has_page_header head && bytes_eq head.method (codes "POST")) ≡ false
    → AreReads (commands_of (parse_request port head body))
unfolding OnlyReads parse_request
unmarked port head body e =
    either (λ w. AreReads (commands_of w)) (is_for_own_host port head) (request_at (route_of (uri_path head.uri)) head body) (page_request.Refused refusal.ForeignHost)
    (asked_reads (route_of (uri_path head.uri)) head body e) refl

-- ---- the number of commands

Few : PageRequest → Type 0
Few w = length (commands_of w) ≤ 256

reading_length : (handlers : List (List ℕ)) → length (map reading handlers) ≡ length handlers
reading_length [] = refl
reading_length (h ∷ handlers) = omega (arith, reading_length handlers)

handlers_length : (pairs : List (List ℕ × List ℕ)) → length (handlers_in pairs) ≡ length pairs
handlers_length [] = refl
handlers_length (p ∷ pairs) = omega (arith, handlers_length pairs)

few_below : (n : ℕ) → nat_le n 256 ≡ true → n ≤ 256
few_below n e = grind (arith, nat_tests)

few_reads : (a small : Bool) (pairs : List (List ℕ × List ℕ)) → (small ≡ true → length pairs ≤ 256)
    → Few (if a && small then page_request.Read (handlers_in pairs) else page_request.Refused refusal.WrongQuery)
unfolding Few
few_reads true true pairs h = omega (arith, reading_length (handlers_in pairs), handlers_length pairs, h refl)
few_reads true false pairs h = omega arith
few_reads false small pairs h = omega arith

few_written : (names : List (List ℕ)) (text : List ℕ) → Few (write_to names text)
unfolding Few
few_written [] text = omega arith
few_written (name ∷ []) text = omega arith
few_written (first ∷ second ∷ rest) text = omega arith

place_few : (p : Route) (head : Parts) (body : List ℕ) → Few (request_on_route p head body)
unfolding Few request_on_route
place_few route.Read head body =
    let pairs = pairs_of head in
    few_reads (are_handlers pairs && nat_le 1 (length pairs)) (nat_le (length pairs) 256) pairs (few_below (length pairs))
place_few route.Write head body =
    either (λ w. length (commands_of w) ≤ 256) (are_handlers (pairs_of head)) (write_to (handlers_in (pairs_of head)) body) (page_request.Refused refusal.WrongQuery)
    (few_written (handlers_in (pairs_of head)) body) (omega arith)
place_few _ head body = omega arith

asked_few : (o : Option Route) (head : Parts) (body : List ℕ) → Few (request_at o head body)
unfolding Few request_at
asked_few None head body = omega arith
asked_few (Some p) head body =
    let Q : PageRequest → Type 0 = λ w. length (commands_of w) ≤ 256 in
    let none : 0 ≤ 256 = omega arith in
    let asked = request_on_route p head body in
    let stops = is_write p && not (has_page_header head) in
    either Q (is_method_at p head.method) (if stops then page_request.Refused refusal.MissingHeader else asked) (wrong_method p)
    (either Q stops (page_request.Refused refusal.MissingHeader) asked none (place_few p head body)) none

pub few : (port : ℕ) (head : Parts) (body : List ℕ) → length (commands_of (parse_request port head body)) ≤ 256
unfolding Few parse_request
few port head body =
    either (λ w. length (commands_of w) ≤ 256) (is_for_own_host port head) (request_at (route_of (uri_path head.uri)) head body) (page_request.Refused refusal.ForeignHost)
    (asked_few (route_of (uri_path head.uri)) head body) (omega arith)

-- ---- a read-only page

made_readings : (readonly : Bool) (handlers : List (List ℕ)) → MakeReads readonly (map reading handlers)
made_readings readonly [] = refl
made_readings readonly (h ∷ handlers) = made_readings readonly handlers

pub only_reads : (w : PageRequest) → MakeReads true (commands_of w)
only_reads (page_request.Read handlers) = made_readings true handlers
only_reads _ = refl

-- ---- what follows the first answers

pub later_reads : (readonly : Bool) (survey : Option Survey) → AreReads (later survey) × MakeReads readonly (later survey)
later_reads readonly None = (refl, refl)
later_reads readonly (Some s) = (readings (map full_name s.samples), made_readings readonly (map full_name s.samples))
