-- The response to a request.
use Rattle.std.specs.Prelude.{◌⊎◌, ℕ, List, [], ◌∷◌, ◌++◌, map, true, codes, Option, Some, None}
use Rattle.serde_json.specs.Data.{Data, no_members, member, boolean, number, object, unsigned}
use Rattle.serde_json.specs.Written.{compact_text}
use Rattle.http1.specs.Fields.{Header}
use Rattle.http_server.specs.Response.{IsResponse}
use Rattle.http_server.specs.declared.response.Response.{Response}
use Rattle.click_router.specs.FaultText.{fault_text}
use Rattle.click_router.specs.Opened.{IsFirstFault}
use Rattle.click_router.specs.declared.fault.ConfigFault.{ConfigFault}
use Rattle.click_router.specs.declared.call.Reply.TheVariants as reply
use Rattle.click_router.specs.declared.call.Refusal.TheVariants as refused
use Rattle.click_control.specs.ReplyText.{text_of}
use Rattle.click_control.specs.declared.command.Command.{Command}
use Rattle.click_control.specs.declared.command.Command.TheVariants as command
use Rattle.click_control.specs.declared.command.Answer.{Answer}
use Rattle.click_control.specs.declared.command.Answer.TheVariants as answer
use Rattle.click_page.specs.Asking.{reading}
use Rattle.click_draw.specs.Drawn.{IsPicture}
use Rattle.click_page.specs.Form.{IsFlatText, bytes_data, list_data}
use Rattle.click_page.specs.Metrics.{metrics_text}
use Rattle.click_page.specs.declared.content_kind.ContentKind.{ContentKind}
use Rattle.click_page.specs.declared.content_kind.ContentKind.TheVariants as kind
use Rattle.click_page.specs.declared.page_text.TheConstants.{PAGE, POLICY}
use Rattle.click_page.specs.declared.page_request.PageRequest.{PageRequest}
use Rattle.click_page.specs.declared.page_request.PageRequest.TheVariants as page_request
use Rattle.click_page.specs.declared.page_request.RequestRefusal.{RequestRefusal}
use Rattle.click_page.specs.declared.page_request.RequestRefusal.TheVariants as why
use Rattle.click_page.specs.declared.survey.Survey.{Survey}

abbrev pub value_data : List ℕ → Data
value_data bytes = object (member (codes "value") (bytes_data bytes) no_members)

abbrev pub done_data : Data
done_data = object (member (codes "done") (boolean true) no_members)

abbrev pub fault_data : ℕ → List ℕ → Data
fault_data code text = object (member (codes "fault") (number (unsigned code)) (member (codes "text") (bytes_data text) no_members))

-- the status number in a session's reply to a call that failed or was refused
abbrev pub fault_number : Answer → ℕ
fault_number (answer.Replied (reply.Refused refused.NoElement)) = 510
fault_number (answer.Replied (reply.Refused refused.NoHandler)) = 511
fault_number (answer.Replied (reply.Refused refused.WrongWay)) = 530
fault_number answer.NoCall = 530
fault_number _ = 520

-- The answer to a command, as JSON: the value that was read; that a write succeeded; or the number
-- and the lines of a session's reply.
abbrev pub entry_of : Command → Answer → Data
entry_of c (answer.Replied (reply.Value bytes)) = value_data bytes
entry_of c (answer.Replied reply.Done) = done_data
entry_of c a = fault_data (fault_number a) (text_of c a)

-- the answers to commands, in their order
abbrev pub entries_of : List Command → List Answer → List Data
entries_of [] answers = []
entries_of (c ∷ cs) [] = []
entries_of (c ∷ cs) (a ∷ answers) = entry_of c a ∷ entries_of cs answers

-- The header fields that every response has. It is not cached, its type is not guessed, no page
-- shows it in a frame, and no page of another origin loads it. It loads nothing from elsewhere and
-- sends no referrer.
abbrev pub guards : List Header
guards =
    (codes "cache-control", codes "no-store") ∷ (codes "content-security-policy", POLICY.now) ∷ (codes "x-content-type-options", codes "nosniff")
    ∷ (codes "x-frame-options", codes "DENY") ∷ (codes "cross-origin-resource-policy", codes "same-origin") ∷ (codes "referrer-policy", codes "no-referrer") ∷ []

abbrev pub type_name : ContentKind → List ℕ
type_name kind.Html = codes "text/html; charset=utf-8"
type_name kind.Svg = codes "image/svg+xml"
type_name kind.Json = codes "application/json"
type_name kind.Text = codes "text/plain; charset=utf-8"
type_name kind.Metrics = codes "text/plain; version=0.0.4; charset=utf-8"

abbrev pub fields_for : ContentKind → List Header
fields_for k = (codes "content-type", type_name k) ∷ guards

-- the response has this status, the header fields for this kind of content, and this body
abbrev pub Says : ℕ → ContentKind → List ℕ → Response → Type 0
Says status k body r = IsResponse status (fields_for k) body r

abbrev pub status_of : RequestRefusal → ℕ
status_of why.ForeignHost = 403
status_of why.NotFound = 404
status_of why.WantsGet = 405
status_of why.WantsPost = 405
status_of why.MissingHeader = 403
status_of why.WrongQuery = 400

abbrev pub refusal_line : RequestRefusal → List ℕ
refusal_line why.ForeignHost = codes "this page is at 127.0.0.1 alone\n"
refusal_line why.NotFound = codes "there is nothing of that name\n"
refusal_line why.WantsGet = codes "another method is wanted here\n"
refusal_line why.WantsPost = codes "another method is wanted here\n"
refusal_line why.MissingHeader = codes "a write needs the header x-click-page\n"
refusal_line why.WrongQuery = codes "the query names no handlers, or too many\n"

-- the methods of the path, which a refusal of another method names
abbrev pub allow_of : RequestRefusal → List Header
allow_of why.WantsGet = (codes "allow", codes "GET, HEAD") ∷ []
allow_of why.WantsPost = (codes "allow", codes "POST") ∷ []
allow_of w = []

-- The response to a request for the picture or the flat form, by the answer to the read of the
-- configuration. It is what was made of the text, or the first fault of the text. If the read gave
-- no value, it is the answer to the read.
abbrev pub SaysMade : ContentKind → (List ℕ → List ℕ → Type 0) → Answer → Response → Type 0
SaysMade k Makes (answer.Replied (reply.Value text)) r =
    ((made : List ℕ) × Makes text made × Says 200 k made r)
    ⊎ ((fault : ConfigFault) × IsFirstFault text fault × Says 200 kind.Json (compact_text (fault_data 520 (fault_text fault))) r)
SaysMade k Makes a r = Says 200 kind.Json (compact_text (entry_of (reading (codes "config")) a)) r

-- the response by the answer to the only command of a request
abbrev pub SaysOne : ContentKind → (List ℕ → List ℕ → Type 0) → List Answer → Response → Type 0
SaysOne k Makes [] r = ⊥
SaysOne k Makes (a ∷ []) r = SaysMade k Makes a r
SaysOne k Makes (a ∷ b ∷ answers) r = ⊥

-- The response to a request for metrics: the metrics and then the figures, which may be a text of
-- `Gives`, or 503 if the running configuration was not read.
abbrev pub SaysMetrics : (List ℕ → Type 0) → Option Survey → List Answer → List Answer → Response → Type 0
SaysMetrics Gives (Some s) answers values r = (more : List ℕ) × Gives more × Says 200 kind.Metrics (metrics_text s answers values ++ more) r
SaysMetrics Gives None answers values r = Says 503 kind.Text (codes "the running configuration was not read\n") r

-- The response to a request whose commands were answered in this way, and whose survey had these
-- values. The figures may be a text of `Gives`.
abbrev pub SaysFor : (List ℕ → Type 0) → PageRequest → List Answer → Option Survey → List Answer → Response → Type 0
SaysFor Gives page_request.Page answers survey values r = Says 200 kind.Html PAGE.now r
SaysFor Gives page_request.Picture answers survey values r = SaysOne kind.Svg IsPicture answers r
SaysFor Gives page_request.Flat answers survey values r = SaysOne kind.Json IsFlatText answers r
SaysFor Gives (page_request.Read handlers) answers survey values r = Says 200 kind.Json (compact_text (list_data (entries_of (map reading handlers) answers))) r
SaysFor Gives (page_request.Write handler text) [] survey values r = ⊥
SaysFor Gives (page_request.Write handler text) (a ∷ answers) survey values r = Says 200 kind.Json (compact_text (entry_of (command.Write handler text) a)) r
SaysFor Gives page_request.Metrics answers survey values r = SaysMetrics Gives survey answers values r
SaysFor Gives (page_request.Refused why) answers survey values r = IsResponse (status_of why) (fields_for kind.Text ++ allow_of why) (refusal_line why) r

-- out of memory: status 503 without fields or body
abbrev pub SaysNoMemory : Response → Type 0
SaysNoMemory r = IsResponse 503 [] [] r
