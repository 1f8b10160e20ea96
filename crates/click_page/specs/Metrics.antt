-- The metrics of a router, in Prometheus' text format 0.0.4.
use Rattle.std.specs.Prelude.{◌≡◌, ℕ, List, [], ◌∷◌, ◌++◌, length, map, filter, flat_map, Bool, ◌||◌, Option, Some, None, codes, decimal, if◌then◌else◌}
use Rattle.click_expand.specs.declared.flat.Flat.{Flat}
use Rattle.click_expand.specs.declared.flat.FlatElement.{FlatElement}
use Rattle.click_handlers.specs.Names.{reads_of}
use Rattle.click_router.specs.Opened.{IsFirstFault, IsOpened}
use Rattle.click_router.specs.State.{RouterState}
use Rattle.click_router.specs.declared.call.Reply.TheVariants as reply
use Rattle.click_router.specs.declared.fault.ConfigFault.{ConfigFault}
use Rattle.click_control.specs.declared.command.Answer.{Answer}
use Rattle.click_control.specs.declared.command.Answer.TheVariants as answer
use Rattle.click_control.specs.declared.command.Command.{Command}
use Rattle.click_page.specs.Asking.{reading}
use Rattle.click_page.specs.Lines.{is_listed, is_number, levels, totals, value_line}
use Rattle.click_page.specs.declared.page_request.PageRequest.{PageRequest}
use Rattle.click_page.specs.declared.page_request.PageRequest.TheVariants as page_request
use Rattle.click_page.specs.declared.sample.Sample.{Sample}
use Rattle.click_page.specs.declared.survey.Survey.{Survey}

-- ---- what is read

abbrev pub is_metric : List ℕ → Bool
is_metric handler = is_listed levels handler || is_listed totals handler

abbrev pub sample_of : FlatElement → List ℕ → Sample
sample_of e handler = record { element = e.name; class = e.class; handler = handler }

-- the samples of an element with handlers of these names
abbrev pub samples_named : FlatElement → List (List ℕ) → List Sample
samples_named e names = map (sample_of e) (filter is_metric names)

-- the read handlers of an element whose values are metrics, in the order of its class
abbrev pub samples_of : FlatElement → List Sample
samples_of e = samples_named e (reads_of e.class)

-- the number of elements, and the samples of all of them, in flat order
abbrev pub survey_of : Flat → Survey
survey_of flat = record { elements = length flat.elements; samples = flat_map samples_of flat.elements }

-- The answers to the first commands of a request for metrics say what else is read: the samples of
-- the running configuration. If it was not read, or has a fault, nothing else is.
abbrev pub Surveys : List Answer → Option Survey → Type 0
Surveys (answer.Replied (reply.Value text) ∷ answers) (Some s) = (state : RouterState) × IsOpened text state × (s ≡ survey_of state.flat)
Surveys (answer.Replied (reply.Value text) ∷ answers) None = (fault : ConfigFault) × IsFirstFault text fault
Surveys answers (Some s) = ⊥
Surveys answers None = Unit {0}

-- a request for metrics makes a survey, and no other does
abbrev pub IsSurvey : PageRequest → List Answer → Option Survey → Type 0
IsSurvey page_request.Metrics answers survey = Surveys answers survey
IsSurvey w answers survey = survey ≡ None

-- the name of the handler of a sample
abbrev pub full_name : Sample → List ℕ
full_name s = s.element ++ codes "." ++ s.handler

-- the commands that a request makes after its first ones
abbrev pub later : Option Survey → List Command
later None = []
later (Some s) = map reading (map full_name s.samples)

-- ---- what is said

-- the line of a sample by the answer to its read; none if that is no number
abbrev pub sample_line : List ℕ → Sample → Answer → List ℕ
sample_line metric s (answer.Replied (reply.Value value)) = if is_number value then value_line metric s value else []
sample_line metric s a = []

-- the line of a sample if its handler has one of these names
abbrev pub listed_line : List ℕ → List (List ℕ) → Sample → Answer → List ℕ
listed_line metric names s a = if is_listed names s.handler then sample_line metric s a else []

-- the lines of the samples with these handlers
abbrev pub sample_lines : List ℕ → List (List ℕ) → List Sample → List Answer → List ℕ
sample_lines metric names [] answers = []
sample_lines metric names (s ∷ samples) [] = []
sample_lines metric names (s ∷ samples) (a ∷ answers) =
    listed_line metric names s a ++ sample_lines metric names samples answers

abbrev pub elements_text : ℕ → List ℕ
elements_text n =
    codes "# HELP click_elements Number of elements of the running configuration.\n# TYPE click_elements gauge\nclick_elements " ++ decimal n ++ codes "\n"

-- the number of overruns, which is the second answer
abbrev pub overruns_text : List Answer → List ℕ
overruns_text (first ∷ answer.Replied (reply.Value value) ∷ answers) =
    if is_number value
    then codes "# HELP click_overruns_total Number of pushes and pulls that had no crossing left.\n# TYPE click_overruns_total counter\nclick_overruns_total " ++ value ++ codes "\n"
    else []
overruns_text answers = []

abbrev pub levels_head : List ℕ
levels_head = codes "# HELP click_handler Value of a read handler that may fall.\n# TYPE click_handler gauge\n"

abbrev pub totals_head : List ℕ
totals_head = codes "# HELP click_handler_total Value of a read handler that only grows until it is reset.\n# TYPE click_handler_total counter\n"

-- all metrics: the answers to the first commands, then those to the reads of the samples
abbrev pub metrics_text : Survey → List Answer → List Answer → List ℕ
metrics_text s answers values =
    elements_text s.elements ++ overruns_text answers ++ levels_head ++ sample_lines (codes "click_handler") levels s.samples values ++
    totals_head ++ sample_lines (codes "click_handler_total") totals s.samples values
