-- The calls that led a service from one state to another, and the listener.
use Rattle.std.specs.Prelude.{◌≡◌, ℕ, List, ◌++◌, flat_map, All}
use Rattle.http.specs.declared.request.Request.{Request}
use Rattle.http_server.specs.declared.response.Response.{Response}
use Rattle.http_server.specs.declared.state.Config.{Config}
use Rattle.http_server.specs.Exchange.{Call, Chain}
use Rattle.http_server.specs.History.{History, IsServed}

-- the port that was asked for
pub record HttpListenerState : Type 0 where
  pub port : ℕ

-- the limits of each connection
abbrev pub page_config : Config
page_config = record {
  limits = record { max_head_len = 65536; max_extensions_len = 16384; max_trailers_len = 16384 };
  max_body_len = 1048576;
  max_pending = 0;
  read_size = 8192;
}

-- A sequence of calls by one connection, the calls by it before them, and all that it had done
-- afterwards.
pub record Stretch : Type 0 where
  pub earlier : List Call
  pub calls : List Call
  pub after : History

-- The calls are the last ones of the connection, and all that it had done is as HTTP requires.
pub record IsStretch (s : Stretch) : Type 0 where
  pub served : ∥ IsServed page_config s.after ∥₁
  pub made : s.after.calls ≡ s.earlier ++ s.calls

abbrev pub calls_of : List Stretch → List Call
calls_of stretches = flat_map (λ s. s.calls) stretches

-- The service was led from one state to the other by calls that connections made, and by nothing
-- else.
pub record Leads {S : Type 0} (answers : S → Request (List ℕ) → Response → S → Type 0) (old new : S) : Type 0 where
  pub stretches : List Stretch
  pub each : All IsStretch stretches
  pub chain : Chain answers old (calls_of stretches) new
