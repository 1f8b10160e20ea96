-- What a door needs to know of the beginning and the end of a session.
use Rattle.std.specs.Prelude.{ℕ, List, [], ◌∷◌, length, take, codes, bytes_eq, Bool, true, false, Result, Ok, Err}
use Rattle.std.specs.List.{list_any}
use Rattle.click_control.specs.declared.serving.Ended.{Ended}
use Rattle.click_control.specs.declared.serving.ServeFault.{ServeFault}
use Rattle.click_control.specs.declared.serving.ServeFault.TheVariants as fault

-- whether the session ended because its source or its sink failed
abbrev pub has_device_failed : Result Ended ServeFault → Bool
has_device_failed (Ok e) = false
has_device_failed (Err fault.ReadFailed) = true
has_device_failed (Err fault.WriteFailed) = true
has_device_failed (Err fault.NoMemory) = false

-- how the requests of HTTP begin: a method, a space and a slash (RFC 9112, section 3)
abbrev pub http_beginnings : List (List ℕ)
http_beginnings = codes "GET /" ∷ codes "HEAD /" ∷ codes "POST /" ∷ codes "PUT /" ∷ codes "DELETE /" ∷ codes "OPTIONS /" ∷ codes "PATCH /" ∷ codes "TRACE /" ∷ []

-- the bytes begin with this text
abbrev pub begins_with : List ℕ → List ℕ → Bool
begins_with bytes text = bytes_eq text (take (length text) bytes)

-- the bytes begin a request of HTTP
abbrev pub begins_http_request : List ℕ → Bool
begins_http_request bytes = list_any (begins_with bytes) http_beginnings
