-- The result and the status of drawing a picture.
use Rattle.std.specs.Prelude.{◌≡◌, ◌⊎◌, ℕ, List, Option}
use Rattle.std.specs.Io.KnownBytes.{Appends}
use Rattle.click_router.specs.Opened.{IsFirstFault, IsMemoryOr}
use Rattle.click_router.specs.declared.fault.ConfigFault.{ConfigFault}
use Rattle.click_draw.specs.Drawn.{IsPicture}
use Rattle.click_cli.specs.Statuses.{config_status}
use Rattle.click_cli.specs.declared.status.Status.{Status}
use Rattle.click_cli.specs.declared.status.Status.TheVariants as status

-- a whole picture was written, and nothing else
pub record HasDrawn (text : List ℕ) (held holds : Option (List ℕ)) (s : Status) : Type 0 where
  pub picture : List ℕ
  pub is_picture : IsPicture text picture
  pub wrote : Appends held holds picture
  pub is : s ≡ status.Good

-- there is a picture, and it could not be written whole
pub record HasFailed (text : List ℕ) (s : Status) : Type 0 where
  pub picture : List ℕ
  pub is_picture : IsPicture text picture
  pub is : s ≡ status.DeviceFailed

-- Nothing was written, and the status is that of the fault. It is the text's first fault, or out of
-- memory.
pub record HasNotDrawn (text : List ℕ) (held holds : Option (List ℕ)) (s : Status) : Type 0 where
  pub fault : ConfigFault
  pub true_fault : IsMemoryOr fault (IsFirstFault text fault)
  pub unwritten : holds ≡ held
  pub is : s ≡ config_status fault.kind

-- a picture of the text was drawn to a writer, with this status; the writer's bytes before and
-- after it
abbrev pub DrawsTo : List ℕ → Option (List ℕ) → Option (List ℕ) → Status → Type 0
DrawsTo text held holds s = HasDrawn text held holds s ⊎ HasFailed text s ⊎ HasNotDrawn text held holds s
