-- The words of a line, and the bytes between them.
use Rattle.std.specs.Prelude.{◌≡◌, ℕ, ◌<◌, List, [], ◌∷◌, length, true, not, codes}
use Rattle.std.specs.List.{list_all}
use Rattle.click_base.specs.Blanks.{is_blank}
use Rattle.click_router.specs.declared.check.Access.{Access}
use Rattle.click_router.specs.declared.check.Access.TheVariants as direction

abbrev pub AreBlanks : List ℕ → Type 0
AreBlanks bs = list_all is_blank bs ≡ true

-- one or more blanks
abbrev pub IsGap : List ℕ → Type 0
IsGap bs = (0 < length bs) × AreBlanks bs

-- one or more bytes, none of them a blank
abbrev pub IsWord : List ℕ → Type 0
IsWord w = (0 < length w) × (list_all (λ b. not (is_blank b)) w ≡ true)

-- no bytes, or bytes that begin with a blank
abbrev pub EndsWord : List ℕ → Type 0
EndsWord [] = Unit {0}
EndsWord (b ∷ bs) = is_blank b ≡ true

-- the first word of a line that reads or writes a handler with a text
abbrev pub text_word : Access → List ℕ
text_word direction.Read = codes "READ"
text_word direction.Write = codes "WRITE"

-- the first word of a line that asks whether a handler can be read or written
abbrev pub check_word : Access → List ℕ
check_word direction.Read = codes "CHECKREAD"
check_word direction.Write = codes "CHECKWRITE"

-- the first word of a line that announces a payload
abbrev pub data_word : Access → List ℕ
data_word direction.Read = codes "READDATA"
data_word direction.Write = codes "WRITEDATA"
