-- Replaying the lines of a book.
use Rattle.std.specs.Prelude.{◌≡◌, ◌≢◌, ℕ, ◌+◌, List, [], ◌∷◌, ◌++◌, length, codes, decimal}
use Rattle.click_router.specs.One.{Answers}
use Rattle.click_router.specs.State.{RouterState}
use Rattle.click_router.specs.declared.call.Call.{Call}
use Rattle.click_router.specs.declared.call.Reply.{Reply}
use Rattle.click_lines.specs.Lines.{entry_line, line_text}
use Rattle.click_lines.specs.Reading.{IsNoLine}
use Rattle.click_lines.specs.ReplyLine.{reply_text}
use Rattle.click_lines.specs.Spelling.{words}
use Rattle.click_lines.specs.declared.line.Line.{Line}
use Rattle.click_prog.specs.declared.calls.replay.LineOutcome.{LineOutcome}
use Rattle.click_prog.specs.declared.calls.replay.LineOutcome.TheVariants as again
use Rattle.click_prog.specs.declared.calls.replay.ReplayOutcome.{ReplayOutcome}
use Rattle.click_prog.specs.declared.calls.replay.ReplayOutcome.TheVariants as replayed

-- The line is a call with its reply. A router answers this call with this reply in this state, and
-- is in the next state then.
pub record Agrees (s : RouterState) (line : List ℕ) (next : RouterState) : Type 0 where
  pub seat : ℕ
  pub call : Call
  pub reply : Reply
  pub is : line ≡ entry_line seat call reply
  pub answers : Answers s call next reply

-- The line is a call with the text of a reply. A router answers this call in this state with a
-- reply of another text.
pub record Differs (s : RouterState) (line : List ℕ) (written came : List ℕ) (next : RouterState) : Type 0 where
  pub said : Line
  pub is : line ≡ line_text said
  pub text_written : said.reply ≡ written
  pub reply : Reply
  pub answers : Answers s said.call next reply
  pub text_came : reply_text reply ≡ came
  pub other : came ≢ written

-- Made one after another from the first state, the calls of the lines get exactly the replies in
-- the lines, and lead to the last state.
abbrev pub Replays : RouterState → List (List ℕ) → RouterState → Type 0
Replays s [] last = s ≡ last
Replays s (line ∷ lines) last = (next : RouterState) × Agrees s line next × Replays next lines last

-- the outcome of replaying one line
abbrev pub IsLineOutcome : RouterState → List ℕ → RouterState → LineOutcome → Type 0
IsLineOutcome s line next again.Same = Agrees s line next
IsLineOutcome s line next (again.Differs written came) = Differs s line written came next
IsLineOutcome s line next again.NoLine = IsNoLine line × (next ≡ s)

-- The outcome of replaying lines. Either all agree. Or the line with this number, counted from 1,
-- differs or is not a call with its reply, and those before it agree.
abbrev pub IsReplayed : RouterState → List (List ℕ) → RouterState → ReplayOutcome → Type 0
IsReplayed first lines last (replayed.Same count) = (count ≡ length lines) × Replays first lines last
IsReplayed first lines last (replayed.Differs number written came) =
    (before : List (List ℕ)) × (line : List ℕ) × (after : List (List ℕ)) × (lines ≡ before ++ line ∷ after) × (number ≡ length before + 1)
    × ((s : RouterState) × Replays first before s × Differs s line written came last)
IsReplayed first lines last (replayed.NoLine number) =
    (before : List (List ℕ)) × (line : List ℕ) × (after : List (List ℕ)) × (lines ≡ before ++ line ∷ after) × (number ≡ length before + 1)
    × IsNoLine line × Replays first before last

-- The line that reports the outcome. The texts of replies are escaped as in a line of a book.
abbrev pub replayed_line : ReplayOutcome → List ℕ
replayed_line (replayed.Same count) = codes "replayed " ++ decimal count ++ codes " calls, all replies the same\n"
replayed_line (replayed.Differs number written came) =
    codes "line " ++ decimal number ++ codes ": the reply is " ++ words came ++ codes ", and " ++ words written ++ codes " was written\n"
replayed_line (replayed.NoLine number) = codes "line " ++ decimal number ++ codes " is no call with its reply\n"
