use Rattle.click_control.proofs.PartialLines.{payload_none, payload_waits_for}
use Rattle.click_control.proofs.laws.an_unfinished_payload_gives_no_command.Goals as goal

pub returns : goal.returns
returns c = record {
  none = λ line e came w handler n no_end short end says few. payload_none line e came w handler n (record { no_end = no_end; short = short }) end says few;
  waits = λ line e came more w handler n no_end short end says some few.
      payload_waits_for line e came more w handler n (record { no_end = no_end; short = short }) end says some few;
}
