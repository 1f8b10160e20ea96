use Rattle.click_control.proofs.KnownWords.{parsed-check, parsed-quit}
use Rattle.click_control.proofs.line_laws.a_question_and_the_end_are_commands.Goals as goal

pub returns : goal.returns
returns c = record {
  check = λ w before gap handler after blanks apart word blank. parsed-check w gap handler after apart word blank before blanks;
  quit = parsed-quit;
}
