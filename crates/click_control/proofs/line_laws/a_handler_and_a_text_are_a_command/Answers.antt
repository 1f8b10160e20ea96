use Rattle.click_control.proofs.KnownWords.{parsed-text, parsed-bare}
use Rattle.click_control.proofs.line_laws.a_handler_and_a_text_are_a_command.Goals as goal

pub returns : goal.returns
returns c = record {
  text = λ w before gap handler space text after blanks apart word behind clean blank. parsed-text w gap handler space text after apart word behind clean blank before blanks;
  none = λ w before gap handler after blanks apart word blank. parsed-bare w gap handler after apart word blank before blanks;
}
