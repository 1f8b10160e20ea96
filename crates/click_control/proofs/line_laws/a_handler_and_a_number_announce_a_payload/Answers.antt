use Rattle.std.proofs.Common.{◌∙◌, arith}
use Rattle.click_control.proofs.KnownWords.{parsed-data, payload_line-some, payload_line-many}
use Rattle.click_control.proofs.line_laws.a_handler_and_a_number_announce_a_payload.Goals as goal

pub returns : goal.returns
returns c = record {
  some = λ w before gap handler space after n blanks apart word behind blank low high.
      parsed-data w before gap handler space after n blanks apart word behind blank (omega arith) ∙ payload_line-some w handler n low high;
  many = λ w before gap handler space after n blanks apart word behind blank low high.
      parsed-data w before gap handler space after n blanks apart word behind blank high ∙ payload_line-many w handler n low;
  none = λ w before gap handler space after blanks apart word behind blank. parsed-data w before gap handler space after 0 blanks apart word behind blank (omega arith);
}
