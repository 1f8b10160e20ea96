use Rattle.std.proofs.Common.{refl}
use Rattle.std.proofs.lemmas.List.Sums.{AllPass-from_list_all}
use Rattle.http_header.specs.Token.{is_value_byte}
use Rattle.click_page.specs.declared.page_text.TheConstants.{POLICY}
use Rattle.click_page.proofs.headers.add_policy.Goals as goal

pub from_known_valid-policy-requires : goal.from_known_valid-policy-requires
from_known_valid-policy-requires c = rw c.from_static.ensures (AllPass-from_list_all is_value_byte POLICY.now refl)

pub returns-clause-added : goal.returns-clause-added
returns-clause-added c = rw (c.in_ok-add_header.ensures.headers, c.from_static-2.ensures, c.from_known_valid-policy.ensures, c.from_static.ensures) refl
