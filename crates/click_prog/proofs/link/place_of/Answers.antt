use Rattle.std.proofs.Common.{ℕ, List, Option, Some, None, MatchOption, inr}
use Rattle.std.specs.declared.net.socket_addr.SocketAddrV4.{SocketAddrV4}
use Rattle.click_prog.specs.Links.{IsAddressed, IsNoPlace, IsPlace, IsUnaddressed}
use Rattle.click_prog.specs.Numbers.{IsNoNumber}
use Rattle.click_prog.proofs.Spelling.{no-place}
use Rattle.click_prog.proofs.link.place_of.Goals as goal

as_place : (text : List ℕ) (r : Option SocketAddrV4) → IsNoNumber 1 65535 text → MatchOption r (IsUnaddressed text) (IsAddressed text) → MatchOption r (IsNoPlace text) (IsPlace text)
as_place text None number unaddressed = no-place text number unaddressed
as_place text (Some place) number there = inr there

pub returns-in-None : goal.returns-in-None
returns-in-None c = as_place c.args.text.now c.addressed.result c.in-None.ensures c.addressed.ensures
