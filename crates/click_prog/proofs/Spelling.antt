-- Lemmas on a value of --link, from the pieces that it is split into.
use Rattle.std.proofs.Common.{◌≡◌, ◌∙◌, ℕ, List, Some, None, Bor, true, false, arith, inl, inr, sym}
use Rattle.std.proofs.lemmas.Str.Pattern.{IsSplitOnceResult}
use Rattle.std.specs.Net.Grammar.{IsIpv4Text}
use Rattle.std.specs.Net.Socket.{v4_ip, v4_port}
use Rattle.std.specs.declared.net.ipv4_addr.Ipv4Addr.{Ipv4Addr}
use Rattle.std.specs.declared.net.socket_addr.SocketAddrV4.{SocketAddrV4}
use Rattle.click_classes.specs.Values.{is_device}
use Rattle.click_prog.specs.Links.{IsAddressed, IsLink, IsNoLink, IsNoPlace, IsPlace, IsUnaddressed}
use Rattle.click_prog.specs.Numbers.{IsNoNumber, IsNumber}
use Rattle.click_prog.specs.declared.link.Link.{Link}
use Rattle.click_prog.proofs.Cuts.{cut-found, cut-none, cut-same}

-- the two pieces that `split_once` returns
abbrev Pieces : Type 0
Pieces = Bor (List ℕ) × Bor (List ℕ)

pub unaddressed-whole : (text : List ℕ) → IsSplitOnceResult 58 text None → IsUnaddressed text
unaddressed-whole text came place is = cut-none 58 text is.address is.port came (omega arith) is.cut

pub unaddressed-ip : (text : List ℕ) (x : Pieces) → IsSplitOnceResult 58 text (Some x) → ((a : Ipv4Addr) → IsIpv4Text x.0.now a → ⊥) → IsUnaddressed text
unaddressed-ip text x came none place is =
    let same = cut-same 58 text is.address is.port x came (omega arith) is.cut in
    none (v4_ip place) (rw same.0 is.ip)

pub unaddressed-port : (text : List ℕ) (x : Pieces) → IsSplitOnceResult 58 text (Some x) → IsNoNumber 1 65535 x.1.now → IsUnaddressed text
unaddressed-port text x came none place is =
    let same = cut-same 58 text is.address is.port x came (omega arith) is.cut in
    none (v4_port place) (rw same.1 is.number)

pub addressed-of : (text : List ℕ) (x : Pieces) (place : SocketAddrV4) → IsSplitOnceResult 58 text (Some x) → IsIpv4Text x.0.now (v4_ip place) → IsNumber 1 65535 x.1.now (v4_port place)
    → IsAddressed text place
addressed-of text x place came ip number = record { address = x.0.now; port = x.1.now; cut = cut-found 58 text x came (omega arith); ip = ip; number = number }

pub no-place : (text : List ℕ) → IsNoNumber 1 65535 text → IsUnaddressed text → IsNoPlace text
no-place text number unaddressed place is = elim is [ inl own ↦ number (v4_port place) own.0 | inr there ↦ unaddressed place there ]

pub no-link-whole : (value : List ℕ) → IsSplitOnceResult 61 value None → IsNoLink value
no-link-whole value came link is = cut-none 61 value link.device.now is.places came (omega arith) is.device

pub no-link-unnamed : (value : List ℕ) (x : Pieces) → IsSplitOnceResult 61 value (Some x) → is_device x.0.now ≡ false → IsNoLink value
no-link-unnamed value x came unnamed link is =
    let same = cut-same 61 value link.device.now is.places x came (omega arith) is.device in
    let named : is_device x.0.now ≡ true = rw same.0 is.named in
    let bad : false ≡ true = sym unnamed ∙ named in
    cc

pub no-link-unpaired : (value : List ℕ) (x : Pieces) → IsSplitOnceResult 61 value (Some x) → IsSplitOnceResult 44 x.1.now None → IsNoLink value
no-link-unpaired value x came whole link is =
    let same = cut-same 61 value link.device.now is.places x came (omega arith) is.device in
    cut-none 44 x.1.now is.near is.far whole (omega arith) (rw same.1 is.pair)

pub no-link-near : (value : List ℕ) (x y : Pieces) → IsSplitOnceResult 61 value (Some x) → IsSplitOnceResult 44 x.1.now (Some y) → IsNoPlace y.0.now → IsNoLink value
no-link-near value x y came cut none link is =
    let same = cut-same 61 value link.device.now is.places x came (omega arith) is.device in
    let pair = cut-same 44 x.1.now is.near is.far y cut (omega arith) (rw same.1 is.pair) in
    none link.here (rw pair.0 is.here)

pub no-link-far : (value : List ℕ) (x y : Pieces) → IsSplitOnceResult 61 value (Some x) → IsSplitOnceResult 44 x.1.now (Some y) → IsNoPlace y.1.now → IsNoLink value
no-link-far value x y came cut none link is =
    let same = cut-same 61 value link.device.now is.places x came (omega arith) is.device in
    let pair = cut-same 44 x.1.now is.near is.far y cut (omega arith) (rw same.1 is.pair) in
    none link.there (rw pair.1 is.there)

pub link-of : (value : List ℕ) (x y : Pieces) (link : Link) → IsSplitOnceResult 61 value (Some x) → IsSplitOnceResult 44 x.1.now (Some y) → link.device ≡ x.0 → is_device x.0.now ≡ true
    → IsPlace y.0.now link.here → IsPlace y.1.now link.there → IsLink value link
link-of value x y link came cut device named here there = record {
  places = x.1.now;
  near = y.0.now;
  far = y.1.now;
  device = rw device (cut-found 61 value x came (omega arith));
  named = rw device named;
  pair = cut-found 44 x.1.now y cut (omega arith);
  here = here;
  there = there;
}
