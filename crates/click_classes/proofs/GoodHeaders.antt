-- A valid header stays valid if DecIPTTL lets the packet pass.
use Rattle.std.proofs.Common.{◌≡◌, ℕ, ◌-◌, List, Option, Some, None, nat_le, inl, inr}
use Rattle.std.proofs.lemmas.Bool.{cases_Bool}
use Rattle.click_packet.specs.Packet.{Packet}
use Rattle.click_packet.specs.Header.{ttl, IsGoodHeader}
use Rattle.click_packet.proofs.Headers.{with_ttl-good}
use Rattle.click_classes.specs.Acts.{pass, aged}
use Rattle.click_classes.specs.declared.packet_effects.Verdict.TheVariants as verdict
use Rattle.click_classes.specs.declared.state.State.TheVariants as state

aged-good : (p : Packet) (refused : List (List ℕ)) (hops : Option ℕ) → (aged p hops).verdict ≡ verdict.Forward → IsGoodHeader p.bytes refused
    → IsGoodHeader (aged p hops).packet.bytes refused
aged-good p refused None e g = cc
aged-good p refused (Some hops) e g = elim (cases_Bool (nat_le hops 1)) [
  | inl t ↦ let u = rw t at e in cc
  | inr t ↦ rw t (with_ttl-good p.bytes refused (hops - 1) g)
]

pub pass-good : (p : Packet) (refused : List (List ℕ)) → (pass state.DecIPTTL p).verdict ≡ verdict.Forward → IsGoodHeader p.bytes refused
    → IsGoodHeader (pass state.DecIPTTL p).packet.bytes refused
unfolding pass
pass-good p refused e g = aged-good p refused (ttl p.bytes) e g
