use Rattle.std.proofs.lemmas.Result.{on_ok_weaker}
use Rattle.std.proofs.KnownBytes.{Appends-trans}
use Rattle.click_cli.proofs.refusal.write_line.Goals as goal

pub returns : goal.returns
returns g c = on_ok_weaker c.write_all-3.result (λ line. Appends-trans _ _ _ _ _
    (Appends-trans _ _ _ _ _ c.in_ok-write_all.ensures.bytes c.in_ok-write_all-2.ensures.bytes) line) c.write_all-3.ensures.bytes
