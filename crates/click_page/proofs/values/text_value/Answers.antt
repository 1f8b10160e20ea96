use Rattle.click_page.proofs.Texts.{encoded-more}
use Rattle.click_page.proofs.values.text_value.Goals as goal

pub loop-byte-preserved : goal.loop-byte-preserved
loop-byte-preserved c =
    encoded-more c.args.bytes.now c.loop-byte.byte-index _ _ c.from.result c.loop-byte-test.true c.from.ensures c.loop-byte.invariant c.in_ok-push.ensures.bytes
