use Rattle.click_workers.proofs.listening.discard_rest.Given as goal

abbrev pub decreases-loop-bytes_left : goal.decreases-loop-bytes_left
decreases-loop-bytes_left g l = l.bytes_left
