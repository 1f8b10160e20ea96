use Rattle.std.proofs.Common.{◌+◌, ◌<◌, length, get_or, drop, sym, ap, ◌∙◌, arith, length-drop, get_or-drop}
use Rattle.std.proofs.lemmas.List.{take_rest}
use Rattle.std.proofs.lemmas.Bool.{false_from_ne_true}
use Rattle.click_control.specs.Commands.{is_end}
use Rattle.click_control.proofs.StreamCommands.{HasNoEnd-more, HasNoEnd-all}
use Rattle.click_control.proofs.line.line_len.Goals as goal

pub returns-in-None : goal.returns-in-None
returns-in-None c =
    let bytes = c.args.bytes.now in
    let s = c.args.searched in
    let none = rw (take_rest bytes s) at c.in-None.ensures in
    HasNoEnd-all bytes (HasNoEnd-more bytes s (length bytes) (omega arith) (omega arith) c.requires.no_end
    (λ k q. false_from_ne_true (is_end (get_or (drop s bytes) k 0)) (none k (omega arith) (omega (arith, length-drop s bytes)))))

pub returns-in-Some : goal.returns-in-Some
returns-in-Some c =
    let bytes = c.args.bytes.now in
    let s = c.args.searched in
    let n = c.in-Some.more in
    let found = rw (take_rest bytes s) at c.in-Some.ensures in
    let within : n < length (drop s bytes) = found.0.high in (
      omega (arith, length-drop s bytes),
      HasNoEnd-more bytes s (s + n) (omega arith) (omega (arith, length-drop s bytes)) c.requires.no_end
          (λ k q. false_from_ne_true (is_end (get_or (drop s bytes) k 0)) (found.0.before k (omega arith) (omega arith))),
      sym (ap is_end (get_or-drop s bytes n 0)) ∙ found.1,
    )
