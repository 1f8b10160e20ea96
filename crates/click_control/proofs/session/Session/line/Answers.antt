use Rattle.std.proofs.Common.{◌+◌, Option, drop, subst}
use Rattle.click_control.specs.declared.line.FirstLine.TheVariants as found
use Rattle.click_control.specs.declared.command.Command.{Command}
use Rattle.click_control.specs.kept.Lines.{IsTaken, reading_of}
use Rattle.click_control.proofs.SessionLines.{skips_from, found_from, gives_blank, gives_command}
use Rattle.click_control.proofs.session.Session.line.Goals as goal
use Rattle.click_control.proofs.session.Session.line.Goals.{in-None, in-Some-command}

pub returns-after-command-clause-ok : goal.returns-after-command-clause-ok
returns-after-command-clause-ok c =
    let inside = c.self.inside in
    let items = inside.buffer.items in
    let n = c.in-Some.skipped in
    let taken = c.in-Taken in
    let r = reading_of taken.start in
    let skips = skips_from _ items inside.start inside.at n c.deref.ensures.value c.in-Some.ensures in
    let line = found_from _ items (inside.at + n) (found.Taken taken.command taken.length taken.start) c.deref-2.ensures.value (rw taken.is at c.in_ok-searched.ensures) in
    elim c.match-command.branch [
      | in-None w ↦
          let line_of = subst (λ (k : Option Command). IsTaken (drop (inside.at + n) items) k taken.length r) w.in-None.is line in
          rw (w.result-is, c.compact_buffer-self-inside-in-Taken.ensures.rest) (gives_blank items inside.start inside.at n taken.length r _ c.self.view_is skips line_of)
      | in-Some-command w ↦
          let d = w.in-Some-command.command in
          let line_of = subst (λ (k : Option Command). IsTaken (drop (inside.at + n) items) k taken.length r) w.in-Some-command.is line in
          rw (w.result-is, c.compact_buffer-self-inside-in-Taken.ensures.rest) (gives_command items inside.start inside.at n taken.length d r _ c.self.view_is skips line_of)
    ]
