use Rattle.std.proofs.Common.{arith, sym, ap, ◌++◌, ◌∙◌, map}
use Rattle.std.proofs.lemmas.Bool.Decides.{nat_tests}
use Rattle.std.proofs.lemmas.List.Elements.{All-push}
use Rattle.click_classes.specs.kept.Rows.{IsReady, entry_of}
use Rattle.click_classes.proofs.OfRoutes.TableRows.{row_more, row_skipped}
use Rattle.click_classes.proofs.OfRoutes.RouteTables.{blank}
use Rattle.click_classes.proofs.routes.push_rows.Goals as goal
use Rattle.click_classes.proofs.routes.push_rows.Goals.{then-entry-len+in_ok-push, else-entry-len}

pub loop-entry-preserved : goal.loop-entry-preserved
loop-entry-preserved c =
    let rows = c.loop-entry.rows.items in
    let entries = c.args.entries.now in
    let at = c.loop-entry.entry-index in
    elim c.if-entry-len.branch [
      | then-entry-len+in_ok-push w ↦
          let same = w.if-entry-len.true in
          let r = w.row_of.result in
          let more = row_more rows entries at c.args.len blank c.loop-entry-test.true r w.row_of.ensures.entry (grind (arith, nat_tests)) in
          rw (w.rows-is, w.in_ok-push.ensures.items) (record {
            entries = more ∙ c.loop-entry.invariant.entries;
            ready = All-push IsReady rows r c.loop-entry.invariant.ready w.row_of.ensures.ready;
          })
      | else-entry-len w ↦
          let other = w.if-entry-len.false in
          let skipped = row_skipped rows entries at c.args.len blank c.loop-entry-test.true (grind (arith, nat_tests)) in
          rw w.rows-is (record {
            entries = ap (λ es. map entry_of rows ++ es) (sym skipped) ∙ c.loop-entry.invariant.entries;
            ready = c.loop-entry.invariant.ready;
          })
    ]
