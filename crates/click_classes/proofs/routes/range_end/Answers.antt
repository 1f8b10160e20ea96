use Rattle.std.proofs.Common.{◌≡◌, true, false, get_or, sym, ◌∙◌, arith}
use Rattle.std.proofs.lemmas.Bool.Decides.{nat_tests}
use Rattle.std.proofs.lemmas.List.Elements.{All-get_or}
use Rattle.click_classes.specs.declared.routes.Row.{Row}
use Rattle.click_classes.specs.kept.Rows.{IsReady, fits}
use Rattle.click_classes.proofs.OfRoutes.RouteTables.{blank_row}
use Rattle.click_classes.proofs.OfRoutes.RowChanges.{fits_before_end, fits_until_end, fits_not_yet}
use Rattle.click_classes.proofs.OfRoutes.TableRows.{found_here, found_later}
use Rattle.click_classes.proofs.routes.range_end.Goals as goal

pub returns-then-start-row-clause-entry : goal.returns-then-start-row-clause-entry
returns-then-start-row-clause-entry c =
    let rows = c.args.rows.now in
    let at = c.loop-row.row-index in
    let row : Row = get_or rows at blank_row in
    let same = c.if-start-row.true in
    let test : fits row c.args.start ≡ true = grind (arith, nat_tests) in
    sym (found_here rows at c.args.start blank_row c.loop-row-test.true test) ∙ c.loop-row.invariant.skipped c.args.start (omega arith) c.loop-row.invariant.above

pub returns-then-start-row-clause-above : goal.returns-then-start-row-clause-above
returns-then-start-row-clause-above c =
    let row : Row = get_or c.args.rows.now c.loop-row.row-index blank_row in
    let ready : IsReady row = All-get_or IsReady c.args.rows.now c.loop-row.row-index blank_row c.loop-row-test.true c.requires in
    let same = c.if-start-row.true in
    let test : fits row c.args.start ≡ true = grind (arith, nat_tests) in
    let before = fits_before_end row ready c.args.start (omega arith) test in
    let end = c.end_of.ensures in
    let above = c.loop-row.invariant.above in
    omega (arith, before, end, above)

pub returns-then-start-row-clause-same : goal.returns-then-start-row-clause-same
returns-then-start-row-clause-same c =
    let rows = c.args.rows.now in
    let at = c.loop-row.row-index in
    let inside = c.loop-row-test.true in
    let row : Row = get_or rows at blank_row in
    let ready : IsReady row = All-get_or IsReady rows at blank_row inside c.requires in
    let same = c.if-start-row.true in
    let test : fits row c.args.start ≡ true = grind (arith, nat_tests) in
    let end = c.end_of.ensures in
    let within = c.loop-row.invariant.within in
    let here = c.loop-row.invariant.skipped c.args.start (omega arith) c.loop-row.invariant.above in
    λ w from until.
    let other : fits row w ≡ true = fits_until_end row ready c.args.start (omega arith) w test from (omega (arith, end, until)) (omega (arith, within, until)) in
    let there = c.loop-row.invariant.skipped w from (omega (arith, until)) in
    sym there ∙ found_here rows at w blank_row inside other ∙ sym (found_here rows at c.args.start blank_row inside test) ∙ here

pub loop-row-preserved : goal.loop-row-preserved
loop-row-preserved c =
    let rows = c.args.rows.now in
    let at = c.loop-row.row-index in
    let inside = c.loop-row-test.true in
    let row : Row = get_or rows at blank_row in
    let ready : IsReady row = All-get_or IsReady rows at blank_row inside c.requires in
    let same = c.if-start-row.false in
    let test : fits row c.args.start ≡ false = grind (arith, nat_tests) in
    let above = c.network_before-end.ensures.above in
    let within = c.network_before-end.ensures.within in
    let before = c.loop-row.invariant.within in
    record {
      above = above;
      within = omega (arith, within, before);
      skipped = λ w from until.
          let other = fits_not_yet row ready c.args.start (omega arith) w c.network_before-end.result test from until (omega (arith, within, before)) c.network_before-end.ensures.network in
          sym (found_later rows at w blank_row inside other) ∙ c.loop-row.invariant.skipped w from (omega (arith, within, until));
    }
