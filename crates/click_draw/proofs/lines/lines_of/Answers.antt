use Rattle.std.proofs.Common.{subst, arith, length-append, ◌∷◌, []}
use Rattle.std.proofs.lemmas.List.Elements.{All-push}
use Rattle.click_draw.specs.Picture.{IsLine, IsLineInside, Joins}
use Rattle.std.proofs.lemmas.Option.{get_or_from_slice_get}
use Rattle.click_expand.specs.declared.flat.Connection.{Connection}
use Rattle.click_draw.proofs.Lists.{EachAt-push_at}
use Rattle.click_draw.proofs.lines.lines_of.Goals as goal

pub loop-number-preserved : goal.loop-number-preserved
loop-number-preserved c =
    let i = c.loop-number.invariant in
    let j = c.line_of.ensures.joins in
    rw c.in_ok-push.ensures.ok (record {
      all = omega (arith, length-append c.loop-number.lines (c.line_of.result ∷ []), i.all);
      each = EachAt-push_at (IsLine c.args.figures.now c.args.connections.now) _ _ _ i.all i.each (record { number = c.line_of.ensures.number; joins = λ k there. subst (λ (x : Connection). Joins c.args.figures.now x c.line_of.result) (get_or_from_slice_get c.args.connections.now c.loop-number.number k (record { from = 0; out_port = 0; to = 0; in_port = 0 }) there) j });
      inside = All-push (IsLineInside c.args.size.width c.args.size.height) _ _ i.inside c.line_of.ensures.inside;
    })
