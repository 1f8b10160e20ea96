use Rattle.std.proofs.Common.{inl, inr, ◌<◌, length, sym, ◌∙◌, subst, arith, rules, Contains}
use Rattle.click_ports.specs.kept.Search.{RowMarked}
use Rattle.click_ports.proofs.SearchMarks.{way-start, way-on, way-end, waits-within, none-left, row-within, row-read}
use Rattle.click_ports.proofs.search.ports_reaching.Goals as goal
use Rattle.click_ports.proofs.search.ports_reaching.Goals.{In-Some}

-- the port that is taken from the work is one of the graph
here : (c : In-Some) → c.in-Some.port < length c.args.codes.now
here c = waits-within c.args.codes.now c.args.outside.now c.args.inside.now c.args.code c.loop-port.marks.items c.loop-port.work.items c.pop.new.self.items c.in-Some.port c.loop-port.invariant c.in-Some.ensures.items

pub mark_row-requires-clause-within : goal.mark_row-requires-clause-within
mark_row-requires-clause-within c = λ x h. (c.in_ok-starts.ensures.sound x (subst (λ xs. Contains xs x) c.as_slice.ensures.value h)).0

pub loop-port-init : goal.loop-port-init
loop-port-init c =
    way-start c.args.codes.now c.args.outside.now c.args.inside.now c.args.code c.as_slice.result.now c.new-work.result.items c.mark_row.new.work.items c.in_ok-marks.marks.items c.mark_row.new.marks.items
    (search rules) c.new-work.ensures.items
    (λ x h. c.in_ok-starts.ensures.sound x (subst (λ xs. Contains xs x) c.as_slice.ensures.value h))
    (λ x l e. subst (λ xs. Contains xs x) (sym c.as_slice.ensures.value) (c.in_ok-starts.ensures.complete x l e))
    c.in_ok-mark_row.ensures

pub bounds-outside-port : goal.bounds-outside-port
bounds-outside-port c = omega (arith, here c, c.requires.all_outside)

pub offset_bounds-outside-port : goal.offset_bounds-outside-port
offset_bounds-outside-port c = let b : c.in-Some.port < length c.args.outside.now = omega (arith, here c, c.requires.all_outside) in search rules

pub mark_row-requires-in-Some-clause-within : goal.mark_row-requires-in-Some-clause-within
mark_row-requires-in-Some-clause-within c =
    let l : c.in-Some.port < length c.args.outside.now = omega (arith, here ((goal.at.mark_row-requires-in-Some-clause-within c).In-Some), c.requires.all_outside) in
    row-within (length c.args.codes.now) c.in-Some.port c.args.outside.now c.args.inside.now c.as_slice-in-Some.result.now c.requires
    (inl (row-read c.args.outside.now c.in-Some.port c.index-outside-port.result c.as_slice-in-Some.result.now l c.index-outside-port.is c.as_slice-in-Some.ensures))

pub bounds-inside-port : goal.bounds-inside-port
bounds-inside-port c = omega (arith, here ((goal.at.bounds-inside-port c).In-Some), c.requires.all_inside)

pub offset_bounds-inside-port : goal.offset_bounds-inside-port
offset_bounds-inside-port c = let b : c.in-Some.port < length c.args.inside.now = omega (arith, here ((goal.at.offset_bounds-inside-port c).In-Some), c.requires.all_inside) in search rules

pub mark_row-requires-in-Some-2-clause-within : goal.mark_row-requires-in-Some-2-clause-within
mark_row-requires-in-Some-2-clause-within c =
    let l : c.in-Some.port < length c.args.inside.now = omega (arith, here ((goal.at.mark_row-requires-in-Some-2-clause-within c).In-Some), c.requires.all_inside) in
    row-within (length c.args.codes.now) c.in-Some.port c.args.outside.now c.args.inside.now c.as_slice-in-Some-2.result.now c.requires
    (inr (row-read c.args.inside.now c.in-Some.port c.index-inside-port.result c.as_slice-in-Some-2.result.now l c.index-inside-port.is c.as_slice-in-Some-2.ensures))

pub loop-port-preserved : goal.loop-port-preserved
loop-port-preserved c =
    let codes = c.args.codes.now in let k = c.args.code in let x = c.in-Some.port in
    let lx : x < length codes = here ((goal.at.loop-port-preserved c).In-Some) in
    let lo : x < length c.args.outside.now = omega (arith, lx, c.requires.all_outside) in
    let li : x < length c.args.inside.now = omega (arith, lx, c.requires.all_inside) in
    let first = row-read c.args.outside.now x c.index-outside-port.result c.as_slice-in-Some.result.now lo c.index-outside-port.is c.as_slice-in-Some.ensures in
    let second = row-read c.args.inside.now x c.index-inside-port.result c.as_slice-in-Some-2.result.now li c.index-inside-port.is c.as_slice-in-Some-2.ensures in
    way-on codes c.args.outside.now c.args.inside.now k x c.loop-port.marks.items c.mark_row-in-Some.new.marks.items c.mark_row-in-Some-2.new.marks.items
    c.loop-port.work.items c.pop.new.self.items c.mark_row-in-Some.new.work.items c.mark_row-in-Some-2.new.work.items c.in-Some.ensures.items
    (subst (λ row. RowMarked codes k row c.loop-port.marks.items c.pop.new.self.items c.mark_row-in-Some.new.marks.items c.mark_row-in-Some.new.work.items) first c.in_ok-mark_row-2.ensures)
    (subst (λ row. RowMarked codes k row c.mark_row-in-Some.new.marks.items c.mark_row-in-Some.new.work.items c.mark_row-in-Some-2.new.marks.items c.mark_row-in-Some-2.new.work.items) second c.in_ok-mark_row-3.ensures)
    c.loop-port.invariant

pub returns : goal.returns
returns c =
    way-end c.args.codes.now c.args.outside.now c.args.inside.now c.args.code c.loop-port.marks.items c.loop-port.work.items
    (none-left c.loop-port.work.items (sym c.loop-port.work.ok.0 ∙ c.in_default.ensures.cases.0)) c.loop-port.invariant
