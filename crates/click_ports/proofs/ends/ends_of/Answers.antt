use Rattle.std.proofs.Common.{◌≡◌, ℕ, ◌<◌, List, [], take, replicate, length, get_or, refl, sym, ap, ◌∙◌, subst, arith}
use Rattle.std.proofs.lemmas.List.{take_more, take_all}
use Rattle.click_classes.specs.declared.ports.Side.TheVariants.{Input, Output}
use Rattle.click_expand.specs.declared.flat.Connection.{Connection}
use Rattle.click_ports.specs.Ports.{joined_port, port_index}
use Rattle.click_ports.specs.kept.Ends.{far_ends}
use Rattle.click_ports.proofs.FarEnds.{AreEndsOf, ends-more, ends-none, end-has}
use Rattle.click_ports.proofs.ends.ends_of.Goals as goal

blank : Connection
blank = record { from = 0; out_port = 0; to = 0; in_port = 0 }

pub number-from-requires : goal.number-from-requires
unfolding blank
number-from-requires c =
    end-has c.args.layout.now.connections c.connections-connection-items.result.now c.loop-connection.connection-index blank Output c.joined_port-output.result c.connections-connection-items.ensures.value
    c.loop-connection-test.true c.joined_port-output.ensures.is

pub number-to-requires : goal.number-to-requires
unfolding blank
number-to-requires c =
    end-has c.args.layout.now.connections c.connections-connection-items.result.now c.loop-connection.connection-index blank Input c.joined_port-input.result c.connections-connection-items.ensures.value
    c.loop-connection-test.true c.joined_port-input.ensures.is

pub loop-connection-init : goal.loop-connection-init
loop-connection-init c = ends-none c.args.layout.now c.in_ok-rows.rows.items (c.in_ok-rows.ensures ∙ ap (λ n. replicate {A = List ℕ} n []) c.ports.ensures.all)

pub loop-connection-preserved : goal.loop-connection-preserved
unfolding blank
loop-connection-preserved c =
    let w = c.args.layout.now in let cs = w.connections in let xs = c.connections-connection-items.result.now in let i = c.loop-connection.connection-index in
    let same : xs ≡ cs = c.connections-connection-items.ensures.value in
    let lt : i < length xs = c.loop-connection-test.true in
    let it : Connection = get_or xs i blank in
    let known = c.loop-connection.invariant in
    let x = c.number-from.result in let y = c.number-to.result in
    subst (λ part. AreEndsOf w part c.add_to-in-loop-connection.new.rows.items) (sym (take_more xs i blank lt))
    (ends-more w (take i xs) it c.loop-connection.rows.items c.add_to.new.rows.items c.add_to-in-loop-connection.new.rows.items x y
    (end-has cs xs i blank Output (joined_port Output it) same lt refl) (end-has cs xs i blank Input (joined_port Input it) same lt refl)
    (c.number-from.ensures.value ∙ ap (port_index cs) c.joined_port-output.ensures.is) (c.number-to.ensures.value ∙ ap (port_index cs) c.joined_port-input.ensures.is)
    (omega (arith, c.number-from.ensures.within, known.all)) (omega (arith, c.number-to.ensures.within, known.all))
    c.in_ok-add_to.ensures c.in_ok-add_to-2.ensures known)

pub returns : goal.returns
returns c =
    let w = c.args.layout.now in let xs = c.connections-connection-items.result.now in
    let known = c.loop-connection.invariant in
    let whole : take c.loop-connection.connection-index xs ≡ w.connections = take_all c.loop-connection.connection-index xs c.loop-connection-test.false ∙ c.connections-connection-items.ensures.value in
    record { all = known.all; right = λ p h. known.right p h ∙ ap (λ part. far_ends w.connections part p) whole }
