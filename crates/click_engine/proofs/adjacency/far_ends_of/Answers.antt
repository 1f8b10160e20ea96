use Rattle.std.proofs.Common.{◌≡◌, ◌∙◌, ℕ, ◌+◌, ◌-◌, ◌<◌, ◌≤◌, ◌∷◌, List, Contains, ap, drop, get_or, length, set, sym, subst, arith}
use Rattle.std.proofs.lemmas.List.{drop_more, length-set}
use Rattle.std.proofs.lemmas.List.Elements.{Contains-get_or}
use Rattle.click_classes.specs.declared.ports.Side.TheVariants.{Input, Output}
use Rattle.click_expand.specs.declared.flat.Connection.{Connection}
use Rattle.click_ports.specs.Net.{Net}
use Rattle.click_ports.specs.Ports.{joined_port, port_index}
use Rattle.click_ports.proofs.PortNumbers.{number-within}
use Rattle.click_ports.proofs.PortUses.{has-end, has-within}
use Rattle.click_engine.specs.Adjacency.{end_of}
use Rattle.click_engine.specs.kept.Tables.{far_of, joined_at, nowhere}
use Rattle.click_engine.specs.declared.run_state.ConnectionEnd.{ConnectionEnd}
use Rattle.click_engine.proofs.OfPlants.ConnectionTable.{entered, port}
use Rattle.click_engine.proofs.adjacency.far_ends_of.Goals as goal

abbrev connection : List Connection → ℕ → Connection
connection xs at = get_or xs (at - 1) (record { from = 0; out_port = 0; to = 0; in_port = 0 })

is_there : (xs cs : List Connection) (at : ℕ) → xs ≡ cs → 0 < at → at ≤ length xs → Contains cs (connection xs at)
is_there xs cs at is some inside = subst (λ ys. Contains ys (connection xs at)) is (Contains-get_or xs (at - 1) _ (omega (arith, some, inside)))

pub enter-requires-clause-has : goal.enter-requires-clause-has
enter-requires-clause-has c =
    let xs = c.connections-connections.result.now in let cs = c.args.net.now.connections in
    let is : c.end_of-output.result ≡ end_of Output (connection xs c.loop-at.at) = c.end_of-output.ensures in
    rw is (has-end cs (connection xs c.loop-at.at) Output (is_there xs cs c.loop-at.at c.connections-connections.ensures.value c.loop-at-test.true c.loop-at.auto.at))

pub enter-requires-in-loop-at-clause-has : goal.enter-requires-in-loop-at-clause-has
enter-requires-in-loop-at-clause-has c =
    let xs = c.connections-connections.result.now in let cs = c.args.net.now.connections in
    let is : c.end_of-input.result ≡ end_of Input (connection xs c.loop-at.at) = c.end_of-input.ensures in
    rw is (has-end cs (connection xs c.loop-at.at) Input (is_there xs cs c.loop-at.at c.connections-connections.ensures.value c.loop-at-test.true c.loop-at.auto.at))

pub loop-at-preserved : goal.loop-at-preserved
loop-at-preserved c =
    let net = c.args.net.now in let cs = net.connections in let n = length net.shapes in
    let xs = c.connections-connections.result.now in let at = c.loop-at.at in let one = connection xs at in
    let there = is_there xs cs at c.connections-connections.ensures.value c.loop-at-test.true c.loop-at.auto.at in
    let out = has-end cs one Output there in let into = has-end cs one Input there in
    let between = c.connections-connections.ensures.sound.within in
    let old = c.loop-at.far_ends.items in
    let many : length old ≡ _ = sym c.loop-at.far_ends.ok.0 ∙ c.loop-at.invariant.all in
    let first_set = set old (port_index cs (joined_port Output one)) (end_of Input one) in
    let out_in : port_index cs (joined_port Output one) < length old =
    omega (arith, many, number-within cs n (joined_port Output one) out (has-within n cs (joined_port Output one) between out)) in
    let into_in : port_index cs (joined_port Input one) < length first_set =
    omega (arith, many, length-set old (port_index cs (joined_port Output one)) (end_of Input one), number-within cs n (joined_port Input one) into (has-within n cs (joined_port Input one) between into)) in
    let output : c.end_of-output.result ≡ end_of Output one = c.end_of-output.ensures in
    let input : c.end_of-input.result ≡ end_of Input one = c.end_of-input.ensures in
    let ends : c.enter-in-loop-at.new.far_ends.items ≡ set first_set (port_index cs (joined_port Input one)) (end_of Output one) =
    rw (c.enter.ensures.entered, output, input) at c.enter-in-loop-at.ensures.entered in
    let after : at - 1 + 1 ≡ at = omega (arith, c.loop-at-test.true) in
    let rest : drop (at - 1) xs ≡ one ∷ drop at xs = drop_more xs (at - 1) _ (omega (arith, c.loop-at-test.true, c.loop-at.auto.at)) ∙ ap (λ k. one ∷ drop k xs) after in
    let next : drop (at - 1) cs ≡ one ∷ drop at cs = subst (λ ys. drop (at - 1) ys ≡ one ∷ drop at ys) c.connections-connections.ensures.value rest in
    record {
      leads = λ s e number h. rw (ends, next) (entered cs (drop at cs) n old one out into out_in into_in c.loop-at.invariant.leads s e number h);
      all = c.enter-in-loop-at.ensures.all ∙ c.enter.ensures.all ∙ c.loop-at.invariant.all;
    }
