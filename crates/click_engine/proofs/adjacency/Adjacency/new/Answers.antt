use Rattle.std.proofs.Common.{◌∙◌, ap, length, map, subst, sym}
use Rattle.std.proofs.lemmas.List.{length-map}
use Rattle.std.proofs.lemmas.List.FromFn.{length-map-range_with_len}
use Rattle.click_classes.specs.declared.ports.Side.TheVariants.{Input, Output}
use Rattle.click_ports.specs.Net.{Net}
use Rattle.click_ports.specs.kept.Wiring.{AreWithin as AreBetween}
use Rattle.click_engine.specs.kept.Tables.{element_of, first_at, port_of}
use Rattle.click_engine.proofs.OfPlants.ConnectionTable.{firsts_apart, firsts_are, joined_within}
use Rattle.click_engine.proofs.adjacency.Adjacency.new.Goals as goal

pub invariant_of-result : goal.invariant_of-result
invariant_of-result c =
    let net = c.args.net in let n = length net.shapes in
    let within : AreBetween (length net.shapes) net.connections = subst (λ (v : Net). AreBetween (length v.shapes) v.connections) c.net.view_is c.net.invariant.sound.within in
    let targets = c.in_ok-targets.targets.items in
    let sources = c.in_ok-first_sources.first_sources.items in
    let places = c.in_ok-first_targets.ensures.places ∙ ap (λ es. map element_of es) c.as_slice-2.ensures.value in
    let ports = c.in_ok-first_targets.ensures.ports ∙ ap (λ es. map port_of es) c.as_slice-2.ensures.value in
    let target_count = ap length c.in_ok-targets.ensures ∙ length-map-range_with_len (first_at net Output) 0 n in
    let source_count = ap length c.in_ok-first_sources.ensures ∙ length-map-range_with_len (first_at net Input) 0 n in (
      c.in_ok-far_ends.ensures.table,
      sym c.in_ok-far_ends.far_ends.ok.0 ∙ c.in_ok-far_ends.ensures.all,
      firsts_apart net Output targets _ _ within c.in_ok-targets.ensures places ports,
      ap length places ∙ length-map targets element_of ∙ target_count,
      ap length ports ∙ length-map targets port_of ∙ target_count,
      firsts_are net Input sources within c.in_ok-first_sources.ensures,
      source_count,
      joined_within n Output Input net.connections within,
      joined_within n Input Output net.connections within,
    )
