use Rattle.std.proofs.Common.{◌∙◌, ◌≡◌, ap, subst, sym, length}
use Rattle.std.specs.List.{All}
use Rattle.click_ports.specs.Net.{Net}
use Rattle.click_engine.specs.Frames.{TransferStack}
use Rattle.click_engine.specs.kept.Sums.{FindsSums}
use Rattle.click_engine.specs.kept.Tasks.{IsTaskIn}
use Rattle.click_engine.specs.declared.devices.PacketDirection.TheVariants.{In, Out}
use Rattle.click_engine.proofs.OfPlants.FirstPlant.{devices_among}
use Rattle.click_engine.proofs.OfPlants.PlantElements.{elements_length}
use Rattle.click_engine.proofs.plant.Plant.new.Goals as goal

pub new-requires : goal.new-requires
new-requires c = c.in_ok-elements.elements.ok.0 ∙ ap length c.in_ok-elements.ensures ∙ elements_length c.args.net 0 c.args.states.items ∙ sym c.args.states.ok.0 ∙ c.requires

pub invariant_of-result : goal.invariant_of-result
invariant_of-result c =
    let looked = c.in_ok-lookups.lookups in
    let known = c.in_ok-lookups.ensures in
    let net : c.args.net ≡ c.in_ok-circuit.circuit.adjacency = sym c.in_ok-circuit.ensures.net in
    let states = c.as_slice.ensures.value in
    let count = sym c.args.states.ok.0 ∙ c.requires ∙ ap (λ (n : Net). length n.shapes) net in (
      ap (λ (s : TransferStack). s.frames) c.in_ok-transfer_stack.ensures,
      ap (λ (s : TransferStack). s.room) c.in_ok-transfer_stack.ensures,
      subst (λ (n : Net). FindsSums looked.names n.names) net known.names,
      subst (λ (n : Net). All (IsTaskIn n.shapes) looked.tasks.items) net known.classes,
      devices_among In c.args.states.items _ looked.sources count (rw states at known.sources),
      devices_among Out c.args.states.items _ looked.sinks count (rw states at known.sinks),
    )
