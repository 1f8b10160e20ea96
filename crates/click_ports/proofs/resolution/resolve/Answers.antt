use Rattle.std.proofs.Common.{length, refl, sym, ap, ◌∙◌, subst}
use Rattle.click_ports.specs.Net.{names_of}
use Rattle.click_ports.specs.kept.Wiring.{Wiring, AreWithin}
use Rattle.click_ports.proofs.ResolvedNet.{IsOf, laid-of, joined-within, refuted, kept-made}
use Rattle.click_ports.proofs.resolution.resolve.Goals as goal
use Rattle.click_ports.proofs.resolution.resolve.Goals.{In_ok-layout}

-- the layout is that of the flat form and the states
laid : (c : In_ok-layout) → IsOf c.args.flat.now c.args.states.now c.in_ok-layout.layout
laid c =
    laid-of c.args.flat.now c.args.states.now c.in_ok-layout.layout c.as_slice-elements.result.now c.as_slice.result.now c.in_ok-connections.connections.items c.in_ok-shapes_of.field-0.items
    (length c.as_slice-elements.result.now) c.as_slice-elements.ensures c.as_slice.ensures refl c.in_ok-connections.ensures c.in_ok-shapes_of.ensures c.in_ok-layout.ensures

pub of-requires : goal.of-requires
of-requires c =
    joined-within c.args.flat.now.elements c.args.states.now c.as_slice.result.now c.in_ok-connections.connections.items c.in_ok-shapes_of.field-0.items (length c.as_slice-elements.result.now)
    c.requires c.in_ok-shapes_of.ensures (ap length c.as_slice-elements.ensures) c.in_ok-connections.ensures

pub returns-in-Some-clause-only : goal.returns-in-Some-clause-only
returns-in-Some-clause-only c = λ k. absurd (refuted c.args.flat.now c.args.states.now c.in_ok-layout.layout c.in-Some.fault (laid ((goal.at.returns-in-Some-clause-only c).In_ok-layout)) c.in-Some.ensures k)

pub returns-in-Some-first_unused-clause-only : goal.returns-in-Some-first_unused-clause-only
returns-in-Some-first_unused-clause-only c =
    λ k. absurd (refuted c.args.flat.now c.args.states.now c.in_ok-layout.layout c.in-Some-first_unused.fault (laid ((goal.at.returns-in-Some-first_unused-clause-only c).In_ok-layout)) c.in-Some-first_unused.ensures k)

pub returns-in-Some-first_mixed-clause-only : goal.returns-in-Some-first_mixed-clause-only
returns-in-Some-first_mixed-clause-only c =
    λ k. absurd (refuted c.args.flat.now c.args.states.now c.in_ok-layout.layout c.in-Some-first_mixed.fault (laid ((goal.at.returns-in-Some-first_mixed-clause-only c).In_ok-layout)) c.in-Some-first_mixed.ensures k)

pub returns-in-Some-first_twice-clause-only : goal.returns-in-Some-first_twice-clause-only
returns-in-Some-first_twice-clause-only c =
    λ k. absurd (refuted c.args.flat.now c.args.states.now c.in_ok-layout.layout c.in-Some-first_twice.fault (laid ((goal.at.returns-in-Some-first_twice-clause-only c).In_ok-layout)) c.in-Some-first_twice.ensures k)

pub of-requires-2 : goal.of-requires-2
of-requires-2 c =
    let o = laid ((goal.at.of-requires-2 c).In_ok-layout) in
    let within : AreWithin (length c.in_ok-shapes_of.field-0.items) c.in_ok-connections.connections.items =
    joined-within c.args.flat.now.elements c.args.states.now c.as_slice.result.now c.in_ok-connections.connections.items c.in_ok-shapes_of.field-0.items (length c.as_slice-elements.result.now)
    c.requires c.in_ok-shapes_of.ensures (ap length c.as_slice-elements.ensures) c.in_ok-connections.ensures in
    kept-made c.args.flat.now.elements c.args.states.now c.in_ok-names.names c.in_ok-layout.layout c.in_ok-kinds.kinds.pulls.items
    c.requires (c.in_ok-names.ensures ∙ ap names_of c.as_slice-elements.ensures) o.shapes (subst (λ (w : Wiring). AreWithin (length w.shapes) w.connections) (sym c.in_ok-layout.ensures) within)
    c.in_default.ensures c.in_default-first_unused.ensures c.in_default-first_mixed.ensures c.in_default-first_twice.ensures c.in_ok-kinds.ensures.pulls
