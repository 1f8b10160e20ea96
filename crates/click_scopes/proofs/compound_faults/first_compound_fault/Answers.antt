use Rattle.std.proofs.Common.{length, ap, sym, subst}
use Rattle.click_scopes.specs.kept.FirstFault.{AreShort}
use Rattle.click_scopes.proofs.OfFaults.WrongUses.{compound_fault-least}
use Rattle.click_scopes.proofs.compound_faults.first_compound_fault.Goals as goal

pub returns : goal.returns
returns c =
    compound_fault-least c.args.config.now c.requires.nested c.args.scopes.now.scopes.items c.in_ok-ports.ports.items c.requires.scopes.all
    c.in_ok-ports.ensures c.as_slice-bodies.result.now c.as_slice.result.now c.as_slice-2.result.now _ c.in_bodies-inside.result c.in_scope-enclosing.result c.first_of.result
    c.as_slice-bodies.ensures c.as_slice.ensures.value c.as_slice-2.ensures.value (ap length c.as_slice-bodies.ensures) c.in_bodies-inside.ensures c.in_scope-enclosing.ensures c.first_of.ensures

pub in_bodies-inside-requires : goal.in_bodies-inside-requires
in_bodies-inside-requires c = subst AreShort (sym c.as_slice-bodies.ensures) c.requires.scopes.short

pub in_scope-enclosing-requires : goal.in_scope-enclosing-requires
in_scope-enclosing-requires c = subst AreShort (sym c.as_slice-bodies.ensures) c.requires.scopes.short
