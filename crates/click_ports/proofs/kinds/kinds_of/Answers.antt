use Rattle.std.proofs.Common.{◌≡◌, ℕ, List, Bool, length, subst, sym}
use Rattle.click_classes.specs.declared.ports.Code.{Code}
use Rattle.click_classes.specs.declared.ports.Code.TheVariants.{Push, Pull, Agnostic}
use Rattle.click_ports.specs.kept.Ends.{AreFarEnds}
use Rattle.click_ports.specs.kept.Marks.{AreCodes, AreMarks}
use Rattle.click_ports.specs.kept.Passages.{AreRows}
use Rattle.click_ports.specs.kept.Search.{IsGraph, AreMarked}
use Rattle.click_ports.specs.kept.Wiring.{Wiring, AreWithin}
use Rattle.click_ports.proofs.MarkedKinds.{ports-graph, marks-meet}
use Rattle.click_ports.proofs.kinds.kinds_of.Goals as goal

graph : (w : Wiring) (all codes : List Code) (ends rows inside : List (List ℕ)) → codes ≡ all → inside ≡ rows → AreWithin (length w.shapes) w.connections → AreCodes w all → AreFarEnds w ends → AreRows w rows →
    IsGraph (length codes) ends inside
graph w all codes ends rows inside p q i c e r =
    ports-graph w codes ends inside i (subst (AreCodes w) (sym p) c) e (subst (AreRows w) (sym q) r)

told : (w : Wiring) (all codes : List Code) (ends rows inside : List (List ℕ)) (k : Code) (marks : List Bool) → codes ≡ all → inside ≡ rows → AreWithin (length w.shapes) w.connections → AreCodes w all → AreFarEnds w ends → AreRows w rows →
    (k ≡ Agnostic → ⊥) → AreMarked codes ends inside k marks → AreMarks w k marks
told w all codes ends rows inside k marks p q i c e r f m =
    marks-meet w codes ends inside i (subst (AreCodes w) (sym p) c) e (subst (AreRows w) (sym q) r) k f marks m

pub ports_reaching-requires : goal.ports_reaching-requires
ports_reaching-requires c =
    graph c.args.layout.now c.in_ok-all_codes.all_codes.items c.as_slice-codes.result.now c.args.ends.now c.in_ok-all_inside.all_inside.items c.as_slice-inside.result.now
    c.as_slice-codes.ensures.value c.as_slice-inside.ensures.value c.in_ok-all_codes.ensures.within c.in_ok-all_codes.ensures.codes c.requires c.in_ok-all_inside.ensures

pub ports_reaching-requires-2 : goal.ports_reaching-requires-2
ports_reaching-requires-2 c =
    graph c.args.layout.now c.in_ok-all_codes.all_codes.items c.as_slice-codes.result.now c.args.ends.now c.in_ok-all_inside.all_inside.items c.as_slice-inside.result.now
    c.as_slice-codes.ensures.value c.as_slice-inside.ensures.value c.in_ok-all_codes.ensures.within c.in_ok-all_codes.ensures.codes c.requires c.in_ok-all_inside.ensures

pub returns-clause-pushes : goal.returns-clause-pushes
returns-clause-pushes c =
    told c.args.layout.now c.in_ok-all_codes.all_codes.items c.as_slice-codes.result.now c.args.ends.now c.in_ok-all_inside.all_inside.items c.as_slice-inside.result.now Push c.in_ok-pushes.pushes.items
    c.as_slice-codes.ensures.value c.as_slice-inside.ensures.value c.in_ok-all_codes.ensures.within c.in_ok-all_codes.ensures.codes c.requires c.in_ok-all_inside.ensures (λ e. cc e) c.in_ok-pushes.ensures

pub returns-clause-pulls : goal.returns-clause-pulls
returns-clause-pulls c =
    told c.args.layout.now c.in_ok-all_codes.all_codes.items c.as_slice-codes.result.now c.args.ends.now c.in_ok-all_inside.all_inside.items c.as_slice-inside.result.now Pull c.in_ok-pulls.pulls.items
    c.as_slice-codes.ensures.value c.as_slice-inside.ensures.value c.in_ok-all_codes.ensures.within c.in_ok-all_codes.ensures.codes c.requires c.in_ok-all_inside.ensures (λ e. cc e) c.in_ok-pulls.ensures
