use Rattle.std.proofs.Common.{◌≡◌, ℕ, Bool, true, false, Option, Some, None, cond, eqb, arith, sym}
use Rattle.click_expand.specs.kept.InstanceWalk.{lexical_parent_by, here, after_lexical_parent}
use Rattle.click_expand.proofs.instances.tree.lexical_parent_of.Goals as goal

-- the next instance is the lexical parent
pub lexical_parent_from : (b : Bool) (h : Option ℕ) (w : ℕ) → cond b None h ≡ Some w → h ≡ Some w
lexical_parent_from true h w e = absurd (cc e)
lexical_parent_from false h w e = e

pub loop-outward-init : goal.loop-outward-init
loop-outward-init c = (c.requires.there, here c.args.place)

pub loop-outward-preserved : goal.loop-outward-preserved
loop-outward-preserved c =
    let k = c.in-Some.ensures in
    let w : lexical_parent_by c.args.scope k.0 ≡ Some c.in-Some.outward = sym k.2 in
    let l = c.requires.inward c.loop-outward.lexical_parent k.0 c.in-Some.outward k.1 (lexical_parent_from (eqb k.0.scope c.args.scope) k.0.lexical_parent c.in-Some.outward w) in
    let m = c.loop-outward.invariant.0 in
    (omega (arith, l, m), after_lexical_parent c.args.place c.loop-outward.lexical_parent c.in-Some.outward k.0 c.loop-outward.invariant.1 k.1 w)
