use Rattle.std.proofs.Common.{[], refl, sym, subst}
use Rattle.click_base.specs.declared.class.Class.TheVariants as is
use Rattle.click_handlers.specs.Answers.{IsReadAnswer, IsWriteAnswer}
use Rattle.click_handlers.specs.Reads.{read_value}
use Rattle.click_handlers.specs.Names.{reads_of, writes_of, read_names, write_names}
use Rattle.click_handlers.proofs.RowNames.{next_name, last_name, last_class, name_there, place_there}
use Rattle.click_handlers.proofs.BoxedCalls.{told_closure}
use Rattle.click_handlers.proofs.standard.with_rows.OwnLists.{own-1, own-2, at-1-1, at-2-1}
use Rattle.click_handlers.proofs.standard.with_rows.Goals as goal

pub add_read-requires : goal.add_read-requires
add_read-requires g c alloc element text is =
    told_closure own-1 {at = at-1-1} c.into_dyn_box.ensures.1 c.in_ok-call.ensures.ok _ _
    (place_there (λ n. n.now) reads_of _ _ c.reads_of-name-items.result.now c.loop-place.place is c.reads_of-name-items.ensures c.loop-place-test.true)
    (λ r p. subst (λ n. IsReadAnswer (read_value n element.now text.now) r) (sym (name_there (λ n. n.now) reads_of _ _ c.reads_of-name-items.result.now c.loop-place.place (record { ref_ptr = (0, 0); now = [] }) is c.reads_of-name-items.ensures c.loop-place-test.true)) p.1)

pub loop-place-preserved : goal.loop-place-preserved
loop-place-preserved g c = next_name (λ n. n.now) reads_of c.loop-owner.owner-index _ c.reads_of-name-items.result.now c.loop-place.place (record { ref_ptr = (0, 0); now = [] }) _ _ _ c.reads_of-name-items.ensures c.loop-place-test.true refl c.loop-place.invariant c.in_ok-add_read.ensures

pub loop-owner-preserved : goal.loop-owner-preserved
loop-owner-preserved g c = last_name (λ n. n.now) reads_of c.loop-owner.owner-index is.Queue _ c.reads_of-name-items.result.now c.loop-place.place _ c.reads_of-name-items.ensures c.loop-place-test.false c.loop-owner-test.true refl c.loop-place.invariant

pub add_write-requires : goal.add_write-requires
add_write-requires g c alloc element text is =
    told_closure own-2 {at = at-2-1} c.into_dyn_box-in-loop-place-2.ensures.1 c.in_ok-call-2.ensures.ok _ _
    (place_there (λ n. n.now) writes_of _ _ c.writes_of-name-items.result.now c.loop-place-2.place is c.writes_of-name-items.ensures c.loop-place-2-test.true)
    (λ r p. subst (λ n. IsWriteAnswer n element text.now r) (sym (name_there (λ n. n.now) writes_of _ _ c.writes_of-name-items.result.now c.loop-place-2.place (record { ref_ptr = (0, 0); now = [] }) is c.writes_of-name-items.ensures c.loop-place-2-test.true)) p.2)

pub loop-place-2-preserved : goal.loop-place-2-preserved
loop-place-2-preserved g c = next_name (λ n. n.now) writes_of c.loop-owner-2.owner-index _ c.writes_of-name-items.result.now c.loop-place-2.place (record { ref_ptr = (0, 0); now = [] }) _ _ _ c.writes_of-name-items.ensures c.loop-place-2-test.true refl c.loop-place-2.invariant c.in_ok-add_write.ensures

pub loop-owner-2-preserved : goal.loop-owner-2-preserved
loop-owner-2-preserved g c = last_name (λ n. n.now) writes_of c.loop-owner-2.owner-index is.Queue _ c.writes_of-name-items.result.now c.loop-place-2.place _ c.writes_of-name-items.ensures c.loop-place-2-test.false c.loop-owner-2-test.true refl c.loop-place-2.invariant

pub take_rows-requires-clause-reads : goal.take_rows-requires-clause-reads
unfolding read_names
take_rows-requires-clause-reads g c = last_class reads_of c.loop-owner.owner-index _ c.loop-owner-test.false c.loop-owner.invariant

pub take_rows-requires-clause-writes : goal.take_rows-requires-clause-writes
unfolding write_names
take_rows-requires-clause-writes g c = last_class writes_of c.loop-owner-2.owner-index _ c.loop-owner-2-test.false c.loop-owner-2.invariant
