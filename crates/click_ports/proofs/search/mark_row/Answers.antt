use Rattle.std.proofs.Common.{◌≡◌, inl, inr, ℕ, ◌<◌, [], ◌∷◌, ◌++◌, Bool, true, false, take, length, get_or, refl, sym, ap, ◌∙◌, subst, arith}
use Rattle.std.proofs.lemmas.List.{take_more, get_or_default}
use Rattle.std.proofs.lemmas.List.Elements.{Contains-get_or}
use Rattle.click_classes.specs.declared.ports.Code.TheVariants.{Push}
use Rattle.std.specs.Prelude.{Vec}
use Rattle.std.specs.Global.{Global}
use Rattle.click_ports.specs.kept.Search.{RowMarked}
use Rattle.click_ports.proofs.SearchMarks.{marked-old, marked-made, open-read, read-open}
use Rattle.click_ports.proofs.search.mark_row.Goals as goal
use Rattle.click_ports.proofs.search.mark_row.Goals.{then-not-index+then-is_open+in_ok-push, then-not-index+else-is_open, else-not-index}

pub index-requires : goal.index-requires
index-requires c =
    let h = c.requires.within _ (Contains-get_or c.args.row.now c.loop-port.port-index 0 c.loop-port-test.true) in
    omega (arith, h, c.requires.sized, c.loop-port.invariant.sized, c.loop-port.marks.ok.0)

pub index_mut-requires : goal.index_mut-requires
index_mut-requires c =
    let h = c.requires.within _ (Contains-get_or c.args.row.now c.loop-port.port-index 0 c.loop-port-test.true) in
    omega (arith, h, c.requires.sized, c.loop-port.invariant.sized, c.loop-port.marks.ok.0)

pub bounds-codes-port : goal.bounds-codes-port
bounds-codes-port c = c.requires.within _ (Contains-get_or c.args.row.now c.loop-port.port-index 0 c.loop-port-test.true)

pub loop-port-preserved : goal.loop-port-preserved
loop-port-preserved c =
    let codes = c.args.codes.now in let k = c.args.code in let row = c.args.row.now in let i = c.loop-port.port-index in
    let y : ℕ = get_or row i 0 in
    let marks = c.loop-port.marks.items in let work = c.loop-port.work.items in
    let known = c.loop-port.invariant in
    let within : y < length codes = c.requires.within y (Contains-get_or row i 0 c.loop-port-test.true) in
    let in_marks : y < length marks = omega (arith, within, c.requires.sized, known.sized) in
    let read : c.index.result.now ≡ get_or marks y false = c.index.ensures ∙ get_or_default marks y c.index.result.now false in_marks in
    subst (λ part. RowMarked codes k part c.args.marks.now.items c.args.work.now.items c.if-not-index.marks.items c.if-not-index.work.items) (sym (take_more row i 0 c.loop-port-test.true))
    (elim c.if-not-index.branch [
      | then-not-index+then-is_open+in_ok-push w ↦
          marked-made codes k (take i row) y c.args.marks.now.items marks c.if-not-index.marks.items c.args.work.now.items work c.if-not-index.work.items known in_marks
          (sym read ∙ w.if-not-index.true) (ap (λ (v : Vec Bool Global). v.items) w.marks-is)
          (inl (open-read codes k y Push within (w.if-is_open.ensures.0 refl), ap (λ (v : Vec ℕ Global). v.items) w.work-is ∙ w.in_ok-push.ensures.items))
      | then-not-index+else-is_open w ↦
          marked-made codes k (take i row) y c.args.marks.now.items marks c.if-not-index.marks.items c.args.work.now.items work c.if-not-index.work.items known in_marks
          (sym read ∙ w.if-not-index.true) (ap (λ (v : Vec Bool Global). v.items) w.marks-is)
          (inr ((λ o. let t : false ≡ true = w.if-is_open.ensures.1 (read-open codes k y Push within o) in cc t), ap (λ (v : Vec ℕ Global). v.items) w.work-is))
      | else-not-index w ↦
          subst (λ ms. RowMarked codes k (take i row ++ y ∷ []) c.args.marks.now.items c.args.work.now.items ms c.if-not-index.work.items) (sym (ap (λ (v : Vec Bool Global). v.items) w.marks-is))
          (subst (λ ws. RowMarked codes k (take i row ++ y ∷ []) c.args.marks.now.items c.args.work.now.items marks ws) (sym (ap (λ (v : Vec ℕ Global). v.items) w.work-is))
          (marked-old codes k (take i row) y c.args.marks.now.items marks c.args.work.now.items work known (sym read ∙ w.if-not-index.false)))
    ])
