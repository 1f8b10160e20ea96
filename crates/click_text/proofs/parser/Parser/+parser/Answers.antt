use Rattle.std.proofs.Common.{◌+◌, ◌∙◌, refl, arith}
use Rattle.std.proofs.lemmas.Result.{err_from_is_err_and, IfOk-weaker, IfErr-weaker}
use Rattle.std.proofs.lemmas.Grind.{common_steps}
use Rattle.click_text.specs.kept.ParserStates.{inside, as_element, as_class, as_definition, of_head, between, statement_wanted, define, define_named, element_wanted, class_wanted, a_synonym}
use Rattle.click_text.proofs.OfParser.StateTokens.{begun_by, classed_by, define_on_by, stated_by, neither}
use Rattle.click_text.proofs.OfParser.ParserSteps.{taken, refused, refused_at_end, same_step, stops_from, too_deep, opened, closed_at, lists, chain_first}
use Rattle.click_text.proofs.parser.Parser.+parser.Goals as goal

pub body-returns-then-depth-ge-MAX_OPEN_BRACES-clause-stops : goal.body-returns-then-depth-ge-MAX_OPEN_BRACES-clause-stops
body-returns-then-depth-ge-MAX_OPEN_BRACES-clause-stops t c = λ s u h. too_deep c.args.depth s _ c.args.brace _ _ c.requires h (omega arith)

pub body-returns-in_err-formals-clause-stops : goal.body-returns-in_err-formals-clause-stops
body-returns-in_err-formals-clause-stops t c =
    let r = err_from_is_err_and c.from_residual.result c.from_residual.ensures.1 in
    rw (r.1, r.2) (λ s u h. stops_from _ _ _ _
    (rw c.skip.ensures (opened c.args.depth s _ c.args.brace _ _ c.requires h (omega arith)))
    (c.in_err-formals.ensures.stops (c.args.depth + 1) c.args.self.now.bodies c.args.brace u))

pub body-returns-in_err-statements-clause-stops : goal.body-returns-in_err-statements-clause-stops
body-returns-in_err-statements-clause-stops t c =
    let r = err_from_is_err_and c.from_residual-in_err-statements.result c.from_residual-in_err-statements.ensures.1 in
    rw (r.1, r.2) (λ s u h. stops_from _ _ _ _
    ((rw c.skip.ensures (opened c.args.depth s _ c.args.brace _ _ c.requires h (omega arith)))
    ∙ c.in_ok-formals.ensures.goes_on (c.args.depth + 1) c.args.self.now.bodies c.args.brace u)
    (c.in_err-statements.ensures.stops (inside c.args.brace c.in_ok-formals.formals u)))

pub body-returns-in_default-clause-stops : goal.body-returns-in_default-clause-stops
body-returns-in_default-clause-stops t c = λ s u h.
    (rw c.skip.ensures (opened c.args.depth s _ c.args.brace _ _ c.requires h (omega arith)))
    ∙ c.in_ok-formals.ensures.goes_on (c.args.depth + 1) c.args.self.now.bodies c.args.brace u
    ∙ c.in_ok-statements.ensures.goes_on (inside c.args.brace c.in_ok-formals.formals u)
    ∙ refused_at_end (c.args.depth + 1) _ _ c.in_default.ensures refl

pub body-returns-clause-goes_on : goal.body-returns-clause-goes_on
body-returns-clause-goes_on t c = λ s u h.
    (rw c.skip.ensures (opened c.args.depth s _ c.args.brace _ _ c.requires h (omega arith)))
    ∙ c.in_ok-formals.ensures.goes_on (c.args.depth + 1) c.args.self.now.bodies c.args.brace u
    ∙ c.in_ok-statements.ensures.goes_on (inside c.args.brace c.in_ok-formals.formals u)
    ∙ (rw (c.in_ok-push.ensures.ok, c.len-at.ensures, c.skip-2.ensures)
    (closed_at c.args.depth _ c.args.brace c.in-Close.close c.in_ok-formals.formals u c.in_ok-statements.statements _ _ (rw c.in-Close.is at c.in-Some.ensures)))

pub class-returns-in_default-clause-stops : goal.class-returns-in_default-clause-stops
class-returns-in_default-clause-stops t c = λ g. refused_at_end c.args.depth _ _ c.in_default.ensures refl

pub class-returns-in_err-body-in-Open-clause-stops : goal.class-returns-in_err-body-in-Open-clause-stops
class-returns-in_err-body-in-Open-clause-stops t c =
    let r = err_from_is_err_and c.from_residual.result c.from_residual.ensures.1 in
    rw (r.1, r.2) (λ g. c.in_err-body-in-Open.ensures.stops (class_wanted c.args.self.now.bodies g) (as_class g) refl)

pub class-returns-in-Word-clause-goes_on : goal.class-returns-in-Word-clause-goes_on
class-returns-in-Word-clause-goes_on t c = λ g.
    rw c.skip.ensures (taken c.args.depth c.args.depth _ _ c.in-Some.token _ _ c.in-Some.ensures (rw c.in-Word.is refl) (rw c.in-Word.is refl))

pub class-returns-in_ok-body-in-Open-clause-goes_on : goal.class-returns-in_ok-body-in-Open-clause-goes_on
class-returns-in_ok-body-in-Open-clause-goes_on t c = λ g.
    c.in_ok-body-in-Open.ensures.goes_on (class_wanted c.args.self.now.bodies g) (as_class g) refl

pub class-returns-in_default-token : goal.class-returns-in_default-token
class-returns-in_default-token t c = record {
  goes_on = tt;
  stops = λ g. refused c.args.depth _ c.in-Some.token _ _ c.in-Some.ensures
      (neither (classed_by c.args.self.now.bodies g c.in-Some.token) (λ w. c.in_default-token.not-Word w.0 w.1) (λ w. c.in_default-token.not-Open w.0 w.1));
  shorter = tt;
}

pub definition-returns-in_default-clause-stops : goal.definition-returns-in_default-clause-stops
definition-returns-in_default-clause-stops t c = λ p ss.
    c.in_ok-name.ensures.defines c.args.depth c.args.self.now.bodies p ss ∙ refused_at_end c.args.depth _ _ c.in_default.ensures refl

pub definition-returns-in_err-end-in-Word-clause-stops : goal.definition-returns-in_err-end-in-Word-clause-stops
definition-returns-in_err-end-in-Word-clause-stops t c =
    let r = err_from_is_err_and c.from_residual-in_err-end-in-Word.result c.from_residual-in_err-end-in-Word.ensures.1 in
    rw (r.1, r.2) (λ p ss. stops_from _ _ _ _
    (c.in_ok-name.ensures.defines c.args.depth c.args.self.now.bodies p ss
    ∙ (rw c.skip.ensures (taken c.args.depth c.args.depth _ _ c.in-Some.token _ _ c.in-Some.ensures (rw c.in-Word.is refl) (rw c.in-Word.is refl))))
    (c.in_err-end-in-Word.ensures.stops c.args.depth c.args.self.now.bodies p ss (a_synonym c.in_ok-name.name c.in-Word.class)))

pub definition-returns-in_err-body-in-Open-clause-stops : goal.definition-returns-in_err-body-in-Open-clause-stops
definition-returns-in_err-body-in-Open-clause-stops t c =
    let r = err_from_is_err_and c.from_residual-in_err-body-in-Open.result c.from_residual-in_err-body-in-Open.ensures.1 in
    rw (r.1, r.2) (λ p ss. stops_from _ _ _ _
    (c.in_ok-name.ensures.defines c.args.depth c.args.self.now.bodies p ss)
    (c.in_err-body-in-Open.ensures.stops (define_named c.args.self.now.bodies p ss c.in_ok-name.name) (as_definition c.in_ok-name.name p ss) refl))

pub definition-returns-in_ok-end-in-Word-clause-goes_on : goal.definition-returns-in_ok-end-in-Word-clause-goes_on
definition-returns-in_ok-end-in-Word-clause-goes_on t c = λ p ss.
    c.in_ok-name.ensures.defines c.args.depth c.args.self.now.bodies p ss
    ∙ (rw c.skip.ensures (taken c.args.depth c.args.depth _ _ c.in-Some.token _ _ c.in-Some.ensures (rw c.in-Word.is refl) (rw c.in-Word.is refl)))
    ∙ c.in_ok-end-in-Word.ensures.goes_on c.args.depth c.args.self.now.bodies p ss (a_synonym c.in_ok-name.name c.in-Word.class)

pub definition-returns-in_ok-body-in-Open-clause-goes_on : goal.definition-returns-in_ok-body-in-Open-clause-goes_on
definition-returns-in_ok-body-in-Open-clause-goes_on t c = λ p ss.
    c.in_ok-name.ensures.defines c.args.depth c.args.self.now.bodies p ss
    ∙ c.in_ok-body-in-Open.ensures.goes_on (define_named c.args.self.now.bodies p ss c.in_ok-name.name) (as_definition c.in_ok-name.name p ss) refl

pub definition-returns-in_default-token : goal.definition-returns-in_default-token
definition-returns-in_default-token t c = record {
  goes_on = tt;
  stops = λ p ss. c.in_ok-name.ensures.defines c.args.depth c.args.self.now.bodies p ss
      ∙ refused c.args.depth _ c.in-Some.token _ _ c.in-Some.ensures
      (neither (define_on_by c.args.self.now.bodies p ss c.in_ok-name.name c.in-Some.token) (λ w. c.in_default-token.not-Word w.0 w.1) (λ w. c.in_default-token.not-Open w.0 w.1));
  shorter = tt;
}

pub head-returns-in_default-clause-stops : goal.head-returns-in_default-clause-stops
head-returns-in_default-clause-stops t c = λ cx. refused_at_end c.args.depth _ _ c.in_default.ensures refl

pub head-returns-then-not-double_colon-clause-goes_on : goal.head-returns-then-not-double_colon-clause-goes_on
head-returns-then-not-double_colon-clause-goes_on t c = λ cx.
    (rw c.skip.ensures (taken c.args.depth c.args.depth _ _ c.in-Some.token _ _ c.in-Some.ensures (rw c.in-Word.is refl) (rw c.in-Word.is refl)))
    ∙ (rw c.if-not-double_colon.true at (c.double_colon.ensures.goes_on c.args.depth c.args.self.now.bodies cx c.in-Word.word))

pub head-returns-in_err-class-in-Word-clause-stops : goal.head-returns-in_err-class-in-Word-clause-stops
head-returns-in_err-class-in-Word-clause-stops t c =
    let r = err_from_is_err_and c.from_residual.result c.from_residual.ensures.1 in
    rw (r.1, r.2) (λ cx. stops_from _ _ _ _
    ((rw c.skip.ensures (taken c.args.depth c.args.depth _ _ c.in-Some.token _ _ c.in-Some.ensures (rw c.in-Word.is refl) (rw c.in-Word.is refl)))
    ∙ (rw c.if-not-double_colon.false at (c.double_colon.ensures.goes_on c.args.depth c.args.self.now.bodies cx c.in-Word.word)))
    (c.in_err-class-in-Word.ensures.stops (of_head c.in-Word.word cx)))

pub head-returns-in_err-body-in-Open-clause-stops : goal.head-returns-in_err-body-in-Open-clause-stops
head-returns-in_err-body-in-Open-clause-stops t c =
    let r = err_from_is_err_and c.from_residual-in_err-body-in-Open.result c.from_residual-in_err-body-in-Open.ensures.1 in
    rw (r.1, r.2) (λ cx. c.in_err-body-in-Open.ensures.stops (element_wanted c.args.self.now.bodies cx) (as_element cx) refl)

pub head-returns-in_ok-class-in-Word-clause-goes_on : goal.head-returns-in_ok-class-in-Word-clause-goes_on
head-returns-in_ok-class-in-Word-clause-goes_on t c = λ cx.
    (rw c.skip.ensures (taken c.args.depth c.args.depth _ _ c.in-Some.token _ _ c.in-Some.ensures (rw c.in-Word.is refl) (rw c.in-Word.is refl)))
    ∙ (rw c.if-not-double_colon.false at (c.double_colon.ensures.goes_on c.args.depth c.args.self.now.bodies cx c.in-Word.word))
    ∙ c.in_ok-class-in-Word.ensures.goes_on (of_head c.in-Word.word cx)

pub head-returns-in_ok-body-in-Open-clause-goes_on : goal.head-returns-in_ok-body-in-Open-clause-goes_on
head-returns-in_ok-body-in-Open-clause-goes_on t c = λ cx.
    c.in_ok-body-in-Open.ensures.goes_on (element_wanted c.args.self.now.bodies cx) (as_element cx) refl

pub head-returns-in_default-token : goal.head-returns-in_default-token
head-returns-in_default-token t c = record {
  goes_on = tt;
  stops = λ cx. refused c.args.depth _ c.in-Some.token _ _ c.in-Some.ensures
      (neither (begun_by c.args.self.now.bodies cx c.in-Some.token) (λ w. c.in_default-token.not-Word w.0 w.1) (λ w. c.in_default-token.not-Open w.0 w.1));
  shorter = tt;
}

pub statement-returns-in_default-clause-stops : goal.statement-returns-in_default-clause-stops
statement-returns-in_default-clause-stops t c = λ p ss. refused_at_end c.args.depth _ _ c.in_default.ensures refl

pub statement-returns-in-Some-first_of_names-clause-goes_on : goal.statement-returns-in-Some-first_of_names-clause-goes_on
statement-returns-in-Some-first_of_names-clause-goes_on t c =
    IfOk-weaker c.declaration.result _ _ (λ st h p ss. (rw c.skip.ensures (lists c.args.depth c.args.self.now.bodies p ss c.in-Some-first_of_names.first _ c.in-Some-first_of_names.ensures)) ∙ h p ss) c.declaration.ensures.goes_on

pub statement-returns-in-Some-first_of_names-clause-stops : goal.statement-returns-in-Some-first_of_names-clause-stops
statement-returns-in-Some-first_of_names-clause-stops t c =
    IfErr-weaker c.declaration.result _ _ (λ e h p ss. stops_from e _ _ _ (rw c.skip.ensures (lists c.args.depth c.args.self.now.bodies p ss c.in-Some-first_of_names.first _ c.in-Some-first_of_names.ensures)) (h p ss)) c.declaration.ensures.stops

pub statement-returns-in_err-chain-in_default-token : goal.statement-returns-in_err-chain-in_default-token
statement-returns-in_err-chain-in_default-token t c =
    let r = err_from_is_err_and c.from_residual.result c.from_residual.ensures.1 in
    rw (r.1, r.2) (record {
      goes_on = tt;
      stops = λ p ss. stops_from _ _ _ _
          (chain_first c.args.depth c.args.self.now.bodies p ss c.in-Some.token _ _ c.in-Some.ensures c.in_default-first_of_names.ensures (λ w. c.in_default-token.not-Elementclass w.0 w.1) (λ w. c.in_default-token.not-Require w.0 w.1))
          (c.in_err-chain-in_default-token.ensures.stops p ss);
      shorter = tt;
    })

pub statement-returns-in-Elementclass-clause-goes_on : goal.statement-returns-in-Elementclass-clause-goes_on
statement-returns-in-Elementclass-clause-goes_on t c =
    IfOk-weaker c.definition.result _ _ (λ st h p ss. (rw c.skip-in-Elementclass.ensures (taken c.args.depth c.args.depth (statement_wanted c.args.self.now.bodies p ss) (define c.args.self.now.bodies p ss) c.in-Some.token _ _ c.in-Some.ensures (rw c.in-Elementclass.is refl) (rw c.in-Elementclass.is refl))) ∙ h p ss) c.definition.ensures.goes_on

pub statement-returns-in-Elementclass-clause-stops : goal.statement-returns-in-Elementclass-clause-stops
statement-returns-in-Elementclass-clause-stops t c =
    IfErr-weaker c.definition.result _ _ (λ e h p ss. stops_from e _ _ _ (rw c.skip-in-Elementclass.ensures (taken c.args.depth c.args.depth (statement_wanted c.args.self.now.bodies p ss) (define c.args.self.now.bodies p ss) c.in-Some.token _ _ c.in-Some.ensures (rw c.in-Elementclass.is refl) (rw c.in-Elementclass.is refl))) (h p ss)) c.definition.ensures.stops

pub statement-returns-in-Require-clause-goes_on : goal.statement-returns-in-Require-clause-goes_on
statement-returns-in-Require-clause-goes_on t c = λ p ss.
    (rw c.skip-in-Require.ensures (taken c.args.depth c.args.depth _ _ c.in-Some.token _ _ c.in-Some.ensures (rw c.in-Require.is refl) (rw c.in-Require.is refl)))
    ∙ c.string-text.ensures.of_requirement c.args.depth c.args.self.now.bodies p ss

pub statement-returns-in_ok-chain-in_default-token : goal.statement-returns-in_ok-chain-in_default-token
statement-returns-in_ok-chain-in_default-token t c = record {
  goes_on = λ p ss. chain_first c.args.depth c.args.self.now.bodies p ss c.in-Some.token _ _ c.in-Some.ensures c.in_default-first_of_names.ensures (λ w. c.in_default-token.not-Elementclass w.0 w.1) (λ w. c.in_default-token.not-Require w.0 w.1)
      ∙ c.in_ok-chain-in_default-token.ensures.goes_on p ss;
  stops = tt;
  shorter = c.in_ok-chain-in_default-token.ensures.shorter;
}

pub statements-rows-preserved-in-Semicolon : goal.statements-rows-preserved-in-Semicolon
statements-rows-preserved-in-Semicolon t c = record {
  same = λ p. c.rows.invariant.same p ∙ (rw c.skip.ensures (taken c.args.depth c.args.depth _ _ c.in-Some.token _ _ c.in-Some.ensures (rw c.in-Semicolon.is refl) (rw c.in-Semicolon.is refl)));
  fewer = grind (arith, common_steps);
}

pub statements-returns-in_err-statement-in_default-token : goal.statements-returns-in_err-statement-in_default-token
statements-returns-in_err-statement-in_default-token t c =
    let r = err_from_is_err_and c.from_residual.result c.from_residual.ensures.1 in
    rw (r.1, r.2) (record {
      goes_on = tt;
      stops = λ p. stops_from _ _ _ _
          (c.rows.invariant.same p ∙ same_step c.args.depth (between c.rows.self.bodies p c.rows.statements) (statement_wanted c.rows.self.bodies p c.rows.statements) c.in-Some.token _ _ c.in-Some.ensures
          (neither (stated_by c.rows.self.bodies p c.rows.statements c.in-Some.token) (λ w. c.in_default-token.not-Semicolon w.0 w.1) (λ w. c.in_default-token.not-Close w.0 w.1)))
          (c.in_err-statement-in_default-token.ensures.stops p c.rows.statements);
      ended = tt;
      shorter = tt;
    })

pub statements-rows-preserved : goal.statements-rows-preserved
statements-rows-preserved t c = record {
  same = λ p. c.rows.invariant.same p ∙ same_step c.args.depth (between c.rows.self.bodies p c.rows.statements) (statement_wanted c.rows.self.bodies p c.rows.statements) c.in-Some.token _ _ c.in-Some.ensures
      (neither (stated_by c.rows.self.bodies p c.rows.statements c.in-Some.token) (λ w. c.in_default-token.not-Semicolon w.0 w.1) (λ w. c.in_default-token.not-Close w.0 w.1))
      ∙ (rw c.in_ok-push-in_default-token.ensures.ok (c.in_ok-statement-in_default-token.ensures.goes_on p c.rows.statements));
  fewer = omega (arith, c.in_ok-statement-in_default-token.ensures.shorter, c.rows.invariant.fewer);
}
