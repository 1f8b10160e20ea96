use Rattle.click_patterns.proofs.Negations.{shorter_by_test}
use Rattle.click_patterns.proofs.parser.Parser.test.Goals as goal

pub returns-clause-shorter : goal.returns-clause-shorter
returns-clause-shorter c = shorter_by_test c.word_count-count.result c.args.self.now.tokens.now c.in-Some.test c.word_count-count.ensures.within c.in-Some.ensures
