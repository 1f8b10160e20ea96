use Rattle.click_expand.proofs.OfTexts.ParameterMeanings.{is-none}
use Rattle.click_expand.proofs.OfTexts.TextParts.{part-value, part-bytes, part-none}
use Rattle.click_expand.proofs.texts.writing.part_of.Goals as goal
use Rattle.click_expand.proofs.texts.writing.part_of.Goals.{in-Some+in_default-value_at, in_default}

pub returns-in-Some-value_at-clause-parts : goal.returns-in-Some-value_at-clause-parts
returns-in-Some-value_at-clause-parts c places known primitive_elements whole are h =
    part-value c.args.config.now known c.args.reading whole h c.parameter_at.result c.in-Some.parameter c.of-name.result.now c.value_at.result c.in-Some-value_at.value
    c.parameter_at.ensures.formal c.in-Some.is c.of-name.ensures (λ x there. c.value_at.ensures.value places known primitive_elements x are there) c.in-Some-value_at.is

pub returns-clause-parts : goal.returns-clause-parts
returns-clause-parts c places known primitive_elements whole are h =
    elim c.match-parameter_at.branch [
      | in-Some+in_default-value_at w ↦
          part-none c.args.config.now known c.args.reading whole h c.parameter_at.result w.in-Some.parameter w.of-name.result.now w.value_at.result c.first_item-len.result.0 c.first_item-len.result.1
          c.parameter_at.ensures.formal w.in-Some.is w.of-name.ensures (λ x there. w.value_at.ensures.value places known primitive_elements x are there) (is-none w.value_at.result w.in_default-value_at.not-Some) c.first_item-len.ensures.longest
      | in_default w ↦
          part-bytes c.args.config.now known c.args.reading whole h c.parameter_at.result c.first_item-len.result.0 c.first_item-len.result.1 c.parameter_at.ensures.formal (is-none c.parameter_at.result w.in_default.not-Some) c.first_item-len.ensures.longest
    ]
