use Rattle.std.proofs.Common.{inl, inr, subst, ◌∙◌}
use Rattle.click_expand.specs.kept.Answered.{IsExpanded, IsExpandedOr, IsRefusedOf}
use Rattle.click_expand.proofs.OfAnswers.FlatForms.{too-many-elements, too-many-paths, counted, too-many, answered, refused-by}
use Rattle.click_expand.proofs.flattening.sound_flat.Goals as goal

pub returns-then-size-gt-MAX_ELEMENTS-clause-err :
    goal.returns-then-size-gt-MAX_ELEMENTS-clause-err
returns-then-size-gt-MAX_ELEMENTS-clause-err c =
    elim c.then-size-gt-MAX_ELEMENTS.either [
      | inl l ↦ too-many-elements c.args.config.now c.requires.nested c.requires.sound c.in_ok-size.size c.in_ok-size.ensures l
      | inr p ↦ too-many-paths c.args.config.now c.requires.nested c.requires.sound c.in_ok-size.size c.in_ok-size.ensures p.1
    ]

pub instances_of-requires-clause-counted : goal.instances_of-requires-clause-counted
instances_of-requires-clause-counted c =
    let k = counted c.args.config.now c.requires.nested c.requires.sound c.in_ok-size.size c.in_ok-size.ensures c.if-size-gt-MAX_ELEMENTS.false c.if-size-gt-MAX_PATHS.false in
    (k.primitive_elements, k.are)

pub expanded-requires-clause-used : goal.expanded-requires-clause-used
expanded-requires-clause-used c =
    let k = counted c.args.config.now c.requires.nested c.requires.sound c.in_ok-size.size c.in_ok-size.ensures c.if-size-gt-MAX_ELEMENTS.false c.if-size-gt-MAX_PATHS.false in
    let u = c.in_ok-instances.ensures k.primitive_elements c.in_ok-size.size.paths k.are in
    (k.primitive_elements, u.0, u.1)

pub returns-in_default-clause-err : goal.returns-in_default-clause-err
returns-in_default-clause-err c =
    let k = counted c.args.config.now c.requires.nested c.requires.sound c.in_ok-size.size c.in_ok-size.ensures c.if-size-gt-MAX_ELEMENTS.false c.if-size-gt-MAX_PATHS.false in
    let u = c.in_ok-instances.ensures k.primitive_elements c.in_ok-size.size.paths k.are in
    too-many c.args.config.now k.primitive_elements c.in_ok-size.size.paths c.requires.sound k.are
    (subst (IsExpandedOr c.args.config.now k.primitive_elements c.in_ok-size.size.paths) c.in_default.is (c.in_ok-flat.ensures k.primitive_elements u.0 c.in_ok-size.size.paths u.1 k.few c.if-size-gt-MAX_PATHS.false))

pub returns-in-Some-2-clause-err : goal.returns-in-Some-2-clause-err
returns-in-Some-2-clause-err c =
    let k = counted c.args.config.now c.requires.nested c.requires.sound c.in_ok-size.size c.in_ok-size.ensures c.if-size-gt-MAX_ELEMENTS.false c.if-size-gt-MAX_PATHS.false in
    let u = c.in_ok-instances.ensures k.primitive_elements c.in_ok-size.size.paths k.are in
    let e : IsExpanded c.args.config.now k.primitive_elements c.in_ok-size.size.paths c.in-Some.flat =
    subst (IsExpandedOr c.args.config.now k.primitive_elements c.in_ok-size.size.paths) c.in-Some.is (c.in_ok-flat.ensures k.primitive_elements u.0 c.in_ok-size.size.paths u.1 k.few c.if-size-gt-MAX_PATHS.false) in
    refused-by c.args.config.now k.primitive_elements c.in_ok-size.size.paths c.in-Some.flat c.requires.sound k.are e c.in-Some-2.why
    (subst (IsRefusedOf k.primitive_elements) c.in-Some-2.is (c.in_ok-why.ensures k.primitive_elements u.0 u.1 (c.as_slice.ensures ∙ e.elements)))

pub returns-clause-flat : goal.returns-clause-flat
returns-clause-flat c =
    let k = counted c.args.config.now c.requires.nested c.requires.sound c.in_ok-size.size c.in_ok-size.ensures c.if-size-gt-MAX_ELEMENTS.false c.if-size-gt-MAX_PATHS.false in
    let u = c.in_ok-instances.ensures k.primitive_elements c.in_ok-size.size.paths k.are in
    let e : IsExpanded c.args.config.now k.primitive_elements c.in_ok-size.size.paths c.in-Some.flat =
    subst (IsExpandedOr c.args.config.now k.primitive_elements c.in_ok-size.size.paths) c.in-Some.is (c.in_ok-flat.ensures k.primitive_elements u.0 c.in_ok-size.size.paths u.1 k.few c.if-size-gt-MAX_PATHS.false) in
    answered c.args.config.now k.primitive_elements c.in_ok-size.size.paths c.in-Some.flat c.requires.sound k.are e
    (subst (IsRefusedOf k.primitive_elements) c.in-None.is (c.in_ok-why.ensures k.primitive_elements u.0 u.1 (c.as_slice.ensures ∙ e.elements)))
