-- The body that an element stands for, and the meaning of its class.
use Rattle.std.proofs.Common.{◌≡◌, ℕ, Option, Some, None, ap}
use Rattle.std.proofs.lemmas.Option.{same_Some}
use Rattle.click_scopes.specs.Classes.{compound}
use Rattle.click_scopes.specs.kept.Tables.{meaning_by}
use Rattle.click_scopes.specs.kept.Lookups.{class_body}
use Rattle.click_scopes.specs.declared.classes.ResolvedClass.{ResolvedClass}
use Rattle.click_scopes.specs.declared.classes.ResolvedClass.TheVariants as class

pub compound-means : (o : Option ResolvedClass) (b : ℕ) → class_body o ≡ Some b → meaning_by o ≡ Some (compound b)
compound-means None b h = absurd (cc h)
compound-means (Some (class.Primitive s)) b h = absurd (cc h)
compound-means (Some (class.Compound d)) b h = ap (λ x. Some (compound x)) (same_Some d b h)

pub means-compound : (o : Option ResolvedClass) (b : ℕ) → meaning_by o ≡ Some (compound b) → class_body o ≡ Some b
means-compound None b h = absurd (cc h)
means-compound (Some (class.Primitive s)) b h = absurd (cc h)
means-compound (Some (class.Compound d)) b h = ap Some (let e : d ≡ b = cc h in e)
