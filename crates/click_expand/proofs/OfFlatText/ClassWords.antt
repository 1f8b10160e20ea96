-- The names of the router's classes are words.
use Rattle.std.proofs.Common.{◌≡◌, ◌≢◌, ℕ, List, Bool, true, not, ◌&&◌, refl, sym, ◌∙◌}
use Rattle.std.specs.Prelude.{codes}
use Rattle.std.specs.List.{list_all}
use Rattle.std.specs.Str.{bytes_eq}
use Rattle.std.proofs.lemmas.Bool.{and_parts, false≢true, not-true}
use Rattle.std.proofs.lemmas.Slice.Eq.{bytes_eq-Decides}
use Rattle.click_base.specs.Classes.{name}
use Rattle.click_base.specs.declared.class.Class.{Class}
use Rattle.click_base.specs.declared.class.Class.TheVariants as class
use Rattle.click_base.specs.Numbers.{digit}
use Rattle.click_text.specs.Pieces.{is_word}
use Rattle.click_expand.proofs.OfFlatText.NameWords.{IsName}

abbrev IsWordTest : List ℕ → Bool
IsWordTest w = is_word w && (not (list_all digit w) && (not (bytes_eq w (codes "elementclass")) && not (bytes_eq w (codes "require"))))

-- each name of a class is a word, by computation
class_passes : (c : Class) → IsWordTest (name c) ≡ true
class_passes class.Queue = refl
class_passes _ = refl

passed : (w k : List ℕ) → not (bytes_eq w k) ≡ true → w ≢ k
passed w k h e = let f = (bytes_eq-Decides w k).1 e in false≢true (sym (not-true (bytes_eq w k) h) ∙ f)

passes_name : (w : List ℕ) → IsWordTest w ≡ true → IsName w
passes_name w h =
    let a = and_parts (is_word w) _ h in
    let b = and_parts (not (list_all digit w)) _ a.1 in
    let d = and_parts (not (bytes_eq w (codes "elementclass"))) _ b.1 in
    (a.0, not-true (list_all digit w) b.0, passed w (codes "elementclass") d.0, passed w (codes "require") d.1)

pub class_word : (c : Class) → IsName (name c)
class_word c = passes_name (name c) (class_passes c)
