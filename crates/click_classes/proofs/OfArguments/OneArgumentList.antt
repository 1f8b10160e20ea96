-- A text has only one list of items, and so only one list of arguments and of words, and only one
-- result.
use Rattle.std.proofs.Common.{◌≡◌, List, [], ◌∷◌, ℕ, Option, refl, sym, ◌∙◌, ap}
use Rattle.std.specs.List.{AllZip}
use Rattle.click_text.specs.declared.syntax.Span.{Span}
use Rattle.click_text.specs.Arguments.{AreArguments, cut}
use Rattle.click_text.specs.Words.{AreWords, words_of}
use Rattle.click_text.specs.Unquote.{StandsFor, plain_bytes}
use Rattle.click_text.proofs.OfItems.OneItemList.{items_once}

pub one_arguments : (text : List ℕ) (spans others : List Span) → AreArguments text spans → AreArguments text others → spans ≡ others
one_arguments text spans others a b = a.cuts ∙ ap cut (items_once a.read b.read) ∙ sym b.cuts

pub one_words : (text : List ℕ) (words others : List (List ℕ)) → AreWords text words → AreWords text others → words ≡ others
one_words text words others a b = a.cuts ∙ ap words_of (items_once a.read b.read) ∙ sym b.cuts

pub one_plain : (text : List ℕ) (bytes others : Option (List ℕ)) → StandsFor text bytes → StandsFor text others → bytes ≡ others
one_plain text bytes others a b = a.plain_is ∙ ap plain_bytes (items_once a.read b.read) ∙ sym b.plain_is

pub one_words_each : (args : List (List ℕ)) (all others : List (List (List ℕ))) → AllZip AreWords args all → AllZip AreWords args others → all ≡ others
one_words_each [] [] [] a b = refl
one_words_each [] [] (w ∷ others) a b = absurd b
one_words_each [] (w ∷ all) others a b = absurd a
one_words_each (t ∷ args) [] others a b = absurd a
one_words_each (t ∷ args) (w ∷ all) [] a b = absurd b
one_words_each (t ∷ args) (w ∷ all) (v ∷ others) a b =
    let first = one_words t w v a.0 b.0 in
    let rest = one_words_each args all others a.1 b.1 in
    cc
