-- The words of an argument, and its bytes without comments, read from the front.
use Rattle.std.proofs.Common.{◌≡◌, ℕ, ◌+◌, ◌-◌, ◌≤◌, List, [], ◌∷◌, ◌++◌, length, take, drop, true, false, eqb, refl, sym, ◌∙◌, arith, inl, inr, append_assoc}
use Rattle.std.specs.Prelude.{if◌then◌else◌, ◌&&◌}
use Rattle.std.proofs.lemmas.Bool.{cases_Bool}
use Rattle.std.proofs.lemmas.List.{append-nil}
use Rattle.click_text.specs.declared.items.ItemKind.{ItemKind}
use Rattle.click_text.specs.declared.items.ItemKind.TheVariants as kind
use Rattle.click_text.specs.Items.{Item, item, LongestItem, bytes_of, blank_kind, parentheses_after, parted}
use Rattle.click_text.specs.Words.{spaced_as, spaced, is_space, word_before, words_among, words_of, AreWords, IsWithoutComments}
use Rattle.click_text.proofs.OfItems.OneItemList.{IsDone, done_more, done_all, none_done, bytes_at, bytes_of-append, item_some}
use Rattle.click_text.proofs.OfArguments.ArgumentCuts.{all_put, all_put-put, nothing_put, depth_rises}

-- the words from here on: `word` was read of the current one, and the items are left
abbrev pub rest_of : ℕ → List ℕ → List Item → List (List ℕ)
rest_of depth word [] = word_before word []
rest_of depth word (i ∷ items) =
    if eqb depth 0 && is_space i.kind then word_before word (rest_of depth [] items)
    else rest_of (parentheses_after i.kind depth) (word ++ i.bytes) items

bytes_more : (p : List Item) (i : Item) → bytes_of (p ++ i ∷ []) ≡ bytes_of p ++ i.bytes
bytes_more p i = rw (bytes_of-append, append-nil) refl

rest_is : (items p : List Item) (depth : ℕ) → rest_of depth (bytes_of p) items ≡ words_among (all_put p (parted is_space depth items))
rest_is [] p depth = rw append-nil refl
rest_is (i ∷ items) p depth = elim (cases_Bool (eqb depth 0 && is_space i.kind)) [
  | inl e ↦
      let h = rest_is items [] depth in
      let g : rest_of depth [] items ≡ words_among (parted is_space depth items) = rw nothing_put at h in
      rw (e, append-nil, g) refl
  | inr e ↦ rw (e, all_put-put, ← rest_is items (p ++ i ∷ []) (parentheses_after i.kind depth), bytes_more p i) refl
]

words_are : (items : List Item) → words_of items ≡ rest_of 0 [] (spaced items)
words_are items = let h = rest_is (spaced items) [] 0 in let g : rest_of 0 [] (spaced items) ≡ words_among (parted is_space 0 (spaced items)) = rw nothing_put at h in sym g

spaced-append : (p q : List Item) → spaced (p ++ q) ≡ spaced p ++ spaced q
spaced-append [] q = refl
spaced-append (i ∷ p) q = rw (spaced-append p q) refl

-- The invariant of the loop: `words` are the words that ended before offset `at`, and `word` is
-- what was read of the next one.
pub record WordCutting (text : List ℕ) (at : ℕ) (depth : ℕ) (words : List (List ℕ)) (word : List ℕ) : Type 0 where
  pub done : List Item
  pub is_done : IsDone text at done
  pub shallow : depth ≤ at
  pub goes_on : (items : List Item) → rest_of 0 [] (spaced (done ++ items)) ≡ words ++ rest_of depth word (spaced items)

pub words_none : (text : List ℕ) → WordCutting text 0 0 [] []
words_none text = record { done = []; is_done = none_done text; shallow = omega arith; goes_on = λ items. refl }

-- with spaces for comments, exactly white space and comments are spaces
spaced_kind : (k : ItemKind) (p : List ℕ) → is_space (spaced_as k p).kind ≡ blank_kind k
spaced_kind kind.White p = refl
spaced_kind kind.Comment p = refl
spaced_kind kind.Double p = refl
spaced_kind kind.Single p = refl
spaced_kind kind.Hexadecimal p = refl
spaced_kind (kind.Byte b) p = refl

spaced_depth : (k : ItemKind) (p : List ℕ) (depth : ℕ) → parentheses_after (spaced_as k p).kind depth ≡ parentheses_after k depth
spaced_depth kind.White p depth = refl
spaced_depth kind.Comment p depth = refl
spaced_depth kind.Double p depth = refl
spaced_depth kind.Single p depth = refl
spaced_depth kind.Hexadecimal p depth = refl
spaced_depth (kind.Byte b) p depth = refl

before_append : (word : List ℕ) (words : List (List ℕ)) → word_before word words ≡ word_before word [] ++ words
before_append [] words = refl
before_append (b ∷ word) words = refl

-- the step of white space or a comment outside parentheses
pub words_end : (text : List ℕ) (at depth : ℕ) (words : List (List ℕ)) (word : List ℕ) (k : ItemKind) (n : ℕ) → LongestItem (take (length text - at) (drop at text)) k n → depth ≡ 0 → blank_kind k ≡ true →
    WordCutting text at depth words word → WordCutting text (at + n) depth (words ++ word_before word []) []
words_end text at depth words word k n l z h c =
    let i = item k (bytes_at text at n) in
    record {
      done = c.done ++ i ∷ [];
      is_done = done_more text at c.done k n l c.is_done;
      shallow = omega arith;
      goes_on = λ items.
          let g = c.goes_on (i ∷ items) in
          let s : rest_of depth word (spaced (i ∷ items)) ≡ word_before word (rest_of depth [] (spaced items)) = rw (z, spaced_kind k i.bytes, h) refl in
          rw (append_assoc c.done (i ∷ []) items, g, s, before_append word (rest_of depth [] (spaced items)), append_assoc) refl;
    }

-- the step of any other item
pub words_more : (text : List ℕ) (at depth : ℕ) (words : List (List ℕ)) (word : List ℕ) (k : ItemKind) (n : ℕ) → LongestItem (take (length text - at) (drop at text)) k n → (eqb depth 0 && blank_kind k) ≡ false →
    WordCutting text at depth words word → WordCutting text (at + n) (parentheses_after k depth) words (word ++ (spaced_as k (bytes_at text at n)).bytes)
words_more text at depth words word k n l h c =
    let i = item k (bytes_at text at n) in
    record {
      done = c.done ++ i ∷ [];
      is_done = done_more text at c.done k n l c.is_done;
      shallow = omega (arith, depth_rises k depth, item_some _ k n l, c.shallow);
      goes_on = λ items.
          let g = c.goes_on (i ∷ items) in
          let s : rest_of depth word (spaced (i ∷ items)) ≡ rest_of (parentheses_after k depth) (word ++ (spaced_as k i.bytes).bytes) (spaced items) = rw (spaced_kind k i.bytes, h, spaced_depth k i.bytes depth) refl in
          rw (append_assoc c.done (i ∷ []) items, g, s) refl;
    }

pub words_all : (text : List ℕ) (at depth : ℕ) (words : List (List ℕ)) (word : List ℕ) → length text ≤ at → WordCutting text at depth words word → AreWords text (words ++ word_before word [])
words_all text at depth words word h c = record {
  items = c.done;
  read = done_all text at c.done h c.is_done;
  cuts = let g = c.goes_on [] in let i : rest_of 0 [] (spaced c.done) ≡ words ++ word_before word [] = rw append-nil at g in sym (words_are c.done ∙ i);
}

-- The invariant of the loop: `bytes` are those of the items before offset `at`, with a space for
-- each comment.
pub record Spacing (text : List ℕ) (at : ℕ) (bytes : List ℕ) : Type 0 where
  pub done : List Item
  pub is_done : IsDone text at done
  pub spaces : bytes ≡ bytes_of (spaced done)

pub spacing_none : (text : List ℕ) → Spacing text 0 []
spacing_none text = record { done = []; is_done = none_done text; spaces = refl }

pub spacing_more : (text : List ℕ) (at : ℕ) (bytes : List ℕ) (k : ItemKind) (n : ℕ) → LongestItem (take (length text - at) (drop at text)) k n →
    Spacing text at bytes → Spacing text (at + n) (bytes ++ (spaced_as k (bytes_at text at n)).bytes)
spacing_more text at bytes k n l c =
    let i = item k (bytes_at text at n) in
    record {
      done = c.done ++ i ∷ [];
      is_done = done_more text at c.done k n l c.is_done;
      spaces = rw (spaced-append c.done (i ∷ []), bytes_of-append, append-nil, c.spaces) refl;
    }

pub spacing_all : (text : List ℕ) (at : ℕ) (bytes : List ℕ) → length text ≤ at → Spacing text at bytes → IsWithoutComments text bytes
spacing_all text at bytes h c = record { items = c.done; read = done_all text at c.done h c.is_done; spaces = c.spaces }
