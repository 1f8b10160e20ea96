-- The bytes that an argument stands for, read from the front.
use Rattle.std.proofs.Common.{◌≡◌, ℕ, ◌+◌, ◌-◌, ◌<◌, ◌≤◌, List, [], ◌∷◌, ◌++◌, length, get_or, take, drop, Option, Some, None, refl, sym, append_assoc}
use Rattle.std.proofs.lemmas.List.{append-nil, drop_more}
use Rattle.click_text.specs.declared.argument_bytes.Escape.{Escape}
use Rattle.click_text.specs.declared.argument_bytes.Step.{Step}
use Rattle.click_text.specs.declared.items.ItemKind.{ItemKind}
use Rattle.click_text.specs.Items.{Item, item, LongestItem}
use Rattle.click_text.specs.Unquote.{before, added, stepped, unescaped, plain_item, plain_bytes, StandsFor}
use Rattle.click_text.proofs.OfItems.OneItemList.{IsDone, done_more, done_all, none_done, bytes_at}
use Rattle.click_text.proofs.OfItems.ItemExistence.{reading}

pub before_before : (p q : List ℕ) (o : Option (List ℕ)) → before p (before q o) ≡ before (p ++ q) o
before_before p q None = refl
before_before p q (Some r) = rw (append_assoc p q r) refl

-- one byte of a text with escapes
pub unescaped_step : (o : Option (List ℕ)) (s : Escape) (t : Step) (p bytes : List ℕ) (i : ℕ) → i < length bytes → Some t ≡ stepped s (get_or bytes i 0) → o ≡ before p (unescaped s (drop i bytes)) →
    o ≡ before (p ++ added t.adds) (unescaped t.state (drop (i + 1) bytes))
unescaped_step o s t p bytes i l h e =
    let r = drop (i + 1) bytes in
    let g : unescaped s (get_or bytes i 0 ∷ r) ≡ before (added t.adds) (unescaped t.state r) = rw (← h) refl in
    let f : o ≡ before p (before (added t.adds) (unescaped t.state r)) = rw (drop_more bytes i 0 l, g) at e in
    rw before_before at f

-- The invariant of the loop: `bytes` are the bytes that the items before offset `at` stand for.
pub record Quoting (text : List ℕ) (at : ℕ) (bytes : List ℕ) : Type 0 where
  pub done : List Item
  pub is_done : IsDone text at done
  pub goes_on : (items : List Item) → plain_bytes (done ++ items) ≡ before bytes (plain_bytes items)

nothing_before : (o : Option (List ℕ)) → o ≡ before [] o
nothing_before None = refl
nothing_before (Some p) = refl

pub quoting_none : (text : List ℕ) → Quoting text 0 []
quoting_none text = record { done = []; is_done = none_done text; goes_on = λ items. nothing_before (plain_bytes items) }

-- the step of an item that stands for the bytes p
pub quoting_more : (text : List ℕ) (at : ℕ) (bytes : List ℕ) (k : ItemKind) (n : ℕ) (p : List ℕ) → LongestItem (take (length text - at) (drop at text)) k n → plain_item k (bytes_at text at n) ≡ Some p →
    Quoting text at bytes → Quoting text (at + n) (bytes ++ p)
quoting_more text at bytes k n p l h c =
    let i = item k (bytes_at text at n) in
    record {
      done = c.done ++ i ∷ [];
      is_done = done_more text at c.done k n l c.is_done;
      goes_on = λ items.
          let g = c.goes_on (i ∷ items) in
          let s : plain_bytes (i ∷ items) ≡ before p (plain_bytes items) = rw h refl in
          rw (append_assoc c.done (i ∷ []) items, g, s, before_before bytes p (plain_bytes items)) refl;
    }

-- the step of an item with bad quoting: the argument has bad quoting, whatever follows
pub quoting_bad : (text : List ℕ) (at : ℕ) (bytes : List ℕ) (k : ItemKind) (n : ℕ) → LongestItem (take (length text - at) (drop at text)) k n → plain_item k (bytes_at text at n) ≡ None →
    Quoting text at bytes → StandsFor text None
quoting_bad text at bytes k n l h c =
    let i = item k (bytes_at text at n) in
    let b = done_more text at c.done k n l c.is_done in
    let r = reading (drop (at + n) text) in
    record {
      items = (c.done ++ i ∷ []) ++ r.0;
      read = b.goes_on r.0 r.1;
      plain_is =
          let g = c.goes_on (i ∷ r.0) in
          let s : plain_bytes (i ∷ r.0) ≡ None = rw h refl in
          let t : plain_bytes ((c.done ++ i ∷ []) ++ r.0) ≡ None = rw (append_assoc c.done (i ∷ []) r.0, g, s) refl in
          sym t;
    }

pub quoting_all : (text : List ℕ) (at : ℕ) (bytes : List ℕ) → length text ≤ at → Quoting text at bytes → StandsFor text (Some bytes)
quoting_all text at bytes h c = record {
  items = c.done;
  read = done_all text at c.done h c.is_done;
  plain_is = let g = c.goes_on [] in let i : plain_bytes c.done ≡ Some bytes = rw (append-nil c.done, append-nil bytes) at g in sym i;
}
