-- A text has at most one list of items.
use Rattle.std.proofs.Common.{◌≡◌, ℕ, zero, suc, ◌+◌, ◌-◌, ◌<◌, ◌≤◌, List, [], ◌∷◌, ◌++◌, length, take, drop, refl, arith, length-take, length-drop, append_assoc, length-append}
use Rattle.std.proofs.lemmas.List.{take-append-drop, append-nil, drop-drop, drop_all, take_rest}
use Rattle.click_text.specs.declared.items.ItemKind.{ItemKind}
use Rattle.click_text.specs.Items.{IsItem, LongestItem, Item, item, AreItems, ended, next, bytes_of, size}
use Rattle.click_text.proofs.OfItems.ItemForms.{no_bytes, same_len, same_kind}

no_item_in_none : (k : ItemKind) (n : ℕ) → IsItem k (take n []) → ⊥
no_item_in_none k zero h = no_bytes k h
no_item_in_none k (suc n) h = no_bytes k h

pub item_some : (text : List ℕ) (k : ItemKind) (n : ℕ) → LongestItem text k n → 0 < n
item_some text k zero l = absurd (no_bytes k l.form)
item_some text k (suc n) l = omega arith

-- a text has at most one list of items
pub items_once : {text : List ℕ} {items others : List Item} → AreItems text items → AreItems text others → items ≡ others
items_once ended ended = refl
items_once ended (next text k n items l r) = absurd (no_item_in_none k n l.form)
items_once (next text k n items l r) ended = absurd (no_item_in_none k n l.form)
items_once (next text k n items l r) (next _ j m others l' r') =
    let a : n ≡ m = same_len text k j n m l l' in
    let b : k ≡ j = same_kind text k j n m l l' in
    let d : items ≡ others = items_once r (rw a r') in
    rw (a, b, d) refl

-- the bytes of the items are the text
pub items_are_text : {text : List ℕ} {items : List Item} → AreItems text items → bytes_of items ≡ text
items_are_text ended = refl
items_are_text (next text k n items l r) = rw (items_are_text r) (take-append-drop n text)

pub bytes_of-append : (p q : List Item) → bytes_of (p ++ q) ≡ bytes_of p ++ bytes_of q
bytes_of-append [] q = refl
bytes_of-append (i ∷ p) q = rw (bytes_of-append p q, append_assoc) refl

pub size-append : (p q : List Item) → size (p ++ q) ≡ size p + size q
size-append p q = rw bytes_of-append (length-append (bytes_of p) (bytes_of q))

-- the items before offset `at` are `done`
pub record IsDone (text : List ℕ) (at : ℕ) (done : List Item) : Type 0 where
  pub within : at ≤ length text
  pub long : size done ≡ at
  pub goes_on : (items : List Item) → AreItems (drop at text) items → AreItems text (done ++ items)

pub none_done : (text : List ℕ) → IsDone text 0 []
none_done text = record { within = omega arith; long = refl; goes_on = λ items r. r }

-- the n bytes of an item that begins at offset `at`
abbrev pub bytes_at : List ℕ → ℕ → ℕ → List ℕ
bytes_at text at n = take n (take (length text - at) (drop at text))

pub bytes_long : (text : List ℕ) (at : ℕ) (k : ItemKind) (n : ℕ) → LongestItem (take (length text - at) (drop at text)) k n → length (bytes_at text at n) ≡ n
bytes_long text at k n l = let w = l.within in omega (arith, length-take n (take (length text - at) (drop at text)))

pub done_more : (text : List ℕ) (at : ℕ) (done : List Item) (k : ItemKind) (n : ℕ) → LongestItem (take (length text - at) (drop at text)) k n → IsDone text at done → IsDone text (at + n) (done ++ item k (bytes_at text at n) ∷ [])
done_more text at done k n l b =
    let g : LongestItem (drop at text) k n = rw take_rest at l in
    let w = g.within in
    let i = item k (take n (drop at text)) in
    let s : size (done ++ i ∷ []) ≡ at + n = rw (size-append, append-nil) (omega (arith, b.long, length-take n (drop at text))) in
    rw take_rest (record {
      within = omega (arith, b.within, length-drop at text);
      long = s;
      goes_on = λ items r. rw append_assoc (b.goes_on (i ∷ items) (next (drop at text) k n items g (rw drop-drop r)));
    })

pub done_all : (text : List ℕ) (at : ℕ) (done : List Item) → length text ≤ at → IsDone text at done → AreItems text done
done_all text at done h b = rw append-nil at (b.goes_on [] (rw (drop_all at text h) ended))
