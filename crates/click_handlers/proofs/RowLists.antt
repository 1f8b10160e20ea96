-- Lemmas about the rows of a table and the list of handlers that they must be.
use Rattle.std.proofs.Common.{◌≡◌, ℕ, ◌<◌, ◌≤◌, ◌+◌, List, [], ◌∷◌, ◌++◌, map, length, take, drop, get_or, Bool, true, false, ◌||◌, ◌&&◌, Option, None, Some, refl, sym, ◌∙◌, ap, arith}
use Rattle.std.proofs.lemmas.List.{drop_more, append_cancel_left, take_all}
use Rattle.std.proofs.lemmas.List.Folds.{list_any-append, list_any_at}
use Rattle.std.specs.List.{list_any}
use Rattle.std.specs.Str.{bytes_eq}
use Rattle.std.specs.Prelude.{IsTrue, not}
use Rattle.std.proofs.lemmas.Slice.Eq.{bytes_eq-Decides}
use Rattle.click_base.specs.Classes.{name as class_name, class_of, is_gateway}
use Rattle.click_base.specs.declared.class.Class.{Class}
use Rattle.click_base.specs.declared.class.Class.TheVariants as class
use Rattle.click_base.proofs.ClassNames.{by_name, named, gateway-named}
use Rattle.click_handlers.specs.Names.{HandlerName, of_class, is_named, handled, names_by, reads_of, writes_of, read_names, write_names, has_read, has_write}

pub list_any_map : {A B : Type 0} (p : B → Bool) (f : A → B) (xs : List A) → list_any p (map f xs) ≡ list_any (λ x. p (f x)) xs
list_any_map p f [] = refl
list_any_map p f (x ∷ xs) = ap (λ b. p (f x) || b) (list_any_map p f xs)

-- no class of the thirty has the name of one of the gateway package
unlisted : (c : Class) → is_gateway c ≡ true → class_of (class_name c) ≡ None
unfolding class_of
unlisted class.ARPResponder k = refl
unlisted class.ARPQuerier k = refl
unlisted class.ICMPError k = refl
unlisted class.ICMPPingResponder k = refl
unlisted class.HostEtherFilter k = refl
unlisted class.EtherMirror k = refl
unlisted class.IPMirror k = refl
unlisted class.SetIPChecksum k = refl
unlisted class.StripIPHeader k = refl
unlisted class.UDPIPEncap k = refl
unlisted class.IPFilter k = refl
unlisted class.IPClassifier k = refl
unlisted _ k = absurd (cc k)

-- classes with the same name are the same class
pub same_by_name : (a b : Class) → class_name a ≡ class_name b → a ≡ b
same_by_name a b e = go (is_gateway a) (is_gateway b) refl refl where
  some_inj : (a b : Class) → Some a ≡ Some b → a ≡ b
  some_inj a b e = cc

  none_no : (c : Class) → ◌≡◌ {A = Option Class} None (Some c) → ⊥
  none_no c e = cc

  go : (x y : Bool) → is_gateway a ≡ x → is_gateway b ≡ y → a ≡ b
  go false false f g = some_inj a b (sym (named a (class_name b) f e) ∙ named b (class_name b) g refl)
  go true true f g = some_inj a b (sym (gateway-named a (class_name b) f e) ∙ gateway-named b (class_name b) g refl)
  go true false f g = absurd (none_no b (sym (unlisted a f) ∙ (ap class_of e ∙ by_name b g)))
  go false true f g = absurd (none_no a (sym (unlisted b g) ∙ (ap class_of (sym e) ∙ by_name a f)))

both : (a b : Bool) → (a && b) ≡ true → (a ≡ true) × (b ≡ true)
both true b e = (refl, e)
both false b e = cc

pub same_row : (class : Class) (name : List ℕ) (r : HandlerName) → is_named class name r ≡ true → r ≡ of_class class name
same_row class name r is =
    let parts = both (bytes_eq (class_name r.class) (class_name class)) (bytes_eq r.name name) is in
    let c = same_by_name r.class class ((bytes_eq-Decides (class_name r.class) (class_name class)).0 parts.0) in
    ap (λ k. of_class k r.name) c ∙ ap (λ m. of_class class m) ((bytes_eq-Decides r.name name).0 parts.1)

pub is_named_itself : (class : Class) (name : List ℕ) → is_named class name (of_class class name) ≡ true
is_named_itself class name = rw ((bytes_eq-Decides (class_name class) (class_name class)).1 refl) ((bytes_eq-Decides name name).1 refl)

-- the next row has the next name
pub next_row : {A B : Type 0} (f : A → HandlerName) (g : B → HandlerName) (rest others : List A) (row : A) (names : List B) (i : ℕ) (n : B) (h : HandlerName) (more : List HandlerName) (Whole : Type 0)
    → rest ≡ row ∷ others → i < length names → h ≡ g (get_or names i n) → f row ≡ h
    → ((map f rest ≡ map g (drop i names) ++ more → Whole) × (Whole → map f rest ≡ map g (drop i names) ++ more))
    → (map f others ≡ map g (drop (i + 1) names) ++ more → Whole) × (Whole → map f others ≡ map g (drop (i + 1) names) ++ more)
next_row f g rest others row names i n h more Whole is lt at same whole =
    let split : drop i names ≡ get_or names i n ∷ drop (i + 1) names = drop_more names i n lt in
    let here : map f rest ≡ f row ∷ map f others = ap (map f) is in
    let there : map g (drop i names) ++ more ≡ g (get_or names i n) ∷ (map g (drop (i + 1) names) ++ more) = ap (λ l. map g l ++ more) split in
    (λ e. whole.0 (here ∙ one_before (f row) (g (get_or names i n)) _ _ (same ∙ at) e ∙ sym there), λ w. behind_one (f row) (g (get_or names i n)) _ _ (sym here ∙ whole.1 w ∙ there)) where
      one_before : (x y : HandlerName) (xs ys : List HandlerName) → x ≡ y → xs ≡ ys → x ∷ xs ≡ y ∷ ys
      one_before x y xs ys e es = cc

      behind_one : (x y : HandlerName) (xs ys : List HandlerName) → x ∷ xs ≡ y ∷ ys → xs ≡ ys
      behind_one x y xs ys e = cc

-- the next row has another name
pub other_row : {A B : Type 0} (f : A → HandlerName) (g : B → HandlerName) (rest others : List A) (row : A) (names : List B) (i : ℕ) (n : B) (h : HandlerName) (more : List HandlerName)
    → rest ≡ row ∷ others → i < length names → h ≡ g (get_or names i n) → is_named h.class h.name (f row) ≡ false
    → map f rest ≡ map g (drop i names) ++ more → ⊥
other_row f g rest others row names i n h more is lt at isnt e =
    let split : drop i names ≡ get_or names i n ∷ drop (i + 1) names = drop_more names i n lt in
    let heads : f row ∷ map f others ≡ g (get_or names i n) ∷ (map g (drop (i + 1) names) ++ more) = sym (ap (map f) is) ∙ e ∙ ap (λ l. map g l ++ more) split in
    let same : f row ≡ h = first_one (f row) (g (get_or names i n)) _ _ heads ∙ sym at in
    let yes : is_named h.class h.name (f row) ≡ true = ap (is_named h.class h.name) same ∙ is_named_itself h.class h.name in
    cc where
      first_one : (x y : HandlerName) (xs ys : List HandlerName) → x ∷ xs ≡ y ∷ ys → x ≡ y
      first_one x y xs ys e = cc

-- no row is left for the next name
pub no_next_row : {A B : Type 0} (f : A → HandlerName) (g : B → HandlerName) (rest : List A) (names : List B) (i : ℕ) (n : B) (more : List HandlerName)
    → length rest ≡ 0 → i < length names → map f rest ≡ map g (drop i names) ++ more → ⊥
no_next_row f g rest names i n more is lt e =
    let split : drop i names ≡ get_or names i n ∷ drop (i + 1) names = drop_more names i n lt in
    let heads : [] ≡ g (get_or names i n) ∷ (map g (drop (i + 1) names) ++ more) = sym (ap (map f) (empty rest is)) ∙ e ∙ ap (λ l. map g l ++ more) split in
    cc where
      empty : {A : Type 0} (xs : List A) → length xs ≡ 0 → xs ≡ []
      empty [] e = refl
      empty (x ∷ xs) e = absurd (omega (arith, e))

-- the handlers of the remaining classes are those of the next class, followed by those of the
-- others
pub next_class : (names_of : Class → List (List ℕ)) (cs : List Class) (i : ℕ) (d c : Class) → i < length cs → c ≡ get_or cs i d
    → names_by names_of (drop i cs) ≡ map (of_class c) (names_of c) ++ names_by names_of (drop (i + 1) cs)
next_class names_of cs i d c lt at = ap (names_by names_of) (drop_more cs i d lt ∙ ap (λ x. x ∷ drop (i + 1) cs) (sym at))

-- whether a list has a handler of a class, by the class's names
any_of : (names_of : Class → List (List ℕ)) (class : Class) (handler : List ℕ) (cs : List Class)
    → list_any (is_named class handler) (names_by names_of cs) ≡ (list_any (λ c. bytes_eq (class_name c) (class_name class)) cs && list_any (λ n. bytes_eq n handler) (names_of class))
any_of names_of class handler [] = refl
any_of names_of class handler (c ∷ cs) =
    list_any-append (is_named class handler) (map (of_class c) (names_of c)) (names_by names_of cs)
    ∙ ap (λ b. b || list_any (is_named class handler) (names_by names_of cs)) (list_any_map (is_named class handler) (of_class c) (names_of c))
    ∙ ap (λ b. list_any (λ n. is_named class handler (of_class c n)) (names_of c) || b) (any_of names_of class handler cs)
    ∙ go (bytes_eq (class_name c) (class_name class)) refl where
      own : (xs : List (List ℕ)) (b : Bool) → bytes_eq (class_name c) (class_name class) ≡ b → list_any (λ n. is_named class handler (of_class c n)) xs ≡ (b && list_any (λ n. bytes_eq n handler) xs)
      own [] true e = refl
      own [] false e = refl
      own (x ∷ xs) true e = rw (e, own xs true e) refl
      own (x ∷ xs) false e = rw (e, own xs false e) refl

      or_itself : (a b : Bool) → (b || (a && b)) ≡ b
      or_itself true true = refl
      or_itself true false = refl
      or_itself false true = refl
      or_itself false false = refl

      go : (b : Bool) → bytes_eq (class_name c) (class_name class) ≡ b
          → (list_any (λ n. is_named class handler (of_class c n)) (names_of c) || (list_any (λ c. bytes_eq (class_name c) (class_name class)) cs && list_any (λ n. bytes_eq n handler) (names_of class)))
          ≡ ((bytes_eq (class_name c) (class_name class) || list_any (λ c. bytes_eq (class_name c) (class_name class)) cs) && list_any (λ n. bytes_eq n handler) (names_of class))
      go true e =
          let same : c ≡ class = same_by_name c class ((bytes_eq-Decides (class_name c) (class_name class)).0 e) in
          rw (own (names_of c) true e, e, same) (or_itself (list_any (λ c. bytes_eq (class_name c) (class_name class)) cs) (list_any (λ n. bytes_eq n handler) (names_of class)))
      go false e = rw (own (names_of c) false e, e) refl

-- a class is in the list of classes with rows, or it has no names or is of the gateway package;
-- computed for each class
handled_reads : (class : Class) (handler : List ℕ) → (list_any (λ c. bytes_eq (class_name c) (class_name class)) handled && has_read class handler) ≡ (not (is_gateway class) && has_read class handler)
unfolding reads_of
handled_reads class.Queue handler = refl
handled_reads _ handler = refl

handled_writes : (class : Class) (handler : List ℕ) → (list_any (λ c. bytes_eq (class_name c) (class_name class)) handled && has_write class handler) ≡ (not (is_gateway class) && has_write class handler)
unfolding writes_of
handled_writes class.Queue handler = refl
handled_writes _ handler = refl

pub read_listed : (class : Class) (handler : List ℕ) → list_any (is_named class handler) read_names ≡ (not (is_gateway class) && has_read class handler)
unfolding read_names
read_listed class handler = any_of reads_of class handler handled ∙ handled_reads class handler

pub write_listed : (class : Class) (handler : List ℕ) → list_any (is_named class handler) write_names ≡ (not (is_gateway class) && has_write class handler)
unfolding write_names
write_listed class handler = any_of writes_of class handler handled ∙ handled_writes class handler

-- the rows of a class that is not of the gateway package are those of its handlers
pub read_listed_outside : (class : Class) (handler : List ℕ) → is_gateway class ≡ false → list_any (is_named class handler) read_names ≡ has_read class handler
read_listed_outside class handler e = read_listed class handler ∙ ap (λ b. not b && has_read class handler) e

pub write_listed_outside : (class : Class) (handler : List ℕ) → is_gateway class ≡ false → list_any (is_named class handler) write_names ≡ has_write class handler
write_listed_outside class handler e = write_listed class handler ∙ ap (λ b. not b && has_write class handler) e

-- a name is in a list of borrowed names if and only if it is in the list of the names
pub among : {B : Type 0} (g : B → List ℕ) (xs : List B) (names : List (List ℕ)) (handler : List ℕ) → map g xs ≡ names → list_any (λ n. bytes_eq (g n) handler) xs ≡ list_any (λ n. bytes_eq n handler) names
among g xs names handler e = sym (list_any_map (λ n. bytes_eq n handler) g xs) ∙ ap (list_any (λ n. bytes_eq n handler)) e

pub never : (P : Type 0) → (P → ⊥) → (IsTrue false → P) × (P → IsTrue false)
never P isnt = (λ h. absurd (no_false h), λ p. absurd (isnt p)) where
  no_false : IsTrue false → ⊥
  no_false h = cc

-- the handlers of a class, from the borrowed list of its names
mapped_names : {B : Type 0} (v : B → List ℕ) (class : Class) (xs : List B) (names : List (List ℕ)) → map v xs ≡ names → map (λ n. of_class class (v n)) xs ≡ map (of_class class) names
mapped_names {B = B} v class xs names e = each xs ∙ ap (map (of_class class)) e where
  each : (ys : List B) → map (λ n. of_class class (v n)) ys ≡ map (of_class class) (map v ys)
  each [] = refl
  each (y ∷ ys) = ap (λ l. of_class class (v y) ∷ l) (each ys)

-- the rows of the next class's names, and the rows after them
pub behind_class : {A B : Type 0} (f : A → HandlerName) (v : B → List ℕ) (names_of : Class → List (List ℕ)) (cs : List Class) (rest others : List A) (xs : List B) (i : ℕ) (d c : Class) (Whole : Type 0)
    → i < length cs → c ≡ get_or cs i d → map v xs ≡ names_of c → map f rest ≡ map (λ n. of_class c (v n)) xs ++ map f others
    → ((map f rest ≡ names_by names_of (drop i cs) → Whole) × (Whole → map f rest ≡ names_by names_of (drop i cs)))
    → (map f others ≡ names_by names_of (drop (i + 1) cs) → Whole) × (Whole → map f others ≡ names_by names_of (drop (i + 1) cs))
behind_class f v names_of cs rest others xs i d c Whole lt at named is whole =
    let split : map f rest ≡ map (of_class c) (names_of c) ++ map f others = is ∙ ap (λ l. l ++ map f others) (mapped_names v c xs (names_of c) named) in
    let all : names_by names_of (drop i cs) ≡ map (of_class c) (names_of c) ++ names_by names_of (drop (i + 1) cs) = next_class names_of cs i d c lt at in (
      λ e. whole.0 (split ∙ ap (λ l. map (of_class c) (names_of c) ++ l) e ∙ sym all),
      λ w. append_cancel_left (map (of_class c) (names_of c)) (map f others) (names_by names_of (drop (i + 1) cs)) (sym split ∙ whole.1 w ∙ all),
    )

pub not_behind_class : {A B : Type 0} (f : A → HandlerName) (v : B → List ℕ) (names_of : Class → List (List ℕ)) (cs : List Class) (rest : List A) (xs : List B) (i : ℕ) (d c : Class)
    → i < length cs → c ≡ get_or cs i d → map v xs ≡ names_of c → map f rest ≡ names_by names_of (drop i cs)
    → map f rest ≡ map (λ n. of_class c (v n)) xs ++ names_by names_of (drop (i + 1) cs)
not_behind_class f v names_of cs rest xs i d c lt at named e =
    e ∙ next_class names_of cs i d c lt at ∙ ap (λ l. l ++ names_by names_of (drop (i + 1) cs)) (sym (mapped_names v c xs (names_of c) named))

-- a row with the class and the name is one of the list
pub found_row : {A : Type 0} (f : A → HandlerName) (rows : List A) (all : List HandlerName) (class : Class) (name : List ℕ) (i : ℕ) (x : A) → map f rows ≡ all
    → i < length rows → x ≡ get_or rows i x → is_named class name (f x) ≡ true → list_any (is_named class name) all ≡ true
found_row f rows all class name i x whole lt here is =
    ap (list_any (is_named class name)) (sym whole) ∙ list_any_map (is_named class name) f rows
    ∙ list_any_at (λ r. is_named class name (f r)) rows i x lt (ap (λ r. is_named class name (f r)) (sym here) ∙ is)

-- if no row has the class and the name, the list has no such handler
pub no_row : {A : Type 0} (f : A → HandlerName) (rows : List A) (all : List HandlerName) (class : Class) (name : List ℕ) (n : ℕ) → map f rows ≡ all
    → length rows ≤ n → list_any (λ r. is_named class name (f r)) (take n rows) ≡ false → list_any (is_named class name) all ≡ false
no_row f rows all class name n whole le none =
    ap (list_any (is_named class name)) (sym whole) ∙ list_any_map (is_named class name) f rows
    ∙ ap (list_any (λ x. is_named class name (f x))) (sym (take_all n rows le)) ∙ none
