-- A check foretells whether a call finds its handler.
use Rattle.std.proofs.Common.{◌≡◌, ℕ, List, codes, decimal, Bool, true, false, ◌||◌, if◌then◌else◌, Option, None, Some, Result, Ok, Err, option_map, refl, sym, ap, subst}
use Rattle.std.proofs.lemmas.Slice.Eq.{bytes_eq-Decides}
use Rattle.std.specs.List.{list_any}
use Rattle.std.specs.Option.{is_some}
use Rattle.std.specs.Str.{bytes_eq}
use Rattle.click_classes.specs.State.{class}
use Rattle.click_base.specs.declared.class.Class.{Class}
use Rattle.click_engine.specs.Plant.{Plant}
use Rattle.click_engine.specs.declared.run_state.Element.{Element}
use Rattle.click_expand.specs.FlatText.{flat_text_of}
use Rattle.click_handlers.specs.Names.{has_read, has_write}
use Rattle.click_handlers.specs.Reads.{read_value}
use Rattle.click_handlers.specs.Writes.{write_value}
use Rattle.click_handlers.specs.declared.fault.HandlerFault.{HandlerFault}
use Rattle.click_router.proofs.OfCalls.Listings.{class_found}
use Rattle.click_router.specs.Foretelling.{Foretells}
use Rattle.click_router.specs.Globals.{global_value, is_global, element_list, class_list}
use Rattle.click_base.specs.Dotted.{is_dot}
use Rattle.click_router.specs.One.{Answers, before, after, found, read_reply, read_found, read_global, read, refusal_of, class_named, listing_of, check_of, check_element, check, is_hotconfig, with_plant, written, write_found, write}
use Rattle.click_router.specs.State.{RouterState}
use Rattle.click_router.specs.Swap.{Swaps, installed, refused}
use Rattle.click_router.specs.declared.call.Call.TheVariants as call
use Rattle.click_router.specs.declared.call.Reply.{Reply}
use Rattle.click_router.specs.declared.call.Reply.TheVariants as reply
use Rattle.click_router.specs.declared.check.Access.TheVariants as direction

-- the handler does not exist in this direction
lacking : (other : Bool) → Foretells (check_of false other) (reply.Refused (refusal_of other))
lacking true = refl
lacking false = refl

read_by : (has other : Bool) (value : Result (List ℕ) HandlerFault) → Foretells (check_of has other) (if has then read_reply value else reply.Refused (refusal_of other))
read_by true other (Ok value) = refl
read_by true other (Err f) = refl
read_by false other value = lacking other

read_one : (f : Option (ℕ × Element)) (handler text : List ℕ)
    → Foretells (check_element (option_map (λ (it : ℕ × Element). class it.1.state) f) direction.Read handler) (read_found f handler text)
read_one None handler text = refl
read_one (Some it) handler text = read_by (has_read (class it.1.state) handler) (has_write (class it.1.state) handler) (read_value handler it.1 text)

write_by : (has other : Bool) (v : Plant) (at : ℕ) (made : Result Element HandlerFault)
    → Foretells (check_of has other) (if◌then◌else◌ {A = Plant × Reply} has (written v at made) (v, reply.Refused (refusal_of other))).1
write_by true other v at (Ok e) = refl
write_by true other v at (Err f) = refl
write_by false other v at made = lacking other

write_one : (v : Plant) (f : Option (ℕ × Element)) (handler text : List ℕ)
    → Foretells (check_element (option_map (λ (it : ℕ × Element). class it.1.state) f) direction.Write handler) (write_found v f handler text).1
write_one v None handler text = refl
write_one v (Some it) handler text = write_by (has_write (class it.1.state) handler) (has_read (class it.1.state) handler) v it.0 (write_value handler it.1 text)

-- a name is that of a global handler if and only if there is a value for it
one_of : (a b c d e f : Bool) (s t u v w x : List ℕ)
    → (a || b || c || d || e || f) ≡ is_some (if a then Some s else if b then Some t else if c then Some u else if d then Some v else if e then Some w else if f then Some x else None)
one_of true b c d e f s t u v w x = refl
one_of false true c d e f s t u v w x = refl
one_of false false true d e f s t u v w x = refl
one_of false false false true e f s t u v w x = refl
one_of false false false false true f s t u v w x = refl
one_of false false false false false true s t u v w x = refl
one_of false false false false false false s t u v w x = refl

own : (s : RouterState) (name : List ℕ) → is_global name ≡ is_some (global_value s name)
unfolding global_value
own s name = one_of (bytes_eq name (codes "version")) (bytes_eq name (codes "list")) (bytes_eq name (codes "config")) (bytes_eq name (codes "flatconfig"))
    (bytes_eq name (codes "classes")) (bytes_eq name (codes "overruns")) (codes "1") (element_list s.flat.elements) s.text (flat_text_of s.flat) (class_list s.flat.elements) (decimal s.plant.overruns)

read_own : (name : List ℕ) (value : Option (List ℕ)) → Foretells (check_of (is_some value) (is_hotconfig name)) (read_global name value)
read_own name (Some value) = refl
read_own name None = lacking (is_hotconfig name)

read_any : (s : RouterState) (name text : List ℕ) → Foretells (check (listing_of s) direction.Read name) (read s name text)
read_any s name text = go (list_any is_dot name) where
  go : (dotted : Bool) → Foretells (if dotted then check_element (class_named (listing_of s) (before name)) direction.Read (after name) else check_of (is_global name) (is_hotconfig name)) (if dotted then read_found (found s (before name)) (after name) text else read_global name (global_value s name))
  go true = subst (λ (c : Option Class). Foretells (check_element c direction.Read (after name)) (read_found (found s (before name)) (after name) text)) (sym (class_found s (before name))) (read_one (found s (before name)) (after name) text)
  go false = subst (λ (b : Bool). Foretells (check_of b (is_hotconfig name)) (read_global name (global_value s name))) (sym (own s name)) (read_own name (global_value s name))

pub foretells_reads : (s t : RouterState) (name text : List ℕ) (r : Reply) → Answers s (call.Read name text) t r → Foretells (check (listing_of s) direction.Read name) r
foretells_reads s t name text r h = subst (λ (q : Reply). Foretells (check (listing_of s) direction.Read name) q) (sym h.1) (read_any s name text)

-- `hotconfig` has no dot
is_yes : (s : RouterState) (name : List ℕ) (r : Reply) → is_hotconfig name ≡ true → Foretells (check_of true (is_global (codes "hotconfig"))) r → Foretells (check (listing_of s) direction.Write name) r
is_yes s name r hot met = subst (λ (n : List ℕ). Foretells (check (listing_of s) direction.Write n) r) (sym ((bytes_eq-Decides name (codes "hotconfig")).0 hot)) met

swapped : (s : RouterState) (text : List ℕ) (t : RouterState) (r : Reply) → Swaps s text t r → Foretells (check_of true (is_global (codes "hotconfig"))) r
swapped s text _ _ (installed new o) = refl
swapped s text _ _ (refused f h) = refl

write_any : (s : RouterState) (name text : List ℕ) → is_hotconfig name ≡ false → Foretells (check (listing_of s) direction.Write name) (write s name text).1
write_any s name text cold = go (list_any is_dot name) where
  go : (dotted : Bool) → Foretells (if dotted then check_element (class_named (listing_of s) (before name)) direction.Write (after name) else check_of (is_hotconfig name) (is_global name))
      (if◌then◌else◌ {A = RouterState × Reply} dotted (with_plant s (write_found s.plant (found s (before name)) (after name) text)) (s, reply.Refused (refusal_of (is_some (global_value s name))))).1
  go true = subst (λ (c : Option Class). Foretells (check_element c direction.Write (after name)) (write_found s.plant (found s (before name)) (after name) text).1) (sym (class_found s (before name)))
      (write_one s.plant (found s (before name)) (after name) text)
  go false = subst (λ (b : Bool). Foretells (check_of b (is_global name)) (reply.Refused (refusal_of (is_some (global_value s name))))) (sym cold)
      (subst (λ (b : Bool). Foretells (check_of false (is_global name)) (reply.Refused (refusal_of b))) (own s name) (lacking (is_global name)))

WriteBy : Bool → RouterState → List ℕ → List ℕ → RouterState → Reply → Type 0
WriteBy b s name text t r = elim b [ true ↦ Swaps s text t r | false ↦ write s name text ≡ (t, r) ]

by_name : (b : Bool) (s t : RouterState) (name text : List ℕ) (r : Reply) → is_hotconfig name ≡ b → WriteBy b s name text t r → Foretells (check (listing_of s) direction.Write name) r
unfolding WriteBy
by_name true s t name text r hot h = is_yes s name r hot (swapped s text t r h)
by_name false s t name text r cold h = subst (λ (q : Reply). Foretells (check (listing_of s) direction.Write name) q) (ap (λ (d : RouterState × Reply). d.1) h) (write_any s name text cold)

pub foretells_writes : (s t : RouterState) (name text : List ℕ) (r : Reply) → Answers s (call.Write name text) t r → Foretells (check (listing_of s) direction.Write name) r
unfolding WriteBy
foretells_writes s t name text r h = by_name (is_hotconfig name) s t name text r refl h
