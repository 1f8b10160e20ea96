-- What an answered call installs.
use Rattle.std.proofs.Common.{◌≡◌, ℕ, List, ◌∷◌, [], ◌++◌, Bool, true, false, Some, None, if◌then◌else◌, refl, sym, ap, ◌∙◌, subst, append-nil, append_assoc}
use Rattle.boxcar.specs.Table.{Shelves}
use Rattle.click_router.specs.One.{Answers, is_hotconfig, swap_text, write, holds_memory}
use Rattle.click_router.specs.State.{RouterState}
use Rattle.click_router.specs.Swap.{Swaps}
use Rattle.click_router.specs.declared.call.Call.{Call}
use Rattle.click_router.specs.declared.call.Call.TheVariants as call
use Rattle.click_router.specs.declared.call.Reply.{Reply}
use Rattle.click_router.specs.declared.call.Reply.TheVariants as reply
use Rattle.click_views.specs.Showing.{Showing}
use Rattle.click_desk.specs.declared.entry.Entry.{Entry}
use Rattle.click_desk.specs.History.{asked, text_if_done, installed, swaps, installs}

WriteBy : Bool → RouterState → List ℕ → List ℕ → RouterState → Reply → Type 0
WriteBy b s name text t r = elim b [ true ↦ Swaps s text t r | false ↦ write s name text ≡ (t, r) ]

by_name : (b : Bool) (s t : RouterState) (name text other : List ℕ) (r : Reply) → (if b then Some other else None) ≡ Some text → Swaps s text t r → WriteBy b s name other t r
unfolding WriteBy
by_name true s t name text other r is h = let same : text ≡ other = cc in subst (λ x. Swaps s x t r) same h
by_name false s t name text other r is h = absurd (let x = is in cc)

-- A swap to the text of a call answers that call.
pub swap_answers : (s t : RouterState) (c : Call) (text : List ℕ) (r : Reply) → swap_text c ≡ Some text → Swaps s text t r → Answers s c t r
unfolding WriteBy
swap_answers s t (call.Write name other) text r is h = by_name (is_hotconfig name) s t name text other r is h
swap_answers s t (call.Swap other) text r is h = let same : text ≡ other = cc in subst (λ x. Swaps s x t r) same h
swap_answers s t _ text r is h = absurd (let x = is in cc)

-- A call that is no swap installs nothing.
pub quiet : (c : Call) (r : Reply) → swap_text c ≡ None → installed c r ≡ []
quiet c reply.Done is = ap asked is
quiet c _ is = refl

-- A call whose reply holds memory installs nothing.
pub heavy : (c : Call) (r : Reply) → holds_memory r ≡ true → installed c r ≡ []
heavy c reply.Done is = absurd (let x = is in cc)
heavy c _ is = refl

pub told_installed : (c : Call) (r : Reply) (text : List ℕ) → swap_text c ≡ Some text → installed c r ≡ asked (text_if_done text r)
told_installed c reply.Done text is = ap asked is
told_installed c _ text is = refl

swaps_append : (a b : List Entry) → swaps (a ++ b) ≡ swaps a ++ swaps b
swaps_append [] b = refl
swaps_append (e ∷ a) b = ap (λ l. installed e.call e.reply ++ l) (swaps_append a b) ∙ sym (append_assoc (installed e.call e.reply) (swaps a) (swaps b))

pub installs_more : (opening : List ℕ) (es : List Entry) (e : Entry) → installs opening (es ++ e ∷ []) ≡ installs opening es ++ installed e.call e.reply
installs_more opening es e = ap (λ l. opening ∷ l) (swaps_append es (e ∷ []) ∙ ap (λ l. swaps es ++ l) (append-nil (installed e.call e.reply)))

-- The list of installed texts after one more entry.
pub published_more : (board : Shelves) (opening : List ℕ) (es items : List Entry) (e : Entry) (p q : Showing (List ℕ)) → p ≡ record { board = board; list = installs opening es } → items ≡ es ++ e ∷ []
    → q.board ≡ p.board → q.list ≡ p.list ++ installed e.call e.reply → q ≡ record { board = board; list = installs opening items }
published_more board opening es items e p q is more same list =
    let all : q.list ≡ installs opening items = list ∙ (ap (λ (s : Showing (List ℕ)). s.list ++ installed e.call e.reply) is ∙ (sym (installs_more opening es e) ∙ ap (installs opening) (sym more))) in
    let at : q.board ≡ board = same ∙ ap (λ (s : Showing (List ℕ)). s.board) is in
    λ i. record { board = at i; list = all i }

-- The list of installed texts is unchanged after one more entry that installs nothing.
pub published_same : (board : Shelves) (opening : List ℕ) (es items : List Entry) (e : Entry) (p : Showing (List ℕ)) → p ≡ record { board = board; list = installs opening es } → items ≡ es ++ e ∷ []
    → installed e.call e.reply ≡ [] → p ≡ record { board = board; list = installs opening items }
published_same board opening es items e p is more none =
    published_more board opening es items e p p is more refl (sym (ap (λ l. p.list ++ l) none ∙ append-nil p.list))
