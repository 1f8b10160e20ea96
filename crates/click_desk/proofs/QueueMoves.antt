-- Each step keeps the rule of the queue.
use Rattle.std.proofs.Common.{◌≡◌, ◌≢◌, ◌⊎◌, inl, inr, ℕ, zero, suc, true, false, true≢false, ◌==◌, if◌then◌else◌, List, [], ◌∷◌, ◌++◌, length, set, ◌≤◌, sym, refl, ap, ◌∙◌, subst, ⊎_elim, arith}
use Rattle.std.proofs.lemmas.Bool.Decides.{nat_tests}
use mathlib.Core.Option.{some, some-injective, some-ne-none}
use lib.ListN.{get_elem?}
use Rattle.crossbeam_queue.specs.Fifo.{Pushes, Pops, Forks, Merges, Learns}
use Rattle.crossbeam_queue.proofs.Lists.{at_set, at_longer, set_else}
use Rattle.click_desk.specs.LoggedRouterState.{LoggedRouterState}
use Rattle.click_desk.specs.Bounds.{IsWithin}
use Rattle.click_desk.specs.declared.entry.Entry.{Entry}
use Rattle.click_desk.specs.declared.desk_setup.DeskSetup.{DeskSetup}
use Rattle.click_desk.specs.declared.pass_knowledge.PassKnowledge.{PassKnowledge}
use Rattle.click_desk.specs.History.{entries, StartsWith}
use Rattle.click_desk.specs.Views.{first, nobody, agent, holding, taken, given, Takes, Gives, MayGive, one_more, next_seat, met, parted, Audits}
use Rattle.click_desk.specs.Rule.{Fits, IsHeld, Place, AtEachPass, HasOneHistory, SingleSlot}
use Rattle.click_desk.proofs.HistoryBounds.{within_none}
use Rattle.click_desk.proofs.Histories.{starts_here, starts_empty, starts_along}

-- Lists of views.
set_at : (l : List PassKnowledge) (i : ℕ) (a b : PassKnowledge) → get_elem? l i ≡ some b → get_elem? (set l i a) i ≡ some a
set_at [] zero a b e = absurd (some-ne-none b (sym e))
set_at [] (suc i) a b e = absurd (some-ne-none b (sym e))
set_at (x ∷ l) zero a b e = refl
set_at (x ∷ l) (suc i) a b e = set_at l i a b e

at_end : (l : List PassKnowledge) (a : PassKnowledge) → get_elem? (l ++ a ∷ []) (length l) ≡ some a
at_end [] a = refl
at_end (x ∷ l) a = at_end l a

at_behind : (l : List PassKnowledge) (a b : PassKnowledge) (j : ℕ) → get_elem? (l ++ a ∷ []) j ≡ some b → (get_elem? l j ≡ some b) ⊎ ((j ≡ length l) × (a ≡ b))
at_behind [] a b zero e = inr (refl, some-injective a b e)
at_behind [] a b (suc j) e = absurd (some-ne-none b (sym e))
at_behind (x ∷ l) a b zero e = inl e
at_behind (x ∷ l) a b (suc j) e = ⊎_elim (λ h. inl h) (λ h. inr (ap suc h.0, h.1)) (at_behind l a b j e)

all_set : (F : ℕ → PassKnowledge → Type 0) (views : List PassKnowledge) (port : ℕ) (w : PassKnowledge) → F port w → ((j : ℕ) (u : PassKnowledge) → j ≢ port → get_elem? views j ≡ some u → F j u) → AtEachPass F (set views port w)
all_set F views port w mine others j u e = ⊎_elim (λ (x : (j ≡ port) × (w ≡ u)). subst (λ (y : ℕ × PassKnowledge). F y.0 y.1) (λ i. (sym x.0 i, x.1 i)) mine)
    (λ (x : (j ≢ port) × (get_elem? views j ≡ some u)). others j u x.0 x.1) (at_set views port j w u e)

all_behind : (F : ℕ → PassKnowledge → Type 0) (views : List PassKnowledge) (w : PassKnowledge) → AtEachPass F views → F (length views) w → AtEachPass F (views ++ w ∷ [])
all_behind F views w old new j u e = ⊎_elim (λ (x : get_elem? views j ≡ some u). old j u x)
    (λ (x : (j ≡ length views) × (w ≡ u)). subst (λ (y : ℕ × PassKnowledge). F y.0 y.1) (λ i. (sym x.0 i, x.1 i)) new) (at_behind views w u j e)

at_kept : (l : List PassKnowledge) (i j : ℕ) (a b : PassKnowledge) → get_elem? l j ≡ some b → (get_elem? (set l i a) j ≡ some b) ⊎ ((j ≡ i) × (get_elem? (set l i a) j ≡ some a))
at_kept [] zero j a b e = inl e
at_kept [] (suc i) j a b e = inl e
at_kept (x ∷ l) zero zero a b e = inr (refl, refl)
at_kept (x ∷ l) zero (suc j) a b e = inl e
at_kept (x ∷ l) (suc i) zero a b e = inl e
at_kept (x ∷ l) (suc i) (suc j) a b e = ⊎_elim (λ h. inl h) (λ h. inr (ap suc h.0, h.1)) (at_kept l i j a b e)

-- The holder stays the same if a view changes in other respects.
held_set : (views : List PassKnowledge) (port : ℕ) (v w : PassKnowledge) (holder : ℕ) → get_elem? views port ≡ some v → w.holds ≡ v.holds → IsHeld views holder → IsHeld (set views port w) holder
held_set views port v w holder at same h =
    ⊎_elim (λ (x : get_elem? (set views port w) holder ≡ some h.0). (h.0, x, h.2))
    (λ (x : (holder ≡ port) × (get_elem? (set views port w) holder ≡ some w)).
    (w, x.1, same ∙ (ap (λ (y : PassKnowledge). y.holds) (some-injective v h.0 (sym at ∙ (ap (λ j. get_elem? views j) (sym x.0) ∙ h.1))) ∙ h.2)))
    (at_kept views port holder w h.0 h.1)

held_fork : (views : List PassKnowledge) (port : ℕ) (v left right : PassKnowledge) (holder : ℕ) → get_elem? views port ≡ some v → left.holds ≡ v.holds → IsHeld views holder → IsHeld (set views port left ++ right ∷ []) holder
held_fork views port v left right holder at same h =
    let s = held_set views port v left holder at same h in
    (s.0, at_longer (set views port left) (right ∷ []) holder s.0 s.1, s.2)

place_same : (items : List LoggedRouterState) (views later : List PassKnowledge) (history : List Entry) (options : DeskSetup) (holder : ℕ) → (IsHeld views holder → IsHeld later holder) → Place items views history options holder → Place items later history options holder
place_same items views later history options holder f (inl h) = inl (h.0, f h.1)
place_same items views later history options holder f (inr h) = inr h

cons_nil : (x : LoggedRouterState) (items : List LoggedRouterState) → x ∷ items ≡ [] → ⊥
cons_nil x items e = cc

-- What a pop of the queue finds.
found : (x : LoggedRouterState) (items : List LoggedRouterState) (views : List PassKnowledge) (history : List Entry) (options : DeskSetup) (holder : ℕ) → Place (x ∷ items) views history options holder → (items ≡ []) × (x.options ≡ options) × (x.entries ≡ history)
found x items views history options holder (inl h) = absurd (cons_nil x items h.0)
found x items views history options holder (inr h) =
    let e = h.1 in
    let is : x ≡ h.0 = cc in
    let none : items ≡ [] = cc in
    (none, ap (λ (b : LoggedRouterState). b.options) is ∙ h.2, ap (λ (b : LoggedRouterState). b.entries) is ∙ h.3)

first_only : (pass : ℕ) (v : PassKnowledge) → get_elem? (first ∷ []) pass ≡ some v → (pass ≡ 0) × (first ≡ v)
first_only zero v e = (refl, some-injective first v e)
first_only (suc pass) v e = absurd (some-ne-none v (sym e))

-- The rule after the first give: a pass that knows the options shows that it has happened.
kept_of : (items : List LoggedRouterState) (views : List PassKnowledge) (pass : ℕ) (v : PassKnowledge) → v.opened ≡ true → get_elem? views pass ≡ some v → SingleSlot items views → HasOneHistory items views
kept_of items views pass v opened at (inl h) =
    let is = (first_only pass v (ap (λ (l : List PassKnowledge). get_elem? l pass) (sym h.1) ∙ at)).1 in
    absurd (true≢false (sym opened ∙ ap (λ (y : PassKnowledge). y.opened) (sym is)))
kept_of items views pass v opened at (inr k) = k

-- Taking the logged router keeps the rule.
pub takes : (pass : ℕ) (v : PassKnowledge) → v.opened ≡ true → Pops SingleSlot pass v (Takes v)
takes pass v opened x items views rule at =
    let k = kept_of (x ∷ items) views pass v opened at rule in
    let f = k.fits pass v at in
    let p = found x items views k.history k.options k.holder k.place in
    let w : PassKnowledge = taken v x in
    let F : ℕ → PassKnowledge → Type 0 = Fits items k.history k.options k.owner pass in
    let mine : F pass w = record {
      knows = f.knows;
      seen = subst (λ (h : List Entry). StartsWith k.history h) (sym p.2) (starts_here k.history);
      back = f.back;
      holds = λ _. (opened, p.0, refl, p.2);
      acts = f.acts;
      makes = f.makes;
    } in
    let others : (j : ℕ) (u : PassKnowledge) → j ≢ pass → get_elem? views j ≡ some u → F j u = λ j u apart e. let g = k.fits j u e in record {
      knows = g.knows;
      seen = g.seen;
      back = g.back;
      holds = λ t. absurd (cons_nil x items (g.holds t).1);
      acts = g.acts;
      makes = g.makes;
    } in (
      w,
      inr (record {
        history = k.history;
        options = k.options;
        owner = k.owner;
        holder = pass;
        place = inl (p.0, (w, set_at views pass w v at, refl));
        within = k.within;
        numbered = k.numbered;
        fits = all_set F views pass w mine others;
      }),
      (
        refl,
        (
          p.1 ∙ sym (f.knows opened),
          subst (λ (h : List Entry). StartsWith h v.seen) (sym p.2) f.seen,
          subst (λ (y : List Entry × DeskSetup). IsWithin y.1.room (length y.0)) (λ i. (sym p.2 i, sym p.1 i)) k.within,
          (λ t. ap (λ h. entries h v.number) p.2 ∙ (f.acts t).1),
          (λ n le. ap (λ h. entries h n) p.2 ∙ k.numbered n (subst (λ (t : DeskSetup). t.seats ≤ n) (f.knows opened) le)),
        ),
      ),
    )

-- Giving the logged router back keeps the rule.
pub gives : (n pass : ℕ) (v : PassKnowledge) (x : LoggedRouterState) → MayGive v x → Pushes SingleSlot n pass v x (Gives v x)
gives n pass v x m items views room rule at =
    let k = kept_of items views pass v m.opened at rule in
    let f = k.fits pass v at in
    let h = f.holds m.holds in
    let owns = (f.acts m.acts).0 in
    let xt : x.options ≡ k.options = m.options ∙ f.knows m.opened in
    let seats : v.options.seats ≡ k.options.seats = ap (λ (t : DeskSetup). t.seats) (f.knows m.opened) in
    let longer : StartsWith x.entries k.history = subst (λ (s : List Entry). StartsWith x.entries s) h.3 m.longer in
    let same : (i : ℕ) → i ≢ v.number → entries x.entries i ≡ entries k.history i = λ i apart. m.others i apart ∙ ap (λ s. entries s i) h.3 in
    let w : PassKnowledge = given v x in
    let F : ℕ → PassKnowledge → Type 0 = Fits (items ++ x ∷ []) x.entries k.options k.owner k.holder in
    let mine : F pass w = record {
      knows = λ _. xt;
      seen = starts_here x.entries;
      back = starts_along x.entries k.history v.back longer f.back;
      holds = λ t. absurd (true≢false (sym t));
      acts = λ _. (owns, refl);
      makes = λ t. absurd (true≢false (sym t ∙ m.makes));
    } in
    let others : (j : ℕ) (u : PassKnowledge) → j ≢ pass → get_elem? views j ≡ some u → F j u = λ j u apart e. let g = k.fits j u e in record {
      knows = g.knows;
      seen = starts_along x.entries k.history u.seen longer g.seen;
      back = starts_along x.entries k.history u.back longer g.back;
      holds = λ t. absurd (apart ((g.holds t).2 ∙ sym h.2));
      acts = λ t. let a = g.acts t in (a.0, same u.number (λ is. apart (sym a.0 ∙ (ap k.owner is ∙ owns))) ∙ a.1);
      makes = λ t i le. let a = g.makes t i le in (a.0, same i (λ is. apart (sym a.0 ∙ (ap k.owner is ∙ owns))) ∙ a.1);
    } in (
      w,
      inr (record {
        history = x.entries;
        options = k.options;
        owner = k.owner;
        holder = k.holder;
        place = inr (x, ap (λ l. l ++ x ∷ []) h.1, xt, refl);
        within = subst (λ (t : DeskSetup). IsWithin t.room (length x.entries)) xt m.within;
        numbered = λ i le. let small = m.number in same i (omega arith) ∙ k.numbered i le;
        fits = all_set F views pass w mine others;
      }),
      refl,
    )

-- The first give, which sets the options, keeps the rule.
pub opens : (n pass : ℕ) (v : PassKnowledge) (x : LoggedRouterState) → v ≡ first → x.entries ≡ [] → Pushes SingleSlot n pass v x (Gives v x)
opens n pass v x is empty items views room (inl h) at =
    let p = (first_only pass v (ap (λ (l : List PassKnowledge). get_elem? l pass) (sym h.1) ∙ at)).0 in
    let w : PassKnowledge = given v x in
    let F : ℕ → PassKnowledge → Type 0 = Fits (items ++ x ∷ []) x.entries x.options (λ _. 0) 0 in
    let mine : F 0 w = record {
      knows = λ _. refl;
      seen = starts_here x.entries;
      back = subst (λ (l : List Entry). StartsWith x.entries l) (ap (λ (y : PassKnowledge). y.back) (sym is)) (starts_empty x.entries);
      holds = λ t. absurd (true≢false (sym t));
      acts = λ t. absurd (true≢false (sym t ∙ ap (λ (y : PassKnowledge). y.acts) is));
      makes = λ _ i _. (refl, ap (λ l. entries l i) empty);
    } in
    let alone : AtEachPass F (w ∷ []) = all_behind F [] w (λ j u e. absurd (some-ne-none u (sym e))) mine in
    let now : set views pass w ≡ w ∷ [] = (λ i. set (h.1 i) (p i) w) in (
      w,
      inr (record {
        history = x.entries;
        options = x.options;
        owner = λ _. 0;
        holder = 0;
        place = inr (x, ap (λ l. l ++ x ∷ []) h.0, refl, refl);
        within = subst (λ (l : List Entry). IsWithin x.options.room (length l)) (sym empty) (within_none x.options.room);
        numbered = λ i le. ap (λ l. entries l i) empty;
        fits = subst (λ (l : List PassKnowledge). AtEachPass F l) (sym now) alone;
      }),
      refl,
    )
opens n pass v x is empty items views room (inr k) at =
    let h = (k.fits pass v at).holds (ap (λ (y : PassKnowledge). y.holds) is) in
    absurd (true≢false (sym h.0 ∙ ap (λ (y : PassKnowledge). y.opened) is))

-- Making one more seat keeps the rule.
pub seats : (pass : ℕ) (v : PassKnowledge) → v.opened ≡ true → v.makes ≡ true → v.acts ≡ false → Forks SingleSlot pass v (one_more v) (next_seat v)
seats pass v opened makes idle items views rule at =
    let k = kept_of items views pass v opened at rule in
    let f = k.fits pass v at in
    let left : PassKnowledge = one_more v in
    let right : PassKnowledge = next_seat v in
    let vs : List PassKnowledge = set views pass left in
    let owner : ℕ → ℕ = λ n. if n == v.made then length vs else k.owner n in
    let here : owner v.made ≡ length vs = let same : (v.made == v.made) ≡ true = grind (arith, nat_tests) in rw same refl in
    let away : (n : ℕ) → n ≢ v.made → owner n ≡ k.owner n = λ n apart. let other : (n == v.made) ≡ false = grind (arith, nat_tests) in rw other refl in
    let made = f.makes makes v.made (omega arith) in
    let F : ℕ → PassKnowledge → Type 0 = Fits items k.history k.options owner k.holder in
    let mine : F pass left = record {
      knows = f.knows;
      seen = f.seen;
      back = f.back;
      holds = f.holds;
      acts = λ t. absurd (true≢false (sym t ∙ idle));
      makes = λ t n le. let a = f.makes makes n (omega arith) in (away n (omega arith) ∙ a.0, a.1);
    } in
    let others : (j : ℕ) (u : PassKnowledge) → j ≢ pass → get_elem? views j ≡ some u → F j u = λ j u apart e. let g = k.fits j u e in record {
      knows = g.knows;
      seen = g.seen;
      back = g.back;
      holds = g.holds;
      acts = λ t. let a = g.acts t in (away u.number (λ is. apart (sym a.0 ∙ (ap k.owner is ∙ made.0))) ∙ a.0, a.1);
      makes = λ t n le. let a = g.makes t n le in (away n (λ is. apart (sym a.0 ∙ (ap k.owner is ∙ made.0))) ∙ a.0, a.1);
    } in
    let new : F (length vs) right = record {
      knows = λ _. f.knows opened;
      seen = starts_empty k.history;
      back = starts_empty k.history;
      holds = λ t. absurd (true≢false (sym t));
      acts = λ _. (here, made.1);
      makes = λ t. absurd (true≢false (sym t));
    } in
    inr (record {
      history = k.history;
      options = k.options;
      owner = owner;
      holder = k.holder;
      place = place_same items views (vs ++ right ∷ []) k.history k.options k.holder (held_fork views pass v left right k.holder at refl) k.place;
      within = k.within;
      numbered = k.numbered;
      fits = all_behind F vs right (all_set F views pass left mine others) new;
    })

-- Creating a pass without a seat keeps the rule.
pub agents : (pass : ℕ) (v : PassKnowledge) → v.opened ≡ true → Forks SingleSlot pass v v (agent v.options)
agents pass v opened items views rule at =
    let k = kept_of items views pass v opened at rule in
    let f = k.fits pass v at in
    let right : PassKnowledge = agent v.options in
    let vs : List PassKnowledge = set views pass v in
    let F : ℕ → PassKnowledge → Type 0 = Fits items k.history k.options k.owner k.holder in
    let new : F (length vs) right = record {
      knows = λ _. f.knows opened;
      seen = starts_empty k.history;
      back = starts_empty k.history;
      holds = λ t. absurd (true≢false (sym t));
      acts = λ t. absurd (true≢false (sym t));
      makes = λ t. absurd (true≢false (sym t));
    } in
    inr (record {
      history = k.history;
      options = k.options;
      owner = k.owner;
      holder = k.holder;
      place = place_same items views (vs ++ right ∷ []) k.history k.options k.holder (held_fork views pass v v right k.holder at refl) k.place;
      within = k.within;
      numbered = k.numbered;
      fits = all_behind F vs right (all_set F views pass v f (λ j u _ e. k.fits j u e)) new;
    })

-- Joining a seat's pass with the pass that holds the logged router keeps the rule.
pub meets : (pass : ℕ) (v : PassKnowledge) (other : ℕ) (w : PassKnowledge) → v.opened ≡ true → w.holds ≡ true → Merges SingleSlot pass v other w (met v w) nobody
meets pass v other w opened held items views rule at two at2 =
    let k = kept_of items views pass v opened at rule in
    let f = k.fits pass v at in
    let both : PassKnowledge = met v w in
    let vs : List PassKnowledge = set views pass both in
    let was : get_elem? views other ≡ some w = ⊎_elim (λ (x : (other ≡ pass) × (both ≡ w)). absurd (two x.0)) (λ (x : (other ≢ pass) × (get_elem? views other ≡ some w)). x.1) (at_set views pass other both w at2) in
    let h = (k.fits other w was).holds held in
    let F : ℕ → PassKnowledge → Type 0 = Fits items k.history k.options k.owner pass in
    let G : ℕ → PassKnowledge → Type 0 = λ j u. j ≢ other → F j u in
    let mine : G pass both = λ _. record {
      knows = f.knows;
      seen = (k.fits other w was).seen;
      back = f.seen;
      holds = λ _. (opened, h.1, refl, h.3);
      acts = f.acts;
      makes = f.makes;
    } in
    let others : (j : ℕ) (u : PassKnowledge) → j ≢ pass → get_elem? views j ≡ some u → G j u = λ j u _ e apart. let g = k.fits j u e in record {
      knows = g.knows;
      seen = g.seen;
      back = g.back;
      holds = λ t. absurd (apart ((g.holds t).2 ∙ sym h.2));
      acts = g.acts;
      makes = g.makes;
    } in
    let now : AtEachPass G vs = all_set G views pass both mine others in
    let spent : F other nobody = record {
      knows = λ t. absurd (true≢false (sym t));
      seen = starts_empty k.history;
      back = starts_empty k.history;
      holds = λ t. absurd (true≢false (sym t));
      acts = λ t. absurd (true≢false (sym t));
      makes = λ t. absurd (true≢false (sym t));
    } in
    inr (record {
      history = k.history;
      options = k.options;
      owner = k.owner;
      holder = pass;
      place = inl (h.1, (both, set_else vs other pass nobody (λ is. two (sym is)) ∙ set_at views pass both v at, refl));
      within = k.within;
      numbered = k.numbered;
      fits = all_set F vs other nobody spent (λ j u apart e. now j u e apart);
    })

-- Splitting the joined pass keeps the rule.
pub parts : (pass : ℕ) (v : PassKnowledge) → v.opened ≡ true → v.holds ≡ true → Forks SingleSlot pass v (parted v) (holding v.options v.seen)
parts pass v opened held items views rule at =
    let k = kept_of items views pass v opened at rule in
    let f = k.fits pass v at in
    let h = f.holds held in
    let left : PassKnowledge = parted v in
    let right : PassKnowledge = holding v.options v.seen in
    let vs : List PassKnowledge = set views pass left in
    let F : ℕ → PassKnowledge → Type 0 = Fits items k.history k.options k.owner (length vs) in
    let mine : F pass left = record {
      knows = f.knows;
      seen = f.back;
      back = starts_empty k.history;
      holds = λ t. absurd (true≢false (sym t));
      acts = f.acts;
      makes = f.makes;
    } in
    let others : (j : ℕ) (u : PassKnowledge) → j ≢ pass → get_elem? views j ≡ some u → F j u = λ j u apart e. let g = k.fits j u e in record {
      knows = g.knows;
      seen = g.seen;
      back = g.back;
      holds = λ t. absurd (apart ((g.holds t).2 ∙ sym h.2));
      acts = g.acts;
      makes = g.makes;
    } in
    let new : F (length vs) right = record {
      knows = λ _. f.knows opened;
      seen = f.seen;
      back = starts_empty k.history;
      holds = λ _. (refl, h.1, refl, h.3);
      acts = λ t. absurd (true≢false (sym t));
      makes = λ t. absurd (true≢false (sym t));
    } in
    inr (record {
      history = k.history;
      options = k.options;
      owner = k.owner;
      holder = length vs;
      place = inl (h.1, (right, at_end vs right, refl));
      within = k.within;
      numbered = k.numbered;
      fits = all_behind F vs right (all_set F views pass left mine others) new;
    })

-- A pass that holds the logged router finds the queue empty.
pub empties : (pass : ℕ) (v : PassKnowledge) → Learns SingleSlot pass v (λ items. v.holds ≡ true → items ≡ [])
empties pass v items views (inl h) at held = h.0
empties pass v items views (inr k) at held = ((k.fits pass v at).holds held).1

-- A pass that holds the logged router knows the whole history.
pub audits : (pass : ℕ) (v : PassKnowledge) → v.opened ≡ true → v.holds ≡ true → Learns SingleSlot pass v (Audits v)
audits pass v opened held items views rule at =
    let k = kept_of items views pass v opened at rule in
    let f = k.fits pass v at in
    let h = (f.holds held).3 in (
      subst (λ (l : List Entry). StartsWith l v.back) (sym h) f.back,
      (λ t. ap (λ l. entries l v.number) h ∙ (f.acts t).1),
    )

-- The rule holds of a new queue.
pub begins : SingleSlot [] (first ∷ [])
begins = inl (refl, refl)
