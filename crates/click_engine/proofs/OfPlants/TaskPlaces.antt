-- Lemmas about the indices of the elements with a task, one more element at a time.
use Rattle.std.proofs.Common.{◌≡◌, ◌∙◌, ℕ, ◌+◌, ◌<◌, sym, ap, subst, arith, Some, List, [], ◌∷◌, ◌++◌, take, get_or, length, length-take-le}
use Rattle.std.proofs.lemmas.List.{take_more, map-append}
use Rattle.std.proofs.lemmas.Option.{slice_get-get_or}
use Rattle.std.specs.Prelude.{option_map}
use Rattle.click_ports.specs.Net.{Net}
use Rattle.click_ports.specs.declared.shape.Shape.{Shape}
use Rattle.click_engine.specs.Tasks.{HasTask, AreTasks, over, task, idle}
use Rattle.click_engine.specs.kept.Tasks.{class_of_task, places_of, IsTaskIn}
use Rattle.click_engine.specs.declared.tasks.Task.{Task}
use Rattle.click_engine.specs.declared.tasks.TaskKind.{TaskKind}

pub task_more : (net : Net) (at : ℕ) (ss : List Shape) (places : List ℕ) (s : Shape) (p : ℕ) → p ≡ at + length ss → HasTask net p s.class
    → AreTasks net at ss places → AreTasks net at (ss ++ s ∷ []) (places ++ p ∷ [])
task_more net at [] [] s p e h (over _) =
    let q : p ≡ at = omega (arith, e) in
    subst (λ n. AreTasks net at (s ∷ []) (n ∷ [])) (sym q) (task at s [] [] (subst (λ n. HasTask net n s.class) q h) (over (at + 1)))
task_more net at [] (_ ∷ places) s p e h x = elim x [ ]
task_more net at (t ∷ ss) (_ ∷ places) s p e h (task _ _ _ _ k r) = task at t (ss ++ s ∷ []) (places ++ p ∷ []) k (task_more net (at + 1) ss places s p (omega (arith, e)) h r)
task_more net at (t ∷ ss) places s p e h (idle _ _ _ _ k r) = idle at t (ss ++ s ∷ []) (places ++ p ∷ []) k (task_more net (at + 1) ss places s p (omega (arith, e)) h r)

pub idle_more : (net : Net) (at : ℕ) (ss : List Shape) (places : List ℕ) (s : Shape) (p : ℕ) → p ≡ at + length ss → (HasTask net p s.class → ⊥)
    → AreTasks net at ss places → AreTasks net at (ss ++ s ∷ []) places
idle_more net at [] [] s p e h (over _) =
    let q : p ≡ at = omega (arith, e) in
    idle at s [] [] (λ k. h (subst (λ n. HasTask net n s.class) (sym q) k)) (over (at + 1))
idle_more net at [] (_ ∷ places) s p e h x = elim x [ ]
idle_more net at (t ∷ ss) (_ ∷ places) s p e h (task _ _ _ _ k r) = task at t (ss ++ s ∷ []) places k (idle_more net (at + 1) ss places s p (omega (arith, e)) h r)
idle_more net at (t ∷ ss) places s p e h (idle _ _ _ _ k r) = idle at t (ss ++ s ∷ []) places k (idle_more net (at + 1) ss places s p (omega (arith, e)) h r)

module _ (net : Net) (at : ℕ) (ss xs : List Shape) (d : Shape) (places : List ℕ) (same : xs ≡ ss) (inside : at < length xs) where
  place : at ≡ 0 + length (take at ss)
  place = let l = length-take-le at ss (let e = ap length same in omega (arith, inside, e)) in omega (arith, l)

  next : take (at + 1) ss ≡ take at ss ++ get_or xs at d ∷ []
  next = subst (λ ys. take (at + 1) ys ≡ take at ys ++ get_or xs at d ∷ []) same (take_more xs at d inside)

  pub next_task : HasTask net at (get_or xs at d).class → AreTasks net 0 (take at ss) places → AreTasks net 0 (take (at + 1) ss) (places ++ at ∷ [])
  next_task h r = subst (λ ys. AreTasks net 0 ys (places ++ at ∷ [])) (sym next) (task_more net 0 (take at ss) places (get_or xs at d) at place h r)

  pub next_idle : (HasTask net at (get_or xs at d).class → ⊥) → AreTasks net 0 (take at ss) places → AreTasks net 0 (take (at + 1) ss) places
  next_idle h r = subst (λ ys. AreTasks net 0 ys places) (sym next) (idle_more net 0 (take at ss) places (get_or xs at d) at place h r)

-- one more task adds its index
pub places-push : (tasks : List Task) (t : Task) → places_of (tasks ++ t ∷ []) ≡ places_of tasks ++ t.at ∷ []
places-push tasks t = map-append (λ (u : Task). u.at) tasks (t ∷ [])

-- the task of an element is of the element's class
pub is_task_in : (ss xs : List Shape) (at : ℕ) (d : Shape) (k : TaskKind) → xs ≡ ss → at < length xs → class_of_task k ≡ (get_or xs at d).class → IsTaskIn ss (record { at = at; kind = k })
is_task_in ss xs at d k same inside is =
    subst (λ ys. IsTaskIn ys (record { at = at; kind = k })) same (ap (λ o. option_map (λ (s : Shape). s.class) o) (slice_get-get_or xs at d inside) ∙ ap Some (sym is))
