-- One more Round of a driver.
use Rattle.std.proofs.Common.{◌≡◌, ℕ, ◌+◌, ◌<◌, inl, inr, Bool, true, false, List, [], ◌∷◌, length, refl, sym, ap, ◌∙◌, subst, length-append, arith}
use Rattle.std.specs.List.{All}
use Rattle.std.proofs.lemmas.List.Elements.{All-nil, All-push}
use Rattle.click_router.specs.declared.call.Call.{Call}
use Rattle.click_router.specs.declared.call.Call.TheVariants as call
use Rattle.click_router.specs.declared.call.Reply.{Reply}
use Rattle.click_desk.specs.SeatStates.{SeatState}
use Rattle.click_control.specs.Serving.{Turned, not_yet, once_more}
use Rattle.click_workers.specs.Gates.{place, AsksGate, TellsGate}
use Rattle.click_workers.specs.Work.{Drives, Stops, TakesTurn}

module _ {G : Type 0} (gives : G → ℕ → ℕ → Bool → Type 0) (told : G → ℕ → ℕ → Type 0) (gate : G) (who : ℕ) where
  pub none-driven : (s : SeatState) → s.calls ≡ [] → Drives gives told gate who 0 s true
  none-driven s fresh = let many : length s.calls ≡ 0 = ap length fresh in record {
    rounds_alone = subst (λ (l : List (Call × Reply)). All (λ p. p.0 ≡ call.Round) l) (sym fresh) (All-nil (λ (p : Call × Reply). p.0 ≡ call.Round));
    within = omega (arith, many);
    full = (λ e. many, λ e. refl);
    turned = subst (λ n. Turned (AsksGate gives) (TellsGate told) (place gate who) n (place gate who)) (sym many) (not_yet (place gate who));
    stopped = λ e. absurd cc;
  }

  pub one-driven : (n : ℕ) (old new : SeatState) → Drives gives told gate who n old true → TakesTurn gives told gate who (n + 1) old new true
      → Drives gives told gate who (n + 1) new true
  one-driven n old new d (given, done, (reply, calls)) =
      let before : length old.calls ≡ n = d.full.0 refl in
      let many : length new.calls ≡ n + 1 = ap length calls ∙ omega (arith, length-append old.calls ((call.Round, reply) ∷ []), before) in
      let so_far = subst (λ k. Turned (AsksGate gives) (TellsGate told) (place gate who) k (place gate who)) before d.turned in
      record {
        rounds_alone = subst (λ (l : List (Call × Reply)). All (λ p. p.0 ≡ call.Round) l) (sym calls)
            (All-push (λ (p : Call × Reply). p.0 ≡ call.Round) old.calls (call.Round, reply) d.rounds_alone refl);
        within = omega (arith, many);
        full = (λ e. many, λ e. refl);
        turned = subst (λ k. Turned (AsksGate gives) (TellsGate told) (place gate who) k (place gate who)) (sym many)
            (once_more (place gate who) (place gate who) (place gate who) (place gate who) n so_far (given, refl) (done, refl));
        stopped = λ e. absurd cc;
      }

  stops-same : (nth : ℕ) (old new : SeatState) → Stops gives gate who nth old new → new.calls ≡ old.calls
  stops-same nth old new (inl h) = ap (λ (t : SeatState). t.calls) h.1
  stops-same nth old new (inr h) = h.2.1.calls

  pub held-back : (n rounds : ℕ) (old new : SeatState) → Drives gives told gate who n old true → n < rounds → TakesTurn gives told gate who (n + 1) old new false
      → Drives gives told gate who rounds new false
  held-back n rounds old new d less held =
      let same = stops-same (n + 1) old new held in
      let before : length old.calls ≡ n = d.full.0 refl in
      let many : length new.calls ≡ n = ap length same ∙ before in
      record {
        rounds_alone = subst (λ (l : List (Call × Reply)). All (λ p. p.0 ≡ call.Round) l) (sym same) d.rounds_alone;
        within = omega (arith, many, less);
        full = (λ e. absurd cc, λ e. absurd (omega (arith, many, less, e)));
        turned = subst (λ k. Turned (AsksGate gives) (TellsGate told) (place gate who) k (place gate who)) (sym (ap length same)) d.turned;
        stopped = λ e. (old, subst (λ k. Stops gives gate who (k + 1) old new) (sym many) held);
      }
