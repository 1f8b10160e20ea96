-- An element of a class with certain arguments has only one first state, or only one first fault.
use Rattle.std.proofs.Common.{◌≡◌, ◌⊎◌, ℕ, List, [], ◌∷◌, refl, subst, arith, map, Bool, true, false, Option, Some, None, Result, Ok, Err, sym, ◌∙◌, ap, inl, inr}
use Rattle.std.specs.Prelude.{MatchBool}
use Rattle.std.specs.List.{AllZip}
use Rattle.click_text.specs.declared.syntax.Span.{Span}
use Rattle.click_text.specs.Arguments.{AreArguments}
use Rattle.click_text.specs.Spans.{bytes_at}
use Rattle.click_text.specs.Words.{AreWords, IsWithoutComments}
use Rattle.click_text.proofs.OfArguments.OneText.{one_text}
use Rattle.click_patterns.specs.declared.rules.FlatRule.{FlatRule}
use Rattle.click_patterns.specs.declared.rules.RuleForm.{RuleForm}
use Rattle.click_patterns.specs.declared.rules.RuleForm.TheVariants as form
use Rattle.click_patterns.specs.RuleLists.{flat_rule}
use Rattle.click_patterns.proofs.RuleReading.{one_rule_list}
use Rattle.click_base.specs.declared.class.Class.{Class}
use Rattle.click_base.specs.declared.class.Class.TheVariants as class
use Rattle.click_classes.specs.declared.fault.ArgFault.{ArgFault}
use Rattle.click_classes.specs.declared.fault.ArgFault.TheVariants as fault
use Rattle.click_classes.specs.declared.state.State.{State}
use Rattle.click_classes.specs.declared.state.State.TheVariants as state
use Rattle.click_classes.specs.Made.{classifier, static_ip_lookup, check_ip_header, infinite_source, arp_responder, FirstStandsFor, AreRuled, HaveRules, IsFresh, IsMade}
use Rattle.click_classes.specs.Steps.{◌>>=◌, OrNoMemory}
use Rattle.click_classes.proofs.OfArguments.OneArgumentList.{one_arguments, one_plain, one_words_each}

one_by_words : (in_range : Bool) (state_of : List (List (List ℕ)) → Result State ArgFault) (args : List (List ℕ)) (r s : Result State ArgFault) →
    MatchBool in_range ((words : List (List (List ℕ))) × AllZip AreWords args words × (r ≡ state_of words)) (r ≡ Err fault.ArgumentCount) →
    MatchBool in_range ((words : List (List (List ℕ))) × AllZip AreWords args words × (s ≡ state_of words)) (s ≡ Err fault.ArgumentCount) → r ≡ s
one_by_words true state_of args r s (words, a, e) (others, b, f) = e ∙ ap state_of (one_words_each args words others a b) ∙ sym f
one_by_words false state_of args r s e f = e ∙ sym f

one_given : (argument : Option (List ℕ)) (first other : Option (Option (List ℕ))) → FirstStandsFor argument first → FirstStandsFor argument other → first ≡ other
one_given None first other e f = e ∙ sym f
one_given (Some a) first other (bytes, s, e) (others, t, f) = e ∙ ap Some (one_plain a bytes others s t) ∙ sym f

one_by_first : (in_range : Bool) (argument : Option (List ℕ)) (state_of : Option (Option (List ℕ)) → Result State ArgFault) (r s : Result State ArgFault) →
    MatchBool in_range ((first : Option (Option (List ℕ))) × FirstStandsFor argument first × (r ≡ state_of first)) (r ≡ Err fault.ArgumentCount) →
    MatchBool in_range ((first : Option (Option (List ℕ))) × FirstStandsFor argument first × (s ≡ state_of first)) (s ≡ Err fault.ArgumentCount) → r ≡ s
one_by_first true argument state_of r s (first, a, e) (other, b, f) = e ∙ ap state_of (one_given argument first other a b) ∙ sym f
one_by_first false argument state_of r s e f = e ∙ sym f

one_texts : (args texts others : List (List ℕ)) → AllZip IsWithoutComments args texts → AllZip IsWithoutComments args others → texts ≡ others
one_texts [] [] [] a b = refl
one_texts [] [] (t ∷ others) a b = absurd b
one_texts [] (t ∷ texts) others a b = absurd a
one_texts (a ∷ args) [] others h k = absurd h
one_texts (a ∷ args) (t ∷ texts) [] h k = absurd k
one_texts (a ∷ args) (t ∷ texts) (u ∷ others) h k =
    let first = one_text a t u h.0 k.0 in
    let rest = one_texts args texts others h.1 k.1 in
    cc

one_ruled : (f : RuleForm) (texts : List (List ℕ)) (r s : Result (List FlatRule) ArgFault) → AreRuled f texts r → AreRuled f texts s → r ≡ s
one_ruled f texts (Ok r) (Ok s) (rs, a, m, e) (ss, b, n, g) = ap Ok (e ∙ ap (map flat_rule) (one_rule_list f texts rs ss a b) ∙ sym g)
one_ruled f texts (Ok r) (Err d) (rs, a, m, e) (g, n) = absurd (omega (arith, m, n rs a))
one_ruled f texts (Err c) (Ok s) (g, n) (ss, b, m, e) = absurd (omega (arith, m, n ss b))
one_ruled f texts (Err c) (Err d) (e, n) (g, m) = ap Err (e ∙ sym g)

one_by_rules : (in_range : Bool) (f : RuleForm) (state_of : List FlatRule → State) (args : List (List ℕ)) (r s : Result State ArgFault) →
    MatchBool in_range ((rules : Result (List FlatRule) ArgFault) × HaveRules f args rules × (r ≡ (rules >>= λ rs. Ok (state_of rs)))) (r ≡ Err fault.ArgumentCount) →
    MatchBool in_range ((rules : Result (List FlatRule) ArgFault) × HaveRules f args rules × (s ≡ (rules >>= λ rs. Ok (state_of rs)))) (s ≡ Err fault.ArgumentCount) → r ≡ s
one_by_rules true f state_of args r s (rules, (texts, t, a), e) (others, (more, u, b), g) =
    let same = one_texts args texts more t u in
    e ∙ ap (λ (x : Result (List FlatRule) ArgFault). x >>= λ rs. Ok (state_of rs)) (one_ruled f more rules others (subst (λ (x : List (List ℕ)). AreRuled f x rules) same a) b) ∙ sym g
one_by_rules false f state_of args r s e g = e ∙ sym g

pub one_fresh : (c : Class) (args : List (List ℕ)) (r s : Result State ArgFault) → IsFresh c args r → IsFresh c args s → r ≡ s
one_fresh class.Classifier args r s a b = one_by_words _ classifier args r s a b
one_fresh class.StaticIPLookup args r s a b = one_by_words _ static_ip_lookup args r s a b
one_fresh class.CheckIPHeader args r s a b = one_by_words _ check_ip_header args r s a b
one_fresh class.ARPResponder args r s a b = one_by_words _ arp_responder args r s a b
one_fresh class.IPFilter args r s a b = one_by_rules _ form.WithAction state.IPFilter args r s a b
one_fresh class.IPClassifier args r s a b = one_by_rules _ form.PatternAlone state.IPClassifier args r s a b
one_fresh class.InfiniteSource args r s a b = one_by_first _ _ (λ first. infinite_source first args) r s a b
one_fresh _ args r s a b = a ∙ sym b

-- a class and a text have only one result
pub one_made : (c : Class) (text : List ℕ) (r s : Result State ArgFault) → IsMade c text r → IsMade c text s → r ≡ s
one_made c text r s a b =
    let e = one_arguments text a.spans b.spans a.cut b.cut in
    one_fresh c (map (bytes_at text) a.spans) r s a.fresh (rw e b.fresh)

-- the result for the arguments of a text is the result for the text
pub made_by : (c : Class) (text : List ℕ) (spans : List Span) (r : Result State ArgFault) → AreArguments text spans → OrNoMemory (IsFresh c (map (bytes_at text) spans)) r → OrNoMemory (IsMade c text) r
made_by c text spans (Ok s) a f = record { spans = spans; cut = a; fresh = f }
made_by c text spans (Err f) a (inl e) = inl e
made_by c text spans (Err f) a (inr e) = inr (record { spans = spans; cut = a; fresh = e })

-- the result that the definition states is returned, unless the call ran out of memory
pub only_made : (c : Class) (text : List ℕ) (result r : Result State ArgFault) → OrNoMemory (IsMade c text) result → IsMade c text r → (result ≡ r) ⊎ (result ≡ Err fault.NoMemory)
only_made c text (Ok s) r a b = inl (one_made c text (Ok s) r a b)
only_made c text (Err f) r (inl e) b = inr (ap Err e)
only_made c text (Err f) r (inr a) b = inl (one_made c text (Err f) r a b)
