-- Lemmas about the arguments of clap that are made from options.
use Rattle.std.proofs.Common.{◌≡◌, ◌<◌, ◌≤◌, ◌+◌, ◌&&◌, not, ℕ, zero, suc, List, [], ◌∷◌, ◌++◌, Bool, true, false, length, take, get_or, All, is_some, ap, sym, subst, ◌∙◌, refl, inl, inr, arith}
use Rattle.std.specs.Str.{bytes_eq}
use Rattle.std.specs.List.{AllByRecursion, AllZip, slice_index_or}
use Rattle.std.proofs.lemmas.List.Elements.{All-nil, All-cons}
use Rattle.std.proofs.lemmas.List.{take_all, take_more}
use Rattle.std.proofs.lemmas.Slice.Eq.{bytes_eq-Decides}
use Rattle.std.proofs.lemmas.Slice.Zip.{all_zipped_more}
use Rattle.clap.proofs.CallerLemmas.{required_in_chain}
use Rattle.clap.specs.Built.{AddsArg, AddsInTurn, FitsChain, HasDistinctIds, IsParsedFrom, IsPlainArg, TakesValue}
use Rattle.clap.specs.Matches.{first_value, found_of}
use Rattle.clap.specs.declared.builder.arg.Arg.{Arg}
use Rattle.clap.specs.declared.builder.command.Command.{Command}
use Rattle.clap.specs.declared.parser.matches.ArgMatches.{ArgMatches}
use Rattle.clap.specs.declared.parser.matches.Found.{Found}
use Rattle.click_cli.specs.Options.{HasItsValue, IsNew, are_apart, is_free, is_needed, is_new}
use Rattle.click_cli.specs.declared.options.CommandOption.{CommandOption}

-- the argument of an option
pub record IsArgument (option : CommandOption) (arg : Arg) : Type 0 where
  pub plain : (arg.id.now ≡ option.id.now) × IsPlainArg arg × (arg.global ≡ false)
  pub needed : is_needed option.takes ≡ true → TakesValue arg

both : (s t : Bool) → (s && t) ≡ true → (s ≡ true) × (t ≡ true)
both true t e = (refl, e)
both false t e = cc

fits : (option : CommandOption) (arg : Arg) → IsArgument option arg → is_free option.id.now ≡ true → FitsChain arg
fits option arg is free = (
  is.plain.1,
  is.plain.2,
  (λ e. let bad : false ≡ true = subst (λ w. is_free w ≡ true) (sym is.plain.0 ∙ e) free in cc),
  (λ auto. elim auto [
    | inl h ↦ let bad : false ≡ true = subst (λ w. is_free w ≡ true) (sym is.plain.0 ∙ h) free in cc
    | inr h ↦ let bad : false ≡ true = subst (λ w. is_free w ≡ true) (sym is.plain.0 ∙ h) free in cc
  ]),
)

-- what `are_apart` says of the first option and of the others
parts : (x : CommandOption) (xs : List CommandOption) → are_apart (x ∷ xs) ≡ true
    → (is_free x.id.now ≡ true) × (is_new x.id.now xs ≡ true) × (are_apart xs ≡ true)
parts x xs apart =
    let first = both (is_free x.id.now) (is_new x.id.now xs && are_apart xs) apart in
    let rest = both (is_new x.id.now xs) (are_apart xs) first.1 in
    (first.0, rest.0, rest.1)

all_fit : (options : List CommandOption) (args : List Arg) → AllZip IsArgument options args → are_apart options ≡ true → All FitsChain args
all_fit [] [] are apart = All-nil FitsChain
all_fit [] (y ∷ ys) are apart = absurd are
all_fit (x ∷ xs) [] are apart = absurd are
all_fit (x ∷ xs) (y ∷ ys) are apart = All-cons FitsChain y ys (fits x y are.0 (parts x xs apart).0) (all_fit xs ys are.1 (parts x xs apart).2)

-- an id that no option has is the id of no argument
other_id : (id : List ℕ) (options : List CommandOption) (args : List Arg) → AllZip IsArgument options args → is_new id options ≡ true
    → (k : ℕ) (d : Arg) → k < length args → id ≡ (slice_index_or args k d).id.now → ⊥
other_id id [] [] are new k d lt same = absurd (omega arith)
other_id id [] (y ∷ ys) are new k d lt same = absurd are
other_id id (x ∷ xs) [] are new k d lt same = absurd are
other_id id (x ∷ xs) (y ∷ ys) are new zero d lt same =
    let unlike = (both (not (bytes_eq id x.id.now)) (is_new id xs) new).0 in
    let like : bytes_eq id x.id.now ≡ true = (bytes_eq-Decides id x.id.now).1 (same ∙ are.0.plain.0) in
    let bad : false ≡ true = rw like at unlike in
    cc
other_id id (x ∷ xs) (y ∷ ys) are new (suc k) d lt same = other_id id xs ys are.1 (both (not (bytes_eq id x.id.now)) (is_new id xs) new).1 k d (omega arith) same

distinct : (options : List CommandOption) (args : List Arg) → AllZip IsArgument options args → are_apart options ≡ true → HasDistinctIds args
distinct [] [] are apart j k d e low high same = absurd (omega arith)
distinct [] (y ∷ ys) are apart j k d e low high same = absurd are
distinct (x ∷ xs) [] are apart j k d e low high same = absurd are
distinct (x ∷ xs) (y ∷ ys) are apart zero zero d e low high same = refl
distinct (x ∷ xs) (y ∷ ys) are apart zero (suc k) d e low high same =
    absurd (other_id x.id.now xs ys are.1 (parts x xs apart).1 k d (omega arith)
    (sym are.0.plain.0 ∙ (bytes_eq-Decides y.id.now (slice_index_or ys k d).id.now).0 same))
distinct (x ∷ xs) (y ∷ ys) are apart (suc j) zero d e low high same =
    absurd (other_id x.id.now xs ys are.1 (parts x xs apart).1 j e (omega arith)
    (sym ((bytes_eq-Decides (slice_index_or ys j e).id.now y.id.now).0 same ∙ are.0.plain.0)))
distinct (x ∷ xs) (y ∷ ys) are apart (suc j) (suc k) d e low high same =
    ap suc (distinct xs ys are.1 (parts x xs apart).2 j k d e (omega arith) (omega arith) same)

-- one more argument
pub argued-more : (options : List CommandOption) (args : List Arg) (n : ℕ) (d : CommandOption) (arg : Arg) → n < length options → AllZip IsArgument (take n options) args
    → IsArgument (get_or options n d) arg → AllZip IsArgument (take (n + 1) options) (args ++ arg ∷ [])
argued-more options args n d arg lt so_far is = rw (take_more options n d lt) (all_zipped_more IsArgument (take n options) args (get_or options n d) arg so_far is)

-- if each argument that takes a value has one, each required option has one
have_values : (found : Found) (options : List CommandOption) (args : List Arg) → AllZip IsArgument options args
    → ((k : ℕ) (d : Arg) → k < length args → TakesValue (slice_index_or args k d) → is_some (first_value found (slice_index_or args k d).id.now) ≡ true)
    → AllByRecursion (HasItsValue found) options
have_values found [] [] are values = tt
have_values found [] (y ∷ ys) are values = absurd are
have_values found (x ∷ xs) [] are values = absurd are
have_values found (x ∷ xs) (y ∷ ys) are values = (
  (λ needed. rw (← are.0.plain.0) (values 0 y (omega arith) (are.0.needed needed))),
  have_values found xs ys are.1 (λ k d lt takes. values (suc k) d (omega arith) takes),
)

-- if all options have arguments, each required option has a value
pub parsed_values : (start command : Command) (options : List CommandOption) (args : List Arg) (n : ℕ) (matches : ArgMatches) → length options ≤ n → AllZip IsArgument (take n options) args
    → IsNew start → are_apart options ≡ true → AddsInTurn AddsArg start args command → IsParsedFrom command matches → AllByRecursion (HasItsValue (found_of matches)) options
parsed_values start command options args n matches all so_far new apart adds parsed =
    let are : AllZip IsArgument options args = rw take_all at so_far in
    have_values (found_of matches) options args are (λ k d lt takes.
    required_in_chain start command args k d matches adds new.args new.groups new.globals new.negates (all_fit options args are apart) (distinct options args are apart) lt takes parsed)
