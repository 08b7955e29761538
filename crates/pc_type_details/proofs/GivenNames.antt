-- The positions of names among parameters, and the parameters that are left without an argument.
use Rattle.std.proofs.Common.{◌≡◌, ◌∙◌, ◌<◌, ◌≤◌, ◌+◌, ◌++◌, ℕ, zero, suc, List, [], ◌∷◌, Bor, Bool as Test, true}
use Rattle.std.proofs.Common.{false}
use Rattle.std.proofs.Common.{Option, Some, None, refl, sym, ap, map, take, drop, length, arith, add-one}
use Rattle.std.proofs.Common.{cond, get_or}
use Rattle.std.proofs.lemmas.Bool.{false≢true, true≢false}
use Rattle.std.proofs.lemmas.List.{drop_all, drop_more}
use Rattle.std.proofs.lemmas.Slice.Eq.{bytes_eq-Decides}
use Rattle.std.specs.Prelude.{◌||◌, ◌&&◌, not, if◌then◌else◌, bytes_eq, is_some, nat_eq, nat_le, slice_get}
use Rattle.std.specs.BTreeMap.{BTreeMap}
use Rattle.std.specs.Map.{update}
use Rattle.std.specs.Option.{option_map}
use Rattle.pc_tree.specs.Stopping.{has_none}
use Rattle.pc_scope.specs.Resolution.{index_of, is_one_of}
use Rattle.pc_types.specs.declared.boxed.BoxType.{BoxType}
use Rattle.pc_class.specs.Facts.{TypedParameter}
use Rattle.pc_rules.specs.Calls.{GivenArguments, is_free, parameter_names}
use Rattle.pc_rules.specs.Context.{Signature}
use Rattle.pc_calls.specs.JudgedCalls.{is_place}
use Rattle.pc_calls.proofs.FirstNames.{position_index}
use Rattle.pc_calls.proofs.NamesGiven.{SameNames, among_behind}
use Rattle.pc_detail_texts.specs.Details.{Misfit, by_position_only, given_twice, no_parameter, too_many}
use Rattle.pc_detail_texts.specs.Mapped.{short_misfit}
use Rattle.pc_detail_texts.specs.Shown.{misfit_of_value}
use Rattle.pc_detail_texts.specs.declared.details.Misfit.{Misfit as RustMisfit}
use Rattle.pc_detail_facts.specs.Callees.{called_of, default_in, name_of_parameter, parameters_in, takes_names_in}
use Rattle.pc_detail_rules.specs.Calls.{called_misfit, misfit_or, missing_misfit, named_misfit, unfilled}
use Rattle.pc_type_details.specs.Given.{HasPositions, misfit_of_name, position_held, signed_misfit}
use Rattle.pc_detail_facts.specs.declared.called.CallTarget.{CallTarget}
use Rattle.pc_detail_facts.specs.declared.called.CallTarget.TheVariants as called
use Rattle.pc_detail_facts.specs.declared.facts.Facts.{Facts}

-- ---- positions

-- the first position if there is one, else the second
abbrev or_later : Option ℕ → Option ℕ → Option ℕ
or_later (Some i) o = Some i
or_later None o = o

or_none : (o : Option ℕ) → or_later o None ≡ o
or_none None = refl
or_none (Some i) = refl

or_some : (o x : Option ℕ) → is_some o ≡ true → or_later o x ≡ o
or_some None x h = absurd (false≢true h)
or_some (Some i) x h = refl

no_value : (o : Option ℕ) → is_some o ≡ false → o ≡ None
no_value None h = refl
no_value (Some i) h = absurd (true≢false h)

-- a name is at its place among names, or behind them
index_behind : (word t : List ℕ) (names : List (List ℕ)) → index_of word (names ++ t ∷ [])
    ≡ or_later (index_of word names) (if bytes_eq word t then Some (length names) else None)
index_behind word t [] = go (bytes_eq word t)
  where
    go : (b : Test) → (if b then Some 0 else option_map suc None) ≡ or_later None (if b then Some 0 else None)
    go true = refl
    go false = refl
index_behind word t (n ∷ names) = go (bytes_eq word n) (bytes_eq word t) (index_of word names)
    (index_behind word t names)
  where
    go : (b c : Test) (o : Option ℕ)
        → index_of word (names ++ t ∷ []) ≡ or_later o (if c then Some (length names) else None)
        → (if b then Some 0 else option_map suc (index_of word (names ++ t ∷ [])))
        ≡ or_later (if b then Some 0 else option_map suc o) (if c then Some (suc (length names)) else None)
    go true c o e = refl
    go false true None e = ap (option_map suc) e
    go false false None e = ap (option_map suc) e
    go false c (Some i) e = ap (option_map suc) e

-- a name that is put behind its like changes no position
pub kept_position : (names : List (List ℕ)) (m : BTreeMap (Bor (List ℕ)) ℕ) (t : List ℕ) → HasPositions names m
    → is_some (position_held m t) ≡ true → HasPositions (names ++ t ∷ []) m
kept_position names m t h found = record {
  at = λ word. h.at word ∙ sym (index_behind word t names ∙ go word (bytes_eq word t) refl);
}
  where
    go : (word : List ℕ) (b : Test) → bytes_eq word t ≡ b
        → or_later (index_of word names) (if b then Some (length names) else None) ≡ index_of word names
    go word true e = or_some (index_of word names) _ (ap (λ w. is_some (index_of w names))
        ((bytes_eq-Decides word t).0 e) ∙ ap is_some (sym (h.at t)) ∙ found)
    go word false e = or_none (index_of word names)

-- a name that is put into a map has the next position
pub put_position : (names : List (List ℕ)) (old new : BTreeMap (Bor (List ℕ)) ℕ) (t : List ℕ) (i : ℕ)
    → HasPositions names old
    → is_some (position_held old t) ≡ false → i ≡ length names
    → ((word : List ℕ) → position_held new word ≡ update bytes_eq (position_held old) t (Some i) word)
    → HasPositions (names ++ t ∷ []) new
put_position names old new t i h missed is put = record {
  at = λ word. put word ∙ go word (bytes_eq t word) (bytes_eq word t) refl refl ∙ sym (index_behind word t names);
}
  where
    go : (word : List ℕ) (b c : Test) → bytes_eq t word ≡ b → bytes_eq word t ≡ c
        → cond b (Some i) (position_held old word)
        ≡ or_later (index_of word names) (if c then Some (length names) else None)
    go word true true e f = ap Some is ∙ ap (λ o. or_later o (Some (length names)))
        (sym (ap (λ w. index_of w names) ((bytes_eq-Decides word t).0 f)
        ∙ no_value (index_of t names) (ap is_some (sym (h.at t)) ∙ missed)))
    go word false false e f = h.at word ∙ sym (or_none (index_of word names))
    go word true false e f = absurd (true≢false
        (sym ((bytes_eq-Decides word t).1 (sym ((bytes_eq-Decides t word).0 e))) ∙ f))
    go word false true e f = absurd (true≢false
        (sym ((bytes_eq-Decides t word).1 (sym ((bytes_eq-Decides word t).0 f))) ∙ e))

-- an empty map has none
pub no_positions : (m : BTreeMap (Bor (List ℕ)) ℕ) → ((word : List ℕ) → position_held m word ≡ None) → HasPositions [] m
no_positions m h = record { at = h }

-- ---- parameters

-- the names of one parameter more
more_in : (ps : List TypedParameter) (i : ℕ) → i < length ps
    → parameter_names (take (suc i) ps) ≡ parameter_names (take i ps) ++ name_of_parameter (slice_get ps i) ∷ []
more_in [] i h = absurd (omega arith)
more_in (p ∷ ps) zero h = refl
more_in (p ∷ ps) (suc i) h = ap (λ (l : List (List ℕ)). p.name ∷ l) (more_in ps i (omega arith))

pub names_more : (ps : List TypedParameter) (i : ℕ) → i < length ps
    → parameter_names (take (i + 1) ps) ≡ parameter_names (take i ps) ++ name_of_parameter (slice_get ps i) ∷ []
names_more ps i h = rw add-one (more_in ps i h)

-- as many as are taken
pub names_taken : (ps : List TypedParameter) (i : ℕ) → i ≤ length ps → i ≡ length (parameter_names (take i ps))
names_taken [] zero h = refl
names_taken [] (suc i) h = absurd (omega arith)
names_taken (p ∷ ps) zero h = refl
names_taken (p ∷ ps) (suc i) h = ap suc (names_taken ps i (omega arith))

-- all names
pub names_all : (ps : List TypedParameter) (i : ℕ) → length ps ≤ i → parameter_names (take i ps) ≡ parameter_names ps
names_all [] zero h = refl
names_all [] (suc i) h = refl
names_all (p ∷ ps) zero h = absurd (omega arith)
names_all (p ∷ ps) (suc i) h = ap (λ (l : List (List ℕ)). p.name ∷ l) (names_all ps i (omega arith))

-- ---- arguments by name

-- the misfit of the first argument by name, or of those after it
pub named_next : (n : ℕ) (ps : List TypedParameter) (o : Option ℕ) (word : List ℕ) (rest : List (List ℕ))
    → o ≡ index_of word (parameter_names ps)
    → named_misfit n ps (word ∷ rest) ≡ misfit_or (misfit_of_name n o word) (named_misfit n ps rest)
named_next n ps o word rest e =
    ap (λ x. if is_free n x then named_misfit n ps rest
    else (if is_some x then Some (given_twice word) else Some (no_parameter word))) (position_index ps word ∙ sym e)
    ∙ go (is_free n o) (is_some o)
  where
    go : (a b : Test) → (if a then named_misfit n ps rest
        else (if b then Some (given_twice word) else Some (no_parameter word)))
        ≡ misfit_or (if a then None else (if b then Some (given_twice word) else Some (no_parameter word)))
        (named_misfit n ps rest)
    go true b = refl
    go false true = refl
    go false false = refl

-- ---- parameters without an argument

unfilled_same : (named b c : List (List ℕ)) → SameNames b c → (ps : List TypedParameter)
    → unfilled named b ps ≡ unfilled named c ps
unfilled_same named b c s [] = refl
unfilled_same named b c s (p ∷ ps) =
    ap (λ x. (if p.has_default || (is_one_of p.name named && not x) then [] else p.name ∷ [])
    ++ unfilled named (p.name ∷ b) ps) (s p.name)
    ∙ ap (λ (l : List (List ℕ)). (if p.has_default || (is_one_of p.name named && not (is_one_of p.name c))
    then [] else p.name ∷ []) ++ l)
    (unfilled_same named (p.name ∷ b) (p.name ∷ c) (λ u. ap (λ a. bytes_eq u p.name || a) (s u)) ps)

-- a parameter's name stands at its place where none before has it
first_there : (ps : List TypedParameter) (i : ℕ) → i < length ps
    → is_place (index_of (name_of_parameter (slice_get ps i)) (parameter_names ps)) i
    ≡ not (is_one_of (name_of_parameter (slice_get ps i)) (parameter_names (take i ps)))
first_there [] i less = absurd (omega arith)
first_there (q ∷ ps) zero less = rw ((bytes_eq-Decides q.name q.name).1 refl) refl
first_there (q ∷ ps) (suc i) less =
    go (bytes_eq (name_of_parameter (slice_get ps i)) q.name)
    (index_of (name_of_parameter (slice_get ps i)) (parameter_names ps))
    (first_there ps i (omega arith))
  where
    zero_no : nat_eq 0 (suc i) ≡ false
    zero_no = grind arith

    both_more : (j : ℕ) → nat_eq (suc j) (suc i) ≡ nat_eq j i
    both_more j = grind arith

    go : (b : Test) (o : Option ℕ)
        → is_place o i ≡ not (is_one_of (name_of_parameter (slice_get ps i)) (parameter_names (take i ps)))
        → is_place (if b then Some 0 else option_map suc o) (suc i)
        ≡ not (b || is_one_of (name_of_parameter (slice_get ps i)) (parameter_names (take i ps)))
    go true o e = zero_no
    go false None e = e
    go false (Some j) e = both_more j ∙ e

drop_step : (ps : List TypedParameter) (i : ℕ) → i < length ps → (named before : List (List ℕ))
    → unfilled named before (drop i ps)
    ≡ (if default_in (slice_get ps i) || (is_one_of (name_of_parameter (slice_get ps i)) named
    && not (is_one_of (name_of_parameter (slice_get ps i)) before))
    then [] else name_of_parameter (slice_get ps i) ∷ [])
    ++ unfilled named (name_of_parameter (slice_get ps i) ∷ before) (drop (suc i) ps)
drop_step [] i less named before = absurd (omega arith)
drop_step (p ∷ ps) zero less named before = refl
drop_step (p ∷ ps) (suc i) less named before = drop_step ps i (omega arith) named before

-- the names that one more parameter leaves out
pub unfilled_next : (ps : List TypedParameter) (i : ℕ) → i < length ps → (named : List (List ℕ))
    → unfilled named (parameter_names (take i ps)) (drop i ps)
    ≡ (if not (default_in (slice_get ps i) || (is_one_of (name_of_parameter (slice_get ps i)) named
    && is_place (index_of (name_of_parameter (slice_get ps i)) (parameter_names ps)) i))
    then name_of_parameter (slice_get ps i) ∷ [] else [])
    ++ unfilled named (parameter_names (take (i + 1) ps)) (drop (i + 1) ps)
unfilled_next ps i less named =
    let t = name_of_parameter (slice_get ps i) in
    let before = parameter_names (take i ps) in
    drop_step ps i less named before
    ∙ ap (λ x. (if default_in (slice_get ps i) || (is_one_of t named && x) then [] else t ∷ [])
    ++ unfilled named (t ∷ before) (drop (suc i) ps)) (sym (first_there ps i less))
    ∙ ap (λ (l : List (List ℕ)). l ++ unfilled named (t ∷ before) (drop (suc i) ps))
    (turned (default_in (slice_get ps i) || (is_one_of t named && is_place (index_of t (parameter_names ps)) i)) t)
    ∙ ap (λ (l : List (List ℕ)). (if not (default_in (slice_get ps i) || (is_one_of t named
    && is_place (index_of t (parameter_names ps)) i)) then t ∷ [] else []) ++ l)
    (sym (unfilled_same named (before ++ t ∷ []) (t ∷ before) (among_behind t before) (drop (suc i) ps))
    ∙ ap (λ (l : List (List ℕ)). unfilled named l (drop (suc i) ps)) (sym (more_in ps i less))
    ∙ later)
  where
    turned : (b : Test) (t : List ℕ) → (if b then [] else t ∷ []) ≡ (if not b then t ∷ [] else [])
    turned true t = refl
    turned false t = refl

    later : unfilled named (parameter_names (take (suc i) ps)) (drop (suc i) ps)
        ≡ unfilled named (parameter_names (take (i + 1) ps)) (drop (i + 1) ps)
    later = let e : suc i ≡ i + 1 = omega arith in ap (λ k. unfilled named (parameter_names (take k ps)) (drop k ps)) e

-- a parameter is left where it has neither a default nor an argument at its place
pub left_named : (r d m p : Test) → d ≡ false → m ≡ true → r ≡ p → not r ≡ not (d || (m && p))
left_named r d m p e f g = rw (e, f, g) refl

pub left_unnamed : (r d m p : Test) → d ≡ false → m ≡ false → r ≡ false → not r ≡ not (d || (m && p))
left_unnamed r d m p e f g = rw (e, f, g) refl

-- no parameter is left
pub unfilled_ended : (ps : List TypedParameter) (i : ℕ) → length ps ≤ i → (named before : List (List ℕ))
    → unfilled named before (drop i ps) ≡ []
unfilled_ended ps i h named before = ap (unfilled named before) (drop_all i ps h)

-- a misfit that is found here is the first
pub misfit_here : (made : Option RustMisfit) → is_some made ≡ true → (want rest : Option Misfit)
    → option_map misfit_of_value made ≡ option_map short_misfit want
    → option_map misfit_of_value made ≡ option_map short_misfit (misfit_or want rest)
misfit_here None h want rest e = absurd (false≢true h)
misfit_here (Some x) h None rest e = let never : ⊥ = cc in absurd never
misfit_here (Some x) h (Some w) rest e = e

-- where none is found here, the first is a later one
pub no_misfit_here : (made : Option RustMisfit) → is_some made ≡ false → (want rest : Option Misfit)
    → option_map misfit_of_value made ≡ option_map short_misfit want → misfit_or want rest ≡ rest
no_misfit_here None h None rest e = refl
no_misfit_here None h (Some w) rest e = let never : ⊥ = cc in absurd never
no_misfit_here (Some x) h want rest e = absurd (true≢false h)

-- no argument by name is left
pub named_ended : (n : ℕ) (ps : List TypedParameter) (words : List (Bor (List ℕ))) (i : ℕ) → length words ≤ i
    → named_misfit n ps (map (λ k. k.now) (drop i words)) ≡ None
named_ended n ps words i h =
    ap (λ (l : List (Bor (List ℕ))). named_misfit n ps (map (λ k. k.now) l)) (drop_all i words h)

-- one argument by name, of those that are left
module _ (n : ℕ) (ps : List TypedParameter) (words : List (Bor (List ℕ))) (i : ℕ) (d : Bor (List ℕ))
    (less : i < length words) (o : Option ℕ) (there : o ≡ index_of (get_or words i d).now (parameter_names ps))
    (made : Option RustMisfit) (is : option_map misfit_of_value made ≡ option_map short_misfit (misfit_of_name n o (get_or words i d).now)) where
  next_named : named_misfit n ps (map (λ k. k.now) (drop i words))
      ≡ misfit_or (misfit_of_name n o (get_or words i d).now)
      (named_misfit n ps (map (λ k. k.now) (drop (i + 1) words)))
  next_named = ap (λ (l : List (Bor (List ℕ))). named_misfit n ps (map (λ k. k.now) l)) (drop_more words i d less)
      ∙ named_next n ps o (get_or words i d).now (map (λ k. k.now) (drop (i + 1) words)) there

  -- it has a parameter
  pub name_fits : is_some made ≡ false → named_misfit n ps (map (λ k. k.now) (drop (i + 1) words))
      ≡ named_misfit n ps (map (λ k. k.now) (drop i words))
  name_fits h = sym (next_named ∙ no_misfit_here made h (misfit_of_name n o (get_or words i d).now)
      (named_misfit n ps (map (λ k. k.now) (drop (i + 1) words))) is)

  -- it has none
  pub name_misfits : is_some made ≡ true → option_map misfit_of_value made
      ≡ option_map short_misfit (named_misfit n ps (map (λ k. k.now) (drop i words)))
  name_misfits h = misfit_here made h (misfit_of_name n o (get_or words i d).now)
      (named_misfit n ps (map (λ k. k.now) (drop (i + 1) words))) is ∙ ap (option_map short_misfit) (sym next_named)

-- ---- the first misfit

-- too many arguments by position
pub too_many_given : (g : GivenArguments) (s : Option Signature) → length (parameters_in s) < g.positional
    → Some (too_many (length (parameters_in s)) g.positional) ≡ option_map short_misfit (signed_misfit g s)
too_many_given g s h =
    let over : nat_le g.positional (length (parameters_in s)) ≡ false = grind (arith, h) in rw over refl

-- arguments by name that are not taken
pub names_given : (g : GivenArguments) (s : Option Signature) → g.positional ≤ length (parameters_in s)
    → (takes_names_in s || has_none g.named) ≡ false
    → Some by_position_only ≡ option_map short_misfit (signed_misfit g s)
names_given g s h taken = let within : nat_le g.positional (length (parameters_in s)) ≡ true = grind (arith, h) in
    rw (within, taken) refl

-- else an argument by name that no free parameter takes, or a parameter without an argument
pub other_misfit : (g : GivenArguments) (s : Option Signature) → g.positional ≤ length (parameters_in s)
    → (takes_names_in s || has_none g.named) ≡ true
    → signed_misfit g s ≡ misfit_or (named_misfit g.positional (parameters_in s) g.named)
    (missing_misfit (takes_names_in s) (length (parameters_in s)) g.positional
    (unfilled g.named (parameter_names (take g.positional (parameters_in s))) (drop g.positional (parameters_in s))))
other_misfit g s h fits = let within : nat_le g.positional (length (parameters_in s)) ≡ true = grind (arith, h) in
    rw (within, fits) refl

module _ (g : GivenArguments) (s : Option Signature) (fits : g.positional ≤ length (parameters_in s))
    (taken : (takes_names_in s || has_none g.named) ≡ true) (made : Option RustMisfit)
    (named : option_map misfit_of_value made
    ≡ option_map short_misfit (named_misfit g.positional (parameters_in s) g.named)) where
  -- an argument by name that no free parameter takes
  pub name_is_misfit : is_some made ≡ true
      → option_map misfit_of_value made ≡ option_map short_misfit (signed_misfit g s)
  name_is_misfit found = misfit_here made found (named_misfit g.positional (parameters_in s) g.named) _ named
      ∙ ap (option_map short_misfit) (sym (other_misfit g s fits taken))

  -- a parameter without an argument, where each argument by name has one
  pub missing_is_misfit : (takes_names : Test) (takes : ℕ) (names : List (List ℕ)) → is_some made ≡ false
      → takes_names ≡ takes_names_in s → takes ≡ length (parameters_in s)
      → names ≡ unfilled g.named (parameter_names (take g.positional (parameters_in s)))
      (drop g.positional (parameters_in s))
      → missing_misfit takes_names takes g.positional names ≡ signed_misfit g s
  missing_is_misfit takes_names takes names none same count left =
      ap (λ (b : Test). missing_misfit b takes g.positional names) same
      ∙ ap (λ (n : ℕ). missing_misfit (takes_names_in s) n g.positional names) count
      ∙ ap (missing_misfit (takes_names_in s) (length (parameters_in s)) g.positional) left
      ∙ sym (no_misfit_here made none (named_misfit g.positional (parameters_in s) g.named) _ named)
      ∙ sym (other_misfit g s fits taken)

-- what is called has a signature unless it is a value
pub signed_called : (f : Facts) (c : CallTarget) (g : GivenArguments) → ((t : Bor BoxType) → c ≡ called.Value t → ⊥)
    → signed_misfit g (called_of f c).signature ≡ called_misfit g (called_of f c)
signed_called f (called.Function def) g h = refl
signed_called f (called.Class c) g h = refl
signed_called f (called.Method x) g h = refl
signed_called f (called.Builtin word count is_int) g h = refl
signed_called f (called.Member object word argument) g h = refl
signed_called f (called.Value t) g h = absurd (h t refl)
