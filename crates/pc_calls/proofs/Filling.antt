-- Which parameters have a default or an argument by name, and which calls suit the parameters of a built-in.
use Rattle.std.proofs.Common.{◌≡◌, ◌<◌, ◌≤◌, ◌+◌, ◌≢◌, ℕ, zero, suc, List, [], ◌∷◌, ◌++◌, map, take, drop, length}
use Rattle.std.proofs.Common.{get_or, Bool as Test, true, false, Option, Some, None, refl, sym, ap, ◌∙◌, arith}
use Rattle.std.proofs.lemmas.List.{drop_all, drop-map, take-map}
use Rattle.pc_tree.proofs.Stops.{cons_at, more_at}
use Rattle.std.specs.Prelude.{◌||◌, ◌&&◌, not, if◌then◌else◌, bytes_eq, nat_le, nat_eq}
use Rattle.std.specs.Option.{option_map}
use Rattle.std.specs.List.{list_all}
use Rattle.std.specs.Borrow.{Bor}
use Rattle.std.proofs.lemmas.Slice.Eq.{bytes_eq-Decides}
use Rattle.pc_types.specs.Tree.{Tree}
use Rattle.pc_scope.specs.Resolution.{is_one_of, index_of}
use Rattle.pc_class.specs.declared.table.Parameter.{Parameter as RustParameter}
use Rattle.pc_class.specs.Listed.{names_listed, parameter_name}
use Rattle.pc_class.specs.Tables.{parameter_with}
use Rattle.pc_rules.specs.Calls.{GivenArguments, parameter_names, index_of_parameter, is_free, are_filled, is_suited}
use Rattle.pc_rules.specs.Calls.{unnamed_parameter, builtin_signature}
use Rattle.pc_calls.specs.JudgedCalls.{filled_listed, is_place, signature_listed}
use Rattle.pc_calls.proofs.NamesGiven.{SameNames, among_behind}
use Rattle.pc_calls.proofs.FirstNames.{listed_names, listed_position}

pub filled_same : {Ty : Type 0} (named b c : List (List ℕ)) → SameNames b c → (ps : List (RustParameter Ty))
    → filled_listed named b ps ≡ filled_listed named c ps
filled_same named b c s [] = refl
filled_same named b c s (p ∷ ps) =
    let t = parameter_name p in
    ap (λ x. (p.has_default || (is_one_of t named && not x)) && filled_listed named (t ∷ b) ps) (s t)
    ∙ ap (λ x. (p.has_default || (is_one_of t named && not (is_one_of t c))) && x)
    (filled_same named (t ∷ b) (t ∷ c) (λ u. ap (λ a. bytes_eq u t || a) (s u)) ps)

-- a parameter's name stands at its place where none before has it
pub first_there : {Ty : Type 0} (ps : List (RustParameter Ty)) (i : ℕ) (p : RustParameter Ty) → i < length ps
    → p ≡ get_or ps i p
    → is_place (index_of (parameter_name p) (names_listed ps)) i
    ≡ not (is_one_of (parameter_name p) (names_listed (take i ps)))
first_there [] i p less is = absurd (omega (arith, less))
first_there (q ∷ ps) zero p less is =
    rw (ap (λ (x : RustParameter _). bytes_eq (parameter_name p) (parameter_name x)) (sym is)
    ∙ (bytes_eq-Decides (parameter_name p) (parameter_name p)).1 refl) refl
first_there (q ∷ ps) (suc i) p less is =
    go (bytes_eq (parameter_name p) (parameter_name q)) (index_of (parameter_name p) (names_listed ps))
    (first_there ps i p (omega (arith, less)) is)
  where
    zero_no : nat_eq 0 (suc i) ≡ false
    zero_no = grind arith

    both_more : (j : ℕ) → nat_eq (suc j) (suc i) ≡ nat_eq j i
    both_more j = grind arith

    go : (b : Test) (o : Option ℕ) → is_place o i ≡ not (is_one_of (parameter_name p) (names_listed (take i ps)))
        → is_place (if b then Some 0 else option_map suc o) (suc i)
        ≡ not (b || is_one_of (parameter_name p) (names_listed (take i ps)))
    go true o e = zero_no
    go false None e = e
    go false (Some j) e = both_more j ∙ e

no_default : (ts : List Tree) (n : ℕ) (before : List (List ℕ)) → n < length ts
    → are_filled [] before (drop n (map unnamed_parameter ts)) ≡ false
no_default [] n before less = absurd (omega (arith, less))
no_default (t ∷ ts) zero before less = refl
no_default (t ∷ ts) (suc n) before less = no_default ts n before (omega (arith, less))

and_no : (a b : Test) → b ≡ false → (a && b) ≡ false
and_no true b e = e
and_no false b e = refl

le_of : (a b : ℕ) → nat_le a b ≡ true → a ≤ b
le_of a b e = grind (arith, e)

unfilled : (n : ℕ) (ts : List Tree) (before : List (List ℕ)) → n ≢ length ts
    → (nat_le n (length (map unnamed_parameter ts)) && are_filled [] before (drop n (map unnamed_parameter ts))) ≡ false
unfilled n ts before other = go (nat_le n (length (map unnamed_parameter ts))) refl
  where
    same_length : (us : List Tree) → length (map unnamed_parameter us) ≡ length us
    same_length [] = refl
    same_length (u ∷ us) = ap suc (same_length us)

    go : (b : Test) → nat_le n (length (map unnamed_parameter ts)) ≡ b
        → (b && are_filled [] before (drop n (map unnamed_parameter ts))) ≡ false
    go false e = refl
    go true e = let l = same_length ts in let le : n ≤ length (map unnamed_parameter ts) =
        le_of n (length (map unnamed_parameter ts)) e in no_default ts n before (omega (arith, le, l, other))

-- another number of arguments doesn't suit a built-in
pub unsuited : (g : GivenArguments) (ts : List Tree) (returns : Tree) → g.positional ≢ length ts
    → is_suited g (builtin_signature ts returns) ≡ false
unsuited g ts returns other = go g.named
  where
    go : (named : List (List ℕ)) → is_suited (let h : GivenArguments =
        record { positional = g.positional; named = named } in h) (builtin_signature ts returns) ≡ false
    go [] = unfilled g.positional ts (parameter_names (take g.positional (map unnamed_parameter ts))) other
    go (x ∷ xs) = and_no (nat_le g.positional (length (map unnamed_parameter ts))) false refl

-- one more parameter has a default or an argument by name, or none of both
pub filled_more : {Ty : Type 0} (named : List (List ℕ)) (ps : List (RustParameter Ty)) (i : ℕ) (p : RustParameter Ty)
    → i < length ps → p ≡ get_or ps i p
    → filled_listed named (names_listed (take i ps)) (drop i ps)
    ≡ ((p.has_default
    || (is_one_of (parameter_name p) named && is_place (index_of (parameter_name p) (names_listed ps)) i))
    && filled_listed named (names_listed (take (i + 1) ps)) (drop (i + 1) ps))
filled_more named ps i p less is =
    let t = parameter_name p in
    ap (filled_listed named (names_listed (take i ps))) (cons_at ps i p less is)
    ∙ ap (λ x. (p.has_default || (is_one_of t named && x)) && filled_listed named (t ∷ names_listed (take i ps))
    (drop (i + 1) ps)) (sym (first_there ps i p less is))
    ∙ ap (λ x. (p.has_default || (is_one_of t named && is_place (index_of t (names_listed ps)) i)) && x)
    (sym (filled_same named (names_listed (take i ps) ++ t ∷ []) (t ∷ names_listed (take i ps))
    (among_behind t (names_listed (take i ps))) (drop (i + 1) ps))
    ∙ ap (λ (l : List (List ℕ)). filled_listed named l (drop (i + 1) ps)) (sym (more_at parameter_name ps i p less is)))

pub filled_last : {Ty : Type 0} (named : List (List ℕ)) (ps : List (RustParameter Ty)) (i : ℕ) (before : List (List ℕ))
    → length ps ≤ i → filled_listed named before (drop i ps) ≡ true
filled_last named ps i before h = ap (filled_listed named before) (drop_all i ps h)

pub filled_meant : {Ty : Type 0} (tree : Ty → Tree) (named before : List (List ℕ)) (ps : List (RustParameter Ty))
    → are_filled named before (map (parameter_with tree) ps) ≡ filled_listed named before ps
filled_meant tree named before [] = refl
filled_meant tree named before (p ∷ ps) =
    ap (λ x. (p.has_default || (is_one_of (parameter_name p) named && not (is_one_of (parameter_name p) before))) && x)
    (filled_meant tree named (parameter_name p ∷ before) ps)

-- of each name the parameter is free, by the names of parameters
pub free_meant : {Ty : Type 0} (tree : Ty → Tree) (k : ℕ) (ps : List (RustParameter Ty)) (ns : List (List ℕ))
    → list_all (λ word. is_free k (index_of_parameter (map (parameter_with tree) ps) word)) ns
    ≡ list_all (λ word. is_free k (index_of word (names_listed ps))) ns
free_meant tree k ps [] = refl
free_meant tree k ps (n ∷ ns) =
    ap (λ o. is_free k o && list_all (λ word. is_free k (index_of_parameter (map (parameter_with tree) ps) word)) ns)
    (listed_position tree ps n)
    ∙ ap (λ x. is_free k (index_of n (names_listed ps)) && x) (free_meant tree k ps ns)

-- one more name
pub free_more : (test : List ℕ → Test) (ks : List (Bor (List ℕ))) (i : ℕ) (k : Bor (List ℕ)) → i < length ks
    → k ≡ get_or ks i k → list_all test (map (λ x. x.now) (drop i ks))
    ≡ (test k.now && list_all test (map (λ x. x.now) (drop (i + 1) ks)))
free_more test ks i k less is = ap (λ (l : List (Bor (List ℕ))). list_all test (map (λ x. x.now) l))
    (cons_at ks i k less is)

listed_length : {Ty : Type 0} (tree : Ty → Tree) (ps : List (RustParameter Ty))
    → length (map (parameter_with tree) ps) ≡ length ps
listed_length tree [] = refl
listed_length tree (p ∷ ps) = ap suc (listed_length tree ps)

-- the arguments suit a list of parameters if there are not too many, no name is filled twice, and all are filled
pub suited_listed : {Ty : Type 0} (tree : Ty → Tree) (returns : Tree) (g : GivenArguments)
    (ps : List (RustParameter Ty)) → is_suited g (signature_listed tree returns ps) ≡ (nat_le g.positional (length ps)
    && (list_all (λ word. is_free g.positional (index_of word (names_listed ps))) g.named && filled_listed g.named
    (names_listed (take g.positional ps)) (drop g.positional ps)))
suited_listed tree returns g ps =
    let k = g.positional in
    let qs = map (parameter_with tree) ps in
    ap (λ n. nat_le k n && (list_all (λ word. is_free k (index_of_parameter qs word)) g.named && are_filled g.named
    (parameter_names (take k qs)) (drop k qs))) (listed_length tree ps)
    ∙ ap (λ x. nat_le k (length ps) && (x && are_filled g.named (parameter_names (take k qs)) (drop k qs)))
    (free_meant tree k ps g.named)
    ∙ ap (λ (l : List (List ℕ)). nat_le k (length ps) && (list_all (λ word. is_free k (index_of word (names_listed ps)))
    g.named && are_filled g.named l (drop k qs))) (ap parameter_names (take-map (parameter_with tree) k ps)
    ∙ listed_names tree (take k ps))
    ∙ ap (λ x. nat_le k (length ps) && (list_all (λ word. is_free k (index_of word (names_listed ps))) g.named && x))
    (ap (are_filled g.named (names_listed (take k ps))) (drop-map (parameter_with tree) k ps)
    ∙ filled_meant tree g.named (names_listed (take k ps)) (drop k ps))

pub suited_then : {Ty : Type 0} (tree : Ty → Tree) (returns : Tree) (g : GivenArguments) (ps : List (RustParameter Ty))
    → g.positional ≤ length ps → list_all (λ word. is_free g.positional (index_of word (names_listed ps))) g.named
    ≡ true
    → is_suited g (signature_listed tree returns ps) ≡ filled_listed g.named (names_listed (take g.positional ps))
    (drop g.positional ps)
suited_then tree returns g ps less free =
    let few : nat_le g.positional (length ps) ≡ true = grind (arith, less) in
    suited_listed tree returns g ps ∙ rw (few, free) refl

pub suited_else : {Ty : Type 0} (tree : Ty → Tree) (returns : Tree) (g : GivenArguments) (ps : List (RustParameter Ty))
    → list_all (λ word. is_free g.positional (index_of word (names_listed ps))) g.named ≡ false
    → is_suited g (signature_listed tree returns ps) ≡ false
suited_else tree returns g ps other = suited_listed tree returns g ps
    ∙ rw other (and_no (nat_le g.positional (length ps)) false refl)
