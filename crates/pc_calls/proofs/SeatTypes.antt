-- The types that an argument flows into, by the number of the parameter that it is for.
use Rattle.std.proofs.Common.{◌≡◌, ◌<◌, ◌≤◌, ◌+◌, ℕ, zero, suc, List, [], ◌∷◌, ◌++◌, map, drop, length, get_or}
use Rattle.std.proofs.Common.{Bool as Test, true, false, Option, Some, None, refl, sym, ap, ◌∙◌, append_assoc}
use Rattle.std.proofs.Common.{append-nil}
use Rattle.std.specs.Prelude.{All, if◌then◌else◌, cond, flat_map, bytes_eq, slice_get, option_to_list}
use Rattle.std.specs.Option.{option_map}
use Rattle.std.proofs.lemmas.Option.{slice_get_past, slice_get_read}
use Rattle.std.proofs.lemmas.List.{drop_all}
use Rattle.std.proofs.lemmas.List.Elements.{All-nil, All-append, All-push}
use Rattle.pc_tree.proofs.Stops.{cons_at}
use Rattle.pc_types.specs.Tree.{Tree}
use Rattle.pc_scope.specs.Resolution.{index_of}
use Rattle.pc_class.specs.declared.table.Parameter.{Parameter as RustParameter}
use Rattle.pc_class.specs.Listed.{names_listed}
use Rattle.pc_class.specs.Tables.{parameter_with}
use Rattle.pc_class.specs.Facts.{TypedParameter, field_by_name}
use Rattle.pc_calls.specs.declared.seats.Argument.{Argument}
use Rattle.pc_calls.specs.declared.seats.Argument.TheVariants as argument
use Rattle.pc_rules.specs.Calls.{CallOffer, all_codes, parameter_type, unnamed_parameter, parameter_names, builtin_signature}
use Rattle.pc_rules.specs.Context.{Signature}
use Rattle.pc_rules.specs.Operations.{has_error}
use Rattle.pc_rules.specs.Computed.Standing.{HasIfAny}
use Rattle.pc_calls.specs.declared.call_offers.CallOffer.{CallOffer as RustCallOffer}
use Rattle.pc_calls.specs.JudgedCalls.{number_for, builtin_number, types_at, signature_listed}
use Rattle.pc_calls.specs.JudgedCalls.{offer_called, seat_of}
use Rattle.pc_calls.proofs.FirstNames.{listed_names}

-- the type of the parameter of a number
abbrev pub type_of_number : List TypedParameter → Option ℕ → List Tree
type_of_number ps None = []
type_of_number ps (Some k) = parameter_type (slice_get ps k)

field_number : (ps : List TypedParameter) (word : List ℕ) → parameter_type (field_by_name ps word) ≡ type_of_number ps
    (index_of word (parameter_names ps))
field_number [] word = refl
field_number (p ∷ ps) word = go (bytes_eq word p.name) (index_of word (parameter_names ps)) (field_number ps word)
  where
    go : (b : Test) (o : Option ℕ) → parameter_type (field_by_name ps word) ≡ type_of_number ps o
        → parameter_type (cond b (Some p) (field_by_name ps word)) ≡ type_of_number (p ∷ ps)
        (if b then Some 0 else option_map suc o)
    go true o e = refl
    go false None e = e
    go false (Some k) e = e

module _ {Ty : Type 0} (tree : Ty → Tree) where
  types_number : (a : Argument) (returns : Tree) (ps : List (RustParameter Ty))
      → types_at a (signature_listed tree returns ps)
      ≡ type_of_number (map (parameter_with tree) ps) (number_for a (names_listed ps))
  types_number (argument.Position k) returns ps = refl
  types_number (argument.Name word) returns ps = field_number (map (parameter_with tree) ps) word.now
      ∙ ap (λ l. type_of_number (map (parameter_with tree) ps) (index_of word.now l)) (listed_names tree ps)

  mapped : (ps : List (RustParameter Ty)) (k : ℕ) → slice_get (map (parameter_with tree) ps) k
      ≡ option_map (parameter_with tree) (slice_get ps k)
  mapped [] k = refl
  mapped (p ∷ ps) zero = refl
  mapped (p ∷ ps) (suc k) = mapped ps k

  pub param_none : (a : Argument) (ps : List (RustParameter Ty)) → number_for a (names_listed ps) ≡ None
      → (returns : Tree) → [] ≡ types_at a (signature_listed tree returns ps)
  param_none a ps e returns = sym (types_number a returns ps ∙ ap (type_of_number (map (parameter_with tree) ps)) e)

  -- at a place with a parameter, or with none
  types_there : (a : Argument) (ps : List (RustParameter Ty)) (k : ℕ) (o : Option (RustParameter Ty))
      → number_for a (names_listed ps) ≡ Some k → slice_get ps k ≡ o → (returns : Tree)
      → types_at a (signature_listed tree returns ps) ≡ parameter_type (option_map (parameter_with tree) o)
  types_there a ps k o e is returns = types_number a returns ps ∙ ap (type_of_number (map (parameter_with tree) ps)) e
      ∙ ap parameter_type (mapped ps k ∙ ap (option_map (parameter_with tree)) is)

  pub param_past : (a : Argument) (ps : List (RustParameter Ty)) (k : ℕ) → number_for a (names_listed ps) ≡ Some k
      → slice_get ps k ≡ None → (returns : Tree) → [] ≡ types_at a (signature_listed tree returns ps)
  param_past a ps k e is returns = sym (types_there a ps k None e is returns)

  pub param_there : (a : Argument) (ps : List (RustParameter Ty)) (k : ℕ) (p : RustParameter Ty) (t : Tree)
      → number_for a (names_listed ps) ≡ Some k → slice_get ps k ≡ Some p → t ≡ tree p.ty → (returns : Tree)
      → t ∷ [] ≡ types_at a (signature_listed tree returns ps)
  param_there a ps k p t e is same returns = ap (λ (u : Tree). u ∷ []) same
      ∙ sym (types_there a ps k (Some p) e is returns)

-- of a built-in
unnamed_first : (ts : List Tree) (word : List ℕ) → parameter_type (field_by_name (map unnamed_parameter ts) word)
    ≡ type_of_number (map unnamed_parameter ts) (if bytes_eq word [] then Some 0 else None)
unnamed_first [] word = go (bytes_eq word [])
  where
    go : (b : Test) → [] ≡ type_of_number [] (if b then Some 0 else None)
    go true = refl
    go false = refl
unnamed_first (t ∷ ts) word = go (bytes_eq word []) (unnamed_first ts word)
  where
    go : (b : Test) → parameter_type (field_by_name (map unnamed_parameter ts) word) ≡ type_of_number
        (map unnamed_parameter ts) (if b then Some 0 else None) → parameter_type
        (cond b (Some (unnamed_parameter t)) (field_by_name (map unnamed_parameter ts) word)) ≡ type_of_number
        (map unnamed_parameter (t ∷ ts)) (if b then Some 0 else None)
    go true e = refl
    go false e = e

builtin_types : (a : Argument) (returns : Tree) (ts : List Tree) → types_at a (builtin_signature ts returns)
    ≡ type_of_number (map unnamed_parameter ts) (builtin_number a)
builtin_types (argument.Position k) returns ts = refl
builtin_types (argument.Name word) returns ts = unnamed_first ts word.now

module _ {Ty : Type 0} (tree : Ty → Tree) where
  unnamed_get : (ts : List Ty) (k : ℕ) → slice_get (map unnamed_parameter (map tree ts)) k
      ≡ option_map (λ t. unnamed_parameter (tree t)) (slice_get ts k)
  unnamed_get [] k = refl
  unnamed_get (t ∷ ts) zero = refl
  unnamed_get (t ∷ ts) (suc k) = unnamed_get ts k

  pub builtin_none : (a : Argument) (ts : List Ty) → builtin_number a ≡ None → (returns : Tree)
      → [] ≡ types_at a (builtin_signature (map tree ts) returns)
  builtin_none a ts e returns = sym (builtin_types a returns (map tree ts)
      ∙ ap (type_of_number (map unnamed_parameter (map tree ts))) e)

  pub builtin_past : (a : Argument) (ts : List Ty) (k : ℕ) → builtin_number a ≡ Some k → length ts ≤ k
      → (returns : Tree) → [] ≡ types_at a (builtin_signature (map tree ts) returns)
  builtin_past a ts k e h returns = sym (builtin_types a returns (map tree ts)
      ∙ ap (type_of_number (map unnamed_parameter (map tree ts))) e
      ∙ ap parameter_type (unnamed_get ts k ∙ ap (option_map (λ t. unnamed_parameter (tree t))) (slice_get_past ts k h)))

  pub builtin_there : (a : Argument) (ts : List Ty) (k : ℕ) (x : Ty) (t : Tree) → builtin_number a ≡ Some k
      → k < length ts → x ≡ get_or ts k x → t ≡ tree x → (returns : Tree)
      → t ∷ [] ≡ types_at a (builtin_signature (map tree ts) returns)
  builtin_there a ts k x t e less is same returns = ap (λ (u : Tree). u ∷ []) same
      ∙ sym (builtin_types a returns (map tree ts) ∙ ap (type_of_number (map unnamed_parameter (map tree ts))) e
      ∙ ap parameter_type (unnamed_get ts k ∙ ap (option_map (λ y. unnamed_parameter (tree y)))
      (slice_get_read ts (length ts) k x refl less is)))

-- ---- the types of all members that are called

abbrev pub calls_of : List CallOffer → List Signature
calls_of os = flat_map (λ o. o.calls) os

pub seat_into : (a : Argument) (os : List CallOffer) → has_error (all_codes os) ≡ false
    → (seat_of os a).into ≡ flat_map (types_at a) (calls_of os)
seat_into (argument.Position k) os e = ap (λ (b : Test). flat_map (types_at (argument.Position k))
    (if b then [] else calls_of os)) e
seat_into (argument.Name word) os e = ap (λ (b : Test). flat_map (types_at (argument.Name word))
    (if b then [] else calls_of os)) e

flat_both : {A B : Type 0} (f : A → List B) (xs ys : List A) → flat_map f (xs ++ ys) ≡ flat_map f xs ++ flat_map f ys
flat_both f [] ys = refl
flat_both f (x ∷ xs) ys = ap (λ l. f x ++ l) (flat_both f xs ys)
    ∙ sym (append_assoc (f x) (flat_map f xs) (flat_map f ys))

pub types_held : {Ty : Type 0} (has : Ty → Type 0) (types : List Ty) (t : Option Ty) → All has types → HasIfAny has t
    → All has (types ++ option_to_list t)
types_held has types None h k = All-append has types [] h (All-nil has)
types_held has types (Some t) h k = All-push has types t h k

module _ {Ty : Type 0} (tree : Ty → Tree) where
  pushed : (types : List Ty) (t : Option Ty) → map tree (types ++ option_to_list t) ≡ map tree types ++ option_to_list
      (option_map tree t)
  pushed [] None = refl
  pushed [] (Some t) = refl
  pushed (x ∷ xs) t = ap (λ l. tree x ∷ l) (pushed xs t)

  -- the types that an argument flows into on one more member, and on all members
  pub types_more : (a : Argument) (total : List Tree) (os : List (RustCallOffer Ty)) (i : ℕ) (o : RustCallOffer Ty)
      → i < length os → o ≡ get_or os i o → (types : List Ty) (t : Option Ty) → option_to_list (option_map tree t)
      ≡ flat_map (types_at a) (offer_called tree o).calls
      → map tree types ++ flat_map (types_at a) (calls_of (map (offer_called tree) (drop i os))) ≡ total
      → map tree (types ++ option_to_list t) ++ flat_map (types_at a)
      (calls_of (map (offer_called tree) (drop (i + 1) os))) ≡ total
  types_more a total os i o less is types t e inv =
      let rest = calls_of (map (offer_called tree) (drop (i + 1) os)) in
      ap (λ l. l ++ flat_map (types_at a) rest) (pushed types t ∙ ap (λ l. map tree types ++ l) e)
      ∙ append_assoc (map tree types) (flat_map (types_at a) (offer_called tree o).calls) (flat_map (types_at a) rest)
      ∙ ap (λ l. map tree types ++ l) (sym (flat_both (types_at a) (offer_called tree o).calls rest)
      ∙ ap (λ (l : List (RustCallOffer Ty)). flat_map (types_at a) (calls_of (map (offer_called tree) l)))
      (sym (cons_at os i o less is)))
      ∙ inv

  pub types_all : (a : Argument) (total : List Tree) (os : List (RustCallOffer Ty)) (i : ℕ) → length os ≤ i
      → (types : List Ty) → map tree types ++ flat_map (types_at a) (calls_of (map (offer_called tree) (drop i os)))
      ≡ total → map tree types ≡ total
  types_all a total os i h types inv = sym (append-nil (map tree types))
      ∙ ap (λ (l : List (RustCallOffer Ty)). map tree types ++ flat_map (types_at a)
      (calls_of (map (offer_called tree) l))) (sym (drop_all i os h)) ∙ inv
