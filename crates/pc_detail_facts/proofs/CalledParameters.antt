-- The parameters of built-ins and of methods of lists and dicts, by position.
use Rattle.std.proofs.Common.{◌≡◌, ◌∙◌, ◌<◌, ◌≤◌, ◌++◌, Bor, ℕ, zero, suc, List, [], ◌∷◌, Option, Some, None, false, length, map, refl, sym, ap, codes}
use Rattle.std.proofs.Common.{arith}
use Rattle.std.proofs.lemmas.List.Elements.{All-append, All-cons, All-nil}
use Rattle.std.proofs.lemmas.Option.{slice_get-map}
use Rattle.std.specs.Prelude.{All, IfSome, slice_get}
use Rattle.std.specs.Option.{option_and_then, option_map}
use Rattle.pc_tree.specs.Tree.{Ann, Module, Param, option_ann_of, param_of}
use Rattle.pc_tree.specs.declared.tree.Param.{Param as RustParam}
use Rattle.pc_types.specs.Boxed.{tree_of, IsGiven}
use Rattle.pc_types.specs.Tree.{Tree, ListOf, DictOf}
use Rattle.pc_types.specs.declared.boxed.BoxType.{BoxType}
use Rattle.pc_types.specs.declared.boxed.BoxType.TheVariants as boxed
use Rattle.pc_class.specs.Facts.{TypedParameter, parameters_of, typed_parameter}
use Rattle.pc_class.specs.Tables.{ClassEntry, HasEntries, HasMethod, IsFieldIfAny, IsMethodIfAny}
use Rattle.pc_class.specs.declared.table.Method.{Method as RustMethod}
use Rattle.pc_class.specs.declared.table.Parameter.{Parameter as RustParameter}
use Rattle.pc_rules.specs.Calls.{unnamed_parameter}
use Rattle.pc_detail_texts.specs.Details.{called_value}
use Rattle.pc_detail_facts.specs.declared.called.CallTarget.{CallTarget}
use Rattle.pc_detail_facts.specs.Callees.{IsHeldCalled, default_in, name_of_parameter, type_of_parameter}
use Rattle.pc_detail_rules.specs.Calls.{called_on, container_called, repeated, value_called}
use Rattle.pc_detail_rules.specs.Written.{field_annotation, field_annotations, written_at}
use Rattle.pc_detail_facts.specs.Held.{HasGivenType}
use Rattle.pc_detail_facts.proofs.Held.{field_held, method_held}

-- an unnamed parameter has no name
pub unnamed_name : (ts : List Tree) (k : ℕ) → ◌≡◌ {A = List ℕ} [] (name_of_parameter (slice_get (map unnamed_parameter ts) k))
unnamed_name [] zero = refl
unnamed_name [] (suc k) = refl
unnamed_name (t ∷ ts) zero = refl
unnamed_name (t ∷ ts) (suc k) = unnamed_name ts k

-- nor a default
pub unnamed_default : (ts : List Tree) (k : ℕ) → false ≡ default_in (slice_get (map unnamed_parameter ts) k)
unnamed_default [] zero = refl
unnamed_default [] (suc k) = refl
unnamed_default (t ∷ ts) zero = refl
unnamed_default (t ∷ ts) (suc k) = unnamed_default ts k

-- there are as many as there are types
pub repeated_count : (n : ℕ) (t : Tree) → n ≡ length (map unnamed_parameter (repeated n t))
repeated_count zero t = refl
repeated_count (suc n) t = ap suc (repeated_count n t)

-- each has the type
pub repeated_type : (n : ℕ) (t : Tree) (k : ℕ) → k < n
    → Some t ≡ type_of_parameter (slice_get (map unnamed_parameter (repeated n t)) k)
repeated_type zero t k h = absurd (omega arith)
repeated_type (suc n) t zero h = refl
repeated_type (suc n) t (suc k) h = repeated_type n t k (omega arith)

-- and there are no more
pub repeated_past : (n : ℕ) (t : Tree) (k : ℕ) → n ≤ k
    → ◌≡◌ {A = Option Tree} None (type_of_parameter (slice_get (map unnamed_parameter (repeated n t)) k))
repeated_past zero t zero h = refl
repeated_past zero t (suc k) h = refl
repeated_past (suc n) t zero h = absurd (omega arith)
repeated_past (suc n) t (suc k) h = repeated_past n t k (omega arith)

-- ---- what is called

-- one more, whose types are given
pub held_more : (cs : List CallTarget) (c : CallTarget) → All IsHeldCalled cs → IsHeldCalled c
    → All IsHeldCalled (cs ++ c ∷ [])
held_more cs c h k = All-append IsHeldCalled cs (c ∷ []) h (All-cons IsHeldCalled c [] k (All-nil IsHeldCalled))

-- a value that is not of type Any is called
pub value_kept : (t : BoxType) → (t ≡ boxed.Any → ⊥)
    → value_called (tree_of t) ≡ record { what = called_value (tree_of t); signature = None; annotations = [] } ∷ []
value_kept boxed.Any h = absurd (h refl)
value_kept boxed.Object h = refl
value_kept boxed.Never h = refl
value_kept boxed.Int h = refl
value_kept boxed.Bool h = refl
value_kept boxed.Str h = refl
value_kept boxed.NoneType h = refl
value_kept (boxed.Class c) h = refl
value_kept (boxed.List' p t) h = refl
value_kept (boxed.Dict' p k q v) h = refl
value_kept (boxed.Tuple' shape parts) h = refl
value_kept (boxed.Union' p a q b) h = refl

-- a method that a look-up gives has given types
pub method_given : (cs : List (ClassEntry BoxType)) → HasEntries IsGiven cs → (o : Option (Bor (RustMethod BoxType)))
    → IsMethodIfAny cs o → IfSome o (λ x. HasMethod IsGiven x.now)
method_given cs h None w = tt
method_given cs h (Some x) w = method_held cs h x.now w

-- and so has a field
pub field_given : (cs : List (ClassEntry BoxType)) → HasEntries IsGiven cs → (o : Option (Bor (RustParameter BoxType)))
    → IsFieldIfAny cs o → HasGivenType o
field_given cs h None w = tt
field_given cs h (Some p) w = field_held cs h p.now w

-- the methods of lists and dicts, called
pub append_called : (m : Module) (t u : Tree) (word : List ℕ) (item : Tree) → t ≡ ListOf item → u ≡ item
    → word ≡ codes "append" → container_called t word (u ∷ []) ∷ [] ≡ called_on m word t
append_called m t u word item e f g = rw (e, f, g) refl

pub pop_called : (m : Module) (t : Tree) (word : List ℕ) (item : Tree) → t ≡ ListOf item → word ≡ codes "pop"
    → container_called t word [] ∷ [] ≡ called_on m word t
pop_called m t word item e g = rw (e, g) refl

pub get_called : (m : Module) (t u : Tree) (word : List ℕ) (key held : Tree) → t ≡ DictOf key held → u ≡ key
    → word ≡ codes "get" → container_called t word (u ∷ []) ∷ [] ≡ called_on m word t
get_called m t u word key held e f g = rw (e, f, g) refl

-- the parameters of a function, with the types of their annotations
typed_twice : (m : Module) (o : Option RustParam)
    → option_map (typed_parameter m) (option_map param_of o) ≡ option_map (λ (p : RustParam). typed_parameter m (param_of p)) o
typed_twice m None = refl
typed_twice m (Some p) = refl

pub typed_at : (m : Module) (ps : List RustParam) (k : ℕ)
    → option_map (λ (p : RustParam). typed_parameter m (param_of p)) (slice_get ps k)
    ≡ slice_get (parameters_of m (map param_of ps)) k
typed_at m ps k = sym (slice_get-map (typed_parameter m) (map param_of ps) k
    ∙ ap (option_map (typed_parameter m)) (slice_get-map param_of ps k) ∙ typed_twice m (slice_get ps k))

-- ---- the annotations of parameters

-- what has no annotations
pub none_written : (k : ℕ) → ◌≡◌ {A = Option Ann} None (written_at [] k)
none_written zero = refl
none_written (suc k) = refl

-- the annotation of a parameter, if there is one
abbrev pub param_written : Option RustParam → Option Ann
param_written None = None
param_written (Some p) = option_ann_of p.annotation

-- the annotation of a parameter of a function
pub written_param : (ps : List RustParam) (k : ℕ)
    → param_written (slice_get ps k) ≡ written_at (map (λ (p : Param). p.annotation) (map param_of ps)) k
written_param [] zero = refl
written_param [] (suc k) = refl
written_param (p ∷ ps) zero = refl
written_param (p ∷ ps) (suc k) = written_param ps k

-- the annotation of a field of a class, by its position
pub written_field : (m : Module) (c : ℕ) (ps : List TypedParameter) (k : ℕ)
    → option_and_then (λ (q : TypedParameter). field_annotation m c q.name) (slice_get ps k)
    ≡ written_at (field_annotations m c ps) k
written_field m c [] zero = refl
written_field m c [] (suc k) = refl
written_field m c (p ∷ ps) zero = refl
written_field m c (p ∷ ps) (suc k) = written_field m c ps k
