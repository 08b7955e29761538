-- A name's meaning by the tables of a module is its meaning in the module.
use Rattle.std.proofs.Common.{◌≡◌, ℕ, zero, suc, List, [], ◌∷◌, map, refl, ap, ◌∙◌, true, false}
use Rattle.std.specs.Prelude.{Option, Some, None, slice_get}
use Rattle.std.specs.Option.{option_map}
use Rattle.pc_tree.specs.Tree.{Module, FuncDef, ClassDef}
use Rattle.pc_scope.specs.declared.resolution.Owner.{Owner}
use Rattle.pc_scope.specs.declared.resolution.Owner.TheVariants as owners
use Rattle.pc_scope.specs.declared.resolution.NameMeaning.{NameMeaning}
use Rattle.pc_scope.specs.declared.resolution.NameMeaning.TheVariants as meaning
use Rattle.pc_scope.specs.Reserved.{builtin_of, beside}
use Rattle.pc_scope.specs.Bindings.{functions_in, classes_in, methods_in}
use Rattle.pc_scope.specs.Resolution.{resolve, index_of, or_meaning, local_meaning, builtin_meaning, locals_of}
use Rattle.pc_scope.specs.Resolution.{locals_of_function, method_at}
use Rattle.pc_scope.specs.Tables.{Tables, AreTables, meaning_by_tables, locals_for, locals_at, method_locals}
use Rattle.pc_scope.specs.Tables.{methods_locals, locals_by}

get_mapped : {A B : Type 0} (f : A → B) (xs : List A) (i : ℕ) → slice_get (map f xs) i ≡ option_map f (slice_get xs i)
get_mapped f [] i = refl
get_mapped f (x ∷ xs) zero = refl
get_mapped f (x ∷ xs) (suc i) = get_mapped f xs i

of_function : (i : ℕ) (o : Option FuncDef) → locals_at (option_map (locals_by false) o) ≡ locals_of_function
    (owners.Func i) o
of_function i None = refl
of_function i (Some f) = refl

of_method : (c i : ℕ) (o : Option FuncDef) → locals_at (option_map (locals_by true) o) ≡ locals_of_function
    (owners.Method c i) o
of_method c i None = refl
of_method c i (Some f) = refl

of_class : (c i : ℕ) (o : Option ClassDef) → method_locals (option_map methods_locals o) i ≡ locals_of_function
    (owners.Method c i) (method_at o i)
of_class c i None = refl
of_class c i (Some d) = ap locals_at (get_mapped (locals_by true) (methods_in d.members) i)
    ∙ of_method c i (slice_get (methods_in d.members) i)

pub same_locals : (m : Module) (t : Tables) → AreTables m t → (owner : Owner) → locals_for t owner ≡ locals_of m owner
same_locals m t are owners.Module = refl
same_locals m t are (owners.Func i) = ap (λ fs. locals_at (slice_get fs i)) are.functions
    ∙ ap locals_at (get_mapped (locals_by false) (functions_in m.items) i)
    ∙ of_function i (slice_get (functions_in m.items) i)
same_locals m t are (owners.Method c i) = ap (λ cs. method_locals (slice_get cs c) i) are.methods
    ∙ ap (λ o. method_locals o i) (get_mapped methods_locals (classes_in m.items) c)
    ∙ of_class c i (slice_get (classes_in m.items) c)

pub means : (m : Module) (t : Tables) → AreTables m t → (owner : Owner) (text : List ℕ) → meaning_by_tables t owner text
    ≡ resolve m owner text
means m t are owner text =
    ap (λ (names : List (List ℕ)). or_meaning (local_meaning (index_of text names))
    (or_meaning (builtin_meaning (builtin_of text)) (or_meaning (beside t.globals text) meaning.None)))
    (same_locals m t are owner)
    ∙ ap (λ (o : Option NameMeaning). or_meaning (local_meaning (index_of text (locals_of m owner)))
    (or_meaning (builtin_meaning (builtin_of text)) (or_meaning o meaning.None))) (are.globals text)
