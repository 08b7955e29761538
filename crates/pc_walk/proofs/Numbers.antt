-- The locals that statements bind, by their numbers.
use Rattle.std.proofs.Common.{◌≡◌, ◌∙◌, ℕ, List, [], ◌∷◌, refl, ap}
use Rattle.std.specs.Prelude.{◌||◌, nat_eq}
use Rattle.std.specs.List.{list_any, cons_option}
use Rattle.pc_tree.specs.Tree.{Name}
use Rattle.pc_scope.specs.declared.resolution.NameMeaning.{NameMeaning}
use Rattle.pc_scope.specs.declared.resolution.NameMeaning.TheVariants as meaning
use Rattle.pc_flow.specs.Narrowing.{as_local}
use Rattle.pc_module_rules.specs.Statements.{binds_number, is_local_number}
use Rattle.pc_module_rules.specs.Computed.Statements.{BodyContext, DeclaredTypes, unreached_name, unreached_names}
use Rattle.pc_walk.specs.Touched.{numbers_of}
use Rattle.pc_walk.specs.Internal.BoundNames.{unreached_numbers}

-- a number is among those of names where one of the names binds it
pub numbers_bind : (resolve : List ℕ → NameMeaning) (names : List Name) (x : ℕ) → list_any (nat_eq x) (numbers_of resolve names)
    ≡ binds_number resolve names x
numbers_bind resolve [] x = refl
numbers_bind resolve (n ∷ ns) x = go (resolve n.text) ∙ ap (λ b. is_local_number x (resolve n.text) || b)
    (numbers_bind resolve ns x)
  where
    go : (r : NameMeaning) → list_any (nat_eq x) (cons_option (as_local r) (numbers_of resolve ns))
        ≡ (is_local_number x r || list_any (nat_eq x) (numbers_of resolve ns))
    go (meaning.Local y) = refl
    go (meaning.Const y) = refl
    go (meaning.Func y) = refl
    go (meaning.Class y) = refl
    go (meaning.Builtin b) = refl
    go meaning.None = refl

-- locals that no run binds, by their numbers
pub unreached_by : (context : BodyContext) (table : DeclaredTypes) (names : List Name)
    → unreached_numbers table (numbers_of context.context.resolve names) ≡ unreached_names context table names
unreached_by context table [] = refl
unreached_by context table (n ∷ ns) = go (context.context.resolve n.text) (λ t. unreached_by context t ns)
  where
    go : (r : NameMeaning) → ((t : DeclaredTypes) → unreached_numbers t (numbers_of context.context.resolve ns) ≡ unreached_names
        context t ns) → unreached_numbers table (cons_option (as_local r) (numbers_of context.context.resolve ns))
        ≡ unreached_names context (unreached_name context table r) ns
    go (meaning.Local y) h = h (unreached_name context table (meaning.Local y))
    go (meaning.Const y) h = h table
    go (meaning.Func y) h = h table
    go (meaning.Class y) h = h table
    go (meaning.Builtin b) h = h table
    go meaning.None h = h table
