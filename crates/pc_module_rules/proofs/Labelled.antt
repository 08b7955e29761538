-- A table with a type for each local bound so far, and none for the others, determines the names bound so far.
use Rattle.std.proofs.Common.{◌≡◌, ℕ, zero, suc, ◌<◌, List, [], ◌∷◌, length, refl, sym, ap, ◌∙◌, subst, arith}
use Rattle.std.specs.Prelude.{Bool as Test, true, false, ◌||◌, is_some, unwrap_or, replicate, Option, Some, None}
use Rattle.std.specs.Prelude.{bytes_eq, slice_set}
use Rattle.std.proofs.lemmas.Slice.Eq.{bytes_eq-Decides}
use Rattle.std.proofs.lemmas.List.{get_or-set_same, get_or-set_other}
use Rattle.pc_scope.specs.declared.resolution.NameMeaning.TheVariants as meaning
use Rattle.pc_scope.specs.Resolution.{is_one_of}
use Rattle.pc_types.specs.Tree.{Tree, Any}
use Rattle.pc_flow.specs.Environment.{declared_type}
use Rattle.pc_rules.specs.Context.{Context}
use Rattle.pc_module_rules.specs.Computed.Statements.{type_table, bound_type}
use Rattle.pc_module_rules.specs.Statements.{NamesBound}
use Rattle.pc_module_rules.specs.Laws.Labellings.{NumberedLocals}

-- as the table says
pub type_of_bound : (os : List (Option Tree)) (x : ℕ) → declared_type (type_table os) x ≡ unwrap_or (bound_type os x)
    Any
type_of_bound [] x = refl
type_of_bound (o ∷ os) zero = refl
type_of_bound (o ∷ os) (suc x) = type_of_bound os x

-- a type set there is set in the table
pub set_bound : (os : List (Option Tree)) (x : ℕ) (t : Tree) → type_table (slice_set os x (Some t))
    ≡ slice_set (type_table os) x t
set_bound [] x t = refl
set_bound (o ∷ os) zero t = refl
set_bound (o ∷ os) (suc x) t = ap (λ ts. unwrap_or o Any ∷ ts) (set_bound os x t)

-- where none is bound
pub none_bound : (n x : ℕ) → bound_type (replicate n None) x ≡ None
none_bound zero x = refl
none_bound (suc n) zero = refl
none_bound (suc n) (suc x) = none_bound n x

module _ (ctx : Context) (count : ℕ) (names : NumberedLocals ctx count) where
  -- a name of a local is among those seen where its local has a type: it is bound first where there is none
  abbrev pub IsLabelled : NamesBound → List (Option Tree) → Type 0
  IsLabelled seen os = (word : List ℕ) (x : ℕ) → ctx.resolve word ≡ meaning.Local x
      → is_one_of word seen ≡ is_some (bound_type os x)

  -- at first no name is seen, and no local has a type
  pub labelled_none : IsLabelled [] (replicate count None)
  labelled_none word x i = sym (ap is_some (none_bound count x))

  -- a name bound first
  pub labelled_first : (seen : NamesBound) (os : List (Option Tree)) (word : List ℕ) (x : ℕ) (t : Tree)
      → length os ≡ count → ctx.resolve word ≡ meaning.Local x → IsLabelled seen os
      → IsLabelled (word ∷ seen) (slice_set os x (Some t))
  labelled_first seen os word x t l i h w y j = go (bytes_eq w word) refl
    where
      go : (b : Test) → bytes_eq w word ≡ b → (bytes_eq w word || is_one_of w seen)
          ≡ is_some (bound_type (slice_set os x (Some t)) y)
      go true e =
          let is : w ≡ word = (bytes_eq-Decides w word).0 e in
          let q : meaning.Local x ≡ meaning.Local y = sym i ∙ ap ctx.resolve (sym is) ∙ j in
          let same : x ≡ y = grind (arith, q) in
          let b : x < length os = subst (λ n. x < n) (sym l) (names.below word x i) in
          ap (λ c. c || is_one_of w seen) e
          ∙ sym (ap is_some (subst (λ z. bound_type (slice_set os x (Some t)) z ≡ Some t) same
          (get_or-set_same os x (Some t) None b)))
      go false e =
          ap (λ c. c || is_one_of w seen) e ∙ h w y j ∙ ap is_some (sym (get_or-set_other os x y (Some t) None (λ f.
          let q : x ≡ y = sym f in
          let is : w ≡ word = names.apart w word y j (i ∙ ap meaning.Local q) in
          let yes : bytes_eq w word ≡ true = (bytes_eq-Decides w word).1 is in
          grind (arith, yes, e))))

  -- a name bound again
  pub labelled_again : (seen : NamesBound) (os : List (Option Tree)) (word : List ℕ) → is_one_of word seen ≡ true
      → IsLabelled seen os → IsLabelled (word ∷ seen) os
  labelled_again seen os word a h w y j = go (bytes_eq w word) refl
    where
      go : (b : Test) → bytes_eq w word ≡ b → (bytes_eq w word || is_one_of w seen) ≡ is_some (bound_type os y)
      go true e = ap (λ c. c || is_one_of w seen) e
          ∙ sym (subst (λ v. is_one_of v seen ≡ true) (sym ((bytes_eq-Decides w word).0 e)) a) ∙ h w y j
      go false e = ap (λ c. c || is_one_of w seen) e ∙ h w y j

  -- a name that is no local's
  pub labelled_other : (seen : NamesBound) (os : List (Option Tree)) (word : List ℕ)
      → ((x : ℕ) → ctx.resolve word ≡ meaning.Local x → ⊥) → IsLabelled seen os → IsLabelled (word ∷ seen) os
  labelled_other seen os word other h w y j = go (bytes_eq w word) refl
    where
      go : (b : Test) → bytes_eq w word ≡ b → (bytes_eq w word || is_one_of w seen) ≡ is_some (bound_type os y)
      go true e = absurd (other y (ap ctx.resolve (sym ((bytes_eq-Decides w word).0 e)) ∙ j))
      go false e = ap (λ c. c || is_one_of w seen) e ∙ h w y j
