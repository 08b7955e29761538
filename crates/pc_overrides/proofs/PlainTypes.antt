-- A type is without Any if its head is not Any and its parts are without Any.
use Rattle.std.proofs.Common.{◌≡◌, ◌<◌, ◌≤◌, ◌+◌, ℕ, List, [], ◌∷◌, ◌++◌, map, take, length, get_or, refl, sym, ap, ◌∙◌}
use Rattle.std.proofs.Common.{subst}
use Rattle.std.specs.Prelude.{All}
use Rattle.std.proofs.lemmas.List.{take_more, take_all}
use Rattle.std.proofs.lemmas.List.Elements.{All-append, All-cons, All-nil}
use Rattle.pc_types.specs.Tree.{Tree, Trees, Any, Object, Never, Int, Bool, Str, NoneType, Class, ListOf, DictOf}
use Rattle.pc_types.specs.Tree.{TupleOf, Union, end, more}
use Rattle.pc_types.specs.Assignable.{IsPlain, ArePlain}
use Rattle.pc_types.specs.Shape.{parts, members, list_of_trees}
use Rattle.pc_types.specs.Head.{head_of}
use Rattle.pc_types.specs.declared.head.Head.TheVariants as heads
use Rattle.pc_class.proofs.Judged.{all_first, all_rest}

-- one element more
pub one_more_all : {X : Type 0} (P : X → Type 0) (xs : List X) (i : ℕ) (x : X) → i < length xs → x ≡ get_or xs i x
    → All P (take i xs) → P x → All P (take (i + 1) xs)
one_more_all P xs i x less is before here =
    subst (All P) (sym (take_more xs i x less ∙ ap (λ y. take i xs ++ y ∷ []) (sym is)))
    (All-append P (take i xs) (x ∷ []) before (All-cons P x [] here (All-nil P)))

plain_trees : (ts : Trees) → All IsPlain (list_of_trees ts) → ArePlain ts
plain_trees end h = tt
plain_trees (more t ts) h = (
  all_first IsPlain t (list_of_trees ts) h,
  plain_trees ts (all_rest IsPlain t (list_of_trees ts) h),
)

plain_members : (t : Tree) → All IsPlain (members t) → IsPlain t
plain_members Any h = all_first IsPlain Any [] h
plain_members Object h = tt
plain_members Never h = tt
plain_members Int h = tt
plain_members Bool h = tt
plain_members Str h = tt
plain_members NoneType h = tt
plain_members (Class c) h = tt
plain_members (ListOf t) h = all_first IsPlain (ListOf t) [] h
plain_members (DictOf k v) h = all_first IsPlain (DictOf k v) [] h
plain_members (TupleOf ts) h = all_first IsPlain (TupleOf ts) [] h
plain_members (Union a b) h = (
  all_first IsPlain a (members b) h,
  plain_members b (all_rest IsPlain a (members b) h),
)

plain_by_parts : (t : Tree) → (head_of t ≡ heads.Any → ⊥) → All IsPlain (parts t) → IsPlain t
plain_by_parts Any n h = absurd (n refl)
plain_by_parts Object n h = tt
plain_by_parts Never n h = tt
plain_by_parts Int n h = tt
plain_by_parts Bool n h = tt
plain_by_parts Str n h = tt
plain_by_parts NoneType n h = tt
plain_by_parts (Class c) n h = tt
plain_by_parts (ListOf t) n h = all_first IsPlain t [] h
plain_by_parts (DictOf k v) n h = (
  all_first IsPlain k (v ∷ []) h,
  all_first IsPlain v [] (all_rest IsPlain k (v ∷ []) h),
)
plain_by_parts (TupleOf ts) n h = plain_trees ts h
plain_by_parts (Union a b) n h = (
  all_first IsPlain a (members b) h,
  plain_members b (all_rest IsPlain a (members b) h),
)

module _ {Ty : Type 0} (tree : Ty → Tree) where
  each_plain : (xs : List Ty) → All (λ x. IsPlain (tree x)) xs → All IsPlain (map tree xs)
  each_plain [] h = All-nil IsPlain
  each_plain (x ∷ xs) h = All-cons IsPlain (tree x) (map tree xs) (all_first (λ y. IsPlain (tree y)) x xs h)
      (each_plain xs (all_rest (λ y. IsPlain (tree y)) x xs h))

  -- a type of the store whose parts are all without Any
  pub plain_here : (t : Tree) (xs : List Ty) (i : ℕ) → (head_of t ≡ heads.Any → ⊥) → map tree xs ≡ parts t
      → length xs ≤ i → All (λ x. IsPlain (tree x)) (take i xs) → IsPlain t
  plain_here t xs i n e past h = plain_by_parts t n (subst (All IsPlain) e (each_plain xs
      (subst (All (λ x. IsPlain (tree x))) (take_all i xs past) h)))

  -- a type without parts
  pub plain_alone : (t : Tree) → (head_of t ≡ heads.Any → ⊥) → length (parts t) ≡ 0 → IsPlain t
  plain_alone t n e = plain_by_parts t n (subst (All IsPlain) (sym (nothing (parts t) e)) (All-nil IsPlain))
    where
      nothing : (ts : List Tree) → length ts ≡ 0 → ts ≡ []
      nothing [] f = refl
      nothing (x ∷ xs) f = cc
