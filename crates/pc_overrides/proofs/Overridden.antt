-- The methods of a name that a class has: the nearest one, and after it those that the base of its owner has.
use Rattle.std.proofs.Common.{◌≡◌, ◌<◌, ◌≤◌, ℕ, zero, suc, List, [], ◌∷◌, ◌++◌, refl, sym, ap, ◌∙◌, subst, arith}
use Rattle.std.proofs.Common.{inl, inr}
use Rattle.std.specs.Prelude.{Bool, true, false, ◌||◌, cond, if◌then◌else◌, Option, Some, None, find, filter}
use Rattle.std.specs.Prelude.{slice_get, bytes_eq, Contains}
use Rattle.std.specs.Option.{option_or}
use Rattle.std.proofs.lemmas.Bool.{false≢true}
use Rattle.std.proofs.lemmas.List.Folds.{find-append}
use Rattle.std.proofs.lemmas.List.Elements.{filter-append}
use Rattle.std.proofs.lemmas.Option.{same_Some}
use Rattle.std.proofs.lemmas.Slice.Eq.{bytes_eq-Decides}
use Rattle.pc_tree.proofs.Among.{none_among, first_among, later_among, among_first}
use Rattle.pc_tree.specs.Tree.{Member, field_member, method_member, ClassDef, Module}
use Rattle.pc_scope.specs.Bindings.{classes_in}
use Rattle.pc_scope.specs.Resolution.{is_one_of}
use Rattle.pc_types.specs.Below.{base_of}
use Rattle.pc_annotations.specs.Bases.{base_named, bases_of}
use Rattle.pc_class.specs.Facts.{Method, ClassFacts, class_in, class_facts_at, base_facts, method_by_name, binds_method}
use Rattle.pc_class.specs.Facts.{method_made, own_methods, classes_of}
use Rattle.pc_class.specs.Entries.{inherited_by}
use Rattle.pc_class.specs.Overrides.{overridden}
use Rattle.pc_class.proofs.ClassesBuilt.{no_class_past, base_here, below_class, class_is}
use Rattle.pc_class.proofs.OwnMembers.{field_new}

none_some : {X : Type 0} (x : X) → None ≡ Some x → ⊥
none_some x e = grind (arith, e)

-- where none is found, none is kept
pub none_kept : {X : Type 0} (p : X → Bool) (xs : List X) → find p xs ≡ None → filter p xs ≡ []
none_kept p [] e = refl
none_kept p (x ∷ xs) e = go (p x) (λ f. none_kept p xs f) e
  where
    go : (b : Bool) → (find p xs ≡ None → filter p xs ≡ []) → cond b (Some x) (find p xs) ≡ None
        → cond b (x ∷ filter p xs) (filter p xs) ≡ []
    go true on f = absurd (none_some x (sym f))
    go false on f = on f

module _ (m : Module) (base : ClassFacts) (c : ℕ) (name : List ℕ) where
  abbrev named : Method → Bool
  named x = bytes_eq name x.name

  -- after a member of the name no method is of that name
  none_again : (n : ℕ) (before : List (List ℕ)) (ms : List Member) → is_one_of name before ≡ true
      → filter named (own_methods m base c n before ms) ≡ []
  none_again n before [] e = refl
  none_again n before (field_member f ∷ ms) e = none_again n (f.name.text ∷ before) ms
      (second (bytes_eq name f.name.text) e)
    where
      second : {b : Bool} (a : Bool) → b ≡ true → (a || b) ≡ true
      second true h = refl
      second false h = h
  none_again n before (method_member f ∷ ms) e = go (binds_method base before f.name.text) refl
      (bytes_eq name f.name.text) refl (none_again (suc n) (f.name.text ∷ before) ms
      (second (bytes_eq name f.name.text) e))
    where
      second : {b : Bool} (a : Bool) → b ≡ true → (a || b) ≡ true
      second true h = refl
      second false h = h

      go : (b : Bool) → binds_method base before f.name.text ≡ b → (d : Bool) → bytes_eq name f.name.text ≡ d
          → filter named (own_methods m base c (suc n) (f.name.text ∷ before) ms) ≡ []
          → filter named ((if b then method_made m c n f ∷ [] else []) ++ own_methods m base c (suc n)
          (f.name.text ∷ before) ms) ≡ []
      go false i d j rest = rest
      go true i true j rest = absurd (false≢true (sym (field_new (inherited_by base) before n (method_member f) i).0
          ∙ ap (λ t. is_one_of t before) (sym ((bytes_eq-Decides name f.name.text).0 j)) ∙ e))
      go true i false j rest =
          ap (λ b. cond b (method_made m c n f ∷ filter named (own_methods m base c (suc n) (f.name.text ∷ before) ms))
          (filter named (own_methods m base c (suc n) (f.name.text ∷ before) ms))) j ∙ rest

  -- of the methods of a class at most one is of the name, and it is the class's own
  data IsOneOf (xs : List Method) : Type 0 where
    no_one : find named xs ≡ None → filter named xs ≡ [] → IsOneOf xs
    one : (x : Method) → find named xs ≡ Some x → filter named xs ≡ x ∷ [] → x.owner ≡ c → IsOneOf xs

  one_of : (n : ℕ) (before : List (List ℕ)) (ms : List Member) → IsOneOf (own_methods m base c n before ms)
  one_of n before [] = no_one refl refl
  one_of n before (field_member f ∷ ms) = one_of n (f.name.text ∷ before) ms
  one_of n before (method_member f ∷ ms) =
      go (binds_method base before f.name.text) (bytes_eq name f.name.text) refl
      (one_of (suc n) (f.name.text ∷ before) ms) (λ e. none_again (suc n) (f.name.text ∷ before) ms
      (ap (λ b. b || is_one_of name before) e))
    where
      rest : List Method
      rest = own_methods m base c (suc n) (f.name.text ∷ before) ms

      made : Method
      made = method_made m c n f

      go : (b : Bool) (d : Bool) → bytes_eq name f.name.text ≡ d → IsOneOf rest
          → (bytes_eq name f.name.text ≡ true → filter named rest ≡ [])
          → IsOneOf ((if b then made ∷ [] else []) ++ rest)
      go false d j on none = on
      go true true j on none = one made (ap (λ b. cond b (Some made) (find named rest)) j)
          (ap (λ b. cond b (made ∷ filter named rest) (filter named rest)) j ∙ ap (λ xs. made ∷ xs) (none j)) refl
      go true false j (no_one e g) none = no_one (ap (λ b. cond b (Some made) (find named rest)) j ∙ e)
          (ap (λ b. cond b (made ∷ filter named rest) (filter named rest)) j ∙ g)
      go true false j (one x e g o) none = one x (ap (λ b. cond b (Some made) (find named rest)) j ∙ e)
          (ap (λ b. cond b (made ∷ filter named rest) (filter named rest)) j ∙ g) o

module _ (m : Module) (name : List ℕ) where
  -- the methods of the name that a class of this base inherits
  abbrev above : Option ℕ → List Method
  above o = overridden (base_facts (classes_of m) o).methods name

  -- the nearest method and the others after it, of the class and of the one that binds it
  pub record IsNearest (c : ℕ) (x : Method) : Type 0 where
    pub owner : x.owner ≤ c
    pub all : above (Some c) ≡ x ∷ above (base_of (bases_of m) x.owner)
    pub own : above (Some x.owner) ≡ x ∷ above (base_of (bases_of m) x.owner)

  nearest_in : (limit c : ℕ) → c < limit → (x : Method) → method_by_name (class_facts_at (classes_of m) c).methods name
      ≡ Some x → IsNearest c x
  nearest_in zero c less x e = absurd (omega arith)
  nearest_in (suc limit) c less x e = at (slice_get (classes_in m.items) c) refl
      (λ b l f. nearest_in limit b (omega arith) x f)
    where
      over : (class : ClassDef) → slice_get (classes_in m.items) c ≡ Some class → (o : Option ℕ)
          → base_named m c class.base ≡ o → ((b : ℕ) → b < c → method_by_name (class_facts_at (classes_of m) b).methods
          name ≡ Some x → IsNearest b x) → IsNearest c x
      over class is o named on = go (one_of m (base_facts (classes_of m) (base_named m c class.base)) c name 0 []
          class.members) o named
        where
          parent : ClassFacts
          parent = base_facts (classes_of m) (base_named m c class.base)

          own : List Method
          own = own_methods m parent c 0 [] class.members

          is_named : Method → Bool
          is_named y = bytes_eq name y.name

          methods : (class_facts_at (classes_of m) c).methods ≡ own ++ parent.methods
          methods = ap (λ (k : ClassFacts). k.methods) (class_is m c class is)

          found : option_or (find is_named own) (find is_named parent.methods) ≡ Some x
          found = sym (find-append is_named own parent.methods) ∙ ap (find is_named) (sym methods) ∙ e

          kept : above (Some c) ≡ filter is_named own ++ filter is_named parent.methods
          kept = ap (filter is_named) methods ∙ filter-append is_named own parent.methods

          go : IsOneOf m parent c name own → (o : Option ℕ) → base_named m c class.base ≡ o → IsNearest c x
          go (one y f g h) o b =
              let same : y ≡ x = same_Some _ _ (sym (ap (λ q. option_or q (find is_named parent.methods)) f) ∙ found) in
              let owner : x.owner ≡ c = ap (λ (z : Method). z.owner) (sym same) ∙ h in
              let all : above (Some c) ≡ x ∷ above (base_of (bases_of m) x.owner) =
              kept ∙ ap (λ (ys : List Method). ys ++ filter is_named parent.methods) g
              ∙ ap (λ (z : Method). z ∷ filter is_named parent.methods) same
              ∙ ap (λ q. x ∷ above q) (sym (base_here m c class is) ∙ ap (base_of (bases_of m)) (sym owner)) in record {
                owner = omega (arith, owner);
                all = all;
                own = ap (λ k. above (Some k)) owner ∙ all;
              }
          go (no_one f g) None b =
              absurd (none_some x (sym (ap (λ q. option_or q (find is_named parent.methods)) f
              ∙ ap (λ q. find is_named (base_facts (classes_of m) q).methods) b) ∙ found))
          go (no_one f g) (Some d) b =
              let less : d < c = below_class m c d class is b in
              let r = on d less (sym (ap (λ q. option_or q (find is_named parent.methods)) f
              ∙ ap (λ q. find is_named (base_facts (classes_of m) q).methods) b) ∙ found) in record {
                owner = let l = r.owner in omega arith;
                all = kept ∙ ap (λ (ys : List Method). ys ++ filter is_named parent.methods) g ∙ ap above b ∙ r.all;
                own = r.own;
              }

      at : (o : Option ClassDef) → slice_get (classes_in m.items) c ≡ o
          → ((b : ℕ) → b < c → method_by_name (class_facts_at (classes_of m) b).methods name ≡ Some x → IsNearest b x)
          → IsNearest c x
      at None is on =
          absurd (none_some x (sym (ap (λ q. method_by_name (class_in q).methods name) (no_class_past m c is)) ∙ e))
      at (Some class) is on = over class is (base_named m c class.base) refl on

  pub nearest : (c : ℕ) (x : Method) → method_by_name (class_facts_at (classes_of m) c).methods name ≡ Some x
      → IsNearest c x
  nearest c x e = nearest_in (suc c) c (omega arith) x e

-- an element that passes a test is kept
kept_among : {X : Type 0} (p : X → Bool) (xs : List X) (x : X) → p x ≡ true → Contains xs x → Contains (filter p xs) x
kept_among p [] x h among = absurd (none_among x among)
kept_among {X} p (y ∷ ys) x h among = elim (among_first y ys x among) [
  | inl e ↦ subst (λ b. Contains (cond b (y ∷ filter p ys) (filter p ys)) x) (sym (ap p e ∙ h))
      (subst (Contains (y ∷ filter p ys)) e (first_among y (filter p ys)))
  | inr later ↦ go (p y) (kept_among p ys x h later)
]
  where
    go : (b : Bool) → Contains (filter p ys) x → Contains (cond b (y ∷ filter p ys) (filter p ys)) x
    go true k = later_among y (filter p ys) x k
    go false k = k

-- a method that a class binds is the nearest of its name that the class has
pub own_first : (m : Module) (c : ℕ) (class : ClassDef) (x : Method) → slice_get (classes_in m.items) c ≡ Some class
    → Contains (own_methods m (base_facts (classes_of m) (base_named m c class.base)) c 0 [] class.members) x
    → overridden (base_facts (classes_of m) (Some c)).methods x.name
    ≡ x ∷ overridden (base_facts (classes_of m) (base_named m c class.base)).methods x.name
own_first m c class x is among = go (one_of m parent c x.name 0 [] class.members)
  where
    parent : ClassFacts
    parent = base_facts (classes_of m) (base_named m c class.base)

    own : List Method
    own = own_methods m parent c 0 [] class.members

    is_named : Method → Bool
    is_named y = bytes_eq x.name y.name

    kept : Contains (filter is_named own) x
    kept = kept_among is_named own x ((bytes_eq-Decides x.name x.name).1 refl) among

    all : overridden (base_facts (classes_of m) (Some c)).methods x.name
        ≡ filter is_named own ++ filter is_named parent.methods
    all = ap (λ (k : ClassFacts). filter is_named k.methods) (class_is m c class is)
        ∙ filter-append is_named own parent.methods

    go : IsOneOf m parent c x.name own → overridden (base_facts (classes_of m) (Some c)).methods x.name
        ≡ x ∷ filter is_named parent.methods
    go (no_one e g) = absurd (none_among x (subst (λ (ys : List Method). Contains ys x) g kept))
    go (one y e g o) = elim (among_first y [] x (subst (λ (ys : List Method). Contains ys x) g kept)) [
      | inl s ↦ all ∙ ap (λ (ys : List Method). ys ++ filter is_named parent.methods) g
          ∙ ap (λ (z : Method). z ∷ filter is_named parent.methods) s
      | inr rest ↦ absurd (none_among x rest)
    ]
