-- Findings in constants, functions and methods: found by walks over the items, and as they are defined.
use Rattle.std.proofs.Common.{◌≡◌, ◌⊎◌, ◌+◌, ℕ, suc, List, [], ◌∷◌, ◌++◌, sym, subst, inl, inr, Contains}
use Rattle.std.specs.Prelude.{true}
use Rattle.std.proofs.lemmas.List.Elements.{Contains-append_left, Contains-append_right}
use Rattle.pc_source.specs.declared.place.Place.{Place}
use Rattle.pc_tree.specs.Tree.{FuncDef, Member, field_member, method_member, ClassDef, Constant, Item, constant_item}
use Rattle.pc_tree.specs.Tree.{class_item, def_item}
use Rattle.pc_scope.specs.declared.resolution.Owner.{Owner}
use Rattle.pc_scope.specs.declared.resolution.Owner.TheVariants as owners
use Rattle.pc_scope.specs.declared.resolution.NameMeaning.{NameMeaning}
use Rattle.pc_scope.specs.Bindings.{constants_in, classes_in, functions_in, methods_in, Body, function_bodies}
use Rattle.pc_scope.specs.Bindings.{method_bodies, class_bodies}
use Rattle.pc_scope.specs.Expressions.{parts_in}
use Rattle.pc_scope_findings.specs.Internal.FindingLists.{unknown_among, unknown_in_constants, decorators_in}
use Rattle.pc_tree.proofs.Among.{none_among, first_among, later_among, among_first, either}

-- ---- constants

-- a constant with such a name in its initializer
pub record IsUnknownConstant (resolve : List ℕ → NameMeaning) (items : List Item) (p : Place) : Type 0 where
  pub c : Constant
  pub among : Contains (constants_in items) c
  pub part : Contains (unknown_among resolve (parts_in true c.value)) p

module _ (resolve : List ℕ → NameMeaning) where
  pub constant_of : (items : List Item) (p : Place) → Contains (unknown_in_constants resolve items) p
      → IsUnknownConstant resolve items p
  constant_of [] p h = absurd (none_among p h)
  constant_of (constant_item q c ∷ is) p h = either (unknown_among resolve (parts_in true c.value))
      (unknown_in_constants resolve is) p h
      (λ a. record { c = c; among = first_among c (constants_in is); part = a })
      (λ b. let r = constant_of is p b in record {
        c = r.c;
        among = later_among c (constants_in is) r.c r.among;
        part =
            r.part;
      })
  constant_of (class_item q d ∷ is) p h = let r = constant_of is p h in
      record { c = r.c; among = r.among; part = r.part }
  constant_of (def_item q f ∷ is) p h = let r = constant_of is p h in record { c = r.c; among = r.among; part = r.part }

  pub to_constant : (items : List Item) (c : Constant) (p : Place) → Contains (constants_in items) c
      → Contains (unknown_among resolve (parts_in true c.value)) p → Contains (unknown_in_constants resolve items) p
  to_constant [] c p h part = absurd (none_among c h)
  to_constant (constant_item q d ∷ is) c p h part = elim (among_first d (constants_in is) c h) [
    | inl e ↦ Contains-append_left (unknown_among resolve (parts_in true d.value)) (unknown_in_constants resolve is) p
        (subst (λ (x : Constant). Contains (unknown_among resolve (parts_in true x.value)) p) (sym e) part)
    | inr rest ↦ Contains-append_right (unknown_among resolve (parts_in true d.value)) (unknown_in_constants resolve is)
        p (to_constant is c p rest part)
  ]
  to_constant (class_item q d ∷ is) c p h part = to_constant is c p h part
  to_constant (def_item q f ∷ is) c p h part = to_constant is c p h part

-- ---- decorators

-- a class with this decorator
pub record IsDecorated (items : List Item) (p : Place) : Type 0 where
  pub c : ClassDef
  pub among : Contains (classes_in items) c
  pub is : c.decorator ≡ p

pub decorated : (items : List Item) (p : Place) → Contains (decorators_in items) p → IsDecorated items p
decorated [] p h = absurd (none_among p h)
decorated (constant_item q c ∷ is) p h = let r = decorated is p h in record { c = r.c; among = r.among; is = r.is }
decorated (class_item q d ∷ is) p h = elim (among_first d.decorator (decorators_in is) p h) [
  | inl e ↦ record { c = d; among = first_among d (classes_in is); is = e }
  | inr rest ↦ let r = decorated is p rest in record {
    c = r.c;
    among = later_among d (classes_in is) r.c r.among;
    is =
        r.is;
  }
]
decorated (def_item q f ∷ is) p h = let r = decorated is p h in record { c = r.c; among = r.among; is = r.is }

pub to_decorated : (items : List Item) (c : ClassDef) → Contains (classes_in items) c
    → Contains (decorators_in items) c.decorator
to_decorated [] c h = absurd (none_among c h)
to_decorated (constant_item q d ∷ is) c h = to_decorated is c h
to_decorated (class_item q d ∷ is) c h = elim (among_first d (classes_in is) c h) [
  | inl e ↦ subst (λ (x : ClassDef). Contains (d.decorator ∷ decorators_in is) x.decorator) e
      (first_among d.decorator (decorators_in is))
  | inr rest ↦ later_among d.decorator (decorators_in is) c.decorator (to_decorated is c rest)
]
to_decorated (def_item q f ∷ is) c h = to_decorated is c h

-- ---- functions and methods

module _ (g : Owner → FuncDef → List Place) where
  -- the places that a rule gives for each method and its owner, given the numbers of the class and of the first method
  abbrev pub over_methods : (class method : ℕ) → List Member → List Place
  over_methods c i [] = []
  over_methods c i (field_member f ∷ ms) = over_methods c i ms
  over_methods c i (method_member f ∷ ms) = g (owners.Method c i) f ++ over_methods c (suc i) ms

  -- and for functions and methods, by the numbers of the first function and class
  abbrev pub over_bodies : (function class : ℕ) → List Item → List Place
  over_bodies i c [] = []
  over_bodies i c (constant_item p x ∷ is) = over_bodies i c is
  over_bodies i c (class_item p x ∷ is) = over_methods c 0 x.members ++ over_bodies i (suc c) is
  over_bodies i c (def_item p f ∷ is) = g (owners.Func i) f ++ over_bodies (suc i) c is

  -- a body in which the rule finds the place
  pub record IsBodyWith (bodies : List Body) (p : Place) : Type 0 where
    pub b : Body
    pub among : Contains bodies b
    pub found : Contains (g b.owner b.function) p

  into : (bs cs : List Body) (p : Place) → ((b : Body) → Contains bs b → Contains cs b) → IsBodyWith bs p
      → IsBodyWith cs p
  into bs cs p f r = record { b = r.b; among = f r.b r.among; found = r.found }

  method_of : (c i : ℕ) (ms : List Member) (p : Place) → Contains (over_methods c i ms) p
      → IsBodyWith (method_bodies c i (methods_in ms)) p
  method_of c i [] p h = absurd (none_among p h)
  method_of c i (field_member f ∷ ms) p h = method_of c i ms p h
  method_of c i (method_member f ∷ ms) p h =
      let here : Body = record { owner = owners.Method c i; function = f } in
      either (g (owners.Method c i) f) (over_methods c (suc i) ms) p h
      (λ a. record { b = here; among = first_among here (method_bodies c (suc i) (methods_in ms)); found = a })
      (λ b. into (method_bodies c (suc i) (methods_in ms)) (here ∷ method_bodies c (suc i) (methods_in ms)) p
      (λ x y. later_among here (method_bodies c (suc i) (methods_in ms)) x y) (method_of c (suc i) ms p b))

  to_method : (c i : ℕ) (ms : List Member) (p : Place) → IsBodyWith (method_bodies c i (methods_in ms)) p
      → Contains (over_methods c i ms) p
  to_method c i [] p r = absurd (none_among r.b r.among)
  to_method c i (field_member f ∷ ms) p r = to_method c i ms p r
  to_method c i (method_member f ∷ ms) p r = elim (among_first (record { owner = owners.Method c i; function = f })
      (method_bodies c (suc i) (methods_in ms)) r.b r.among) [
        | inl e ↦ Contains-append_left (g (owners.Method c i) f) (over_methods c (suc i) ms) p
            (subst (λ (x : Body). Contains (g x.owner x.function) p) (sym e) r.found)
        | inr rest ↦ Contains-append_right (g (owners.Method c i) f) (over_methods c (suc i) ms) p
            (to_method c (suc i) ms p (record { b = r.b; among = rest; found = r.found }))
      ]

  -- a place found in a body is found in a function of the items, or in a method of one of their classes
  pub body_of : (i c : ℕ) (items : List Item) (p : Place) → Contains (over_bodies i c items) p
      → IsBodyWith (function_bodies i (functions_in items)) p ⊎ IsBodyWith (class_bodies c (classes_in items)) p
  body_of i c [] p h = absurd (none_among p h)
  body_of i c (constant_item q x ∷ is) p h = body_of i c is p h
  body_of i c (class_item q x ∷ is) p h = either (over_methods c 0 x.members) (over_bodies i (suc c) is) p h
      (λ a. inr (into (method_bodies c 0 (methods_in x.members))
      (method_bodies c 0 (methods_in x.members) ++ class_bodies (suc c) (classes_in is)) p
      (λ y z. Contains-append_left (method_bodies c 0 (methods_in x.members)) (class_bodies (suc c) (classes_in is))
      y z) (method_of c 0 x.members p a)))
      (λ b. elim (body_of i (suc c) is p b) [
        | inl r ↦ inl r
        | inr r ↦ inr (into (class_bodies (suc c) (classes_in is))
            (method_bodies c 0 (methods_in x.members) ++ class_bodies (suc c) (classes_in is)) p
            (λ y z. Contains-append_right (method_bodies c 0 (methods_in x.members))
            (class_bodies (suc c) (classes_in is)) y z) r)
      ])
  body_of i c (def_item q f ∷ is) p h =
      let here : Body = record { owner = owners.Func i; function = f } in
      either (g (owners.Func i) f) (over_bodies (suc i) c is) p h
      (λ a. inl (record { b = here; among = first_among here (function_bodies (suc i) (functions_in is)); found = a }))
      (λ b. elim (body_of (suc i) c is p b) [
        | inl r ↦ inl (into (function_bodies (suc i) (functions_in is))
            (here ∷ function_bodies (suc i) (functions_in is)) p (λ y z. later_among here
            (function_bodies (suc i) (functions_in is)) y z) r)
        | inr r ↦ inr r
      ])

  pub to_function : (i c : ℕ) (items : List Item) (p : Place) → IsBodyWith (function_bodies i (functions_in items)) p
      → Contains (over_bodies i c items) p
  to_function i c [] p r = absurd (none_among r.b r.among)
  to_function i c (constant_item q x ∷ is) p r = to_function i c is p r
  to_function i c (class_item q x ∷ is) p r = Contains-append_right (over_methods c 0 x.members)
      (over_bodies i (suc c) is) p (to_function i (suc c) is p r)
  to_function i c (def_item q f ∷ is) p r = elim (among_first (record { owner = owners.Func i; function = f })
      (function_bodies (suc i) (functions_in is)) r.b r.among) [
        | inl e ↦ Contains-append_left (g (owners.Func i) f) (over_bodies (suc i) c is) p
            (subst (λ (x : Body). Contains (g x.owner x.function) p) (sym e) r.found)
        | inr rest ↦ Contains-append_right (g (owners.Func i) f) (over_bodies (suc i) c is) p
            (to_function (suc i) c is p (record { b = r.b; among = rest; found = r.found }))
      ]

  pub to_class : (i c : ℕ) (items : List Item) (p : Place) → IsBodyWith (class_bodies c (classes_in items)) p
      → Contains (over_bodies i c items) p
  to_class i c [] p r = absurd (none_among r.b r.among)
  to_class i c (constant_item q x ∷ is) p r = to_class i c is p r
  to_class i c (class_item q x ∷ is) p r = either (method_bodies c 0 (methods_in x.members))
      (class_bodies (suc c) (classes_in is)) r.b r.among
      (λ a. Contains-append_left (over_methods c 0 x.members) (over_bodies i (suc c) is) p
      (to_method c 0 x.members p (record { b = r.b; among = a; found = r.found })))
      (λ b. Contains-append_right (over_methods c 0 x.members) (over_bodies i (suc c) is) p
      (to_class i (suc c) is p (record { b = r.b; among = b; found = r.found })))
  to_class i c (def_item q f ∷ is) p r = Contains-append_right (g (owners.Func i) f) (over_bodies (suc i) c is) p
      (to_class (suc i) c is p r)
