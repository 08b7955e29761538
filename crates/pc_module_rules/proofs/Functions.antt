-- The functions and methods of a module, and the labels that the module's labelling gives each of them.
use Rattle.std.proofs.Common.{◌≡◌, ℕ, zero, suc, ◌+◌, List, [], ◌∷◌, refl, ap, ◌∙◌, subst, sym, inl, inr, arith}
use Rattle.std.proofs.Common.{Contains}
use Rattle.std.specs.Prelude.{Option, Some, None, slice_get}
use Rattle.std.proofs.lemmas.List.Elements.{Contains-append_left, Contains-append_right, Contains-append_cases}
use Rattle.std.proofs.lemmas.Option.{none-some, same_Some}
use Rattle.pc_tree.proofs.Among.{none_among, among_first}
use Rattle.pc_tree.specs.declared.code.Finding.{Finding}
use Rattle.pc_tree.specs.Tree.{FuncDef, Member, field_member, method_member, ClassDef, Item, constant_item, class_item}
use Rattle.pc_tree.specs.Tree.{def_item, Module}
use Rattle.pc_scope.specs.declared.resolution.Owner.{Owner}
use Rattle.pc_scope.specs.declared.resolution.Owner.TheVariants as owners
use Rattle.pc_scope.specs.Bindings.{classes_in, functions_in, methods_in, Body, function_bodies, method_bodies}
use Rattle.pc_scope.specs.Bindings.{class_bodies, bodies}
use Rattle.pc_scope.specs.Resolution.{method_at, function_of}
use Rattle.pc_types.specs.Tree.{Tree}
use Rattle.pc_class.specs.Facts.{ClassFacts}
use Rattle.pc_class.specs.Findings.{base_class}
use Rattle.pc_module_rules.specs.Modules.{FunctionLabels, LawfulFunction, FunctionFinds, MembersLabels, LawfulMembers}
use Rattle.pc_module_rules.specs.Modules.{MembersFind, ModuleItemsLabels, LawfulModuleItems, ModuleItemsFind, BeforeItem}
use Rattle.pc_module_rules.specs.Modules.{before_next, nothing_before, Labelling, IsLawful, LabelsSay, constant_types}

-- ---- functions and methods by their numbers

module _ (m : Module) (constants : List Tree) where
  -- a function with its lawful labels, whose findings are among others
  pub record FunctionIn (owner : Owner) (d : FuncDef) (finds : Finding → Type 0) : Type 0 where
    pub labels : FunctionLabels d
    pub lawful : LawfulFunction m constants owner d labels
    pub within : (f : Finding) → FunctionFinds m constants owner d labels f → finds f

  same_function : (owner owner' : Owner) (d d' : FuncDef) (finds : Finding → Type 0) → owner ≡ owner' → d ≡ d'
      → FunctionIn owner d finds → FunctionIn owner' d' finds
  same_function owner owner' d d' finds e f h = subst (λ x. FunctionIn owner' x finds) f
      (subst (λ o. FunctionIn o d finds) e h)

  wider : (owner : Owner) (d : FuncDef) (finds more : Finding → Type 0) → ((f : Finding) → finds f → more f)
      → FunctionIn owner d finds → FunctionIn owner d more
  wider owner d finds more w h = record { labels = h.labels; lawful = h.lawful; within = λ f x. w f (h.within f x) }

  pub function_in : (items : List Item) (b : BeforeItem) (labels : ModuleItemsLabels items)
      → LawfulModuleItems m constants b items labels → (j i : ℕ) (d : FuncDef) → slice_get (functions_in items) j
      ≡ Some d → i ≡ b.functions + j → FunctionIn (owners.Func i) d (ModuleItemsFind m constants b items labels)
  function_in [] b labels law j i d e at = absurd (none-some _ e)
  function_in (constant_item p c ∷ rest) b labels law j i d e at = wider (owners.Func i) d _ _ (λ f h. inr h)
      (function_in rest (before_next m b (constant_item p c) labels.first) labels.rest law.1 j i d e at)
  function_in (class_item p c ∷ rest) b labels law j i d e at = wider (owners.Func i) d _ _ (λ f h. inr h)
      (function_in rest (before_next m b (class_item p c) labels.first) labels.rest law.1 j i d e at)
  function_in (def_item p x ∷ rest) b labels law zero i d e at = same_function (owners.Func b.functions) (owners.Func i)
      x d _ (ap owners.Func (omega arith)) (same_Some _ _ e) (record {
        labels = labels.first;
        lawful = law.0;
        within =
            λ f h. inl h;
      })
  function_in (def_item p x ∷ rest) b labels law (suc j) i d e at = wider (owners.Func i) d _ _ (λ f h. inr h)
      (function_in rest (before_next m b (def_item p x) labels.first) labels.rest law.1 j i d e (omega arith))

  method_in : (base : ClassFacts) (c number : ℕ) (before : List (List ℕ)) (ms : List Member) (labels : MembersLabels ms)
      → LawfulMembers m constants base c number before ms labels → (j i : ℕ) (d : FuncDef) → slice_get (methods_in ms) j
      ≡ Some d → i ≡ number + j → FunctionIn (owners.Method c i) d (MembersFind m constants c number ms labels)
  method_in base c number before [] labels law j i d e at = absurd (none-some _ e)
  method_in base c number before (field_member x ∷ ms) labels law j i d e at = wider (owners.Method c i) d _ _
      (λ f h. inr (inr h)) (method_in base c number (x.name.text ∷ before) ms labels.rest law.others j i d e at)
  method_in base c number before (method_member x ∷ ms) labels law zero i d e at =
      same_function (owners.Method c number) (owners.Method c i) x d _ (ap (owners.Method c) (omega arith))
      (same_Some _ _ e) (record { labels = labels.method; lawful = law.method; within = λ f h. inl h })
  method_in base c number before (method_member x ∷ ms) labels law (suc j) i d e at = wider (owners.Method c i) d _ _
      (λ f h. inr h) (method_in base c (suc number) (x.name.text ∷ before) ms labels.rest law.others j i d e
      (omega arith))

  pub method_of_class_in : (items : List Item) (b : BeforeItem) (labels : ModuleItemsLabels items)
      → LawfulModuleItems m constants b items labels → (j c : ℕ) (class : ClassDef) (i : ℕ) (d : FuncDef)
      → slice_get (classes_in items) j ≡ Some class → c ≡ b.classes + j → slice_get (methods_in class.members) i
      ≡ Some d → FunctionIn (owners.Method c i) d (ModuleItemsFind m constants b items labels)
  method_of_class_in [] b labels law j c class i d e at is = absurd (none-some _ e)
  method_of_class_in (constant_item p x ∷ rest) b labels law j c class i d e at is = wider (owners.Method c i) d _ _
      (λ f h. inr h) (method_of_class_in rest (before_next m b (constant_item p x) labels.first) labels.rest law.1 j c
      class i d e at is)
  method_of_class_in (def_item p x ∷ rest) b labels law j c class i d e at is = wider (owners.Method c i) d _ _
      (λ f h. inr h) (method_of_class_in rest (before_next m b (def_item p x) labels.first) labels.rest law.1 j c class
      i d e at is)
  method_of_class_in (class_item p x ∷ rest) b labels law (suc j) c class i d e at is = wider (owners.Method c i) d _ _
      (λ f h. inr h) (method_of_class_in rest (before_next m b (class_item p x) labels.first) labels.rest law.1 j c
      class i d e (omega arith) is)
  method_of_class_in (class_item p x ∷ rest) b labels law zero c class i d e at is =
      same_function (owners.Method b.classes i) (owners.Method c i) d d _ (ap (λ z. owners.Method z i) (omega arith))
      refl
      (wider (owners.Method b.classes i) d _ _ (λ f h. inl h) (method_in (base_class m b.classes x) b.classes 0 []
      x.members labels.first law.0 i i d (ap (λ z. slice_get (methods_in z.members) i) (same_Some _ _ e) ∙ is)
      (omega arith)))

module _ (m : Module) (labels : Labelling m) (lawful : IsLawful m labels) where
  -- a function's own labels
  pub function_labels : (owner : Owner) (d : FuncDef) → function_of m owner ≡ Some d
      → FunctionIn m (constant_types m m.items labels) owner d (LabelsSay m labels)
  function_labels owners.Module d e = absurd (none-some _ e)
  function_labels (owners.Func i) d e = function_in m (constant_types m m.items labels) m.items nothing_before labels
      lawful i i d e (omega arith)
  function_labels (owners.Method c i) d e = go (slice_get (classes_in m.items) c) refl e
    where
      go : (o : Option ClassDef) → slice_get (classes_in m.items) c ≡ o → method_at o i ≡ Some d
          → FunctionIn m (constant_types m m.items labels) (owners.Method c i) d (LabelsSay m labels)
      go None is e = absurd (none-some _ e)
      go (Some class) is e = method_of_class_in m (constant_types m m.items labels) m.items nothing_before labels lawful
          c c class i d is (omega arith) e

-- ---- bodies by their owners

behind : {A : Type 0} (x : A) (xs : List A) (y : A) → Contains xs y → Contains (x ∷ xs) y
behind x xs y c = Contains-append_right (x ∷ []) xs y c

function_body : (i j n : ℕ) (fs : List FuncDef) (d : FuncDef) → n ≡ i + j → slice_get fs j ≡ Some d
    → Contains (function_bodies i fs) (record { owner = owners.Func n; function = d })
function_body i j n [] d at e = absurd (none-some _ e)
function_body i zero n (f ∷ fs) d at e = let here : i ≡ n = omega arith in
    (0, omega arith, λ k. record { owner = owners.Func (here k); function = same_Some _ _ e k })
function_body i (suc j) n (f ∷ fs) d at e = behind _ (function_bodies (suc i) fs) _
    (function_body (suc i) j n fs d (omega arith) e)

method_body : (c i j n : ℕ) (fs : List FuncDef) (d : FuncDef) → n ≡ i + j → slice_get fs j ≡ Some d
    → Contains (method_bodies c i fs) (record { owner = owners.Method c n; function = d })
method_body c i j n [] d at e = absurd (none-some _ e)
method_body c i zero n (f ∷ fs) d at e = let here : i ≡ n = omega arith in
    (0, omega arith, λ k. record { owner = owners.Method c (here k); function = same_Some _ _ e k })
method_body c i (suc j) n (f ∷ fs) d at e = behind _ (method_bodies c (suc i) fs) _
    (method_body c (suc i) j n fs d (omega arith) e)

class_body : (c k n i : ℕ) (cs : List ClassDef) (class : ClassDef) (d : FuncDef) → n ≡ c + k
    → slice_get cs k ≡ Some class → slice_get (methods_in class.members) i ≡ Some d
    → Contains (class_bodies c cs) (record { owner = owners.Method n i; function = d })
class_body c k n i [] class d at e is = absurd (none-some _ e)
class_body c zero n i (x ∷ cs) class d at e is =
    let here : c ≡ n = omega arith in
    Contains-append_left (method_bodies c 0 (methods_in x.members)) (class_bodies (suc c) cs) _
    (subst (λ z. Contains (method_bodies c 0 (methods_in x.members))
    (record { owner = owners.Method z i; function = d })) here
    (method_body c 0 i i (methods_in x.members) d (omega arith)
    (ap (λ z. slice_get (methods_in z.members) i) (same_Some _ _ e) ∙ is)))
class_body c (suc k) n i (x ∷ cs) class d at e is =
    Contains-append_right (method_bodies c 0 (methods_in x.members)) (class_bodies (suc c) cs) _
    (class_body (suc c) k n i cs class d (omega arith) e is)

-- the function or method that an owner is, is one of the module's bodies
pub is_body : (m : Module) (owner : Owner) (d : FuncDef) → function_of m owner ≡ Some d
    → Contains (bodies m) (record { owner = owner; function = d })
is_body m owners.Module d e = absurd (none-some _ e)
is_body m (owners.Func i) d e = Contains-append_left (function_bodies 0 (functions_in m.items))
    (class_bodies 0 (classes_in m.items)) _ (function_body 0 i i (functions_in m.items) d (omega arith) e)
is_body m (owners.Method c i) d e = go (slice_get (classes_in m.items) c) refl e
  where
    go : (o : Option ClassDef) → slice_get (classes_in m.items) c ≡ o → method_at o i ≡ Some d
        → Contains (bodies m) (record { owner = owners.Method c i; function = d })
    go None is e = absurd (none-some _ e)
    go (Some class) is e = Contains-append_right (function_bodies 0 (functions_in m.items))
        (class_bodies 0 (classes_in m.items)) _ (class_body 0 c c i (classes_in m.items) class d (omega arith) is e)

-- a body is what its owner is
record IsFunction (fs : List FuncDef) (i : ℕ) (make : ℕ → Owner) (b : Body) : Type 0 where
  at : ℕ
  number : ℕ
  sum : number ≡ i + at
  owner : b.owner ≡ make number
  is : slice_get fs at ≡ Some b.function

function_at : (i : ℕ) (fs : List FuncDef) (b : Body) → Contains (function_bodies i fs) b → IsFunction fs i owners.Func b
function_at i [] b c = absurd (none_among b c)
function_at i (f ∷ fs) b c = elim (among_first _ (function_bodies (suc i) fs) b c) [
  | inl e ↦ record {
    at = 0;
    number = i;
    sum = omega arith;
    owner = sym (ap (λ x. x.owner) e);
    is =
        ap (λ x. Some x.function) e;
  }
  | inr r ↦ let h = function_at (suc i) fs b r in let sum : h.number ≡ i + suc h.at = omega (arith, h.sum) in
      record { at = suc h.at; number = h.number; sum = sum; owner = h.owner; is = h.is }
]

method_in_body : (c i : ℕ) (fs : List FuncDef) (b : Body) → Contains (method_bodies c i fs) b
    → IsFunction fs i (owners.Method c) b
method_in_body c i [] b h = absurd (none_among b h)
method_in_body c i (f ∷ fs) b h = elim (among_first _ (method_bodies c (suc i) fs) b h) [
  | inl e ↦ record {
    at = 0;
    number = i;
    sum = omega arith;
    owner = sym (ap (λ x. x.owner) e);
    is =
        ap (λ x. Some x.function) e;
  }
  | inr r ↦ let k = method_in_body c (suc i) fs b r in let sum : k.number ≡ i + suc k.at = omega (arith, k.sum) in
      record { at = suc k.at; number = k.number; sum = sum; owner = k.owner; is = k.is }
]

record IsMethod (cs : List ClassDef) (c : ℕ) (b : Body) : Type 0 where
  at : ℕ
  class : ClassDef
  is : slice_get cs at ≡ Some class
  first : ℕ
  sum : first ≡ c + at
  number : ℕ
  owner : b.owner ≡ owners.Method first number
  method : slice_get (methods_in class.members) number ≡ Some b.function

class_at_body : (c : ℕ) (cs : List ClassDef) (b : Body) → Contains (class_bodies c cs) b → IsMethod cs c b
class_at_body c [] b h = absurd (none_among b h)
class_at_body c (x ∷ cs) b h = elim (Contains-append_cases (method_bodies c 0 (methods_in x.members))
    (class_bodies (suc c) cs) b h) [
      | inl a ↦
          let k = method_in_body c 0 (methods_in x.members) b a in
          let same : k.at ≡ k.number = omega (arith, k.sum) in
          record {
            at = 0;
            class = x;
            is = refl;
            first = c;
            sum = omega arith;
            number = k.number;
            owner = k.owner;
            method =
                subst (λ n. slice_get (methods_in x.members) n ≡ Some b.function) same k.is;
          }
      | inr r ↦
          let k = class_at_body (suc c) cs b r in
          let sum : k.first ≡ c + suc k.at = omega (arith, k.sum) in
          record {
            at = suc k.at;
            class = k.class;
            is = k.is;
            first = k.first;
            sum = sum;
            number = k.number;
            owner =
                k.owner;
            method = k.method;
          }
    ]

pub body_is : (m : Module) (b : Body) → Contains (bodies m) b → function_of m b.owner ≡ Some b.function
body_is m b h = elim (Contains-append_cases (function_bodies 0 (functions_in m.items))
    (class_bodies 0 (classes_in m.items)) b h) [
      | inl a ↦
          let k = function_at 0 (functions_in m.items) b a in
          let same : k.number ≡ k.at = omega (arith, k.sum) in
          ap (function_of m) k.owner ∙ ap (slice_get (functions_in m.items)) same ∙ k.is
      | inr r ↦
          let k = class_at_body 0 (classes_in m.items) b r in
          let same : k.first ≡ k.at = omega (arith, k.sum) in
          ap (function_of m) k.owner ∙ ap (λ n. method_at (slice_get (classes_in m.items) n) k.number) same
          ∙ ap (λ o. method_at o k.number) k.is ∙ k.method
    ]
