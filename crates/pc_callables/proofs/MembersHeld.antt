-- A class has, under the names that its members bind, these members.
use Rattle.std.proofs.Common.{◌≡◌, ℕ, suc, List, [], ◌∷◌, ◌++◌, refl, sym, ap, ◌∙◌, subst, append_assoc}
use Rattle.std.proofs.Common.{arith}
use Rattle.std.specs.Prelude.{Bool as Test, true, false, ◌&&◌, ◌||◌, not, cond, if◌then◌else◌, Option, Some, None, find}
use Rattle.std.specs.Prelude.{is_some, bytes_eq}
use Rattle.std.specs.Option.{option_map, option_or}
use Rattle.std.proofs.lemmas.Bool.{false≢true}
use Rattle.std.proofs.lemmas.List.Folds.{find-append}
use Rattle.std.proofs.lemmas.Option.{same_Some}
use Rattle.std.proofs.lemmas.Slice.Eq.{bytes_eq-Decides}
use Rattle.pc_tree.specs.Tree.{Literal, Field, FuncDef, Member, field_member, method_member, ClassDef, Module}
use Rattle.pc_scope.specs.Resolution.{is_one_of}
use Rattle.pc_types.specs.Below.{Bases, base_of}
use Rattle.pc_types.specs.Tree.{Tree}
use Rattle.pc_annotations.specs.Bases.{base_named, bases_of}
use Rattle.pc_class.specs.Built.{IsClassAt}
use Rattle.pc_class.specs.Entries.{parameter_made}
use Rattle.pc_class.specs.Facts.{TypedParameter, Method, ClassFacts, field_by_name, method_by_name, class_facts_at}
use Rattle.pc_class.specs.Facts.{base_facts, binds_field, binds_method, method_made, own_fields, own_methods}
use Rattle.pc_class.specs.Facts.{classes_of}
use Rattle.pc_class.proofs.ClassesBuilt.{base_here, class_is}
use Rattle.pc_rules.specs.Calls.{method_signature}
use Rattle.pc_rules.specs.Computed.Signatures.{no_name, default_findings}
use Rattle.pc_callables.specs.MembersHeld.{AreHeld}

-- ---- tests

all_false : (a b c : Test) → (not a && (not b && not c)) ≡ true → (b ≡ false) × (c ≡ false)
all_false true b c e = absurd (false≢true e)
all_false false true c e = absurd (false≢true e)
all_false false false true e = absurd (false≢true e)
all_false false false false e = (refl, refl)

both_false : (a b : Test) → (a || b) ≡ false → (a ≡ false) × (b ≡ false)
both_false true b e = absurd (false≢true (sym e))
both_false false b e = (refl, e)

none_there : {X : Type 0} (o : Option X) → is_some o ≡ false → o ≡ None
none_there None e = refl
none_there (Some x) e = absurd (false≢true (sym e))

same_name : (n : List ℕ) → bytes_eq n n ≡ true
same_name n = (bytes_eq-Decides n n).1 refl

-- ---- the first of a name

module _ {X : Type 0} (name : X → List ℕ) where
  abbrev first : List ℕ → List X → Option X
  first n xs = find (λ (x : X). bytes_eq n (name x)) xs

  -- one that is bound stands first
  bound_first : (b : Test) (x : X) (xs : List X) → b ≡ true
      → first (name x) ((if b then x ∷ [] else []) ++ xs) ≡ Some x
  bound_first b x xs e = ap (λ (c : Test). first (name x) ((if c then x ∷ [] else []) ++ xs)) e
      ∙ ap (λ (c : Test). cond c (Some x) (first (name x) xs)) (same_name (name x))

  -- one of another name is passed over
  passed : (n : List ℕ) (b : Test) (x : X) (xs : List X) → bytes_eq n (name x) ≡ false
      → first n ((if b then x ∷ [] else []) ++ xs) ≡ first n xs
  passed n true x xs e = ap (λ (c : Test). cond c (Some x) (first n xs)) e
  passed n false x xs e = refl

module _ (m : Module) (c : ℕ) (base : ClassFacts) where
  abbrev class : ClassFacts
  class = class_facts_at (classes_of m) c

  -- by a name that is not bound yet the class has the field that members to come bind, if its base has none
  abbrev FieldsAhead : List (List ℕ) → List Member → Type 0
  FieldsAhead before ms = (n : List ℕ) → is_one_of n before ≡ false → field_by_name base.fields n ≡ None
      → field_by_name class.fields n ≡ field_by_name (own_fields m base before ms) n

  -- and the method that members to come bind, or its base's
  abbrev MethodsAhead : ℕ → List (List ℕ) → List Member → Type 0
  MethodsAhead number before ms = (n : List ℕ) → is_one_of n before ≡ false
      → method_by_name class.methods n ≡ method_by_name (own_methods m base c number before ms ++ base.methods) n

  -- after one more member
  field_passed : (before : List (List ℕ)) (d : Field) (ms : List Member) → FieldsAhead before (field_member d ∷ ms)
      → FieldsAhead (d.name.text ∷ before) ms
  field_passed before d ms h n new none =
      let apart = both_false (bytes_eq n d.name.text) (is_one_of n before) new in
      h n apart.1 none ∙ passed (λ (p : TypedParameter). p.name) n (binds_field base before d.name.text)
      (parameter_made m d) (own_fields m base (d.name.text ∷ before) ms) apart.0

  method_passed : (number : ℕ) (before : List (List ℕ)) (d : FuncDef) (ms : List Member)
      → MethodsAhead number before (method_member d ∷ ms) → MethodsAhead (suc number) (d.name.text ∷ before) ms
  method_passed number before d ms h n new =
      let apart = both_false (bytes_eq n d.name.text) (is_one_of n before) new in
      let more = own_methods m base c (suc number) (d.name.text ∷ before) ms in
      let this = if binds_method base before d.name.text then method_made m c number d ∷ [] else [] in
      h n apart.1 ∙ ap (λ (l : List Method). method_by_name l n) (append_assoc this more base.methods)
      ∙ passed (λ (x : Method). x.name) n (binds_method base before d.name.text) (method_made m c number d)
      (more ++ base.methods) apart.0

  -- a member that binds its name
  field_here : (before : List (List ℕ)) (d : Field) (ms : List Member) → FieldsAhead before (field_member d ∷ ms)
      → binds_field base before d.name.text ≡ true
      → field_by_name class.fields d.name.text ≡ Some (parameter_made m d)
  field_here before d ms h binds =
      let parts = all_false _ _ _ binds in
      h d.name.text parts.0 (none_there (field_by_name base.fields d.name.text) (both_false _ _ parts.1).0)
      ∙ bound_first (λ (p : TypedParameter). p.name) (binds_field base before d.name.text) (parameter_made m d)
      (own_fields m base (d.name.text ∷ before) ms) binds

  method_here : (number : ℕ) (before : List (List ℕ)) (d : FuncDef) (ms : List Member)
      → MethodsAhead number before (method_member d ∷ ms) → binds_method base before d.name.text ≡ true
      → method_by_name class.methods d.name.text ≡ Some (method_made m c number d)
  method_here number before d ms h binds =
      let more = own_methods m base c (suc number) (d.name.text ∷ before) ms in
      let this = if binds_method base before d.name.text then method_made m c number d ∷ [] else [] in
      h d.name.text (all_false _ _ _ binds).0
      ∙ ap (λ (l : List Method). method_by_name l d.name.text) (append_assoc this more base.methods)
      ∙ bound_first (λ (x : Method). x.name) (binds_method base before d.name.text) (method_made m c number d)
      (more ++ base.methods) binds

  -- all members to come
  held_ahead : (number : ℕ) (before : List (List ℕ)) (ms : List Member) → FieldsAhead before ms
      → MethodsAhead number before ms → AreHeld m c base (λ t. is_one_of t before) ms
  held_ahead number before [] fields methods = tt
  held_ahead number before (field_member d ∷ ms) fields methods = (
    field_here before d ms fields,
    held_ahead number (d.name.text ∷ before) ms (field_passed before d ms fields)
        (λ n new. methods n (both_false (bytes_eq n d.name.text) (is_one_of n before) new).1),
  )
  held_ahead number before (method_member d ∷ ms) fields methods = (
    λ binds. ap (option_map method_signature) (method_here number before d ms methods binds),
    held_ahead (suc number) (d.name.text ∷ before) ms
        (λ n new none. fields n (both_false (bytes_eq n d.name.text) (is_one_of n before) new).1 none)
        (method_passed number before d ms methods),
  )

-- the members of a class of the module, which stands over this base
pub members_held : (m : Module) (c : ℕ) (class : ClassDef) (base : Option ℕ) → IsClassAt m c class
    → base ≡ base_of (bases_of m) c
    → AreHeld m c (base_facts (classes_of m) base) no_name class.members
members_held m c class base is based =
    subst (λ (o : Option ℕ). AreHeld m c (base_facts (classes_of m) o) no_name class.members)
    (sym (based ∙ base_here m c class is)) (held_ahead m c over 0 [] class.members fields methods)
  where
    over : ClassFacts
    over = base_facts (classes_of m) (base_named m c class.base)

    fields : FieldsAhead m c over [] class.members
    fields n new none = ap (λ (k : ClassFacts). field_by_name k.fields n) (class_is m c class is)
        ∙ find-append (λ (p : TypedParameter). bytes_eq n p.name) over.fields (own_fields m over [] class.members)
        ∙ ap (λ (o : Option TypedParameter). option_or o (field_by_name (own_fields m over [] class.members) n)) none

    methods : MethodsAhead m c over 0 [] class.members
    methods n new = ap (λ (k : ClassFacts). method_by_name k.methods n) (class_is m c class is)

-- ---- members held where a name is bound

none_some : {X : Type 0} (x : X) → None ≡ Some x → ⊥
none_some x e = grind (arith, e)

-- where nothing is held, no name is bound
pub unbound : {X Y : Type 0} (f : X → Y) (b : Test) (o : Option X) (y : Y) → None ≡ (if b then o else None)
    → (b ≡ true → option_map f o ≡ Some y) → b ≡ false
unbound f false o y none is = refl
unbound f true o y none is = absurd (none_some y (ap (option_map f) none ∙ is refl))

-- the held member is the one that is meant, and its name is bound
pub bound_as : {X Y : Type 0} (f : X → Y) (b : Test) (o : Option X) (x : X) (y : Y) → Some x ≡ (if b then o else None)
    → (b ≡ true → option_map f o ≡ Some y) → (b ≡ true) × (f x ≡ y)
bound_as f false o x y some is = absurd (none_some x (sym some))
bound_as f true o x y some is = (refl, same_Some (f x) y (ap (option_map f) some ∙ is refl))

-- into what binds no name nothing flows
pub no_default : (bases : Bases) (b : Test) (l : Option Literal) (t : Tree) → b ≡ false
    → default_findings bases b l t ≡ []
no_default bases b l t e = ap (λ (x : Test). default_findings bases x l t) e ∙ go l
  where
    go : (l : Option Literal) → default_findings bases false l t ≡ []
    go None = refl
    go (Some l) = refl
