-- The members of classes after a field with a default, one after another.
use Rattle.std.proofs.Common.{◌≡◌, ◌∙◌, ◌<◌, ◌+◌, ◌&&◌, ◌++◌, ◌∷◌, [], ℕ, zero, suc, List, Bool, true, false, not}
use Rattle.std.proofs.Common.{Option, Some, None}
use Rattle.std.proofs.Common.{ap, ap₂, append_assoc, arith, cond, get_or, inl, inr, length, length-take, map, refl, sym}
use Rattle.std.proofs.Common.{take}
use Rattle.std.proofs.Common.{◌⊎◌}
use Rattle.std.proofs.lemmas.Option.{none-some, same_Some, slice_get-map, slice_get_cases, slice_get_read}
use Rattle.std.proofs.lemmas.Option.{slice_get_within}
use Rattle.std.proofs.lemmas.List.{length-map}
use Rattle.std.proofs.lemmas.List.Folds.{find-append}
use Rattle.std.proofs.lemmas.Grind.{flat_map-append}
use Rattle.std.specs.Borrow.{Bor}
use Rattle.std.specs.Option.{option_map, option_or}
use Rattle.std.specs.Prelude.{filter, find, flat_map, if◌then◌else◌, is_none, is_some, slice_get}
use Rattle.pc_source.specs.declared.place.Place.{Place}
use Rattle.pc_tree.specs.declared.code.Code.{Code}
use Rattle.pc_tree.specs.declared.tree.ClassDef.{ClassDef as RustClass}
use Rattle.pc_tree.specs.Stopping.{name_of_member}
use Rattle.pc_tree.specs.Tree.{ClassDef, Member, Module, Name}
use Rattle.pc_scope.specs.Bindings.{classes_in}
use Rattle.pc_scope.specs.Resolution.{is_one_of}
use Rattle.pc_types.specs.Below.{base_of}
use Rattle.pc_types.specs.Tree.{Tree}
use Rattle.pc_annotations.specs.Bases.{bases_of}
use Rattle.pc_annotations.proofs.Earlier.{smaller}
use Rattle.pc_class.specs.Entries.{MemberEntry}
use Rattle.pc_class.proofs.ClassesBuilt.{has_base}
use Rattle.pc_notes.specs.Notes.{or_else}
use Rattle.pc_detail_texts.specs.Details.{Detail}
use Rattle.pc_detail_facts.specs.declared.facts.Facts.{Facts}
use Rattle.pc_name_details.specs.declared.offers.Offers.{Offers}
use Rattle.pc_name_details.specs.declared.class_members.OwnedMember.{OwnedMember as RustOwned}
use Rattle.pc_name_details.specs.declared.first_places.FirstPlaces.{FirstPlaces}
use Rattle.pc_detail_facts.specs.Held.{class_lent}
use Rattle.pc_detail_rules.specs.Names.{NumberedClass, OwnedMember, bound_member, first_from, first_named, first_of_all}
use Rattle.pc_detail_rules.specs.Names.{has_default}
use Rattle.pc_detail_rules.specs.Names.{members_above, members_of_number, numbered_from, place_of_name}
use Rattle.pc_name_details.specs.Naming.{AreFirst, AreFirstDefaults, first_default, first_default_above, first_default_after}
use Rattle.pc_name_details.specs.Naming.{first_default_of, owned_member, place_held}
use Rattle.pc_name_details.specs.Offered.{AddsDetails, of_code, at_place}
use Rattle.pc_name_details.proofs.BoundMembers.{bound_of, is_before, names_onto, own}
use Rattle.pc_name_details.proofs.ClassesAbove.{members_above_base, members_above_root}
use Rattle.pc_name_details.proofs.NamingSteps.{all_more, from_more, mapped_more, next_added}

-- ---- lists

-- an item of a list
pub item_at : {A : Type 0} (xs : List A) (i : ℕ) → i < length xs → (x : A) × (x ≡ get_or xs i x)
item_at [] i h = absurd (omega arith)
item_at (x ∷ xs) zero h = (x, refl)
item_at (x ∷ xs) (suc i) h = item_at xs i (omega arith)

-- the detail of one more, by those before it
pub from_one_more : {B : Type 0} (facts : Facts) (c : Code) (place : B → Place) (rule : List B → B → Option (Detail Tree))
    (xs : List B) (x : B) (a b o : Offers) → AddsDetails facts (of_code c (λ p. first_from place rule p [] xs)) a b
    → AddsDetails facts (of_code c (at_place (place x) (rule xs x))) b o
    → AddsDetails facts (of_code c (λ p. first_from place rule p [] (xs ++ x ∷ []))) a o
from_one_more facts c place rule xs x a b o h g = next_added facts c (λ p. first_from place rule p [] xs)
    (at_place (place x) (rule xs x)) (λ p. first_from place rule p [] (xs ++ x ∷ [])) a b o h g
    (λ p. sym (from_more place rule p [] xs x))

-- ---- classes with their numbers

-- a class with its number
abbrev pub numbered : ℕ → ClassDef → NumberedClass
numbered c d = record { number = c; class = d }

-- one class more
pub numbered_more : (n : ℕ) (cs : List ClassDef) (d : ClassDef)
    → numbered_from n (cs ++ d ∷ []) ≡ numbered_from n cs ++ numbered (n + length cs) d ∷ []
numbered_more n [] d = ap (λ (k : ℕ). numbered k d ∷ []) (omega arith)
numbered_more n (x ∷ xs) d = ap (λ (l : List NumberedClass). numbered n x ∷ l) (numbered_more (suc n) xs d
    ∙ ap (λ (k : ℕ). numbered_from (suc n) xs ++ numbered k d ∷ []) (omega arith))

-- a class of the module has its number
pub class_numbered : (items : List (Bor RustClass)) (cs : List ClassDef) (i : ℕ) (x : Bor RustClass) → i < length items
    → x ≡ get_or items i x → map class_lent items ≡ cs → slice_get cs i ≡ Some (class_lent x)
class_numbered items cs i x less is e = ap (λ (l : List ClassDef). slice_get l i) (sym e)
    ∙ slice_get-map class_lent items i ∙ ap (option_map class_lent) (slice_get_read items (length items) i x refl less is)

-- the details of one class more, by its number
pub numbered_next : (facts : Facts) (c : Code) (rule : Place → NumberedClass → Option (Detail Tree))
    (items : List (Bor RustClass)) (i : ℕ) (x : Bor RustClass) → i < length items → x ≡ get_or items i x
    → (a b o : Offers)
    → AddsDetails facts (of_code c (λ p. first_of_all (rule p) (numbered_from 0 (map class_lent (take i items))))) a b
    → AddsDetails facts (of_code c (λ p. rule p (numbered i (class_lent x)))) b o
    → AddsDetails facts (of_code c (λ p. first_of_all (rule p) (numbered_from 0 (map class_lent (take (i + 1) items))))) a o
numbered_next facts c rule items i x less is a b o h g =
    let before = map class_lent (take i items) in
    let this = numbered i (class_lent x) in
    let count : 0 + length (map class_lent (take i items)) ≡ i =
    omega (arith, length-map (take i items) class_lent, length-take i items) in
    let more : numbered_from 0 (map class_lent (take (i + 1) items)) ≡ numbered_from 0 before ++ this ∷ [] =
    ap (numbered_from 0) (mapped_more class_lent items i x less is) ∙ numbered_more 0 before (class_lent x)
    ∙ ap (λ (k : ℕ). numbered_from 0 before ++ numbered k (class_lent x) ∷ []) count in
    next_added facts c (λ p. first_of_all (rule p) (numbered_from 0 before)) (λ p. rule p this)
    (λ p. first_of_all (rule p) (numbered_from 0 (map class_lent (take (i + 1) items)))) a b o h g
    (λ p. sym (ap (first_of_all (rule p)) more ∙ all_more (rule p) (numbered_from 0 before) this))

-- ---- defaults

-- the members that entries bind are those of each entry
pub bound_each : (class : ClassDef) (es : List MemberEntry) → bound_of class es ≡ flat_map (bound_member class) es
bound_each class [] = refl
bound_each class (e ∷ es) = by e.binds (bound_each class es)
  where
    by : (b : Bool) → bound_of class es ≡ flat_map (bound_member class) es
        → map (λ (x : MemberEntry). own class x.member) (cond b (e ∷ filter (λ (x : MemberEntry). x.binds) es)
        (filter (λ (x : MemberEntry). x.binds) es))
        ≡ (if b then own class e.member ∷ [] else []) ++ flat_map (bound_member class) es
    by true h = ap (λ (l : List OwnedMember). own class e.member ∷ l) h
    by false h = h

-- the first member with a default, one entry more
pub default_after : (class : ClassDef) (above : List OwnedMember) (es : List MemberEntry) (e : MemberEntry)
    (before : Option OwnedMember) (binds : Bool) → before ≡ first_default (above ++ flat_map (bound_member class) es)
    → binds ≡ e.binds
    → first_default_after before (own class e.member) binds
    ≡ first_default (above ++ flat_map (bound_member class) (es ++ e ∷ []))
default_after class above es e before binds h g =
    ap (λ (b : Bool). first_default_after before (own class e.member) b) g
    ∙ ap (λ (o : Option OwnedMember). first_default_after o (own class e.member) e.binds) h
    ∙ sym (ap first_default (ap (λ (l : List OwnedMember). above ++ l)
    (flat_map-append (bound_member class) es (e ∷ []))
    ∙ sym (append_assoc above (flat_map (bound_member class) es) (flat_map (bound_member class) (e ∷ []))))
    ∙ find-append (λ (o : OwnedMember). has_default o.member) (above ++ flat_map (bound_member class) es)
    (flat_map (bound_member class) (e ∷ []))
    ∙ by (first_default (above ++ flat_map (bound_member class) es)) e.binds (has_default e.member) refl)
  where
    by : (o : Option OwnedMember) (b d : Bool) → has_default e.member ≡ d
        → option_or o (find (λ (x : OwnedMember). has_default x.member)
        ((if b then own class e.member ∷ [] else []) ++ []))
        ≡ or_else o (if b && has_default e.member then Some (own class e.member) else None)
    by (Some x) b d q = refl
    by None true true q = rw q refl
    by None true false q = rw q refl
    by None false d q = refl

-- ---- the first defaults of classes

-- a list with one item more
push_cases : {A : Type 0} (xs : List A) (y : A) (i : ℕ) (p : A) → slice_get (xs ++ y ∷ []) i ≡ Some p
    → (slice_get xs i ≡ Some p) ⊎ ((i ≡ length xs) × (y ≡ p))
push_cases [] y zero p e = inr (refl, same_Some y p e)
push_cases [] y (suc i) p e = let never : ⊥ = none-some p e in absurd never
push_cases (x ∷ xs) y zero p e = inl e
push_cases (x ∷ xs) y (suc i) p e = elim (push_cases xs y i p e) [
  | inl f ↦ inl f
  | inr f ↦ inr (ap suc f.0, f.1)
]

-- no first defaults
pub no_defaults : (m : Module) → AreFirstDefaults m []
no_defaults m = record { each = λ c p d e is. absurd (never c p e) }
  where
    never : (c : ℕ) (p : Option RustOwned) → slice_get [] c ≡ Some p → ⊥
    never zero p e = none-some p e
    never (suc c) p e = none-some p e

-- the first defaults of one class more
pub defaults_more : (m : Module) (first : List (Option RustOwned)) (o : Option RustOwned) (class : ClassDef)
    → AreFirstDefaults m first → slice_get (classes_in m.items) (length first) ≡ Some class
    → option_map owned_member o ≡ first_default_of m (numbered (length first) class)
    → AreFirstDefaults m (first ++ o ∷ [])
defaults_more m first o class h at here = record {
  each = λ c p d e is. elim (push_cases first o c p e) [
    | inl f ↦ h.each c p d f is
    | inr f ↦ let same : class ≡ d = same_Some class d (sym at
        ∙ ap (slice_get (classes_in m.items)) (sym f.0) ∙ is) in
        ap (option_map owned_member) (sym f.1) ∙ here
        ∙ ap₂ (λ (k : ℕ) (y : ClassDef). first_default_of m (numbered k y)) (sym f.0) same
  ];
}

-- the first default above a class is that of its base
pub above_default : (m : Module) (first : List (Option RustOwned)) (c b : ℕ) (o : Option RustOwned)
    → AreFirstDefaults m first → base_of (bases_of m) c ≡ Some b → slice_get first b ≡ Some o
    → option_map owned_member o ≡ first_default_above m c
above_default m first c b o h e at =
    let less : b < c = smaller m c b e in
    let based = has_base m c b e in
    let within = slice_get_within (classes_in m.items) c based.class based.is in
    let up = members_above_base m c b e in
    elim (slice_get_cases (classes_in m.items) b).1 [
      | inl q ↦ h.each b o q.0 at q.2 ∙ ap first_default (ap (λ (k : Option ClassDef). members_above m b
          ++ members_of_number m b k) (sym q.2) ∙ sym up)
      | inr q ↦ absurd (omega (arith, less, within, q.0))
    ]

-- no default is above a class without a base
pub no_default : (m : Module) (c : ℕ) → base_of (bases_of m) c ≡ None → None ≡ first_default_above m c
no_default m c e = sym (ap first_default (members_above_root m c e))

-- ---- the names before a member

-- a name is new where no place is held of it
pub new_name : (f : FirstPlaces) (xs : List Member) (w : List ℕ) → AreFirst f (map name_of_member xs)
    → not (is_one_of w (names_onto [] xs)) ≡ is_none (place_held f w)
new_name f xs w h = ap not (is_before w [] xs) ∙ by (first_named w (map name_of_member xs)) ∙ ap is_none (sym (h.at w))
  where
    by : (o : Option Name) → not (is_some o) ≡ is_none (option_map place_of_name o)
    by None = refl
    by (Some n) = refl
