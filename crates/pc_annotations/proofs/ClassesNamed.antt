-- The names of the classes of a module, as a walk over its items lists them, and one of them by its number.
use Rattle.std.proofs.Common.{◌≡◌, ◌<◌, ◌≤◌, ◌+◌, ◌++◌, ℕ, List, [], ◌∷◌, length, map, take, get_or, refl, sym, ap, ◌∙◌}
use Rattle.std.specs.Prelude.{Option, Some, None, slice_get, IfSome, MatchOption}
use Rattle.std.specs.Borrow.{Bor}
use Rattle.std.specs.Option.{option_map}
use Rattle.std.proofs.lemmas.Option.{same_Some, slice_get-map, slice_get_read, slice_get_past}
use Rattle.std.proofs.lemmas.List.{map-append}
use Rattle.std.proofs.lemmas.List.Elements.{filter_map-append}
use Rattle.pc_source.specs.declared.place.Place.{Place}
use Rattle.pc_tree.specs.declared.tree.ClassDef.{ClassDef as RustClass}
use Rattle.pc_tree.specs.declared.tree.Item.{Item as RustItem}
use Rattle.pc_tree.specs.declared.tree.ItemKind.{ItemKind}
use Rattle.pc_tree.specs.declared.tree.ItemKind.TheVariants as rust_item
use Rattle.pc_tree.specs.Tree.{ClassDef, Item, item_of, item_of_kind}
use Rattle.pc_tree.proofs.Stops.{more_at}
use Rattle.pc_scope.specs.Bindings.{as_class, classes_in}
use Rattle.pc_annotations.specs.Text.{name_in}

-- the names of these classes
abbrev pub names_of : List ClassDef → List (List ℕ)
names_of cs = map (λ c. c.name.text) cs

-- an item that is no class
pub not_class : (p : Place) (k : ItemKind) → ((c : RustClass) → k ≡ rust_item.Class c → ⊥)
    → as_class (item_of_kind p k) ≡ None
not_class p (rust_item.Class c) n = absurd (n c refl)
not_class p _ n = refl

-- the names with those of an item more
pub names_next : (items : List RustItem) (i : ℕ) (x : RustItem) → i < length items → x ≡ get_or items i x
    → (old new : List (List ℕ)) → old ≡ names_of (classes_in (map item_of (take i items)))
    → new ≡ old ++ names_of (classes_in (item_of x ∷ []))
    → new ≡ names_of (classes_in (map item_of (take (i + 1) items)))
names_next items i x less is old new before here =
    let front = map item_of (take i items) in
    let this = item_of x ∷ [] in
    here ∙ ap (λ names. names ++ names_of (classes_in this)) before
    ∙ sym (map-append (λ (c : ClassDef). c.name.text) (classes_in front) (classes_in this))
    ∙ ap names_of (sym (filter_map-append as_class front this))
    ∙ ap (λ (items : List Item). names_of (classes_in items)) (sym (more_at item_of items i x less is))

-- the text that was found in a list, empty if there is none
abbrev pub text_lent : Option (Bor (Bor (List ℕ))) → List ℕ
text_lent None = []
text_lent (Some x) = x.now.now

-- the text found is the name of the class with this number
pub name_at : (Q : Bor (List ℕ) → Type 0) (names : List (Bor (List ℕ))) (cs : List ClassDef) (k : ℕ)
    (o : Option (Bor (Bor (List ℕ)))) → map (λ n. n.now) names ≡ names_of cs → IfSome o (λ x. x.now ≡ get_or names k x.now)
    → MatchOption o (length names ≤ k) (λ x. (k < length names) × Q x.now) → text_lent o ≡ name_in (slice_get cs k)
name_at Q names cs k o all is within = go o is within
  where
    same : option_map (λ (n : Bor (List ℕ)). n.now) (slice_get names k)
        ≡ option_map (λ (c : ClassDef). c.name.text) (slice_get cs k)
    same = sym (slice_get-map (λ (n : Bor (List ℕ)). n.now) names k) ∙ ap (λ texts. slice_get texts k) all
        ∙ slice_get-map (λ (c : ClassDef). c.name.text) cs k

    some : (t : List ℕ) (c : Option ClassDef) → Some t ≡ option_map (λ (c : ClassDef). c.name.text) c → t ≡ name_in c
    some t None e = absurd (cc)
    some t (Some c) e = same_Some _ _ e

    none : (c : Option ClassDef) → None ≡ option_map (λ (c : ClassDef). c.name.text) c → [] ≡ name_in c
    none None e = refl
    none (Some c) e = absurd (cc)

    go : (o : Option (Bor (Bor (List ℕ)))) → IfSome o (λ x. x.now ≡ get_or names k x.now)
        → MatchOption o (length names ≤ k) (λ x. (k < length names) × Q x.now) → text_lent o ≡ name_in (slice_get cs k)
    go None is within = none (slice_get cs k) (ap (option_map (λ (n : Bor (List ℕ)). n.now))
        (sym (slice_get_past names k within)) ∙ same)
    go (Some x) is within = some x.now.now (slice_get cs k) (ap (option_map (λ (n : Bor (List ℕ)). n.now))
        (sym (slice_get_read names (length names) k x.now refl within.0 is)) ∙ same)
