-- The names that functions bind, one after another.
use Rattle.std.proofs.Common.{◌<◌, ◌≤◌, ◌-◌, zero, suc, append_assoc, arith, length, length-append, take}
use Rattle.std.proofs.lemmas.List.{append-nil}
use Rattle.std.proofs.Common.{◌≡◌, ◌∙◌, ℕ, List, [], ◌∷◌, ◌++◌, Bool, true, false, Option, Some, None, refl, sym, ap, ap₂, cond, map}
use Rattle.std.proofs.lemmas.List.Folds.{find-append}
use Rattle.std.specs.Map.{update}
use Rattle.std.specs.Option.{option_and_then, option_map, option_or}
use Rattle.std.specs.Prelude.{bytes_eq, filter, find, flat_map, if◌then◌else◌, is_some}
use Rattle.pc_source.specs.declared.place.Place.{Place}
use Rattle.pc_tree.specs.declared.tree.Expr.{Expr as RustExpr}
use Rattle.pc_tree.specs.declared.tree.Expr.TheVariants as rust
use Rattle.pc_tree.specs.declared.tree.Name.{Name as RustName}
use Rattle.pc_tree.specs.NamesAlone.{name_of_tree}
use Rattle.pc_tree.specs.Stopping.{bound_by}
use Rattle.pc_tree.specs.Tree.{Expr, FuncDef, Name, Module, expr_of, name}
use Rattle.pc_scope.specs.declared.resolution.Owner.{Owner}
use Rattle.pc_scope.specs.Bindings.{Body}
use Rattle.pc_scope.specs.Resolution.{function_of}
use Rattle.pc_types.specs.Tree.{Tree}
use Rattle.pc_detail_texts.specs.Details as detail
use Rattle.pc_detail_texts.specs.Details.{Detail, Early, Elsewhere}
use Rattle.pc_detail_texts.specs.Mapped.{map_detail, short_early, short_elsewhere}
use Rattle.pc_detail_texts.specs.Sentences.{Words}
use Rattle.pc_detail_texts.specs.Shown.{early_of_value}
use Rattle.pc_detail_texts.specs.declared.details.Early.{Early as RustEarly}
use Rattle.pc_detail_texts.specs.Shortened.{shortened}
use Rattle.pc_name_details.specs.declared.bindings.Bindings.{Bindings}
use Rattle.pc_detail_facts.specs.declared.definitions.Body.{Body as RustBody}
use Rattle.pc_detail_facts.specs.declared.facts.Facts.{Facts}
use Rattle.pc_detail_facts.specs.Held.{ShowsDetail, text_held}
use Rattle.pc_detail_rules.specs.Names.{class_around, elsewhere, elsewhere_among, elsewhere_or, first_named, names_of_body}
use Rattle.pc_detail_rules.specs.Names.{place_of_name, places_named, unassigned_detail, unknown_detail}
use Rattle.pc_detail_rules.specs.Nodes.{function_name, owned}
use Rattle.pc_name_details.specs.Uses.{AreBound, Binding, binding, binding_held, bindings_of, first_bound, first_three, pair_bound}
use Rattle.pc_name_details.specs.Uses.{place_bound}
use Rattle.pc_detail_facts.proofs.FirstNamed.{kept_first, put_first}

text_bound : Binding → List ℕ
text_bound b = b.name.text

-- what a map holds of a name, as the rules see it
held_of : Bindings → List ℕ → Option (Body × Place)
held_of b word = option_map pair_bound (binding_held b word)

some_mapped : (o : Option (RustBody × Place)) (t : Bool) → is_some o ≡ t → is_some (option_map pair_bound o) ≡ t
some_mapped None t h = h
some_mapped (Some x) t h = h

put_mapped : (t : Bool) (o p : Option (RustBody × Place))
    → option_map pair_bound (cond t o p) ≡ cond t (option_map pair_bound o) (option_map pair_bound p)
put_mapped true o p = refl
put_mapped false o p = refl

pub kept_binding : (bs : List Binding) (f : Bindings) (b : Binding) (word : List ℕ) → word ≡ b.name.text → AreBound f bs
    → is_some (binding_held f word) ≡ true → AreBound f (bs ++ b ∷ [])
unfolding text_bound held_of
kept_binding bs f b word e h has = record {
  at = kept_first text_bound place_bound (held_of f) bs b h.at
      (ap (λ t. is_some (held_of f t)) (sym e) ∙ some_mapped (binding_held f word) true has);
}

pub added_binding : (bs : List Binding) (f g : Bindings) (b : Binding) (v : RustBody × Place) (word : List ℕ)
    → word ≡ b.name.text → pair_bound v ≡ place_bound b → AreBound f bs → is_some (binding_held f word) ≡ false
    → ((cs : List ℕ) → binding_held g cs ≡ update bytes_eq (binding_held f) word (Some v) cs) → AreBound g (bs ++ b ∷ [])
unfolding text_bound held_of
added_binding bs f g b v word e same h none updates = record {
  at = put_first text_bound place_bound (held_of f) bs b h.at
      (ap (λ t. is_some (held_of f t)) (sym e) ∙ some_mapped (binding_held f word) false none) (held_of g)
      (λ cs. ap (option_map pair_bound) (updates cs) ∙ put_mapped (bytes_eq word cs) (Some v) (binding_held f cs)
      ∙ ap (λ (x : Body × Place). cond (bytes_eq word cs) (Some x) (held_of f cs)) same
      ∙ ap (λ t. cond (bytes_eq t cs) (Some (place_bound b)) (held_of f cs)) e);
}

-- ---- where a name is bound

-- the function of the first binding of a name, and its place
bound_or : Module → Option (Body × Place) → Elsewhere → Elsewhere
bound_or m None other = other
bound_or m (Some v) other = detail.in_function (function_name m v.0) v.1

found_in : (b : Body) (word : List ℕ) (ns : List Name)
    → find (λ (x : Binding). bytes_eq word x.name.text) (map (binding b) ns) ≡ option_map (binding b) (first_named word ns)
found_in b word [] = refl
found_in b word (n ∷ ns) = by (found_in b word ns) (bytes_eq word n.text)
  where
    by : find (λ (x : Binding). bytes_eq word x.name.text) (map (binding b) ns) ≡ option_map (binding b) (first_named word ns)
        → (t : Bool) → cond t (Some (binding b n)) (find (λ (x : Binding). bytes_eq word x.name.text) (map (binding b) ns))
        ≡ option_map (binding b) (cond t (Some n) (first_named word ns))
    by e true = refl
    by e false = e

-- the first binding of a name among all is that of the first function that binds it
elsewhere_from : (m : Module) (word : List ℕ) (bs : List Body)
    → bound_or m (option_map place_bound (first_bound word (flat_map bindings_of bs))) detail.nowhere
    ≡ elsewhere_among m word bs
unfolding bound_or
elsewhere_from m word [] = refl
elsewhere_from m word (b ∷ rest) =
    ap (λ (o : Option Binding). bound_or m (option_map place_bound o) detail.nowhere)
    (find-append (λ (x : Binding). bytes_eq word x.name.text) (bindings_of b) (flat_map bindings_of rest)
    ∙ ap (λ (o : Option Binding). option_or o (first_bound word (flat_map bindings_of rest)))
    (found_in b word (names_of_body b))) ∙ by (elsewhere_from m word rest) (first_named word (names_of_body b))
  where
    by : bound_or m (option_map place_bound (first_bound word (flat_map bindings_of rest))) detail.nowhere
        ≡ elsewhere_among m word rest → (o : Option Name) → bound_or m (option_map place_bound
        (option_or (option_map (binding b) o) (first_bound word (flat_map bindings_of rest)))) detail.nowhere
        ≡ elsewhere_or (function_name m b) o (elsewhere_among m word rest)
    by e None = e
    by e (Some n) = refl

-- where a name is bound that a map holds
pub elsewhere_held : (m : Module) (f : Bindings) (word : List ℕ) (bs : List Body) (v : RustBody × Place)
    → AreBound f (flat_map bindings_of bs) → Some v ≡ binding_held f word
    → detail.in_function (function_name m (pair_bound v).0) v.1 ≡ elsewhere_among m word bs
unfolding bound_or
elsewhere_held m f word bs v h e =
    ap (λ (o : Option (RustBody × Place)). bound_or m (option_map pair_bound o) detail.nowhere) e
    ∙ ap (λ (o : Option (Body × Place)). bound_or m o detail.nowhere) (h.at word) ∙ elsewhere_from m word bs

-- and of one that it does not hold
pub nowhere_held : (m : Module) (f : Bindings) (word : List ℕ) (bs : List Body) → AreBound f (flat_map bindings_of bs)
    → None ≡ binding_held f word → detail.nowhere ≡ elsewhere_among m word bs
unfolding bound_or
nowhere_held m f word bs h e =
    ap (λ (o : Option (RustBody × Place)). bound_or m (option_map pair_bound o) detail.nowhere) e
    ∙ ap (λ (o : Option (Body × Place)). bound_or m o detail.nowhere) (h.at word) ∙ elsewhere_from m word bs

-- ---- the first three places

take_none : (ps : List Place) → take 0 ps ≡ []
take_none ps = refl

take_nothing : (n : ℕ) → ◌≡◌ {A = List Place} (take n []) []
take_nothing zero = refl
take_nothing (suc n) = refl

-- three places are enough
pub enough_places : (seen : List Place) (xs ys : List Place) → length seen ≤ 3 → 3 ≤ length seen
    → first_three seen xs ≡ first_three seen ys
enough_places seen xs ys few h =
    let e : 3 - length seen ≡ 0 = omega arith in
    ap (λ n. seen ++ take n xs) e ∙ sym (ap (λ n. seen ++ take n ys) e)

-- another name adds nothing
pub other_name : (word : List ℕ) (seen : List Place) (n : Name) (rest : List Name) → bytes_eq word n.text ≡ false
    → first_three seen (places_named word rest) ≡ first_three seen (places_named word (n ∷ rest))
other_name word seen n rest h = sym (ap (λ (b : Bool). first_three seen (map place_of_name
    (if b then n ∷ filter (λ (x : Name). bytes_eq word x.text) rest else filter (λ (x : Name). bytes_eq word x.text) rest))) h)

-- the next place
pub next_place : (word : List ℕ) (seen : List Place) (n : Name) (rest : List Name) → length seen < 3
    → bytes_eq word n.text ≡ true
    → first_three (seen ++ n.place ∷ []) (places_named word rest) ≡ first_three seen (places_named word (n ∷ rest))
next_place word seen n rest less h =
    let more = places_named word rest in
    let e : 3 - length (seen ++ n.place ∷ []) ≡ 2 - length seen = omega (arith, length-append seen (n.place ∷ [])) in
    let f : suc (2 - length seen) ≡ 3 - length seen = omega arith in
    ap (λ k. (seen ++ n.place ∷ []) ++ take k more) e ∙ append_assoc seen (n.place ∷ []) (take (2 - length seen) more)
    ∙ ap (λ k. seen ++ take k (n.place ∷ more)) f
    ∙ sym (ap (λ (b : Bool). first_three seen (map place_of_name
    (if b then n ∷ filter (λ (x : Name). bytes_eq word x.text) rest else filter (λ (x : Name). bytes_eq word x.text) rest))) h)

-- no place is left
pub places_ended : (seen : List Place) → first_three seen [] ≡ seen
places_ended seen = ap (λ l. seen ++ l) (take_nothing (3 - length seen)) ∙ append-nil seen

-- ---- names alone

-- an expression that is no name
pub not_name : (e : RustExpr) → ((n : RustName) → e ≡ rust.Name n → ⊥) → name_of_tree (expr_of e) ≡ None
not_name (rust.Name n) h = absurd (h n refl)
not_name (rust.Int p digits) h = refl
not_name (rust.Str p characters) h = refl
not_name (rust.True p) h = refl
not_name (rust.False p) h = refl
not_name (rust.NoneValue p) h = refl
not_name (rust.Tuple' p shape items) h = refl
not_name (rust.List' p shape items) h = refl
not_name (rust.Dict' p shape entries) h = refl
not_name (rust.Negative' p q e) h = refl
not_name (rust.Not' p q e) h = refl
not_name (rust.Binary' p operator q l s r) h = refl
not_name (rust.Compare' p operator q l s r) h = refl
not_name (rust.IsNone' p q e) h = refl
not_name (rust.IsNotNone' p q e) h = refl
not_name (rust.And' p q l s r) h = refl
not_name (rust.Or' p q l s r) h = refl
not_name (rust.Attribute' p q e field) h = refl
not_name (rust.Index' p q e s i) h = refl
not_name (rust.Call' p q e shape arguments shape' keywords) h = refl

-- what is no name has no detail of an unknown name
pub unknown_none : (facts : Facts) (m : Module) (owner : Owner) (e : Expr) → name_of_tree e ≡ None
    → ShowsDetail facts (unknown_detail m (owned owner e)) None
unknown_none facts m owner e h = sym (ap (λ (o : Option Name). option_map (map_detail (text_held facts)) (option_map
    (λ (n : Name). detail.unknown_name n.text (elsewhere m n.text (class_around m n.text owner))) o)) h)

-- an unknown name, as it is shown
pub unknown_shown : (m : Module) (owner : Owner) (n : Name) (w t : List ℕ) (e : Elsewhere) → w ≡ shortened t → t ≡ n.text
    → e ≡ short_elsewhere (elsewhere m t (class_around m t owner)) → ◌≡◌ {A = Detail Words} (detail.unknown_name w e)
    (detail.unknown_name (shortened n.text) (short_elsewhere (elsewhere m n.text (class_around m n.text owner))))
unknown_shown m owner n w t e v h g =
    let made : List ℕ → Elsewhere → Detail Words = λ x y. detail.unknown_name x y in
    ap₂ made (v ∙ ap shortened h) (g ∙ ap (λ (x : List ℕ). short_elsewhere (elsewhere m x (class_around m x owner))) h)

-- ---- locals without a value

-- what is no name has no detail of a local
pub unassigned_none : (facts : Facts) (m : Module) (owner : Owner) (e : Expr) → name_of_tree e ≡ None
    → ShowsDetail facts (unassigned_detail m (owned owner e)) None
unassigned_none facts m owner e h = sym (ap (λ (o : Option Name). option_map (map_detail (text_held facts))
    (option_and_then (λ (n : Name). option_map
    (λ (f : FuncDef). detail.unassigned n.text (take 3 (places_named n.text (bound_by f.body)))) (function_of m owner)) o)) h)

-- a local without a function has no detail
pub unassigned_outside : (facts : Facts) (m : Module) (owner : Owner) (n : Name) → None ≡ function_of m owner
    → ShowsDetail facts (unassigned_detail m (owned owner (name n))) None
unassigned_outside facts m owner n h = ap (λ (o : Option FuncDef). option_map (map_detail (text_held facts)) (option_map
    (λ (f : FuncDef). detail.unassigned n.text (take 3 (places_named n.text (bound_by f.body)))) o)) h

-- a local with its first three bindings, as it is shown
pub unassigned_shown : (facts : Facts) (m : Module) (owner : Owner) (n : Name) (f : FuncDef) (w t : List ℕ) (ps : List Place)
    → Some f ≡ function_of m owner → w ≡ shortened t → t ≡ n.text → ps ≡ first_three [] (places_named t (bound_by f.body))
    → ◌≡◌ {A = Option (Detail Words)} (Some (detail.unassigned w ps))
    (option_map (map_detail (text_held facts)) (unassigned_detail m (owned owner (name n))))
unassigned_shown facts m owner n f w t ps h v e g =
    let made : List ℕ → List Place → Option (Detail Words) = λ x y. Some (detail.unassigned x y) in
    ap₂ made (v ∙ ap shortened e) (g ∙ ap (λ (x : List ℕ). first_three [] (places_named x (bound_by f.body))) e)
    ∙ ap (λ (o : Option FuncDef). option_map (map_detail (text_held facts)) (option_map
    (λ (d : FuncDef). detail.unassigned n.text (take 3 (places_named n.text (bound_by d.body)))) o)) h

-- ---- names that are used too early

-- what is used too early, as it is shown
pub early_shown : (text : Tree → Words) (x : RustEarly) (o : Option Early)
    → option_map early_of_value (Some x) ≡ option_map short_early o
    → Some (detail.early (early_of_value x)) ≡ option_map (map_detail text) (option_map detail.early o)
early_shown text x None h = let never : ⊥ = cc in absurd never
early_shown text x (Some e) h = let same : early_of_value x ≡ short_early e = cc in
    ap (λ (y : Early). Some (detail.early y)) same
