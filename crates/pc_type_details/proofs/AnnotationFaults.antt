-- The types of annotations that are written out, one after another, and the faults of annotations.
use Rattle.std.proofs.Common.{◌≡◌, ◌≢◌, ◌∙◌, ◌<◌, ◌+◌, ◌++◌, ℕ, zero, suc, List, [], ◌∷◌, Bool, true, false}
use Rattle.std.proofs.Common.{Option, Some, None}
use Rattle.std.proofs.Common.{refl, sym, ap, take, length, get_or, arith}
use Rattle.std.proofs.lemmas.Bool.{leb-true}
use Rattle.std.proofs.lemmas.List.Folds.{list_all-append}
use Rattle.std.specs.Prelude.{◌&&◌, if◌then◌else◌}
use Rattle.std.specs.List.{list_all}
use Rattle.std.specs.Option.{option_map}
use Rattle.pc_tree.specs.declared.tree.Ann.{Ann as RustAnn}
use Rattle.pc_tree.specs.Tree.{Ann, Module, ann_of}
use Rattle.pc_scope.specs.declared.resolution.Builtin.{Builtin}
use Rattle.pc_scope.specs.declared.resolution.Builtin.TheVariants as builtin
use Rattle.pc_types.specs.Below.{Bases}
use Rattle.pc_types.specs.Shape.{node_limit, nodes}
use Rattle.pc_types.specs.Tree.{Tree}
use Rattle.pc_annotations.specs.Annotations.{read_anns, reading}
use Rattle.pc_annotations.specs.Bases.{bases_of}
use Rattle.pc_annotations.specs.Listed.{anns_of_list}
use Rattle.pc_annotations.proofs.Each.{readings_more}
use Rattle.pc_detail_texts.specs.Details as detail
use Rattle.pc_detail_texts.specs.Details.{Clash}
use Rattle.pc_detail_texts.specs.Mapped.{map_annotation, map_clash, map_detail}
use Rattle.pc_detail_texts.specs.Sentences.{Words}
use Rattle.pc_detail_texts.specs.Shortened.{shortened}
use Rattle.pc_detail_rules.specs.Annotations.{fault_of_applied, is_shown}
use Rattle.pc_detail_rules.specs.Annotations.{shown_all, shown_fault, shown_reading, shown_readings, told_nodes}
use Rattle.pc_type_details.proofs.AnnotationNodes.{as_many, told_whole}

-- ---- types that are written out

-- a type that is written out
record IsShown (r t : Tree) : Type 0 where
  shown : is_shown r ≡ true
  same : r ≡ t

shown_is : (r t : Tree) → Some t ≡ (if is_shown r then Some r else None) → IsShown r t
shown_is r t = by (is_shown r) refl
  where
    by : (b : Bool) → is_shown r ≡ b → Some t ≡ (if b then Some r else None) → IsShown r t
    by true e h = record { shown = e; same = cc }
    by false e h = let never : ⊥ = cc in absurd never

-- a type that is not
large_is : (r : Tree) → None ≡ (if is_shown r then Some r else None) → is_shown r ≡ false
large_is r = by (is_shown r) refl
  where
    by : (b : Bool) → is_shown r ≡ b → None ≡ (if b then Some r else None) → is_shown r ≡ false
    by true e h = let never : ⊥ = cc in absurd never
    by false e h = e

all_is : (ts us : List Tree) → Some us ≡ shown_all ts → (list_all is_shown ts ≡ true) × (ts ≡ us)
all_is ts us = by (list_all is_shown ts) refl
  where
    by : (b : Bool) → list_all is_shown ts ≡ b → Some us ≡ (if b then Some ts else None)
        → (list_all is_shown ts ≡ true) × (ts ≡ us)
    by true e h = (e, cc)
    by false e h = let never : ⊥ = cc in absurd never

shown_push : (ts us : List Tree) (r t : Tree) → Some us ≡ shown_all ts → Some t ≡ (if is_shown r then Some r else None)
    → Some (us ++ t ∷ []) ≡ shown_all (ts ++ r ∷ [])
shown_push ts us r t h g =
    let a = all_is ts us h in
    let b = shown_is r t g in
    let all : list_all is_shown (ts ++ r ∷ []) ≡ true = list_all-append is_shown ts (r ∷ [])
    ∙ ap (λ (x : Bool). x && (is_shown r && true)) a.0 ∙ ap (λ (x : Bool). x && true) b.shown in
    (λ i. Some (sym a.1 i ++ sym b.same i ∷ []))
    ∙ sym (ap (λ (x : Bool). if x then Some (ts ++ r ∷ []) else None) all)

module _ (m : Module) (xs : List RustAnn) (i : ℕ) (x : RustAnn) (h : i < length xs) (e : x ≡ get_or xs i x) where
  -- the types of one annotation more
  pub shown_more : (us : List Tree) (t : Tree) → Some us ≡ shown_readings m (anns_of_list (take i xs))
      → Some t ≡ shown_reading m (ann_of x) → Some (us ++ t ∷ []) ≡ shown_readings m (anns_of_list (take (i + 1) xs))
  shown_more us t f g = shown_push (read_anns m (bases_of m) (anns_of_list (take i xs))) us
      (reading m (bases_of m) (ann_of x)) t f g
      ∙ ap (λ (ts : List Tree). shown_all ts) (sym (readings_more m (bases_of m) xs i x h e))

-- where one is too large, none are written out
none_shown : (m : Module) (xs : List RustAnn) (i : ℕ) (x : RustAnn) → i < length xs → x ≡ get_or xs i x
    → is_shown (reading m (bases_of m) (ann_of x)) ≡ false
    → list_all is_shown (read_anns m (bases_of m) (anns_of_list xs)) ≡ false
none_shown m [] i x h e f = absurd (omega arith)
none_shown m (y ∷ xs) zero x h e f = ap (λ (z : RustAnn). is_shown (reading m (bases_of m) (ann_of z))
    && list_all is_shown (read_anns m (bases_of m) (anns_of_list xs))) (sym e)
    ∙ ap (λ (b : Bool). b && list_all is_shown (read_anns m (bases_of m) (anns_of_list xs))) f
none_shown m (y ∷ xs) (suc i) x h e f =
    ap (λ (b : Bool). is_shown (reading m (bases_of m) (ann_of y)) && b) (none_shown m xs i x (omega arith) e f)
    ∙ and_false (is_shown (reading m (bases_of m) (ann_of y)))
  where
    and_false : (b : Bool) → (b && false) ≡ false
    and_false true = refl
    and_false false = refl

pub large_among : (m : Module) (xs : List RustAnn) (i : ℕ) (x : RustAnn) → i < length xs → x ≡ get_or xs i x
    → None ≡ shown_reading m (ann_of x) → None ≡ shown_readings m (anns_of_list xs)
large_among m xs i x h e f = sym (ap (λ (b : Bool). if b then Some (read_anns m (bases_of m) (anns_of_list xs))
    else None)
    (none_shown m xs i x h e (large_is (reading m (bases_of m) (ann_of x)) f)))

-- the nodes of a type that is written out are told whole
pub nodes_shown : (m : Module) (a : Ann) (t : Tree) → Some t ≡ shown_reading m a
    → nodes t ≡ told_nodes (nodes (reading m (bases_of m) a))
nodes_shown m a t h =
    let s = shown_is (reading m (bases_of m) a) t h in
    ap nodes (sym s.same) ∙ told_whole (nodes (reading m (bases_of m) a))
    (leb-true (nodes (reading m (bases_of m) a)) node_limit s.shown)

-- ---- faults

-- the key of a dict of two types
pub dict_key : (m : Module) (bases : Bases) (word : List ℕ) (xs : List RustAnn) (x : RustAnn) → length xs ≡ 2
    → x ≡ get_or xs 0 x → fault_of_applied word builtin.Dict (read_anns m bases (anns_of_list xs))
    ≡ detail.key_type (reading m bases (ann_of x))
dict_key m bases word [] x h e = absurd (omega arith)
dict_key m bases word (y ∷ []) x h e = absurd (omega arith)
dict_key m bases word (y ∷ z ∷ []) x h e = ap (λ (a : RustAnn). detail.key_type (reading m bases (ann_of a))) (sym e)
dict_key m bases word (y ∷ z ∷ w ∷ xs) x h e = absurd (omega arith)

-- a dict takes two types
pub dict_takes : (word : List ℕ) (ts : List Tree) → length ts ≢ 2
    → fault_of_applied word builtin.Dict ts ≡ detail.takes_types word 2 (length ts)
dict_takes word [] h = refl
dict_takes word (k ∷ []) h = refl
dict_takes word (k ∷ v ∷ []) h = absurd (h refl)
dict_takes word (k ∷ v ∷ w ∷ ts) h = refl

-- a container that takes another number of types
pub takes_shown : (m : Module) (xs : List RustAnn) (word : List ℕ) (b : Builtin) (takes : ℕ) (text : Tree → Words)
    → fault_of_applied word b (read_anns m (bases_of m) (anns_of_list xs))
    ≡ detail.takes_types word takes (length (read_anns m (bases_of m) (anns_of_list xs)))
    → Some (detail.takes_types (shortened word) takes (length xs)) ≡ option_map (map_annotation text)
    (shown_fault (fault_of_applied word b (read_anns m (bases_of m) (anns_of_list xs))))
takes_shown m xs word b takes text e =
    ap (λ k. Some (detail.takes_types (shortened word) takes k)) (sym (as_many m xs))
    ∙ sym (ap (λ (fault : detail.AnnotationFault Tree). option_map (map_annotation text) (shown_fault fault)) e)

-- a clash as a detail
pub clash_shown : (text : Tree → Words) (k : Option (Clash Tree)) (made : Option (Clash Words))
    → made ≡ option_map (map_clash text) k
    → option_map detail.union made ≡ option_map (map_detail text) (option_map detail.union k)
clash_shown text None made e = ap (option_map detail.union) e
clash_shown text (Some k) made e = ap (option_map detail.union) e
