-- The annotations of the locals of a function, as the program holds them: one more, and list after list.
use Rattle.std.proofs.Common.{◌≡◌, ◌∙◌, ◌<◌, ◌≤◌, ◌+◌, ◌++◌, ◌∷◌, [], ℕ, List, Bool, true, false, Bor, Option, Some, None}
use Rattle.std.proofs.Common.{Box, Global, refl, sym, ap, ap₂, subst, cond, drop, length, get_or, append_assoc, append-nil}
use Rattle.std.proofs.Math.ListN.{drop_of_length-le}
use Rattle.std.specs.BTreeMap.{get_by}
use Rattle.std.specs.Cmp.Lexicographic.{slice_cmp}
use Rattle.std.specs.Map.{update}
use Rattle.std.specs.Option.{option_map}
use Rattle.std.specs.Ordering.{nat_cmp}
use Rattle.std.specs.Prelude.{bytes_eq, is_some}
use Rattle.pc_source.specs.declared.place.Place.{Place}
use Rattle.pc_tree.proofs.Stops.{cons_at}
use Rattle.pc_tree.specs.Tree.{Ann, FuncDef, ann_of, stmt_of_kind}
use Rattle.pc_tree.specs.declared.tree.Ann.{Ann as RustAnn}
use Rattle.pc_tree.specs.declared.tree.Expr.{Expr as RustExpr}
use Rattle.pc_tree.specs.declared.tree.Name.{Name as RustName}
use Rattle.pc_tree.specs.declared.tree.StmtKind.{StmtKind}
use Rattle.pc_tree.specs.declared.tree.StmtKind.TheVariants as rust_stmt
use Rattle.pc_types.specs.Tree.{Tree}
use Rattle.pc_detail_texts.specs.Details.{Sink}
use Rattle.pc_flow_details.specs.declared.locals.LocalAnnotations.{LocalAnnotations}
use Rattle.pc_detail_facts.specs.Annotated.{annotation_lent}
use Rattle.pc_detail_facts.proofs.FirstNamed.{kept_first, put_first}
use Rattle.pc_detail_rules.specs.Sinks.{only_sink}
use Rattle.pc_detail_rules.specs.Written.{Annotated, annotated_locals, annotated_stmt, local_annotation}
use Rattle.pc_flow_details.specs.Locals.{AreLocals, local_held}

-- ---- one annotation more

local_name : Annotated → List ℕ
local_name a = a.name

local_written : Annotated → Ann
local_written a = a.annotation

-- what a map holds of a name
abbrev pub lent_held : LocalAnnotations → List ℕ → Option (Bor RustAnn)
lent_held l word = get_by (λ k. slice_cmp nat_cmp word k.now) l.first

some_mapped : (o : Option (Bor RustAnn)) (t : Bool) → is_some o ≡ t → is_some (option_map annotation_lent o) ≡ t
some_mapped None t h = h
some_mapped (Some x) t h = h

put_mapped : (t : Bool) (o p : Option (Bor RustAnn))
    → option_map annotation_lent (cond t o p) ≡ cond t (option_map annotation_lent o) (option_map annotation_lent p)
put_mapped true o p = refl
put_mapped false o p = refl

-- a name with its annotation
abbrev pub local_with : List ℕ → Ann → Annotated
local_with word w = record { name = word; annotation = w }

-- a name that has an annotation keeps it
pub kept_local : (those : List Annotated) (l : LocalAnnotations) (word : List ℕ) (w : Ann) → AreLocals l those
    → is_some (lent_held l word) ≡ true → AreLocals l (those ++ local_with word w ∷ [])
unfolding local_name local_written
kept_local those l word w h has = record {
  at = kept_first local_name local_written (local_held l) those (local_with word w) h.at
      (some_mapped (lent_held l word) true has);
}

-- a new name has its annotation from now on
pub added_local : (those : List Annotated) (l g : LocalAnnotations) (word : List ℕ) (v : Bor RustAnn) → AreLocals l those
    → is_some (lent_held l word) ≡ false
    → ((cs : List ℕ) → lent_held g cs ≡ update bytes_eq (lent_held l) word (Some v) cs)
    → AreLocals g (those ++ local_with word (ann_of v.now) ∷ [])
unfolding local_name local_written
added_local those l g word v h none updates = record {
  at = put_first local_name local_written (local_held l) those (local_with word (ann_of v.now)) h.at
      (some_mapped (lent_held l word) false none) (local_held g)
      (λ cs. ap (option_map annotation_lent) (updates cs) ∙ put_mapped (bytes_eq word cs) (Some v) (lent_held l cs));
}

-- ---- lists

-- what is held, and what is left of some annotations
pub record AreLeft (l : LocalAnnotations) (rest all : List Annotated) : Type 0 where
  pub seen : List Annotated
  pub are : AreLocals l seen
  pub whole : seen ++ rest ≡ all

-- one item more
pub next_left : {A : Type 0} (l g : LocalAnnotations) (parts : List A → List Annotated) (own : List Annotated) (xs : List A)
    (i : ℕ) (x : A) (all : List Annotated) → parts (x ∷ drop (i + 1) xs) ≡ own ++ parts (drop (i + 1) xs) → i < length xs
    → x ≡ get_or xs i x → AreLeft l (parts (drop i xs)) all
    → ((before : List Annotated) → AreLocals l before → AreLocals g (before ++ own))
    → AreLeft g (parts (drop (i + 1) xs)) all
next_left l g parts own xs i x all split lt is h step = record {
  seen = h.seen ++ own;
  are = step h.seen h.are;
  whole = append_assoc h.seen own (parts (drop (i + 1) xs))
      ∙ ap (λ (r : List Annotated). h.seen ++ r) (sym (ap parts (cons_at xs i x lt is) ∙ split)) ∙ h.whole;
}

-- no item is left
pub none_left : {A : Type 0} (l : LocalAnnotations) (parts : List A → List Annotated) (xs : List A) (i : ℕ)
    (all : List Annotated) → parts [] ≡ [] → length xs ≤ i → AreLeft l (parts (drop i xs)) all → AreLocals l all
none_left l parts xs i all none le h = subst (AreLocals l) (sym (append-nil h.seen)
    ∙ ap (λ (r : List Annotated). h.seen ++ r) (sym (ap parts (drop_of_length-le xs le) ∙ none)) ∙ h.whole) h.are

-- ---- statements

-- a statement of another kind annotates no local
pub not_annotated : (p : Place) (k : StmtKind) → ((n : RustName) (a : Box RustAnn Global)
    (e : Option (Box RustExpr Global)) → k ≡ rust_stmt.Annotated n a e → ⊥) → annotated_stmt (stmt_of_kind p k) ≡ []
not_annotated p rust_stmt.Pass h = refl
not_annotated p rust_stmt.Break h = refl
not_annotated p rust_stmt.Continue h = refl
not_annotated p (rust_stmt.Return value) h = refl
not_annotated p (rust_stmt.Assert condition message) h = refl
not_annotated p (rust_stmt.Annotated target annotation value) h = absurd (h target annotation value refl)
not_annotated p (rust_stmt.Assign target value) h = refl
not_annotated p (rust_stmt.Expr value) h = refl
not_annotated p (rust_stmt.While' condition shape body) h = refl
not_annotated p (rust_stmt.For' target iterable shape body) h = refl
not_annotated p (rust_stmt.If' shape branches shape' otherwise) h = refl

-- ---- sinks

-- the sink of a local, with the annotation that is held of it
pub local_sunk : (make : List ℕ → Sink Tree) (l : LocalAnnotations) (f : FuncDef) (p q : Place) (word text : List ℕ)
    (o : Option (Bor RustAnn)) → AreLocals l (annotated_locals f) → p ≡ q → word ≡ text
    → option_map annotation_lent o ≡ local_held l word
    → only_sink p (make word) (option_map annotation_lent o) ∷ [] ≡ only_sink q (make text) (local_annotation f text) ∷ []
local_sunk make l f p q word text o h here same held =
    ap (λ (a : Option Ann). only_sink p (make word) a ∷ []) (held ∙ h.at word)
    ∙ ap₂ (λ (r : Place) (w : List ℕ). only_sink r (make w) (local_annotation f w) ∷ []) here same
