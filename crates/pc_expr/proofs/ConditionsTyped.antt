-- The notes of a condition that is a negation or a junction: those in its parts, and that of its label.
use Rattle.std.proofs.Common.{◌≡◌, ◌++◌, sym, ap, ◌∙◌, None}
use Rattle.std.specs.Prelude.{List, true, false, flat_map}
use Rattle.pc_source.specs.declared.place.Place.{Place}
use Rattle.pc_tree.specs.Tree.{Expr, negation, conjunction, disjunction}
use Rattle.pc_types.specs.Tree.{Tree}
use Rattle.pc_notes.specs.Notes.{Note}
use Rattle.pc_rules.specs.Computed.Findings.{own_at, brief, note_of_type}
use Rattle.pc_rules.specs.Computed.Standing.{Standing, narrowed_standing, label_with, label_in, finds_in}
use Rattle.pc_rules.specs.declared.label.Label.{Label as RustLabel}
use Rattle.pc_expr.proofs.Forms.{parts_negation}
use Rattle.pc_expr.proofs.Typed.{whole_found, and_found, or_found}

module _ {T : Type 0} (tree : T → Tree) (k : Standing) (l : RustLabel T) where
  abbrev noted : Place → List Note
  noted p = note_of_type k.keeps true p (tree l.ty) ++ flat_map (own_at p) l.codes.items

  pub negation_found : (p : Place) (e : Expr) (old new last : List Note)
      → label_with tree l ≡ brief (label_in k None (negation p e)) → new ≡ old ++ finds_in k None e
      → last ≡ new ++ noted p → last ≡ old ++ finds_in k None (negation p e)
  negation_found p e old new last is h n = whole_found tree k None (negation p e) l old new last is
      (h ∙ ap (λ fs. old ++ fs) (sym (parts_negation k None p e))) n

  pub conjunction_found : (p : Place) (a b : Expr) (after : Standing) (old new last all : List Note)
      → label_with tree l ≡ brief (label_in k None (conjunction p a b))
      → after ≡ narrowed_standing k true a → new ≡ old ++ finds_in k None a → last ≡ new ++ finds_in after None b
      → all ≡ last ++ noted p → all ≡ old ++ finds_in k None (conjunction p a b)
  conjunction_found p a b after old new last all is e h j n = whole_found tree k None (conjunction p a b) l old last all
      is (and_found tree k None p a b after old new last e h j) n

  pub disjunction_found : (p : Place) (a b : Expr) (after : Standing) (old new last all : List Note)
      → label_with tree l ≡ brief (label_in k None (disjunction p a b))
      → after ≡ narrowed_standing k false a → new ≡ old ++ finds_in k None a → last ≡ new ++ finds_in after None b
      → all ≡ last ++ noted p → all ≡ old ++ finds_in k None (disjunction p a b)
  disjunction_found p a b after old new last all is e h j n = whole_found tree k None (disjunction p a b) l old last all
      is (or_found tree k None p a b after old new last e h j) n
