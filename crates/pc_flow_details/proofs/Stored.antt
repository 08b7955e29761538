-- The sinks of what is stored, taken or given, by the type of an object.
use Rattle.std.proofs.Common.{◌≡◌, ◌++◌, ◌∷◌, [], refl, sym, subst}
use Rattle.pc_source.specs.declared.place.Place.{Place}
use Rattle.pc_tree.specs.declared.tree.Literal.{Literal as RustLiteral}
use Rattle.pc_tree.specs.declared.tree.LiteralKind.{LiteralKind}
use Rattle.pc_tree.specs.declared.tree.LiteralKind.TheVariants as rust_literal
use Rattle.pc_tree.specs.Tree.{literal_of, literal_of_kind}
use Rattle.pc_types.specs.Tree.{Tree, Int, ListOf, DictOf}
use Rattle.pc_rules.specs.Signatures.{literal_place}
use Rattle.pc_detail_texts.specs.Details as detail
use Rattle.pc_detail_rules.specs.Sinks.{item_store, one_sink}

-- a store to an item of a list
pub list_stored : (p q : Place) (t u : Tree) → t ≡ ListOf u
    → item_store p q t ≡ (one_sink p (detail.an_index t) Int ∷ []) ++ (one_sink q (detail.an_item t) u ∷ [])
list_stored p q t u e = subst (λ x. item_store p q x
    ≡ (one_sink p (detail.an_index x) Int ∷ []) ++ (one_sink q (detail.an_item x) u ∷ [])) (sym e) refl

-- a store to an item of a dict
pub dict_stored : (p q : Place) (t k v : Tree) → t ≡ DictOf k v
    → item_store p q t ≡ (one_sink p (detail.a_key t) k ∷ []) ++ (one_sink q (detail.a_value t) v ∷ [])
dict_stored p q t k v e = subst (λ x. item_store p q x
    ≡ (one_sink p (detail.a_key x) k ∷ []) ++ (one_sink q (detail.a_value x) v ∷ [])) (sym e) refl

kind_at : (p : Place) (k : LiteralKind) → p ≡ literal_place (literal_of_kind p k)
kind_at p (rust_literal.Int digits) = refl
kind_at p (rust_literal.NegativeInt digits) = refl
kind_at p (rust_literal.Str characters) = refl
kind_at p rust_literal.True = refl
kind_at p rust_literal.False = refl
kind_at p rust_literal.NoneValue = refl

-- the place of a literal
pub literal_at : (l : RustLiteral) → l.place ≡ literal_place (literal_of l)
literal_at l = kind_at l.place l.kind
