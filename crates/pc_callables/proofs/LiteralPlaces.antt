-- The tree of a default's literal has the place of the literal.
use Rattle.std.proofs.Common.{◌≡◌, refl}
use Rattle.pc_source.specs.declared.place.Place.{Place}
use Rattle.pc_tree.specs.declared.tree.Literal.{Literal as RustLiteral}
use Rattle.pc_tree.specs.declared.tree.LiteralKind.{LiteralKind}
use Rattle.pc_tree.specs.declared.tree.LiteralKind.TheVariants as rust_literal
use Rattle.pc_tree.specs.Tree.{literal_of, literal_of_kind}
use Rattle.pc_rules.specs.Signatures.{literal_place}

kind_at : (p : Place) (k : LiteralKind) → p ≡ literal_place (literal_of_kind p k)
kind_at p (rust_literal.Int digits) = refl
kind_at p (rust_literal.NegativeInt digits) = refl
kind_at p (rust_literal.Str characters) = refl
kind_at p rust_literal.True = refl
kind_at p rust_literal.False = refl
kind_at p rust_literal.NoneValue = refl

pub place_is : (l : RustLiteral) → l.place ≡ literal_place (literal_of l)
place_is l = kind_at l.place l.kind
