-- Operators as the machine names them.
use Rattle.std.specs.Prelude.{◌≡◌, Option, Some, None}
use Rattle.pc_grammar.specs.Machine.Kinds.{Link as Joint, linking, denying, identifying, Follow, link}
use Rattle.pc_reader.specs.declared.link.Link.{Link}
use Rattle.pc_reader.specs.declared.link.Link.TheVariants as rust
use Rattle.pc_reader.specs.Internal.Operands.{infix_of}

-- the beginning of an operator, as the machine names it
abbrev pub link_view : Link → Joint
link_view (rust.Infix operator) = linking (infix_of operator)
link_view rust.Not = denying
link_view rust.Is = identifying

-- the token after an operand begins no operator
abbrev pub IsNoLink : Follow → Type 0
IsNoLink (link l) = ⊥
IsNoLink _ = Unit {0}

-- the operator that a token begins, if it begins one
abbrev pub Linked : Follow → Option Link → Type 0
Linked f None = IsNoLink f
Linked f (Some l) = f ≡ link (link_view l)
