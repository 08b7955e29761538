-- The names at a position of a text have one list of definitions, and no definition nests deep.
use Rattle.std.specs.Prelude.{ℕ, Bool, true, false, if◌then◌else◌}
use Rattle.std.proofs.Common.{◌≡◌, ◌≤◌, List, [], ◌∷◌, ◌++◌, Option, None, Some, sym, ap, ◌∙◌, inl, inr, subst}
use Rattle.std.proofs.Common.{arith}
use Rattle.std.proofs.Math.Nat.{max-le}
use Rattle.serde_json.specs.Data.{Data, items_depth}
use Rattle.serde_json.specs.View.{items_of}
use Rattle.pc_tree.specs.Tree.{Name, Module}
use Rattle.pc_front.proofs.BytesLaws.{one_module, no_refusal}
use Rattle.pc_position.specs.declared.positions.Encoding.{Encoding}
use Rattle.pc_position.specs.declared.positions.Position.{Position}
use Rattle.pc_bindings.specs.Mentions.{Mention, mentions_in}
use Rattle.pc_bindings.specs.Bindings.{binding_of}
use Rattle.pc_documents.specs.Definitions.{located, is_at, definitions_among, definitions_in, AreDefinitions}
use Rattle.pc_documents.specs.Definitions.{AreDefinitionsAs}

-- ---- one list

one_list : (encoding : Encoding) (text : Option (List ℕ)) (uri : List ℕ) (position : Position) (a b : List Data)
    → AreDefinitions encoding text uri position a → AreDefinitions encoding text uri position b → a ≡ b
one_list encoding None uri position a b x y = x ∙ sym y
one_list encoding (Some text) uri position a b (inl x) (inl y) = x.are
    ∙ (ap (definitions_in encoding text uri position) (one_module text x.tree y.tree x.spelled y.spelled) ∙ sym y.are)
one_list encoding (Some text) uri position a b (inl x) (inr y) =
    absurd (no_refusal text x.tree y.refusal x.spelled y.refused)
one_list encoding (Some text) uri position a b (inr x) (inl y) =
    absurd (no_refusal text y.tree x.refusal y.spelled x.refused)
one_list encoding (Some text) uri position a b (inr x) (inr y) = x.none ∙ sym y.none

pub same_definitions : (encoding : Encoding) (python : Bool) (text : Option (List ℕ)) (uri : List ℕ)
    (position : Position) (a b : List Data) → AreDefinitionsAs encoding python text uri position a
    → AreDefinitionsAs encoding python text uri position b → a ≡ b
same_definitions encoding false text uri position a b x y = x ∙ sym y
same_definitions encoding true text uri position a b x y = one_list encoding text uri position a b x y

-- ---- depths

z : (n : ℕ) → 0 ≤ n
z n = omega arith

-- no definition in the list is deeper than 3
abbrev Low : List Data → Type 0
Low definitions = items_depth (items_of definitions) ≤ 3

-- one more place, if there is one
one_more_low : (encoding : Encoding) (text uri : List ℕ) (is : Bool) (n : Option Name) (rest : List Data) → Low rest
    → Low ((if is then located encoding text uri n else []) ++ rest)
one_more_low encoding text uri false n rest h = h
one_more_low encoding text uri true None rest h = h
one_more_low encoding text uri true (Some n) rest h = let three : 3 ≤ 3 = omega arith in max-le three h

among_low : (encoding : Encoding) (text uri : List ℕ) (position : Position) (tree : Module) (its : List Mention)
    → Low (definitions_among encoding text uri position tree its)
among_low encoding text uri position tree [] = z 3
among_low encoding text uri position tree (it ∷ rest) =
    one_more_low encoding text uri (is_at encoding text position it) (binding_of tree it)
    (definitions_among encoding text uri position tree rest) (among_low encoding text uri position tree rest)

list_low : (encoding : Encoding) (text : Option (List ℕ)) (uri : List ℕ) (position : Position)
    (definitions : List Data) → AreDefinitions encoding text uri position definitions → Low definitions
list_low encoding None uri position definitions x = subst Low (sym x) (z 3)
list_low encoding (Some text) uri position definitions (inl x) =
    subst Low (sym x.are) (among_low encoding text uri position x.tree (mentions_in x.tree))
list_low encoding (Some text) uri position definitions (inr x) = subst Low (sym x.none) (z 3)

pub definitions_as_low : (encoding : Encoding) (python : Bool) (text : Option (List ℕ)) (uri : List ℕ)
    (position : Position) (definitions : List Data) → AreDefinitionsAs encoding python text uri position definitions
    → items_depth (items_of definitions) ≤ 3
definitions_as_low encoding false text uri position definitions x = subst Low (sym x) (z 3)
definitions_as_low encoding true text uri position definitions x = list_low encoding text uri position definitions x
