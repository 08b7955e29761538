-- A position of a text has one declaration, and the hover text is made of its parts.
use Rattle.std.specs.Prelude.{option_map, option_and_then}
use Rattle.std.proofs.Common.{◌≡◌, ℕ, List, ◌++◌, Option, None, Some, sym, ap, ◌∙◌, subst, inl, inr}
use Rattle.pc_front.proofs.BytesLaws.{one_module, no_refusal}
use Rattle.pc_tree.specs.Tree.{Name, Module}
use Rattle.pc_bindings.specs.Mentions.{Mention, mentions_in}
use Rattle.pc_bindings.specs.Bindings.{binding_of}
use Rattle.pc_position.specs.declared.positions.Encoding.{Encoding}
use Rattle.pc_position.specs.declared.positions.Position.{Position}
use Rattle.pc_documents.specs.declared.checker.CheckOutcome.{CheckOutcome}
use Rattle.pc_documents.specs.Agreed.{Agreed}
use Rattle.pc_documents.specs.CheckerAnswers.{CheckerAnswer, outcome}
use Rattle.pc_documents.specs.Declarations.{declaration_on, mention_under, bound_at, declaration_in, IsDeclarationAt}
use Rattle.pc_documents.specs.Hovers.{ruled, code_block, with_declaration, hover_text, IsDeclarationSaid, IsSaidOf}
use Rattle.pc_documents.specs.Hovers.{IsTypeSaid}

-- ---- one declaration

pub one_declaration : (encoding : Encoding) (text : List ℕ) (position : Position) (a b : Option (List ℕ))
    → IsDeclarationAt encoding text position a → IsDeclarationAt encoding text position b → a ≡ b
one_declaration encoding text position a b (inl x) (inl y) = x.is
    ∙ (ap (declaration_in encoding text position) (one_module text x.tree y.tree x.spelled y.spelled) ∙ sym y.is)
one_declaration encoding text position a b (inl x) (inr y) =
    absurd (no_refusal text x.tree y.refusal x.spelled y.refused)
one_declaration encoding text position a b (inr x) (inl y) =
    absurd (no_refusal text y.tree x.refusal y.spelled x.refused)
one_declaration encoding text position a b (inr x) (inr y) = x.none ∙ sym y.none

-- ---- the name that binds a name

module _ (encoding : Encoding) (text : List ℕ) (position : Position) (tree : Module) where
  pub none_bound : (names : List Mention) → names ≡ mentions_in tree → None ≡ mention_under encoding text position names
      → None ≡ bound_at encoding text position tree
  none_bound names all none =
      ap (option_and_then (binding_of tree)) (none ∙ ap (mention_under encoding text position) all)

  pub one_bound : (names : List Mention) (it : Mention) (n : Option Name) → names ≡ mentions_in tree
      → Some it ≡ mention_under encoding text position names → n ≡ binding_of tree it
      → n ≡ bound_at encoding text position tree
  one_bound names it n all first binds =
      binds ∙ ap (option_and_then (binding_of tree)) (first ∙ ap (mention_under encoding text position) all)

  -- ---- the declaration of a name

  pub undeclared_is : (before : List ℕ) → None ≡ bound_at encoding text position tree
      → before ≡ with_declaration before (declaration_in encoding text position tree)
  undeclared_is before none = ap
      (λ (o : Option Name). with_declaration before (option_map (λ (n : Name). declaration_on text n.place.start) o))
      none

  pub declared_is : (n : Name) (before told line : List ℕ) → Some n ≡ bound_at encoding text position tree
      → line ≡ declaration_on text n.place.start → told ≡ ruled before ++ code_block (Some line)
      → told ≡ with_declaration before (declaration_in encoding text position tree)
  declared_is n before told line bound is same = same ∙ (ap (λ l. ruled before ++ code_block (Some l)) is ∙ ap
      (λ (o : Option Name). with_declaration before (option_map (λ (n : Name). declaration_on text n.place.start) o))
      bound)

-- ---- the hover text of its parts

module _ (answers : List ℕ → CheckerAnswer → Type 0) (agreed : Agreed) (position : Position) (found : CheckOutcome)
    (before said told : List ℕ) where
  -- the hover text is made of the bytes of the text
  abbrev IsMade : List ℕ → Type 0
  IsMade bytes = (type declaration : Option (List ℕ)) → said ≡ with_declaration (code_block type) declaration
      → told ≡ hover_text agreed bytes found type declaration position

  said_is : (text : List ℕ) → answers text (outcome found) → IsTypeSaid answers agreed.encoding text position before
      → IsDeclarationSaid agreed.encoding text position before said → IsMade text
      → IsSaidOf answers text position agreed told
  said_is text finds typed declared made = record {
    found = found;
    finds_it = finds;
    type = typed.type;
    shows_it = typed.shows_it;
    declaration = declared.declaration;
    declares_it = declared.declares_it;
    are = made typed.type declared.declaration
        (declared.are ∙ ap (λ b. with_declaration b declared.declaration) typed.are);
  }

  pub said_as : (text known bytes : List ℕ) → known ≡ text → bytes ≡ known → answers known (outcome found)
      → IsTypeSaid answers agreed.encoding known position before
      → IsDeclarationSaid agreed.encoding bytes position before said → IsMade bytes
      → IsSaidOf answers text position agreed told
  said_as text known bytes one two finds typed declared made = subst (λ t. IsSaidOf answers t position agreed told) one
      (said_is known finds typed (subst (λ b. IsDeclarationSaid agreed.encoding b position before said) two declared)
      (subst IsMade two made))
