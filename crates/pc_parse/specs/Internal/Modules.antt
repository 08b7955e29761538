-- Results of the functions that read a module.
use Rattle.std.specs.declared.convert.AsStr.{Ghosts as TextOf}
use Rattle.std.specs.declared.iter.Iterator.{Ghosts as TokensOf}
use Rattle.std.specs.Prelude.{ℕ, ◌≡◌, ◌<◌, ◌&&◌, false, List, [], ◌∷◌, ◌++◌, map, Some, Result, Ok, MatchResult}
use Rattle.std.specs.Prelude.{Vec, codes, bytes_eq}
use Rattle.std.specs.declared.alloc.Global.{Global}
use Rattle.pc_source.specs.declared.fault.Fault.{Fault}
use Rattle.pc_source.specs.declared.place.Place.{Place}
use Rattle.pc_token.specs.declared.token.Token.{Token}
use Rattle.pc_token.specs.declared.token.TokenKind.TheVariants as kind
use Rattle.pc_token.specs.declared.token.Keyword.TheVariants as word
use Rattle.pc_token.specs.declared.token.Operator.TheVariants as sign
use Rattle.pc_tree.specs.declared.tree.Constant.{Constant as RustConstant}
use Rattle.pc_tree.specs.declared.tree.Item.{Item as RustItem}
use Rattle.pc_tree.specs.declared.tree.Module.{Module as RustModule}
use Rattle.pc_tree.specs.Tree.{Name, Constant, Item, constant_item, Module, constant_of, item_of, module_of}
use Rattle.pc_tree.specs.Depth.{optional_anns, whole_expr, wholes_of_item, wholes_of_items}
use Rattle.pc_grammar.specs.Machine.{at}
use Rattle.pc_grammar.specs.Machine.Kinds.{Fixed, a_kind, a_form, same_kind}
use Rattle.pc_grammar.specs.Machine.States.{after_headers, Top, items, item_named, ended}
use Rattle.pc_grammar.specs.Machine.Finishing.{add_item}
use Rattle.pc_grammar.specs.Machine.Lines.{start, module_of as module_over}
use Rattle.pc_reader.specs.declared.reader.Reader.{Reader}
use Rattle.pc_reader.specs.Reading.{Blames, Came, Onward, IsReady, left_in}
use Rattle.pc_parse.specs.declared.optional_imports.OptionalImports.{OptionalImports}
use Rattle.pc_parse.specs.declared.piece.Piece.{Piece}
use Rattle.pc_parse.specs.declared.piece.Piece.TheVariants as piece
use Rattle.pc_parse.specs.declared.parser.Parser.{Parser}
use Rattle.pc_parse.specs.Internal.WholeTrees.{KeepsTree}

-- the words `M import N` and the end of the line
abbrev pub import_words : List ℕ → List ℕ → List Fixed
import_words source imported =
    a_form source ∷ a_kind (kind.Keyword word.Import) ∷ a_form imported ∷ a_kind kind.Newline ∷ []

-- a module with these headers and items
abbrev pub top_of : OptionalImports → List Item → Top
top_of h is = record { imports_dataclass = h.dataclass; imports_any = h.any; items = is }

-- the token ahead, if any, does not continue a last line after this name
abbrev pub IsNoLastLine : {X I : Type 0} → Reader X I → Name → Type 0
IsNoLastLine {X} a n = (t : Token X) → a.ahead ≡ Some t
    → (same_kind t.kind (kind.Operator sign.LeftParenthesis) && bytes_eq n.text (codes "main")) ≡ false

module _ {X I : Type 0} (texts : TextOf X) (source : TokensOf I (Result (Token X) Fault)) where
  -- the headers were read
  pub record GivesHeaders (a b : Reader X I) (h : OptionalImports) : Type 0 where
    pub ready : IsReady source.can_next source.remaining b
    pub later : left_in source.remaining b < left_in source.remaining a
    pub leads : Onward texts.text source.next_gives a b (at start) (at (items after_headers (top_of h [])))

  -- the headers were read, or the refusal is the machine's
  abbrev pub ReadsHeaders : Reader X I → Reader X I → Result OptionalImports Fault → Type 0
  ReadsHeaders a b r = MatchResult r (λ h. GivesHeaders a b h)
      (λ e. Blames e (λ o. Came texts.text source.next_gives a (at start) o))

  -- a constant was read, from after its name
  pub record GivesConstant (a b : Parser X I) (n : Name) (v : RustConstant) : Type 0 where
    pub constant : Constant
    pub keeps : KeepsTree constant_of
        (λ c. optional_anns c.annotation ++ (whole_expr c.value ∷ [])) a.deep b.deep v constant
    pub ready : IsReady source.can_next source.remaining b.reader
    pub later : left_in source.remaining b.reader < left_in source.remaining a.reader
    pub leads : (top : Top) → Onward texts.text source.next_gives a.reader b.reader (at (item_named n top))
        (at (items after_headers (add_item top (constant_item n.place constant))))

  -- unless this is the last line, a constant was read, from after its name, or the refusal is the machine's
  abbrev pub ReadsConstant : Parser X I → Parser X I → Name → Result RustConstant Fault → Type 0
  ReadsConstant a b n r = IsNoLastLine a.reader n
      → MatchResult r (λ v. GivesConstant a b n v)
      (λ e. Blames e (λ o. (top : Top) → Came texts.text source.next_gives a.reader (at (item_named n top)) o))

  -- an item was read
  pub record GivesItem (a b : Parser X I) (v : RustItem) : Type 0 where
    pub item : Item
    pub keeps : KeepsTree item_of wholes_of_item a.deep b.deep v item
    pub ready : IsReady source.can_next source.remaining b.reader
    pub later : left_in source.remaining b.reader < left_in source.remaining a.reader
    pub leads : (top : Top) → Onward texts.text source.next_gives a.reader b.reader (at (items after_headers top))
        (at (items after_headers (add_item top item)))

  -- the last line was read
  pub record GivesLast (a b : Parser X I) (main : Place) : Type 0 where
    pub same : b.deep ≡ a.deep
    pub ready : IsReady source.can_next source.remaining b.reader
    pub leads : (top : Top) → Onward texts.text source.next_gives a.reader b.reader (at (items after_headers top))
        (at (ended (module_over top main)))

  -- an item or the last line was read
  abbrev pub GivesPiece : Parser X I → Parser X I → Piece → Type 0
  GivesPiece a b (piece.Item v) = GivesItem a b v
  GivesPiece a b (piece.Last main) = GivesLast a b main

  -- an item or the last line was read, or the refusal is the machine's
  abbrev pub ReadsPiece : Parser X I → Parser X I → Result Piece Fault → Type 0
  ReadsPiece a b r = MatchResult r (λ v. GivesPiece a b v)
      (λ e. Blames e (λ o. (top : Top) → Came texts.text source.next_gives a.reader (at (items after_headers top)) o))

  -- items were read so far
  pub record ItemsSoFar (a b : Parser X I) (h : OptionalImports) (v : Vec RustItem Global) : Type 0 where
    pub all : List Item
    pub keeps : KeepsTree (λ w. map item_of w.items) wholes_of_items a.deep b.deep v all
    pub leads : Onward texts.text source.next_gives a.reader b.reader (at start)
        (at (items after_headers (top_of h all)))

  -- a module was read, and with it all tokens
  pub record GivesModule (a b : Parser X I) (v : RustModule) : Type 0 where
    pub tree : Module
    pub keeps : KeepsTree module_of (λ m. wholes_of_items m.items) a.deep b.deep v tree
    pub comes : Came texts.text source.next_gives a.reader (at start) (Ok tree)

  -- a module was read, or the refusal is the machine's
  abbrev pub ReadsModule : Parser X I → Parser X I → Result RustModule Fault → Type 0
  ReadsModule a b r = MatchResult r (λ v. GivesModule a b v)
      (λ e. Blames e (λ o. Came texts.text source.next_gives a.reader (at start) o))
