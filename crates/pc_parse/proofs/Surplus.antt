-- The end of a module, and tokens after it.
use Rattle.std.specs.declared.convert.AsStr.{Ghosts as TextOf}
use Rattle.std.specs.declared.iter.Iterator.{Ghosts as TokensOf}
use Rattle.std.specs.Option.{is_some}
use Rattle.std.proofs.Common.{◌≡◌, ℕ, true, false, List, [], Option, Some, None, Result, Ok, refl, ap, sym, ◌∙◌, subst}
use Rattle.std.specs.Prelude.{Vec}
use Rattle.std.specs.declared.alloc.Global.{Global}
use Rattle.pc_source.specs.declared.fault.Fault.{Fault}
use Rattle.pc_source.specs.declared.place.Place.{Place}
use Rattle.pc_token.specs.declared.token.Token.{Token}
use Rattle.pc_token.specs.declared.token.TokenKind.{TokenKind}
use Rattle.pc_token.specs.declared.token.TokenKind.TheVariants as kind
use Rattle.pc_token.specs.declared.token.Keyword.TheVariants as word
use Rattle.pc_token.specs.declared.token.Operator.TheVariants as sign
use Rattle.pc_token.specs.Lexeme.{Lexeme}
use Rattle.pc_tree.specs.declared.keys.Keys.{Keys}
use Rattle.pc_tree.specs.declared.tree.Item.{Item as RustItem}
use Rattle.pc_tree.specs.Tree.{Item, Module}
use Rattle.pc_grammar.specs.Machine.{at, transition, arrive, stop_at, short}
use Rattle.pc_grammar.specs.Machine.Kinds.{a_kind}
use Rattle.pc_grammar.specs.Machine.Lines.{start, module_of as module_over}
use Rattle.pc_grammar.specs.Machine.States.{State, fixed, ended, stuck}
use Rattle.pc_reader.specs.declared.reader.Reader.{Reader}
use Rattle.pc_reader.specs.Reading.{Blames, kind_ahead, lexeme, Came, Rejects}
use Rattle.pc_reader.proofs.Streams.{blame, at_end, same_step}
use Rattle.pc_parse.specs.declared.optional_imports.OptionalImports.{OptionalImports}
use Rattle.pc_parse.specs.declared.parser.Parser.{Parser}
use Rattle.pc_parse.specs.Internal.Modules.{top_of, GivesLast, GivesModule, ItemsSoFar}

-- a state that waits for another token than one of this kind
another : TokenKind → State
another kind.Name = fixed (a_kind kind.End) [] start
another _ = fixed (a_kind kind.Name) [] start

waits : (k : TokenKind) → stop_at (another k) ≡ short
unfolding another
waits kind.Name = refl
waits _ = refl

refuses_it : (t : Lexeme) (k : TokenKind) → transition (another k) t k ≡ stuck
unfolding another
refuses_it t kind.Name = refl
refuses_it t (kind.Keyword word.In) = refl
refuses_it t (kind.Operator sign.Plus) = refl
refuses_it t _ = refl

same_token : {X : Type 0} {t u : Token X} → Some t ≡ Some u → t ≡ u
same_token e = cc

module _ {X I : Type 0} (text : X → List ℕ) (steps : I → Option (Result (Token X) Fault) → I → Type 0) (a : Reader X I)
    (tree : Module) where
  -- no token goes on after the end
  pub surplus : (e : Fault) (k : TokenKind) → kind_ahead a.ahead ≡ Some k
      → Blames e (λ o. (st : State) → Rejects text st a → Came text steps a (at st) o)
      → Blames e (λ o. Came text steps a (at (ended tree)) o)
  surplus e k is w = by_ahead a.ahead refl
    where
      by_ahead : (v : Option (Token X)) → a.ahead ≡ v → Blames e (λ o. Came text steps a (at (ended tree)) o)
      by_ahead None q = absurd (no_kind (sym (ap kind_ahead q) ∙ is))
        where
          no_kind : None ≡ Some k → ⊥
          no_kind z = cc
      by_ahead (Some t) q = blame (λ o u. same_step text steps a (at (ended tree)) (at (another t.kind)) t q
          (sym (ap (λ z. arrive z (lexeme text t)) (refuses_it (lexeme text t) t.kind))) o
          (u (another t.kind) (record {
            unfinished = waits t.kind;
            stuck_at = λ v h. subst (λ (z : Token X). transition (another t.kind) (lexeme text z) z.kind ≡ stuck)
                (same_token (sym q ∙ h)) (refuses_it (lexeme text t) t.kind);
          }))) w

module _ {X I : Type 0} {texts : TextOf X} {source : TokensOf I (Result (Token X) Fault)} {a m : Parser X I}
    {h : OptionalImports} {v : Vec RustItem Global}
    (s : ItemsSoFar texts source a m h v) where
  -- where an item does not go on
  pub item_fails : {e : Fault} → Blames e (λ o. (top : Rattle.pc_grammar.specs.Machine.States.Top)
      → Came texts.text source.next_gives m.reader
      (at (Rattle.pc_grammar.specs.Machine.States.items Rattle.pc_grammar.specs.Machine.States.after_headers top)) o)
      → Blames e (λ o. Came texts.text source.next_gives a.reader (at start) o)
  item_fails w = blame (λ o u. s.leads o (u (top_of h s.all))) w

  module _ {b : Parser X I} {main : Place} (x : GivesLast texts source m b main) where
    pub end_fails : {e : Fault} → Blames e (λ o. Came texts.text source.next_gives b.reader
        (at (ended (module_over (top_of h s.all) main))) o) → Blames e
        (λ o. Came texts.text source.next_gives a.reader (at start) o)
    end_fails w = blame (λ o u. s.leads o (x.leads (top_of h s.all) o u)) w

    pub module_read : {k : Keys} → b.reader.ahead ≡ None → GivesModule texts source a b
        (record { imports_dataclass = h.dataclass; imports_any = h.any; items = v; main = main; keys = k })
    module_read none = let tree = module_over (top_of h s.all) main in
        let make : List Item → Module = λ is. record {
          imports_dataclass = h.dataclass;
          imports_any = h.any;
          items = is;
          main = main;
        } in record {
          tree = tree;
          keeps = record { deep = x.same ∙ s.keeps.deep; kept = λ e. ap make (s.keeps.kept (sym x.same ∙ e)) };
          comes = s.leads (Ok tree) (x.leads (top_of h s.all) (Ok tree)
              (at_end texts.text source.next_gives b.reader (at (ended tree)) (Ok tree) none refl));
        }

-- whether a token is ahead, by its kind
pub kind_there : {X : Type 0} (a : Option (Token X)) → is_some (kind_ahead a) ≡ true → (k : TokenKind)
    × (kind_ahead a ≡ Some k)
kind_there None h = cc
kind_there (Some t) h = (t.kind, refl)

pub nothing_there : {X : Type 0} (a : Option (Token X)) → is_some (kind_ahead a) ≡ false → a ≡ None
nothing_there None h = refl
nothing_there (Some t) h = cc
