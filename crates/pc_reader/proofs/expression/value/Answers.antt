use Rattle.std.proofs.Common.{true, false, [], ◌∷◌, refl, ap, ◌∙◌, rules}
use Rattle.pc_token.specs.declared.token.TokenKind.TheVariants as kind
use Rattle.pc_tree.specs.Tree.{name, number, text, truth, nothing}
use Rattle.pc_grammar.specs.Grammar.{digits_of, characters_of}
use Rattle.pc_grammar.specs.Machine.Kinds.{operand_start}
use Rattle.pc_grammar.specs.Machine.Expressions.{operand_turn, name_part, bare_part}
use Rattle.pc_reader.specs.Reading.{lexeme}
use Rattle.pc_reader.proofs.Building.{starts_one, ends_one, built}
use Rattle.pc_reader.specs.Internal.Operands.{a_name}
use Rattle.pc_reader.proofs.expression.value.Goals as goal
use Rattle.pc_reader.proofs.expression.value.Goals.{in_default-via-in-Keyword+in_default, in_default-via-in_default}

pub returns-in_ok-text-in-Int : goal.returns-in_ok-text-in-Int
returns-in_ok-text-in-Int g c = rw c.node.ensures (
  refl,
  λ v. record {
    part = (bare_part (λ q. number q (digits_of (lexeme g.X.AsStr.text c.args.token.now).text))
        ((lexeme g.X.AsStr.text c.args.token.now) ∷ []));
    keeps = built _ 7 0 0 c.args.token.now.place.start c.args.token.now.place.end
        (λ q. number q (digits_of (lexeme g.X.AsStr.text c.args.token.now).text)) (λ q. refl) (λ q. refl) refl
        (λ h. ap (λ z. number c.args.token.now.place z) (c.in_ok-text-in-Int.ensures ∙ ap digits_of c.as_str.ensures))
        (λ q. refl) ((lexeme g.X.AsStr.text c.args.token.now) ∷ [])
        (starts_one (lexeme g.X.AsStr.text c.args.token.now) [])
        (ends_one (lexeme g.X.AsStr.text c.args.token.now));
    begins = refl;
    leads = λ s. ap (λ k. operand_turn s (lexeme g.X.AsStr.text c.args.token.now) (operand_start k)) c.in-Int.is;
  },
)

pub returns-in_ok-text-in-Str : goal.returns-in_ok-text-in-Str
returns-in_ok-text-in-Str g c = rw c.node-in-Str.ensures (
  refl,
  λ v. record {
    part = (bare_part (λ q. text q (characters_of (lexeme g.X.AsStr.text c.args.token.now).text))
        ((lexeme g.X.AsStr.text c.args.token.now) ∷ []));
    keeps = built _ 7 0 0 c.args.token.now.place.start c.args.token.now.place.end
        (λ q. text q (characters_of (lexeme g.X.AsStr.text c.args.token.now).text)) (λ q. refl) (λ q. refl) refl
        (λ h. ap (λ z. text c.args.token.now.place z) (c.in_ok-text-in-Str.ensures
        ∙ ap characters_of c.as_str-in-Str.ensures)) (λ q. refl) ((lexeme g.X.AsStr.text c.args.token.now) ∷ [])
        (starts_one (lexeme g.X.AsStr.text c.args.token.now) []) (ends_one (lexeme g.X.AsStr.text c.args.token.now));
    begins = refl;
    leads = λ s. ap (λ k. operand_turn s (lexeme g.X.AsStr.text c.args.token.now) (operand_start k)) c.in-Str.is;
  },
)

pub returns-in-Keyword-True : goal.returns-in-Keyword-True
returns-in-Keyword-True g c = rw c.node-in-Keyword-True.ensures (
  refl,
  λ v. record {
    part = (bare_part (λ q. truth q true) ((lexeme g.X.AsStr.text c.args.token.now) ∷ []));
    keeps = built _ 7 0 0 c.args.token.now.place.start c.args.token.now.place.end (λ q. truth q true)
        (λ q. refl) (λ q. refl)
        refl (λ h. refl) (λ q. refl) ((lexeme g.X.AsStr.text c.args.token.now) ∷ [])
        (starts_one (lexeme g.X.AsStr.text c.args.token.now) []) (ends_one (lexeme g.X.AsStr.text c.args.token.now));
    begins = refl;
    leads = λ s. ap (λ k. operand_turn s (lexeme g.X.AsStr.text c.args.token.now) (operand_start k))
        (c.in-Keyword-True.is ∙ ap (λ z. kind.Keyword z) (rw c.in-Keyword-True.is at c.in-Keyword-True.field-0-is));
  },
)

pub returns-in-Keyword-False : goal.returns-in-Keyword-False
returns-in-Keyword-False g c = rw c.node-in-Keyword-False.ensures (
  refl,
  λ v. record {
    part = (bare_part (λ q. truth q false) ((lexeme g.X.AsStr.text c.args.token.now) ∷ []));
    keeps = built _ 7 0 0 c.args.token.now.place.start c.args.token.now.place.end (λ q. truth q false)
        (λ q. refl) (λ q. refl)
        refl (λ h. refl) (λ q. refl) ((lexeme g.X.AsStr.text c.args.token.now) ∷ [])
        (starts_one (lexeme g.X.AsStr.text c.args.token.now) []) (ends_one (lexeme g.X.AsStr.text c.args.token.now));
    begins = refl;
    leads = λ s. ap (λ k. operand_turn s (lexeme g.X.AsStr.text c.args.token.now) (operand_start k))
        (c.in-Keyword-False.is ∙ ap (λ z. kind.Keyword z) (rw c.in-Keyword-False.is at c.in-Keyword-False.field-0-is));
  },
)

pub returns-in-Keyword-None : goal.returns-in-Keyword-None
returns-in-Keyword-None g c = rw c.node-in-Keyword-None.ensures (
  refl,
  λ v. record {
    part = (bare_part (λ q. nothing q) ((lexeme g.X.AsStr.text c.args.token.now) ∷ []));
    keeps = built _ 7 0 0 c.args.token.now.place.start c.args.token.now.place.end (λ q. nothing q)
        (λ q. refl) (λ q. refl) refl
        (λ h. refl) (λ q. refl) ((lexeme g.X.AsStr.text c.args.token.now) ∷ [])
        (starts_one (lexeme g.X.AsStr.text c.args.token.now) []) (ends_one (lexeme g.X.AsStr.text c.args.token.now));
    begins = refl;
    leads = λ s. ap (λ k. operand_turn s (lexeme g.X.AsStr.text c.args.token.now) (operand_start k))
        (c.in-Keyword-None.is ∙ ap (λ z. kind.Keyword z) (rw c.in-Keyword-None.is at c.in-Keyword-None.field-0-is));
  },
)

pub returns-in_ok-name-in_default : goal.returns-in_ok-name-in_default
returns-in_ok-name-in_default g c = rw c.node-in_default.ensures (
  refl,
  λ v. record {
    part = name_part (lexeme g.X.AsStr.text c.args.token.now);
    keeps = record {
      starts = starts_one (lexeme g.X.AsStr.text c.args.token.now) [];
      ends =
          ends_one (lexeme g.X.AsStr.text c.args.token.now);
      first = refl;
      plain = refl;
      depth = refl;
      kept =
          λ h. ap (λ z. name z) c.in_ok-name-in_default.ensures;
      form = ap (λ z. a_name z) c.in_ok-name-in_default.ensures;
    };
    begins = refl;
    leads = λ s. elim c.in_default.branch [
      | in_default-via-in-Keyword+in_default w ↦ search rules
      | in_default-via-in_default w ↦ search rules
    ];
  },
)
