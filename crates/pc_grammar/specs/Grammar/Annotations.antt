-- Annotations. Typing specification, "Type annotations"; PEP 604, unions with `|`. The profile has no other form.
use Rattle.std.specs.Prelude.{◌≡◌, Bool, true, false, IsTrue}
use Rattle.pc_token.specs.declared.token.Keyword.TheVariants as word
use Rattle.pc_token.specs.declared.token.Operator.{Operator}
use Rattle.pc_token.specs.declared.token.Operator.TheVariants as sign
use Rattle.pc_tree.specs.Tree.{Ann, named, none_type, applied, applied_empty, union, Anns, no_anns, more_anns}
use Rattle.pc_grammar.specs.Grammar.{Spelling, At, ◌⟫◌, Rest, Sign, Word, IsName}

-- there are two or more annotations
abbrev pub AreSeveral : Anns → Type 0
AreSeveral (more_anns a (more_anns b rest)) = Unit {0}
AreSeveral _ = ⊥

-- the tokens of an annotation, and of several with a sign between them
abbrev mutual
  -- an annotation; a part of a union is not itself a union
  pub SpellsAnn : Ann → Bool → Spelling
  SpellsAnn (named n) whole = IsName n
  SpellsAnn (none_type p) whole = At p (Word word.None)
  SpellsAnn (applied p head arguments) whole =
      At p (IsName head ⟫ Sign sign.LeftBracket ⟫ (λ ts. Separated arguments sign.Comma true ts)
      ⟫ Sign sign.RightBracket)
  SpellsAnn (applied_empty p head) whole =
      At p (IsName head ⟫ Sign sign.LeftBracket ⟫ Sign sign.LeftParenthesis ⟫ Sign sign.RightParenthesis
      ⟫ Sign sign.RightBracket)
  SpellsAnn (union p parts) whole = λ ts. IsTrue whole × AreSeveral parts
      × At p (λ us. Separated parts sign.Bar false us) ts

  -- one or more annotations with this sign between them, and none after the last
  pub Separated : Anns → Operator → Bool → Spelling
  Separated no_anns o whole = λ ts. ⊥
  Separated (more_anns a rest) o whole = (λ ts. SpellsAnn a whole ts)
      ⟫ Rest (rest ≡ no_anns) (Sign o ⟫ (λ ts. Separated rest o whole ts))

-- a whole annotation, which may be a union
abbrev pub Annotation : Ann → Spelling
Annotation a = SpellsAnn a true
