-- Imports, as the machine reads them.
use Rattle.std.specs.declared.convert.AsStr.{Ghosts as TextOf}
use Rattle.std.specs.declared.iter.Iterator.{Ghosts as TokensOf}
use Rattle.std.proofs.Common.{◌≡◌, ℕ, ◌&&◌, Bool, true, false, List, [], ◌∷◌, Option, Some, Result, refl, arith, ap}
use Rattle.std.proofs.Common.{sym, ◌∙◌}
use Rattle.std.specs.Prelude.{codes, bytes_eq}
use Rattle.pc_source.specs.declared.fault.Fault.{Fault}
use Rattle.pc_token.specs.declared.token.Token.{Token}
use Rattle.pc_token.specs.declared.token.TokenKind.TheVariants as kind
use Rattle.pc_token.specs.declared.token.Keyword.TheVariants as word
use Rattle.pc_token.specs.declared.token.Operator.TheVariants as sign
use Rattle.pc_grammar.specs.Grammar.{name_of_token}
use Rattle.pc_grammar.specs.Machine.{at, transition}
use Rattle.pc_grammar.specs.Machine.Kinds.{same_kind, a_kind, a_form, is_fixed}
use Rattle.pc_grammar.specs.Machine.Lines.{due, start, no_top, takes_header}
use Rattle.pc_grammar.specs.Machine.States.{HeaderStage, after_future, after_dataclasses, after_headers, Top, of_module}
use Rattle.pc_grammar.specs.Machine.States.{State}
use Rattle.pc_grammar.specs.Machine.States.{fixed, items, importing, item_named, decorator_due, def_due, stuck, on}
use Rattle.pc_reader.specs.declared.reader.Reader.{Reader}
use Rattle.pc_reader.specs.Reading.{Blames, IsAhead, lexeme, Came, Onward, Takes}
use Rattle.pc_reader.specs.Internal.FixedWords.{IsFormAhead, GivesFixed, TakesForm}
use Rattle.pc_reader.proofs.Steps.{step_to, alike, not_seen}
use Rattle.pc_reader.proofs.Streams.{blame}
use Rattle.pc_reader.proofs.Words.{form_read, kind_read, form_seen}
use Rattle.pc_parse.specs.Internal.Modules.{import_words}

-- the states after the first and after the second header
abbrev pub dataclassed : Top
dataclassed = record { imports_dataclass = true; imports_any = false; items = [] }

no_more : (b : Bool) → (b && false) ≡ false
no_more true = refl
no_more false = refl

module _ {X I : Type 0} (text : X → List ℕ) (steps : I → Option (Result (Token X) Fault) → I → Type 0)
    (a : Reader X I) where
  not_form : (form : List ℕ) {t : Token X} → IsFormAhead text form a.ahead ≡ false → a.ahead ≡ Some t
      → is_fixed (a_form form) (lexeme text t) t.kind ≡ false
  not_form form e h = sym (ap (IsFormAhead text form) h) ∙ e

  -- with no other header the items begin
  pub headed : (stage : HeaderStage) (top : Top) → IsAhead (kind.Keyword word.From) a.ahead ≡ false
      → Onward text steps a a (at (items stage top)) (at (items after_headers top))
  headed stage top e = alike text steps a (items stage top) (items after_headers top) refl refl
      (λ t h. ap (λ z. on (same_kind t.kind kind.Name) (item_named (name_of_token (lexeme text t)) top)
      (on (same_kind t.kind (kind.Operator sign.At)) (decorator_due t.place top)
      (on (same_kind t.kind (kind.Keyword word.Def)) (def_due (of_module top) t.place)
      (on (z && takes_header stage) (importing stage top) stuck)))) (not_seen (kind.Keyword word.From) e h)
      ∙ sym (ap (λ z. on (same_kind t.kind kind.Name) (item_named (name_of_token (lexeme text t)) top)
      (on (same_kind t.kind (kind.Operator sign.At)) (decorator_due t.place top)
      (on (same_kind t.kind (kind.Keyword word.Def)) (def_due (of_module top) t.place)
      (on (z && false) (importing after_headers top) stuck)))) (not_seen (kind.Keyword word.From) e h)))

  -- the second header
  pub of_dataclasses : (top : Top) → IsFormAhead text (codes "dataclasses") a.ahead ≡ true
      → Onward text steps a a (at (importing after_future top))
      (at (due (import_words (codes "dataclasses") (codes "dataclass"))
      (items after_dataclasses (record top { imports_dataclass = true }))))
  of_dataclasses top e = alike text steps a (importing after_future top)
      (due (import_words (codes "dataclasses") (codes "dataclass"))
      (items after_dataclasses (record top { imports_dataclass = true }))) refl refl
      (λ t h. let f = form_seen text (codes "dataclasses") e h in
      ap (λ z. on (z && true) (fixed (a_kind (kind.Keyword word.Import))
      (a_form (codes "dataclass") ∷ a_kind kind.Newline ∷ []) (items after_dataclasses
      (record top { imports_dataclass = true })))
      (on (same_kind t.kind kind.Name && bytes_eq (lexeme text t).form (codes "typing"))
      (fixed (a_kind (kind.Keyword word.Import)) (a_form (codes "Any") ∷ a_kind kind.Newline ∷ [])
      (items after_headers (record top { imports_any = true }))) stuck)) f
      ∙ sym (ap (λ z. on z (fixed (a_kind (kind.Keyword word.Import))
      (a_form (codes "dataclass") ∷ a_kind kind.Newline ∷ []) (items after_dataclasses
      (record top { imports_dataclass = true }))) stuck) f))

  -- the third header, where the second does not stand
  pub of_typing : (top : Top) → IsFormAhead text (codes "dataclasses") a.ahead ≡ false
      → Onward text steps a a (at (importing after_future top))
      (at (due (import_words (codes "typing") (codes "Any")) (items after_headers
      (record top { imports_any = true }))))
  of_typing top e = alike text steps a (importing after_future top)
      (due (import_words (codes "typing") (codes "Any")) (items after_headers (record top { imports_any = true }))) refl
      refl
      (λ t h. ap (λ z. on (z && true) (fixed (a_kind (kind.Keyword word.Import))
      (a_form (codes "dataclass") ∷ a_kind kind.Newline ∷ []) (items after_dataclasses
      (record top { imports_dataclass = true })))
      (on (same_kind t.kind kind.Name && bytes_eq (lexeme text t).form (codes "typing"))
      (fixed (a_kind (kind.Keyword word.Import)) (a_form (codes "Any") ∷ a_kind kind.Newline ∷ [])
      (items after_headers (record top { imports_any = true }))) stuck)) (not_form (codes "dataclasses") e h))

  -- the third header after the second
  pub then_typing : (top : Top) → Onward text steps a a (at (importing after_dataclasses top))
      (at (due (import_words (codes "typing") (codes "Any")) (items after_headers (record top { imports_any = true }))))
  then_typing top = alike text steps a (importing after_dataclasses top)
      (due (import_words (codes "typing") (codes "Any")) (items after_headers (record top { imports_any = true }))) refl
      refl
      (λ t h. ap (λ z. on z (fixed (a_kind (kind.Keyword word.Import))
      (a_form (codes "dataclass") ∷ a_kind kind.Newline ∷ []) (items after_dataclasses
      (record top { imports_dataclass = true })))
      (on (same_kind t.kind kind.Name && bytes_eq (lexeme text t).form (codes "typing"))
      (fixed (a_kind (kind.Keyword word.Import)) (a_form (codes "Any") ∷ a_kind kind.Newline ∷ [])
      (items after_headers (record top { imports_any = true }))) stuck))
      (no_more (same_kind t.kind kind.Name && bytes_eq (lexeme text t).form (codes "dataclasses"))))

module _ {X I : Type 0} {texts : TextOf X} {source : TokensOf I (Result (Token X) Fault)} where
  pub from_read : {a b : Reader X I} {t : Token X} (stage : HeaderStage) (top : Top) → Takes texts source a b t
      → t.kind ≡ kind.Keyword word.From → takes_header stage ≡ true → Onward texts.text source.next_gives a b
      (at (items stage top))
      (at (importing stage top))
  from_read {t = t} stage top h k s = step_to (items stage top) (importing stage top) h
      (ap (transition (items stage top) (lexeme texts.text t)) k ∙ ap (λ z. on z (importing stage top) stuck) s)

  -- an import is read from its tokens
  pub import_read : (origin imported : List ℕ) {a p q r b : Reader X I} {t u v w : Token X}
      → TakesForm texts source origin a p t → Takes texts source p q u → u.kind ≡ kind.Keyword word.Import
      → TakesForm texts source imported q r v → Takes texts source r b w → w.kind ≡ kind.Newline
      → GivesFixed texts source (import_words origin imported) a b
  import_read origin imported f h k g j i = record {
    ready = j.ready;
    later = omega (arith, f.takes.later, h.later, g.takes.later, j.later);
    leads = λ next o y. form_read f (a_kind (kind.Keyword word.Import) ∷ a_form imported ∷ a_kind kind.Newline ∷ [])
        next o
        (kind_read (kind.Keyword word.Import) h k (a_form imported ∷ a_kind kind.Newline ∷ []) next o
        (form_read g (a_kind kind.Newline ∷ []) next o (kind_read kind.Newline j i [] next o y)));
  }

  -- up to the items, or to the second header
  pub begun : {a m b : Reader X I} {t : Token X} → Takes texts source a m t → t.kind ≡ kind.Keyword word.From
      → GivesFixed texts source (import_words (codes "__future__") (codes "annotations")) m b
      → Onward texts.text source.next_gives a b (at start) (at (items after_future no_top))
  begun h k f o y = kind_read (kind.Keyword word.From) h k (import_words (codes "__future__") (codes "annotations"))
      (items after_future no_top) o (f.leads (items after_future no_top) o y)

  pub future_fails : {a m : Reader X I} {t : Token X} {e : Fault} → Takes texts source a m t
      → t.kind ≡ kind.Keyword word.From
      → Blames e (λ o. (next : State)
      → Came texts.text source.next_gives m (at (due (import_words (codes "__future__") (codes "annotations")) next)) o)
      → Blames e (λ o. Came texts.text source.next_gives a (at start) o)
  future_fails h k w = blame (λ o u. kind_read (kind.Keyword word.From) h k
      (import_words (codes "__future__") (codes "annotations")) (items after_future no_top) o
      (u (items after_future no_top))) w

  module _ (a : Reader X I) {b p : Reader X I} {t : Token X} (so_far : Onward texts.text source.next_gives a b
      (at start)
      (at (items after_future no_top))) (h : Takes texts source b p t)
      (k : t.kind ≡ kind.Keyword word.From) where
    second : Onward texts.text source.next_gives a p (at start) (at (importing after_future no_top))
    second o y = so_far o (from_read after_future no_top h k refl o y)

    pub typing_fails : (e : Fault) → IsFormAhead texts.text (codes "dataclasses") p.ahead ≡ false
        → Blames e (λ o. (next : State)
        → Came texts.text source.next_gives p (at (due (import_words (codes "typing") (codes "Any")) next)) o)
        → Blames e (λ o. Came texts.text source.next_gives a (at start) o)
    typing_fails e n w =
        blame (λ o u. second o (of_typing texts.text source.next_gives p no_top n o
        (u (items after_headers (record no_top { imports_any = true }))))) w

    pub typed : {d : Reader X I} → IsFormAhead texts.text (codes "dataclasses") p.ahead ≡ false
        → GivesFixed texts source (import_words (codes "typing") (codes "Any")) p d
        → Onward texts.text source.next_gives a d (at start)
        (at (items after_headers (record no_top { imports_any = true })))
    typed n f o y = second o (of_typing texts.text source.next_gives p no_top n o
        (f.leads (items after_headers (record no_top { imports_any = true })) o y))

    pub dataclasses_fail : (e : Fault) → IsFormAhead texts.text (codes "dataclasses") p.ahead ≡ true
        → Blames e (λ o. (next : State)
        → Came texts.text source.next_gives p (at (due (import_words (codes "dataclasses") (codes "dataclass")) next))
        o)
        → Blames e (λ o. Came texts.text source.next_gives a (at start) o)
    dataclasses_fail e n w =
        blame (λ o u. second o (of_dataclasses texts.text source.next_gives p no_top n o
        (u (items after_dataclasses dataclassed)))) w

    pub classed : {d : Reader X I} → IsFormAhead texts.text (codes "dataclasses") p.ahead ≡ true
        → GivesFixed texts source (import_words (codes "dataclasses") (codes "dataclass")) p d
        → Onward texts.text source.next_gives a d (at start) (at (items after_dataclasses dataclassed))
    classed n f o y = second o (of_dataclasses texts.text source.next_gives p no_top n o
        (f.leads (items after_dataclasses dataclassed) o y))

  module _ (a : Reader X I) {b p : Reader X I} {t : Token X} (so_far : Onward texts.text source.next_gives a b
      (at start)
      (at (items after_dataclasses dataclassed))) (h : Takes texts source b p t)
      (k : t.kind ≡ kind.Keyword word.From) where
    pub then_typing_fails : (e : Fault) → Blames e (λ o. (next : State)
        → Came texts.text source.next_gives p (at (due (import_words (codes "typing") (codes "Any")) next)) o)
        → Blames e (λ o. Came texts.text source.next_gives a (at start) o)
    then_typing_fails e w =
        blame (λ o u. so_far o (from_read after_dataclasses dataclassed h k refl o
        (then_typing texts.text source.next_gives p dataclassed o
        (u (items after_headers (record dataclassed { imports_any = true }))))))
        w

    pub then_typed : {d : Reader X I} → GivesFixed texts source (import_words (codes "typing") (codes "Any")) p d
        → Onward texts.text source.next_gives a d (at start)
        (at (items after_headers (record dataclassed { imports_any = true })))
    then_typed f o y = so_far o (from_read after_dataclasses dataclassed h k refl o
        (then_typing texts.text source.next_gives p dataclassed o
        (f.leads (items after_headers (record dataclassed { imports_any = true })) o y)))
