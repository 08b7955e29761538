-- The tokens of a list, as the iterator over it gives them.
use Rattle.std.proofs.Common.{◌≡◌, ℕ, ◌⊎◌, inl, inr, List, [], ◌∷◌, ◌++◌, map, Some, None, Result, Ok, Err, MatchResult}
use Rattle.std.proofs.Common.{IfOk, IfErr, refl, ap, sym, ◌∙◌, subst, append_assoc}
use Rattle.std.specs.Borrow.{Bor}
use Rattle.pc_source.specs.declared.fault.Fault.{Fault}
use Rattle.pc_source.specs.declared.fault.Fault.TheVariants as fault
use Rattle.pc_source.specs.declared.fault.Refusal.{Refusal}
use Rattle.pc_source.specs.Stream.{Yields}
use Rattle.pc_source.specs.Answers.{OnRefusal}
use Rattle.pc_token.specs.declared.token.Token.{Token}
use Rattle.pc_token.specs.Lexeme.{Lexeme, lexeme_of}
use Rattle.pc_token.specs.Lexeme.{form_of}
use Rattle.pc_tree.specs.declared.tree.Module.{Module as RustModule}
use Rattle.pc_tree.specs.Tree.{Module, module_of}
use Rattle.pc_tree.specs.Depth.{too_deep_at}
use Rattle.pc_grammar.specs.Grammar.Modules.{SpellsModule}
use Rattle.pc_grammar.specs.Faults.{IsModule, IsRefusal}
use Rattle.pc_grammar.specs.Machine.{reads}
use Rattle.pc_grammar.proofs.CompleteModules.{spelled_reads}
use Rattle.pc_reader.specs.Reading.{lexeme}
use Rattle.pc_parse.specs.Answering.{IsRead, IsRefusedByTokens, IsFaulty}
use Rattle.pc_parse.specs.declared.listed.Listed.{Listed}
use Rattle.pc_parse.specs.Internal.ListedTokens.{tokens_left, gives_token}

-- tokens that all came are those of the list
pub all_came : (ts : List (Token (Bor (List ℕ)))) (s : Listed) → Yields gives_token s (map Ok ts)
    → map lexeme_of ts ≡ tokens_left s
all_came [] s c = sym c.1.0
all_came (t ∷ ts) s c = ap (λ z. lexeme_of t ∷ z) (all_came ts c.0 c.2) ∙ sym c.1

-- no fault comes but a failed allocation
pub no_fault : (ts : List (Token (Bor (List ℕ)))) (s : Listed) (e : Fault)
    → Yields gives_token s (map Ok ts ++ (Err e ∷ [])) → e ≡ fault.OutOfMemory
no_fault [] s e c = c.2
no_fault (t ∷ ts) s e c = no_fault ts c.0 e c.2

same_module : (ts : List Lexeme) (m n : Module) → SpellsModule m ts → SpellsModule n ts → m ≡ n
same_module ts m n h g = let x = spelled_reads m ts h in let y = spelled_reads n ts g in by_reads (sym x ∙ y)
  where
    by_reads : reads m ≡ reads n → m ≡ n
    by_reads e = cc

-- a module is not refused
pub not_refused : (ts : List Lexeme) (m : Module) (r : Refusal) → IsModule ts m → IsRefusal ts r → ⊥
not_refused ts m r h (inl (c, inl f)) = f.refused (
  f.after,
  m,
  subst (λ z. SpellsModule m z)
      (f.all ∙ sym (append_assoc f.before (f.token ∷ []) f.after)) h.spelled,
)
not_refused ts m r h (inl (c, inr f)) = f.unspelled m h.spelled
not_refused ts m r h (inr (c, f)) = let e = same_module ts f.tree m f.spelled h.spelled in
    none_some (sym (ap too_deep_at e ∙ h.shallow) ∙ f.first)
  where
    none_some : None ≡ Some r.byte → ⊥
    none_some q = cc

pub only_module : (ts : List Lexeme) (m n : Module) → IsModule ts m → IsModule ts n → n ≡ m
only_module ts m n h g = same_module ts n m g.spelled h.spelled

module _ (text : Bor (List ℕ) → List ℕ) (as_now : (b : Bor (List ℕ)) → text b ≡ b.now) where
  lexeme_is : (t : Token (Bor (List ℕ))) → lexeme text t ≡ lexeme_of t
  lexeme_is t = ap (λ (z : List ℕ). let l : Lexeme = record {
    kind = t.kind;
    place = t.place;
    text = z;
    form =
        form_of z t.form;
  } in l) (as_now t.text)

  lexemes_are : (ts : List (Token (Bor (List ℕ)))) → map (lexeme text) ts ≡ map lexeme_of ts
  lexemes_are [] = refl
  lexemes_are (t ∷ ts) = ap (λ z. z ∷ map (lexeme text) ts) (lexeme_is t) ∙ ap (λ z. lexeme_of t ∷ z) (lexemes_are ts)

  -- the result for the tokens of a list
  pub listed_read : (s : Listed) (r : Result RustModule Fault) → IfOk r (λ m. IsRead text gives_token s (module_of m))
      → IfOk r (λ m. IsModule (tokens_left s) (module_of m))
  listed_read s (Ok v) x = subst (λ z. IsModule z (module_of v)) (lexemes_are x.tokens ∙ all_came x.tokens s x.came)
      x.is
  listed_read s (Err e) x = tt

  pub listed_refused : (s : Listed) (r : Result RustModule Fault)
      → IfErr r (OnRefusal (λ q. IsRefusedByTokens text gives_token s q
      ⊎ IsFaulty text gives_token s (fault.Refused q))) → IfErr r (OnRefusal (IsRefusal (tokens_left s)))
  listed_refused s (Ok v) x = tt
  listed_refused s (Err fault.OutOfMemory) x = tt
  listed_refused s (Err (fault.Refused q)) (inl x) = subst (λ z. IsRefusal z q)
      (lexemes_are x.tokens ∙ all_came x.tokens s x.came) x.is
  listed_refused s (Err (fault.Refused q)) (inr f) = absurd (no (no_fault f.tokens s (fault.Refused q) f.came))
    where
      no : fault.Refused q ≡ fault.OutOfMemory → ⊥
      no e = cc

pub only : (ts : List Lexeme) (r : Result RustModule Fault) → IfOk r (λ v. IsModule ts (module_of v))
    → IfErr r (OnRefusal (IsRefusal ts)) → (m : Module) → IsModule ts m
    → MatchResult r (λ v. module_of v ≡ m) (λ e. e ≡ fault.OutOfMemory)
only ts (Ok v) x y m h = only_module ts m (module_of v) h x
only ts (Err fault.OutOfMemory) x y m h = refl
only ts (Err (fault.Refused q)) x y m h = absurd (not_refused ts m q h y)
