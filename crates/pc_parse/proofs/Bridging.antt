-- From the machine's answers over a stream to the grammar of its tokens.
use Rattle.std.specs.declared.convert.AsStr.{Ghosts as TextOf}
use Rattle.std.specs.declared.iter.Iterator.{Ghosts as TokensOf}
use Rattle.std.proofs.Common.{◌≡◌, ℕ, ◌⊎◌, inl, inr, List, [], ◌∷◌, ◌++◌, map, Option, Some, None, Result, Ok, Err}
use Rattle.std.proofs.Common.{refl, ap, sym, ◌∙◌, subst}
use Rattle.pc_source.specs.declared.fault.Fault.{Fault}
use Rattle.pc_source.specs.declared.fault.Fault.TheVariants as fault
use Rattle.pc_source.specs.declared.fault.Refusal.{Refusal}
use Rattle.pc_source.specs.declared.fault.RefusalCode.TheVariants as code
use Rattle.pc_source.specs.Stream as stream
use Rattle.pc_source.specs.Answers.{OnRefusal}
use Rattle.pc_token.specs.declared.token.Token.{Token}
use Rattle.pc_token.specs.Lexeme.{Lexeme}
use Rattle.pc_tree.specs.declared.tree.Module.{Module as RustModule}
use Rattle.pc_tree.specs.Tree.{Module, module_of}
use Rattle.pc_tree.specs.Depth.{too_deep_at}
use Rattle.pc_grammar.specs.Grammar.{last_place}
use Rattle.pc_grammar.specs.Faults.{IsModule, IsRefusal}
use Rattle.pc_grammar.specs.Machine.{Reading, at, ReadOutcome, reads, refuses, short, step, stop, read_tokens}
use Rattle.pc_grammar.specs.Machine.Lines.{start}
use Rattle.pc_grammar.proofs.Sound.{reads_spells}
use Rattle.pc_grammar.proofs.Front.{misfit, ends_early}
use Rattle.pc_reader.specs.Reading.{Blames, answer_for, lexeme, run_items, ComesToAnswer, Came}
use Rattle.pc_reader.proofs.Streams.{run_token, run_fault, run_end}
use Rattle.pc_parse.specs.declared.parser.Parser.{Parser}
use Rattle.pc_parse.specs.Internal.Modules.{GivesModule}
use Rattle.pc_parse.specs.Answering.{IsRead, IsRefusedByTokens, IsFaulty}

run_more : (r : Reading) (t : Lexeme) (ts : List Lexeme) → read_tokens r (t ∷ ts) ≡ read_tokens (step r t) ts
unfolding read_tokens
run_more r t ts = refl

run_over : (r : Reading) → read_tokens r [] ≡ stop r
unfolding read_tokens
run_over r = refl

-- where the last of these tokens ends, or what came before them
abbrev end_of : ℕ → List Lexeme → ℕ
end_of end [] = end
end_of end (t ∷ ts) = end_of t.place.end ts

last_end : (t : Lexeme) (ts : List Lexeme) → end_of t.place.end ts ≡ (last_place (t ∷ ts)).end
last_end t [] = refl
last_end t (u ∷ ts) = last_end u ts

end_is : (ts : List Lexeme) → end_of 0 ts ≡ (last_place ts).end
end_is [] = refl
end_is (t ∷ ts) = last_end t ts

answered_ok : (end : ℕ) (x : ReadOutcome) (m : Module) → answer_for end x ≡ Ok m → x ≡ reads m
answered_ok end (reads n) m e = let q : n ≡ m = cc in ap reads q
answered_ok end (refuses byte) m e = cc
answered_ok end short m e = cc

-- the fault of an answer, or else this one
abbrev fault_in : Fault → Result Module Fault → Fault
fault_in e (Ok m) = e
fault_in e (Err f) = f

-- the answer for an outcome that is no module
abbrev Unread : ℕ → ReadOutcome → Fault → Type 0
Unread end x e = ((byte : ℕ) × (x ≡ refuses byte) × (e ≡ fault.Refused (record { code = code.G1; byte = byte })))
    ⊎ ((x ≡ short) × (e ≡ fault.Refused (record { code = code.G1; byte = end })))

answered_err : (end : ℕ) (x : ReadOutcome) (e : Fault) → answer_for end x ≡ Err e → Unread end x e
answered_err end (reads n) e q = cc
answered_err end (refuses byte) e q = let h : fault.Refused (record { code = code.G1; byte = byte }) ≡ e = cc in
    inl (byte, refl, sym h)
answered_err end short e q = let h : fault.Refused (record { code = code.G1; byte = end }) ≡ e = cc in inr (refl, sym h)

module _ {X : Type 0} (text : X → List ℕ) where
  -- items that lead to a module are tokens
  record Whole (r : Reading) (xs : List (Result (Token X) Fault)) (m : Module) : Type 0 where
    tokens : List (Token X)
    all : xs ≡ map Ok tokens
    run_is : read_tokens r (map (lexeme text) tokens) ≡ reads m

  came_whole : (xs : List (Result (Token X) Fault)) (end : ℕ) (r : Reading) (m : Module)
      → run_items text end r xs ≡ Ok m → Whole r xs m
  came_whole [] end r m e = record {
    tokens = [];
    all = refl;
    run_is = run_over r
        ∙ answered_ok end (stop r) m (sym (run_end text end r) ∙ e);
  }
  came_whole (Ok t ∷ xs) end r m e = let w = came_whole xs t.place.end (step r (lexeme text t)) m
      (sym (run_token text end r t xs) ∙ e) in
      record {
        tokens = t ∷ w.tokens;
        all = ap (λ z. Ok t ∷ z) w.all;
        run_is =
            run_more r (lexeme text t) (map (lexeme text) w.tokens) ∙ w.run_is;
      }
  came_whole (Err f ∷ xs) end r m e = let q : Err f ≡ Ok m = sym (run_fault text end r f xs) ∙ e in cc

  -- items that lead to a fault end with it, or are tokens that are no module
  record Faulty (xs : List (Result (Token X) Fault)) (e : Fault) : Type 0 where
    tokens : List (Token X)
    all : xs ≡ map Ok tokens ++ (Err e ∷ [])

  record Unreadable (end : ℕ) (r : Reading) (xs : List (Result (Token X) Fault)) (e : Fault) : Type 0 where
    tokens : List (Token X)
    all : xs ≡ map Ok tokens
    unread : Unread (end_of end (map (lexeme text) tokens)) (read_tokens r (map (lexeme text) tokens)) e

  module _ {I : Type 0} (steps : I → Option (Result (Token X) Fault) → I → Type 0) where
    came_fault : (xs : List (Result (Token X) Fault)) (it : I) (end : ℕ) (r : Reading) (e : Fault)
        → stream.Yields steps it xs → run_items text end r xs ≡ Err e → Faulty xs e ⊎ Unreadable end r xs e
    came_fault [] it end r e c q =
        inr (record {
          tokens = [];
          all = refl;
          unread = subst (λ z. Unread end z e) (sym (run_over r))
              (answered_err end (stop r) e (sym (run_end text end r) ∙ q));
        })
    came_fault (Ok t ∷ xs) it end r e c q = more (came_fault xs c.0 t.place.end (step r (lexeme text t)) e c.2
        (sym (run_token text end r t xs) ∙ q))
      where
        more : Faulty xs e ⊎ Unreadable t.place.end (step r (lexeme text t)) xs e → Faulty (Ok t ∷ xs) e
            ⊎ Unreadable end r (Ok t ∷ xs) e
        more (inl f) = inl (record { tokens = t ∷ f.tokens; all = ap (λ z. Ok t ∷ z) f.all })
        more (inr u) = inr (record {
          tokens = t ∷ u.tokens;
          all = ap (λ z. Ok t ∷ z) u.all;
          unread = subst (λ z. Unread (end_of t.place.end (map (lexeme text) u.tokens)) z e)
              (sym (run_more r (lexeme text t) (map (lexeme text) u.tokens))) u.unread;
        })
    came_fault (Err f ∷ xs) it end r e c q = let h : f ≡ e = ap (fault_in f) (sym (run_fault text end r f xs) ∙ q) in
        inl (record { tokens = []; all = ap (λ z. Err f ∷ z) c.0 ∙ ap (λ z. Err z ∷ []) h })

same_refusal : (r q : Refusal) → fault.Refused r ≡ fault.Refused q → r ≡ q
same_refusal r q e = cc

refusal_of : (ts : List Lexeme) (r : Refusal) → Unread (end_of 0 ts) (read_tokens (at start) ts) (fault.Refused r)
    → IsRefusal ts r
refusal_of ts r (inl (byte, e, q)) = subst (λ z. IsRefusal ts z)
    (sym (same_refusal r (record { code = code.G1; byte = byte }) q)) (inl (refl, inl (misfit ts byte e)))
refusal_of ts r (inr (e, q)) = subst (λ z. IsRefusal ts z)
    (sym (same_refusal r (record { code = code.G1; byte = end_of 0 ts }) q))
    (inl (refl, inr (let f = ends_early ts e in record { front = f.front; unspelled = f.unspelled; end = end_is ts })))

module _ {X I : Type 0} (text : X → List ℕ) (steps : I → Option (Result (Token X) Fault) → I → Type 0) where
  -- the module that the stream leads to
  pub answers_module : (it : I) (n m : Module) → ComesToAnswer text steps it 0 (at start) (Ok m) → n ≡ m
      → too_deep_at m ≡ None → IsRead text steps it n
  answers_module it n m (xs, c, e) same shallow = let w = came_whole text xs 0 (at start) m e in record {
    tokens = w.tokens;
    came = subst (λ z. stream.Yields steps it z) w.all c;
    is = subst (λ z. IsModule (map (lexeme text) w.tokens) z) (sym same)
        (record { spelled = reads_spells (map (lexeme text) w.tokens) m w.run_is; shallow = shallow });
  }

  -- a module that is too deep
  pub answers_depth : (it : I) (m : Module) (byte : ℕ) → ComesToAnswer text steps it 0 (at start) (Ok m)
      → too_deep_at m ≡ Some byte → IsRefusedByTokens text steps it (record { code = code.G2; byte = byte })
  answers_depth it m byte (xs, c, e) deep = let w = came_whole text xs 0 (at start) m e in record {
    tokens = w.tokens;
    came = subst (λ z. stream.Yields steps it z) w.all c;
    is = inr (refl, record { tree = m; spelled = reads_spells (map (lexeme text) w.tokens) m w.run_is; first = deep });
  }

  -- the fault that the stream leads to
  pub answers_fault : (it : I) (r : Refusal) → ComesToAnswer text steps it 0 (at start) (Err (fault.Refused r))
      → IsRefusedByTokens text steps it r ⊎ IsFaulty text steps it (fault.Refused r)
  answers_fault it r (xs, c, e) = by_came (came_fault text steps xs it 0 (at start) (fault.Refused r) c e)
    where
      by_came : Faulty text xs (fault.Refused r) ⊎ Unreadable text 0 (at start) xs (fault.Refused r)
          → IsRefusedByTokens text steps it r ⊎ IsFaulty text steps it (fault.Refused r)
      by_came (inl f) = inr (record { tokens = f.tokens; came = subst (λ z. stream.Yields steps it z) f.all c })
      by_came (inr u) = inl (record {
        tokens = u.tokens;
        came = subst (λ z. stream.Yields steps it z) u.all c;
        is =
            refusal_of (map (lexeme text) u.tokens) r u.unread;
      })

  -- the result of a call that ends in a fault
  pub blamed : (it : I) (e : Fault) → Blames e (λ o. ComesToAnswer text steps it 0 (at start) o)
      → OnRefusal (λ r. IsRefusedByTokens text steps it r ⊎ IsFaulty text steps it (fault.Refused r)) e
  blamed it (fault.Refused r) h = answers_fault it r (h.said r refl)
  blamed it fault.OutOfMemory h = tt

module _ {X I : Type 0} (texts : TextOf X) (source : TokensOf I (Result (Token X) Fault)) (it : I)
    {a b : Parser X I} {v : RustModule}
    (lead : (st : Reading) (o : Result Module Fault) → Came texts.text source.next_gives a.reader st o
    → ComesToAnswer texts.text source.next_gives it 0 st o) (none : a.deep ≡ None)
    (x : GivesModule texts source a b v) where
  depth_is : b.deep ≡ too_deep_at x.tree
  depth_is = x.keeps.deep ∙ ap (λ z. Rattle.pc_parse.specs.Internal.WholeTrees.deep_after z
      (Rattle.pc_tree.specs.Depth.wholes_of_items x.tree.items)) none

  pub shallow_module : b.deep ≡ None → IsRead texts.text source.next_gives it (module_of v)
  shallow_module e = answers_module texts.text source.next_gives it (module_of v) x.tree
      (lead (at start) (Ok x.tree) x.comes) (x.keeps.kept e)
      (sym depth_is ∙ e)

  pub deep_module : (byte : ℕ) → b.deep ≡ Some byte → IsRefusedByTokens texts.text source.next_gives it
      (record { code = code.G2; byte = byte })
  deep_module byte e = answers_depth texts.text source.next_gives it x.tree byte (lead (at start) (Ok x.tree) x.comes)
      (sym depth_is ∙ e)
