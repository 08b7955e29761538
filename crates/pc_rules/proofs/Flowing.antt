-- The notes of the flows of a label into several types, which depend only on the label's type and set of codes.
use Rattle.std.proofs.Common.{◌≡◌, ◌∙◌, ◌+◌, ◌<◌, ◌≤◌, ◌++◌, ℕ, List, [], ◌∷◌, refl, sym, ap, subst, length, get_or}
use Rattle.std.proofs.Common.{drop, append_assoc, append-nil}
use Rattle.std.specs.Prelude.{map, Option, Some, None, Bool as Test, true, false}
use Rattle.pc_source.specs.declared.place.Place.{Place}
use Rattle.pc_tree.specs.declared.code.Code.{Code}
use Rattle.pc_types.specs.Tree.{Tree}
use Rattle.pc_types.specs.Below.{Bases}
use Rattle.pc_types.specs.Computed.{static_test, assignable_test}
use Rattle.pc_flow.proofs.Rest.{mapped_rest, mapped_end}
use Rattle.pc_notes.specs.Notes.{Note}
use Rattle.pc_rules.specs.Operations.{Label}
use Rattle.pc_rules.specs.Context.{is_early}
use Rattle.pc_rules.specs.Computed.Expressions.{code_unless, flows_of}
use Rattle.pc_rules.specs.Computed.Findings.{has_code, brief, own_flow, flow_at, flow_then, flows_behind, flows_at}
use Rattle.pc_rules.proofs.Once.{once_early}

-- the code of the flow of a type with this test of E03
abbrev pub code_of : Bases → Test → Tree → Tree → Option Code
code_of bases early s t = code_unless (static_test bases) (assignable_test bases) early s t

-- the flows of a label with each code once are the same
pub brief_flows : (bases : Bases) (m : Label) (ts : List Tree) → flows_of bases (brief m) ts ≡ flows_of bases m ts
brief_flows bases m [] = refl
brief_flows bases m (t ∷ ts) =
    rw (brief_flows bases m ts) (ap (λ e. record { from = m.type; into = t; code = code_of bases e m.type t }
    ∷ flows_of bases m ts) (once_early m.codes))

pub flows_alike : (bases : Bases) (p : Place) (l m : Label) (ts : List Tree) → l ≡ brief m
    → flows_at p (flows_of bases l ts) ≡ flows_at p (flows_of bases m ts)
flows_alike bases p l m ts e = ap (λ (x : Label). flows_at p (flows_of bases x ts)) e
    ∙ ap (flows_at p) (brief_flows bases m ts)

-- the findings of one flow
pub one_flow : (p : Place) (s t : Tree) (o : Option Code) → flow_at p s t o ≡ flow_then p [] s t o (λ codes. [])
one_flow p s t None = refl
one_flow p s t (Some c) = sym (append-nil (own_flow p s t c))

module _ {Ty : Type 0} (tree : Ty → Tree) (bases : Bases) (p : Place) (m : Label) (into : List Ty)
    (before : List Note) where
  -- the findings of flows into the types from this number on, after these codes
  abbrev pub to_come : ℕ → List Code → List Note
  to_come i codes = flows_behind p codes (flows_of bases m (drop i (map tree into)))

  -- the notes so far and the findings to come are all that is found of the flows
  abbrev pub IsFound : ℕ → List Code → (noted : List Note) → Type 0
  IsFound i codes noted = noted ++ to_come i codes ≡ before ++ flows_at p (flows_of bases m (map tree into))

  -- the finding of the next flow, given its code, is the first of those to come
  pub found_next : (i : ℕ) (codes : List Code) (noted : List Note) (ty : Ty) (o : Option Code) → i < length into
      → ty ≡ get_or into i ty → o ≡ code_of bases (is_early m.codes) m.type (tree ty) → IsFound i codes noted
      → noted ++ flow_then p codes m.type (tree ty) o (to_come (i + 1)) ≡ before ++ flows_at p
      (flows_of bases m (map tree into))
  found_next i codes noted ty o lt is e v = rw e (rw (mapped_rest tree into i ty lt is) at v)

  -- a flow without a code
  pub found_none : (i : ℕ) (codes : List Code) (noted : List Note) (ty : Ty) (o : Option Code) → i < length into
      → ty ≡ get_or into i ty → o ≡ code_of bases (is_early m.codes) m.type (tree ty) → o ≡ None → IsFound i codes noted
      → IsFound (i + 1) codes noted
  found_none i codes noted ty o lt is e n v = rw n at (found_next i codes noted ty o lt is e v)

  -- a flow whose code was found before
  pub found_again : (i : ℕ) (codes : List Code) (noted : List Note) (ty : Ty) (o : Option Code) (c : Code)
      → i < length into → ty ≡ get_or into i ty → o ≡ code_of bases (is_early m.codes) m.type (tree ty) → o ≡ Some c
      → has_code codes c ≡ true → IsFound i codes noted → IsFound (i + 1) codes noted
  found_again i codes noted ty o c lt is e s h v = rw (s, h) at (found_next i codes noted ty o lt is e v)

  -- a flow whose code is new
  pub found_new : (i : ℕ) (codes : List Code) (noted : List Note) (ty : Ty) (o : Option Code) (c : Code)
      → i < length into → ty ≡ get_or into i ty → o ≡ code_of bases (is_early m.codes) m.type (tree ty) → o ≡ Some c
      → has_code codes c ≡ false → IsFound i codes noted → IsFound (i + 1) (codes ++ c ∷ [])
      (noted ++ own_flow p m.type (tree ty) c)
  found_new i codes noted ty o c lt is e s h v =
      append_assoc noted (own_flow p m.type (tree ty) c) (to_come (i + 1) (codes ++ c ∷ []))
      ∙ (rw (s, h) at (found_next i codes noted ty o lt is e v))

  -- nothing is to come after the last type
  pub found_all : (i : ℕ) (codes : List Code) (noted : List Note) → length into ≤ i → IsFound i codes noted
      → noted ≡ before ++ flows_at p (flows_of bases m (map tree into))
  found_all i codes noted le v = sym (append-nil noted) ∙ (rw (mapped_end tree into i le) at v)
