-- The label of a call by the members of its callee: its type and its codes.
use Rattle.std.proofs.Common.{◌≡◌, ◌<◌, ◌≤◌, ◌+◌, ℕ, List, [], map, drop, length, get_or, Bool as Test, true, false}
use Rattle.std.proofs.Common.{refl, sym, ap, ◌∙◌}
use Rattle.std.specs.Prelude.{◌||◌, if◌then◌else◌, flat_map}
use Rattle.std.specs.List.{list_any}
use Rattle.std.proofs.lemmas.List.{drop_all}
use Rattle.pc_tree.specs.declared.code.Code.{Code}
use Rattle.pc_tree.specs.Stopping.{has_none}
use Rattle.pc_tree.proofs.Stops.{cons_at}
use Rattle.pc_types.specs.Tree.{Tree, Any, Object}
use Rattle.pc_types.specs.Shape.{members}
use Rattle.pc_types.specs.Head.{head_of}
use Rattle.pc_types.specs.Below.{Bases}
use Rattle.pc_flow.specs.Environment.{join_or_object, join_onto, join_all}
use Rattle.pc_rules.specs.declared.label.Label.{Label as RustLabel}
use Rattle.pc_calls.specs.declared.call_offers.CallOffer.{CallOffer as RustCallOffer}
use Rattle.pc_rules.specs.Operations.{Label, has_error}
use Rattle.pc_rules.specs.Computed.Findings.{once, brief}
use Rattle.pc_rules.specs.Calls.{CallOffer, all_codes, call_codes, call_label, is_object_or_any}
use Rattle.pc_rules.specs.Computed.Standing.{label_with}
use Rattle.pc_calls.specs.JudgedCalls.{is_head_of_any, offer_called, found_at_callee, found_at_call}
use Rattle.pc_calls.proofs.ErrorsOfCalls.{callee_meant, call_meant}

module _ {Ty : Type 0} (tree : Ty → Tree) where
  -- a label is a label by its type and its codes
  pub label_is : (l : RustLabel Ty) (m : Label) → tree l.ty ≡ m.type → l.codes.items ≡ once m.codes
      → label_with tree l ≡ brief m
  label_is l m e f = ap (λ t. let n : Label = record { type = t; codes = l.codes.items } in n) e
      ∙ ap (λ cs. let n : Label = record { type = m.type; codes = cs } in n) f

  -- the types that a call gives on each member
  abbrev pub given_types : List (RustCallOffer Ty) → List Tree
  given_types os = map (λ (o : CallOffer). o.gives) (map (offer_called tree) os)

  pub join_more : (bases : Bases) (joined new total : Tree) (os : List (RustCallOffer Ty)) (i : ℕ)
      (o : RustCallOffer Ty) → i < length os → o ≡ get_or os i o
      → join_onto bases joined (given_types (drop i os)) ≡ total → new ≡ join_or_object bases joined (tree o.gives)
      → join_onto bases new (given_types (drop (i + 1) os)) ≡ total
  join_more bases joined new total os i o less is inv e = ap (λ t. join_onto bases t (given_types (drop (i + 1) os))) e
      ∙ ap (λ (l : List (RustCallOffer Ty)). join_onto bases joined (given_types l)) (sym (cons_at os i o less is))
      ∙ inv

  pub join_done : (bases : Bases) (joined total : Tree) (os : List (RustCallOffer Ty)) (i : ℕ) → length os ≤ i
      → join_onto bases joined (given_types (drop i os)) ≡ total → joined ≡ total
  join_done bases joined total os i h inv = ap (λ (l : List (RustCallOffer Ty)). join_onto bases joined (given_types l))
      (sym (drop_all i os h)) ∙ inv

  pub codes_meant : (os : List (RustCallOffer Ty)) → (if has_none (found_at_callee os) then found_at_call os else [])
      ≡ call_codes (map (offer_called tree) os)
  codes_meant os =
      ap (λ (cs : List Code). if has_none cs then found_at_call os else []) (sym (callee_meant tree os))
      ∙ ap (λ (cs : List Code). if has_none (flat_map (λ (o : CallOffer). o.at_callee) (map (offer_called tree) os))
      then cs else []) (sym (call_meant tree os))

  -- the label of a call in error, and of one that gives a join
  pub call_failed : (bases : Bases) (l : RustLabel Ty) (os : List (RustCallOffer Ty))
      → true ≡ has_error (all_codes (map (offer_called tree) os)) → tree l.ty ≡ Any
      → l.codes.items ≡ once (call_codes (map (offer_called tree) os))
      → label_with tree l ≡ brief (call_label bases (map (offer_called tree) os))
  call_failed bases l os e t f = label_is l (call_label bases (map (offer_called tree) os))
      (t ∙ ap (λ (b : Test). if b then Any else join_all bases (given_types os)) e) f

  pub call_given : (bases : Bases) (l : RustLabel Ty) (os : List (RustCallOffer Ty))
      → false ≡ has_error (all_codes (map (offer_called tree) os)) → tree l.ty ≡ join_all bases (given_types os)
      → l.codes.items ≡ once (call_codes (map (offer_called tree) os))
      → label_with tree l ≡ brief (call_label bases (map (offer_called tree) os))
  call_given bases l os e t f = label_is l (call_label bases (map (offer_called tree) os))
      (t ∙ ap (λ (b : Test). if b then Any else join_all bases (given_types os)) e) f

-- whether a member is Any or object is told by its head
head_told : (t : Tree) → is_head_of_any (head_of t) ≡ is_object_or_any t
head_told Any = refl
head_told Object = refl
head_told _ = refl

module _ {Ty : Type 0} (tree : Ty → Tree) (ms : List Ty) (i : ℕ) (m : Ty) (less : i < length ms)
    (is : m ≡ get_or ms i m) (inv : list_any is_object_or_any (map tree (drop i ms)) ≡ list_any is_object_or_any
    (map tree ms)) where
  one_more : list_any is_object_or_any (map tree (drop i ms)) ≡ (is_head_of_any (head_of (tree m))
      || list_any is_object_or_any (map tree (drop (i + 1) ms)))
  one_more = ap (λ (l : List Ty). list_any is_object_or_any (map tree l)) (cons_at ms i m less is)
      ∙ ap (λ b. b || list_any is_object_or_any (map tree (drop (i + 1) ms))) (sym (head_told (tree m)))

  pub any_found : (t : Tree) → map tree ms ≡ members t → is_head_of_any (head_of (tree m)) ≡ true
      → true ≡ list_any is_object_or_any (members t)
  any_found t e f = sym (one_more ∙ rw f refl) ∙ inv ∙ ap (list_any is_object_or_any) e

  pub any_not : is_head_of_any (head_of (tree m)) ≡ false → list_any is_object_or_any (map tree (drop (i + 1) ms))
      ≡ list_any is_object_or_any (map tree ms)
  any_not f = sym (one_more ∙ rw f refl) ∙ inv

pub any_none : {Ty : Type 0} (tree : Ty → Tree) (ms : List Ty) (i : ℕ) (t : Tree) → length ms ≤ i
    → list_any is_object_or_any (map tree (drop i ms)) ≡ list_any is_object_or_any (map tree ms)
    → map tree ms ≡ members t → false ≡ list_any is_object_or_any (members t)
any_none {Ty} tree ms i t h inv e = ap (λ (l : List Ty). list_any is_object_or_any (map tree l)) (sym (drop_all i ms h))
    ∙ inv ∙ ap (list_any is_object_or_any) e
