-- Loops over the members of a type and over the results of an operation on them.
use Rattle.std.proofs.Common.{◌≡◌, ◌+◌, ◌<◌, ◌≤◌, ◌∙◌, ℕ, List, [], ◌∷◌, ◌++◌, refl, sym, ap}
use Rattle.std.proofs.Common.{append_assoc, length, get_or, drop}
use Rattle.std.specs.Prelude.{Bool as Test, true, false, ◌||◌, if◌then◌else◌, All, map, flat_map, option_to_list}
use Rattle.std.specs.Option.{option_map}
use Rattle.std.specs.List.{list_any}
use Rattle.std.proofs.lemmas.List.{append-nil, map_push, drop_all}
use Rattle.std.proofs.lemmas.List.Folds.{list_any-append}
use Rattle.std.proofs.lemmas.List.Elements.{All-nil, All-push, All-weaker}
use Rattle.pc_tree.specs.declared.code.Code.{Code}
use Rattle.pc_tree.specs.Code.{is_error}
use Rattle.pc_tree.proofs.Stops.{cons_at}
use Rattle.pc_types.specs.Tree.{Tree, Any}
use Rattle.pc_types.specs.Below.{Bases}
use Rattle.pc_types.specs.Store.{Means, KeepsTypes}
use Rattle.pc_flow.specs.Environment.{join_all}
use Rattle.pc_flow.proofs.Given.{keeps_both}
use Rattle.pc_flow.proofs.Rest.{mapped_rest, mapped_end}
use Rattle.pc_rules.specs.Operations.{Offer, has_error, found_of, offers_label, operand_types}
use Rattle.pc_rules.specs.Computed.Findings.{once_onto, once}
use Rattle.pc_rules.specs.Computed.Standing.{HasOffer, offer_with, MeansLabel}
use Rattle.pc_operations.specs.JudgedOperations.{IsOffer}
use Rattle.pc_rules.specs.declared.label.Label.{Label as RustLabel}
use Rattle.pc_rules.specs.declared.label.Offer.{Offer as RustOffer}
use Rattle.pc_rules.proofs.Kept.{any_kept}
use Rattle.pc_rules.proofs.Once.{onto_append, once_error}

module _ {Store Ty : Type 0} (has : Store → Ty → Type 0) (a b : Store) (k : KeepsTypes has a b) where
  pub offer_kept : (o : RustOffer Ty) → HasOffer (has a) o → HasOffer (has b) o
  offer_kept o h = record { gives = k o.gives h.gives; takes = any_kept (has a) (has b) k o.takes h.takes }

  pub offers_kept : (os : List (RustOffer Ty)) → All (HasOffer (has a)) os → All (HasOffer (has b)) os
  offers_kept os h = All-weaker (HasOffer (has a)) (HasOffer (has b)) offer_kept os h

-- ---- the offers of so many members

module _ {Store Ty : Type 0} (has : Store → Ty → Type 0) (tree : Ty → Tree) (on : Tree → Offer)
    (members : List Ty) where
  pub record IsOffered (first store : Store) (i : ℕ) (offers : List (RustOffer Ty)) : Type 0 where
    pub kept : KeepsTypes has first store
    pub given : All (HasOffer (has store)) offers
    pub so_far : map (offer_with tree) offers ++ map on (drop i (map tree members)) ≡ map on (map tree members)

  pub offered_none : (first : Store) → IsOffered first first 0 []
  offered_none first = record { kept = λ ty h. h; given = All-nil (HasOffer (has first)); so_far = refl }

  pub offered_more : (first old new : Store) (i : ℕ) (offers : List (RustOffer Ty)) (m : Ty) (o : RustOffer Ty)
      → i < length members → m ≡ get_or members i m → KeepsTypes has old new → IsOffered first old i offers
      → IsOffer has tree new o (on (tree m)) → IsOffered first new (i + 1) (offers ++ o ∷ [])
  offered_more first old new i offers m o lt is k v h = record {
    kept = keeps_both has first old new v.kept k;
    given = All-push (HasOffer (has new)) offers o (offers_kept has old new k offers v.given) h.given;
    so_far = rw (map_push (offer_with tree) offers o, append_assoc, h.is)
        (rw (mapped_rest tree members i m lt is) at v.so_far);
  }

  pub offered_all : (first store : Store) (i : ℕ) (offers : List (RustOffer Ty)) → length members ≤ i
      → IsOffered first store i offers → map (offer_with tree) offers ≡ map on (map tree members)
  offered_all first store i offers le v = sym (append-nil (map (offer_with tree) offers))
      ∙ (rw (mapped_end tree members i le) at v.so_far)

-- ---- the label of so many offers

module _ {Store Ty : Type 0} (has : Store → Ty → Type 0) (tree : Ty → Tree) (bases : Bases)
    (offers : List (RustOffer Ty)) where
  abbrev gives_of : List Offer → List Tree
  gives_of os = map (λ o. o.gives) os

  -- the codes and the results of so many offers; those of the others are to come
  pub record IsListed (store : Store) (i : ℕ) (codes : List Code) (types : List Ty) : Type 0 where
    pub given : All (has store) types
    pub codes_so_far : once_onto codes (found_of (drop i (map (offer_with tree) offers)))
        ≡ once (found_of (map (offer_with tree) offers))
    pub types_so_far : map tree types ++ gives_of (drop i (map (offer_with tree) offers))
        ≡ gives_of (map (offer_with tree) offers)

  pub listed_none : (store : Store) (codes : List Code) (types : List Ty) → codes ≡ [] → types ≡ []
      → IsListed store 0 codes types
  listed_none store codes types e f = record {
    given = rw f (All-nil (has store));
    codes_so_far = rw e refl;
    types_so_far = rw f refl;
  }

  pub listed_more : (store : Store) (i : ℕ) (codes more : List Code) (types next : List Ty) (o : RustOffer Ty) (t : Ty)
      → i < length offers → o ≡ get_or offers i o → IsListed store i codes types
      → more ≡ once_onto codes (option_to_list o.found) → next ≡ types ++ t ∷ [] → Means has tree store t (tree o.gives)
      → IsListed store (i + 1) more next
  listed_more store i codes more types next o t lt is v e f m =
      let step = mapped_rest (offer_with tree) offers i o lt is in
      record {
        given = rw f (All-push (has store) types t v.given m.0);
        codes_so_far =
            rw e
            (sym (onto_append codes (option_to_list o.found) (found_of (drop (i + 1) (map (offer_with tree) offers))))
            ∙ (rw step at v.codes_so_far));
        types_so_far = rw (f, map_push tree types t, append_assoc, m.1) (rw step at v.types_so_far);
      }

  pub listed_codes : (store : Store) (i : ℕ) (codes : List Code) (types : List Ty) → length offers ≤ i
      → IsListed store i codes types → codes ≡ once (found_of (map (offer_with tree) offers))
  listed_codes store i codes types le v = rw (mapped_end (offer_with tree) offers i le) at v.codes_so_far

  pub listed_types : (store : Store) (i : ℕ) (codes : List Code) (types : List Ty) → length offers ≤ i
      → IsListed store i codes types → map tree types ≡ gives_of (map (offer_with tree) offers)
  listed_types store i codes types le v = sym (append-nil (map tree types))
      ∙ (rw (mapped_end (offer_with tree) offers i le) at v.types_so_far)

  -- the type of the label, and whether there is an error, by the codes found
  label_type : (t : Tree) (wrong : Test) → has_error (found_of (map (offer_with tree) offers)) ≡ wrong
      → t ≡ (if wrong then Any else join_all bases (gives_of (map (offer_with tree) offers)))
      → t ≡ (offers_label bases (map (offer_with tree) offers)).type
  label_type t wrong e h = rw e h

  pub label_is : (store : Store) (l : RustLabel Ty) (wrong : Test) → has_error l.codes.items ≡ wrong
      → l.codes.items ≡ once (found_of (map (offer_with tree) offers)) → has store l.ty
      → tree l.ty ≡ (if wrong then Any else join_all bases (gives_of (map (offer_with tree) offers)))
      → MeansLabel has tree store l (offers_label bases (map (offer_with tree) offers))
  label_is store l wrong w e h t =
      let found : has_error (found_of (map (offer_with tree) offers)) ≡ wrong =
      sym (once_error (found_of (map (offer_with tree) offers))) ∙ ap has_error (sym e) ∙ w in
      record { given = h; is = λ j. record { type = label_type (tree l.ty) wrong found t j; codes = e j } }

-- ---- the operand types of so many offers

pub wrong_is : {Ty : Type 0} (tree : Ty → Tree) (offers : List (RustOffer Ty))
    → list_any (λ (o : RustOffer Ty). has_error (option_to_list o.found)) offers
    ≡ has_error (found_of (map (offer_with tree) offers))
wrong_is tree [] = refl
wrong_is tree (o ∷ os) = ap (λ x. has_error (option_to_list o.found) || x) (wrong_is tree os)
    ∙ sym (list_any-append is_error (option_to_list o.found) (found_of (map (offer_with tree) os)))

module _ {Ty : Type 0} (tree : Ty → Tree) (offers : List (RustOffer Ty)) where
  abbrev takes_of : List Offer → List Tree
  takes_of os = flat_map (λ o. o.takes) os

  -- the operand types of so many offers are collected; these are to come
  abbrev pub IsTaken : ℕ → List Ty → Type 0
  IsTaken i types = map tree types ++ takes_of (drop i (map (offer_with tree) offers))
      ≡ takes_of (map (offer_with tree) offers)

  pub taken_more : (i : ℕ) (types more : List Ty) (o : RustOffer Ty) → i < length offers → o ≡ get_or offers i o
      → map tree more ≡ map tree types ++ option_to_list (option_map tree o.takes) → IsTaken i types
      → IsTaken (i + 1) more
  taken_more i types more o lt is e v = rw (e, append_assoc) (rw (mapped_rest (offer_with tree) offers i o lt is) at v)

  pub taken_all : (i : ℕ) (types : List Ty) → length offers ≤ i → has_error (found_of (map (offer_with tree) offers))
      ≡ false → IsTaken i types → map tree types ≡ operand_types (map (offer_with tree) offers)
  taken_all i types le e v = rw e (sym (append-nil (map tree types))
      ∙ (rw (mapped_end (offer_with tree) offers i le) at v))

  pub taken_none : has_error (found_of (map (offer_with tree) offers)) ≡ true
      → [] ≡ operand_types (map (offer_with tree) offers)
  taken_none e = rw e refl

-- one of the offers is in error, those before it are not
abbrev pub some_wrong : {Ty : Type 0} → List (RustOffer Ty) → Test
some_wrong offers = list_any (λ o. has_error (option_to_list o.found)) offers

module _ {Ty : Type 0} (offers : List (RustOffer Ty)) (i : ℕ) (o : RustOffer Ty) where
  pub wrong_here : i < length offers → o ≡ get_or offers i o → has_error (option_to_list o.found) ≡ true
      → some_wrong (drop i offers) ≡ some_wrong offers → some_wrong offers ≡ true
  wrong_here lt is e v = sym v ∙ (rw (cons_at offers i o lt is, e) refl)

  pub right_here : i < length offers → o ≡ get_or offers i o → has_error (option_to_list o.found) ≡ false
      → some_wrong (drop i offers) ≡ some_wrong offers → some_wrong (drop (i + 1) offers) ≡ some_wrong offers
  right_here lt is e v = rw (cons_at offers i o lt is, e) at v

pub none_wrong : {Ty : Type 0} (offers : List (RustOffer Ty)) (i : ℕ) → length offers ≤ i → some_wrong (drop i offers)
    ≡ some_wrong offers → some_wrong offers ≡ false
none_wrong offers i le v = sym v ∙ (rw (drop_all i offers le) refl)
