-- Loops over the results of a store on the members of a type.
use Rattle.std.proofs.Common.{◌≡◌, ◌+◌, ◌<◌, ◌≤◌, ◌∙◌, ℕ, List, [], ◌∷◌, ◌++◌, refl, sym, ap, append_assoc, length}
use Rattle.std.proofs.Common.{get_or, drop}
use Rattle.std.specs.Prelude.{true, false, if◌then◌else◌, All, map, flat_map, option_to_list}
use Rattle.std.proofs.lemmas.List.{append-nil, map_push, drop_all}
use Rattle.std.proofs.lemmas.List.Elements.{All-nil, All-push, All-weaker}
use Rattle.pc_tree.specs.declared.code.Code.{Code}
use Rattle.pc_tree.proofs.Stops.{cons_at}
use Rattle.pc_types.specs.Tree.{Tree}
use Rattle.pc_types.specs.Store.{KeepsTypes}
use Rattle.pc_flow.proofs.Given.{keeps_both}
use Rattle.pc_flow.proofs.Rest.{mapped_rest, mapped_end}
use Rattle.pc_rules.specs.Operations.{StoreOffer, has_error, store_codes}
use Rattle.pc_rules.specs.Computed.Findings.{once_onto, once}
use Rattle.pc_statements.specs.Storing.{HasStoreOffer, IsStoreOffer, store_offer_with}
use Rattle.pc_statements.specs.declared.store_offers.StoreOffer.{StoreOffer as RustStoreOffer}
use Rattle.pc_rules.proofs.Kept.{any_kept}
use Rattle.pc_rules.proofs.Once.{onto_append, once_error}

module _ {Store Ty : Type 0} (has : Store → Ty → Type 0) (a b : Store) (k : KeepsTypes has a b) where
  stores_kept : (o : RustStoreOffer Ty) → HasStoreOffer (has a) o → HasStoreOffer (has b) o
  stores_kept o h = record {
    takes = any_kept (has a) (has b) k o.takes h.takes;
    stores = any_kept (has a) (has b) k o.stores h.stores;
  }

  pub all_stores_kept : (os : List (RustStoreOffer Ty)) → All (HasStoreOffer (has a)) os
      → All (HasStoreOffer (has b)) os
  all_stores_kept os h = All-weaker (HasStoreOffer (has a)) (HasStoreOffer (has b)) stores_kept os h

-- ---- the store offers of so many members

module _ {Store Ty : Type 0} (has : Store → Ty → Type 0) (tree : Ty → Tree) (on : Tree → StoreOffer)
    (members : List Ty) where
  pub record AreStores (first store : Store) (i : ℕ) (offers : List (RustStoreOffer Ty)) : Type 0 where
    pub kept : KeepsTypes has first store
    pub given : All (HasStoreOffer (has store)) offers
    pub so_far : map (store_offer_with tree) offers ++ map on (drop i (map tree members)) ≡ map on (map tree members)

  pub stores_none : (first : Store) → AreStores first first 0 []
  stores_none first = record { kept = λ ty h. h; given = All-nil (HasStoreOffer (has first)); so_far = refl }

  pub stores_more : (first old new : Store) (i : ℕ) (offers : List (RustStoreOffer Ty)) (m : Ty) (o : RustStoreOffer Ty)
      → i < length members → m ≡ get_or members i m → KeepsTypes has old new → AreStores first old i offers
      → IsStoreOffer has tree new o (on (tree m)) → AreStores first new (i + 1) (offers ++ o ∷ [])
  stores_more first old new i offers m o lt is k v h = record {
    kept = keeps_both has first old new v.kept k;
    given = All-push (HasStoreOffer (has new)) offers o (all_stores_kept has old new k offers v.given) h.given;
    so_far = rw (map_push (store_offer_with tree) offers o, append_assoc, h.is)
        (rw (mapped_rest tree members i m lt is) at v.so_far);
  }

  pub stores_all : (first store : Store) (i : ℕ) (offers : List (RustStoreOffer Ty)) → length members ≤ i
      → AreStores first store i offers → map (store_offer_with tree) offers ≡ map on (map tree members)
  stores_all first store i offers le v = sym (append-nil (map (store_offer_with tree) offers))
      ∙ (rw (mapped_end tree members i le) at v.so_far)

-- ---- the codes of so many offers

-- the codes of offers, in order
abbrev pub codes_found : {Ty : Type 0} → List (RustStoreOffer Ty) → List Code
codes_found offers = flat_map (λ o. option_to_list o.found) offers

codes_meant : {Ty : Type 0} (tree : Ty → Tree) (offers : List (RustStoreOffer Ty))
    → codes_found offers ≡ store_codes (map (store_offer_with tree) offers)
codes_meant tree [] = refl
codes_meant tree (o ∷ os) = ap (λ l. option_to_list o.found ++ l) (codes_meant tree os)

module _ {Ty : Type 0} (offers : List (RustStoreOffer Ty)) where
  -- the codes of so many offers are among these; the others are to come
  abbrev pub AreCodes : ℕ → List Code → Type 0
  AreCodes i codes = once_onto codes (codes_found (drop i offers)) ≡ once (codes_found offers)

  pub codes_more : (i : ℕ) (codes more : List Code) (o : RustStoreOffer Ty) → i < length offers → o ≡ get_or offers i o
      → more ≡ once_onto codes (option_to_list o.found) → AreCodes i codes → AreCodes (i + 1) more
  codes_more i codes more o lt is e v =
      rw e (sym (onto_append codes (option_to_list o.found) (codes_found (drop (i + 1) offers)))
      ∙ (rw (cons_at offers i o lt is) at v))

  pub codes_all : (tree : Ty → Tree) (i : ℕ) (codes : List Code) → length offers ≤ i → AreCodes i codes
      → codes ≡ once (store_codes (map (store_offer_with tree) offers))
  codes_all tree i codes le v = (rw (drop_all i offers le) at v) ∙ ap once (codes_meant tree offers)

-- ---- types that indices and stored values flow into

module _ {Ty : Type 0} (tree : Ty → Tree) (offers : List (RustStoreOffer Ty)) where
  -- the error among codes, each once
  pub error_is : (codes : List Code) → codes ≡ once (store_codes (map (store_offer_with tree) offers))
      → has_error codes ≡ has_error (store_codes (map (store_offer_with tree) offers))
  error_is codes e = ap has_error e ∙ once_error (store_codes (map (store_offer_with tree) offers))

  -- the types of this part of so many offers are collected; those of the other offers are to come
  module _ (part : StoreOffer → List Tree) where
    abbrev pub AreTaken : ℕ → List Ty → Type 0
    AreTaken i types = map tree types ++ flat_map part (drop i (map (store_offer_with tree) offers)) ≡ flat_map part
        (map (store_offer_with tree) offers)

    pub take_more : (i : ℕ) (types more : List Ty) (o : RustStoreOffer Ty) → i < length offers → o ≡ get_or offers i o
        → map tree more ≡ map tree types ++ part (store_offer_with tree o) → AreTaken i types → AreTaken (i + 1) more
    take_more i types more o lt is e v = rw (e, append_assoc) (rw (mapped_rest (store_offer_with tree) offers i o lt is)
        at v)

    take_all : (i : ℕ) (types : List Ty) → length offers ≤ i → AreTaken i types
        → map tree types ≡ flat_map part (map (store_offer_with tree) offers)
    take_all i types le v = sym (append-nil (map tree types)) ∙ (rw (mapped_end (store_offer_with tree) offers i le) at
        v)

    -- the types, or none where there is an error
    pub types_right : (i : ℕ) (types : List Ty) → length offers ≤ i
        → has_error (store_codes (map (store_offer_with tree) offers)) ≡ false → AreTaken i types
        → map tree types ≡ (if has_error (store_codes (map (store_offer_with tree) offers)) then [] else flat_map part
        (map (store_offer_with tree) offers))
    types_right i types le e v = rw e (take_all i types le v)

    pub types_wrong : has_error (store_codes (map (store_offer_with tree) offers)) ≡ true
        → [] ≡ (if has_error (store_codes (map (store_offer_with tree) offers)) then [] else flat_map part
        (map (store_offer_with tree) offers))
    types_wrong e = rw e refl
