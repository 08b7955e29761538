-- A union of which each member has a field: the types of the field, and the label of the attribute.
use Rattle.std.proofs.Common.{◌≡◌, ◌+◌, ◌<◌, ◌≤◌, ◌∙◌, ℕ, List, [], ◌∷◌, ◌++◌, refl, sym, ap}
use Rattle.std.proofs.Common.{append_assoc, length, get_or, drop}
use Rattle.std.specs.Prelude.{if◌then◌else◌, map}
use Rattle.std.proofs.lemmas.List.{append-nil, map_push}
use Rattle.pc_tree.specs.declared.code.Code.{Code}
use Rattle.pc_types.specs.Tree.{Tree, Any}
use Rattle.pc_types.specs.Below.{Bases}
use Rattle.pc_flow.specs.Environment.{join_all}
use Rattle.pc_flow.proofs.Rest.{mapped_rest, mapped_end}
use Rattle.pc_rules.specs.Operations.{Offer, Label, supported, clean, has_error, found_of, offers_label}

module _ {Ty : Type 0} (tree : Ty → Tree) where
  -- an attribute that has this type on a member
  abbrev pub read : Ty → Offer
  read t = supported (tree t) []

  module _ (on : Tree → Offer) (members : List Ty) where
    -- the first i members have these types, and the others are still to be read
    abbrev pub AreRead : ℕ → List Ty → Type 0
    AreRead i types = map read types ++ map on (drop i (map tree members)) ≡ map on (map tree members)

    pub read_more : (i : ℕ) (types : List Ty) (m t : Ty) → i < length members → m ≡ get_or members i m
        → read t ≡ on (tree m) → AreRead i types → AreRead (i + 1) (types ++ t ∷ [])
    read_more i types m t lt is e v =
        ap (λ l. l ++ map on (drop (i + 1) (map tree members))) (map_push read types t)
        ∙ append_assoc (map read types) (read t ∷ []) (map on (drop (i + 1) (map tree members)))
        ∙ ap (λ (o : Offer). map read types ++ (o ∷ map on (drop (i + 1) (map tree members)))) e
        ∙ (rw (mapped_rest tree members i m lt is) at v)

    pub read_all : (i : ℕ) (types : List Ty) → length members ≤ i → AreRead i types
        → map read types ≡ map on (map tree members)
    read_all i types le v = sym (append-nil (map read types)) ∙ (rw (mapped_end tree members i le) at v)

  none_found : (types : List Ty) → found_of (map read types) ≡ []
  none_found [] = refl
  none_found (t ∷ ts) = none_found ts

  given : (types : List Ty) → map (λ (o : Offer). o.gives) (map read types) ≡ map tree types
  given [] = refl
  given (t ∷ ts) = ap (λ l. tree t ∷ l) (given ts)

  abbrev label_by : Bases → List Code → List Tree → Label
  label_by bases codes gives = record { type = if has_error codes then Any else join_all bases gives; codes = codes }

  label_made : (bases : Bases) (types : List Ty) (codes : List Code) (gives : List Tree) → codes ≡ []
      → gives ≡ map tree types → label_by bases codes gives ≡ clean (join_all bases (map tree types))
  label_made bases types codes gives e d = rw (e, d) refl

  -- the label of an attribute that each member has is the join of its types, and nothing is found
  pub label_read : (bases : Bases) (types : List Ty) (offers : List Offer) → map read types ≡ offers
      → clean (join_all bases (map tree types)) ≡ offers_label bases offers
  label_read bases types offers e = sym (label_made bases types (found_of (map read types))
      (map (λ (o : Offer). o.gives) (map read types)) (none_found types) (given types)) ∙ ap (offers_label bases) e
