-- The types of the results of a call stay of the store over calls that may add types, and the results are added member
-- by member.
use Rattle.std.proofs.Common.{◌≡◌, ◌<◌, ◌≤◌, ◌+◌, drop, ℕ, List, [], ◌∷◌, ◌++◌, Option, Some, None, refl, sym, ap, ◌∙◌}
use Rattle.std.proofs.Common.{length, get_or, subst, append_assoc, append-nil}
use Rattle.std.specs.Prelude.{All, map, flat_map}
use Rattle.std.proofs.lemmas.List.{map_push, drop_all}
use Rattle.pc_tree.proofs.Stops.{cons_at}
use Rattle.std.proofs.lemmas.List.Elements.{All-push, All-weaker, All-get_or}
use Rattle.pc_types.specs.Tree.{Tree}
use Rattle.pc_types.specs.Store.{KeepsTypes}
use Rattle.pc_calls.specs.declared.call_offers.Called.{Called}
use Rattle.pc_calls.specs.declared.call_offers.Called.TheVariants as called
use Rattle.pc_calls.specs.declared.call_offers.CallOffer.{CallOffer as RustCallOffer}
use Rattle.pc_types.specs.Shape.{members}
use Rattle.pc_flow.proofs.Rest.{mapped_rest, mapped_end}
use Rattle.pc_rules.specs.Calls.{CallOffer, value_offer, value_offers}
use Rattle.pc_calls.specs.JudgedCalls.{offer_called, HasCalled, HasCalledIfAny, HasCallOffer, IsCallOffer}
use Rattle.pc_calls.specs.JudgedCalls.{IsOnlyOffer, AreCallOffers}
use Rattle.pc_class.specs.Listings.{listed_in}
use Rattle.pc_class.specs.Tables.{HasParameter}

module _ {Store Ty : Type 0} (has : Store → Ty → Type 0) where
  pub item_held : (old new : Store) (xs : List Ty) (i : ℕ) (x : Ty) → KeepsTypes has old new → All (has old) xs
      → i < length xs → x ≡ get_or xs i x → has new x
  item_held old new xs i x k all less is = k x (subst (has old) (sym is) (All-get_or (has old) xs i x less all))

  module _ (old new : Store) (k : KeepsTypes has old new) where
    called_kept : (c : Called Ty) → HasCalled (has old) c → HasCalled (has new) c
    called_kept (called.Listed ps) h = All-weaker (HasParameter (has old)) (HasParameter (has new)) (λ p. k p.ty)
        (listed_in ps) h
    called_kept (called.Builtin types) h = All-weaker (has old) (has new) k types.items h

    called_kept_if_any : (c : Option (Called Ty)) → HasCalledIfAny (has old) c → HasCalledIfAny (has new) c
    called_kept_if_any None h = tt
    called_kept_if_any (Some c) h = called_kept c h

    pub offer_kept : (o : RustCallOffer Ty) → HasCallOffer (has old) o → HasCallOffer (has new) o
    offer_kept o h = record { gives = k o.gives h.gives; calls = called_kept_if_any o.calls h.calls }

    pub offers_kept : (os : List (RustCallOffer Ty)) → All (HasCallOffer (has old)) os → All (HasCallOffer (has new)) os
    offers_kept os h = All-weaker (HasCallOffer (has old)) (HasCallOffer (has new)) offer_kept os h

module _ {Store Ty : Type 0} (has : Store → Ty → Type 0) (tree : Ty → Tree) where
  -- the offers of a call added since the store was the first one, and those to come
  pub record IsAdded (start now : Store) (rest whole : List CallOffer) (offers : List (RustCallOffer Ty)) : Type 0 where
    pub kept : KeepsTypes has start now
    pub held : All (HasCallOffer (has now)) offers
    pub so_far : map (offer_called tree) offers ++ rest ≡ whole

  pub added_none : (store : Store) (rest : List CallOffer) (offers : List (RustCallOffer Ty))
      → All (HasCallOffer (has store)) offers → IsAdded store store rest (map (offer_called tree) offers ++ rest) offers
  added_none store rest offers h = record { kept = λ ty j. j; held = h; so_far = refl }

  pub added_one : (start old new : Store) (t : CallOffer) (rest whole : List CallOffer)
      (offers : List (RustCallOffer Ty)) (o : RustCallOffer Ty) → KeepsTypes has old new
      → IsAdded start old (t ∷ rest) whole offers → IsCallOffer has tree new o t
      → IsAdded start new rest whole (offers ++ o ∷ [])
  added_one start old new t rest whole offers o k a is = record {
    kept = λ ty j. k ty (a.kept ty j);
    held = All-push (HasCallOffer (has new)) offers o (offers_kept has old new k offers a.held) is.given;
    so_far = rw (map_push (offer_called tree) offers o, append_assoc, is.is) a.so_far;
  }

  pub added_several : (start old new : Store) (ts rest whole : List CallOffer) (offers others : List (RustCallOffer Ty))
      → KeepsTypes has old new → IsAdded start old (ts ++ rest) whole offers
      → AreCallOffers has tree new others (map (offer_called tree) offers ++ ts) → IsAdded start new rest whole others
  added_several start old new ts rest whole offers others k a are = record {
    kept = λ ty j. k ty (a.kept ty j);
    held = are.given;
    so_far = ap (λ (os : List CallOffer). os ++ rest) are.is ∙ append_assoc (map (offer_called tree) offers) ts rest
        ∙ a.so_far;
  }

  pub added_all : (start now : Store) (rest whole : List CallOffer) (offers : List (RustCallOffer Ty)) → rest ≡ []
      → IsAdded start now rest whole offers → AreCallOffers has tree now offers whole
  added_all start now rest whole offers e a = record {
    given = a.held;
    is = sym (append-nil _)
        ∙ ap (λ (os : List CallOffer). map (offer_called tree) offers ++ os) (sym e) ∙ a.so_far;
  }

  -- a value called on one more member, and on all
  pub values_more : (start old new : Store) (before : List CallOffer) (offers : List (RustCallOffer Ty)) (ms : List Ty)
      (i : ℕ) (m : Ty) (o : RustCallOffer Ty) → i < length ms → m ≡ get_or ms i m → KeepsTypes has old new
      → IsAdded start old (map value_offer (drop i (map tree ms))) (before ++ map value_offer (map tree ms)) offers
      → IsCallOffer has tree new o (value_offer (tree m))
      → IsAdded start new (map value_offer (drop (i + 1) (map tree ms))) (before ++ map value_offer (map tree ms))
      (offers ++ o ∷ [])
  values_more start old new before offers ms i m o less is k a f = added_one start old new (value_offer (tree m)) _ _
      offers o k (subst (λ (ts : List Tree). IsAdded start old (map value_offer ts)
      (before ++ map value_offer (map tree ms)) offers) (mapped_rest tree ms i m less is) a) f

  pub values_all : (start now : Store) (before : List CallOffer) (offers : List (RustCallOffer Ty)) (ms : List Ty)
      (i : ℕ) (t : Tree) → length ms ≤ i → map tree ms ≡ members t
      → IsAdded start now (map value_offer (drop i (map tree ms))) (before ++ map value_offer (map tree ms)) offers
      → AreCallOffers has tree now offers (before ++ value_offers t)
  values_all start now before offers ms i t h e a = subst (λ (ts : List Tree). AreCallOffers has tree now offers
      (before ++ map value_offer ts)) e (added_all start now _ _ offers (ap (map value_offer) (mapped_end tree ms i h))
      a)

  -- the offer of a call on one more member, added after the others
  pub pushed_one : (old new : Store) (t : CallOffer) (offers : List (RustCallOffer Ty)) (o : RustCallOffer Ty)
      → KeepsTypes has old new → All (HasCallOffer (has old)) offers → IsCallOffer has tree new o t
      → AreCallOffers has tree new (offers ++ o ∷ []) (map (offer_called tree) offers ++ t ∷ [])
  pushed_one old new t offers o k h is = record {
    given = All-push (HasCallOffer (has new)) offers o (offers_kept has old new k offers h) is.given;
    is = map_push (offer_called tree) offers o ∙ ap (λ (u : CallOffer). map (offer_called tree) offers ++ u ∷ []) is.is;
  }

  module _ (F : Tree → List CallOffer) where
    -- the offers of a call on one more member, and on all members
    pub members_more : (start old new : Store) (whole : List CallOffer) (offers others : List (RustCallOffer Ty))
        (ms : List Ty) (i : ℕ) (m : Ty) → i < length ms → m ≡ get_or ms i m → KeepsTypes has old new
        → IsAdded start old (flat_map F (map tree (drop i ms))) whole offers
        → AreCallOffers has tree new others (map (offer_called tree) offers ++ F (tree m))
        → IsAdded start new (flat_map F (map tree (drop (i + 1) ms))) whole others
    members_more start old new whole offers others ms i m less is k a are =
        added_several start old new (F (tree m)) (flat_map F (map tree (drop (i + 1) ms))) whole offers others k
        (subst (λ (l : List Ty). IsAdded start old (flat_map F (map tree l)) whole offers) (cons_at ms i m less is)
        a) are

    pub members_all : (start now : Store) (whole : List CallOffer) (offers : List (RustCallOffer Ty)) (ms : List Ty)
        (i : ℕ) → length ms ≤ i → IsAdded start now (flat_map F (map tree (drop i ms))) whole offers
        → AreCallOffers has tree now offers whole
    members_all start now whole offers ms i h a = added_all start now _ whole offers
        (ap (λ (l : List Ty). flat_map F (map tree l)) (drop_all i ms h)) a

  pub pushed_only : (old new : Store) (ts : List CallOffer) (offers : List (RustCallOffer Ty)) (o : RustCallOffer Ty)
      → KeepsTypes has old new → All (HasCallOffer (has old)) offers → IsOnlyOffer has tree new o ts
      → AreCallOffers has tree new (offers ++ o ∷ []) (map (offer_called tree) offers ++ ts)
  pushed_only old new ts offers o k h is = subst (λ (us : List CallOffer). AreCallOffers has tree new (offers ++ o ∷ [])
      (map (offer_called tree) offers ++ us)) is.is (pushed_one old new (offer_called tree o) offers o k h
      (record { given = is.given; is = refl }))
