-- If a call has no finding, the arguments match each signature that it offers, the signature's result is of the call's
-- type, and the arguments flow into it.
use Rattle.std.proofs.Common.{◌≡◌, List, [], ◌∷◌, ◌++◌, map, refl, sym, ap, ◌∙◌, subst, inl, inr}
use Rattle.std.specs.Prelude.{◌⊎◌, Bool as Test, true, false, if◌then◌else◌, flat_map}
use Rattle.pc_tree.specs.declared.code.Code.TheVariants.{E14}
use Rattle.pc_tree.specs.Stopping.{has_none}
use Rattle.pc_types.specs.Tree.{Any}
use Rattle.pc_types.specs.Below.{Bases, AreSmaller}
use Rattle.pc_flow.specs.Environment.{join_all}
use Rattle.pc_rules.specs.Operations.{has_error}
use Rattle.pc_rules.specs.Context.{Signature}
use Rattle.pc_rules.specs.Calls.{GivenArguments, is_suited, CallOffer, signature_offer, fails_at_call, call_codes}
use Rattle.pc_rules.specs.Calls.{all_codes, call_label, signatures}
use Rattle.pc_value.specs.Value.{Value}
use Rattle.pc_sound.specs.Values.{HeapTyping, HasType}
use Rattle.pc_sound.proofs.Lists.{front_empty, not_empty, rest_empty}
use Rattle.pc_sound.proofs.Values.Narrowing.{HasSome}
use Rattle.pc_sound.proofs.Values.Joins.{all_hold}
use Rattle.pc_sound.proofs.Calls.LabelledArguments.{IsOneOf}

-- an offer is one of several
abbrev pub IsOffer : CallOffer → List CallOffer → Type 0
IsOffer o [] = ⊥
IsOffer o (p ∷ ps) = (p ≡ o) ⊎ IsOffer o ps

pub offer_left : (o : CallOffer) (xs ys : List CallOffer) → IsOffer o xs → IsOffer o (xs ++ ys)
offer_left o [] ys h = absurd h
offer_left o (x ∷ xs) ys h = elim h [ inl e ↦ inl e | inr r ↦ inr (offer_left o xs ys r) ]

pub offer_right : (o : CallOffer) (xs ys : List CallOffer) → IsOffer o ys → IsOffer o (xs ++ ys)
offer_right o [] ys h = h
offer_right o (x ∷ xs) ys h = inr (offer_right o xs ys h)

both_empty : {A : Type 0} (xs ys : List A) → xs ≡ [] → ys ≡ [] → xs ++ ys ≡ []
both_empty xs ys e f = λ i. e i ++ f i

-- nothing is found at all where nothing is found at the callee and at the call of each member
each_quiet : (offers : List CallOffer) → flat_map (λ o. o.at_callee) offers ≡ [] → flat_map (λ o. o.at_call) offers ≡ []
    → all_codes offers ≡ []
each_quiet [] e f = refl
each_quiet (o ∷ os) e f =
    both_empty (o.at_callee ++ o.at_call) (all_codes os)
    (both_empty o.at_callee o.at_call (front_empty o.at_callee (flat_map (λ o. o.at_callee) os) e)
    (front_empty o.at_call (flat_map (λ o. o.at_call) os) f))
    (each_quiet os (rest_empty o.at_callee (flat_map (λ o. o.at_callee) os) e)
    (rest_empty o.at_call (flat_map (λ o. o.at_call) os) f))

-- nothing is found at all where nothing is found at the callee and at the call
pub all_quiet : (offers : List CallOffer) → flat_map (λ o. o.at_callee) offers ≡ [] → call_codes offers ≡ []
    → all_codes offers ≡ []
all_quiet offers e f = each_quiet offers e (ap (λ codes. if has_none codes then flat_map (λ o. o.at_call) offers
    else []) (sym e) ∙ f)

-- nothing is found on one of the offers
pub offer_quiet : (o : CallOffer) (offers : List CallOffer) → IsOffer o offers → all_codes offers ≡ []
    → (o.at_callee ≡ []) × (o.at_call ≡ [])
offer_quiet o [] h e = absurd h
offer_quiet o (p ∷ ps) h e = elim h [
  | inl is ↦ let f = front_empty (p.at_callee ++ p.at_call) (all_codes ps) e in (
    subst (λ x. x.at_callee ≡ []) is (front_empty p.at_callee p.at_call f),
    subst (λ x. x.at_call ≡ []) is
        (rest_empty p.at_callee p.at_call f),
  )
  | inr r ↦ offer_quiet o ps r (rest_empty (p.at_callee ++ p.at_call) (all_codes ps) e)
]

-- a signature that is offered is suited where nothing is found
pub suited_where_quiet : (g : GivenArguments) (s : Signature) → (signature_offer g s).at_call ≡ []
    → is_suited g s ≡ true
suited_where_quiet g s e = go (is_suited g s) refl
  where
    go : (b : Test) → is_suited g s ≡ b → is_suited g s ≡ true
    go true t = t
    go false t =
        absurd
        (not_empty
        (sym (ap (λ b. (if b then record { at_callee = []; at_call = []; gives = s.returns; calls = s ∷ [] }
        else fails_at_call E14).at_call) t) ∙ e))

one_left : (s : Signature) (xs ys : List Signature) → IsOneOf s xs → IsOneOf s (xs ++ ys)
one_left s [] ys h = absurd h
one_left s (x ∷ xs) ys h = elim h [ inl e ↦ inl e | inr r ↦ inr (one_left s xs ys r) ]

one_right : (s : Signature) (xs ys : List Signature) → IsOneOf s ys → IsOneOf s (xs ++ ys)
one_right s [] ys h = h
one_right s (x ∷ xs) ys h = inr (one_right s xs ys h)

called_of : (o : CallOffer) (s : Signature) (offers : List CallOffer) → IsOffer o offers → IsOneOf s o.calls
    → IsOneOf s (flat_map (λ o. o.calls) offers)
called_of o s [] h c = absurd h
called_of o s (p ∷ ps) h c = elim h [
  | inl is ↦ one_left s p.calls (flat_map (λ o. o.calls) ps) (subst (λ x. IsOneOf s x.calls) (sym is) c)
  | inr r ↦ one_right s p.calls (flat_map (λ o. o.calls) ps) (called_of o s ps r c)
]

-- the arguments flow into a signature that is offered
pub offered_called : (o : CallOffer) (s : Signature) (offers : List CallOffer) → IsOffer o offers
    → all_codes offers ≡ [] → IsOneOf s o.calls → IsOneOf s (signatures offers)
offered_called o s offers h quiet c = subst (λ codes. IsOneOf s
    (if has_error codes then [] else flat_map (λ o. o.calls) offers)) (sym quiet) (called_of o s offers h c)

pub suited_called : (g : GivenArguments) (s : Signature) → is_suited g s ≡ true → IsOneOf s (signature_offer g s).calls
suited_called g s e =
    subst (λ b. IsOneOf s (if b then record { at_callee = []; at_call = []; gives = s.returns; calls = s ∷ [] }
    else fails_at_call E14).calls) (sym e) (inl refl)

pub suited_gives : (g : GivenArguments) (s : Signature) → is_suited g s ≡ true → (signature_offer g s).gives ≡ s.returns
suited_gives g s e = ap (λ b. (if b then record { at_callee = []; at_call = []; gives = s.returns; calls = s ∷ [] }
    else fails_at_call E14).gives) e

module _ (bases : Bases) (smaller : AreSmaller bases) (k : HeapTyping) where
  given_of : (o : CallOffer) (offers : List CallOffer) → IsOffer o offers → (v : Value) → HasType bases k o.gives v
      → HasSome bases k (map (λ o. o.gives) offers) v
  given_of o [] h v has = absurd h
  given_of o (p ∷ ps) h v has = elim h [
    | inl is ↦ inl (subst (λ x. HasType bases k x.gives v) (sym is) has)
    | inr r ↦
        inr (given_of o ps r v has)
  ]

  -- a value of the type that one of the offers gives is of the call's type
  pub gives_call_type : (o : CallOffer) (offers : List CallOffer) → IsOffer o offers → all_codes offers ≡ []
      → (v : Value) → HasType bases k o.gives v → HasType bases k (call_label bases offers).type v
  gives_call_type o offers h quiet v has = subst (λ codes. HasType bases k
      (if has_error codes then Any else join_all bases (map (λ o. o.gives) offers)) v) (sym quiet)
      (all_hold bases smaller k (map (λ o. o.gives) offers) v (given_of o offers h v has))
