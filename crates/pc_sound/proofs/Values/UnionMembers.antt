-- Operations member by member: a value of a type is of one of its members, and the result on that member is of the join
-- of the results on all.
use Rattle.std.proofs.Common.{◌≡◌, List, [], ◌∷◌, ◌++◌, map, refl, sym, ap, ◌∙◌, subst, inl, inr}
use Rattle.std.specs.Prelude.{◌⊎◌, if◌then◌else◌, flat_map}
use Rattle.pc_types.specs.Tree.{Tree, Any}
use Rattle.pc_types.specs.Below.{Bases, AreSmaller}
use Rattle.pc_types.specs.Shape.{members}
use Rattle.pc_flow.specs.Environment.{join_all}
use Rattle.pc_rules.specs.Operations.{Label, Offer, found_of, offers_label, operand_types, has_error}
use Rattle.pc_value.specs.Value.{Value, Out, Gives, Stops, Raised, Other, Outside, Cut}
use Rattle.pc_sound.specs.Values.{HeapTyping, HasType, Extends}
use Rattle.pc_sound.specs.Ends.{EndsWell}
use Rattle.pc_sound.proofs.Lists.{front_empty, rest_empty}
use Rattle.pc_sound.proofs.Values.ValuesFlow.{later}
use Rattle.pc_sound.proofs.Values.Narrowing.{HasSome, to_members}
use Rattle.pc_sound.proofs.Values.Joins.{all_hold}

-- an end that is well for less is well for more
pub ends_more : {A : Type 0} (P Q : A → Type 0) → ((a : A) → P a → Q a) → (out : Out A) → EndsWell P out
    → EndsWell Q out
ends_more P Q more (Gives a) e = more a e
ends_more P Q more (Stops (Raised x)) e = e
ends_more P Q more (Stops Outside) e = e
ends_more P Q more (Stops Other) e = e
ends_more P Q more (Stops Cut) e = e

-- the value is of each of the types
abbrev pub HasEach : Bases → HeapTyping → List Tree → Value → Type 0
HasEach bases k [] v = Unit {0}
HasEach bases k (t ∷ ts) v = HasType bases k t v × HasEach bases k ts v

pub each_later : (bases : Bases) {k k' : HeapTyping} → Extends k k' → (ts : List Tree) (v : Value)
    → HasEach bases k ts v → HasEach bases k' ts v
each_later bases x [] v h = tt
each_later bases x (t ∷ ts) v h = (later bases x t v h.0, each_later bases x ts v h.1)

-- each of some types is so
abbrev pub AllOf : (Tree → Type 0) → List Tree → Type 0
AllOf P [] = Unit {0}
AllOf P (t ∷ ts) = P t × AllOf P ts

-- a type is one of some
abbrev pub IsAmong : List Tree → Tree → Type 0
IsAmong [] t = ⊥
IsAmong (s ∷ ts) t = (s ≡ t) ⊎ IsAmong ts t

one_of_all : (P : Tree → Type 0) (ts : List Tree) (t : Tree) → AllOf P ts → IsAmong ts t → P t
one_of_all P [] t all a = absurd a
one_of_all P (s ∷ ts) t all a = elim a [ inl e ↦ subst P e all.0 | inr b ↦ one_of_all P ts t all.1 b ]

pub all_any : (ts : List Tree) → AllOf (λ t. Unit {0}) ts
all_any [] = tt
all_any (t ∷ ts) = (tt, all_any ts)

module _ (bases : Bases) (k : HeapTyping) where
  pub each_left : (ss ts : List Tree) (v : Value) → HasEach bases k (ss ++ ts) v → HasEach bases k ss v
  each_left [] ts v h = tt
  each_left (s ∷ ss) ts v h = (h.0, each_left ss ts v h.1)

  pub each_right : (ss ts : List Tree) (v : Value) → HasEach bases k (ss ++ ts) v → HasEach bases k ts v
  each_right [] ts v h = h
  each_right (s ∷ ss) ts v h = each_right ss ts v h.1

  -- the member that a value is of, where nothing is found on any
  pub record Chosen (offer : Tree → Offer) (ms : List Tree) (v : Value) : Type 0 where
    pub member : Tree
    pub has : HasType bases k member v
    pub clean : (offer member).found ≡ []
    pub gives : (w : Value) → HasType bases k (offer member).gives w
        → HasSome bases k (map (λ o. o.gives) (map offer ms)) w
    pub takes : (w : Value) → HasEach bases k (flat_map (λ o. o.takes) (map offer ms)) w
        → HasEach bases k (offer member).takes w
    pub among : IsAmong ms member

  pub chosen : (offer : Tree → Offer) (ms : List Tree) (v : Value) → HasSome bases k ms v → found_of (map offer ms) ≡ []
      → Chosen offer ms v
  chosen offer [] v h e = absurd h
  chosen offer (m ∷ ms) v h e = elim h [
    | inl x ↦ record {
      member = m;
      has = x;
      clean = front_empty (offer m).found (found_of (map offer ms)) e;
      gives = λ w g. inl g;
      takes = λ w t. each_left (offer m).takes (flat_map (λ o. o.takes) (map offer ms)) w t;
      among = inl refl;
    }
    | inr y ↦ let c = chosen offer ms v y (rest_empty (offer m).found (found_of (map offer ms)) e) in record {
      member = c.member;
      has = c.has;
      clean = c.clean;
      gives = λ w g. inr (c.gives w g);
      takes = λ w t. c.takes w (each_right (offer m).takes (flat_map (λ o. o.takes) (map offer ms)) w t);
      among = inr c.among;
    }
  ]

  module _ (ordered : AreSmaller bases) where
    -- an end that is well for what one of the offers gives is well for the type of the operation
    pub one_offer_ends :
        (m : Label) (offers : List Offer) → m ≡ offers_label bases offers → m.codes ≡ [] → (g : Tree)
        → ((w : Value) → HasType bases k g w → HasSome bases k (map (λ o. o.gives) offers) w) → (out : Out Value)
        → EndsWell (λ w. HasType bases k g w) out → EndsWell (λ w. HasType bases k m.type w) out
    one_offer_ends m offers is none g among out ends =
        let quiet : found_of offers ≡ [] = ap (λ x. x.codes) (sym is) ∙ none in
        let type : m.type ≡ join_all bases (map (λ o. o.gives) offers) = ap (λ x. x.type) is
        ∙ ap (λ codes. if has_error codes then Any else join_all bases (map (λ o. o.gives) offers)) quiet in
        ends_more (λ w. HasType bases k g w) (λ w. HasType bases k m.type w)
        (λ w h. subst (λ u. HasType bases k u w) (sym type) (all_hold bases ordered k (map (λ o. o.gives) offers) w
        (among w h))) out ends

    -- an operation that ends well on each member of which this is known, and on which nothing is found, ends well on
    -- the type
    pub offers_end_where :
        (P : Tree → Type 0) (m : Label) (offer : Tree → Offer) (t : Tree) (v : Value) → AllOf P (members t)
        → m ≡ offers_label bases (map offer (members t)) → m.codes ≡ [] → HasType bases k t v → (out : Out Value)
        → ((member : Tree) → P member → HasType bases k member v → (offer member).found ≡ []
        → ((w : Value) → HasEach bases k (operand_types (map offer (members t))) w
        → HasEach bases k (offer member).takes w) → EndsWell (λ w. HasType bases k (offer member).gives w) out)
        → EndsWell (λ w. HasType bases k m.type w) out
    offers_end_where P m offer t v known is none h out ends =
        let offers = map offer (members t) in
        let quiet : found_of offers ≡ [] = ap (λ x. x.codes) (sym is) ∙ none in
        let c = chosen offer (members t) v (to_members bases k t v h) quiet in
        let all : operand_types offers ≡ flat_map (λ o. o.takes) offers =
        ap (λ codes. if has_error codes then [] else flat_map (λ o. o.takes) offers) quiet in
        one_offer_ends m offers is none (offer c.member).gives c.gives out
        (ends c.member (one_of_all P (members t) c.member known c.among) c.has c.clean
        (λ w e. c.takes w (subst (λ l. HasEach bases k l w) all e)))

    -- an operation that ends well on each member on which nothing is found ends well on the type
    pub offers_end :
        (m : Label) (offer : Tree → Offer) (t : Tree) (v : Value) → m ≡ offers_label bases (map offer (members t))
        → m.codes ≡ [] → HasType bases k t v → (out : Out Value)
        → ((member : Tree) → HasType bases k member v → (offer member).found ≡ []
        → ((w : Value) → HasEach bases k (operand_types (map offer (members t))) w
        → HasEach bases k (offer member).takes w) → EndsWell (λ w. HasType bases k (offer member).gives w) out)
        → EndsWell (λ w. HasType bases k m.type w) out
    offers_end m offer t v is none h out ends = offers_end_where (λ n. Unit {0}) m offer t v (all_any (members t)) is
        none h out λ n known has found takes. ends n has found takes
