-- The details of members of classes, as they are shown, and which member each is of.
use Rattle.std.proofs.Common.{◌≡◌, ◌∙◌, ◌<◌, ◌∷◌, [], ℕ, List, Bool, true, false, Option, Some, None, ap, cond, get_or}
use Rattle.std.proofs.Common.{length, map, refl, subst₂, sym}
use Rattle.std.proofs.lemmas.Option.{same_Some, slice_get-map, slice_get_read}
use Rattle.std.specs.Option.{option_map}
use Rattle.std.specs.Prelude.{bytes_eq, find, reverse, slice_get}
use Rattle.pc_source.specs.declared.place.Place.{Place}
use Rattle.pc_tree.specs.declared.code.Finding.{Finding}
use Rattle.pc_tree.specs.declared.tree.Member.{Member as RustMember}
use Rattle.pc_tree.specs.Stopping.{name_of_member}
use Rattle.pc_tree.specs.Tree.{ClassDef, Member, Module, member_of}
use Rattle.pc_detail_texts.specs.Details as detail
use Rattle.pc_detail_texts.specs.Details.{Detail}
use Rattle.pc_detail_texts.specs.Sentences.{Words}
use Rattle.pc_detail_texts.specs.Shortened.{shortened}
use Rattle.pc_name_details.specs.declared.offers.Offers.{Offers}
use Rattle.pc_detail_rules.specs.Names.{NumberedClass, OwnedMember, clashes_with, has_name_of, member_or}
use Rattle.pc_detail_rules.specs.Names.{members_above, owned_by}
use Rattle.pc_name_details.specs.Naming.{clash_member, has_word}
use Rattle.pc_name_details.specs.Offered.{KeepsDetail}
use Rattle.pc_name_details.proofs.BoundMembers.{own}

-- the same detail of the same finding
pub kept_as : (f g : Finding) (d e : Detail Words) (a b : Offers) → f ≡ g → d ≡ e → KeepsDetail f d a b → KeepsDetail g e a b
kept_as f g d e a b same is h = subst₂ (λ (x : Finding) (y : Detail Words). KeepsDetail x y a b) same is h

-- a member with its class, as it is shown
pub member_shown : (o : OwnedMember) (name class : List ℕ) (at : Place) → name ≡ shortened (name_of_member o.member).text
    → class ≡ shortened o.class → at ≡ (name_of_member o.member).place → ◌≡◌ {A = Detail Words} (detail.member name class at)
    (detail.member (shortened (name_of_member o.member).text) (shortened o.class) (name_of_member o.member).place)
member_shown o name class at n c p = cc

-- a member after one with a default, as it is shown
pub order_shown : (x : Member) (o : OwnedMember) (name class before : List ℕ) (at : Place)
    → name ≡ shortened (name_of_member x).text → class ≡ shortened o.class
    → before ≡ shortened (name_of_member o.member).text
    → at ≡ (name_of_member o.member).place → ◌≡◌ {A = Detail Words} (detail.field_order name class before at)
    (detail.field_order (shortened (name_of_member x).text) (shortened o.class)
    (shortened (name_of_member o.member).text) (name_of_member o.member).place)
order_shown x o name class before at n c b p = cc

-- ---- clashes

-- the member at a position
pub member_at : (xs : List RustMember) (i : ℕ) (x : RustMember) → i < length xs → x ≡ get_or xs i x
    → slice_get (map member_of xs) i ≡ Some (member_of x)
member_at xs i x less is = slice_get-map member_of xs i
    ∙ ap (option_map member_of) (slice_get_read xs (length xs) i x refl less is)

-- it is the one that is there
pub this_member : (xs : List RustMember) (i : ℕ) (x : RustMember) (m : Member) → i < length xs → x ≡ get_or xs i x
    → slice_get (map member_of xs) i ≡ Some m → member_of x ≡ m
this_member xs i x m less is at = same_Some (member_of x) m (sym (member_at xs i x less is) ∙ at)

-- the first of the members before that has the name
pub owned_found : (class : ClassDef) (x : Member) (ms : List Member)
    → find (has_name_of x) (owned_by class ms) ≡ option_map (own class) (find (has_word (name_of_member x).text) ms)
owned_found class x [] = refl
owned_found class x (m ∷ ms) = by (bytes_eq (name_of_member x).text (name_of_member m).text) (owned_found class x ms)
  where
    by : (b : Bool) → find (has_name_of x) (owned_by class ms) ≡ option_map (own class) (find (has_word (name_of_member x).text) ms)
        → cond b (Some (own class m)) (find (has_name_of x) (owned_by class ms))
        ≡ option_map (own class) (cond b (Some m) (find (has_word (name_of_member x).text) ms))
    by true e = refl
    by false e = e

module _ (m : Module) (n : NumberedClass) (before : List Member) (x : Member) where
  -- the first member before that has the name
  pub clash_before : (y : Member) → Some y ≡ find (has_word (name_of_member x).text) before
      → Some (own n.class y) ≡ clash_member m n before x
  clash_before y e = ap (λ (o : Option OwnedMember). member_or o (find (clashes_with x) (reverse (members_above m n.number))))
      (ap (option_map (own n.class)) e ∙ sym (owned_found n.class x before))

  -- where there is none, the nearest above that clashes
  pub clash_over : (o : Option OwnedMember) → None ≡ find (has_word (name_of_member x).text) before
      → o ≡ find (clashes_with x) (reverse (members_above m n.number)) → o ≡ clash_member m n before x
  clash_over o e h = h
      ∙ ap (λ (q : Option OwnedMember). member_or q (find (clashes_with x) (reverse (members_above m n.number))))
      (ap (option_map (own n.class)) e ∙ sym (owned_found n.class x before))
