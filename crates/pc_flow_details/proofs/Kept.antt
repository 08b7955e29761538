-- Flows that are kept with their sinks, list after list.
use Rattle.std.proofs.Common.{◌≡◌, ◌∙◌, ◌++◌, ◌∷◌, ◌<◌, ◌≤◌, ◌+◌, [], ℕ, List, Option, Some, None, refl, sym, ap, map}
use Rattle.std.proofs.Common.{drop, length, get_or, subst}
use Rattle.std.proofs.lemmas.Grind.{flat_map-append}
use Rattle.std.proofs.lemmas.List.{append-nil, map-append}
use Rattle.std.proofs.lemmas.List.Folds.{find-append}
use Rattle.std.proofs.Math.ListN.{drop_of_length-le}
use Rattle.std.specs.Prelude.{OnOk, Result, false, find, flat_map}
use Rattle.std.specs.Option.{option_map, option_or}
use Rattle.pc_source.specs.declared.place.Place.{Place}
use Rattle.pc_tree.proofs.Stops.{cons_at}
use Rattle.pc_tree.specs.Tree.{Expr, Module}
use Rattle.pc_scope.specs.declared.resolution.Owner.{Owner}
use Rattle.pc_scope.specs.Expressions.{parts_in}
use Rattle.pc_types.specs.Tree.{Tree}
use Rattle.pc_detail_facts.specs.declared.facts.Facts.{Facts}
use Rattle.pc_flow_details.specs.declared.sink.Sinks.{Sinks}
use Rattle.pc_detail_facts.specs.Held.{known_held, module_held}
use Rattle.pc_flow_details.specs.Kept.{FlowDetails, first_of_both, flows_to_sinks, flows_kept, taken_below, taken_in}
use Rattle.pc_detail_rules.specs.Nodes.{owned}
use Rattle.pc_detail_rules.specs.Sinks.{SinkAt, sinks_in, takes_into}
use Rattle.pc_detail_rules.specs.ToldTypes.{told_among, told_flow}

-- ---- two lists of sinks

mapped_or : {A B : Type 0} (g : A → B) (a b : Option A)
    → option_map g (option_or a b) ≡ option_or (option_map g a) (option_map g b)
mapped_or g None b = refl
mapped_or g (Some x) b = refl

pub or_none : {A : Type 0} (a : Option A) → option_or a None ≡ a
or_none None = refl
or_none (Some x) = refl

or_assoc : {A : Type 0} (a b c : Option A) → option_or (option_or a b) c ≡ option_or a (option_or b c)
or_assoc None b c = refl
or_assoc (Some x) b c = refl

among_both : (m : Module) (ss rs : List SinkAt) (p : Place) (o : Option (Tree × Tree))
    → told_among m (ss ++ rs) p o ≡ option_or (told_among m ss p o) (told_among m rs p o)
among_both m ss rs p None = refl
among_both m ss rs p (Some st) = ap (option_map (told_flow m st.0 st.1)) (find-append (takes_into p st.1) ss rs)
    ∙ mapped_or (told_flow m st.0 st.1) (find (takes_into p st.1) ss) (find (takes_into p st.1) rs)

among_none : (m : Module) (p : Place) (o : Option (Tree × Tree)) → told_among m [] p o ≡ None
among_none m p None = refl
among_none m p (Some st) = refl

-- the flows into two lists of sinks
pub both_into : (f : Facts) (ss rs : List SinkAt)
    → flows_to_sinks f (ss ++ rs) ≡ first_of_both (flows_to_sinks f ss) (flows_to_sinks f rs)
unfolding flows_to_sinks first_of_both
both_into f ss rs = λ i c p. among_both (module_held f) ss rs p ((known_held f).flows c p) i

-- no sinks take no flows
pub none_into : (f : Facts) (x : FlowDetails) → first_of_both x (flows_to_sinks f []) ≡ x
unfolding flows_to_sinks first_of_both
none_into f x = λ i c p. (ap (option_or (x c p)) (among_none (module_held f) p ((known_held f).flows c p))
    ∙ or_none (x c p)) i

both_assoc : (a b c : FlowDetails) → first_of_both (first_of_both a b) c ≡ first_of_both a (first_of_both b c)
unfolding first_of_both
both_assoc a b c = λ i d p. or_assoc (a d p) (b d p) (c d p) i

-- ---- one list after another

module _ (f : Facts) where
  -- the flows into one list, and then into another
  pub then_into : (old mid : FlowDetails) (a b : List SinkAt) → mid ≡ first_of_both old (flows_to_sinks f a)
      → first_of_both mid (flows_to_sinks f b) ≡ first_of_both old (flows_to_sinks f (a ++ b))
  then_into old mid a b h = ap (λ (x : FlowDetails). first_of_both x (flows_to_sinks f b)) h
      ∙ both_assoc old (flows_to_sinks f a) (flows_to_sinks f b)
      ∙ ap (λ (x : FlowDetails). first_of_both old x) (sym (both_into f a b))

  -- likewise, where both are parts of a list
  pub then_whole : (old mid : FlowDetails) (a b whole : List SinkAt) → whole ≡ a ++ b
      → mid ≡ first_of_both old (flows_to_sinks f a)
      → first_of_both mid (flows_to_sinks f b) ≡ first_of_both old (flows_to_sinks f whole)
  then_whole old mid a b whole same h = then_into old mid a b h
      ∙ ap (λ (ss : List SinkAt). first_of_both old (flows_to_sinks f ss)) (sym same)

  -- of what is left the first part is done
  pub rest_into : (front mid all : FlowDetails) (a rest whole : List SinkAt) → whole ≡ a ++ rest
      → first_of_both front (flows_to_sinks f whole) ≡ all → mid ≡ first_of_both front (flows_to_sinks f a)
      → first_of_both mid (flows_to_sinks f rest) ≡ all
  rest_into front mid all a rest whole same inv h = then_whole front mid a rest whole same h ∙ inv

  -- nothing is left
  pub end_into : (front all : FlowDetails) (rest : List SinkAt) → rest ≡ []
      → first_of_both front (flows_to_sinks f rest) ≡ all → front ≡ all
  end_into front all rest none inv = sym (ap (λ (ss : List SinkAt). first_of_both front (flows_to_sinks f ss)) none
      ∙ none_into f front) ∙ inv

-- the flows into a part of a list, if a call succeeds, and then into the other
pub on_whole : (f : Facts) {T E : Type 0} (r : Result T E) (old mid new : FlowDetails) (a b whole : List SinkAt)
    → whole ≡ a ++ b → mid ≡ first_of_both old (flows_to_sinks f a) → OnOk r (new ≡ first_of_both mid (flows_to_sinks f b))
    → OnOk r (new ≡ first_of_both old (flows_to_sinks f whole))
on_whole f r old mid new a b whole same h k =
    subst (λ x. OnOk r (new ≡ x)) (then_whole f old mid a b whole same h) k

-- the flows into two parts of a list
pub by_two : (f : Facts) (old mid new : FlowDetails) (a b : List SinkAt) → mid ≡ first_of_both old (flows_to_sinks f a)
    → new ≡ first_of_both mid (flows_to_sinks f b) → new ≡ first_of_both old (flows_to_sinks f (a ++ b))
by_two f old mid new a b h k = k ∙ then_into f old mid a b h

-- ---- loops

-- the flows that are kept, and those into what is left of a list, are those of the whole list
abbrev pub LeftOf : {A : Type 0} → Facts → (List A → List SinkAt) → List A → ℕ → (now before : Sinks) → Type 0
LeftOf f sinks xs i now before = first_of_both (flows_kept now) (flows_to_sinks f (sinks (drop i xs)))
    ≡ first_of_both (flows_kept before) (flows_to_sinks f (sinks xs))

-- one item more
pub next_of : {A : Type 0} (f : Facts) (sinks : List A → List SinkAt) (a : List SinkAt) (xs : List A) (i : ℕ) (x : A)
    (now mid before : Sinks) → sinks (x ∷ drop (i + 1) xs) ≡ a ++ sinks (drop (i + 1) xs) → i < length xs
    → x ≡ get_or xs i x → LeftOf f sinks xs i now before
    → flows_kept mid ≡ first_of_both (flows_kept now) (flows_to_sinks f a) → LeftOf f sinks xs (i + 1) mid before
next_of f sinks a xs i x now mid before split lt is inv h =
    rest_into f (flows_kept now) (flows_kept mid) (first_of_both (flows_kept before) (flows_to_sinks f (sinks xs))) a
    (sinks (drop (i + 1) xs)) (sinks (drop i xs)) (ap sinks (cons_at xs i x lt is) ∙ split) inv h

-- no item is left
pub end_of : {A : Type 0} (f : Facts) (sinks : List A → List SinkAt) (xs : List A) (i : ℕ) (now before : Sinks)
    → sinks [] ≡ [] → length xs ≤ i → LeftOf f sinks xs i now before
    → flows_kept now ≡ first_of_both (flows_kept before) (flows_to_sinks f (sinks xs))
end_of f sinks xs i now before none le inv = end_into f (flows_kept now)
    (first_of_both (flows_kept before) (flows_to_sinks f (sinks xs))) (sinks (drop i xs))
    (ap sinks (drop_of_length-le xs le) ∙ none) inv

-- ---- what expressions take

-- the sinks of what two lists of expressions take
pub both_taken : (f : Facts) (owner : Owner) (a b : List Expr)
    → taken_in f owner (a ++ b) ≡ taken_in f owner a ++ taken_in f owner b
unfolding taken_in
both_taken f owner a b =
    ap (flat_map (sinks_in (module_held f) (known_held f))) (map-append (owned owner) a b)
    ∙ flat_map-append (sinks_in (module_held f) (known_held f)) (map (owned owner) a) (map (owned owner) b)

-- the sinks of what an expression takes, and then of what others take
pub one_taken : (f : Facts) (owner : Owner) (e : Expr) (es : List Expr)
    → taken_in f owner (e ∷ es) ≡ sinks_in (module_held f) (known_held f) (owned owner e) ++ taken_in f owner es
unfolding taken_in
one_taken f owner e es = refl

-- the sinks of what two lists of expressions and their parts take
pub both_below : (f : Facts) (owner : Owner) (a b : List Expr)
    → taken_below f owner (a ++ b) ≡ taken_below f owner a ++ taken_below f owner b
unfolding taken_below
both_below f owner a b = ap (taken_in f owner) (flat_map-append (parts_in false) a b)
    ∙ both_taken f owner (flat_map (parts_in false) a) (flat_map (parts_in false) b)

-- the sinks of what an expression and its parts take, and then of what others take
pub one_below : (f : Facts) (owner : Owner) (e : Expr) (es : List Expr)
    → taken_below f owner (e ∷ es) ≡ taken_in f owner (parts_in false e) ++ taken_below f owner es
unfolding taken_below
one_below f owner e es = both_taken f owner (parts_in false e) (flat_map (parts_in false) es)

-- the sinks of what one expression and its parts take
pub alone_below : (f : Facts) (owner : Owner) (e : Expr)
    → taken_below f owner (e ∷ []) ≡ taken_in f owner (parts_in false e)
unfolding taken_below
alone_below f owner e = ap (taken_in f owner) (append-nil (parts_in false e))

pub none_below : (f : Facts) (owner : Owner) → taken_below f owner [] ≡ []
unfolding taken_below taken_in
none_below f owner = refl

pub none_taken : (f : Facts) (owner : Owner) → taken_in f owner [] ≡ []
unfolding taken_in
none_taken f owner = refl
