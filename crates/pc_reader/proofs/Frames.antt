-- Before a token that does not continue an operand, the open operators around it may be joined.
use Rattle.std.proofs.Common.{◌≡◌, ℕ, ◌+◌, ◌≤◌, ◌<◌, ◌⊎◌, inl, inr, Bool, true, false, if◌then◌else◌, List, refl, arith}
use Rattle.std.proofs.Common.{ap, sym, ◌∙◌}
use Rattle.std.specs.Prelude.{nat_le}
use Rattle.std.proofs.lemmas.Bool.Decides.{leb_tells}
use Rattle.pc_token.specs.Lexeme.{Lexeme}
use Rattle.pc_tree.specs.declared.tree.BinaryOperator.TheVariants.{Add, Sub, Mul, FloorDiv, Mod}
use Rattle.pc_grammar.specs.Machine.Kinds.{Infix, arithmetic, comparison, both, either, Link, linking, denying}
use Rattle.pc_grammar.specs.Machine.Kinds.{identifying, Follow, link, a_dot, calls, indexes, ends}
use Rattle.pc_grammar.specs.Machine.States.{Part, Prefix, Stack, joining, applying, Transition, stuck, on}
use Rattle.pc_grammar.specs.Machine.Expressions.{own_of, right_of, own_of_link, left_of_link, prefix_level, needed_level}
use Rattle.pc_grammar.specs.Machine.Expressions.{joined}
use Rattle.pc_grammar.specs.Machine.Expressions.{applied, reduce, after_link, if_tight, have_turn}
use Rattle.pc_reader.specs.Internal.Expressions.{Over, Undotted}

pub not_le : (a b : ℕ) → b < a → nat_le a b ≡ false
not_le a b h = by_tells (leb_tells a b)
  where
    by_tells : ((nat_le a b ≡ true) × (a ≤ b)) ⊎ ((nat_le a b ≡ false) × (b < a)) → nat_le a b ≡ false
    by_tells (inl x) = absurd (let y = x.1 in omega arith)
    by_tells (inr x) = x.0

pub is_le : (a b : ℕ) → a ≤ b → nat_le a b ≡ true
is_le a b h = by_tells (leb_tells a b)
  where
    by_tells : ((nat_le a b ≡ true) × (a ≤ b)) ⊎ ((nat_le a b ≡ false) × (b < a)) → nat_le a b ≡ true
    by_tells (inl x) = x.0
    by_tells (inr x) = absurd (let y = x.1 in omega arith)

pub loose : (low level : ℕ) (x : Transition) → level < low → if_tight low level x ≡ stuck
loose low level x h = ap (λ z. if z then x else stuck) (not_le low level h)

pub tight : (low level : ℕ) (x : Transition) → low ≤ level → if_tight low level x ≡ x
tight low level x h = ap (λ z. if z then x else stuck) (is_le low level h)

frame : (own need level : ℕ) (l : Link) (t : Lexeme) (x y : (p : Part) × Stack) → needed_level y.1 ≡ need → own ≤ level
    → (left_of_link l ≤ level → own < left_of_link l → own_of_link l < need)
    → if_tight (left_of_link l) level (after_link l t (if nat_le (left_of_link l) own then x else y))
    ≡ if_tight (left_of_link l) own (after_link l t x)
frame own need level l t x y r h g = by_tells (leb_tells (left_of_link l) own) (leb_tells (left_of_link l) level)
  where
    low : ℕ
    low = left_of_link l

    by_tells : ((nat_le (left_of_link l) own ≡ true) × (left_of_link l ≤ own))
        ⊎ ((nat_le (left_of_link l) own ≡ false) × (own < left_of_link l))
        → ((nat_le (left_of_link l) level ≡ true) × (left_of_link l ≤ level))
        ⊎ ((nat_le (left_of_link l) level ≡ false) × (level < left_of_link l))
        → if_tight (left_of_link l) level (after_link l t (if nat_le (left_of_link l) own then x else y))
        ≡ if_tight (left_of_link l) own (after_link l t x)
    by_tells (inl e) (inl d) = let q = e.1 in let w = d.1 in
        ap (λ z. if_tight (left_of_link l) level (after_link l t (if z then x else y))) e.0
        ∙ tight (left_of_link l) level (after_link l t x) w ∙ sym (tight (left_of_link l) own (after_link l t x) q)
    by_tells (inl e) (inr d) = absurd (let q = e.1 in let w = d.1 in omega arith)
    by_tells (inr e) (inl d) = let q = e.1 in let w = d.1 in
        ap (λ z. if_tight (left_of_link l) level (after_link l t (if z then x else y))) e.0
        ∙ tight (left_of_link l) level (after_link l t y) w
        ∙ ap (λ z. on z (Rattle.pc_grammar.specs.Machine.Expressions.linked l t y.0 y.1) stuck)
        (not_le (needed_level y.1) (own_of_link l) (let v = g w q in omega (arith, r)))
        ∙ sym (loose (left_of_link l) own (after_link l t x) q)
    by_tells (inr e) (inr d) = loose (left_of_link l) level _ d.1
        ∙ sym (loose (left_of_link l) own (after_link l t x) e.1)

pub own_low : (op : Infix) → own_of op ≤ 5
own_low (arithmetic Add) = omega arith
own_low (arithmetic Sub) = omega arith
own_low (arithmetic Mul) = omega arith
own_low (arithmetic FloorDiv) = omega arith
own_low (arithmetic Mod) = omega arith
own_low (comparison o) = omega arith
own_low both = omega arith
own_low either = omega arith

pub right_is : (op : Infix) → right_of op ≡ own_of op + 1
right_is (arithmetic o) = refl
right_is (comparison o) = refl
right_is both = refl
right_is either = refl

pub link_low : (l : Link) → own_of_link l ≤ 5
link_low (linking op) = own_low op
link_low denying = omega arith
link_low identifying = omega arith

pub not_two : (l : Link) → own_of_link l < 3 → own_of_link l < 2
not_two (linking (arithmetic Add)) h = absurd (omega arith)
not_two (linking (arithmetic Sub)) h = absurd (omega arith)
not_two (linking (arithmetic Mul)) h = absurd (omega arith)
not_two (linking (arithmetic FloorDiv)) h = absurd (omega arith)
not_two (linking (arithmetic Mod)) h = absurd (omega arith)
not_two (linking (comparison o)) h = absurd (omega arith)
not_two (linking both) h = omega arith
not_two (linking either) h = omega arith
not_two denying h = absurd (omega arith)
not_two identifying h = absurd (omega arith)

over_link : (need level : ℕ) (l : Link) → Over need level (link l) → left_of_link l ≤ level → own_of_link l < need
over_link need level l (inl h) g = h
over_link need level l (inr h) g = absurd (omega arith)

pub join_turn : (op : Infix) (l : Part) (o : List Lexeme) (p : Part) (s : Stack) (level : ℕ) (t : Lexeme) (f : Follow)
    → right_of op ≤ level → Over (right_of op) level f → Undotted level f
    → have_turn level p (joining op l o s) t f ≡ have_turn (own_of op) (joined op l o p) s t f
join_turn op l o p s level t (link k) h v u = frame (own_of op) (right_of op) level k t
    (reduce (left_of_link k) (joined op l o p) s) (p, joining op l o s) refl (let q = right_is op in omega arith)
    (λ a b. over_link (right_of op) level k v a)
join_turn op l o p s level t a_dot h v u = loose 7 level _ u ∙ sym (loose 7 (own_of op) _ (omega (arith, own_low op)))
join_turn op l o p s level t calls h v u = loose 7 level _ u ∙ sym (loose 7 (own_of op) _ (omega (arith, own_low op)))
join_turn op l o p s level t indexes h v u = loose 7 level _ u ∙ sym (loose 7 (own_of op) _ (omega (arith, own_low op)))
join_turn op l o p s level t (ends e) h v u =
    ap (λ (z : Bool). let r = (if z then reduce 0 (joined op l o p) s else (p, joining op l o s)) in
    Rattle.pc_grammar.specs.Machine.Expressions.close r.0 r.1 t e) (is_le 0 (own_of op) (omega arith))

-- the next token does not continue the operand of a sign
pub apply_turn : (x : Prefix) (w : List Lexeme) (p : Part) (s : Stack) (level : ℕ) (t : Lexeme) (f : Follow)
    → prefix_level x ≤ level
    → ((k : Link) → f ≡ link k → left_of_link k ≤ level → own_of_link k < prefix_level x) → Undotted level f
    → Undotted (prefix_level x) f
    → have_turn level p (applying x w s) t f ≡ have_turn (prefix_level x) (applied x w p) s t f
apply_turn x w p s level t (link k) h v u y = frame (prefix_level x) (prefix_level x) level k t
    (reduce (left_of_link k) (applied x w p) s) (p, applying x w s) refl h (λ a b. v k refl a)
apply_turn x w p s level t a_dot h v u y = loose 7 level _ u ∙ sym (loose 7 (prefix_level x) _ y)
apply_turn x w p s level t calls h v u y = loose 7 level _ u ∙ sym (loose 7 (prefix_level x) _ y)
apply_turn x w p s level t indexes h v u y = loose 7 level _ u ∙ sym (loose 7 (prefix_level x) _ y)
apply_turn x w p s level t (ends e) h v u y =
    ap (λ (z : Bool). let r = (if z then reduce 0 (applied x w p) s else (p, applying x w s)) in
    Rattle.pc_grammar.specs.Machine.Expressions.close r.0 r.1 t e) (is_le 0 (prefix_level x) (omega arith))

pub own_left : (l : Link) → own_of_link l ≤ left_of_link l
own_left (linking (arithmetic o)) = omega arith
own_left (linking (comparison o)) = omega arith
own_left (linking both) = omega arith
own_left (linking either) = omega arith
own_left denying = omega arith
own_left identifying = omega arith
