-- Flow and covering of two types other than unions, by their heads.
use Rattle.std.proofs.Common.{Box, Vec, Global, ap, ◌≡◌, ◌↔◌, ℕ, Some, Bool as Test, cond, IsTrue, true, false, refl}
use Rattle.std.proofs.Common.{sym, subst, ◌⊎◌, inl, inr, ⊎_elim}
use Rattle.pc_types.specs.Tree.{Tree, Trees, Any, Object, Never, Int, Bool, Str, NoneType, Class, ListOf, DictOf}
use Rattle.pc_types.specs.Tree.{TupleOf, Union}
use Rattle.pc_types.specs.Below.{Bases, base_of, Below}
use Rattle.pc_types.specs.Internal.HeadFlow.{Covers, c_from_any, c_to_any, c_never, c_object, c_int, c_bool, c_bool_int}
use Rattle.pc_types.specs.Internal.HeadFlow.{c_str, c_none, c_class, c_list, c_dict, c_tuple, c_both, c_left, c_right}
use Rattle.pc_types.specs.Internal.HeadFlow.{as_tested, HeadFits, FlowFits, HeadFlow, w_from_any, w_to_any, w_never}
use Rattle.pc_types.specs.Internal.HeadFlow.{w_object, w_int, w_bool, w_bool_int, w_str, w_none, w_class, w_list}
use Rattle.pc_types.specs.Internal.HeadFlow.{w_dict, w_tuple, w_both, w_left, w_right}
use Rattle.pc_types.specs.Join.{same_tree}
use Rattle.pc_types.specs.Boxed.{tree_of, IsNoUnion}
use Rattle.pc_types.specs.declared.boxed.BoxType.{BoxType, out-BoxType, roll-BoxType, roll-out-BoxType}
use Rattle.pc_types.specs.declared.boxed.BoxType.TheOpen.{BoxType-F}
use Rattle.pc_types.specs.declared.boxed.BoxType.TheOpen as open-ty
use Rattle.pc_types.specs.Tree as tree
use Rattle.pc_types.specs.declared.boxed.BoxType.TheVariants as ty
use Rattle.pc_types.proofs.Agree.{each_count}
use Rattle.pc_types.proofs.Structural.{Chain, here, up, chain_below, Sub, s_class, sub_of}

-- neither a union nor Never nor Any
abbrev pub IsLeft : Tree → Type 0
IsLeft Never = ⊥
IsLeft (Union a b) = ⊥
IsLeft Any = ⊥
IsLeft _ = Unit {0}

-- neither a union nor object nor Any
abbrev pub IsRight : Tree → Type 0
IsRight Object = ⊥
IsRight Any = ⊥
IsRight (Union a b) = ⊥
IsRight _ = Unit {0}

flow_fits : {bases : Bases} {both : Test} {s t : Tree} → HeadFlow bases both s t → IsLeft s → IsRight t
    → FlowFits bases both s t
flow_fits w_from_any p q = absurd p
flow_fits w_to_any p q = absurd q
flow_fits w_never p q = absurd p
flow_fits w_object p q = absurd q
flow_fits w_int p q = tt
flow_fits w_bool p q = tt
flow_fits w_bool_int p q = tt
flow_fits w_str p q = tt
flow_fits w_none p q = tt
flow_fits (w_class h) p q = h
flow_fits (w_list f c) p q = (f, c)
flow_fits (w_dict f c g d) p q = (f, c, g, d)
flow_fits (w_tuple e) p q = e
flow_fits (w_both f g) p q = absurd p
flow_fits (w_left f) p q = absurd q
flow_fits (w_right f) p q = absurd q

fits_flow : (bases : Bases) (both : Test) (s t : Tree) → FlowFits bases both s t → HeadFlow bases both s t
fits_flow bases both Int Int h = w_int
fits_flow bases both Bool Bool h = w_bool
fits_flow bases both Bool Int h = w_bool_int
fits_flow bases both Str Str h = w_str
fits_flow bases both NoneType NoneType h = w_none
fits_flow bases both (Class c) (Class d) h = w_class h
fits_flow bases both (ListOf s) (ListOf t) h = w_list h.0 h.1
fits_flow bases both (DictOf j v) (DictOf k w) h = w_dict h.0 h.1 h.2 h.3
fits_flow bases both (TupleOf ss) (TupleOf ts) h = w_tuple h
fits_flow bases both _ _ h = absurd h

pub flow_is_fits : (bases : Bases) (both : Test) (s t : Tree) → IsLeft s → IsRight t → FlowFits bases both s t
    ↔ HeadFlow bases both s t
flow_is_fits bases both s t p q = (fits_flow bases both s t, λ h. flow_fits h p q)

covers_fits : {bases : Bases} {s t : Tree} → Covers bases s t → IsLeft s → IsRight t → HeadFits bases s t
covers_fits c_from_any p q = absurd p
covers_fits c_to_any p q = absurd q
covers_fits c_never p q = absurd p
covers_fits c_object p q = absurd q
covers_fits c_int p q = tt
covers_fits c_bool p q = tt
covers_fits c_bool_int p q = tt
covers_fits c_str p q = tt
covers_fits c_none p q = tt
covers_fits (c_class h) p q = h
covers_fits c_list p q = tt
covers_fits c_dict p q = tt
covers_fits (c_tuple e) p q = e
covers_fits (c_both f g) p q = absurd p
covers_fits (c_left f) p q = absurd q
covers_fits (c_right f) p q = absurd q

fits_covers : (bases : Bases) (s t : Tree) → HeadFits bases s t → Covers bases s t
fits_covers bases Int Int h = c_int
fits_covers bases Bool Bool h = c_bool
fits_covers bases Bool Int h = c_bool_int
fits_covers bases Str Str h = c_str
fits_covers bases NoneType NoneType h = c_none
fits_covers bases (Class c) (Class d) h = c_class h
fits_covers bases (ListOf s) (ListOf t) h = c_list
fits_covers bases (DictOf j v) (DictOf k w) h = c_dict
fits_covers bases (TupleOf ss) (TupleOf ts) h = c_tuple h
fits_covers bases _ _ h = absurd h

pub covers_is_fits : (bases : Bases) (s t : Tree) → IsLeft s → IsRight t → HeadFits bases s t ↔ Covers bases s t
covers_is_fits bases s t p q = (fits_covers bases s t, λ h. covers_fits h p q)

-- a union below, and a union above
pub flow_parts : {bases : Bases} {both : Test} {a b u : Tree} → HeadFlow bases both (Union a b) u
    → HeadFlow bases both a u × HeadFlow bases both b u
flow_parts w_to_any = (w_to_any, w_to_any)
flow_parts w_object = (w_object, w_object)
flow_parts (w_both p q) = (p, q)
flow_parts (w_left p) = let r = flow_parts p in (w_left r.0, w_left r.1)
flow_parts (w_right p) = let r = flow_parts p in (w_right r.0, w_right r.1)

pub flow_member : {bases : Bases} {both : Test} {s a b : Tree} → HeadFlow bases both s (Union a b) → IsLeft s
    → HeadFlow bases both s a ⊎ HeadFlow bases both s b
flow_member w_from_any p = absurd p
flow_member w_never p = absurd p
flow_member (w_both a b) p = absurd p
flow_member (w_left a) p = inl a
flow_member (w_right a) p = inr a

pub covers_parts : {bases : Bases} {a b u : Tree} → Covers bases (Union a b) u → Covers bases a u × Covers bases b u
covers_parts c_to_any = (c_to_any, c_to_any)
covers_parts c_object = (c_object, c_object)
covers_parts (c_both p q) = (p, q)
covers_parts (c_left p) = let r = covers_parts p in (c_left r.0, c_left r.1)
covers_parts (c_right p) = let r = covers_parts p in (c_right r.0, c_right r.1)

pub covers_member : {bases : Bases} {s a b : Tree} → Covers bases s (Union a b) → IsLeft s → Covers bases s a
    ⊎ Covers bases s b
covers_member c_from_any p = absurd p
covers_member c_never p = absurd p
covers_member (c_both a b) p = absurd p
covers_member (c_left a) p = inl a
covers_member (c_right a) p = inr a

pub to_any : {bases : Bases} {both : Test} {s : Tree} (g : Test) → HeadFlow bases both s (cond g Any Object)
to_any true = w_to_any
to_any false = w_object

pub covers_any : {bases : Bases} {s : Tree} (g : Test) → Covers bases s (cond g Any Object)
covers_any true = c_to_any
covers_any false = c_object

-- a boxed type other than a union, Never and, in a gradual test, Any is none of them as the test reads it
pub is_left : (g : Test) (s : BoxType) → (IsTrue g → s ≡ ty.Any → ⊥) → (s ≡ ty.Never → ⊥) → IsNoUnion s
    → IsLeft (as_tested g (tree_of s))
is_left true ty.Any a n u = absurd (a refl refl)
is_left false ty.Any a n u = tt
is_left _ ty.Never a n u = absurd (n refl)
is_left _ (ty.Union' p s q t) a n u = absurd u
is_left _ _ a n u = tt

pub is_right : (g : Test) (t : BoxType) → (t ≡ ty.Any → ⊥) → (t ≡ ty.Object → ⊥) → IsNoUnion t
    → IsRight (as_tested g (tree_of t))
is_right g ty.Any n m u = absurd (n refl)
is_right g ty.Object n m u = absurd (m refl)
is_right g (ty.Union' p a q b) n m u = absurd u
is_right g _ n m u = tt

chain_class : {bases : Bases} {c d : ℕ} → Below bases (Class c) (Class d) → Chain bases c d
chain_class h = go (sub_of h)
  where
    go : {bases : Bases} {c d : ℕ} → Sub bases (Class c) (Class d) → Chain bases c d
    go (s_class k) = k

-- a class is below its ancestors through its base
pub base_step : {bases : Bases} {c b d : ℕ} → base_of bases c ≡ Some b → (c ≡ d → ⊥) → Below bases (Class c) (Class d)
    → Below bases (Class b) (Class d)
base_step {bases} {c} {b} {d} e n h = go (chain_class h) n e
  where
    go : {c d : ℕ} → Chain bases c d → (c ≡ d → ⊥) → base_of bases c ≡ Some b → Below bases (Class b) (Class d)
    go here n e = absurd (n refl)
    go {d = d} (up {b = a} f k) n e = let same_base : a ≡ b = cc in subst (λ x. Below bases (Class x) (Class d))
        same_base (chain_below k)

pub no_base : {bases : Bases} {c d : ℕ} → ((b : ℕ) → base_of bases c ≡ Some b → ⊥) → (c ≡ d → ⊥)
    → Below bases (Class c) (Class d) → ⊥
no_base {bases} m n h = go (chain_class h) m n
  where
    go : {c d : ℕ} → Chain bases c d → ((b : ℕ) → base_of bases c ≡ Some b → ⊥) → (c ≡ d → ⊥) → ⊥
    go here m n = n refl
    go (up f k) m n = m _ f

-- a boxed type that does not match the union arm is not a union
pub is_no_union : (t : BoxType) → ((x y : Box BoxType Global) → t ≡ ty.Union x y → ⊥) → IsNoUnion t
unfolding roll-BoxType denote.Hole.Carrier.roll
is_no_union t n = go (out-BoxType t) (roll-out-BoxType t) n
  where
    go : (o : BoxType-F BoxType) → roll-BoxType o ≡ t → ((x y : Box BoxType Global) → t ≡ ty.Union x y → ⊥)
        → IsNoUnion t
    go (open-ty.Union a b) e n = absurd (n a b (sym e))
    go _ e n = subst IsNoUnion e tt

tuple_not_any : (bases : Bases) (g : Test) (ss : Trees) → HeadFits bases (TupleOf ss) (as_tested g tree.Any) → ⊥
tuple_not_any bases true ss h = h
tuple_not_any bases false ss h = h

pub tuple_only : (bases : Bases) (g : Test) (ss : Trees) (t : BoxType) → ((x : Vec BoxType Global) → t ≡ ty.Tuple x → ⊥)
    → HeadFits bases (TupleOf ss) (as_tested g (tree_of t)) → ⊥
unfolding roll-BoxType denote.Hole.Carrier.roll
tuple_only bases g ss t n h = go (out-BoxType t) (roll-out-BoxType t) n h
  where
    go : (o : BoxType-F BoxType) → roll-BoxType o ≡ t → ((x : Vec BoxType Global) → t ≡ ty.Tuple x → ⊥)
        → HeadFits bases (TupleOf ss) (as_tested g (tree_of t)) → ⊥
    go (open-ty.Tuple v) e n h = n v (sym e)
    go open-ty.Any e n h = tuple_not_any bases g ss (subst (λ x. HeadFits bases (TupleOf ss) (as_tested g (tree_of x)))
        (sym e) h)
    go _ e n h = subst (λ x. HeadFits bases (TupleOf ss) (as_tested g (tree_of x))) (sym e) h

-- a type whose head fits one of these has that head, if it is not in a list, a dict or a tuple
pub int_only : (bases : Bases) (g : Test) (t : BoxType) → (t ≡ ty.Int → ⊥) → HeadFits bases Int (as_tested g (tree_of t)) → ⊥
int_only bases g ty.Int n h = n refl
int_only bases true ty.Any n h = h
int_only bases false ty.Any n h = h
int_only bases g _ n h = h

pub bool_only : (bases : Bases) (g : Test) (t : BoxType) → (t ≡ ty.Bool → ⊥) → (t ≡ ty.Int → ⊥)
    → HeadFits bases Bool (as_tested g (tree_of t)) → ⊥
bool_only bases g ty.Bool n m h = n refl
bool_only bases g ty.Int n m h = m refl
bool_only bases true ty.Any n m h = h
bool_only bases false ty.Any n m h = h
bool_only bases g _ n m h = h

pub bool_fits : (bases : Bases) (g : Test) (t : BoxType) → (t ≡ ty.Bool) ⊎ (t ≡ ty.Int)
    → HeadFits bases Bool (as_tested g (tree_of t))
bool_fits bases g t h =
    ⊎_elim (λ e. subst (λ x. HeadFits bases Bool (as_tested g (tree_of x))) (sym e) tt)
    (λ e. subst (λ x. HeadFits bases Bool (as_tested g (tree_of x))) (sym e) tt) h

pub str_only : (bases : Bases) (g : Test) (t : BoxType) → (t ≡ ty.Str → ⊥) → HeadFits bases Str (as_tested g (tree_of t)) → ⊥
str_only bases g ty.Str n h = n refl
str_only bases true ty.Any n h = h
str_only bases false ty.Any n h = h
str_only bases g _ n h = h

pub none_only : (bases : Bases) (g : Test) (t : BoxType) → (t ≡ ty.NoneType → ⊥)
    → HeadFits bases NoneType (as_tested g (tree_of t)) → ⊥
none_only bases g ty.NoneType n h = n refl
none_only bases true ty.Any n h = h
none_only bases false ty.Any n h = h
none_only bases g _ n h = h

pub class_only : (bases : Bases) (g : Test) (c : ℕ) (t : BoxType) → ((d : ℕ) → t ≡ ty.Class d → ⊥)
    → HeadFits bases (Class c) (as_tested g (tree_of t)) → ⊥
class_only bases g c (ty.Class d) n h = n d refl
class_only bases true c ty.Any n h = h
class_only bases false c ty.Any n h = h
class_only bases g c _ n h = h

list_not_any : (bases : Bases) (g : Test) (s : Tree) → HeadFits bases (ListOf s) (as_tested g tree.Any) → ⊥
list_not_any bases true s h = h
list_not_any bases false s h = h

pub list_only : (bases : Bases) (g : Test) (s : Tree) (t : BoxType) → ((x : Box BoxType Global) → t ≡ ty.List x → ⊥)
    → HeadFits bases (ListOf s) (as_tested g (tree_of t)) → ⊥
unfolding roll-BoxType denote.Hole.Carrier.roll
list_only bases g s t n h = go (out-BoxType t) (roll-out-BoxType t) n h
  where
    go : (o : BoxType-F BoxType) → roll-BoxType o ≡ t → ((x : Box BoxType Global) → t ≡ ty.List x → ⊥)
        → HeadFits bases (ListOf s) (as_tested g (tree_of t)) → ⊥
    go (open-ty.List b) e n h = n b (sym e)
    go open-ty.Any e n h = list_not_any bases g s (subst (λ x. HeadFits bases (ListOf s) (as_tested g (tree_of x)))
        (sym e) h)
    go _ e n h = subst (λ x. HeadFits bases (ListOf s) (as_tested g (tree_of x))) (sym e) h

dict_not_any : (bases : Bases) (g : Test) (j v : Tree) → HeadFits bases (DictOf j v) (as_tested g tree.Any) → ⊥
dict_not_any bases true j v h = h
dict_not_any bases false j v h = h

pub dict_only : (bases : Bases) (g : Test) (j v : Tree) (t : BoxType)
    → ((x y : Box BoxType Global) → t ≡ ty.Dict x y → ⊥) → HeadFits bases (DictOf j v) (as_tested g (tree_of t)) → ⊥
unfolding roll-BoxType denote.Hole.Carrier.roll
dict_only bases g j v t n h = go (out-BoxType t) (roll-out-BoxType t) n h
  where
    go : (o : BoxType-F BoxType) → roll-BoxType o ≡ t → ((x y : Box BoxType Global) → t ≡ ty.Dict x y → ⊥)
        → HeadFits bases (DictOf j v) (as_tested g (tree_of t)) → ⊥
    go (open-ty.Dict a b) e n h = n a b (sym e)
    go open-ty.Any e n h = dict_not_any bases g j v (subst (λ x. HeadFits bases (DictOf j v) (as_tested g (tree_of x)))
        (sym e) h)
    go _ e n h = subst (λ x. HeadFits bases (DictOf j v) (as_tested g (tree_of x))) (sym e) h

list_heads : (bases : Bases) (both : Test) (s t : Tree) → FlowFits bases both (ListOf s) t → HeadFits bases (ListOf s) t
list_heads bases both s (ListOf t) h = tt
list_heads bases both s _ h = h

pub list_flows : (bases : Bases) (both g : Test) (s : Tree) (t : BoxType)
    → ((x : Box BoxType Global) → t ≡ ty.List x → ⊥) → FlowFits bases both (ListOf s) (as_tested g (tree_of t)) → ⊥
list_flows bases both g s t n h = list_only bases g s t n (list_heads bases both s (as_tested g (tree_of t)) h)

dict_heads : (bases : Bases) (both : Test) (j v t : Tree) → FlowFits bases both (DictOf j v) t
    → HeadFits bases (DictOf j v) t
dict_heads bases both j v (DictOf k w) h = tt
dict_heads bases both j v _ h = h

pub dict_flows : (bases : Bases) (both g : Test) (j v : Tree) (t : BoxType)
    → ((x y : Box BoxType Global) → t ≡ ty.Dict x y → ⊥) → FlowFits bases both (DictOf j v) (as_tested g (tree_of t)) → ⊥
dict_flows bases both g j v t n h = dict_only bases g j v t n (dict_heads bases both j v (as_tested g (tree_of t)) h)

tuple_heads : (bases : Bases) (both : Test) (ss : Trees) (t : Tree) → FlowFits bases both (TupleOf ss) t
    → HeadFits bases (TupleOf ss) t
tuple_heads bases both ss (TupleOf ts) h = each_count h
tuple_heads bases both ss _ h = h

pub tuple_flows : (bases : Bases) (both g : Test) (ss : Trees) (t : BoxType)
    → ((x : Vec BoxType Global) → t ≡ ty.Tuple x → ⊥) → FlowFits bases both (TupleOf ss) (as_tested g (tree_of t)) → ⊥
tuple_flows bases both g ss t n h = tuple_only bases g ss t n (tuple_heads bases both ss (as_tested g (tree_of t)) h)

-- a type without parts
abbrev IsWhole : Tree → Type 0
IsWhole (ListOf t) = ⊥
IsWhole (DictOf k v) = ⊥
IsWhole (TupleOf ts) = ⊥
IsWhole _ = Unit {0}

module _ (bases : Bases) (both : Test) where
  int_same : (t : Tree) → HeadFits bases Int t ↔ FlowFits bases both Int t
  int_same Int = (λ h. h, λ h. h)
  int_same _ = (λ h. h, λ h. h)

  bool_same : (t : Tree) → HeadFits bases Bool t ↔ FlowFits bases both Bool t
  bool_same Bool = (λ h. h, λ h. h)
  bool_same Int = (λ h. h, λ h. h)
  bool_same _ = (λ h. h, λ h. h)

  str_same : (t : Tree) → HeadFits bases Str t ↔ FlowFits bases both Str t
  str_same Str = (λ h. h, λ h. h)
  str_same _ = (λ h. h, λ h. h)

  none_same : (t : Tree) → HeadFits bases NoneType t ↔ FlowFits bases both NoneType t
  none_same NoneType = (λ h. h, λ h. h)
  none_same _ = (λ h. h, λ h. h)

  class_same : (c : ℕ) (t : Tree) → HeadFits bases (Class c) t ↔ FlowFits bases both (Class c) t
  class_same c (Class d) = (λ h. h, λ h. h)
  class_same c _ = (λ h. h, λ h. h)

  whole_same : (s t : Tree) → IsWhole s → HeadFits bases s t ↔ FlowFits bases both s t
  whole_same (ListOf s) t p = absurd p
  whole_same (DictOf j v) t p = absurd p
  whole_same (TupleOf ss) t p = absurd p
  whole_same Int t p = int_same t
  whole_same Bool t p = bool_same t
  whole_same Str t p = str_same t
  whole_same NoneType t p = none_same t
  whole_same (Class c) t p = class_same c t
  whole_same _ t p = (λ h. h, λ h. h)

any_is_whole : (g : Test) → IsWhole (as_tested g tree.Any)
any_is_whole true = tt
any_is_whole false = tt

is_whole : (g : Test) (s : BoxType) → ((x : Box BoxType Global) → s ≡ ty.List x → ⊥)
    → ((x y : Box BoxType Global) → s ≡ ty.Dict x y → ⊥) → ((x : Vec BoxType Global) → s ≡ ty.Tuple x → ⊥)
    → IsWhole (as_tested g (tree_of s))
unfolding roll-BoxType denote.Hole.Carrier.roll
is_whole g s l d v = go (out-BoxType s) (roll-out-BoxType s) l d v
  where
    go : (o : BoxType-F BoxType) → roll-BoxType o ≡ s → ((x : Box BoxType Global) → s ≡ ty.List x → ⊥)
        → ((x y : Box BoxType Global) → s ≡ ty.Dict x y → ⊥) → ((x : Vec BoxType Global) → s ≡ ty.Tuple x → ⊥)
        → IsWhole (as_tested g (tree_of s))
    go (open-ty.List a) e l d v = absurd (l a (sym e))
    go (open-ty.Dict a b) e l d v = absurd (d a b (sym e))
    go (open-ty.Tuple a) e l d v = absurd (v a (sym e))
    go open-ty.Any e l d v = subst (λ x. IsWhole (as_tested g (tree_of x))) e (any_is_whole g)
    go _ e l d v = subst (λ x. IsWhole (as_tested g (tree_of x))) e tt

-- of a type without parts, the head alone decides
pub whole_flows : (bases : Bases) (both g : Test) (s t : BoxType) → ((x : Box BoxType Global) → s ≡ ty.List x → ⊥)
    → ((x y : Box BoxType Global) → s ≡ ty.Dict x y → ⊥) → ((x : Vec BoxType Global) → s ≡ ty.Tuple x → ⊥)
    → HeadFits bases (as_tested g (tree_of s)) (as_tested g (tree_of t))
    ↔ FlowFits bases both (as_tested g (tree_of s)) (as_tested g (tree_of t))
whole_flows bases both g s t l d v = whole_same bases both _ _ (is_whole g s l d v)

pub tuple_differs : (ss : Trees) (t : BoxType) → ((x : Vec BoxType Global) → t ≡ ty.Tuple x → ⊥)
    → false ≡ same_tree (TupleOf ss) (tree_of t)
unfolding roll-BoxType denote.Hole.Carrier.roll
tuple_differs ss t n = go (out-BoxType t) (roll-out-BoxType t) n
  where
    go : (o : BoxType-F BoxType) → roll-BoxType o ≡ t → ((x : Vec BoxType Global) → t ≡ ty.Tuple x → ⊥)
        → false ≡ same_tree (TupleOf ss) (tree_of t)
    go (open-ty.Tuple v) e n = absurd (n v (sym e))
    go _ e n = ap (λ x. same_tree (TupleOf ss) (tree_of x)) e
