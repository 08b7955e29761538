-- Codes, each once at its first occurrence, and the properties that this keeps.
use Rattle.std.proofs.Common.{◌≡◌, ◌∙◌, ◌++◌, List, [], ◌∷◌, refl, sym, ap, subst, append_assoc}
use Rattle.std.specs.Prelude.{◌↔◌, Bool as Test, true, false, ◌||◌, if◌then◌else◌, Contains}
use Rattle.std.specs.Prelude.{bytes_eq, Result, IfOk}
use Rattle.std.specs.List.{list_any}
use Rattle.std.specs.Bool.{Decides}
use Rattle.std.proofs.lemmas.Bool.{false≢true}
use Rattle.std.proofs.Math.Bool.{or-false, or-true, or_assoc}
use Rattle.std.proofs.lemmas.List.{append-nil}
use Rattle.std.proofs.lemmas.List.Folds.{list_any-append}
use Rattle.std.proofs.lemmas.Map.Made.{is_member-Decides}
use Rattle.pc_tree.specs.declared.code.Code.{Code}
use Rattle.pc_tree.specs.declared.code.Code.TheVariants.{E03}
use Rattle.pc_tree.specs.Code.{text_of, is_error}
use Rattle.pc_types.specs.Tree.{Tree}
use Rattle.pc_notes.proofs.SameCode.{text_one, text_same, same_test}
use Rattle.pc_rules.specs.Operations.{Label, clean, has_error}
use Rattle.pc_rules.specs.Context.{is_early}
use Rattle.pc_rules.specs.Computed.Findings.{has_code, add_code, once_onto, once}
use Rattle.pc_rules.specs.Computed.Standing.{label_with, MeansLabel}
use Rattle.pc_rules.specs.declared.label.Label.{Label as RustLabel}

-- ---- a code is told by its text

-- by any test of equal codes
pub has_by : (same : Code → Code → Test) → ((c d : Code) → same c d ≡ true → c ≡ d)
    → ((c d : Code) → c ≡ d → same c d ≡ true) → (cs : List Code) (c : Code) → list_any (λ d. same d c) cs ≡ has_code cs
    c
has_by same one other cs c =
    ap (λ (p : Code → Test). list_any p cs) (λ j d. same_test (same d c) (bytes_eq (text_of c) (text_of d))
    (λ e. text_same c d (sym (one d c e))) (λ e. other d c (sym (text_one c d e))) j)

-- a code is among others where the test says so
pub has_decides : (cs : List Code) (c : Code) → Decides (has_code cs c) (Contains cs c)
has_decides cs c = is_member-Decides (λ a b. (text_one a b, text_same a b)) cs c

-- ---- lists, one after the other

pub onto_append : (bs xs ys : List Code) → once_onto bs (xs ++ ys) ≡ once_onto (once_onto bs xs) ys
onto_append bs [] ys = refl
onto_append bs (x ∷ xs) ys = onto_append (add_code bs x) xs ys

pub once_append : (xs ys : List Code) → once (xs ++ ys) ≡ once_onto (once xs) ys
once_append xs ys = onto_append [] xs ys

pub once_none : once [] ≡ []
once_none = refl

pub once_one : (c : Code) → once (c ∷ []) ≡ c ∷ []
once_one c = refl

-- ---- errors

left_again : (x y : Test) → ((x || y) || x) ≡ (x || y)
left_again true y = refl
left_again false true = refl
left_again false false = refl

behind : (x y z : Test) → (y || z) ≡ y → ((x || y) || z) ≡ (x || y)
behind true y z e = refl
behind false y z e = e

error_among : (bs : List Code) (c : Code) → has_code bs c ≡ true → (has_error bs || is_error c) ≡ has_error bs
error_among [] c e = absurd (false≢true e)
error_among (d ∷ ds) c e = go (λ h. error_among ds c h) (bytes_eq (text_of c) (text_of d)) refl e
  where
    go : (has_code ds c ≡ true → (has_error ds || is_error c) ≡ has_error ds) → (t : Test)
        → bytes_eq (text_of c) (text_of d) ≡ t → (t || has_code ds c) ≡ true
        → ((is_error d || has_error ds) || is_error c) ≡ (is_error d || has_error ds)
    go rest true k h = subst (λ (x : Code). ((is_error d || has_error ds) || is_error x) ≡ (is_error d || has_error ds))
        (sym (text_one c d k)) (left_again (is_error d) (has_error ds))
    go rest false k h = behind (is_error d) (has_error ds) (is_error c) (rest h)

pub error_added : (bs : List Code) (c : Code) → has_error (add_code bs c) ≡ (has_error bs || is_error c)
error_added bs c = go (has_code bs c) refl
  where
    go : (t : Test) → has_code bs c ≡ t → has_error (if t then bs else bs ++ c ∷ []) ≡ (has_error bs || is_error c)
    go true e = sym (error_among bs c e)
    go false e = list_any-append is_error bs (c ∷ []) ∙ ap (λ x. has_error bs || x) (or-false (is_error c))

pub error_onto : (bs cs : List Code) → has_error (once_onto bs cs) ≡ (has_error bs || has_error cs)
error_onto bs [] = sym (or-false (has_error bs))
error_onto bs (c ∷ cs) = error_onto (add_code bs c) cs ∙ ap (λ x. x || has_error cs) (error_added bs c)
    ∙ or_assoc (has_error bs) (is_error c) (has_error cs)

pub once_error : (cs : List Code) → has_error (once cs) ≡ has_error cs
once_error cs = error_onto [] cs

-- ---- E03 first

by_first : (b : Code) (xs ys : List Code) → is_early (b ∷ xs) ≡ is_early (b ∷ ys)
by_first E03 xs ys = refl
by_first _ xs ys = refl

early_onto : (b : Code) (bs cs : List Code) → is_early (once_onto (b ∷ bs) cs) ≡ is_early (b ∷ bs)
early_onto b bs [] = refl
early_onto b bs (c ∷ cs) = go (early_onto b bs cs) (early_onto b (bs ++ c ∷ []) cs) (has_code (b ∷ bs) c)
  where
    go : is_early (once_onto (b ∷ bs) cs) ≡ is_early (b ∷ bs) → is_early (once_onto (b ∷ (bs ++ c ∷ [])) cs)
        ≡ is_early (b ∷ (bs ++ c ∷ [])) → (t : Test) → is_early (once_onto (if t then b ∷ bs else (b ∷ bs) ++ c ∷ [])
        cs) ≡ is_early (b ∷ bs)
    go old new true = old
    go old new false = new ∙ by_first b (bs ++ c ∷ []) bs

pub once_early : (cs : List Code) → is_early (once cs) ≡ is_early cs
once_early [] = refl
once_early (c ∷ cs) = early_onto c [] cs ∙ by_first c [] cs

-- ---- once is enough

-- each code of a list that is not among the codes before it, once
abbrev new_of : List Code → List Code → List Code
new_of bs [] = []
new_of bs (c ∷ cs) = if has_code bs c then new_of bs cs else c ∷ new_of (bs ++ c ∷ []) cs

onto_new : (bs cs : List Code) → once_onto bs cs ≡ bs ++ new_of bs cs
onto_new bs [] = sym (append-nil bs)
onto_new bs (c ∷ cs) = go (onto_new bs cs) (onto_new (bs ++ c ∷ []) cs) (has_code bs c)
  where
    go : once_onto bs cs ≡ bs ++ new_of bs cs → once_onto (bs ++ c ∷ []) cs ≡ (bs ++ c ∷ []) ++ new_of (bs ++ c ∷ []) cs
        → (t : Test) → once_onto (if t then bs else bs ++ c ∷ []) cs ≡ bs
        ++ (if t then new_of bs cs else c ∷ new_of (bs ++ c ∷ []) cs)
    go old new true = old
    go old new false = new ∙ append_assoc bs (c ∷ []) (new_of (bs ++ c ∷ []) cs)

new_again : (bs cs : List Code) → new_of bs (new_of bs cs) ≡ new_of bs cs
new_again bs [] = refl
new_again bs (c ∷ cs) = go (new_again bs cs) (new_again (bs ++ c ∷ []) cs) (has_code bs c) refl
  where
    go : new_of bs (new_of bs cs) ≡ new_of bs cs → new_of (bs ++ c ∷ []) (new_of (bs ++ c ∷ []) cs)
        ≡ new_of (bs ++ c ∷ []) cs → (t : Test) → has_code bs c ≡ t
        → new_of bs (if t then new_of bs cs else c ∷ new_of (bs ++ c ∷ []) cs)
        ≡ (if t then new_of bs cs else c ∷ new_of (bs ++ c ∷ []) cs)
    go old new true e = old
    go old new false e = rw e (ap (λ l. c ∷ l) new)

pub once_again : (cs : List Code) → once (once cs) ≡ once cs
once_again cs = onto_new [] (once cs) ∙ ap (new_of []) (onto_new [] cs) ∙ new_again [] cs ∙ sym (onto_new [] cs)

-- ---- codes in a list that has each once

added_has : (bs : List Code) (c d : Code) → has_code (add_code bs c) d
    ≡ (has_code bs d || bytes_eq (text_of d) (text_of c))
added_has bs c d = go (has_code bs c) refl
  where
    same : (u : Test) → has_code bs c ≡ true → bytes_eq (text_of d) (text_of c) ≡ u
        → has_code bs d ≡ (has_code bs d || u)
    same true e k = let h : has_code bs d ≡ true = subst (λ (x : Code). has_code bs x ≡ true) (sym (text_one d c k))
        e in h ∙ sym (or-true (has_code bs d))
    same false e k = sym (or-false (has_code bs d))

    go : (t : Test) → has_code bs c ≡ t → has_code (if t then bs else bs ++ c ∷ []) d
        ≡ (has_code bs d || bytes_eq (text_of d) (text_of c))
    go true e = same (bytes_eq (text_of d) (text_of c)) e refl
    go false e = list_any-append (λ x. bytes_eq (text_of d) (text_of x)) bs (c ∷ [])
        ∙ ap (λ x. has_code bs d || x) (or-false (bytes_eq (text_of d) (text_of c)))

onto_has : (bs cs : List Code) (d : Code) → has_code (once_onto bs cs) d ≡ (has_code bs d || has_code cs d)
onto_has bs [] d = sym (or-false (has_code bs d))
onto_has bs (c ∷ cs) d = onto_has (add_code bs c) cs d ∙ ap (λ x. x || has_code cs d) (added_has bs c d)
    ∙ or_assoc (has_code bs d) (bytes_eq (text_of d) (text_of c)) (has_code cs d)

pub once_has : (cs : List Code) (d : Code) → has_code (once cs) d ≡ has_code cs d
once_has cs d = onto_has [] cs d

-- each code once, a code is among them that was
pub once_contains : (cs : List Code) (c : Code) → Contains (once cs) c ↔ Contains cs c
once_contains cs c = (
  λ h. (has_decides cs c).0 (sym (once_has cs c) ∙ (has_decides (once cs) c).1 h),
  λ h. (has_decides (once cs) c).0 (once_has cs c ∙ (has_decides cs c).1 h),
)

-- ---- labels

-- a label at which nothing is found, of a type of the store
pub clean_is : {Store Ty : Type 0} (has : Store → Ty → Type 0) (tree : Ty → Tree) (store : Store) (l : RustLabel Ty)
    (ty : Ty) (t : Tree) → label_with tree l ≡ clean (tree ty) → l.ty ≡ ty → has store ty → tree ty ≡ t
    → MeansLabel has tree store l (clean t)
clean_is has tree store l ty t m e h is = record { given = subst (has store) (sym e) h; is = m ∙ ap clean is }

-- equal labels are meant alike
pub label_as : {Store Ty : Type 0} (has : Store → Ty → Type 0) (tree : Ty → Tree) (store : Store) (l : RustLabel Ty)
    (m n : Label) → m ≡ n → MeansLabel has tree store l m → MeansLabel has tree store l n
label_as has tree store l m n e h = subst (MeansLabel has tree store l) e h

pub labels_as : {Store Ty E : Type 0} (has : Store → Ty → Type 0) (tree : Ty → Tree) (store : Store)
    (r : Result (RustLabel Ty) E) (m n : Label) → m ≡ n → IfOk r (λ l. MeansLabel has tree store l m)
    → IfOk r (λ l. MeansLabel has tree store l n)
labels_as has tree store r m n e h = subst (λ (x : Label). IfOk r (λ l. MeansLabel has tree store l x)) e h
