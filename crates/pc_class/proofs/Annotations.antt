-- Annotations read one after another: the findings in those that were read so far, and in those still to read.
use Rattle.std.proofs.Common.{◌≡◌, ◌<◌, ◌+◌, ℕ, List, [], ◌∷◌, ◌++◌, map, drop, length, get_or, refl, sym, ap, ◌∙◌}
use Rattle.std.proofs.Common.{append_assoc, append-nil}
use Rattle.std.specs.Prelude.{Bool as Test, true, false, if◌then◌else◌}
use Rattle.pc_tree.proofs.Stops.{cons_at}
use Rattle.pc_tree.specs.declared.tree.Param.{Param as RustParam}
use Rattle.pc_tree.specs.Stopping.{name_of_member}
use Rattle.pc_tree.specs.Tree.{Field, FuncDef, Member, field_member, method_member, Module, param_of, member_of}
use Rattle.pc_annotations.specs.Bases.{bases_of}
use Rattle.pc_annotations.specs.Listed.{option_findings}
use Rattle.pc_class.specs.Annotated.{params_annotated, field_annotated, method_annotated, fields_annotated}
use Rattle.pc_class.specs.Annotated.{methods_annotated}
use Rattle.pc_class.specs.declared.entries.ClassMember.{ClassMember as RustEntry}
use Rattle.pc_class.specs.Entries.{Inherited, MemberEntry, entry_seen, entries_of_members, number_after, parameter_made}
use Rattle.pc_class.specs.Entries.{field_made, methods_made}
use Rattle.pc_class.specs.Facts.{method_made}
use Rattle.pc_class.specs.Outlines.{own_field, own_method}
use Rattle.pc_class.specs.Internal.Readers.{IsLentSame}
use Rattle.pc_class.specs.declared.reading.TypeReader.{TypeReader}
use Rattle.pc_class.specs.Built.{members_of_entries}

-- one step of a walk that goes on with the rest
pub stepped : {X : Type 0} (old mid these rest more total : List X) → old ++ rest ≡ total → rest ≡ these ++ more
    → mid ≡ old ++ these → mid ++ more ≡ total
stepped old mid these rest more total inv parted is = ap (λ l. l ++ more) is ∙ append_assoc old these more
    ∙ ap (λ l. old ++ l) (sym parted) ∙ inv

-- a walk that is at its end
pub walked : {X : Type 0} (all rest total : List X) → all ++ rest ≡ total → rest ≡ [] → all ≡ total
walked all rest total inv e = sym (append-nil all) ∙ ap (λ l. all ++ l) (sym e) ∙ inv

-- the members of entries, as the rules have them
members_seen : (es : List RustEntry) → members_of_entries es ≡ map (λ (e : MemberEntry). e.member) (map entry_seen es)
members_seen [] = refl
members_seen (e ∷ es) = ap (λ (ms : List Member). member_of e.member.now ∷ ms) (members_seen es)

members_back : (h : Inherited) (before : List (List ℕ)) (n : ℕ) (ms : List Member)
    → map (λ (e : MemberEntry). e.member) (entries_of_members h before n ms) ≡ ms
members_back h before n [] = refl
members_back h before n (x ∷ rest) = ap (λ (ms : List Member). x ∷ ms)
    (members_back h ((name_of_member x).text ∷ before) (number_after n x) rest)

-- entries of members are entries of just these
pub members_are : (es : List RustEntry) (h : Inherited) (ms : List Member)
    → map entry_seen es ≡ entries_of_members h [] 0 ms → members_of_entries es ≡ ms
members_are es h ms e = members_seen es ∙ ap (map (λ (x : MemberEntry). x.member)) e ∙ members_back h [] 0 ms

module _ (m : Module) where
  pub params_next : (ps : List RustParam) (i : ℕ) (p : RustParam) → i < length ps → p ≡ get_or ps i p
      → params_annotated m (map param_of (drop i ps)) ≡ option_findings m (bases_of m) (param_of p).annotation
      ++ params_annotated m (map param_of (drop (i + 1) ps))
  params_next ps i p less is = ap (λ (l : List RustParam). params_annotated m (map param_of l))
      (cons_at ps i p less is)

  pub fields_next : (es : List RustEntry) (i : ℕ) (e : RustEntry) → i < length es → e ≡ get_or es i e
      → fields_annotated m (members_of_entries (drop i es)) ≡ field_annotated m (member_of e.member.now)
      ++ fields_annotated m (members_of_entries (drop (i + 1) es))
  fields_next es i e less is = ap (λ (l : List RustEntry). fields_annotated m (members_of_entries l))
      (cons_at es i e less is)

  pub methods_next : (es : List RustEntry) (i : ℕ) (e : RustEntry) → i < length es → e ≡ get_or es i e
      → methods_annotated m (map entry_seen (drop i es)) ≡ method_annotated m e.binds (member_of e.member.now)
      ++ methods_annotated m (map entry_seen (drop (i + 1) es))
  methods_next es i e less is = ap (λ (l : List RustEntry). methods_annotated m (map entry_seen l))
      (cons_at es i e less is)

-- ---- fields and methods bound by an entry

pub field_bound : (m : Module) (e : MemberEntry) (d : Field) → e.member ≡ field_member d → e.binds ≡ true
    → parameter_made m d ∷ [] ≡ own_field m e
field_bound m e d is b = sym (ap (λ (x : Test). if x then field_made m e.member else []) b ∙ ap (field_made m) is)

pub method_bound : (m : Module) (c : ℕ) (e : MemberEntry) (d : FuncDef) → e.member ≡ method_member d → e.binds ≡ true
    → method_made m c e.number d ∷ [] ≡ own_method m c e
method_bound m c e d is b = sym (ap (λ (x : Test). if x then methods_made m c e.number e.member else []) b
    ∙ ap (methods_made m c e.number) is)

nothing_either : {X : Type 0} (b : Test) (xs : List X) → (if b then xs else xs) ≡ xs
nothing_either true xs = refl
nothing_either false xs = refl

pub no_method : (m : Module) (c : ℕ) (e : MemberEntry) (d : Field) → e.member ≡ field_member d → [] ≡ own_method m c e
no_method m c e d is = sym (ap (λ (x : Member). if e.binds then methods_made m c e.number x else []) is
    ∙ nothing_either e.binds [])

pub unbound_method : (m : Module) (c : ℕ) (e : MemberEntry) → e.binds ≡ false → [] ≡ own_method m c e
unbound_method m c e b = sym (ap (λ (x : Test). if x then methods_made m c e.number e.member else []) b)

pub no_field : (m : Module) (e : MemberEntry) (d : FuncDef) → e.member ≡ method_member d → [] ≡ own_field m e
no_field m e d is = sym (ap (λ (x : Member). if e.binds then field_made m x else []) is
    ∙ nothing_either e.binds [])

pub unbound_field : (m : Module) (e : MemberEntry) → e.binds ≡ false → [] ≡ own_field m e
unbound_field m e b = sym (ap (λ (x : Test). if x then field_made m e.member else []) b)

-- ---- readers

pub lent_same : {Store Ty : Type 0} (r : TypeReader Store Ty) → IsLentSame r r
lent_same r = record { same_store = refl; same_found = refl }

pub lent_on : {Store Ty : Type 0} {a b c : TypeReader Store Ty} → IsLentSame a b → IsLentSame b c → IsLentSame a c
lent_on f g = record { same_store = g.same_store ∙ f.same_store; same_found = g.same_found ∙ f.same_found }
