-- The walk over the members of a class: the names before a member may be held in any order.
use Rattle.std.proofs.Common.{◌≡◌, ◌<◌, ◌+◌, ℕ, List, [], ◌∷◌, ◌++◌, map, drop, length, get_or, refl, sym, ap, ◌∙◌}
use Rattle.std.proofs.Common.{append_assoc}
use Rattle.std.specs.Prelude.{Bool, true, false, ◌||◌, ◌&&◌, not, if◌then◌else◌, codes, bytes_eq}
use Rattle.std.proofs.lemmas.Slice.Eq.{bytes_eq-Decides}
use Rattle.pc_tree.specs.declared.tree.Member.{Member as RustMember}
use Rattle.pc_tree.specs.Tree.{Member, field_member, method_member, member_of}
use Rattle.pc_tree.specs.Stopping.{name_of_member}
use Rattle.pc_tree.proofs.Stops.{cons_at}
use Rattle.pc_scope.specs.Reserved.{is_builtin_name}
use Rattle.pc_scope.specs.Resolution.{is_one_of}
use Rattle.pc_class.specs.declared.entries.ClassMember.{ClassMember as RustEntry}
use Rattle.pc_shared_maps.specs.NameMaps.{with_text}
use Rattle.pc_class.specs.Entries.{Inherited, MemberEntry, member_binds, member_clashes, entry_of_member, number_after}
use Rattle.pc_class.specs.Entries.{entries_of_members, entry_seen}

-- the same names, in any order
abbrev pub SameNames : List (List ℕ) → List (List ℕ) → Type 0
SameNames b c = (t : List ℕ) → is_one_of t b ≡ is_one_of t c

pub same_binds : (h : Inherited) (b c : List (List ℕ)) → SameNames b c → (x : Member)
    → member_binds h b x ≡ member_binds h c x
same_binds h b c s (field_member f) = ap (λ a. not (is_builtin_name f.name.text || bytes_eq f.name.text (codes "mro"))
    && (not a && not (h.has_field f.name.text || h.has_method f.name.text))) (s f.name.text)
same_binds h b c s (method_member f) = ap (λ a. not (is_builtin_name f.name.text)
    && (not a && not (h.has_field f.name.text))) (s f.name.text)

same_clashes : (h : Inherited) (b c : List (List ℕ)) → SameNames b c → (x : Member)
    → member_clashes h b x ≡ member_clashes h c x
same_clashes h b c s (field_member f) = ap (λ a. a || (h.has_field f.name.text || h.has_method f.name.text))
    (s f.name.text)
same_clashes h b c s (method_member f) = ap (λ a. a || h.has_field f.name.text) (s f.name.text)

pub same_entry : (h : Inherited) (b c : List (List ℕ)) → SameNames b c → (n : ℕ) (x : Member)
    → entry_of_member h b n x ≡ entry_of_member h c n x
same_entry h b c s n x = ap (λ y. let e : MemberEntry = record {
  member = x;
  number = n;
  binds = y;
  clashes =
      member_clashes h b x;
} in e) (same_binds h b c s x) ∙ ap (λ y. let e : MemberEntry =
    record { member = x; number = n; binds = member_binds h c x; clashes = y } in e) (same_clashes h b c s x)

pub same_entries : (h : Inherited) (b c : List (List ℕ)) → SameNames b c → (n : ℕ) (xs : List Member)
    → entries_of_members h b n xs ≡ entries_of_members h c n xs
same_entries h b c s n [] = refl
same_entries h b c s n (x ∷ xs) =
    let t = (name_of_member x).text in
    ap (λ (e : MemberEntry). e ∷ entries_of_members h (t ∷ b) (number_after n x) xs) (same_entry h b c s n x)
    ∙ ap (λ (es : List MemberEntry). entry_of_member h c n x ∷ es) (same_entries h (t ∷ b) (t ∷ c)
    (λ u. ap (λ a. bytes_eq u t || a) (s u)) (number_after n x) xs)

-- one more name, put in where it is new
pub among_with : (u : List ℕ) (names : List (List ℕ)) → SameNames (with_text names u) (u ∷ names)
among_with u names t = go (is_one_of u names) refl
  where
    behind : (ns : List (List ℕ)) → is_one_of t (ns ++ u ∷ []) ≡ (bytes_eq t u || is_one_of t ns)
    behind [] = refl
    behind (n ∷ ns) = ap (λ b. bytes_eq t n || b) (behind ns) ∙ turn (bytes_eq t n) (bytes_eq t u) (is_one_of t ns)
      where
        turn : (a b c : Bool) → (a || (b || c)) ≡ (b || (a || c))
        turn true true c = refl
        turn true false c = refl
        turn false b c = refl

    present : is_one_of u names ≡ true → (b : Bool) → bytes_eq t u ≡ b → is_one_of t names ≡ (b || is_one_of t names)
    present e true f = ap (λ x. is_one_of x names) ((bytes_eq-Decides t u).0 f) ∙ e
    present e false f = refl

    go : (b : Bool) → is_one_of u names ≡ b → is_one_of t (if b then names else names ++ u ∷ [])
        ≡ (bytes_eq t u || is_one_of t names)
    go true e = present e (bytes_eq t u) refl
    go false e = behind names

-- one more member
pub entry_more : (h : Inherited) (total : List MemberEntry) (done new : List RustEntry) (e : RustEntry)
    (before after : List (List ℕ)) (n n' i : ℕ) (ms : List RustMember) (x : RustMember) → i < length ms
    → x ≡ get_or ms i x
    → map entry_seen done ++ entries_of_members h before n (map member_of (drop i ms)) ≡ total → new ≡ done ++ e ∷ []
    → entry_seen e ≡ entry_of_member h before n (member_of x)
    → after ≡ with_text before (name_of_member (member_of x)).text → n' ≡ number_after n (member_of x)
    → map entry_seen new ++ entries_of_members h after n' (map member_of (drop (i + 1) ms)) ≡ total
entry_more h total done new e before after n n' i ms x less is inv pushed seen names number =
    let t = (name_of_member (member_of x)).text in
    let rest = map member_of (drop (i + 1) ms) in
    ap (λ (es : List RustEntry). map entry_seen es ++ entries_of_members h after n' rest) pushed
    ∙ ap (λ (es : List MemberEntry). es ++ entries_of_members h after n' rest) (seen_end done)
    ∙ append_assoc (map entry_seen done) (entry_seen e ∷ []) (entries_of_members h after n' rest)
    ∙ ap (λ (y : MemberEntry). map entry_seen done ++ (y ∷ entries_of_members h after n' rest)) seen
    ∙ ap (λ k. map entry_seen done ++ (entry_of_member h before n (member_of x) ∷ entries_of_members h after k rest)) number
    ∙ ap (λ (b : List (List ℕ)). map entry_seen done ++ (entry_of_member h before n (member_of x) ∷ entries_of_members h b
    (number_after n (member_of x)) rest)) names
    ∙ ap (λ (es : List MemberEntry). map entry_seen done ++ (entry_of_member h before n (member_of x) ∷ es))
    (same_entries h (with_text before t) (t ∷ before) (among_with t before) (number_after n (member_of x)) rest)
    ∙ ap (λ (ys : List RustMember). map entry_seen done ++ entries_of_members h before n (map member_of ys))
    (sym (cons_at ms i x less is))
    ∙ inv
  where
    seen_end : (ds : List RustEntry) → map entry_seen (ds ++ e ∷ []) ≡ map entry_seen ds ++ (entry_seen e ∷ [])
    seen_end [] = refl
    seen_end (d ∷ ds) = ap (λ (l : List MemberEntry). entry_seen d ∷ l) (seen_end ds)
