-- One more entry of a dict, and one more argument by name: from one to the next.
use Rattle.std.proofs.Common.{◌≡◌, ◌<◌, ◌≤◌, ◌+◌, ℕ, List, [], ◌∷◌, ◌++◌, refl, sym, ap, ◌∙◌, map, length, drop, get_or}
use Rattle.std.proofs.Common.{append_assoc, Option}
use Rattle.std.specs.Prelude.{◌||◌, bytes_eq, if◌then◌else◌}
use Rattle.std.proofs.lemmas.List.{map_push, append-nil, drop_all}
use Rattle.pc_tree.specs.declared.tree.Entry.{Entry as RustEntry}
use Rattle.pc_tree.specs.declared.tree.KeywordArgument.{KeywordArgument as RustKeyword}
use Rattle.pc_tree.specs.Tree.{Keywords, no_keywords, more_keywords, expr_of, name_of}
use Rattle.pc_tree.specs.Depth.{place_of}
use Rattle.pc_tree.specs.Lists.{entries_of_list, keywords_of_list}
use Rattle.pc_tree.proofs.Stops.{cons_at}
use Rattle.pc_scope.specs.Resolution.{is_one_of}
use Rattle.pc_types.specs.Tree.{Tree}
use Rattle.pc_notes.specs.Notes.{Note}
use Rattle.pc_rules.specs.Calls.{Seat, nowhere}
use Rattle.pc_rules.specs.Lawful.{keyword_seat}
use Rattle.pc_rules.specs.Computed.Expressions.{flows_of}
use Rattle.pc_rules.specs.Computed.Findings.{brief, flows_at}
use Rattle.pc_rules.specs.declared.label.Label.{Label as RustLabel}
use Rattle.pc_rules.specs.Computed.Standing.{Standing, label_with, label_in, finds_in, keys_in, value_types_in, entries_find}
use Rattle.pc_rules.specs.Computed.Standing.{keywords_find}
use Rattle.pc_rules.proofs.TypingStates.{in_turn}
use Rattle.pc_expr.proofs.Forms.{keys_none, keys_more, values_none, values_more, entries_none, entries_more}
use Rattle.pc_expr.proofs.Forms.{keywords_none, keywords_more}
use Rattle.pc_expr.proofs.Typed.{type_is, two_found}

-- ---- entries

module _ (k : Standing) (x y : Seat) (es : List RustEntry) (i : ℕ) where
  abbrev pub keys_from : List Tree
  keys_from = keys_in k x y (entries_of_list (drop i es))

  abbrev pub values_from : List Tree
  values_from = value_types_in k x y (entries_of_list (drop i es))

  abbrev pub entries_from : List Note
  entries_from = entries_find k x y (entries_of_list (drop i es))

module _ (k : Standing) (x y : Seat) (es : List RustEntry) (i : ℕ) (e : RustEntry) (lt : i < length es)
    (is : e ≡ get_or es i e) where
  module _ {T : Type 0} (tree : T → Tree) (out : List T) (l : RustLabel T) (all : List Tree) where
    pub keys_step : label_with tree l ≡ brief (label_in k x.want (expr_of e.key)) → map tree out ++ keys_from k x y es i
        ≡ all → map tree (out ++ l.ty ∷ []) ++ keys_from k x y es (i + 1) ≡ all
    keys_step m h =
        ap (λ ts. ts ++ keys_from k x y es (i + 1)) (map_push tree out l.ty)
        ∙ append_assoc (map tree out) (tree l.ty ∷ []) (keys_from k x y es (i + 1))
        ∙ ap (λ t. map tree out ++ t ∷ keys_from k x y es (i + 1))
        (type_is tree l (label_in k x.want (expr_of e.key)) m)
        ∙ ap (λ ts. map tree out ++ ts) (sym (ap (λ rest. keys_in k x y (entries_of_list rest)) (cons_at es i e lt is)
        ∙ keys_more k x y (expr_of e.key) (expr_of e.value) (entries_of_list (drop (i + 1) es))))
        ∙ h

    pub values_step : label_with tree l ≡ brief (label_in k y.want (expr_of e.value))
        → map tree out ++ values_from k x y es i ≡ all → map tree (out ++ l.ty ∷ []) ++ values_from k x y es (i + 1)
        ≡ all
    values_step m h =
        ap (λ ts. ts ++ values_from k x y es (i + 1)) (map_push tree out l.ty)
        ∙ append_assoc (map tree out) (tree l.ty ∷ []) (values_from k x y es (i + 1))
        ∙ ap (λ t. map tree out ++ t ∷ values_from k x y es (i + 1))
        (type_is tree l (label_in k y.want (expr_of e.value)) m)
        ∙ ap (λ ts. map tree out ++ ts) (sym (ap (λ rest. value_types_in k x y (entries_of_list rest)) (cons_at es i e lt is)
        ∙ values_more k x y (expr_of e.key) (expr_of e.value) (entries_of_list (drop (i + 1) es))))
        ∙ h

  pub entries_step : (old b last all : List Note) →
      b ≡ old ++ (finds_in k x.want (expr_of e.key) ++ flows_at (place_of (expr_of e.key))
      (flows_of k.context.bases (label_in k x.want (expr_of e.key)) x.into)) →
      last ≡ b ++ (finds_in k y.want (expr_of e.value) ++ flows_at (place_of (expr_of e.value))
      (flows_of k.context.bases (label_in k y.want (expr_of e.value)) y.into)) →
      old ++ entries_from k x y es i ≡ all → last ++ entries_from k x y es (i + 1) ≡ all
  entries_step old b last all hb hl h =
      let p = finds_in k x.want (expr_of e.key) in
      let q = flows_at (place_of (expr_of e.key)) (flows_of k.context.bases (label_in k x.want (expr_of e.key))
      x.into) in
      let r = finds_in k y.want (expr_of e.value) in
      let s = flows_at (place_of (expr_of e.value)) (flows_of k.context.bases (label_in k y.want (expr_of e.value))
      y.into) in
      let rest = entries_from k x y es (i + 1) in
      two_found old (old ++ p) (last ++ rest) p (q ++ (r ++ (s ++ rest))) refl
      (two_found (old ++ p) b (last ++ rest) q (r ++ (s ++ rest)) (in_turn old p q b hb)
      (two_found b (b ++ r) (last ++ rest) r (s ++ rest) refl (two_found (b ++ r) last (last ++ rest) s rest
      (in_turn b r s last hl) refl)))
      ∙ ap (λ fs. old ++ fs) (sym (ap (λ l. entries_find k x y (entries_of_list l)) (cons_at es i e lt is)
      ∙ entries_more k x y (expr_of e.key) (expr_of e.value) (entries_of_list (drop (i + 1) es))))
      ∙ h

module _ (k : Standing) (x y : Seat) (es : List RustEntry) (i : ℕ) (le : length es ≤ i) where
  pub keys_end : (out all : List Tree) → out ++ keys_from k x y es i ≡ all → out ≡ all
  keys_end out all h = sym (append-nil out) ∙ ap (λ l. out ++ l)
      (sym (ap (λ l. keys_in k x y (entries_of_list l)) (drop_all i es le) ∙ keys_none k x y)) ∙ h

  pub values_end : (out all : List Tree) → out ++ values_from k x y es i ≡ all → out ≡ all
  values_end out all h = sym (append-nil out) ∙ ap (λ l. out ++ l)
      (sym (ap (λ l. value_types_in k x y (entries_of_list l)) (drop_all i es le) ∙ values_none k x y)) ∙ h

  pub entries_end : (out all : List Note) → out ++ entries_from k x y es i ≡ all → out ≡ all
  entries_end out all h = sym (append-nil out) ∙ ap (λ l. out ++ l)
      (sym (ap (λ l. entries_find k x y (entries_of_list l)) (drop_all i es le) ∙ entries_none k x y)) ∙ h

-- ---- arguments by name

-- the same names are among two lists
abbrev pub HaveSame : List (List ℕ) → List (List ℕ) → Type 0
HaveSame a b = (word : List ℕ) → is_one_of word a ≡ is_one_of word b

module _ (k : Standing) (seat : List ℕ → Seat) where
  -- the findings in arguments by name depend only on which names are among those before
  pub keywords_same : (a b : List (List ℕ)) → HaveSame a b → (es : Keywords) → keywords_find k seat a es ≡ keywords_find
      k seat b es
  keywords_same a b same no_keywords = keywords_none k seat a ∙ sym (keywords_none k seat b)
  keywords_same a b same (more_keywords n e es) =
      keywords_more k seat a n e es
      ∙ ap (λ t. let s : Seat = (if t then nowhere else seat n.text) in finds_in k s.want e
      ++ (flows_at (place_of e) (flows_of k.context.bases (label_in k s.want e) s.into) ++ keywords_find k seat
      (n.text ∷ a) es)) (same n.text)
      ∙ ap (λ fs. finds_in k (keyword_seat seat b n).want e ++ (flows_at (place_of e)
      (flows_of k.context.bases (label_in k (keyword_seat seat b n).want e) (keyword_seat seat b n).into) ++ fs))
      (keywords_same (n.text ∷ a) (n.text ∷ b) (further n.text) es)
      ∙ sym (keywords_more k seat b n e es)
    where
      further : (t : List ℕ) → HaveSame (t ∷ a) (t ∷ b)
      further t = λ word. ap (λ z. bytes_eq word t || z) (same word)

  module _ (es : List RustKeyword) (i : ℕ) (a : RustKeyword) (lt : i < length es) (is : a ≡ get_or es i a) where
    -- an argument further
    pub keywords_step : (before later : List (List ℕ)) → HaveSame later ((name_of a.name).text ∷ before)
        → (w : Option Tree) (ts : List Tree) → w ≡ (keyword_seat seat before (name_of a.name)).want
        → ts ≡ (keyword_seat seat before (name_of a.name)).into →
        (old last all : List Note) → last ≡ old ++ (finds_in k w (expr_of a.value)
        ++ flows_at (place_of (expr_of a.value)) (flows_of k.context.bases (label_in k w (expr_of a.value)) ts)) →
        old ++ keywords_find k seat before (keywords_of_list (drop i es)) ≡ all
        → last ++ keywords_find k seat later (keywords_of_list (drop (i + 1) es)) ≡ all
    keywords_step before later same w ts wants into old last all l h =
        let e = expr_of a.value in
        let s = keyword_seat seat before (name_of a.name) in
        let rest = keywords_find k seat ((name_of a.name).text ∷ before) (keywords_of_list (drop (i + 1) es)) in
        let new = old ++ finds_in k w e in
        ap (λ fs. last ++ fs) (keywords_same later ((name_of a.name).text ∷ before) same
        (keywords_of_list (drop (i + 1) es)))
        ∙ two_found old new (last ++ rest) (finds_in k s.want e) (flows_at (place_of e)
        (flows_of k.context.bases (label_in k s.want e) s.into) ++ rest)
        (ap (λ x. old ++ finds_in k x e) wants)
        (two_found new last (last ++ rest) (flows_at (place_of e)
        (flows_of k.context.bases (label_in k s.want e) s.into)) rest
        (in_turn old (finds_in k w e) (flows_at (place_of e) (flows_of k.context.bases (label_in k w e) ts)) last l
        ∙ ap (λ x. new ++ flows_at (place_of e) (flows_of k.context.bases (label_in k x e) ts)) wants
        ∙ ap (λ z. new ++ flows_at (place_of e) (flows_of k.context.bases (label_in k s.want e) z)) into) refl)
        ∙ ap (λ fs. old ++ fs) (sym (ap (λ x. keywords_find k seat before (keywords_of_list x)) (cons_at es i a lt is)
        ∙ keywords_more k seat before (name_of a.name) e (keywords_of_list (drop (i + 1) es))))
        ∙ h

  pub keywords_end : (es : List RustKeyword) (i : ℕ) → length es ≤ i → (before : List (List ℕ)) (out all : List Note)
      → out ++ keywords_find k seat before (keywords_of_list (drop i es)) ≡ all → out ≡ all
  keywords_end es i le before out all h = sym (append-nil out)
      ∙ ap (λ l. out ++ l) (sym (ap (λ l. keywords_find k seat before (keywords_of_list l)) (drop_all i es le)
      ∙ keywords_none k seat before)) ∙ h
